-- What a step of the elimination keeps: the vectors that the table sends to 0.
use Rattle.std.proofs.Common.{◌≡◌, ◌≢◌, ℕ, ◌<◌, cond, eqb, pos, [], ◌∷◌, refl, sym, ◌∙◌, ap, subst, ◌⊎◌, inl, inr, ⊎_elim, eq-eqb, ne_eqb}
use Rattle.std.proofs.lemmas.Bool.{cond-true, cond-false, cases_eq}
use Rattle.mpc_exact.specs.Rational.{ℚ, int, ◌+ℚ◌, ◌*ℚ◌, ◌-ℚ◌, ◌/ℚ◌, neg_ℚ, inv_ℚ}
use Rattle.mpc_exact.proofs.Rational.{*ℚ_inv}
use Rattle.mpc_exact.proofs.RationalRing.{reads, by_ring}
use Rattle.mpc_space.specs.Total.{total}
use Rattle.mpc_space.proofs.Total.{total-same, total-add, total-scale}
use Rattle.mpc_linear.specs.Elimination.{Table, exchanged_row, exchanged, reduced}

-- ---- the exchange
pub row-first : (c p : ℕ) → exchanged_row c p c ≡ p
unfolding exchanged_row
row-first c p = cond-true (eqb c c) p (cond (eqb c p) c c) (eq-eqb c c refl)

pub row-second : (c p : ℕ) → exchanged_row c p p ≡ c
unfolding exchanged_row
row-second c p = by (cases_eq p c)
  where
    by : (p ≡ c) ⊎ (p ≡ c → ⊥) → cond (eqb p c) p (cond (eqb p p) c p) ≡ c
    by (inl e) = cond-true (eqb p c) p (cond (eqb p p) c p) (eq-eqb p c e) ∙ e
    by (inr e) = cond-false (eqb p c) p (cond (eqb p p) c p) (ne_eqb p c e) ∙ cond-true (eqb p p) c p (eq-eqb p p refl)

pub row-other : (c p i : ℕ) → i ≢ c → i ≢ p → exchanged_row c p i ≡ i
unfolding exchanged_row
row-other c p i h k = cond-false (eqb i c) p (cond (eqb i p) c i) (ne_eqb i c h) ∙ cond-false (eqb i p) c i (ne_eqb i p k)

-- what holds at c, at p and at any other row holds at each
by_rows : (c p : ℕ) (P : ℕ → Type 0) (i : ℕ) → (i ≡ c → P i) → (i ≡ p → P i) → (i ≢ c → i ≢ p → P i) → P i
by_rows c p P i first second other = ⊎_elim first (λ h. ⊎_elim second (λ k. other h k) (cases_eq i p)) (cases_eq i c)

pub row-back : (c p i : ℕ) → exchanged_row c p (exchanged_row c p i) ≡ i
row-back c p i =
    by_rows c p (λ i. exchanged_row c p (exchanged_row c p i) ≡ i) i
    (λ e. subst (λ i. exchanged_row c p (exchanged_row c p i) ≡ i) (sym e) (ap (exchanged_row c p) (row-first c p) ∙ row-second c p))
    (λ e. subst (λ i. exchanged_row c p (exchanged_row c p i) ≡ i) (sym e) (ap (exchanged_row c p) (row-second c p) ∙ row-first c p))
    (λ h k. ap (exchanged_row c p) (row-other c p i h k) ∙ row-other c p i h k)

pub row-below : (n c p i : ℕ) → c < n → p < n → i < n → exchanged_row c p i < n
row-below n c p i hc hp hi =
    by_rows c p (λ i. exchanged_row c p i < n) i
    (λ e. subst (λ i. exchanged_row c p i < n) (sym e) (subst (λ k. k < n) (sym (row-first c p)) hp))
    (λ e. subst (λ i. exchanged_row c p i < n) (sym e) (subst (λ k. k < n) (sym (row-second c p)) hc))
    (λ h k. subst (λ k. k < n) (sym (row-other c p i h k)) hi)

pub exchanged-at : (c p : ℕ) (t : Table) (i j : ℕ) → exchanged c p t i j ≡ t (exchanged_row c p i) j
unfolding exchanged
exchanged-at c p t i j = refl

-- ---- the reduction
pub reduced-pivot : (c : ℕ) (t : Table) (i j : ℕ) → i ≡ c → reduced c t i j ≡ t c j /ℚ t c c
unfolding reduced
reduced-pivot c t i j e = cond-true (eqb i c) (t c j /ℚ t c c) (t i j -ℚ t i c *ℚ (t c j /ℚ t c c)) (eq-eqb i c e)

pub reduced-other : (c : ℕ) (t : Table) (i j : ℕ) → i ≢ c → reduced c t i j ≡ t i j -ℚ t i c *ℚ (t c j /ℚ t c c)
unfolding reduced
reduced-other c t i j e = cond-false (eqb i c) (t c j /ℚ t c c) (t i j -ℚ t i c *ℚ (t c j /ℚ t c c)) (ne_eqb i c e)

-- ---- the vectors that the first rows of a table send to 0
abbrev pub row_dot : ℕ → Table → (ℕ → ℚ) → ℕ → ℚ
row_dot width t z i = total width (λ k. t i k *ℚ z k)

abbrev pub InKernel : ℕ → ℕ → Table → (ℕ → ℚ) → Type 0
InKernel n width t z = (i : ℕ) → i < n → row_dot width t z i ≡ int (pos 0)

module _ (n width : ℕ) (z : ℕ → ℚ) where
  exchanged-row_dot : (c p : ℕ) (t : Table) (i : ℕ) → row_dot width (exchanged c p t) z i ≡ row_dot width t z (exchanged_row c p i)
  exchanged-row_dot c p t i = total-same width (λ k. exchanged c p t i k *ℚ z k) (λ k. t (exchanged_row c p i) k *ℚ z k) (λ k h. ap (λ u. u *ℚ z k) (exchanged-at c p t i k))

  pub exchanged-kernel : (c p : ℕ) (t : Table) → c < n → p < n → InKernel n width t z → InKernel n width (exchanged c p t) z
  exchanged-kernel c p t hc hp h i hi = exchanged-row_dot c p t i ∙ h (exchanged_row c p i) (row-below n c p i hc hp hi)

  pub kernel-exchanged : (c p : ℕ) (t : Table) → c < n → p < n → InKernel n width (exchanged c p t) z → InKernel n width t z
  kernel-exchanged c p t hc hp h i hi =
      ap (row_dot width t z) (sym (row-back c p i)) ∙ sym (exchanged-row_dot c p t (exchanged_row c p i)) ∙ h (exchanged_row c p i) (row-below n c p i hc hp hi)

  module _ (c : ℕ) (t : Table) where
    abbrev q : ℚ
    q = t c c

    pub pivot_dot : row_dot width (reduced c t) z c ≡ inv_ℚ q *ℚ row_dot width t z c
    pivot_dot =
        total-same width (λ k. reduced c t c k *ℚ z k) (λ k. inv_ℚ q *ℚ (t c k *ℚ z k))
        (λ k h. ap (λ u. u *ℚ z k) (reduced-pivot c t c k refl) ∙ by_ring (t c k ∷ inv_ℚ q ∷ z k ∷ []) (search reads depth 30) (search reads depth 30) tt)
        ∙ total-scale width (inv_ℚ q) (λ k. t c k *ℚ z k)

    pub other_dot : (i : ℕ) → i ≢ c → row_dot width (reduced c t) z i ≡ row_dot width t z i +ℚ neg_ℚ (t i c *ℚ inv_ℚ q) *ℚ row_dot width t z c
    other_dot i e =
        total-same width (λ k. reduced c t i k *ℚ z k) (λ k. t i k *ℚ z k +ℚ neg_ℚ (t i c *ℚ inv_ℚ q) *ℚ (t c k *ℚ z k))
        (λ k h. ap (λ u. u *ℚ z k) (reduced-other c t i k e) ∙ by_ring (t i k ∷ t i c ∷ t c k ∷ inv_ℚ q ∷ z k ∷ []) (search reads depth 30) (search reads depth 30) tt)
        ∙ total-add width (λ k. t i k *ℚ z k) (λ k. neg_ℚ (t i c *ℚ inv_ℚ q) *ℚ (t c k *ℚ z k))
        ∙ ap (λ u. row_dot width t z i +ℚ u) (total-scale width (neg_ℚ (t i c *ℚ inv_ℚ q)) (λ k. t c k *ℚ z k))

    pub reduced-kernel : c < n → InKernel n width t z → InKernel n width (reduced c t) z
    reduced-kernel hc h i hi =
        ⊎_elim
        (λ e. subst (λ i. row_dot width (reduced c t) z i ≡ int (pos 0)) (sym e) (pivot_dot ∙ ap (λ u. inv_ℚ q *ℚ u) (h c hc) ∙ by_ring (inv_ℚ q ∷ []) (search reads depth 30) (search reads depth 30) tt))
        (λ e. other_dot i e ∙ (λ m. h i hi m +ℚ neg_ℚ (t i c *ℚ inv_ℚ q) *ℚ h c hc m) ∙ by_ring (t i c ∷ inv_ℚ q ∷ []) (search reads depth 30) (search reads depth 30) tt)
        (cases_eq i c)

    pub kernel-reduced : c < n → q ≢ int (pos 0) → InKernel n width (reduced c t) z → InKernel n width t z
    kernel-reduced hc some h i hi =
        let d = row_dot width t z c in
        let at_pivot : d ≡ int (pos 0) =
        by_ring (d ∷ []) (search reads depth 30) (search reads depth 30) tt
        ∙ ap (λ u. u *ℚ d) (sym (*ℚ_inv q some))
        ∙ by_ring (q ∷ inv_ℚ q ∷ d ∷ []) (search reads depth 30) (search reads depth 30) tt
        ∙ ap (λ u. q *ℚ u) (sym pivot_dot ∙ h c hc)
        ∙ by_ring (q ∷ []) (search reads depth 30) (search reads depth 30) tt
        in
        ⊎_elim
        (λ e. ap (row_dot width t z) e ∙ at_pivot)
        (λ e.
        by_ring (row_dot width t z i ∷ t i c ∷ inv_ℚ q ∷ []) (search reads depth 30) (search reads depth 30) tt
        ∙ ap (λ u. row_dot width t z i +ℚ neg_ℚ (t i c *ℚ inv_ℚ q) *ℚ u) (sym at_pivot)
        ∙ sym (other_dot i e) ∙ h i hi)
        (cases_eq i c)
