-- The elimination of the first columns, each with its pivot in its own row.
use Rattle.std.proofs.Common.{◌≡◌, ◌≢◌, ℕ, zero, suc, ◌-◌, ◌<◌, ◌≤◌, Bool, true, false, cond, ℤ, pos, negsuc, unsigned_abs, [], ◌∷◌, Some, refl, sym, ◌∙◌, ap, subst, arith, ◌⊎◌, inl, inr, ⊎_elim}
use Rattle.std.proofs.lemmas.Bool.{cases_eq, eqb-true}
use Rattle.mpc_exact.specs.Rational.{ℚ, int, ◌+ℚ◌, ◌*ℚ◌, ◌-ℚ◌, ◌/ℚ◌, neg_ℚ, inv_ℚ}
use Rattle.mpc_exact.proofs.Rational.{*ℚ_inv, numer_zero}
use Rattle.mpc_exact.proofs.RationalRing.{reads, by_ring}
use Rattle.mpc_space.specs.Total.{total, unit}
use Rattle.mpc_space.proofs.Total.{total-same, total-add, total-scale, unit-same, unit-other}
use Rattle.mpc_linear.specs.Elimination.{Table, is_zero, first_nonzero, reduced, after_column, eliminated, pivot_row}
use Rattle.mpc_bordered.specs.Fronts.{front, HasFront}
use Rattle.mpc_bordered.proofs.Agree.{Agree, reduced-pivot, reduced-other, exchanged-itself, reduced_agree}

pub front-zero : (t : Table) → front t zero ≡ t
unfolding front
front-zero t = refl

pub front-suc : (t : Table) (c : ℕ) → front t (suc c) ≡ reduced c (front t c)
unfolding front
front-suc t c = refl

-- ---- the stated elimination begins with it
size_zero : (z : ℤ) → unsigned_abs z ≡ 0 → z ≡ pos 0
size_zero (pos n) e = ap pos e
size_zero (negsuc n) e = cc

first_here : (t : Table) (c count : ℕ) → t c c ≢ int (pos 0) → first_nonzero t c c (suc count) ≡ Some c
unfolding first_nonzero
first_here t c count some = by (is_zero (t c c)) refl
  where
    by : (b : Bool) → is_zero (t c c) ≡ b → cond b (first_nonzero t c (suc c) count) (Some c) ≡ Some c
    by true e = absurd (some (numer_zero (t c c) (size_zero (t c c).numer (eqb-true (unsigned_abs (t c c).numer) 0 e))))
    by false e = refl

pub pivot_here : (n c : ℕ) (t : Table) → c < n → t c c ≢ int (pos 0) → pivot_row n t c ≡ Some c
unfolding pivot_row
pivot_here n c t h some = let e : n - c ≡ suc (n - suc c) = omega arith in ap (first_nonzero t c c) e ∙ first_here t c (n - suc c) some

pub eliminated_front : (n u : ℕ) (t : Table) → u ≤ n → HasFront t u → eliminated n t u ≡ front t u
unfolding eliminated front after_column
eliminated_front n zero t l h = refl
eliminated_front n (suc c) t l h =
    let e : eliminated n t c ≡ front t c = eliminated_front n c t (omega arith) (λ k m. h k (omega arith)) in
    ap (λ s. after_column c s (pivot_row n s c)) e
    ∙ ap (after_column c (front t c)) (pivot_here n c (front t c) (omega arith) (h c (omega arith)))
    ∙ ap (reduced c) (exchanged-itself c (front t c))

pub pivot_of : (n u : ℕ) (t : Table) → u ≤ n → HasFront t u → (c : ℕ) → c < u → pivot_row n (eliminated n t c) c ≡ Some c
pivot_of n u t l h c m =
    ap (λ s. pivot_row n s c) (eliminated_front n c t (omega arith) (λ k q. h k (omega arith))) ∙ pivot_here n c (front t c) (omega arith) (h c m)

-- ---- the eliminated columns are those of the unit matrix
nought_quotient : (a x : ℚ) → x ≡ int (pos 0) → x *ℚ a ≡ int (pos 0)
nought_quotient a x e = ap (λ u. u *ℚ a) e ∙ by_ring (a ∷ []) (search reads depth 30) (search reads depth 30) tt

reduced-units : (t : Table) (c : ℕ) → t c c ≢ int (pos 0) → ((i k : ℕ) → k < c → t i k ≡ unit i k) → (i k : ℕ) → k < suc c → reduced c t i k ≡ unit i k
reduced-units t c some h i k hk = by (cases_eq i c) (cases_eq k c)
  where
    by : (i ≡ c) ⊎ (i ≡ c → ⊥) → (k ≡ c) ⊎ (k ≡ c → ⊥) → reduced c t i k ≡ unit i k
    by (inl e) (inl d) = reduced-pivot c t i k e ∙ ap (λ j. t c j /ℚ t c c) d ∙ *ℚ_inv (t c c) some ∙ sym (unit-same i k (e ∙ sym d))
    by (inl e) (inr d) =
        reduced-pivot c t i k e ∙ nought_quotient (inv_ℚ (t c c)) (t c k) (h c k (omega arith) ∙ unit-other c k (λ q. d (sym q))) ∙ sym (unit-other i k (λ q. d (sym q ∙ e)))
    by (inr e) (inl d) =
        reduced-other c t i k e ∙ (λ m. t i (d m) -ℚ t i c *ℚ (t c (d m) /ℚ t c c)) ∙ ap (λ u. t i c -ℚ t i c *ℚ u) (*ℚ_inv (t c c) some)
        ∙ by_ring (t i c ∷ []) (search reads depth 30) (search reads depth 30) tt ∙ sym (unit-other i k (λ q. e (q ∙ d)))
    by (inr e) (inr d) =
        reduced-other c t i k e ∙ ap (λ u. t i k -ℚ t i c *ℚ u) (nought_quotient (inv_ℚ (t c c)) (t c k) (h c k (omega arith) ∙ unit-other c k (λ q. d (sym q))))
        ∙ by_ring (t i k ∷ t i c ∷ []) (search reads depth 30) (search reads depth 30) tt ∙ h i k (omega arith)

pub front-units : (t : Table) (u : ℕ) → HasFront t u → (i k : ℕ) → k < u → front t u i k ≡ unit i k
unfolding front
front-units t zero h i k l = absurd (omega arith)
front-units t (suc c) h i k l = reduced-units (front t c) c (h c (omega arith)) (front-units t c (λ k m. h k (omega arith))) i k l

-- ---- a table whose first columns are those of the unit matrix stays as it is
zero_not_one : int (pos 1) ≡ int (pos 0) → ⊥
zero_not_one e = Rattle.mpc_exact.proofs.OrderTheorems.one-not_zero e

pub by_one : (x y : ℚ) → y ≡ int (pos 1) → x *ℚ inv_ℚ y ≡ x
by_one x y e =
    by_ring (x ∷ inv_ℚ y ∷ []) (search reads depth 30) (search reads depth 30) tt
    ∙ ap (λ z. x *ℚ (z *ℚ inv_ℚ y)) (sym e) ∙ ap (λ z. x *ℚ z) (*ℚ_inv y (λ q. zero_not_one (sym e ∙ q)))
    ∙ by_ring (x ∷ []) (search reads depth 30) (search reads depth 30) tt

abbrev pub StartsWithUnits : ℕ → ℕ → Table → Type 0
StartsWithUnits n u t = (i k : ℕ) → i < n → k < u → t i k ≡ unit i k

pub units_stay : (n w u c : ℕ) (s : Table) → StartsWithUnits n u s → c < u → c < n → Agree n w (reduced c s) s
units_stay n w u c s h hu hc i j hi hj = by (cases_eq i c)
  where
    by : (i ≡ c) ⊎ (i ≡ c → ⊥) → reduced c s i j ≡ s i j
    by (inl e) = reduced-pivot c s i j e ∙ by_one (s c j) (s c c) (h c c hc hu ∙ unit-same c c refl) ∙ ap (λ k. s k j) (sym e)
    by (inr e) =
        reduced-other c s i j e ∙ ap (λ z. s i j -ℚ z *ℚ (s c j /ℚ s c c)) (h i c hi hu ∙ unit-other i c e)
        ∙ by_ring (s i j ∷ s c j ∷ inv_ℚ (s c c) ∷ []) (search reads depth 30) (search reads depth 30) tt

module _ (n w u : ℕ) (s t : Table) (within : u ≤ n) (square : n ≤ w) (h : StartsWithUnits n u s) (same : Agree n w t s) where
  pub front_stays : (c : ℕ) → c ≤ u → Agree n w (front t c) s
  unfolding front
  front_stays zero l = same
  front_stays (suc c) l = λ i j hi hj.
      reduced_agree n w c (front t c) s (omega arith) (omega arith) (front_stays c (omega arith)) i j hi hj
      ∙ units_stay n w u c s h (omega arith) (omega arith) i j hi hj

  pub units_front : HasFront t u
  units_front c l e =
      zero_not_one (sym (front_stays c (omega arith) c c (omega arith) (omega arith) ∙ h c c (omega arith) l ∙ unit-same c c refl) ∙ e)

-- ---- the vectors that the first rows of a table send to 0
abbrev pub row_dot : ℕ → Table → (ℕ → ℚ) → ℕ → ℚ
row_dot width t z i = total width (λ k. t i k *ℚ z k)

abbrev pub InKernel : ℕ → ℕ → Table → (ℕ → ℚ) → Type 0
InKernel n width t z = (i : ℕ) → i < n → row_dot width t z i ≡ int (pos 0)

pub kernel_agree : (n w width : ℕ) (t s : Table) (z : ℕ → ℚ) → width ≤ w → Agree n w t s → InKernel n width t z → InKernel n width s z
kernel_agree n w width t s z l h k i hi = total-same width (λ j. s i j *ℚ z j) (λ j. t i j *ℚ z j) (λ j m. ap (λ x. x *ℚ z j) (sym (h i j hi (omega arith)))) ∙ k i hi

module _ (n width c : ℕ) (t : Table) (z : ℕ → ℚ) where
  abbrev q : ℚ
  q = t c c

  pub pivot_dot : row_dot width (reduced c t) z c ≡ inv_ℚ q *ℚ row_dot width t z c
  pivot_dot =
      total-same width (λ k. reduced c t c k *ℚ z k) (λ k. inv_ℚ q *ℚ (t c k *ℚ z k))
      (λ k h. ap (λ u. u *ℚ z k) (reduced-pivot c t c k refl) ∙ by_ring (t c k ∷ inv_ℚ q ∷ z k ∷ []) (search reads depth 30) (search reads depth 30) tt)
      ∙ total-scale width (inv_ℚ q) (λ k. t c k *ℚ z k)

  pub other_dot : (i : ℕ) → i ≢ c → row_dot width (reduced c t) z i ≡ row_dot width t z i +ℚ neg_ℚ (t i c *ℚ inv_ℚ q) *ℚ row_dot width t z c
  other_dot i e =
      total-same width (λ k. reduced c t i k *ℚ z k) (λ k. t i k *ℚ z k +ℚ neg_ℚ (t i c *ℚ inv_ℚ q) *ℚ (t c k *ℚ z k))
      (λ k h. ap (λ u. u *ℚ z k) (reduced-other c t i k e) ∙ by_ring (t i k ∷ t i c ∷ t c k ∷ inv_ℚ q ∷ z k ∷ []) (search reads depth 30) (search reads depth 30) tt)
      ∙ total-add width (λ k. t i k *ℚ z k) (λ k. neg_ℚ (t i c *ℚ inv_ℚ q) *ℚ (t c k *ℚ z k))
      ∙ ap (λ u. row_dot width t z i +ℚ u) (total-scale width (neg_ℚ (t i c *ℚ inv_ℚ q)) (λ k. t c k *ℚ z k))

  reduced-kernel : c < n → InKernel n width t z → InKernel n width (reduced c t) z
  reduced-kernel hc h i hi =
      ⊎_elim
      (λ e. subst (λ i. row_dot width (reduced c t) z i ≡ int (pos 0)) (sym e) (pivot_dot ∙ ap (λ u. inv_ℚ q *ℚ u) (h c hc) ∙ by_ring (inv_ℚ q ∷ []) (search reads depth 30) (search reads depth 30) tt))
      (λ e. other_dot i e ∙ (λ m. h i hi m +ℚ neg_ℚ (t i c *ℚ inv_ℚ q) *ℚ h c hc m) ∙ by_ring (t i c ∷ inv_ℚ q ∷ []) (search reads depth 30) (search reads depth 30) tt)
      (cases_eq i c)

  kernel-reduced : c < n → q ≢ int (pos 0) → InKernel n width (reduced c t) z → InKernel n width t z
  kernel-reduced hc some h i hi =
      let d = row_dot width t z c in
      let at_pivot : d ≡ int (pos 0) =
      by_ring (d ∷ []) (search reads depth 30) (search reads depth 30) tt
      ∙ ap (λ u. u *ℚ d) (sym (*ℚ_inv q some))
      ∙ by_ring (q ∷ inv_ℚ q ∷ d ∷ []) (search reads depth 30) (search reads depth 30) tt
      ∙ ap (λ u. q *ℚ u) (sym pivot_dot ∙ h c hc)
      ∙ by_ring (q ∷ []) (search reads depth 30) (search reads depth 30) tt
      in
      ⊎_elim
      (λ e. ap (row_dot width t z) e ∙ at_pivot)
      (λ e.
      by_ring (row_dot width t z i ∷ t i c ∷ inv_ℚ q ∷ []) (search reads depth 30) (search reads depth 30) tt
      ∙ ap (λ u. row_dot width t z i +ℚ neg_ℚ (t i c *ℚ inv_ℚ q) *ℚ u) (sym at_pivot)
      ∙ sym (other_dot i e) ∙ h i hi)
      (cases_eq i c)

pub front-kernel : (n width u : ℕ) (t : Table) (z : ℕ → ℚ) → u ≤ n → InKernel n width t z → InKernel n width (front t u) z
unfolding front
front-kernel n width zero t z l k = k
front-kernel n width (suc c) t z l k = reduced-kernel n width c (front t c) z (omega arith) (front-kernel n width c t z (omega arith) k)

pub kernel-front : (n width u : ℕ) (t : Table) (z : ℕ → ℚ) → u ≤ n → HasFront t u → InKernel n width (front t u) z → InKernel n width t z
unfolding front
kernel-front n width zero t z l h k = k
kernel-front n width (suc c) t z l h k = kernel-front n width c t z (omega arith) (λ k m. h k (omega arith)) (kernel-reduced n width c (front t c) z (omega arith) (h c (omega arith)) k)
