-- A row that changes in the columns before and behind the pivot's, and then there, or stays.
use Rattle.std.proofs.Common.{◌≡◌, ℕ, ◌+◌, ◌*◌, ◌<◌, ◌≤◌, List, length, set, ℤ, pos, ◌+ℤ◌, ◌*ℤ◌, neg_ℤ, unsigned_abs, negsuc, sym, ◌∙◌, ap, subst, arith, [], ◌∷◌, ◌⊎◌, inl, inr}
use Rattle.std.proofs.lemmas.Bool.{cases_eq, cases_lt}
use Rattle.mpc_exact.proofs.IntRing.{int_reads, by_ring_ℤ}
use Rattle.mpc_whole.specs.Changes.{IsChangedBy}
use Rattle.mpc_whole.specs.Whole.{IsChanged}
use Rattle.mpc_whole.specs.declared.whole_pivot.Change.{Change}
use Rattle.mpc_runs.specs.WholeNumbers.{turned}
use Rattle.mpc_scaled.specs.Scaled.{whole_at, whole_cell}
use Rattle.mpc_runs.proofs.WholeLists.{set_same, set_other}

-- one column more
pub part_done : (g : Change) (from first c : ℕ) (old now x : List ℤ) (z : ℤ) → from + c < length now → ((k : ℕ) → first ≤ k → k < c → IsChangedBy g (whole_at old (from + k)) (whole_at x k) (whole_at now (from + k))) → IsChangedBy g (whole_at old (from + c)) (whole_at x c) z →
    (k : ℕ) → first ≤ k → k < c + 1 → IsChangedBy g (whole_at old (from + k)) (whole_at x k) (whole_at (set now (from + c) z) (from + k))
part_done g from first c old now x z b h n k f l = by (cases_eq k c)
  where
    by : (k ≡ c) ⊎ (k ≡ c → ⊥) → IsChangedBy g (whole_at old (from + k)) (whole_at x k) (whole_at (set now (from + c) z) (from + k))
    by (inl q) = subst (λ m. IsChangedBy g (whole_at old (from + m)) (whole_at x m) (whole_at (set now (from + c) z) (from + m))) (sym q) (ap (λ u. u *ℤ pos g.by.den) (set_same now (from + c) z b) ∙ n)
    by (inr q) = ap (λ u. u *ℤ pos g.by.den) (set_other now (from + c) z b (from + k) (λ m. q (omega arith))) ∙ h k f (omega arith)

pub part_kept : (from first c : ℕ) (old now : List ℤ) (z : ℤ) → from + c < length now → first ≤ c → ((k : ℕ) → (k < from + first) ⊎ (from + c ≤ k) → whole_at now k ≡ whole_at old k) →
    (k : ℕ) → (k < from + first) ⊎ (from + (c + 1) ≤ k) → whole_at (set now (from + c) z) k ≡ whole_at old k
part_kept from first c old now z b f h k (inl l) = set_other now (from + c) z b k (λ m. omega arith) ∙ h k (inl l)
part_kept from first c old now z b f h k (inr l) = set_other now (from + c) z b k (λ m. omega arith) ∙ h k (inr (omega arith))

-- the row of unknown j: the columns before e change, then that of e has the factor z, and then those behind e change
module _ (g : Change) (width : ℕ) (old first new x : List ℤ) (j e : ℕ) (z : ℤ) (e_in : e < width) (b : j * width + e < length first) (at : z ≡ g.factor)
    (factor : g.factor ≡ turned (whole_at x e) (whole_cell width old j e)) (size : g.size ≡ unsigned_abs (whole_at x e))
    (before : (c : ℕ) → c < e → IsChangedBy g (whole_cell width old j c) (whole_at x c) (whole_cell width first j c))
    (first_kept : (k : ℕ) → j * width + e ≤ k → whole_at first k ≡ whole_at old k)
    (behind : (c : ℕ) → e + 1 ≤ c → c < width → IsChangedBy g (whole_cell width (set first (j * width + e) z) j c) (whole_at x c) (whole_cell width new j c))
    (new_kept : (k : ℕ) → (k < j * width + (e + 1)) ⊎ (j * width + width ≤ k) → whole_at new k ≡ whole_at (set first (j * width + e) z) k) where
  unmoved : (c : ℕ) → (c ≡ e → ⊥) → whole_cell width (set first (j * width + e) z) j c ≡ whole_cell width first j c
  unmoved c n = set_other first (j * width + e) z b (j * width + c) (λ m. n (omega arith))

  other_cell : (c : ℕ) → c < width → (c < e) ⊎ (e ≤ c) → (c ≡ e → ⊥) → IsChangedBy g (whole_cell width old j c) (whole_at x c) (whole_cell width new j c)
  other_cell c l (inl h) n = ap (λ u. u *ℤ pos g.by.den) (new_kept (j * width + c) (inl (omega arith)) ∙ unmoved c n) ∙ before c h
  other_cell c l (inr h) n =
      behind c (by (cases_eq c e)) l
      ∙ ap (λ u. (u *ℤ pos g.size) +ℤ neg_ℤ (g.factor *ℤ whole_at x c)) (unmoved c n ∙ first_kept (j * width + c) (omega arith))
    where
      by : (c ≡ e) ⊎ (c ≡ e → ⊥) → e + 1 ≤ c
      by (inl q) = absurd (n q)
      by (inr q) = omega arith

  pub row_cells : (c : ℕ) → c < width → IsChanged width g.by.den g.by.den old x j e c (whole_cell width new j c)
  row_cells c l = record {
    entering = λ q. ap (λ u. u *ℤ pos g.by.den) (ap (whole_cell width new j) q ∙ new_kept (j * width + e) (inl (omega arith)) ∙ set_same first (j * width + e) z b ∙ at ∙ factor);
    other = λ n. other_cell c l (cases_lt c e) n ∙ (λ i. (whole_cell width old j c *ℤ pos (size i)) +ℤ neg_ℤ (factor i *ℤ whole_at x c));
  }

twice_turned : (z : ℤ) → z ≡ neg_ℤ (neg_ℤ z)
twice_turned z = by_ring_ℤ (z ∷ []) (search int_reads depth 30) (search int_reads depth 30) tt

turned_zero : (p z : ℤ) → turned p z ≡ pos 0 → z ≡ pos 0
turned_zero (pos n) z h = h
turned_zero (negsuc n) z h = twice_turned z ∙ ap neg_ℤ h

less_nothing : (z d x : ℤ) → z *ℤ d ≡ (z *ℤ d) +ℤ neg_ℤ (pos 0 *ℤ x)
less_nothing z d x = by_ring_ℤ (z ∷ d ∷ x ∷ []) (search int_reads depth 30) (search int_reads depth 30) tt

-- a number stays where the factor is 0 and the size is the divisor
pub number_stays : (z f x : ℤ) (den size : ℕ) → f ≡ pos 0 → size ≡ den → z *ℤ pos den ≡ (z *ℤ pos size) +ℤ neg_ℤ (f *ℤ x)
number_stays z f x den size none same = less_nothing z (pos den) x ∙ sym (λ i. (z *ℤ pos (same i)) +ℤ neg_ℤ (none i *ℤ x))

-- and so does the row
pub row_stays : (width den : ℕ) (v x : List ℤ) (j e : ℕ) → turned (whole_at x e) (whole_cell width v j e) ≡ pos 0 → unsigned_abs (whole_at x e) ≡ den →
    (c : ℕ) → IsChanged width den den v x j e c (whole_cell width v j c)
row_stays width den v x j e none same c = record {
  entering = λ q. ap (λ u. u *ℤ pos den) (ap (whole_cell width v j) q ∙ turned_zero (whole_at x e) (whole_cell width v j e) none ∙ sym none);
  other = λ n. number_stays (whole_cell width v j c) (turned (whole_at x e) (whole_cell width v j e)) (whole_at x c) den (unsigned_abs (whole_at x e)) none same;
}
