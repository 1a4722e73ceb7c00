-- The weights of a certificate, written one after another.
use Rattle.std.proofs.Common.{◌≡◌, ℕ, ℤ, pos, ◌+◌, ◌<◌, ◌≤◌, ◌^◌, List, get_or, length, unsigned_abs, sym, subst, arith, below_more}
use Rattle.std.specs.Prelude.{slice_set}
use Rattle.std.proofs.lemmas.List.{get_or-set_other, get_or-set_same, get_or_default}
use Rattle.mpc_exact.specs.Rational.{ℚ, frac, IsNonneg}
use Rattle.mpc_check.specs.Picks.{IsWeightOver}

-- the first so many are written
abbrev pub AreFirst : List (ℕ × ℚ) → ℕ → List ℤ → ℕ → Type 0
AreFirst cert all list n = (k : ℕ) → k < n → (entry : ℕ × ℚ) → IsWeightOver (get_or cert k entry).1 all (get_or list k (pos 0))

module _ (cert entries : List (ℕ × ℚ)) (same : entries ≡ cert) (all : ℕ) (list : List ℤ) (at : ℕ) (d : ℕ × ℚ) (w v : ℤ) (is : v ≡ w) (h : at < length entries) (room : at < length list) (value : (get_or entries at d).1 ≡ frac w all) (nonneg : IsNonneg (get_or entries at d).1) (small : unsigned_abs w ≤ 2 ^ 62) where
  there : (entry : ℕ × ℚ) → IsWeightOver (get_or cert at entry).1 all v
  there entry =
      let own : IsWeightOver (get_or entries at d).1 all w = record { is = value; nonneg = nonneg; small = small } in
      let known : IsWeightOver (get_or entries at entry).1 all w = subst (λ (x : ℕ × ℚ). IsWeightOver x.1 all w) (get_or_default entries at d entry h) own in
      subst (λ (z : ℤ). IsWeightOver (get_or cert at entry).1 all z) (sym is) (subst (λ (l : List (ℕ × ℚ)). IsWeightOver (get_or l at entry).1 all w) same known)

  pub one_more : AreFirst cert all list at → AreFirst cert all (slice_set list at v) (at + 1)
  one_more before = below_more (λ k. (entry : ℕ × ℚ) → IsWeightOver (get_or cert k entry).1 all (get_or (slice_set list at v) k (pos 0))) at
      (λ k below entry. subst (λ (z : ℤ). IsWeightOver (get_or cert k entry).1 all z) (sym (get_or-set_other list at k v (pos 0) (λ e. omega (arith, below, e)))) (before k below entry))
      (λ entry. subst (λ (z : ℤ). IsWeightOver (get_or cert at entry).1 all z) (sym (get_or-set_same list at v (pos 0) room)) (there entry))
