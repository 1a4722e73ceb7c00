-- A coefficient that is a whole number times a scale, over a denominator, and its products with where a variable of that scale stands.
use Rattle.std.proofs.Common.{◌≡◌, ℕ, ◌*◌, ◌^◌, ◌<◌, ◌≤◌, ℤ, pos, negsuc, ◌*ℤ◌, unsigned_abs, [], ◌∷◌, sym, ◌∙◌, ap, subst, arith, mul-le-mul_left}
use Rattle.std.proofs.lemmas.Int.{unsigned_abs-mul}
use Rattle.mpc_exact.specs.Rational.{ℚ, frac, int, ◌*ℚ◌}
use Rattle.mpc_exact.proofs.RationalRing.{reads, by_ring}
use Rattle.mpc_whole.specs.Norms.{Over}
use Rattle.mpc_runs.proofs.WholeSums.{times_int, zero_over}
use Rattle.mpc_whole.proofs.WholeChanges.{scale_cancels}

-- a number of which so much holds, times the scale, over the denominator
pub record Scaled (d k : ℕ) (P : ℤ → Type 0) (x : ℚ) : Type 0 where
  pub at : ℤ
  pub is : x ≡ frac (at *ℤ pos k) d
  pub holds : P at

nought_last : (x : ℚ) → x *ℚ int (pos 0) ≡ int (pos 0)
nought_last x = by_ring (x ∷ []) (search reads depth 30) (search reads depth 30) tt

pub nought_times : (r : ℚ) → int (pos 0) *ℚ r ≡ int (pos 0)
nought_times r = by_ring (r ∷ []) (search reads depth 30) (search reads depth 30) tt

pub nought_over : (d m : ℕ) (x : ℚ) → 0 < d → x ≡ int (pos 0) → Over d m x
nought_over d m x some e = record { at = pos 0; is = e ∙ sym (zero_over d some); size = omega arith }

-- a scale is at least 1
pub less_with_scale : (z k : ℕ) → 0 < k → z * k ≤ 2 ^ 62 → z ≤ 2 ^ 62
less_with_scale z k some h = let e : z * 1 ≤ z * k = mul-le-mul_left z some in omega arith

module _ (d k m : ℕ) (P : ℤ → Type 0) (some : 0 < d) where
  pub scaled_over : ((z : ℤ) → P z → unsigned_abs z * k ≤ m) → (x : ℚ) → Scaled d k P x → Over d m x
  scaled_over h x o = record { at = o.at *ℤ pos k; is = o.is; size = subst (λ n. n ≤ m) (sym (unsigned_abs-mul o.at (pos k))) (h o.at o.holds) }

  pub at_nought : (x r : ℚ) → r ≡ int (pos 0) → Over d m (x *ℚ r)
  at_nought x r e = nought_over d m (x *ℚ r) some (ap (λ u. x *ℚ u) e ∙ nought_last x)

  pub at_side : 0 < k → (x r : ℚ) (g : ℤ) → ((z : ℤ) → P z → unsigned_abs z * unsigned_abs g ≤ m) → Scaled d k P x → r ≡ frac g k → Over d m (x *ℚ r)
  at_side scale x r g h o e =
      record { at = o.at *ℤ g; is = (λ i. o.is i *ℚ e i) ∙ scale_cancels o.at g k d scale some; size = subst (λ n. n ≤ m) (sym (unsigned_abs-mul o.at g)) (h o.at o.holds) }

  times_one : (z : ℤ) → unsigned_abs z * k ≤ m → unsigned_abs ((z *ℤ pos k) *ℤ negsuc 0) ≤ m
  times_one z h = subst (λ n. n ≤ m) (sym (unsigned_abs-mul (z *ℤ pos k) (negsuc 0) ∙ ap (λ n. n * 1) (unsigned_abs-mul z (pos k)))) (omega arith)

  pub at_minus_one : ((z : ℤ) → P z → unsigned_abs z * k ≤ m) → (x r : ℚ) → Scaled d k P x → r ≡ int (negsuc 0) → Over d m (x *ℚ r)
  at_minus_one h x r o e = record { at = (o.at *ℤ pos k) *ℤ negsuc 0; is = (λ i. o.is i *ℚ e i) ∙ times_int (o.at *ℤ pos k) (negsuc 0) d some; size = times_one o.at (h o.at o.holds) }
