-- Tests as they come out.
use Rattle.std.proofs.Common.{◌≡◌, Bool, true, false, T, refl, sym, subst}
use Rattle.mpc_exact.specs.Rational.{ℚ, ◌≤ℚ◌, lt_ℚ}
use Rattle.mpc_exact.proofs.OrderTheorems.{lt_ℚ-false}

pub test_true : (b : Bool) → T b → b ≡ true
test_true true t = refl
test_true false t = absurd t

pub true_test : (b : Bool) → b ≡ true → T b
true_test b e = subst T (sym e) tt

pub not_lt : (x y : ℚ) → lt_ℚ x y ≡ false → y ≤ℚ x
not_lt x y e = lt_ℚ-false e
