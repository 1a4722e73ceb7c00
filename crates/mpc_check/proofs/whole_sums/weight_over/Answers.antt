use Rattle.std.proofs.Common.{◌≡◌, ℤ, true, false, to_z, of_z, ◌∙◌, sym, ap, arith}
use Rattle.std.specs.Int.{w128}
use Rattle.mpc_exact.specs.Rational.{frac, IsNonneg}
use Rattle.mpc_exact.proofs.OrderTheorems.{≤ℚ_of_not-<}
use Rattle.mpc_check.proofs.WholeRows.{some_follows}
use Rattle.mpc_check.proofs.WholeSums.{read_sum}
use Rattle.mpc_check.proofs.whole_sums.weight_over.Goals as goal

pub returns-clause-value : goal.returns-clause-value
returns-clause-value c =
    let n = c.in_ok-numerator.numerator in
    let room = c.in_ok-numerator.ensures.small in
    some_follows c.small.result (λ (w : ℤ). w ≡ to_z w128 (of_z w128 n)) (λ w. c.args.fraction.now ≡ frac w c.args.all)
    (λ w e. c.in_ok-numerator.ensures.value ∙ ap (λ z. frac z c.args.all) (sym (e ∙ read_sum n (omega (arith, room)))))
    c.small.ensures.value

pub returns-clause-nonneg : goal.returns-clause-nonneg
returns-clause-nonneg c =
    let nonneg : IsNonneg c.args.fraction.now = ≤ℚ_of_not-< (λ l. different (c.is_negative.ensures.1 l) c.if-is_negative.false) in
    some_follows c.small.result (λ (w : ℤ). w ≡ to_z w128 (of_z w128 c.in_ok-numerator.numerator)) (λ w. IsNonneg c.args.fraction.now) (λ w e. nonneg) c.small.ensures.value
  where
    different : {b : _} → b ≡ true → b ≡ false → ⊥
    different e f = cc
