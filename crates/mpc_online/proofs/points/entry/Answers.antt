use Rattle.std.proofs.Common.{◌≡◌, pos, get_or, to_z, of_z, ◌∙◌, ℤ}
use Rattle.std.specs.Int.{w128}
use Rattle.std.proofs.lemmas.Result.{IfOk-at_ok}
use Rattle.mpc_exact.specs.Rational.{ℚ, quotient}
use Rattle.mpc_online.proofs.Quotients.{made}
use Rattle.mpc_online.proofs.WholeMoves.{den_not_zero, den_read_small, number_read_small, quotient_read, number_small, den_of_small}
use Rattle.mpc_online.proofs.points.entry.Goals as goal

pub unwrap-requires : goal.unwrap-requires
unwrap-requires c =
    let w = c.args.numbers.now in
    let t : ℤ = get_or w.numerators c.args.place (pos 0) in
    let some = den_not_zero w.den w.at_most.some (den_of_small w) in
    made c.new.result (to_z w128 (of_z w128 t)) (to_z w128 w.den) c.new.ensures.zero c.new.ensures.wide some
    (c.fit_theorems.ensures.quotient (to_z w128 (of_z w128 t)) (to_z w128 w.den) some (number_read_small t (number_small w c.args.place)) (den_read_small w.den (den_of_small w)))

pub returns : goal.returns
returns c =
    let w = c.args.numbers.now in
    let t : ℤ = get_or w.numerators c.args.place (pos 0) in
    IfOk-at_ok (λ (v : ℚ). v ≡ quotient (to_z w128 (of_z w128 t)) (to_z w128 w.den)) c.unwrap.ensures c.new.ensures.value
    ∙ quotient_read t w.den w.at_most.some (den_of_small w) (number_small w c.args.place)
