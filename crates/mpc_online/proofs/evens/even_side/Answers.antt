use Rattle.std.proofs.Common.{◌≡◌, to_z, of_z, ◌∙◌, arith}
use Rattle.std.specs.Int.{w128}
use Rattle.std.proofs.lemmas.Result.{IfOk-at_ok}
use Rattle.mpc_exact.specs.Rational.{ℚ, quotient}
use Rattle.mpc_online.proofs.Quotients.{made}
use Rattle.mpc_online.proofs.EvenRows.{even_within, even_den, even_read, even_number}
use Rattle.mpc_online.proofs.WholeMoves.{den_not_zero, den_read_small, number_read_small, quotient_read}
use Rattle.mpc_online.proofs.evens.even_side.Goals as goal

pub index-requires : goal.index-requires
index-requires c =
    let h = even_within c.args.sides.now c.args.place c.requires in
    let counted = c.args.sides.now.numerators.ok in
    omega (arith, h, counted)

pub unwrap-requires : goal.unwrap-requires
unwrap-requires c =
    let e = c.args.sides.now in
    let t = c.index.result.now in
    let small = even_den e c.args.place c.requires in
    let some = den_not_zero e.den e.small.some small in
    made c.new.result (to_z w128 (of_z w128 t)) (to_z w128 e.den) c.new.ensures.zero c.new.ensures.wide some
    (c.fit_theorems.ensures.quotient (to_z w128 (of_z w128 t)) (to_z w128 e.den) some (number_read_small t (even_number e c.args.place c.requires t c.index.ensures)) (den_read_small e.den small))

pub returns : goal.returns
returns c =
    let e = c.args.sides.now in
    let t = c.index.result.now in
    IfOk-at_ok (λ (v : ℚ). v ≡ quotient (to_z w128 (of_z w128 t)) (to_z w128 e.den)) c.unwrap.ensures c.new.ensures.value
    ∙ quotient_read t e.den e.small.some (even_den e c.args.place c.requires) (even_number e c.args.place c.requires t c.index.ensures)
    ∙ even_read e c.args.place c.requires t c.index.ensures
