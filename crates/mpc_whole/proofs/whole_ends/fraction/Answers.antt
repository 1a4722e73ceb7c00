use Rattle.std.proofs.Common.{◌≡◌, ◌∙◌, sym, ap, to_z, FitsSigned, rules, pos}
use Rattle.std.specs.Int.{w128}
use Rattle.std.proofs.lemmas.Int.{to_z-of_z}
use Rattle.std.proofs.lemmas.Option.{IfSome_then}
use Rattle.mpc_exact.specs.Rational.{frac, quotient}
use Rattle.mpc_whole.proofs.WholeEnds.{quotient_over}
use Rattle.mpc_runs.proofs.WholeSums.{zero_over}
use Rattle.mpc_whole.proofs.whole_ends.fraction.Goals as goal

pub returns : goal.returns
returns c =
    let f : FitsSigned w128 c.args.numerator = search rules in
    let g : FitsSigned w128 c.in_ok-over.over = search rules in
    IfSome_then c.quotient.result c.quotient.ensures
    (λ x is. is ∙ (λ i. quotient (to_z-of_z w128 _ f i) ((to_z-of_z w128 _ g ∙ c.in_ok-over.ensures) i)) ∙ quotient_over c.args.numerator c.args.den c.requires)

pub returns-then-numerator-eq0 : goal.returns-then-numerator-eq0
returns-then-numerator-eq0 c =
    let f : FitsSigned w128 c.args.numerator = search rules in
    let e : c.args.numerator ≡ pos 0 = sym (to_z-of_z w128 c.args.numerator f) ∙ ap (to_z w128) c.if-numerator-eq0.true in
    c.zero.ensures ∙ sym (ap (λ u. frac u c.args.den) e ∙ zero_over c.args.den c.requires)
