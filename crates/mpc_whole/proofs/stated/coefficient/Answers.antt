use Rattle.std.proofs.Common.{◌≡◌, ◌∙◌, ◌*◌, ◌*ℤ◌, ap, to_z, of_z, FitsSigned, rules, pos, mul-pos}
use Rattle.std.specs.Int.{w128}
use Rattle.std.proofs.lemmas.Int.{to_z-of_z}
use Rattle.mpc_exact.specs.Rational.{quotient}
use Rattle.mpc_whole.proofs.WholeEnds.{quotient_over}
use Rattle.mpc_whole.proofs.stated.coefficient.Goals as goal

pub returns-in-Ok : goal.returns-in-Ok
returns-in-Ok c =
    let z : FitsSigned w128 c.args.number = search rules in
    let f : FitsSigned w128 c.in_ok-factor.factor = search rules in
    let g : FitsSigned w128 c.in_ok-up.up = search rules in
    let h : FitsSigned w128 c.in_ok-over.over = search rules in
    let up : to_z w128 (of_z w128 c.in_ok-up.up) ≡ c.args.number *ℤ pos c.args.scale = to_z-of_z w128 _ g ∙ c.in_ok-up.ensures ∙ (λ i. to_z-of_z w128 _ z i *ℤ (to_z-of_z w128 _ f ∙ c.in_ok-factor.ensures) i) in
    let down : to_z w128 (of_z w128 c.in_ok-over.over) ≡ pos (c.args.den * c.args.own) = to_z-of_z w128 _ h ∙ c.in_ok-over.ensures ∙ ap pos c.in_ok-down.ensures.1 in
    c.in-Ok.ensures.value ∙ (λ i. quotient (up i) (down i)) ∙ quotient_over (c.args.number *ℤ pos c.args.scale) (c.args.den * c.args.own) (mul-pos c.requires.some c.requires.own)
