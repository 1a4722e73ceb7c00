use Rattle.std.proofs.Common.{◌≡◌, ◌∙◌, ap, sym, subst, Err, rules, pos, neg_ℤ, if◌then◌else◌, to_z, of_z}
use Rattle.std.specs.Int.{w128}
use mir.Val.{SFits}
use Rattle.mpc_exact.specs.Rational.{quotient}
use Rattle.mpc_bench.specs.Parts.{numer_of, below_of, size_of}
use Rattle.mpc_frac.specs.Fits.{FitsFrac}
use Rattle.mpc_bench.proofs.Halves.{read_fitting, readable_fits}
use Rattle.mpc_bench.proofs.parts.read.Goals as goal
use Rattle.mpc_bench.proofs.parts.read.Goals.{After-new}

top : (c : After-new) → to_z w128 (of_z w128 c.signed.result) ≡ numer_of c.args.parts.now
top c =
    let f : SFits w128 c.in_ok-size.size = search rules in
    read_fitting c.signed.result c.signed.type_inv ∙ c.signed.ensures
    ∙ ap (λ z. if c.args.parts.now.negative then neg_ℤ z else z) (read_fitting c.in_ok-size.size f.sfits ∙ c.in_ok-size.ensures.value)

bottom : (c : After-new) → to_z w128 (of_z w128 c.in_ok-den.den) ≡ pos (below_of c.args.parts.now)
bottom c = let g : SFits w128 c.in_ok-den.den = search rules in read_fitting c.in_ok-den.den g.sfits ∙ c.in_ok-den.ensures.value

pub returns-in-Ok-clause-value : goal.returns-in-Ok-clause-value
returns-in-Ok-clause-value c =
    let d = (goal.at.returns-in-Ok-clause-value c).After-new in
    c.in-Ok.ensures.value ∙ (λ i. quotient (top d i) (bottom d i))

pub returns-in-Err-Wide-clause-readable : goal.returns-in-Err-Wide-clause-readable
returns-in-Err-Wide-clause-readable c readable =
    let d = (goal.at.returns-in-Err-Wide-clause-readable c).After-new in
    absurd ((c.in-Err-Wide.ensures.wide.0 (ap Err c.in-Err-Wide.field-0-is)).1 (subst FitsFrac (sym (λ i. quotient (top d i) (bottom d i)))
    (readable_fits c.fit_theorems.ensures c.args.parts.now.negative (size_of c.args.parts.now) (below_of c.args.parts.now) readable.size_small readable.below_small readable.below_positive)))
