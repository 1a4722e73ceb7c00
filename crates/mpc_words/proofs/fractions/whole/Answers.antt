use Rattle.std.proofs.Common.{◌≡◌, FitsSigned, sym, ap, ◌∙◌, subst}
use Rattle.std.specs.Int.{w64, w128}
use Rattle.std.proofs.lemmas.Int.{to_z-of_z}
use Rattle.mpc_exact.specs.Rational.{int}
use Rattle.mpc_words.proofs.FractionLemmas.{parts_of_whole}
use Rattle.mpc_words.proofs.fractions.whole.Goals as goal

pub returns-in-Ok : goal.returns-in-Ok
returns-in-Ok c =
    let short = c.in-Ok.ensures in
    let fits : FitsSigned w64 c.in-Ok.short = subst (FitsSigned w64) (sym short.1) short.0 in
    let same : c.in-Ok.short ≡ c.args.num = short.1 ∙ to_z-of_z w128 c.args.num c.ranges.num in
    parts_of_whole c.args.num c.whole.result (c.whole.ensures ∙ ap int (to_z-of_z w64 c.in-Ok.short fits ∙ same))
