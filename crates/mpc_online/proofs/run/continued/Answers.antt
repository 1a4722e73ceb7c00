use Rattle.std.proofs.Common.{List, sym, ◌∙◌, ap}
use Rattle.mpc_exact.specs.Rational.{ℚ}
use Rattle.mpc_online.specs.Positions.{goes_to, ends, continued}
use Rattle.mpc_online.specs.Wholes.{entries_of}
use Rattle.mpc_online.specs.Answers.{position_of}
use Rattle.mpc_online.specs.declared.Online.TheVariants.{Best}
use Rattle.mpc_online.proofs.run.continued.Goals as goal

pub returns-in_default : goal.returns-in_default
returns-in_default c =
    ap (λ (z : List ℚ). ends (Best z)) (c.in_ok-vector.ensures ∙ c.deref.ensures.value ∙ c.in_ok-entries.ensures) ∙ ap (continued (position_of c.args.it)) (sym c.in_default.is)

pub returns : goal.returns
returns c =
    ap (λ (w : ℚ). goes_to (record { point = entries_of c.args.it.point; set = c.args.it.set; multipliers = c.args.it.multipliers.items; row = c.in-Some.row; weight = w })) c.whole-it.ensures
    ∙ ap (continued (position_of c.args.it)) (sym c.in-Some.is)
