use Rattle.std.proofs.Common.{◌/◌, to_z, of_z, pos, ◌-ℤ◌, ◌*ℤ◌, ◌∙◌, ap, unsigned_abs}
use Rattle.std.specs.Int.{w128}
use Rattle.mpc_online.proofs.WholeDots.{read_wide}
use Rattle.mpc_online.proofs.WholeMoves.{divided_above, divided_below}
use Rattle.mpc_online.proofs.whole_moves.divided.Goals as goal

pub returns-then-numerator-lt0-clause-value : goal.returns-then-numerator-lt0-clause-value
returns-then-numerator-lt0-clause-value c =
    ap (λ n. to_z w128 (of_z w128 (pos 0 -ℤ to_z w128 n)) *ℤ pos c.args.shared) (c.part-size.ensures ∙ ap (λ n. n / c.args.shared) (c.unsigned_abs.ensures.value ∙ ap unsigned_abs (read_wide c.args.numerator c.requires.small)))
    ∙ divided_below c.args.numerator c.args.shared c.requires.divides c.requires.small c.if-numerator-lt0.true

pub returns-else-numerator-lt0-clause-value : goal.returns-else-numerator-lt0-clause-value
returns-else-numerator-lt0-clause-value c =
    ap (λ n. to_z w128 n *ℤ pos c.args.shared) (c.part-size.ensures ∙ ap (λ n. n / c.args.shared) (c.unsigned_abs.ensures.value ∙ ap unsigned_abs (read_wide c.args.numerator c.requires.small)))
    ∙ divided_above c.args.numerator c.args.shared c.requires.divides c.requires.small c.if-numerator-lt0.false
