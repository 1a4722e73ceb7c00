use Rattle.std.proofs.Common.{◌≡◌, length, sym, subst, subst₂, ◌∙◌}
use Rattle.std.specs.Int.{w64}
use Rattle.std.proofs.lemmas.Int.{to_z-of_z}
use Rattle.std.proofs.lemmas.Option.{IfSome_then}
use Rattle.mpc_whole.specs.Moved.{IsMoved}
use Rattle.mpc_whole.specs.Running.{IsPivot}
use Rattle.mpc_whole.proofs.whole_values.move_values.Goals as goal

pub move_part-requires-clause-pivot : goal.move_part-requires-clause-pivot
move_part-requires-clause-pivot c = c.requires.pivot

pub move_part-requires-clause-small : goal.move_part-requires-clause-small
move_part-requires-clause-small c = c.requires.parts.first_small

pub returns-in_err-move_part : goal.returns-in_err-move_part
returns-in_err-move_part c = rw c.from_residual.ensures (record { moved = tt; parts = tt })

pub move_part-requires-2-clause-pivot : goal.move_part-requires-2-clause-pivot
move_part-requires-2-clause-pivot c = subst (λ w. IsPivot w c.args.entries.now c.args.numbers.now c.args.pivot.side c.args.pivot.column c.args.pivot.by.den c.args.pivot.size) (sym c.requires.parts.second_size) c.requires.pivot

pub move_part-requires-2-clause-small : goal.move_part-requires-2-clause-small
move_part-requires-2-clause-small c = c.requires.parts.second_small

pub returns-clause-moved : goal.returns-clause-moved
returns-clause-moved c = IfSome_then c.move_part-2.result c.move_part-2.ensures.moved
    (λ u second. record {
      first = subst (λ g. IsMoved (length c.args.firsts.now) c.args.entries.now c.args.pivot.side g c.args.numbers.now c.args.pivot.column c.args.pivot.by.den c.args.pivot.size c.args.firsts.now c.move_part.new.values) (to_z-of_z w64 c.args.limit c.ranges.limit) c.in_ok-move_part.ensures.moved;
      second = subst₂ (λ w g. IsMoved w c.args.entries.now c.args.pivot.side g c.args.numbers.now c.args.pivot.column c.args.pivot.by.den c.args.pivot.size c.args.seconds.now c.move_part-2.new.values) c.requires.parts.second_size (to_z-of_z w64 c.args.step c.ranges.step) second;
    })

pub returns-clause-parts : goal.returns-clause-parts
returns-clause-parts c = IfSome_then c.move_part-2.result c.move_part-2.ensures.small
    (λ u second. record {
      first_size = (let q : length c.move_part.new.values ≡ length c.args.firsts.now = c.move_part.auto.values in q);
      second_size = (let q : length c.move_part-2.new.values ≡ length c.args.seconds.now = c.move_part-2.auto.values in q) ∙ c.requires.parts.second_size;
      first_small = c.in_ok-move_part.ensures.small;
      second_small = second;
    })
