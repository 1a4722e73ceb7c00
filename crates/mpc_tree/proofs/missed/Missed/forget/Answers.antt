use Rattle.std.proofs.Common.{ap, arith, set, ◌∙◌}
use Rattle.std.proofs.lemmas.List.Edits.{map_over_more}
use Rattle.mpc_tree.specs.Missed.{entry_within}
use Rattle.mpc_tree.proofs.missed.Missed.forget.Goals as goal

pub loop-place-preserved : goal.loop-place-preserved
loop-place-preserved c =
    ap (set c.loop-place.self-inside.first.items c.loop-place.place) c.entry_within.ensures
    ∙ map_over_more (entry_within c.args.shared) c.self.inside.first.items c.loop-place.self-inside.first.items c.loop-place.place c.index.result.now (omega arith) c.loop-place.invariant c.index.ensures
