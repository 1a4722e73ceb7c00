use Rattle.std.proofs.Common.{rules}
use Rattle.mpc_rows.specs.Laws.{HasLawShape}
use Rattle.mpc_check.specs.LawConditions.{LawMet, LawAtMet, LawAtFinds}
use Rattle.mpc_check.proofs.ElementLemmas.{all_at}
use Rattle.mpc_check.proofs.StretchLemmas.{none_yet, one_more}
use Rattle.mpc_check.proofs.SideLemmas.{law_there}
use Rattle.mpc_check.proofs.laws.are_seen_met.Goals as goal

pub loop-place-init : goal.loop-place-init
loop-place-init c = none_yet (LawAtMet c.args.qp.now c.args.laws.now) (LawAtFinds c.args.qp.now c.args.laws.now) c.args.stretch.from

pub is_seen_met-requires-clause-shape : goal.is_seen_met-requires-clause-shape
is_seen_met-requires-clause-shape c = all_at (HasLawShape c.args.qp.now) c.args.laws.now c.loop-place.place c.at.result.now c.at.ensures c.requires.shapes

pub loop-place-preserved : goal.loop-place-preserved
loop-place-preserved c =
    let met : LawMet c.args.qp.now c.at.result.now = search rules in
    one_more (LawAtMet c.args.qp.now c.args.laws.now) (LawAtFinds c.args.qp.now c.args.laws.now) c.args.stretch.from c.loop-place.place c.loop-place.invariant
    (law_there c.args.qp.now c.args.laws.now c.loop-place.place c.at.result.now c.at.ensures met)
