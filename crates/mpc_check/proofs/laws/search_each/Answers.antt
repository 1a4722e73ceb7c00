use Rattle.mpc_rows.specs.Laws.{HasLawShape}
use Rattle.mpc_check.proofs.ElementLemmas.{all_at}
use Rattle.mpc_check.proofs.laws.search_each.Goals as goal

pub search_law-requires-clause-shape : goal.search_law-requires-clause-shape
search_law-requires-clause-shape c = all_at (HasLawShape c.args.qp.now) c.args.laws.now c.loop-place.place c.at.result.now c.at.ensures c.requires.shapes
