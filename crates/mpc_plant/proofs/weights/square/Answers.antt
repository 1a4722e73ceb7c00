use Rattle.std.proofs.Common.{Ok, Err}
use Rattle.std.proofs.lemmas.Result.{IfOk-weaker}
use Rattle.serde_json.specs.View.{view}
use Rattle.mpc_plant.proofs.MatrixLemmas.{square_at}
use Rattle.mpc_plant.proofs.weights.square.Goals as goal

pub returns-clause-ok : goal.returns-clause-ok
returns-clause-ok c = IfOk-weaker c.matrix_with_rows.result _ _ (λ m e. square_at (view c.args.value.now) c.in_ok-items.items.now (Ok m.rows) c.in_ok-items.ensures.ok e) c.matrix_with_rows.ensures.ok

pub returns-clause-bad : goal.returns-clause-bad
returns-clause-bad c = λ kind path e. square_at (view c.args.value.now) c.in_ok-items.items.now (Err (kind, path)) c.in_ok-items.ensures.ok (c.matrix_with_rows.ensures.bad kind path e)
