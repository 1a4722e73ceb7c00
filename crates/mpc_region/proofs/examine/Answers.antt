use Rattle.std.proofs.Common.{◌≤◌, length, sym, subst, IfOk}
use Rattle.mpc_space.specs.Definite.{IsDefinite}
use Rattle.mpc_space.specs.Matrix.{height}
use Rattle.mpc_sets.specs.RowSet.{IsSetOfRows}
use Rattle.mpc_rows.specs.declared.programs.Qp.{Qp}
use Rattle.mpc_rows.specs.Verdicts.{IsRight}
use Rattle.mpc_region.proofs.examine.Goals as goal

pub examine-requires-clause-definite : goal.examine-requires-clause-definite
examine-requires-clause-definite c = subst (λ (qp : Qp). IsDefinite qp.h.rows) (sym c.in_ok-examiner.ensures) c.requires.definite

pub examine-requires-clause-set_of_rows : goal.examine-requires-clause-set_of_rows
examine-requires-clause-set_of_rows c = subst (λ (qp : Qp). IsSetOfRows (height qp.g) c.args.set) (sym c.in_ok-examiner.ensures) c.requires.set_of_rows

pub examine-requires-clause-few : goal.examine-requires-clause-few
examine-requires-clause-few c = subst (λ (qp : Qp). length c.args.set ≤ height qp.h) (sym c.in_ok-examiner.ensures) c.requires.few

pub returns-clause-set : goal.returns-clause-set
returns-clause-set c = c.examine.ensures.set

pub returns-clause-right : goal.returns-clause-right
returns-clause-right c = subst (λ (qp : Qp). IfOk c.examine.result (λ j. IsRight qp c.args.set j.verdict)) c.in_ok-examiner.ensures c.examine.ensures.right
