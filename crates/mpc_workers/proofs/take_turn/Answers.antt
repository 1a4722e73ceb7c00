use Rattle.std.proofs.Common.{◌≤◌, List, ℕ, length, sym, subst}
use Rattle.mpc_space.specs.Definite.{IsDefinite}
use Rattle.mpc_space.specs.Matrix.{height}
use Rattle.mpc_sets.specs.RowSet.{IsSetOfRows}
use Rattle.mpc_rows.specs.declared.programs.Qp.{Qp}
use Rattle.mpc_rows.specs.Verdicts.{IsRight}
use Rattle.mpc_workers.proofs.take_turn.Goals as goal

pub examine-requires-clause-definite : goal.examine-requires-clause-definite
examine-requires-clause-definite g c = subst (λ (q : Qp). IsDefinite q.h.rows) (sym c.requires.examiner) c.requires.definite

pub examine-requires-clause-set_of_rows : goal.examine-requires-clause-set_of_rows
examine-requires-clause-set_of_rows g c =
    subst (λ (q : Qp). IsSetOfRows (height q.g) c.set.result) (sym c.requires.examiner)
    (subst (λ (s : List ℕ). IsSetOfRows (height c.args.registry.now.program.g) s) (sym c.set.ensures) c.requires.set_of_rows)

pub examine-requires-clause-few : goal.examine-requires-clause-few
examine-requires-clause-few g c =
    subst (λ (q : Qp). length c.set.result ≤ height q.h) (sym c.requires.examiner)
    (subst (λ (s : List ℕ). length s ≤ height c.args.registry.now.program.h) (sym c.set.ensures) c.requires.few)

pub deliver-requires-clause-right : goal.deliver-requires-clause-right
deliver-requires-clause-right g c =
    subst (λ (q : Qp). IsRight q c.args.ticket.set c.in-Ok.judged.verdict) c.requires.examiner
    (subst (λ (s : List ℕ). IsRight c.args.examiner.now s c.in-Ok.judged.verdict) c.set.ensures c.in-Ok.ensures.right)

pub returns-clause-ok : goal.returns-clause-ok
returns-clause-ok g c = record {
  verdict = c.in-Ok.judged.verdict;
  right = subst (λ (q : Qp). IsRight q c.args.ticket.set c.in-Ok.judged.verdict) c.requires.examiner
      (subst (λ (s : List ℕ). IsRight c.args.examiner.now s c.in-Ok.judged.verdict) c.set.ensures c.in-Ok.ensures.right);
  new_is = c.deliver.ensures;
}
