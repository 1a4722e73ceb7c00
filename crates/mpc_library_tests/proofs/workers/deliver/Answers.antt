use Rattle.std.proofs.Common.{◌≡◌, ◌∙◌, List, ℕ, Result, IfOk, sym, ap, subst}
use Rattle.mpc_frac.specs.declared.NoMemory.{NoMemory}
use Rattle.mpc_rows.specs.declared.programs.Qp.{Qp}
use Rattle.mpc_rows.specs.JudgedSet.{JudgedSet}
use Rattle.mpc_rows.specs.Verdicts.{IsRight}
use Rattle.mpc_claim.specs.Board.{Board}
use Rattle.mpc_library_tests.proofs.workers.deliver.Goals as goal

pub play-requires-clause-right : goal.play-requires-clause-right
play-requires-clause-right g c =
    let judged = c.expect-judged.result in
    let program = c.program-program.result.now in
    let set = c.match-row.set in
    let same : judged.set ≡ set = subst (λ (r : Result JudgedSet NoMemory). IfOk r (λ j. j.set ≡ set)) c.expect-judged.ensures c.examine.ensures.set in
    let right : IsRight program set judged.verdict = subst (λ (r : Result JudgedSet NoMemory). IfOk r (λ j. IsRight program set j.verdict)) c.expect-judged.ensures c.examine.ensures.right in
    subst (λ (q : Qp). IsRight q judged.set judged.verdict) (c.program-program.ensures.value ∙ ap (λ (b : Board). b.program) c.registry.ensures.value)
    (subst (λ (s : List ℕ). IsRight program s judged.verdict) (sym same) right)
