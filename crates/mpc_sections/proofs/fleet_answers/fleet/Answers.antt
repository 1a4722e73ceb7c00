use Rattle.std.proofs.Common.{◌≡◌, List, All, sym, ap, length, subst, arith}
use Rattle.std.specs.List.{AllZip}
use Rattle.mpc_space.specs.Definite.{IsDefinite}
use Rattle.mpc_rows.specs.declared.programs.Qp.{Qp}
use Rattle.mpc_claim.specs.Board.{Board}
use Rattle.mpc_workers.specs.Seats.{IsDone}
use Rattle.mpc_sections.specs.Sections.{sections_of}
use Rattle.mpc_condense.specs.Convex.{IsConvexProgram}
use Rattle.mpc_sections.proofs.StepLemmas.{no_more_than, definite_all, examined_all}
use Rattle.mpc_sections.proofs.fleet_answers.fleet.Goals as goal

pub enumerate_fleet-requires-clause-few : goal.enumerate_fleet-requires-clause-few
enumerate_fleet-requires-clause-few g c =
    let few = rw c.if-not-are_few.false at c.are_few.ensures in
    let fewer = no_more_than IsConvexProgram (sections_of c.args.input.now) c.in_ok-begun.field-0.begun.items c.in_ok-begun.field-0.programs.items c.in_ok-begun.ensures in
    let same : length c.deref.result.now ≡ length c.in_ok-begun.field-0.programs.items = ap length c.deref.ensures.value in
    λ κs lives. omega (arith, few, fewer, same)

pub enumerate_fleet-requires-clause-definite : goal.enumerate_fleet-requires-clause-definite
enumerate_fleet-requires-clause-definite g c = λ κs lives.
    subst (All (λ (qp : Qp). IsDefinite qp.h.rows)) (sym c.deref.ensures.value) (definite_all (sections_of c.args.input.now) c.in_ok-begun.field-0.begun.items c.in_ok-begun.field-0.programs.items c.in_ok-begun.ensures)

pub answer_all-requires-clause-begun : goal.answer_all-requires-clause-begun
answer_all-requires-clause-begun g c = λ κs lives.
    examined_all c.args.workers (sections_of c.args.input.now) c.in_ok-begun.field-0.begun.items c.in_ok-begun.field-0.programs.items c.in-Ok.registries.items c.in_ok-begun.ensures
    (subst (λ (ps : List Qp). AllZip (λ (qp : Qp) (r : Board). IsDone qp c.args.workers r) ps c.in-Ok.registries.items) c.deref.ensures.value c.in-Ok.ensures.done)
