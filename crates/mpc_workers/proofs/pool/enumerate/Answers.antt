use Rattle.std.proofs.Common.{List, subst}
use Rattle.std.specs.List.{AllZip}
use Rattle.mpc_rows.specs.declared.programs.Qp.{Qp}
use Rattle.mpc_claim.specs.Board.{Board}
use Rattle.mpc_workers.specs.Seats.{IsDone}
use Rattle.mpc_workers.proofs.Programs.{only_one}
use Rattle.mpc_workers.proofs.pool.enumerate.Goals as goal

pub returns-clause-done : goal.returns-clause-done
returns-clause-done g c =
    only_one (λ (q : Qp) (r : Board). IsDone q c.args.workers r) c.args.qp.now c.pop.new.self.items c.in_ok-registries.registries.items c.in-Some.registry c.in-Some.ensures.items
    (subst (λ (qs : List Qp). AllZip (λ (q : Qp) (r : Board). IsDone q c.args.workers r) qs c.in_ok-registries.registries.items) c.from_ref.ensures.value c.in_ok-registries.ensures.done)
