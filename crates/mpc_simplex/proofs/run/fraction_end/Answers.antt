use Rattle.std.proofs.Common.{◌≡◌, ◌∙◌, ◌+◌, ◌*◌, ◌<◌, ◌^◌, subst, mul_comm}
use Rattle.mpc_rows.specs.LinearSystem.{height}
use Rattle.mpc_runs.proofs.Seats.{opening_seated}
use Rattle.mpc_runs.proofs.Steps.{opens}
use Rattle.mpc_simplex.proofs.run.fraction_end.Goals as goal
use Rattle.mpc_simplex.proofs.run.fraction_end.Goals.{In-Some}

whole : (c : In-Some) → c.in-Some.variables ≡ c.args.system.now.width + height c.args.system.now
whole c = c.in-Some.ensures.1 ∙ (λ i. c.unknowns.ensures i + c.height.ensures i)

pub run-requires-clause-table : goal.run-requires-clause-table
run-requires-clause-table c =
    let w = whole (goal.at.run-requires-clause-table c).In-Some in
    record {
      seated = opening_seated c.args.system.now c.in-Some.variables c.in-Ok.seats.items w c.in-Ok.ensures;
      shape = record {
        size = c.in-Ok-opening_entries.ensures.size;
        fits = subst (λ m. m < 2 ^ 64) ((λ i. c.unknowns-2.ensures i * c.height-2.ensures i) ∙ mul_comm c.args.system.now.width (height c.args.system.now)) c.in-Some-checked_mul.ensures.0;
      };
    }

pub run-requires-clause-opens : goal.run-requires-clause-opens
run-requires-clause-opens c =
    opens c.args.system.now c.in-Some.variables c.in-Ok.seats.items c.in-Ok-opening_entries.entries.items (whole (goal.at.run-requires-clause-opens c).In-Some) c.in-Ok.ensures c.in-Ok-opening_entries.ensures
