use Rattle.mpc_condense.specs.Refusals.{wide_program, wide_pivot}
use Rattle.mpc_condense.proofs.convex.convex_program.Goals as goal

pub returns-in-Err-Wide-clause-cause : goal.returns-in-Err-Wide-clause-cause
returns-in-Err-Wide-clause-cause c = rw c.in-Err-Wide.place-is (wide_program c.in-Err-Wide.place (rw c.in-Err-Wide.field-0-is at c.in-Err-Wide.ensures.cause))

pub returns-in-Err-NotDefinite-clause-cause : goal.returns-in-Err-NotDefinite-clause-cause
returns-in-Err-NotDefinite-clause-cause c = rw c.in-Err-NotDefinite.j-is (record {
  qp = c.in-Ok.program;
  has_program = record { fits = c.in-Ok.ensures.fits; condensed = c.in-Ok.ensures.condensed };
  first = rw c.in-Err-NotDefinite.field-0-is at c.in-Err-NotDefinite.ensures.cause;
  not_definite = rw c.in-Err-NotDefinite.field-0-is at c.in-Err-NotDefinite.ensures.not_definite;
})

pub returns-in-Err-Wide-pivots-clause-cause : goal.returns-in-Err-Wide-pivots-clause-cause
returns-in-Err-Wide-pivots-clause-cause c =
    rw c.in-Err-Wide-pivots.j-is
    (wide_pivot c.in-Ok.program c.in-Err-Wide-pivots.j (record { fits = c.in-Ok.ensures.fits; condensed = c.in-Ok.ensures.condensed }) (rw c.in-Err-Wide-pivots.field-0-is at c.in-Err-Wide-pivots.ensures.cause))
