use Rattle.std.proofs.Common.{sym, ◌∙◌, ap}
use Rattle.mpc_exact.specs.Rational.{inv_ℚ}
use Rattle.mpc_simplex.proofs.Cells.{lt-le-trans}
use Rattle.mpc_simplex.proofs.tableau.own_row.Goals as goal

pub inverse-over_pivot-requires : goal.inverse-over_pivot-requires
inverse-over_pivot-requires c = λ h. c.requires.some (sym c.cell-pivot.ensures ∙ h)

pub own_entry-requires-clause-inverse : goal.own_entry-requires-clause-inverse
own_entry-requires-clause-inverse c = c.inverse-over_pivot.ensures ∙ ap inv_ℚ c.cell-pivot.ensures

pub returns-in-Err-clause-wide : goal.returns-in-Err-clause-wide
returns-in-Err-clause-wide c = λ f. c.in-Err.ensures.wide.1 (f.quotients c.loop-column.column c.loop-column-test.true c.in-Err.ensures.wide.0)

pub returns-clause-cells : goal.returns-clause-cells
returns-clause-cells c = record { cells = λ z h. c.loop-column.invariant.cells z (lt-le-trans h c.loop-column-test.false) }

pub returns-clause-wide : goal.returns-clause-wide
returns-clause-wide c = record { quotients = λ z h k. c.loop-column.invariant.fits z (lt-le-trans h c.loop-column-test.false) k }
