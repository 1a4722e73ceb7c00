-- The rows, and their right sides at a state, over one denominator.
use Rattle.std.specs.Prelude.{◌^◌, ◌<◌, ◌≤◌, pos, List, length, get_or}
use Rattle.mpc_exact.specs.Rational.{ℚ, frac}
use Rattle.mpc_space.specs.Vector.{listed}
use Rattle.mpc_rows.specs.declared.programs.Qp.{Qp}
use Rattle.mpc_wholes.specs.Wholes.{AreRowsOver}
use Rattle.mpc_wholes.specs.Spans.{AreSpansOf}
use Rattle.mpc_online.specs.declared.prepared.EvenRows.{EvenRows}
use Rattle.mpc_online.specs.declared.sides.EvenSides.{EvenSides}
use Rattle.mpc_online.specs.declared.sides.Sides.{Sides}
use Rattle.mpc_online.specs.declared.sides.Sides.TheVariants.{Even, Apart}

-- the rows of g and w over one denominator, and neither it nor a numerator is above 2^44 in size; and the spans outside of which these are 0
pub record AreEvenRows (qp : Qp) (e : EvenRows) : Type 0 where
  pub some : 0 < e.den
  pub den_small : e.den ≤ 2 ^ 44
  pub rows : AreRowsOver qp.g e.den (2 ^ 44) e.rows.items
  pub row_spans : AreSpansOf e.rows.items qp.g.columns e.row_spans.items
  pub sides : AreRowsOver qp.w e.den (2 ^ 44) e.sides.items
  pub side_spans : AreSpansOf e.sides.items qp.w.columns e.side_spans.items

-- the right sides as a list
abbrev pub even_sides : EvenSides → List ℚ
even_sides e = listed (length e.numerators.items) (λ k. frac (get_or e.numerators.items k (pos 0)) e.den)

abbrev pub sides_of : Sides → List ℚ
sides_of (Even e) = even_sides e
sides_of (Apart v) = v.items
