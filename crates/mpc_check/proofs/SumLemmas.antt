-- The sums of a law's conditions, product by product.
use Rattle.std.proofs.Common.{◌≡◌, ℕ, ◌+◌, ◌-◌, ◌<◌, ◌≤◌, Bool, true, false, ◌&&◌, int_eq, List, [], ◌∷◌, length, get_or, pos, refl, sym, ◌∙◌, ap, subst}
use Rattle.std.proofs.lemmas.Bool.Decides.{Decides-int_eq}
use Rattle.std.proofs.lemmas.List.{get_or-map, length-map}
use Rattle.mpc_exact.specs.Rational.{ℚ, int, ◌+ℚ◌, ◌*ℚ◌, same_parts}
use Rattle.mpc_exact.proofs.RationalRing.{reads, by_ring}
use Rattle.mpc_space.specs.Vector.{coordinate, column, dot}
use Rattle.mpc_space.specs.Matrix.{RationalMatrix, height, IsRectangular, entry}
use Rattle.mpc_space.proofs.Matrix.{length-column, coordinate-column}
use Rattle.mpc_linear.specs.Dot.{TermFits, SumFits}
use Rattle.mpc_linear.specs.SumTheorems.{SumTheorems, IsSumSoFar}
use Rattle.mpc_rows.specs.declared.programs.Qp.{Qp}
use Rattle.mpc_rows.specs.declared.laws.Law.{Law}
use Rattle.mpc_rows.specs.ActiveSets.{row_of, rows_of}
use Rattle.mpc_rows.specs.Laws.{HasLawShape}

-- ---- a row of one matrix with a column of another
abbrev pub Moved : RationalMatrix → RationalMatrix → ℕ → ℕ → ℚ → ℕ → ℚ → Type 0
Moved m moves r c start k sum = IsSumSoFar start (get_or m.rows r []) (column moves.rows c) k sum

module _ (sums : SumTheorems) (m moves : RationalMatrix) (r c : ℕ) (start : ℚ) (row : r < height m) (rectangular : IsRectangular m) (size : m.columns ≡ height moves) (k : ℕ) (sum : ℚ) (g : Moved m moves r c start k sum) where
  row_size : length (get_or m.rows r []) ≡ m.columns
  row_size = rectangular r [] row

  column_size : length (column moves.rows c) ≡ m.columns
  column_size = length-column moves.rows c ∙ sym size

  module _ (x y : ℚ) (h : k < m.columns) (ex : x ≡ entry m r k) (ey : y ≡ entry moves k c) where
    in_row : k < length (get_or m.rows r [])
    in_row = subst (λ n. k < n) (sym row_size) h

    in_column : k < length (column moves.rows c)
    in_column = subst (λ n. k < n) (sym column_size) h

    moved_right : y ≡ coordinate (column moves.rows c) k
    moved_right = ey ∙ sym (coordinate-column moves.rows k c)

    pub moved_more : (next : ℚ) → next ≡ sum +ℚ x *ℚ y → TermFits sum x y → Moved m moves r c start (k + 1) next
    moved_more next e t = sums.more start (get_or m.rows r []) (column moves.rows c) k sum x y next (record { within_left = in_row; within_right = in_column; left = ex; right = moved_right }) g e t

    pub moved_wide : (¬ TermFits sum x y) → ¬ SumFits start (get_or m.rows r []) (column moves.rows c)
    moved_wide t f = sums.wide start (get_or m.rows r []) (column moves.rows c) k sum x y (record { within_left = in_row; within_right = in_column; left = ex; right = moved_right }) g t f

  module _ (h : m.columns ≤ k) where
    over : length (get_or m.rows r []) ≤ k
    over = subst (λ n. n ≤ k) (sym row_size) h

    pub moved_value : sum ≡ start +ℚ dot (get_or m.rows r []) (column moves.rows c)
    moved_value = sums.value start (get_or m.rows r []) (column moves.rows c) k sum over g

    pub moved_fits : SumFits start (get_or m.rows r []) (column moves.rows c)
    moved_fits = sums.fits start (get_or m.rows r []) (column moves.rows c) k sum over g

-- ---- a column of the members' rows with a column of the multipliers
abbrev pub Weighed : Qp → Law → ℕ → ℕ → ℚ → ℕ → ℚ → Type 0
Weighed qp law r c start k sum = IsSumSoFar start (column (rows_of qp.g.rows law.set) r) (column law.mults.rows c) k sum

module _ (sums : SumTheorems) (qp : Qp) (law : Law) (r c : ℕ) (start : ℚ) (shape : HasLawShape qp law) (k : ℕ) (sum : ℚ) (g : Weighed qp law r c start k sum) where
  abbrev xs : List ℚ
  xs = column (rows_of qp.g.rows law.set) r

  abbrev ys : List ℚ
  ys = column law.mults.rows c

  xs_size : length xs ≡ length law.set
  xs_size = length-column (rows_of qp.g.rows law.set) r ∙ length-map law.set (row_of qp.g.rows)

  ys_size : length ys ≡ length law.set
  ys_size = length-column law.mults.rows c ∙ shape.mults_shape.rows_are

  module _ (x y : ℚ) (h : k < length law.set) (i : ℕ) (member : i ≡ get_or law.set k 0) (ex : x ≡ entry qp.g (i - 1) r) (ey : y ≡ entry law.mults k c) where
    in_xs : k < length xs
    in_xs = subst (λ n. k < n) (sym xs_size) h

    in_ys : k < length ys
    in_ys = subst (λ n. k < n) (sym ys_size) h

    row_there : get_or (rows_of qp.g.rows law.set) k [] ≡ get_or qp.g.rows (i - 1) []
    row_there = get_or-map (row_of qp.g.rows) law.set k 0 [] h ∙ ap (row_of qp.g.rows) (sym member)

    weighed_left : x ≡ coordinate xs k
    weighed_left = ex ∙ ap (λ row. coordinate row r) (sym row_there) ∙ sym (coordinate-column (rows_of qp.g.rows law.set) k r)

    weighed_right : y ≡ coordinate ys k
    weighed_right = ey ∙ sym (coordinate-column law.mults.rows k c)

    pub weighed_more : (next : ℚ) → next ≡ sum +ℚ x *ℚ y → TermFits sum x y → Weighed qp law r c start (k + 1) next
    weighed_more next e t = sums.more start xs ys k sum x y next (record { within_left = in_xs; within_right = in_ys; left = weighed_left; right = weighed_right }) g e t

    pub weighed_wide : (¬ TermFits sum x y) → ¬ SumFits start xs ys
    weighed_wide t f = sums.wide start xs ys k sum x y (record { within_left = in_xs; within_right = in_ys; left = weighed_left; right = weighed_right }) g t f

  module _ (h : length law.set ≤ k) where
    past : length xs ≤ k
    past = subst (λ n. n ≤ k) (sym xs_size) h

    pub weighed_value : sum ≡ start +ℚ dot xs ys
    weighed_value = sums.value start xs ys k sum past g

    pub weighed_fits : SumFits start xs ys
    weighed_fits = sums.fits start xs ys k sum past g

-- ---- equal numbers
both_true : (a b : Bool) → (a && b) ≡ true → (a ≡ true) × (b ≡ true)
both_true true b e = (refl, e)
both_true false b e = absurd cc

pub same_number : (x y : ℚ) → (int_eq x.numer y.numer && int_eq (pos x.denom) (pos y.denom)) ≡ true → x ≡ y
same_number x y e =
    let parts = both_true (int_eq x.numer y.numer) (int_eq (pos x.denom) (pos y.denom)) e in
    same_parts x y ((Decides-int_eq x.numer y.numer).0 parts.0) (let d = (Decides-int_eq (pos x.denom) (pos y.denom)).0 parts.1 in cc)

pub same_test : (x y : ℚ) → x ≡ y → (int_eq x.numer y.numer && int_eq (pos x.denom) (pos y.denom)) ≡ true
same_test x y e =
    (λ i. (Decides-int_eq x.numer y.numer).1 (ap (λ u. u.numer) e) i && (Decides-int_eq (pos x.denom) (pos y.denom)).1 (ap (λ u. pos u.denom) e) i)

pub from_nought : (d : ℚ) → int (pos 0) +ℚ d ≡ d
from_nought d = by_ring (d ∷ []) (search reads depth 30) (search reads depth 30) tt
