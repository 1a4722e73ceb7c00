-- Sums of products of whole numbers over two denominators, and what they say of a law.
use Rattle.std.proofs.Common.{◌≡◌, ℕ, ◌+◌, ◌-◌, ◌*◌, ◌^◌, ◌<◌, ◌≤◌, List, [], length, get_or, ℤ, pos, ◌*ℤ◌, unsigned_abs, sym, ◌∙◌, ap, subst, arith, mul-pos, mul-le-mul_right, le_trans, ⊎_elim}
use Rattle.std.proofs.Math.Nat.{mul-le-mul_left}
use Rattle.std.proofs.lemmas.Bool.{cases_lt}
use Rattle.std.proofs.lemmas.List.{get_or_past, get_or-map, length-map}
use Rattle.mpc_exact.specs.Rational.{ℚ, frac, int}
use Rattle.mpc_exact.proofs.School.{frac_expand}
use Rattle.mpc_space.specs.Vector.{coordinate, cell, column, dot}
use Rattle.mpc_space.specs.Matrix.{RationalMatrix, height, entry}
use Rattle.mpc_space.proofs.Matrix.{length-column}
use Rattle.mpc_wholes.specs.declared.numbers.Wholes.{Wholes}
use Rattle.mpc_wholes.specs.Wholes.{AreOver, AreRowsOver}
use Rattle.mpc_wholes.specs.Sums.{IsSummed, AddsDot}
use Rattle.mpc_rows.specs.declared.programs.Qp.{Qp}
use Rattle.mpc_rows.specs.declared.laws.Law.{Law}
use Rattle.mpc_rows.specs.ActiveSets.{row_of, rows_of}
use Rattle.mpc_rows.specs.Laws.{HasLawShape}
use Rattle.mpc_check.specs.declared.numbers.WholeProgram.{WholeProgram}
use Rattle.mpc_check.specs.declared.numbers.LawColumn.{LawColumn}
use Rattle.mpc_check.specs.LawConditions.{moved_at, gradient_at, GradientFits, StationaryMet, ActiveMet}
use Rattle.mpc_check.specs.WholeLaws.{IsSmallDenom, IsProgramOver, IsColumnOver}
use Rattle.mpc_check.proofs.SumLemmas.{from_nought}
use Rattle.mpc_check.proofs.WholeSums.{zero_over}

-- ---- sizes
pub number_small : (x : Wholes) (k : ℕ) → x.most ≤ 2 ^ 61 → unsigned_abs (get_or x.numerators k (pos 0)) ≤ 2 ^ 61
number_small x k h =
    ⊎_elim (λ l. le_trans (x.at_most.numbers k (pos 0) l) h) (λ l. subst (λ z. unsigned_abs z ≤ 2 ^ 61) (sym (get_or_past x.numerators k (pos 0) l)) (omega arith)) (cases_lt k (length x.numerators))

-- a start and the products of six numbers, with at most seven products before them
pub room_for : (x y : Wholes) (s : ℕ) → x.most ≤ 2 ^ 61 → y.most ≤ 2 ^ 61 → s ≤ 7 * (2 ^ 61 * 2 ^ 61) → s + 6 * (x.most * y.most) < 2 ^ 127
room_for x y s h k l = let p : x.most * y.most ≤ 2 ^ 61 * 2 ^ 61 = le_trans (mul-le-mul_right y.most h) (mul-le-mul_left (2 ^ 61) k) in omega (arith, p, l)

pub seven_products : (x y : Wholes) (s t : ℕ) → x.most ≤ 2 ^ 61 → y.most ≤ 2 ^ 61 → s ≤ 2 ^ 122 → t ≤ s + 6 * (x.most * y.most) → t ≤ 7 * (2 ^ 61 * 2 ^ 61)
seven_products x y s t h k l m = let p : x.most * y.most ≤ 2 ^ 61 * 2 ^ 61 = le_trans (mul-le-mul_right y.most h) (mul-le-mul_left (2 ^ 61) k) in omega (arith, p, l, m)

pub row_most : (m : RationalMatrix) (den : ℕ) (rows : List Wholes) → AreRowsOver m den (2 ^ 61) rows → (i : ℕ) → i < height m → (w : Wholes) → w ≡ get_or rows i w → w.most ≤ 2 ^ 61
row_most m den rows over i h w e = subst (λ (z : Wholes). z.most ≤ 2 ^ 61) (sym e) (over.at i w h).most

-- ---- a start over both denominators
pub start_over : (x : ℚ) (z s : ℤ) (d e : ℕ) → IsSmallDenom d → IsSmallDenom e → x ≡ frac z d → s ≡ z *ℤ pos e → frac s (d * e) ≡ x
start_over x z s d e dd de is at = ap (λ n. frac n (d * e)) at ∙ frac_expand z d e dd.some de.some ∙ sym is

-- ---- a column of the members' rows
module _ (qp : Qp) (program : WholeProgram) (over : IsProgramOver qp program) (law : Law) (r k i : ℕ) (line : r < height qp.h) (h : k < length law.set) (member : i ≡ get_or law.set k 0) (low : 1 ≤ i) (high : i ≤ height qp.g) where
  pub member_row : i - 1 < height qp.g
  member_row = omega arith

  row_there : get_or (rows_of qp.g.rows law.set) k [] ≡ get_or qp.g.rows (i - 1) []
  row_there = get_or-map (row_of qp.g.rows) law.set k 0 [] h ∙ ap (row_of qp.g.rows) (sym member)

  in_row : r < length (get_or qp.g.rows (i - 1) [])
  in_row = subst (λ n. r < n) (sym (qp.is_program.g_shape.rectangular (i - 1) [] member_row ∙ qp.is_program.g_shape.columns_are)) line

  pub member_number : (d : Wholes) → cell (rows_of qp.g.rows law.set) k r ≡ frac (get_or (get_or program.g.items (i - 1) d).numerators r (pos 0)) program.den
  member_number d =
      let row = over.g.at (i - 1) d member_row in
      ap (λ row. coordinate row r) row_there ∙ row.over.entries r in_row ∙ ap (frac (get_or (get_or program.g.items (i - 1) d).numerators r (pos 0))) row.den_is

  pub member_most : (d : Wholes) → (get_or program.g.items (i - 1) d).most ≤ 2 ^ 61
  member_most d = (over.g.at (i - 1) d member_row).most

-- ---- the sums of a law's conditions
module _ (qp : Qp) (program : WholeProgram) (over : IsProgramOver qp program) (law : Law) (shape : HasLawShape qp law) (c : ℕ) (col : LawColumn) (col_over : IsColumnOver law c col) (count : c < length qp.counts + 1) where
  abbrev both : ℕ
  both = program.den * col.den

  both_some : 0 < both
  both_some = mul-pos over.denom.some col_over.denom.some

  over_entry : {xs : List ℚ} (x : Wholes) → AreOver xs program.den (2 ^ 61) x → (k : ℕ) → k < length xs → coordinate xs k ≡ frac (get_or x.numerators k (pos 0)) program.den
  over_entry x o k h = o.over.entries k h ∙ ap (frac (get_or x.numerators k (pos 0))) o.den_is

  -- the sum over both denominators
  over_both : {xs ys : List ℚ} (x y : Wholes) → AreOver xs program.den (2 ^ 61) x → AreOver ys col.den (2 ^ 61) y → (n : ℕ) (start total : ℤ) → length xs ≡ n → length ys ≡ n → AddsDot x y n start total
      → IsSummed (frac start both) xs ys (frac total both)
  over_both {xs} {ys} x y ox oy n start total hx hy adds = subst (λ m. IsSummed (frac start m) xs ys (frac total m)) (λ i. ox.den_is i * oy.den_is i) (adds xs ys ox.over oy.over hx hy)

  moves_size : length (column law.moves.rows c) ≡ height qp.h
  moves_size = length-column law.moves.rows c ∙ shape.moves_shape.rows_are

  -- line r of the gradient
  module _ (r : ℕ) (line : r < height qp.h) (f h members : Wholes) (f_is : f ≡ get_or program.f.items r f) (h_is : h ≡ get_or program.h.items r h) (members_over : AreOver (column (rows_of qp.g.rows law.set) r) program.den (2 ^ 61) members)
      (n m : ℕ) (n_is : n ≡ height qp.h) (m_is : m ≡ length law.set) (start moved : ℤ) (start_is : start ≡ get_or f.numerators c (pos 0) *ℤ pos col.den) (adds : AddsDot h col.moves n start moved) where
    in_f : r < height qp.f
    in_f = subst (λ k. r < k) (sym qp.is_program.f_shape.rows_are) line

    f_over : AreOver (get_or qp.f.rows r []) program.den (2 ^ 61) f
    f_over = subst (AreOver (get_or qp.f.rows r []) program.den (2 ^ 61)) (sym f_is) (over.f.at r f in_f)

    f_entry : entry qp.f r c ≡ frac (get_or f.numerators c (pos 0)) program.den
    f_entry = over_entry f f_over c (subst (λ k. c < k) (sym (qp.is_program.f_shape.rectangular r [] in_f ∙ qp.is_program.f_shape.columns_are)) count)

    h_over : AreOver (get_or qp.h.rows r []) program.den (2 ^ 61) h
    h_over = subst (AreOver (get_or qp.h.rows r []) program.den (2 ^ 61)) (sym h_is) (over.h.at r h line)

    h_size : length (get_or qp.h.rows r []) ≡ n
    h_size = qp.is_program.h_shape.rectangular r [] line ∙ qp.is_program.h_shape.columns_are ∙ sym n_is

    moves_sum : IsSummed (entry qp.f r c) (get_or qp.h.rows r []) (column law.moves.rows c) (frac moved both)
    moves_sum =
        subst (λ s. IsSummed s (get_or qp.h.rows r []) (column law.moves.rows c) (frac moved both))
        (start_over (entry qp.f r c) (get_or f.numerators c (pos 0)) start program.den col.den over.denom col_over.denom f_entry start_is)
        (over_both h col.moves h_over col_over.moves n start moved h_size (moves_size ∙ sym n_is) adds)

    members_size : length (column (rows_of qp.g.rows law.set) r) ≡ m
    members_size = length-column (rows_of qp.g.rows law.set) r ∙ length-map law.set (row_of qp.g.rows) ∙ sym m_is

    mults_sum : (total : ℤ) → AddsDot members col.mults m moved total → IsSummed (moved_at qp law r c) (column (rows_of qp.g.rows law.set) r) (column law.mults.rows c) (frac total both)
    mults_sum total more =
        subst (λ s. IsSummed s (column (rows_of qp.g.rows law.set) r) (column law.mults.rows c) (frac total both)) moves_sum.value
        (over_both members col.mults members_over col_over.mults m moved total members_size (length-column law.mults.rows c ∙ shape.mults_shape.rows_are ∙ sym m_is) more)

    pub gradient_value : (total : ℤ) → AddsDot members col.mults m moved total → gradient_at qp law r c ≡ frac total both
    gradient_value total more = sym (mults_sum total more).value

    pub gradient_fits : (total : ℤ) → AddsDot members col.mults m moved total → GradientFits qp law r c
    gradient_fits total more = record { moves = moves_sum.fits; mults = (mults_sum total more).fits }

  -- a line that comes to 0
  pub stationary_met : (r : ℕ) (sum : ℤ) → gradient_at qp law r c ≡ frac sum both → GradientFits qp law r c → sum ≡ pos 0 → StationaryMet qp law r c
  stationary_met r sum value fits e = record { fits_so = fits; holds_so = value ∙ ap (λ z. frac z both) e ∙ zero_over both both_some }

  -- row i
  module _ (i : ℕ) (from_one : 1 ≤ i) (to_last : i ≤ height qp.g) (g w : Wholes) (g_is : g ≡ get_or program.g.items (i - 1) g) (w_is : w ≡ get_or program.w.items (i - 1) w) (n : ℕ) (n_is : n ≡ height qp.h) (side total : ℤ) (side_is : side ≡ get_or w.numerators c (pos 0) *ℤ pos col.den) (adds : AddsDot g col.moves n (pos 0) total) (same : total ≡ side) where
    in_g : i - 1 < height qp.g
    in_g = omega arith

    in_w : i - 1 < height qp.w
    in_w = subst (λ k. i - 1 < k) (sym qp.is_program.w_shape.rows_are) in_g

    w_over : AreOver (get_or qp.w.rows (i - 1) []) program.den (2 ^ 61) w
    w_over = subst (AreOver (get_or qp.w.rows (i - 1) []) program.den (2 ^ 61)) (sym w_is) (over.w.at (i - 1) w in_w)

    w_entry : entry qp.w (i - 1) c ≡ frac (get_or w.numerators c (pos 0)) program.den
    w_entry = over_entry w w_over c (subst (λ k. c < k) (sym (qp.is_program.w_shape.rectangular (i - 1) [] in_w ∙ qp.is_program.w_shape.columns_are)) count)

    g_over : AreOver (get_or qp.g.rows (i - 1) []) program.den (2 ^ 61) g
    g_over = subst (AreOver (get_or qp.g.rows (i - 1) []) program.den (2 ^ 61)) (sym g_is) (over.g.at (i - 1) g in_g)

    g_size : length (get_or qp.g.rows (i - 1) []) ≡ n
    g_size = qp.is_program.g_shape.rectangular (i - 1) [] in_g ∙ qp.is_program.g_shape.columns_are ∙ sym n_is

    row_sum : IsSummed (int (pos 0)) (row_of qp.g.rows i) (column law.moves.rows c) (frac total both)
    row_sum =
        subst (λ s. IsSummed s (row_of qp.g.rows i) (column law.moves.rows c) (frac total both)) (zero_over both both_some)
        (over_both g col.moves g_over col_over.moves n (pos 0) total g_size (moves_size ∙ sym n_is) adds)

    pub active_met : ActiveMet qp law i c
    active_met = record {
      fits_so = row_sum.fits;
      holds_so = sym (row_sum.value ∙ from_nought (dot (row_of qp.g.rows i) (column law.moves.rows c))) ∙ ap (λ z. frac z both) same ∙ start_over (entry qp.w (i - 1) c) (get_or w.numerators c (pos 0)) side program.den col.den over.denom col_over.denom w_entry side_is;
    }
