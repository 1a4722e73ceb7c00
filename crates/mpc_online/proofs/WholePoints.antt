-- Points in whole numbers, and the tests of rows there.
use Rattle.std.proofs.Common.{◌≡◌, ℕ, zero, suc, ◌-◌, ◌<◌, ◌≤◌, ◌↔◌, List, [], ◌∷◌, length, get_or, pos, Option, Some, None, IfSome, IsTrue, Bool, sym, ◌∙◌, ap, subst, arith}
use Rattle.mpc_exact.specs.Rational.{ℚ, frac, ◌-ℚ◌, ◌<ℚ◌, neg_ℚ}
use Rattle.mpc_frac.specs.Fits.{FitsSum}
use Rattle.mpc_space.specs.Matrix.{height}
use Rattle.mpc_space.proofs.Entries.{length-listed}
use Rattle.mpc_linear.specs.Dot.{DotFits}
use Rattle.mpc_rows.specs.ActiveSets.{row_of}
use Rattle.mpc_rows.specs.declared.programs.Qp.{Qp}
use Rattle.mpc_wholes.specs.declared.numbers.Wholes.{Wholes}
use Rattle.mpc_online.specs.declared.points.Point.{Point}
use Rattle.mpc_online.specs.declared.points.Point.TheVariants.{Whole}
use Rattle.mpc_online.specs.StateRows.{level, side, IsViolated}
use Rattle.mpc_online.specs.Widths.{TestFits}
use Rattle.mpc_wholes.specs.Wholes.{IsOver}
use Rattle.mpc_online.specs.Wholes.{AreRowsOver, entries_of}
use Rattle.mpc_online.proofs.WholeMoves.{first_over}

module _ (p : Point) (w : Wholes) (count : ℕ) (is : p ≡ Whole w count) where
  pub whole_size : length (entries_of p) ≡ count
  whole_size = ap (λ (q : Point). length (entries_of q)) is ∙ length-listed count (λ k. frac (get_or w.numerators k (pos 0)) w.den)

  pub whole_few : length (entries_of p) ≤ 6 → count ≤ 6
  whole_few h = let s = whole_size in omega (arith, s, h)

  pub whole_over : length (entries_of p) ≤ 6 → IsOver (entries_of p) w
  whole_over h = subst (λ (q : Point). IsOver (entries_of q) w) (sym is) (first_over w count (let f = whole_few h in let s = w.at_most.size in omega (arith, f, s)))

pub row_read : (xs : List (Option Wholes)) (i : ℕ) (x : Option Wholes) → i < length xs → x ≡ get_or xs i x → x ≡ get_or xs i None
row_read [] i x h e = absurd (omega arith)
row_read (y ∷ xs) zero x h e = e
row_read (y ∷ xs) (suc i) x h e = row_read xs i x (omega arith) e

module _ (qp : Qp) (i : ℕ) (from : 1 ≤ i) (to : i ≤ height qp.g) where
  within : i - 1 < height qp.g
  within = omega (arith, from, to)

  row_size : length (row_of qp.g.rows i) ≡ height qp.h
  row_size = qp.is_program.g_shape.rectangular (i - 1) [] within ∙ qp.is_program.g_shape.columns_are

  module _ (rows : List (Option Wholes)) (over : AreRowsOver qp.g rows) (o : Option Wholes) (row : Wholes) (o_is : o ≡ get_or rows (i - 1) o) (row_is : o ≡ Some row) where
    row_over : IsOver (row_of qp.g.rows i) row
    row_over =
        let h : i - 1 < length rows = (let s = over.size in let l = within in omega (arith, s, l)) in
        subst (λ (u : Option Wholes). IfSome u (IsOver (row_of qp.g.rows i))) (sym (row_read rows (i - 1) o h o_is) ∙ row_is) (over.at (i - 1) within)

    module _ (p : Point) (w : Wholes) (count : ℕ) (is : p ≡ Whole w count) (p_size : length (entries_of p) ≡ height qp.h) where
      p_few : length (entries_of p) ≤ 6
      p_few = let few = qp.is_program.few_unknowns in omega (arith, p_size, few)

      pub count_few : count ≤ 6
      count_few = whole_few p w count is p_few

      -- what holds of all numbers over these denominators holds of the row and the point
      pub row_and_point : (P : List ℚ → List ℚ → Type 0) → ((xs ys : List ℚ) → IsOver xs row → IsOver ys w → length xs ≡ count → length ys ≡ count → P xs ys) → P (row_of qp.g.rows i) (entries_of p)
      row_and_point P h = h (row_of qp.g.rows i) (entries_of p) row_over (whole_over p w count is p_few) (row_size ∙ sym p_size ∙ whole_size p w count is) (whole_size p w count is)

  module _ (b : List ℚ) (s : ℚ) (side_is : s ≡ side b i) (z : List ℚ) where
    pub test_fits_whole : DotFits (row_of qp.g.rows i) z × FitsSum (level qp z i) (neg_ℚ s) → TestFits qp b z i
    test_fits_whole f = record { product = f.0; difference = subst (λ (x : ℚ). FitsSum (level qp z i) (neg_ℚ x)) side_is f.1 }

    pub violated_whole : (above : Bool) → (IsTrue above ↔ (s <ℚ level qp z i)) → IsTrue above ↔ IsViolated qp b z i
    violated_whole above h = (
      λ t. record { above = subst (λ (x : ℚ). x <ℚ level qp z i) side_is (h.0 t) },
      λ v. h.1 (subst (λ (x : ℚ). x <ℚ level qp z i) (sym side_is) v.above),
    )

    pub excess_whole : (v : ℚ) → v ≡ level qp z i -ℚ s → v ≡ level qp z i -ℚ side b i
    excess_whole v e = e ∙ ap (λ (x : ℚ). level qp z i -ℚ x) side_is
