-- The rows of a swept table are the rows of the law that it shows, and all numbers of theirs fit.
use Rattle.std.proofs.Common.{◌≡◌, ℕ, suc, ◌+◌, ◌-◌, ◌*◌, ◌^◌, ◌<◌, ◌≤◌, List, [], ◌∷◌, ◌++◌, length, get_or, ℤ, pos, ◌*ℤ◌, neg_ℤ, unsigned_abs, refl, sym, ◌∙◌, ap, subst, arith, ⊎_elim, mul-pos, mul-le-mul_left, mul-le-mul_right, le_trans}
use Rattle.std.proofs.lemmas.Bool.{cases_lt}
use Rattle.std.proofs.lemmas.List.{length-append, get_or_append_left}
use Rattle.std.proofs.Math.Seq.{get_or-append_seam}
use Rattle.mpc_exact.specs.Rational.{ℚ, int, frac, neg_ℚ, ◌*ℚ◌}
use Rattle.mpc_exact.proofs.Rational.{frac-mul, frac-neg}
use Rattle.mpc_exact.proofs.RationalRing.{reads, by_ring}
use Rattle.mpc_exact.proofs.School.{frac_expand}
use Rattle.mpc_space.specs.Vector.{coordinate, column, later_entries}
use Rattle.mpc_space.specs.Matrix.{height}
use Rattle.mpc_sets.specs.RowSet.{IsSetOfRows}
use Rattle.mpc_linear.specs.declared.integers.RowInt.{RowInt}
use Rattle.mpc_linear.specs.Dot.{SumFits}
use Rattle.mpc_linear.specs.Whole.{WholeFits}
use Rattle.mpc_rows.specs.declared.programs.Qp.{Qp}
use Rattle.mpc_rows.specs.declared.laws.Law.{Law}
use Rattle.mpc_rows.specs.ActiveSets.{row_of}
use Rattle.mpc_rows.specs.LawRows.{law_form, law_sides, law_bound, IsLawRow, AreLawRows, LawRowFits}
use Rattle.mpc_rows.specs.SetRuns.{LawRowsFit}
use Rattle.mpc_rows.specs.LinearSystem.{LinearSystem}
use Rattle.mpc_quotients.specs.OverTheorems.{OverTheorems}
use Rattle.mpc_sweep.specs.declared.numbers.Swept.{Swept}
use Rattle.mpc_sweep.specs.Sweeps.{swept}
use Rattle.mpc_sweep.specs.Theorems.{RowIsReduced}
use Rattle.mpc_region.specs.Shared.{shared_entry}
use Rattle.mpc_region.specs.Sweeps.{sweeps_of, rights, IsTableOf, swept_law}
use Rattle.mpc_region.specs.SweptRows.{number_from, IsRowFrom, AreRowsOf}
use Rattle.mpc_region.proofs.LawRowLists.{no_row}
use Rattle.mpc_region.proofs.SweptDivisors.{abs_negated, abs_product}
use Rattle.mpc_region.proofs.SweptRows.{AreFilled, HasFilled, row_primitive, row_scaled}
use Rattle.mpc_region.proofs.SweptFits.{Over, sum_fits, whole_fits}
use Rattle.mpc_region.proofs.SharedEntries.{member_line, right_line}
use Rattle.mpc_region.proofs.SweptForms.{shown_law, swept_law_is, move_entry, row_length, form_at, form_size}

later_at : (xs : List ℚ) (j : ℕ) → coordinate (later_entries xs) j ≡ coordinate xs (suc j)
later_at [] j = refl
later_at (x ∷ xs) j = refl

later_size : (xs : List ℚ) (k : ℕ) → length xs ≡ k + 1 → length (later_entries xs) ≡ k
later_size [] k e = absurd (omega arith)
later_size (x ∷ xs) k e = omega arith

twice_turned : (x : ℚ) → neg_ℚ (neg_ℚ x) ≡ x
twice_turned x = by_ring (x ∷ []) (search reads depth 30) (search reads depth 30) tt

module _ (reduced : RowIsReduced) (over : OverTheorems) (qp : Qp) (s : List ℕ) (table : Swept) (set : IsSetOfRows (height qp.g) s) (is : IsTableOf qp s (rights qp) table) where
  abbrev n : ℕ
  n = height qp.h

  abbrev m : ℕ
  m = height qp.g

  abbrev width : ℕ
  width = length qp.counts

  abbrev law : Law
  law = shown_law qp s

  -- ---- the table's numbers
  small : (r j : ℕ) → unsigned_abs (number_from table r (rights qp) j) ≤ 2 ^ 62
  small r j = is.table.small.each _

  den_some : 0 < table.den
  den_some = is.table.some_den

  entry_at : (r j : ℕ) → r < n + m → j < width + 1 → swept (shared_entry qp) (sweeps_of qp s) r (rights qp + j) ≡ frac (number_from table r (rights qp) j) table.den
  entry_at r j h l = is.entries r (rights qp + j) h (omega arith) (omega arith)

  -- over the scale before the first sweep, and the denominator
  abbrev scale : ℕ
  scale = is.whole.scale

  both_some : 0 < scale * table.den
  both_some = mul-pos is.whole.some_scale den_some

  both_small : scale * table.den ≤ 2 ^ 62 * 2 ^ 62
  both_small = le_trans (mul-le-mul_left scale is.table.small_den) (mul-le-mul_right (2 ^ 62) is.whole.small_scale)

  -- ---- row i of the law
  module _ (i : ℕ) (from_one : 1 ≤ i) (to_last : i ≤ m) where
    abbrev r : ℕ
    r = n + (i - 1)

    r_in : r < n + m
    r_in = omega arith

    abbrev f : ℕ → ℤ
    f = number_from table r (rights qp)

    form_is : (j : ℕ) → j < width + 1 → coordinate (law_form qp law i) j ≡ frac (neg_ℤ (f j)) table.den
    form_is j h = form_at reduced qp s set is.rising is.pivots i from_one to_last j h ∙ ap neg_ℚ (entry_at r j r_in h) ∙ frac-neg (f j) table.den den_some

    sides_size : length (law_sides qp law i) ≡ width
    sides_size = later_size (law_form qp law i) width (form_size reduced qp s set is.rising is.pivots i from_one to_last)

    side_is : (j : ℕ) → j < width → coordinate (law_sides qp law i) j ≡ frac (neg_ℤ (f (suc j))) table.den
    side_is j h = later_at (law_form qp law i) j ∙ form_is (suc j) (omega arith)

    bound_is : law_bound qp law i ≡ frac (f 0) table.den
    bound_is =
        ap neg_ℚ (form_at reduced qp s set is.rising is.pivots i from_one to_last 0 (omega arith)) ∙ twice_turned (swept (shared_entry qp) (sweeps_of qp s) r (rights qp + 0))
        ∙ entry_at r 0 r_in (omega arith)

    law_row : (row : RowInt) → IsRowFrom f width row → IsLawRow qp law i row
    law_row row h = record {
      multiple = row_scaled f width row h (law_sides qp law i) (law_bound qp law i) table.den den_some sides_size side_is bound_is;
      primitive = row_primitive f width row h;
    }

    -- ---- its numbers fit
    whole_at : (k : ℕ) → k < length (law_sides qp law i ++ law_bound qp law i ∷ []) → Over table.den (2 ^ 62) (coordinate (law_sides qp law i ++ law_bound qp law i ∷ []) k)
    whole_at k h = ⊎_elim
        (λ l. record {
          at = neg_ℤ (f (suc k));
          is = get_or_append_left (law_sides qp law i) (law_bound qp law i ∷ []) (int (pos 0)) k (omega (arith, sides_size)) ∙ side_is k l;
          small = subst (λ y. y ≤ 2 ^ 62) (sym (abs_negated (f (suc k)))) (small r (suc k));
        })
        (λ l.
        let e : k ≡ length (law_sides qp law i) = omega (arith, sides_size, length-append (law_sides qp law i) (law_bound qp law i ∷ [])) in
        record {
          at = f 0;
          is = ap (coordinate (law_sides qp law i ++ law_bound qp law i ∷ [])) e ∙ get_or-append_seam (law_sides qp law i) (law_bound qp law i) [] (int (pos 0)) ∙ bound_is;
          small = small r 0;
        })
        (cases_lt k width)

    whole : WholeFits (law_sides qp law i ++ law_bound qp law i ∷ [])
    whole = whole_fits table.den den_some (2 ^ 62) (let b = is.table.small_den in omega arith) (omega arith) (law_sides qp law i ++ law_bound qp law i ∷ []) whole_at

    start_is : (j : ℕ) → j < width + 1 → neg_ℚ (coordinate (row_of qp.w.rows i) j) ≡ frac (neg_ℤ (is.whole.numbers r (rights qp + j)) *ℤ pos table.den) (scale * table.den)
    start_is j h =
        ap neg_ℚ (sym (right_line qp i j) ∙ is.whole.entries r (rights qp + j) r_in (omega arith))
        ∙ frac-neg (is.whole.numbers r (rights qp + j)) scale is.whole.some_scale
        ∙ sym (frac_expand (neg_ℤ (is.whole.numbers r (rights qp + j))) scale table.den is.whole.some_scale den_some)

    start_small : (j : ℕ) → j < width + 1 → unsigned_abs (neg_ℤ (is.whole.numbers r (rights qp + j)) *ℤ pos table.den) ≤ 2 ^ 58 * 2 ^ 62
    start_small j h =
        abs_product (neg_ℤ (is.whole.numbers r (rights qp + j))) (pos table.den) (2 ^ 58) (2 ^ 62)
        (subst (λ y. y ≤ 2 ^ 58) (sym (abs_negated (is.whole.numbers r (rights qp + j)))) (is.whole.small r (rights qp + j) r_in (omega arith))) is.table.small_den

    product_is : (j k : ℕ) → j < width + 1 → k < n → Over (scale * table.den) (2 ^ 58 * 2 ^ 62) (coordinate (row_of qp.g.rows i) k *ℚ coordinate (column law.moves.rows j) k)
    product_is j k h l = record {
      at = is.whole.numbers r k *ℤ number_from table k (rights qp) j;
      is = (λ u. (sym (member_line qp i k l) ∙ is.whole.entries r k r_in (omega arith)) u
          *ℚ (move_entry qp s k j l h ∙ entry_at k j (omega arith) h) u)
          ∙ frac-mul (is.whole.numbers r k) scale (number_from table k (rights qp) j) table.den is.whole.some_scale den_some;
      small = abs_product (is.whole.numbers r k) (number_from table k (rights qp) j) (2 ^ 58) (2 ^ 62) (is.whole.small r k r_in (omega arith)) (small k j);
    }

    coefficient_fits : (j : ℕ) → j < width + 1 → SumFits (neg_ℚ (coordinate (row_of qp.w.rows i) j)) (row_of qp.g.rows i) (column law.moves.rows j)
    coefficient_fits j h =
        let z = neg_ℤ (is.whole.numbers r (rights qp + j)) *ℤ pos table.den in
        subst (λ x. SumFits x (row_of qp.g.rows i) (column law.moves.rows j)) (sym (start_is j h))
        (sum_fits over (scale * table.den) both_some (let b = both_small in omega arith) (2 ^ 58 * 2 ^ 62) (row_of qp.g.rows i) (column law.moves.rows j) z
        (let a : unsigned_abs z ≤ 2 ^ 58 * 2 ^ 62 = start_small j h in let b = row_length qp i in let c = qp.is_program.few_unknowns in room (unsigned_abs z) (length (row_of qp.g.rows i)) a (omega arith))
        (λ k l. let b = row_length qp i in product_is j k h (omega arith)))
      where
        room : (a k : ℕ) → a ≤ 2 ^ 58 * 2 ^ 62 → k ≤ 6 → a + k * (2 ^ 58 * 2 ^ 62) < 2 ^ 127
        room a k h l = omega arith

    law_row_fits : LawRowFits qp law i
    law_row_fits = record { form = λ outside j h. coefficient_fits j h; whole = whole }

  -- ---- all rows
  pub law_rows : (k : ℕ) (rows : List RowInt) → k ≡ m → AreFilled (λ r. number_from table (n + r) (rights qp)) width k rows → AreLawRows qp (swept_law qp s) rows
  law_rows k rows h a = subst (λ l. AreLawRows qp l rows) (sym (swept_law_is qp s)) (record {
    one_each = a.one_each ∙ h;
    each = λ r l. law_row (r + 1) (omega arith) (omega arith) (get_or rows r no_row) (subst (λ q. IsRowFrom (number_from table (n + q) (rights qp)) width (get_or rows r no_row)) (omega arith) (a.each r (omega arith)));
  })

  pub law_system : (k : ℕ) (t : LinearSystem) → k ≡ m → HasFilled (λ r. number_from table (n + r) (rights qp)) width k t → AreRowsOf qp (swept_law qp s) t
  law_system k t h a = record { list = a.list; of_law = law_rows k a.list h a.filled; width = a.width_is; rows = a.rows }

  pub law_fits : LawRowsFit qp (swept_law qp s) m
  law_fits = subst (λ l. LawRowsFit qp l m) (sym (swept_law_is qp s)) (λ i a b. law_row_fits i a b)
