-- The systems at a node have the rows of its cell first, so their runs go on from the cell's.
use Rattle.std.proofs.Common.{◌≡◌, ℕ, ◌++◌, List, [], ◌∷◌, length, map, Option, Some, None, Result, Ok, Err, IfSome, IfOk, refl, sym, ◌∙◌, ap, subst, Contains, slice_get, option_map}
use Rattle.std.proofs.lemmas.List.{append-nil, append_assoc, length-map}
use Rattle.std.proofs.lemmas.Option.{slice_get-map, slice_get_within, get_or_from_slice_get}
use Rattle.mpc_exact.specs.Rational.{int}
use Rattle.mpc_linear.specs.declared.integers.RowInt.{RowInt}
use Rattle.mpc_rows.specs.declared.programs.Qp.{Qp}
use Rattle.mpc_rows.specs.declared.systems.Row.{Row}
use Rattle.mpc_rows.specs.LinearSystem.{LinearSystem}
use Rattle.mpc_rows.specs.LawRows.{whole_row, broken_row}
use Rattle.mpc_rows.specs.RunWidth.{RunFits}
use Rattle.mpc_rows.specs.SetRuns.{box_rows}
use Rattle.mpc_beginnings.specs.Beginnings.{lengthened}
use Rattle.mpc_systems.specs.Systems.{meet_system, hold_system}
use Rattle.mpc_systems.specs.Writing.{IsOfSize}
use Rattle.mpc_tree.specs.CellRuns.{boxed_cell, IsRunOf, IsRunWith}
use Rattle.mpc_tree.specs.NodeRuns.{HoldsFit}

-- ---- the rows that are put behind a system have its width
module _ (row : RowInt) (r : Row) where
  pub whole_width : r ≡ whole_row row → length r.a ≡ length row.a
  whole_width e = ap (λ (z : Row). length z.a) e ∙ length-map row.a int

  pub whole_fits : (run : Option LinearSystem) → r ≡ whole_row row → IfSome run (λ s. length row.a ≡ s.width) → IfSome run (λ s. length r.a ≡ s.width)
  whole_fits None e h = h
  whole_fits (Some s) e h = whole_width e ∙ h

-- ---- a run that goes on
pub run_with : {E : Type 0} (run : Option LinearSystem) (s : LinearSystem) → run ≡ Some s → (row : Row) (longer : Result (Option LinearSystem) E) → IfOk longer (λ o. IfSome o (λ b. b ≡ lengthened s (row ∷ []))) → IfOk longer (IsRunWith run row)
run_with run s is row (Ok None) h = h
run_with run s is row (Ok (Some b)) h = (s, is, h)
run_with run s is row (Err e) h = h

-- ---- the systems of a cell
module _ (qp : Qp) (cell : List Row) where
  box_width : (boxed_cell qp cell).width ≡ length qp.counts
  unfolding boxed_cell
  box_width = refl

  meets : (rows : List RowInt) → lengthened (boxed_cell qp cell) (map whole_row rows) ≡ meet_system qp cell rows
  unfolding boxed_cell meet_system
  meets rows = λ i. record { width = length qp.counts; rows = append_assoc (box_rows (length qp.counts) qp.counts) cell (map whole_row rows) i }

  narrower : (r : Row) → lengthened (boxed_cell qp cell) (r ∷ []) ≡ boxed_cell qp (cell ++ r ∷ [])
  unfolding boxed_cell
  narrower r = λ i. record { width = length qp.counts; rows = append_assoc (box_rows (length qp.counts) qp.counts) cell (r ∷ []) i }

  holds_side : (row : RowInt) → boxed_cell qp (cell ++ broken_row row ∷ []) ≡ hold_system qp cell row
  unfolding boxed_cell hold_system
  holds_side row = refl

  -- the run of where a row fails is that of the no side of its split
  pub side_run : (row : RowInt) (run : Option LinearSystem) → IfSome run (λ s. s ≡ hold_system qp cell row) → IsRunOf qp (cell ++ broken_row row ∷ []) run
  side_run row None h = h
  side_run row (Some s) h = h ∙ sym (holds_side row)

  module _ (run : Option LinearSystem) (of_cell : IsRunOf qp cell run) where
    -- a run that is kept
    module _ (s : LinearSystem) (is : run ≡ Some s) where
      pub kept : s ≡ boxed_cell qp cell
      kept = subst (λ o. IsRunOf qp cell o) is of_cell

      kept_width : length qp.counts ≡ s.width
      kept_width = sym (ap (λ (z : LinearSystem). z.width) kept ∙ box_width)

      meets_from : (rows : List RowInt) → lengthened s (map whole_row rows) ≡ meet_system qp cell rows
      meets_from rows = ap (λ z. lengthened z (map whole_row rows)) kept ∙ meets rows

      pub holds_from : (row : RowInt) → lengthened s (broken_row row ∷ []) ≡ hold_system qp cell row
      holds_from row = ap (λ z. lengthened z (broken_row row ∷ [])) kept ∙ narrower (broken_row row) ∙ holds_side row

      -- rows that are kept as a system
      module _ (rows : List RowInt) (w : ℕ) (wide : w ≡ length qp.counts) (t : LinearSystem) (e : t ≡ record { width = w; rows = map whole_row rows }) where
        pub behind_width : t.width ≡ s.width
        behind_width = ap (λ (u : LinearSystem). u.width) e ∙ wide ∙ kept_width

        pub behind_rows : lengthened s t.rows ≡ meet_system qp cell rows
        behind_rows = ap (λ (u : LinearSystem). lengthened s u.rows) e ∙ meets_from rows

        pub behind_holds : ((row : RowInt) → Contains t.rows (whole_row row) → RunFits (lengthened s (broken_row row ∷ []))) → HoldsFit qp cell rows (length rows)
        behind_holds h i row l k =
            let at : slice_get (map whole_row rows) i ≡ Some (whole_row row) = slice_get-map whole_row rows i ∙ ap (option_map whole_row) k in
            let inside : Contains (map whole_row rows) (whole_row row) = (i, slice_get_within (map whole_row rows) i (whole_row row) at, get_or_from_slice_get (map whole_row rows) i (whole_row row) (whole_row row) at) in
            subst RunFits (holds_from row) (h row (subst (λ rs. Contains rs (whole_row row)) (sym (ap (λ (u : LinearSystem). u.rows) e)) inside))

      pub row_size : (row : RowInt) → IsOfSize (length qp.counts) row → length row.a ≡ s.width
      row_size row h = h.size ∙ kept_width

    pub row_fits : (row : RowInt) → length row.a ≡ length qp.counts → IfSome run (λ s. length row.a ≡ s.width)
    row_fits row e = by run of_cell
      where
        by : (run : Option LinearSystem) → IsRunOf qp cell run → IfSome run (λ s. length row.a ≡ s.width)
        by None h = h
        by (Some s) h = e ∙ sym (ap (λ (z : LinearSystem). z.width) h ∙ box_width)

    -- one more row
    pub narrowed : (r : Row) (longer : Option LinearSystem) → IsRunWith run r longer → IsRunOf qp (cell ++ r ∷ []) longer
    narrowed r None w = w
    narrowed r (Some s) w = w.2 ∙ ap (λ z. lengthened z (r ∷ [])) (kept w.0 w.1) ∙ narrower r

-- ---- a cell whose run is begun anew
module _ (qp : Qp) (cell : List Row) where
  no_more : meet_system qp cell [] ≡ boxed_cell qp cell
  unfolding boxed_cell meet_system
  no_more = λ i. record { width = length qp.counts; rows = box_rows (length qp.counts) qp.counts ++ append-nil cell i }

  pub own_run : (s : LinearSystem) → s ≡ meet_system qp cell [] → (run : Option LinearSystem) → IfSome run (λ b. b ≡ s) → IsRunOf qp cell run
  own_run s e None h = h
  own_run s e (Some b) h = h ∙ e ∙ no_more
