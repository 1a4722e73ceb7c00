-- The runs of a search by their places are those that the tree speaks of.
use Rattle.std.proofs.Common.{◌≡◌, ℕ, suc, ◌+◌, ◌-◌, ◌<◌, ◌≤◌, ◌⊎◌, inl, inr, List, [], ◌∷◌, ◌++◌, length, Some, slice_get, refl, sym, ◌∙◌, subst, arith}
use Rattle.std.specs.Prelude.{All}
use Rattle.std.proofs.lemmas.Bool.{cases_lt}
use Rattle.std.proofs.lemmas.List.{length-append}
use Rattle.std.proofs.lemmas.List.Elements.{All-nil, All-cons, All-head, All-append}
use Rattle.std.proofs.lemmas.Option.{slice_get_within, get_or_from_slice_get}
use Rattle.mpc_exact.specs.Rational.{ℚ}
use Rattle.mpc_space.specs.Matrix.{height}
use Rattle.mpc_linear.specs.declared.integers.RowInt.{RowInt}
use Rattle.mpc_rows.specs.declared.programs.Qp.{Qp}
use Rattle.mpc_rows.specs.declared.laws.Law.{Law}
use Rattle.mpc_rows.specs.declared.systems.Row.{Row}
use Rattle.mpc_rows.specs.declared.trees.Node.{Node}
use Rattle.mpc_rows.specs.declared.trees.Node.TheVariants.{Split, Law as LawLeaf, NoMove}
use Rattle.mpc_rows.specs.declared.places.Place.{Place}
use Rattle.mpc_rows.specs.declared.places.Place.TheVariants.{Meet, Holds, Joint}
use Rattle.mpc_rows.specs.LinearSystem.{LinearSystem, MeetsRow, IsPoint}
use Rattle.mpc_rows.specs.RunWidth.{RunFits}
use Rattle.mpc_rows.specs.Laws.{IsLaw, IsInRegion}
use Rattle.mpc_rows.specs.LawRows.{AreLawRows, whole_row, broken_row}
use Rattle.mpc_rows.specs.LawTheorems.{LawTheorems}
use Rattle.mpc_systems.specs.CellTheorems.{CellTheorems}
use Rattle.mpc_systems.specs.Systems.{meet_system, hold_system, joint_system}
use Rattle.mpc_tree.specs.Cells.{IsInCell, RegionMeets, FailsOn, NoneMeetsBefore, IsFirstToMeet, NoneFailsBefore}
use Rattle.mpc_tree.specs.Certified.{AreLaws, FitsNotWide}
use Rattle.mpc_tree.specs.Trees.{Cell, whole_box, yes_side, no_side, leaf, split}
use Rattle.mpc_tree.specs.NodeRuns.{MeetFits, MeetsFit, HoldsFit, DividesAndFits, EndsAndFits, IsFittingTree}
use Rattle.mpc_tree.specs.WideRuns.{IsWideAt, IsFirstWide, here, in_yes, in_no}
use Rattle.mpc_theorem.specs.Firsts.{IsFirstOf, numbered}
use Rattle.mpc_theorem.specs.SearchRuns.{IsRowOf, IsRunAt, Finds, Passes, law_runs, IsWideNode, SearchNode, AreInPreorder, NodeFits}
use Rattle.mpc_theorem.proofs.FirstLemmas.{first_left, first_right, first_parts, all_left, all_right, all_at, at_all, each_numbered, numbered_each, IsFirstNumber, to_number, of_number}
use Rattle.mpc_theorem.proofs.RowPlaces.{some_at, same_some}

back : (m : ℕ) → suc m - 1 ≡ m
back m = omega arith

-- ---- places
same_law : {n m l k : ℕ} → Meet n l ≡ Meet m k → l ≡ k
same_law e = cc

same_law_of : {n m l k i j : ℕ} → Holds n l i ≡ Holds m k j → l ≡ k
same_law_of e = cc

same_row : {n m l k i j : ℕ} → Holds n l i ≡ Holds m k j → i ≡ j
same_row e = cc

meet_not_joint : {n m l : ℕ} → Meet n l ≡ Joint m → ⊥
meet_not_joint e = cc

hold_not_joint : {n m l i : ℕ} → Holds n l i ≡ Joint m → ⊥
hold_not_joint e = cc

hold_not_meet : {n m l k i : ℕ} → Holds n l i ≡ Meet m k → ⊥
hold_not_meet e = cc

-- ---- cells
module _ (qp : Qp) (cell : List Row) (r : Row) where
  in_front : (law : Law) → RegionMeets qp (cell ++ r ∷ []) law → RegionMeets qp cell law
  in_front law m = record { state = m.state; in_cell = record { in_box = m.in_cell.in_box; meets = all_left (MeetsRow m.state) cell (r ∷ []) m.in_cell.meets }; in_region = m.in_region }

  meets_last : (t : List ℚ) → IsInCell qp (cell ++ r ∷ []) t → MeetsRow t r
  meets_last t c = All-head (MeetsRow t) r [] (all_right (MeetsRow t) cell (r ∷ []) c.meets)

module _ (points : CellTheorems) (single : LawTheorems) (qp : Qp) (laws : List Law) (are : AreLaws qp laws) where
  own : (p : ℕ) (law : Law) → slice_get laws p ≡ Some law → IsLaw qp law
  own p law at = are law (p, slice_get_within laws p law at, get_or_from_slice_get laws p law law at)

  law_there : (p q : ℕ) (law : Law) → p ≡ q → slice_get laws p ≡ Some law → slice_get laws q ≡ Some law
  law_there p q law = subst (λ k. slice_get laws k ≡ Some law)

  row_there : (rows : List RowInt) (p q : ℕ) (row : RowInt) → p ≡ q → slice_get rows p ≡ Some row → slice_get rows q ≡ Some row
  row_there rows p q row = subst (λ k. slice_get rows k ≡ Some row)

  abbrev HasPoint : LinearSystem → Type 0
  HasPoint system = (v : List ℚ) × IsPoint system v

  -- no law up to the cell's next meets it
  abbrev IsReady : Cell → Type 0
  IsReady cell = NoneMeetsBefore qp laws cell.rows cell.next

  row_in_region : (law : Law) → IsLaw qp law → (rows : List RowInt) → AreLawRows qp law rows → (t : List ℚ) → IsInRegion qp law t → (k : ℕ) (row : RowInt) → slice_get rows k ≡ Some row → MeetsRow t (whole_row row)
  row_in_region law is rows of t within k row at = at_all (λ r. MeetsRow t (whole_row r)) rows k row ((points.region_rows qp law is rows of t).0 within).1 at

  -- ---- what a run at a cell finds
  module _ (cell : Cell) where
    module _ (law : Law) (is : IsLaw qp law) (rows : List RowInt) (of : AreLawRows qp law rows) where
      met_point : RegionMeets qp cell.rows law → HasPoint (meet_system qp cell.rows rows)
      met_point m = (m.state, (points.meet_points qp law is rows of cell.rows m.state).0 (m.in_cell.meets, m.in_region))

      met_at : (t : List ℚ) → All (MeetsRow t) cell.rows × IsInRegion qp law t → RegionMeets qp cell.rows law
      met_at t p = record { state = t; in_cell = record { in_box = p.1.in_box; meets = p.0 }; in_region = p.1 }

      point_met : HasPoint (meet_system qp cell.rows rows) → RegionMeets qp cell.rows law
      point_met p = met_at p.0 ((points.meet_points qp law is rows of cell.rows p.0).1 p.1)

    fails_point : (row : RowInt) → FailsOn qp cell.rows row → HasPoint (hold_system qp cell.rows row)
    fails_point row f = (f.state, (points.hold_points qp cell.rows row f.state).0 (f.in_cell.in_box, f.in_cell.meets, f.fails))

    point_fails : (row : RowInt) → HasPoint (hold_system qp cell.rows row) → FailsOn qp cell.rows row
    point_fails row p = let h = (points.hold_points qp cell.rows row p.0).1 p.1 in record { state = p.0; in_cell = record { in_box = h.0; meets = h.1 }; fails = h.2 }

    -- a law's run
    module _ (number l p : ℕ) (law : Law) (e : l - 1 ≡ p) (at : slice_get laws p ≡ Some law) where
      meet_run : (system : LinearSystem) → IsRunAt qp laws cell (Meet number l) system → (rows : List RowInt) × AreLawRows qp law rows × (system ≡ meet_system qp cell.rows rows)
      meet_run system (other, other_at, rows, of, is) =
          let same : other ≡ law = same_some (sym (law_there (l - 1) p other e other_at) ∙ at) in
          (rows, subst (λ l. AreLawRows qp l rows) same of, is)

      passes_law : Passes qp laws cell (Meet number l) → (¬ RegionMeets qp cell.rows law) × MeetFits qp cell.rows law
      passes_law (system, run, fits, none) =
          let r = meet_run system run in
          (λ m. none (subst HasPoint (sym r.2) (met_point law (own p law at) r.0 r.1 m)), record { rows = r.0; of_law = r.1; fits = subst RunFits r.2 fits })

      finds_law : Finds qp laws cell (Meet number l) → RegionMeets qp cell.rows law × MeetFits qp cell.rows law
      finds_law (system, run, fits, v, point) =
          let r = meet_run system run in
          (point_met law (own p law at) r.0 r.1 (subst HasPoint r.2 (v, point)), record { rows = r.0; of_law = r.1; fits = subst RunFits r.2 fits })

      is_meet_run : (rows : List RowInt) → AreLawRows qp law rows → IsRunAt qp laws cell (Meet number l) (meet_system qp cell.rows rows)
      is_meet_run rows of = (law, law_there p (l - 1) law (sym e) at, rows, of, refl)

      law_passes : (¬ RegionMeets qp cell.rows law) → MeetFits qp cell.rows law → Passes qp laws cell (Meet number l)
      law_passes none f = (meet_system qp cell.rows f.rows, is_meet_run f.rows f.of_law, f.fits, λ h. none (point_met law (own p law at) f.rows f.of_law h))

      law_found : RegionMeets qp cell.rows law → MeetFits qp cell.rows law → Finds qp laws cell (Meet number l)
      law_found m f =
          let point = met_point law (own p law at) f.rows f.of_law m in
          (meet_system qp cell.rows f.rows, is_meet_run f.rows f.of_law, f.fits, point.0, point.1)

    -- a row's run
    module _ (number l i p k : ℕ) (law : Law) (e : l - 1 ≡ p) (at : slice_get laws p ≡ Some law) (rows : List RowInt) (of : AreLawRows qp law rows) (row : RowInt) (f : i - 1 ≡ k) (row_at : slice_get rows k ≡ Some row) where
      one_row : (other : RowInt) → IsRowOf qp laws l i other → other ≡ row
      one_row other (second, second_at, others, of_second, other_at) =
          let law_same : second ≡ law = same_some (sym (law_there (l - 1) p second e second_at) ∙ at) in
          let rows_same : others ≡ rows = single.law_rows_unique qp law others rows (subst (λ l. AreLawRows qp l others) law_same of_second) of in
          same_some (sym (row_there rows (i - 1) k other f (subst (λ xs. slice_get xs (i - 1) ≡ Some other) rows_same other_at)) ∙ row_at)

      hold_run : (system : LinearSystem) → IsRunAt qp laws cell (Holds number l i) system → system ≡ hold_system qp cell.rows row
      hold_run system (other, is_row, is) = subst (λ r. system ≡ hold_system qp cell.rows r) (one_row other is_row) is

      passes_row : Passes qp laws cell (Holds number l i) → (¬ FailsOn qp cell.rows row) × RunFits (hold_system qp cell.rows row)
      passes_row (system, run, fits, none) =
          let is = hold_run system run in
          (λ g. none (subst HasPoint (sym is) (fails_point row g)), subst RunFits is fits)

      finds_row : Finds qp laws cell (Holds number l i) → FailsOn qp cell.rows row × RunFits (hold_system qp cell.rows row)
      finds_row (system, run, fits, v, point) =
          let is = hold_run system run in
          (point_fails row (subst HasPoint is (v, point)), subst RunFits is fits)

      is_row : IsRowOf qp laws l i row
      is_row = (law, law_there p (l - 1) law (sym e) at, rows, of, row_there rows k (i - 1) row (sym f) row_at)

      row_passes : (¬ FailsOn qp cell.rows row) → RunFits (hold_system qp cell.rows row) → Passes qp laws cell (Holds number l i)
      row_passes none fits = (hold_system qp cell.rows row, (row, is_row, refl), fits, λ h. none (point_fails row h))

      row_found : FailsOn qp cell.rows row → RunFits (hold_system qp cell.rows row) → Finds qp laws cell (Holds number l i)
      row_found g fits = let point = fails_point row g in (hold_system qp cell.rows row, (row, is_row, refl), fits, point.0, point.1)

  -- ---- the runs of a node in order
  module _ (number : ℕ) (cell : Cell) where
    abbrev P : Place → Type 0
    P = Passes qp laws cell

    abbrev count : ℕ
    count = length laws - cell.next

    abbrev law_list : List Place
    law_list = numbered (Meet number) (suc cell.next) count

    abbrev row_list : ℕ → List Place
    row_list l = numbered (Holds number l) 1 (height qp.g)

    first_law : (place : Place) → (place ≡ Joint number → ⊥) → IsFirstOf P (law_runs laws number cell) place → IsFirstNumber P (Meet number) (suc cell.next) count place
    first_law place other h = by (first_parts P law_list (Joint number ∷ []) place h)
      where
        by : IsFirstOf P law_list place ⊎ (All P law_list × IsFirstOf P (Joint number ∷ []) place) → IsFirstNumber P (Meet number) (suc cell.next) count place
        by (inl k) = to_number P (Meet number) (suc cell.next) count place k
        by (inr (all, inl k)) = absurd (other k.0)
        by (inr (all, inr k)) = absurd k.1

    -- those of the laws before law l pass
    abbrev ArePassed : ℕ → Type 0
    ArePassed l = (j : ℕ) → suc cell.next ≤ j → j < l → P (Meet number j)

    none_before : IsReady cell → (l : ℕ) → ArePassed l → NoneMeetsBefore qp laws cell.rows (l - 1)
    none_before ready l passed i law below at = by (cases_lt i cell.next)
      where
        by : (i < cell.next) ⊎ (cell.next ≤ i) → ¬ RegionMeets qp cell.rows law
        by (inl low) = ready i law low at
        by (inr high) = (passes_law cell number (suc i) i law (back i) at (passed (suc i) (omega (arith, high)) (omega (arith, below)))).0

    fit_before : (l : ℕ) → ArePassed l → MeetsFit qp laws cell (l - 1)
    fit_before l passed i law from below at = (passes_law cell number (suc i) i law (back i) at (passed (suc i) (omega (arith, from)) (omega (arith, below)))).1

    all_passed : All P law_list → ArePassed (suc (length laws))
    all_passed all j low high = each_numbered P (Meet number) (suc cell.next) count j all low (omega (arith, low, high))

    passed : (p j : ℕ) → NoneMeetsBefore qp laws cell.rows p → MeetsFit qp laws cell p → p ≤ length laws → suc cell.next ≤ j → j < suc p → P (Meet number j)
    passed p j none fit within low high =
        let other = some_at laws (j - 1) (omega (arith, low, high, within)) in
        law_passes cell number j (j - 1) other.0 refl other.1 (none (j - 1) other.0 (omega (arith, low, high)) other.1) (fit (j - 1) other.0 (omega (arith, low)) (omega (arith, low, high)) other.1)

    first_at : (l p : ℕ) → l ≡ p + 1 → cell.next ≤ p → p < length laws → NoneMeetsBefore qp laws cell.rows p → MeetsFit qp laws cell p → (P (Meet number l) → ⊥) → IsFirstOf P (law_runs laws number cell) (Meet number l)
    first_at l p e reached within none fit stops =
        first_left P law_list (Joint number ∷ []) (Meet number l) (of_number P (Meet number) (suc cell.next) count (Meet number l) (record {
          number = l;
          low = omega (arith, e, reached);
          high = omega (arith, e, reached, within);
          is = refl;
          before = λ j low high. passed p j none fit (omega (arith, within)) low (omega (arith, high, e));
          here = stops;
        }))

    some_law : (l : ℕ) → IsFirstOf P (law_runs laws number cell) (Meet number l) → l ≡ l - 1 + 1
    some_law l h =
        let f = first_law (Meet number l) meet_not_joint h in
        let same : l ≡ f.number = same_law f.is in
        let low = f.low in
        omega (arith, same, low)

    passed_first : (l : ℕ) → IsFirstOf P (law_runs laws number cell) (Meet number l) → ArePassed l
    passed_first l h j low high =
        let f = first_law (Meet number l) meet_not_joint h in
        let same : l ≡ f.number = same_law f.is in
        f.before j low (omega (arith, same, high))

    -- the law that is met
    to_met : IsReady cell → (l p : ℕ) → l ≡ p + 1 → IsFirstOf P (law_runs laws number cell) (Meet number l) → Finds qp laws cell (Meet number l) → (law : Law) × IsFirstToMeet qp laws cell.rows p law × MeetsFit qp laws cell (p + 1)
    to_met ready l p e first (system, (law, at, rows, of, is), fits, v, point) =
        (law, record { is = there; meets = one.0; before = λ i other below. none_before ready l before i other (omega (arith, below, e)) }, fit)
      where
        there : slice_get laws p ≡ Some law
        there = law_there (l - 1) p law (omega (arith, e)) at

        one : RegionMeets qp cell.rows law × MeetFits qp cell.rows law
        one = finds_law cell number l p law (omega (arith, e)) there (system, (law, at, rows, of, is), fits, v, point)

        before : ArePassed l
        before = passed_first l first

        fit : MeetsFit qp laws cell (p + 1)
        fit i other from below other_at = by (cases_lt i p)
          where
            by : (i < p) ⊎ (p ≤ i) → MeetFits qp cell.rows other
            by (inl low) = fit_before l before i other from (omega (arith, low, e)) other_at
            by (inr high) = subst (MeetFits qp cell.rows) (same_some (sym (law_there p i law (omega (arith, high, below)) there) ∙ other_at)) one.1

    reaches : IsReady cell → (p : ℕ) (law : Law) → IsFirstToMeet qp laws cell.rows p law → cell.next ≤ p
    reaches ready p law first = by (cases_lt p cell.next)
      where
        by : (p < cell.next) ⊎ (cell.next ≤ p) → cell.next ≤ p
        by (inl low) = absurd (ready p law low first.is first.meets)
        by (inr high) = high

    of_met : IsReady cell → (l p : ℕ) (law : Law) → l ≡ p + 1 → IsFirstToMeet qp laws cell.rows p law → MeetsFit qp laws cell (p + 1) → IsFirstOf P (law_runs laws number cell) (Meet number l)
    of_met ready l p law e first fit =
        let reached = reaches ready p law first in
        let back_at : l - 1 ≡ p = omega (arith, e) in
        first_at l p e reached (slice_get_within laws p law first.is) first.before (λ i other from below at. fit i other from (omega (arith, below)) at) (λ h. (passes_law cell number l p law back_at first.is h).0 first.meets)

    of_finds : IsReady cell → (l p : ℕ) (law : Law) → l ≡ p + 1 → IsFirstToMeet qp laws cell.rows p law → MeetsFit qp laws cell (p + 1) → Finds qp laws cell (Meet number l)
    of_finds ready l p law e first fit = law_found cell number l p law (omega (arith, e)) first.is first.meets (fit p law (reaches ready p law first) (omega arith) first.is)

    -- the rows of a law at this place
    module _ (l p : ℕ) (law : Law) (e : l - 1 ≡ p) (at : slice_get laws p ≡ Some law) (rows : List RowInt) (of : AreLawRows qp law rows) where
      row_within : (k : ℕ) (row : RowInt) → slice_get rows k ≡ Some row → k < height qp.g
      row_within k row row_at = let inside = slice_get_within rows k row row_at in let each = of.one_each in omega (arith, inside, each)

      none_fails : (i : ℕ) → ((j : ℕ) → 1 ≤ j → j < i → P (Holds number l j)) → NoneFailsBefore qp rows cell.rows (i - 1)
      none_fails i before k row below row_at = (passes_row cell number l (suc k) p k law e at rows of row (back k) row_at (before (suc k) (omega arith) (omega (arith, below)))).0

      rows_fit : (i : ℕ) → ((j : ℕ) → 1 ≤ j → j < i → P (Holds number l j)) → HoldsFit qp cell.rows rows (i - 1)
      rows_fit i before k row below row_at = (passes_row cell number l (suc k) p k law e at rows of row (back k) row_at (before (suc k) (omega arith) (omega (arith, below)))).1

      rows_pass : (k j : ℕ) → NoneFailsBefore qp rows cell.rows k → HoldsFit qp cell.rows rows k → k ≤ height qp.g → 1 ≤ j → j < suc k → P (Holds number l j)
      rows_pass k j none fit within low high =
          let each = of.one_each in
          let row = some_at rows (j - 1) (omega (arith, low, high, within, each)) in
          row_passes cell number l j p (j - 1) law e at rows of row.0 refl row.1 (none (j - 1) row.0 (omega (arith, low, high)) row.1) (fit (j - 1) row.0 (omega (arith, low, high)) row.1)

      first_row : (i k : ℕ) (row : RowInt) → i ≡ k + 1 → slice_get rows k ≡ Some row → NoneFailsBefore qp rows cell.rows k → HoldsFit qp cell.rows rows k → (P (Holds number l i) → ⊥) → IsFirstOf P (row_list l) (Holds number l i)
      first_row i k row n row_at none fit stops =
          let within = row_within k row row_at in
          of_number P (Holds number l) 1 (height qp.g) (Holds number l i) (record {
            number = i;
            low = omega (arith, n);
            high = omega (arith, n, within);
            is = refl;
            before = λ j low high. rows_pass k j none fit (omega (arith, within)) low (omega (arith, high, n));
            here = stops;
          })

    -- ---- the node, as the tree speaks of it
    to_leaf : IsReady cell → (l : ℕ) → IsFirstOf P (law_runs laws number cell) (Meet number l) → Finds qp laws cell (Meet number l) → All P (row_list l) → EndsAndFits qp laws cell (LawLeaf l [])
    to_leaf ready l first finds all = by (l - 1) (some_law l first)
      where
        by : (p : ℕ) → l ≡ p + 1 → EndsAndFits qp laws cell (LawLeaf l [])
        by p e = record {
          ends = record { place = p; number_is = e; law = law; first = met.1; lies_in = record { each = λ t c. (points.region_rows qp law is rows of t).1 (c.in_box, all_at (λ r. MeetsRow t (whole_row r)) rows (λ k row row_at. points.holds_unless row t (λ broken. none k row (row_within l p law b met.1.is rows of k row row_at) row_at (record { state = t; in_cell = c; fails = broken })))) } };
          fits = record { place = p; number_is = e; meets = met.2; law = law; is_law = met.1.is; rows = rows; of_law = of; holds = λ k row below row_at. fit k row (row_within l p law b met.1.is rows of k row row_at) row_at };
        }
          where
            met : (law : Law) × IsFirstToMeet qp laws cell.rows p law × MeetsFit qp laws cell (p + 1)
            met = to_met ready l p e first finds

            law : Law
            law = met.0

            b : l - 1 ≡ p
            b = omega (arith, e)

            is : IsLaw qp law
            is = own p law met.1.is

            fits : MeetFits qp cell.rows law
            fits = met.2 p law (reaches ready p law met.1) (omega arith) met.1.is

            rows : List RowInt
            rows = fits.rows

            of : AreLawRows qp law rows
            of = fits.of_law

            each : (j : ℕ) → 1 ≤ j → j < suc (height qp.g) → P (Holds number l j)
            each j low high = each_numbered P (Holds number l) 1 (height qp.g) j all low (omega (arith, high))

            none : (k : ℕ) (row : RowInt) → k < height qp.g → slice_get rows k ≡ Some row → ¬ FailsOn qp cell.rows row
            none k row below row_at = none_fails l p law b met.1.is rows of (suc (height qp.g)) each k row (omega (arith, below)) row_at

            fit : (k : ℕ) (row : RowInt) → k < height qp.g → slice_get rows k ≡ Some row → RunFits (hold_system qp cell.rows row)
            fit k row below row_at = rows_fit l p law b met.1.is rows of (suc (height qp.g)) each k row (omega (arith, below)) row_at

    to_empty : IsReady cell → All P (law_runs laws number cell) → EndsAndFits qp laws cell (NoMove [])
    to_empty ready all =
        let before = all_passed (all_left P law_list (Joint number ∷ []) all) in
        record {
          ends = λ i law below. none_before ready (suc (length laws)) before i law (omega (arith, below));
          fits = record {
            meets = λ i law from below. fit_before (suc (length laws)) before i law from (omega (arith, below));
            joint = All-head P (Joint number) [] (all_right P law_list (Joint number ∷ []) all);
          };
        }

    to_divides : IsReady cell → (p i : ℕ) (row : RowInt) → IsFirstOf P (law_runs laws number cell) (Meet number (p + 1)) → Finds qp laws cell (Meet number (p + 1)) → IsFirstOf P (row_list (p + 1)) (Holds number (p + 1) i) → Finds qp laws cell (Holds number (p + 1) i) → IsRowOf qp laws (p + 1) i row → DividesAndFits qp laws cell p row
    to_divides ready p i row first finds first_row finds_it (second, second_at, rows, of_second, row_at) = record {
      divides = record { law = law; first = met.1; fails = record { rows = rows; of_law = of; place = i - 1; is = row_at; fails = fails.0; before = none_fails (p + 1) p law b met.1.is rows of i before } };
      fits = record { meets = met.2; law = law; is_law = met.1.is; rows = rows; of_law = of; row_place = i - 1; is_row = row_at; holds = holds };
    }
      where
        met : (law : Law) × IsFirstToMeet qp laws cell.rows p law × MeetsFit qp laws cell (p + 1)
        met = to_met ready (p + 1) p refl first finds

        law : Law
        law = met.0

        b : p + 1 - 1 ≡ p
        b = omega arith

        of : AreLawRows qp law rows
        of = subst (λ l. AreLawRows qp l rows) (same_some (sym (law_there (p + 1 - 1) p second b second_at) ∙ met.1.is)) of_second

        fails : FailsOn qp cell.rows row × RunFits (hold_system qp cell.rows row)
        fails = finds_row cell number (p + 1) i p (i - 1) law b met.1.is rows of row refl row_at finds_it

        before : (j : ℕ) → 1 ≤ j → j < i → P (Holds number (p + 1) j)
        before j low high =
            let f = to_number P (Holds number (p + 1)) 1 (height qp.g) (Holds number (p + 1) i) first_row in
            let same : i ≡ f.number = same_row f.is in
            f.before j low (omega (arith, same, high))

        holds : HoldsFit qp cell.rows rows (i - 1 + 1)
        holds k other below other_at = by (cases_lt k (i - 1))
          where
            by : (k < i - 1) ⊎ (i - 1 ≤ k) → RunFits (hold_system qp cell.rows other)
            by (inl low) = rows_fit (p + 1) p law b met.1.is rows of i before k other low other_at
            by (inr high) = subst (λ r. RunFits (hold_system qp cell.rows r)) (same_some (sym (row_there rows (i - 1) k row (omega (arith, high, below)) row_at) ∙ other_at)) fails.1

    abbrev Leaf : List Cell → Type 0
    Leaf opens = (opens ≡ []) × (node : Node) × EndsAndFits qp laws cell node

    abbrev Divided : List Cell → Type 0
    Divided opens = (p : ℕ) × (row : RowInt) × DividesAndFits qp laws cell p row × (opens ≡ yes_side cell p row ∷ no_side cell p row ∷ [])

    to_fits : IsReady cell → (opens : List Cell) → NodeFits qp laws (record { number = number; cell = cell; opens = opens }) → Leaf opens ⊎ Divided opens
    to_fits ready opens (runs, inl is, inl (all, none)) = inl (none, NoMove [], to_empty ready (subst (All P) is all))
    to_fits ready opens (runs, inl is, inr (p, i, row, first, found, of_row, sides)) =
        let f = first_law (Holds number (p + 1) i) hold_not_joint (subst (λ rs. IsFirstOf P rs (Holds number (p + 1) i)) is first) in
        absurd (hold_not_meet f.is)
    to_fits ready opens (runs, inr (l, met, finds, is), inl (all, none)) = inl (none, LawLeaf l [], to_leaf ready l met finds (subst (All P) is all))
    to_fits ready opens (runs, inr (l, met, finds, is), inr (p, i, row, first, found, of_row, sides)) =
        let rows_first : IsFirstOf P (row_list l) (Holds number (p + 1) i) = subst (λ rs. IsFirstOf P rs (Holds number (p + 1) i)) is first in
        let f = to_number P (Holds number l) 1 (height qp.g) (Holds number (p + 1) i) rows_first in
        let same : l ≡ p + 1 = sym (same_law_of f.is) in
        inr (p, row, to_divides ready p i row (subst (λ l. IsFirstOf P (law_runs laws number cell) (Meet number l)) same met) (subst (λ l. Finds qp laws cell (Meet number l)) same finds) (subst (λ l. IsFirstOf P (row_list l) (Holds number (p + 1) i)) same rows_first) found of_row, sides)

    to_wide_law : IsReady cell → (place : Place) → IsFirstNumber P (Meet number) (suc cell.next) count place → (system : LinearSystem) → IsRunAt qp laws cell place system → (¬ RunFits system) → IsWideAt qp laws cell number place
    to_wide_law ready place f system run wide = by (subst (λ p. IsRunAt qp laws cell p system) f.is run)
      where
        low : suc cell.next ≤ f.number
        low = f.low

        by : IsRunAt qp laws cell (Meet number f.number) system → IsWideAt qp laws cell number place
        by (law, at, rows, of, is) = inl (
          f.number,
          f.is,
          record {
            place = f.number - 1;
            number_is = omega (arith, low);
            reached = omega (arith, low);
            law = law;
            is_law = at;
            none_before = none_before ready f.number f.before;
            before = fit_before f.number f.before;
            rows = rows;
            of_law = of;
            wide = λ fits. wide (subst RunFits (sym is) fits);
          },
        )

    to_wide_row : IsReady cell → (l : ℕ) → IsFirstOf P (law_runs laws number cell) (Meet number l) → Finds qp laws cell (Meet number l) → (place : Place) → IsFirstOf P (row_list l) place → (system : LinearSystem) → IsRunAt qp laws cell place system → (¬ RunFits system) → IsWideAt qp laws cell number place
    to_wide_row ready l met finds place first system run wide = by (subst (λ p. IsRunAt qp laws cell p system) f.is run)
      where
        f : IsFirstNumber P (Holds number l) 1 (height qp.g) place
        f = to_number P (Holds number l) 1 (height qp.g) place first

        low : 1 ≤ f.number
        low = f.low

        m : (law : Law) × IsFirstToMeet qp laws cell.rows (l - 1) law × MeetsFit qp laws cell (l - 1 + 1)
        m = to_met ready l (l - 1) (some_law l met) met finds

        by : IsRunAt qp laws cell (Holds number l f.number) system → IsWideAt qp laws cell number place
        by (row, (second, second_at, rows, of_second, row_at), is) =
            let of : AreLawRows qp m.0 rows = subst (λ l. AreLawRows qp l rows) (same_some (sym second_at ∙ m.1.is)) of_second in
            inr (inl (
              l,
              f.number,
              f.is,
              record {
                place = l - 1;
                number_is = some_law l met;
                law = m.0;
                first = m.1;
                before = m.2;
                rows = rows;
                of_law = of;
                row = record {
                  place = f.number - 1;
                  number_is = omega (arith, low);
                  row = row;
                  is_row = row_at;
                  none_before = none_fails l (l - 1) m.0 refl m.1.is rows of f.number f.before;
                  before = rows_fit l (l - 1) m.0 refl m.1.is rows of f.number f.before;
                  wide = λ fits. wide (subst RunFits (sym is) fits);
                };
              },
            ))

    to_wide_at : IsReady cell → (place : Place) → IsWideNode qp laws number cell place → IsWideAt qp laws cell number place
    to_wide_at ready place (runs, inr (l, met, finds, is), first, system, run, wide) = to_wide_row ready l met finds place (subst (λ rs. IsFirstOf P rs place) is first) system run wide
    to_wide_at ready place (runs, inl is, first, system, run, wide) = by (first_parts P law_list (Joint number ∷ []) place (subst (λ rs. IsFirstOf P rs place) is first))
      where
        by : IsFirstOf P law_list place ⊎ (All P law_list × IsFirstOf P (Joint number ∷ []) place) → IsWideAt qp laws cell number place
        by (inl h) = to_wide_law ready place (to_number P (Meet number) (suc cell.next) count place h) system run wide
        by (inr (all, inl (e, none))) =
            let before = all_passed all in
            let joint : system ≡ joint_system qp cell.rows = subst (λ p. IsRunAt qp laws cell p system) e run in
            inr (inr (
              e,
              record {
                none = λ i law below. none_before ready (suc (length laws)) before i law (omega (arith, below));
                before = λ i law from below. fit_before (suc (length laws)) before i law from (omega (arith, below));
                wide = λ fits. wide (subst RunFits (sym joint) fits);
              },
            ))
        by (inr (all, inr h)) = absurd h.1

    -- ---- and back
    of_empty : NoneMeetsBefore qp laws cell.rows (length laws) → MeetsFit qp laws cell (length laws) → All P law_list
    of_empty none fit = numbered_each P (Meet number) (suc cell.next) count (λ j low high. passed (length laws) j none fit (omega arith) low (omega (arith, low, high)))

    of_ends : IsReady cell → (node : Node) → EndsAndFits qp laws cell node → NodeFits qp laws (record { number = number; cell = cell; opens = [] })
    of_ends ready (Split row) h = absurd h.ends
    of_ends ready (NoMove cert) h =
        (law_runs laws number cell, inl refl, inl (All-append P law_list (Joint number ∷ []) (of_empty h.ends h.fits.meets) (All-cons P (Joint number) [] h.fits.joint (All-nil P)), refl))
    of_ends ready (LawLeaf l certs) h = (row_list l, inr (l, of_met ready l p law h.ends.number_is h.ends.first meets, of_finds ready l p law h.ends.number_is h.ends.first meets, refl), inl (all, refl))
      where
        p : ℕ
        p = h.ends.place

        law : Law
        law = h.ends.law

        same : h.fits.place ≡ p
        same = let e = h.ends.number_is in let f = h.fits.number_is in omega (arith, e, f)

        rows : List RowInt
        rows = h.fits.rows

        of : AreLawRows qp law rows
        of = subst (λ l. AreLawRows qp l rows) (same_some (sym (law_there h.fits.place p h.fits.law same h.fits.is_law) ∙ h.ends.first.is)) h.fits.of_law

        meets : MeetsFit qp laws cell (p + 1)
        meets = subst (λ p. MeetsFit qp laws cell (p + 1)) same h.fits.meets

        all : All P (row_list l)
        all = numbered_each P (Holds number l) 1 (height qp.g) (λ j low high.
            rows_pass l p law (let e = h.ends.number_is in omega (arith, e)) h.ends.first.is rows of (height qp.g) j
            (λ k row below row_at g. g.fails (row_in_region law (own p law h.ends.first.is) rows of g.state (h.ends.lies_in.each g.state g.in_cell) k row row_at))
            (λ k row below row_at. h.fits.holds k row (slice_get_within rows k row row_at) row_at)
            (omega arith) low (omega (arith, high)))

    of_divides : IsReady cell → (p : ℕ) (row : RowInt) → DividesAndFits qp laws cell p row → NodeFits qp laws (record { number = number; cell = cell; opens = yes_side cell p row ∷ no_side cell p row ∷ [] })
    of_divides ready p row d = (row_list (p + 1), inr (p + 1, of_met ready (p + 1) p law refl d.divides.first d.fits.meets, of_finds ready (p + 1) p law refl d.divides.first d.fits.meets, refl), inr (p, k + 1, row, first, found, of_row, refl))
      where
        law : Law
        law = d.divides.law

        at : slice_get laws p ≡ Some law
        at = d.divides.first.is

        k : ℕ
        k = d.divides.fails.place

        rows : List RowInt
        rows = d.divides.fails.rows

        of : AreLawRows qp law rows
        of = d.divides.fails.of_law

        b : p + 1 - 1 ≡ p
        b = omega arith

        c : k + 1 - 1 ≡ k
        c = omega arith

        rows_same : d.fits.rows ≡ rows
        rows_same =
            let law_same : d.fits.law ≡ law = same_some (sym d.fits.is_law ∙ at) in
            single.law_rows_unique qp law d.fits.rows rows (subst (λ l. AreLawRows qp l d.fits.rows) law_same d.fits.of_law) of

        -- the row that fits stands no earlier than the first that fails
        late : ¬ (d.fits.row_place < k)
        late below = d.divides.fails.before d.fits.row_place row below (subst (λ xs. slice_get xs d.fits.row_place ≡ Some row) rows_same d.fits.is_row) d.divides.fails.fails

        holds : HoldsFit qp cell.rows rows k
        holds j other below other_at = subst (λ xs. HoldsFit qp cell.rows xs (d.fits.row_place + 1)) rows_same d.fits.holds j other (omega (arith, below, late)) other_at

        fits : RunFits (hold_system qp cell.rows row)
        fits = d.fits.holds d.fits.row_place row (omega arith) d.fits.is_row

        first : IsFirstOf P (row_list (p + 1)) (Holds number (p + 1) (k + 1))
        first = first_row (p + 1) p law b at rows of (k + 1) k row refl d.divides.fails.is d.divides.fails.before holds
            (λ h. (passes_row cell number (p + 1) (k + 1) p k law b at rows of row c d.divides.fails.is h).0 d.divides.fails.fails)

        found : Finds qp laws cell (Holds number (p + 1) (k + 1))
        found = row_found cell number (p + 1) (k + 1) p k law b at rows of row c d.divides.fails.is d.divides.fails.fails fits

        of_row : IsRowOf qp laws (p + 1) (k + 1) row
        of_row = is_row cell number (p + 1) (k + 1) p k law b at rows of row c d.divides.fails.is

    of_wide_at : IsReady cell → (place : Place) → IsWideAt qp laws cell number place → IsWideNode qp laws number cell place
    of_wide_at ready place (inl (l, e, w)) =
        let n = w.number_is in
        let b : l - 1 ≡ w.place = omega (arith, n) in
        subst (IsWideNode qp laws number cell) (sym e) (
          law_runs laws number cell,
          inl refl,
          first_at l w.place n w.reached (slice_get_within laws w.place w.law w.is_law) w.none_before w.before (λ h. not_fits (passes_law cell number l w.place w.law b w.is_law h).1),
          meet_system qp cell.rows w.rows,
          is_meet_run cell number l w.place w.law b w.is_law w.rows w.of_law,
          w.wide,
        )
      where
        not_fits : ¬ MeetFits qp cell.rows w.law
        not_fits f = w.wide (subst (λ xs. RunFits (meet_system qp cell.rows xs)) (single.law_rows_unique qp w.law f.rows w.rows f.of_law w.of_law) f.fits)
    of_wide_at ready place (inr (inl (l, i, e, w))) =
        let n = w.number_is in
        let b : l - 1 ≡ w.place = omega (arith, n) in
        let hold = w.row in
        let m = hold.number_is in
        let c : i - 1 ≡ hold.place = omega (arith, m) in
        subst (IsWideNode qp laws number cell) (sym e) (
          row_list l,
          inr (l, of_met ready l w.place w.law n w.first w.before, of_finds ready l w.place w.law n w.first w.before, refl),
          first_row l w.place w.law b w.first.is w.rows w.of_law i hold.place hold.row m hold.is_row hold.none_before hold.before (λ h. hold.wide (passes_row cell number l i w.place hold.place w.law b w.first.is w.rows w.of_law hold.row c hold.is_row h).1),
          hold_system qp cell.rows hold.row,
          (hold.row, is_row cell number l i w.place hold.place w.law b w.first.is w.rows w.of_law hold.row c hold.is_row, refl),
          hold.wide,
        )
    of_wide_at ready place (inr (inr (e, w))) = subst (IsWideNode qp laws number cell) (sym e) (
      law_runs laws number cell,
      inl refl,
      first_right P law_list (Joint number ∷ []) (Joint number) (of_empty w.none w.before) (inl (refl, w.wide)),
      joint_system qp cell.rows,
      refl,
      w.wide,
    )

  -- ---- the nodes in preorder
  yes_ready : (cell : Cell) (p : ℕ) (row : RowInt) → DividesAndFits qp laws cell p row → IsReady (yes_side cell p row)
  yes_ready cell p row d i law below at m = d.divides.first.before i law below at (in_front qp cell.rows (whole_row row) law m)

  no_ready : (cell : Cell) (p : ℕ) (row : RowInt) → DividesAndFits qp laws cell p row → IsReady (no_side cell p row)
  no_ready cell p row d i law below at m = by (cases_lt i p)
    where
      by : (i < p) ⊎ (p ≤ i) → ⊥
      by (inl low) = d.divides.first.before i law low at (in_front qp cell.rows (broken_row row) law m)
      by (inr high) =
          let fails = d.divides.fails in
          let same : law ≡ d.divides.law = same_some (sym (law_there i p law (omega (arith, high, below)) at) ∙ d.divides.first.is) in
          let within : IsInRegion qp d.divides.law m.state = subst (λ l. IsInRegion qp l m.state) same m.in_region in
          (points.broken_points row m.state).0 (meets_last qp cell.rows (broken_row row) m.state m.in_cell) (row_in_region d.divides.law (own p d.divides.law d.divides.first.is) fails.rows fails.of_law m.state within fails.place row fails.is)

  abbrev AreReady : List Cell → Type 0
  AreReady [] = Unit {0}
  AreReady (cell ∷ cells) = IsReady cell × AreReady cells

  -- the place is the first wide one among the trees of the cells cells
  abbrev IsWideAmong : ℕ → List Cell → Place → Type 0
  IsWideAmong number [] place = ⊥
  IsWideAmong number (cell ∷ cells) place = IsFirstWide qp laws cell number place ⊎ ((nodes : List Node) × IsFittingTree qp laws cell nodes × IsWideAmong (number + length nodes) cells place)

  behind_leaf : (number : ℕ) (cell : Cell) (others : List Cell) (place : Place) (node : Node) → EndsAndFits qp laws cell node → IsWideAmong (suc number) others place → IsWideAmong number (cell ∷ others) place
  behind_leaf number cell others place node ends w = inr (node ∷ [], leaf cell node ends, subst (λ n. IsWideAmong n others place) (omega arith) w)

  behind_split : (number : ℕ) (cell : Cell) (others : List Cell) (place : Place) (p : ℕ) (row : RowInt) → DividesAndFits qp laws cell p row → IsWideAmong (suc number) (yes_side cell p row ∷ no_side cell p row ∷ others) place → IsWideAmong number (cell ∷ others) place
  behind_split number cell others place p row d (inl w) =
      let next : suc number ≡ number + 1 = omega arith in
      inl (in_yes cell number p row place d (subst (λ n. IsFirstWide qp laws (yes_side cell p row) n place) next w))
  behind_split number cell others place p row d (inr (inside, y, inl w)) =
      let next : suc number + length inside ≡ number + 1 + length inside = omega arith in
      inl (in_no cell number p row inside place d y (subst (λ n. IsFirstWide qp laws (no_side cell p row) n place) next w))
  behind_split number cell others place p row d (inr (inside, y, inr (outside, n, w))) =
      let next : suc number + length inside + length outside ≡ number + length (Split row ∷ (inside ++ outside)) = omega (arith, length-append inside outside) in
      inr (Split row ∷ (inside ++ outside), split cell p row inside outside d y n, subst (λ n. IsWideAmong n others place) next w)

  -- and so it is among cells with these nodes
  abbrev IsAmong : ℕ → List SearchNode → SearchNode → Place → Type 0
  IsAmong number nodes node place = (cells : List Cell) → AreReady cells → AreInPreorder number cells nodes → IsFirstOf (NodeFits qp laws) nodes node → IsWideAmong number cells place

  to_among : (number : ℕ) (cells : List Cell) (nodes : List SearchNode) (node : SearchNode) (place : Place) → AreReady cells → AreInPreorder number cells nodes → IsFirstOf (NodeFits qp laws) nodes node → IsWideNode qp laws node.number node.cell place → IsWideAmong number cells place
  to_among number cells [] node place ready order first wide = absurd first
  to_among number cells (n ∷ nodes) node place ready (e, others, is, order) first wide =
      subst (λ cells. IsWideAmong number cells place) (sym is) (by (λ cells ready order later. to_among (suc number) cells nodes node place ready order later wide) first)
    where
      both : AreReady (n.cell ∷ others)
      both = subst AreReady is ready

      of_node : IsAmong (suc number) nodes node place → Leaf n.number n.cell n.opens ⊎ Divided n.number n.cell n.opens → IsFirstOf (NodeFits qp laws) nodes node → IsWideAmong number (n.cell ∷ others) place
      of_node again (inl (none, leaf_node, ends)) later =
          behind_leaf number n.cell others place leaf_node ends (again others both.1 (subst (λ cells. AreInPreorder (suc number) (cells ++ others) nodes) none order) later)
      of_node again (inr (p, row, d, sides)) later =
          behind_split number n.cell others place p row d (again (yes_side n.cell p row ∷ no_side n.cell p row ∷ others) (yes_ready n.cell p row d, (no_ready n.cell p row d, both.1)) (subst (λ cells. AreInPreorder (suc number) (cells ++ others) nodes) sides order) later)

      by : IsAmong (suc number) nodes node place → ((node ≡ n) × ¬ NodeFits qp laws n) ⊎ (NodeFits qp laws n × IsFirstOf (NodeFits qp laws) nodes node) → IsWideAmong number (n.cell ∷ others) place
      by again (inl (same, none)) =
          let w : IsWideNode qp laws n.number n.cell place = subst (λ m. IsWideNode qp laws m.number m.cell place) same wide in
          inl (subst (λ k. IsFirstWide qp laws n.cell k place) e (here n.cell n.number place (to_wide_at n.number n.cell both.0 place w)))
      by again (inr (fits, later)) = of_node again (to_fits n.number n.cell both.0 n.opens fits) later

  whole_ready : IsReady whole_box
  whole_ready i law below at = absurd (omega (arith, below))

  pub to_first_wide : (nodes : List SearchNode) (node : SearchNode) (place : Place) → AreInPreorder 1 (whole_box ∷ []) nodes → IsFirstOf (NodeFits qp laws) nodes node → IsWideNode qp laws node.number node.cell place → IsFirstWide qp laws whole_box 1 place
  to_first_wide nodes node place order first wide = by (to_among 1 (whole_box ∷ []) nodes node place (whole_ready, tt) order first wide)
    where
      by : IsWideAmong 1 (whole_box ∷ []) place → IsFirstWide qp laws whole_box 1 place
      by (inl w) = w
      by (inr (nodes, fits, w)) = absurd w

  -- the nodes up to the wide one, from these cells cells on
  pub record IsFound (number : ℕ) (cells : List Cell) (place : Place) : Type 0 where
    pub nodes : List SearchNode
    pub preorder : AreInPreorder number cells nodes
    pub node : SearchNode
    pub first : IsFirstOf (NodeFits qp laws) nodes node
    pub wide : IsWideNode qp laws node.number node.cell place

  module _ (fits_not : FitsNotWide) where
    found_here : (number : ℕ) (cell : Cell) (others : List Cell) (place : Place) → IsReady cell → IsWideAt qp laws cell number place → IsFound number (cell ∷ others) place
    found_here number cell others place ready w =
        record { nodes = node ∷ []; preorder = (refl, others, refl, tt); node = node; first = inl (refl, λ fits. none (to_fits number cell ready [] fits)); wide = of_wide_at number cell ready place w }
      where
        node : SearchNode
        node = record { number = number; cell = cell; opens = [] }

        empty : {A : Type 0} {x : A} {xs : List A} → [] ≡ x ∷ xs → ⊥
        empty e = cc

        none : Leaf number cell [] ⊎ Divided number cell [] → ⊥
        none (inl (is, leaf_node, ends)) = fits_not qp laws are cell (leaf_node ∷ []) number place (leaf cell leaf_node ends) (here cell number place w)
        none (inr (p, row, d, sides)) = empty sides

    found_behind : (number : ℕ) (cell : Cell) (opens others : List Cell) (place : Place) → NodeFits qp laws (record { number = number; cell = cell; opens = opens }) → IsFound (suc number) (opens ++ others) place → IsFound number (cell ∷ others) place
    found_behind number cell opens others place fits f =
        let node : SearchNode = record { number = number; cell = cell; opens = opens } in
        record { nodes = node ∷ f.nodes; preorder = (refl, others, refl, f.preorder); node = f.node; first = inr (fits, f.first); wide = f.wide }

    -- behind a tree whose runs fit
    through : (number : ℕ) (cell : Cell) (nodes : List Node) (others : List Cell) (place : Place) → IsReady cell → IsFittingTree qp laws cell nodes → IsFound (number + length nodes) others place → IsFound number (cell ∷ others) place
    through number cell nodes others place ready (leaf c node ends) f =
        let next : number + length (node ∷ []) ≡ suc number = omega arith in
        found_behind number c [] others place (of_ends number c ready node ends) (subst (λ n. IsFound n others place) next f)
    through number cell nodes others place ready (split c p row inside outside d y n) f =
        let next : number + length (Split row ∷ (inside ++ outside)) ≡ suc number + length inside + length outside = omega (arith, length-append inside outside) in
        found_behind number c (yes_side c p row ∷ no_side c p row ∷ []) others place (of_divides number c ready p row d) (
        through (suc number) (yes_side c p row) inside (no_side c p row ∷ others) place (yes_ready c p row d) y (
        through (suc number + length inside) (no_side c p row) outside others place (no_ready c p row d) n (subst (λ n. IsFound n others place) next f)))

    of_first : (number : ℕ) (cell : Cell) (others : List Cell) (place : Place) → IsReady cell → IsFirstWide qp laws cell number place → IsFound number (cell ∷ others) place
    of_first number cell others place ready (here c n p w) = found_here n c others p ready w
    of_first number cell others place ready (in_yes c n p row q d w) =
        let next : n + 1 ≡ suc n = omega arith in
        found_behind n c (yes_side c p row ∷ no_side c p row ∷ []) others q (of_divides n c ready p row d) (
        subst (λ n. IsFound n (yes_side c p row ∷ no_side c p row ∷ others) q) next (of_first (n + 1) (yes_side c p row) (no_side c p row ∷ others) q (yes_ready c p row d) w))
    of_first number cell others place ready (in_no c n p row inside q d y w) =
        let next : n + 1 + length inside ≡ suc n + length inside = omega arith in
        found_behind n c (yes_side c p row ∷ no_side c p row ∷ []) others q (of_divides n c ready p row d) (
        through (suc n) (yes_side c p row) inside (no_side c p row ∷ others) q (yes_ready c p row d) y (
        subst (λ n. IsFound n (no_side c p row ∷ others) q) next (of_first (n + 1 + length inside) (no_side c p row) others q (no_ready c p row d) w)))

    pub of_first_wide : (place : Place) → IsFirstWide qp laws whole_box 1 place → IsFound 1 (whole_box ∷ []) place
    of_first_wide place w = of_first 1 whole_box [] place whole_ready w
