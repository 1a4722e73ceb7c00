-- The growth of a tree by a split.
use Rattle.std.proofs.Common.{◌≡◌, ℕ, ◌+◌, ◌<◌, List, [], ◌∷◌, ◌++◌, length, map, take, reverse, refl, sym, ◌∙◌, ap, subst, arith, inl, inr, ⊎_elim, Option, Some, slice_get, get_or}
use Rattle.std.proofs.lemmas.Bool.{cases_eq}
use Rattle.std.proofs.lemmas.List.{append_assoc, length-append, length-map, reverse-append}
use Rattle.std.proofs.lemmas.List.Elements.{All-append, All-from_recursion, All-get_or}
use Rattle.std.proofs.lemmas.Option.{slice_get_within, get_or_from_slice_get}
use Rattle.std.proofs.Math.Seq.{take-append_seam}
use Rattle.mpc_exact.specs.Rational.{int}
use Rattle.mpc_space.specs.Matrix.{height}
use Rattle.mpc_space.proofs.Entries.{length-scale}
use Rattle.mpc_linear.specs.declared.integers.RowInt.{RowInt}
use Rattle.mpc_rows.specs.declared.programs.Qp.{Qp}
use Rattle.mpc_rows.specs.declared.laws.Law.{Law}
use Rattle.mpc_rows.specs.declared.systems.Row.{Row}
use Rattle.mpc_rows.specs.declared.places.Place.{Place}
use Rattle.mpc_rows.specs.declared.trees.Node.{Node}
use Rattle.mpc_rows.specs.declared.trees.Node.TheVariants.{Split}
use Rattle.mpc_rows.specs.LinearSystem.{LinearSystem, MeetsRow}
use Rattle.mpc_rows.specs.LawRows.{whole_row, broken_row}
use Rattle.mpc_systems.specs.CellTheorems.{CellTheorems}
use Rattle.mpc_systems.specs.Writing.{HasBoxWidth, IsOfSize}
use Rattle.mpc_tree.specs.declared.growth.OpenSide.{OpenSide}
use Rattle.mpc_tree.specs.Borders.{IsBorder, AreBorders}
use Rattle.mpc_tree.specs.CellRuns.{IsRunOf}
use Rattle.mpc_tree.specs.Cells.{RegionMeets, NoneFailsBefore}
use Rattle.mpc_tree.specs.Growth.{IsReady, MeetsNext, IsSplitAt, IsLeafAt, IsBuilt}
use Rattle.mpc_tree.specs.NodeRuns.{DividesAndFits, EndsAndFits, IsFittingTree}
use Rattle.mpc_tree.specs.Trees.{Cell, yes_side, no_side, split}
use Rattle.mpc_tree.specs.WideRuns.{IsFirstWide, in_yes, in_no}
use Rattle.mpc_tree.proofs.CellPoints.{meets_last, region_front, fails_front, region_row, broken_fails}
use Rattle.mpc_tree.proofs.Growing.{AreReady, AreTrees, IsWideAmong, IsGrown, side_cell}
use Rattle.mpc_tree.proofs.NodeLemmas.{border_of, same_at}
use Rattle.mpc_tree.proofs.TreeLemmas.{weakened}

module _ (qp : Qp) (laws : List Law) (borders : List (List RowInt)) (are : AreBorders qp laws borders) (cell : Cell) (place i : ℕ) (s : IsSplitAt qp laws borders cell place i) where
  abbrev law : Law
  law = s.divides.divides.law

  pub border : IsBorder qp s.divides.divides.law s.rows
  border = border_of qp laws borders are cell.rows place s.rows s.is_border s.divides.divides.law s.divides.divides.first.is

  pub place_within : place < length laws
  place_within = slice_get_within laws place s.divides.divides.law s.divides.divides.first.is

  pub row_within : i < height qp.g
  row_within = let inside : i < length s.rows = slice_get_within s.rows i s.row s.is_row in omega (arith, border.of_law.one_each)

  pub row_plain : IsOfSize (length qp.counts) s.row
  row_plain =
      let inside : i < length s.rows = slice_get_within s.rows i s.row s.is_row in
      subst (IsOfSize (length qp.counts)) (get_or_from_slice_get s.rows i s.row s.row s.is_row) (All-get_or (IsOfSize (length qp.counts)) s.rows i s.row inside border.plain.each)

  wider : (r : Row) → HasBoxWidth qp cell.rows → length r.a ≡ length qp.counts → HasBoxWidth qp (cell.rows ++ r ∷ [])
  wider r w e = All-append (λ r. length r.a ≡ length qp.counts) cell.rows (r ∷ []) w (All-from_recursion (λ r. length r.a ≡ length qp.counts) (r ∷ []) (e, tt))

  pub yes_ready : HasBoxWidth qp cell.rows → IsReady qp laws (yes_side cell place s.row)
  yes_ready w = record {
    width = wider (whole_row s.row) w (length-map s.row.a int ∙ row_plain.size);
    none = λ k other h is m. s.divides.divides.first.before k other h is (region_front qp cell.rows (whole_row s.row) other m);
    within = let inside : place < length laws = place_within in omega arith;
  }

  not_here : CellTheorems → (other : Law) → slice_get laws place ≡ Some other → (m : RegionMeets qp (cell.rows ++ broken_row s.row ∷ []) other) → ⊥
  not_here points other is m =
      let own = border_of qp laws borders are cell.rows place s.rows s.is_border other is in
      broken_fails points s.row m.state (meets_last qp cell.rows (broken_row s.row) m.state m.in_cell) (region_row points qp other own.is_law s.rows own.of_law m.state m.in_region i s.row s.is_row)

  pub no_ready : CellTheorems → HasBoxWidth qp cell.rows → IsReady qp laws (no_side cell place s.row)
  no_ready points w = record {
    width = wider (broken_row s.row) w (length-scale _ (map int s.row.a) ∙ length-map s.row.a int ∙ row_plain.size);
    none = λ k other h is m. ⊎_elim
        (λ p. not_here points other (ap (slice_get laws) (sym p) ∙ is) m)
        (λ p. s.divides.divides.first.before k other (omega arith) is (region_front qp cell.rows (broken_row s.row) other m))
        (cases_eq k place);
    within = let inside : place < length laws = place_within in omega arith;
  }

  holds_on_yes : (rows : List RowInt) → slice_get borders place ≡ Some rows → NoneFailsBefore qp rows (cell.rows ++ whole_row s.row ∷ []) (i + 1)
  holds_on_yes rows is k row h at f =
      let same : rows ≡ s.rows = same_at borders place place rows s.rows refl is s.is_border in
      let at_rows : slice_get s.rows k ≡ Some row = ap (λ rs. slice_get rs k) (sym same) ∙ at in
      ⊎_elim
      (λ p.
      let one : s.row ≡ row = same_at s.rows i k s.row row (sym p) s.is_row at_rows in
      f.fails (subst (λ r. MeetsRow f.state (whole_row r)) one (meets_last qp cell.rows (whole_row s.row) f.state f.in_cell)))
      (λ p. s.before k row (omega arith) at_rows (fails_front qp cell.rows (whole_row s.row) row f))
      (cases_eq k i)

  abbrev pub side : Option LinearSystem → OpenSide
  side run = record { shared = length cell.rows; row = broken_row s.row; run = run; next = place + 1 }

  seam : take (length cell.rows) (cell.rows ++ whole_row s.row ∷ []) ≡ cell.rows
  seam = take-append_seam cell.rows (whole_row s.row ∷ [])

  module _ (root : Cell) (nodes : List Node) (stack : List OpenSide) (held : ℕ) (g : IsGrown qp laws root borders nodes cell stack held) (run : Option LinearSystem) (kept : IsRunOf qp (cell.rows ++ broken_row s.row ∷ []) run) where
    turned : reverse (stack ++ side run ∷ []) ≡ side run ∷ reverse stack
    turned = reverse-append stack (side run ∷ [])

    abbrev longer : List Row
    longer = cell.rows ++ whole_row s.row ∷ []

    sides : CellTheorems → AreReady qp laws longer (side run ∷ reverse stack)
    sides points = (
      omega (arith, length-append cell.rows (whole_row s.row ∷ [])),
      subst (λ p. IsReady qp laws (record { rows = p ++ broken_row s.row ∷ []; next = place + 1 })) (sym seam) (no_ready points g.ready.width),
      subst (λ p. IsRunOf qp (p ++ broken_row s.row ∷ []) run) (sym seam) kept,
      subst (λ p. AreReady qp laws p (reverse stack)) (sym seam) g.sides,
    )

    -- the trees of both sides make that of the cell
    both : (left right : List Node) → IsBuilt qp laws (yes_side cell place s.row) left → IsBuilt qp laws (side_cell longer (side run)) right → IsBuilt qp laws cell (Split s.row ∷ (left ++ right))
    both left right y n = split cell place s.row left right s.divides y (subst (λ p. IsBuilt qp laws (record { rows = p ++ broken_row s.row ∷ []; next = place + 1 }) right) seam n)

    completes : (first later : List Node) → IsBuilt qp laws (yes_side cell place s.row) first → AreTrees qp laws longer (side run ∷ reverse stack) later → IsBuilt qp laws root ((nodes ++ Split s.row ∷ []) ++ (first ++ later))
    completes first later b t =
        let rest : AreTrees qp laws cell.rows (reverse stack) t.1 = subst (λ p. AreTrees qp laws p (reverse stack) t.1) seam t.4 in
        let order : (nodes ++ Split s.row ∷ []) ++ (first ++ later) ≡ nodes ++ ((Split s.row ∷ (first ++ t.0)) ++ t.1) =
        append_assoc nodes (Split s.row ∷ []) (first ++ later) ∙ ap (λ r. nodes ++ Split s.row ∷ r) (ap (λ r. first ++ r) t.2 ∙ sym (append_assoc first t.0 t.1)) in
        subst (IsBuilt qp laws root) (sym order) (g.completes (Split s.row ∷ (first ++ t.0)) t.1 (both first t.0 b t.3) rest)

    count : length (nodes ++ Split s.row ∷ []) ≡ length nodes + 1
    count = length-append nodes (Split s.row ∷ [])

    wide_here : (at : Place) → IsFirstWide qp laws (yes_side cell place s.row) (length (nodes ++ Split s.row ∷ []) + 1) at → IsFirstWide qp laws root 1 at
    wide_here at w = g.wide_here at (in_yes cell (length nodes + 1) place s.row at s.divides (subst (λ n. IsFirstWide qp laws (yes_side cell place s.row) (n + 1) at) count w))

    wide_later : (at : Place) (first : List Node) → IsBuilt qp laws (yes_side cell place s.row) first → IsWideAmong qp laws longer (side run ∷ reverse stack) (length (nodes ++ Split s.row ∷ []) + 1 + length first) at → IsFirstWide qp laws root 1 at
    wide_later at first b (inl w) =
        let fits : IsFittingTree qp laws (yes_side cell place s.row) first = weakened (DividesAndFits qp laws) (DividesAndFits qp laws) (IsLeafAt qp laws) (EndsAndFits qp laws) (λ c p r h. h) (λ c n h. h.ends) (yes_side cell place s.row) first b in
        let here : IsFirstWide qp laws (no_side cell place s.row) (length (nodes ++ Split s.row ∷ []) + 1 + length first) at = subst (λ p. IsFirstWide qp laws (record { rows = p ++ broken_row s.row ∷ []; next = place + 1 }) (length (nodes ++ Split s.row ∷ []) + 1 + length first) at) seam w in
        g.wide_here at (in_no cell (length nodes + 1) place s.row first at s.divides fits (subst (λ n. IsFirstWide qp laws (no_side cell place s.row) (n + 1 + length first) at) count here))
    wide_later at first b (inr w) =
        let number : length (nodes ++ Split s.row ∷ []) + 1 + length first + length w.0 ≡ length nodes + 1 + length (Split s.row ∷ (first ++ w.0)) = omega (arith, count, length-append first w.0) in
        let rest : IsWideAmong qp laws cell.rows (reverse stack) (length (nodes ++ Split s.row ∷ []) + 1 + length first + length w.0) at = subst (λ p. IsWideAmong qp laws p (reverse stack) (length (nodes ++ Split s.row ∷ []) + 1 + length first + length w.0) at) seam w.2 in
        g.wide_later at (Split s.row ∷ (first ++ w.0)) (both first w.0 b w.1) (subst (λ n. IsWideAmong qp laws cell.rows (reverse stack) n at) number rest)

    pub grown_split : CellTheorems → IsGrown qp laws root borders (nodes ++ Split s.row ∷ []) (yes_side cell place s.row) (stack ++ side run ∷ []) (i + 1)
    grown_split points = record {
      ready = yes_ready g.ready.width;
      held_within = let inside : i < height qp.g = row_within in omega arith;
      holds = holds_on_yes;
      sides = subst (AreReady qp laws longer) (sym turned) (sides points);
      completes = λ first later b t. completes first later b (subst (λ os. AreTrees qp laws longer os later) turned t);
      wide_here = wide_here;
      wide_later = λ at first b w. wide_later at first b (subst (λ os. IsWideAmong qp laws longer os (length (nodes ++ Split s.row ∷ []) + 1 + length first) at) turned w);
    }

  -- the law that met the cell meets the yes side: its own row holds in its region
  known_yes : CellTheorems → MeetsNext qp laws (yes_side cell place s.row)
  known_yes points =
      let m : RegionMeets qp cell.rows s.divides.divides.law = s.divides.divides.first.meets in
      record {
        law = s.divides.divides.law;
        is = s.divides.divides.first.is;
        meets = record {
          state = m.state;
          in_cell = record {
            in_box = m.in_cell.in_box;
            meets = All-append (MeetsRow m.state) cell.rows (whole_row s.row ∷ []) m.in_cell.meets (All-from_recursion (MeetsRow m.state) (whole_row s.row ∷ []) (region_row points qp s.divides.divides.law border.is_law s.rows border.of_law m.state m.in_region i s.row s.is_row, tt));
          };
          in_region = m.in_region;
        };
      }

  pub known_at : CellTheorems → (row : RowInt) → row ≡ s.row → (path : List Row) → path ≡ cell.rows ++ whole_row row ∷ [] → MeetsNext qp laws (record { rows = path; next = place })
  known_at points row e path p = subst (λ x. MeetsNext qp laws (record { rows = x; next = place })) (sym (p ∙ ap (λ r. cell.rows ++ whole_row r ∷ []) e)) (known_yes points)

  -- the rows and the row as they are read
  pub rows_read : (border slice : List RowInt) → border ≡ get_or borders place border → slice ≡ border → slice ≡ s.rows
  rows_read border slice e h = h ∙ e ∙ get_or_from_slice_get borders place s.rows border s.is_border

  pub row_read : (slice : List RowInt) (row : RowInt) → slice ≡ s.rows → row ≡ get_or slice i row → row ≡ s.row
  row_read slice row h e = e ∙ ap (λ rs. get_or rs i row) h ∙ get_or_from_slice_get s.rows i s.row row s.is_row

  pub row_inside : (slice : List RowInt) → slice ≡ s.rows → i < length slice
  row_inside slice h = subst (λ rs. i < length rs) (sym h) (slice_get_within s.rows i s.row s.is_row)

  pub plain_read : (row : RowInt) → row ≡ s.row → IsOfSize (length qp.counts) row
  plain_read row e = subst (IsOfSize (length qp.counts)) (sym e) row_plain

  pub sides_read : (stack : List OpenSide) (run : Option LinearSystem) (row : RowInt) → row ≡ s.row → (sides : List OpenSide) → sides ≡ stack ++ record { shared = length cell.rows; row = broken_row row; run = run; next = place + 1 } ∷ [] → sides ≡ stack ++ record { shared = length cell.rows; row = broken_row s.row; run = run; next = place + 1 } ∷ []
  sides_read stack run row e sides o = o ∙ ap (λ r. stack ++ record { shared = length cell.rows; row = broken_row r; run = run; next = place + 1 } ∷ []) e

  pub grown_at : CellTheorems → (root : Cell) (nodes : List Node) (stack : List OpenSide) (held : ℕ) → IsGrown qp laws root borders nodes cell stack held → (run : Option LinearSystem) → IsRunOf qp (cell.rows ++ broken_row s.row ∷ []) run → (row : RowInt) → row ≡ s.row → (tree : List Node) (path : List Row) (sides : List OpenSide) → tree ≡ nodes ++ Split row ∷ [] → path ≡ cell.rows ++ whole_row row ∷ [] → sides ≡ stack ++ record { shared = length cell.rows; row = broken_row row; run = run; next = place + 1 } ∷ [] → IsGrown qp laws root borders tree (record { rows = path; next = place }) sides (i + 1)
  grown_at points root nodes stack held g run kept row e tree path sides t p o =
      subst (λ x. IsGrown qp laws root borders x (record { rows = path; next = place }) sides (i + 1)) (sym (t ∙ ap (λ r. nodes ++ Split r ∷ []) e))
      (subst (λ x. IsGrown qp laws root borders (nodes ++ Split s.row ∷ []) (record { rows = x; next = place }) sides (i + 1)) (sym (p ∙ ap (λ r. cell.rows ++ whole_row r ∷ []) e))
      (subst (λ x. IsGrown qp laws root borders (nodes ++ Split s.row ∷ []) (yes_side cell place s.row) x (i + 1)) (sym (sides_read stack run row e sides o))
      (grown_split root nodes stack held g run kept points)))
