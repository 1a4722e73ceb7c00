-- The replies of an accepted controller are right.
use Rattle.std.proofs.Common.{◌≡◌, ℕ, zero, suc, ◌+◌, ◌-◌, ◌<◌, ◌≤◌, List, [], ◌∷◌, ◌++◌, length, get_or, pos, refl, sym, ◌∙◌, ap, subst, arith, All}
use Rattle.std.proofs.lemmas.List.{length-map}
use Rattle.std.proofs.lemmas.List.FromFn.{length-map-range_with_len}
use Rattle.std.proofs.lemmas.List.Elements.{All-nil, All-cons, All-append, All-from_get_or}
use Rattle.std.proofs.lemmas.Option.{slice_get_within}
use Rattle.mpc_exact.specs.Rational.{ℚ}
use Rattle.mpc_space.specs.Matrix.{height}
use Rattle.mpc_linear.specs.declared.integers.RowInt.{RowInt}
use Rattle.mpc_sets.specs.RowSet.{IsSetOfRows}
use Rattle.mpc_plant.specs.declared.lists.Coordinate.{Coordinate}
use Rattle.mpc_plant.specs.declared.plants.Plant.{Plant}
use Rattle.mpc_plant.specs.Trajectory.{IsWithin}
use Rattle.mpc_plant.specs.Trajectory.{IsInBox as IsInPlantBox}
use Rattle.mpc_plant.specs.Reply.{Reply, move, infeasible, IsRight}
use Rattle.mpc_rows.specs.declared.programs.Qp.{Qp}
use Rattle.mpc_rows.specs.declared.laws.Law.{Law as LawOfSet}
use Rattle.mpc_rows.specs.declared.systems.Row.{Row}
use Rattle.mpc_rows.specs.declared.trees.Node.{Node}
use Rattle.mpc_rows.specs.declared.trees.Node.TheVariants.{Split, Law, NoMove}
use Rattle.mpc_rows.specs.LinearSystem.{LinearSystem, MeetsRow, IsPoint, HasWidth}
use Rattle.mpc_rows.specs.LinearSystem.{height as row_count_of}
use Rattle.mpc_rows.specs.ActiveSets.{IsInBox, IsFeasible}
use Rattle.mpc_rows.specs.Laws.{HasLawShape, IsLaw, IsInRegion}
use Rattle.mpc_rows.specs.LawRows.{IsLawRow, whole_row, broken_row}
use Rattle.mpc_rows.specs.LawTheorems.{LawRowSize}
use Rattle.mpc_rows.specs.RegionTheorems.{BoxSize}
use Rattle.mpc_rows.specs.SystemTheorems.{RefutedHasNoPoint}
use Rattle.mpc_condense.specs.Condensed.{IsCondensed, counts_of}
use Rattle.mpc_condense.specs.BestReplies.{LawIsRight, InfeasibleIsRight}
use Rattle.mpc_controller.specs.Parts.{Parts, IsLawFor, IsNodeFor}
use Rattle.mpc_controller.specs.Bounds.{IsController}
use Rattle.mpc_controller.specs.Walk.{Reaches, root as at_root, yes_side as to_yes, no_side as to_no, EndsAt}
use Rattle.mpc_controller.specs.Replies.{RepliesAt, by_law, by_no_law, first_move, IsLawNumbered}
use Rattle.mpc_check.specs.Certs.{multipliers_of, named_at, CertRefutes}
use Rattle.mpc_controller.specs.Paths.{PathTo, root, yes_side, no_side}
use Rattle.mpc_systems.specs.Systems.{hold_system, joint_system}
use Rattle.mpc_systems.specs.CellTheorems.{CellTheorems}
use Rattle.mpc_check.specs.Widths.{IsOfWidth}
use Rattle.mpc_check.specs.LeafConditions.{LawLeafMet, EmptyLeafMet}
use Rattle.mpc_check.specs.Acceptance.{Accepts, AcceptedIsRight}
use Rattle.mpc_check.proofs.ElementLemmas.{all_at}
use Rattle.mpc_check.proofs.LawEquations.{law_by_coefficients}
use Rattle.mpc_check.proofs.RowWidths.{broken_wide}

-- ---- the walk and the path
-- a point at which the walk comes to a place meets the rows of a path to it
record MeetsPath (nodes : List Node) (t : List ℚ) (place : ℕ) : Type 0 where
  path : List Row
  leads : PathTo nodes place path
  meets : All (MeetsRow t) path

one_more : (t : List ℚ) (path : List Row) (r : Row) → All (MeetsRow t) path → MeetsRow t r → All (MeetsRow t) (path ++ r ∷ [])
one_more t path r before here = All-append (MeetsRow t) path (r ∷ []) before (All-cons (MeetsRow t) r [] here (All-nil (MeetsRow t)))

meets_path : CellTheorems → (nodes : List Node) (t : List ℚ) (place : ℕ) → Reaches nodes t place → MeetsPath nodes t place
meets_path cells nodes t _ at_root = record { path = []; leads = root; meets = All-nil (MeetsRow t) }
meets_path cells nodes t _ (to_yes place row r at h) =
    let p = meets_path cells nodes t place r in
    record { path = p.path ++ whole_row row ∷ []; leads = yes_side place row p.path p.leads at; meets = one_more t p.path (whole_row row) p.meets h.at_most }
meets_path cells nodes t _ (to_no place next row r at h side) =
    let p = meets_path cells nodes t place r in
    record {
      path = p.path ++ broken_row row ∷ [];
      leads = no_side place next row p.path p.leads at side;
      meets = one_more t p.path (broken_row row) p.meets ((cells.broken_points row t).1 (λ m. h (record { at_most = m })));
    }

-- ---- widths of paths
split_size : (n laws : ℕ) (row : RowInt) → IsNodeFor n laws (Split row) → length row.a ≡ n
split_size n laws row h = h.size

more_wide : (width : ℕ) (path : List Row) (r : Row) → All (IsOfWidth width) path → IsOfWidth width r → All (IsOfWidth width) (path ++ r ∷ [])
more_wide width path r before here = All-append (IsOfWidth width) path (r ∷ []) before (All-cons (IsOfWidth width) r [] here (All-nil (IsOfWidth width)))

whole_wide : (row : RowInt) (width : ℕ) → length row.a ≡ width → IsOfWidth width (whole_row row)
whole_wide row width e = length-map row.a _ ∙ e

pub path_wide : (nodes : List Node) (n laws : ℕ) → All (IsNodeFor n laws) nodes → (place : ℕ) (path : List Row) → PathTo nodes place path → All (IsOfWidth n) path
path_wide nodes n laws fit _ _ root = All-nil (IsOfWidth n)
path_wide nodes n laws fit _ _ (yes_side place row path p at) =
    more_wide n path (whole_row row) (path_wide nodes n laws fit place path p) (whole_wide row n (split_size n laws row (all_at (IsNodeFor n laws) nodes place (Split row) at fit)))
path_wide nodes n laws fit _ _ (no_side place next row path p at side) =
    more_wide n path (broken_row row) (path_wide nodes n laws fit place path p) (broken_wide row n (split_size n laws row (all_at (IsNodeFor n laws) nodes place (Split row) at fit)))

-- ---- certificates
multipliers_size : (rows : ℕ) (cert : List (ℕ × ℚ)) → length (multipliers_of rows cert) ≡ rows
multipliers_size rows cert = length-map-range_with_len (named_at cert) 1 rows

no_point : RefutedHasNoPoint → (s : LinearSystem) (cert : List (ℕ × ℚ)) → HasWidth s.width s.rows → CertRefutes s cert → (v : List ℚ) → IsPoint s v → ⊥
no_point refuted_has_none s cert wide r v p = refuted_has_none s (multipliers_of (row_count_of s) cert) wide (multipliers_size (row_count_of s) cert) r.refutes v p

-- ---- lists of what there is at each place
record Collected {X : Type 0} (P : ℕ → X → Type 0) (d : X) (n : ℕ) : Type 0 where
  items : List X
  size : length items ≡ n
  each : (i : ℕ) → i < n → P i (get_or items i d)

collected : {X : Type 0} (P : ℕ → X → Type 0) (d : X) (n : ℕ) → ((i : ℕ) → i < n → (x : X) × P i x) → Collected P d n
collected P d zero f = record { items = []; size = refl; each = λ i h. absurd (omega arith) }
collected P d (suc n) f =
    let first = f 0 (omega arith) in
    let rest = collected (λ i x. P (suc i) x) d n (λ i h. f (suc i) (omega arith)) in
    record { items = first.0 ∷ rest.items; size = ap suc rest.size; each = λ i h. by i first rest h }
  where
    by : (i : ℕ) (first : (x : _) × P 0 x) (rest : Collected (λ i x. P (suc i) x) d n) → i < suc n → P i (get_or (first.0 ∷ rest.items) i d)
    by zero first rest h = first.1
    by (suc i) first rest h = rest.each i (omega arith)

-- ---- a leaf with a law
-- what is known of systems, of laws and of the best replies
record Laws : Type 0 where
  refuted_has_none : RefutedHasNoPoint
  cells : CellTheorems
  size_in_box : BoxSize
  law_row_size : LawRowSize
  law_is_right : LawIsRight
  infeasible_is_right : InfeasibleIsRight

module _ (laws : Laws) (qp : Qp) (law : LawOfSet) (shape : HasLawShape qp law) (is : IsLaw qp law) (path : List Row) (wide : All (IsOfWidth (length qp.counts)) path) (certs : List (List (ℕ × ℚ))) (met : LawLeafMet qp path law certs)
    (t : List ℚ) (in_box : IsInBox qp.counts t) (on_path : All (MeetsRow t) path) where
  abbrev HoldsAt : ℕ → RowInt → Type 0
  HoldsAt i row = IsLawRow qp law (i + 1) row × MeetsRow t (whole_row row)

  row_holds : (i : ℕ) → i < height qp.g → (row : RowInt) × HoldsAt i row
  unfolding hold_system
  row_holds i h =
      let m = (met i h).holds_so in
      let size : length m.row.a ≡ length qp.counts = laws.law_row_size qp law (i + 1) shape m.row m.is_row.multiple in
      let none : (¬ MeetsRow t (whole_row m.row)) → ⊥ = λ fails. no_point laws.refuted_has_none (hold_system qp path m.row) m.cert (laws.cells.hold_width qp path m.row wide size) m.refutes t ((laws.cells.hold_points qp path m.row t).0 (in_box, on_path, fails)) in
      (m.row, (m.is_row, laws.cells.holds_unless m.row t none))

  abbrev blank : RowInt
  blank = record { a = []; b = pos 0 }

  in_region : IsInRegion qp law t
  in_region =
      let all = collected HoldsAt blank (height qp.g) row_holds in
      (laws.cells.region_rows qp law is all.items (record { one_each = all.size; each = λ i h. (all.each i h).0 }) t).1
      (in_box, All-from_get_or (λ row. MeetsRow t (whole_row row)) all.items blank (λ i h. (all.each i (subst (λ n. i < n) all.size h)).1))

-- ---- a leaf without a law
none_feasible : Laws → (qp : Qp) (path : List Row) → All (IsOfWidth (length qp.counts)) path → (cert : List (ℕ × ℚ)) → EmptyLeafMet qp path cert → (t : List ℚ) → All (MeetsRow t) path → (z : List ℚ) → IsFeasible qp t z → ⊥
unfolding joint_system
none_feasible laws qp path wide cert met t on_path z f =
    no_point laws.refuted_has_none (joint_system qp path) cert (laws.cells.joint_width qp path wide) met.holds_so (t ++ z)
    ((laws.cells.joint_points qp path wide t z (laws.size_in_box qp.counts t f.in_box)).0 (on_path, f))

-- ---- the plant's box is the program's
same_box : (grid : List Coordinate) (t : List ℚ) → IsWithin grid t → IsInBox (counts_of grid) t
same_box [] [] h = tt
same_box [] (x ∷ t) h = absurd h
same_box (axis ∷ grid) [] h = absurd h
same_box (axis ∷ grid) (x ∷ t) h = (h.0, h.1, same_box grid t h.2)

pub law_shape : (plant : Plant) (qp : Qp) → IsCondensed qp plant → (law : LawOfSet) → IsLawFor plant law → HasLawShape qp law
law_shape plant qp c law f =
    let n : length qp.counts ≡ plant.n = ap length c.counts_are ∙ length-map plant.grid (λ (axis : Coordinate). axis.count) ∙ plant.is_plant.grid_size in
    let m = f.moves_shape in
    let l = f.mults_shape in
    record {
      set_of_rows = subst (λ k. IsSetOfRows k law.set) (sym c.rows_are) f.set_of_rows;
      few = subst (λ k. length law.set ≤ k) (sym c.unknowns_are) f.few;
      moves_shape = record { rows_are = m.rows_are ∙ sym c.unknowns_are; columns_are = m.columns_are ∙ sym (ap (λ k. k + 1) n); rectangular = m.rectangular };
      mults_shape = record { rows_are = l.rows_are; columns_are = l.columns_are ∙ sym (ap (λ k. k + 1) n); rectangular = l.rectangular };
    }

module _ (laws : Laws) (parts : Parts) (t : List ℚ) (controller : IsController parts.plant parts.laws parts.tree) (accepted : Accepts parts) (in_plant_box : IsInPlantBox parts.plant t) where
  abbrev qp : Qp
  qp = accepted.qp

  condensed : IsCondensed qp parts.plant
  condensed = accepted.program.has_program.condensed

  counts_size : length qp.counts ≡ parts.plant.n
  counts_size = ap length condensed.counts_are ∙ length-map parts.plant.grid (λ (axis : Coordinate). axis.count) ∙ parts.plant.is_plant.grid_size

  in_box : IsInBox qp.counts t
  in_box = subst (λ counts. IsInBox counts t) (sym condensed.counts_are) (same_box parts.plant.grid t in_plant_box)

  wide : (place : ℕ) (path : List Row) → PathTo parts.tree place path → All (IsOfWidth (length qp.counts)) path
  wide place path p = subst (λ n. All (IsOfWidth n) path) (sym counts_size) (path_wide parts.tree parts.plant.n (length parts.laws) controller.shapes.nodes_fit place path p)

  law_reply : (place number : ℕ) (certs : List (List (ℕ × ℚ))) (law : LawOfSet) → EndsAt parts.tree t place (Law number certs) → IsLawNumbered parts.laws number law → IsRight parts.plant t (move (first_move parts.plant.p law t))
  law_reply place number certs law e named =
      let p = meets_path laws.cells parts.tree t place e.reached in
      let law_within : number - 1 < length parts.laws = slice_get_within parts.laws (number - 1) law named in
      let shape : HasLawShape qp law = law_shape parts.plant qp condensed law (all_at (IsLawFor parts.plant) parts.laws (number - 1) law named controller.shapes.laws_fit) in
      let is : IsLaw qp law = law_by_coefficients qp law shape (accepted.behind.laws (number - 1) law_within law named) in
      let met : LawLeafMet qp p.path law certs = accepted.behind.leaves place (slice_get_within parts.tree place (Law number certs) e.node_at) p.path (Law number certs) p.leads e.node_at law named in
      laws.law_is_right parts.plant qp law t condensed accepted.program.definite is (in_region laws qp law shape is p.path (wide place p.path p.leads) certs met t in_box p.meets)

  empty_reply : (place : ℕ) (cert : List (ℕ × ℚ)) → EndsAt parts.tree t place (NoMove cert) → IsRight parts.plant t infeasible
  empty_reply place cert e =
      let p = meets_path laws.cells parts.tree t place e.reached in
      let met : EmptyLeafMet qp p.path cert = accepted.behind.leaves place (slice_get_within parts.tree place (NoMove cert) e.node_at) p.path (NoMove cert) p.leads e.node_at in
      laws.infeasible_is_right parts.plant qp t condensed in_box (λ z f. none_feasible laws qp p.path (wide place p.path p.leads) cert met t p.meets z f)

  reply_right : (reply : Reply) → RepliesAt parts t reply → IsRight parts.plant t reply
  reply_right _ (by_law place number certs law e named) = law_reply place number certs law e named
  reply_right _ (by_no_law place cert e) = empty_reply place cert e

pub accepted_is_right : RefutedHasNoPoint → CellTheorems → BoxSize → LawRowSize → LawIsRight → InfeasibleIsRight → AcceptedIsRight
accepted_is_right none cells in_box size of_law of_none parts t reply controller accepted in_plant_box r =
    let laws : Laws = record { refuted_has_none = none; cells = cells; size_in_box = in_box; law_row_size = size; law_is_right = of_law; infeasible_is_right = of_none } in
    reply_right laws parts t controller accepted in_plant_box reply r
