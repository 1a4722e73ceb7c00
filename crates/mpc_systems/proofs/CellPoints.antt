-- The points of the systems that decide a cell, and the coefficients of their rows.
use Rattle.std.proofs.Common.{◌≡◌, ℕ, suc, ◌+◌, ◌-◌, ◌<◌, List, [], ◌∷◌, ◌++◌, length, map, get_or, take, drop, pos, negsuc, refl, sym, ◌∙◌, ap, subst, arith, All, ◌↔◌}
use Rattle.std.specs.List.{AllByRecursion}
use Rattle.std.proofs.lemmas.List.Elements.{All-append, All-map, All-from_get_or, All-from_recursion, recursion_from_All}
use Rattle.std.proofs.lemmas.List.{append-nil, length-append, length-replicate, length-take, take-append-drop}
use Rattle.std.proofs.lemmas.List.FromFn.{get_or-map-range_with_len, length-map-range_with_len}
use Rattle.mpc_exact.specs.Rational.{ℚ, int, ◌*ℚ◌, ◌≤ℚ◌, ◌<ℚ◌, neg_ℚ}
use Rattle.mpc_exact.proofs.OrderTheorems.{≤ℚ-not-<, <ℚ_of_not-≤, ≤ℚ_of_not-<}
use Rattle.mpc_exact.proofs.RationalRing.{reads, by_ring}
use Rattle.mpc_exact.proofs.Linear.{linear_lt, claims, none, lt}
use Rattle.mpc_space.specs.Vector.{dot, zeros, vec_scale, later_entries}
use Rattle.mpc_space.specs.Matrix.{height}
use Rattle.mpc_space.proofs.Entries.{length-listed, length-scale}
use Rattle.mpc_space.proofs.Vector.{dot-append, dot-scale, dot-padded}
use Rattle.mpc_linear.specs.declared.integers.RowInt.{RowInt}
use Rattle.mpc_rows.specs.declared.programs.Qp.{Qp}
use Rattle.mpc_rows.specs.declared.laws.Law.{Law}
use Rattle.mpc_rows.specs.declared.systems.Row.{Row}
use Rattle.mpc_rows.specs.LinearSystem.{IsWithin, MeetsRow, IsPoint, HasWidth, no_row}
use Rattle.mpc_rows.specs.ActiveSets.{row_of, IsInBox, IsFeasible}
use Rattle.mpc_rows.specs.Laws.{IsLaw, IsInRegion}
use Rattle.mpc_rows.specs.LawRows.{AreLawRows, whole_row, broken_row}
use Rattle.mpc_rows.specs.SetRuns.{box_from, box_rows, joint_row, joint_rows, region_system}
use Rattle.mpc_rows.specs.RegionTheorems.{RegionTheorems}
use Rattle.mpc_systems.specs.Writing.{HasBoxWidth, widened}
use Rattle.mpc_systems.specs.Systems.{cell_system, meet_system, hold_system, joint_system}

-- ---- lists
All-split : {X : Type 0} (P : X → Type 0) (xs ys : List X) → All P (xs ++ ys) → All P xs × All P ys
All-split P xs ys h = let parts = split P xs ys (recursion_from_All P (xs ++ ys) h) in (All-from_recursion P xs parts.0, All-from_recursion P ys parts.1)
  where
    split : {X : Type 0} (P : X → Type 0) (xs ys : List X) → AllByRecursion P (xs ++ ys) → AllByRecursion P xs × AllByRecursion P ys
    split P [] ys h = (tt, h)
    split P (x ∷ xs) ys h = let rest = split P xs ys h.1 in ((h.0, rest.0), rest.1)

All-unmap : {X Y : Type 0} (P : X → Type 0) (f : Y → X) (ys : List Y) → All P (map f ys) → All (λ y. P (f y)) ys
All-unmap P f ys h = All-from_recursion (λ y. P (f y)) ys (unmap P f ys (recursion_from_All P (map f ys) h))
  where
    unmap : {X Y : Type 0} (P : X → Type 0) (f : Y → X) (ys : List Y) → AllByRecursion P (map f ys) → AllByRecursion (λ y. P (f y)) ys
    unmap P f [] h = tt
    unmap P f (y ∷ ys) h = (h.0, unmap P f ys h.1)

-- ---- a row that fails
broken_when : (d b : ℚ) → (¬ (d ≤ℚ b)) → (int (negsuc 0) *ℚ d) <ℚ neg_ℚ b
broken_when d b h = linear_lt (d ∷ b ∷ []) (lt (<ℚ_of_not-≤ h) none) (search claims depth 40) tt

whole_where : (d b : ℚ) → (int (negsuc 0) *ℚ d) <ℚ neg_ℚ b → d ≤ℚ b → ⊥
whole_where d b h k = ≤ℚ-not-< k (linear_lt (d ∷ b ∷ []) (lt h none) (search claims depth 40) tt)

module _ (row : RowInt) (t : List ℚ) where
  broken_sum : dot (broken_row row).a t ≡ int (negsuc 0) *ℚ dot (map int row.a) t
  broken_sum = dot-scale (int (negsuc 0)) (map int row.a) t

  pub broken_points : MeetsRow t (broken_row row) ↔ (¬ MeetsRow t (whole_row row))
  broken_points = (
    λ h. whole_where (dot (map int row.a) t) (int row.b) (subst (λ d. d <ℚ neg_ℚ (int row.b)) broken_sum h),
    λ h. subst (λ d. d <ℚ neg_ℚ (int row.b)) (sym broken_sum) (broken_when (dot (map int row.a) t) (int row.b) h),
  )

  pub holds_unless : (¬ ¬ MeetsRow t (whole_row row)) → MeetsRow t (whole_row row)
  holds_unless h = ≤ℚ_of_not-< (λ k. h (λ m. ≤ℚ-not-< m k))

-- ---- rows with zeros behind
short : (a t z : List ℚ) → length a ≡ length t → dot a (t ++ z) ≡ dot a t
short a t z e =
    ap (λ x. dot x (t ++ z)) (sym (append-nil a)) ∙ dot-append a [] t z e
    ∙ by_ring (dot a t ∷ []) (search reads depth 30) (search reads depth 30) tt

padded : (more : ℕ) (r : Row) (t z : List ℚ) → length r.a ≡ length t → MeetsRow (t ++ z) (widened more r) ↔ MeetsRow t r
padded more r t z e =
    let same = dot-padded r.a (t ++ z) more ∙ short r.a t z e in
    (subst (λ d. IsWithin r.strict d r.b) same, subst (λ d. IsWithin r.strict d r.b) (sym same))

padded_all : (more : ℕ) (cell : List Row) (t z : List ℚ) → AllByRecursion (λ r. length r.a ≡ length t) cell → AllByRecursion (MeetsRow (t ++ z)) (map (widened more) cell) ↔ AllByRecursion (MeetsRow t) cell
padded_all more [] t z e = (λ h. tt, λ h. tt)
padded_all more (r ∷ rows) t z e =
    let here = padded more r t z e.0 in
    let rest = padded_all more rows t z e.1 in
    (λ h. (here.0 h.0, rest.0 h.1), λ h. (here.1 h.0, rest.1 h.1))

-- ---- points
module _ (laws : RegionTheorems) where
  pub box_points : (qp : Qp) (t : List ℚ) → length t ≡ length qp.counts → IsInBox qp.counts t ↔ All (MeetsRow t) (box_rows (length qp.counts) qp.counts)
  box_points qp t size =
      let width : length qp.counts + 0 ≡ length qp.counts = omega arith in
      subst (λ v. IsInBox qp.counts t ↔ All (MeetsRow v) (box_rows (length qp.counts) qp.counts)) (append-nil t)
      (subst (λ n. IsInBox qp.counts t ↔ All (MeetsRow (t ++ [])) (box_rows n qp.counts)) width (laws.box_meets qp.counts t [] size))

  module _ (qp : Qp) (law : Law) (is : IsLaw qp law) (rows : List RowInt) (are : AreLawRows qp law rows) where
    abbrev box : List Row
    box = box_rows (length qp.counts) qp.counts

    rows_in_region : (t : List ℚ) → IsInRegion qp law t → IsInBox qp.counts t × All (λ row. MeetsRow t (whole_row row)) rows
    unfolding region_system
    rows_in_region t r =
        let point : IsPoint (region_system qp rows) t = (laws.region_points qp law is rows are t).0 r in
        (r.in_box, All-unmap (MeetsRow t) whole_row rows (All-split (MeetsRow t) box (map whole_row rows) point.meets).1)

    region_by_rows : (t : List ℚ) → IsInBox qp.counts t × All (λ row. MeetsRow t (whole_row row)) rows → IsInRegion qp law t
    unfolding region_system
    region_by_rows t h =
        let size : length t ≡ length qp.counts = laws.size_in_box qp.counts t h.0 in
        let point : IsPoint (region_system qp rows) t = record { size = size; meets = All-append (MeetsRow t) box (map whole_row rows) ((box_points qp t size).0 h.0) (All-map (MeetsRow t) whole_row rows h.1) } in
        (laws.region_points qp law is rows are t).1 point

    pub region_rows : (t : List ℚ) → IsInRegion qp law t ↔ (IsInBox qp.counts t × All (λ row. MeetsRow t (whole_row row)) rows)
    region_rows t = (rows_in_region t, region_by_rows t)

    module _ (cell : List Row) (t : List ℚ) where
      meeting_point : All (MeetsRow t) cell × IsInRegion qp law t → IsPoint (meet_system qp cell rows) t
      unfolding meet_system region_system
      meeting_point h =
          let region : IsPoint (region_system qp rows) t = (laws.region_points qp law is rows are t).0 h.1 in
          let parts = All-split (MeetsRow t) box (map whole_row rows) region.meets in
          record { size = region.size; meets = All-append (MeetsRow t) box (cell ++ map whole_row rows) parts.0 (All-append (MeetsRow t) cell (map whole_row rows) h.0 parts.1) }

      met_at : IsPoint (meet_system qp cell rows) t → All (MeetsRow t) cell × IsInRegion qp law t
      unfolding meet_system region_system
      met_at p =
          let parts = All-split (MeetsRow t) box (cell ++ map whole_row rows) p.meets in
          let rest = All-split (MeetsRow t) cell (map whole_row rows) parts.1 in
          let point : IsPoint (region_system qp rows) t = record { size = p.size; meets = All-append (MeetsRow t) box (map whole_row rows) parts.0 rest.1 } in
          (rest.0, (laws.region_points qp law is rows are t).1 point)

      pub meet_points : (All (MeetsRow t) cell × IsInRegion qp law t) ↔ IsPoint (meet_system qp cell rows) t
      meet_points = (meeting_point, met_at)

  module _ (qp : Qp) (cell : List Row) (row : RowInt) (t : List ℚ) where
    failing_point : IsInBox qp.counts t × All (MeetsRow t) cell × (¬ MeetsRow t (whole_row row)) → IsPoint (hold_system qp cell row) t
    unfolding hold_system
    failing_point h =
        let size : length t ≡ length qp.counts = laws.size_in_box qp.counts t h.0 in
        record {
          size = size;
          meets =
              All-append (MeetsRow t) (box_rows (length qp.counts) qp.counts) (cell ++ broken_row row ∷ []) ((box_points qp t size).0 h.0)
              (All-append (MeetsRow t) cell (broken_row row ∷ []) h.1 (All-from_recursion (MeetsRow t) (broken_row row ∷ []) ((broken_points row t).1 h.2, tt)));
        }

    failing_at : IsPoint (hold_system qp cell row) t → IsInBox qp.counts t × All (MeetsRow t) cell × (¬ MeetsRow t (whole_row row))
    unfolding hold_system
    failing_at p =
        let parts = All-split (MeetsRow t) (box_rows (length qp.counts) qp.counts) (cell ++ broken_row row ∷ []) p.meets in
        let rest = All-split (MeetsRow t) cell (broken_row row ∷ []) parts.1 in
        let last = recursion_from_All (MeetsRow t) (broken_row row ∷ []) rest.1 in
        ((box_points qp t p.size).1 parts.0, rest.0, (broken_points row t).0 last.0)

    pub hold_points : (IsInBox qp.counts t × All (MeetsRow t) cell × (¬ MeetsRow t (whole_row row))) ↔ IsPoint (hold_system qp cell row) t
    hold_points = (failing_point, failing_at)

  module _ (qp : Qp) (cell : List Row) (wide : HasBoxWidth qp cell) where
    module _ (t z : List ℚ) (size : length t ≡ length qp.counts) where
      cell_rows : All (MeetsRow (t ++ z)) (map (widened (height qp.h)) cell) ↔ All (MeetsRow t) cell
      cell_rows =
          let widths : AllByRecursion (λ r. length r.a ≡ length t) cell = subst (λ n. AllByRecursion (λ r. length r.a ≡ n) cell) (sym size) (recursion_from_All (λ r. length r.a ≡ length qp.counts) cell wide) in
          let both = padded_all (height qp.h) cell t z widths in (
            λ h. All-from_recursion (MeetsRow t) cell (both.0 (recursion_from_All (MeetsRow (t ++ z)) (map (widened (height qp.h)) cell) h)),
            λ h. All-from_recursion (MeetsRow (t ++ z)) (map (widened (height qp.h)) cell) (both.1 (recursion_from_All (MeetsRow t) cell h)),
          )

      box_of : length z ≡ height qp.h → IsInBox qp.counts t ↔ All (MeetsRow (t ++ z)) (box_rows (length qp.counts + height qp.h) qp.counts)
      box_of z_size = subst (λ n. IsInBox qp.counts t ↔ All (MeetsRow (t ++ z)) (box_rows (length qp.counts + n) qp.counts)) z_size (laws.box_meets qp.counts t z size)

      admitted_at : IsPoint (joint_system qp cell) (t ++ z) → All (MeetsRow t) cell × IsFeasible qp t z
      unfolding joint_system
      admitted_at p =
          let both : length t + length z ≡ length qp.counts + height qp.h = sym (length-append t z) ∙ p.size in
          let z_size : length z ≡ height qp.h = omega arith in
          let parts = All-split (MeetsRow (t ++ z)) (box_rows (length qp.counts + height qp.h) qp.counts) (map (widened (height qp.h)) cell ++ joint_rows qp) p.meets in
          let rest = All-split (MeetsRow (t ++ z)) (map (widened (height qp.h)) cell) (joint_rows qp) parts.1 in
          (cell_rows.0 rest.0, record { in_box = (box_of z_size).1 parts.0; size = z_size; meets = (laws.joint_rows_meet qp t z size).0 rest.1 })

      admitted_point : All (MeetsRow t) cell × IsFeasible qp t z → IsPoint (joint_system qp cell) (t ++ z)
      unfolding joint_system
      admitted_point h =
          let z_size : length z ≡ height qp.h = h.1.size in
          record {
            size = length-append t z ∙ (omega arith);
            meets =
                All-append (MeetsRow (t ++ z)) (box_rows (length qp.counts + height qp.h) qp.counts) (map (widened (height qp.h)) cell ++ joint_rows qp) ((box_of z_size).0 h.1.in_box)
                (All-append (MeetsRow (t ++ z)) (map (widened (height qp.h)) cell) (joint_rows qp) (cell_rows.1 h.0) ((laws.joint_rows_meet qp t z size).1 h.1.meets));
          }

      pub joint_points : (All (MeetsRow t) cell × IsFeasible qp t z) ↔ IsPoint (joint_system qp cell) (t ++ z)
      joint_points = (admitted_point, admitted_at)

    pub joint_has_point : (v : List ℚ) → IsPoint (joint_system qp cell) v → (t : List ℚ) × (z : List ℚ) × All (MeetsRow t) cell × IsFeasible qp t z
    unfolding joint_system
    joint_has_point v p =
        let size : length (take (length qp.counts) v) ≡ length qp.counts = omega (arith, p.size, length-take (length qp.counts) v) in
        let whole : IsPoint (joint_system qp cell) (take (length qp.counts) v ++ drop (length qp.counts) v) = subst (IsPoint (joint_system qp cell)) (sym (take-append-drop (length qp.counts) v)) p in
        let both = (joint_points (take (length qp.counts) v) (drop (length qp.counts) v) size).1 whole in
        (take (length qp.counts) v, drop (length qp.counts) v, both.0, both.1)

-- ---- widths
abbrev Wide : ℕ → Row → Type 0
Wide width r = length r.a ≡ width

box_widths : (width i : ℕ) (counts : List ℕ) → AllByRecursion (Wide width) (box_from width i counts)
box_widths width i [] = tt
box_widths width i (count ∷ counts) = (length-listed width _, (length-listed width _, box_widths width (suc i) counts))

broken_wide : (row : RowInt) (width : ℕ) → length row.a ≡ width → Wide width (broken_row row)
broken_wide row width e = length-scale (int (negsuc 0)) (map int row.a) ∙ mapped row.a ∙ e
  where
    mapped : (zs : List _) → length (map int zs) ≡ length zs
    mapped [] = refl
    mapped (z ∷ zs) = ap suc (mapped zs)

system_wide : (width : ℕ) (counts : List ℕ) (cell more : List Row) → All (Wide width) cell → All (Wide width) more → HasWidth width (cell_system width counts cell more).rows
system_wide width counts cell more p l = record { each = All-append (Wide width) (box_rows width counts) (cell ++ more) (All-from_recursion (Wide width) (box_rows width counts) (box_widths width 0 counts)) (All-append (Wide width) cell more p l) }

widened_wide : (width more : ℕ) (cell : List Row) → AllByRecursion (Wide width) cell → AllByRecursion (Wide (width + more)) (map (widened more) cell)
widened_wide width more [] h = tt
widened_wide width more (r ∷ cell) h = (length-append r.a (zeros more) ∙ (λ t. h.0 t + length-replicate more (int (pos 0)) t), widened_wide width more cell h.1)

later_size : (r : List ℚ) (n : ℕ) → length r ≡ n + 1 → length (later_entries r) ≡ n
later_size [] n e = absurd (omega arith)
later_size (x ∷ xs) n e = omega arith

module _ (qp : Qp) where
  joint_row_wide : (k : ℕ) → k < height qp.g → Wide (length qp.counts + height qp.h) (joint_row qp (1 + k))
  joint_row_wide k h =
      let w = qp.is_program.w_shape in
      let g = qp.is_program.g_shape in
      let place : 1 + k - 1 ≡ k = omega arith in
      let w_size : length (row_of qp.w.rows (1 + k)) ≡ length qp.counts + 1 = ap (λ j. length (get_or qp.w.rows j [])) place ∙ w.rectangular k [] (omega (arith, w.rows_are)) ∙ w.columns_are in
      let g_size : length (row_of qp.g.rows (1 + k)) ≡ height qp.h = ap (λ j. length (get_or qp.g.rows j [])) place ∙ g.rectangular k [] (omega arith) ∙ g.columns_are in
      length-append (vec_scale (int (negsuc 0)) (later_entries (row_of qp.w.rows (1 + k)))) (row_of qp.g.rows (1 + k))
      ∙ (λ t. (length-scale (int (negsuc 0)) (later_entries (row_of qp.w.rows (1 + k))) ∙ later_size (row_of qp.w.rows (1 + k)) (length qp.counts) w_size) t + g_size t)

  joint_rows_wide : All (Wide (length qp.counts + height qp.h)) (joint_rows qp)
  joint_rows_wide =
      All-from_get_or (Wide (length qp.counts + height qp.h)) (joint_rows qp) no_row
      (λ k l.
      let within : k < height qp.g = subst (λ n. k < n) (length-map-range_with_len (joint_row qp) 1 (height qp.g)) l in
      subst (Wide (length qp.counts + height qp.h)) (sym (get_or-map-range_with_len (joint_row qp) 1 (height qp.g) k (1 + k) no_row within (omega arith))) (joint_row_wide k within))

  pub hold_width : (cell : List Row) (row : RowInt) → HasBoxWidth qp cell → length row.a ≡ length qp.counts → HasWidth (length qp.counts) (hold_system qp cell row).rows
  unfolding hold_system
  hold_width cell row p e =
      system_wide (length qp.counts) qp.counts cell (broken_row row ∷ []) p
      (All-from_recursion (Wide (length qp.counts)) (broken_row row ∷ []) (broken_wide row (length qp.counts) e, tt))

  pub joint_width : (cell : List Row) → HasBoxWidth qp cell → HasWidth (length qp.counts + height qp.h) (joint_system qp cell).rows
  unfolding joint_system
  joint_width cell p =
      system_wide (length qp.counts + height qp.h) qp.counts (map (widened (height qp.h)) cell) (joint_rows qp)
      (All-from_recursion (Wide (length qp.counts + height qp.h)) (map (widened (height qp.h)) cell) (widened_wide (length qp.counts) (height qp.h) cell (recursion_from_All (Wide (length qp.counts)) cell p)))
      joint_rows_wide
