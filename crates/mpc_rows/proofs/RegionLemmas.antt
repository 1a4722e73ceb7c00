-- The rows of a law are its region: they are single, and with the rows of the box they hold at the region's points.
use Rattle.std.proofs.Common.{◌≡◌, ℕ, ◌+◌, ◌-◌, ◌<◌, ◌≤◌, true, false, List, [], ◌++◌, length, map, get_or, pos, sym, ◌∙◌, ap, subst, arith, All, ◌↔◌, ◌⊎◌, inl, inr}
use Rattle.std.proofs.lemmas.Bool.{cases_Bool}
use Rattle.std.proofs.lemmas.List.{append-nil, ext_get_or, get_or-map, length-map}
use Rattle.std.proofs.lemmas.List.Elements.{All-append, All-map, All-get_or, All-from_get_or}
use Rattle.mpc_exact.specs.Rational.{ℚ, ◌≤ℚ◌, IsNonneg}
use Rattle.mpc_exact.proofs.OrderTheorems.{≤ℚ_of_≡}
use Rattle.mpc_space.specs.Vector.{coordinate, dot, mat_vec, AllNonneg}
use Rattle.mpc_space.specs.Matrix.{height}
use Rattle.mpc_space.proofs.Entries.{nonneg_at, nonneg_by_entries}
use Rattle.mpc_space.proofs.Matrix.{coordinate-mat_vec, length-mat_vec}
use Rattle.mpc_linear.specs.declared.integers.RowInt.{RowInt}
use Rattle.mpc_linear.specs.PrimitiveRows.{OnePrimitiveRow}
use Rattle.mpc_rows.specs.declared.programs.Qp.{Qp}
use Rattle.mpc_rows.specs.declared.laws.Law.{Law}
use Rattle.mpc_rows.specs.LinearSystem.{MeetsRow, IsPoint}
use Rattle.mpc_rows.specs.ActiveSets.{extended, row_of, rows_of, IsInBox, MeetsRows, IsTight}
use Rattle.mpc_rows.specs.Laws.{IsLaw, IsInRegion, HasRegion, moves_at, mults_at}
use Rattle.mpc_rows.specs.LawRows.{is_member, place_of, law_sides, law_bound, MeetsConditionBy, MeetsCondition, IsLawRow, AreLawRows, whole_row}
use Rattle.mpc_rows.specs.SetRuns.{box_rows, region_system}
use Rattle.mpc_rows.proofs.BoxLemmas.{box_meets}
use Rattle.mpc_rows.proofs.JointLemmas.{gain, limit, meets_at, meets_by_each, size_in_box, All-split}
use Rattle.mpc_rows.proofs.PlaceLemmas.{member_place, place_of-member, member_bounds}
use Rattle.mpc_rows.proofs.LawPoints.{law_row_points}

abbrev blank : RowInt
blank = record { a = []; b = pos 0 }

-- ---- a law has one list of rows
module _ (one : OnePrimitiveRow) where
  pub law_row_unique : (qp : Qp) (law : Law) (i : ℕ) (r s : RowInt) → IsLawRow qp law i r → IsLawRow qp law i s → r ≡ s
  law_row_unique qp law i r s k l =
      one (law_sides qp law i) (law_bound qp law i) r s (record { scaled = k.multiple; primitive = k.primitive }) (record { scaled = l.multiple; primitive = l.primitive })

  pub law_rows_unique : (qp : Qp) (law : Law) (xs ys : List RowInt) → AreLawRows qp law xs → AreLawRows qp law ys → xs ≡ ys
  law_rows_unique qp law xs ys h k =
      ext_get_or blank xs ys (h.one_each ∙ sym k.one_each)
      (λ i l. let within : i < height qp.g = subst (λ n. i < n) h.one_each l in law_row_unique qp law (i + 1) (get_or xs i blank) (get_or ys i blank) (h.each i within) (k.each i within))

-- ---- the conditions of the rows and the region
tight_at : (qp : Qp) (s : List ℕ) (t z : List ℚ) (p : ℕ) → p < length s → IsTight qp s t z → gain qp z (get_or s p 0) ≡ limit qp t (get_or s p 0)
tight_at qp s t z p h e =
    sym (at qp.g.rows z) ∙ ap (λ u. coordinate u p) e ∙ at qp.w.rows (extended t)
  where
    at : (m : List (List ℚ)) (x : List ℚ) → coordinate (mat_vec (rows_of m s) x) p ≡ dot (row_of m (get_or s p 0)) x
    at m x = coordinate-mat_vec (rows_of m s) x p ∙ ap (λ row. dot row x) (get_or-map (row_of m) s p 0 [] h)

module _ (qp : Qp) (law : Law) (is : IsLaw qp law) (t : List ℚ) (size : length t ≡ length qp.counts) where
  conditions_of : AllNonneg (mults_at law t) → MeetsRows qp t (moves_at law t) → (i : ℕ) → MeetsCondition qp law i t
  conditions_of n m i = by (cases_Bool (is_member i law.set))
    where
      by : (is_member i law.set ≡ true) ⊎ (is_member i law.set ≡ false) → MeetsCondition qp law i t
      by (inl e) = subst (λ b. MeetsConditionBy b qp law i t) (sym e) (nonneg_at (mults_at law t) n (place_of i law.set))
      by (inr e) = subst (λ b. MeetsConditionBy b qp law i t) (sym e) (meets_at qp t (moves_at law t) m i)

  module _ (each : (k : ℕ) → k < height qp.g → MeetsCondition qp law (1 + k) t) where
    nonneg_of : AllNonneg (mults_at law t)
    nonneg_of =
        nonneg_by_entries (mults_at law t)
        (λ k l.
        let within : k < length law.set = subst (λ n. k < n) (length-mat_vec law.mults.rows (extended t) ∙ is.shape.mults_shape.rows_are) l in
        let place = place_of-member 0 (height qp.g) law.set k is.shape.set_of_rows.rises within in
        let bounds = member_bounds (height qp.g) law.set k is.shape.set_of_rows.rises within in
        let row : ℕ = get_or law.set k 0 in
        let same : 1 + (get_or law.set k 0 - 1) ≡ get_or law.set k 0 = let low : 1 ≤ get_or law.set k 0 = bounds.0 in omega arith in
        let condition : MeetsCondition qp law (get_or law.set k 0) t = subst (λ i. MeetsCondition qp law i t) same (each (get_or law.set k 0 - 1) (let low : 1 ≤ get_or law.set k 0 = bounds.0 in let high : get_or law.set k 0 ≤ height qp.g = bounds.1 in omega arith)) in
        subst (λ p. IsNonneg (coordinate (mults_at law t) p)) (sym place.1) (subst (λ b. MeetsConditionBy b qp law (get_or law.set k 0) t) place.0 condition))

    rows_of_conditions : MeetsRows qp t (moves_at law t)
    rows_of_conditions = meets_by_each qp t (moves_at law t) (λ k l. by k (each k l) (cases_Bool (is_member (1 + k) law.set)))
      where
        by : (k : ℕ) → MeetsCondition qp law (1 + k) t → (is_member (1 + k) law.set ≡ true) ⊎ (is_member (1 + k) law.set ≡ false) → gain qp (moves_at law t) (1 + k) ≤ℚ limit qp t (1 + k)
        by k c (inl e) =
            let place = member_place law.set (1 + k) e in
            ≤ℚ_of_≡ (subst (λ i. gain qp (moves_at law t) i ≡ limit qp t i) place.1 (tight_at qp law.set t (moves_at law t) (place_of (1 + k) law.set) place.0 (is.equations t size).tight))
        by k c (inr e) = subst (λ b. MeetsConditionBy b qp law (1 + k) t) e c

-- ---- the system of the region
module _ (qp : Qp) (law : Law) (is : IsLaw qp law) (rows : List RowInt) (are : AreLawRows qp law rows) (t : List ℚ) where
  row_condition : length t ≡ length qp.counts → (k : ℕ) → k < height qp.g → MeetsRow t (whole_row (get_or rows k blank)) ↔ MeetsCondition qp law (1 + k) t
  row_condition size k h = subst (λ i. MeetsRow t (whole_row (get_or rows k blank)) ↔ MeetsCondition qp law i t) (omega arith) (law_row_points qp law (k + 1) t size (get_or rows k blank) (are.each k h).multiple)

  box_is : length t ≡ length qp.counts → IsInBox qp.counts t ↔ All (MeetsRow t) (box_rows (length qp.counts) qp.counts)
  box_is size =
      let width : length qp.counts + 0 ≡ length qp.counts = omega arith in
      subst (λ v. IsInBox qp.counts t ↔ All (MeetsRow v) (box_rows (length qp.counts) qp.counts)) (append-nil t)
      (subst (λ n. IsInBox qp.counts t ↔ All (MeetsRow (t ++ [])) (box_rows n qp.counts)) width (box_meets qp.counts t [] size))

  point_of_region : IsInRegion qp law t → IsPoint (region_system qp rows) t
  unfolding region_system
  point_of_region r =
      let size : length t ≡ length qp.counts = size_in_box qp.counts t r.in_box in
      record {
        size = size;
        meets =
            All-append (MeetsRow t) (box_rows (length qp.counts) qp.counts) (map whole_row rows) ((box_is size).0 r.in_box)
            (All-map (MeetsRow t) whole_row rows
            (All-from_get_or (λ row. MeetsRow t (whole_row row)) rows blank
            (λ k l. (row_condition size k (subst (λ n. k < n) are.one_each l)).1 (conditions_of qp law is t size r.nonnegative r.meets (1 + k)))));
      }

  region_of_point : IsPoint (region_system qp rows) t → IsInRegion qp law t
  unfolding region_system
  region_of_point p =
      let size : length t ≡ length qp.counts = p.size in
      let parts = All-split (MeetsRow t) (box_rows (length qp.counts) qp.counts) (map whole_row rows) p.meets in
      let conditions : (k : ℕ) → k < height qp.g → MeetsCondition qp law (1 + k) t =
      λ k h.
      let inside : k < length rows = subst (λ n. k < n) (sym are.one_each) h in
      (row_condition size k h).0
      (subst (MeetsRow t) (get_or-map whole_row rows k blank (whole_row blank) inside)
      (All-get_or (MeetsRow t) (map whole_row rows) k (whole_row blank) (subst (λ n. k < n) (sym (length-map rows whole_row)) inside) parts.1)) in
      record { in_box = (box_is size).1 parts.0; nonnegative = nonneg_of qp law is t size conditions; meets = rows_of_conditions qp law is t size conditions }

-- a point lies in the region of a law where it is a point of the system
pub region_points : (qp : Qp) (law : Law) → IsLaw qp law → (rows : List RowInt) → AreLawRows qp law rows → (t : List ℚ) → IsInRegion qp law t ↔ IsPoint (region_system qp rows) t
region_points qp law is rows are t = (point_of_region qp law is rows are t, region_of_point qp law is rows are t)

-- a law has a region exactly where the system has a point
pub has_region : (qp : Qp) (law : Law) → IsLaw qp law → (rows : List RowInt) → AreLawRows qp law rows → HasRegion qp law ↔ ((v : List ℚ) × IsPoint (region_system qp rows) v)
has_region qp law is rows are = (
  λ r. (r.point, (region_points qp law is rows are r.point).0 r.within),
  λ p. record { point = p.0; within = (region_points qp law is rows are p.0).1 p.1 },
)
