-- The rows of a program in the unknowns (t, z), and the points of the system that looks for a state which reaches a set.
use Rattle.std.proofs.Common.{◌≡◌, ℕ, suc, ◌+◌, ◌-◌, ◌<◌, ◌≤◌, List, [], ◌∷◌, ◌++◌, length, map, get_or, take, drop, negsuc, refl, sym, ◌∙◌, ap, subst, arith, All, ◌↔◌}
use Rattle.std.specs.List.{AllByRecursion}
use Rattle.std.proofs.lemmas.List.Elements.{All-from_recursion, recursion_from_All, All-append, All-get_or, All-from_get_or}
use Rattle.std.proofs.lemmas.List.FromFn.{get_or-map-range_with_len, length-map-range_with_len}
use Rattle.std.proofs.lemmas.List.{length-append, length-take, take-append-drop}
use Rattle.mpc_exact.specs.Rational.{ℚ, int, ◌+ℚ◌, ◌*ℚ◌, ◌≤ℚ◌, neg_ℚ}
use Rattle.mpc_exact.proofs.RationalOrder.{≤ℚ_antisymm}
use Rattle.mpc_exact.proofs.OrderTheorems.{≤ℚ_of_≡}
use Rattle.mpc_exact.proofs.Linear.{linear_le, claims, none, le, eq}
use Rattle.mpc_space.specs.Vector.{coordinate, dot, vec_scale, mat_vec, later_entries}
use Rattle.mpc_space.specs.Matrix.{height}
use Rattle.mpc_space.proofs.Entries.{length-scale, at_most_at, at_most_by_entries}
use Rattle.mpc_space.proofs.Vector.{dot-append, dot-scale}
use Rattle.mpc_space.proofs.Matrix.{coordinate-mat_vec, length-mat_vec}
use Rattle.mpc_sets.specs.RowSet.{IsSetOfRows, RisesWithin}
use Rattle.mpc_rows.specs.declared.programs.Qp.{Qp}
use Rattle.mpc_rows.specs.declared.systems.Row.{Row}
use Rattle.mpc_rows.specs.LinearSystem.{MeetsRow, IsPoint, no_row}
use Rattle.mpc_rows.specs.ActiveSets.{extended, row_of, IsInBox, MeetsRows, IsTight, IsFeasible, IsReachable}
use Rattle.mpc_rows.specs.SetRuns.{box_rows, joint_row, joint_rows, turned, reach_system}
use Rattle.mpc_rows.proofs.LawLemmas.{dot-extended}
use Rattle.mpc_rows.proofs.BoxLemmas.{box_meets}

pub length-later : (r : List ℚ) (n : ℕ) → length r ≡ n + 1 → length (later_entries r) ≡ n
length-later [] n e = absurd (omega arith)
length-later (x ∷ xs) n e = omega arith

pub All-split : {X : Type 0} (P : X → Type 0) (xs ys : List X) → All P (xs ++ ys) → All P xs × All P ys
All-split P xs ys h = let parts = split P xs ys (recursion_from_All P (xs ++ ys) h) in (All-from_recursion P xs parts.0, All-from_recursion P ys parts.1)
  where
    split : {X : Type 0} (P : X → Type 0) (xs ys : List X) → AllByRecursion P (xs ++ ys) → AllByRecursion P xs × AllByRecursion P ys
    split P [] ys h = (tt, h)
    split P (x ∷ xs) ys h = let rest = split P xs ys h.1 in ((h.0, rest.0), rest.1)

-- ---- one row: d stands for w_i on t, c for w_i on 1, g for g_i z, w for w_i on (1, t)
module _ (c d g w : ℚ) (e : w ≡ c +ℚ d) where
  row_holds : g ≤ℚ w → (int (negsuc 0) *ℚ d +ℚ g) ≤ℚ c
  row_holds h = linear_le (c ∷ d ∷ g ∷ w ∷ []) (eq e (le h none)) (search claims depth 40) tt

  row_says : (int (negsuc 0) *ℚ d +ℚ g) ≤ℚ c → g ≤ℚ w
  row_says h = linear_le (c ∷ d ∷ g ∷ w ∷ []) (eq e (le h none)) (search claims depth 40) tt

  turned_holds : w ≤ℚ g → (int (negsuc 0) *ℚ (int (negsuc 0) *ℚ d +ℚ g)) ≤ℚ neg_ℚ c
  turned_holds h = linear_le (c ∷ d ∷ g ∷ w ∷ []) (eq e (le h none)) (search claims depth 40) tt

  turned_says : (int (negsuc 0) *ℚ (int (negsuc 0) *ℚ d +ℚ g)) ≤ℚ neg_ℚ c → w ≤ℚ g
  turned_says h = linear_le (c ∷ d ∷ g ∷ w ∷ []) (eq e (le h none)) (search claims depth 40) tt

abbrev pub gain : Qp → List ℚ → ℕ → ℚ
gain qp z i = dot (row_of qp.g.rows i) z

abbrev pub limit : Qp → List ℚ → ℕ → ℚ
limit qp t i = dot (row_of qp.w.rows i) (extended t)

module _ (qp : Qp) (t z : List ℚ) (t_size : length t ≡ length qp.counts) where
  module _ (i : ℕ) (from_one : 1 ≤ i) (to_last : i ≤ height qp.g) where
    abbrev slopes : List ℚ
    slopes = later_entries (row_of qp.w.rows i)

    w_size : length (row_of qp.w.rows i) ≡ length qp.counts + 1
    w_size =
        let within : i - 1 < length qp.w.rows = omega (arith, qp.is_program.w_shape.rows_are) in
        All-get_or (λ row. length row ≡ qp.w.columns) qp.w.rows (i - 1) [] within qp.is_program.w_shape.rectangular ∙ qp.is_program.w_shape.columns_are

    joint_sum : dot (joint_row qp i).a (t ++ z) ≡ int (negsuc 0) *ℚ dot slopes t +ℚ gain qp z i
    joint_sum =
        dot-append (vec_scale (int (negsuc 0)) slopes) (row_of qp.g.rows i) t z (length-scale (int (negsuc 0)) slopes ∙ length-later (row_of qp.w.rows i) (length qp.counts) w_size ∙ sym t_size)
        ∙ ap (λ u. u +ℚ gain qp z i) (dot-scale (int (negsuc 0)) slopes t)

    turned_sum : dot (turned (joint_row qp i)).a (t ++ z) ≡ int (negsuc 0) *ℚ (int (negsuc 0) *ℚ dot slopes t +ℚ gain qp z i)
    turned_sum = dot-scale (int (negsuc 0)) (joint_row qp i).a (t ++ z) ∙ ap (λ u. int (negsuc 0) *ℚ u) joint_sum

    abbrev constant : ℚ
    constant = coordinate (row_of qp.w.rows i) 0

    limit_is : limit qp t i ≡ constant +ℚ dot slopes t
    limit_is = dot-extended (row_of qp.w.rows i) t

    row_both : MeetsRow (t ++ z) (joint_row qp i) ↔ (gain qp z i ≤ℚ limit qp t i)
    row_both = (
      λ h. row_says constant (dot slopes t) (gain qp z i) (limit qp t i) limit_is (subst (λ u. u ≤ℚ constant) joint_sum h),
      λ h. subst (λ u. u ≤ℚ constant) (sym joint_sum) (row_holds constant (dot slopes t) (gain qp z i) (limit qp t i) limit_is h),
    )

    turned_both : MeetsRow (t ++ z) (turned (joint_row qp i)) ↔ (limit qp t i ≤ℚ gain qp z i)
    turned_both = (
      λ h. turned_says constant (dot slopes t) (gain qp z i) (limit qp t i) limit_is (subst (λ u. u ≤ℚ neg_ℚ constant) turned_sum h),
      λ h. subst (λ u. u ≤ℚ neg_ℚ constant) (sym turned_sum) (turned_holds constant (dot slopes t) (gain qp z i) (limit qp t i) limit_is h),
    )

-- a row of the program, and the row the other way round
pub joint_meets : (qp : Qp) (t z : List ℚ) (i : ℕ) → length t ≡ length qp.counts → 1 ≤ i → i ≤ height qp.g → MeetsRow (t ++ z) (joint_row qp i) ↔ (dot (row_of qp.g.rows i) z ≤ℚ dot (row_of qp.w.rows i) (extended t))
joint_meets qp t z i e h k = row_both qp t z e i h k

pub turned_meets : (qp : Qp) (t z : List ℚ) (i : ℕ) → length t ≡ length qp.counts → 1 ≤ i → i ≤ height qp.g → MeetsRow (t ++ z) (turned (joint_row qp i)) ↔ (dot (row_of qp.w.rows i) (extended t) ≤ℚ dot (row_of qp.g.rows i) z)
turned_meets qp t z i e h k = turned_both qp t z e i h k

-- ---- all rows
pub meets_at : (qp : Qp) (t z : List ℚ) → MeetsRows qp t z → (i : ℕ) → gain qp z i ≤ℚ limit qp t i
meets_at qp t z h i =
    subst (λ u. u ≤ℚ limit qp t i) (coordinate-mat_vec qp.g.rows z (i - 1))
    (subst (λ u. coordinate (mat_vec qp.g.rows z) (i - 1) ≤ℚ u) (coordinate-mat_vec qp.w.rows (extended t) (i - 1)) (at_most_at (mat_vec qp.g.rows z) (mat_vec qp.w.rows (extended t)) h (i - 1)))

pub meets_by_each : (qp : Qp) (t z : List ℚ) → ((k : ℕ) → k < height qp.g → gain qp z (1 + k) ≤ℚ limit qp t (1 + k)) → MeetsRows qp t z
meets_by_each qp t z each =
    at_most_by_entries (mat_vec qp.g.rows z) (mat_vec qp.w.rows (extended t))
    (length-mat_vec qp.g.rows z ∙ sym (length-mat_vec qp.w.rows (extended t) ∙ qp.is_program.w_shape.rows_are))
    (λ k l.
    let within : k < height qp.g = subst (λ n. k < n) (length-mat_vec qp.g.rows z) l in
    let same : 1 + k - 1 ≡ k = omega arith in
    subst (λ u. u ≤ℚ coordinate (mat_vec qp.w.rows (extended t)) k) (sym (coordinate-mat_vec qp.g.rows z k))
    (subst (λ u. dot (get_or qp.g.rows k []) z ≤ℚ u) (sym (coordinate-mat_vec qp.w.rows (extended t) k))
    (subst (λ j. dot (get_or qp.g.rows j []) z ≤ℚ dot (get_or qp.w.rows j []) (extended t)) same (each k within))))

module _ (qp : Qp) (t z : List ℚ) (t_size : length t ≡ length qp.counts) where
  row_is : (k : ℕ) → k < height qp.g → get_or (joint_rows qp) k no_row ≡ joint_row qp (1 + k)
  row_is k h = get_or-map-range_with_len (joint_row qp) 1 (height qp.g) k (1 + k) no_row h (omega arith)

  count_is : length (joint_rows qp) ≡ height qp.g
  count_is = length-map-range_with_len (joint_row qp) 1 (height qp.g)

  rows_hold : MeetsRows qp t z → All (MeetsRow (t ++ z)) (joint_rows qp)
  rows_hold h =
      All-from_get_or (MeetsRow (t ++ z)) (joint_rows qp) no_row
      (λ k l.
      let within : k < height qp.g = subst (λ n. k < n) count_is l in
      subst (MeetsRow (t ++ z)) (sym (row_is k within)) ((joint_meets qp t z (1 + k) t_size (omega arith) (omega arith)).1 (meets_at qp t z h (1 + k))))

  rows_say : All (MeetsRow (t ++ z)) (joint_rows qp) → MeetsRows qp t z
  rows_say h =
      meets_by_each qp t z
      (λ k within.
      let row : MeetsRow (t ++ z) (joint_row qp (1 + k)) = subst (MeetsRow (t ++ z)) (row_is k within) (All-get_or (MeetsRow (t ++ z)) (joint_rows qp) k no_row (subst (λ n. k < n) (sym count_is) within) h) in
      (joint_meets qp t z (1 + k) t_size (omega arith) (omega arith)).0 row)

pub joint_rows_meet : (qp : Qp) (t z : List ℚ) → length t ≡ length qp.counts → All (MeetsRow (t ++ z)) (joint_rows qp) ↔ MeetsRows qp t z
joint_rows_meet qp t z e = (rows_say qp t z e, rows_hold qp t z e)

-- ---- the rows of a set with equality
abbrev turned_rows : Qp → List ℕ → List Row
turned_rows qp s = map (λ i. turned (joint_row qp i)) s

module _ (qp : Qp) (t z : List ℚ) (t_size : length t ≡ length qp.counts) where
  tight_holds : (low : ℕ) (s : List ℕ) → RisesWithin low (height qp.g) s → IsTight qp s t z → AllByRecursion (MeetsRow (t ++ z)) (turned_rows qp s)
  tight_holds low [] r h = tt
  tight_holds low (i ∷ s) r h =
      ((turned_meets qp t z i t_size (omega arith) r.1).1 (≤ℚ_of_≡ (sym (ap (λ u. coordinate u 0) h))), tight_holds i s r.2 (ap later_entries h))

  tight_says : (low : ℕ) (s : List ℕ) → RisesWithin low (height qp.g) s → MeetsRows qp t z → AllByRecursion (MeetsRow (t ++ z)) (turned_rows qp s) → IsTight qp s t z
  tight_says low [] r m h = λ k. []
  tight_says low (i ∷ s) r m h =
      let here : gain qp z i ≡ limit qp t i = ≤ℚ_antisymm (meets_at qp t z m i) ((turned_meets qp t z i t_size (omega arith) r.1).0 h.0) in
      λ k. here k ∷ tight_says i s r.2 m h.1 k

-- ---- the system
module _ (qp : Qp) (s : List ℕ) (set : IsSetOfRows (height qp.g) s) (t z : List ℚ) (t_size : length t ≡ length qp.counts) where
  point_of_reach : IsFeasible qp t z × IsTight qp s t z → IsPoint (reach_system qp s) (t ++ z)
  unfolding reach_system
  point_of_reach h =
      let z_size : length z ≡ height qp.h = h.0.size in
      let box : All (MeetsRow (t ++ z)) (box_rows (length qp.counts + height qp.h) qp.counts) =
      subst (λ n. All (MeetsRow (t ++ z)) (box_rows (length qp.counts + n) qp.counts)) z_size ((box_meets qp.counts t z t_size).0 h.0.in_box) in
      record {
        size = length-append t z ∙ (omega arith);
        meets =
            All-append (MeetsRow (t ++ z)) (box_rows (length qp.counts + height qp.h) qp.counts) (joint_rows qp ++ turned_rows qp s) box
            (All-append (MeetsRow (t ++ z)) (joint_rows qp) (turned_rows qp s) ((joint_rows_meet qp t z t_size).1 h.0.meets)
            (All-from_recursion (MeetsRow (t ++ z)) (turned_rows qp s) (tight_holds qp t z t_size 0 s set.rises h.1)));
      }

  reach_of_point : IsPoint (reach_system qp s) (t ++ z) → IsFeasible qp t z × IsTight qp s t z
  unfolding reach_system
  reach_of_point p =
      let both : length t + length z ≡ length qp.counts + height qp.h = sym (length-append t z) ∙ p.size in
      let z_size : length z ≡ height qp.h = omega arith in
      let parts = All-split (MeetsRow (t ++ z)) (box_rows (length qp.counts + height qp.h) qp.counts) (joint_rows qp ++ turned_rows qp s) p.meets in
      let rows = All-split (MeetsRow (t ++ z)) (joint_rows qp) (turned_rows qp s) parts.1 in
      let in_box : IsInBox qp.counts t = (box_meets qp.counts t z t_size).1 (subst (λ n. All (MeetsRow (t ++ z)) (box_rows (length qp.counts + n) qp.counts)) (sym z_size) parts.0) in
      let meets : MeetsRows qp t z = (joint_rows_meet qp t z t_size).0 rows.0 in (
        record { in_box = in_box; size = z_size; meets = meets },
        tight_says qp t z t_size 0 s set.rises meets (recursion_from_All (MeetsRow (t ++ z)) (turned_rows qp s) rows.1),
      )

-- (t, z) is a point of the system where z satisfies all rows at the point t of the box, those of the set with equality
pub reach_point : (qp : Qp) (s : List ℕ) (t z : List ℚ) → IsSetOfRows (height qp.g) s → length t ≡ length qp.counts → (IsFeasible qp t z × IsTight qp s t z) ↔ IsPoint (reach_system qp s) (t ++ z)
reach_point qp s t z set e = (point_of_reach qp s set t z e, reach_of_point qp s set t z e)

pub size_in_box : (counts : List ℕ) (t : List ℚ) → IsInBox counts t → length t ≡ length counts
size_in_box [] [] h = refl
size_in_box [] (t ∷ ts) h = absurd h
size_in_box (count ∷ counts) [] h = absurd h
size_in_box (count ∷ counts) (t ∷ ts) h = ap suc (size_in_box counts ts h.2)

module _ (qp : Qp) (s : List ℕ) (set : IsSetOfRows (height qp.g) s) where
  reached_of_point : (v : List ℚ) → IsPoint (reach_system qp s) v → IsReachable qp s
  unfolding reach_system
  reached_of_point v p =
      let t_size : length (take (length qp.counts) v) ≡ length qp.counts = omega (arith, p.size, length-take (length qp.counts) v) in
      let whole : IsPoint (reach_system qp s) (take (length qp.counts) v ++ drop (length qp.counts) v) = subst (IsPoint (reach_system qp s)) (sym (take-append-drop (length qp.counts) v)) p in
      let found = (reach_point qp s (take (length qp.counts) v) (drop (length qp.counts) v) set t_size).1 whole in
      record { state = take (length qp.counts) v; unknowns = drop (length qp.counts) v; feasible = found.0; tight = found.1 }

-- the set can be reached exactly where the system has a point
pub reachable : (qp : Qp) (s : List ℕ) → IsSetOfRows (height qp.g) s → ((v : List ℚ) × IsPoint (reach_system qp s) v) ↔ IsReachable qp s
reachable qp s set = (
  λ p. reached_of_point qp s set p.0 p.1,
  λ r. (r.state ++ r.unknowns, (reach_point qp s r.state r.unknowns set (size_in_box qp.counts r.state r.feasible.in_box)).0 (r.feasible, r.tight)),
)
