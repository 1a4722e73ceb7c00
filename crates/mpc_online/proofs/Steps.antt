-- The positions that a step leads to: a member gone, or the row on its way joined.
use Rattle.std.proofs.Common.{◌≡◌, ℕ, ◌+◌, ◌<◌, ◌≤◌, List, [], ◌∷◌, length, map, pos, sym, ◌∙◌, ap, subst, arith, inl, inr, ◌⊎◌, ⊎_elim}
use Rattle.std.specs.List.{insert, remove}
use Rattle.std.proofs.lemmas.List.{length-map}
use Rattle.std.proofs.lemmas.List.Edits.{length-insert, length-remove}
use Rattle.mpc_exact.specs.Rational.{ℚ, int, ◌+ℚ◌, ◌-ℚ◌, ◌*ℚ◌, neg_ℚ, ◌≤ℚ◌, ◌<ℚ◌, IsNonneg, IsPositive}
use Rattle.mpc_exact.proofs.RationalRing.{reads, by_ring, by_equation, by_equations}
use Rattle.mpc_exact.proofs.RationalOrder.{strict_gap, nonneg-add, nonneg-mul, positive-mul, positive-add, nonneg_int, ≤ℚ_of_<, <ℚ_irrefl}
use Rattle.mpc_exact.proofs.RationalField.{product_zero}
use Rattle.mpc_exact.proofs.OrderTheorems.{negative-not_zero}
use Rattle.mpc_space.specs.Vector.{coordinate, dot, mat_vec, vec_mat, IsSymmetric, IsIndependent}
use Rattle.mpc_space.specs.Matrix.{height}
use Rattle.mpc_space.specs.Definite.{IsDefinite}
use Rattle.mpc_space.proofs.Entries.{dot-zero, zero_or_not, nonneg_at}
use Rattle.mpc_space.proofs.Vector.{dot_comm}
use Rattle.mpc_sets.specs.RowSet.{RisesWithin, Among}
use Rattle.mpc_rows.specs.declared.programs.Qp.{Qp}
use Rattle.mpc_rows.specs.ActiveSets.{extended, row_of, rows_of}
use Rattle.mpc_online.specs.StateRows.{sides_at, level, side, IsFirstOutside}
use Rattle.mpc_online.specs.Positions.{Position, along, without_place, joined, towards, place_of}
use Rattle.mpc_online.specs.Turns.{IsFalling, quotient_at, IsDrop, IsJoin}
use Rattle.mpc_online.specs.Standing.{IsCorner}
use Rattle.mpc_online.proofs.Combinations.{dot_combination, dot-remove, dot-inserted, remove_independent, insert_independent, joined_independent, combination_stays, nonneg-remove, nonneg-insert}
use Rattle.mpc_online.proofs.SetLists.{without-remove, rises-remove, among-remove, map-remove, map-insert, place_within, with-insert, rises-with, among-insert}
use Rattle.mpc_online.proofs.Solved.{IsDirection}
use Rattle.mpc_online.proofs.StepNumbers.{quotient_nonneg, falls_to_zero, slack_before, full_arrives, full_positive, above_of_excess, grown, grown_strictly}
use Rattle.mpc_online.proofs.Along.{IsOnWay, excess_of, cost_of, ValueIs, slope_negative, slope_zero, length-point, length-multipliers, entry-multipliers, nonneg_along, tight_along, balance_along, excess_along, value_along}

-- the row on its way is no member
pub no_member : (qp : Qp) (t : List ℚ) (p : Position) → IsOnWay qp t p → Among p.row p.set → ⊥
no_member qp t p way m = <ℚ_irrefl (subst (λ u. side (sides_at qp t) p.row <ℚ u) (way.tight p.row m) way.violated.above)

pub excess_positive : (qp : Qp) (t : List ℚ) (p : Position) → IsOnWay qp t p → IsPositive (excess_of qp t p)
excess_positive qp t p way = strict_gap way.violated.above

-- ---- a member goes
module _ (qp : Qp) (t : List ℚ) (definite : IsDefinite qp.h.rows) (p : Position) (d e : List ℚ) (way : IsOnWay qp t p) (dir : IsDirection qp p.set p.row d e) (k : ℕ) (s : ℚ) (drop : IsDrop qp (sides_at qp t) p d e k s) where
  abbrev moved : Position
  moved = along p d e s

  abbrev left : Position
  left = without_place moved k

  member : k < length p.set
  member = omega (arith, drop.shortest.below, dir.one_each)

  set_is : left.set ≡ remove p.set k
  set_is = without-remove 0 (height qp.g) k p.set way.is_position.set_of_rows.rises member

  length_nonneg : IsNonneg s
  length_nonneg = subst IsNonneg (sym drop.is) (quotient_nonneg (coordinate p.multipliers k) (coordinate e k) (nonneg_at p.multipliers way.nonnegative k) drop.shortest.falls)

  last_zero : coordinate moved.multipliers k ≡ int (pos 0)
  last_zero = entry-multipliers qp t p d e way dir s k ∙ falls_to_zero (coordinate p.multipliers k) (coordinate e k) s drop.shortest.falls drop.is

  before : (j : ℕ) → j < length e → IsFalling e j → s ≤ℚ quotient_at p.multipliers e j
  before j l f = subst (λ u. u ≤ℚ quotient_at p.multipliers e j) (sym drop.is) (drop.shortest.least j l f)

  pub slack : IsPositive (excess_of qp t p +ℚ s *ℚ level qp d p.row)
  slack = ⊎_elim
      (λ z. subst IsPositive (still (excess_of qp t p) (level qp d p.row) (slope_zero qp t p d e way dir z)) (excess_positive qp t p way))
      (λ some. slack_before (excess_of qp t p) (level qp d p.row) s (slope_negative qp t p d e way dir definite some) (drop.before_row some))
      (zero_or_not d)
    where
      still : (x y : ℚ) → y ≡ int (pos 0) → x ≡ x +ℚ s *ℚ y
      still x y h = sym (by_equation s h (by_ring (x ∷ y ∷ s ∷ []) (search reads depth 30) (search reads depth 30) tt))

  pub drop_on_way : IsOnWay qp t left
  drop_on_way = record {
    is_position = record {
      size = length-point qp t p d e way dir s;
      set_of_rows = record { rises = subst (RisesWithin 0 (height qp.g)) (sym set_is) (rises-remove 0 (height qp.g) k p.set way.is_position.set_of_rows.rises) };
      independent = subst IsIndependent (sym (ap (map (row_of qp.g.rows)) set_is ∙ map-remove (row_of qp.g.rows) k p.set))
          (remove_independent k (rows_of qp.g.rows p.set) (omega (arith, member, length-map p.set (row_of qp.g.rows))) way.is_position.independent);
      one_each =
          let a : length moved.multipliers ≡ length p.set = length-multipliers qp t p d e way dir s in
          let b : length (remove moved.multipliers k) + 1 ≡ length moved.multipliers = length-remove moved.multipliers k (omega (arith, member)) in
          let c : length (remove p.set k) + 1 ≡ length p.set = length-remove p.set k member in
          (let f : length (remove moved.multipliers k) ≡ length (remove p.set k) = omega arith in f) ∙ ap length (sym set_is);
      from_one = way.is_position.from_one;
      to_last = way.is_position.to_last;
    };
    nonnegative = nonneg-remove k moved.multipliers (nonneg_along qp t p d e way dir s length_nonneg before);
    some_weight = nonneg-add way.some_weight length_nonneg;
    violated = record { above = above_of_excess (level qp moved.point p.row) (side (sides_at qp t) p.row) (subst IsPositive (sym (excess_along qp t p d e way dir s)) slack) };
    tight = λ i m. tight_along qp t p d e way dir s i (among-remove i k p.set (subst (Among i) set_is m));
    balanced = λ y. ap (λ u. dot y (mat_vec qp.h.rows moved.point) +ℚ dot y (mat_vec qp.f.rows (extended t)) +ℚ (u +ℚ moved.weight *ℚ dot y (row_of qp.g.rows p.row)))
        (ap (λ (rows : List (List ℚ)). dot y (vec_mat (remove moved.multipliers k) rows)) (ap (map (row_of qp.g.rows)) set_is ∙ map-remove (row_of qp.g.rows) k p.set)
        ∙ sym (dot-remove y k moved.multipliers (rows_of qp.g.rows p.set) (length-multipliers qp t p d e way dir s ∙ sym (length-map p.set (row_of qp.g.rows))) (omega (arith, member, length-multipliers qp t p d e way dir s)) last_zero))
        ∙ balance_along qp t p d e way dir s y;
  }

  -- the value doesn't fall
  pub drop_value : IsSymmetric qp.h.rows → (x y : ℚ) → ValueIs qp t p x → ValueIs qp t left y → x ≤ℚ y
  drop_value symmetric x y v w =
      grown x y (s *ℚ (excess_of qp t p +ℚ (excess_of qp t p +ℚ s *ℚ level qp d p.row)))
      (value_along qp t p d e way dir s symmetric x y v (record { is = w.is }))
      (nonneg-mul length_nonneg (nonneg-add (≤ℚ_of_< (excess_positive qp t p way)) (≤ℚ_of_< slack)))

  pub drop_size : length left.set + 1 ≡ length p.set
  drop_size = ap (λ u. length u + 1) set_is ∙ length-remove p.set k member

-- ---- the row joins
module _ (qp : Qp) (t : List ℚ) (definite : IsDefinite qp.h.rows) (p : Position) (d e : List ℚ) (way : IsOnWay qp t p) (dir : IsDirection qp p.set p.row d e) (s : ℚ) (join : IsJoin qp (sides_at qp t) p d e s) where
  abbrev reached : Position
  reached = along p d e s

  abbrev corner : Position
  corner = joined reached

  abbrev place : ℕ
  place = place_of p.row p.set

  union_is : corner.set ≡ insert p.set place p.row
  union_is = with-insert p.row p.set (no_member qp t p way)

  steep : level qp d p.row <ℚ int (pos 0)
  steep = slope_negative qp t p d e way dir definite join.moves

  length_positive : IsPositive s
  length_positive = full_positive (excess_of qp t p) (level qp d p.row) s (excess_positive qp t p way) steep join.is

  arrived : excess_of qp t p +ℚ s *ℚ level qp d p.row ≡ int (pos 0)
  arrived = full_arrives (excess_of qp t p) (level qp d p.row) s steep join.is

  row_tight : level qp reached.point p.row ≡ side (sides_at qp t) p.row
  row_tight = equal (level qp reached.point p.row) (side (sides_at qp t) p.row) (excess_along qp t p d e way dir s ∙ arrived)
    where
      equal : (x y : ℚ) → x -ℚ y ≡ int (pos 0) → x ≡ y
      equal x y h = by_equation (int (pos 1)) h (by_ring (x ∷ y ∷ []) (search reads depth 30) (search reads depth 30) tt)

  -- the row changes along d, and the members don't
  together : IsIndependent (row_of qp.g.rows p.row ∷ rows_of qp.g.rows p.set)
  together = joined_independent (row_of qp.g.rows p.row) (rows_of qp.g.rows p.set) way.is_position.independent (λ c cs z.
      ⊎_elim (λ h. h) (λ h. absurd (negative-not_zero steep (dot_comm (row_of qp.g.rows p.row) d ∙ h)))
      (product_zero c (dot d (row_of qp.g.rows p.row))
      (only (c *ℚ dot d (row_of qp.g.rows p.row)) (dot d (vec_mat cs (rows_of qp.g.rows p.set))) (combination_stays (row_of qp.g.rows) d cs p.set (λ i m. dot_comm d (row_of qp.g.rows i) ∙ dir.keeps i m))
      (sym (dot_combination d c cs (row_of qp.g.rows p.row) (rows_of qp.g.rows p.set)) ∙ dot-zero d (vec_mat (c ∷ cs) (row_of qp.g.rows p.row ∷ rows_of qp.g.rows p.set)) z))))
    where
      only : (x y : ℚ) → y ≡ int (pos 0) → x +ℚ y ≡ int (pos 0) → x ≡ int (pos 0)
      only x y h k = by_equations (int (pos 1)) (neg_ℚ (int (pos 1))) k h (by_ring (x ∷ y ∷ []) (search reads depth 30) (search reads depth 30) tt)

  rows_are : rows_of qp.g.rows corner.set ≡ insert (rows_of qp.g.rows p.set) place (row_of qp.g.rows p.row)
  rows_are = ap (map (row_of qp.g.rows)) union_is ∙ map-insert (row_of qp.g.rows) place p.row p.set

  regroup : (a l u r : ℚ) → a +ℚ (u *ℚ r +ℚ l) ≡ a +ℚ (l +ℚ u *ℚ r)
  regroup a l u r = by_ring (a ∷ l ∷ u ∷ r ∷ []) (search reads depth 30) (search reads depth 30) tt

  tight_at : (i : ℕ) → (i ≡ p.row) ⊎ Among i p.set → level qp reached.point i ≡ side (sides_at qp t) i
  tight_at i (inl h) = subst (λ j. level qp reached.point j ≡ side (sides_at qp t) j) (sym h) row_tight
  tight_at i (inr m) = tight_along qp t p d e way dir s i m

  within : place ≤ length p.set
  within = place_within p.row p.set

  pub join_corner : IsCorner qp t corner
  join_corner = record {
    size = length-point qp t p d e way dir s;
    set_of_rows = record { rises = rises-with 0 (height qp.g) p.row p.set way.is_position.set_of_rows.rises (let h = way.is_position.from_one in omega arith) way.is_position.to_last (no_member qp t p way) };
    independent = subst IsIndependent (sym rows_are) (insert_independent place (row_of qp.g.rows p.row) (rows_of qp.g.rows p.set) (omega (arith, within, length-map p.set (row_of qp.g.rows))) together);
    one_each =
        let a : length reached.multipliers ≡ length p.set = length-multipliers qp t p d e way dir s in
        let b : length (insert reached.multipliers place reached.weight) ≡ length reached.multipliers + 1 = length-insert reached.multipliers place reached.weight (omega (arith, within)) in
        let c : length (insert p.set place p.row) ≡ length p.set + 1 = length-insert p.set place p.row within in
        (let f : length (insert reached.multipliers place reached.weight) ≡ length (insert p.set place p.row) = omega arith in f) ∙ ap length (sym union_is);
    nonnegative = nonneg-insert place reached.weight reached.multipliers (omega (arith, within, length-multipliers qp t p d e way dir s)) (nonneg-add way.some_weight (≤ℚ_of_< length_positive), tt)
        (nonneg_along qp t p d e way dir s (≤ℚ_of_< length_positive) join.before_members);
    tight = λ i m. tight_at i (among-insert i place p.row p.set (subst (Among i) union_is m));
    balanced = λ y. ap (λ u. dot y (mat_vec qp.h.rows reached.point) +ℚ dot y (mat_vec qp.f.rows (extended t)) +ℚ u)
        (ap (λ (rows : List (List ℚ)). dot y (vec_mat (insert reached.multipliers place reached.weight) rows)) rows_are
        ∙ dot-inserted y place reached.weight reached.multipliers (row_of qp.g.rows p.row) (rows_of qp.g.rows p.set) (length-multipliers qp t p d e way dir s ∙ sym (length-map p.set (row_of qp.g.rows))) (omega (arith, within, length-multipliers qp t p d e way dir s)))
        ∙ regroup (dot y (mat_vec qp.h.rows reached.point) +ℚ dot y (mat_vec qp.f.rows (extended t))) (dot y (vec_mat reached.multipliers (rows_of qp.g.rows p.set))) reached.weight (dot y (row_of qp.g.rows p.row))
        ∙ balance_along qp t p d e way dir s y;
  }

  -- the cost there is above the value before
  pub join_value : IsSymmetric qp.h.rows → (x : ℚ) → ValueIs qp t p x → x <ℚ cost_of qp t corner.point
  join_value symmetric x v =
      grown_strictly x (cost_of qp t corner.point) (s *ℚ (excess_of qp t p +ℚ (excess_of qp t p +ℚ s *ℚ level qp d p.row)))
      (value_along qp t p d e way dir s symmetric x (cost_of qp t corner.point) v (record { is = no_excess (cost_of qp t corner.point) reached.weight (excess_of qp t reached) (excess_along qp t p d e way dir s ∙ arrived) }))
      (positive-mul length_positive (positive-add (excess_positive qp t p way) (subst IsNonneg (sym arrived) (nonneg_int 0))))
    where
      no_excess : (x u v : ℚ) → v ≡ int (pos 0) → x ≡ x +ℚ int (pos 2) *ℚ (u *ℚ v)
      no_excess x u v h = sym (by_equation (int (pos 2) *ℚ u) h (by_ring (x ∷ u ∷ v ∷ []) (search reads depth 30) (search reads depth 30) tt))

  pub join_size : length corner.set ≡ length p.set + 1
  join_size = ap length union_is ∙ length-insert p.set place p.row within

-- ---- on the way from a corner
pub towards_on_way : (qp : Qp) (t : List ℚ) (q : Position) (r : ℕ) → IsCorner qp t q → IsFirstOutside qp (sides_at qp t) q.point r → IsOnWay qp t (towards q r)
towards_on_way qp t q r corner first = record {
  is_position = record { size = corner.size; set_of_rows = corner.set_of_rows; independent = corner.independent; one_each = corner.one_each; from_one = first.from_one; to_last = first.to_last };
  nonnegative = corner.nonnegative;
  some_weight = nonneg_int 0;
  violated = first.violated;
  tight = corner.tight;
  balanced = λ y. weightless (dot y (mat_vec qp.h.rows q.point) +ℚ dot y (mat_vec qp.f.rows (extended t))) (dot y (vec_mat q.multipliers (rows_of qp.g.rows q.set))) (dot y (row_of qp.g.rows r)) ∙ corner.balanced y;
}
  where
    weightless : (a l r : ℚ) → a +ℚ (l +ℚ int (pos 0) *ℚ r) ≡ a +ℚ l
    weightless a l r = by_ring (a ∷ l ∷ r ∷ []) (search reads depth 30) (search reads depth 30) tt

pub towards_value : (qp : Qp) (t : List ℚ) (q : Position) (r : ℕ) → ValueIs qp t (towards q r) (cost_of qp t q.point)
towards_value qp t q r = record { is = weightless (cost_of qp t q.point) (excess_of qp t (towards q r)) }
  where
    weightless : (x v : ℚ) → x ≡ x +ℚ int (pos 2) *ℚ (int (pos 0) *ℚ v)
    weightless x v = by_ring (x ∷ v ∷ []) (search reads depth 30) (search reads depth 30) tt
