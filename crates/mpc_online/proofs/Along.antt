-- What a step along its direction makes of the equations, of the multipliers and of the value of the relaxed problem.
use Rattle.std.proofs.Common.{◌≡◌, ℕ, ◌<◌, List, [], ◌∷◌, length, pos, sym, ◌∙◌, ap, subst, arith}
use Rattle.mpc_exact.specs.Rational.{ℚ, int, ◌+ℚ◌, ◌-ℚ◌, ◌*ℚ◌, neg_ℚ, ◌≤ℚ◌, ◌<ℚ◌, IsNonneg}
use Rattle.mpc_exact.proofs.RationalRing.{reads, by_ring, by_equation}
use Rattle.mpc_space.specs.Vector.{coordinate, dot, vec_add, vec_scale, mat_vec, vec_mat, quadratic, IsZero, IsSymmetric, AllNonneg}
use Rattle.mpc_space.specs.Matrix.{height}
use Rattle.mpc_space.specs.Definite.{IsDefinite}
use Rattle.mpc_space.specs.Optimality.{objective}
use Rattle.mpc_space.proofs.Entries.{coordinate-add, coordinate-scale, length-add, length-scale, dot-zero, nonneg_at, nonneg_by_entries}
use Rattle.mpc_space.proofs.Vector.{dot_comm, dot-add, dot-scale}
use Rattle.mpc_space.proofs.Matrix.{mat_vec-add, mat_vec-scale, vec_mat-add, vec_mat-scale, symmetric_swap}
use Rattle.mpc_space.proofs.Definite.{definite_at}
use Rattle.mpc_space.proofs.Quadratic.{quadratic-add, quadratic-scale}
use Rattle.mpc_sets.specs.RowSet.{Among}
use Rattle.mpc_rows.specs.declared.programs.Qp.{Qp}
use Rattle.mpc_rows.specs.ActiveSets.{extended, row_of, rows_of}
use Rattle.mpc_online.specs.StateRows.{sides_at, level, side, IsViolated}
use Rattle.mpc_online.specs.Positions.{Position, along}
use Rattle.mpc_online.specs.Turns.{IsFalling, quotient_at}
use Rattle.mpc_online.specs.Standing.{IsPosition}
use Rattle.mpc_online.proofs.Combinations.{dot_along, combination_stays}
use Rattle.mpc_online.proofs.Solved.{IsDirection}
use Rattle.mpc_online.proofs.StepNumbers.{stays_nonneg, slope_of_square, slope_below, balanced_along, cost_slope, value_rises, moved_excess}

-- h z + f c + g_S'l + u g_r is 0, against every vector
abbrev pub IsBalanced : Qp → List ℚ → List ℚ → List ℕ → List ℚ → ℕ → ℚ → Type 0
IsBalanced qp t z s l r u = (y : List ℚ) → dot y (mat_vec qp.h.rows z) +ℚ dot y (mat_vec qp.f.rows (extended t)) +ℚ (dot y (vec_mat l (rows_of qp.g.rows s)) +ℚ u *ℚ dot y (row_of qp.g.rows r)) ≡ int (pos 0)

-- The members hold with equality, no multiplier is negative, and the row on its way isn't met.
pub record IsOnWay (qp : Qp) (t : List ℚ) (p : Position) : Type 0 where
  pub is_position : IsPosition qp p
  pub nonnegative : AllNonneg p.multipliers
  pub some_weight : IsNonneg p.weight
  pub violated : IsViolated qp (sides_at qp t) p.point p.row
  pub tight : (i : ℕ) → Among i p.set → level qp p.point i ≡ side (sides_at qp t) i
  pub balanced : IsBalanced qp t p.point p.set p.multipliers p.row p.weight

-- the cost of the position's point, and the value of the problem with the members' rows alone and the row on its way weighed
abbrev pub cost_of : Qp → List ℚ → List ℚ → ℚ
cost_of qp t z = objective qp.h.rows (mat_vec qp.f.rows (extended t)) z

abbrev pub excess_of : Qp → List ℚ → Position → ℚ
excess_of qp t p = level qp p.point p.row -ℚ side (sides_at qp t) p.row

pub record ValueIs (qp : Qp) (t : List ℚ) (p : Position) (value : ℚ) : Type 0 where
  pub is : value ≡ cost_of qp t p.point +ℚ int (pos 2) *ℚ (p.weight *ℚ excess_of qp t p)

along_cost : (x a2 s q f0 fd : ℚ) → (x +ℚ int (pos 2) *ℚ (s *ℚ a2) +ℚ (s *ℚ s) *ℚ q) +ℚ int (pos 2) *ℚ (f0 +ℚ s *ℚ fd) ≡ (x +ℚ int (pos 2) *ℚ f0) +ℚ int (pos 2) *ℚ (s *ℚ (a2 +ℚ fd)) +ℚ (s *ℚ s) *ℚ q
along_cost x a2 s q f0 fd = by_ring (x ∷ a2 ∷ s ∷ q ∷ f0 ∷ fd ∷ []) (search reads depth 30) (search reads depth 30) tt

-- the cost along a direction
pub cost_along : (h : List (List ℚ)) (f z d : List ℚ) (s : ℚ) → IsSymmetric h → objective h f (vec_add z (vec_scale s d)) ≡ objective h f z +ℚ int (pos 2) *ℚ (s *ℚ (dot d (mat_vec h z) +ℚ dot d f)) +ℚ (s *ℚ s) *ℚ quadratic h d
cost_along h f z d s symmetric =
    (λ i. form i +ℚ int (pos 2) *ℚ linear i)
    ∙ along_cost (quadratic h z) (dot d (mat_vec h z)) s (quadratic h d) (dot z f) (dot d f)
  where
    crossed : dot z (mat_vec h (vec_scale s d)) ≡ s *ℚ dot d (mat_vec h z)
    crossed =
        sym (symmetric_swap h symmetric z (vec_scale s d)) ∙ dot_comm (mat_vec h z) (vec_scale s d) ∙ dot-scale s d (mat_vec h z)

    form : quadratic h (vec_add z (vec_scale s d)) ≡ quadratic h z +ℚ int (pos 2) *ℚ (s *ℚ dot d (mat_vec h z)) +ℚ (s *ℚ s) *ℚ quadratic h d
    form = quadratic-add h symmetric z (vec_scale s d) ∙ (λ i. quadratic h z +ℚ int (pos 2) *ℚ crossed i +ℚ quadratic-scale h s d i)

    linear : dot (vec_add z (vec_scale s d)) f ≡ dot z f +ℚ s *ℚ dot d f
    linear = dot-add z (vec_scale s d) f ∙ ap (λ u. dot z f +ℚ u) (dot-scale s d f)

module _ (qp : Qp) (t : List ℚ) (p : Position) (d e : List ℚ) (way : IsOnWay qp t p) (dir : IsDirection qp p.set p.row d e) where
  abbrev at : IsPosition qp p
  at = way.is_position

  abbrev slope : ℚ
  slope = level qp d p.row

  -- the members' part vanishes along d
  members_vanish : (l : List ℚ) → dot d (vec_mat l (rows_of qp.g.rows p.set)) ≡ int (pos 0)
  members_vanish l = combination_stays (row_of qp.g.rows) d l p.set (λ i m. dot_comm d (row_of qp.g.rows i) ∙ dir.keeps i m)

  pub slope_is : slope ≡ neg_ℚ (quadratic qp.h.rows d)
  slope_is = dot_comm (row_of qp.g.rows p.row) d ∙ slope_of_square (quadratic qp.h.rows d) (dot d (row_of qp.g.rows p.row)) (dot d (vec_mat e (rows_of qp.g.rows p.set))) (dir.balanced d) (members_vanish e)

  pub slope_negative : IsDefinite qp.h.rows → ¬ IsZero d → slope <ℚ int (pos 0)
  slope_negative definite some = slope_below (quadratic qp.h.rows d) slope slope_is (definite_at definite d dir.size some)

  pub slope_zero : IsZero d → slope ≡ int (pos 0)
  slope_zero z = dot-zero (row_of qp.g.rows p.row) d z

  module _ (s : ℚ) where
    abbrev next : Position
    next = along p d e s

    pub length-point : length next.point ≡ height qp.h
    length-point = length-add p.point (vec_scale s d) (at.size ∙ sym dir.size ∙ sym (length-scale s d)) ∙ at.size

    pub length-multipliers : length next.multipliers ≡ length p.set
    length-multipliers = length-add p.multipliers (vec_scale s e) (at.one_each ∙ sym dir.one_each ∙ sym (length-scale s e)) ∙ at.one_each

    pub entry-multipliers : (k : ℕ) → coordinate next.multipliers k ≡ coordinate p.multipliers k +ℚ s *ℚ coordinate e k
    entry-multipliers k = coordinate-add p.multipliers (vec_scale s e) k ∙ ap (λ u. coordinate p.multipliers k +ℚ u) (coordinate-scale s e k)

    pub nonneg_along : IsNonneg s → ((k : ℕ) → k < length e → IsFalling e k → s ≤ℚ quotient_at p.multipliers e k) → AllNonneg next.multipliers
    nonneg_along h before = nonneg_by_entries next.multipliers (λ k l.
        let within : k < length e = omega (arith, length-multipliers, dir.one_each) in
        subst IsNonneg (sym (entry-multipliers k)) (stays_nonneg (coordinate p.multipliers k) (coordinate e k) s (nonneg_at p.multipliers way.nonnegative k) h (λ falls. before k within falls)))

    pub level_along : (i : ℕ) → level qp next.point i ≡ level qp p.point i +ℚ s *ℚ level qp d i
    level_along i = dot_along (row_of qp.g.rows i) p.point d s

    pub tight_along : (i : ℕ) → Among i p.set → level qp next.point i ≡ side (sides_at qp t) i
    tight_along i m = level_along i ∙ stays (level qp p.point i) (level qp d i) (dir.keeps i m) ∙ way.tight i m
      where
        stays : (x y : ℚ) → y ≡ int (pos 0) → x +ℚ s *ℚ y ≡ x
        stays x y h = by_equation s h (by_ring (x ∷ y ∷ s ∷ []) (search reads depth 30) (search reads depth 30) tt)

    pub balance_along : IsBalanced qp t next.point p.set next.multipliers p.row next.weight
    balance_along y =
        (λ i. cost i +ℚ dot y (mat_vec qp.f.rows (extended t)) +ℚ (members i +ℚ (p.weight +ℚ s) *ℚ dot y (row_of qp.g.rows p.row)))
        ∙ balanced_along (dot y (mat_vec qp.h.rows p.point)) (dot y (mat_vec qp.f.rows (extended t))) (dot y (vec_mat p.multipliers (rows_of qp.g.rows p.set))) p.weight (dot y (row_of qp.g.rows p.row)) (dot y (mat_vec qp.h.rows d)) (dot y (vec_mat e (rows_of qp.g.rows p.set))) s
        (way.balanced y) (dir.balanced y)
      where
        cost : dot y (mat_vec qp.h.rows (vec_add p.point (vec_scale s d))) ≡ dot y (mat_vec qp.h.rows p.point) +ℚ s *ℚ dot y (mat_vec qp.h.rows d)
        cost = ap (dot y) (mat_vec-add qp.h.rows p.point (vec_scale s d) ∙ ap (vec_add (mat_vec qp.h.rows p.point)) (mat_vec-scale qp.h.rows s d)) ∙ dot_along y (mat_vec qp.h.rows p.point) (mat_vec qp.h.rows d) s

        members : dot y (vec_mat (vec_add p.multipliers (vec_scale s e)) (rows_of qp.g.rows p.set)) ≡ dot y (vec_mat p.multipliers (rows_of qp.g.rows p.set)) +ℚ s *ℚ dot y (vec_mat e (rows_of qp.g.rows p.set))
        members = ap (dot y) (vec_mat-add p.multipliers (vec_scale s e) (rows_of qp.g.rows p.set) ∙ ap (vec_add (vec_mat p.multipliers (rows_of qp.g.rows p.set))) (vec_mat-scale s e (rows_of qp.g.rows p.set))) ∙ dot_along y (vec_mat p.multipliers (rows_of qp.g.rows p.set)) (vec_mat e (rows_of qp.g.rows p.set)) s

    pub excess_along : excess_of qp t next ≡ excess_of qp t p +ℚ s *ℚ slope
    excess_along = ap (λ u. u -ℚ side (sides_at qp t) p.row) (level_along p.row) ∙ moved_excess (level qp p.point p.row) (side (sides_at qp t) p.row) s slope

    -- the value grows by s times the sum of the excess before and after
    pub value_along : IsSymmetric qp.h.rows → (x y : ℚ) → ValueIs qp t p x → ValueIs qp t next y → y ≡ x +ℚ s *ℚ (excess_of qp t p +ℚ (excess_of qp t p +ℚ s *ℚ slope))
    value_along symmetric x y v w =
        w.is
        ∙ (λ i. cost_along qp.h.rows (mat_vec qp.f.rows (extended t)) p.point d s symmetric i +ℚ int (pos 2) *ℚ ((p.weight +ℚ s) *ℚ excess_along i))
        ∙ value_rises (cost_of qp t p.point) (dot d (mat_vec qp.h.rows p.point)) (dot d (mat_vec qp.f.rows (extended t))) (quadratic qp.h.rows d) s p.weight (excess_of qp t p) slope
        (cost_slope (dot d (mat_vec qp.h.rows p.point)) (dot d (mat_vec qp.f.rows (extended t))) (dot d (vec_mat p.multipliers (rows_of qp.g.rows p.set))) p.weight (dot d (row_of qp.g.rows p.row)) (quadratic qp.h.rows d)
        (way.balanced d) (members_vanish p.multipliers) (dot_comm d (row_of qp.g.rows p.row) ∙ slope_is))
        slope_is
        ∙ ap (λ u. u +ℚ s *ℚ (excess_of qp t p +ℚ (excess_of qp t p +ℚ s *ℚ slope))) (sym v.is)
