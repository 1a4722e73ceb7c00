-- Farkas' lemma with an independent carrier: a row that a system with a point implies is a combination of independent rows of the system.
use Rattle.std.proofs.Common.{◌≡◌, ℕ, zero, suc, ◌-◌, ◌≤◌, Bool, true, false, List, [], ◌∷◌, length, map, get_or, sym, ◌∙◌, ap, subst, arith, append-nil, ⊎_elim}
use Rattle.std.specs.List.{AllByRecursion}
use Rattle.std.proofs.lemmas.List.Elements.{All-get_or, All-from_get_or, recursion_from_All}
use Rattle.mpc_exact.specs.Rational.{ℚ, ◌+ℚ◌, ◌≤ℚ◌, ◌<ℚ◌}
use Rattle.mpc_exact.proofs.RationalOrder.{≤ℚ_of_<, ≤ℚ_trans}
use Rattle.mpc_exact.proofs.OrderTheorems.{≤ℚ-not-<}
use Rattle.mpc_exact.proofs.Rational.{+ℚ_zero}
use Rattle.mpc_space.specs.Vector.{coordinate, listed, dot, vec_mat, mat_vec, IsIndependent}
use Rattle.mpc_space.specs.Total.{unit}
use Rattle.mpc_space.proofs.Entries.{dot-unit}
use Rattle.mpc_space.proofs.Vector.{dot_comm}
use Rattle.mpc_space.proofs.Matrix.{dot-vec_mat, weighted_rows, row_same}
use Rattle.mpc_cover.proofs.Members.{Among_within}
use Rattle.mpc_rows.specs.declared.systems.Row.{Row}
use Rattle.mpc_rows.specs.LinearSystem.{LinearSystem, height, row_at, no_row, IsWithin, MeetsRow, IsPoint}
use Rattle.mpc_cover.specs.Implied.{IsClosedSystem, Implies, left_side, right_side, IsCarried}
use Rattle.mpc_cover.proofs.Segments.{MeetsFirst, rows_from_holds, met_among, no_rows_independent, dot-no_rows}
use Rattle.mpc_cover.proofs.Ascent.{Ray, Greatest, further, length-further, along_ray, further_meets, passing, gain_of, ascend}

within_closed : (strict : Bool) (x b : ℚ) → IsWithin strict x b → x ≤ℚ b
within_closed true x b h = ≤ℚ_of_< h
within_closed false x b h = h

closed_within : (strict : Bool) (x b : ℚ) → strict ≡ false → x ≤ℚ b → IsWithin strict x b
closed_within strict x b e h = subst (λ u. IsWithin u x b) (sym e) h

length-at : (width : ℕ) (rows : List Row) (k : ℕ) → AllByRecursion (λ r. length r.a ≡ width) rows → length (get_or rows k no_row).a ≤ width
length-at width [] k h = omega arith
length-at width (r ∷ rows) zero h = omega (arith, h.0)
length-at width (r ∷ rows) (suc k) h = length-at width rows k h.1

module _ (s : LinearSystem) (closed : IsClosedSystem s) where
  pub rows_met : (v : List ℚ) → IsPoint s v → MeetsFirst (left_side s) (right_side s) (height s) v
  rows_met v p i from to =
      within_closed (row_at s (i - 1)).strict (dot (left_side s i) v) (right_side s i) (All-get_or (MeetsRow v) s.rows (i - 1) no_row (omega arith) p.meets)

  pub point_by_rows : (v : List ℚ) → length v ≡ s.width → MeetsFirst (left_side s) (right_side s) (height s) v → IsPoint s v
  point_by_rows v e h = record {
    size = e;
    meets = All-from_get_or (MeetsRow v) s.rows no_row (λ k l.
        let from_one : suc k - 1 ≡ k = omega arith in
        let within : suc k ≤ height s = omega arith in
        closed_within (row_at s k).strict (dot (row_at s k).a v) (row_at s k).b (All-get_or (λ (r : Row). r.strict ≡ false) s.rows k no_row l closed.closed)
        (subst (λ i. dot (row_at s i).a v ≤ℚ (row_at s i).b) from_one (h (suc k) (omega arith) within)));
  }

  pub length-left : (i : ℕ) → length (left_side s i) ≤ s.width
  length-left i = length-at s.width s.rows (i - 1) (recursion_from_All (λ (r : Row). length r.a ≡ s.width) s.rows closed.width.each)

  module _ (r : Row) (size : length r.a ≡ s.width) (y : List ℚ) (p : IsPoint s y) (implied : Implies s r) where
    at_point : (v : List ℚ) → IsPoint s v → dot r.a v ≤ℚ r.b
    at_point v q = within_closed r.strict (dot r.a v) r.b (implied v q)

    -- the left side doesn't grow without end
    bounded : Ray s.width r.a (left_side s) (right_side s) (height s) [] → ⊥
    bounded ray =
        let ahead = passing (dot r.a y) (dot ray.d r.a) r.b ray.gains (at_point y p) in
        let z = further s.width r.a (left_side s) (right_side s) (height s) [] y ray ahead.0 ahead.1 in
        let q = point_by_rows z (length-further s.width r.a (left_side s) (right_side s) (height s) [] y ray ahead.0 ahead.1 p.size)
        (further_meets s.width r.a (left_side s) (right_side s) (height s) [] y ray ahead.0 ahead.1 (rows_met y p)) in
        ≤ℚ-not-< (at_point z q) (subst (λ u. r.b <ℚ u) (sym (along_ray s.width r.a (left_side s) (right_side s) (height s) [] y ray ahead.0 ahead.1 r.a)) ahead.2)

    module _ (best : Greatest s.width r.a (left_side s) (right_side s) (height s) []) where
      same_dots : (v : List ℚ) → dot v (vec_mat best.l (map (left_side s) best.members)) ≡ dot v r.a
      same_dots v =
          sym (gain_of s.width r.a (left_side s) (right_side s) (height s) [] best v
          ∙ ap (λ u. dot v (vec_mat best.l (map (left_side s) best.members)) +ℚ u) (dot-no_rows v best.m)
          ∙ +ℚ_zero (dot v (vec_mat best.l (map (left_side s) best.members))))

      same_sides : (j : ℕ) → coordinate (vec_mat best.l (map (left_side s) best.members)) j ≡ coordinate r.a j
      same_sides j =
          sym (dot-unit (suc j) j (vec_mat best.l (map (left_side s) best.members)) (omega arith)) ∙ same_dots (listed (suc j) (unit j)) ∙ dot-unit (suc j) j r.a (omega arith)

      right_at : dot best.l (map (right_side s) best.members) ≡ dot r.a best.z
      right_at =
          ap (dot best.l) (sym (rows_from_holds (left_side s) (right_side s) best.members best.z best.tight))
          ∙ dot_comm best.l (mat_vec (map (left_side s) best.members) best.z) ∙ dot-vec_mat (map (left_side s) best.members) best.z best.l ∙ same_dots best.z ∙ dot_comm best.z r.a

      by_greatest : IsCarried s r
      by_greatest = record {
        set = best.members;
        set_of_rows = record { rises = best.rises };
        independent = subst (λ u. IsIndependent (map (left_side s) u)) (append-nil best.members) best.independent;
        factors = best.l;
        one_each = best.one_each;
        nonnegative = best.nonnegative;
        left = same_sides;
        right = subst (λ u. u ≤ℚ r.b) (sym right_at) (at_point best.z (point_by_rows best.z best.size best.meets));
      }

    pub carried : IsCarried s r
    carried = ⊎_elim (λ ray. absurd (bounded ray)) by_greatest
        (ascend s.width r.a (left_side s) (right_side s) length-left (omega (arith, size)) (height s) [] no_rows_independent y p.size (rows_met y p) tt)

  -- and what is carried is implied
  pub implied_by_carrier : (r : Row) → r.strict ≡ false → IsCarried s r → Implies s r
  implied_by_carrier r not_strict c v p =
      let among = met_among (left_side s) (right_side s) c.set v (λ i m. let w = Among_within 0 (height s) i c.set c.set_of_rows.rises m in rows_met v p i w.0 w.1) in
      closed_within r.strict (dot r.a v) r.b not_strict
      (subst (λ u. u ≤ℚ r.b) (dot_comm v (vec_mat c.factors (map (left_side s) c.set)) ∙ row_same v (vec_mat c.factors (map (left_side s) c.set)) r.a c.left)
      (≤ℚ_trans (weighted_rows (map (left_side s) c.set) (map (right_side s) c.set) c.factors v c.nonnegative among) c.right))
