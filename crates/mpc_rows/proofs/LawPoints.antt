-- What a row of a law asks of a point.
use Rattle.std.proofs.Common.{◌≡◌, ℕ, ◌+◌, ◌<◌, true, false, List, [], ◌∷◌, length, map, get_or, pos, negsuc, sym, ◌∙◌, ap, subst, subst₂, arith, ◌↔◌, ◌⊎◌, inl, inr}
use Rattle.std.proofs.lemmas.Bool.{cases_Bool}
use Rattle.std.proofs.lemmas.List.{length-map}
use Rattle.mpc_exact.specs.Rational.{ℚ, int, ◌+ℚ◌, ◌*ℚ◌, ◌≤ℚ◌, neg_ℚ, IsNonneg, IsPositive}
use Rattle.mpc_exact.proofs.RationalOrder.{*ℚ-≤ℚ, ≤ℚ_of_<}
use Rattle.mpc_exact.proofs.OrderTheorems.{*ℚ-≤ℚ_cancel}
use Rattle.mpc_exact.proofs.RationalRing.{reads, by_ring}
use Rattle.mpc_exact.proofs.Linear.{linear_le, claims, none, le, eq}
use Rattle.mpc_space.specs.Vector.{coordinate, column, dot, vec_add, vec_scale, vec_mat, later_entries}
use Rattle.mpc_space.proofs.Entries.{coordinate-add, coordinate-scale, coordinate-listed, length-scale, dot_same}
use Rattle.mpc_space.proofs.Vector.{dot_comm, dot-add, dot-scale}
use Rattle.mpc_space.proofs.Matrix.{coordinate-mat_vec, coordinate-vec_mat, dot-vec_mat}
use Rattle.mpc_linear.specs.declared.integers.RowInt.{RowInt}
use Rattle.mpc_linear.specs.Whole.{IsScaledRow}
use Rattle.mpc_rows.specs.declared.programs.Qp.{Qp}
use Rattle.mpc_rows.specs.declared.laws.Law.{Law}
use Rattle.mpc_rows.specs.LinearSystem.{MeetsRow}
use Rattle.mpc_rows.specs.ActiveSets.{extended, row_of}
use Rattle.mpc_rows.specs.Laws.{HasLawShape, moves_at, mults_at}
use Rattle.mpc_rows.specs.LawRows.{is_member, place_of, excess_form, law_form, law_sides, law_bound, MeetsConditionBy, MeetsCondition, whole_row}
use Rattle.mpc_rows.proofs.LawLemmas.{dot-extended}
use Rattle.mpc_rows.proofs.JointLemmas.{length-later}
use Rattle.mpc_rows.proofs.PlaceLemmas.{member_place}
use Rattle.mpc_rows.proofs.LawRowLemmas.{form_outside, form_member, form_size}

-- ---- a positive multiple of a row has the same points
module _ (a : List ℚ) (b : ℚ) (r : RowInt) (k : IsScaledRow a b r.a r.b) (t : List ℚ) where
  scaled_left : dot (map int r.a) t ≡ k.factor *ℚ dot a t
  scaled_left = ap (λ u. dot u t) k.left ∙ dot-scale k.factor a t

  pub scaled_points : MeetsRow t (whole_row r) ↔ (dot a t ≤ℚ b)
  scaled_points = (
    λ h. *ℚ-≤ℚ_cancel k.positive (subst₂ (λ u v. u ≤ℚ v) scaled_left k.right h),
    λ h. subst₂ (λ u v. u ≤ℚ v) (sym scaled_left) (sym k.right) (*ℚ-≤ℚ (positive_nonneg k.positive) h),
  )
    where
      positive_nonneg : {x : ℚ} → IsPositive x → IsNonneg x
      positive_nonneg h = ≤ℚ_of_< h

-- ---- the form of a row at a point
-- a form is at most 0 where its part on t is at most the negative of its constant
form_split : (f t : List ℚ) → (dot (later_entries f) t ≤ℚ neg_ℚ (coordinate f 0)) ↔ (dot f (extended t) ≤ℚ int (pos 0))
form_split f t = (at_most (dot (later_entries f) t) (coordinate f 0) (dot f (extended t)) (dot-extended f t), back (dot (later_entries f) t) (coordinate f 0) (dot f (extended t)) (dot-extended f t))
  where
    at_most : (d c e : ℚ) → e ≡ c +ℚ d → d ≤ℚ neg_ℚ c → e ≤ℚ int (pos 0)
    at_most d c e w h = linear_le (d ∷ c ∷ e ∷ []) (eq w (le h none)) (search claims depth 40) tt

    back : (d c e : ℚ) → e ≡ c +ℚ d → e ≤ℚ int (pos 0) → d ≤ℚ neg_ℚ c
    back d c e w h = linear_le (d ∷ c ∷ e ∷ []) (eq w (le h none)) (search claims depth 40) tt

excess_entry : (qp : Qp) (law : Law) (i j : ℕ) → j < length qp.counts + 1 → coordinate (excess_form qp law i) j ≡ coordinate (vec_add (vec_scale (int (negsuc 0)) (row_of qp.w.rows i)) (vec_mat (row_of qp.g.rows i) law.moves.rows)) j
excess_entry qp law i j h =
    coordinate-listed (length qp.counts + 1) (λ m. neg_ℚ (coordinate (row_of qp.w.rows i) m) +ℚ dot (row_of qp.g.rows i) (column law.moves.rows m)) j h
    ∙ (λ z. (turned (coordinate (row_of qp.w.rows i) j) ∙ sym (coordinate-scale (int (negsuc 0)) (row_of qp.w.rows i) j)) z +ℚ sym (coordinate-vec_mat (row_of qp.g.rows i) law.moves.rows j) z)
    ∙ sym (coordinate-add (vec_scale (int (negsuc 0)) (row_of qp.w.rows i)) (vec_mat (row_of qp.g.rows i) law.moves.rows) j)
  where
    turned : (y : ℚ) → neg_ℚ y ≡ int (negsuc 0) *ℚ y
    turned y = by_ring (y ∷ []) (search reads depth 30) (search reads depth 30) tt

excess_at_point : (qp : Qp) (law : Law) (i : ℕ) (t : List ℚ) → length t ≡ length qp.counts → dot (excess_form qp law i) (extended t) ≡ int (negsuc 0) *ℚ dot (row_of qp.w.rows i) (extended t) +ℚ dot (row_of qp.g.rows i) (moves_at law t)
excess_at_point qp law i t e =
    let w = row_of qp.w.rows i in
    let g = row_of qp.g.rows i in
    dot_comm (excess_form qp law i) (extended t)
    ∙ dot_same (extended t) (excess_form qp law i) (vec_add (vec_scale (int (negsuc 0)) w) (vec_mat g law.moves.rows)) (λ j h. excess_entry qp law i j (omega arith))
    ∙ dot_comm (extended t) (vec_add (vec_scale (int (negsuc 0)) w) (vec_mat g law.moves.rows))
    ∙ dot-add (vec_scale (int (negsuc 0)) w) (vec_mat g law.moves.rows) (extended t)
    ∙ (λ z. dot-scale (int (negsuc 0)) w (extended t) z +ℚ (dot_comm (vec_mat g law.moves.rows) (extended t) ∙ sym (dot-vec_mat law.moves.rows (extended t) g) ∙ dot_comm (moves_at law t) g) z)

module _ (qp : Qp) (law : Law) (i : ℕ) (t : List ℚ) (size : length t ≡ length qp.counts) where
  outside_points : is_member i law.set ≡ false → (dot (law_form qp law i) (extended t) ≤ℚ int (pos 0)) ↔ MeetsConditionBy false qp law i t
  outside_points e =
      let value : dot (law_form qp law i) (extended t) ≡ int (negsuc 0) *ℚ limit +ℚ gain = ap (λ f. dot f (extended t)) (form_outside qp law i e) ∙ excess_at_point qp law i t size in
      (λ h. below (dot (law_form qp law i) (extended t)) gain limit value h, λ h. back (dot (law_form qp law i) (extended t)) gain limit value h)
    where
      gain : ℚ
      gain = dot (row_of qp.g.rows i) (moves_at law t)

      limit : ℚ
      limit = dot (row_of qp.w.rows i) (extended t)

      below : (e g w : ℚ) → e ≡ int (negsuc 0) *ℚ w +ℚ g → e ≤ℚ int (pos 0) → g ≤ℚ w
      below e g w k h = linear_le (e ∷ g ∷ w ∷ []) (eq k (le h none)) (search claims depth 40) tt

      back : (e g w : ℚ) → e ≡ int (negsuc 0) *ℚ w +ℚ g → g ≤ℚ w → e ≤ℚ int (pos 0)
      back e g w k h = linear_le (e ∷ g ∷ w ∷ []) (eq k (le h none)) (search claims depth 40) tt

  member_points : is_member i law.set ≡ true → (dot (law_form qp law i) (extended t) ≤ℚ int (pos 0)) ↔ MeetsConditionBy true qp law i t
  member_points e =
      let value : dot (law_form qp law i) (extended t) ≡ int (negsuc 0) *ℚ coordinate (mults_at law t) (place_of i law.set) =
      ap (λ f. dot f (extended t)) (form_member qp law i e) ∙ dot-scale (int (negsuc 0)) (get_or law.mults.rows (place_of i law.set) []) (extended t)
      ∙ ap (λ u. int (negsuc 0) *ℚ u) (sym (coordinate-mat_vec law.mults.rows (extended t) (place_of i law.set))) in (
        λ h. below (dot (law_form qp law i) (extended t)) (coordinate (mults_at law t) (place_of i law.set)) value h,
        λ h. back (dot (law_form qp law i) (extended t)) (coordinate (mults_at law t) (place_of i law.set)) value h,
      )
    where
      below : (e l : ℚ) → e ≡ int (negsuc 0) *ℚ l → e ≤ℚ int (pos 0) → IsNonneg l
      below e l k h = linear_le (e ∷ l ∷ []) (eq k (le h none)) (search claims depth 40) tt

      back : (e l : ℚ) → e ≡ int (negsuc 0) *ℚ l → IsNonneg l → e ≤ℚ int (pos 0)
      back e l k h = linear_le (e ∷ l ∷ []) (eq k (le h none)) (search claims depth 40) tt

  form_points : (dot (law_form qp law i) (extended t) ≤ℚ int (pos 0)) ↔ MeetsCondition qp law i t
  form_points = by (cases_Bool (is_member i law.set))
    where
      by : (is_member i law.set ≡ true) ⊎ (is_member i law.set ≡ false) → (dot (law_form qp law i) (extended t) ≤ℚ int (pos 0)) ↔ MeetsCondition qp law i t
      by (inl e) = subst (λ b. (dot (law_form qp law i) (extended t) ≤ℚ int (pos 0)) ↔ MeetsConditionBy b qp law i t) (sym e) (member_points e)
      by (inr e) = subst (λ b. (dot (law_form qp law i) (extended t) ≤ℚ int (pos 0)) ↔ MeetsConditionBy b qp law i t) (sym e) (outside_points e)

  -- a row of a law holds where its condition does
  pub law_row_points : (r : RowInt) → IsScaledRow (law_sides qp law i) (law_bound qp law i) r.a r.b → MeetsRow t (whole_row r) ↔ MeetsCondition qp law i t
  law_row_points r k =
      let whole = scaled_points (law_sides qp law i) (law_bound qp law i) r k t in
      let form = form_split (law_form qp law i) t in
      (λ h. form_points.0 (form.0 (whole.0 h)), λ h. whole.1 (form.1 (form_points.1 h)))

pub law_row_size : (qp : Qp) (law : Law) (i : ℕ) → HasLawShape qp law → (r : RowInt) → IsScaledRow (law_sides qp law i) (law_bound qp law i) r.a r.b → length r.a ≡ length qp.counts
law_row_size qp law i shape r k =
    sym (length-map r.a int) ∙ ap length k.left ∙ length-scale k.factor (law_sides qp law i)
    ∙ length-later (law_form qp law i) (length qp.counts) (form_size qp law i shape (λ e. (member_place law.set i e).0))
