-- Systems by numbered rows and unknowns: points, pair points and multipliers as functions of these numbers, and the same as lists.
use Rattle.std.proofs.Common.{◌≡◌, ℕ, ◌<◌, Bool, List, map, length, slice_get, Some, pos, sym, ◌∙◌, ap, subst, arith, inl, inr, ⊎_elim}
use Rattle.std.proofs.lemmas.List.{get_or-map, length-map}
use Rattle.std.proofs.lemmas.List.Elements.{All-get_or, All-from_get_or}
use Rattle.std.proofs.lemmas.Option.{slice_get-get_or, get_or_from_slice_get, slice_get_within}
use Rattle.mpc_exact.specs.Rational.{ℚ, int, ◌+ℚ◌, ◌*ℚ◌, ◌≤ℚ◌, ◌<ℚ◌}
use Rattle.mpc_exact.specs.Pair.{Pair}
use Rattle.mpc_space.specs.Total.{total}
use Rattle.mpc_space.specs.Vector.{coordinate, dot}
use Rattle.mpc_space.proofs.Total.{total-same}
use Rattle.mpc_space.proofs.Entries.{dot-total_within, nonneg_at, nonneg_by_entries}
use Rattle.mpc_rows.specs.declared.systems.Row.{Row}
use Rattle.mpc_rows.specs.LinearSystem.{LinearSystem, HasWidth, height, no_row, row_at, entry, IsWithin, MeetsRow, IsPoint, point_at, IsPairPoint}
use Rattle.mpc_rows.specs.NumberedSystems.{left_side, IsPointBy, pair_at, IsPairPointBy, StrictBy, side_total, RefutesBy}
use Rattle.mpc_rows.specs.Refutation.{coefficients_on, right_sides, WeighsStrict, Refutes}

-- ---- points
within_by : (strict : Bool) (x y b : ℚ) → x ≡ y → IsWithin strict x b → IsWithin strict y b
within_by strict x y b e h = subst (λ z. IsWithin strict z b) e h

module _ (s : LinearSystem) (w : HasWidth s.width s.rows) where
  dot_is : (v : List ℚ) (i : ℕ) → i < height s → dot (row_at s i).a v ≡ left_side s i (coordinate v)
  unfolding entry
  dot_is v i h =
      let e : length (row_at s i).a ≡ s.width = All-get_or (λ (r : Row). length r.a ≡ s.width) s.rows i no_row h w.each in
      dot-total_within s.width (row_at s i).a v (omega arith)

  pub point_by : (v : List ℚ) → IsPoint s v → IsPointBy s (coordinate v)
  point_by v p = record {
    meets = λ i h. within_by (row_at s i).strict (dot (row_at s i).a v) (left_side s i (coordinate v)) (row_at s i).b (dot_is v i h)
        (All-get_or (MeetsRow v) s.rows i no_row h p.meets);
  }

  same_side : (v : List ℚ) (g : ℕ → ℚ) → ((j : ℕ) → j < s.width → coordinate v j ≡ g j) → (i : ℕ) → left_side s i (coordinate v) ≡ left_side s i g
  same_side v g e i = total-same s.width (λ j. entry s i j *ℚ coordinate v j) (λ j. entry s i j *ℚ g j) (λ j h. ap (λ u. entry s i j *ℚ u) (e j h))

  pub point_from : (v : List ℚ) (g : ℕ → ℚ) → length v ≡ s.width → ((j : ℕ) → j < s.width → coordinate v j ≡ g j) → IsPointBy s g → IsPoint s v
  point_from v g n e p = record {
    size = n;
    meets = All-from_get_or (MeetsRow v) s.rows no_row
        (λ i h. within_by (row_at s i).strict (left_side s i g) (dot (row_at s i).a v) (row_at s i).b (sym (dot_is v i h ∙ same_side v g e i)) (p.meets i h));
  }

  pub pair_point_from : (p : List (ℚ × ℚ)) (g : ℕ → Pair) → length p ≡ s.width →
      ((j : ℕ) → j < s.width → (q : ℚ × ℚ) × (slice_get p j ≡ Some q) × (q.0 ≡ (g j).first) × (q.1 ≡ (g j).second)) → IsPairPointBy s g → IsPairPoint s p
  pair_point_from p g n e h = record {
    size = n;
    reach = h.reach;
    some = h.some;
    meets = λ d k l. point_from (point_at p d) (pair_at g d) (length-map p (λ q. q.0 +ℚ d *ℚ q.1) ∙ n)
        (λ j m. by d j (e j m)) (h.meets d k l);
  }
    where
      by : (d : ℚ) (j : ℕ) → (q : ℚ × ℚ) × (slice_get p j ≡ Some q) × (q.0 ≡ (g j).first) × (q.1 ≡ (g j).second) → coordinate (point_at p d) j ≡ pair_at g d j
      by d j w =
          get_or-map (λ q. q.0 +ℚ d *ℚ q.1) p j w.0 (int (pos 0)) (slice_get_within p j w.0 w.1)
          ∙ ap (λ q. q.0 +ℚ d *ℚ q.1) (get_or_from_slice_get p j w.0 w.0 w.1)
          ∙ (λ i. w.2 i +ℚ d *ℚ w.3 i)

-- ---- multipliers
pub dot-map : (s : LinearSystem) (f : Row → ℚ) (m : List ℚ) → length m ≡ height s → dot m (map f s.rows) ≡ total (height s) (λ i. coordinate m i *ℚ f (row_at s i))
dot-map s f m e =
    dot-total_within (height s) m (map f s.rows) (omega arith)
    ∙ total-same (height s) (λ i. coordinate m i *ℚ coordinate (map f s.rows) i) (λ i. coordinate m i *ℚ f (row_at s i))
    (λ i h. ap (λ u. coordinate m i *ℚ u) (get_or-map f s.rows i no_row (int (pos 0)) h))

module _ (s : LinearSystem) (m : List ℚ) (g : ℕ → ℚ) (n : length m ≡ height s) (e : (i : ℕ) → i < height s → coordinate m i ≡ g i) where
  total_by : (f : Row → ℚ) → dot m (map f s.rows) ≡ total (height s) (λ i. g i *ℚ f (row_at s i))
  total_by f = dot-map s f m n ∙ total-same (height s) (λ i. coordinate m i *ℚ f (row_at s i)) (λ i. g i *ℚ f (row_at s i)) (λ i h. ap (λ u. u *ℚ f (row_at s i)) (e i h))

  column_is : (j : ℕ) → dot m (coefficients_on j s.rows) ≡ total (height s) (λ i. g i *ℚ entry s i j)
  unfolding entry
  column_is j = total_by (λ r. coordinate r.a j)

  sides_is : dot m (right_sides s.rows) ≡ side_total s g
  sides_is = total_by (λ r. r.b)

  strict_by : WeighsStrict s.rows m → StrictBy s g
  strict_by w =
      let h : w.place < height s = slice_get_within s.rows w.place w.row w.is in
      let r : row_at s w.place ≡ w.row = get_or_from_slice_get s.rows w.place w.row no_row w.is in
      (w.place, h, ap (λ (z : Row). z.strict) r ∙ w.strict, subst (λ z. int (pos 0) <ℚ z) (e w.place h) w.positive)

  strict_from : StrictBy s g → WeighsStrict s.rows m
  strict_from w = record {
    place = w.0;
    row = row_at s w.0;
    is = slice_get-get_or s.rows w.0 no_row w.1;
    strict = w.2;
    positive = subst (λ z. int (pos 0) <ℚ z) (sym (e w.0 w.1)) w.3;
  }

  pub refutes_by : Refutes s m → RefutesBy s g
  refutes_by r = record {
    nonneg = λ i h. subst (λ z. int (pos 0) ≤ℚ z) (e i h) (nonneg_at m r.nonneg i);
    left = λ j h. sym (column_is j) ∙ r.left.on j h;
    right = ⊎_elim (λ h. inl (subst (λ z. z <ℚ int (pos 0)) sides_is h)) (λ h. inr (sym sides_is ∙ h.0, strict_by h.1)) r.right;
  }

  pub refutes_from : RefutesBy s g → Refutes s m
  refutes_from r = record {
    nonneg = nonneg_by_entries m (λ i h. let k : i < height s = omega arith in subst (λ z. int (pos 0) ≤ℚ z) (sym (e i k)) (r.nonneg i k));
    left = record { on = λ j h. column_is j ∙ r.left j h };
    right = ⊎_elim (λ h. inl (subst (λ z. z <ℚ int (pos 0)) (sym sides_is) h)) (λ h. inr (sides_is ∙ h.0, strict_from h.1)) r.right;
  }
