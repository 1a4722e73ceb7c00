-- The first state of a motion and the later ones, entry by entry.
use Rattle.std.proofs.Common.{◌≡◌, ℕ, zero, suc, ◌+◌, ◌<◌, ◌≤◌, List, [], ◌∷◌, ◌++◌, length, get_or, drop, All, pos, refl, sym, ◌∙◌, ap, subst, subst₂, arith, Some, slice_get}
use Rattle.std.proofs.lemmas.List.{drop_more, drop_all, append_assoc, append-nil, length-map, get_or-map}
use Rattle.std.proofs.lemmas.List.FromFn.{map-range_with_len_more}
use Rattle.std.proofs.lemmas.Option.{get_or_from_slice_get}
use Rattle.mpc_exact.specs.Rational.{ℚ, int, ◌+ℚ◌, ◌*ℚ◌, neg_ℚ}
use Rattle.mpc_exact.proofs.School.{natural_le}
use Rattle.mpc_space.specs.Vector.{coordinate, dot, listed, mat_vec, vec_add, vec_sub}
use Rattle.mpc_space.specs.Matrix.{RationalMatrix}
use Rattle.mpc_space.proofs.Entries.{same_entries, coordinate-add, coordinate-sub, coordinate-listed, length-listed, length-add, length-sub}
use Rattle.mpc_space.proofs.Matrix.{length-mat_vec, coordinate-mat_vec}
use Rattle.mpc_linear.specs.Dot.{TermFits}
use Rattle.mpc_plant.specs.declared.lists.Coordinate.{Coordinate}
use Rattle.mpc_plant.specs.declared.plants.Plant.{Plant}
use Rattle.mpc_plant.specs.Limits.{IsCoordinate, greatest_count}
use Rattle.mpc_linear.specs.Shape.{HasShape}
use Rattle.mpc_plant.specs.Trajectory.{IsWithin, IsInBox, point_of, values_at, state_at}
use Rattle.mpc_plant.specs.RollWidth.{row_at, AxesFit, next_of, next_entry}

-- ---- the box
pub within_size : (grid : List Coordinate) (ts : List ℚ) → IsWithin grid ts → length grid ≡ length ts
within_size [] [] h = refl
within_size [] (t ∷ ts) h = absurd h
within_size (axis ∷ grid) [] h = absurd h
within_size (axis ∷ grid) (t ∷ ts) h = ap suc (within_size grid ts h.2)

pub counts_size : (grid : List Coordinate) (counts : List ℕ) → IsWithin grid (point_of counts) → length counts ≡ length grid
counts_size grid counts h = sym (within_size grid (point_of counts) h ∙ length-map counts (λ (k : ℕ). int (pos k)))

count_within : (grid : List Coordinate) (counts : List ℕ) (i : ℕ) (axis : Coordinate) → IsWithin grid (point_of counts) → i < length counts → get_or counts i 0 ≤ (get_or grid i axis).count
count_within grid [] i axis h l = absurd (omega arith)
count_within [] (t ∷ ts) i axis h l = absurd h
count_within (a ∷ grid) (t ∷ ts) zero axis h l = (natural_le t a.count).0 h.1
count_within (a ∷ grid) (t ∷ ts) (suc i) axis h l = count_within grid ts i axis h.2 (omega arith)

-- a count inside the box is within the limit
pub count_small : (grid : List Coordinate) (counts : List ℕ) (i : ℕ) (axis : Coordinate) → All IsCoordinate grid → IsWithin grid (point_of counts) → i < length counts → get_or counts i 0 ≤ greatest_count
count_small grid counts i axis ok h l =
    let below = count_within grid counts i axis h l in
    let few = (ok i axis (subst (λ n. i < n) (counts_size grid counts h) l)).count_small in
    omega arith

-- ---- the first state: what is left of it behind the first i entries
pub record Starts (grid : List Coordinate) (ts : List ℚ) (i : ℕ) (xs : List ℚ) : Type 0 where
  pub value : xs ++ values_at (drop i grid) (drop i ts) ≡ values_at grid ts
  pub ahead : AxesFit (drop i grid) (drop i ts) → AxesFit grid ts
  pub back : AxesFit grid ts → AxesFit (drop i grid) (drop i ts)

pub starts_none : (grid : List Coordinate) (ts : List ℚ) → Starts grid ts 0 []
starts_none grid ts = record { value = refl; ahead = λ h. h; back = λ h. h }

module _ (grid : List Coordinate) (counts : List ℕ) (i : ℕ) (xs : List ℚ) (axis : Coordinate) (in_box : IsWithin grid (point_of counts)) (l : i < length counts) (e : slice_get grid i ≡ Some axis) (s : Starts grid (point_of counts) i xs) where
  front : drop i grid ≡ axis ∷ drop (i + 1) grid
  front = drop_more grid i axis (subst (λ n. i < n) (counts_size grid counts in_box) l) ∙ ap (λ a. a ∷ drop (i + 1) grid) (get_or_from_slice_get grid i axis axis e)

  behind : drop i (point_of counts) ≡ int (pos (get_or counts i 0)) ∷ drop (i + 1) (point_of counts)
  behind =
      drop_more (point_of counts) i (int (pos 0)) (subst (λ n. i < n) (sym (length-map counts (λ (k : ℕ). int (pos k)))) l)
      ∙ ap (λ t. t ∷ drop (i + 1) (point_of counts)) (get_or-map (λ (k : ℕ). int (pos k)) counts i 0 (int (pos 0)) l)

  pub starts_more : (ys : List ℚ) (v : ℚ) → ys ≡ xs ++ v ∷ [] → v ≡ axis.low +ℚ axis.step *ℚ int (pos (get_or counts i 0)) → TermFits axis.low axis.step (int (pos (get_or counts i 0))) → Starts grid (point_of counts) (i + 1) ys
  starts_more ys v grown is fits = record {
    value =
        ap (λ zs. zs ++ values_at (drop (i + 1) grid) (drop (i + 1) (point_of counts))) (grown ∙ ap (λ x. xs ++ x ∷ []) is)
        ∙ append_assoc xs ((axis.low +ℚ axis.step *ℚ int (pos (get_or counts i 0))) ∷ []) (values_at (drop (i + 1) grid) (drop (i + 1) (point_of counts)))
        ∙ (λ j. xs ++ values_at (sym front j) (sym behind j)) ∙ s.value;
    ahead = λ h. s.ahead (subst₂ AxesFit (sym front) (sym behind) (fits, h));
    back = λ h. (subst₂ AxesFit front behind (s.back h)).1;
  }

  pub starts_wide : ¬ TermFits axis.low axis.step (int (pos (get_or counts i 0))) → ¬ AxesFit grid (point_of counts)
  starts_wide w h = w (subst₂ AxesFit front behind (s.back h)).0

module _ (grid : List Coordinate) (counts : List ℕ) (i : ℕ) (xs : List ℚ) (in_box : IsWithin grid (point_of counts)) (l : length counts ≤ i) (s : Starts grid (point_of counts) i xs) where
  no_axis : drop i grid ≡ []
  no_axis = drop_all i grid (subst (λ n. n ≤ i) (counts_size grid counts in_box) l)

  pub starts_value : xs ≡ values_at grid (point_of counts)
  starts_value = sym (append-nil xs) ∙ ap (λ g. xs ++ values_at g (drop i (point_of counts))) (sym no_axis) ∙ s.value

  pub starts_fit : AxesFit grid (point_of counts)
  starts_fit = s.ahead (subst (λ g. AxesFit g (drop i (point_of counts))) (sym no_axis) tt)

-- ---- vectors that are listed entry by entry
pub listed_more : (f : ℕ → ℚ) (i : ℕ) (xs ys : List ℚ) (v : ℚ) → xs ≡ listed i f → ys ≡ xs ++ v ∷ [] → v ≡ f i → ys ≡ listed (i + 1) f
listed_more f i xs ys v e g is = g ∙ (λ j. e j ++ is j ∷ []) ∙ sym (map-range_with_len_more f 0 i i (omega arith))

pub image_listed : (m : RationalMatrix) (x : List ℚ) → listed (length m.rows) (λ i. dot (row_at m i) x) ≡ mat_vec m.rows x
image_listed m x =
    let long = length-listed (length m.rows) (λ i. dot (row_at m i) x) in
    same_entries (listed (length m.rows) (λ i. dot (row_at m i) x)) (mat_vec m.rows x) (long ∙ sym (length-mat_vec m.rows x))
    (λ i l. coordinate-listed (length m.rows) (λ i. dot (row_at m i) x) i (subst (λ n. i < n) long l) ∙ sym (coordinate-mat_vec m.rows x i))

pub row_size : (m : RationalMatrix) (rows columns i : ℕ) → HasShape m rows columns → i < rows → length (row_at m i) ≡ columns
row_size m rows columns i shape l = shape.rectangular i [] (subst (λ n. i < n) (sym shape.rows_are) l) ∙ shape.columns_are

-- ---- the next state
module _ (plant : Plant) (x u : List ℚ) where
  abbrev moved : List ℚ
  moved = vec_add (mat_vec plant.a.rows x) (mat_vec plant.b.rows u)

  moved_size : length moved ≡ plant.n
  moved_size =
      let a = length-mat_vec plant.a.rows x ∙ plant.is_plant.a_shape.rows_are in
      let b = length-mat_vec plant.b.rows u ∙ plant.is_plant.b_shape.rows_are in
      length-add (mat_vec plant.a.rows x) (mat_vec plant.b.rows u) (a ∙ sym b) ∙ a

  pub next_size : length (next_of plant x u) ≡ plant.n
  next_size = length-add moved plant.drift (moved_size ∙ sym plant.is_plant.drift_size) ∙ moved_size

  pub next_listed : listed plant.n (next_entry plant x u) ≡ next_of plant x u
  next_listed =
      let long = length-listed plant.n (next_entry plant x u) in
      same_entries (listed plant.n (next_entry plant x u)) (next_of plant x u) (long ∙ sym next_size)
      (λ i l.
      coordinate-listed plant.n (next_entry plant x u) i (subst (λ n. i < n) long l)
      ∙ (λ j. (sym (coordinate-mat_vec plant.a.rows x i) j +ℚ sym (coordinate-mat_vec plant.b.rows u i) j) +ℚ coordinate plant.drift i)
      ∙ ap (λ w. w +ℚ coordinate plant.drift i) (sym (coordinate-add (mat_vec plant.a.rows x) (mat_vec plant.b.rows u) i))
      ∙ sym (coordinate-add moved plant.drift i))

-- ---- the distance from a goal
pub gap_listed : (x goal : List ℚ) → length x ≡ length goal → listed (length x) (λ i. coordinate x i +ℚ neg_ℚ (coordinate goal i)) ≡ vec_sub x goal
gap_listed x goal e =
    let entry = λ (i : ℕ). coordinate x i +ℚ neg_ℚ (coordinate goal i) in
    let long = length-listed (length x) entry in
    same_entries (listed (length x) entry) (vec_sub x goal) (long ∙ sym (length-sub x goal e))
    (λ i l. coordinate-listed (length x) entry i (subst (λ n. i < n) long l) ∙ sym (coordinate-sub x goal i))

-- ---- sizes of the states
values_size : (grid : List Coordinate) (ts : List ℚ) → length grid ≡ length ts → length (values_at grid ts) ≡ length grid
values_size [] ts h = refl
values_size (axis ∷ grid) [] h = absurd (omega arith)
values_size (axis ∷ grid) (t ∷ ts) h = ap suc (values_size grid ts (omega arith))

pub state_size : (plant : Plant) (t : List ℚ) (v : List (List ℚ)) (k : ℕ) → IsInBox plant t → length (state_at plant t v k) ≡ plant.n
state_size plant t v zero h = values_size plant.grid t (within_size plant.grid t h) ∙ plant.is_plant.grid_size
state_size plant t v (suc k) h = next_size plant _ _
