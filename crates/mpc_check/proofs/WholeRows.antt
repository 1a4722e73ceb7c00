-- The numbers of a leaf's rows, column by column.
use Rattle.std.proofs.Common.{◌≡◌, ℕ, zero, suc, ◌+◌, ◌-◌, ◌*◌, ◌^◌, ◌<◌, ◌≤◌, Bool, true, false, not, cond, nat_lt, List, [], ◌∷◌, ◌++◌, length, get_or, map, ℤ, pos, negsuc, ◌-ℤ◌, neg_ℤ, unsigned_abs, Option, Some, None, refl, sym, ◌∙◌, ap, subst, arith, to_z, of_z}
use Rattle.std.specs.Prelude.{IfSome}
use Rattle.std.specs.Int.{w128}
use lib.Signed.{mag}
use Rattle.std.proofs.lemmas.List.{length-append, length-map, get_or-map}
use Rattle.std.proofs.lemmas.Int.{ints, fits_signed_from_abs, to_z-of_z}
use Rattle.mpc_exact.specs.Rational.{ℚ, int, neg_ℚ, ◌*ℚ◌}
use Rattle.mpc_exact.proofs.RationalRing.{reads, by_ring}
use Rattle.mpc_exact.proofs.School.{int-neg}
use Rattle.mpc_space.specs.Vector.{coordinate}
use Rattle.mpc_space.proofs.Entries.{coordinate-scale, coordinate-listed}
use Rattle.mpc_linear.specs.declared.integers.RowInt.{RowInt}
use Rattle.mpc_rows.specs.declared.programs.Qp.{Qp}
use Rattle.mpc_rows.specs.declared.systems.Row.{Row}
use Rattle.mpc_rows.specs.declared.trees.Node.{Node}
use Rattle.mpc_rows.specs.LawRows.{whole_row, broken_row}
use Rattle.mpc_rows.specs.LinearSystem.{height, no_row}
use Rattle.mpc_rows.specs.SetRuns.{axis, box_from, box_rows}
use Rattle.mpc_check.specs.declared.whole_sums.Column.{Column}
use Rattle.mpc_check.specs.declared.whole_sums.Column.TheVariants.{Unknown, Sides}
use Rattle.mpc_check.specs.Columns.{number_in, IsColumnOf}
use Rattle.mpc_controller.specs.Ways.{side_row, turn_row, way_rows}
use Rattle.mpc_controller.specs.declared.ways.Turn.{Turn}
use Rattle.mpc_systems.specs.Systems.{hold_system}
use Rattle.mpc_check.proofs.RowPlaces.{box_count, in_box, in_path, in_last}

-- ---- numbers as the code reads them
pub read_back : (z : ℤ) → mag z < 2 ^ 127 → to_z w128 (of_z w128 z) ≡ z
read_back z h = to_z-of_z w128 z (record { sfits = h })

pub read_small : (z : ℤ) → unsigned_abs z < 2 ^ 127 → to_z w128 (of_z w128 z) ≡ z
read_small z h = to_z-of_z w128 z (fits_signed_from_abs w128 z h)

pub read_neg : (z : ℤ) → unsigned_abs z < 2 ^ 127 → to_z w128 (of_z w128 (pos 0 -ℤ to_z w128 (of_z w128 z))) ≡ neg_ℤ z
read_neg z h =
    let turned : pos 0 -ℤ z ≡ neg_ℤ z = omega (arith, ints) in
    let size : unsigned_abs (neg_ℤ z) ≡ unsigned_abs z = omega (arith, ints) in
    ap (λ n. to_z w128 (of_z w128 (pos 0 -ℤ n))) (read_small z h) ∙ ap (λ n. to_z w128 (of_z w128 n)) turned ∙ read_small (neg_ℤ z) (subst (λ n. n < 2 ^ 127) (sym size) h)

-- ---- rows of the box
chosen : (a b : Bool) (value : ℤ) → int (cond a (pos 0) (cond b (pos 0) value)) ≡ cond a (int (pos 0)) (cond b (int (pos 0)) (int value))
chosen true b value = refl
chosen false true value = refl
chosen false false value = refl

pub axis_is : (width i j : ℕ) (value number : ℤ) → j < width → number ≡ cond (nat_lt i j) (pos 0) (cond (nat_lt j i) (pos 0) value) → int number ≡ coordinate (axis width i (int value)) j
axis_is width i j value number h e =
    ap int e ∙ chosen (nat_lt i j) (nat_lt j i) value ∙ sym (coordinate-listed width (λ k. cond (nat_lt i k) (int (pos 0)) (cond (nat_lt k i) (int (pos 0)) (int value))) j h)

abbrev pub lower : ℕ → ℕ → Row
lower width i = record { a = axis width i (int (negsuc 0)); b = int (pos 0); strict = false }

abbrev pub upper : ℕ → ℕ → ℕ → Row
upper width i count = record { a = axis width i (int (pos 1)); b = int (pos count); strict = false }

box_lower : (width i : ℕ) (counts : List ℕ) (k : ℕ) → k < length counts → get_or (box_from width i counts) (k + k) no_row ≡ lower width (i + k)
box_lower width i [] k h = absurd (omega arith)
box_lower width i (count ∷ counts) zero h = let e : i ≡ i + 0 = omega arith in ap (lower width) e
box_lower width i (count ∷ counts) (suc k) h =
    let two : suc k + suc k ≡ suc (suc (k + k)) = omega arith in
    let e : suc i + k ≡ i + suc k = omega arith in
    ap (λ n. get_or (box_from width i (count ∷ counts)) n no_row) two ∙ box_lower width (suc i) counts k (omega arith) ∙ ap (lower width) e

box_upper : (width i : ℕ) (counts : List ℕ) (k : ℕ) → k < length counts → get_or (box_from width i counts) (suc (k + k)) no_row ≡ upper width (i + k) (get_or counts k 0)
box_upper width i [] k h = absurd (omega arith)
box_upper width i (count ∷ counts) zero h = let e : i ≡ i + 0 = omega arith in ap (λ j. upper width j count) e
box_upper width i (count ∷ counts) (suc k) h =
    let two : suc (suc k + suc k) ≡ suc (suc (suc (k + k))) = omega arith in
    let e : suc i + k ≡ i + suc k = omega arith in
    ap (λ n. get_or (box_from width i (count ∷ counts)) n no_row) two ∙ box_upper width (suc i) counts k (omega arith) ∙ ap (λ j. upper width j (get_or counts k 0)) e

pub lower_at : (width : ℕ) (counts : List ℕ) (i place : ℕ) → i < length counts → place ≡ i + i → lower width i ≡ get_or (box_rows width counts) place no_row
lower_at width counts i place h e = sym (ap (λ n. get_or (box_rows width counts) n no_row) e ∙ box_lower width 0 counts i h ∙ ap (lower width) (omega arith))

pub upper_at : (width : ℕ) (counts : List ℕ) (i place : ℕ) → i < length counts → place ≡ suc (i + i) → upper width i (get_or counts i 0) ≡ get_or (box_rows width counts) place no_row
upper_at width counts i place h e =
    sym (ap (λ n. get_or (box_rows width counts) n no_row) e ∙ box_upper width 0 counts i h ∙ ap (λ j. upper width j (get_or counts i 0)) (omega arith))

box_not_strict : (width i : ℕ) (counts : List ℕ) (place : ℕ) → (get_or (box_from width i counts) place no_row).strict ≡ false
box_not_strict width i [] place = refl
box_not_strict width i (count ∷ counts) zero = refl
box_not_strict width i (count ∷ counts) (suc zero) = refl
box_not_strict width i (count ∷ counts) (suc (suc place)) = box_not_strict width (suc i) counts place

pub none_strict : (width : ℕ) (counts : List ℕ) (place : ℕ) → (get_or (box_rows width counts) place no_row).strict ≡ false
none_strict width counts place = box_not_strict width 0 counts place

-- ---- rows in whole numbers
minus : (x : ℚ) → int (negsuc 0) *ℚ x ≡ neg_ℚ x
minus x = by_ring (x ∷ []) (search reads depth 30) (search reads depth 30) tt

broken_number : (column : Column) (row : RowInt) → number_in column (broken_row row) ≡ neg_ℚ (number_in column (whole_row row))
broken_number (Unknown j) row = coordinate-scale (int (negsuc 0)) (map int row.a) j ∙ minus (coordinate (map int row.a) j)
broken_number Sides row = refl

pub no_side_number : (column : Column) (row : RowInt) (side : Bool) (number : ℤ) → side ≡ false → int number ≡ number_in column (whole_row row) → int (neg_ℤ number) ≡ number_in column (side_row side row)
no_side_number column row side number is e = int-neg number ∙ ap neg_ℚ e ∙ sym (broken_number column row) ∙ ap (λ y. number_in column (side_row y row)) (sym is)

pub side_strict : (side : Bool) (row : RowInt) → (side_row side row).strict ≡ not side
side_strict true row = refl
side_strict false row = refl

pub in_columns : (column : Column) (m n : ℕ) → m ≡ n → IsColumnOf n column → IsColumnOf m column
in_columns column m n e h = subst (λ k. IsColumnOf k column) (sym e) h

-- ---- what follows of a value
pub some_follows : {A : Type 0} (r : Option A) (P Q : A → Type 0) → ((a : A) → P a → Q a) → IfSome r P → IfSome r Q
some_follows None P Q f h = tt
some_follows (Some a) P Q f h = f a h

-- ---- the rows of a leaf's system by their places
module _ (qp : Qp) (nodes : List Node) (way : List Turn) (row : RowInt) (place : ℕ) where
  abbrev counts : List ℕ
  counts = qp.counts

  abbrev all_rows : List Row
  all_rows = box_rows (length counts) counts ++ (way_rows nodes way ++ broken_row row ∷ [])

  pub held_count : height (hold_system qp (way_rows nodes way) row) ≡ 2 * length counts + length way + 1
  unfolding hold_system
  held_count =
      length-append (box_rows (length counts) counts) (way_rows nodes way ++ broken_row row ∷ [])
      ∙ omega (arith, box_count (length counts) 0 counts, length-append (way_rows nodes way) (broken_row row ∷ []), length-map way (turn_row nodes))

  pub held_box : place < 2 * length counts → get_or (box_rows (length counts) counts) place no_row ≡ get_or (hold_system qp (way_rows nodes way) row).rows place no_row
  unfolding hold_system
  held_box h = in_box (box_rows (length counts) counts) (way_rows nodes way) (broken_row row ∷ []) (2 * length counts) (length way) place (box_count (length counts) 0 counts) (length-map way (turn_row nodes)) h

  pub held_turn : (behind : ℕ) (d : Turn) → behind ≡ place - 2 * length counts → 2 * length counts ≤ place → behind < length way → turn_row nodes (get_or way behind d) ≡ get_or (hold_system qp (way_rows nodes way) row).rows place no_row
  unfolding hold_system
  held_turn behind d e h k =
      sym (get_or-map (turn_row nodes) way behind d no_row k) ∙ ap (λ n. get_or (way_rows nodes way) n no_row) e
      ∙ in_path (box_rows (length counts) counts) (way_rows nodes way) (broken_row row ∷ []) (2 * length counts) (length way) place (box_count (length counts) 0 counts) (length-map way (turn_row nodes)) h (omega arith)

  pub held_last : (behind : ℕ) → behind ≡ place - 2 * length counts → 2 * length counts ≤ place → length way ≤ behind → place < 2 * length counts + length way + 1 → broken_row row ≡ get_or (hold_system qp (way_rows nodes way) row).rows place no_row
  unfolding hold_system
  held_last behind e h k l =
      let first : 0 ≡ place - 2 * length counts - length way = omega arith in
      ap (λ n. get_or (broken_row row ∷ []) n no_row) first
      ∙ in_last (box_rows (length counts) counts) (way_rows nodes way) (broken_row row ∷ []) (2 * length counts) (length way) place (box_count (length counts) 0 counts) (length-map way (turn_row nodes)) h (omega arith)
