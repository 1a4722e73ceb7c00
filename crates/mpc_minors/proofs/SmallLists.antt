-- The whole numbers of a system of small rows, each over the scale 1.
use Rattle.std.proofs.Common.{◌≡◌, ℕ, ◌+◌, ◌<◌, ◌≤◌, List, map, ℤ, pos, unsigned_abs, sym, ◌∙◌, subst, arith, ◌⊎◌, inl, inr}
use Rattle.std.proofs.lemmas.Bool.{cases_lt}
use Rattle.std.proofs.lemmas.List.{get_or_past}
use Rattle.std.specs.List.{range_with_len}
use Rattle.std.proofs.lemmas.List.FromFn.{get_or-map-range_with_len, length-map-range_with_len}
use Rattle.mpc_exact.specs.Rational.{int, frac}
use Rattle.mpc_rows.specs.LinearSystem.{LinearSystem, row_at, height, entry}
use Rattle.mpc_rows.specs.Run.{count}
use Rattle.mpc_rows.specs.RunWidth.{RunFits}
use Rattle.mpc_scaled.specs.Scaled.{whole_at, scale_at, IsSmall, IsWholeSystem}
use Rattle.mpc_runs.proofs.WholeLists.{small_within}
use Rattle.mpc_whole.specs.PositionTheorems.{PositionTheorems}
use Rattle.mpc_minors.specs.SmallRows.{HasSmallRows}
use Rattle.mpc_minors.specs.Sizes.{LeaveRoom}
use Rattle.mpc_minors.proofs.Appended.{HasSizes}
use Rattle.mpc_minors.proofs.Cells.{cells, cells-size, cells-at, cells-small}
use Rattle.mpc_minors.proofs.Fits.{small_fits}

module _ (entry_size side_size : ℕ) (s : LinearSystem) (h : HasSmallRows entry_size side_size s) where
  -- the whole number of a place, and 0 outside of the rows
  record NumberAt (i j : ℕ) : Type 0 where
    z : ℤ
    is : i < height s → j < s.width → entry s i j ≡ int z
    small : unsigned_abs z ≤ entry_size

  number_at : (i j : ℕ) → NumberAt i j
  number_at i j = by (cases_lt i (height s)) (cases_lt j s.width)
    where
      by : (i < height s) ⊎ (height s ≤ i) → (j < s.width) ⊎ (s.width ≤ j) → NumberAt i j
      by (inl l) (inl m) = let n = h.entries i j l m in record { z = n.z; is = λ p q. n.is; small = n.small }
      by (inl l) (inr m) = record { z = pos 0; is = λ p q. absurd (omega arith); small = omega arith }
      by (inr l) m = record { z = pos 0; is = λ p q. absurd (omega arith); small = omega arith }

  record SideAt (i : ℕ) : Type 0 where
    z : ℤ
    is : i < height s → (row_at s i).b ≡ int z
    small : unsigned_abs z ≤ side_size

  side_at : (i : ℕ) → SideAt i
  side_at i = by (cases_lt i (height s))
    where
      by : (i < height s) ⊎ (height s ≤ i) → SideAt i
      by (inl l) = let n = h.sides i l in record { z = n.z; is = λ p. n.is; small = n.small }
      by (inr l) = record { z = pos 0; is = λ p. absurd (omega arith); small = omega arith }

  abbrev number : ℕ → ℕ → ℤ
  number i j = (number_at i j).z

  abbrev entries : List ℤ
  entries = cells s.width (height s) number

  abbrev side : ℕ → ℤ
  side i = (side_at i).z

  abbrev sides : List ℤ
  sides = map side (range_with_len 0 (height s))

  abbrev one : ℕ → ℕ
  one x = 1

  abbrev ones : List ℕ
  ones = map one (range_with_len 0 (count s))

  ones_at : (x : ℕ) → x < count s → scale_at ones x ≡ 1
  ones_at x l = get_or-map-range_with_len one 0 (count s) x x 0 l (omega arith)

  ones_small : (x : ℕ) → scale_at ones x ≤ 1
  ones_small x = by (cases_lt x (count s))
    where
      by : (x < count s) ⊎ (count s ≤ x) → scale_at ones x ≤ 1
      by (inl l) = let e = ones_at x l in omega arith
      by (inr l) = let e = get_or_past ones x 0 (let f = length-map-range_with_len one 0 (count s) in omega arith) in omega arith

  sides_at : (i : ℕ) → i < height s → whole_at sides i ≡ side i
  sides_at i l = get_or-map-range_with_len side 0 (height s) i i (pos 0) l (omega arith)

  whole : IsWholeSystem s ones entries sides
  whole = record {
    entries_size = cells-size s.width (height s) number;
    sides_size = length-map-range_with_len side 0 (height s);
    scales = record {
      size = length-map-range_with_len one 0 (count s);
      own = λ j l. ones_at j (omega arith);
      some = λ x l. let e = ones_at x l in omega arith;
      small = λ x. let e = ones_small x in omega arith;
    };
    entries = λ i j l m. (number_at i j).is l m ∙ (λ t. frac (sym (cells-at s.width (height s) number i j l m) t) (sym (ones_at (s.width + i) (omega arith)) t));
    sides = record { sides = λ i l. (side_at i).is l ∙ (λ t. frac (sym (sides_at i l) t) (sym (ones_at (s.width + i) (omega arith)) t)) };
  }

  sides_small : IsSmall side_size sides
  sides_small =
      small_within sides side_size (height s) (let e = length-map-range_with_len side 0 (height s) in omega arith)
      (λ i l. subst (λ z. unsigned_abs z ≤ side_size) (sym (sides_at i l)) (side_at i).small)

  sizes : 0 < s.width → HasSizes entry_size side_size 1 ones entries sides
  sizes some = record { entries = cells-small s.width (height s) number entry_size some (λ i j l m. (number_at i j).small); sides = sides_small; scales = ones_small }

  pub rows_fit : PositionTheorems → 1 ≤ entry_size → 1 ≤ side_size → LeaveRoom s.width (count s) entry_size side_size 1 → RunFits s
  rows_fit t some_entry some_side room = small_fits t s ones entries sides whole entry_size side_size 1 some_entry some_side (sizes room.some) room
