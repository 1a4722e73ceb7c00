-- Lists that are written entry by entry, and rows that are read one by one.
use Rattle.std.proofs.Common.{◌≡◌, ℕ, ◌+◌, ◌-◌, ◌*◌, ◌<◌, ◌≤◌, ◌∙◌, sym, ap, subst, List, [], ◌∷◌, ◌++◌, length, map, get_or, arith, ⊎_elim}
use Rattle.std.specs.List.{range_with_len, between}
use Rattle.std.proofs.lemmas.Bool.{cases_eq, cases_lt}
use Rattle.std.proofs.lemmas.List.Edits.{get_or-between, length-between}
use Rattle.std.proofs.lemmas.List.Elements.{All-get_or}
use Rattle.std.proofs.lemmas.List.FromFn.{map-range_with_len_more, length-map-range_with_len}
use Rattle.mpc_bench.specs.declared.parts.Parts.{Parts}
use Rattle.mpc_bench.specs.Parts.{IsReadable}
use Rattle.mpc_rows.specs.declared.systems.Row.{Row}
use Rattle.mpc_bench.specs.declared.systems.Side.{Side}
use Rattle.mpc_exact.specs.Rational.{ℚ}
use Rattle.mpc_rows.specs.LinearSystem.{LinearSystem, height}
use Rattle.mpc_simplex.specs.declared.Decision.{Decision}
use Rattle.mpc_simplex.specs.declared.Decision.TheVariants.{Refuted}
use Rattle.mpc_simplex.specs.Answer.{IsRunEnd, EndsRefuted}
use Rattle.mpc_bench.specs.Sent.{no_parts, no_side, sent_row, sent_system, IsReadableRow}
use Rattle.std.proofs.lemmas.List.{ext_get_or, length-map, get_or-map}

-- each entry passes as that of the other list
pub passed : {X Y : Type 0} (f : X → Y) (xs : List X) (ys : List Y) (d : X) (e : Y) → length xs ≡ length ys
    → ((k : ℕ) → k < length ys → f (get_or xs k d) ≡ get_or ys k e) → map f xs ≡ ys
passed f xs ys d e long at =
    ext_get_or e (map f xs) ys (length-map xs f ∙ long) (λ k h.
    let l : k < length xs = subst (λ n. k < n) (length-map xs f) h in
    get_or-map f xs k d e l ∙ at k (subst (λ n. k < n) long l))

-- row i after the rows before it
pub rows_more : (width : ℕ) (coefficients : List Parts) (sides : List Side) (i : ℕ) (row : Row) → row ≡ sent_row width coefficients sides i → (rows new : List Row)
    → rows ≡ map (sent_row width coefficients sides) (range_with_len 0 i) → new ≡ rows ++ row ∷ []
    → new ≡ map (sent_row width coefficients sides) (range_with_len 0 (i + 1))
rows_more width coefficients sides i row is rows new before pushed =
    pushed ∙ (λ t. before t ++ is t ∷ []) ∙ sym (map-range_with_len_more (sent_row width coefficients sides) 0 i i (omega arith))

-- there is a multiplier for each row that was sent
pub refuted_long : (width : ℕ) (coefficients : List Parts) (sides : List Side) (system : LinearSystem) (decision : Decision) (found : List ℚ)
    → system ≡ sent_system width coefficients sides → decision ≡ Refuted found → IsRunEnd system decision → length found ≡ length sides
refuted_long width coefficients sides system decision found sent is end =
    let e : EndsRefuted system found = subst (IsRunEnd system) is end in
    e.multipliers.size ∙ ap height sent ∙ length-map-range_with_len (sent_row width coefficients sides) 0 (length sides)

-- ---- what can be read
-- the parts of the first rows
pub record AreReadable (width : ℕ) (coefficients : List Parts) (sides : List Side) (rows : ℕ) : Type 0 where
  pub left : (k : ℕ) → k < rows * width → IsReadable (get_or coefficients k no_parts)
  pub right : (k : ℕ) → k < rows → IsReadable (get_or sides k no_side).bound

next_row : (r w : ℕ) → (r + 1) * w ≡ r * w + w
next_row r w = omega arith

row_within : (r n w : ℕ) → r < n → r * w + w ≤ n * w
row_within r n w h = grind arith

module _ (width : ℕ) (coefficients : List Parts) (sides : List Side) (shape : length coefficients ≡ length sides * width) where
  module _ (i : ℕ) (within : i < length sides) where
    row : List Parts
    row = between (i * width) (i * width + width) coefficients

    row_size : length row ≡ width
    unfolding row
    row_size =
        let inside : i * width + width ≤ length coefficients = subst (λ n. i * width + width ≤ n) (sym shape) (row_within i (length sides) width within) in
        length-between coefficients (i * width) (i * width + width) inside ∙ omega arith

    part_at : (k : ℕ) → k < width → get_or row k no_parts ≡ get_or coefficients (i * width + k) no_parts
    unfolding row
    part_at k h = get_or-between coefficients (i * width) (i * width + width) k no_parts (omega arith)

    pub more_readable : IsReadableRow (between (i * width) (i * width + width) coefficients) (get_or sides i no_side) → AreReadable width coefficients sides i → AreReadable width coefficients sides (i + 1)
    unfolding row
    more_readable r before = record {
      left = λ k h.
          ⊎_elim (λ l. before.left k l)
          (λ l.
          let below : k - i * width < width = omega (arith, next_row i width) in
          let place : i * width + (k - i * width) ≡ k = omega arith in
          subst (λ m. IsReadable (get_or coefficients m no_parts)) place
          (subst IsReadable (part_at (k - i * width) below) (All-get_or IsReadable row (k - i * width) no_parts (subst (λ n. k - i * width < n) (sym row_size) below) r.left_side)))
          (cases_lt k (i * width));
      right = λ k h. ⊎_elim (λ e. subst (λ m. IsReadable (get_or sides m no_side).bound) (sym e) r.right_side) (λ e. before.right k (omega arith)) (cases_eq k i);
    }
