-- The lines of a plant's rows and of its grid.
use Rattle.std.proofs.Common.{◌≡◌, ◌≢◌, ℕ, ◌+◌, ◌*◌, ◌^◌, ◌<◌, ◌≤◌, true, ltb, List, [], ◌∷◌, ◌++◌, ℤ, pos, negsuc, length, get_or, codes, Option, Some, None, MatchOption, Err, inl, inr, unsigned_abs, to_z, of_z, decimal, sym, ap, ◌∙◌, subst, arith, length-append}
use Rattle.std.specs.Int.{w128}
use Rattle.std.specs.Int.Signed.{le_z}
use Rattle.std.proofs.lemmas.Bool.{leb-true, le-leb}
use Rattle.std.proofs.lemmas.Int.{fits_signed_from_abs, to_z-of_z}
use Rattle.mpc_grammar.specs.Reading.{Cursor, LineRule, one_line, ReadsItems, Outcome}
use Rattle.mpc_grammar.specs.declared.errors.FileError.{FileError}
use Rattle.mpc_grammar.specs.declared.errors.FileError.TheVariants.{Bad, NoMemory}
use Rattle.mpc_grammar.specs.declared.versions.Version.{Version}
use Rattle.mpc_grammar.specs.PlantGrammar.{AllFit, IsRow, IsAxis, row_list, last_list, limits, IsNumber, so_many, plain_rule}
use Rattle.mpc_grammar.specs.Fractions.{whole_numer, whole_denom, natural_text, natural_fits}
use Rattle.mpc_grammar.specs.Outcomes.{none_read, more_read, asks_for_more}
use Rattle.std.proofs.lemmas.List.Elements.{All-nil, All-cons, All-head, All-tail}
use Rattle.mpc_exact.specs.Rational.{ℚ, int, same_parts}
use Rattle.mpc_frac.specs.Fits.{FitsFrac}
use Rattle.mpc_frac.specs.Text.{text_of as fraction_text}
use Rattle.mpc_words.specs.Words.{line}
use Rattle.mpc_plant.specs.declared.lists.PlantRow.{PlantRow}
use Rattle.mpc_plant.specs.declared.lists.Coordinate.{Coordinate}
use Rattle.mpc_grammar.specs.declared.plant_parts.Sizes.{Sizes}
use Rattle.mpc_grammar.specs.Lines.{fractions_line, grid_line}
use Rattle.mpc_grammar.specs.Spelling.{AreFractions}
use Rattle.mpc_grammar.specs.LineTheorems.{OneFractions}
use Rattle.mpc_plant.specs.Limits.{greatest_count}
use Rattle.mpc_plant_lines.specs.LimitNumbers.{StatesRow, StatesAxis, IsStepCount}

-- ---- the number of rows
-- at least one row each
few_each : (each count : ℕ) → 0 < each → count ≤ each * count
few_each each count h = grind arith

pub small_count : (name text : List ℕ) (each others most count : ℕ) → 0 < each → most < 2 ^ 64 → IsNumber name (λ number. each * number + others ≤ most) text count → count < 2 ^ 64
small_count name text each others most count some limit is = omega (arith, is.allowed, few_each each count some)

-- ---- a number of steps
read_back : (z : ℤ) → unsigned_abs z < 2 ^ 127 → to_z w128 (of_z w128 z) ≡ z
read_back z h = to_z-of_z w128 z (fits_signed_from_abs w128 z h)

one_denom_of : (z : ℤ) (d : ℕ) → z ≡ pos d → d < 2 ^ 127 → of_z w128 z ≡ 1 → d ≡ 1
one_denom_of z d e h one =
    let back : pos d ≡ pos 1 = sym (read_back (pos d) h) ∙ ap (λ y. to_z w128 (of_z w128 y)) (sym e) ∙ ap (to_z w128) one in
    cc

step_number : (k z : ℤ) → k ≡ z → le_z (pos 0) k ≡ true → le_z k (pos 1000000) ≡ true → (z ≡ pos (unsigned_abs k)) × (unsigned_abs k ≤ greatest_count)
step_number (pos n) z e low high = (sym e, leb-true n 1000000 high)
step_number (negsuc n) z e low high = absurd (cc)

module _ (x : ℚ) (num den : ℤ) (num_is : num ≡ x.numer) (den_is : den ≡ pos x.denom) (fits : FitsFrac x) where
  num_back : to_z w128 (of_z w128 num) ≡ x.numer
  num_back = ap (λ z. to_z w128 (of_z w128 z)) num_is ∙ read_back x.numer fits.0

  pub step_count : of_z w128 den ≡ 1 → le_z (pos 0) (to_z w128 (of_z w128 num)) ≡ true → le_z (to_z w128 (of_z w128 num)) (pos 1000000) ≡ true → IsStepCount x (unsigned_abs (to_z w128 (of_z w128 num)))
  step_count one low high =
      let number = step_number (to_z w128 (of_z w128 num)) x.numer num_back low high in
      record { numer = number.0; denom = one_denom_of den x.denom den_is fits.1 one; small = number.1 }

  module _ (count : ℕ) (is : IsStepCount x count) where
    num_is_count : to_z w128 (of_z w128 num) ≡ pos count
    num_is_count = num_back ∙ is.numer

    pub one_denom : of_z w128 den ≡ 1
    one_denom = ap (of_z w128) (den_is ∙ ap pos is.denom)

    pub not_below : le_z (pos 0) (to_z w128 (of_z w128 num)) ≡ true
    not_below = ap (le_z (pos 0)) num_is_count ∙ le-leb 0 count (omega arith)

    pub not_above : le_z (to_z w128 (of_z w128 num)) (pos 1000000) ≡ true
    not_above = ap (λ z. le_z z (pos 1000000)) num_is_count ∙ le-leb count 1000000 is.small

-- ---- three numbers
pub three_of : {A : Type 0} (xs : List A) (a b c : A) → length xs ≡ 3 → a ≡ get_or xs 0 a → b ≡ get_or xs 1 b → c ≡ get_or xs 2 c → xs ≡ a ∷ b ∷ c ∷ []
three_of [] a b c n e f g = absurd (omega arith)
three_of (x ∷ []) a b c n e f g = absurd (omega arith)
three_of (x ∷ y ∷ []) a b c n e f g = absurd (omega arith)
three_of (x ∷ y ∷ z ∷ []) a b c n e f g = λ i. sym e i ∷ sym f i ∷ sym g i ∷ []
three_of (x ∷ y ∷ z ∷ w ∷ ws) a b c n e f g = absurd (omega arith)

-- ---- so many items, each by the same rule
module _ {X : Type 0} (rule : LineRule X) (count : ℕ) (here : Cursor) where
  abbrev pub HasRead : List X → Cursor → Type 0
  HasRead items behind = ReadsItems X (λ before. one_line rule) (λ (before : List X). ltb (length before) count) here items behind

  pub none_so_far : (items : List X) → items ≡ [] → HasRead items here
  none_so_far items e = subst (λ xs. HasRead xs here) (sym e) (none_read (λ before. one_line rule) (λ (before : List X). ltb (length before) count) here)

  pub one_further : (between behind : Cursor) (items more : List X) (x : X) (k : ℕ) → HasRead items between → length items ≡ k → k < count → (one_line rule).Reads between x behind → more ≡ items ++ x ∷ [] → HasRead more behind
  one_further between behind items more x k before size some reads e =
      more_read (λ xs. one_line rule) (λ (xs : List X). ltb (length xs) count) here between behind items more x before (asks_for_more items count (omega arith)) reads e

-- ---- a row's line
-- what is read of a line: fractions or none
abbrev pub IsReadAs : List ℕ → List ℕ → Option (List ℚ) → Type 0
IsReadAs name text found = MatchOption found ((xs : List ℚ) → ¬ AreFractions name text xs) (λ xs. AreFractions name text xs)

pub some_fractions : (name text : List ℕ) (found : Option (List ℚ)) (xs ys : List ℚ) → IsReadAs name text found → found ≡ Some xs → ys ≡ xs → AreFractions name text ys
some_fractions name text found xs ys h e f = subst (λ zs. AreFractions name text zs) (sym f) (subst (IsReadAs name text) e h)

pub no_fractions : (name text : List ℕ) (found : Option (List ℚ)) → IsReadAs name text found → found ≡ None → (xs : List ℚ) → ¬ AreFractions name text xs
no_fractions name text found h e = subst (IsReadAs name text) e h

pub row_spelled : (name : List ℕ) (states inputs : ℕ) (text : List ℕ) (row : PlantRow) → IsRow name states inputs text row → AreFractions name text (row.x ++ row.u ++ row.max ∷ [])
row_spelled name states inputs text row is = record { spelled = is.spelled; fits = is.fits }

module _ (one : OneFractions) (name : List ℕ) (states inputs : ℕ) (text : List ℕ) (numbers : List ℚ) where
  is_row : AreFractions name text numbers → (row : PlantRow) → StatesRow states inputs numbers row → IsRow name states inputs text row
  is_row are row stated = record { spelled = are.spelled ∙ ap (fractions_line name) stated.numbers_are; sizes = stated.sizes; fits = subst AllFit stated.numbers_are are.fits }

  no_row : AreFractions name text numbers → length numbers ≢ states + inputs + 1 → (row : PlantRow) → ¬ IsRow name states inputs text row
  no_row are other row is =
      let e : numbers ≡ row.x ++ row.u ++ row.max ∷ [] = one name numbers (row.x ++ row.u ++ row.max ∷ []) are.fits is.fits (sym are.spelled ∙ is.spelled) in
      other (ap length e ∙ length-append (row.x ++ row.u) (row.max ∷ []) ∙ ap (λ n. n + 1) (length-append row.x row.u) ∙ (λ i. is.sizes.x_size i + is.sizes.u_size i + 1))

  pub row_found : AreFractions name text numbers → (found : Option PlantRow) → MatchOption found (length numbers ≢ states + inputs + 1) (λ row. StatesRow states inputs numbers row) → MatchOption found ((row : PlantRow) → ¬ IsRow name states inputs text row) (λ row. IsRow name states inputs text row)
  row_found are None h = no_row are h
  row_found are (Some row) h = is_row are row h

-- ---- a coordinate's line
module _ (x : ℚ) (count : ℕ) (is : IsStepCount x count) where
  step_text : fraction_text x ≡ decimal count
  step_text = ap fraction_text (same_parts x (int (pos count)) (is.numer ∙ sym (whole_numer (pos count))) (is.denom ∙ sym (whole_denom (pos count)))) ∙ natural_text count

axis_line : (axis : Coordinate) → grid_line axis ≡ fractions_line (codes "grid") (axis.low ∷ axis.step ∷ int (pos axis.count) ∷ [])
axis_line axis = ap (λ word. line (codes "grid") (fraction_text axis.low ∷ fraction_text axis.step ∷ word ∷ [])) (sym (natural_text axis.count))

pub axis_spelled : (text : List ℕ) (axis : Coordinate) → IsAxis text axis → AreFractions (codes "grid") text (axis.low ∷ axis.step ∷ int (pos axis.count) ∷ [])
axis_spelled text axis is =
    let behind : AllFit (axis.step ∷ []) = All-tail FitsFrac axis.low (axis.step ∷ []) is.fits in
    let count_fits : AllFit (int (pos axis.count) ∷ []) = All-cons FitsFrac (int (pos axis.count)) [] (natural_fits axis.count (omega (arith, is.allowed.count_small))) (All-nil FitsFrac) in
    record {
      spelled = is.spelled ∙ axis_line axis;
      fits = All-cons FitsFrac axis.low (axis.step ∷ int (pos axis.count) ∷ []) (All-head FitsFrac axis.low (axis.step ∷ []) is.fits) (All-cons FitsFrac axis.step (int (pos axis.count) ∷ []) (All-head FitsFrac axis.step [] behind) count_fits);
    }

module _ (one : OneFractions) (text : List ℕ) (numbers : List ℚ) (are : AreFractions (codes "grid") text numbers) where
  is_axis : (axis : Coordinate) → StatesAxis numbers axis → IsAxis text axis
  is_axis axis states =
      let fits : AllFit (axis.low ∷ axis.step ∷ states.last ∷ []) = subst AllFit states.numbers_are are.fits in
      let behind : AllFit (axis.step ∷ states.last ∷ []) = All-tail FitsFrac axis.low (axis.step ∷ states.last ∷ []) fits in
      record {
        spelled =
            are.spelled ∙ ap (fractions_line (codes "grid")) states.numbers_are
            ∙ ap (λ word. line (codes "grid") (fraction_text axis.low ∷ fraction_text axis.step ∷ word ∷ [])) (step_text states.last axis.count states.count_is);
        allowed = states.allowed;
        fits = All-cons FitsFrac axis.low (axis.step ∷ []) (All-head FitsFrac axis.low (axis.step ∷ states.last ∷ []) fits) (All-cons FitsFrac axis.step [] (All-head FitsFrac axis.step (states.last ∷ []) behind) (All-nil FitsFrac));
      }

  states_axis : (axis : Coordinate) → IsAxis text axis → StatesAxis numbers axis
  states_axis axis is =
      let same : AreFractions (codes "grid") text (axis.low ∷ axis.step ∷ int (pos axis.count) ∷ []) = axis_spelled text axis is in
      record {
        last = int (pos axis.count);
        numbers_are = one (codes "grid") numbers (axis.low ∷ axis.step ∷ int (pos axis.count) ∷ []) are.fits same.fits (sym are.spelled ∙ same.spelled);
        count_is = record { numer = whole_numer (pos axis.count); denom = whole_denom (pos axis.count); small = is.allowed.count_small };
        allowed = is.allowed;
      }

  pub axis_found : (found : Option Coordinate) → MatchOption found ((axis : Coordinate) → ¬ StatesAxis numbers axis) (λ axis. StatesAxis numbers axis) → MatchOption found ((axis : Coordinate) → ¬ IsAxis text axis) (λ axis. IsAxis text axis)
  axis_found None h = λ axis is. h axis (states_axis axis is)
  axis_found (Some axis) h = is_axis axis h

-- ---- the rows, those of the end, and the grid
pub grid_fails : (version : Version) (s : Sizes) (here between beyond behind end : Cursor) (rows terminal : List PlantRow) (error : FileError) → (row_list version s).Reads here rows between → (last_list version s rows).Reads between terminal beyond
    → Outcome (so_many s.states (plain_rule IsAxis)) beyond behind (Err error) → Outcome (limits version s) here end (Err error)
grid_fails version s here between beyond behind end rows terminal (Bad kind number) first second h = inr (rows, (between, (first, inr (terminal, (beyond, (second, inl h))))))
grid_fails version s here between beyond behind end rows terminal NoMemory first second h = tt
