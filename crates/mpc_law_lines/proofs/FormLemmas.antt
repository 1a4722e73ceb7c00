-- Matrices filled row by row, and the numbers of a law's lines.
use Rattle.std.proofs.Common.{◌≡◌, ◌≢◌, ℕ, ◌+◌, ◌<◌, ◌≤◌, cond, List, [], ◌∷◌, ◌++◌, length, get_or, take, drop, map, refl, sym, ap, ◌∙◌, subst, arith, append_assoc, append-nil, inl, inr, pos, ℤ, to_z, of_z, set, nat_lt, replicate, unsigned_abs, ◌^◌, decimal, codes, Option, Some, None, MatchOption, Result, Ok, Err, IfOk, ltb}
use Rattle.std.specs.Prelude.{All}
use Rattle.std.specs.Result.{IsErrAnd}
use Rattle.std.specs.Fmt.{signed_decimal}
use Rattle.std.proofs.lemmas.List.Elements.{All-nil, All-cons, All-map, All-weaker}
use Rattle.std.proofs.lemmas.List.{take_more, take-append-drop, set-set, set-get_or, set_at, length-take-le, drop_more, take_all, drop_all, length-append, length-drop, get_or-set_same, get_or-map, map-append, take-map, length-map, length-replicate, length_push}
use Rattle.std.specs.Int.{w128}
use Rattle.std.proofs.lemmas.Int.{fits_signed_from_abs, to_z-of_z}
use Rattle.mpc_linear.specs.Whole.{AreSmall}
use Rattle.mpc_exact.specs.Rational.{ℚ, int}
use Rattle.mpc_space.specs.Matrix.{RationalMatrix}
use Rattle.mpc_linear.specs.Entries.{with_entry, zero_matrix}
use Rattle.mpc_sets.specs.SetTheorems.{MemberTheorems}
use Rattle.mpc_sets.specs.RowSet.{RisesWithin, Among, IsSetOfRows, with_row}
use Rattle.mpc_plant.specs.declared.plants.Plant.{Plant}
use Rattle.mpc_words.specs.Words.{line}
use Rattle.mpc_controller.specs.Parts.{row_count}
use Rattle.mpc_frac.specs.declared.NoMemory.{NoMemory}
use Rattle.mpc_grammar.specs.declared.errors.FileError.{FileError}
use Rattle.mpc_grammar.specs.declared.errors.FileError.TheVariants.{Bad, NoMemory as NoMoreMemory}
use Rattle.mpc_grammar.specs.Reading.{Cursor, Grammar, one_line, ReadsItems, many, Outcome}
use Rattle.mpc_grammar.specs.Outcomes.{all_items, just_so_many, none_read, more_read, asks_for_more, item_error}
use Rattle.mpc_grammar.specs.Lines.{integers_line}
use Rattle.mpc_grammar.specs.PlantGrammar.{plain_rule, AreNumbers}
use Rattle.mpc_grammar.specs.Spelling.{AreFractions, AreIntegers}
use Rattle.mpc_grammar.specs.LineTheorems.{OneFractions, OneIntegers}
use Rattle.mpc_grammar.specs.LawGrammar.{unknowns, IsLawLine, move_rule, moves, mults, written_law, NameForms, used_behind, AreFormNumbers}
use Rattle.mpc_law_lines.specs.FormLists.{matrix_with, with_filled_row, NamesAll}

-- ---- entries and rows written one after another
-- the first ones of one list and the others of another
abbrev pub mixed : {A : Type 0} → ℕ → List A → List A → List A
mixed j xs ys = take j xs ++ drop j ys

pub mixed_next : {A : Type 0} (xs ys : List A) (j : ℕ) (d : A) → length ys ≡ length xs → j < length xs → set (mixed j xs ys) j (get_or xs j d) ≡ mixed (j + 1) xs ys
mixed_next xs ys j d e h =
    ap (λ zs. set (take j xs ++ zs) j (get_or xs j d)) (drop_more ys j d (omega arith))
    ∙ set_at (take j xs) (get_or ys j d) (drop (j + 1) ys) (get_or xs j d) j (length-take-le j xs (omega arith))
    ∙ sym (append_assoc (take j xs) (get_or xs j d ∷ []) (drop (j + 1) ys))
    ∙ ap (λ zs. zs ++ drop (j + 1) ys) (sym (take_more xs j d h))

pub mixed_all : {A : Type 0} (xs ys : List A) (j : ℕ) → length ys ≡ length xs → length xs ≤ j → mixed j xs ys ≡ xs
mixed_all xs ys j e h = (λ i. take_all j xs h i ++ drop_all j ys (omega arith) i) ∙ append-nil xs

pub length-mixed : {A : Type 0} (xs ys : List A) (j : ℕ) → length ys ≡ length xs → j ≤ length xs → length (mixed j xs ys) ≡ length xs
length-mixed xs ys j e h = omega (arith, length-append (take j xs) (drop j ys), length-take-le j xs h, length-drop j ys)

-- ---- one row
module _ (m : RationalMatrix) (i : ℕ) (form : List ℚ) (inside : i < length m.rows) (size : length (get_or m.rows i []) ≡ length form) where
  pub row_start : m ≡ with_filled_row m i (mixed 0 form (get_or m.rows i []))
  row_start = ap (λ rows. matrix_with rows m.columns) (sym (set-get_or m.rows i []))

  pub row_next : (old new : RationalMatrix) (j : ℕ) (v : ℚ) → j < length form → old ≡ with_filled_row m i (mixed j form (get_or m.rows i [])) → v ≡ get_or form j (int (pos 0)) → new ≡ with_entry old i j v
      → new ≡ with_filled_row m i (mixed (j + 1) form (get_or m.rows i []))
  row_next old new j v within before value after =
      let d : ℚ = int (pos 0) in
      let row : List ℚ = get_or m.rows i [] in
      let x : ℚ = get_or form j d in
      let entry_set : set (get_or (set m.rows i (mixed j form row)) i []) j x ≡ mixed (j + 1) form row =
      ap (λ r. set r j x) (get_or-set_same m.rows i (mixed j form row) [] inside) ∙ mixed_next form row j d size within in
      let rows : set (set m.rows i (mixed j form row)) i (set (get_or (set m.rows i (mixed j form row)) i []) j x) ≡ set m.rows i (mixed (j + 1) form row) =
      ap (λ r. set (set m.rows i (mixed j form row)) i r) entry_set ∙ set-set m.rows i (mixed j form row) (mixed (j + 1) form row) in
      after ∙ (λ k. with_entry (before k) i j (value k)) ∙ ap (λ r. matrix_with r m.columns) rows

  pub row_done : (matrix : RationalMatrix) (j : ℕ) → length form ≤ j → matrix ≡ with_filled_row m i (mixed j form (get_or m.rows i [])) → matrix ≡ with_filled_row m i form
  row_done matrix j h before = before ∙ ap (with_filled_row m i) (mixed_all form (get_or m.rows i []) j size h)

-- ---- all rows
pub rows_next : (forms zeros : List (List ℚ)) (columns i : ℕ) (form : List ℚ) (old new : RationalMatrix) → length zeros ≡ length forms → i < length forms → old ≡ matrix_with (mixed i forms zeros) columns → form ≡ get_or forms i [] → new ≡ with_filled_row old i form
    → new ≡ matrix_with (mixed (i + 1) forms zeros) columns
rows_next forms zeros columns i form old new size inside before is after =
    after ∙ (λ k. with_filled_row (before k) i (is k)) ∙ ap (λ r. matrix_with r columns) (mixed_next forms zeros i [] size inside)

pub zeros_size : (n columns : ℕ) → length (zero_matrix n columns).rows ≡ n
zeros_size n columns = length-replicate n (replicate columns (int (pos 0)))

pub row_there : (forms : List (List ℚ)) (columns i : ℕ) (matrix : RationalMatrix) → i < length forms → matrix ≡ matrix_with (mixed i forms (zero_matrix (length forms) columns).rows) columns → i < length matrix.rows
row_there forms columns i matrix inside before =
    let e : length matrix.rows ≡ length forms = ap (λ m. length m.rows) before ∙ length-mixed forms (zero_matrix (length forms) columns).rows i (zeros_size (length forms) columns) (omega arith) in
    omega (arith, e, inside)

pub rows_done : (forms zeros : List (List ℚ)) (columns i : ℕ) (matrix : RationalMatrix) → length zeros ≡ length forms → length forms ≤ i → matrix ≡ matrix_with (mixed i forms zeros) columns → matrix ≡ matrix_with forms columns
rows_done forms zeros columns i matrix size h before = before ∙ ap (λ r. matrix_with r columns) (mixed_all forms zeros i size h)

-- ---- natural numbers among whole numbers
-- a number that fits 128 bits
pub plain : (numbers : List ℤ) (i : ℕ) → AreSmall numbers → i < length numbers → to_z w128 (of_z w128 (get_or numbers i (pos 0))) ≡ get_or numbers i (pos 0)
plain numbers i small inside = to_z-of_z w128 (get_or numbers i (pos 0)) (fits_signed_from_abs w128 (get_or numbers i (pos 0)) (small i (pos 0) inside))

one_pos : (m n : ℕ) → pos m ≡ pos n → m ≡ n
one_pos m n e = cc

pub one_list : (xs ys : List ℕ) → map pos xs ≡ map pos ys → xs ≡ ys
one_list [] [] e = refl
one_list [] (y ∷ ys) e = absurd (cc)
one_list (x ∷ xs) [] e = absurd (cc)
one_list (x ∷ xs) (y ∷ ys) e =
    let first : pos x ≡ pos y = cc in
    let others : map pos xs ≡ map pos ys = cc in
    λ i. one_pos x y first i ∷ one_list xs ys others i

-- what stands behind those that were read
module _ (numbers : List ℤ) (count : ℕ) (read all : List ℕ) (inside : count < length numbers) (so_far : map pos read ≡ take count numbers) (all_are : map pos all ≡ numbers) where
  count_inside : count < length all
  count_inside = let e : length (map pos all) ≡ length numbers = ap length all_are in omega (arith, e, length-map all pos)

  read_first : read ≡ take count all
  read_first = one_list read (take count all) (so_far ∙ ap (take count) (sym all_are) ∙ take-map pos count all)

  pub next_is : pos (get_or all count 0) ≡ get_or numbers count (pos 0)
  next_is = sym (get_or-map pos all count 0 (pos 0) count_inside) ∙ ap (λ xs. get_or xs count (pos 0)) all_are

  pub parts : all ≡ read ++ get_or all count 0 ∷ drop (count + 1) all
  parts = sym (take-append-drop count all) ∙ ap (λ xs. take count all ++ xs) (drop_more all count 0 count_inside) ∙ ap (λ xs. xs ++ get_or all count 0 ∷ drop (count + 1) all) (sym read_first)

pub read_next : (numbers : List ℤ) (count : ℕ) (read new : List ℕ) (k : ℕ) → count < length numbers → map pos read ≡ take count numbers → get_or numbers count (pos 0) ≡ pos k → new ≡ read ++ k ∷ [] → map pos new ≡ take (count + 1) numbers
read_next numbers count read new k inside so_far is pushed =
    ap (map pos) pushed ∙ map-append pos read (k ∷ []) ∙ (λ i. so_far i ++ sym is i ∷ []) ∙ sym (take_more numbers count (pos 0) inside)

pub read_done : (numbers : List ℤ) (count : ℕ) (read : List ℕ) → length numbers ≤ count → map pos read ≡ take count numbers → map pos read ≡ numbers
read_done numbers count read h so_far = so_far ∙ take_all count numbers h

-- ---- sets of rows
-- the last member, or `low` where there is none
abbrev pub last_from : ℕ → List ℕ → ℕ
last_from low [] = low
last_from low (i ∷ rest) = last_from i rest

pub last-push : (low : ℕ) (s : List ℕ) (k : ℕ) → last_from low (s ++ k ∷ []) ≡ k
last-push low [] k = refl
last-push low (i ∷ s) k = last-push i s k

rises-push : (low high : ℕ) (s : List ℕ) (k : ℕ) → RisesWithin low high s → last_from low s < k → k ≤ high → RisesWithin low high (s ++ k ∷ [])
rises-push low high [] k r h g = (h, g, tt)
rises-push low high (i ∷ s) k r h g = (r.0, r.1, rises-push i high s k r.2 h g)

rises-at : (low high : ℕ) (s : List ℕ) (k : ℕ) (rest : List ℕ) → RisesWithin low high (s ++ k ∷ rest) → (last_from low s < k) × (k ≤ high)
rises-at low high [] k rest r = (r.0, r.1)
rises-at low high (i ∷ s) k rest r = rises-at i high s k rest r.2

last-above : (low high : ℕ) (s : List ℕ) → RisesWithin low high s → low ≤ last_from low s
last-above low high [] r = omega arith
last-above low high (i ∷ s) r = omega (arith, r.0, last-above i high s r.2)

below_last : (low high i : ℕ) (s : List ℕ) → RisesWithin low high s → Among i s → i ≤ last_from low s
below_last low high i [] r h = absurd h
below_last low high i (j ∷ s) r (inl e) = omega (arith, e, last-above j high s r.2)
below_last low high i (j ∷ s) r (inr h) = below_last j high i s r.2 h

-- the set of the numbers so far
pub record IsSetSoFar (rows : ℕ) (numbers : List ℤ) (count : ℕ) (members : List ℕ) (last : ℕ) : Type 0 where
  pub rises : RisesWithin 0 rows members
  pub same : map pos members ≡ take count numbers
  pub last_is : last ≡ last_from 0 members
  pub within : last ≤ rows

pub no_members : (rows : ℕ) (numbers : List ℤ) → IsSetSoFar rows numbers 0 [] 0
no_members rows numbers = record { rises = tt; same = refl; last_is = refl; within = omega arith }

pub one_member_more : MemberTheorems → (rows : ℕ) (numbers : List ℤ) (count : ℕ) (members new : List ℕ) (last k : ℕ) → IsSetSoFar rows numbers count members last → count < length numbers → get_or numbers count (pos 0) ≡ pos k → last < k → k ≤ rows → new ≡ with_row k members
    → IsSetSoFar rows numbers (count + 1) new k
one_member_more laws rows numbers count members new last k before inside is above within added =
    let pushed : new ≡ members ++ k ∷ [] = added ∙ laws.greatest_last members k (λ i a. omega (arith, below_last 0 rows i members before.rises a, before.last_is)) in
    record {
      rises = subst (RisesWithin 0 rows) (sym pushed) (rises-push 0 rows members k before.rises (omega (arith, before.last_is)) within);
      same = read_next numbers count members new k inside before.same is pushed;
      last_is = sym (last-push 0 members k) ∙ ap (last_from 0) (sym pushed);
      within = within;
    }

-- a number that doesn't rise, or is none of a row
pub no_set : (rows : ℕ) (numbers : List ℤ) (count : ℕ) (members : List ℕ) (last : ℕ) → IsSetSoFar rows numbers count members last → count < length numbers → ((k : ℕ) → get_or numbers count (pos 0) ≡ pos k → last < k → k ≤ rows → ⊥)
    → (all : List ℕ) → IsSetOfRows rows all → map pos all ≢ numbers
no_set rows numbers count members last before inside none all is_set all_are =
    let at = rises-at 0 rows members (get_or all count 0) (drop (count + 1) all) (subst (RisesWithin 0 rows) (parts numbers count members all inside before.same all_are) is_set.rises) in
    none (get_or all count 0) (sym (next_is numbers count members all inside before.same all_are)) (omega (arith, at.0, before.last_is)) at.1

-- ---- numbers of forms
pub used-push : (used : ℕ) (numbers : List ℕ) (k : ℕ) → used_behind used (numbers ++ k ∷ []) ≡ cond (nat_lt (used_behind used numbers) k) k (used_behind used numbers)
used-push used [] k = refl
used-push used (i ∷ numbers) k = used-push (cond (nat_lt used i) i used) numbers k

names-push : (all used : ℕ) (numbers : List ℕ) (k : ℕ) → NameForms all used numbers → 1 ≤ k → k ≤ all → k ≤ used_behind used numbers + 1 → NameForms all used (numbers ++ k ∷ [])
names-push all used [] k h a b c = (a, b, c, tt)
names-push all used (i ∷ numbers) k h a b c = (h.0, h.1, h.2, names-push all (cond (nat_lt used i) i used) numbers k h.3 a b c)

names-at : (all used : ℕ) (numbers : List ℕ) (k : ℕ) (rest : List ℕ) → NameForms all used (numbers ++ k ∷ rest) → (1 ≤ k) × (k ≤ all) × (k ≤ used_behind used numbers + 1)
names-at all used [] k rest h = (h.0, h.1, h.2)
names-at all used (i ∷ numbers) k rest h = names-at all (cond (nat_lt used i) i used) numbers k rest h.3

-- the numbers so far name forms, and so many are used behind them
pub record NameSoFar (all used : ℕ) (integers : List ℤ) (count : ℕ) (numbers : List ℕ) (last : ℕ) : Type 0 where
  pub name : NameForms all used numbers
  pub same : map pos numbers ≡ take count integers
  pub last_is : last ≡ used_behind used numbers

pub no_numbers : (all used : ℕ) (integers : List ℤ) → NameSoFar all used integers 0 [] used
no_numbers all used integers = record { name = tt; same = refl; last_is = refl }

pub one_number_more : (all used : ℕ) (integers : List ℤ) (count : ℕ) (numbers new : List ℕ) (last k then_used : ℕ) → NameSoFar all used integers count numbers last → count < length integers → get_or integers count (pos 0) ≡ pos k → 1 ≤ k → k ≤ all → k ≤ last + 1 → new ≡ numbers ++ k ∷ []
    → then_used ≡ cond (nat_lt last k) k last → NameSoFar all used integers (count + 1) new then_used
one_number_more all used integers count numbers new last k then_used before inside is from_one to_all next pushed used_is =
    record {
      name = subst (NameForms all used) (sym pushed) (names-push all used numbers k before.name from_one to_all (omega (arith, before.last_is)));
      same = read_next integers count numbers new k inside before.same is pushed;
      last_is = used_is ∙ ap (λ u. cond (nat_lt u k) k u) before.last_is ∙ sym (used-push used numbers k) ∙ ap (used_behind used) (sym pushed);
    }

pub none_named : (all used : ℕ) (integers : List ℤ) (count : ℕ) (numbers : List ℕ) (last : ℕ) → NameSoFar all used integers count numbers last → count < length integers → ((k : ℕ) → get_or integers count (pos 0) ≡ pos k → 1 ≤ k → k ≤ all → k ≤ last + 1 → ⊥)
    → (others : List ℕ) → NameForms all used others → map pos others ≢ integers
none_named all used integers count numbers last before inside none others name others_are =
    let at = names-at all used numbers (get_or others count 0) (drop (count + 1) others) (subst (NameForms all used) (parts integers count numbers others inside before.same others_are) name) in
    none (get_or others count 0) (sym (next_is integers count numbers others inside before.same others_are)) at.0 at.1 (omega (arith, at.2, before.last_is))

-- ---- lines of numbers
-- the fractions of a line have another number
pub no_form : OneFractions → (name text : List ℕ) (n : ℕ) (xs : List ℚ) → AreFractions name text xs → length xs ≢ n + 1 → (form : List ℚ) → ¬ AreNumbers name (n + 1) text form
no_form one name text n xs are size form is = size (ap length (one name xs form are.fits is.fits (sym are.spelled ∙ is.spelled)) ∙ is.size)

printed_numbers : (numbers : List ℕ) → map decimal numbers ≡ map signed_decimal (map pos numbers)
printed_numbers [] = refl
printed_numbers (n ∷ numbers) = ap (λ words. decimal n ∷ words) (printed_numbers numbers)

printed_line : (name : List ℕ) (numbers : List ℕ) → line name (map decimal numbers) ≡ integers_line name (map pos numbers)
printed_line name numbers = ap (line name) (printed_numbers numbers)

pub at_none : {X : Type 0} (A : Type 0) (B : X → Type 0) (r : Option X) → r ≡ None → MatchOption r A B → A
at_none A B r e h = subst (λ y. MatchOption y A B) e h

small_numbers : (high : ℕ) (numbers : List ℕ) → high < 2 ^ 64 → All (λ k. k ≤ high) numbers → AreSmall (map pos numbers)
small_numbers high numbers h all = All-map (λ z. unsigned_abs z < 2 ^ 127) pos numbers (All-weaker (λ k. k ≤ high) (λ k. unsigned_abs (pos k) < 2 ^ 127) (λ k l. omega (arith, l, h)) numbers all)

-- a line of natural numbers that are small is one of whole numbers
pub are_integers : (name text : List ℕ) (high : ℕ) (numbers : List ℕ) → high < 2 ^ 64 → All (λ k. k ≤ high) numbers → text ≡ line name (map decimal numbers) → AreIntegers name text (map pos numbers)
are_integers name text high numbers h all e = record { spelled = e ∙ printed_line name numbers; small = small_numbers high numbers h all }

-- these are the ones that were read
pub same_integers : OneIntegers → (name text : List ℕ) (zs : List ℤ) (high : ℕ) (numbers : List ℕ) → AreIntegers name text zs → high < 2 ^ 64 → All (λ k. k ≤ high) numbers → text ≡ line name (map decimal numbers) → map pos numbers ≡ zs
same_integers one name text zs high numbers are h all e =
    let other : AreIntegers name text (map pos numbers) = are_integers name text high numbers h all e in
    one name (map pos numbers) zs other.small are.small (sym other.spelled ∙ are.spelled)

pub printed_as : (name text : List ℕ) (zs : List ℤ) (numbers : List ℕ) → AreIntegers name text zs → map pos numbers ≡ zs → text ≡ line name (map decimal numbers)
printed_as name text zs numbers are e = are.spelled ∙ ap (integers_line name) (sym e) ∙ sym (printed_line name numbers)

rises_high : (low high : ℕ) (s : List ℕ) → RisesWithin low high s → All (λ k. k ≤ high) s
rises_high low high [] r = All-nil (λ k. k ≤ high)
rises_high low high (i ∷ s) r = All-cons (λ k. k ≤ high) i s r.1 (rises_high i high s r.2)

named_high : (all used : ℕ) (numbers : List ℕ) → NameForms all used numbers → All (λ k. k ≤ all) numbers
named_high all used [] h = All-nil (λ k. k ≤ all)
named_high all used (k ∷ numbers) h = All-cons (λ k. k ≤ all) k numbers h.1 (named_high all (cond (nat_lt used k) k used) numbers h.3)

pub named_all : (all used : ℕ) (numbers : List ℕ) → NameForms all used numbers → NamesAll all numbers
named_all all used [] h = All-nil (λ k. (1 ≤ k) × (k ≤ all))
named_all all used (k ∷ numbers) h = All-cons (λ k. (1 ≤ k) × (k ≤ all)) k numbers (h.0, h.1) (named_all all (cond (nat_lt used k) k used) numbers h.3)

-- ---- a law's set
module _ (one : OneIntegers) (plant : Plant) (text : List ℕ) (few : row_count plant ≤ 60) where
  pub no_law_integers : ((zs : List ℤ) → ¬ AreIntegers (codes "law") text zs) → (members : List ℕ) → ¬ IsLawLine plant text members
  no_law_integers none members is =
      none (map pos members) (are_integers (codes "law") text (row_count plant) members (omega (arith, few)) (rises_high 0 (row_count plant) members is.set_of_rows.rises) is.spelled)

  law_numbers : (zs : List ℤ) (members : List ℕ) → AreIntegers (codes "law") text zs → IsLawLine plant text members → map pos members ≡ zs
  law_numbers zs members are is =
      same_integers one (codes "law") text zs (row_count plant) members are (omega (arith, few)) (rises_high 0 (row_count plant) members is.set_of_rows.rises) is.spelled

  pub law_too_long : (zs : List ℤ) → AreIntegers (codes "law") text zs → unknowns plant < length zs → (members : List ℕ) → ¬ IsLawLine plant text members
  law_too_long zs are long members is = let e : length (map pos members) ≡ length zs = ap length (law_numbers zs members are is) in omega (arith, e, length-map members pos, is.few, long)

  law_read_of : (zs : List ℤ) (found : Option (List ℕ)) → AreIntegers (codes "law") text zs → length zs ≤ unknowns plant
      → MatchOption found ((s : List ℕ) → IsSetOfRows (row_count plant) s → map pos s ≢ zs) (λ s. IsSetOfRows (row_count plant) s × (map pos s ≡ zs))
      → MatchOption found ((s : List ℕ) → ¬ IsLawLine plant text s) (λ s. IsLawLine plant text s)
  law_read_of zs None are short none = λ s is. none s is.set_of_rows (law_numbers zs s are is)
  law_read_of zs (Some s) are short h =
      let e : length (map pos s) ≡ length zs = ap length h.1 in
      record { spelled = printed_as (codes "law") text zs s are h.1; set_of_rows = h.0; few = omega (arith, e, length-map s pos, short) }

  pub law_read : (zs slice : List ℤ) (rows : ℕ) (found : Option (List ℕ)) → AreIntegers (codes "law") text zs → length zs ≤ unknowns plant → rows ≡ row_count plant → slice ≡ zs
      → MatchOption found ((s : List ℕ) → IsSetOfRows rows s → map pos s ≢ slice) (λ s. IsSetOfRows rows s × (map pos s ≡ slice))
      → MatchOption found ((s : List ℕ) → ¬ IsLawLine plant text s) (λ s. IsLawLine plant text s)
  law_read zs slice rows found are short e f h =
      let Found : ℕ → List ℤ → Type 0 = λ r z. MatchOption found ((s : List ℕ) → IsSetOfRows r s → map pos s ≢ z) (λ s. IsSetOfRows r s × (map pos s ≡ z)) in
      law_read_of zs found are short (subst (λ r. Found r zs) e (subst (Found rows) f h))

-- ---- numbers of forms on a line
module _ (one : OneIntegers) (name text : List ℕ) (all used count : ℕ) (few : all < 2 ^ 64) where
  pub no_form_integers : ((zs : List ℤ) → ¬ AreIntegers name text zs) → (numbers : List ℕ) → ¬ AreFormNumbers name all used count text numbers
  no_form_integers none numbers is = none (map pos numbers) (are_integers name text all numbers few (named_high all used numbers is.name_forms) is.spelled)

  form_numbers : (zs : List ℤ) (numbers : List ℕ) → AreIntegers name text zs → AreFormNumbers name all used count text numbers → map pos numbers ≡ zs
  form_numbers zs numbers are is = same_integers one name text zs all numbers are few (named_high all used numbers is.name_forms) is.spelled

  pub wrong_count : (zs : List ℤ) → AreIntegers name text zs → length zs ≢ count → (numbers : List ℕ) → ¬ AreFormNumbers name all used count text numbers
  wrong_count zs are size numbers is = size (sym (ap length (form_numbers zs numbers are is)) ∙ length-map numbers pos ∙ is.size)

  numbers_read_of : (zs : List ℤ) (found : Option (List ℕ)) → AreIntegers name text zs → length zs ≡ count
      → MatchOption found ((s : List ℕ) → NameForms all used s → map pos s ≢ zs) (λ s. NameForms all used s × (map pos s ≡ zs))
      → MatchOption found ((s : List ℕ) → ¬ AreFormNumbers name all used count text s) (λ s. AreFormNumbers name all used count text s)
  numbers_read_of zs None are size none = λ s is. none s is.name_forms (form_numbers zs s are is)
  numbers_read_of zs (Some s) are size h =
      record { spelled = printed_as name text zs s are h.1; size = sym (length-map s pos) ∙ ap length h.1 ∙ size; name_forms = h.0 }

  pub numbers_read : (zs slice : List ℤ) (r : Result (Option (List ℕ)) NoMemory) → AreIntegers name text zs → length zs ≡ count → slice ≡ zs
      → IfOk r (λ found. MatchOption found ((s : List ℕ) → NameForms all used s → map pos s ≢ slice) (λ s. NameForms all used s × (map pos s ≡ slice)))
      → IfOk r (λ found. MatchOption found ((s : List ℕ) → ¬ AreFormNumbers name all used count text s) (λ s. AreFormNumbers name all used count text s))
  numbers_read zs slice (Err e) are size f h = tt
  numbers_read zs slice (Ok found) are size f h = numbers_read_of zs found are size (subst (λ z. MatchOption found ((s : List ℕ) → NameForms all used s → map pos s ≢ z) (λ s. NameForms all used s × (map pos s ≡ z))) f h)

-- ---- how many forms are used
pub used_next : (used : ℕ) (numbers : List ℕ) (i last k then_used : ℕ) → i < length numbers → last ≡ used_behind used (take i numbers) → k ≡ get_or numbers i 0 → then_used ≡ cond (nat_lt last k) k last → then_used ≡ used_behind used (take (i + 1) numbers)
used_next used numbers i last k then_used inside before is used_is =
    used_is ∙ (λ j. cond (nat_lt (before j) (is j)) (is j) (before j)) ∙ sym (used-push used (take i numbers) (get_or numbers i 0)) ∙ ap (used_behind used) (sym (take_more numbers i 0 inside))

pub used_done : (used : ℕ) (numbers : List ℕ) (i last : ℕ) → length numbers ≤ i → last ≡ used_behind used (take i numbers) → last ≡ used_behind used numbers
used_done used numbers i last h before = before ∙ ap (used_behind used) (take_all i numbers h)

-- ---- items that are counted
module _ {X : Type 0} (item : List X → Grammar X) (count : ℕ) (here : Cursor) where
  pub no_items : (items : List X) → items ≡ [] → ReadsItems X item (λ (before : List X). ltb (length before) count) here items here
  no_items items e = subst (λ xs. ReadsItems X item (λ (before : List X). ltb (length before) count) here xs here) (sym e) (none_read item (λ (before : List X). ltb (length before) count) here)

  pub further : (between behind : Cursor) (items more : List X) (x : X) (k : ℕ) → ReadsItems X item (λ (before : List X). ltb (length before) count) here items between → length items ≡ k → k < count → (item items).Reads between x behind → more ≡ items ++ x ∷ []
      → ReadsItems X item (λ (before : List X). ltb (length before) count) here more behind
  further between behind items more x k before size some reads e =
      more_read item (λ (before : List X). ltb (length before) count) here between behind items more x before (asks_for_more items count (omega arith)) reads e

  pub further_error : (between behind end : Cursor) (items : List X) (k : ℕ) (error : FileError) → ReadsItems X item (λ (before : List X). ltb (length before) count) here items between → length items ≡ k → k < count → Outcome (item items) between behind (Err error)
      → Outcome (many item (λ (before : List X). ltb (length before) count)) here end (Err error)
  further_error between behind end items k error before size some h = item_error item (λ (before : List X). ltb (length before) count) here between behind end items error before (asks_for_more items count (omega arith)) h

pub one_longer : {X : Type 0} (items more : List X) (x : X) (k : ℕ) → more ≡ items ++ x ∷ [] → length items ≡ k → length more ≡ k + 1
one_longer items more x k e size = ap length e ∙ length_push items x ∙ ap (λ n. n + 1) size

-- an error that is passed on
pub passed_on : {X : Type 0} (grammar : Grammar X) (here end : Cursor) (r : Result X FileError) (error : FileError) → IsErrAnd r (λ e. e ≡ error) → Outcome grammar here end (Err error) → Outcome grammar here end r
passed_on grammar here end (Ok x) error e h = absurd e
passed_on grammar here end (Err told) error e h = subst (λ x. Outcome grammar here end (Err x)) (sym e) h

-- ---- a law whose forms are written out
module _ (plant : Plant) where
  pub move_sizes : (here : Cursor) (zs : List (List ℚ)) (behind : Cursor) → (moves plant).Reads here zs behind → All (λ form. length form ≡ plant.n + 1) zs
  move_sizes here zs behind h =
      all_items (List ℚ) (λ before. one_line (move_rule plant (length before))) (λ before. nat_lt (length before) (unknowns plant)) (λ form. length form ≡ plant.n + 1) (λ before b x c more reads. reads.1.1.0.size) here zs behind h.0

  pub mult_sizes : (members : ℕ) (here : Cursor) (ls : List (List ℚ)) (behind : Cursor) → (mults plant members).Reads here ls behind → All (λ form. length form ≡ plant.n + 1) ls
  mult_sizes members here ls behind h =
      all_items (List ℚ) (λ before. one_line (plain_rule (AreNumbers (codes "mult") (plant.n + 1)))) (λ before. nat_lt (length before) members) (λ form. length form ≡ plant.n + 1) (λ before b x c more reads. reads.1.1.0.size) here ls behind h.0

  pub moves_few : (here behind : Cursor) (zs : List (List ℚ)) → (moves plant).Reads here zs behind → length zs < 2 ^ 32
  moves_few here behind zs h =
      let e : length zs ≡ unknowns plant = just_so_many (List ℚ) (λ before. one_line (move_rule plant (length before))) (unknowns plant) here zs behind h in
      omega (arith, e, plant.is_plant.moves_few)

  pub mults_few : (members : ℕ) (here behind : Cursor) (ls : List (List ℚ)) → members ≤ 60 → (mults plant members).Reads here ls behind → length ls < 2 ^ 32
  mults_few members here behind ls few h =
      let e : length ls ≡ members = just_so_many (List ℚ) (λ before. one_line (plain_rule (AreNumbers (codes "mult") (plant.n + 1)))) members here ls behind h in
      omega (arith, e, few)

  pub mults_error : (here between beyond behind end : Cursor) (members : List ℕ) (zs : List (List ℚ)) (error : FileError) → (one_line (plain_rule (IsLawLine plant))).Reads here members between → (moves plant).Reads between zs beyond → Outcome (mults plant (length members)) beyond behind (Err error)
      → Outcome (written_law plant) here end (Err error)
  mults_error here between beyond behind end members zs (Bad kind number) first second h = inr (members, (between, (first, inr (zs, (beyond, (second, inl h))))))
  mults_error here between beyond behind end members zs NoMoreMemory first second h = tt
