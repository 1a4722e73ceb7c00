-- When the numbers, lists and matrices of a plant file are read.
use Rattle.std.proofs.Common.{◌≡◌, ◌==◌, ℕ, ◌≤◌, ℤ, List, [], length, replicate, All, Bool, true, false, ◌&&◌, nat_le, true≢false, Option, Some, None, option_map, Ok, refl, sym, ◌∙◌, ap, subst, arith, pos}
use Rattle.std.specs.Prelude.{MatchOption, ⊤}
use Rattle.std.proofs.lemmas.Bool.Decides.{Decides-eqb, nat_tests}
use Rattle.serde_json.specs.Data.{Data, null, boolean, number, string, array, object, Items, no_items}
use Rattle.serde_json.specs.Events.{items_len}
use Rattle.mpc_exact.specs.Rational.{ℚ, int}
use Rattle.mpc_plant.specs.declared.faults.PlantKind.TheVariants.{WrongKind, BadNumber, WrongShape, OverLimit}
use Rattle.mpc_plant.specs.Faults.{◌>>=◌, ensure, each}
use Rattle.mpc_plant.specs.Numbers.{integer_of}
use Rattle.mpc_plant.specs.Decimals.{text_number}
use Rattle.mpc_plant.specs.CheckedEntries.{found, number_of, whole_number_of, list_of, list_of_length, list_between, is_from_to, vector_of, rows_of}
use Rattle.mpc_plant.specs.CheckedRows.{vector_or_zeros}
use Rattle.mpc_plant.specs.CheckedPlant.{square_of, width_of, first_width, side_of, list_or_none}
use Rattle.mpc_theorem.specs.PlantFile.{IsInteger, IsNumber, whole, spelled, AreItems, no_more, one_more, IsList, IsVector, IsMatrix}
use Rattle.mpc_theorem.proofs.PlantNumbers.{spelled_read, spelled_ok}
use Rattle.mpc_theorem.proofs.PlantChecks.{ok_is, both_ok, then_ok, inner_ok, outer_ok, test_ok, found_some, list_array, array_list, each_read, each_ok, items_are, items_length}

-- ---- numbers
integer_found : (o : Option ℤ) (x : ℚ) → found BadNumber (option_map int o) ≡ Ok x → (z : ℤ) × (o ≡ Some z) × (x ≡ int z)
integer_found None x e = absurd cc
integer_found (Some z) x e = (z, refl, sym (ok_is (int z) x e))

pub number_read : (x : ℚ) (d : Data) → number_of d ≡ Ok x → IsNumber x d
number_read x null e = absurd cc
number_read x (boolean b) e = absurd cc
number_read x (number n) e = let is = integer_found (integer_of (number n)) x e in whole is.0 is.1 is.2
number_read x (string text) e = spelled text refl (spelled_read text x (found_some BadNumber (text_number text) x e))
number_read x (array ds) e = absurd cc
number_read x (object ms) e = absurd cc

integer_number : (d : Data) (z : ℤ) → integer_of d ≡ Some z → number_of d ≡ Ok (int z)
integer_number null z e = absurd cc
integer_number (boolean b) z e = absurd cc
integer_number (number n) z e = ap (λ o. found BadNumber (option_map int o)) e
integer_number (string text) z e = absurd cc
integer_number (array ds) z e = absurd cc
integer_number (object ms) z e = absurd cc

pub number_ok : (x : ℚ) (d : Data) → IsNumber x d → number_of d ≡ Ok x
number_ok x d (whole z e is) = integer_number d z e ∙ ap Ok (sym is)
number_ok x d (spelled text is e) = ap number_of is ∙ ap (found BadNumber) (spelled_ok x text e)

pub integer_read : (z : ℤ) (d : Data) → whole_number_of d ≡ Ok z → IsInteger z d
integer_read z d e = found_some WrongKind (integer_of d) z e

pub integer_ok : (z : ℤ) (d : Data) → IsInteger z d → whole_number_of d ≡ Ok z
integer_ok z d e = ap (found WrongKind) e

-- ---- lists of a length
pub sized_read : (size : ℕ) (d : Data) (items : Items) → list_of_length size d ≡ Ok items → (d ≡ array items) × (items_len items ≡ size)
sized_read size d items e =
    let one = both_ok (list_of d) (λ ds. ensure (items_len ds == size) WrongShape >>= λ _. Ok ds) items e in
    let two = both_ok (ensure (items_len one.0 == size) WrongShape) (λ _. Ok one.0) items one.2 in
    let same : one.0 ≡ items = ok_is one.0 items two.2 in
    (list_array d one.0 one.1 ∙ ap array same, sym (ap items_len same) ∙ (Decides-eqb (items_len one.0) size).0 (test_ok (items_len one.0 == size) WrongShape two.0 two.1))

pub sized_ok : (size : ℕ) (d : Data) (items : Items) → d ≡ array items → items_len items ≡ size → list_of_length size d ≡ Ok items
sized_ok size d items e n =
    then_ok (list_of d) (λ ds. ensure (items_len ds == size) WrongShape >>= λ _. Ok ds) items (Ok items) (array_list d items e)
    (ap (λ b. ensure b WrongShape >>= λ _. Ok items) ((Decides-eqb (items_len items) size).1 n))

pub between_test : (low high k : ℕ) → low ≤ k → k ≤ high → is_from_to low high k ≡ true
between_test low high k h l = and_true (nat_le low k) (nat_le k high) (grind (arith, nat_tests)) (grind (arith, nat_tests))
  where
    and_true : (a b : Bool) → a ≡ true → b ≡ true → (a && b) ≡ true
    and_true true b e h = h
    and_true false b e h = absurd (true≢false (sym e))

pub between_read : (low high : ℕ) (d : Data) (items : Items) → list_between low high d ≡ Ok items → d ≡ array items
between_read low high d items e =
    let one = both_ok (list_of d) (λ ds. ensure (is_from_to low high (items_len ds)) OverLimit >>= λ _. Ok ds) items e in
    let two = both_ok (ensure (is_from_to low high (items_len one.0)) OverLimit) (λ _. Ok one.0) items one.2 in
    list_array d one.0 one.1 ∙ ap array (ok_is one.0 items two.2)

pub between_ok : (low high : ℕ) (d : Data) (items : Items) → d ≡ array items → low ≤ items_len items → items_len items ≤ high → list_between low high d ≡ Ok items
between_ok low high d items e h l =
    then_ok (list_of d) (λ ds. ensure (is_from_to low high (items_len ds)) OverLimit >>= λ _. Ok ds) items (Ok items) (array_list d items e)
    (ap (λ b. ensure b OverLimit >>= λ _. Ok items) (between_test low high (items_len items) h l))

-- ---- vectors
pub any : {A : Type 0} (xs : List A) → All (λ _. ⊤) xs
any xs k d h = tt

pub vector_read : (size : ℕ) (xs : List ℚ) (d : Data) → vector_of size d ≡ Ok xs → IsVector xs d
vector_read size xs d e =
    let one = both_ok (list_of_length size d) (λ items. each number_of 0 items) xs e in
    record { items = one.0; list = (sized_read size d one.0 one.1).0; are = items_are _ IsNumber (λ _. ⊤) xs one.0 (λ x v _ is. number_read x v is) (any xs) (each_read number_of 0 one.0 xs one.2) }

pub vector_ok : (size : ℕ) (xs : List ℚ) (d : Data) → length xs ≡ size → IsVector xs d → vector_of size d ≡ Ok xs
vector_ok size xs d n v =
    then_ok (list_of_length size d) (λ items. each number_of 0 items) v.items (Ok xs) (sized_ok size d v.items v.list (items_length IsNumber xs v.items v.are ∙ n))
    (each_ok number_of 0 xs v.items (items_are IsNumber (λ x d. number_of d ≡ Ok x) (λ _. ⊤) xs v.items (λ x d _ is. number_ok x d is) (any xs) v.are))

pub zeros_read : (key : List ℕ) (size : ℕ) (xs : List ℚ) (o : Option Data) → vector_or_zeros key size o ≡ Ok xs → MatchOption o (xs ≡ replicate size (int (pos 0))) (IsVector xs)
zeros_read key size xs None e = sym (ok_is _ xs e)
zeros_read key size xs (Some d) e = vector_read size xs d (inner_ok key (vector_of size d) xs e)

pub zeros_ok : (key : List ℕ) (size : ℕ) (xs : List ℚ) (o : Option Data) → length xs ≡ size → MatchOption o (xs ≡ replicate size (int (pos 0))) (IsVector xs) → vector_or_zeros key size o ≡ Ok xs
zeros_ok key size xs None n e = ap Ok (sym e)
zeros_ok key size xs (Some d) n v = outer_ok key (vector_of size d) xs (vector_ok size xs d n v)

-- ---- matrices
pub rows_read : (columns : ℕ) (rows : List (List ℚ)) (items : Items) → rows_of columns items ≡ Ok rows → AreItems IsVector rows items
rows_read columns rows items e = items_are _ IsVector (λ _. ⊤) rows items (λ x d _ is. vector_read columns x d is) (any rows) (each_read (vector_of columns) 0 items rows e)

pub rows_ok : (columns : ℕ) (rows : List (List ℚ)) (items : Items) → All (λ row. length row ≡ columns) rows → AreItems IsVector rows items → rows_of columns items ≡ Ok rows
rows_ok columns rows items all are = each_ok (vector_of columns) 0 rows items (items_are IsVector (λ x d. vector_of columns d ≡ Ok x) (λ row. length row ≡ columns) rows items (λ x d n is. vector_ok columns x d n is) all are)

pub square_read : (rows : List (List ℚ)) (d : Data) → square_of d ≡ Ok rows → IsMatrix rows d
square_read rows d e =
    let one = both_ok (list_between 1 4 d) (λ items. rows_of (items_len items) items) rows e in
    record { items = one.0; list = between_read 1 4 d one.0 one.1; are = rows_read (items_len one.0) rows one.0 one.2 }

pub square_ok : (rows : List (List ℚ)) (d : Data) → 1 ≤ length rows → length rows ≤ 4 → All (λ row. length row ≡ length rows) rows → IsMatrix rows d → square_of d ≡ Ok rows
square_ok rows d h l all m =
    let n : items_len m.items ≡ length rows = items_length IsVector rows m.items m.are in
    then_ok (list_between 1 4 d) (λ items. rows_of (items_len items) items) m.items (Ok rows) (between_ok 1 4 d m.items m.list (omega (arith, n, h)) (omega (arith, n, l)))
    (ap (λ k. rows_of k m.items) n ∙ rows_ok (length rows) rows m.items all m.are)

pub side_read : (size : ℕ) (rows : List (List ℚ)) (d : Data) → side_of size d ≡ Ok rows → IsMatrix rows d
side_read size rows d e =
    let one = both_ok (list_of_length size d) (λ items. first_width items >>= λ columns. rows_of columns items) rows e in
    let two = both_ok (first_width one.0) (λ columns. rows_of columns one.0) rows one.2 in
    record { items = one.0; list = (sized_read size d one.0 one.1).0; are = rows_read two.0 rows one.0 two.2 }

width_ok : (xs : List ℚ) (d : Data) (p : ℕ) → length xs ≡ p → 1 ≤ p → p ≤ 3 → IsVector xs d → width_of d ≡ Ok p
width_ok xs d p n h l v =
    let len : items_len v.items ≡ p = items_length IsNumber xs v.items v.are ∙ n in
    then_ok (list_between 1 3 d) (λ entries. Ok (items_len entries)) v.items (Ok p) (between_ok 1 3 d v.items v.list (omega (arith, len, h)) (omega (arith, len, l))) (ap Ok len)

first_ok : (p : ℕ) (rows : List (List ℚ)) (items : Items) → 1 ≤ p → p ≤ 3 → 1 ≤ length rows → All (λ row. length row ≡ p) rows → AreItems IsVector rows items → first_width items ≡ Ok p
first_ok p _ _ h l some all no_more = absurd (omega (arith, some))
first_ok p _ _ h l some all (one_more x d xs ds is rest) = outer_ok _ (width_of d) p (width_ok x d p (all 0 x (omega arith)) h l is)

pub side_ok : (size p : ℕ) (rows : List (List ℚ)) (d : Data) → 1 ≤ size → 1 ≤ p → p ≤ 3 → length rows ≡ size → All (λ row. length row ≡ p) rows → IsMatrix rows d → side_of size d ≡ Ok rows
side_ok size p rows d some h l n all m =
    then_ok (list_of_length size d) (λ items. first_width items >>= λ columns. rows_of columns items) m.items (Ok rows) (sized_ok size d m.items m.list (items_length IsVector rows m.items m.are ∙ n))
    (then_ok (first_width m.items) (λ columns. rows_of columns m.items) p (Ok rows) (first_ok p rows m.items h l (omega (arith, n, some)) all m.are) (rows_ok p rows m.items all m.are))

-- ---- lists that may be absent
none_of : {A : Type 0} (Is : A → Data → Type 0) (xs : List A) (items : Items) → AreItems Is xs items → items_len items ≡ 0 → xs ≡ []
none_of Is _ _ no_more n = refl
none_of Is _ _ (one_more x d xs ds is rest) n = absurd (omega (arith, n))

pub listed : {A : Type 0} (Is : A → Data → Type 0) (key : List ℕ) (xs : List A) (items : Items) (o : Option Data) → list_or_none key o ≡ Ok items → AreItems Is xs items → MatchOption o (xs ≡ []) (IsList Is xs)
listed Is key xs items None e are = none_of Is xs items are (sym (ap items_len (ok_is no_items items e)))
listed Is key xs items (Some d) e are = record { items = items; list = list_array d items (inner_ok key (list_of d) items e); are = are }

pub unlisted : {A : Type 0} (Is : A → Data → Type 0) (key : List ℕ) (xs : List A) (o : Option Data) → MatchOption o (xs ≡ []) (IsList Is xs) → (items : Items) × (list_or_none key o ≡ Ok items) × AreItems Is xs items
unlisted Is key xs None e = (no_items, refl, subst (λ l. AreItems Is l no_items) (sym e) no_more)
unlisted Is key xs (Some d) l = (l.items, outer_ok key (list_of d) l.items (array_list d l.items l.list), l.are)
