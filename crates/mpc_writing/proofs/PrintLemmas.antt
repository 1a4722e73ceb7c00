-- Lines that are read as they were meant: one line, parts one behind another, and items one behind another.
use Rattle.std.proofs.Common.{◌≡◌, ℕ, ◌+◌, ◌<◌, Bool, false, nat_lt, List, [], ◌∷◌, ◌++◌, length, refl, sym, ◌∙◌, ap, subst, append_assoc, arith, length-append}
use Rattle.std.specs.Prelude.{IsTrue, All}
use Rattle.std.specs.List.{flat_map}
use Rattle.std.proofs.lemmas.List.{append-nil}
use Rattle.std.proofs.lemmas.List.Elements.{All-head, All-tail}
use Rattle.std.proofs.lemmas.Bool.{lt-ltb, le-ltb}
use Rattle.mpc_words.specs.Words.{IsWithout}
use Rattle.mpc_grammar.specs.Reading.{Cursor, LineRule, Grammar, one_line, give, that_which, ◌>>=◌, many, ReadsItems}
use Rattle.mpc_grammar.specs.Reading.ReadsItems.{no_item, one_more}
use Rattle.mpc_grammar.specs.PlantGrammar.{so_many, plain_rule}
use Rattle.mpc_writing.specs.Writing.{Prints, ended}

-- ---- one line
pub prints_line : {X : Type 0} (rule : LineRule X) (x : X) (text : List ℕ) → IsWithout 10 text → rule.States text x → ¬ rule.IsOver x → Prints (one_line rule) x (ended text)
prints_line rule x text without states within =
    record {
      reads = λ more number. (number + 1, (text, (record { cut = record { first = without; joined = append_assoc text (10 ∷ []) more }; next = refl }, (states, within))));
    }

pub prints_plain : {X : Type 0} (states : List ℕ → X → Type 0) (x : X) (text : List ℕ) → IsWithout 10 text → states text x → Prints (one_line (plain_rule states)) x (ended text)
prints_plain states x text without is = prints_line (plain_rule states) x text without is (λ never. never)

-- ---- no line
pub prints_give : {X : Type 0} (x : X) → Prints (give x) x []
prints_give x = record { reads = λ more number. (number, (refl, refl)) }

pub prints_that : {X : Type 0} (IsIt : X → Type 0) (x : X) → IsIt x → Prints (that_which IsIt) x []
prints_that IsIt x is = record { reads = λ more number. (number, (is, refl)) }

-- ---- parts one behind another
pub prints_both : {X Y : Type 0} (first : Grammar X) (second : X → Grammar Y) (x : X) (y : Y) (s t : List ℕ) → Prints first x s → Prints (second x) y t → Prints (first >>= second) y (s ++ t)
prints_both first second x y s t one two =
    record {
      reads = λ more number.
          let (between, reads_one) = one.reads (t ++ more) number in
          let (after, reads_two) = two.reads more between in
          (after, (x, (record { rest = t ++ more; number = between }, (subst (λ text. first.Reads (record { rest = text; number = number }) x (record { rest = t ++ more; number = between })) (sym (append_assoc s t more)) reads_one, reads_two))));
    }

-- the last part has no line
pub prints_end : {X Y : Type 0} (first : Grammar X) (second : X → Grammar Y) (x : X) (y : Y) (s : List ℕ) → Prints first x s → Prints (second x) y [] → Prints (first >>= second) y s
prints_end first second x y s one two = subst (Prints (first >>= second) y) (append-nil s) (prints_both first second x y s [] one two)

pub prints_as : {X : Type 0} (grammar : Grammar X) (x : X) (s t : List ℕ) → t ≡ s → Prints grammar x s → Prints grammar x t
prints_as grammar x s t same prints = subst (Prints grammar x) (sym same) prints

-- ---- items one behind another
-- the items of a list, each of which is asked for and prints its text behind those before it
abbrev PrintsEach : {X : Type 0} → (List X → Grammar X) → (List X → Bool) → (X → List ℕ) → List X → Type 0
PrintsEach {X} item asks_more text xs = (before : List X) (x : X) (after : List X) → xs ≡ before ++ x ∷ after → IsTrue (asks_more before) × Prints (item before) x (text x)

items_on : {X : Type 0} (item : List X → Grammar X) (asks_more : List X → Bool) (text : X → List ℕ) (xs before after : List X) (here : Cursor) (more : List ℕ) (number : ℕ)
    → PrintsEach item asks_more text xs → xs ≡ before ++ after → ReadsItems X item asks_more here before (record { rest = flat_map text after ++ more; number = number })
    → (last : ℕ) × ReadsItems X item asks_more here xs (record { rest = more; number = last })
items_on {X} item asks_more text xs before [] here more number each whole read =
    (number, subst (λ ys. ReadsItems X item asks_more here ys (record { rest = more; number = number })) (sym (append-nil before) ∙ sym whole) read)
items_on {X} item asks_more text xs before (x ∷ after) here more number each whole read =
    let (asked, prints) = each before x after whole in
    let (next, reads) = prints.reads (flat_map text after ++ more) number in
    let from_here : (item before).Reads (record { rest = (text x ++ flat_map text after) ++ more; number = number }) x (record { rest = flat_map text after ++ more; number = next }) =
    subst (λ t. (item before).Reads (record { rest = t; number = number }) x (record { rest = flat_map text after ++ more; number = next })) (sym (append_assoc (text x) (flat_map text after) more)) reads in
    items_on item asks_more text xs (before ++ x ∷ []) after here more next each (whole ∙ sym (append_assoc before (x ∷ []) after))
    (one_more before (record { rest = (text x ++ flat_map text after) ++ more; number = number }) x (record { rest = flat_map text after ++ more; number = next }) read asked from_here)

pub prints_many : {X : Type 0} (item : List X → Grammar X) (asks_more : List X → Bool) (text : X → List ℕ) (xs : List X)
    → ((before : List X) (x : X) (after : List X) → xs ≡ before ++ x ∷ after → IsTrue (asks_more before) × Prints (item before) x (text x))
    → asks_more xs ≡ false → Prints (many item asks_more) xs (flat_map text xs)
prints_many item asks_more text xs each done =
    record { reads = λ more number. let (last, reads) = items_on item asks_more text xs [] xs (record { rest = flat_map text xs ++ more; number = number }) more number each refl no_item in (last, (reads, done)) }

shorter : {X : Type 0} (xs before : List X) (x : X) (after : List X) → xs ≡ before ++ x ∷ after → length before < length xs
shorter xs before x after whole = omega (arith, simp length-append at (ap length whole))

-- so many items
pub prints_counted : {X : Type 0} (item : List X → Grammar X) (count : ℕ) (text : X → List ℕ) (xs : List X) → count ≡ length xs
    → ((before : List X) (x : X) (after : List X) → xs ≡ before ++ x ∷ after → Prints (item before) x (text x))
    → Prints (many item (λ (before : List X). nat_lt (length before) count)) xs (flat_map text xs)
prints_counted {X} item count text xs size each =
    prints_many item (λ (before : List X). nat_lt (length before) count) text xs
    (λ before x after whole. (lt-ltb (length before) count (let short = shorter xs before x after whole in omega arith), each before x after whole))
    (le-ltb (length xs) count (omega arith))

pub in_list : {X : Type 0} (P : X → Type 0) (before : List X) (x : X) (after : List X) → All P (before ++ x ∷ after) → P x
in_list P [] x after all = All-head P x after all
in_list P (y ∷ before) x after all = in_list P before x after (All-tail P y (before ++ x ∷ after) all)

pub prints_so_many : {X : Type 0} (rule : LineRule X) (count : ℕ) (text : X → List ℕ) (xs : List X) → count ≡ length xs → All (λ x. Prints (one_line rule) x (text x)) xs → Prints (so_many count rule) xs (flat_map text xs)
prints_so_many {X} rule count text xs size all =
    prints_counted (λ (before : List X). one_line rule) count text xs size
    (λ before x after whole. in_list (λ y. Prints (one_line rule) y (text y)) before x after (subst (All (λ y. Prints (one_line rule) y (text y))) whole all))
