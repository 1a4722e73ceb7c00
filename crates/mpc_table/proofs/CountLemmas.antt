-- How a line of counts is read.
use Rattle.std.proofs.Common.{◌≡◌, ◌≢◌, ℕ, ◌+◌, ◌-◌, ◌*◌, ◌^◌, ◌<◌, ◌≤◌, Bool, true, false, cond, ◌&&◌, eqb, leb, List, [], ◌∷◌, ◌++◌, length, take, get_or, map, Some, None, refl, sym, ◌∙◌, ap, subst, arith, length-append, lit<, append_assoc, eq-eqb}
use Rattle.std.specs.List.{list_all}
use Rattle.std.specs.Prelude.{◌==◌, Option, MatchBool, MatchOption}
use Rattle.std.specs.Char.{is_ascii_digit}
use Rattle.std.proofs.lemmas.List.Folds.{list_all_more, list_all_at, list_all-append}
use Rattle.std.proofs.lemmas.List.Sums.{fold_more}
use Rattle.std.proofs.lemmas.List.{take_all, map-append, length-map}
use Rattle.std.proofs.lemmas.Bool.Decides.{nat_tests}
use Rattle.std.proofs.lemmas.Bool.{false≢true}
use native.Mathlib.Numerals.{unary_clauses}
use Rattle.std.proofs.Math.Nat.{pow-le-pow_right, mul_comm}
use Rattle.mpc_words.specs.Words.{words_of}
use Rattle.mpc_table.specs.CountLine.{is_count, value_of, count_of, counts_of}

abbrev step : ℕ → ℕ → ℕ
step value digit = value * 10 + (digit - 48)

-- the first i bytes are digits, and stand for the value
pub record IsRead (text : List ℕ) (i value : ℕ) : Type 0 where
  pub value_is : value ≡ value_of (take i text)
  pub digits : list_all is_ascii_digit (take i text) ≡ true
  pub small : value < 10 ^ i

pub read_none : (text : List ℕ) → IsRead text 0 0
read_none text = record { value_is = refl; digits = refl; small = lit< tt }

two_bits : (a b : Bool) → (a && b) ≡ true → (a ≡ true) × (b ≡ true)
two_bits true b h = (refl, h)
two_bits false b h = absurd (false≢true h)

pub digit_low : (b : ℕ) → is_ascii_digit b ≡ true → 48 ≤ b
digit_low b h = let p : leb 48 b ≡ true = (two_bits (leb 48 b) (leb b 57) h).0 in grind (arith, nat_tests)

digit_high : (b : ℕ) → is_ascii_digit b ≡ true → b ≤ 57
digit_high b h = let p : leb b 57 ≡ true = (two_bits (leb 48 b) (leb b 57) h).1 in grind (arith, nat_tests)

pow_step : (i : ℕ) → 10 ^ (i + 1) ≡ 10 * 10 ^ i
pow_step i = pow-add-one i ∙ mul_comm (10 ^ i) 10
  where
    pow-add-one : (i : ℕ) → 10 ^ (i + 1) ≡ 10 ^ i * 10
    pow-add-one i = simp unary_clauses

step_small : (i value b : ℕ) → value < 10 ^ i → b ≤ 57 → step value b < 10 ^ (i + 1)
step_small i value b h k = rw (pow_step i) (omega arith)

pub read_more : (text : List ℕ) (i value : ℕ) → IsRead text i value → i < length text → is_ascii_digit (get_or text i 0) ≡ true → IsRead text (i + 1) (step value (get_or text i 0))
read_more text i value h lt digit = record {
  value_is = ap (λ v. step v (get_or text i 0)) h.value_is ∙ sym (fold_more step 0 text i 0 lt);
  digits = list_all_more is_ascii_digit text i 0 lt ∙ (λ k. h.digits k && digit k);
  small = step_small i value (get_or text i 0) h.small (digit_high (get_or text i 0) digit);
}

pub read_fits : (text : List ℕ) (i value : ℕ) → IsRead text i value → i < 18 → is_ascii_digit (get_or text i 0) ≡ true → step value (get_or text i 0) < 10 ^ 18
read_fits text i value h lt digit =
    let a : step value (get_or text i 0) < 10 ^ (i + 1) = step_small i value (get_or text i 0) h.small (digit_high (get_or text i 0) digit) in
    let b : 10 ^ (i + 1) ≤ 10 ^ 18 = pow-le-pow_right {n = 10} (lit< tt) {i = i + 1} {j = 18} (omega arith) in
    omega arith

pub count_none_empty : (text : List ℕ) → length text ≡ 0 → count_of text ≡ None
unfolding count_of
count_none_empty text h = ap (λ n. cond (leb 1 n && (leb n 18 && list_all is_ascii_digit text)) (Some (value_of text)) None) h

false_and : (a b : Bool) → a ≡ false → (a && b) ≡ false
false_and a b h = ap (λ t. t && b) h

and_false : (a b : Bool) → b ≡ false → (a && b) ≡ false
and_false true b h = h
and_false false b h = refl

not_one : (text : List ℕ) → is_count text ≡ false → count_of text ≡ None
unfolding count_of
not_one text h = ap (λ t. cond t (Some (value_of text)) None) h

pub count_none_long : (text : List ℕ) → 18 < length text → count_of text ≡ None
count_none_long text h =
    let long : leb (length text) 18 ≡ false = grind (arith, nat_tests) in
    not_one text (and_false (leb 1 (length text)) _ (false_and (leb (length text) 18) (list_all is_ascii_digit text) long))

pub count_none_digit : (text : List ℕ) (i : ℕ) → i < length text → is_ascii_digit (get_or text i 0) ≡ false → count_of text ≡ None
count_none_digit text i lt h =
    let no : list_all is_ascii_digit text ≡ false = list_all_at is_ascii_digit text i 0 lt h in
    not_one text (and_false (leb 1 (length text)) _ (and_false (leb (length text) 18) (list_all is_ascii_digit text) no))

pub count_some : (text : List ℕ) (i value : ℕ) → length text ≢ 0 → length text ≤ 18 → length text ≤ i → IsRead text i value → count_of text ≡ Some value
unfolding count_of
count_some text i value some few all h =
    let first : leb 1 (length text) ≡ true = grind (arith, nat_tests) in
    let second : leb (length text) 18 ≡ true = grind (arith, nat_tests) in
    let whole : take i text ≡ text = take_all i text all in
    let third : list_all is_ascii_digit text ≡ true = ap (list_all is_ascii_digit) (sym whole) ∙ h.digits in
    (λ k. cond (first k && (second k && third k)) (Some (value_of text)) None) ∙ ap (λ t. Some (value_of t)) (sym whole) ∙ ap Some (sym h.value_is)

-- ---- a line, word by word

-- the words before the rest of the line are counts, and these are their numbers
pub record HasWords (line rest : List ℕ) (counts : List ℕ) : Type 0 where
  pub done : List (List ℕ)
  pub parts : words_of line ≡ done ++ words_of rest
  pub are_counts : list_all is_count done ≡ true
  pub numbers : counts ≡ map value_of done

-- a word, and the words behind it, if any
pub record BeginsWith (rest word : List ℕ) : Type 0 where
  pub more : List (List ℕ)
  pub words : words_of rest ≡ word ∷ more

pub begins : {A : Type 0} (behind : A → List ℕ) (rest word : List ℕ) (o : Option A) → MatchOption o (words_of rest ≡ word ∷ []) (λ a. words_of rest ≡ word ∷ words_of (behind a)) → BeginsWith rest word
begins behind rest word None h = record { more = []; words = h }
begins behind rest word (Some a) h = record { more = words_of (behind a); words = h }

pub behind_none : {A : Type 0} (P : Type 0) (Q : A → Type 0) (o : Option A) → o ≡ None → MatchOption o P Q → P
behind_none P Q o e h = subst (λ o. MatchOption o P Q) e h

pub behind_some : {A : Type 0} (P : Type 0) (Q : A → Type 0) (o : Option A) (a : A) → o ≡ Some a → MatchOption o P Q → Q a
behind_some P Q o a e h = subst (λ o. MatchOption o P Q) e h

-- what a text that is a count gives
some_count : (text : List ℕ) (value : ℕ) → count_of text ≡ Some value → (is_count text ≡ true) × (value_of text ≡ value)
unfolding count_of
some_count text value e = by (is_count text) refl e
  where
    by : (b : Bool) → is_count text ≡ b → cond b (Some (value_of text)) None ≡ Some value → (is_count text ≡ true) × (value_of text ≡ value)
    by true h k = (h, cc)
    by false h k = absurd cc

no_count : (text : List ℕ) → count_of text ≡ None → is_count text ≡ false
unfolding count_of
no_count text e = by (is_count text) refl e
  where
    by : (b : Bool) → is_count text ≡ b → cond b (Some (value_of text)) None ≡ None → is_count text ≡ false
    by true h k = absurd cc
    by false h k = h

done_more : (done : List (List ℕ)) (word : List ℕ) (value : ℕ) (counts : List ℕ) → list_all is_count done ≡ true → counts ≡ map value_of done → count_of word ≡ Some value
    → (list_all is_count (done ++ word ∷ []) ≡ true) × (counts ++ value ∷ [] ≡ map value_of (done ++ word ∷ []))
done_more done word value counts h n e =
    let s = some_count word value e in (
      list_all-append is_count done (word ∷ []) ∙ (λ i. h i && (s.0 i && true)),
      (λ i. n i ++ (sym s.1) i ∷ []) ∙ sym (map-append value_of done (word ∷ [])),
    )

pub words_more : (line rest word after counts : List ℕ) (value : ℕ) → HasWords line rest counts → words_of rest ≡ word ∷ words_of after → count_of word ≡ Some value
    → HasWords line after (counts ++ value ∷ [])
words_more line rest word after counts value h s e =
    let d = done_more h.done word value counts h.are_counts h.numbers e in
    record {
      done = h.done ++ word ∷ [];
      parts = h.parts ∙ ap (λ t. h.done ++ t) s ∙ sym (append_assoc h.done (word ∷ []) (words_of after));
      are_counts = d.0;
      numbers = d.1;
    }

-- a line that has another number of words, or a word that is no count
not_counts : (line : List ℕ) (n : ℕ) → ((length (words_of line) == n) && list_all is_count (words_of line)) ≡ false → counts_of line n ≡ None
unfolding counts_of
not_counts line n h = ap (λ t. cond t (Some (map value_of (words_of line))) None) h

bad_word : (done : List (List ℕ)) (word : List ℕ) (more : List (List ℕ)) → is_count word ≡ false → list_all is_count (done ++ word ∷ more) ≡ false
bad_word done word more h = list_all-append is_count done (word ∷ more) ∙ and_false (list_all is_count done) _ (false_and (is_count word) (list_all is_count more) h)

pub counts_bad : (line rest word counts : List ℕ) (n : ℕ) → HasWords line rest counts → BeginsWith rest word → count_of word ≡ None → counts_of line n ≡ None
counts_bad line rest word counts n h s e =
    not_counts line n (and_false (length (words_of line) == n) _ (ap (list_all is_count) (h.parts ∙ ap (λ t. h.done ++ t) s.words) ∙ bad_word h.done word s.more (no_count word e)))

mapped_length : (texts : List (List ℕ)) → length (map value_of texts) ≡ length texts
mapped_length texts = simp length-map

size_is : (line rest counts : List ℕ) (h : HasWords line rest counts) → length (words_of line) ≡ length counts + length (words_of rest)
size_is line rest counts h = omega (arith, ap length h.parts, length-append h.done (words_of rest), ap length h.numbers, mapped_length h.done)

-- one more word stands behind n counts
pub counts_many : (line rest word counts : List ℕ) (n : ℕ) → HasWords line rest counts → BeginsWith rest word → length counts ≡ n → counts_of line n ≡ None
counts_many line rest word counts n h s e =
    let more : length (words_of rest) ≡ length s.more + 1 = ap length s.words ∙ omega arith in
    let size : length (words_of line) ≢ n = omega (arith, size_is line rest counts h) in
    let test : (length (words_of line) == n) ≡ false = grind (arith, nat_tests) in
    not_counts line n (false_and (length (words_of line) == n) (list_all is_count (words_of line)) test)

counts_last : (line rest word counts : List ℕ) (value n : ℕ) → HasWords line rest counts → words_of rest ≡ word ∷ [] → count_of word ≡ Some value → length (counts ++ value ∷ []) ≡ n
    → counts_of line n ≡ Some (counts ++ value ∷ [])
unfolding counts_of
counts_last line rest word counts value n h s e size =
    let d = done_more h.done word value counts h.are_counts h.numbers e in
    let whole : words_of line ≡ h.done ++ word ∷ [] = h.parts ∙ ap (λ t. h.done ++ t) s in
    let long : length (words_of line) ≡ n = ap length whole ∙ omega (arith, size, ap length d.1, mapped_length (h.done ++ word ∷ [])) in
    let test : (length (words_of line) == n) ≡ true = eq-eqb (length (words_of line)) n long in
    (λ i. cond (test i && (ap (list_all is_count) whole ∙ d.0) i) (Some (map value_of (whole i))) None) ∙ ap Some (sym d.1)

counts_other : (line rest word counts : List ℕ) (value n : ℕ) → HasWords line rest counts → words_of rest ≡ word ∷ [] → length (counts ++ value ∷ []) ≢ n → counts_of line n ≡ None
counts_other line rest word counts value n h s size =
    let one : length (words_of rest) ≡ 1 = ap length s in
    let off : length (words_of line) ≢ n = omega (arith, size_is line rest counts h, length-append counts (value ∷ [])) in
    let test : (length (words_of line) == n) ≡ false = grind (arith, nat_tests) in
    not_counts line n (false_and (length (words_of line) == n) (list_all is_count (words_of line)) test)

pub counts_end : (line rest word counts new : List ℕ) (value size n : ℕ) → HasWords line rest counts → words_of rest ≡ word ∷ [] → count_of word ≡ Some value
    → new ≡ counts ++ value ∷ [] → size ≡ length new → MatchBool (eqb size n) (counts_of line n ≡ Some new) (counts_of line n ≡ None)
counts_end line rest word counts new value size n h s e new_is size_is = by (eqb size n) refl
  where
    by : (b : Bool) → eqb size n ≡ b → MatchBool b (counts_of line n ≡ Some new) (counts_of line n ≡ None)
    by true test =
        let same : size ≡ n = grind (arith, nat_tests) in
        counts_last line rest word counts value n h s e (ap length (sym new_is) ∙ sym size_is ∙ same) ∙ ap Some (sym new_is)
    by false test =
        let other : size ≢ n = grind (arith, nat_tests) in
        counts_other line rest word counts value n h s (λ k. other (size_is ∙ ap length new_is ∙ k))
