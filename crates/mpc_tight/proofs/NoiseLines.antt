-- The lines of a text, one after another, and the line of the noise, word by word.
use Rattle.std.proofs.Common.{◌≡◌, ◌≢◌, ℕ, suc, ◌+◌, Bool, true, false, cond, eqb, List, [], ◌∷◌, ◌++◌, length, Option, Some, None, refl, sym, ◌∙◌, ap, subst, arith, length-append, append_assoc, eq-eqb}
use Rattle.std.specs.Prelude.{MatchOption, ◌==◌, option_map, option_and_then}
use Rattle.std.specs.List.{slice_split, onto_first}
use Rattle.std.specs.Str.Lines.{lines, lines_of_parts, strip_carriage_return}
use Rattle.std.proofs.lemmas.List.Splits.{slice_split_at, slice_split_none}
use Rattle.std.proofs.lemmas.Bool.Decides.{nat_tests}
use Rattle.mpc_exact.specs.Rational.{ℚ, IsNonneg}
use Rattle.mpc_space.specs.Vector.{AllNonneg}
use Rattle.mpc_words.specs.Words.{IsWithout, IsCutAt, words_of}
use Rattle.mpc_tight.specs.declared.errors.NoiseError.{NoiseError}
use Rattle.mpc_tight.specs.declared.errors.NoiseError.TheVariants.{BadNoise, NoMemory}
use Rattle.mpc_plant.specs.Decimals.{plain_number}
use Rattle.mpc_tight.specs.Noise.{IfBadNoise, IsNoise, numbers_of, sized_numbers, only_line, words_in, noise_of}

abbrev feed : ℕ → Bool
feed b = eqb b 10

-- a split has at least one part
first_part : (bs : List ℕ) → (part : List ℕ) × ((parts : List (List ℕ)) × (slice_split feed bs ≡ part ∷ parts))
first_part [] = ([], ([], refl))
first_part (b ∷ bs) = by (feed b) refl
  where
    onto : (p : List (List ℕ)) → (part : List ℕ) × ((parts : List (List ℕ)) × (onto_first b p ≡ part ∷ parts))
    onto [] = (b ∷ [], ([], refl))
    onto (p ∷ ps) = (b ∷ p, (ps, refl))

    by : (t : Bool) → feed b ≡ t → (part : List ℕ) × ((parts : List (List ℕ)) × (cond t ([] ∷ slice_split feed bs) (onto_first b (slice_split feed bs)) ≡ part ∷ parts))
    by true e = ([], (slice_split feed bs, refl))
    by false e = onto (slice_split feed bs)

behind : (line : List ℕ) (rest : List ℕ) → lines_of_parts (line ∷ slice_split feed rest) ≡ strip_carriage_return line ∷ lines rest
behind line rest =
    let f = first_part rest in
    ap (λ p. lines_of_parts (line ∷ p)) f.1.1 ∙ ap (λ p. strip_carriage_return line ∷ lines_of_parts p) (sym f.1.1)

pub lines-line : (text line rest : List ℕ) → IsCutAt 10 text line rest → lines text ≡ strip_carriage_return line ∷ lines rest
lines-line text line rest s =
    ap lines s.joined ∙ ap lines_of_parts (slice_split_at feed line 10 rest s.first refl) ∙ behind line rest

pub lines-last : (text : List ℕ) → IsWithout 10 text → length text ≢ 0 → lines text ≡ text ∷ []
lines-last [] h some = absurd (some refl)
lines-last (b ∷ bs) h some =
    let test : eqb (length (b ∷ bs)) 0 ≡ false = grind (arith, nat_tests) in
    ap lines_of_parts (slice_split_none feed (b ∷ bs) h) ∙ ap (λ t. cond t [] ((b ∷ bs) ∷ [])) test

-- ---- the words before the rest of the line are these numbers
pub record HasNumbers (line rest : List ℕ) (numbers : List ℚ) : Type 0 where
  pub done : List (List ℕ)
  pub parts : words_of line ≡ done ++ words_of rest
  pub numbers_are : numbers_of done ≡ Some numbers
  pub nonneg : AllNonneg numbers

pub numbers_none : (line : List ℕ) (numbers : List ℚ) → numbers ≡ [] → HasNumbers line line numbers
numbers_none line numbers e = record { done = []; parts = refl; numbers_are = ap Some (sym e); nonneg = subst AllNonneg (sym e) tt }

-- a word, and the words behind it, if any
pub record BeginsWith (rest word : List ℕ) : Type 0 where
  pub more : List (List ℕ)
  pub words : words_of rest ≡ word ∷ more

pub begins : {A : Type 0} (behind : A → List ℕ) (rest word : List ℕ) (o : Option A) → MatchOption o (words_of rest ≡ word ∷ []) (λ a. words_of rest ≡ word ∷ words_of (behind a)) → BeginsWith rest word
begins behind rest word None h = record { more = []; words = h }
begins behind rest word (Some a) h = record { more = words_of (behind a); words = h }

pub behind_none : {A : Type 0} (P : Type 0) (Q : A → Type 0) (o : Option A) → o ≡ None → MatchOption o P Q → P
behind_none P Q o e h = subst (λ o. MatchOption o P Q) e h

pub behind_some : {A : Type 0} (P : Type 0) (Q : A → Type 0) (o : Option A) (a : A) → o ≡ Some a → MatchOption o P Q → Q a
behind_some P Q o a e h = subst (λ o. MatchOption o P Q) e h

-- ---- numbers of words
some_front : (x : ℚ) (xs : Option (List ℚ)) (numbers : List ℚ) → option_map (λ ys. x ∷ ys) xs ≡ Some numbers → (rest : List ℚ) × ((xs ≡ Some rest) × (numbers ≡ x ∷ rest))
some_front x None numbers e = absurd (cc)
some_front x (Some ys) numbers e = (ys, (refl, cc))

numbers_more : (done : List (List ℕ)) (word : List ℕ) (numbers : List ℚ) (x : ℚ) → numbers_of done ≡ Some numbers → plain_number word ≡ Some x → numbers_of (done ++ word ∷ []) ≡ Some (numbers ++ x ∷ [])
numbers_more [] word numbers x h e =
    let empty : numbers ≡ [] = cc in
    ap (option_and_then (λ y. option_map (λ ys. y ∷ ys) (Some []))) e ∙ ap (λ n. Some (n ++ x ∷ [])) (sym empty)
numbers_more (first ∷ done) word numbers x h e = by (λ rest k. numbers_more done word rest x k e) (plain_number first) refl h
  where
    by : ((rest : List ℚ) → numbers_of done ≡ Some rest → numbers_of (done ++ word ∷ []) ≡ Some (rest ++ x ∷ [])) → (o : Option ℚ) → plain_number first ≡ o → option_and_then (λ y. option_map (λ ys. y ∷ ys) (numbers_of done)) o ≡ Some numbers
        → option_and_then (λ y. option_map (λ ys. y ∷ ys) (numbers_of (done ++ word ∷ []))) (plain_number first) ≡ Some (numbers ++ x ∷ [])
    by more None o k = absurd (cc)
    by more (Some y) o k =
        let s = some_front y (numbers_of done) numbers k in
        (λ i. option_and_then (λ z. option_map (λ ys. z ∷ ys) (more s.0 s.1.0 i)) (o i))
        ∙ ap (λ n. Some (n ++ x ∷ [])) (sym s.1.1)

numbers_bad : (done : List (List ℕ)) (word : List ℕ) (more : List (List ℕ)) → plain_number word ≡ None → numbers_of (done ++ word ∷ more) ≡ None
numbers_bad [] word more e = ap (option_and_then (λ y. option_map (λ ys. y ∷ ys) (numbers_of more))) e
numbers_bad (first ∷ done) word more e = by (numbers_bad done word more e) (plain_number first)
  where
    by : numbers_of (done ++ word ∷ more) ≡ None → (o : Option ℚ) → option_and_then (λ y. option_map (λ ys. y ∷ ys) (numbers_of (done ++ word ∷ more))) o ≡ None
    by rest None = refl
    by rest (Some y) = ap (option_map (λ ys. y ∷ ys)) rest

numbers_length : (words : List (List ℕ)) (numbers : List ℚ) → numbers_of words ≡ Some numbers → length numbers ≡ length words
numbers_length [] numbers h = let empty : numbers ≡ [] = cc in ap length empty
numbers_length (first ∷ words) numbers h = by (λ rest k. numbers_length words rest k) (plain_number first) h
  where
    by : ((rest : List ℚ) → numbers_of words ≡ Some rest → length rest ≡ length words) → (o : Option ℚ) → option_and_then (λ y. option_map (λ ys. y ∷ ys) (numbers_of words)) o ≡ Some numbers → length numbers ≡ length (first ∷ words)
    by more None k = absurd (cc)
    by more (Some y) k = let s = some_front y (numbers_of words) numbers k in ap length s.1.1 ∙ ap suc (more s.0 s.1.0)

nonneg_more : (numbers : List ℚ) (x : ℚ) → AllNonneg numbers → IsNonneg x → AllNonneg (numbers ++ x ∷ [])
nonneg_more [] x h k = (k, tt)
nonneg_more (y ∷ numbers) x h k = (h.0, nonneg_more numbers x h.1 k)

pub words_more : (line rest word after : List ℕ) (numbers : List ℚ) (x : ℚ) → HasNumbers line rest numbers → words_of rest ≡ word ∷ words_of after → plain_number word ≡ Some x → IsNonneg x
    → HasNumbers line after (numbers ++ x ∷ [])
words_more line rest word after numbers x h s e k = record {
  done = h.done ++ word ∷ [];
  parts = h.parts ∙ ap (λ t. h.done ++ t) s ∙ sym (append_assoc h.done (word ∷ []) (words_of after));
  numbers_are = numbers_more h.done word numbers x h.numbers_are e;
  nonneg = nonneg_more numbers x h.nonneg k;
}

-- ---- another number of words, or a word that is no number
not_sized : (n : ℕ) (words : List (List ℕ)) → (length words == n) ≡ false → sized_numbers n words ≡ None
not_sized n words h = ap (λ t. cond t (numbers_of words) None) h

bad_numbers : (n : ℕ) (words : List (List ℕ)) → numbers_of words ≡ None → sized_numbers n words ≡ None
bad_numbers n words h = by (length words == n)
  where
    by : (b : Bool) → cond b (numbers_of words) None ≡ None
    by true = h
    by false = refl

pub word_bad : (line rest word : List ℕ) (numbers : List ℚ) (n : ℕ) → HasNumbers line rest numbers → BeginsWith rest word → plain_number word ≡ None → sized_numbers n (words_of line) ≡ None
word_bad line rest word numbers n h s e =
    bad_numbers n (words_of line) (ap numbers_of (h.parts ∙ ap (λ t. h.done ++ t) s.words) ∙ numbers_bad h.done word s.more e)

size_is : (line rest : List ℕ) (numbers : List ℚ) (h : HasNumbers line rest numbers) → length (words_of line) ≡ length numbers + length (words_of rest)
size_is line rest numbers h = omega (arith, ap length h.parts, length-append h.done (words_of rest), numbers_length h.done numbers h.numbers_are)

-- one more word stands behind n numbers
pub words_many : (line rest word : List ℕ) (numbers : List ℚ) (n : ℕ) → HasNumbers line rest numbers → BeginsWith rest word → length numbers ≡ n → sized_numbers n (words_of line) ≡ None
words_many line rest word numbers n h s e =
    let more : length (words_of rest) ≡ length s.more + 1 = ap length s.words ∙ omega arith in
    let size : length (words_of line) ≢ n = omega (arith, size_is line rest numbers h) in
    let test : (length (words_of line) == n) ≡ false = grind (arith, nat_tests) in
    not_sized n (words_of line) test

-- the last word
module _ (line rest word : List ℕ) (numbers : List ℚ) (x : ℚ) (n : ℕ) (h : HasNumbers line rest numbers) (s : words_of rest ≡ word ∷ []) (e : plain_number word ≡ Some x) where
  whole : words_of line ≡ h.done ++ word ∷ []
  whole = h.parts ∙ ap (λ t. h.done ++ t) s

  all_are : numbers_of (words_of line) ≡ Some (numbers ++ x ∷ [])
  all_are = ap numbers_of whole ∙ numbers_more h.done word numbers x h.numbers_are e

  pub last_fits : length (numbers ++ x ∷ []) ≡ n → sized_numbers n (words_of line) ≡ Some (numbers ++ x ∷ [])
  last_fits size =
      let long : length (words_of line) ≡ n = omega (arith, numbers_length (words_of line) (numbers ++ x ∷ []) all_are) in
      let test : (length (words_of line) == n) ≡ true = eq-eqb (length (words_of line)) n long in
      ap (λ t. cond t (numbers_of (words_of line)) None) test ∙ all_are

  pub last_other : length (numbers ++ x ∷ []) ≢ n → sized_numbers n (words_of line) ≡ None
  last_other size =
      let off : length (words_of line) ≢ n = λ p. size (omega (arith, numbers_length (words_of line) (numbers ++ x ∷ []) all_are)) in
      let test : (length (words_of line) == n) ≡ false = grind (arith, nat_tests) in
      not_sized n (words_of line) test

  pub last_noise : IsNonneg x → length (numbers ++ x ∷ []) ≡ n → IsNoise (numbers ++ x ∷ []) n
  last_noise k size = record { size = size; nonneg = nonneg_more numbers x h.nonneg k }

-- ---- a whole text
pub no_line : (text : List ℕ) (n : ℕ) → only_line (lines text) ≡ None → noise_of text n ≡ None
unfolding noise_of
no_line text n e = ap (option_and_then (λ line. sized_numbers n (words_in line))) e

one_line : (text line : List ℕ) (n : ℕ) → only_line (lines text) ≡ Some line → noise_of text n ≡ sized_numbers n (words_in line)
unfolding noise_of
one_line text line n e = ap (option_and_then (λ line. sized_numbers n (words_in line))) e

pub words_line : (text line : List ℕ) (n : ℕ) → only_line (lines text) ≡ Some line → (length line == 0) ≡ false → noise_of text n ≡ sized_numbers n (words_of line)
words_line text [] n e some = absurd (cc)
words_line text (c ∷ line) n e some = one_line text (c ∷ line) n e

pub empty_line : (text line : List ℕ) (n : ℕ) → only_line (lines text) ≡ Some line → (length line == 0) ≡ true → noise_of text n ≡ sized_numbers n []
empty_line text [] n e none = one_line text [] n e
empty_line text (c ∷ line) n e none = let k : length (c ∷ line) ≡ 0 = grind (arith, nat_tests) in absurd (omega arith)

pub no_numbers : (n : ℕ) (xs : List ℚ) → n ≡ 0 → xs ≡ [] → sized_numbers n [] ≡ Some xs
no_numbers n xs e is = ap (λ m. sized_numbers m []) e ∙ ap Some (sym is)

pub some_missing : (n : ℕ) → (eqb 0 n) ≡ false → sized_numbers n [] ≡ None
some_missing n h = not_sized n [] h

pub if_bad_weaker : (e : NoiseError) (P Q : Type 0) → (P → Q) → IfBadNoise P e → IfBadNoise Q e
if_bad_weaker BadNoise P Q f h = f h
if_bad_weaker NoMemory P Q f h = h
