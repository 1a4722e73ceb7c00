-- How a text is cut at a line, line by line.
use Rattle.std.proofs.Common.{◌≡◌, ℕ, suc, ◌+◌, ◌≤◌, Bool, true, false, cond, ◌&&◌, ◌||◌, eqb, Option, Some, None, List, [], ◌∷◌, ◌++◌, length, take, drop, refl, sym, subst, ◌∙◌, ap, arith, length-append, append_assoc}
use Rattle.std.specs.Prelude.{codes, bytes_eq}
use Rattle.std.specs.Cmp.Lexicographic.{pointwise}
use Rattle.std.specs.List.{onto_first, concat}
use Rattle.std.proofs.lemmas.List.Elements.{All-head, All-tail}
use Rattle.std.proofs.lemmas.List.{append-nil}
use Rattle.std.proofs.lemmas.Bool.{false≢true}
use Rattle.std.proofs.Math.Seq.{take-append_seam}
use Rattle.mpc_words.specs.WholeLines.{whole_lines, is_line, before_line, behind_line}
use Rattle.mpc_words.specs.Words.{IsWithout, IsCutAt, IsWord}

-- ---- the lines of a text
whole_lines-line : (line rest : List ℕ) → IsWithout 10 line → whole_lines (line ++ 10 ∷ rest) ≡ (line ++ 10 ∷ []) ∷ whole_lines rest
unfolding whole_lines
whole_lines-line [] rest h = refl
whole_lines-line (b ∷ bs) rest h =
    ap (λ t. cond t ((b ∷ []) ∷ whole_lines (bs ++ 10 ∷ rest)) (onto_first b (whole_lines (bs ++ 10 ∷ rest)))) (All-head (λ b. eqb b 10 ≡ false) b bs h)
    ∙ ap (onto_first b) (whole_lines-line bs rest (All-tail (λ b. eqb b 10 ≡ false) b bs h))

whole_lines-last : (b : ℕ) (bs : List ℕ) → IsWithout 10 (b ∷ bs) → whole_lines (b ∷ bs) ≡ (b ∷ bs) ∷ []
unfolding whole_lines
whole_lines-last b [] h = ap (λ t. cond t ((b ∷ []) ∷ []) (onto_first b [])) (All-head (λ b. eqb b 10 ≡ false) b [] h)
whole_lines-last b (c ∷ cs) h =
    ap (λ t. cond t ((b ∷ []) ∷ whole_lines (c ∷ cs)) (onto_first b (whole_lines (c ∷ cs)))) (All-head (λ b. eqb b 10 ≡ false) b (c ∷ cs) h)
    ∙ ap (onto_first b) (whole_lines-last c cs (All-tail (λ b. eqb b 10 ≡ false) b (c ∷ cs) h))

whole_lines-nil : whole_lines [] ≡ []
unfolding whole_lines
whole_lines-nil = refl

pub concat-whole_lines : (bs : List ℕ) → concat (whole_lines bs) ≡ bs
unfolding whole_lines
concat-whole_lines [] = refl
concat-whole_lines (b ∷ bs) = by (eqb b 10) ∙ ap (λ t. b ∷ t) (concat-whole_lines bs)
  where
    onto : (ls : List (List ℕ)) → concat (onto_first b ls) ≡ b ∷ concat ls
    onto [] = refl
    onto (l ∷ ls) = refl

    by : (t : Bool) → concat (cond t ((b ∷ []) ∷ whole_lines bs) (onto_first b (whole_lines bs))) ≡ b ∷ concat (whole_lines bs)
    by true = refl
    by false = onto (whole_lines bs)

-- the lines behind one are those of the text behind it
rest_of : (b : ℕ) (bs line : List ℕ) (more ls : List (List ℕ)) (t : Bool) → whole_lines bs ≡ ls → ((l : List ℕ) (others : List (List ℕ)) → whole_lines bs ≡ l ∷ others → whole_lines (concat others) ≡ others)
    → cond t ((b ∷ []) ∷ ls) (onto_first b ls) ≡ line ∷ more → whole_lines (concat more) ≡ more
rest_of b bs line more ls true h rest e =
    let n : ls ≡ more = cc in
    subst (λ m. whole_lines (concat m) ≡ m) n (ap (λ m. whole_lines (concat m)) (sym h) ∙ ap whole_lines (concat-whole_lines bs) ∙ h)
rest_of b bs line more [] false h rest e = let n : [] ≡ more = cc in subst (λ m. whole_lines (concat m) ≡ m) n whole_lines-nil
rest_of b bs line more (l ∷ others) false h rest e = let n : others ≡ more = cc in subst (λ m. whole_lines (concat m) ≡ m) n (rest l others h)

pub whole_lines-rest : (bs line : List ℕ) (more : List (List ℕ)) → whole_lines bs ≡ line ∷ more → whole_lines (concat more) ≡ more
unfolding whole_lines
whole_lines-rest [] line more e = cc
whole_lines-rest (b ∷ bs) line more e = rest_of b bs line more (whole_lines bs) (eqb b 10) refl (whole_lines-rest bs) e

-- ---- is it the line
and_false : (a : Bool) → (a && false) ≡ false
and_false true = refl
and_false false = refl

and_true : (a : Bool) → (a && true) ≡ a
and_true true = refl
and_true false = refl

or_false : (a : Bool) → (a || false) ≡ a
or_false true = refl
or_false false = refl

empty_no : (ys : List ℕ) (c : ℕ) → bytes_eq [] (ys ++ c ∷ []) ≡ false
empty_no [] c = refl
empty_no (y ∷ ys) c = refl

no_empty : (xs : List ℕ) (b : ℕ) → bytes_eq (xs ++ b ∷ []) [] ≡ false
no_empty [] b = refl
no_empty (x ∷ xs) b = refl

and_assoc : (a b c : Bool) → (a && (b && c)) ≡ ((a && b) && c)
and_assoc true b c = refl
and_assoc false b c = refl

pub bytes_eq-push : (xs ys : List ℕ) (b c : ℕ) → bytes_eq (xs ++ b ∷ []) (ys ++ c ∷ []) ≡ (bytes_eq xs ys && eqb b c)
bytes_eq-push [] [] b c = and_true (eqb b c)
bytes_eq-push [] (y ∷ ys) b c = ap (λ t. eqb b y && t) (empty_no ys c) ∙ and_false (eqb b y)
bytes_eq-push (x ∷ xs) [] b c = ap (λ t. eqb x c && t) (no_empty xs b) ∙ and_false (eqb x c)
bytes_eq-push (x ∷ xs) (y ∷ ys) b c = ap (λ t. eqb x y && t) (bytes_eq-push xs ys b c) ∙ and_assoc (eqb x y) (bytes_eq xs ys) (eqb b c)

-- a line that begins with the word, and one that doesn't
same_first : (t same u v : Bool) → (same ≡ true → u ≡ v) → (t && same) ≡ true → (t && u) ≡ v
same_first true same u v rest h = rest h
same_first false same u v rest h = absurd (false≢true h)

other_first : (t same u : Bool) → (same ≡ false → u ≡ false) → (t && same) ≡ false → (t && u) ≡ false
other_first true same u rest h = rest h
other_first false same u rest h = refl

pub prefix_same : (line word end : List ℕ) → pointwise eqb (take (length word) line) word ≡ true → bytes_eq line (word ++ end) ≡ bytes_eq (drop (length word) line) end
prefix_same line [] end h = refl
prefix_same [] (w ∷ ws) end h = absurd (false≢true h)
prefix_same (x ∷ xs) (w ∷ ws) end h =
    same_first (eqb x w) (pointwise eqb (take (length ws) xs) ws) (bytes_eq xs (ws ++ end)) (bytes_eq (drop (length ws) xs) end) (prefix_same xs ws end) h

pub prefix_other : (line word end : List ℕ) → pointwise eqb (take (length word) line) word ≡ false → bytes_eq line (word ++ end) ≡ false
prefix_other line [] end h = absurd (false≢true (sym h))
prefix_other [] (w ∷ ws) end h = refl
prefix_other (x ∷ xs) (w ∷ ws) end h = other_first (eqb x w) (pointwise eqb (take (length ws) xs) ws) (bytes_eq xs (ws ++ end)) (prefix_other xs ws end) h

-- a line that has no line feed is none that ends with one
ends_apart : (line xs : List ℕ) → IsWithout 10 line → bytes_eq line (xs ++ 10 ∷ []) ≡ false
ends_apart [] xs h = empty_no xs 10
ends_apart (b ∷ bs) [] h = ap (λ t. t && bytes_eq bs []) (All-head (λ b. eqb b 10 ≡ false) b bs h)
ends_apart (b ∷ bs) (x ∷ xs) h = ap (λ t. eqb b x && t) (ends_apart bs xs (All-tail (λ b. eqb b 10 ≡ false) b bs h)) ∙ and_false (eqb b x)

-- and the other way round
apart_ends : (xs word : List ℕ) → IsWithout 10 word → bytes_eq (xs ++ 10 ∷ []) word ≡ false
apart_ends xs [] h = no_empty xs 10
apart_ends [] (w ∷ ws) h = ap (λ t. t && bytes_eq [] ws) (swapped w (All-head (λ b. eqb b 10 ≡ false) w ws h))
  where
    swapped : (w : ℕ) → eqb w 10 ≡ false → eqb 10 w ≡ false
    swapped w h = grind (arith, h)
apart_ends (x ∷ xs) (w ∷ ws) h = ap (λ t. eqb x w && t) (apart_ends xs ws (All-tail (λ b. eqb b 10 ≡ false) w ws h)) ∙ and_false (eqb x w)

module _ (word : List ℕ) (is_word : IsWord word) where
  -- the line before its line feed is the word, or that and a carriage return
  is_line-line : (line : List ℕ) → is_line word (line ++ 10 ∷ []) ≡ (bytes_eq line word || bytes_eq line (word ++ codes "\r"))
  is_line-line line =
      let first : bytes_eq (line ++ 10 ∷ []) (word ++ codes "\n") ≡ bytes_eq line word = bytes_eq-push line word 10 10 ∙ and_true (bytes_eq line word) in
      let second : bytes_eq (line ++ 10 ∷ []) (word ++ codes "\r\n") ≡ bytes_eq line (word ++ codes "\r") =
      ap (bytes_eq (line ++ 10 ∷ [])) (sym (append_assoc word (13 ∷ []) (10 ∷ []))) ∙ bytes_eq-push line (word ++ codes "\r") 10 10 ∙ and_true (bytes_eq line (word ++ codes "\r")) in
      let third : bytes_eq (line ++ 10 ∷ []) word ≡ false = apart_ends line word is_word.no_line_feed in
      (λ i. first i || (second i || third i)) ∙ ap (λ t. bytes_eq line word || t) (or_false (bytes_eq line (word ++ codes "\r")))

  -- the last line, without a line feed
  is_line-last : (line : List ℕ) → IsWithout 10 line → is_line word line ≡ bytes_eq line word
  is_line-last line h =
      let first : bytes_eq line (word ++ codes "\n") ≡ false = ends_apart line word h in
      let second : bytes_eq line (word ++ codes "\r\n") ≡ false =
      ap (bytes_eq line) (sym (append_assoc word (13 ∷ []) (10 ∷ []))) ∙ ends_apart line (word ++ codes "\r") h in
      λ i. first i || (second i || bytes_eq line word)

-- ---- the loop that cuts: what is behind the lines that it passed
pub record IsBehind (word text rest : List ℕ) (start : ℕ) : Type 0 where
  pub passed : List ℕ
  pub joined : text ≡ passed ++ rest
  pub counted : start ≡ length passed
  pub before : before_line word (whole_lines text) ≡ passed ++ before_line word (whole_lines rest)
  pub behind : behind_line word (whole_lines text) ≡ behind_line word (whole_lines rest)

pub behind_none : (word text : List ℕ) → IsBehind word text text 0
behind_none word text = record { passed = []; joined = refl; counted = refl; before = refl; behind = refl }

seam : (xs ys zs : List ℕ) (b : ℕ) → xs ++ (ys ++ b ∷ zs) ≡ (xs ++ (ys ++ b ∷ [])) ++ zs
seam xs ys zs b = ap (λ t. xs ++ t) (sym (append_assoc ys (b ∷ []) zs)) ∙ sym (append_assoc xs (ys ++ b ∷ []) zs)

taken : (text passed rest : List ℕ) (start : ℕ) → text ≡ passed ++ rest → start ≡ length passed → take start text ≡ passed
taken text passed rest start e c = (λ i. take (c i) (e i)) ∙ take-append_seam passed rest

-- what the cut gives
pub record IsCut (word text before : List ℕ) (behind : Option (List ℕ)) : Type 0 where
  pub before_is : before ≡ before_line word (whole_lines text)
  pub behind_is : behind ≡ behind_line word (whole_lines text)

-- a first line that is the word, and one that isn't
before_here : (word line : List ℕ) (more : List (List ℕ)) (t : Bool) → is_line word line ≡ t → before_line word (line ∷ more) ≡ cond t [] (line ++ before_line word more)
unfolding before_line
before_here word line more t e = ap (λ t. cond t [] (line ++ before_line word more)) e

behind_here : (word line : List ℕ) (more : List (List ℕ)) (t : Bool) → is_line word line ≡ t → behind_line word (line ∷ more) ≡ cond t (Some (concat more)) (behind_line word more)
unfolding behind_line
behind_here word line more t e = ap (λ t. cond t (Some (concat more)) (behind_line word more)) e

before_nil : (word : List ℕ) → before_line word [] ≡ []
unfolding before_line
before_nil word = refl

behind_nil : (word : List ℕ) → behind_line word [] ≡ None
unfolding behind_line
behind_nil word = refl

module _ (word : List ℕ) (is_word : IsWord word) (text rest line after : List ℕ) (start : ℕ) (h : IsBehind word text rest start) (s : IsCutAt 10 rest line after) where
  lines : whole_lines rest ≡ (line ++ 10 ∷ []) ∷ whole_lines after
  lines = ap whole_lines s.joined ∙ whole_lines-line line after s.first

  test : (t : Bool) → (bytes_eq line word || bytes_eq line (word ++ codes "\r")) ≡ t → is_line word (line ++ 10 ∷ []) ≡ t
  test t e = is_line-line word is_word line ∙ e

  pub behind_more : (bytes_eq line word || bytes_eq line (word ++ codes "\r")) ≡ false → IsBehind word text after (start + (length line + 1))
  behind_more n =
      let before : before_line word (whole_lines rest) ≡ (line ++ 10 ∷ []) ++ before_line word (whole_lines after) =
      ap (before_line word) lines ∙ before_here word (line ++ 10 ∷ []) (whole_lines after) false (test false n) in
      record {
        passed = h.passed ++ (line ++ 10 ∷ []);
        joined = h.joined ∙ ap (λ t. h.passed ++ t) s.joined ∙ seam h.passed line after 10;
        counted = ap (λ n. n + (length line + 1)) h.counted ∙ ap (λ n. length h.passed + n) (sym (length-append line (10 ∷ []))) ∙ sym (length-append h.passed (line ++ 10 ∷ []));
        before = h.before ∙ ap (λ t. h.passed ++ t) before ∙ sym (append_assoc h.passed (line ++ 10 ∷ []) (before_line word (whole_lines after)));
        behind = h.behind ∙ ap (behind_line word) lines ∙ behind_here word (line ++ 10 ∷ []) (whole_lines after) false (test false n);
      }

  pub cut_here : (bytes_eq line word || bytes_eq line (word ++ codes "\r")) ≡ true → IsCut word text (take start text) (Some after)
  cut_here y =
      let before : before_line word (whole_lines rest) ≡ [] = ap (before_line word) lines ∙ before_here word (line ++ 10 ∷ []) (whole_lines after) true (test true y) in
      let behind : behind_line word (whole_lines rest) ≡ Some after =
      ap (behind_line word) lines ∙ behind_here word (line ++ 10 ∷ []) (whole_lines after) true (test true y) ∙ ap Some (concat-whole_lines after) in
      record {
        before_is = taken text h.passed rest start h.joined h.counted ∙ sym (append-nil h.passed) ∙ ap (λ t. h.passed ++ t) (sym before) ∙ sym h.before;
        behind_is = sym (h.behind ∙ behind);
      }

-- the rest has no line feed, and is the word
pub cut_at_end : (word text rest : List ℕ) (start : ℕ) → IsWord word → IsBehind word text rest start → IsWithout 10 rest → bytes_eq rest word ≡ true → IsCut word text (take start text) (Some [])
cut_at_end [] text rest start w h n y = absurd (omega (arith, w.some))
cut_at_end (c ∷ cs) text [] start w h n y = absurd (false≢true y)
cut_at_end (c ∷ cs) text (b ∷ bs) start w h n y =
    let word = c ∷ cs in
    let rest = b ∷ bs in
    let yes : is_line word rest ≡ true = is_line-last word w rest n ∙ y in
    let before : before_line word (whole_lines rest) ≡ [] = ap (before_line word) (whole_lines-last b bs n) ∙ before_here word rest [] true yes in
    let behind : behind_line word (whole_lines rest) ≡ Some [] = ap (behind_line word) (whole_lines-last b bs n) ∙ behind_here word rest [] true yes in
    record {
      before_is = taken text h.passed rest start h.joined h.counted ∙ sym (append-nil h.passed) ∙ ap (λ t. h.passed ++ t) (sym before) ∙ sym h.before;
      behind_is = sym (h.behind ∙ behind);
    }

-- or isn't
pub cut_nowhere : (word text rest : List ℕ) (start : ℕ) → IsWord word → IsBehind word text rest start → IsWithout 10 rest → bytes_eq rest word ≡ false → IsCut word text text None
cut_nowhere word text [] start w h n y =
    record {
      before_is = h.joined ∙ ap (λ t. h.passed ++ t) (sym (ap (before_line word) whole_lines-nil ∙ before_nil word)) ∙ sym h.before;
      behind_is = sym (h.behind ∙ ap (behind_line word) whole_lines-nil ∙ behind_nil word);
    }
cut_nowhere word text (b ∷ bs) start w h n y =
    let rest = b ∷ bs in
    let no : is_line word rest ≡ false = is_line-last word w rest n ∙ y in
    let before : before_line word (whole_lines rest) ≡ rest =
    ap (before_line word) (whole_lines-last b bs n) ∙ before_here word rest [] false no ∙ ap (λ t. rest ++ t) (before_nil word) ∙ append-nil rest in
    let behind : behind_line word (whole_lines rest) ≡ None = ap (behind_line word) (whole_lines-last b bs n) ∙ behind_here word rest [] false no ∙ behind_nil word in
    record {
      before_is = h.joined ∙ ap (λ t. h.passed ++ t) (sym before) ∙ sym h.before;
      behind_is = sym (h.behind ∙ behind);
    }

-- ---- sizes
pub behind_fits : {word text rest : List ℕ} {start : ℕ} → IsBehind word text rest start → start + length rest ≡ length text
behind_fits {word} {text} {rest} {start} h = omega (arith, ap length h.joined, length-append h.passed rest, h.counted)

pub cut_length : {byte : ℕ} {whole first rest : List ℕ} → IsCutAt byte whole first rest → length whole ≡ length first + (length rest + 1)
cut_length {byte} {whole} {first} {rest} s = omega (arith, ap length s.joined, length-append first (byte ∷ rest))

second_true : (t u : Bool) → (t && u) ≡ true → u ≡ true
second_true true u h = h
second_true false u h = absurd (false≢true h)

pub eq_length : (xs ys : List ℕ) → bytes_eq xs ys ≡ true → length xs ≡ length ys
eq_length [] [] h = refl
eq_length [] (y ∷ ys) h = absurd (false≢true h)
eq_length (x ∷ xs) [] h = absurd (false≢true h)
eq_length (x ∷ xs) (y ∷ ys) h = ap suc (eq_length xs ys (second_true (eqb x y) (bytes_eq xs ys) h))

-- what stands before the line is no longer than all lines
short_of : (t : Bool) (line before all : List ℕ) → length before ≤ length all → length (cond t [] (line ++ before)) ≤ length (line ++ all)
short_of true line before all h = omega arith
short_of false line before all h = omega (arith, length-append line before, length-append line all, h)

before_short : (word : List ℕ) (lines : List (List ℕ)) → length (before_line word lines) ≤ length (concat lines)
unfolding before_line
before_short word [] = omega arith
before_short word (line ∷ more) = short_of (is_line word line) line (before_line word more) (concat more) (before_short word more)

pub before_short_of : (word text : List ℕ) → length (before_line word (whole_lines text)) ≤ length text
before_short_of word text = subst (λ t. length (before_line word (whole_lines text)) ≤ length t) (concat-whole_lines text) (before_short word (whole_lines text))
