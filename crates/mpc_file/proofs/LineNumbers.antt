-- A line states the numbers only that its words are the texts of.
use Rattle.std.proofs.Common.{◌≡◌, ℕ, ◌^◌, ◌<◌, Bool, true, false, not, ◌&&◌, ◌==◌, List, [], ◌∷◌, ◌++◌, map, length, take, drop, refl, sym, subst, ◌∙◌, arith, All, ℤ, unsigned_abs, decimal, flat_map}
use Rattle.std.specs.Fmt.{signed_decimal}
use Rattle.std.proofs.lemmas.List.Elements.{All-nil, All-cons, All-head, All-tail}
use Rattle.std.proofs.lemmas.Bool.{and_parts}
use Rattle.std.proofs.Math.Seq.{take-append_seam, drop-append_seam}
use Rattle.mpc_exact.specs.Rational.{ℚ}
use Rattle.mpc_frac.specs.Fits.{FitsFrac}
use Rattle.mpc_frac.specs.Text.{text_of}
use Rattle.mpc_linear.specs.Whole.{AreSmall}
use Rattle.mpc_words.specs.Words.{IsWithout, IsWord, line}
use Rattle.mpc_grammar.specs.Lines.{integers_line, fractions_line, pair_words, cert_line}
use Rattle.mpc_grammar.specs.PlantGrammar.{AllFit}
use Rattle.mpc_grammar.specs.LineTheorems.{WordTheorems}

-- ---- names
-- the test of whether a text is without a byte
abbrev pub is_without : ℕ → List ℕ → Bool
is_without byte [] = true
is_without byte (c ∷ cs) = not (c == byte) && is_without byte cs

not-true : (b : Bool) → not b ≡ true → b ≡ false
not-true true e = sym e
not-true false e = refl

pub without : (byte : ℕ) (text : List ℕ) → is_without byte text ≡ true → IsWithout byte text
without byte [] e = All-nil (λ c. (c == byte) ≡ false)
without byte (c ∷ cs) e =
    let parts : (not (c == byte) ≡ true) × (is_without byte cs ≡ true) = and_parts (not (c == byte)) (is_without byte cs) e in
    All-cons (λ c. (c == byte) ≡ false) c cs (not-true (c == byte) parts.0) (without byte cs parts.1)

-- ---- lists
pub same_front : {A : Type 0} (xs ys zs ws : List A) → length xs ≡ length zs → xs ++ ys ≡ zs ++ ws → xs ≡ zs
same_front xs ys zs ws e f = sym (take-append_seam xs ys) ∙ (λ i. take (e i) (f i)) ∙ take-append_seam zs ws

pub same_back : {A : Type 0} (xs ys zs ws : List A) → length xs ≡ length zs → xs ++ ys ≡ zs ++ ws → ys ≡ ws
same_back xs ys zs ws e f = sym (drop-append_seam xs ys) ∙ (λ i. drop (e i) (f i)) ∙ drop-append_seam zs ws

-- rows of one width are those of the list of all their entries
pub same_rows : {A : Type 0} (width : ℕ) (xs ys : List (List A)) → length xs ≡ length ys → All (λ row. length row ≡ width) xs → All (λ row. length row ≡ width) ys → flat_map (λ row. row) xs ≡ flat_map (λ row. row) ys → xs ≡ ys
same_rows {A} width [] [] n h k e = refl
same_rows {A} width [] (y ∷ ys) n h k e = absurd (omega arith)
same_rows {A} width (x ∷ xs) [] n h k e = absurd (omega arith)
same_rows {A} width (x ∷ xs) (y ∷ ys) n h k e =
    let len : length x ≡ length y = All-head (λ (row : List A). length row ≡ width) x xs h ∙ sym (All-head (λ (row : List A). length row ≡ width) y ys k) in
    let front : x ≡ y = same_front x (flat_map (λ row. row) xs) y (flat_map (λ row. row) ys) len e in
    let back : xs ≡ ys = same_rows width xs ys (omega arith) (All-tail (λ (row : List A). length row ≡ width) x xs h) (All-tail (λ (row : List A). length row ≡ width) y ys k)
    (same_back x (flat_map (λ row. row) xs) y (flat_map (λ row. row) ys) len e) in
    λ i. front i ∷ back i

-- ---- numbers that are spelled in one way
module _ {A : Type 0} (spell : A → List ℕ) (Fits : A → Type 0) where
  module _ (one : (x y : A) → Fits x → Fits y → spell x ≡ spell y → x ≡ y) where
    one_map : (xs ys : List A) → All Fits xs → All Fits ys → map spell xs ≡ map spell ys → xs ≡ ys
    one_map [] [] h k e = refl
    one_map [] (y ∷ ys) h k e = absurd (cc)
    one_map (x ∷ xs) [] h k e = absurd (cc)
    one_map (x ∷ xs) (y ∷ ys) h k e =
        let a : spell x ≡ spell y = cc in
        let b : map spell xs ≡ map spell ys = cc in
        let f : x ≡ y = one x y (All-head Fits x xs h) (All-head Fits y ys k) a in
        let g : xs ≡ ys = one_map xs ys (All-tail Fits x xs h) (All-tail Fits y ys k) b in
        λ i. f i ∷ g i

  module _ (word : (x : A) → Fits x → IsWord (spell x)) where
    whole : (xs : List A) → All Fits xs → All (IsWithout 32) (map spell xs)
    whole [] h = All-nil (IsWithout 32)
    whole (x ∷ xs) h = All-cons (IsWithout 32) (spell x) (map spell xs) (word x (All-head Fits x xs h)).no_blank (whole xs (All-tail Fits x xs h))

abbrev pub IsShortNumber : ℕ → Type 0
IsShortNumber n = n < 10 ^ 64

module _ (laws : WordTheorems) where
  pub one_words : (first : List ℕ) (words others : List (List ℕ)) → IsWithout 32 first → All (IsWithout 32) words → All (IsWithout 32) others → line first words ≡ line first others → words ≡ others
  one_words first words others h k l e =
      laws.one_list (line first words) first first words others (record { joined = refl; first_whole = h; words_whole = k }) (record { joined = e; first_whole = h; words_whole = l })

  pub one_decimal : (m n : ℕ) → IsShortNumber m → IsShortNumber n → decimal m ≡ decimal n → m ≡ n
  one_decimal m n h k e = laws.one_natural m n (laws.printed m h ∙ e ∙ sym (laws.printed n k))

  pub decimal_word : (n : ℕ) → IsShortNumber n → IsWord (decimal n)
  decimal_word n h = subst IsWord (laws.printed n h) (laws.natural_word n)

  -- a line of natural numbers
  pub one_naturals : (first : List ℕ) (xs ys : List ℕ) → IsWithout 32 first → All IsShortNumber xs → All IsShortNumber ys → line first (map decimal xs) ≡ line first (map decimal ys) → xs ≡ ys
  one_naturals first xs ys h k l e =
      one_map decimal IsShortNumber one_decimal xs ys k l
      (one_words first (map decimal xs) (map decimal ys) h (whole decimal IsShortNumber decimal_word xs k) (whole decimal IsShortNumber decimal_word ys l) e)

  pub one_count : (first : List ℕ) (m n : ℕ) → IsWithout 32 first → IsShortNumber m → IsShortNumber n → line first (decimal m ∷ []) ≡ line first (decimal n ∷ []) → m ≡ n
  one_count first m n h k l e =
      let all : (n : ℕ) → IsShortNumber n → All IsShortNumber (n ∷ []) = λ n h. All-cons IsShortNumber n [] h (All-nil IsShortNumber) in
      let same : ◌≡◌ {A = List ℕ} (m ∷ []) (n ∷ []) = one_naturals first (m ∷ []) (n ∷ []) h (all m k) (all n l) e in
      cc

  -- a line of whole numbers
  wide : (z : ℤ) → unsigned_abs z < 2 ^ 127 → unsigned_abs z < 10 ^ 64
  wide z h = omega arith

  pub one_integers : (first : List ℕ) (xs ys : List ℤ) → IsWithout 32 first → AreSmall xs → AreSmall ys → integers_line first xs ≡ integers_line first ys → xs ≡ ys
  one_integers first xs ys h k l e =
      let Small : ℤ → Type 0 = λ z. unsigned_abs z < 2 ^ 127 in
      let one : (y z : ℤ) → Small y → Small z → signed_decimal y ≡ signed_decimal z → y ≡ z = λ y z s t. laws.one_integer y z (wide y s) (wide z t) in
      let word : (z : ℤ) → Small z → IsWord (signed_decimal z) = λ z s. laws.integer_word z (wide z s) in
      one_map signed_decimal Small one xs ys k l
      (one_words first (map signed_decimal xs) (map signed_decimal ys) h (whole signed_decimal Small word xs k) (whole signed_decimal Small word ys l) e)

  -- a line of fractions
  pub one_fractions : (first : List ℕ) (xs ys : List ℚ) → IsWithout 32 first → AllFit xs → AllFit ys → fractions_line first xs ≡ fractions_line first ys → xs ≡ ys
  one_fractions first xs ys h k l e =
      one_map text_of FitsFrac laws.one_fraction xs ys k l
      (one_words first (map text_of xs) (map text_of ys) h (whole text_of FitsFrac laws.fraction_word xs k) (whole text_of FitsFrac laws.fraction_word ys l) e)

  -- a certificate's line
  abbrev pub IsShortPair : (ℕ × ℚ) → Type 0
  IsShortPair pair = IsShortNumber pair.0 × FitsFrac pair.1

  whole_pairs : (xs : List (ℕ × ℚ)) → All IsShortPair xs → All (IsWithout 32) (flat_map pair_words xs)
  whole_pairs [] h = All-nil (IsWithout 32)
  whole_pairs ((n, x) ∷ xs) h =
      let fits : IsShortPair (n, x) = All-head IsShortPair (n, x) xs h in
      All-cons (IsWithout 32) (decimal n) (text_of x ∷ flat_map pair_words xs) (decimal_word n fits.0).no_blank
      (All-cons (IsWithout 32) (text_of x) (flat_map pair_words xs) (laws.fraction_word x fits.1).no_blank (whole_pairs xs (All-tail IsShortPair (n, x) xs h)))

  one_pairs : (xs ys : List (ℕ × ℚ)) → All IsShortPair xs → All IsShortPair ys → flat_map pair_words xs ≡ flat_map pair_words ys → xs ≡ ys
  one_pairs [] [] h k e = refl
  one_pairs [] ((m, y) ∷ ys) h k e = absurd (cc)
  one_pairs ((n, x) ∷ xs) [] h k e = absurd (cc)
  one_pairs ((n, x) ∷ xs) ((m, y) ∷ ys) h k e =
      let a : decimal n ≡ decimal m = cc in
      let b : text_of x ≡ text_of y = cc in
      let c : flat_map pair_words xs ≡ flat_map pair_words ys = cc in
      let left : IsShortPair (n, x) = All-head IsShortPair (n, x) xs h in
      let right : IsShortPair (m, y) = All-head IsShortPair (m, y) ys k in
      let p : n ≡ m = one_decimal n m left.0 right.0 a in
      let q : x ≡ y = laws.one_fraction x y left.1 right.1 b in
      let r : xs ≡ ys = one_pairs xs ys (All-tail IsShortPair (n, x) xs h) (All-tail IsShortPair (m, y) ys k) c in
      λ i. (p i, q i) ∷ r i

  pub one_cert : (xs ys : List (ℕ × ℚ)) → All IsShortPair xs → All IsShortPair ys → cert_line xs ≡ cert_line ys → xs ≡ ys
  one_cert xs ys h k e =
      one_pairs xs ys h k (one_words (99 ∷ 101 ∷ 114 ∷ 116 ∷ []) (flat_map pair_words xs) (flat_map pair_words ys) (without 32 (99 ∷ 101 ∷ 114 ∷ 116 ∷ []) refl) (whole_pairs xs h) (whole_pairs ys k) e)
