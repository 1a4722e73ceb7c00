-- Numerals: how they grow by a digit, which number their digits stand for, and that such digits are a numeral.
use Rattle.std.proofs.Common.{◌≡◌, ◌≢◌, ℕ, zero, suc, ◌+◌, ◌-◌, ◌*◌, ◌/◌, ◌%◌, ◌^◌, ◌<◌, ◌≤◌, Bool, true, false, cond, ◌&&◌, eqb, ltb, List, [], ◌∷◌, ◌++◌, map, length, get_or, take, refl, sym, ap, ◌∙◌, subst, arith, ◌⊎◌, inl, inr, ⊎_elim, decimal, append_assoc, append-nil, length-append, lit<, lit≤, rules}
use Rattle.std.specs.Int.{IsInRange}
use Rattle.std.specs.Int.Digits.{digits_of}
use Rattle.std.specs.List.{list_all}
use Rattle.std.specs.Char.{digit_value, is_ascii_digit}
use Rattle.std.specs.Str.Parse.{AllDigits, digits_value, digits_value_after}
use Rattle.std.proofs.lemmas.Int.Digits.{digits_of_step, digits_value_push, digits_push, digits_value_more}
use Rattle.std.proofs.lemmas.List.{map-append}
use Rattle.std.proofs.lemmas.Fmt.{decimal_by_steps_wide}
use Rattle.std.proofs.lemmas.Str.{digit_value_digit}
use Rattle.std.proofs.lemmas.Str.Parse.{digit_from_value, digit_at, digits_value-take-le, digits_value_short, IsDigitsTest, IsNumeralModel, numerals_by_value}
use Rattle.std.proofs.lemmas.Bool.{cases_lt, lt-ltb, eqb-true, eqb-false, ne_eqb, false≢true, and_from, and_parts, cond-false}
use Rattle.std.proofs.lemmas.List.Elements.{All-nil, All-cons}
use Rattle.mpc_words.specs.Numerals.{numeral, is_numeral}
use Rattle.mpc_words.specs.Words.{IsWithout, IsWord}

-- ---- one digit more
some_is : (n : ℕ) → 0 < n → numeral n ≡ map (λ digit. 48 + digit) (digits_of 10 n)
unfolding numeral
some_is n h = cond-false (eqb n 0) (48 ∷ []) (map (λ digit. 48 + digit) (digits_of 10 n)) (ne_eqb n 0 (λ e. omega arith))

tens : (n : ℕ) → 0 < n → map (λ digit. 48 + digit) (digits_of 10 n) ≡ map (λ digit. 48 + digit) (digits_of 10 (n / 10)) ++ ((48 + n % 10) ∷ [])
tens n some =
    ap (map (λ digit. 48 + digit)) (digits_of_step 10 n (lit≤ tt) some) ∙ map-append (λ digit. 48 + digit) (digits_of 10 (n / 10)) (n % 10 ∷ [])

zero_is : numeral 0 ≡ 48 ∷ []
unfolding numeral
zero_is = refl

pub numeral_digit : (n : ℕ) → n < 10 → numeral n ≡ (48 + n) ∷ []
numeral_digit zero h = zero_is
numeral_digit (suc n) h =
    let none : suc n / 10 ≡ 0 = omega arith in
    let whole : suc n % 10 ≡ suc n = omega arith in
    some_is (suc n) (omega arith) ∙ tens (suc n) (omega arith) ∙ (λ i. map (λ digit. 48 + digit) (digits_of 10 (none i)) ++ ((48 + whole i) ∷ []))

pub numeral_step : (n : ℕ) → 10 ≤ n → numeral n ≡ numeral (n / 10) ++ ((48 + n % 10) ∷ [])
numeral_step n h =
    some_is n (omega arith) ∙ tens n (omega arith) ∙ ap (λ ds. ds ++ ((48 + n % 10) ∷ [])) (sym (some_is (n / 10) (omega arith)))

-- induction on the digits: one digit, then one more at the end
module _ (P : ℕ → List ℕ → Type 0) (one : (n : ℕ) → n < 10 → P n ((48 + n) ∷ [])) (more : (n : ℕ) (ds : List ℕ) → 10 ≤ n → P (n / 10) ds → P n (ds ++ ((48 + n % 10) ∷ []))) where
  by : (k n : ℕ) → n ≤ k → P n (numeral n)
  by zero n le = subst (P n) (sym (numeral_digit n (omega arith))) (one n (omega arith))
  by (suc k) n le = ⊎_elim
      (λ l. subst (P n) (sym (numeral_digit n l)) (one n l))
      (λ l. subst (P n) (sym (numeral_step n l)) (more n (numeral (n / 10)) l (by k (n / 10) (omega arith))))
      (cases_lt n 10)

  pub numeral_by_steps : (n : ℕ) → P n (numeral n)
  numeral_by_steps n = by n n (omega arith)

-- what is printed is the numeral
pub printed : (n : ℕ) → n < 10 ^ 64 → numeral n ≡ decimal n
printed n h =
    decimal_by_steps_wide (λ m ds. numeral m ≡ ds) numeral_digit (λ m ds l e. numeral_step m l ∙ ap (λ xs. xs ++ ((48 + m % 10) ∷ [])) e) n h

-- ---- the digits of a number
glyph_value : (d : ℕ) → d < 10 → digit_value (48 + d) ≡ d
glyph_value d h =
    let at : IsInRange 48 57 (48 + d) = (omega arith, omega arith) in
    omega (arith, digit_value_digit (48 + d) at)

-- these digits stand for the number, and the first is no zero in front
pub record AreDigitsOf (n : ℕ) (ds : List ℕ) : Type 0 where
  pub some : 0 < length ds
  pub digits : AllDigits 10 ds
  pub value : digits_value 10 ds ≡ n
  pub first : 0 < n → 48 < get_or ds 0 0
  pub none : n ≡ 0 → ds ≡ 48 ∷ []

glyph_is_digit : (d : ℕ) → d < 10 → digit_value (48 + d) < 10
glyph_is_digit d h = subst (λ v. v < 10) (sym (glyph_value d h)) h

one_digit : (n : ℕ) → n < 10 → AreDigitsOf n ((48 + n) ∷ [])
one_digit n h = record {
  some = lit< tt;
  digits = (glyph_is_digit n h, tt);
  value = omega (arith, glyph_value n h);
  first = λ some. omega arith;
  none = λ e. ap (λ d. (48 + d) ∷ []) e;
}

first_of : (ds : List ℕ) (c : ℕ) → 0 < length ds → get_or (ds ++ (c ∷ [])) 0 0 ≡ get_or ds 0 0
first_of [] c h = absurd (omega arith)
first_of (d ∷ ds) c h = refl

more_digits : (n : ℕ) (ds : List ℕ) → 10 ≤ n → AreDigitsOf (n / 10) ds → AreDigitsOf n (ds ++ ((48 + n % 10) ∷ []))
more_digits n ds h of = record {
  some = omega (arith, length-append ds ((48 + n % 10) ∷ []));
  digits = digits_push 10 ds (48 + n % 10) of.digits (glyph_is_digit (n % 10) (omega arith));
  value =
      let last : digit_value (48 + n % 10) ≡ n % 10 = glyph_value (n % 10) (omega arith) in
      digits_value_push 10 ds (48 + n % 10) ∙ (λ i. of.value i * 10 + last i) ∙ omega arith;
  first = λ some. subst (λ c. 48 < c) (sym (first_of ds (48 + n % 10) of.some)) (of.first (omega arith));
  none = λ e. absurd (omega arith);
}

pub digits_are : (n : ℕ) → AreDigitsOf n (numeral n)
digits_are n = numeral_by_steps AreDigitsOf one_digit more_digits n

pub one_number : (m n : ℕ) → numeral m ≡ numeral n → m ≡ n
one_number m n e = sym (digits_are m).value ∙ ap (digits_value 10) e ∙ (digits_are n).value

-- ---- digits without a zero in front are a numeral
char_is : (c : ℕ) → digit_value c < 10 → 48 + digit_value c ≡ c
char_is c h = omega (arith, digit_value_digit c (digit_from_value c h))

push_digit : (n d : ℕ) → 0 < n → d < 10 → numeral (n * 10 + d) ≡ numeral n ++ ((48 + d) ∷ [])
push_digit n d some h =
    let front : (n * 10 + d) / 10 ≡ n = omega arith in
    let last : (n * 10 + d) % 10 ≡ d = omega arith in
    numeral_step (n * 10 + d) (omega arith) ∙ (λ i. numeral (front i) ++ ((48 + last i) ∷ []))

digits_behind : (n : ℕ) (cs : List ℕ) → 0 < n → AllDigits 10 cs → numeral (digits_value_after 10 n cs) ≡ numeral n ++ cs
digits_behind n [] some h = sym (append-nil (numeral n))
digits_behind n (c ∷ cs) some h =
    digits_behind (n * 10 + digit_value c) cs (omega arith) h.1
    ∙ ap (λ ds. ds ++ cs) (push_digit n (digit_value c) some h.0 ∙ ap (λ d. numeral n ++ (d ∷ [])) (char_is c h.0))
    ∙ append_assoc (numeral n) (c ∷ []) cs

spelled_from_first : (c : ℕ) (cs : List ℕ) → c ≢ 48 → AllDigits 10 (c ∷ cs) → numeral (digits_value 10 (c ∷ cs)) ≡ c ∷ cs
spelled_from_first c cs ne h =
    let at : 48 + digit_value c ≡ c = char_is c h.0 in
    let value : 0 * 10 + digit_value c ≡ digit_value c = omega arith in
    digits_behind (0 * 10 + digit_value c) cs (omega (arith, ne)) h.1
    ∙ ap (λ ds. ds ++ cs) (ap numeral value ∙ numeral_digit (digit_value c) h.0 ∙ ap (λ d. d ∷ []) at)

-- ---- the test
test_is_of_digits : IsDigitsTest (λ ds. list_all is_ascii_digit ds ≡ true)
test_is_of_digits = search rules

digits_by_test : IsNumeralModel (λ ds. list_all is_ascii_digit ds ≡ true) (digits_value 10)
digits_by_test = numerals_by_value (λ ds. list_all is_ascii_digit ds ≡ true) test_is_of_digits

-- a word of digits is the numeral of the number that they stand for
record IsOwnNumeral (word : List ℕ) : Type 0 where
  digits : AllDigits 10 word
  spelled : word ≡ numeral (digits_value 10 word)

zero_alone : (c : ℕ) (cs : List ℕ) → c ≡ 48 → length (c ∷ cs) ≡ 1 → IsOwnNumeral (c ∷ cs)
zero_alone c [] e one = subst (λ d. IsOwnNumeral (d ∷ [])) (sym e) (record { digits = (lit< tt, tt); spelled = sym (numeral_digit 0 (lit< tt)) })
zero_alone c (d ∷ cs) e one = absurd (omega arith)

own_numeral_at : (c : ℕ) (cs : List ℕ) (b : Bool) → eqb c 48 ≡ b → cond b (eqb (length (c ∷ cs)) 1) (ltb 0 (length (c ∷ cs)) && list_all is_ascii_digit (c ∷ cs)) ≡ true → IsOwnNumeral (c ∷ cs)
own_numeral_at c cs true e h = zero_alone c cs (eqb-true c 48 e) (eqb-true (length (c ∷ cs)) 1 h)
own_numeral_at c cs false e h =
    let digits : AllDigits 10 (c ∷ cs) = digits_by_test.to (c ∷ cs) (and_parts (ltb 0 (length (c ∷ cs))) (list_all is_ascii_digit (c ∷ cs)) h).1 in
    record { digits = digits; spelled = sym (spelled_from_first c cs (eqb-false c 48 e) digits) }

own_numeral : (word : List ℕ) → is_numeral word ≡ true → IsOwnNumeral word
own_numeral [] h = cc
own_numeral (c ∷ cs) h = own_numeral_at c cs (eqb c 48) refl h

pub digits_of_numeral : (word : List ℕ) → is_numeral word ≡ true → AllDigits 10 word
digits_of_numeral word h = (own_numeral word h).digits

pub spelled_numeral : (word : List ℕ) → is_numeral word ≡ true → word ≡ numeral (digits_value 10 word)
spelled_numeral word h = (own_numeral word h).spelled

passes : (n : ℕ) (ds : List ℕ) → AreDigitsOf n ds → (0 < n) ⊎ (n ≡ 0) → is_numeral ds ≡ true
passes n ds h cases = ⊎_elim
    (λ some. let ne : get_or ds 0 0 ≡ 48 → ⊥ = λ e. omega (arith, h.first some) in cond-false (eqb (get_or ds 0 0) 48) (eqb (length ds) 1) (ltb 0 (length ds) && list_all is_ascii_digit ds) (ne_eqb (get_or ds 0 0) 48 ne) ∙ and_from (ltb 0 (length ds)) (list_all is_ascii_digit ds) (lt-ltb 0 (length ds) h.some) (digits_by_test.from ds h.digits))
    (λ none. ap is_numeral (h.none none))
    cases

-- a word that fails the test is no numeral
pub no_numeral : (word : List ℕ) → is_numeral word ≡ false → (n : ℕ) → word ≢ numeral n
no_numeral word h n e = false≢true (sym h ∙ ap is_numeral e ∙ passes n (numeral n) (digits_are n) (some_or_none n))
  where
    some_or_none : (n : ℕ) → (0 < n) ⊎ (n ≡ 0)
    some_or_none zero = inr refl
    some_or_none (suc n) = inl (omega arith)

-- ---- numerals are words
no_digit : (c d : ℕ) → IsInRange 48 57 c → d < 48 → eqb c d ≡ false
no_digit c d h low = ne_eqb c d (λ e. omega arith)

without : (byte : ℕ) → byte < 48 → (cs : List ℕ) → AllDigits 10 cs → IsWithout byte cs
without byte low [] h = All-nil (λ c. eqb c byte ≡ false)
without byte low (c ∷ cs) h =
    All-cons (λ c. eqb c byte ≡ false) c cs (no_digit c byte (digit_from_value c h.0) low) (without byte low cs h.1)

pub numeral_without : (byte n : ℕ) → byte < 48 → IsWithout byte (numeral n)
numeral_without byte n low = without byte low (numeral n) (digits_are n).digits

pub numeral_word : (n : ℕ) → IsWord (numeral n)
numeral_word n = record {
  some = (digits_are n).some;
  no_blank = numeral_without 32 n (lit< tt);
  no_line_feed = numeral_without 10 n (lit< tt);
}

-- ---- the number of digits, read one after another
module _ (ds : List ℕ) (i : ℕ) (here : i < length ds) (h : AllDigits 10 ds) where
  pub digit_low : 48 ≤ get_or ds i 0
  digit_low = (digit_at ds i h here).0

  pub next_value : (value digit : ℕ) → value ≡ digits_value 10 (take i ds) → digit ≡ get_or ds i 0 - 48 → value * 10 + digit ≡ digits_value 10 (take (i + 1) ds)
  next_value value digit e d =
      let at : digit_value (get_or ds i 0) + 48 ≡ get_or ds i 0 = digit_value_digit (get_or ds i 0) (digit_at ds i h here) in
      let same : digit ≡ digit_value (get_or ds i 0) = omega (arith, at) in
      (λ j. e j * 10 + same j) ∙ sym (digits_value_more 10 ds i here)

  pub next_short : (value digit : ℕ) → value ≡ digits_value 10 (take i ds) → digit ≡ get_or ds i 0 - 48 → length ds ≤ 19 → value * 10 + digit < 2 ^ 64
  next_short value digit e d few =
      let up : digits_value 10 (take (i + 1) ds) ≤ digits_value 10 ds = digits_value-take-le 10 ds (i + 1) (lit≤ tt) in
      let low : digits_value 10 ds < 10 ^ 19 = digits_value_short digits_by_test ds 19 (digits_by_test.from ds h) few in
      let at = next_value value digit e d in
      omega arith

  pub too_large : (value : ℕ) → value ≡ digits_value 10 (take i ds) → 170141183460469231731687303715884105727 / 10 < value → digits_value 10 ds < 2 ^ 127 → ⊥
  too_large value e large small =
      let up : digits_value 10 (take (i + 1) ds) ≤ digits_value 10 ds = digits_value-take-le 10 ds (i + 1) (lit≤ tt) in
      let here' = digits_value_more 10 ds i here in
      omega arith

  pub next_too_large : (value digit : ℕ) → value ≡ digits_value 10 (take i ds) → digit ≡ get_or ds i 0 - 48 → 170141183460469231731687303715884105727 < value * 10 + digit → digits_value 10 ds < 2 ^ 127 → ⊥
  next_too_large value digit e d large small =
      let up : digits_value 10 (take (i + 1) ds) ≤ digits_value 10 ds = digits_value-take-le 10 ds (i + 1) (lit≤ tt) in
      let at = next_value value digit e d in
      omega arith
