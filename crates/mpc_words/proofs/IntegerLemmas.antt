-- The texts of whole numbers.
use Rattle.std.proofs.Common.{◌≡◌, ◌≢◌, ℕ, zero, suc, ◌^◌, ◌<◌, false, eqb, List, ◌∷◌, length, get_or, ℤ, pos, negsuc, neg_ℤ, unsigned_abs, Option, Some, None, MatchOption, to_z, of_z, decimal, refl, sym, ap, ◌∙◌, subst, arith, lit<}
use Rattle.std.specs.Fmt.{signed_decimal}
use Rattle.std.proofs.lemmas.Bool.{ne_eqb}
use Rattle.std.proofs.lemmas.List.Elements.{All-cons, All-head}
use Rattle.std.specs.Int.{w128}
use Rattle.std.proofs.lemmas.Int.{fits_signed_from_abs, to_z-of_z}
use Rattle.mpc_words.specs.Numerals.{numeral}
use Rattle.mpc_words.specs.Words.{IsWithout, IsWord}
use Rattle.mpc_words.specs.Spelled.{SpellsBelow, SpellsInteger}
use Rattle.mpc_words.proofs.NumeralLemmas.{printed, one_number, numeral_without, digits_are}

-- the digits of the size, which fits
pub printed_small : (n : ℕ) → n < 2 ^ 127 → numeral n ≡ decimal n
printed_small n h = printed n (omega arith)

pub decimal_without : (byte n : ℕ) → byte < 48 → n < 10 ^ 64 → IsWithout byte (decimal n)
decimal_without byte n low h = subst (IsWithout byte) (printed n h) (numeral_without byte n low)

decimal_some : (n : ℕ) → n < 10 ^ 64 → 0 < length (decimal n)
decimal_some n h = subst (λ ds. 0 < length ds) (printed n h) (digits_are n).some

-- a byte below the digits and other than the minus doesn't stand in a whole number
pub signed_without : (byte : ℕ) (z : ℤ) → byte < 45 → unsigned_abs z < 10 ^ 64 → IsWithout byte (signed_decimal z)
signed_without byte (pos n) low h = decimal_without byte n (omega arith) h
signed_without byte (negsuc n) low h =
    All-cons (λ c. eqb c byte ≡ false) 45 (decimal (suc n)) (ne_eqb 45 byte (λ e. omega arith)) (decimal_without byte (suc n) (omega arith) h)

pub signed_without_slash : (z : ℤ) → unsigned_abs z < 10 ^ 64 → IsWithout 47 (signed_decimal z)
signed_without_slash (pos n) h = decimal_without 47 n (lit< tt) h
signed_without_slash (negsuc n) h = All-cons (λ c. eqb c 47 ≡ false) 45 (decimal (suc n)) refl (decimal_without 47 (suc n) (lit< tt) h)

signed_some : (z : ℤ) → unsigned_abs z < 10 ^ 64 → 0 < length (signed_decimal z)
signed_some (pos n) h = decimal_some n h
signed_some (negsuc n) h = omega arith

pub signed_word : (z : ℤ) → unsigned_abs z < 10 ^ 64 → IsWord (signed_decimal z)
signed_word z h = record {
  some = signed_some z h;
  no_blank = signed_without 32 z (lit< tt) h;
  no_line_feed = signed_without 10 z (lit< tt) h;
}

-- ---- one number only
same_decimal : (m n : ℕ) → m < 10 ^ 64 → n < 10 ^ 64 → decimal m ≡ decimal n → m ≡ n
same_decimal m n h k e = one_number m n (printed m h ∙ e ∙ sym (printed n k))

-- a natural number has no minus
no_minus : (n : ℕ) (ds : List ℕ) → n < 10 ^ 64 → 45 ∷ ds ≡ decimal n → ⊥
no_minus n ds h e = let at : eqb 45 45 ≡ false = All-head (λ c. eqb c 45 ≡ false) 45 ds (subst (IsWithout 45) (sym e) (decimal_without 45 n (lit< tt) h)) in cc

tail_same : (xs ys : List ℕ) (a : ℕ) → ◌≡◌ {A = List ℕ} (a ∷ xs) (a ∷ ys) → xs ≡ ys
tail_same xs ys a e = cc

pub one_integer : (y z : ℤ) → unsigned_abs y < 10 ^ 64 → unsigned_abs z < 10 ^ 64 → signed_decimal y ≡ signed_decimal z → y ≡ z
one_integer (pos m) (pos n) h k e = ap pos (same_decimal m n h k e)
one_integer (pos m) (negsuc n) h k e = absurd (no_minus m (decimal (suc n)) h (sym e))
one_integer (negsuc m) (pos n) h k e = absurd (no_minus n (decimal (suc m)) k e)
one_integer (negsuc m) (negsuc n) h k e =
    let same : suc m ≡ suc n = same_decimal (suc m) (suc n) h k (tail_same (decimal (suc m)) (decimal (suc n)) 45 e) in
    let less : m ≡ n = omega arith in
    ap negsuc less

pub one_spelled : (word : List ℕ) (y z : ℤ) → SpellsInteger word y → SpellsInteger word z → y ≡ z
one_spelled word y z h k = one_integer y z (omega (arith, h.fits)) (omega (arith, k.fits)) (sym h.spelled ∙ k.spelled)

-- ---- behind a minus
pub record IsMinus (size : List ℕ) (z : ℤ) : Type 0 where
  pub number : ℕ
  pub spelled : SpellsBelow (2 ^ 127) size number
  pub some : 0 < number

pub minus_of : (size : List ℕ) (z : ℤ) → SpellsInteger (45 ∷ size) z → IsMinus size z
minus_of size (pos n) s = absurd (no_minus n size (omega (arith, s.fits)) s.spelled)
minus_of size (negsuc n) s = record {
  number = suc n;
  spelled = record { spelled = tail_same size (decimal (suc n)) 45 s.spelled ∙ sym (printed_small (suc n) s.fits); below = s.fits };
  some = omega arith;
}

pub no_minus_zero : (size : List ℕ) (n : ℕ) → SpellsBelow (2 ^ 127) size n → n ≡ 0 → (z : ℤ) → ¬ SpellsInteger (45 ∷ size) z
no_minus_zero size n h e z s =
    let m = minus_of size z s in
    let same : n ≡ m.number = one_number n m.number (sym h.spelled ∙ m.spelled.spelled) in
    let some = m.some in
    omega arith

pub minus_spelled : (size : List ℕ) (n : ℕ) (z : ℤ) → SpellsBelow (2 ^ 127) size n → n ≢ 0 → z ≡ neg_ℤ (pos n) → SpellsInteger (45 ∷ size) z
minus_spelled size zero z h some e = absurd (some refl)
minus_spelled size (suc n) z h some e =
    let at : SpellsInteger (45 ∷ size) (negsuc n) = record { spelled = ap (λ ds. 45 ∷ ds) (h.spelled ∙ printed_small (suc n) h.below); fits = h.below } in
    subst (SpellsInteger (45 ∷ size)) (sym e) at

-- ---- without a minus
pub plain_of : (word : List ℕ) (z : ℤ) → get_or word 0 0 ≢ 45 → SpellsInteger word z → SpellsBelow (2 ^ 127) word (unsigned_abs z)
plain_of word (pos n) ne s = record { spelled = s.spelled ∙ sym (printed_small n s.fits); below = s.fits }
plain_of word (negsuc n) ne s = absurd (ne (ap (λ ds. get_or ds 0 0) s.spelled))

pub plain_spelled : (word : List ℕ) (n : ℕ) (z : ℤ) → SpellsBelow (2 ^ 127) word n → z ≡ pos n → SpellsInteger word z
plain_spelled word n z h e =
    let at : SpellsInteger word (pos n) = record { spelled = h.spelled ∙ printed_small n h.below; fits = h.below } in
    subst (SpellsInteger word) (sym e) at

-- the numbers as the code has them
read_back : (z : ℤ) → unsigned_abs z < 2 ^ 127 → to_z w128 (of_z w128 z) ≡ z
read_back z h = to_z-of_z w128 z (fits_signed_from_abs w128 z h)

size-neg : (n : ℕ) → unsigned_abs (neg_ℤ (pos n)) ≡ n
size-neg zero = refl
size-neg (suc n) = refl

pub negative_back : (n : ℕ) (z : ℤ) → n < 2 ^ 127 → z ≡ neg_ℤ (pos n) → to_z w128 (of_z w128 z) ≡ neg_ℤ (pos n)
negative_back n z h e =
    ap (λ y. to_z w128 (of_z w128 y)) e ∙ read_back (neg_ℤ (pos n)) (subst (λ m. m < 2 ^ 127) (sym (size-neg n)) h)

pub as_cast : (word : List ℕ) (z : ℤ) → SpellsInteger word z → SpellsInteger word (to_z w128 (of_z w128 z))
as_cast word z s = subst (SpellsInteger word) (sym (read_back z s.fits)) s

pub none_behind_minus : (size : List ℕ) (r : Option ℤ) → r ≡ None → ((n : ℕ) → ¬ SpellsBelow (2 ^ 127) size n) → MatchOption r ((z : ℤ) → ¬ SpellsInteger (45 ∷ size) z) (λ z. SpellsInteger (45 ∷ size) z)
none_behind_minus size None e none = λ z s. let m = minus_of size z s in none m.number m.spelled
none_behind_minus size (Some y) e none = cc

pub none_without_minus : (word : List ℕ) (r : Option ℤ) → get_or word 0 0 ≢ 45 → r ≡ None → ((n : ℕ) → ¬ SpellsBelow (2 ^ 127) word n) → MatchOption r ((z : ℤ) → ¬ SpellsInteger word z) (λ z. SpellsInteger word z)
none_without_minus word None ne e none = λ z s. none (unsigned_abs z) (plain_of word z ne s)
none_without_minus word (Some y) ne e none = cc
