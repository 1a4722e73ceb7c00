-- The texts of fractions.
use Rattle.std.proofs.Common.{◌≡◌, ◌≢◌, ℕ, zero, suc, ◌^◌, ◌<◌, false, eqb, List, ◌∷◌, ◌++◌, ℤ, pos, unsigned_abs, decimal, codes, Option, Some, None, MatchOption, Result, Err, refl, sym, ap, ◌∙◌, subst, arith, lit<, ⊎_elim, append_assoc, length-append}
use Rattle.std.specs.Fmt.{signed_decimal}
use Rattle.std.proofs.lemmas.Bool.{eq-eqb, ne_eqb, cond-true, cond-false, cases_eq}
use Rattle.std.proofs.lemmas.List.Elements.{All-append, All-cons}
use native.Mathlib.Nat.{eq-one_of_dvd-one}
use Rattle.mpc_exact.specs.Gcd.{gcd-divides_right}
use Rattle.mpc_exact.specs.Rational.{ℚ, int, quotient, frac_parts, frac_self, denom_positive, same_parts}
use Rattle.mpc_exact.proofs.School.{quotient_positive}
use Rattle.mpc_frac.specs.Fits.{FitsFrac}
use Rattle.mpc_frac.specs.Text.{text_of}
use Rattle.mpc_frac.specs.declared.FracError.{FracError}
use Rattle.mpc_frac.specs.declared.FracError.TheVariants.{ZeroDenominator, Wide}
use Rattle.mpc_words.specs.Words.{IsWithout, IsCutAt, IsWord}
use Rattle.mpc_words.specs.Spelled.{SpellsBelow, SpellsInteger, SpellsFraction, SpellsWhole, SpellsRatio, HasParts}
use Rattle.mpc_words.proofs.LineLemmas.{has_byte, same_front, same_back}
use Rattle.mpc_words.proofs.NumeralLemmas.{one_number}
use Rattle.mpc_words.proofs.IntegerLemmas.{signed_word, signed_without, signed_without_slash, one_spelled, printed_small, decimal_without}

-- ---- the parts of a quotient
no_zero : (d : ℕ) → 0 < d → pos d ≢ pos 0
no_zero zero h e = omega arith
no_zero (suc d) h e = cc

quotient_self : (x : ℚ) → quotient x.numer (pos x.denom) ≡ x
quotient_self x = quotient_positive x.numer x.denom (denom_positive x) ∙ frac_self x

module _ (x : ℚ) (num den : ℤ) (h : HasParts x num den) where
  pub quotient_at : quotient num den ≡ x
  quotient_at = (λ i. quotient (sym h.numer_is i) (sym h.denom_is i)) ∙ quotient_self x

  pub no_error : (e : FracError) → FitsFrac x → (◌≡◌ {A = Result ℚ FracError} (Err e) (Err ZeroDenominator) → den ≡ pos 0) → (◌≡◌ {A = Result ℚ FracError} (Err e) (Err Wide) → (den ≢ pos 0) × (¬ FitsFrac (quotient num den))) → ⊥
  no_error ZeroDenominator fits zero_only wide_only = no_zero x.denom (denom_positive x) (h.denom_is ∙ zero_only refl)
  no_error Wide fits zero_only wide_only = (wide_only refl).1 (subst FitsFrac (sym quotient_at) fits)

pub parts_as : (x : ℚ) (num den num' den' : ℤ) → num' ≡ num → den' ≡ den → HasParts x num den → HasParts x num' den'
parts_as x num den num' den' e k h = record { numer_is = h.numer_is ∙ sym e; denom_is = h.denom_is ∙ sym k }

pub other_parts : (x y : ℚ) (num den : ℤ) → y ≡ quotient num den → ¬ HasParts y num den → ¬ HasParts x num den
other_parts x y num den e apart h = apart (subst (λ z. HasParts z num den) (sym (e ∙ quotient_at x num den h)) h)

pub parts_of_whole : (z : ℤ) (x : ℚ) → x ≡ int z → HasParts x z (pos 1)
parts_of_whole z x e =
    let parts = frac_parts z 1 (lit< tt) (eq-one_of_dvd-one (gcd-divides_right (unsigned_abs z) 1)) in
    subst (λ y. HasParts y z (pos 1)) (sym e) (record { numer_is = parts.0; denom_is = ap pos parts.1 })

-- ---- the two forms of a text
text_whole : (x : ℚ) → x.denom ≡ 1 → text_of x ≡ signed_decimal x.numer
text_whole x e =
    cond-true (eqb x.denom 1) (signed_decimal x.numer) (signed_decimal x.numer ++ codes "/" ++ decimal x.denom) (eq-eqb x.denom 1 e)

text_ratio : (x : ℚ) → x.denom ≢ 1 → text_of x ≡ signed_decimal x.numer ++ 47 ∷ decimal x.denom
text_ratio x ne =
    cond-false (eqb x.denom 1) (signed_decimal x.numer) (signed_decimal x.numer ++ codes "/" ++ decimal x.denom) (ne_eqb x.denom 1 ne)
    ∙ append_assoc (signed_decimal x.numer) (codes "/") (decimal x.denom)

-- ---- a word without a slash
whole_numer : (word : List ℕ) (x : ℚ) → SpellsFraction word x → x.denom ≡ 1 → SpellsInteger word x.numer
whole_numer word x s e = record { spelled = s.spelled ∙ text_whole x e; fits = s.fits.0 }

pub whole_of : (word : List ℕ) → IsWithout 47 word → (x : ℚ) → SpellsFraction word x → SpellsWhole word x
whole_of word h x s = ⊎_elim
    (λ e. record { numer = whole_numer word x s e; denom = e })
    (λ ne. absurd (has_byte 47 (signed_decimal x.numer) (decimal x.denom) (subst (IsWithout 47) (s.spelled ∙ text_ratio x ne) h)))
    (cases_eq x.denom 1)

pub from_whole : (word : List ℕ) (x : ℚ) → SpellsWhole word x → SpellsFraction word x
from_whole word x w = record { spelled = w.numer.spelled ∙ sym (text_whole x w.denom); fits = (w.numer.fits, omega (arith, w.denom)) }

-- ---- a word with a slash
module _ (word above below : List ℕ) (cut : IsCutAt 47 word above below) where
  no_whole : (x : ℚ) → SpellsFraction word x → x.denom ≢ 1
  no_whole x s e =
      has_byte 47 above below (subst (IsWithout 47) (sym (s.spelled ∙ text_whole x e) ∙ cut.joined) (signed_without_slash x.numer (omega (arith, s.fits.0))))

  ratio_numer : (x : ℚ) → SpellsFraction word x → x.denom ≢ 1 → SpellsInteger above x.numer
  ratio_numer x s ne = record {
    spelled = same_front 47 above below (signed_decimal x.numer) (decimal x.denom) cut.first (signed_without_slash x.numer (omega (arith, s.fits.0))) (sym cut.joined ∙ s.spelled ∙ text_ratio x ne);
    fits = s.fits.0;
  }

  ratio_denom : (x : ℚ) → SpellsFraction word x → x.denom ≢ 1 → SpellsBelow (2 ^ 127) below x.denom
  ratio_denom x s ne = record {
    spelled = same_back 47 above below (signed_decimal x.numer) (decimal x.denom) cut.first (signed_without_slash x.numer (omega (arith, s.fits.0))) (sym cut.joined ∙ s.spelled ∙ text_ratio x ne) ∙ sym (printed_small x.denom s.fits.1);
    below = s.fits.1;
  }

  pub ratio_of : (x : ℚ) → SpellsFraction word x → SpellsRatio above below x
  ratio_of x s = record { numer = ratio_numer x s (no_whole x s); denom = ratio_denom x s (no_whole x s); no_whole = no_whole x s }

  pub from_ratio : (x : ℚ) → SpellsRatio above below x → SpellsFraction word x
  from_ratio x r = record {
    spelled = cut.joined ∙ (λ i. r.numer.spelled i ++ 47 ∷ (r.denom.spelled ∙ printed_small x.denom r.denom.below) i) ∙ sym (text_ratio x r.no_whole);
    fits = (r.numer.fits, r.denom.below);
  }

-- ---- what was read of a word
pub fraction_whole : (word : List ℕ) → IsWithout 47 word → (r : Option ℚ) → MatchOption r ((x : ℚ) → ¬ SpellsWhole word x) (λ x. SpellsWhole word x) → MatchOption r ((x : ℚ) → ¬ SpellsFraction word x) (λ x. SpellsFraction word x)
fraction_whole word h None none = λ x s. none x (whole_of word h x s)
fraction_whole word h (Some x) w = from_whole word x w

pub fraction_ratio : (word above below : List ℕ) → IsCutAt 47 word above below → (r : Option ℚ) → MatchOption r ((x : ℚ) → ¬ SpellsRatio above below x) (λ x. SpellsRatio above below x) → MatchOption r ((x : ℚ) → ¬ SpellsFraction word x) (λ x. SpellsFraction word x)
fraction_ratio word above below cut None none = λ x s. none x (ratio_of word above below cut x s)
fraction_ratio word above below cut (Some x) s = from_ratio word above below cut x s

-- ---- the parts that were read
pos_same : (m n : ℕ) → pos m ≡ pos n → m ≡ n
pos_same m n e = ap unsigned_abs e

module _ (word : List ℕ) (num one : ℤ) (read : SpellsInteger word num) (one_is : one ≡ pos 1) where
  whole_parts : (x : ℚ) → SpellsWhole word x → HasParts x num one
  whole_parts x w = record { numer_is = one_spelled word x.numer num w.numer read; denom_is = ap pos w.denom ∙ sym one_is }

  whole_fits : (x : ℚ) → SpellsWhole word x → FitsFrac x
  whole_fits x w = (w.numer.fits, omega (arith, w.denom))

  whole_read : (x : ℚ) → HasParts x num one → SpellsWhole word x
  whole_read x h = record { numer = subst (SpellsInteger word) (sym h.numer_is) read; denom = pos_same x.denom 1 (h.denom_is ∙ one_is) }

  pub whole_found : (r : Option ℚ) → MatchOption r ((x : ℚ) → FitsFrac x → ¬ HasParts x num one) (λ x. HasParts x num one) → MatchOption r ((x : ℚ) → ¬ SpellsWhole word x) (λ x. SpellsWhole word x)
  whole_found None none = λ x w. none x (whole_fits x w) (whole_parts x w)
  whole_found (Some x) h = whole_read x h

module _ (above below : List ℕ) (num : ℤ) (n : ℕ) (den : ℤ) (read : SpellsInteger above num) (size : SpellsBelow (2 ^ 127) below n) where
  pub no_ratio_of_one : n ≡ 1 → (x : ℚ) → ¬ SpellsRatio above below x
  no_ratio_of_one e x r = r.no_whole (one_number x.denom n (sym r.denom.spelled ∙ size.spelled) ∙ e)

  ratio_parts : den ≡ pos n → (x : ℚ) → SpellsRatio above below x → HasParts x num den
  ratio_parts e x r = record {
    numer_is = one_spelled above x.numer num r.numer read;
    denom_is = ap pos (one_number x.denom n (sym r.denom.spelled ∙ size.spelled)) ∙ sym e;
  }

  ratio_fits : (x : ℚ) → SpellsRatio above below x → FitsFrac x
  ratio_fits x r = (r.numer.fits, r.denom.below)

  ratio_read : den ≡ pos n → n ≢ 1 → (x : ℚ) → HasParts x num den → SpellsRatio above below x
  ratio_read e ne x h =
      let same : x.denom ≡ n = pos_same x.denom n (h.denom_is ∙ e) in
      record {
        numer = subst (SpellsInteger above) (sym h.numer_is) read;
        denom = subst (SpellsBelow (2 ^ 127) below) (sym same) size;
        no_whole = λ one. ne (sym same ∙ one);
      }

  pub ratio_found : den ≡ pos n → n ≢ 1 → (r : Option ℚ) → MatchOption r ((x : ℚ) → FitsFrac x → ¬ HasParts x num den) (λ x. HasParts x num den) → MatchOption r ((x : ℚ) → ¬ SpellsRatio above below x) (λ x. SpellsRatio above below x)
  ratio_found e ne None none = λ x s. none x (ratio_fits x s) (ratio_parts e x s)
  ratio_found e ne (Some x) h = ratio_read e ne x h

-- ---- fractions are words, and each has its own
slash_without : (byte n : ℕ) → byte < 45 → n < 2 ^ 127 → IsWithout byte (47 ∷ decimal n)
slash_without byte n low h =
    All-cons (λ c. eqb c byte ≡ false) 47 (decimal n) (ne_eqb 47 byte (λ e. omega arith)) (decimal_without byte n (omega arith) (omega arith))

ratio_without : (byte : ℕ) (x : ℚ) → byte < 45 → FitsFrac x → IsWithout byte (signed_decimal x.numer ++ 47 ∷ decimal x.denom)
ratio_without byte x low f =
    All-append (λ c. eqb c byte ≡ false) (signed_decimal x.numer) (47 ∷ decimal x.denom) (signed_without byte x.numer low (omega (arith, f.0))) (slash_without byte x.denom low f.1)

ratio_word : (x : ℚ) → FitsFrac x → IsWord (signed_decimal x.numer ++ 47 ∷ decimal x.denom)
ratio_word x f = record {
  some = omega (arith, length-append (signed_decimal x.numer) (47 ∷ decimal x.denom));
  no_blank = ratio_without 32 x (lit< tt) f;
  no_line_feed = ratio_without 10 x (lit< tt) f;
}

pub fraction_word : (x : ℚ) → FitsFrac x → IsWord (text_of x)
fraction_word x f = ⊎_elim
    (λ e. subst IsWord (sym (text_whole x e)) (signed_word x.numer (omega (arith, f.0))))
    (λ ne. subst IsWord (sym (text_ratio x ne)) (ratio_word x f))
    (cases_eq x.denom 1)

module _ (x y : ℚ) (fx : FitsFrac x) (fy : FitsFrac y) (e : text_of x ≡ text_of y) where
  from_text : SpellsFraction (text_of x) x
  from_text = record { spelled = refl; fits = fx }

  other_text : SpellsFraction (text_of x) y
  other_text = record { spelled = e; fits = fy }

  both_whole : x.denom ≡ 1 → x ≡ y
  both_whole one =
      let no_slash : IsWithout 47 (text_of x) = subst (IsWithout 47) (sym (text_whole x one)) (signed_without_slash x.numer (omega (arith, fx.0))) in
      let p = whole_of (text_of x) no_slash x from_text in
      let q = whole_of (text_of x) no_slash y other_text in
      same_parts x y (one_spelled (text_of x) x.numer y.numer p.numer q.numer) (p.denom ∙ sym q.denom)

  both_ratios : x.denom ≢ 1 → x ≡ y
  both_ratios ne =
      let cut : IsCutAt 47 (text_of x) (signed_decimal x.numer) (decimal x.denom) = record { first = signed_without_slash x.numer (omega (arith, fx.0)); joined = text_ratio x ne } in
      let p = ratio_of (text_of x) (signed_decimal x.numer) (decimal x.denom) cut x from_text in
      let q = ratio_of (text_of x) (signed_decimal x.numer) (decimal x.denom) cut y other_text in
      same_parts x y (one_spelled (signed_decimal x.numer) x.numer y.numer p.numer q.numer) (one_number x.denom y.denom (sym p.denom.spelled ∙ q.denom.spelled))

  pub one_fraction : x ≡ y
  one_fraction = ⊎_elim both_whole both_ratios (cases_eq x.denom 1)
