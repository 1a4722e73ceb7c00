-- Which number a numeral is, once the number of its digits is known below a limit.
use Rattle.std.proofs.Common.{◌≡◌, ℕ, ◌^◌, ◌<◌, ◌≤◌, Bool, true, false, cond, ltb, List, Option, Some, None, MatchOption, refl, sym, ap, ◌∙◌, subst, arith}
use Rattle.std.specs.Option.{SomeIff}
use Rattle.std.specs.Str.Parse.{digits_value}
use Rattle.std.proofs.lemmas.Bool.{ltb-true, ltb-false}
use Rattle.mpc_words.specs.Numerals.{numeral, is_numeral}
use Rattle.mpc_words.specs.Spelled.{SpellsBelow, SpellsNatural, PrintsNatural, in_64_bits}
use Rattle.mpc_words.specs.declared.naturals.Natural.{Natural}
use Rattle.mpc_words.specs.declared.naturals.Natural.TheVariants.{Small, Large, Misspelled}
use Rattle.mpc_words.proofs.NumeralLemmas.{digits_are, spelled_numeral, no_numeral, printed, one_number}

value_of : (word : List ℕ) (n : ℕ) → word ≡ numeral n → digits_value 10 word ≡ n
value_of word n e = ap (digits_value 10) e ∙ (digits_are n).value

pub size_read : (limit : ℕ) (word : List ℕ) (r : Option ℕ) → is_numeral word ≡ true → SomeIff r (digits_value 10 word < limit) (digits_value 10 word) → MatchOption r ((n : ℕ) → ¬ SpellsBelow limit word n) (λ n. SpellsBelow limit word n)
size_read limit word None h e = λ n s. e (subst (λ m. m < limit) (sym (value_of word n s.spelled)) s.below)
size_read limit word (Some n) h e = record {
  spelled = spelled_numeral word h ∙ ap numeral (sym e.1);
  below = subst (λ m. m < limit) (sym e.1) e.0;
}

pub no_size : (limit : ℕ) (word : List ℕ) → is_numeral word ≡ false → (n : ℕ) → ¬ SpellsBelow limit word n
no_size limit word h n s = no_numeral word h n s.spelled

below_or_from : (word : List ℕ) (n : ℕ) (b : Bool) → ltb n (2 ^ 64) ≡ b → word ≡ numeral n → SpellsNatural word (cond b (Small n) Large)
below_or_from word n true e s = record { spelled = s; below = ltb-true n (2 ^ 64) e }
below_or_from word n false e s = record { number = n; spelled = s; at_least = ltb-false n (2 ^ 64) e }

too_wide : (n : ℕ) → (n < 2 ^ 127 → ⊥) → 2 ^ 64 ≤ n
too_wide n h = omega arith

pub natural_read : (word : List ℕ) (r : Option ℕ) (natural : Natural) → is_numeral word ≡ true → SomeIff r (digits_value 10 word < 2 ^ 127) (digits_value 10 word) → natural ≡ in_64_bits r → SpellsNatural word natural
natural_read word None natural h e is = subst (SpellsNatural word) (sym is)
    (record { number = digits_value 10 word; spelled = spelled_numeral word h; at_least = too_wide (digits_value 10 word) e })
natural_read word (Some n) natural h e is = subst (SpellsNatural word) (sym is)
    (below_or_from word n (ltb n (2 ^ 64)) refl (spelled_numeral word h ∙ ap numeral (sym e.1)))

-- the same by the printed texts
pub natural_printed : (word : List ℕ) (natural : Natural) → SpellsNatural word natural → PrintsNatural word natural
natural_printed word (Small n) s = s.spelled ∙ printed n (omega (arith, s.below))
natural_printed word Large s = λ n small e.
    let same : s.number ≡ n = one_number s.number n (sym s.spelled ∙ e ∙ sym (printed n (omega arith))) in
    let large = s.at_least in
    omega arith
natural_printed word Misspelled s = λ n small e. s n (e ∙ sym (printed n (omega arith)))
