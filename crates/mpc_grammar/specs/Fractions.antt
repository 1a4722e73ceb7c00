-- Fractions that are whole numbers: how they are spelled, and that they fit.
use Rattle.std.proofs.Common.{◌≡◌, ℕ, ◌^◌, ◌<◌, eqb, List, [], ◌∷◌, ◌++◌, flat_map, All, codes, ℤ, pos, unsigned_abs, decimal, sym, ap, ◌∙◌, subst, lit<}
use Rattle.std.specs.Fmt.{signed_decimal}
use Rattle.std.proofs.lemmas.Bool.{eq-eqb, cond-true}
use Rattle.std.proofs.lemmas.List.Elements.{All-nil, All-append, All-head, All-tail}
use native.Mathlib.Nat.{eq-one_of_dvd-one}
use Rattle.mpc_exact.specs.Gcd.{gcd, gcd-divides_right}
use Rattle.mpc_exact.specs.Rational.{ℚ, int, frac_parts}
use Rattle.mpc_frac.specs.Fits.{FitsFrac}
use Rattle.mpc_frac.specs.Text.{text_of as fraction_text}
use Rattle.mpc_grammar.specs.PlantGrammar.{AllFit}

-- ---- whole numbers are fractions
coprime_to_one : (n : ℕ) → gcd n 1 ≡ 1
coprime_to_one n = eq-one_of_dvd-one (gcd-divides_right n 1)

pub whole_numer : (z : ℤ) → (int z).numer ≡ z
whole_numer z = (frac_parts z 1 (lit< tt) (coprime_to_one (unsigned_abs z))).0

pub whole_denom : (z : ℤ) → (int z).denom ≡ 1
whole_denom z = (frac_parts z 1 (lit< tt) (coprime_to_one (unsigned_abs z))).1

pub whole_text : (z : ℤ) → fraction_text (int z) ≡ signed_decimal z
whole_text z =
    cond-true (eqb (int z).denom 1) (signed_decimal (int z).numer) (signed_decimal (int z).numer ++ codes "/" ++ decimal (int z).denom) (eq-eqb (int z).denom 1 (whole_denom z))
    ∙ ap signed_decimal (whole_numer z)

pub natural_text : (n : ℕ) → fraction_text (int (pos n)) ≡ decimal n
natural_text n = whole_text (pos n)

pub same_whole : (y z : ℤ) → int y ≡ int z → y ≡ z
same_whole y z e = sym (whole_numer y) ∙ ap (λ x. x.numer) e ∙ whole_numer z

pub same_natural : (m n : ℕ) → int (pos m) ≡ int (pos n) → m ≡ n
same_natural m n e = let same = same_whole (pos m) (pos n) e in cc

small_one : 1 < 2 ^ 127
small_one = lit< tt

pub whole_fits : (z : ℤ) → unsigned_abs z < 2 ^ 127 → FitsFrac (int z)
whole_fits z h = (subst (λ y. unsigned_abs y < 2 ^ 127) (sym (whole_numer z)) h, subst (λ d. d < 2 ^ 127) (sym (whole_denom z)) small_one)

pub natural_fits : (n : ℕ) → n < 2 ^ 127 → FitsFrac (int (pos n))
natural_fits n h = whole_fits (pos n) h

-- ---- matrices
pub entries_fit : (rows : List (List ℚ)) → All AllFit rows → AllFit (flat_map (λ row. row) rows)
entries_fit [] all = All-nil FitsFrac
entries_fit (row ∷ rows) all = All-append FitsFrac row (flat_map (λ r. r) rows) (All-head AllFit row rows all) (entries_fit rows (All-tail AllFit row rows all))
