-- A certificate's line is one of fractions.
use Rattle.std.proofs.Common.{◌≡◌, ℕ, ◌^◌, ◌<◌, List, [], ◌∷◌, map, flat_map, All, codes, pos, refl, sym, ap}
use Rattle.std.proofs.lemmas.List.Elements.{All-nil, All-cons, All-head, All-tail}
use Rattle.mpc_exact.specs.Rational.{ℚ, int}
use Rattle.mpc_frac.specs.Fits.{FitsFrac}
use Rattle.mpc_frac.specs.Text.{text_of as fraction_text}
use Rattle.mpc_words.specs.Words.{line}
use Rattle.mpc_grammar.specs.Lines.{fractions_line, pair_words, cert_line}
use Rattle.mpc_grammar.specs.PlantGrammar.{AllFit}
use Rattle.mpc_grammar.specs.Fractions.{natural_text, same_natural, natural_fits}

-- ---- a certificate's line, as one of twice as many fractions
abbrev pub pair_fractions : (ℕ × ℚ) → List ℚ
pair_fractions pair = int (pos pair.0) ∷ pair.1 ∷ []

abbrev pub fractions_of_pairs : List (ℕ × ℚ) → List ℚ
fractions_of_pairs cert = flat_map pair_fractions cert

abbrev pub IsPlaced : (ℕ × ℚ) → Type 0
IsPlaced pair = pair.0 < 2 ^ 127

texts_of_pairs : (cert : List (ℕ × ℚ)) → flat_map pair_words cert ≡ map fraction_text (fractions_of_pairs cert)
texts_of_pairs [] = refl
texts_of_pairs ((n, x) ∷ cert) = λ i. sym (natural_text n) i ∷ fraction_text x ∷ texts_of_pairs cert i

pub cert_is_fractions : (cert : List (ℕ × ℚ)) → cert_line cert ≡ fractions_line (codes "cert") (fractions_of_pairs cert)
cert_is_fractions cert = ap (line (codes "cert")) (texts_of_pairs cert)

pub pairs_fit : (cert : List (ℕ × ℚ)) → All IsPlaced cert → AllFit (map (λ pair. pair.1) cert) → AllFit (fractions_of_pairs cert)
pairs_fit [] h k = All-nil FitsFrac
pairs_fit ((n, x) ∷ cert) h k =
    All-cons FitsFrac (int (pos n)) (x ∷ fractions_of_pairs cert) (natural_fits n (All-head IsPlaced (n, x) cert h))
    (All-cons FitsFrac x (fractions_of_pairs cert) (All-head FitsFrac x (map (λ pair. pair.1) cert) k) (pairs_fit cert (All-tail IsPlaced (n, x) cert h) (All-tail FitsFrac x (map (λ pair. pair.1) cert) k)))

-- the multipliers fit
pub multipliers_fit : (cert : List (ℕ × ℚ)) → AllFit (fractions_of_pairs cert) → AllFit (map (λ pair. pair.1) cert)
multipliers_fit [] h = All-nil FitsFrac
multipliers_fit ((n, x) ∷ cert) h =
    let behind : AllFit (x ∷ fractions_of_pairs cert) = All-tail FitsFrac (int (pos n)) (x ∷ fractions_of_pairs cert) h in
    All-cons FitsFrac x (map (λ pair. pair.1) cert) (All-head FitsFrac x (fractions_of_pairs cert) behind) (multipliers_fit cert (All-tail FitsFrac x (fractions_of_pairs cert) behind))

-- the fractions tell the pairs
pub same_pairs : (xs ys : List (ℕ × ℚ)) → fractions_of_pairs xs ≡ fractions_of_pairs ys → xs ≡ ys
same_pairs [] [] e = refl
same_pairs [] ((m, y) ∷ ys) e = absurd (cc)
same_pairs ((n, x) ∷ xs) [] e = absurd (cc)
same_pairs ((n, x) ∷ xs) ((m, y) ∷ ys) e =
    let front : int (pos n) ≡ int (pos m) = cc in
    let multiplier : x ≡ y = cc in
    let back : fractions_of_pairs xs ≡ fractions_of_pairs ys = cc in
    let place : n ≡ m = same_natural n m front in
    let rest : xs ≡ ys = same_pairs xs ys back in
    λ i. (place i, multiplier i) ∷ rest i
