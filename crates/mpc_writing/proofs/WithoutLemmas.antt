-- No line feed stands in a line.
use Rattle.std.proofs.Common.{◌≡◌, ℕ, ◌<◌, ◌^◌, Bool, true, false, List, [], ◌∷◌, map, refl, subst, arith}
use Rattle.std.specs.Prelude.{All, cond, ◌==◌, decimal}
use Rattle.std.specs.List.{flat_map}
use Rattle.std.proofs.lemmas.List.Elements.{All-nil, All-cons, All-head, All-tail, All-append, All-map, All-weaker}
use Rattle.mpc_exact.specs.Rational.{ℚ}
use Rattle.mpc_frac.specs.Fits.{FitsFrac}
use Rattle.mpc_frac.specs.Text.{text_of as fraction_text}
use Rattle.mpc_words.specs.Words.{IsWithout, line, behind_blanks}
use Rattle.mpc_grammar.specs.Lines.{count_line, fractions_line, matrix_line}
use Rattle.mpc_grammar.specs.Fractions.{entries_fit}
use Rattle.mpc_grammar.specs.PlantGrammar.{AllFit}
use Rattle.mpc_grammar.specs.LineTheorems.{WordTheorems}
use Rattle.mpc_space.specs.Matrix.{RationalMatrix}

abbrev pub is_plain : List ℕ → Bool
is_plain [] = true
is_plain (c ∷ cs) = cond (c == 10) false (is_plain cs)

neither : (b rest : Bool) → cond b false rest ≡ true → (b ≡ false) × (rest ≡ true)
neither true rest h = cc
neither false rest h = (refl, h)

pub plain_without : (text : List ℕ) → is_plain text ≡ true → IsWithout 10 text
plain_without [] h = All-nil (λ c. (c == 10) ≡ false)
plain_without (c ∷ cs) h = let (here, rest) = neither (c == 10) (is_plain cs) h in All-cons (λ c. (c == 10) ≡ false) c cs here (plain_without cs rest)

words_without : (words : List (List ℕ)) → All (IsWithout 10) words → IsWithout 10 (behind_blanks words)
words_without [] all = All-nil (λ c. (c == 10) ≡ false)
words_without (word ∷ words) all =
    All-append (λ c. (c == 10) ≡ false) (32 ∷ word) (behind_blanks words) (All-cons (λ c. (c == 10) ≡ false) 32 word refl (All-head (IsWithout 10) word words all)) (words_without words (All-tail (IsWithout 10) word words all))

pub line_without : (first : List ℕ) (words : List (List ℕ)) → is_plain first ≡ true → All (IsWithout 10) words → IsWithout 10 (line first words)
line_without first words plain all = All-append (λ c. (c == 10) ≡ false) first (behind_blanks words) (plain_without first plain) (words_without words all)

module _ (words : WordTheorems) where
  pub number_without : (n : ℕ) → n < 10 ^ 64 → IsWithout 10 (decimal n)
  number_without n small = subst (IsWithout 10) (words.printed n small) (words.natural_word n).no_line_feed

  pub count_without : (n : ℕ) → n < 2 ^ 64 → IsWithout 10 (decimal n)
  count_without n small = number_without n (omega arith)

  pub count_line_without : (first : List ℕ) (n : ℕ) → is_plain first ≡ true → n < 2 ^ 64 → IsWithout 10 (count_line first n)
  count_line_without first n plain small = line_without first (decimal n ∷ []) plain (All-cons (IsWithout 10) (decimal n) [] (count_without n small) (All-nil (IsWithout 10)))

  pub fraction_without : (x : ℚ) → FitsFrac x → IsWithout 10 (fraction_text x)
  fraction_without x fits = (words.fraction_word x fits).no_line_feed

  pub fractions_line_without : (first : List ℕ) (xs : List ℚ) → is_plain first ≡ true → AllFit xs → IsWithout 10 (fractions_line first xs)
  fractions_line_without first xs plain fits = line_without first (map fraction_text xs) plain (All-map (IsWithout 10) fraction_text xs (All-weaker FitsFrac (λ x. IsWithout 10 (fraction_text x)) fraction_without xs fits))

  pub matrix_line_without : (first : List ℕ) (m : RationalMatrix) → is_plain first ≡ true → All AllFit m.rows → IsWithout 10 (matrix_line first m)
  matrix_line_without first m plain fits = fractions_line_without first (flat_map (λ row. row) m.rows) plain (entries_fit m.rows fits)
