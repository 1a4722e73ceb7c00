-- How a text is cut into sections.
use Rattle.std.proofs.Common.{◌≡◌, ℕ, ◌<◌, Bool, true, false, cond, Option, Some, None, List, [], ◌∷◌, ◌++◌, length, refl, sym, subst, ap, arith}
use Rattle.std.specs.Prelude.{MatchOption, codes, option_map}
use Rattle.std.specs.List.{concat}
use Rattle.mpc_words.specs.WholeLines.{whole_lines, is_line, before_line, behind_line}
use Rattle.mpc_sections.specs.Sections.{onto_section, sections_of_lines, sections_of}

abbrev next : List ℕ
next = codes "next"

-- ---- sections of lines
onto_some : (line : List ℕ) (sections : List (List ℕ)) → 0 < length (onto_section line sections)
onto_some line [] = omega arith
onto_some line (section ∷ more) = omega arith

some_lines : (lines : List (List ℕ)) → 0 < length (sections_of_lines lines)
unfolding sections_of_lines
some_lines [] = omega arith
some_lines (line ∷ more) = by (is_line next line)
  where
    by : (t : Bool) → 0 < length (cond t ([] ∷ sections_of_lines more) (onto_section line (sections_of_lines more)))
    by true = omega arith
    by false = onto_some line (sections_of_lines more)

-- a text has a section
pub some_section : (text : List ℕ) → 0 < length (sections_of text)
some_section text = some_lines (whole_lines text)

-- ---- the first section
one_line : (line : List ℕ) (more : List (List ℕ)) (t : Bool) (behind : Option (List ℕ)) (before : List ℕ) (sections : List (List ℕ)) → sections ≡ sections_of (concat more)
    → MatchOption behind (sections ≡ before ∷ []) (λ b. sections ≡ before ∷ sections_of b)
    → MatchOption (cond t (Some (concat more)) behind) (cond t ([] ∷ sections) (onto_section line sections) ≡ cond t [] (line ++ before) ∷ [])
    (λ b. cond t ([] ∷ sections) (onto_section line sections) ≡ cond t [] (line ++ before) ∷ sections_of b)
one_line line more true behind before sections e h = ap (λ s. [] ∷ s) e
one_line line more false None before sections e h = ap (onto_section line) h
one_line line more false (Some b) before sections e h = ap (onto_section line) h

carried : {B : Type 0} (now : B → List ℕ) (found : Option B) (behind : Option (List ℕ)) (P : Type 0) (Q : List ℕ → Type 0) → option_map now found ≡ behind → MatchOption behind P Q
    → MatchOption found P (λ b. Q (now b))
carried now None behind P Q e h = subst (λ o. MatchOption o P Q) (sym e) h
carried now (Some b) behind P Q e h = subst (λ o. MatchOption o P Q) (sym e) h

-- by the law of whole lines
module _ (joined : (text : List ℕ) → concat (whole_lines text) ≡ text) (rest : (text line : List ℕ) (more : List (List ℕ)) → whole_lines text ≡ line ∷ more → whole_lines (concat more) ≡ more) where
  cut_lines : (lines : List (List ℕ)) → whole_lines (concat lines) ≡ lines
      → MatchOption (behind_line next lines) (sections_of_lines lines ≡ before_line next lines ∷ []) (λ b. sections_of_lines lines ≡ before_line next lines ∷ sections_of b)
  unfolding before_line behind_line sections_of_lines
  cut_lines [] h = refl
  cut_lines (line ∷ more) h =
      let whole = rest (concat (line ∷ more)) line more h in
      one_line line more (is_line next line) (behind_line next more) (before_line next more) (sections_of_lines more) (ap sections_of_lines (sym whole)) (cut_lines more whole)

  pub first_section : {B : Type 0} (now : B → List ℕ) (text before : List ℕ) (found : Option B) → before ≡ before_line next (whole_lines text) → option_map now found ≡ behind_line next (whole_lines text)
      → MatchOption found (sections_of text ≡ before ∷ []) (λ b. sections_of text ≡ before ∷ sections_of (now b))
  first_section now text before found e k =
      subst (λ x. MatchOption found (sections_of text ≡ x ∷ []) (λ b. sections_of text ≡ x ∷ sections_of (now b))) (sym e)
      (carried now found (behind_line next (whole_lines text)) (sections_of text ≡ before_line next (whole_lines text) ∷ []) (λ b. sections_of text ≡ before_line next (whole_lines text) ∷ sections_of b) k
      (cut_lines (whole_lines text) (ap whole_lines (joined text))))
