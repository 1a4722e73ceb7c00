-- The lines of a text, one after another.
use Rattle.std.proofs.Common.{◌≡◌, ◌≢◌, ℕ, Bool, true, false, cond, eqb, List, [], ◌∷◌, length, refl, sym, ◌∙◌, ap, arith}
use Rattle.std.specs.List.{slice_split, onto_first}
use Rattle.std.specs.Str.Lines.{lines, lines_of_parts, strip_carriage_return}
use Rattle.std.proofs.lemmas.List.Splits.{slice_split_at, slice_split_none}
use Rattle.std.proofs.lemmas.Bool.Decides.{nat_tests}
use Rattle.mpc_words.specs.Words.{IsWithout, IsCutAt}

abbrev feed : ℕ → Bool
feed b = eqb b 10

-- a split has at least one part
first_part : (bs : List ℕ) → (part : List ℕ) × ((parts : List (List ℕ)) × (slice_split feed bs ≡ part ∷ parts))
first_part [] = ([], ([], refl))
first_part (b ∷ bs) = by (feed b) refl
  where
    onto : (p : List (List ℕ)) → (part : List ℕ) × ((parts : List (List ℕ)) × (onto_first b p ≡ part ∷ parts))
    onto [] = (b ∷ [], ([], refl))
    onto (p ∷ ps) = (b ∷ p, (ps, refl))

    by : (t : Bool) → feed b ≡ t → (part : List ℕ) × ((parts : List (List ℕ)) × (cond t ([] ∷ slice_split feed bs) (onto_first b (slice_split feed bs)) ≡ part ∷ parts))
    by true e = ([], (slice_split feed bs, refl))
    by false e = onto (slice_split feed bs)

behind : (line : List ℕ) (rest : List ℕ) → lines_of_parts (line ∷ slice_split feed rest) ≡ strip_carriage_return line ∷ lines rest
behind line rest =
    let f = first_part rest in
    ap (λ p. lines_of_parts (line ∷ p)) f.1.1 ∙ ap (λ p. strip_carriage_return line ∷ lines_of_parts p) (sym f.1.1)

pub lines-line : (text line rest : List ℕ) → IsCutAt 10 text line rest → lines text ≡ strip_carriage_return line ∷ lines rest
lines-line text line rest s =
    ap lines s.joined ∙ ap lines_of_parts (slice_split_at feed line 10 rest s.first refl) ∙ behind line rest

pub lines-last : (text : List ℕ) → IsWithout 10 text → length text ≢ 0 → lines text ≡ text ∷ []
lines-last [] h some = absurd (some refl)
lines-last (b ∷ bs) h some =
    let test : eqb (length (b ∷ bs)) 0 ≡ false = grind (arith, nat_tests) in
    ap lines_of_parts (slice_split_none feed (b ∷ bs) h) ∙ ap (λ t. cond t [] ((b ∷ bs) ∷ [])) test
