-- The words of a line are its parts between the blanks, and no others.
use Rattle.std.proofs.Common.{◌≡◌, ℕ, Bool, true, false, eqb, List, [], ◌∷◌, ◌++◌, refl, sym, ap, ◌∙◌, subst, append-nil}
use Rattle.std.specs.List.{All, slice_split, join_with_byte}
use Rattle.std.proofs.lemmas.List.Splits.{slice_split_at, slice_split_none, join_with_byte-slice_split}
use Rattle.std.proofs.lemmas.List.Elements.{All-nil, All-cons, All-head, All-tail}
use Rattle.std.proofs.lemmas.Bool.{eqb-true, eq-eqb}
use Rattle.mpc_words.specs.Words.{IsWithout, IsCutAt, IsLineOf, line, words_of}

pub words-cut : (text before behind : List ℕ) → IsCutAt 32 text before behind → words_of text ≡ before ∷ words_of behind
words-cut text before behind h = ap words_of h.joined ∙ slice_split_at (λ c. eqb c 32) before 32 behind h.first refl

pub words-whole : (text : List ℕ) → IsWithout 32 text → words_of text ≡ text ∷ []
words-whole text h = slice_split_none (λ c. eqb c 32) text h

line_words : (first : List ℕ) (words : List (List ℕ)) → IsWithout 32 first → All (IsWithout 32) words → words_of (line first words) ≡ first ∷ words
line_words first [] h k = ap words_of (append-nil first) ∙ words-whole first h
line_words first (word ∷ words) h k =
    slice_split_at (λ c. eqb c 32) first 32 (line word words) h refl
    ∙ ap (λ ws. first ∷ ws) (line_words word words (All-head (IsWithout 32) word words k) (All-tail (IsWithout 32) word words k))

-- the words of a line are those that it is made of
pub words_of_line : (text first : List ℕ) (words : List (List ℕ)) → IsLineOf text first words → words_of text ≡ first ∷ words
words_of_line text first words h = ap words_of h.joined ∙ line_words first words h.first_whole h.words_whole

pub one_first : (text first other : List ℕ) (words others : List (List ℕ)) → IsLineOf text first words → IsLineOf text other others → first ≡ other
one_first text first other words others h k =
    let e = sym (words_of_line text first words h) ∙ words_of_line text other others k in cc

pub one_list : (text first other : List ℕ) (words others : List (List ℕ)) → IsLineOf text first words → IsLineOf text other others → words ≡ others
one_list text first other words others h k =
    let e = sym (words_of_line text first words h) ∙ words_of_line text other others k in cc

-- ---- each text is a line of some words

module _ (c : ℕ) (cs first : List ℕ) (words : List (List ℕ)) (h : IsLineOf cs first words) where
  behind_blank : c ≡ 32 → IsLineOf (c ∷ cs) [] (first ∷ words)
  behind_blank e = record {
    joined = λ i. e i ∷ h.joined i;
    first_whole = All-nil (λ c. eqb c 32 ≡ false);
    words_whole = All-cons (IsWithout 32) first words h.first_whole h.words_whole;
  }

  in_front : eqb c 32 ≡ false → IsLineOf (c ∷ cs) (c ∷ first) words
  in_front e = record {
    joined = ap (λ xs. c ∷ xs) h.joined;
    first_whole = All-cons (λ c. eqb c 32 ≡ false) c first e h.first_whole;
    words_whole = h.words_whole;
  }

  one_more : (b : Bool) → eqb c 32 ≡ b → (f : List ℕ) × ((ws : List (List ℕ)) × IsLineOf (c ∷ cs) f ws)
  one_more true e = ([], (first ∷ words, behind_blank (eqb-true c 32 e)))
  one_more false e = (c ∷ first, (words, in_front e))

pub some_words : (text : List ℕ) → (first : List ℕ) × ((words : List (List ℕ)) × IsLineOf text first words)
some_words [] =
    ([], ([], record { joined = refl; first_whole = All-nil (λ c. eqb c 32 ≡ false); words_whole = All-nil (IsWithout 32) }))
some_words (c ∷ cs) = let rest = some_words cs in one_more c cs rest.0 rest.1.0 rest.1.1 (eqb c 32) refl

-- ---- the first of a byte
pub has_byte : (byte : ℕ) (before behind : List ℕ) → IsWithout byte (before ++ byte ∷ behind) → ⊥
has_byte byte [] behind h = let at = All-head (λ c. eqb c byte ≡ false) byte behind h in cc (eq-eqb byte byte refl)
has_byte byte (c ∷ before) behind h = has_byte byte before behind (All-tail (λ c. eqb c byte ≡ false) c (before ++ byte ∷ behind) h)

-- a text is cut at its first such byte in one way
module _ (byte : ℕ) (before behind front back : List ℕ) (h : IsWithout byte before) (k : IsWithout byte front) (e : before ++ byte ∷ behind ≡ front ++ byte ∷ back) where
  both_splits : before ∷ slice_split (λ c. eqb c byte) behind ≡ front ∷ slice_split (λ c. eqb c byte) back
  both_splits =
      sym (slice_split_at (λ c. eqb c byte) before byte behind h (eq-eqb byte byte refl))
      ∙ ap (slice_split (λ c. eqb c byte)) e ∙ slice_split_at (λ c. eqb c byte) front byte back k (eq-eqb byte byte refl)

  pub same_front : before ≡ front
  same_front = let s = both_splits in cc

  pub same_back : behind ≡ back
  same_back =
      let s = both_splits in
      let t : slice_split (λ c. eqb c byte) behind ≡ slice_split (λ c. eqb c byte) back = cc in
      sym (join_with_byte-slice_split byte behind) ∙ ap (join_with_byte byte) t ∙ join_with_byte-slice_split byte back

pub one_before : (byte : ℕ) (text before front behind back : List ℕ) → IsCutAt byte text before behind → IsCutAt byte text front back → before ≡ front
one_before byte text before front behind back h k = same_front byte before behind front back h.first k.first (sym h.joined ∙ k.joined)

pub one_behind : (byte : ℕ) (text before front behind back : List ℕ) → IsCutAt byte text before behind → IsCutAt byte text front back → behind ≡ back
one_behind byte text before front behind back h k = same_back byte before behind front back h.first k.first (sym h.joined ∙ k.joined)

pub no_cut : (byte : ℕ) (text before behind : List ℕ) → IsWithout byte text → ¬ IsCutAt byte text before behind
no_cut byte text before behind h cut = has_byte byte before behind (subst (IsWithout byte) cut.joined h)
