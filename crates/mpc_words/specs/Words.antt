-- Texts cut at a byte, and lines cut into words: a line has a first word, and further words behind one blank each.
use Rattle.std.specs.Prelude.{◌≡◌, ℕ, false, List, ◌∷◌, ◌++◌, length, ◌<◌, All, ◌==◌}
use Rattle.std.specs.List.{flat_map, slice_split}

-- the text hasn't such a byte
abbrev pub IsWithout : ℕ → List ℕ → Type 0
IsWithout byte text = All (λ c. (c == byte) ≡ false) text

-- the text is what stands before its first such byte, that byte, and what stands behind it
pub record IsCutAt (byte : ℕ) (text before behind : List ℕ) : Type 0 where
  pub first : IsWithout byte before
  pub joined : text ≡ before ++ byte ∷ behind

-- each word behind a blank
abbrev pub behind_blanks : List (List ℕ) → List ℕ
behind_blanks words = flat_map (λ word. 32 ∷ word) words

abbrev pub line : List ℕ → List (List ℕ) → List ℕ
line first words = first ++ behind_blanks words

-- the text is a line of these words, in which no blank stands
pub record IsLineOf (text first : List ℕ) (words : List (List ℕ)) : Type 0 where
  pub joined : text ≡ line first words
  pub first_whole : IsWithout 32 first
  pub words_whole : All (IsWithout 32) words

-- the words of a line, the first among them
abbrev pub words_of : List ℕ → List (List ℕ)
words_of text = slice_split (λ c. c == 32) text

-- the text is a word of a line: it isn't empty, and no blank and no line feed stands in it
pub record IsWord (text : List ℕ) : Type 0 where
  pub some : 0 < length text
  pub no_blank : IsWithout 32 text
  pub no_line_feed : IsWithout 10 text
