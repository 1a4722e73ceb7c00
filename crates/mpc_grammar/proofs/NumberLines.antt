-- Lines whose only further word is a number.
use Rattle.std.proofs.Common.{◌≡◌, ℕ, ◌^◌, ◌<◌, List, [], ◌∷◌, ◌++◌, decimal, sym, ap, ◌∙◌, append-nil}
use Rattle.mpc_words.specs.Numerals.{numeral}
use Rattle.mpc_words.specs.Words.{line}
use Rattle.mpc_grammar.specs.Lines.{count_line}
use Rattle.mpc_grammar.specs.Spelling.{numeral_line}
use Rattle.mpc_grammar.proofs.SpellingLemmas.{behind_name}

-- ---- one number
-- a line whose only further word is this
pub one_word_line : (name word other : List ℕ) → line name (word ∷ []) ≡ line name (other ∷ []) → word ≡ other
one_word_line name word other e = behind_name name (line name (word ∷ [])) word other (ap (λ w. name ++ 32 ∷ w) (append-nil word)) e

pub one_numeral_line : ((m n : ℕ) → numeral m ≡ numeral n → m ≡ n) → (name : List ℕ) (m n : ℕ) → numeral_line name m ≡ numeral_line name n → m ≡ n
one_numeral_line one name m n e = one m n (one_word_line name (numeral m) (numeral n) e)

pub one_count_line : ((m n : ℕ) → numeral m ≡ numeral n → m ≡ n) → ((n : ℕ) → n < 10 ^ 64 → numeral n ≡ decimal n) → (name : List ℕ) (m n : ℕ) → m < 10 ^ 64 → n < 10 ^ 64 → count_line name m ≡ count_line name n → m ≡ n
one_count_line one printed name m n h k e = one m n (printed m h ∙ one_word_line name (decimal m) (decimal n) e ∙ sym (printed n k))

-- what is printed is the numeral
pub count_is_numeral : ((n : ℕ) → n < 10 ^ 64 → numeral n ≡ decimal n) → (name : List ℕ) (n : ℕ) → n < 10 ^ 64 → count_line name n ≡ numeral_line name n
count_is_numeral printed name n h = ap (λ word. line name (word ∷ [])) (sym (printed n h))
