-- Lines that are written.
use Rattle.std.proofs.Common.{◌≡◌, ◌≢◌, ℕ, ◌+◌, ◌*◌, ◌<◌, ◌≤◌, ℤ, pos, to_z, List, [], ◌∷◌, length, get_or, set, take, below_more, ◌∙◌, ap, arith}
use Rattle.std.specs.Prelude.{slice_index}
use Rattle.std.specs.Int.{w64}
use Rattle.std.proofs.lemmas.List.{get_or-set_same, get_or-set_other}
use Rattle.mpc_block.specs.declared.lines.Width.{Width}
use Rattle.mpc_block.specs.declared.lines.Width.TheVariants.{Short, Wide}
use Rattle.mpc_block.specs.Words.{signed_number, number_at, numbers_in}

pub numbers_of : (width : Width) (line : List ℕ) (lead : ℤ) (others : List ℤ) → length others ≤ 4 → number_at width line 1 ≡ lead → ((k : ℕ) → k < length others → number_at width line (2 + k) ≡ get_or others k (pos 0)) → take (length others + 1) (numbers_in width line) ≡ lead ∷ others
numbers_of width line lead [] h first each = λ i. first i ∷ []
numbers_of width line lead (a ∷ []) h first each = λ i. first i ∷ each 0 (omega arith) i ∷ []
numbers_of width line lead (a ∷ b ∷ []) h first each = λ i. first i ∷ each 0 (omega arith) i ∷ each 1 (omega arith) i ∷ []
numbers_of width line lead (a ∷ b ∷ c ∷ []) h first each = λ i. first i ∷ each 0 (omega arith) i ∷ each 1 (omega arith) i ∷ each 2 (omega arith) i ∷ []
numbers_of width line lead (a ∷ b ∷ c ∷ d ∷ []) h first each = λ i. first i ∷ each 0 (omega arith) i ∷ each 1 (omega arith) i ∷ each 2 (omega arith) i ∷ each 3 (omega arith) i ∷ []
numbers_of width line lead (a ∷ b ∷ c ∷ d ∷ e ∷ more) h first each = absurd (omega arith)

-- ---- one number more
pub short_more : (line : List ℕ) (i word : ℕ) (others : List ℤ) → 2 + i < length line → ((k : ℕ) → k < i → number_at Short line (2 + k) ≡ get_or others k (pos 0)) → to_z w64 word ≡ get_or others i (pos 0)
    → (k : ℕ) → k < i + 1 → number_at Short (set line (2 + i) word) (2 + k) ≡ get_or others k (pos 0)
short_more line i word others inside before here =
    below_more _ _ (λ k lt. let apart : 2 + k ≢ 2 + i = omega arith in ap (to_z w64) (get_or-set_other line (2 + i) (2 + k) word 0 apart) ∙ before k lt) (ap (to_z w64) (get_or-set_same line (2 + i) word 0 inside) ∙ here)

pub same_number : (new old : List ℕ) (i k : ℕ) → k ≢ i → ((p : ℕ) → p ≢ 2 * i → p ≢ 2 * i + 1 → slice_index new p ≡ slice_index old p) → number_at Wide new k ≡ number_at Wide old k
same_number new old i k apart keeps =
    λ j. signed_number (keeps (2 * k) (omega arith) (omega arith) j) (keeps (2 * k + 1) (omega arith) (omega arith) j)

pub wide_more : (new old : List ℕ) (i : ℕ) (others : List ℤ) → ((p : ℕ) → p ≢ 2 * (2 + i) → p ≢ 2 * (2 + i) + 1 → slice_index new p ≡ slice_index old p) → ((k : ℕ) → k < i → number_at Wide old (2 + k) ≡ get_or others k (pos 0)) → number_at Wide new (2 + i) ≡ get_or others i (pos 0)
    → (k : ℕ) → k < i + 1 → number_at Wide new (2 + k) ≡ get_or others k (pos 0)
wide_more new old i others keeps before here = below_more _ _ (λ k lt. same_number new old (2 + i) (2 + k) (omega arith) keeps ∙ before k lt) here
