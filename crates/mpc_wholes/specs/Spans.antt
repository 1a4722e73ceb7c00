-- Where the numerators of rows aren't 0.
use Rattle.std.specs.Prelude.{◌≡◌, ℕ, ◌<◌, ◌≤◌, ℤ, pos, List, length, get_or}
use Rattle.mpc_wholes.specs.declared.numbers.Wholes.{Wholes}
use Rattle.mpc_wholes.specs.declared.spans.Span.{Span}

-- outside of the span the first numerators are 0
pub record IsSpanOf (numerators : List ℤ) (count : ℕ) (s : Span) : Type 0 where
  pub ordered : s.first ≤ s.end
  pub within : s.end ≤ count
  pub before : (k : ℕ) → k < s.first → get_or numerators k (pos 0) ≡ pos 0
  pub behind : (k : ℕ) → s.end ≤ k → k < count → get_or numerators k (pos 0) ≡ pos 0

-- one for each row
pub record AreSpansOf (rows : List Wholes) (count : ℕ) (spans : List Span) : Type 0 where
  pub size : length spans ≡ length rows
  pub at : (i : ℕ) (w : Wholes) (s : Span) → i < length rows → IsSpanOf (get_or rows i w).numerators count (get_or spans i s)
