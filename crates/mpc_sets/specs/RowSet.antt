-- Sets of row numbers. A set is the list of its members in rising order.
use Rattle.std.specs.Prelude.{◌≡◌, ℕ, ◌+◌, ◌<◌, ◌≤◌, ◌⊎◌, cond, not, List, [], ◌∷◌, length, nat_lt, ◌==◌, Contains, filter}

-- each number is above the one before it, the first above `low`, and none is above `high`
abbrev pub RisesWithin : ℕ → ℕ → List ℕ → Type 0
RisesWithin low high [] = Unit {0}
RisesWithin low high (i ∷ rest) = (low < i) × (i ≤ high) × RisesWithin i high rest

-- i is one of the members, by recursion on the list
abbrev pub Among : ℕ → List ℕ → Type 0
Among i [] = ⊥
Among i (j ∷ rest) = (i ≡ j) ⊎ Among i rest

-- a set of some of the rows 1 to `rows`
pub record IsSetOfRows (rows : ℕ) (s : List ℕ) : Type 0 where
  pub rises : RisesWithin 0 rows s

-- the set with the row i too
abbrev pub with_row : ℕ → List ℕ → List ℕ
with_row i [] = i ∷ []
with_row i (j ∷ rest) = cond (nat_lt i j) (i ∷ j ∷ rest) (cond (i == j) (j ∷ rest) (j ∷ with_row i rest))

-- the set without the row i
abbrev pub without_row : ℕ → List ℕ → List ℕ
without_row i s = filter (λ j. not (j == i)) s

-- each member of t is one of s
abbrev pub IsSubset : List ℕ → List ℕ → Type 0
IsSubset t s = (i : ℕ) → Contains t i → Contains s i

-- t is a subset of s with one member fewer
pub record LacksOne (t s : List ℕ) : Type 0 where
  pub subset : IsSubset t s
  pub one_fewer : length t + 1 ≡ length s
