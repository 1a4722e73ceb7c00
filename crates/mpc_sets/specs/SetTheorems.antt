-- Theorems of sets of rows: their members, their order, how many there are, and the sets of the next level.
use Rattle.std.specs.Prelude.{◌≡◌, ◌≢◌, ℕ, ◌+◌, ◌<◌, ◌≤◌, ◌⊎◌, List, [], ◌∷◌, ◌++◌, length, slice_index_or, All, AllPairs, Contains}
use Rattle.mpc_sets.specs.RowSet.{RisesWithin, Among, IsSetOfRows, with_row, without_row, LacksOne}
use Rattle.mpc_sets.specs.SetOrder.{IsBefore}
use Rattle.mpc_sets.specs.NextLevel.{IsNextOf}

-- ---- members
pub record MemberTheorems : Type 0 where
  -- the members are what the list contains
  pub contained : (i : ℕ) (s : List ℕ) → Among i s → Contains s i
  pub among : (i : ℕ) (s : List ℕ) → Contains s i → Among i s
  pub in_place : (s : List ℕ) (k : ℕ) → k < length s → Among (slice_index_or s k 0) s
  -- they lie within the bounds
  pub within : (low high i : ℕ) (s : List ℕ) → RisesWithin low high s → Among i s → (low < i) × (i ≤ high)
  -- a row that is greater than each member can stand behind them
  pub one_more : (low high top : ℕ) (s : List ℕ) (row : ℕ) → RisesWithin low high s → ((i : ℕ) → Among i s → i < row) → low < row → row ≤ top
      → RisesWithin low top (s ++ row ∷ [])
  pub greatest_last : (s : List ℕ) (row : ℕ) → ((i : ℕ) → Among i s → i < row) → with_row row s ≡ s ++ row ∷ []
  -- without one of its members a set is a set of one member fewer
  pub one_fewer : (low high row : ℕ) (s : List ℕ) → RisesWithin low high s → Among row s → length (without_row row s) + 1 ≡ length s
  pub lacks_one : (rows row : ℕ) (s : List ℕ) → IsSetOfRows rows s → Among row s → IsSetOfRows rows (without_row row s) × LacksOne (without_row row s) s

-- ---- order
pub record OrderTheorems : Type 0 where
  pub irreflexive : (s : List ℕ) → ¬ IsBefore s s
  pub transitive : (s t u : List ℕ) → IsBefore s t → IsBefore t u → IsBefore s u
  pub total : (s t : List ℕ) → (s ≡ t) ⊎ (IsBefore s t ⊎ IsBefore t s)
  -- a set of fewer members comes first
  pub fewer_first : (s t : List ℕ) → length s < length t → IsBefore s t
  pub first_not_larger : (s t : List ℕ) → IsBefore s t → length s ≤ length t

-- ---- numbers
-- different sets of at most k of the rows 1 to `rows` are no more than `most`
abbrev pub AreAtMost : ℕ → ℕ → ℕ → Type 0
AreAtMost rows k most = (sets : List (List ℕ)) → AllPairs (λ s t. s ≢ t) sets → All (IsSetOfRows rows) sets → All (λ s. length s ≤ k) sets → length sets ≤ most

pub record CountTheorems : Type 0 where
  pub six_of_forty : AreAtMost 40 6 4598479
  pub four_of_sixty : AreAtMost 60 4 523686
  pub six_of_sixty : AreAtMost 60 6 56049058

-- ---- levels
-- without any of its members a set of the next level is given
abbrev pub GivenWithoutOne : Type 0
GivenWithoutOne = (grown : List (List ℕ)) (rows row : ℕ) (s : List ℕ) → IsNextOf grown rows s → Among row s → Contains grown (without_row row s)
