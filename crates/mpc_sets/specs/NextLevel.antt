-- The next level of sets of rows: those with one member more whose smaller subsets are all given.
use Rattle.std.specs.Prelude.{◌≡◌, ℕ, ◌+◌, ◌<◌, ◌≤◌, ◌++◌, List, [], ◌∷◌, length, slice_index_or, Contains}
use Rattle.mpc_sets.specs.RowSet.{IsSetOfRows, LacksOne}
use Rattle.mpc_sets.specs.SetOrder.{IsInOrder}

-- the given sets have the same number of members
abbrev pub IsOfOneSize : List (List ℕ) → Type 0
IsOfOneSize sets = (s t : List ℕ) → Contains sets s → Contains sets t → length s ≡ length t

-- sets in order, each once, with the same number of members
pub record IsLevel (sets : List (List ℕ)) : Type 0 where
  pub in_order : IsInOrder sets
  pub one_size : IsOfOneSize sets

-- a set of rows that has a member, and whose every subset with one member fewer is among the given sets
pub record IsNextOf (grown : List (List ℕ)) (rows : ℕ) (s : List ℕ) : Type 0 where
  pub is_set : IsSetOfRows rows s
  pub has_member : 0 < length s
  pub subsets : (t : List ℕ) → IsSetOfRows rows t → LacksOne t s → Contains grown t

-- one of the first `place` sets with one row behind its members
pub record ExtendsOneOf (sets : List (List ℕ)) (place : ℕ) (s : List ℕ) : Type 0 where
  pub at : ℕ
  pub is_before : at < place
  pub row : ℕ
  pub is : s ≡ slice_index_or sets at [] ++ row ∷ []

-- the level holds, in order and once each, those of the next sets that Reached tells of
pub record HoldsNext (Reached : List ℕ → Type 0) (grown : List (List ℕ)) (rows : ℕ) (level : List (List ℕ)) : Type 0 where
  pub in_order : IsInOrder level
  pub are_next : (s : List ℕ) → Contains level s → IsNextOf grown rows s × Reached s
  pub complete : (s : List ℕ) → IsNextOf grown rows s → Reached s → Contains level s

-- a set of one of the rows 1 to `rows`
pub record IsSingle (rows : ℕ) (s : List ℕ) : Type 0 where
  pub row : ℕ
  pub from_one : 1 ≤ row
  pub to_rows : row ≤ rows
  pub is : s ≡ row ∷ []

-- each set of the level has one member more than each given set
abbrev pub AllOneLarger : List (List ℕ) → List (List ℕ) → Type 0
AllOneLarger grown level = (s t : List ℕ) → Contains level s → Contains grown t → length s ≡ length t + 1
