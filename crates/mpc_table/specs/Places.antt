-- Lines of whole numbers that are kept once each, and named by their places, from 0, in the order in which they come first.
use Rattle.std.specs.Prelude.{◌≡◌, ◌≢◌, ℕ, ℤ, ◌<◌, ◌⊎◌, List, [], ◌∷◌, ◌++◌, length, map, slice_index_or, MatchOption}
use Rattle.std.specs.BTreeMap.{get, btree_map_len}
use Rattle.std.specs.Cmp.Lexicographic.{slice_cmp}
use Rattle.std.specs.Ordering.{int_cmp}
use Rattle.std.specs.Global.{Vec}
use Rattle.mpc_table.specs.declared.places.Places.{Places}

-- the line isn't one of these
abbrev pub IsNew : List (List ℤ) → List ℤ → Type 0
IsNew lines line = (i : ℕ) → i < length lines → slice_index_or lines i [] ≢ line

-- no two lines are equal
abbrev pub AreDifferent : List (List ℤ) → Type 0
AreDifferent lines = (j : ℕ) → j < length lines → (i : ℕ) → i < j → slice_index_or lines i [] ≢ slice_index_or lines j []

-- the line at this place
pub record IsPlaceOf (lines : List (List ℤ)) (line : List ℤ) (place : ℕ) : Type 0 where
  pub inside : place < length lines
  pub line_is : slice_index_or lines place [] ≡ line

-- these are the lines that came
pub record ArePlaces (places : Places) (lines : List (List ℤ)) : Type 0 where
  pub found : (key : Vec ℤ) → MatchOption (get (λ x y. slice_cmp int_cmp x.items y.items) places.places key) (IsNew lines key.items) (λ place. IsPlaceOf lines key.items place)
  pub count : btree_map_len places.places ≡ length lines
  pub different : AreDifferent lines

-- a line that came before
pub record IsOld (lines : List (List ℤ)) (line : List ℤ) (place : ℕ) (places : Places) : Type 0 where
  pub before : IsPlaceOf lines line place
  pub places_are : ArePlaces places lines

-- a new line behind these
pub record IsNext (lines : List (List ℤ)) (line : List ℤ) (place : ℕ) (places : Places) : Type 0 where
  pub last : place ≡ length lines
  pub places_are : ArePlaces places (lines ++ line ∷ [])

abbrev pub IsPlaced : List (List ℤ) → List ℤ → ℕ → Places → Type 0
IsPlaced lines line place places = IsOld lines line place places ⊎ IsNext lines line place places

-- an item has this place: behind the old ones is at most this one, and the lines of all of them are those that came
pub record IsKept {X : Type 0} (line : X → List ℤ) (item : X) (old new : List X) (places : Places) (place : ℕ) : Type 0 where
  pub behind : List X
  pub grown : new ≡ old ++ behind
  pub places_are : ArePlaces places (map line new)
  pub inside : place < length new
  pub item_is : (d : X) → slice_index_or new place d ≡ item
