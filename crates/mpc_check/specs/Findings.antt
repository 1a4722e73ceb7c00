-- Conditions in an order, and what is found at the first that isn't met.
use Rattle.std.specs.Prelude.{◌≡◌, ℕ, ◌<◌, ◌≤◌, ◌⊎◌, Option, Some, None, Result, Ok, Err, Bool, true, false}
use Rattle.mpc_rows.specs.declared.places.Place.{Place}
use Rattle.mpc_check.specs.declared.answers.Spot.{Spot}
use Rattle.mpc_condense.specs.declared.convex.ProgramError.{ProgramError}
use Rattle.mpc_condense.specs.declared.convex.ProgramError.TheVariants.{TooWide, NotDefinite, NoMemory}

-- what is found: that a condition fails at a spot, that one of its numbers is too wide at a place, or that a pivot isn't positive
pub data Finding : Type 0 where
  refused : Spot → Finding
  too_wide : Place → Finding
  not_definite : ℕ → Finding

-- the condition's numbers fit, and it holds
pub record IsMet (fits holds : Type 0) : Type 0 where
  pub fits_so : fits
  pub holds_so : holds

-- what is found of a condition that isn't met: at this spot where its numbers fit and it doesn't hold, and at this place where they don't fit
abbrev pub IsUnmet : Type 0 → Type 0 → Spot → Place → Finding → Type 0
IsUnmet fits holds spot place (refused s) = (s ≡ spot) × fits × ¬ holds
IsUnmet fits holds spot place (too_wide p) = (p ≡ place) × ¬ fits
IsUnmet fits holds spot place (not_definite j) = ⊥

-- ---- conditions one after another
abbrev pub Each : (ℕ → Type 0) → ℕ → Type 0
Each met count = (k : ℕ) → k < count → met k

-- of so many parts, counted from 0, the first that isn't met gives the finding
pub record IsFirstOf (met : ℕ → Type 0) (finds : ℕ → Finding → Type 0) (count : ℕ) (finding : Finding) : Type 0 where
  pub place : ℕ
  pub within : place < count
  pub before : Each met place
  pub here : finds place finding

-- the parts of a stretch: from one place, counted from 0, to before another
abbrev pub EachFrom : (ℕ → Type 0) → ℕ → ℕ → Type 0
EachFrom met from to = (k : ℕ) → from ≤ k → k < to → met k

-- of a stretch's parts the first that isn't met gives the finding
pub record IsFirstFrom (met : ℕ → Type 0) (finds : ℕ → Finding → Type 0) (from to : ℕ) (finding : Finding) : Type 0 where
  pub place : ℕ
  pub from_first : from ≤ place
  pub within : place < to
  pub before : EachFrom met from place
  pub here : finds place finding

-- the first part gives the finding, or it is met and the second does
abbrev pub IsFirstOfTwo : Type 0 → (Finding → Type 0) → (Finding → Type 0) → Finding → Type 0
IsFirstOfTwo met finds later finding = finds finding ⊎ (met × later finding)

-- ---- what a search answers
-- no spot where all is met; else what is found, unless there is no memory
abbrev pub IsSearched : Type 0 → (Finding → Type 0) → Result (Option Spot) ProgramError → Type 0
IsSearched met finds (Ok None) = met
IsSearched met finds (Ok (Some spot)) = finds (refused spot)
IsSearched met finds (Err (TooWide place)) = finds (too_wide place)
IsSearched met finds (Err (NotDefinite j)) = finds (not_definite j)
IsSearched met finds (Err NoMemory) = Unit {0}

-- whether one condition holds, unless its numbers are too wide, at this place, or there is no memory
abbrev pub IsDecided : Type 0 → Type 0 → Place → Result Bool ProgramError → Type 0
IsDecided fits holds place (Ok true) = IsMet fits holds
IsDecided fits holds place (Ok false) = fits × ¬ holds
IsDecided fits holds place (Err (TooWide p)) = (p ≡ place) × ¬ fits
IsDecided fits holds place (Err (NotDefinite j)) = ⊥
IsDecided fits holds place (Err NoMemory) = Unit {0}
