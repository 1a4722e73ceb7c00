-- Steps on the lists of a registry.
use Rattle.std.specs.Prelude.{◌≡◌, ℕ, ◌<◌, ◌≤◌, List, [], ◌∷◌, ◌++◌, length, Bool, true, false, Contains, if◌then◌else◌}
use Rattle.mpc_sets.specs.SetOrder.{IsInOrder}
use Rattle.mpc_rows.specs.declared.programs.Qp.{Qp}
use Rattle.mpc_rows.specs.declared.laws.Law.{Law}
use Rattle.mpc_rows.specs.declared.verdicts.Verdict.{Verdict}
use Rattle.mpc_rows.specs.declared.verdicts.Verdict.TheVariants.{Dependent, Unreachable, Hollow, Region, Wide}
use Rattle.mpc_rows.specs.Candidates.{IsCandidateOf, CanGrow}
use Rattle.mpc_claim.specs.declared.candidates.Candidate.{Candidate}
use Rattle.mpc_claim.specs.declared.candidates.Slot.{Slot}
use Rattle.mpc_claim.specs.declared.candidates.Slot.TheVariants.{Waiting, Claimed, Done, Dropped}
use Rattle.mpc_claim.specs.Board.{at, can_grow}
use Rattle.mpc_claim.specs.Books.{is_bad}

abbrev pub slot_grows : Slot → Bool
slot_grows Waiting = false
slot_grows (Claimed number) = false
slot_grows (Done verdict) = can_grow verdict
slot_grows Dropped = false

-- the sets that can grow by a row
abbrev pub grown_of : List Candidate → List (List ℕ)
grown_of [] = []
grown_of (c ∷ rest) = (if slot_grows c.slot then c.set ∷ [] else []) ++ grown_of rest

abbrev pub laws_in : Verdict → List Law
laws_in Dependent = []
laws_in Unreachable = []
laws_in Hollow = []
laws_in (Region law) = law ∷ []
laws_in (Wide place) = []

-- the law of a slot's verdict, if it has one
abbrev pub law_in : Slot → List Law
law_in Waiting = []
law_in (Claimed number) = []
law_in (Done verdict) = laws_in verdict
law_in Dropped = []

abbrev pub laws_of : List Candidate → List Law
laws_of [] = []
laws_of (c ∷ rest) = law_in c.slot ++ laws_of rest

-- no law stands at two places
abbrev pub StandOnce : List Candidate → Type 0
StandOnce candidates = (i j : ℕ) (law : Law) → (at candidates i).slot ≡ Done (Region law) → (at candidates j).slot ≡ Done (Region law) → i ≡ j

-- the place has a wide verdict, and no place before it, from `from` on, has one
pub record IsFirstBadPlace (candidates : List Candidate) (from place : ℕ) : Type 0 where
  pub from_on : from ≤ place
  pub in_range : place < length candidates
  pub bad : is_bad (at candidates place).slot ≡ true
  pub before : (i : ℕ) → from ≤ i → i < place → is_bad (at candidates i).slot ≡ false

-- the given sets are the candidates of size k that can grow
pub record HoldsGrown (qp : Qp) (k : ℕ) (grown : List (List ℕ)) : Type 0 where
  pub are : (s : List ℕ) → Contains grown s → IsCandidateOf k qp s × CanGrow qp s
  pub complete : (s : List ℕ) → IsCandidateOf k qp s → CanGrow qp s → Contains grown s

-- the sets are, in order, the candidates of size k
pub record HoldsCandidates (qp : Qp) (k : ℕ) (sets : List (List ℕ)) : Type 0 where
  pub in_order : IsInOrder sets
  pub are : (s : List ℕ) → Contains sets s → IsCandidateOf k qp s
  pub complete : (s : List ℕ) → IsCandidateOf k qp s → Contains sets s
