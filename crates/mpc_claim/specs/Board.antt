-- A registry of active sets as contracts see it.
use Rattle.std.specs.Prelude.{ℕ, List, [], ◌∷◌, Bool, true, false, map, slice_index_or}
use Rattle.mpc_rows.specs.declared.programs.Qp.{Qp}
use Rattle.mpc_rows.specs.declared.verdicts.Verdict.{Verdict}
use Rattle.mpc_rows.specs.declared.verdicts.Verdict.TheVariants.{Dependent, Unreachable, Hollow, Region, Wide}
use Rattle.mpc_claim.specs.declared.events.Event.{Event}
use Rattle.mpc_claim.specs.declared.events.EventKind.{EventKind}
use Rattle.mpc_claim.specs.declared.events.Tag.{Tag}
use Rattle.mpc_claim.specs.declared.events.Tag.TheVariants.{Dependent as DependentTag, Unreachable as UnreachableTag, Hollow as HollowTag, Region as RegionTag, Wide as WideTag}
use Rattle.mpc_claim.specs.declared.events.Phase.{Phase}
use Rattle.mpc_claim.specs.declared.events.Phase.TheVariants.{Working}
use Rattle.mpc_claim.specs.declared.candidates.Candidate.{Candidate}
use Rattle.mpc_claim.specs.declared.candidates.Slot.{Slot}
use Rattle.mpc_claim.specs.declared.candidates.Slot.TheVariants.{Waiting}

-- the program, its candidates so far in order, each with its slot, how many of them stand in the levels before the last one, the phase, and
-- the history
pub record Board : Type 0 where
  pub program : Qp
  pub candidates : List Candidate
  pub settled : ℕ
  pub phase : Phase
  pub history : List Event

abbrev pub event : ℕ → List ℕ → EventKind → Event
event worker set kind = record { worker = worker; set = set; kind = kind }

abbrev pub candidate : List ℕ → Slot → Candidate
candidate set slot = record { set = set; slot = slot }

abbrev pub waiting : List ℕ → Candidate
waiting set = candidate set Waiting

-- the candidate at a place, counted from 0
abbrev pub at : List Candidate → ℕ → Candidate
at candidates i = slice_index_or candidates i (waiting [])

abbrev pub sets_of : List Candidate → List (List ℕ)
sets_of candidates = map (λ (c : Candidate). c.set) candidates

abbrev pub tag_of : Verdict → Tag
tag_of Dependent = DependentTag
tag_of Unreachable = UnreachableTag
tag_of Hollow = HollowTag
tag_of (Region law) = RegionTag
tag_of (Wide place) = WideTag

abbrev pub is_wide : Verdict → Bool
is_wide Dependent = false
is_wide Unreachable = false
is_wide Hollow = false
is_wide (Region law) = false
is_wide (Wide place) = true

-- the set can grow by a row
abbrev pub can_grow : Verdict → Bool
can_grow Dependent = false
can_grow Unreachable = false
can_grow Hollow = true
can_grow (Region law) = true
can_grow (Wide place) = false

-- nothing is claimed yet
abbrev pub opening : Qp → Board
opening qp = record { program = qp; candidates = waiting [] ∷ []; settled = 0; phase = Working; history = [] }
