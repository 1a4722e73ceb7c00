-- What a registry keeps of its candidates, and how contracts see it: a verdict with a law or a place stands in a list of its own, in the order
-- of delivery, and the candidate's mark has its place there.
use Rattle.std.specs.Prelude.{ℕ, ◌+◌, ◌<◌, ◌≤◌, List, [], ◌∷◌, length, map, slice_index_or, slice_set}
use Rattle.mpc_rows.specs.declared.verdicts.Verdict.{Verdict}
use Rattle.mpc_rows.specs.declared.verdicts.Verdict.TheVariants.{Dependent, Unreachable, Hollow, Region, Wide}
use Rattle.mpc_claim.specs.declared.candidates.Candidate.{Candidate}
use Rattle.mpc_claim.specs.declared.candidates.Slot.{Slot}
use Rattle.mpc_claim.specs.declared.candidates.Slot.TheVariants.{Waiting as WaitingSlot, Claimed as ClaimedSlot, Done, Dropped as DroppedSlot}
use Rattle.mpc_claim.specs.declared.entries.Entry.{Entry}
use Rattle.mpc_claim.specs.declared.entries.Mark.{Mark}
use Rattle.mpc_claim.specs.declared.entries.Mark.TheVariants.{Waiting, Claimed, Dependent as DependentMark, Unreachable as UnreachableMark, Hollow as HollowMark, Kept, Dropped}
use Rattle.mpc_claim.specs.Board.{candidate}

abbrev pub entry : List ℕ → Mark → Entry
entry set mark = record { set = set; mark = mark }

abbrev pub unclaimed : List ℕ → Entry
unclaimed set = entry set Waiting

-- the entry at a place, counted from 0
abbrev pub entry_at : List Entry → ℕ → Entry
entry_at entries i = slice_index_or entries i (unclaimed [])

-- the verdict, where it has a law or a place
abbrev pub kept_of : Verdict → List Verdict
kept_of Dependent = []
kept_of Unreachable = []
kept_of Hollow = []
kept_of (Region law) = Region law ∷ []
kept_of (Wide place) = Wide place ∷ []

-- the mark of a verdict that comes behind so many kept ones
abbrev pub mark_of : ℕ → Verdict → Mark
mark_of count Dependent = DependentMark
mark_of count Unreachable = UnreachableMark
mark_of count Hollow = HollowMark
mark_of count (Region law) = Kept count
mark_of count (Wide place) = Kept count

abbrev pub slot_of : List Verdict → Mark → Slot
slot_of verdicts Waiting = WaitingSlot
slot_of verdicts (Claimed number) = ClaimedSlot number
slot_of verdicts DependentMark = Done Dependent
slot_of verdicts UnreachableMark = Done Unreachable
slot_of verdicts HollowMark = Done Hollow
slot_of verdicts (Kept place) = Done (slice_index_or verdicts place Dependent)
slot_of verdicts Dropped = DroppedSlot

abbrev pub seen_one : List Verdict → Entry → Candidate
seen_one verdicts e = candidate e.set (slot_of verdicts e.mark)

-- the candidates of the entries
abbrev pub seen : List Verdict → List Entry → List Candidate
seen verdicts entries = map (seen_one verdicts) entries

-- the place that the mark names, if any, is one of so many
abbrev pub IsWithin : ℕ → Mark → Type 0
IsWithin count Waiting = Unit {0}
IsWithin count (Claimed number) = Unit {0}
IsWithin count DependentMark = Unit {0}
IsWithin count UnreachableMark = Unit {0}
IsWithin count HollowMark = Unit {0}
IsWithin count (Kept place) = place < count
IsWithin count Dropped = Unit {0}

-- the verdicts after the mark's law is taken out
abbrev pub without_law : List Verdict → Mark → List Verdict
without_law verdicts Waiting = verdicts
without_law verdicts (Claimed number) = verdicts
without_law verdicts DependentMark = verdicts
without_law verdicts UnreachableMark = verdicts
without_law verdicts HollowMark = verdicts
without_law verdicts (Kept place) = slice_set verdicts place Hollow
without_law verdicts Dropped = verdicts

-- each place that is named has a verdict, there are no more verdicts than ended claims, and there is room for those of all open ones
pub record HasVerdicts (entries : List Entry) (verdicts : List Verdict) (claims open_slots capacity : ℕ) : Type 0 where
  pub within : (i : ℕ) → IsWithin (length verdicts) (entry_at entries i).mark
  pub few : length verdicts + open_slots ≤ claims
  pub room : length verdicts + open_slots ≤ capacity
