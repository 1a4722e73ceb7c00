-- How a history of claims and deliveries is written, and which one `trace` writes.
use Rattle.std.specs.Prelude.{◌≡◌, ◌≢◌, ℕ, All, AllPairs, Contains, List, [], ◌∷◌, ◌++◌, codes, decimal}
use Rattle.mpc_sets.specs.SetText.{set_text}
use Rattle.mpc_plant.specs.declared.plants.Plant.{Plant}
use Rattle.mpc_rows.specs.declared.programs.Qp.{Qp}
use Rattle.mpc_rows.specs.Candidates.{IsCandidate}
use Rattle.mpc_condense.specs.Condensed.{IsCondensed}
use Rattle.mpc_claim.specs.declared.events.Event.{Event}
use Rattle.mpc_claim.specs.declared.events.EventKind.{EventKind}
use Rattle.mpc_claim.specs.declared.events.EventKind.TheVariants.{Claim, Done, Drop}
use Rattle.mpc_claim.specs.declared.events.Tag.{Tag}
use Rattle.mpc_claim.specs.declared.events.Tag.TheVariants.{Dependent, Unreachable, Hollow, Region, Wide}
use Rattle.mpc_claim.specs.History.{claimed_sets, ended_sets, IsLegal, IsFinished}
use Rattle.mpc_workers.specs.Alone.{AreTurns}
use Rattle.mpc_workers.specs.Holding.{HoldOneSet}
use Rattle.mpc_workers.specs.Seats.{IsWorker}

abbrev pub tag_text : Tag → List ℕ
tag_text Dependent = codes "dependent"
tag_text Unreachable = codes "unreachable"
tag_text Hollow = codes "hollow"
tag_text Region = codes "region"
tag_text Wide = codes "wide"

-- the word of an event, and what stands behind its set
abbrev pub kind_word : EventKind → List ℕ
kind_word Claim = codes "claim "
kind_word (Done tag) = codes "done "
kind_word Drop = codes "drop "

abbrev pub kind_end : EventKind → List ℕ
kind_end Claim = codes "\n"
kind_end (Done tag) = codes " " ++ tag_text tag ++ codes "\n"
kind_end Drop = codes "\n"

-- the line of an event, as `claim 1 {}` or `done 1 {1,3} region`
abbrev pub event_text : Event → List ℕ
event_text e = kind_word e.kind ++ decimal e.worker ++ codes " " ++ set_text e.set ++ kind_end e.kind

abbrev pub history_text : List Event → List ℕ
history_text [] = []
history_text (e ∷ es) = event_text e ++ history_text es

-- the list has each candidate of the program exactly once, and no other set
pub record IsEachCandidate (qp : Qp) (sets : List (List ℕ)) : Type 0 where
  pub once : AllPairs (λ (s t : List ℕ). s ≢ t) sets
  pub all : (s : List ℕ) → IsCandidate qp s → Contains sets s
  pub only : (s : List ℕ) → Contains sets s → IsCandidate qp s

-- a finished history claims each candidate once, and delivers each once
pub record ClaimsEachOnce : Type 0 where
  pub claimed : (qp : Qp) (history : List Event) → IsLegal qp history → IsFinished qp history → IsEachCandidate qp (claimed_sets history)
  pub delivered : (qp : Qp) (history : List Event) → IsLegal qp history → IsFinished qp history → IsEachCandidate qp (ended_sets history)

-- The text of a legal history in which the workers from 1 to `workers` claim and decide the candidates of the plant's program: each is claimed
-- once and delivered once, and none is given up; each worker holds one set at a time. A worker who is alone delivers each set right after its
-- claim.
pub record IsTraceOf (workers : ℕ) (plant : Plant) (text : List ℕ) : Type 0 where
  pub qp : Qp
  pub condensed : IsCondensed qp plant
  pub history : List Event
  pub legal : IsLegal qp history
  pub finished : IsFinished qp history
  pub claimed : IsEachCandidate qp (claimed_sets history)
  pub delivered : IsEachCandidate qp (ended_sets history)
  pub by_workers : All (λ (e : Event). IsWorker workers e.worker) history
  pub one_each : HoldOneSet history
  pub turns : workers ≡ 1 → AreTurns history
  pub written : text ≡ history_text history
