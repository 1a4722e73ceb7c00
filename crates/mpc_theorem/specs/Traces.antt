-- Histories in which workers claim the active sets of a program and deliver what they find of them.
use Rattle.std.specs.Prelude.{◌≡◌, ℕ, ◌<◌, ◌≤◌, List, ◌∷◌, ◌++◌, length, Contains}
use Rattle.mpc_sets.specs.SetOrder.{IsBefore}
use Rattle.mpc_plant.specs.declared.plants.Plant.{Plant}
use Rattle.mpc_rows.specs.declared.programs.Qp.{Qp}
use Rattle.mpc_rows.specs.ActiveSets.{IsIndependentSet, IsReachable}
use Rattle.mpc_rows.specs.Laws.{HasRegion, HasLawWith}
use Rattle.mpc_rows.specs.Candidates.{IsCandidate, CanGrow}
use Rattle.mpc_condense.specs.Condensed.{IsCondensed}
use Rattle.mpc_claim.specs.declared.events.Event.{Event}
use Rattle.mpc_claim.specs.declared.events.EventKind.{EventKind}
use Rattle.mpc_claim.specs.declared.events.EventKind.TheVariants.{Claim, Done, Drop}
use Rattle.mpc_claim.specs.declared.events.Tag.{Tag}
use Rattle.mpc_claim.specs.declared.events.Tag.TheVariants.{Dependent, Unreachable, Hollow, Region, Wide}
use Rattle.mpc_claim.specs.Board.{event}
use Rattle.mpc_synthesis.specs.Refusals.{verdicts}
use Rattle.mpc_synthesis.specs.Outcomes.{IsComplete}
use Rattle.mpc_trace.specs.Histories.{history_text, IsTraceOf}

-- what the tag says of the set, whatever its numbers are
abbrev pub IsTagOf : Qp → List ℕ → Tag → Type 0
IsTagOf qp s Dependent = ¬ IsIndependentSet qp s
IsTagOf qp s Unreachable = IsIndependentSet qp s × ¬ IsReachable qp s
IsTagOf qp s Hollow = CanGrow qp s × HasLawWith qp s (λ law. ¬ HasRegion qp law)
IsTagOf qp s Region = CanGrow qp s × HasLawWith qp s (HasRegion qp)
IsTagOf qp s Wide = ⊥

-- somebody has claimed the set, or delivered it
abbrev pub IsClaimed : List Event → List ℕ → Type 0
IsClaimed past s = (worker : ℕ) × Contains past (event worker s Claim)

abbrev pub IsDelivered : List Event → List ℕ → Type 0
IsDelivered past s = (worker : ℕ) × ((tag : Tag) × Contains past (event worker s (Done tag)))

-- the worker has claimed the set, and nobody has delivered it
abbrev pub Holds : List Event → ℕ → List ℕ → Type 0
Holds past worker s = Contains past (event worker s Claim) × ¬ IsDelivered past s

-- the worker holds no set, and this one is the least candidate that isn't claimed, with all smaller candidates delivered
pub record MayClaim (qp : Qp) (past : List Event) (worker : ℕ) (s : List ℕ) : Type 0 where
  pub free : (t : List ℕ) → ¬ Holds past worker t
  pub candidate : IsCandidate qp s
  pub fresh : ¬ IsClaimed past s
  pub least : (t : List ℕ) → IsCandidate qp t → IsBefore t s → IsClaimed past t
  pub smaller : (t : List ℕ) → IsCandidate qp t → length t < length s → IsDelivered past t

-- what may follow these events: a claim, or the delivery of a set that the worker holds, with a tag that is so of it; none is given up
abbrev pub MayFollow : Qp → List Event → ℕ → List ℕ → EventKind → Type 0
MayFollow qp past worker s Claim = MayClaim qp past worker s
MayFollow qp past worker s (Done tag) = Holds past worker s × IsTagOf qp s tag
MayFollow qp past worker s Drop = ⊥

-- each event is of one of the workers from 1 on and may follow those before it, and at the end each candidate is delivered
pub record IsHistory (qp : Qp) (workers : ℕ) (history : List Event) : Type 0 where
  pub by_workers : (past more : List Event) (e : Event) → history ≡ past ++ e ∷ more → (0 < e.worker) × (e.worker ≤ workers)
  pub legal : (past more : List Event) (e : Event) → history ≡ past ++ e ∷ more → MayFollow qp past e.worker e.set e.kind
  pub finished : (s : List ℕ) → IsCandidate qp s → IsDelivered history s

-- the text of a history in which so many workers claim and deliver the candidates of the plant's program
pub record IsTraceText (workers : ℕ) (plant : Plant) (text : List ℕ) : Type 0 where
  pub qp : Qp
  pub condensed : IsCondensed qp plant
  pub history : List Event
  pub is_history : IsHistory qp workers history
  pub written : text ≡ history_text history

-- ---- laws
-- the text of a plant's registry is one
abbrev pub TraceIsText : Type 0
TraceIsText = (workers : ℕ) (plant : Plant) (text : List ℕ) → IsTraceOf workers plant text → IsTraceText workers plant text

-- Where nothing of the plant is too wide, each such text is that of a registry's history: each candidate is claimed once and delivered once, with
-- the tag of the verdict to which the stated runs come; each worker holds one set at a time, and one who is alone delivers it right after its claim.
abbrev pub TextIsTrace : Type 0
TextIsTrace = (workers : ℕ) (plant : Plant) (text : List ℕ) → IsComplete verdicts plant → IsTraceText workers plant text → IsTraceOf workers plant text
