-- A finished history decides all candidates.
use Rattle.std.proofs.Common.{◌≡◌, ◌≢◌, ℕ, ◌⊎◌, inl, inr, false, List, refl, sym, subst}
use Rattle.std.specs.Prelude.{Contains}
use Rattle.std.proofs.lemmas.List.Elements.{Contains-get_or}
use Rattle.mpc_plant.specs.declared.plants.Plant.{Plant}
use Rattle.mpc_rows.specs.declared.programs.Qp.{Qp}
use Rattle.mpc_rows.specs.declared.verdicts.Verdict.{Verdict}
use Rattle.mpc_rows.specs.declared.verdicts.Verdict.TheVariants.{Dependent, Unreachable, Hollow, Region, Wide}
use Rattle.mpc_claim.specs.declared.events.Event.{Event}
use Rattle.mpc_claim.specs.declared.events.EventKind.TheVariants.{Done}
use Rattle.mpc_claim.specs.declared.events.Tag.{Tag}
use Rattle.mpc_claim.specs.declared.events.Tag.TheVariants.{Wide as WideTag}
use Rattle.mpc_claim.specs.Board.{Board, event, tag_of, is_wide}
use Rattle.mpc_claim.specs.History.{IsLegal, IsFinished, EndsWide}
use Rattle.mpc_claim.specs.HistoryTheorems.{LegalTheorems}
use Rattle.mpc_claim.specs.declared.events.Phase.TheVariants.{Finished, Stopped}
use Rattle.mpc_condense.specs.declared.convex.ProgramError.{ProgramError}
use Rattle.mpc_condense.specs.declared.convex.ProgramError.TheVariants.{NotDefinite, TooWide, NoMemory}
use Rattle.mpc_synthesis.specs.Crews.{HasEnded}
use Rattle.mpc_condense.specs.Convex.{IsConvexProgram}
use Rattle.mpc_condense.specs.Refusals.{IsProgramCause}
use Rattle.mpc_synthesis.specs.Programs.{IsDecided, HasVerdicts, IsDecidedBy}
use Rattle.mpc_synthesis.specs.Refusals.{Extent, ExplainsSynthesisError, ExplainsSetError, wide_program, wide_set}

not_wide_by : (v : Verdict) (tag : Tag) → tag_of v ≡ tag → tag ≢ WideTag → is_wide v ≡ false
not_wide_by Dependent tag e n = refl
not_wide_by Unreachable tag e n = refl
not_wide_by Hollow tag e n = refl
not_wide_by (Region law) tag e n = refl
not_wide_by (Wide place) tag e n = absurd (n (sym e))

pub decided_of : LegalTheorems → (qp : Qp) (history : List Event) → IsLegal qp history → IsFinished qp history → IsDecided qp
decided_of laws qp history legal finished s candidate =
    let settled = finished.settled s candidate in
    let d = settled.done.delivery in
    let done = event settled.done.worker s (Done settled.tag) in
    let right = laws.right_tags qp history settled.done.worker s settled.tag legal (subst (Contains history) d.2 (Contains-get_or history d.0 done d.1)) in
    (right.verdict, right.right, not_wide_by right.verdict settled.tag right.tagged settled.not_wide)

-- ---- the registry of all workers
stopped_not_finished : (board : Board) → board.phase ≡ Stopped → board.phase ≡ Finished → ⊥
stopped_not_finished board e f = cc

pub finished_by : (workers : ℕ) (qp : Qp) (board : Board) → HasEnded workers qp board → board.phase ≡ Finished → IsFinished qp board.history
finished_by workers qp board done phase = by done.ended
  where
    by : ((board.phase ≡ Finished) × IsFinished qp board.history) ⊎ ((board.phase ≡ Stopped) × EndsWide qp board.history) → IsFinished qp board.history
    by (inl h) = h.1
    by (inr h) = absurd (stopped_not_finished board h.0 phase)

pub verdicts_of : LegalTheorems → (workers : ℕ) (plant : Plant) (qp : Qp) (board : Board) → IsConvexProgram plant qp → HasEnded workers qp board → board.phase ≡ Finished → HasVerdicts plant qp
verdicts_of laws workers plant qp board program done phase = record {
  has_program = program.has_program;
  pivots = program.pivots;
  decided = decided_of laws qp board.history done.legal (finished_by workers qp board done phase);
}

pub program_refused : (extent : Extent) (plant : Plant) (e : ProgramError) → IsProgramCause plant e → ExplainsSynthesisError extent plant e
program_refused extent plant (NotDefinite pivot) h = h
program_refused extent plant (TooWide place) h = wide_program extent place h
program_refused extent plant NoMemory h = tt

pub wide_set_of : (extent : Extent) (plant : Plant) (qp : Qp) (e : ProgramError) → IsConvexProgram plant qp → ExplainsSetError qp e → ExplainsSynthesisError extent plant e
wide_set_of extent plant qp (NotDefinite pivot) program h = absurd h
wide_set_of extent plant qp (TooWide place) program h = wide_set extent qp place program.has_program program.pivots h
wide_set_of extent plant qp NoMemory program h = tt

pub decided_by : LegalTheorems → (workers : ℕ) (plant : Plant) (qp : Qp) (board : Board) → IsConvexProgram plant qp → HasEnded workers qp board → board.phase ≡ Finished → IsDecidedBy workers plant board
decided_by laws workers plant qp board program done phase = record { qp = qp; verdicts = verdicts_of laws workers plant qp board program done phase; done = done; phase = phase; finished = finished_by workers qp board done phase }
