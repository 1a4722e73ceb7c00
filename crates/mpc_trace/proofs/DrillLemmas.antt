-- The counts of a drill, and its one outcome.
use Rattle.std.proofs.Common.{◌≡◌, ℕ, List, length, sym, ◌∙◌, subst}
use Rattle.std.specs.Prelude.{Result, Ok, Err, IfOk, IfErr}
use Rattle.mpc_plant.specs.declared.plants.Plant.{Plant}
use Rattle.mpc_rows.specs.declared.programs.Qp.{Qp}
use Rattle.mpc_claim.specs.declared.events.Event.{Event}
use Rattle.mpc_claim.specs.Board.{Board}
use Rattle.mpc_claim.specs.History.{claimed_sets}
use Rattle.mpc_condense.specs.BestReplies.{OneProgram}
use Rattle.mpc_controller.specs.Parts.{Parts}
use Rattle.mpc_synthesis.specs.Controllers.{IsController}
use Rattle.mpc_synthesis.specs.Outcomes.{Outcome, IsOutcome, OneOutcome}
use Rattle.mpc_synthesis.specs.Programs.{IsDecidedBy}
use Rattle.mpc_synthesis.specs.Refusals.{controller, ExplainsSynthesisError}
use Rattle.mpc_condense.specs.declared.convex.ProgramError.{ProgramError as SynthesisError}
use Rattle.mpc_condense.specs.declared.convex.ProgramError.TheVariants.{NotDefinite, TooWide, NoMemory}
use Rattle.mpc_trace.specs.Histories.{ClaimsEachOnce, IsEachCandidate}
use Rattle.mpc_trace.specs.declared.drills.Drilled.{Drilled}
use Rattle.mpc_trace.specs.DrillPlant.{IsDrillPlant}
use Rattle.mpc_trace.specs.SearchTree.{IsTreeOf}
use Rattle.mpc_trace.specs.Drills.{CountsCandidates, HasCounts, IsDrilled, ExplainsDrillError, IsDrillOutcome}
use Rattle.mpc_trace.proofs.PlantLemmas.{one_plant}

-- the claims of the registry are the candidates of the controller's program
pub counts : OneProgram → ClaimsEachOnce → (workers : ℕ) (plant : Plant) (board : Board) (history : List Event) (parts : Parts) (drilled : Drilled) (claims : ℕ) → IsDecidedBy workers plant board → history ≡ board.history
    → claims ≡ length (claimed_sets history) → ((qp : Qp) × IsController plant qp parts) → drilled.candidates ≡ claims → length parts.laws ≡ drilled.regions → IsTreeOf parts.tree drilled.leaves drilled.depth → HasCounts plant drilled
counts one each workers plant board history parts drilled claims by is count made candidates regions tree =
    let qp : by.qp ≡ made.0 = one plant by.qp made.0 by.verdicts.has_program.condensed made.1.is_sealed.has_tree.verdicts.has_program.condensed in
    let mine : CountsCandidates by.qp drilled.candidates = record {
      sets = claimed_sets history;
      each = subst (λ (h : List Event). IsEachCandidate by.qp (claimed_sets h)) (sym is) (each.claimed by.qp board.history by.done.legal by.finished);
      as_many = sym count ∙ sym candidates;
    } in
    record { qp = made.0; parts = parts; controls = made.1; candidates = subst (λ (q : Qp). CountsCandidates q drilled.candidates) qp mine; regions = regions; tree = tree }

-- ---- of the drill's plant
pub drilled_of : {E : Type 0} (number : ℕ) (plant : Plant) (r : Result Drilled E) → IsDrillPlant number plant → IfOk r (HasCounts plant) → IfOk r (IsDrilled number)
drilled_of number plant (Ok d) is h = record { plant = plant; is = is; counted = h }
drilled_of number plant (Err e) is h = tt

pub refused_of : {T : Type 0} (number : ℕ) (plant : Plant) (r : Result T SynthesisError) → IsDrillPlant number plant → IfErr r (ExplainsSynthesisError controller plant) → IfErr r (ExplainsDrillError number)
refused_of number plant (Ok t) is h = tt
refused_of number plant (Err (NotDefinite pivot)) is h = record { plant = plant; is = is; comes = h }
refused_of number plant (Err (TooWide place)) is h = record { plant = plant; is = is; comes = h }
refused_of number plant (Err NoMemory) is h = tt

-- ---- one outcome
pub one_drill_outcome : OneOutcome → (number : ℕ) (one other : Outcome) → IsDrillOutcome number one → IsDrillOutcome number other → one ≡ other
one_drill_outcome law number one other h k =
    law controller k.plant one other (subst (λ (p : Plant). IsOutcome controller p one) (one_plant number h.plant k.plant h.is k.is) h.comes) k.comes
