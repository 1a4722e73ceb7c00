-- From the parts of a plant's controller to the controller.
use Rattle.std.proofs.Common.{◌≡◌, ℕ, List, refl, sym, ◌∙◌, subst}
use Rattle.std.specs.Prelude.{All, Result, Ok, Err, IfOk, IfErr, OnOk}
use Rattle.std.proofs.lemmas.List.Elements.{All-contains}
use Rattle.mpc_space.specs.Matrix.{height}
use Rattle.mpc_plant.specs.declared.plants.Plant.{Plant}
use Rattle.mpc_rows.specs.declared.programs.Qp.{Qp}
use Rattle.mpc_rows.specs.declared.laws.Law.{Law}
use Rattle.mpc_rows.specs.declared.trees.Node.{Node}
use Rattle.mpc_rows.specs.Candidates.{IsTable}
use Rattle.mpc_rows.specs.SetRuns.{LawRowsFit}
use Rattle.mpc_tree.specs.declared.errors.TreeError.{TreeError}
use Rattle.mpc_tree.specs.declared.errors.TreeError.TheVariants.{Wide as WideTree, NoMemory as NoTreeMemory}
use Rattle.mpc_tree.specs.Causes.{IfWide}
use Rattle.mpc_tree.specs.WideRuns.{IsFirstWide}
use Rattle.mpc_tree.specs.Trees.{whole_box}
use Rattle.mpc_tree.specs.Certified.{IsCertified}
use Rattle.mpc_controller.specs.Parts.{Parts, HaveShapes}
use Rattle.mpc_controller.specs.Bounds.{KeepBounds}
use Rattle.mpc_synthesis.specs.RightReplies.{PartsHaveShapes}
use Rattle.mpc_check.specs.Acceptance.{Accepts}
use Rattle.mpc_synthesis.specs.Compiled.{IsCompiled}
use Rattle.mpc_claim.specs.Board.{Board}
use Rattle.mpc_condense.specs.Convex.{HasProgram}
use Rattle.mpc_synthesis.specs.Programs.{HasVerdicts, IsDecidedBy}
use Rattle.mpc_synthesis.specs.declared.parts.Tabled.{Tabled}
use Rattle.mpc_synthesis.specs.Tables.{IsTabledBy, HasTable}
use Rattle.mpc_synthesis.specs.Controllers.{HasTree, IsSealed, IsController}
use Rattle.mpc_synthesis.specs.Refusals.{controller, ExplainsSynthesisError, ExplainsCheckError, refusal_of, wide_tree, wide_check}
use Rattle.mpc_condense.specs.declared.convex.ProgramError.{ProgramError}
use Rattle.mpc_condense.specs.declared.convex.ProgramError.TheVariants.{NotDefinite, TooWide, NoMemory}

-- ---- the table of a decided program
pub has_table : (plant : Plant) (board : Board) (table : Tabled) → ((workers : ℕ) × IsDecidedBy workers plant board) → IsTabledBy board table → HasTable plant table
has_table plant board table by is = record {
  verdicts = subst (HasVerdicts plant) (sym (is.program_is ∙ by.1.done.program)) by.1.verdicts;
  is_table = is.is_table;
  rows_fit = is.rows_fit;
}

pub shapes : PartsHaveShapes → (qp : Qp) (plant : Plant) (laws : List Law) (nodes : List Node) → HasProgram plant qp → IsTable qp laws → All (λ law. LawRowsFit qp law (height qp.g)) laws → IsCertified qp laws whole_box nodes
    → HaveShapes plant laws nodes
shapes have qp plant laws nodes h table fit tree = have qp plant laws nodes h.condensed table (λ law c. All-contains (λ l. LawRowsFit qp l (height qp.g)) laws law fit c) tree

pub sealed_of : (plant : Plant) (qp : Qp) (laws : List Law) (nodes : List Node) (parts : Parts) → HasTree plant qp laws nodes → HaveShapes plant laws nodes → KeepBounds plant laws nodes → parts ≡ record { plant = plant; laws = laws; tree = nodes }
    → IsSealed plant qp parts
sealed_of plant qp laws nodes parts h fit kept e = subst (IsSealed plant qp) (sym e) (record { plant_is = refl; has_tree = h; fits = record { shapes = fit; bounds = kept } })

pub wide_tree_of : (plant : Plant) (qp : Qp) (laws : List Law) (e : TreeError) → HasVerdicts plant qp → IsTable qp laws → IfWide e (IsFirstWide qp laws whole_box 1) → ExplainsSynthesisError controller plant (refusal_of e)
wide_tree_of plant qp laws (WideTree place) v table w = wide_tree controller qp laws place tt v table w
wide_tree_of plant qp laws NoTreeMemory v table w = tt

-- ---- the check
pub compiled_of : (plant : Plant) (qp : Qp) (parts : Parts) → IsSealed plant qp parts → IsCompiled qp parts
compiled_of plant qp parts is =
    record { program = subst (λ p. HasProgram p qp) (sym is.plant_is) is.has_tree.verdicts.has_program; pivots = is.has_tree.verdicts.pivots; table = is.has_tree.table; tree = is.has_tree.certified }

pub compiled_sealed : (plant : Plant) (parts : Parts) → ((qp : Qp) × IsSealed plant qp parts) → (qp : Qp) × IsCompiled qp parts
compiled_sealed plant parts is = (is.0, compiled_of plant is.0 parts is.1)

pub controlled : (plant : Plant) (parts : Parts) (r : Result Parts ProgramError) → ((qp : Qp) × IsSealed plant qp parts) → IfOk r (λ p. p ≡ parts) → OnOk r (Accepts parts) → IfOk r (λ p. (qp : Qp) × IsController plant qp p)
controlled plant parts (Ok p) is same accepted = subst (λ q. (qp : Qp) × IsController plant qp q) (sym same) (is.0, record { is_sealed = is.1; accepted = accepted })
controlled plant parts (Err e) is same accepted = tt

pub wide_checked : (plant : Plant) (parts : Parts) (r : Result Parts ProgramError) → ((qp : Qp) × IsSealed plant qp parts) → IfErr r (ExplainsCheckError parts) → IfErr r (ExplainsSynthesisError controller plant)
wide_checked plant parts (Ok p) is h = tt
wide_checked plant parts (Err (NotDefinite pivot)) is h = absurd h
wide_checked plant parts (Err (TooWide place)) is h = wide_check controller is.0 parts place tt is.1 h
wide_checked plant parts (Err NoMemory) is h = tt
