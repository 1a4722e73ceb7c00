-- Sections on their way to their answers.
use Rattle.std.specs.Prelude.{◌≡◌, ℕ, List, [], ◌∷◌, ◌++◌}
use Rattle.mpc_plant.specs.declared.plants.Plant.{Plant}
use Rattle.mpc_plant.specs.declared.faults.PlantError.{PlantError}
use Rattle.mpc_plant.specs.declared.faults.PlantError.TheVariants.{Bad, NoMemory}
use Rattle.mpc_plant.specs.WholePlant.{ReadsAsPlant}
use Rattle.mpc_rows.specs.declared.programs.Qp.{Qp}
use Rattle.mpc_claim.specs.Board.{Board}
use Rattle.mpc_workers.specs.Seats.{IsDone}
use Rattle.mpc_condense.specs.Convex.{IsConvexProgram}
use Rattle.mpc_status.specs.declared.status.Status.{Status}
use Rattle.mpc_status.specs.declared.status.Status.TheVariants.{BadPlant}
use Rattle.mpc_status.specs.StatusText.{line_of}
use Rattle.mpc_sections.specs.declared.beginnings.Begun.{Begun}
use Rattle.mpc_sections.specs.declared.beginnings.Begun.TheVariants.{Refused, Convex}
use Rattle.mpc_sections.specs.Alone.{IsAlone, IsPlantAnswer}

-- the registry of the plant's program, which workers have brought to its end
pub record IsExamined (plant : Plant) (board : Board) : Type 0 where
  pub qp : Qp
  pub convex : IsConvexProgram plant qp
  pub workers : ℕ
  pub done : IsDone qp workers board

-- of each section, in order, that it is refused, or its plant, each with something of it behind the others: its program, or a registry
pub data AreBegun (X : Type 0) (Holds : Plant → X → Type 0) : List (List ℕ) → List Begun → List X → Type 0 where
  no_more : AreBegun X Holds [] [] []
  refused : (section : List ℕ) (status : Status) (sections : List (List ℕ)) (begun : List Begun) (xs : List X) → IsAlone section status (line_of status) → AreBegun X Holds sections begun xs
      → AreBegun X Holds (section ∷ sections) (Refused status ∷ begun) xs
  convex : (section : List ℕ) (plant : Plant) (x : X) (sections : List (List ℕ)) (begun : List Begun) (xs : List X) → ReadsAsPlant section plant → Holds plant x → AreBegun X Holds sections begun xs
      → AreBegun X Holds (section ∷ sections) (Convex plant ∷ begun) (x ∷ xs)

-- the refusal of a section that is no plant's file
abbrev pub IsFaultOf : PlantError → Begun → Type 0
IsFaultOf (Bad kind path) begun = begun ≡ Refused (BadPlant kind path)
IsFaultOf NoMemory begun = ⊥

-- a section is refused, or has a plant whose program stands behind the others
abbrev pub BeginsAs : List ℕ → Begun → List Qp → List Qp → Type 0
BeginsAs section (Refused status) before after = IsAlone section status (line_of status) × (after ≡ before)
BeginsAs section (Convex plant) before after = (qp : Qp) × ReadsAsPlant section plant × IsConvexProgram plant qp × (after ≡ before ++ qp ∷ [])

-- the registry of the section's plant, where it has one, is the first
abbrev pub HasRegistry : Begun → List Board → Type 0
HasRegistry (Refused status) registries = Unit {0}
HasRegistry (Convex plant) registries = (r : Board) × ((rest : List Board) × (registries ≡ r ∷ rest) × IsExamined plant r)

-- what the section is answered with, and the registries that are left
abbrev pub IsAnswered : Begun → List Board → Status → List ℕ → List Board → Type 0
IsAnswered (Refused status) before answer text after = (answer ≡ status) × (text ≡ line_of status) × (after ≡ before)
IsAnswered (Convex plant) before answer text after = IsPlantAnswer plant answer text × ((r : Board) × (before ≡ r ∷ after))
