-- What a section by itself is answered with, and the text of several.
use Rattle.std.specs.Prelude.{◌≡◌, ℕ, ◌+◌, List, [], ◌∷◌, ◌++◌, codes, decimal}
use Rattle.mpc_plant.specs.declared.plants.Plant.{Plant}
use Rattle.mpc_plant.specs.declared.faults.PlantKind.{PlantKind}
use Rattle.mpc_plant.specs.WholePlant.{ReadsAsPlant, IsFirstFault}
use Rattle.mpc_rows.specs.declared.programs.Qp.{Qp}
use Rattle.mpc_rows.specs.declared.places.Place.{Place}
use Rattle.mpc_controller.specs.Parts.{Parts}
use Rattle.mpc_grammar.specs.declared.versions.Version.TheVariants.{Three}
use Rattle.mpc_grammar.specs.FileGrammar.{Spells}
use Rattle.mpc_synthesis.specs.Controllers.{IsController}
use Rattle.mpc_condense.specs.Refusals.{IsNotDefiniteAt}
use Rattle.mpc_synthesis.specs.Refusals.{controller, FirstWide}
use Rattle.mpc_status.specs.declared.status.Status.{Status}
use Rattle.mpc_status.specs.declared.status.Status.TheVariants.{Done, BadPlant, NotDefinite, TooWide}
use Rattle.mpc_status.specs.StatusText.{line_of, code_of}

-- the text of the plant's controller, in version 3
pub record IsFile (plant : Plant) (text : List ℕ) : Type 0 where
  pub qp : Qp
  pub parts : Parts
  pub controller : IsController plant qp parts
  pub written : Spells text Three parts

-- The status and the text of a plant: the line of the first pivot that isn't positive or of the first place with a number that is too wide,
-- whichever comes first, and else the file of its controller. No worker is named.
pub data IsPlantAnswer (plant : Plant) : Status → List ℕ → Type 0 where
  not_definite : (pivot : ℕ) → IsNotDefiniteAt plant pivot → IsPlantAnswer plant (NotDefinite pivot) (line_of (NotDefinite pivot))
  too_wide : (place : Place) → FirstWide plant controller place → IsPlantAnswer plant (TooWide place) (line_of (TooWide place))
  compiled : (text : List ℕ) → IsFile plant text → IsPlantAnswer plant Done text

-- the status and the text of a section by itself: the line of the first check of a plant's file that fails, or those of its plant
pub data IsAlone (section : List ℕ) : Status → List ℕ → Type 0 where
  no_plant : (kind : PlantKind) (path : List ℕ) → IsFirstFault section kind path → IsAlone section (BadPlant kind path) (line_of (BadPlant kind path))
  of_plant : (plant : Plant) (status : Status) (text : List ℕ) → ReadsAsPlant section plant → IsPlantAnswer plant status text → IsAlone section status text

-- the line before the text of a section: its number and the exit code of its status
abbrev pub heading : ℕ → Status → List ℕ
heading number status = codes "plant " ++ decimal number ++ codes " " ++ decimal (code_of status) ++ codes "\n"

-- the sections from this number on, each by itself under its heading
pub data AreAnswered : ℕ → List (List ℕ) → List ℕ → Type 0 where
  none : (number : ℕ) → AreAnswered number [] []
  one_more : (number : ℕ) (section : List ℕ) (status : Status) (text : List ℕ) (sections : List (List ℕ)) (texts : List ℕ) → IsAlone section status text → AreAnswered (number + 1) sections texts
      → AreAnswered number (section ∷ sections) ((heading number status ++ text) ++ texts)

-- a section has one answer
abbrev pub OneAlone : Type 0
OneAlone = (section : List ℕ) (status other : Status) (text others : List ℕ) → IsAlone section status text → IsAlone section other others → (status ≡ other) × (text ≡ others)

-- so sections have one text
abbrev pub OneText : Type 0
OneText = (number : ℕ) (sections : List (List ℕ)) (text other : List ℕ) → AreAnswered number sections text → AreAnswered number sections other → text ≡ other
