-- What is written of several plants.
use Rattle.std.specs.Prelude.{ℕ, ◌+◌, List, [], ◌∷◌, ◌++◌}
use Rattle.mpc_status.specs.declared.status.Status.{Status}
use Rattle.mpc_sections.specs.Alone.{heading}

-- the output of `fleet`: the sections from this number on, each with its status's code and its text under its number
pub data AreAnswered (IsAlone : List ℕ → Status → List ℕ → Type 0) : ℕ → List (List ℕ) → List ℕ → Type 0 where
  none : (number : ℕ) → AreAnswered IsAlone number [] []
  one_more : (number : ℕ) (section : List ℕ) (status : Status) (text : List ℕ) (sections : List (List ℕ)) (texts : List ℕ) → IsAlone section status text → AreAnswered IsAlone (number + 1) sections texts
      → AreAnswered IsAlone number (section ∷ sections) ((heading number status ++ text) ++ texts)
