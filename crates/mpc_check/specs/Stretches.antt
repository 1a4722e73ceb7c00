-- A list cut into stretches of neighbouring places, and what is found of stretches of a tree that are searched side by side.
use Rattle.std.specs.Prelude.{◌≡◌, ℕ, ◌≤◌, List, [], ◌∷◌, length, All, Option, Result}
use Rattle.mpc_rows.specs.declared.programs.Qp.{Qp}
use Rattle.mpc_rows.specs.declared.laws.Law.{Law}
use Rattle.mpc_rows.specs.declared.trees.Node.{Node}
use Rattle.mpc_rows.specs.Laws.{HasLawShape}
use Rattle.mpc_controller.specs.Preorder.{IsTree}
use Rattle.mpc_check.specs.declared.answers.Spot.{Spot}
use Rattle.mpc_condense.specs.declared.convex.ProgramError.{ProgramError}
use Rattle.mpc_check.specs.declared.stretches.Stretch.{Stretch}
use Rattle.mpc_check.specs.Findings.{IsSearched}
use Rattle.mpc_check.specs.LeafConditions.{StretchMet, StretchFinds}
use Rattle.mpc_controller.specs.Ways.{HasSplitRow}
use Rattle.mpc_check.specs.LeafSystems.{NamesLaw}

-- laws with the shapes of the program, and a tree over them whose splits are on its states
pub record HaveProgramShapes (qp : Qp) (laws : List Law) (nodes : List Node) : Type 0 where
  pub laws_fit : All (HasLawShape qp) laws
  pub complete : IsTree nodes
  pub named : All (NamesLaw (length laws)) nodes
  pub splits : All (HasSplitRow (length qp.counts)) nodes

-- ---- stretches
-- a stretch of a list of so many places
pub record IsStretchOf (places : ℕ) (stretch : Stretch) : Type 0 where
  pub in_order : stretch.from ≤ stretch.to
  pub inside : stretch.to ≤ places

-- each begins where the one before it ends, the first at one place, and the last ends before another
abbrev pub AreNeighbours : ℕ → ℕ → List Stretch → Type 0
AreNeighbours from to [] = from ≡ to
AreNeighbours from to (s ∷ stretches) = (s.from ≡ from) × (s.from ≤ s.to) × AreNeighbours s.to to stretches

-- ---- what is found of them
-- these are the answers of a search of each
abbrev pub AreSearched : Qp → List Law → List Node → List Stretch → List (Result (Option Spot) ProgramError) → Type 0
AreSearched qp laws nodes [] [] = Unit {0}
AreSearched qp laws nodes [] (answer ∷ answers) = ⊥
AreSearched qp laws nodes (s ∷ stretches) [] = ⊥
AreSearched qp laws nodes (s ∷ stretches) (answer ∷ answers) =
    IsSearched (StretchMet qp laws nodes s.from s.to) (StretchFinds qp laws nodes s.from s.to) answer × AreSearched qp laws nodes stretches answers

-- whichever neighbouring stretches were searched with these answers, this is the answer of a search of them as one
abbrev pub AnswersAsOne : List (Result (Option Spot) ProgramError) → Result (Option Spot) ProgramError → Type 0
AnswersAsOne answers answer =
    (qp : Qp) (laws : List Law) (nodes : List Node) (from to : ℕ) (stretches : List Stretch) → AreNeighbours from to stretches → AreSearched qp laws nodes stretches answers
    → IsSearched (StretchMet qp laws nodes from to) (StretchFinds qp laws nodes from to) answer
