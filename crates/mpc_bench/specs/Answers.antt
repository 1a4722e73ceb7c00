-- The controller of a plant, and which answers to counts are right.
use Rattle.std.specs.Prelude.{◌≡◌, ℕ, List, length, None, false}
use Rattle.mpc_exact.specs.Rational.{ℚ}
use Rattle.mpc_bench.specs.declared.parts.Parts.{Parts as SentParts}
use Rattle.mpc_plant.specs.declared.plants.Plant.{Plant}
use Rattle.mpc_plant.specs.Reply.{move, infeasible, IsRight}
use Rattle.mpc_plant.specs.Trajectory.{point_of}
use Rattle.mpc_rows.specs.declared.programs.Qp.{Qp}
use Rattle.mpc_rows.specs.declared.laws.Law.{Law}
use Rattle.mpc_controller.specs.Parts.{Parts, limits_of, HaveShapes}
use Rattle.mpc_controller.specs.Replies.{first_outside, first_move, IsLawNumbered, RepliesAt}
use Rattle.mpc_table.specs.Lookup.{Lookup, IsTableOf}
use Rattle.mpc_synthesis.specs.Controllers.{IsController}
use Rattle.mpc_bench.specs.declared.controllers.Sizes.{Sizes}
use Rattle.mpc_bench.specs.declared.replies.Answer.{Answer}
use Rattle.mpc_bench.specs.declared.replies.Answer.TheVariants.{Moved, Infeasible, Outside}

-- what stands behind the last number
abbrev pub no_parts : SentParts
no_parts = record { negative = false; num_high = 0; num_low = 0; den_high = 0; den_low = 0 }

-- as many laws and nodes
pub record HaveSizes (sizes : Sizes) (parts : Parts) : Type 0 where
  pub laws : sizes.laws ≡ length parts.laws
  pub nodes : sizes.nodes ≡ length parts.tree

-- the table of these parts, which have the shapes of a controller's
pub record HoldsFor (parts : Parts) (table : Lookup) : Type 0 where
  pub shapes : HaveShapes parts.plant parts.laws parts.tree
  pub table_of : IsTableOf parts table

-- the first move of the law with this number
abbrev pub IsMoveOf : Parts → List ℕ → ℕ → List ℚ → Type 0
IsMoveOf parts counts number moves = (law : Law) × IsLawNumbered parts.laws number law × (moves ≡ first_move parts.plant.p law (point_of counts))

-- what the tree of these parts replies to counts
abbrev pub RepliesBy : Parts → List ℕ → List ℚ → Answer → Type 0
RepliesBy parts counts moves Moved = (first_outside (limits_of parts.plant) counts ≡ None) × RepliesAt parts (point_of counts) (move moves)
RepliesBy parts counts moves Infeasible = (first_outside (limits_of parts.plant) counts ≡ None) × RepliesAt parts (point_of counts) infeasible
RepliesBy parts counts moves Outside = ¬ (first_outside (limits_of parts.plant) counts ≡ None)

-- what is right at counts: the first move of the cheapest admissible sequence, that there is no admissible one, or that a count is above
-- its limit
abbrev pub IsRightAt : Plant → List ℕ → List ℚ → Answer → Type 0
IsRightAt plant counts moves Moved = (first_outside (limits_of plant) counts ≡ None) × IsRight plant (point_of counts) (move moves)
IsRightAt plant counts moves Infeasible = (first_outside (limits_of plant) counts ≡ None) × IsRight plant (point_of counts) infeasible
IsRightAt plant counts moves Outside = ¬ (first_outside (limits_of plant) counts ≡ None)

-- the right answer, and the sizes of the plant's controller, which the checker accepts
pub record IsAnsweredFor (plant : Plant) (counts : List ℕ) (sizes : Sizes) (moves : List ℚ) (answer : Answer) : Type 0 where
  pub right : IsRightAt plant counts moves answer
  pub qp : Qp
  pub parts : Parts
  pub controller : IsController plant qp parts
  pub sizes_are : HaveSizes sizes parts
