-- The answers to one state of a plant.
use Rattle.std.proofs.Common.{◌≡◌, ℕ, List, Option, map, take, None, refl, ◌∙◌, ap}
use Rattle.mpc_exact.specs.Rational.{ℚ}
use Rattle.mpc_plant.specs.declared.plants.Plant.{Plant}
use Rattle.mpc_plant.specs.Reply.{move, infeasible}
use Rattle.mpc_plant.specs.Trajectory.{point_of}
use Rattle.mpc_plant.specs.WholePlant.{ReadsAsPlant}
use Rattle.mpc_rows.specs.declared.programs.Qp.{Qp}
use Rattle.mpc_rows.specs.ActiveSets.{IsInBox, IsFeasible}
use Rattle.mpc_cover.specs.Cheapest.{IsCheapest}
use Rattle.mpc_condense.specs.Condensed.{IsCondensed}
use Rattle.mpc_controller.specs.Parts.{limits_of}
use Rattle.mpc_controller.specs.Replies.{first_outside}
use Rattle.mpc_states.specs.StateLines.{IsTooWide}
use Rattle.mpc_states.specs.StateTheorems.{ProgramIsRight}
use Rattle.mpc_cli.specs.Statuses.{ReadsWith}
use Rattle.mpc_c.specs.Fractions.{ratio_of, lowest}
use Rattle.mpc_block.specs.declared.replies.Move.{Move}
use Rattle.mpc_c.specs.Tables.{IsRightAt}
use Rattle.mpc_c.specs.States.{IsSolvedBy, IsWideAt}

-- ---- by a program
module _ (right : ProgramIsRight) (plant : Plant) (file : List ℕ) (read : ReadsAsPlant file plant) (qp : Qp) (condensed : IsCondensed qp plant) (counts : List ℕ)
    (inside : first_outside (limits_of plant) counts ≡ None) (in_box : IsInBox qp.counts (point_of counts)) where
  pub moved : (z : List ℚ) (moves : List Move) (room : ℕ) → IsCheapest qp (point_of counts) z → room ≡ plant.p → map ratio_of moves ≡ map lowest (take room z) → ReadsWith file (λ p. IsSolvedBy p counts moves)
  moved z moves room cheapest each written =
      let values = take plant.p z in
      record {
        plant = plant;
        read = read;
        so = record {
          values = values;
          right = (inside, right plant qp (point_of counts) (move values) condensed in_box (z, cheapest, refl));
          in_lowest = written ∙ ap (λ n. map lowest (take n z)) each;
        };
      }

  pub none : ((z : List ℚ) → ¬ IsFeasible qp (point_of counts) z) → ReadsWith file (λ p. IsRightAt p counts infeasible)
  none empty = record { plant = plant; read = read; so = (inside, right plant qp (point_of counts) infeasible condensed in_box empty) }

  pub wide : IsTooWide qp (point_of counts) → ReadsWith file (λ p. IsWideAt p counts)
  wide h = record { plant = plant; read = read; so = record { inside = inside; qp = qp; condensed = condensed; wide = h } }

-- ---- which count is outside
pub outside_there : (plant : Plant) (qp : Qp) (counts limits : List ℕ) (found : Option ℕ) → IsCondensed qp plant → limits ≡ qp.counts → found ≡ first_outside limits counts → found ≡ first_outside (limits_of plant) counts
outside_there plant qp counts limits found condensed limits_are is = is ∙ ap (λ l. first_outside l counts) (limits_are ∙ condensed.counts_are)
