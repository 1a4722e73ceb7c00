-- What refuses a plant on the way to its verdicts or its controller.
use Rattle.std.proofs.Common.{◌-◌, ◌⊎◌, inl, inr, List, refl, sym, subst, arith}
use Rattle.mpc_space.specs.Matrix.{height, entry}
use Rattle.mpc_plant.specs.declared.plants.Plant.{Plant}
use Rattle.mpc_rows.specs.declared.programs.Qp.{Qp}
use Rattle.mpc_rows.specs.declared.laws.Law.{Law}
use Rattle.mpc_rows.specs.declared.places.Place.{Place}
use Rattle.mpc_rows.specs.declared.verdicts.Verdict.TheVariants.{Wide}
use Rattle.mpc_rows.specs.Candidates.{IsTable}
use Rattle.mpc_rows.specs.LawTheorems.{LawTheorems}
use Rattle.mpc_claim.specs.Answers.{IsFirstBad}
use Rattle.mpc_systems.specs.CellTheorems.{CellTheorems}
use Rattle.mpc_tree.specs.Certified.{TableHasLaws, FitsNotWide}
use Rattle.mpc_tree.specs.Trees.{whole_box}
use Rattle.mpc_tree.specs.WideRuns.{IsFirstWide as IsFirstWideRun}
use Rattle.mpc_definite.specs.Pivots.{IsFirstWide}
use Rattle.mpc_condense.specs.BestReplies.{OneProgram}
use Rattle.mpc_condense.specs.ProgramTheorems.{NoWidePlace, RowsWithin}
use Rattle.mpc_controller.specs.Parts.{Parts}
use Rattle.mpc_check.specs.Findings.{too_wide}
use Rattle.mpc_check.specs.Acceptance.{FindsBehind, IsFound}
use Rattle.mpc_synthesis.specs.Programs.{HasVerdicts}
use Rattle.mpc_synthesis.specs.Controllers.{IsSealed}
use Rattle.mpc_condense.specs.Convex.{HasProgram as HasItsProgram, PivotsPass}
use Rattle.mpc_condense.specs.Refusals.{IsFirstWidePlace, wide_program as of_condensing, wide_pivot as of_pivot}
use Rattle.mpc_synthesis.specs.Refusals.{Extent, verdicts, controller, FirstWide, wide_program, wide_set, wide_tree, wide_bound, wide_check}
use Rattle.mpc_theorem.specs.Programs.{IsWideProgram}
use Rattle.mpc_theorem.specs.Stages.{IsWideSet, IsWideTree, IsWideStage, PlantTooWide}
use Rattle.mpc_theorem.proofs.BoundPlaces.{to_first_broken, of_first_broken}
use Rattle.mpc_theorem.proofs.DecisionPlaces.{to_set_fits, of_set_fits, to_wide_run, of_wide_run}
use Rattle.mpc_theorem.proofs.ProgramPlaces.{to_all_pass, of_all_pass}
use Rattle.mpc_theorem.proofs.ProgramRefusals.{to_program, of_program}
use Rattle.mpc_theorem.proofs.SearchPlaces.{to_first_wide, of_first_wide}
use Rattle.mpc_theorem.proofs.StateRefusals.{solves_too_wide}

-- ---- the checker finds nothing of a program with verdicts
module _ (none : NoWidePlace) (one : OneProgram) where
  program_passes : (plant : Plant) (qp : Qp) (place : Place) → HasVerdicts plant qp → IsFirstWidePlace plant place → ⊥
  program_passes plant qp _ has (of_condensing place h) = none plant place has.has_program.fits h
  program_passes plant qp _ has (of_pivot other j program h) =
      let first = subst (λ (q : Qp). IsFirstWide (entry q.h) (height q.h) j) (one plant other qp program.condensed has.has_program.condensed) h in
      first.here (has.pivots.fits (j - 1) (let some = first.some in let within = first.within in omega (arith, some, within)))

  found_behind : (place : Place) (plant : Plant) (qp : Qp) (parts : Parts) → IsSealed plant qp parts → IsFound parts (too_wide place) → FindsBehind parts (too_wide place)
  found_behind place plant qp parts is (inl h) = absurd (program_passes parts.plant qp place (subst (λ (p : Plant). HasVerdicts p qp) (sym is.plant_is) is.has_tree.verdicts) h)
  found_behind place plant qp parts is (inr h) = h

-- ---- the stages
-- what holds of the trees of all tables
pub record TreeTheorems : Type 0 where
  pub points : CellTheorems
  pub single : LawTheorems
  pub are_laws : TableHasLaws
  pub fits_not : FitsNotWide

module _ (plant : Plant) where
  of_set : (extent : Extent) (place : Place) → IsWideSet plant place → IsWideStage extent plant place
  of_set verdicts place h = h
  of_set controller place h = inl h

  to_set : (extent : Extent) (place : Place) → IsWideSet plant place → FirstWide plant extent place
  to_set extent place h =
      wide_set extent h.qp place (to_program plant h.qp h.program) (to_all_pass h.qp h.pivots) (record {
        set = h.set;
        candidate = h.candidate;
        right = of_wide_run h.qp h.set place h.first;
        wide = refl;
        before = λ s is earlier. of_set_fits h.qp s (h.before s is earlier);
      })

  from_set : (qp : Qp) (place : Place) → HasItsProgram plant qp → PivotsPass qp → IsFirstBad qp (Wide place) → IsWideSet plant place
  from_set qp place program pivots h = record {
    qp = qp;
    program = of_program plant qp program;
    pivots = of_all_pass qp pivots;
    set = h.set;
    candidate = h.candidate;
    before = λ s is earlier. let other = h.before s is earlier in to_set_fits qp s other.0 other.1 other.2;
    first = to_wide_run qp h.set place h.right;
  }

  module _ (t : TreeTheorems) where
    to_tree : (place : Place) → IsWideTree plant place → FirstWide plant controller place
    to_tree place h = wide_tree controller h.qp h.laws place tt has h.table (to_first_wide t.points t.single h.qp h.laws (t.are_laws h.qp h.laws h.table) h.nodes h.node place h.preorder h.first h.wide)
      where
        has : HasVerdicts plant h.qp
        has = record { has_program = to_program plant h.qp h.program; pivots = to_all_pass h.qp h.pivots; decided = λ s is. of_set_fits h.qp s (h.decided s is) }

    from_tree : (qp : Qp) (laws : List Law) (place : Place) → HasVerdicts plant qp → IsTable qp laws → IsFirstWideRun qp laws whole_box 1 place → IsWideTree plant place
    from_tree qp laws place has table h =
        let found = of_first_wide t.points t.single qp laws (t.are_laws qp laws table) t.fits_not place h in
        record {
          qp = qp;
          laws = laws;
          program = of_program plant qp has.has_program;
          pivots = of_all_pass qp has.pivots;
          decided = λ s is. let verdict = has.decided s is in to_set_fits qp s verdict.0 verdict.1 verdict.2;
          table = table;
          nodes = found.nodes;
          preorder = found.preorder;
          node = found.node;
          first = found.first;
          wide = found.wide;
        }

    of_stage : (extent : Extent) (place : Place) → IsWideStage extent plant place → FirstWide plant extent place
    of_stage verdicts place h = to_set verdicts place h
    of_stage controller place (inl h) = to_set controller place h
    of_stage controller place (inr (inl h)) = to_tree place h
    of_stage controller place (inr (inr (inl h))) = wide_bound controller h.qp h.laws h.nodes place tt h.has_tree (to_first_broken plant h.laws h.nodes place h.first)
    of_stage controller place (inr (inr (inr h))) = wide_check controller h.qp h.parts place tt h.is_sealed (inr h.found)

    of_either : RowsWithin → (extent : Extent) (place : Place) → IsWideProgram plant place ⊎ IsWideStage extent plant place → FirstWide plant extent place
    of_either within extent place (inl h) = wide_program extent place ((solves_too_wide within plant place).1 h)
    of_either within extent place (inr h) = of_stage extent place h

  module _ (none : NoWidePlace) (within : RowsWithin) (one : OneProgram) (t : TreeTheorems) where
    to_either : (extent : Extent) (place : Place) → FirstWide plant extent place → IsWideProgram plant place ⊎ IsWideStage extent plant place
    to_either extent place (wide_program e p h) = inl ((solves_too_wide within plant p).0 h)
    to_either extent place (wide_set e qp p program pivots h) = inr (of_set e p (from_set qp p program pivots h))
    to_either controller place (wide_tree e qp laws p builds has table h) = inr (inr (inl (from_tree t qp laws p has table h)))
    to_either controller place (wide_bound e qp laws nodes p builds has h) = inr (inr (inr (inl (record { qp = qp; laws = laws; nodes = nodes; has_tree = has; first = of_first_broken plant laws nodes p h }))))
    to_either controller place (wide_check e qp parts p builds is h) = inr (inr (inr (inr (record { qp = qp; parts = parts; is_sealed = is; found = found_behind none one p plant qp parts is h }))))
    to_either verdicts place (wide_tree e qp laws p builds has table h) = absurd builds
    to_either verdicts place (wide_bound e qp laws nodes p builds has h) = absurd builds
    to_either verdicts place (wide_check e qp parts p builds is h) = absurd builds

pub plant_too_wide : NoWidePlace → RowsWithin → OneProgram → TreeTheorems → PlantTooWide
plant_too_wide none within one t extent plant place = (to_either plant none within one t extent place, of_either plant t within extent place)
