use Rattle.std.proofs.Common.{◌≡◌, List}
use Rattle.mpc_plant.specs.declared.plants.Plant.{Plant}
use Rattle.mpc_rows.specs.declared.laws.Law.{Law}
use Rattle.mpc_rows.specs.declared.systems.Row.{Row}
use Rattle.mpc_controller.specs.Parts.{limits_of}
use Rattle.mpc_recur.specs.Forms.{next_forms}
use Rattle.mpc_recur.specs.Findings.{Each}
use Rattle.mpc_recur.specs.Targets.{IsBaseOf, SideMet}
use Rattle.mpc_recur.proofs.leaves.rule_out_sides.Given as goal

abbrev pub invariant-loop-index : goal.invariant-loop-index
invariant-loop-index l = (plant : Plant) (law : Law) (path : List Row) → IsBaseOf plant path l.base → l.forms ≡ next_forms plant law → l.limits ≡ limits_of plant → Each (SideMet plant law path) l.index
