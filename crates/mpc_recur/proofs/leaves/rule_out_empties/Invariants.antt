use Rattle.std.proofs.Common.{◌≡◌, ◌<◌, List, length}
use Rattle.mpc_rows.specs.declared.laws.Law.{Law}
use Rattle.mpc_rows.specs.declared.systems.Row.{Row}
use Rattle.mpc_recur.specs.Forms.{next_forms}
use Rattle.mpc_recur.specs.Findings.{Each}
use Rattle.mpc_recur.specs.Met.{AreMet}
use Rattle.mpc_recur.specs.Targets.{IsBaseOf, EmptyMet}
use Rattle.mpc_controller.specs.Ways.{IsWay}
use Rattle.mpc_recur.proofs.leaves.rule_out_empties.Given as goal

abbrev pub invariant-loop-place : goal.invariant-loop-place
invariant-loop-place l = record {
  way : l.place < length l.controller.tree → IsWay l.controller.tree l.place l.way.items;
  forms : l.met.forms.items ≡ l.fn.met.forms.items;
  kept : AreMet l.controller.tree l.fn.met.forms.items l.met.turns.items l.met.rows;
  met : (law : Law) (path : List Row) → IsBaseOf l.controller.plant path l.base → l.fn.met.forms.items ≡ next_forms l.controller.plant law → Each (EmptyMet l.controller.plant l.controller.tree law path) l.place;
}
