use Rattle.std.proofs.Common.{sym, subst}
use Rattle.mpc_trace.specs.DrillPlant.{IsDrillPlant}
use Rattle.mpc_theorem.proofs.RightControllers.{controls_its_plant, controller_rightly}
use Rattle.mpc_theorem.proofs.drill_lines.drill_line_theorems.Goals as goal

pub returns : goal.returns
returns c = λ number counts output h written.
    let of = h.counted in
    let own = controls_its_plant h.plant of.qp of.parts of.controls in
    record {
      qp = of.qp;
      parts = of.parts;
      counts = counts;
      drill = subst (IsDrillPlant number) (sym of.controls.is_sealed.plant_is) h.is;
      condensed = own.is_sealed.has_tree.verdicts.has_program.condensed;
      candidates = of.candidates;
      table = own.is_sealed.has_tree.table;
      regions = of.regions;
      tree = of.tree;
      rightly = controller_rightly c.right_controller.ensures.right c.right_controller.ensures.replies h.plant of.qp of.parts of.controls;
      written = written;
    }
