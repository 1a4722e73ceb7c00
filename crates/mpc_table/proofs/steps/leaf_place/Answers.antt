use Rattle.mpc_controller.specs.Walk.{root}
use Rattle.mpc_table.proofs.steps.leaf_place.Goals as goal

pub loop-next-init : goal.loop-next-init
loop-next-init c = record { inside = c.requires.root; walks = λ nodes is sides. root }
