use Rattle.std.proofs.Common.{sym, ◌∙◌, ap, length}
use Rattle.mpc_space.proofs.Matrix.{length-mat_vec}
use Rattle.mpc_plant.proofs.costs.add_form.Goals as goal

pub add_dot-requires : goal.add_dot-requires
add_dot-requires c = c.requires.rows ∙ sym (ap length (c.as_slice.ensures ∙ c.in_ok-weighted.ensures.value) ∙ length-mat_vec c.args.matrix.now.rows c.args.vector.now)
