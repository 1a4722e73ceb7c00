use Rattle.std.proofs.Common.{◌∙◌, ap, length}
use Rattle.mpc_space.proofs.Entries.{length-sub}
use Rattle.mpc_plant.proofs.costs.add_target.Goals as goal

pub add_form-requires-clause-columns : goal.add_form-requires-clause-columns
add_form-requires-clause-columns c = ap length (c.as_slice.ensures ∙ c.in_ok-distance.ensures.value) ∙ length-sub c.args.vector.now c.args.goal.now c.requires.goal ∙ c.requires.columns

pub add_form-requires-clause-rows : goal.add_form-requires-clause-rows
add_form-requires-clause-rows c = ap length (c.as_slice.ensures ∙ c.in_ok-distance.ensures.value) ∙ length-sub c.args.vector.now c.args.goal.now c.requires.goal ∙ c.requires.rows
