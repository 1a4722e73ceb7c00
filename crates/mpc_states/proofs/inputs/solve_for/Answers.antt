use Rattle.mpc_states.proofs.Solved.{solved_for}
use Rattle.mpc_states.proofs.inputs.solve_for.Goals as goal

pub returns-clause-text : goal.returns-clause-text
returns-clause-text c = solved_for c.args.plant.now c.in-Ok.program c.args.counts.now c.in_ok-text.text.items c.right_programs.ensures.plain c.in-Ok.ensures.program c.in_ok-text.ensures
