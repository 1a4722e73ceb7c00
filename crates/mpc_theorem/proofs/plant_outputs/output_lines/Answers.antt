use Rattle.mpc_theorem.proofs.OutputLines.{replies_are_lines, one_replies, solved_by_run, robustly_solved_by_run, exact_is_solved, exact_is_robustly_solved}
use Rattle.mpc_theorem.proofs.plant_outputs.output_lines.Goals as goal

pub returns-clause-replies : goal.returns-clause-replies
returns-clause-replies c = replies_are_lines

pub returns-clause-one : goal.returns-clause-one
returns-clause-one c = one_replies c.plant_texts.ensures.one c.one_right_reply.ensures

pub returns-clause-solve : goal.returns-clause-solve
returns-clause-solve c = solved_by_run c.plant_texts.ensures.read

pub returns-clause-robust : goal.returns-clause-robust
returns-clause-robust c = robustly_solved_by_run c.plant_texts.ensures.read

pub returns-clause-solved : goal.returns-clause-solved
returns-clause-solved c = exact_is_solved

pub returns-clause-robustly_solved : goal.returns-clause-robustly_solved
returns-clause-robustly_solved c = exact_is_robustly_solved
