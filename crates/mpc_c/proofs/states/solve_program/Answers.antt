use Rattle.std.proofs.Common.{◌∙◌, ap, length, map, take}
use Rattle.mpc_c.specs.Fractions.{lowest}
use Rattle.mpc_c.proofs.StateEnds.{moved, none, wide}
use Rattle.mpc_c.proofs.states.solve_program.Goals as goal

pub returns-in-Ok-Best-clause-says : goal.returns-in-Ok-Best-clause-says
returns-in-Ok-Best-clause-says c = λ plant file read condensed inside each.
    moved c.right_programs.ensures.plain plant file read c.args.program.now condensed c.args.counts.now inside c.requires.in_box c.in-Ok-Best.best c.put_numbers.new.moves (length c.args.moves.now)
    (rw c.in-Ok-Best.best-is (rw c.in-Ok-Best.field-0-is at c.in-Ok-Best.ensures.best)) each (c.put_numbers.ensures ∙ ap (λ v. map lowest (take (length c.args.moves.now) v)) c.as_slice.ensures)

pub returns-in-Ok-Refuted-clause-says : goal.returns-in-Ok-Refuted-clause-says
returns-in-Ok-Refuted-clause-says c = λ plant file read condensed inside each.
    none c.right_programs.ensures.plain plant file read c.args.program.now condensed c.args.counts.now inside c.requires.in_box (rw c.in-Ok-Refuted.field-0-is at c.in-Ok-Refuted.ensures.infeasible)

pub returns-in-Err-Wide-clause-says : goal.returns-in-Err-Wide-clause-says
returns-in-Err-Wide-clause-says c = λ plant file read condensed inside each.
    wide c.right_programs.ensures.plain plant file read c.args.program.now condensed c.args.counts.now inside c.requires.in_box (c.in-Err-Wide.field-0-0, (rw c.in-Err-Wide.field-0-is at c.in-Err-Wide.ensures.wide))
