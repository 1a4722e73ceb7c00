use Rattle.std.proofs.Common.{◌≡◌, ◌∙◌, length, map, sym, ap, subst, IfSome, arith}
use Rattle.mpc_rows.specs.LinearSystem.{LinearSystem}
use Rattle.mpc_rows.specs.LawRows.{whole_row}
use Rattle.mpc_region.proofs.BoxRuns.{result_answer, result_fits}
use Rattle.mpc_region.proofs.region.rows_meet_box.Goals as goal
use Rattle.mpc_region.proofs.region.rows_meet_box.Goals.{In-Some}

whole_is : (c : In-Some) → c.in-Some.whole ≡ record { width = c.len.result; rows = map whole_row c.args.rows.now }
whole_is c = subst (λ o. IfSome o (λ (w : LinearSystem). w ≡ record { width = c.len.result; rows = map whole_row c.args.rows.now })) c.in-Some.is c.in_ok-whole.ensures

rows_are : (c : In-Some) → c.in-Some.whole.rows ≡ map whole_row c.args.rows.now
rows_are c = ap (λ (s : LinearSystem). s.rows) (whole_is c)

width_is : (c : In-Some) → c.in-Some.whole.width ≡ length c.args.qp.now.counts
width_is c = ap (λ (s : LinearSystem). s.width) (whole_is c) ∙ c.len.ensures

pub of_rows-requires : goal.of_rows-requires
of_rows-requires c = λ k d h. (c.requires.size.each k d h).size ∙ sym c.len.ensures

pub overflow_cast-len : goal.overflow_cast-len
overflow_cast-len c = let few = c.args.qp.now.is_program.few_parameters in let len = c.len.ensures in omega arith

pub meets_box-met-requires-clause-kept : goal.meets_box-met-requires-clause-kept
meets_box-met-requires-clause-kept c = c.requires.kept

pub meets_box-met-requires-clause-width : goal.meets_box-met-requires-clause-width
meets_box-met-requires-clause-width c = width_is (goal.at.meets_box-met-requires-clause-width c).In-Some

pub returns-in_err-whole-clause-kept : goal.returns-in_err-whole-clause-kept
returns-in_err-whole-clause-kept c = c.requires.kept

pub returns-in-Some-clause-kept : goal.returns-in-Some-clause-kept
returns-in-Some-clause-kept c = c.meets_box-met.ensures.kept

pub returns-in-None-clause-kept : goal.returns-in-None-clause-kept
returns-in-None-clause-kept c = c.requires.kept

pub returns-in-Some-clause-answer : goal.returns-in-Some-clause-answer
returns-in-Some-clause-answer c = result_answer c.args.qp.now c.args.rows.now c.in-Some.whole (rows_are (goal.at.returns-in-Some-clause-answer c).In-Some) c.meets_box-met.result c.meets_box-met.ensures.answer

pub returns-in-Some-clause-fits : goal.returns-in-Some-clause-fits
returns-in-Some-clause-fits c = result_fits c.args.qp.now c.args.rows.now c.in-Some.whole (rows_are (goal.at.returns-in-Some-clause-fits c).In-Some) c.meets_box-met.result c.meets_box-met.ensures.fits
