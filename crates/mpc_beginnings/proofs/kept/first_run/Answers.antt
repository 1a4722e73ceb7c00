use Rattle.mpc_beginnings.proofs.Continued.{opening_lists, opening_within, opening_with_room}
use Rattle.mpc_beginnings.specs.RunLists.{lists_of, weight_of}
use Rattle.mpc_beginnings.proofs.kept.first_run.Goals as goal

pub run_on-requires-clause-lists : goal.run_on-requires-clause-lists
run_on-requires-clause-lists c = opening_lists c.args.system.now (lists_of c.set_opening.new.lists) c.in_ok-set_opening.ensures.opening

pub run_on-requires-clause-start : goal.run_on-requires-clause-start
run_on-requires-clause-start c =
    opening_within c.position_theorems.ensures c.args.system.now c.args.numbers.now c.requires.numbers (lists_of c.set_opening.new.lists) c.in_ok-set_opening.ensures.opening c.unknowns-width.result c.unknowns-width.ensures

pub judge_on-requires-clause-lists : goal.judge_on-requires-clause-lists
judge_on-requires-clause-lists c = opening_lists c.args.system.now (lists_of c.set_opening-2.new.lists) c.in_ok-set_opening-2.ensures.opening

pub judge_on-requires-clause-start : goal.judge_on-requires-clause-start
judge_on-requires-clause-start c =
    opening_with_room c.position_theorems.ensures c.args.system.now c.args.numbers.now c.requires.numbers (lists_of c.set_opening-2.new.lists) c.in_ok-set_opening-2.ensures.opening c.unknowns-width.result c.unknowns-width.ensures
    (weight_of c.set_opening-2.new.lists 0) c.height-height.result

pub run_on-requires-clause-numbers : goal.run_on-requires-clause-numbers
run_on-requires-clause-numbers c = c.requires.numbers

pub run_on-requires-clause-short : goal.run_on-requires-clause-short
run_on-requires-clause-short c = c.in_ok-set_opening.ensures.small

pub judge_on-requires-clause-numbers : goal.judge_on-requires-clause-numbers
judge_on-requires-clause-numbers c = c.requires.numbers

pub returns : goal.returns
returns c = c.judge_on.ensures
