use Rattle.mpc_plant.proofs.MatrixLemmas.{few_ok, few_bad}
use Rattle.mpc_plant.proofs.plant_file.check_few.Goals as goal

pub returns-then-not-are_few-clause-bad : goal.returns-then-not-are_few-clause-bad
returns-then-not-are_few-clause-bad c = λ kind path e.
    let bad = few_bad c.args.steps c.args.inputs c.args.stage.now c.args.end.now c.row_limit-limit.result c.are_few.result c.row_limit-limit.ensures.limit c.are_few.ensures c.if-not-are_few.true in cc

pub returns-clause-ok : goal.returns-clause-ok
returns-clause-ok c = few_ok c.args.steps c.args.inputs c.args.stage.now c.args.end.now c.row_limit-limit.result c.are_few.result c.row_limit-limit.ensures.limit c.are_few.ensures c.if-not-are_few.false
