use Rattle.std.proofs.Common.{[], ◌∷◌, ◌++◌}
use Rattle.std.proofs.lemmas.Result.{IfOk-weaker}
use Rattle.mpc_plant_lines.proofs.LimitLemmas.{some_fractions, no_fractions, row_spelled, row_found}
use Rattle.mpc_plant_lines.proofs.limit_lines.row_in.Goals as goal

pub returns-in-Some : goal.returns-in-Some
returns-in-Some c =
    let are = some_fractions c.args.name.now c.args.text.now c.in_ok-numbers.field-0 c.in-Some.numbers c.as_slice.result.now c.in_ok-numbers.ensures c.in-Some.is c.as_slice.ensures in
    IfOk-weaker c.row_of.result _ _ (row_found c.one_fractions.ensures c.args.name.now c.args.states c.args.inputs c.args.text.now c.as_slice.result.now are) c.row_of.ensures

pub returns-in-None : goal.returns-in-None
returns-in-None c = λ row is.
    no_fractions c.args.name.now c.args.text.now c.in_ok-numbers.field-0 c.in_ok-numbers.ensures c.in-None.is (row.x ++ row.u ++ row.max ∷ []) (row_spelled c.args.name.now c.args.states c.args.inputs c.args.text.now row is)
