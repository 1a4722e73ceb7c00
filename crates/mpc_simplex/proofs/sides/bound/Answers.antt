use Rattle.std.proofs.Common.{◌≡◌, ◌∙◌, sym, ap, ◌-◌}
use Rattle.std.proofs.lemmas.Bool.{cond-true, cond-false}
use Rattle.mpc_rows.specs.LinearSystem.{row_at}
use Rattle.mpc_runs.proofs.Read.{bound_first, bound_second}
use Rattle.mpc_simplex.proofs.sides.bound.Goals as goal
use Rattle.mpc_simplex.proofs.sides.bound.Goals.{then-row, else-row, After-row-row}

is : (c : After-row-row) → c.row-row.result.now ≡ row_at c.args.system.now (c.args.side - c.args.system.now.width)
is c = c.row-row.ensures.value ∙ ap (λ n. row_at c.args.system.now (c.args.side - n)) c.unknowns.ensures

pub returns-clause-first : goal.returns-clause-first
returns-clause-first c = bound_first c.args.system.now c.args.side c.row-row.result.now (is (goal.at.returns-clause-first c).After-row-row)

pub returns-clause-second : goal.returns-clause-second
returns-clause-second c =
    let d = (goal.at.returns-clause-second c).After-row-row in
    elim c.if-row.branch [
      | then-row w ↦ w.second-is ∙ w.whole-second.ensures ∙ sym (cond-true c.row-row.result.now.strict _ _ w.if-row.true) ∙ bound_second c.args.system.now c.args.side c.row-row.result.now (is d)
      | else-row w ↦ w.second-is ∙ w.zero-second.ensures ∙ sym (cond-false c.row-row.result.now.strict _ _ w.if-row.false) ∙ bound_second c.args.system.now c.args.side c.row-row.result.now (is d)
    ]
