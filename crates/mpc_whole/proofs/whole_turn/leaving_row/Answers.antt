use Rattle.std.proofs.Common.{◌≡◌, ◌∙◌, ◌≤◌, ◌<◌, ◌-◌, ◌^◌, ℕ, sym, subst, length, unsigned_abs}
use Rattle.mpc_whole.specs.Whole.{IsSideRow, side_cell}
use Rattle.mpc_whole.proofs.WholeRun.{row_small}
use Rattle.mpc_whole.proofs.whole_turn.leaving_row.Goals as goal
use Rattle.mpc_whole.proofs.whole_turn.leaving_row.Goals.{After-unknowns, After-side_row}

cells_small : (c : After-unknowns) (k : ℕ) → k < c.args.system.now.width → unsigned_abs (side_cell c.args.system.now c.args.entries.now c.args.numbers.now (c.args.leaving - c.unknowns.result) k) ≤ 2 ^ 62
cells_small c k h = subst (λ w. unsigned_abs (side_cell c.args.system.now c.args.entries.now c.args.numbers.now (c.args.leaving - w) k) ≤ 2 ^ 62) (sym c.unknowns.ensures) (c.requires.row_small k h)

pub side_row-requires-clause-row_small : goal.side_row-requires-clause-row_small
side_row-requires-clause-row_small c = cells_small (goal.at.side_row-requires-clause-row_small c).After-unknowns

row_is : (c : After-side_row) → IsSideRow c.args.system.now c.args.entries.now c.args.numbers.now (c.args.leaving - c.unknowns.result) c.side_row.new.row
row_is c = record { size = (let q : length c.side_row.new.row ≡ length c.args.row.now = c.side_row.auto.row in q) ∙ c.requires.row_size; cells = c.side_row.ensures.cells }

pub returns-clause-row : goal.returns-clause-row
returns-clause-row c =
    let at = goal.at.returns-clause-row c in
    subst (λ w. IsSideRow c.args.system.now c.args.entries.now c.args.numbers.now (c.args.leaving - w) c.side_row.new.row) c.unknowns.ensures (row_is at.After-side_row)

pub returns-clause-small : goal.returns-clause-small
returns-clause-small c =
    let at = goal.at.returns-clause-small c in
    row_small c.args.system.now c.args.entries.now c.args.numbers.now (c.args.leaving - c.unknowns.result) c.side_row.new.row (row_is at.After-side_row) (cells_small at.After-unknowns)
