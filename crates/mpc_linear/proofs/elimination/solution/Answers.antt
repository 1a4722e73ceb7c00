use Rattle.std.proofs.Common.{◌≡◌, ◌∙◌, ◌+◌, ◌*◌, ◌-◌, ◌++◌, ◌≤◌, ap, arith, take, drop}
use Rattle.mpc_linear.proofs.TableLemmas.{joined_rows, end_row, joined_more, end_row_is, end_length, end_grid}
use Rattle.mpc_linear.proofs.elimination.solution.Goals as goal
use Rattle.mpc_linear.proofs.elimination.solution.Goals.{After-loop-row}

pub loop-row-preserved : goal.loop-row-preserved
loop-row-preserved c =
    let start = c.loop-row.row * (c.args.rows + c.args.cols) + c.args.rows in
    let cut : start + c.args.cols - start ≡ c.args.cols = omega arith in
    joined_more (end_row c.args.rows c.args.cols c.args.table.now) c.loop-row.row c.loop-row.entries.items c.extend_from_slice.new.self.items c.loop-row.invariant
    (c.in_ok-extend_from_slice.ensures.items ∙ ap (λ xs. c.loop-row.entries.items ++ xs)
    (ap (λ k. take k (drop start c.args.table.now)) cut ∙ end_row_is c.args.rows c.args.cols c.args.table.now c.requires c.loop-row.row c.loop-row-test.true))

all : (c : After-loop-row) → c.loop-row.row ≡ c.args.rows
all c = let h : c.loop-row.row ≤ c.args.rows = c.loop-row.auto.row-end in let k : c.args.rows ≤ c.loop-row.row = c.loop-row-test.false in omega arith

pub from_entries-requires : goal.from_entries-requires
from_entries-requires c =
    end_length c.args.rows c.args.cols c.args.table.now c.requires c.loop-row.entries.items (c.loop-row.invariant ∙ ap (joined_rows (end_row c.args.rows c.args.cols c.args.table.now)) (all c))

pub returns : goal.returns
returns c =
    let d = (goal.at.returns c).After-loop-row in
    c.from_entries.ensures
    ∙ end_grid c.args.rows c.args.cols c.args.table.now c.requires c.loop-row.entries.items (c.loop-row.invariant ∙ ap (joined_rows (end_row c.args.rows c.args.cols c.args.table.now)) (all d))
