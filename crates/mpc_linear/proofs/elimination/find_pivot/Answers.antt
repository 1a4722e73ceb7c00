use Rattle.std.proofs.Common.{◌≡◌, ◌∙◌, ◌≤◌, arith}
use Rattle.std.proofs.lemmas.Bool.{false≢true}
use Rattle.mpc_linear.specs.Stored.{stored}
use Rattle.mpc_linear.proofs.Places.{read_there}
use Rattle.mpc_linear.proofs.Pivots.{pivot_row-some, pivot_row-none}
use Rattle.mpc_linear.proofs.elimination.find_pivot.Goals as goal

pub returns-then-not-is_zero-clause-value : goal.returns-then-not-is_zero-clause-value
returns-then-not-is_zero-clause-value c =
    let t = stored c.args.width c.args.table.now in
    let entry : c.index-table-row.result ≡ t c.loop-row.row c.args.column = read_there c.args.rows c.args.width c.args.table.now c.requires.size c.loop-row.row c.args.column c.index-table-row.result c.loop-row-test.true c.requires.column c.index-table-row.result c.index-table-row.is in
    pivot_row-some c.args.rows t c.args.column c.loop-row.row c.loop-row.auto.row c.loop-row-test.true (λ z. absurd (false≢true (c.if-not-is_zero.ensures.value.1 (entry ∙ z)))) c.loop-row.invariant

pub returns-clause-value : goal.returns-clause-value
returns-clause-value c =
    pivot_row-none c.args.rows (stored c.args.width c.args.table.now) c.args.column (let r = c.requires.row in omega arith)
    (λ i l m. c.loop-row.invariant i l (let k : c.args.rows ≤ c.loop-row.row = c.loop-row-test.false in omega arith))
