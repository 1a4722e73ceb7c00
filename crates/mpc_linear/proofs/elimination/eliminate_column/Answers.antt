use Rattle.std.proofs.Common.{◌∙◌, ap, sym, le_refl}
use Rattle.std.proofs.lemmas.Result.{MatchResult-weaker}
use Rattle.mpc_linear.specs.Elimination.{exchanged}
use Rattle.mpc_linear.specs.Stored.{stored}
use Rattle.mpc_linear.proofs.Reduction.{row-first, exchanged-at}
use Rattle.mpc_linear.proofs.Steps.{column_same, column_fits, rows_from}
use Rattle.mpc_linear.proofs.elimination.eliminate_column.Goals as goal

pub divide_pivot_row-requires-clause-pivot : goal.divide_pivot_row-requires-clause-pivot
divide_pivot_row-requires-clause-pivot c e =
    c.requires.pivot (ap (λ i. stored c.args.width c.args.table.now i c.args.column) (sym (row-first c.args.column c.args.row)) ∙ sym (exchanged-at c.args.column c.args.row (stored c.args.width c.args.table.now) c.args.column c.args.column)
    ∙ sym (c.exchange_rows.ensures c.args.column c.args.column c.requires.row (le_refl c.args.column) c.requires.column) ∙ e)

pub returns-clause-ok : goal.returns-clause-ok
returns-clause-ok c =
    MatchResult-weaker c.clear_column.result c.clear_column.ensures.ok
    (λ _ k. column_same c.args.rows c.args.width c.args.column (exchanged c.args.column c.args.row (stored c.args.width c.args.table.now)) (stored c.args.width c.exchange_rows.new.table) (stored c.args.width c.divide_pivot_row.new.table) (stored c.args.width c.clear_column.new.table)
    c.requires.row c.requires.column c.exchange_rows.ensures c.in_ok-divide_pivot_row.ensures.ok k)
    (λ _ h. h)

pub returns-clause-wide : goal.returns-clause-wide
returns-clause-wide c =
    MatchResult-weaker c.clear_column.result c.clear_column.ensures.wide
    (λ _ k. column_fits c.args.rows c.args.width c.args.column (exchanged c.args.column c.args.row (stored c.args.width c.args.table.now)) (stored c.args.width c.exchange_rows.new.table) (stored c.args.width c.divide_pivot_row.new.table) (stored c.args.width c.clear_column.new.table)
    c.requires.row c.requires.column c.exchange_rows.ensures c.in_ok-divide_pivot_row.ensures.ok c.in_ok-divide_pivot_row.ensures.wide k)
    (λ _ h f. h (rows_from c.args.rows c.args.width c.args.column (exchanged c.args.column c.args.row (stored c.args.width c.args.table.now)) (stored c.args.width c.exchange_rows.new.table) (stored c.args.width c.divide_pivot_row.new.table) (stored c.args.width c.clear_column.new.table)
    c.requires.row c.requires.column c.exchange_rows.ensures c.in_ok-divide_pivot_row.ensures.ok f))
