use Rattle.std.proofs.Common.{◌≡◌, ◌≤◌, ◌<◌, ◌*◌, ◌^◌, ◌+◌, arith, unsigned_abs, sym, ◌∙◌, ap, subst}
use Rattle.mpc_sweep.specs.Numbers.{number, told_columns}
use Rattle.mpc_runs.proofs.WholeWidths.{read_small}
use Rattle.mpc_runs.proofs.WholeSums.{abs_some}
use Rattle.mpc_sweep.proofs.Denominators.{rows_over_pivot}
use Rattle.mpc_sweep.proofs.rows.write_swept_rows.Goals as goal
use Rattle.mpc_sweep.proofs.rows.write_swept_rows.Goals.{After-unsigned_abs-den}

small : (c : After-unsigned_abs-den) → unsigned_abs c.at.result ≤ 2 ^ 62
small c = subst (λ z. unsigned_abs z ≤ 2 ^ 62) (sym c.at.ensures) (c.requires.table.small.each (c.args.pivot_place * told_columns c.args.from.now + c.args.pivot_place))

size : (c : After-unsigned_abs-den) → c.unsigned_abs-den.result ≡ unsigned_abs (number c.args.from.now c.args.pivot_place c.args.pivot_place)
size c = c.unsigned_abs-den.ensures.value ∙ ap unsigned_abs (read_small c.at.result (small c) ∙ c.at.ensures)

some : (c : After-unsigned_abs-den) → 0 < c.unsigned_abs-den.result
some c = subst (λ u. 0 < u) (sym (size c)) (abs_some (number c.args.from.now c.args.pivot_place c.args.pivot_place) c.requires.pivot)

pub returns-then-write_rows-2 : goal.returns-then-write_rows-2
returns-then-write_rows-2 c =
    let d = (goal.at.returns-then-write_rows-2 c).After-unsigned_abs-den in
    let s = c.args.from.now in
    rows_over_pivot s c.args.pivot_place c.args.first c.unsigned_abs-den.result c.write_rows-2.new.numbers (size d) (some d) c.requires.table.some_den (2 ^ 62) (omega arith)
    (subst (λ u. u ≤ 2 ^ 62) (sym (size d)) (c.requires.table.small.each (c.args.pivot_place * told_columns s + c.args.pivot_place))) (c.write_rows-2.ensures c.if-write_rows-2.true)
