use Rattle.std.proofs.Common.{◌≡◌, ◌≤◌, ◌<◌, ◌*◌, ◌^◌, ◌+◌, ◌-◌, unsigned_abs, sym, ◌∙◌, ap, subst}
use Rattle.mpc_sweep.specs.Numbers.{number, told_columns}
use Rattle.mpc_runs.proofs.WholeWidths.{read_small}
use Rattle.mpc_runs.proofs.WholeSums.{abs_some}
use Rattle.mpc_sweep.proofs.AllRows.{rows_small, rows_within}
use Rattle.mpc_sweep.proofs.Denominators.{rows_over_less}
use Rattle.mpc_sweep.proofs.rows.write_reduced_rows.Goals as goal

pub bound_of-most-requires-clause-small : goal.bound_of-most-requires-clause-small
bound_of-most-requires-clause-small c =
    let s = c.args.from.now in
    rows_small (2 ^ 62) (told_columns s) s.den c.shared_divisor-shared.result s.numbers.items c.args.pivot_place c.args.first (s.columns - c.args.first) s.rows c.write_rows.new.numbers (c.write_rows.ensures c.if-not-write_rows.false)
    (c.write_rows.auto.numbers ∙ c.requires.size)

pub returns : goal.returns
returns c =
    let s = c.args.from.now in
    let p = c.args.pivot_place in
    let small : unsigned_abs c.at.result ≤ 2 ^ 62 = subst (λ z. unsigned_abs z ≤ 2 ^ 62) (sym c.at.ensures) (c.requires.table.small.each (p * told_columns s + p)) in
    let size : c.unsigned_abs-size.result ≡ unsigned_abs (number s p p) = c.unsigned_abs-size.ensures.value ∙ ap unsigned_abs (read_small c.at.result small ∙ c.at.ensures) in
    let some : 0 < c.unsigned_abs-size.result = subst (λ u. 0 < u) (sym size) (abs_some (number s p p) c.requires.pivot) in
    rows_over_less s p c.args.first c.unsigned_abs-size.result c.write_rows.new.numbers size some c.requires.table.some_den
    c.bound_of-most.result c.in-Some.den c.shared_divisor-shared.result c.in-Some.ensures.value c.bound_of-most.ensures.small c.bound_of-most.ensures.den
    (rows_within (2 ^ 62) (told_columns s) s.den c.shared_divisor-shared.result s.numbers.items p c.args.first (s.columns - c.args.first) s.rows c.write_rows.new.numbers (c.write_rows.ensures c.if-not-write_rows.false)
    c.bound_of-most.result c.bound_of-most.ensures.numbers)
