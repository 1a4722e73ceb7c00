use Rattle.std.proofs.Common.{◌+◌, ◌<◌, ◌≤◌, ℕ, List, pos, get_or, length, ◌+ℤ◌, ◌*ℤ◌, sym, ◌∙◌, ap, subst, arith, to_z}
use Rattle.std.specs.Int.{w128}
use Rattle.mpc_exact.specs.Rational.{ℚ, int}
use Rattle.mpc_rows.specs.LinearSystem.{height}
use Rattle.mpc_systems.specs.Systems.{hold_system}
use Rattle.mpc_check.specs.Certs.{HasPositionsIn, IsPositionIn}
use Rattle.mpc_controller.specs.Ways.{way_rows}
use Rattle.mpc_check.specs.Picks.{IsWeightOver}
use Rattle.mpc_check.proofs.ColumnSums.{SumSo, none_added, sum_more, sum_value, sum_fits, all_nonneg}
use Rattle.mpc_check.proofs.WholeRows.{held_count}
use Rattle.mpc_check.proofs.WholeSums.{read_wide, read_sum, read_narrow}
use Rattle.mpc_check.proofs.whole_sums.column_sum.Goals as goal

pub loop-at_entry-init : goal.loop-at_entry-init
loop-at_entry-init c = none_added c.sum_theorems.ensures c.args.column (hold_system c.args.qp.now (way_rows c.args.tree.now c.args.way.now) c.args.row.now) c.args.cert.now c.args.numerators.all c.requires.denom.some

pub number_at-requires-clause-place : goal.number_at-requires-clause-place
number_at-requires-clause-place c =
    let s = hold_system c.args.qp.now (way_rows c.args.tree.now c.args.way.now) c.args.row.now in
    let p : IsPositionIn (height s) (get_or c.as_slice-entries.result.now c.loop-at_entry.at_entry c.index-entries-at_entry.result) = subst (HasPositionsIn (height s)) (sym c.as_slice-entries.ensures.value) c.requires.positions c.loop-at_entry.at_entry c.index-entries-at_entry.result c.loop-at_entry-test.true in
    let low = p.from_one in
    let high = p.to_last in
    omega (arith, low, high, held_count c.args.qp.now c.args.tree.now c.args.way.now c.args.row.now 0)

pub loop-at_entry-preserved : goal.loop-at_entry-preserved
loop-at_entry-preserved c =
    let s = hold_system c.args.qp.now (way_rows c.args.tree.now c.args.way.now) c.args.row.now in
    let entries = c.as_slice-entries.result.now in
    let at = c.loop-at_entry.at_entry in
    let entry = c.index-entries-at_entry.result in
    let weight = get_or c.args.numerators.list.now at (pos 0) in
    let own : IsWeightOver (get_or entries at entry).1 c.args.numerators.all weight = subst (λ (l : List (ℕ × ℚ)). IsWeightOver (get_or l at entry).1 c.args.numerators.all weight) (sym c.as_slice-entries.ensures.value) (c.requires.numerators.each at (subst (λ (l : List (ℕ × ℚ)). at < length l) c.as_slice-entries.ensures.value c.loop-at_entry-test.true) entry) in
    subst (SumSo c.args.column s c.args.cert.now c.args.numerators.all (at + 1)) (sym (read_sum c.in_ok-total.total c.in_ok-total.ensures.small))
    (sum_more s c.args.cert.now entries c.as_slice-entries.ensures.value at entry c.loop-at_entry-test.true
    c.sum_theorems.ensures c.over_theorems.ensures c.args.column c.args.numerators.all c.requires.denom.some c.requires.denom.small (to_z w128 c.loop-at_entry.total-bits) weight c.in_ok-number.number c.loop-at_entry.invariant entry own.is own.nonneg own.small
    (ap int (c.in_ok-number.ensures.value ∙ read_wide c.number_at.result c.number_at.type_inv) ∙ c.number_at.ensures) c.in_ok-number.ensures.small c.in_ok-total.total
    (c.in_ok-total.ensures.value ∙ (λ t. to_z w128 c.loop-at_entry.total-bits +ℤ (read_narrow weight own.small t *ℤ read_narrow c.in_ok-number.number c.in_ok-number.ensures.small t))) c.in_ok-total.ensures.small)

pub returns-clause-value : goal.returns-clause-value
returns-clause-value c =
    sum_value c.sum_theorems.ensures c.args.column (hold_system c.args.qp.now (way_rows c.args.tree.now c.args.way.now) c.args.row.now) c.args.cert.now c.args.numerators.all c.loop-at_entry.at_entry (to_z w128 c.loop-at_entry.total-bits) c.loop-at_entry.invariant
    (subst (λ (e : _). length e ≤ c.loop-at_entry.at_entry) c.as_slice-entries.ensures.value c.loop-at_entry-test.false)

pub returns-clause-fits : goal.returns-clause-fits
returns-clause-fits c =
    sum_fits c.sum_theorems.ensures c.args.column (hold_system c.args.qp.now (way_rows c.args.tree.now c.args.way.now) c.args.row.now) c.args.cert.now c.args.numerators.all c.loop-at_entry.at_entry (to_z w128 c.loop-at_entry.total-bits) c.loop-at_entry.invariant
    (subst (λ (e : _). length e ≤ c.loop-at_entry.at_entry) c.as_slice-entries.ensures.value c.loop-at_entry-test.false)

pub returns-clause-nonneg : goal.returns-clause-nonneg
returns-clause-nonneg c =
    all_nonneg c.sum_theorems.ensures c.args.column (hold_system c.args.qp.now (way_rows c.args.tree.now c.args.way.now) c.args.row.now) c.args.cert.now c.args.numerators.all c.loop-at_entry.at_entry (to_z w128 c.loop-at_entry.total-bits) c.loop-at_entry.invariant
    (subst (λ (e : _). length e ≤ c.loop-at_entry.at_entry) c.as_slice-entries.ensures.value c.loop-at_entry-test.false)
