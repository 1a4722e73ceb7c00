use Rattle.std.proofs.Common.{◌≡◌, ◌∙◌, ◌+◌, ◌^◌, ◌≤◌, sym, ap, arith, pos, to_z, of_z, unsigned_abs, subst, le_trans}
use Rattle.std.specs.Int.{w64}
use Rattle.std.proofs.lemmas.List.{get_or_read}
use Rattle.mpc_exact.specs.Rational.{int, frac}
use Rattle.mpc_space.specs.Vector.{coordinate}
use Rattle.mpc_sweep.specs.Reading.{AreBehind}
use Rattle.mpc_runs.proofs.WholeWidths.{read_small}
use Rattle.mpc_sweep.proofs.FirstTable.{one_behind}
use Rattle.mpc_sweep.proofs.reading.put_row.Goals as goal

pub loop-number-preserved : goal.loop-number-preserved
loop-number-preserved c =
    let old = c.args.numbers.now.items in
    let now = c.loop-number.numbers.items in
    let j = c.loop-number.number-index in
    let z = to_z w64 (of_z w64 c.in-Some.whole) in
    let row = c.args.row.now in
    let scale = c.args.scale in
    let read : z ≡ c.in-Some.whole = read_small c.in-Some.whole (le_trans c.in-Some.ensures.small (omega arith)) in
    let value : coordinate row j ≡ frac z scale =
    sym (get_or_read row j c.number-item.result c.loop-number-test.true c.number-item.is (int (pos 0))) ∙ c.in-Some.ensures.value ∙ ap (λ y. frac y scale) (sym read)
    in
    let small : unsigned_abs z ≤ 2 ^ 58 = subst (λ y. unsigned_abs y ≤ 2 ^ 58) (sym read) c.in-Some.ensures.small in
    subst (λ xs. AreBehind old xs (coordinate row) (j + 1) scale) (sym c.in_ok-push.ensures.items)
    (one_behind old now (coordinate row) j scale c.loop-number.invariant z value small)
