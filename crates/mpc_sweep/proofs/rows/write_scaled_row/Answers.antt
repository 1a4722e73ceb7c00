use Rattle.std.proofs.Common.{◌≡◌, ◌≤◌, ◌^◌, ◌*ℤ◌, pos, get_or, unsigned_abs, subst, sym, arith, ap, to_z, of_z, ◌∙◌, le_trans}
use Rattle.std.specs.Int.{w64}
use Rattle.mpc_scaled.specs.Scaled.{whole_at}
use Rattle.mpc_sweep.specs.Steps.{IsScaled}
use Rattle.mpc_sweep.proofs.OneNumber.{one_written, read_at, small_within}
use Rattle.mpc_runs.proofs.WholeWidths.{read_small}
use Rattle.mpc_sweep.proofs.rows.write_scaled_row.Goals as goal

pub loop-column-preserved : goal.loop-column-preserved
loop-column-preserved c =
    let row = c.args.row.now in
    let j = c.loop-column.column in
    let z = c.in-Some.quotient in
    let m = c.args.most in
    let x : to_z w64 (of_z w64 (get_or row j (pos 0))) ≡ whole_at row j = read_at row (small_within m (2 ^ 62) row c.requires.most_small c.requires.small) j in
    let back : to_z w64 (of_z w64 z) ≡ z = read_small z (le_trans c.in-Some.ensures.small c.requires.most_small) in
    one_written m c.args.first j (IsScaled c.args.by.den c.args.size row) c.args.out.now c.loop-column.out c.loop-column.invariant (omega arith) (omega arith) (to_z w64 (of_z w64 z))
    (subst (λ u. unsigned_abs u ≤ m) (sym back) c.in-Some.ensures.small)
    (ap (λ u. u *ℤ pos c.args.by.den) back ∙ c.in-Some.ensures.value ∙ ap (λ u. u *ℤ pos c.args.size) x)
