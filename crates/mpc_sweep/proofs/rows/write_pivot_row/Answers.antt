use Rattle.std.proofs.Common.{◌≡◌, ◌≤◌, ◌^◌, ◌*ℤ◌, pos, get_or, unsigned_abs, subst, sym, arith, ap, to_z, of_z, ◌∙◌, le_trans}
use Rattle.std.specs.Int.{w64}
use Rattle.mpc_runs.specs.WholeNumbers.{turned}
use Rattle.mpc_scaled.specs.Scaled.{whole_at}
use Rattle.mpc_sweep.specs.Steps.{IsOwn}
use Rattle.mpc_sweep.proofs.OneNumber.{one_written, read_at, small_within}
use Rattle.mpc_runs.proofs.WholeWidths.{read_small}
use Rattle.mpc_sweep.proofs.rows.write_pivot_row.Goals as goal

pub loop-column-preserved : goal.loop-column-preserved
loop-column-preserved c =
    let top = c.args.top.now in
    let p = c.args.step.pivot_place in
    let j = c.loop-column.column in
    let z = c.in-Some.quotient in
    let m = c.args.step.most in
    let s = small_within m (2 ^ 62) top c.requires.most_small c.requires.small in
    let q : to_z w64 (of_z w64 (get_or top p (pos 0))) ≡ whole_at top p = read_at top s p in
    let x : to_z w64 (of_z w64 (get_or top j (pos 0))) ≡ whole_at top j = read_at top s j in
    let t : unsigned_abs c.turned-number.result ≤ 2 ^ 62 = le_trans c.turned-number.ensures.small (subst (λ u. unsigned_abs u ≤ 2 ^ 62) (sym x) (s.each j)) in
    let f : to_z w64 (of_z w64 c.turned-number.result) ≡ turned (whole_at top p) (whole_at top j) = read_small c.turned-number.result t ∙ c.turned-number.ensures.value ∙ (λ u. turned (q u) (x u)) in
    let back : to_z w64 (of_z w64 z) ≡ z = read_small z (le_trans c.in-Some.ensures.small c.requires.most_small) in
    one_written m c.args.first j (IsOwn c.args.step.den c.args.step.by.den top p) c.args.out.now c.loop-column.out c.loop-column.invariant (omega arith) (omega arith) (to_z w64 (of_z w64 z))
    (subst (λ u. unsigned_abs u ≤ m) (sym back) c.in-Some.ensures.small)
    (ap (λ u. u *ℤ pos c.args.step.by.den) back ∙ c.in-Some.ensures.value ∙ (λ u. f u *ℤ pos c.args.step.den))
