use Rattle.std.proofs.Common.{◌≡◌, ◌≤◌, ◌^◌, ◌+ℤ◌, ◌*ℤ◌, neg_ℤ, pos, get_or, unsigned_abs, subst, sym, arith, ap, to_z, of_z, ◌∙◌, le_trans}
use Rattle.std.specs.Int.{w64}
use Rattle.mpc_runs.specs.WholeNumbers.{turned}
use Rattle.mpc_scaled.specs.Scaled.{whole_at}
use Rattle.mpc_sweep.specs.Steps.{IsChanged}
use Rattle.mpc_sweep.proofs.OneNumber.{one_written, read_at, small_within}
use Rattle.mpc_runs.proofs.WholeWidths.{read_small}
use Rattle.mpc_sweep.proofs.short.write_short_row.Goals as goal

pub loop-column-preserved : goal.loop-column-preserved
loop-column-preserved c =
    let row = c.args.row.now in
    let top = c.args.top.now in
    let p = c.args.pivot_place in
    let j = c.loop-column.column in
    let z = c.in-Some.quotient in
    let q : to_z w64 (of_z w64 (get_or top p (pos 0))) ≡ whole_at top p = read_at top (small_within (2 ^ 30) (2 ^ 62) top (omega arith) c.requires.top_small) p in
    let k : to_z w64 (of_z w64 (get_or row p (pos 0))) ≡ whole_at row p = read_at row (small_within (2 ^ 30) (2 ^ 62) row (omega arith) c.requires.small) p in
    let x : to_z w64 (of_z w64 (get_or top j (pos 0))) ≡ whole_at top j = read_at top (small_within (2 ^ 30) (2 ^ 62) top (omega arith) c.requires.top_small) j in
    let y : to_z w64 (of_z w64 (get_or row j (pos 0))) ≡ whole_at row j = read_at row (small_within (2 ^ 30) (2 ^ 62) row (omega arith) c.requires.small) j in
    let size : c.unsigned_abs-size.result ≡ unsigned_abs (whole_at top p) = c.unsigned_abs-size.ensures.value ∙ ap unsigned_abs q in
    let t : unsigned_abs c.turned-factor.result ≤ 2 ^ 30 = le_trans c.turned-factor.ensures.small (subst (λ u. unsigned_abs u ≤ 2 ^ 30) (sym k) (c.requires.small.each p)) in
    let f : to_z w64 (of_z w64 c.turned-factor.result) ≡ turned (whole_at top p) (whole_at row p) = read_small c.turned-factor.result (omega arith) ∙ c.turned-factor.ensures.value ∙ (λ u. turned (q u) (k u)) in
    let back : to_z w64 (of_z w64 z) ≡ z = read_small z (let b : unsigned_abs z ≤ 2 ^ 30 = c.in-Some.ensures.small in omega arith) in
    one_written (2 ^ 30) c.args.first j (IsChanged c.args.by.den row top p) c.args.out.now c.loop-column.out c.loop-column.invariant (omega arith) (omega arith) (to_z w64 (of_z w64 z))
    (subst (λ u. unsigned_abs u ≤ 2 ^ 30) (sym back) c.in-Some.ensures.small)
    (ap (λ u. u *ℤ pos c.args.by.den) back ∙ c.in-Some.ensures.value ∙ (λ u. (y u *ℤ pos (size u)) +ℤ neg_ℤ (f u *ℤ x u)))
