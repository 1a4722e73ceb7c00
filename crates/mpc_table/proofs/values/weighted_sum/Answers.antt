use Rattle.std.proofs.Common.{◌≡◌, ◌+◌, ◌*◌, ◌^◌, ◌<◌, pos, ◌+ℤ◌, ◌*ℤ◌, unsigned_abs, get_or, drop, sym, ◌∙◌, ap, subst, arith}
use Rattle.std.specs.Int.{w128}
use mir.Val.{to_z, of_z}
use Rattle.mpc_controller.specs.Bounds.{reach}
use Rattle.mpc_table.specs.Forms.{weighed}
use Rattle.mpc_table.proofs.WholeNumbers.{read, read_term}
use Rattle.mpc_table.proofs.AffineLemmas.{sum_step, reach_step, term_fits}
use Rattle.mpc_table.proofs.values.weighted_sum.Goals as goal

pub loop-i-preserved : goal.loop-i-preserved
loop-i-preserved c =
    let ks = c.args.slopes.now in
    let ts = c.args.counts.now in
    let i = c.loop-i.i in
    let sum = to_z w128 c.loop-i.sum-bits in
    let next = c.add_term-sum.result in
    let small : unsigned_abs (get_or ks i (pos 0)) * get_or ts i 0 < 2 ^ 127 = omega (arith, term_fits ks ts i (pos 0) 0 sum (2 ^ 127) c.loop-i-test.true c.requires.sizes c.loop-i.invariant.within) in
    let is : next ≡ sum +ℤ (get_or ks i (pos 0) *ℤ pos (get_or ts i 0)) = c.add_term-sum.ensures.value ∙ ap (λ p. sum +ℤ p) (read_term (get_or ks i (pos 0)) (get_or ts i 0) small) in
    let back : to_z w128 (of_z w128 next) ≡ next = read next c.add_term-sum.ensures.fits in
    record {
      value = ap (λ z. z +ℤ weighed (drop (i + 1) ks) (drop (i + 1) ts)) back ∙ sum_step ks ts i (pos 0) 0 _ sum next (2 ^ 127) c.loop-i-test.true c.requires.sizes c.loop-i.invariant.value is;
      within = subst (λ z. unsigned_abs z + reach (drop (i + 1) ks) (drop (i + 1) ts) < 2 ^ 127) (sym back) (reach_step ks ts i (pos 0) 0 sum next (2 ^ 127) c.loop-i-test.true c.requires.sizes c.loop-i.invariant.within is);
    }
