use Rattle.std.proofs.Common.{◌≡◌, ◌∙◌, ap, subst₂, length, pos, arith}
use Rattle.std.proofs.lemmas.List.{get_or_read}
use Rattle.mpc_exact.specs.Rational.{int, ◌+ℚ◌, neg_ℚ}
use Rattle.mpc_frac.specs.Fits.{FitsSum}
use Rattle.mpc_space.specs.Vector.{coordinate, listed}
use Rattle.mpc_plant.proofs.Carried.{below_next}
use Rattle.mpc_plant.proofs.RollLemmas.{listed_more, gap_listed}
use Rattle.mpc_plant.proofs.costs.gap.Goals as goal

pub loop-i-preserved : goal.loop-i-preserved
loop-i-preserved c =
    let here : c.index-vector-i.result ≡ coordinate c.args.vector.now c.loop-i.i = get_or_read c.args.vector.now _ _ c.loop-i-test.true c.index-vector-i.is (int (pos 0)) in
    record {
      entries = listed_more (λ j. coordinate c.args.vector.now j +ℚ neg_ℚ (coordinate c.args.goal.now j)) c.loop-i.i c.loop-i.entries c.push.new.self c.in-Ok.entry c.loop-i.invariant.entries c.in_ok-push-in-Ok.ensures.ok
          (c.in-Ok.ensures.value ∙ (λ k. here k +ℚ neg_ℚ (c.at.ensures k)));
      fits = below_next (λ j. FitsSum (coordinate c.args.vector.now j) (neg_ℚ (coordinate c.args.goal.now j))) c.loop-i.i c.loop-i.invariant.fits (subst₂ FitsSum here (ap neg_ℚ c.at.ensures) c.in-Ok.ensures.wide);
    }

pub returns-clause-value : goal.returns-clause-value
returns-clause-value c =
    let all : c.loop-i.i ≡ length c.args.vector.now = omega arith in
    c.loop-i.invariant.entries ∙ ap (λ n. listed n (λ j. coordinate c.args.vector.now j +ℚ neg_ℚ (coordinate c.args.goal.now j))) all ∙ gap_listed c.args.vector.now c.args.goal.now c.requires
