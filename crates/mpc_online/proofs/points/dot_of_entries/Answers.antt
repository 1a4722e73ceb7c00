use Rattle.std.proofs.Common.{◌<◌, get_or, pos, sym, ◌∙◌, arith}
use Rattle.mpc_exact.specs.Rational.{int, frac}
use Rattle.mpc_space.proofs.Entries.{length-listed, coordinate-listed}
use Rattle.mpc_linear.specs.SumTheorems.{StandAt}
use Rattle.mpc_online.specs.Wholes.{first_of}
use Rattle.mpc_online.proofs.Filled.{entry_read}
use Rattle.mpc_online.proofs.RowTests.{nothing_more}
use Rattle.mpc_online.proofs.points.dot_of_entries.Goals as goal
use Rattle.mpc_online.proofs.points.dot_of_entries.Goals.{After-add_product}

stand : (c : After-add_product) → StandAt c.args.row.now (first_of c.args.numbers.now c.args.count) c.loop-place.place c.index-row-place.result c.entry.result
stand c =
    let w = c.args.numbers.now in
    let within : c.loop-place.place < c.args.count = omega (arith, c.loop-place-test.true, c.requires.size) in
    record {
      within_left = c.loop-place-test.true;
      within_right = (let l = length-listed c.args.count (λ k. frac (get_or w.numerators k (pos 0)) w.den) in omega (arith, l, within));
      left = entry_read c.args.row.now c.loop-place.place c.index-row-place.result c.loop-place-test.true c.index-row-place.is;
      right = c.entry.ensures ∙ sym (coordinate-listed c.args.count (λ k. frac (get_or w.numerators k (pos 0)) w.den) c.loop-place.place within);
    }

pub loop-place-preserved : goal.loop-place-preserved
loop-place-preserved c =
    c.sum_theorems.ensures.more (int (pos 0)) c.args.row.now (first_of c.args.numbers.now c.args.count) c.loop-place.place c.loop-place.sum c.index-row-place.result c.entry.result c.in-Ok.next
    (stand (goal.at.loop-place-preserved c).After-add_product) c.loop-place.invariant c.in-Ok.ensures.value c.in-Ok.ensures.wide

pub returns-in-Err-clause-wide : goal.returns-in-Err-clause-wide
returns-in-Err-clause-wide c =
    c.sum_theorems.ensures.wide (int (pos 0)) c.args.row.now (first_of c.args.numbers.now c.args.count) c.loop-place.place c.loop-place.sum c.index-row-place.result c.entry.result
    (stand (goal.at.returns-in-Err-clause-wide c).After-add_product) c.loop-place.invariant c.in-Err.ensures.wide

pub returns-clause-value : goal.returns-clause-value
returns-clause-value c =
    c.sum_theorems.ensures.value (int (pos 0)) c.args.row.now (first_of c.args.numbers.now c.args.count) c.loop-place.place c.loop-place.sum c.loop-place-test.false c.loop-place.invariant
    ∙ nothing_more _
