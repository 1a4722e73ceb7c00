use Rattle.std.proofs.Common.{◌≡◌, ◌*◌, ◌<◌, ◌≤◌, length, get_or, unsigned_abs, arith, subst, sym, le_trans}
use borrow.Author.Count.{below_more}
use Rattle.mpc_rows.specs.LinearSystem.{height}
use Rattle.mpc_runs.specs.Table.{variable_at}
use Rattle.mpc_scaled.specs.Scaled.{whole_cell}
use Rattle.mpc_whole.specs.Judged.{IsWeighedAt}
use Rattle.mpc_whole.proofs.Nonbasic.{stands}
use Rattle.mpc_whole.proofs.WeighedNumbers.{weighs_more}
use Rattle.mpc_whole.proofs.weights.weigh.Goals as goal

pub loop-column-preserved : goal.loop-column-preserved
loop-column-preserved c =
    let s = c.args.system.now in
    let k = c.args.frame.now.scales.now in
    let v = c.args.here.now.numbers.now in
    let by = c.args.by in
    let at = variable_at c.args.here.now.nonbasic.now in
    let here = c.loop-column.column in
    let new = c.weigh_column.new.weights in
    let width : length c.loop-column.weights ≡ s.width = (let a = c.loop-column.auto.weights in let e = c.unknowns.ensures in let q = c.if-weights-unknowns.false in omega arith) in
    record {
      before = λ j. le_trans (c.loop-column.invariant.before j) (c.in_ok-weigh_column.ensures.before j);
      here = λ j d h l. below_more (λ d. IsWeighedAt s k by.enters by.top by.size (at d) (whole_cell s.width v j d) (get_or new j 0)) here
          (λ d l. weighs_more s k by.enters by.top by.size (at d) (whole_cell s.width v j d) _ _ (c.loop-column.invariant.here j d h l) (c.in_ok-weigh_column.ensures.before j))
          (c.in_ok-weight.ensures (whole_cell s.width v j here) (get_or new j 0)
          (subst (λ w. unsigned_abs (whole_cell w v j here) * c.in_ok-weight.weight ≤ get_or new j 0) width (c.in_ok-weigh_column.ensures.here j (subst (λ w. j < w) (sym width) h)))) d l;
    }

pub returns-clause-here : goal.returns-clause-here
returns-clause-here c = λ j y d h l e.
    let s = c.args.system.now in
    let here = c.args.here.now in
    let by = c.args.by in
    let q = stands (height s) s.width c.args.frame.now.count here.seats.now here.nonbasic.now c.requires.here.seated c.requires.here.columns y d l e in
    subst (λ x. IsWeighedAt s c.args.frame.now.scales.now by.enters by.top by.size x (whole_cell s.width here.numbers.now j d) (get_or c.loop-column.weights j 0)) q.1
    (c.loop-column.invariant.here j d h (let t = c.loop-column-test.false in let w = c.unknowns-column-end.ensures in let i = q.0 in omega arith))
