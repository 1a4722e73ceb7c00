use Rattle.std.proofs.Common.{[], arith}
use Rattle.mpc_space.specs.Matrix.{height, entry}
use Rattle.mpc_sweep.specs.Numbers.{IsSwept}
use Rattle.mpc_sweep.proofs.FirstTable.{if_some_at}
use Rattle.mpc_sweep.proofs.tests.swept_at.Goals as goal

pub returns-then-done : goal.returns-then-done
returns-then-done c =
    let m = c.args.table.now in
    let h : IsSwept (entry m) [] (height m) m.columns 0 c.in-Some.from = if_some_at c.in_ok-from.field-0 _ c.in-Some.from c.in_ok-from.ensures c.in-Some.is in
    (c.in_ok-done.ensures c.if-done.true (entry m) [] (height m) m.columns 0 h (omega arith) (let a = c.if-first-pivot_place.false in omega arith) (λ k l. absurd (omega arith))).table
