use Rattle.std.proofs.Common.{◌∙◌, take, rules}
use Rattle.mpc_port.proofs.Passing.{passed_into, passed_end, passed_of_end, passed_kept, drawn_more}
use Rattle.mpc_port.proofs.input.read_all.Goals as goal

pub loop-filled-preserved : goal.loop-filled-preserved
loop-filled-preserved g c =
    let before = c.loop-filled.invariant in
    let read = c.in_ok-count.ensures in
    record {
      held = read.held;
      within = read.within;
      passed = passed_into _ _ _ c.loop-filled.bytes.items _ _ _ read.front before.passed read.piece;
      drawn = drawn_more _ _ _ _ _ _ before.drawn read.drawn;
      quiet = read.quiet ∙ before.quiet;
    }

pub returns-in_err-count-clause-passed : goal.returns-in_err-count-clause-passed
returns-in_err-count-clause-passed g c =
    let before = c.loop-filled.invariant in
    let read = c.in_err-count.ensures in (
      take c.loop-filled.filled c.loop-filled.bytes.items,
      passed_kept _ _ _ _ before.passed read.refused,
      search rules,
      search rules,
    )

pub returns-in_err-count-clause-drawn : goal.returns-in_err-count-clause-drawn
returns-in_err-count-clause-drawn g c = drawn_more _ _ _ _ _ _ c.loop-filled.invariant.drawn c.in_err-count.ensures.drawn

pub returns-then-count-eq0-clause-passed : goal.returns-then-count-eq0-clause-passed
returns-then-count-eq0-clause-passed g c =
    let before = c.loop-filled.invariant in
    let read = c.in_ok-count.ensures in (
      take c.loop-filled.filled c.loop-filled.bytes.items,
      passed_of_end _ _ _ (passed_end _ _ _ _ _ before.passed read.piece (search rules)),
      search rules,
      search rules,
    )

pub returns-then-count-eq0-clause-drawn : goal.returns-then-count-eq0-clause-drawn
returns-then-count-eq0-clause-drawn g c = drawn_more _ _ _ _ _ _ c.loop-filled.invariant.drawn c.in_ok-count.ensures.drawn
