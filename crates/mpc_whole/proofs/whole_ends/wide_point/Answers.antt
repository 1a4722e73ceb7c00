use Rattle.std.proofs.Common.{◌≡◌, ◌∙◌, ◌<◌, ◌≤◌, sym, subst, length, arith}
use Rattle.mpc_runs.proofs.Answered.{pair_found}
use Rattle.mpc_whole.proofs.whole_ends.wide_point.Goals as goal
use Rattle.mpc_whole.proofs.whole_ends.wide_point.Goals.{After-loop-unknown}

size : (c : After-loop-unknown) → length c.loop-unknown.values ≡ length c.args.firsts.now
size c = (let q : length c.loop-unknown.values ≡ length c.args.values.now = c.loop-unknown.auto.values in q) ∙ c.requires.room

pub returns : goal.returns
returns c =
    let at = (goal.at.returns c).After-loop-unknown in
    let k : length c.args.firsts.now ≤ c.loop-unknown.unknown = c.loop-unknown-test.false in
    record { size = size at; at = λ i h. pair_found c.loop-unknown.values i _ (subst (λ m. i < m) (sym (size at)) h) (c.loop-unknown.invariant i (omega arith)) }
