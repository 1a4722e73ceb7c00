use Rattle.std.proofs.Common.{◌<◌, ◌≤◌, length, arith}
use Rattle.mpc_online.proofs.Filled.{entry_read}
use Rattle.mpc_online.proofs.Grown.{growing_none, growing_more, growing_wide, growing_all, growing_fits}
use Rattle.mpc_online.proofs.moves.grow.Goals as goal

pub loop-index-init : goal.loop-index-init
loop-index-init c = growing_none c.args.entries.now c.args.scale.now c.args.changes.now

pub loop-index-preserved : goal.loop-index-preserved
loop-index-preserved c =
    let in_xs : c.loop-index.index < length c.loop-index.entries = omega (arith, c.loop-index-test.true, c.loop-index.auto.entries) in
    let in_d : c.loop-index.index < length c.args.changes.now = omega (arith, c.loop-index-test.true, c.requires) in
    growing_more c.args.entries.now c.args.scale.now c.args.changes.now c.loop-index.index c.loop-index.entries c.index-entries-index.result c.index-changes-index.result c.in-Ok.next in_xs
    (entry_read c.loop-index.entries c.loop-index.index c.index-entries-index.result in_xs c.index-entries-index.is) (entry_read c.args.changes.now c.loop-index.index c.index-changes-index.result in_d c.index-changes-index.is)
    c.in-Ok.ensures.value c.in-Ok.ensures.wide c.loop-index.invariant

pub returns-clause-ok : goal.returns-clause-ok
returns-clause-ok c =
    let all : length c.loop-index.entries ≤ c.loop-index.index = omega (arith, c.loop-index-test.false, c.loop-index.auto.entries) in
    growing_all c.args.entries.now c.args.scale.now c.args.changes.now c.loop-index.index c.loop-index.entries c.requires all c.loop-index.invariant

pub returns-clause-wide : goal.returns-clause-wide
returns-clause-wide c =
    let all : length c.loop-index.entries ≤ c.loop-index.index = omega (arith, c.loop-index-test.false, c.loop-index.auto.entries) in
    growing_fits c.args.entries.now c.args.scale.now c.args.changes.now c.loop-index.index c.loop-index.entries all c.loop-index.invariant

pub returns-in-Err-clause-wide : goal.returns-in-Err-clause-wide
returns-in-Err-clause-wide c =
    let in_xs : c.loop-index.index < length c.loop-index.entries = omega (arith, c.loop-index-test.true, c.loop-index.auto.entries) in
    let in_d : c.loop-index.index < length c.args.changes.now = omega (arith, c.loop-index-test.true, c.requires) in
    growing_wide c.args.entries.now c.args.scale.now c.args.changes.now c.loop-index.index c.loop-index.entries c.index-entries-index.result c.index-changes-index.result in_xs
    (entry_read c.loop-index.entries c.loop-index.index c.index-entries-index.result in_xs c.index-entries-index.is) (entry_read c.args.changes.now c.loop-index.index c.index-changes-index.result in_d c.index-changes-index.is)
    c.in-Err.ensures.wide c.loop-index.invariant
