use Rattle.std.proofs.Common.{arith}
use Rattle.mpc_block.proofs.BlockLemmas.{at_root}
use Rattle.mpc_block.proofs.walks.leaf_start.Goals as goal

pub loop-init : goal.loop-init
loop-init c = λ parts s width_is. at_root c.args.words.now c.args.counts.now parts s

pub returns-in-End : goal.returns-in-End
returns-in-End c = λ parts s width_is low.
    let come = c.loop.invariant parts s width_is in
    record { place = come.place; stands = come.stands; zero_is = c.in-End.ensures parts s come.place width_is come.stands; reached = come.reached }

pub returns-in-Bad : goal.returns-in-Bad
returns-in-Bad c = λ parts s width_is low. let come = c.loop.invariant parts s width_is in c.in-Bad.ensures parts s come.place width_is come.stands

pub loop-preserved : goal.loop-preserved
loop-preserved c = λ parts s width_is.
    let come = c.loop.invariant parts s width_is in
    let goes = c.in-To.ensures parts s come.place width_is come.stands in
    record { place = goes.next; stands = goes.stands; height = omega (arith, come.height, goes.lower); reached = goes.reaches come.reached }

pub returns : goal.returns
returns c = λ parts s width_is low. let come = c.loop.invariant parts s width_is in omega (arith, come.height, c.loop-test.false, low, s.block.height)
