use Rattle.mpc_block.proofs.BlockLemmas.{turns_yes, turns_no}
use Rattle.mpc_block.proofs.walks.turn_at.Goals as goal

pub returns-then-holds : goal.returns-then-holds
returns-then-holds c = λ parts s place width_is stands.
    turns_yes c.args.words.now c.args.counts.now parts s place c.args.start c.line_size-size.result c.args.width c.in-Some.node.now width_is stands c.line_size-size.ensures c.in-Some.ensures.0 c.if-node-eq0.false c.holds.result c.holds.ensures c.if-holds.true

pub returns-else-holds : goal.returns-else-holds
returns-else-holds c = λ parts s place width_is stands.
    turns_no c.args.words.now c.args.counts.now parts s place c.args.start c.line_size-size.result c.args.width c.in-Some.node.now width_is stands c.line_size-size.ensures c.in-Some.ensures.0 c.if-node-eq0.false c.holds.result c.holds.ensures c.if-holds.false
