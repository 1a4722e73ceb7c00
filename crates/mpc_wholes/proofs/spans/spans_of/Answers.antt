use Rattle.std.proofs.Common.{rules}
use Rattle.mpc_wholes.proofs.WholeDots.{spans_more}
use Rattle.mpc_wholes.proofs.spans.spans_of.Goals as goal

pub loop-index-preserved : goal.loop-index-preserved
loop-index-preserved c = record {
  size = search rules;
  at = spans_more c.args.rows.now c.args.count c.loop-index.index c.loop-index.spans.items c.push.new.self.items c.index-rows-index.result c.span_of.result c.loop-index-test.true c.index-rows-index.is (search rules) c.loop-index.invariant.size c.span_of.ensures c.loop-index.invariant.at;
}
