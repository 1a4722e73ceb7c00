use Rattle.std.proofs.Common.{rules}
use Rattle.mpc_check.proofs.WeightLemmas.{one_more}
use Rattle.mpc_check.proofs.WholeSums.{read_narrow}
use Rattle.mpc_check.proofs.whole_sums.put_weights.Goals as goal

pub loop-at_entry-preserved : goal.loop-at_entry-preserved
loop-at_entry-preserved c =
    one_more c.args.cert.now c.as_slice-entries.result.now c.as_slice-entries.ensures.value c.args.all c.loop-at_entry.list c.loop-at_entry.at_entry c.index-entries-at_entry.result c.in_ok-weight.weight _ (read_narrow c.in_ok-weight.weight c.in_ok-weight.ensures.small) c.loop-at_entry-test.true
    (search rules) c.in_ok-weight.ensures.value c.in_ok-weight.ensures.nonneg c.in_ok-weight.ensures.small c.loop-at_entry.invariant

pub returns : goal.returns
returns c = record { few = search rules; each = λ k h entry. c.loop-at_entry.invariant k (search rules) entry }
