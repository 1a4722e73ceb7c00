use Rattle.std.proofs.Common.{◌+◌, ◌∙◌, arith}
use Rattle.mpc_block.specs.declared.lines.Width.TheVariants.{Wide}
use Rattle.mpc_block.proofs.LineLemmas.{same_number, numbers_of, wide_more}
use Rattle.mpc_block.proofs.lines.wide_line.Goals as goal

pub loop-i-preserved : goal.loop-i-preserved
loop-i-preserved c =
    let keeps = c.put_number-in-loop-i.ensures.others in
    let i = c.loop-i.i in
    record {
      first = keeps 0 (omega arith) (omega arith) ∙ c.loop-i.invariant.first;
      second = keeps 1 (omega arith) (omega arith) ∙ c.loop-i.invariant.second;
      lead = same_number c.put_number-in-loop-i.new.line c.loop-i.line (2 + i) 1 (omega arith) keeps ∙ c.loop-i.invariant.lead;
      others = wide_more c.put_number-in-loop-i.new.line c.loop-i.line i c.args.others.now keeps c.loop-i.invariant.others c.put_number-in-loop-i.ensures.written;
    }

pub returns-clause-numbers : goal.returns-clause-numbers
returns-clause-numbers c = numbers_of Wide c.loop-i.line c.args.lead.now c.args.others.now c.requires c.loop-i.invariant.lead (λ k lt. c.loop-i.invariant.others k (omega (arith, lt, c.loop-i-test.false)))
