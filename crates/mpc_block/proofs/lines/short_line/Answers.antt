use Rattle.std.proofs.Common.{arith}
use Rattle.mpc_block.specs.declared.lines.Width.TheVariants.{Short}
use Rattle.mpc_block.proofs.LineLemmas.{numbers_of}
use Rattle.mpc_block.proofs.lines.short_line.Goals as goal

pub returns-clause-numbers : goal.returns-clause-numbers
returns-clause-numbers c = numbers_of Short c.loop-i.line c.args.lead.now c.args.others.now c.requires.few c.loop-i.invariant.lead (λ k lt. c.loop-i.invariant.others k (omega (arith, lt, c.loop-i-test.false)))
