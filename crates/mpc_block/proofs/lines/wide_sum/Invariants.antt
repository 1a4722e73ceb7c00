use Rattle.std.proofs.Common.{◌≡◌, ◌+ℤ◌, drop}
use Rattle.std.specs.Int.{int_wrap, w128}
use Rattle.mpc_table.specs.Forms.{weighed}
use Rattle.mpc_block.specs.declared.lines.Width.TheVariants.{Wide}
use Rattle.mpc_block.specs.Words.{entries}
use Rattle.mpc_block.proofs.lines.wide_sum.Given as goal

abbrev pub invariant-loop-i : goal.invariant-loop-i
invariant-loop-i l = int_wrap w128 (l.sum +ℤ weighed (drop l.i (entries Wide l.line)) (drop l.i l.counts)) ≡ int_wrap w128 (l.start +ℤ weighed (entries Wide l.line) l.counts)
