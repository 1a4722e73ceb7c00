use Rattle.std.proofs.Common.{◌≡◌, ◌+ℤ◌, drop}
use Rattle.std.specs.Int.{int_wrap, w64}
use Rattle.mpc_table.specs.Forms.{weighed}
use Rattle.mpc_block.specs.declared.lines.Width.TheVariants.{Short}
use Rattle.mpc_block.specs.Words.{entries}
use Rattle.mpc_block.proofs.lines.short_sum.Given as goal

abbrev pub invariant-loop-i : goal.invariant-loop-i
invariant-loop-i l = int_wrap w64 (l.sum +ℤ weighed (drop l.i (entries Short l.line)) (drop l.i l.counts)) ≡ int_wrap w64 (l.start +ℤ weighed (entries Short l.line) l.counts)
