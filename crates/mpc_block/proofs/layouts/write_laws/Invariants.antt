use Rattle.std.proofs.Common.{length}
use Rattle.mpc_block.specs.Block.{line_start}
use Rattle.mpc_block.specs.Layouts.{AreFormsTo, KeepsBefore}
use Rattle.mpc_block.proofs.layouts.write_laws.Given as goal

abbrev pub invariant-loop-index : goal.invariant-loop-index
invariant-loop-index l = record {
  forms : AreFormsTo l.controller l.index l.words;
  kept : KeepsBefore (line_start l.width (length l.controller.tree)) l.initial.words l.words;
}
