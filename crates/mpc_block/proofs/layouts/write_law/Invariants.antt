use Rattle.std.proofs.Common.{◌+◌}
use Rattle.mpc_block.specs.Block.{line_start, law_place}
use Rattle.mpc_block.specs.Layouts.{AreInputsTo, KeepsBefore}
use Rattle.mpc_block.proofs.layouts.write_law.Given as goal

abbrev pub invariant-loop-input : goal.invariant-loop-input
invariant-loop-input l = record {
  forms : AreInputsTo l.controller l.law (law_place l.controller (l.index + 1)) l.input l.words;
  kept : KeepsBefore (line_start l.width (law_place l.controller (l.index + 1))) l.initial.words l.words;
}
