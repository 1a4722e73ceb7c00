use Rattle.std.proofs.Common.{List, ℕ, ◌++◌, length}
use Rattle.std.specs.Str.Lines.{lines}
use Rattle.mpc_online.specs.Shared.{IsPreparedFor}
use Rattle.mpc_states.specs.StateLines.{IsOf, AreStateLines}
use Rattle.mpc_states.proofs.lines.lines_with.Given as goal

abbrev pub invariant-loop-line : goal.invariant-loop-line
invariant-loop-line l = record {
  text : (more : List ℕ) → AreStateLines (IsOf l.program l.inputs) l.program (length l.program.counts) (lines l.rest) more
      → AreStateLines (IsOf l.program l.inputs) l.program (length l.program.counts) (lines l.input) (l.text.items ++ more);
  prepared : IsPreparedFor l.program l.prepared;
}

abbrev pub decreases-loop-line : goal.decreases-loop-line
decreases-loop-line l = length l.rest
