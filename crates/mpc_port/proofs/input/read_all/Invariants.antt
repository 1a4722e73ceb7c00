use Rattle.std.proofs.Common.{◌≡◌, ◌+◌, ◌-◌, ◌≤◌, take, vec_len}
use Rattle.mpc_port.specs.Passing.{IsDrawn, Passed}
use Rattle.mpc_port.proofs.input.read_all.Given as goal

abbrev pub invariant-loop-filled : goal.invariant-loop-filled
invariant-loop-filled g l = record {
  held : l.filled ≤ vec_len l.bytes;
  within : l.filled ≤ l.limit + 1;
  passed : Passed (g.S.Source.given l.initial.source) (g.S.Source.given l.source) (take l.filled l.bytes.items);
  drawn : IsDrawn (g.S.Source.left l.initial.source) (g.S.Source.left l.source) (g.S.Source.given l.initial.source) (g.S.Source.given l.source);
  quiet : g.S.Source.faults l.source ≡ g.S.Source.faults l.initial.source;
}

abbrev pub decreases-loop-filled : goal.decreases-loop-filled
decreases-loop-filled g l = l.limit + 1 - l.filled
