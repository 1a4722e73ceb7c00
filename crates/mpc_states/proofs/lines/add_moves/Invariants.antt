use Rattle.std.proofs.Common.{◌≡◌, ◌++◌, take, map}
use Rattle.std.specs.List.{join_with_byte}
use Rattle.mpc_frac.specs.Text.{text_of}
use Rattle.mpc_states.proofs.lines.add_moves.Given as goal

abbrev pub invariant-loop-i : goal.invariant-loop-i
invariant-loop-i l = l.text.items ≡ l.fn.text.items ++ join_with_byte 32 (take l.i (map text_of l.moves))
