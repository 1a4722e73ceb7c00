use Rattle.std.proofs.Common.{List, ℕ, ◌++◌, length}
use Rattle.std.specs.Str.Lines.{lines}
use Rattle.mpc_controller.specs.Parts.{Parts}
use Rattle.mpc_table.specs.Lookup.{IsTableOf}
use Rattle.mpc_table.specs.ReplyLines.{AreRepliesOf}
use Rattle.mpc_table.proofs.reply_lines.reply_lines.Given as goal

abbrev pub invariant-loop-line : goal.invariant-loop-line
invariant-loop-line l =
    (parts : Parts) → IsTableOf parts l.table → (more : List ℕ) → AreRepliesOf parts (lines l.rest) more → AreRepliesOf parts (lines l.input) (l.text.items ++ more)

abbrev pub decreases-loop-line : goal.decreases-loop-line
decreases-loop-line l = length l.rest
