use Rattle.std.proofs.Common.{◌≡◌, ℕ, ◌≤◌, length}
use Rattle.mpc_rows.specs.declared.laws.Law.{Law}
use Rattle.mpc_controller.specs.Parts.{Parts}
use Rattle.mpc_controller.specs.Replies.{IsLawNumbered}
use Rattle.mpc_block.specs.Block.{width_of, law_start}
use Rattle.mpc_block.specs.Walks.{Serves}
use Rattle.mpc_block.specs.BlockReplies.{BeginWith}
use Rattle.mpc_block.proofs.replies.write_all.Given as goal

abbrev pub invariant-loop-i : goal.invariant-loop-i
invariant-loop-i l = (parts : Parts) (of_set : Law) (law : ℕ) → Serves l.words l.counts parts → l.width ≡ width_of parts → length l.moves ≡ parts.plant.p → 1 ≤ law → IsLawNumbered parts.laws law of_set → l.start ≡ law_start parts law → BeginWith of_set l.counts l.i l.moves
