use Rattle.std.proofs.Common.{◌≡◌}
use Rattle.mpc_controller.specs.Parts.{Parts}
use Rattle.mpc_block.specs.Block.{width_of}
use Rattle.mpc_block.specs.Walks.{Serves, HasCome}
use Rattle.mpc_block.proofs.walks.leaf_start.Given as goal

abbrev pub invariant-loop : goal.invariant-loop
invariant-loop l = (parts : Parts) (s : Serves l.words l.counts parts) → l.width ≡ width_of parts → HasCome l.words l.counts parts s.block l.counter l.start
