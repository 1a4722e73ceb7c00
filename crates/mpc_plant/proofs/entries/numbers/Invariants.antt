use Rattle.std.proofs.Common.{◌≡◌, length}
use Rattle.mpc_plant.specs.CheckedEntries.{number_of}
use Rattle.mpc_plant.proofs.Each.{EachFrom}
use Rattle.mpc_plant.proofs.entries.numbers.Given as goal

abbrev pub invariant-loop-i : goal.invariant-loop-i
invariant-loop-i l = record { so_far : EachFrom number_of l.items l.i l.entries; len : length l.entries ≡ l.i }
