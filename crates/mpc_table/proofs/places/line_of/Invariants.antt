use Rattle.std.proofs.Common.{◌≡◌, ◌∷◌, take}
use Rattle.mpc_table.proofs.places.line_of.Given as goal

abbrev pub invariant-loop-number : goal.invariant-loop-number
invariant-loop-number l = l.line.items ≡ l.first ∷ take l.number-index l.others
