use Rattle.std.proofs.Common.{◌≡◌, ℕ, ◌+◌, ◌-◌, ◌<◌, length, get_or}
use Rattle.mpc_systems.proofs.equations.member_places.Given as goal

abbrev pub invariant-loop-index : goal.invariant-loop-index
invariant-loop-index l = record { size : length l.places.items ≡ l.index; at : (i : ℕ) → i < l.index → get_or l.places.items i 0 ≡ l.unknowns + (get_or l.set i 0 - 1) }
