use Rattle.std.proofs.Common.{◌≡◌, ℕ, ◌<◌, pos}
use Rattle.mpc_scaled.specs.Scaled.{whole_cell, IsSmall}
use Rattle.mpc_whole.proofs.whole_rows.put_units.Given as goal

abbrev pub invariant-loop-index : goal.invariant-loop-index
invariant-loop-index l = record {
  diagonal : (j : ℕ) → j < l.index → whole_cell l.width l.numbers j j ≡ pos 1;
  others : (j c : ℕ) → j < l.width → c < l.width → (j ≡ c → ⊥) → whole_cell l.width l.numbers j c ≡ pos 0;
  small : IsSmall 1 l.numbers;
}
