use Rattle.std.proofs.Common.{◌≡◌, ◌<◌, ◌≤◌, ℕ, List, Some}
use Rattle.std.specs.Prelude.{slice_get}
use Rattle.mpc_exact.specs.Rational.{ℚ}
use Rattle.mpc_rows.specs.declared.trees.Node.TheVariants.{NoMove}
use Rattle.mpc_recur.proofs.search.empties_end.Given as goal

abbrev pub invariant-loop-place : goal.invariant-loop-place
invariant-loop-place l = record {
  inside : l.end ≤ l.place;
  behind : (j : ℕ) (cert : List (ℕ × ℚ)) → j < l.place → slice_get l.tree j ≡ Some (NoMove cert) → j < l.end;
}
