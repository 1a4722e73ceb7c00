use Rattle.std.proofs.Common.{◌≡◌, ℕ, ◌<◌, [], length, get_or, None, IfSome}
use Rattle.mpc_wholes.specs.Wholes.{IsOver}
use Rattle.mpc_online.proofs.wholes.whole_rows.Given as goal

abbrev pub invariant-loop-index : goal.invariant-loop-index
invariant-loop-index l = record {
  size : length l.rows.items ≡ l.index;
  at : (j : ℕ) → j < l.index → IfSome (get_or l.rows.items j None) (IsOver (get_or l.matrix.rows j []));
}
