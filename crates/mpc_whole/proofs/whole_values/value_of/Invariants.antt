use Rattle.std.proofs.Common.{◌≡◌, ℕ, List}
use Rattle.mpc_exact.specs.Rational.{frac}
use Rattle.mpc_space.specs.Total.{total}
use Rattle.mpc_rows.specs.LinearSystem.{height}
use Rattle.mpc_rows.specs.Run.{Position, IsTableau}
use Rattle.mpc_runs.specs.declared.variables.Seat.{Seat}
use Rattle.mpc_runs.specs.Table.{variable_at, IsSeated, AreNonbasic}
use Rattle.mpc_whole.specs.Whole.{IsForm}
use Rattle.mpc_scaled.specs.Scaled.{HasSides}
use Rattle.mpc_runs.proofs.Table.{first_terms, second_terms}
use Rattle.mpc_whole.proofs.whole_values.value_of.Given as goal

abbrev pub invariant-loop-column : goal.invariant-loop-column
invariant-loop-column l = record {
  firsts : (seats : List Seat) → IsSeated (height l.system) l.system.width l.frame.count seats → AreNonbasic l.system.width seats l.nonbasic → (p : Position) (d : ℕ) → IsTableau p → IsForm l.system l.frame.count seats l.frame.scales.now d l.numbers p → HasSides l.system l.frame.scales.now l.frame.b.now → total l.column (λ m. first_terms l.system p l.unknown (variable_at l.nonbasic m)) ≡ frac l.first d;
  seconds : (seats : List Seat) → IsSeated (height l.system) l.system.width l.frame.count seats → AreNonbasic l.system.width seats l.nonbasic → (p : Position) (d : ℕ) → IsTableau p → IsForm l.system l.frame.count seats l.frame.scales.now d l.numbers p → HasSides l.system l.frame.scales.now l.frame.b.now → total l.column (λ m. second_terms l.system p l.unknown (variable_at l.nonbasic m)) ≡ frac l.second d;
}
