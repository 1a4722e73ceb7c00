-- Where the leaves without a law stand.
use Rattle.std.specs.Prelude.{◌≡◌, ℕ, ◌<◌, List, slice_get, Some}
use Rattle.mpc_exact.specs.Rational.{ℚ}
use Rattle.mpc_rows.specs.declared.trees.Node.{Node}
use Rattle.mpc_rows.specs.declared.trees.Node.TheVariants.{NoMove}

-- each leaf without a law stands before this place
abbrev pub EmptiesBefore : List Node → ℕ → Type 0
EmptiesBefore nodes end = (k : ℕ) (cert : List (ℕ × ℚ)) → slice_get nodes k ≡ Some (NoMove cert) → k < end
