-- Certificates: the multipliers of a system's rows that aren't 0, each with the position of its row.
use Rattle.std.specs.Prelude.{◌≡◌, ℕ, ◌<◌, List, [], ◌∷◌, pos}
use Rattle.mpc_exact.specs.Rational.{ℚ, int}

-- the positions rise, all of them above this one, and no multiplier is 0
abbrev pub RisesFrom : ℕ → List (ℕ × ℚ) → Type 0
RisesFrom last [] = Unit {0}
RisesFrom last (entry ∷ entries) = (last < entry.0) × (¬ (entry.1 ≡ int (pos 0))) × RisesFrom entry.0 entries

-- positions are counted from 1
pub record IsCert (entries : List (ℕ × ℚ)) : Type 0 where
  pub rises : RisesFrom 0 entries
