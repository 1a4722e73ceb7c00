-- Theorems of systems of rows, for those who decide them: what a refutation and a pair point show, and points and multipliers by their numbers.
use Rattle.std.specs.Prelude.{◌≡◌, ℕ, ◌<◌, List, Some, length, slice_get}
use Rattle.mpc_exact.specs.Rational.{ℚ}
use Rattle.mpc_exact.specs.Pair.{Pair}
use Rattle.mpc_space.specs.Vector.{coordinate}
use Rattle.mpc_rows.specs.LinearSystem.{LinearSystem, HasWidth, height, IsPoint, IsPairPoint}
use Rattle.mpc_rows.specs.Refutation.{Refutes}
use Rattle.mpc_rows.specs.NumberedSystems.{IsPairPointBy, RefutesBy}

-- a system with refuting multipliers has no point
abbrev pub RefutedHasNoPoint : Type 0
RefutedHasNoPoint = (s : LinearSystem) (m : List ℚ) → HasWidth s.width s.rows → length m ≡ height s → Refutes s m → (v : List ℚ) → ¬ IsPoint s v

-- a system with a pair point has a point
abbrev pub PointOfPairs : Type 0
PointOfPairs = (s : LinearSystem) (p : List (ℚ × ℚ)) → IsPairPoint s p → (v : List ℚ) × IsPoint s v

-- a list of pairs whose parts are those that the numbered pairs have is a pair point where these are one
abbrev pub PairsByNumbers : Type 0
PairsByNumbers = (s : LinearSystem) → HasWidth s.width s.rows → (p : List (ℚ × ℚ)) (g : ℕ → Pair) → length p ≡ s.width
    → ((j : ℕ) → j < s.width → (q : ℚ × ℚ) × (slice_get p j ≡ Some q) × (q.0 ≡ (g j).first) × (q.1 ≡ (g j).second)) → IsPairPointBy s g → IsPairPoint s p

-- a list of multipliers that are the numbered ones refutes where these do
abbrev pub MultipliersByNumbers : Type 0
MultipliersByNumbers = (s : LinearSystem) (m : List ℚ) (g : ℕ → ℚ) → length m ≡ height s → ((i : ℕ) → i < height s → coordinate m i ≡ g i) → RefutesBy s g → Refutes s m

pub record SystemTheorems : Type 0 where
  pub refuted_has_no_point : RefutedHasNoPoint
  pub point_of_pairs : PointOfPairs
  pub pair_point_from : PairsByNumbers
  pub refutes_from : MultipliersByNumbers
