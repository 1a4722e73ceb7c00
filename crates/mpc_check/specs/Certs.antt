-- When a certificate refutes a system, and which numbers must fit for that to be seen.
use Rattle.std.specs.Prelude.{ℕ, ◌≤◌, ◌==◌, if◌then◌else◌, List, [], ◌∷◌, map, All, pos}
use Rattle.std.specs.List.{range_with_len}
use Rattle.mpc_exact.specs.Rational.{ℚ, int}
use Rattle.mpc_space.specs.Vector.{AllNonneg}
use Rattle.mpc_rows.specs.LinearSystem.{LinearSystem, height}
use Rattle.mpc_rows.specs.Refutation.{Refutes, SumsFit}

-- the multiplier of the row at a position, counted from 1: the one that is named with it, and 0 where none is
abbrev pub named_at : List (ℕ × ℚ) → ℕ → ℚ
named_at [] position = int (pos 0)
named_at (entry ∷ entries) position = if position == entry.0 then entry.1 else named_at entries position

-- the multipliers of so many rows
abbrev pub multipliers_of : ℕ → List (ℕ × ℚ) → List ℚ
multipliers_of rows cert = map (named_at cert) (range_with_len 1 rows)

-- the position is that of one of so many rows
pub record IsPositionIn (rows : ℕ) (entry : ℕ × ℚ) : Type 0 where
  pub from_one : 1 ≤ entry.0
  pub to_last : entry.0 ≤ rows

abbrev pub HasPositionsIn : ℕ → List (ℕ × ℚ) → Type 0
HasPositionsIn rows cert = All (IsPositionIn rows) cert

-- the certificate names rows of the system alone, and its multipliers refute the system
pub record CertRefutes (s : LinearSystem) (cert : List (ℕ × ℚ)) : Type 0 where
  pub within : HasPositionsIn (height s) cert
  pub refutes : Refutes s (multipliers_of (height s) cert)

-- the sums fit, which are formed where the certificate names rows of the system alone and no multiplier is negative
abbrev pub CertFits : LinearSystem → List (ℕ × ℚ) → Type 0
CertFits s cert = HasPositionsIn (height s) cert → AllNonneg (multipliers_of (height s) cert) → SumsFit s (multipliers_of (height s) cert)
