-- When each error comes.
use Rattle.std.specs.Prelude.{ℕ, List}
use Rattle.mpc_exact.specs.Rational.{ℚ}
use Rattle.mpc_space.specs.Definite.{IsDefinite}
use Rattle.mpc_definite.specs.Pivots.{IsFirstNotPositive, IsFirstWide}
use Rattle.mpc_definite.specs.declared.DefiniteError.{DefiniteError}
use Rattle.mpc_definite.specs.declared.DefiniteError.TheVariants.{NotDefinite, Wide, NoMemory}

-- the first step of the elimination of h, of n rows, that ends in an error
abbrev pub IsCause : (ℕ → ℕ → ℚ) → ℕ → DefiniteError → Type 0
IsCause h n (NotDefinite j) = IsFirstNotPositive h n j
IsCause h n (Wide j) = IsFirstWide h n j
IsCause h n NoMemory = Unit {0}

-- h isn't positive definite where a pivot isn't positive
abbrev pub Disproves : List (List ℚ) → DefiniteError → Type 0
Disproves h (NotDefinite j) = IsDefinite h → ⊥
Disproves h (Wide j) = Unit {0}
Disproves h NoMemory = Unit {0}
