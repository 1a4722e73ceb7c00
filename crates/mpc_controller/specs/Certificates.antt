-- The certificates of a search tree's leaves. At a leaf with a law there is one for each row of the plant's program, at a leaf without a
-- law there is one. Each is over the rows of its system: those of the box, those of the splits above the leaf, and those of the leaf.
use Rattle.std.specs.Prelude.{◌≡◌, ℕ, ◌+◌, ◌*◌, ◌≤◌, List, [], ◌∷◌, length, All}
use Rattle.mpc_exact.specs.Rational.{ℚ}
use Rattle.mpc_rows.specs.Certificates.{IsCert}
use Rattle.mpc_rows.specs.declared.trees.Node.{Node}
use Rattle.mpc_rows.specs.declared.trees.Node.TheVariants.{Split, Law, NoMove}

-- a certificate that names some of so many rows: its positions rise from 1 and are at most that many, and no multiplier is 0
pub record IsCertOver (rows : ℕ) (cert : List (ℕ × ℚ)) : Type 0 where
  pub is_cert : IsCert cert
  pub within : All (λ entry. entry.0 ≤ rows) cert

-- the rows of the box, two for each of n coordinates, and those of the splits above a leaf at this depth
abbrev pub cell_rows : ℕ → ℕ → ℕ
cell_rows n depth = 2 * n + depth

-- at a leaf with a law: a certificate for each of the program's m rows, over the cell and that one row
pub record AreLawCerts (n m depth : ℕ) (certs : List (List (ℕ × ℚ))) : Type 0 where
  pub one_each : length certs ≡ m
  pub each : All (IsCertOver (cell_rows n depth + 1)) certs

-- The leaves have their certificates. The nodes spell trees one after the other, which stand at these depths: under so many splits.
abbrev pub HaveCerts : ℕ → ℕ → List ℕ → List Node → Type 0
HaveCerts n m depths [] = Unit {0}
HaveCerts n m [] (node ∷ nodes) = ⊥
HaveCerts n m (depth ∷ depths) (Split row ∷ nodes) = HaveCerts n m ((depth + 1) ∷ (depth + 1) ∷ depths) nodes
HaveCerts n m (depth ∷ depths) (Law law certs ∷ nodes) = AreLawCerts n m depth certs × HaveCerts n m depths nodes
HaveCerts n m (depth ∷ depths) (NoMove cert ∷ nodes) = IsCertOver (cell_rows n depth + m) cert × HaveCerts n m depths nodes
