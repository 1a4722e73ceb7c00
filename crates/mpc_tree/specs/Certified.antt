-- The tree of a cell with its certificates, of which there is one.
use Rattle.std.specs.Prelude.{◌≡◌, ℕ, ◌≤◌, ◌⊎◌, List, length, Contains}
use Rattle.mpc_exact.specs.Rational.{ℚ}
use Rattle.mpc_space.specs.Matrix.{height}
use Rattle.mpc_rows.specs.declared.programs.Qp.{Qp}
use Rattle.mpc_rows.specs.declared.laws.Law.{Law}
use Rattle.mpc_rows.specs.declared.trees.Node.{Node}
use Rattle.mpc_rows.specs.declared.places.Place.{Place}
use Rattle.mpc_rows.specs.Laws.{IsLaw, HasLawShape}
use Rattle.mpc_rows.specs.Candidates.{IsTable}
use Rattle.mpc_rows.specs.Certificates.{IsCert}
use Rattle.mpc_tree.specs.Trees.{Cell, IsTreeWhere, Divides, IsLeafOf, IsTreeOf}
use Rattle.mpc_tree.specs.LeafCerts.{nonzero_from, HasItsCerts}
use Rattle.mpc_tree.specs.NodeRuns.{DividesAndFits, EndsAndFits, IsFittingTree}
use Rattle.mpc_tree.specs.WideRuns.{IsFirstWide}

-- each law of the list is the law of its set
abbrev pub AreLaws : Qp → List Law → Type 0
AreLaws qp laws = (law : Law) → Contains laws law → IsLaw qp law

-- the tree's own splits and leaves, whose runs fit, and the certificates of the leaves
abbrev pub IsCertified : Qp → List Law → Cell → List Node → Type 0
IsCertified qp laws cell nodes = IsTreeWhere (DividesAndFits qp laws) (λ c node. EndsAndFits qp laws c node × HasItsCerts qp laws c node) cell nodes

-- its splits and leaves with their certificates, whatever numbers its runs meet
abbrev pub IsOwnTree : Qp → List Law → Cell → List Node → Type 0
IsOwnTree qp laws cell nodes = IsTreeWhere (Divides qp laws) (λ c node. IsLeafOf qp laws c node × HasItsCerts qp laws c node) cell nodes

abbrev pub CertifiedIsOwn : Type 0
CertifiedIsOwn = (qp : Qp) (laws : List Law) (cell : Cell) (nodes : List Node) → IsCertified qp laws cell nodes → IsOwnTree qp laws cell nodes

-- a cell has at most one such tree
abbrev pub OneOwnTree : Type 0
OneOwnTree = (qp : Qp) (laws : List Law) → AreLaws qp laws → (cell : Cell) (one two : List Node) → IsOwnTree qp laws cell one → IsOwnTree qp laws cell two → one ≡ two

-- so at most one whose runs fit
abbrev pub OneTree : Type 0
OneTree = (qp : Qp) (laws : List Law) → AreLaws qp laws → (cell : Cell) (one two : List Node) → IsCertified qp laws cell one → IsCertified qp laws cell two → one ≡ two

-- at most one run is the first that is too wide
abbrev pub OneFirstWide : Type 0
OneFirstWide = (qp : Qp) (laws : List Law) → AreLaws qp laws → (cell : Cell) (number : ℕ) (one two : Place) → IsFirstWide qp laws cell number one → IsFirstWide qp laws cell number two → one ≡ two

-- and none is where the runs of the cell's tree fit
abbrev pub FitsNotWide : Type 0
FitsNotWide = (qp : Qp) (laws : List Law) → AreLaws qp laws → (cell : Cell) (nodes : List Node) (number : ℕ) (place : Place) → IsFittingTree qp laws cell nodes → ¬ IsFirstWide qp laws cell number place

-- it is a tree of the laws, and its runs fit
abbrev pub CertifiedIsTree : Type 0
CertifiedIsTree = (qp : Qp) (laws : List Law) (cell : Cell) (nodes : List Node) → IsCertified qp laws cell nodes → IsTreeOf qp laws cell nodes

abbrev pub CertifiedFits : Type 0
CertifiedFits = (qp : Qp) (laws : List Law) (cell : Cell) (nodes : List Node) → IsCertified qp laws cell nodes → IsFittingTree qp laws cell nodes

-- ---- what holds of every table, and of every list of multipliers
abbrev pub TableHasLaws : Type 0
TableHasLaws = (qp : Qp) (laws : List Law) → IsTable qp laws → AreLaws qp laws

abbrev pub TableHasShapes : Type 0
TableHasShapes = (qp : Qp) (laws : List Law) → IsTable qp laws → (law : Law) → Contains laws law → HasLawShape qp law

-- there are at most as many sets of six of 40 rows, and fewer of four of 60
abbrev pub TableIsSmall : Type 0
TableIsSmall = (qp : Qp) (laws : List Law) → IsTable qp laws → (height qp.g ≤ 40) ⊎ (height qp.h ≤ 4) → length laws ≤ 4598479

-- the multipliers that aren't 0 are a certificate by their shape
abbrev pub MultipliersAreCert : Type 0
MultipliersAreCert = (multipliers : List ℚ) → IsCert (nonzero_from 1 multipliers)
