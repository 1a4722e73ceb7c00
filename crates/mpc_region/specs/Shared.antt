-- What the equations of the laws of all sets of a program have in common.
use Rattle.std.specs.Prelude.{◌≡◌, ℕ, ◌+◌, ◌-◌, ◌<◌, nat_lt, cond, List, length, get_or, pos, IfSome}
use Rattle.mpc_exact.specs.Rational.{ℚ, int, neg_ℚ}
use Rattle.mpc_space.specs.Matrix.{RationalMatrix, height, tabled, entry}
use Rattle.mpc_rows.specs.declared.programs.Qp.{Qp}
use Rattle.mpc_bordered.specs.declared.kept.Kept.{Kept}
use Rattle.mpc_region.specs.declared.shared.Shared.{Shared}

-- the rows [h, g', -f]
abbrev pub upper_entry : Qp → ℕ → ℕ → ℚ
upper_entry qp i j =
    let n = height qp.h in
    let r = height qp.g in
    cond (nat_lt j n) (entry qp.h i j) (cond (nat_lt j (n + r)) (entry qp.g (j - n) i) (neg_ℚ (entry qp.f i (j - n - r))))

-- the rows [g, 0, w]
abbrev pub lower_entry : Qp → ℕ → ℕ → ℚ
lower_entry qp i j =
    let n = height qp.h in
    let r = height qp.g in
    cond (nat_lt j n) (entry qp.g i j) (cond (nat_lt j (n + r)) (int (pos 0)) (entry qp.w i (j - n - r)))

-- the table [[h, g', -f], [g, 0, w]]: the equations of a set have some of its rows and columns
abbrev pub shared_entry : Qp → ℕ → ℕ → ℚ
shared_entry qp i j = cond (nat_lt i (height qp.h)) (upper_entry qp i j) (lower_entry qp (i - height qp.h) j)

unfoldable pub shared_table : Qp → RationalMatrix
shared_table qp = tabled (height qp.h + height qp.g) (height qp.h + height qp.g + (length qp.counts + 1)) (shared_entry qp)

-- so many columns of the table, from this one on
pub record AreSidePlaces (first count : ℕ) (places : List ℕ) : Type 0 where
  pub size : length places ≡ count
  pub at : (k : ℕ) → k < count → get_or places k 0 ≡ first + k

-- what is kept is kept of that table, with the columns of h eliminated
pub record IsKeptTable (qp : Qp) (k : Kept) : Type 0 where
  pub table : k.table ≡ shared_table qp
  pub front : k.front ≡ height qp.h

abbrev pub IsSharedBySets : Qp → Shared → Type 0
IsSharedBySets qp shared = IfSome shared.table (IsKeptTable qp)
