-- The equations of the laws of all sets of a program as one table, swept at the rows of h and of a set's members.
use Rattle.std.specs.Prelude.{ℕ, ◌+◌, ◌-◌, ◌++◌, List, length, map, get_or}
use Rattle.std.specs.List.{range_with_len}
use Rattle.mpc_space.specs.Matrix.{height, tabled}
use Rattle.mpc_rows.specs.declared.programs.Qp.{Qp}
use Rattle.mpc_rows.specs.declared.laws.Law.{Law}
use Rattle.mpc_sweep.specs.declared.numbers.Swept.{Swept}
use Rattle.mpc_sweep.specs.Sweeps.{swept}
use Rattle.mpc_sweep.specs.Numbers.{IsSwept}
use Rattle.mpc_region.specs.Shared.{shared_entry}

-- the rows of the table [[h, g', -f], [g, 0, w]] at which it is swept for a set: those of h, and those of its members
abbrev pub sweeps_of : Qp → List ℕ → List ℕ
sweeps_of qp s = range_with_len 0 (height qp.h) ++ map (λ i. height qp.h + (i - 1)) s

-- where the right sides begin, and how many columns there are
abbrev pub rights : Qp → ℕ
rights qp = height qp.h + height qp.g

abbrev pub all_columns : Qp → ℕ
all_columns qp = rights qp + (length qp.counts + 1)

-- the whole numbers stand for the table that is swept for the set, in the columns from this one on
abbrev pub IsTableOf : Qp → List ℕ → ℕ → Swept → Type 0
IsTableOf qp s first table = IsSwept (shared_entry qp) (sweeps_of qp s) (rights qp) (all_columns qp) first table

-- the law that such a table shows
unfoldable pub swept_law : Qp → List ℕ → Law
swept_law qp s = record {
  set = s;
  moves = tabled (height qp.h) (length qp.counts + 1) (λ i j. swept (shared_entry qp) (sweeps_of qp s) i (rights qp + j));
  mults = tabled (length s) (length qp.counts + 1) (λ k j. swept (shared_entry qp) (sweeps_of qp s) (height qp.h + (get_or s k 0 - 1)) (rights qp + j));
}
