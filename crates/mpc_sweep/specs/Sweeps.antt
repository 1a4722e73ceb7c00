-- Tables that are swept at some of their rows, one after another: a sweep divides the row by its entry on the diagonal, and takes it away
-- from each other row (Beaton 1964, Goodnight 1979).
use Rattle.std.specs.Prelude.{◌≡◌, ◌≢◌, ℕ, suc, ◌<◌, ◌≤◌, List, [], ◌∷◌, length, take, get_or, pos}
use Rattle.mpc_exact.specs.Rational.{int}
use Rattle.mpc_linear.specs.Elimination.{Table, reduced}
use Rattle.mpc_bordered.specs.Fronts.{EntryFits}

-- the table once it is swept at these rows
unfoldable pub swept : Table → List ℕ → Table
swept t [] = t
swept t (p ∷ ps) = swept (reduced p t) ps

-- the row of a sweep
abbrev pub pivot_at : List ℕ → ℕ → ℕ
pivot_at ps k = get_or ps k 0

-- the table before a sweep
abbrev pub before : Table → List ℕ → ℕ → Table
before t ps k = swept t (take k ps)

-- no sweep divides by 0
abbrev pub HasPivots : Table → List ℕ → Type 0
HasPivots t ps = (k : ℕ) → k < length ps → before t ps k (pivot_at ps k) (pivot_at ps k) ≢ int (pos 0)

-- the rows rise
abbrev pub AreRising : List ℕ → Type 0
AreRising ps = (k l : ℕ) → k < l → l < length ps → pivot_at ps k < pivot_at ps l

-- Each sweep forms numbers that fit, in each of so many rows, and in the columns from the row of the next sweep on; the last one in those
-- from this one on.
abbrev pub SweepsFit : Table → List ℕ → ℕ → ℕ → ℕ → Type 0
SweepsFit t ps rows columns first =
    (k i j : ℕ) → k < length ps → i < rows → pivot_at ps k < j → (suc k < length ps → pivot_at ps (suc k) ≤ j) → (suc k ≡ length ps → first ≤ j) → j < columns → EntryFits (pivot_at ps k) (before t ps k) i j
