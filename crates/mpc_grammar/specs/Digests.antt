-- Numbers by which lines are told from one another: two lines that have different ones are different.
use Rattle.std.specs.Prelude.{ℕ, List}
use Rattle.std.specs.Hash.FoldHasher.{initial, write, finish}

-- the number of a line
abbrev pub digest : List ℕ → ℕ
digest line = finish (write initial line)
