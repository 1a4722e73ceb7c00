-- The minors of rows in whole numbers.
use Rattle.std.specs.Prelude.{ℕ, ◌+◌, ◌*◌, List, ℤ, ◌+ℤ◌, ◌-ℤ◌, ◌*ℤ◌}
use Rattle.mpc_scaled.specs.Scaled.{whole_at}

-- of two rows and the first two unknowns, where each row has so many numbers
abbrev pub pair_at : ℕ → List ℤ → ℕ → ℕ → ℤ
pair_at size lines i k = whole_at lines (i * size) *ℤ whole_at lines (k * size + 1) -ℤ whole_at lines (i * size + 1) *ℤ whole_at lines (k * size)

-- of three rows in three unknowns, by the last of these
abbrev pub triple_at : List ℤ → ℕ → ℕ → ℕ → ℤ
triple_at lines i k l = whole_at lines (i * 4 + 2) *ℤ pair_at 4 lines k l +ℤ whole_at lines (k * 4 + 2) *ℤ pair_at 4 lines l i +ℤ whole_at lines (l * 4 + 2) *ℤ pair_at 4 lines i k
