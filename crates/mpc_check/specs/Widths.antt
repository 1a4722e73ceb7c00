-- Rows in so many unknowns.
use Rattle.std.specs.Prelude.{◌≡◌, ℕ, length}
use Rattle.mpc_rows.specs.declared.systems.Row.{Row}

abbrev pub IsOfWidth : ℕ → Row → Type 0
IsOfWidth width r = length r.a ≡ width
