-- What the numbers of a row change by.
use Rattle.std.specs.Prelude.{◌≡◌, ◌<◌, ◌≤◌, ◌^◌, ℤ, pos, ◌+ℤ◌, ◌*ℤ◌, neg_ℤ, unsigned_abs}
use Rattle.mpc_whole.specs.declared.whole_pivot.Change.{Change}

-- its numbers are small, and the divisor isn't 0
pub record IsSmallChange (g : Change) : Type 0 where
  pub den_some : 0 < g.by.den
  pub den_small : g.by.den ≤ 2 ^ 62
  pub most_small : g.most ≤ 2 ^ 62
  pub factor_small : unsigned_abs g.factor ≤ g.most
  pub size_small : g.size ≤ 2 ^ 62

-- z is what the number becomes, where the row that leaves has x in its column
abbrev pub IsChangedBy : Change → ℤ → ℤ → ℤ → Type 0
IsChangedBy g number x z = z *ℤ pos g.by.den ≡ (number *ℤ pos g.size) +ℤ neg_ℤ (g.factor *ℤ x)
