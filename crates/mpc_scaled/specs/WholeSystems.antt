-- Systems kept as whole numbers over a scale for each row.
use Rattle.std.specs.Prelude.{◌≡◌, ℕ, zero, suc, ◌+◌, ◌-◌, ◌*◌, ◌<◌, ◌≤◌, ◌^◌, Bool, true, false, cond, List, [], ◌∷◌, ◌++◌, length, take, drop, get_or, ℤ, neg_ℤ, unsigned_abs, Result, IfOk, OnErr}
use Rattle.mpc_exact.specs.Rational.{ℚ, frac}
use Rattle.mpc_space.specs.Vector.{coordinate, listed}
use Rattle.mpc_rows.specs.LinearSystem.{LinearSystem}
use Rattle.mpc_rows.specs.declared.systems.Row.{Row}
use Rattle.mpc_scaled.specs.declared.systems.WholeLists.{WholeLists}
use Rattle.mpc_scaled.specs.Scaled.{whole_at, whole_cell, scale_at, IsSmall}

-- the scale of row i
abbrev pub row_scale : WholeLists → ℕ → ℕ
row_scale l i = scale_at l.scales.items (l.width + i)

-- row i: the whole numbers over its scale
abbrev pub kept_row : WholeLists → ℕ → Row
kept_row l i = record {
  a = listed l.width (λ j. frac (whole_cell l.width l.a.items i j) (row_scale l i));
  b = frac (whole_at l.b.items i) (row_scale l i);
  strict = get_or l.strict.items i false;
}

-- f 0, f 1, .., f (n - 1)
unfoldable pub rows_of : ℕ → (ℕ → Row) → List Row
rows_of zero f = []
rows_of (suc n) f = rows_of n f ++ f n ∷ []

-- the system of these lists
abbrev pub system_of : WholeLists → LinearSystem
system_of l = record { width = l.width; rows = rows_of (length l.b.items) (kept_row l) }

-- the lists have as many numbers as they should, the scales are 1 for an unknown and positive, no number is above 2^62 in size, and none
-- above its bound
pub record AreLists (l : WholeLists) : Type 0 where
  pub entries_size : length l.a.items ≡ length l.b.items * l.width
  pub scales_size : length l.scales.items ≡ l.width + length l.b.items
  pub strict_size : length l.strict.items ≡ length l.b.items
  pub own : (j : ℕ) → j < l.width → scale_at l.scales.items j ≡ 1
  pub some : (x : ℕ) → x < length l.scales.items → 0 < scale_at l.scales.items x
  pub small : (x : ℕ) → scale_at l.scales.items x ≤ 2 ^ 40
  pub entries_small : IsSmall (2 ^ 62) l.a.items
  pub sides_small : IsSmall (2 ^ 62) l.b.items
  pub entries : IsSmall l.most_entry l.a.items
  pub sides : IsSmall l.most_side l.b.items
  pub some_side : 1 ≤ l.most_side
  pub scales : (x : ℕ) → scale_at l.scales.items x ≤ l.most_scale
  pub some_scale : 1 ≤ l.most_scale

-- n numbers stand behind those of a list, which are f 0, f 1, .. times the scale, and none of the list is above a bound
pub record AreBehind (old new : List ℤ) (n scale : ℕ) (f : ℕ → ℚ) (most : ℕ) : Type 0 where
  pub size : length new ≡ length old + n
  pub each : (j : ℕ) → j < n → f j ≡ frac (whole_at new (length old + j)) scale
  pub small : IsSmall most new
  pub limit : IsSmall (2 ^ 62) old → IsSmall (2 ^ 62) new

-- each list begins with what it had, and no bound is lower
pub record IsKept (old new : WholeLists) : Type 0 where
  pub width : new.width ≡ old.width
  pub entries : take (length old.a.items) new.a.items ≡ old.a.items
  pub sides : take (length old.b.items) new.b.items ≡ old.b.items
  pub scales : take (length old.scales.items) new.scales.items ≡ old.scales.items
  pub strict : take (length old.strict.items) new.strict.items ≡ old.strict.items
  pub most_entry : old.most_entry ≤ new.most_entry
  pub most_side : old.most_side ≤ new.most_side
  pub most_scale : old.most_scale ≤ new.most_scale

-- a row stands behind the others
pub record IsAdded (old new : WholeLists) (row : Row) : Type 0 where
  pub side : ℤ
  pub scale : ℕ
  pub some : 0 < scale
  pub small : scale ≤ 2 ^ 40
  pub value : row.b ≡ frac side scale
  pub side_small : unsigned_abs side ≤ 2 ^ 62
  pub entries : AreBehind old.a.items new.a.items old.width scale (coordinate row.a) new.most_entry
  pub sides : new.b.items ≡ old.b.items ++ side ∷ []
  pub scales : new.scales.items ≡ old.scales.items ++ scale ∷ []
  pub strict : new.strict.items ≡ old.strict.items ++ row.strict ∷ []
  pub side_bound : unsigned_abs side ≤ new.most_side
  pub scale_bound : scale ≤ new.most_scale

-- the rows of other lists stand behind the others, each with its scale, and no bound is below those of either
pub record AreAdded (old other new : WholeLists) : Type 0 where
  pub width : new.width ≡ old.width
  pub entries : new.a.items ≡ old.a.items ++ other.a.items
  pub sides : new.b.items ≡ old.b.items ++ other.b.items
  pub scales : new.scales.items ≡ old.scales.items ++ drop other.width other.scales.items
  pub strict : new.strict.items ≡ old.strict.items ++ other.strict.items
  pub most_entry : other.most_entry ≤ new.most_entry
  pub most_side : other.most_side ≤ new.most_side
  pub most_scale : other.most_scale ≤ new.most_scale

-- so many rows are there, whatever stands behind them
pub record HasRows (l : WholeLists) (count : ℕ) : Type 0 where
  pub width : l.width ≤ length l.scales.items
  pub scales : count ≤ length l.scales.items - l.width
  pub entries : count * l.width ≤ length l.a.items

-- only the first so many rows are left
pub record IsCut (old new : WholeLists) (count : ℕ) : Type 0 where
  pub width : new.width ≡ old.width
  pub entries : new.a.items ≡ take (count * old.width) old.a.items
  pub sides : new.b.items ≡ take count old.b.items
  pub scales : new.scales.items ≡ take (old.width + count) old.scales.items
  pub strict : new.strict.items ≡ take count old.strict.items
  pub most_entry : new.most_entry ≡ old.most_entry
  pub most_side : new.most_side ≡ old.most_side
  pub most_scale : new.most_scale ≡ old.most_scale

-- the numbers are those of other lists, and no bound is lower
pub record IsCopy (old new : WholeLists) : Type 0 where
  pub width : new.width ≡ old.width
  pub entries : new.a.items ≡ old.a.items
  pub sides : new.b.items ≡ old.b.items
  pub scales : new.scales.items ≡ old.scales.items
  pub strict : new.strict.items ≡ old.strict.items
  pub most_entry : old.most_entry ≤ new.most_entry
  pub most_side : old.most_side ≤ new.most_side
  pub most_scale : old.most_scale ≤ new.most_scale

-- there is nothing
pub record IsEmpty (l : WholeLists) : Type 0 where
  pub width : l.width ≡ 0
  pub entries : l.a.items ≡ []
  pub sides : l.b.items ≡ []
  pub scales : l.scales.items ≡ []
  pub strict : l.strict.items ≡ []
  pub most_side : l.most_side ≡ 1
  pub most_scale : l.most_scale ≡ 1

-- what is left of an attempt to put a row behind the others: all of it, or nothing
pub record IsSettled {E : Type 0} (old new : WholeLists) (row : Row) (result : Result Bool E) : Type 0 where
  pub lists : AreLists new
  pub width : new.width ≡ old.width
  pub ok : IfOk result (λ done. (system_of new).rows ≡ cond done ((system_of old).rows ++ row ∷ []) (system_of old).rows)
  pub err : OnErr result ((system_of new).rows ≡ (system_of old).rows)

-- z, or minus z
abbrev pub negated_where : Bool → ℤ → ℤ
negated_where true z = neg_ℤ z
negated_where false z = z
