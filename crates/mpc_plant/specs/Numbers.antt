-- The integers of a plant file.
use Rattle.std.specs.Prelude.{ℤ, Option, Some, None, option_and_then, unsigned_abs, nat_le, if◌then◌else◌}
use Rattle.serde_json.specs.Data.{Data}
use Rattle.serde_json.specs.Find.{as_number, as_i64}

-- an integer of at most 18 digits
abbrev pub short_integer : ℤ → Option ℤ
short_integer z = if nat_le (unsigned_abs z) 999999999999999999 then Some z else None

-- the integer that a JSON value is, if it is one of at most 18 digits
abbrev pub integer_of : Data → Option ℤ
integer_of d = option_and_then short_integer (option_and_then as_i64 (as_number d))
