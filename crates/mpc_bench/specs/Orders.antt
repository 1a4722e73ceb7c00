-- What a C caller gets.
use Rattle.std.specs.Prelude.{ℤ, pos, negsuc}
use Rattle.std.specs.declared.cmp.Ordering.{Ordering}
use Rattle.std.specs.declared.cmp.Ordering.TheVariants.{Less, Equal, Greater}

-- -1, 0 or 1
abbrev pub code_of : Ordering → ℤ
code_of Less = negsuc 0
code_of Equal = pos 0
code_of Greater = pos 1
