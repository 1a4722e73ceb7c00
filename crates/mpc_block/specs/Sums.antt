-- Rows that keep within their words.
use Rattle.std.specs.Prelude.{ℕ, ◌+◌, ◌^◌, ◌<◌, unsigned_abs, List}
use Rattle.mpc_controller.specs.Bounds.{reach}
use Rattle.mpc_block.specs.declared.lines.Width.{Width}
use Rattle.mpc_block.specs.declared.lines.Width.TheVariants.{Short, Wide}
use Rattle.mpc_block.specs.Words.{number_at, entries}

-- the numbers of so many words lie below this one, and above its negative
abbrev pub greatest : Width → ℕ
greatest Short = 2 ^ 63
greatest Wide = 2 ^ 127

-- the row of a line keeps within its words at counts up to these
abbrev pub KeepsWithin : Width → List ℕ → List ℕ → Type 0
KeepsWithin width line counts = unsigned_abs (number_at width line 1) + reach (entries width line) counts < greatest width
