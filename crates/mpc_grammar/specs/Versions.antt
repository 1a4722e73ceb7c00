-- The three versions of a controller's text, and what differs between them: how many rows a plant may have, which offsets are told, and
-- whether forms and planes are named by their numbers.
use Rattle.std.specs.Prelude.{ℕ}
use Rattle.mpc_plant.specs.Limits.{row_limit}
use Rattle.mpc_grammar.specs.declared.versions.Version.{Version}
use Rattle.mpc_grammar.specs.declared.versions.Version.TheVariants.{One, Two, Three}

abbrev pub number_of : Version → ℕ
number_of One = 1
number_of Two = 2
number_of Three = 3

-- the most rows of a program of so many unknowns
abbrev pub greatest_rows : Version → ℕ → ℕ
greatest_rows Three unknowns = row_limit unknowns
greatest_rows other unknowns = 40
