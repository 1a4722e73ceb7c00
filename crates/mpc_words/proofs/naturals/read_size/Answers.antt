use Rattle.std.proofs.Common.{◌^◌, sym}
use Rattle.mpc_words.proofs.NumeralLemmas.{digits_of_numeral}
use Rattle.mpc_words.proofs.ReadLemmas.{size_read, no_size}
use Rattle.mpc_words.proofs.naturals.read_size.Goals as goal

pub returns-then-not-is_numeral : goal.returns-then-not-is_numeral
returns-then-not-is_numeral c = no_size (2 ^ 127) c.args.word.now (sym c.if-not-is_numeral.ensures)

pub small_value-requires : goal.small_value-requires
small_value-requires c = digits_of_numeral c.args.word.now (sym c.if-not-is_numeral.ensures)

pub returns : goal.returns
returns c = size_read (2 ^ 127) c.args.word.now c.small_value.result (sym c.if-not-is_numeral.ensures) c.small_value.ensures
