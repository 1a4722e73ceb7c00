use Rattle.std.proofs.Common.{sym}
use Rattle.mpc_words.proofs.NumeralLemmas.{digits_of_numeral, no_numeral}
use Rattle.mpc_words.proofs.ReadLemmas.{natural_read, natural_printed}
use Rattle.mpc_words.specs.declared.naturals.Natural.TheVariants.{Misspelled}
use Rattle.mpc_words.proofs.naturals.read_natural.Goals as goal

pub small_value-requires : goal.small_value-requires
small_value-requires c = digits_of_numeral c.args.word.now (sym c.if-not-is_numeral.ensures)

pub returns-then-not-is_numeral-clause-spelled : goal.returns-then-not-is_numeral-clause-spelled
returns-then-not-is_numeral-clause-spelled c = no_numeral c.args.word.now (sym c.if-not-is_numeral.ensures)

pub returns-then-not-is_numeral-clause-printed : goal.returns-then-not-is_numeral-clause-printed
returns-then-not-is_numeral-clause-printed c = natural_printed c.args.word.now Misspelled (no_numeral c.args.word.now (sym c.if-not-is_numeral.ensures))

pub returns-clause-spelled : goal.returns-clause-spelled
returns-clause-spelled c =
    natural_read c.args.word.now c.small_value.result c.in_64_bits.result (sym c.if-not-is_numeral.ensures) c.small_value.ensures c.in_64_bits.ensures

pub returns-clause-printed : goal.returns-clause-printed
returns-clause-printed c =
    natural_printed c.args.word.now c.in_64_bits.result
    (natural_read c.args.word.now c.small_value.result c.in_64_bits.result (sym c.if-not-is_numeral.ensures) c.small_value.ensures c.in_64_bits.ensures)
