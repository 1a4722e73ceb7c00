use Rattle.mpc_words.proofs.FractionLemmas.{fraction_whole, fraction_ratio}
use Rattle.mpc_words.proofs.fractions.read_fraction.Goals as goal

pub returns-in-Some : goal.returns-in-Some
returns-in-Some c = fraction_ratio c.args.word.now c.in-Some.above.now c.in-Some.below.now c.in-Some.ensures.cut c.read_ratio.result c.read_ratio.ensures

pub returns-in-None : goal.returns-in-None
returns-in-None c = fraction_whole c.args.word.now c.in-None.ensures.cut c.read_whole.result c.read_whole.ensures
