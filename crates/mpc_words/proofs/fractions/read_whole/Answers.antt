use Rattle.std.proofs.Common.{refl}
use Rattle.mpc_words.proofs.IntegerLemmas.{as_cast}
use Rattle.mpc_words.proofs.FractionLemmas.{whole_found}
use Rattle.mpc_words.proofs.fractions.read_whole.Goals as goal

pub returns : goal.returns
returns c = whole_found c.args.word.now _ _ (as_cast c.args.word.now c.in_ok-num.num c.in_ok-num.ensures) refl c.whole.result c.whole.ensures
