use Rattle.std.specs.Int.{w128}
use Rattle.std.proofs.lemmas.Int.{to_z_pos}
use Rattle.mpc_words.proofs.IntegerLemmas.{as_cast}
use Rattle.mpc_words.proofs.FractionLemmas.{no_ratio_of_one, ratio_found}
use Rattle.mpc_words.proofs.fractions.read_ratio.Goals as goal

pub returns-then-den-eq1 : goal.returns-then-den-eq1
returns-then-den-eq1 c =
    no_ratio_of_one c.args.above.now c.args.below.now c.in_ok-num.num c.in_ok-den.den c.in_ok-num.num c.in_ok-num.ensures c.in_ok-den.ensures c.if-den-eq1.true

pub returns : goal.returns
returns c =
    ratio_found c.args.above.now c.args.below.now _ c.in_ok-den.den _ (as_cast c.args.above.now c.in_ok-num.num c.in_ok-num.ensures) c.in_ok-den.ensures
    (to_z_pos w128 c.in_ok-den.den c.in_ok-den.ensures.below) c.if-den-eq1.false c.lowest.result c.lowest.ensures
