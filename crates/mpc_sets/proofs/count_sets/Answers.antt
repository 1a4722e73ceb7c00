use Rattle.std.proofs.Common.{arith}
use Rattle.mpc_sets.proofs.Counting.{length-sets-of_forty, length-sets-of_four, length-sets-of_sixty}
use Rattle.mpc_sets.proofs.count_sets.Goals as goal

pub overflow_cast-result : goal.overflow_cast-result
overflow_cast-result c = let few = length-sets-of_sixty c.args.sets.now c.requires.different c.requires.sets_of_rows c.requires.at_most_six in omega arith

pub returns-clause-few : goal.returns-clause-few
returns-clause-few c = let few = length-sets-of_sixty c.args.sets.now c.requires.different c.requires.sets_of_rows c.requires.at_most_six in omega arith

pub returns-clause-of_forty_rows : goal.returns-clause-of_forty_rows
returns-clause-of_forty_rows c = λ forty. length-sets-of_forty c.args.sets.now c.requires.different forty c.requires.at_most_six

pub returns-clause-of_four_members : goal.returns-clause-of_four_members
returns-clause-of_four_members c = λ four. length-sets-of_four c.args.sets.now c.requires.different c.requires.sets_of_rows four
