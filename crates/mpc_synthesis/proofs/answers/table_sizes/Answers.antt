use Rattle.mpc_synthesis.proofs.TableSizes.{laws_of_forty, laws_of_four, laws_of_plant}
use Rattle.mpc_synthesis.proofs.answers.table_sizes.Goals as goal

pub returns : goal.returns
returns c =
    let counts = c.count_theorems.ensures in
    let order = c.order_theorems.ensures in
    record { of_forty_rows = laws_of_forty counts order; of_four_unknowns = laws_of_four counts order; of_plant = laws_of_plant counts order }
