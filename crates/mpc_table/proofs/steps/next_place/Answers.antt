use Rattle.std.proofs.Common.{◌≡◌, Some}
use Rattle.std.specs.Prelude.{slice_get}
use Rattle.mpc_table.specs.declared.steps.Step.TheVariants.{Branch}
use Rattle.mpc_table.specs.Steps.{branch}
use Rattle.mpc_table.specs.SharedSteps.{actions_at}
use Rattle.mpc_table.proofs.WalkLemmas.{to_yes_side, to_no_side}
use Rattle.mpc_table.proofs.SharedLemmas.{row_named, branch_read, shared_last}
use Rattle.mpc_table.proofs.steps.next_place.Goals as goal

pub bounds-rows-row : goal.bounds-rows-row
bounds-rows-row c = row_named c.args.rows.now c.args.steps.now c.args.place (Branch 0) c.requires.inside c.in-Branch.row c.requires.named c.in-Branch.is

pub satisfies-requires-clause-sizes : goal.satisfies-requires-clause-sizes
satisfies-requires-clause-sizes c =
    (c.requires.safe.branches c.args.place c.index-rows-row.result (branch_read c.args.rows.now c.args.steps.now c.args.place (Branch 0) c.requires.inside c.in-Branch.row c.index-rows-row.result c.requires.named c.in-Branch.is c.index-rows-row.is)).size

pub satisfies-requires-clause-within : goal.satisfies-requires-clause-within
satisfies-requires-clause-within c =
    (c.requires.safe.branches c.args.place c.index-rows-row.result (branch_read c.args.rows.now c.args.steps.now c.args.place (Branch 0) c.requires.inside c.in-Branch.row c.index-rows-row.result c.requires.named c.in-Branch.is c.index-rows-row.is)).fits

pub returns-then-satisfies : goal.returns-then-satisfies
returns-then-satisfies c =
    let at : slice_get (actions_at c.args.rows.now c.args.steps.now) c.args.place ≡ Some (branch c.index-rows-row.result) = branch_read c.args.rows.now c.args.steps.now c.args.place (Branch 0) c.requires.inside c.in-Branch.row c.index-rows-row.result c.requires.named c.in-Branch.is c.index-rows-row.is in
    to_yes_side (actions_at c.args.rows.now c.args.steps.now) c.args.sides.now c.args.counts.now c.args.place c.index-rows-row.result at (c.requires.safe.branches c.args.place c.index-rows-row.result at) (c.satisfies.ensures.0 c.if-satisfies.true)

pub returns-else-satisfies : goal.returns-else-satisfies
returns-else-satisfies c =
    let at : slice_get (actions_at c.args.rows.now c.args.steps.now) c.args.place ≡ Some (branch c.index-rows-row.result) = branch_read c.args.rows.now c.args.steps.now c.args.place (Branch 0) c.requires.inside c.in-Branch.row c.index-rows-row.result c.requires.named c.in-Branch.is c.index-rows-row.is in
    to_no_side (actions_at c.args.rows.now c.args.steps.now) c.args.sides.now c.args.counts.now c.args.place c.index-rows-row.result at (c.requires.safe.branches c.args.place c.index-rows-row.result at) (λ h. let yes = c.satisfies.ensures.1 h in absurd cc)

pub returns-in_default : goal.returns-in_default
returns-in_default c = shared_last c.args.rows.now c.args.steps.now c.args.place (Branch 0) c.requires.inside c.in_default.not-Branch
