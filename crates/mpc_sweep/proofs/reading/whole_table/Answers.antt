use Rattle.std.proofs.Common.{◌^◌, refl, sym, subst}
use Rattle.mpc_space.specs.Matrix.{height}
use Rattle.mpc_scaled.specs.Scaled.{IsSmall}
use Rattle.mpc_sweep.specs.Reading.{HasNumbers}
use Rattle.mpc_sweep.proofs.FirstTable.{if_some_at, first_swept, numbers_small}
use Rattle.mpc_sweep.proofs.reading.whole_table.Goals as goal
use Rattle.mpc_sweep.proofs.reading.whole_table.Goals.{After-deref}

numbers : (c : After-deref) → HasNumbers c.args.table.now (height c.args.table.now) c.in-Some.scale c.in-Some-2.numbers.items
numbers c = if_some_at c.in_ok-numbers.field-0 _ c.in-Some-2.numbers c.in_ok-numbers.ensures c.in-Some-2.is

pub bound_of-most-requires-clause-small : goal.bound_of-most-requires-clause-small
bound_of-most-requires-clause-small c =
    let d = (goal.at.bound_of-most-requires-clause-small c).After-deref in
    subst (IsSmall (2 ^ 62)) (sym c.deref.ensures.value) (numbers_small c.args.table.now (height c.args.table.now) c.in-Some.scale c.in-Some-2.numbers.items (numbers d))

pub returns : goal.returns
returns c =
    let d = (goal.at.returns c).After-deref in
    first_swept c.args.table.now c.in-Some.scale c.in-Some.ensures.some c.in-Some.ensures.small _ c.rows.ensures.value c.cols.ensures.value refl refl (numbers d)
    c.bound_of-most.ensures.small c.bound_of-most.ensures.den (subst (IsSmall c.bound_of-most.result) c.deref.ensures.value c.bound_of-most.ensures.numbers)
