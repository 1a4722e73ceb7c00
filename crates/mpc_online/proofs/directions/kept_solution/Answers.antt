use Rattle.mpc_online.proofs.KeptSteps.{step_places, kept_only, kept_fits, kept_independent, kept_wide}
use Rattle.mpc_online.proofs.directions.kept_solution.Goals as goal

pub solve_part-requires-clause-places : goal.solve_part-requires-clause-places
solve_part-requires-clause-places c =
    step_places c.law_theorems.ensures c.args.qp.now c.args.set c.requires.set_of_rows c.args.row c.requires.from_one c.requires.to_last c.args.kept.now c.requires.kept c.rows-unknowns.result c.rows.result c.rows-unknowns.ensures.value c.rows.ensures.value c.in_ok-places.places.items c.deref.result.now c.in_ok-places.ensures c.deref.ensures.value

pub returns-in-Ok-Some-Unique-clause-only : goal.returns-in-Ok-Some-Unique-clause-only
returns-in-Ok-Some-Unique-clause-only c =
    kept_only c.law_theorems.ensures c.args.qp.now c.args.set c.requires.set_of_rows c.args.row c.requires.from_one c.requires.to_last c.args.kept.now c.requires.kept c.rows-unknowns.result c.rows.result c.rows-unknowns.ensures.value c.rows.ensures.value c.in_ok-places.places.items c.deref.result.now c.in_ok-places.ensures c.deref.ensures.value
    c.in-Ok-Some-Unique.field-0 c.in-Ok-Some-Unique.field-0-0 c.in-Ok-Some-Unique.x c.in-Ok-Some-Unique.field-0-is c.in-Ok-Some-Unique.field-0-0-is c.in-Ok-Some-Unique.ensures.answer

pub returns-in-Ok-Some-Unique-clause-wide : goal.returns-in-Ok-Some-Unique-clause-wide
returns-in-Ok-Some-Unique-clause-wide c =
    kept_fits c.law_theorems.ensures c.args.qp.now c.args.set c.requires.set_of_rows c.args.row c.requires.from_one c.requires.to_last c.args.kept.now c.requires.kept c.rows-unknowns.result c.rows.result c.rows-unknowns.ensures.value c.rows.ensures.value c.in_ok-places.places.items c.deref.result.now c.in_ok-places.ensures c.deref.ensures.value
    c.in-Ok-Some-Unique.field-0 c.in-Ok-Some-Unique.field-0-0 c.in-Ok-Some-Unique.field-0-is c.in-Ok-Some-Unique.ensures.fits

pub unreachable-requires : goal.unreachable-requires
unreachable-requires c =
    kept_independent c.law_theorems.ensures c.args.qp.now c.args.set c.requires.set_of_rows c.args.row c.requires.from_one c.requires.to_last c.args.kept.now c.requires.kept c.rows-unknowns.result c.rows.result c.rows-unknowns.ensures.value c.rows.ensures.value c.in_ok-places.places.items c.deref.result.now c.in_ok-places.ensures c.deref.ensures.value
    c.in-Ok-Some-Dependent.field-0 c.in-Ok-Some-Dependent.field-0-0 c.in-Ok-Some-Dependent.field-0-0-0 c.in-Ok-Some-Dependent.field-0-is c.in-Ok-Some-Dependent.field-0-0-is
    c.requires.definite c.requires.independent c.in-Ok-Some-Dependent.ensures.answer

pub returns-in-Err-Wide-clause-wide : goal.returns-in-Err-Wide-clause-wide
returns-in-Err-Wide-clause-wide c =
    kept_wide c.law_theorems.ensures c.args.qp.now c.args.set c.requires.set_of_rows c.args.row c.requires.from_one c.requires.to_last c.args.kept.now c.requires.kept c.rows-unknowns.result c.rows.result c.rows-unknowns.ensures.value c.rows.ensures.value c.in_ok-places.places.items c.deref.result.now c.in_ok-places.ensures c.deref.ensures.value
    c.in-Err-Wide.field-0 c.in-Err-Wide.field-0-0 c.in-Err-Wide.field-0-is c.in-Err-Wide.ensures.wide
