use Rattle.mpc_region.proofs.SharedLaws.{law_places, shared_solution, shared_found, shared_dependent, shared_wide}
use Rattle.mpc_region.proofs.law.part_solved.Goals as goal

pub solve_part-requires-clause-places : goal.solve_part-requires-clause-places
solve_part-requires-clause-places c =
    law_places c.args.qp.now c.args.set c.requires.set_of_rows c.args.table.now c.requires.table c.args.places.now c.args.sides.now c.requires.places c.requires.sides

pub law_from-requires-clause-solution : goal.law_from-requires-clause-solution
law_from-requires-clause-solution c =
    shared_solution c.args.qp.now c.args.set c.requires.set_of_rows c.args.table.now c.requires.table c.args.places.now c.args.sides.now c.requires.places c.requires.sides
    c.in-Ok-Some-Unique.field-0 c.in-Ok-Some-Unique.field-0-0 c.in-Ok-Some-Unique.solution c.in-Ok-Some-Unique.field-0-is c.in-Ok-Some-Unique.field-0-0-is c.in-Ok-Some-Unique.ensures.answer

pub returns-in_ok-law_from-in-Ok-Some-Unique : goal.returns-in_ok-law_from-in-Ok-Some-Unique
returns-in_ok-law_from-in-Ok-Some-Unique c =
    shared_found c.args.qp.now c.args.set c.requires.set_of_rows c.args.table.now c.requires.table c.args.places.now c.args.sides.now c.requires.places c.requires.sides
    c.in-Ok-Some-Unique.field-0 c.in-Ok-Some-Unique.field-0-0 c.in-Ok-Some-Unique.solution c.in_ok-law_from-in-Ok-Some-Unique.field-0 c.in-Ok-Some-Unique.field-0-is c.in-Ok-Some-Unique.field-0-0-is c.in-Ok-Some-Unique.ensures.answer c.in-Ok-Some-Unique.ensures.fits c.in_ok-law_from-in-Ok-Some-Unique.ensures.set c.in_ok-law_from-in-Ok-Some-Unique.ensures.law

pub returns-in-Ok-Some-Dependent : goal.returns-in-Ok-Some-Dependent
returns-in-Ok-Some-Dependent c =
    shared_dependent c.args.qp.now c.args.set c.requires.set_of_rows c.args.table.now c.requires.table c.args.places.now c.args.sides.now c.requires.places c.requires.sides
    c.in-Ok-Some-Dependent.field-0 c.in-Ok-Some-Dependent.field-0-0 c.in-Ok-Some-Dependent.field-0-0-0 c.in-Ok-Some-Dependent.field-0-is c.in-Ok-Some-Dependent.field-0-0-is c.requires.definite c.in-Ok-Some-Dependent.ensures.answer c.in-Ok-Some-Dependent.ensures.fits

pub returns-in-Err-Wide : goal.returns-in-Err-Wide
returns-in-Err-Wide c =
    shared_wide c.args.qp.now c.args.set c.requires.set_of_rows c.args.table.now c.requires.table c.args.places.now c.args.sides.now c.requires.places c.requires.sides
    c.in-Err-Wide.field-0 c.in-Err-Wide.field-0-0 c.in-Err-Wide.field-0-is c.in-Err-Wide.ensures.wide
