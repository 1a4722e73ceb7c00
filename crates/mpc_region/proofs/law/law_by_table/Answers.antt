use Rattle.mpc_region.proofs.SharedLaws.{places_at, rights_at}
use Rattle.mpc_region.proofs.law.law_by_table.Goals as goal

pub part_solved-requires-clause-places : goal.part_solved-requires-clause-places
part_solved-requires-clause-places c = places_at c.args.qp.now c.args.set c.in_ok-places.places.items c.deref.result.now c.rows-unknowns.result c.rows-unknowns.ensures.value c.in_ok-places.ensures c.deref.ensures.value

pub part_solved-requires-clause-sides : goal.part_solved-requires-clause-sides
part_solved-requires-clause-sides c =
    rights_at c.args.qp.now c.in_ok-sides.sides.items c.deref-2.result.now c.rows-unknowns.result c.rows.result c.cols.result c.rows-unknowns.ensures.value c.rows.ensures.value c.cols.ensures.value c.in_ok-sides.ensures c.deref-2.ensures.value
