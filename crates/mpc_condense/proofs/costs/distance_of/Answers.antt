use Rattle.mpc_condense.proofs.Distances.{is_distance, distance_fits}
use Rattle.mpc_condense.proofs.costs.distance_of.Goals as goal

pub returns-clause-distance : goal.returns-clause-distance
returns-clause-distance c =
    is_distance c.args.plant.now c.args.step c.args.motion.now.x c.args.motion.now.z c.in_ok-from_counts.from_counts c.as_slice.result.now c.requires.motion c.in_ok-from_counts.ensures c.as_slice.ensures
    c.take_from_row.new.out c.in_ok-from_moves.from_moves c.in_ok-from_moves.ensures c.in_ok-take_from_row.ensures.ok

pub returns-clause-wide : goal.returns-clause-wide
returns-clause-wide c = distance_fits c.args.plant.now c.args.step c.args.motion.now.x c.args.motion.now.z c.in_ok-from_counts.from_counts c.as_slice.result.now c.requires.motion c.in_ok-from_counts.ensures c.as_slice.ensures c.in_ok-take_from_row.ensures.wide
