use Rattle.mpc_online.proofs.directions.indexed_place.Goals as goal

pub returns-clause-prepared : goal.returns-clause-prepared
returns-clause-prepared c = record { rows = c.requires.prepared.rows; sides = c.requires.prepared.sides; costs = c.requires.prepared.costs; even = c.requires.prepared.even; kept = c.requires.prepared.kept; opening = c.requires.prepared.opening; directions = c.keep_direction.ensures.kept c.args.qp.now c.requires.prepared.directions c.in_ok-found.ensures.direction }
