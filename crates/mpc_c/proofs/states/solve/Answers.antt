use Rattle.std.proofs.Common.{inl, inr}
use Rattle.mpc_c.proofs.states.solve.Goals as goal

pub returns-then-counts-plant-clause-says : goal.returns-then-counts-plant-clause-says
returns-then-counts-plant-clause-says c = record { plant = c.in-Ok.plant; read = c.in-Ok.ensures.ok; so = inl c.if-counts-plant.true }

pub returns-then-moves-plant-clause-says : goal.returns-then-moves-plant-clause-says
returns-then-moves-plant-clause-says c = record { plant = c.in-Ok.plant; read = c.in-Ok.ensures.ok; so = inr c.if-moves-plant.true }
