use Rattle.std.proofs.Common.{length, inl, inr}
use Rattle.mpc_bench.proofs.Stopped.{ended}
use Rattle.mpc_bench.proofs.runs.answer_to.Goals as goal

pub returns-then-counts-plant-clause-stops : goal.returns-then-counts-plant-clause-stops
returns-then-counts-plant-clause-stops c = record { plant = c.in-Ok.plant; read = c.in-Ok.ensures.ok; holds = inl c.if-counts-plant.true }

pub returns-then-moves-plant-clause-stops : goal.returns-then-moves-plant-clause-stops
returns-then-moves-plant-clause-stops c = record { plant = c.in-Ok.plant; read = c.in-Ok.ensures.ok; holds = inr c.if-moves-plant.true }

pub returns-in-Err-clause-stops : goal.returns-in-Err-clause-stops
returns-in-Err-clause-stops c =
    ended c.args.file.now (length c.args.counts.now) (length c.args.moves.now) c.in-Ok.plant c.args.last c.in-Err.stop c.in-Ok.ensures.ok c.in-Err.ensures.stops

pub returns-clause-answered : goal.returns-clause-answered
returns-clause-answered c = record { plant = c.in-Ok.plant; read = c.in-Ok.ensures.ok; holds = c.in-Ok-reply_of.ensures.answered }
