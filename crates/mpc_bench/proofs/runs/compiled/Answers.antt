use Rattle.mpc_synthesis.specs.Refusals.{controller}
use Rattle.mpc_bench.proofs.Stopped.{refused}
use Rattle.mpc_bench.proofs.runs.compiled.Goals as goal

pub returns-in_err-registry-clause-stops : goal.returns-in_err-registry-clause-stops
returns-in_err-registry-clause-stops c = refused c.args.plant c.args.last c.in_err-registry.field-0.0 c.from_residual.result c.from_residual.ensures.1 (c.in_err-registry.ensures.refused controller)

pub controller_of-requires : goal.controller_of-requires
controller_of-requires c = (1, c.in_ok-registry.ensures.decided)
