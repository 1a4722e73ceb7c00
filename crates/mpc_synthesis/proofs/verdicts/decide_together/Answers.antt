use Rattle.std.proofs.Common.{◌≡◌, sym, subst}
use Rattle.std.proofs.lemmas.Result.{IfOk-weaker}
use Rattle.mpc_synthesis.specs.Crews.{HasEnded}
use Rattle.mpc_synthesis.proofs.CrewLemmas.{ended_together}
use Rattle.mpc_synthesis.proofs.verdicts.decide_together.Goals as goal

pub all_decided-requires : goal.all_decided-requires
all_decided-requires g c = (c.args.workers, c.args.program.now, ended_together c.args.workers c.args.program.now c.in-Ok.registry c.requires.from_two c.in-Ok.ensures.done)

pub returns-in-Ok-clause-done : goal.returns-in-Ok-clause-done
returns-in-Ok-clause-done g c =
    IfOk-weaker c.all_decided.result (λ r. r ≡ c.in-Ok.registry) (HasEnded c.args.workers c.args.program.now)
    (λ r e. subst (HasEnded c.args.workers c.args.program.now) (sym e) (ended_together c.args.workers c.args.program.now c.in-Ok.registry c.requires.from_two c.in-Ok.ensures.done))
    c.all_decided.ensures.same
