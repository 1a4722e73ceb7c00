use Rattle.std.proofs.Common.{◌≡◌, sym, subst}
use Rattle.std.proofs.lemmas.Result.{IfOk-weaker}
use Rattle.mpc_synthesis.specs.Crews.{HasEnded}
use Rattle.mpc_synthesis.proofs.CrewLemmas.{ended_alone}
use Rattle.mpc_synthesis.proofs.verdicts.decide_alone.Goals as goal

pub all_decided-requires : goal.all_decided-requires
all_decided-requires g c = (1, c.args.program.now, ended_alone c.args.program.now c.in-Ok.registry c.in-Ok.ensures)

pub returns-clause-done : goal.returns-clause-done
returns-clause-done g c =
    IfOk-weaker c.all_decided.result (λ r. r ≡ c.in-Ok.registry) (HasEnded 1 c.args.program.now)
    (λ r e. subst (HasEnded 1 c.args.program.now) (sym e) (ended_alone c.args.program.now c.in-Ok.registry c.in-Ok.ensures))
    c.all_decided.ensures.same
