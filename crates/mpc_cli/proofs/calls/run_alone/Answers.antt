use Rattle.mpc_cli.proofs.RunLemmas.{closed}
use Rattle.mpc_cli.proofs.StatedLemmas.{closed_stated}
use Rattle.mpc_cli.proofs.calls.run_alone.Goals as goal

pub returns-clause-answers : goal.returns-clause-answers
returns-clause-answers g c =
    closed c.one_status.ensures.one c.one_status.ensures.passing _ _ c.words_answer-outcome.result c.close.result c.words_answer-outcome.ensures.some c.words_answer-outcome.ensures.halt c.close.ensures

pub returns-clause-stated : goal.returns-clause-stated
returns-clause-stated g c = closed_stated _ _ _ _ _ _ _ c.words_answer-outcome.result c.close.result c.words_answer-outcome.ensures.some c.close.ensures
