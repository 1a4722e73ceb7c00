use Rattle.mpc_files.proofs.SafetyOutcomeLemmas.{one_outcome, answered, caused}
use Rattle.mpc_files.proofs.theorems.one_safety_answer.Goals as goal

pub returns-clause-one : goal.returns-clause-one
returns-clause-one c =
    one_outcome
    (record {
      one_controller = c.one_reading.ensures.one_controller;
      never_fails = c.one_reading.ensures.spelled_never_fails;
      one_line = c.one_reading.ensures.one_line;
      one_reason = c.one_reading.ensures.one_reason;
      nothing = c.one_finding.ensures.accepted;
      one_finding = c.one_finding.ensures.one;
      one_step = c.one_outcome.ensures;
    })

pub returns-clause-answered : goal.returns-clause-answered
returns-clause-answered c = answered

pub returns-clause-caused : goal.returns-clause-caused
returns-clause-caused c = caused
