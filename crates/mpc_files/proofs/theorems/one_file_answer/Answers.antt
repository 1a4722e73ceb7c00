use Rattle.mpc_files.proofs.OutcomeLemmas.{ReadingTheorems, one_reading, one_outcome}
use Rattle.mpc_files.proofs.theorems.one_file_answer.Goals as goal

pub returns : goal.returns
returns c =
    let laws : ReadingTheorems = record {
      one_controller = c.one_reading.ensures.one_controller;
      never_fails = c.one_reading.ensures.spelled_never_fails;
      one_line = c.one_reading.ensures.one_line;
      one_reason = c.one_reading.ensures.one_reason;
    } in
    record { reading = one_reading laws; outcome = one_outcome laws c.one_finding.ensures.accepted c.one_finding.ensures.one }
