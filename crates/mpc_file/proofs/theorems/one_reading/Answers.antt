use Rattle.mpc_file.proofs.Exactness.{CutTheorems}
use Rattle.mpc_file.proofs.FileExact.{one_version, one_controller, spelled_never_fails, one_line_fails, one_reason}
use Rattle.mpc_file.proofs.theorems.one_reading.Goals as goal

pub returns : goal.returns
returns c =
    let cuts : CutTheorems = record { one_before = c.cut_theorems.ensures.one_before; one_behind = c.cut_theorems.ensures.one_behind; no_cut = c.cut_theorems.ensures.no_cut } in
    record {
      one_version = one_version cuts c.word_theorems.ensures;
      one_controller = one_controller cuts c.word_theorems.ensures;
      spelled_never_fails = spelled_never_fails cuts c.word_theorems.ensures;
      one_line = one_line_fails cuts c.word_theorems.ensures;
      one_reason = one_reason cuts c.word_theorems.ensures;
    }
