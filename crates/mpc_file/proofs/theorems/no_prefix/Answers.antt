use Rattle.mpc_file.proofs.Exactness.{CutTheorems}
use Rattle.mpc_file.proofs.FileExact.{no_prefix}
use Rattle.mpc_file.proofs.theorems.no_prefix.Goals as goal

pub returns : goal.returns
returns c =
    let cuts : CutTheorems = record { one_before = c.cut_theorems.ensures.one_before; one_behind = c.cut_theorems.ensures.one_behind; no_cut = c.cut_theorems.ensures.no_cut } in
    no_prefix cuts c.word_theorems.ensures
