use Rattle.mpc_theorem.proofs.NumberWords.{one_fractions, one_integers}
use Rattle.mpc_theorem.proofs.FileLines.{spelled_is_file, file_is_spelled}
use Rattle.mpc_theorem.proofs.controller_files.controller_file.Goals as goal

pub returns-clause-file : goal.returns-clause-file
returns-clause-file c =
    spelled_is_file (one_fractions c.line_theorems.ensures.one_list c.fraction_theorems.ensures.word c.fraction_theorems.ensures.one_number)
    (one_integers c.line_theorems.ensures.one_list c.integer_theorems.ensures.word c.integer_theorems.ensures.one_number) c.each_text.ensures.no_other

pub returns-clause-spelled : goal.returns-clause-spelled
returns-clause-spelled c =
    file_is_spelled (one_fractions c.line_theorems.ensures.one_list c.fraction_theorems.ensures.word c.fraction_theorems.ensures.one_number)
    (one_integers c.line_theorems.ensures.one_list c.integer_theorems.ensures.word c.integer_theorems.ensures.one_number) c.each_text.ensures.each
