use Rattle.std.proofs.Common.{◌≡◌, true, take}
use Rattle.std.specs.List.{list_all}
use Rattle.mpc_block.specs.Block.{spans_of, row_fits_word}
use Rattle.mpc_block.proofs.widths.rows_fit_word.Given as goal

abbrev pub invariant-loop-k : goal.invariant-loop-k
invariant-loop-k l = list_all (row_fits_word (spans_of l.controller.plant)) (take l.k l.controller.tree) ≡ true
