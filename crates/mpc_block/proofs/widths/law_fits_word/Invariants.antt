use Rattle.std.proofs.Common.{◌≡◌, true, take}
use Rattle.std.specs.List.{list_all}
use Rattle.mpc_block.specs.Block.{spans_of, form_fits_word}
use Rattle.mpc_block.proofs.widths.law_fits_word.Given as goal

abbrev pub invariant-loop-i : goal.invariant-loop-i
invariant-loop-i l = list_all (form_fits_word (spans_of l.plant)) (take l.i l.law.moves.rows) ≡ true
