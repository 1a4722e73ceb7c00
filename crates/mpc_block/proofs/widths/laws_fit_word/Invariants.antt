use Rattle.std.proofs.Common.{◌≡◌, true, take}
use Rattle.std.specs.List.{list_all}
use Rattle.mpc_block.specs.Block.{law_fits_word}
use Rattle.mpc_block.proofs.widths.laws_fit_word.Given as goal

abbrev pub invariant-loop-j : goal.invariant-loop-j
invariant-loop-j l = list_all (law_fits_word l.controller.plant) (take l.j l.controller.laws) ≡ true
