use Rattle.std.proofs.Common.{rules, FitsSigned, ◌∙◌}
use Rattle.std.specs.Int.{w128}
use Rattle.std.proofs.lemmas.Int.{to_z-of_z}
use Rattle.mpc_block.proofs.replies.move_by.Goals as goal

pub returns : goal.returns
returns c = λ parts of_set law input words s width_is numbered below there.
    let f : FitsSigned w128 c.fraction_by-num.result.0 = search rules in
    let g : FitsSigned w128 c.fraction_by-num.result.1 = search rules in
    c.fraction_by-num.ensures parts of_set law input words s width_is numbered below there _ (c.words_of-num_low.ensures ∙ to_z-of_z w128 c.fraction_by-num.result.0 f) (c.words_of-den_low.ensures ∙ to_z-of_z w128 c.fraction_by-num.result.1 g)
