use Rattle.std.proofs.Common.{rules, FitsSigned, to_z, of_z, refl, sym, ◌∙◌}
use Rattle.std.specs.Int.{w64, w128}
use Rattle.std.proofs.lemmas.Int.{to_z-of_z}
use Rattle.mpc_block.specs.declared.lines.Width.TheVariants.{Short, Wide}
use Rattle.mpc_block.proofs.MoveLemmas.{exact, is_move}
use Rattle.mpc_block.proofs.replies.fraction_by.Goals as goal

pub returns-in-Short : goal.returns-in-Short
returns-in-Short c = λ parts of_set law input words s width_is numbered below there step num den.
    let line = c.args.line.now in
    let counts = c.args.counts.now in
    let is = sym c.in-Short.is ∙ width_is in
    let f : FitsSigned w64 c.cast_signed.result = search rules in
    let g : FitsSigned w64 c.short_sum-num.result = search rules in
    let h : FitsSigned w128 c.from.result = search rules in
    let f_den : FitsSigned w64 c.cast_signed-in-Short.result = search rules in
    let h_den : FitsSigned w128 c.from-in-Short.result = search rules in
    let sum = exact words counts parts s of_set law input numbered below Short is line there c.table_theorems.ensures.moves_each_input w64 refl (to_z w64 (of_z w64 c.cast_signed.result)) c.short_sum-num.result (to_z-of_z w64 c.cast_signed.result f ∙ c.cast_signed.ensures) c.short_sum-num.ensures in
    is_move words counts parts s of_set law input numbered below Short is line there c.table_theorems.ensures.least_forms step
    (num ∙ to_z-of_z w128 c.from.result h ∙ c.from.ensures ∙ to_z-of_z w64 c.short_sum-num.result g ∙ sum)
    (den ∙ to_z-of_z w128 c.from-in-Short.result h_den ∙ c.from-in-Short.ensures ∙ to_z-of_z w64 c.cast_signed-in-Short.result f_den ∙ c.cast_signed-in-Short.ensures)

pub returns-in-Wide : goal.returns-in-Wide
returns-in-Wide c = λ parts of_set law input words s width_is numbered below there step num den.
    let line = c.args.line.now in
    let counts = c.args.counts.now in
    let is = sym c.in-Wide.is ∙ width_is in
    let f : FitsSigned w128 c.number.result = search rules in
    let g : FitsSigned w128 c.wide_sum.result = search rules in
    let f_den : FitsSigned w128 c.number-in-Wide.result = search rules in
    let sum = exact words counts parts s of_set law input numbered below Wide is line there c.table_theorems.ensures.moves_each_input w128 refl (to_z w128 (of_z w128 c.number.result)) c.wide_sum.result (to_z-of_z w128 c.number.result f ∙ c.number.ensures) c.wide_sum.ensures in
    is_move words counts parts s of_set law input numbered below Wide is line there c.table_theorems.ensures.least_forms step (num ∙ to_z-of_z w128 c.wide_sum.result g ∙ sum)
    (den ∙ to_z-of_z w128 c.number-in-Wide.result f_den ∙ c.number-in-Wide.ensures)
