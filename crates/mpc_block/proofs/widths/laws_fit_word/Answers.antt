use Rattle.std.proofs.Common.{◌≡◌, true, false, Some, sym, ◌∙◌, ap, subst}
use Rattle.std.specs.Prelude.{slice_get}
use Rattle.mpc_block.specs.Block.{law_fits_word}
use Rattle.mpc_block.proofs.WidthLemmas.{not_all, all_more}
use Rattle.mpc_block.proofs.widths.laws_fit_word.Goals as goal

pub returns-then-not-law_fits_word : goal.returns-then-not-law_fits_word
returns-then-not-law_fits_word c =
    let parts = c.args.controller.now in
    let law = c.at.result.now in
    let at : slice_get parts.laws c.loop-j.j ≡ Some law = subst (λ l. slice_get l c.loop-j.j ≡ Some law) c.laws-laws.ensures.value c.at.ensures in
    let here : law_fits_word parts.plant law ≡ false = ap (λ p. law_fits_word p law) (sym c.plant-plant.ensures.value) ∙ sym c.law_fits_word.ensures ∙ c.if-not-law_fits_word.true in
    sym (not_all (law_fits_word parts.plant) parts.laws c.loop-j.j law at here)

pub loop-j-preserved : goal.loop-j-preserved
loop-j-preserved c =
    let parts = c.args.controller.now in
    let law = c.at.result.now in
    let at : slice_get parts.laws c.loop-j.j ≡ Some law = subst (λ l. slice_get l c.loop-j.j ≡ Some law) c.laws-laws.ensures.value c.at.ensures in
    let here : law_fits_word parts.plant law ≡ true = ap (λ p. law_fits_word p law) (sym c.plant-plant.ensures.value) ∙ sym c.law_fits_word.ensures ∙ c.if-not-law_fits_word.false in
    all_more (law_fits_word parts.plant) parts.laws c.loop-j.j law at c.loop-j.invariant here
