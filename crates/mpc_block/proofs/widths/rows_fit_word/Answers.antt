use Rattle.std.proofs.Common.{◌≡◌, take, true, false, Some, sym, ◌∙◌, ap, subst}
use Rattle.std.specs.Prelude.{slice_get}
use Rattle.mpc_block.specs.Block.{spans_of, row_fits_word}
use Rattle.mpc_block.proofs.WidthLemmas.{not_all, all_more}
use Rattle.mpc_block.proofs.widths.rows_fit_word.Goals as goal

pub returns-then-not-row_fits_word : goal.returns-then-not-row_fits_word
returns-then-not-row_fits_word c =
    let parts = c.args.controller.now in
    let node = c.at.result.now in
    let at : slice_get parts.tree c.loop-k.k ≡ Some node = subst (λ t. slice_get t c.loop-k.k ≡ Some node) c.tree-tree.ensures.value c.at.ensures in
    let same : take c.plant-plant.result.now.n c.spans-spans.result ≡ spans_of parts.plant = c.spans-spans.ensures ∙ ap spans_of c.plant-plant.ensures.value in
    let here : row_fits_word (spans_of parts.plant) node ≡ false = ap (λ s. row_fits_word s node) (sym same) ∙ sym c.row_fits_word.ensures ∙ c.if-not-row_fits_word.true in
    sym (not_all (row_fits_word (spans_of parts.plant)) parts.tree c.loop-k.k node at here)

pub loop-k-preserved : goal.loop-k-preserved
loop-k-preserved c =
    let parts = c.args.controller.now in
    let node = c.at.result.now in
    let at : slice_get parts.tree c.loop-k.k ≡ Some node = subst (λ t. slice_get t c.loop-k.k ≡ Some node) c.tree-tree.ensures.value c.at.ensures in
    let same : take c.plant-plant.result.now.n c.spans-spans.result ≡ spans_of parts.plant = c.spans-spans.ensures ∙ ap spans_of c.plant-plant.ensures.value in
    let here : row_fits_word (spans_of parts.plant) node ≡ true = ap (λ s. row_fits_word s node) (sym same) ∙ sym c.row_fits_word.ensures ∙ c.if-not-row_fits_word.false in
    all_more (row_fits_word (spans_of parts.plant)) parts.tree c.loop-k.k node at c.loop-k.invariant here
