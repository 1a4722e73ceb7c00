use Rattle.std.proofs.Common.{◌≡◌, ℕ, ◌+◌, ◌<◌, List, length, Some, sym, ◌∙◌, ap, subst, arith}
use Rattle.std.specs.Prelude.{slice_get}
use Rattle.mpc_rows.specs.declared.laws.Law.{Law as LawOfSet}
use Rattle.mpc_controller.specs.Parts.{Parts}
use Rattle.mpc_controller.specs.Bounds.{IsController}
use Rattle.mpc_table.specs.TableTheorems.{MovesEachInput}
use Rattle.mpc_block.specs.declared.lines.Width.{Width}
use Rattle.mpc_plant.specs.declared.plants.Plant.{Plant}
use Rattle.mpc_controller.specs.Bounds.{first_move_form}
use Rattle.mpc_block.specs.Words.{words_from}
use Rattle.mpc_block.specs.Block.{width_of, line_size, line_start, law_place, whole, form_in}
use Rattle.mpc_block.specs.Layouts.{KeepsBefore, CanHaveForm}
use Rattle.mpc_block.proofs.WidthLemmas.{KeepsForm, keeps_form}
use Rattle.mpc_block.proofs.LayoutLemmas.{input_more, line_inside, starts_mono, kept_twice}
use Rattle.mpc_block.proofs.layouts.write_law.Goals as goal

keeps : MovesEachInput → (parts : Parts) → IsController parts.plant parts.laws parts.tree → (width : Width) → width ≡ width_of parts → (plant : Plant) → plant ≡ parts.plant → (laws : List LawOfSet) → laws ≡ parts.laws → (j : ℕ) (law : LawOfSet) → slice_get laws j ≡ Some law → (input : ℕ) → input < plant.p
    → KeepsForm width parts.plant (first_move_form law input)
keeps inputs parts ok width is plant plant_is laws laws_are j law at input below = keeps_form inputs parts ok width is j law (subst (λ l. slice_get l j ≡ Some law) laws_are at) input (subst (λ (p : Plant). input < p.p) plant_is below)

pub put_form-requires-clause-fits : goal.put_form-requires-clause-fits
put_form-requires-clause-fits c = subst (CanHaveForm c.args.width) (sym c.row.ensures)
    (keeps c.table_theorems.ensures.moves_each_input c.args.controller.now c.laws.ensures.controller c.args.width c.requires.width c.plant.result.now c.plant.ensures.value c.laws.result.now c.laws.ensures.value c.args.index c.at-law.result.now c.at-law.ensures c.loop-input.input c.loop-input-test.true).can_have

pub put_form-requires-clause-room : goal.put_form-requires-clause-room
put_form-requires-clause-room c =
    let width = c.args.width in
    let below : c.loop-input.input < c.args.controller.now.plant.p = subst (λ (p : Plant). c.loop-input.input < p.p) c.plant.ensures.value c.loop-input-test.true in
    let start_is : c.line_start.result ≡ line_start width (law_place c.args.controller.now (c.args.index + 1) + c.loop-input.input) = c.line_start.ensures ∙ ap (λ place. line_start width (place + c.loop-input.input)) c.law_place-place.ensures in
    omega (arith, start_is, line_inside c.args.controller.now width c.args.index c.loop-input.input c.requires.width c.requires.law below, c.requires.room, c.loop-input.auto.words)

pub loop-input-preserved : goal.loop-input-preserved
loop-input-preserved c =
    let parts = c.args.controller.now in
    let width = c.args.width in
    let law = c.at-law.result.now in
    let i = c.loop-input.input in
    let place = law_place parts (c.args.index + 1) in
    let new = c.put_form.new.words in
    let start_is : c.line_start.result ≡ line_start width (place + i) = c.line_start.ensures ∙ ap (λ place. line_start width (place + i)) c.law_place-place.ensures in
    let size = (keeps c.table_theorems.ensures.moves_each_input parts c.laws.ensures.controller width c.requires.width c.plant.result.now c.plant.ensures.value c.laws.result.now c.laws.ensures.value c.args.index law c.at-law.ensures i c.loop-input-test.true).size in
    let written : form_in width parts.plant.n (words_from new c.line_start.result (line_size width)) ≡ whole (first_move_form law i) = c.put_form.ensures.written parts.plant.n (ap length c.row.ensures ∙ size) ∙ ap whole c.row.ensures in
    let kept : KeepsBefore (line_start width (place + i)) c.loop-input.words new = subst (λ start. KeepsBefore start c.loop-input.words new) start_is c.put_form.ensures.kept in
    record {
      forms = input_more parts width c.requires.width c.loop-input.words new law place i (subst (λ start. form_in width parts.plant.n (words_from new start (line_size width)) ≡ whole (first_move_form law i)) start_is written) kept c.loop-input.invariant.forms;
      kept = kept_twice c.args.words.now c.loop-input.words new (line_start width place) (line_start width (place + i)) (starts_mono width place (place + i) (omega arith)) c.loop-input.invariant.kept kept;
    }
