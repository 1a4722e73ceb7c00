use Rattle.std.proofs.Common.{◌≡◌, ◌<◌, length, get_or, ◌∙◌, ap, arith}
use Rattle.mpc_recur.specs.Targets.{SideMet, SideFinds}
use Rattle.mpc_recur.proofs.FindingLemmas.{each_more}
use Rattle.mpc_recur.proofs.TargetLemmas.{first_stop}
use Rattle.mpc_recur.proofs.LeafLemmas.{form_of, limits_count}
use Rattle.mpc_recur.proofs.leaves.rule_out_sides.Goals as goal

pub loop-index-init : goal.loop-index-init
loop-index-init c = λ plant law path base ef el i h. absurd (omega arith)

pub rule_out_sides_of-requires-clause-size : goal.rule_out_sides_of-requires-clause-size
rule_out_sides_of-requires-clause-size c =
    let inside : c.loop-index.index < length c.args.forms.now = omega (arith, c.loop-index-test.true, c.len-index-end.ensures, c.requires.sizes) in
    ap length c.index-forms-index.is ∙ c.requires.affine c.loop-index.index c.index-forms-index.result inside

pub loop-index-preserved : goal.loop-index-preserved
loop-index-preserved c = λ plant law path base ef el.
    let n : length c.args.limits.now ≡ plant.n = limits_count plant c.args.limits.now el in
    let inside : c.loop-index.index < plant.n = omega (arith, c.loop-index-test.true, c.len-index-end.ensures) in
    each_more (SideMet plant law path) c.loop-index.index (c.loop-index.invariant plant law path base ef el)
    (c.in-Ok.ensures plant law path base (form_of plant law c.args.forms.now c.loop-index.index _ ef inside c.index-forms-index.is) (c.at.ensures ∙ ap (λ l. get_or l c.loop-index.index 0) el))

pub returns-in-Err : goal.returns-in-Err
returns-in-Err c = λ plant law path base ef el.
    let n : length c.args.limits.now ≡ plant.n = limits_count plant c.args.limits.now el in
    let inside : c.loop-index.index < plant.n = omega (arith, c.loop-index-test.true, c.len-index-end.ensures) in
    first_stop (SideMet plant law path) (SideFinds plant law path c.args.leaf) plant.n c.loop-index.index inside (c.loop-index.invariant plant law path base ef el) c.in-Err.stop
    (c.in-Err.ensures plant law path base (form_of plant law c.args.forms.now c.loop-index.index _ ef inside c.index-forms-index.is) (c.at.ensures ∙ ap (λ l. get_or l c.loop-index.index 0) el))

pub returns : goal.returns
returns c = λ plant law path base ef el.
    let n : length c.args.limits.now ≡ plant.n = limits_count plant c.args.limits.now el in
    λ i h. c.loop-index.invariant plant law path base ef el i (omega (arith, h, c.loop-index-test.false, c.len-index-end.ensures))
