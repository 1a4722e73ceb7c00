use Rattle.std.proofs.Common.{rules, ◌≡◌, FitsSigned, to_z, of_z, refl, length, map, take, ◌∙◌, ap, arith}
use Rattle.std.specs.Int.{w128}
use Rattle.std.proofs.lemmas.Int.{to_z-of_z}
use Rattle.std.proofs.lemmas.List.{length-set, take_all, take_more_set}
use Rattle.mpc_linear.specs.Whole.{scaled}
use Rattle.mpc_block.proofs.FormLemmas.{next_number}
use Rattle.mpc_block.proofs.forms.numerators.Goals as goal

pub loop-i-init : goal.loop-i-init
loop-i-init c = record { size = refl; value = refl }

pub loop-i-preserved : goal.loop-i-preserved
loop-i-preserved c =
    let i = c.loop-i.i in
    let old = c.loop-i.numerators in
    let new = to_z w128 (of_z w128 c.numerator.result) in
    let f : FitsSigned w128 c.numerator.result = search rules in
    record {
      size = length-set old i new ∙ c.loop-i.invariant.size;
      value = take_more_set old i new (omega (arith, c.loop-i.invariant.size, c.loop-i-test.true, c.requires.few))
          ∙ next_number c.args.den c.args.form.now i c.index-form-i.result (take i old) new c.loop-i-test.true c.index-form-i.is c.loop-i.invariant.value (to_z-of_z w128 c.numerator.result f ∙ c.numerator.ensures);
    }

pub returns : goal.returns
returns c =
    let all : length c.args.form.now ≡ c.loop-i.i = omega (arith, c.loop-i-test.false, c.loop-i.auto.i-end) in
    ap (λ n. take n c.loop-i.numerators) all ∙ c.loop-i.invariant.value ∙ (λ k. map (scaled (c.requires.least k)) (take_all c.loop-i.i c.args.form.now c.loop-i-test.false k))
