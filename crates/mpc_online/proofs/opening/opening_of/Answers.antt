use Rattle.std.proofs.Common.{◌≡◌, ℕ, length, suc, Option, Some, None, IfSome, sym, ◌∙◌, ap, subst, refl, arith}
use Rattle.std.specs.Option.{unwrap_or}
use Rattle.mpc_wholes.specs.Wholes.{IsDenominator}
use Rattle.mpc_online.proofs.Openings.{counts_to, forms_are}
use Rattle.mpc_online.proofs.opening.opening_of.Goals as goal

pub sums_fit-requires : goal.sums_fit-requires
sums_fit-requires c =
    let a : length c.deref.result.now ≡ suc (length c.args.qp.now.counts) = ap length (c.deref.ensures.value ∙ c.in_ok-most.ensures) in
    let b = c.args.qp.now.is_program.f_shape.columns_are in
    omega (arith, a, b)

pub opening_forms-requires-clause-most : goal.opening_forms-requires-clause-most
opening_forms-requires-clause-most c = c.deref-2.ensures.value ∙ c.in_ok-most.ensures

start_is : (o : Option ℕ) → IfSome o IsDenominator → IsDenominator (unwrap_or o 1)
start_is None h = record { some = omega arith; small = omega arith }
start_is (Some m) h = h

pub whole_rows-requires-clause-start : goal.whole_rows-requires-clause-start
whole_rows-requires-clause-start c = subst IsDenominator (sym c.unwrap_or.ensures) (start_is c.common_of.result c.common_of.ensures)

pub whole_rows-requires-clause-few : goal.whole_rows-requires-clause-few
whole_rows-requires-clause-few c =
    let few = c.args.qp.now.is_program.few_parameters in
    let b = c.args.qp.now.is_program.f_shape.columns_are in
    omega (arith, few, b, (forms_are c.args.qp.now _ c.in-Some-2.forms c.in-Some-2.is c.in_ok-forms.ensures).shape.columns_are)

pub returns : goal.returns
returns c = record {
  forms = forms_are c.args.qp.now _ c.in-Some-2.forms c.in-Some-2.is c.in_ok-forms.ensures;
  rows = c.in_ok-rows.ensures;
  costs = λ x a. c.if-not-sums_fit.ensures refl x (counts_to c.args.qp.now c.deref.result.now x (c.deref.ensures.value ∙ c.in_ok-most.ensures) a);
}
