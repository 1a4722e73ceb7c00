use Rattle.std.proofs.Common.{◌≡◌, ◌+◌, ◌-◌, ◌++◌, ◌∷◌, [], suc, ◌∙◌, ap, subst, arith}
use Rattle.mpc_rows.specs.LawRows.{excess_form}
use Rattle.mpc_tree.specs.WholeRows.{all_dens, IsExcess, AreSides}
use Rattle.mpc_tree.proofs.WholeRows.{read_wide, sides_more}
use Rattle.mpc_tree.proofs.rows.excesses.Goals as goal

pub loop-place-preserved : goal.loop-place-preserved
loop-place-preserved c =
    let scale = all_dens c.args.numbers.now c.args.unknowns.now in
    let form = excess_form c.args.qp.now c.args.law.now c.args.row_number in
    let next : c.loop-place.place - 1 + 1 ≡ c.loop-place.place + 1 - 1 = omega arith in
    let here : c.loop-place.place ≡ suc (c.loop-place.place - 1) = omega arith in
    subst (λ k. AreSides scale form k c.push.new.self) next
    (sides_more scale form (c.loop-place.place - 1) c.loop-place.sides c.push.new.self c.in-Some.value c.loop-place.invariant
    (subst (λ k. IsExcess c.args.qp.now c.args.law.now c.args.numbers.now c.args.unknowns.now c.args.row_number k c.in-Some.value) here c.in-Some.ensures.value) c.in-Some.ensures.small
    (c.in_ok-push.ensures.ok ∙ ap (λ x. c.loop-place.sides ++ x ∷ []) (read_wide c.in-Some.value c.in-Some.ensures.small)))
