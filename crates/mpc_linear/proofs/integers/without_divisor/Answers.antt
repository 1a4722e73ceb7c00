use Rattle.std.proofs.Common.{ℤ, unsigned_abs, ◌^◌, ◌≡◌, ◌∙◌, ◌<◌, ◌++◌, [], ◌∷◌, pos, int_div, sym, ap, subst, subst₂, arith, to_z, of_z}
use Rattle.std.specs.Int.{w128}
use Rattle.mpc_linear.specs.Whole.{IsScaledRow, IsShared, IsPrimitive}
use Rattle.mpc_space.proofs.Words.{read_back}
use Rattle.mpc_linear.proofs.PrimitiveLemmas.{primitive_small, primitive_divided, scaled_divided, divided_append, quotients_small}
use Rattle.mpc_linear.proofs.integers.without_divisor.Goals as goal

pub returns-then-shared-le1-clause-primitive : goal.returns-then-shared-le1-clause-primitive
returns-then-shared-le1-clause-primitive c = primitive_small (c.args.row.a ++ (c.args.row.b ∷ [])) c.shared_divisor-shared.result c.if-shared-le1.true
    (subst (λ z. IsShared c.shared_divisor-shared.result (c.args.row.a ++ (z ∷ []))) (read_back c.args.row.b c.requires.b_small) c.shared_divisor-shared.ensures.shared)

pub returns-clause-scaled : goal.returns-clause-scaled
returns-clause-scaled c a b r =
    let g = c.shared_divisor-shared.result in
    let some : 0 < g = let l = c.if-shared-le1.false in omega arith in
    let side : to_z w128 (of_z w128 c.divided.result) ≡ int_div c.args.row.b (pos g) = read_back c.divided.result c.divided.ensures.small ∙ c.divided.ensures.value ∙ ap (λ z. int_div z (pos g)) (read_back c.args.row.b c.requires.b_small) in
    let shared = subst (λ z. IsShared g (c.args.row.a ++ (z ∷ []))) (read_back c.args.row.b c.requires.b_small) c.shared_divisor-shared.ensures.shared in
    subst₂ (λ x y. IsScaledRow a b x y) (sym c.in_ok-coefficients.ensures) (sym side) (scaled_divided g some a b c.args.row.a c.args.row.b r shared)

pub returns-clause-primitive : goal.returns-clause-primitive
returns-clause-primitive c =
    let g = c.shared_divisor-shared.result in
    let some : 0 < g = let l = c.if-shared-le1.false in omega arith in
    let side : to_z w128 (of_z w128 c.divided.result) ≡ int_div c.args.row.b (pos g) = read_back c.divided.result c.divided.ensures.small ∙ c.divided.ensures.value ∙ ap (λ z. int_div z (pos g)) (read_back c.args.row.b c.requires.b_small) in
    let shared = subst (λ z. IsShared g (c.args.row.a ++ (z ∷ []))) (read_back c.args.row.b c.requires.b_small) c.shared_divisor-shared.ensures.shared in
    subst₂ (λ x y. IsPrimitive (x ++ (y ∷ []))) (sym c.in_ok-coefficients.ensures) (sym side)
    (subst IsPrimitive (divided_append g some c.args.row.a c.args.row.b) (primitive_divided g some (c.args.row.a ++ (c.args.row.b ∷ [])) shared))

pub returns-clause-small : goal.returns-clause-small
returns-clause-small c =
    let some : 0 < c.shared_divisor-shared.result = let l = c.if-shared-le1.false in omega arith in
    quotients_small c.shared_divisor-shared.result some c.args.row.a c.in_ok-coefficients.coefficients c.requires.small c.in_ok-coefficients.ensures

pub returns-clause-b_small : goal.returns-clause-b_small
returns-clause-b_small c = subst (λ (z : ℤ). unsigned_abs z < 2 ^ 127) (sym (read_back c.divided.result c.divided.ensures.small)) c.divided.ensures.small
