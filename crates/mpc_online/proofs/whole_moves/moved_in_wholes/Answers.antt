use Rattle.std.proofs.Common.{◌≡◌, ℕ, ℤ, ◌*◌, ◌^◌, ◌<◌, ◌≤◌, get_or, pos, unsigned_abs, to_z, of_z, ◌+ℤ◌, ◌*ℤ◌, sym, ◌∙◌, ap, subst, arith, div-le_self}
use Rattle.std.specs.Int.{w128}
use Rattle.std.proofs.lemmas.Int.{to_z_pos}
use native.Mathlib.Nat.{mul-div_cancel'}
use Rattle.mpc_space.specs.Vector.{vec_add, vec_scale}
use Rattle.mpc_space.proofs.Entries.{length-add, length-scale}
use Rattle.mpc_online.proofs.WholeDots.{read_wide}
use Rattle.mpc_online.proofs.WholeMoves.{moved_over, all_fit, factor_small, times_read, times_size}
use Rattle.mpc_online.proofs.whole_moves.moved_in_wholes.Goals as goal
use Rattle.mpc_online.proofs.whole_moves.moved_in_wholes.Goals.{After-num-2}

-- ---- the factors
abbrev left : After-num-2 → ℕ
left c = c.part-left.result

abbrev right : After-num-2 → ℕ
right c = c.part-right.result

abbrev factor : After-num-2 → ℤ
factor c = c.args.step.now.numer *ℤ pos (right c)

left_few : (c : After-num-2) → left c ≤ 2 ^ 124
left_few c = let l : left c ≤ c.in_ok-den.den = subst (λ n. n ≤ c.in_ok-den.den) (sym c.part-left.ensures) (div-le_self c.in_ok-den.den c.args.point.now.den) in let s = c.in_ok-den.ensures.small.small in omega (arith, l, s)

right_few : (c : After-num-2) → right c ≤ 2 ^ 124
right_few c = let l : right c ≤ c.in_ok-den.den = subst (λ n. n ≤ c.in_ok-den.den) (sym c.part-right.ensures) (div-le_self c.in_ok-den.den (c.args.direction.now.den * c.denominator-2.result)) in let s = c.in_ok-den.ensures.small.small in omega (arith, l, s)

size : (c : After-num-2) → c.unsigned_abs.result ≡ unsigned_abs c.args.step.now.numer
size c = c.unsigned_abs.ensures.value ∙ ap unsigned_abs (ap (λ z. to_z w128 (of_z w128 z)) c.num.ensures.value ∙ read_wide c.args.step.now.numer c.num.ensures.fits.0)

factor_room : (c : After-num-2) → c.args.direction.now.most * unsigned_abs (factor c) ≤ 2 ^ 124
factor_room c = times_size c.args.step.now.numer (right c) c.args.direction.now.most c.unsigned_abs.result (size c) (c.is_small-3.ensures c.if-not-is_small-3.false)

factor_is : (c : After-num-2) → to_z w128 (of_z w128 c.num-2.result) *ℤ to_z w128 (right c) ≡ factor c
factor_is c = times_read c.num-2.result c.args.step.now.numer (right c) c.num-2.ensures.value c.num-2.ensures.fits.0 (right_few c)

factor_back : (c : After-num-2) (f : ℤ) → f ≡ to_z w128 (of_z w128 c.num-2.result) *ℤ to_z w128 (right c) → to_z w128 (of_z w128 f) ≡ factor c
factor_back c f e = ap (λ z. to_z w128 (of_z w128 z)) (e ∙ factor_is c) ∙ read_wide (factor c) (factor_small c.args.direction.now (factor c) (factor_room c))

of_x : (c : After-num-2) → c.args.point.now.den * left c ≡ c.in_ok-den.den
of_x c = ap (λ n. c.args.point.now.den * n) c.part-left.ensures ∙ mul-div_cancel' c.args.point.now.den c.in_ok-den.ensures.of_b

of_d : (c : After-num-2) → (c.args.direction.now.den * c.args.step.now.denom) * right c ≡ c.in_ok-den.den
of_d c =
    ap (λ n. (c.args.direction.now.den * n) * right c) (sym c.denominator-2.ensures.value) ∙ ap (λ n. (c.args.direction.now.den * c.denominator-2.result) * n) c.part-right.ensures
    ∙ mul-div_cancel' (c.args.direction.now.den * c.denominator-2.result) c.in_ok-den.ensures.of_a

pub product-factor-requires : goal.product-factor-requires
product-factor-requires c =
    let d = (goal.at.product-factor-requires c).After-num-2 in
    subst (λ z. unsigned_abs z < 2 ^ 127) (sym (factor_is d)) (factor_small c.args.direction.now (factor d) (factor_room d))

pub combined-requires-clause-right_small : goal.combined-requires-clause-right_small
combined-requires-clause-right_small c =
    let d = (goal.at.combined-requires-clause-right_small c).After-num-2 in
    subst (λ z. c.args.direction.now.most * unsigned_abs z ≤ 2 ^ 124) (sym (factor_back d c.product-factor.result c.product-factor.ensures)) (factor_room d)

pub returns-clause-value : goal.returns-clause-value
returns-clause-value c xs ds ox od lx ld =
    let d = (goal.at.returns-clause-value c).After-num-2 in
    let a : ℕ → ℤ = λ k. get_or c.args.point.now.numerators k (pos 0) in
    let b : ℕ → ℤ = λ k. get_or c.args.direction.now.numerators k (pos 0) in
    let few = left_few d in
    let l : to_z w128 (left d) ≡ pos (left d) = to_z_pos w128 (left d) (omega (arith, few)) in
    let r = factor_back d c.product-factor.result c.product-factor.ensures in
    let six = c.combined.ensures.size in
    c.lowest.ensures (vec_add xs (vec_scale c.args.step.now ds))
    (moved_over c.over_theorems.ensures c.args.point.now c.args.direction.now c.args.step.now (left d) (right d) c.in_ok-den.den c.in_ok-den.ensures.small.some (of_x d) (of_d d) xs ds ox od c.args.count lx ld
    c.combined.result c.combined.ensures.den (omega (arith, six, c.requires))
    (λ k h. c.combined.ensures.numerators k h ∙ (λ i. a k *ℤ l i +ℤ b k *ℤ r i)))
    (length-add xs (vec_scale c.args.step.now ds) (lx ∙ sym ld ∙ sym (length-scale c.args.step.now ds)) ∙ lx)

pub returns-clause-fits : goal.returns-clause-fits
returns-clause-fits c xs ds ox od lx ld =
    let d = (goal.at.returns-clause-fits c).After-num-2 in
    let room = c.is_small-2.ensures c.if-not-is_small-2.false in
    all_fit c.over_theorems.ensures c.args.point.now c.args.direction.now c.args.step.now (left d) (right d) c.in_ok-den.den c.in_ok-den.ensures.small.some (of_x d) (of_d d) xs ds ox od c.args.count lx ld
    (omega (arith, room)) (factor_room d) c.in_ok-den.ensures.small.small
