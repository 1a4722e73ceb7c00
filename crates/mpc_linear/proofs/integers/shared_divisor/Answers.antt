use Rattle.std.proofs.Common.{◌≡◌, ◌∙◌, ◌<◌, ◌^◌, ◌≤◌, ◌+◌, unsigned_abs, pos, to_z, of_z, ap, sym, subst, length, get_or}
use Rattle.std.specs.Int.{w128}
use Rattle.std.proofs.lemmas.List.{get_or_default}
use Rattle.mpc_space.proofs.Words.{read_back}
use Rattle.mpc_linear.proofs.PrimitiveLemmas.{Sharing, sharing_none, sharing_more, sharing_all}
use Rattle.mpc_linear.proofs.integers.shared_divisor.Goals as goal

pub loop-integer-init : goal.loop-integer-init
loop-integer-init c =
    subst (λ z. Sharing c.args.row.now z 0 c.unsigned_abs-shared.result) (sym (read_back c.args.bound c.requires.b_small))
    (subst (Sharing c.args.row.now c.args.bound 0) (sym (c.unsigned_abs-shared.ensures.value ∙ ap unsigned_abs (read_back c.args.bound c.requires.b_small))) (sharing_none c.args.row.now c.args.bound c.requires.b_small))

pub loop-integer-preserved : goal.loop-integer-preserved
loop-integer-preserved c =
    let row = c.args.row.now in
    let k = c.loop-integer.integer-index in
    let z = get_or row k (pos 0) in
    let within : k < length row = subst (λ xs. k < length xs) c.as_slice-integer-items.ensures c.loop-integer-test.true in
    let small : unsigned_abs z < 2 ^ 127 = c.requires.small k (pos 0) within in
    let size : c.unsigned_abs.result ≡ unsigned_abs z =
    c.unsigned_abs.ensures.value ∙ ap (λ xs. unsigned_abs (to_z w128 (of_z w128 (get_or xs k (pos 0))))) c.as_slice-integer-items.ensures ∙ ap unsigned_abs (read_back z small)
    in
    subst (λ y. Sharing row y (k + 1) c.greatest_common_divisor-shared.result) (sym (read_back c.args.bound c.requires.b_small))
    (sharing_more row c.args.bound k c.loop-integer.shared (subst (λ y. Sharing row y k c.loop-integer.shared) (read_back c.args.bound c.requires.b_small) c.loop-integer.invariant) z within (get_or_default row k (pos 0) z within) c.unsigned_abs.result size small
    c.greatest_common_divisor-shared.result c.greatest_common_divisor-shared.ensures.value)

pub returns-clause-shared : goal.returns-clause-shared
returns-clause-shared c =
    sharing_all c.args.row.now c.args.bound c.loop-integer.integer-index c.loop-integer.shared (subst (λ xs. length xs ≤ c.loop-integer.integer-index) c.as_slice-integer-items.ensures c.loop-integer-test.false)
    (subst (λ z. Sharing c.args.row.now z c.loop-integer.integer-index c.loop-integer.shared) (read_back c.args.bound c.requires.b_small) c.loop-integer.invariant)
