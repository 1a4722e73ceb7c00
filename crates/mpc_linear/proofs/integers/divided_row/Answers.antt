use Rattle.std.proofs.Common.{◌≡◌, ◌∙◌, ◌<◌, ◌^◌, pos, int_div, unsigned_abs, to_z, of_z, ap, subst, length, get_or}
use Rattle.std.specs.Int.{w128}
use Rattle.std.proofs.lemmas.List.{get_or_default}
use Rattle.mpc_space.proofs.Words.{read_back}
use Rattle.mpc_linear.proofs.PrimitiveLemmas.{quotients_more}
use Rattle.mpc_linear.proofs.integers.divided_row.Goals as goal

pub loop-integer-preserved : goal.loop-integer-preserved
loop-integer-preserved c =
    let row = c.args.row.now in
    let k = c.loop-integer.integer-index in
    let z = get_or row k (pos 0) in
    let within : k < length row = subst (λ xs. k < length xs) c.as_slice-integer-items.ensures c.loop-integer-test.true in
    let small : unsigned_abs z < 2 ^ 127 = c.requires.small k (pos 0) within in
    let read : to_z w128 (of_z w128 (get_or c.as_slice-integer-items.result.now k (pos 0))) ≡ z = ap (λ xs. to_z w128 (of_z w128 (get_or xs k (pos 0)))) c.as_slice-integer-items.ensures ∙ read_back z small in
    quotients_more c.args.by row k z within (get_or_default row k (pos 0) z within) c.loop-integer.quotients c.push.new.self _ c.loop-integer.invariant c.in_ok-push.ensures.ok
    (read_back c.divided.result c.divided.ensures.small ∙ c.divided.ensures.value ∙ ap (λ y. int_div y (pos c.args.by)) read)
