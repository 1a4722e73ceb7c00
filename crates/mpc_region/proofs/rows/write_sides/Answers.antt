use Rattle.std.proofs.Common.{◌≡◌, ◌+◌, neg_ℤ, unsigned_abs, to_z, of_z, arith, ap, ◌∙◌, sym, subst, length, set}
use Rattle.std.specs.Int.{◌∣◌, w64}
use Rattle.mpc_region.specs.SweptRows.{number_from}
use Rattle.mpc_region.proofs.SweptDivisors.{read_number, read_short}
use Rattle.mpc_region.proofs.SweptRows.{sides_none, sides_more, sides_all}
use Rattle.mpc_region.proofs.rows.write_sides.Goals as goal
use Rattle.mpc_region.proofs.rows.write_sides.Goals.{After-at}

read : (c : After-at) → to_z w64 (of_z w64 c.at.result) ≡ number_from c.args.table.now c.args.row c.args.first (c.loop-index.index + 1)
read c = read_number c.at.result (number_from c.args.table.now c.args.row c.args.first (c.loop-index.index + 1)) c.at.ensures (c.requires.table.small.each _)

pub loop-index-init : goal.loop-index-init
loop-index-init c = sides_none (number_from c.args.table.now c.args.row c.args.first) c.args.by c.args.sides.now

pub quotient-side-requires-clause-divides : goal.quotient-side-requires-clause-divides
quotient-side-requires-clause-divides c =
    let at = goal.at.quotient-side-requires-clause-divides c in
    subst (λ z. c.args.by ∣ unsigned_abs z) (sym (read at.After-at)) (c.requires.divides.each (c.loop-index.index + 1) (let l = c.loop-index-test.true in let s = c.loop-index.invariant.size in omega arith))

pub loop-index-preserved : goal.loop-index-preserved
loop-index-preserved c =
    let at = goal.at.loop-index-preserved c in
    sides_more (number_from c.args.table.now c.args.row c.args.first) c.args.by (length c.args.sides.now) c.loop-index.index c.loop-index.sides _ c.quotient-side.result (to_z w64 (of_z w64 c.at.result))
    (let l = c.loop-index-test.true in let s = c.loop-index.invariant.size in omega arith) c.loop-index.invariant c.quotient-side.ensures.value
    (read at.After-at ∙ ap (number_from c.args.table.now c.args.row c.args.first) (omega arith))
    (ap (set c.loop-index.sides c.loop-index.index) (read_short c.negated.result c.negated.ensures.small ∙ c.negated.ensures.value ∙ ap neg_ℤ (read_short c.quotient-side.result c.quotient-side.ensures.small)))

pub returns-clause-sides : goal.returns-clause-sides
returns-clause-sides c = sides_all _ _ (length c.args.sides.now) c.loop-index.index c.loop-index.sides (let l = c.loop-index-test.false in let s = c.loop-index.invariant.size in omega arith) c.loop-index.invariant
