use Rattle.std.proofs.Common.{sym, ◌≤◌, ◌≡◌, ◌+◌, ◌-◌, get_or, ap, ◌∙◌, subst, arith, bit_and}
use Rattle.mpc_sets.specs.RowSet.{IsSetOfRows}
use Rattle.mpc_sets.proofs.Masks.{IsRestOf, IsRestOf-start, IsRestOf-next, some_left, lowest_left, members_of-is_set, member_within}
use Rattle.mpc_sets.proofs.ActiveSet.member.Goals as goal

pub overflow_sub-rest : goal.overflow_sub-rest
overflow_sub-rest c = some_left c.loop.rest (c.loop.counter - 1) c.args.self c.loop.invariant (omega arith)

pub loop-init : goal.loop-init
loop-init c = IsRestOf-start c.self.inside.mask c.args.self c.self.invariant c.self.view_is

pub loop-preserved : goal.loop-preserved
loop-preserved c =
    let k = c.loop.counter - 1 in
    let next : k + 1 ≡ c.loop.counter + 1 - 1 = omega arith in
    subst (λ j. IsRestOf (bit_and c.loop.rest (c.loop.rest - 1)) j c.args.self) next (IsRestOf-next c.loop.rest k c.args.self c.loop.invariant (omega arith))

pub returns-clause-value : goal.returns-clause-value
returns-clause-value c =
    let same : c.loop.counter - 1 ≡ c.args.position - 1 = omega arith in
    lowest_left c.loop.rest (c.loop.counter - 1) c.args.self c.loop.invariant (omega arith) ∙ ap (λ j. get_or c.args.self j 0) same

pub returns-clause-is_set : goal.returns-clause-is_set
returns-clause-is_set c = subst (IsSetOfRows 60) c.self.view_is (members_of-is_set c.self.inside.mask c.self.invariant)

pub returns-clause-within : goal.returns-clause-within
returns-clause-within c = subst (λ row. (1 ≤ row) × (row ≤ 60)) (sym (returns-clause-value c)) (member_within c.args.self (c.args.position - 1) (returns-clause-is_set c) (omega arith))
