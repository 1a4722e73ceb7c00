use Rattle.std.proofs.Common.{sym, arith}
use Rattle.mpc_sets.proofs.MaskOrder.{differ_first_at, slice_cmp-less, slice_cmp-greater, slice_cmp-equal}
use Rattle.mpc_sets.proofs.ActiveSet.cmp_members.Goals as goal

pub returns-then-difference-eq0 : goal.returns-then-difference-eq0
returns-then-difference-eq0 c = sym (slice_cmp-equal c.self.inside.mask c.other.inside.mask c.args.self.now c.args.other.now c.self.view_is c.other.view_is c.if-difference-eq0.true)

pub overflow_shr-self-inside : goal.overflow_shr-self-inside
overflow_shr-self-inside c = omega (arith, (differ_first_at c.self.inside.mask c.other.inside.mask c.self.invariant c.other.invariant c.if-difference-eq0.false).within)

pub returns-then-self-difference-eq1 : goal.returns-then-self-difference-eq1
returns-then-self-difference-eq1 c =
    sym (slice_cmp-less c.self.inside.mask c.other.inside.mask _ c.args.self.now c.args.other.now c.self.view_is c.other.view_is c.requires
    (differ_first_at c.self.inside.mask c.other.inside.mask c.self.invariant c.other.invariant c.if-difference-eq0.false) c.if-self-difference-eq1.true)

pub returns-else-self-difference-eq1 : goal.returns-else-self-difference-eq1
returns-else-self-difference-eq1 c =
    sym (slice_cmp-greater c.self.inside.mask c.other.inside.mask _ c.args.self.now c.args.other.now c.self.view_is c.other.view_is c.requires
    (differ_first_at c.self.inside.mask c.other.inside.mask c.self.invariant c.other.invariant c.if-difference-eq0.false) c.if-self-difference-eq1.false)
