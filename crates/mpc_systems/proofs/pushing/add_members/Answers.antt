use Rattle.std.proofs.Common.{◌-◌, ◌≤◌, subst, arith, sym}
use Rattle.mpc_space.specs.Matrix.{height}
use Rattle.mpc_systems.proofs.pushing.add_members.Goals as goal

pub joint_row-requires-clause-to_last : goal.joint_row-requires-clause-to_last
joint_row-requires-clause-to_last c =
    subst (λ i. i ≤ height c.args.qp.now.g) (sym c.member.ensures.value) (c.law_theorems.ensures.member_bounds (height c.args.qp.now.g) c.args.set (c.loop-k.k - 1) c.requires.set_of_rows.rises (omega arith)).1
