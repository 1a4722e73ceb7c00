use Rattle.std.proofs.Common.{◌≡◌, ◌+◌, ◌-◌, ◌≤◌, get_or, sym, ◌∙◌, ap, subst, arith}
use Rattle.mpc_space.specs.Matrix.{height}
use Rattle.mpc_region.proofs.Members.{member}
use Rattle.mpc_region.proofs.ReachRuns.{row_within, turned_row, reach_next}
use Rattle.mpc_region.proofs.kept.next_run.Goals as goal
use Rattle.mpc_region.proofs.kept.next_run.Goals.{After-joint_place-place}

module _ (c : After-joint_place-place) where
  place : c.args.members + 1 - 1 ≡ c.args.members
  place = omega arith

  member_is : c.member.result ≡ get_or c.args.set c.args.members 0
  member_is = c.member.ensures.value ∙ ap (λ k. get_or c.args.set k 0) place

  within : (1 ≤ c.member.result) × (c.member.result ≤ height c.args.qp.now.g)
  within = subst (λ n. (1 ≤ n) × (n ≤ height c.args.qp.now.g)) (sym member_is) (member (height c.args.qp.now.g) c.args.set c.requires.set_of_rows c.args.members c.requires.member)

pub extend_turned-requires : goal.extend_turned-requires
extend_turned-requires c =
    let d = (goal.at.extend_turned-requires c).After-joint_place-place in
    let w = within d in
    row_within c.args.qp.now c.args.set c.args.members c.args.before.now c.in-Some.run' c.in-Some.is c.requires.before c.member.result c.joint_place-place.result w.0 w.1 c.joint_place-place.ensures

pub returns : goal.returns
returns c =
    let d = (goal.at.returns c).After-joint_place-place in
    let w = within d in
    reach_next c.args.qp.now c.args.set c.args.members c.args.before.now c.in-Some.run' c.in-Some.is c.requires.before c.member.result c.requires.member (member_is d)
    _ (turned_row c.args.qp.now c.args.set c.args.members c.args.before.now c.in-Some.run' c.in-Some.is c.requires.before c.member.result c.joint_place-place.result w.0 w.1 c.joint_place-place.ensures)
    c.extend_turned.result c.extend_turned.ensures
