use Rattle.std.proofs.Common.{◌≡◌, ◌↔◌, ◌-◌, ◌<◌, ◌≤◌, [], ◌∷◌, length, get_or, IfOk, IfSome, IsTrue, sym, ◌∙◌, ap, subst, arith}
use Rattle.mpc_space.specs.Matrix.{height}
use Rattle.mpc_rows.specs.LinearSystem.{row_at}
use Rattle.mpc_rows.specs.RunWidth.{RunFits}
use Rattle.mpc_rows.specs.SetRuns.{turned, reach_system}
use Rattle.mpc_beginnings.specs.Beginnings.{lengthened}
use Rattle.mpc_simplex.specs.Answer.{HasPoint}
use Rattle.mpc_region.proofs.Members.{member}
use Rattle.mpc_region.proofs.ReachRuns.{row_within, turned_row, reach_last}
use Rattle.mpc_region.proofs.reach.last_meets.Goals as goal
use Rattle.mpc_region.proofs.reach.last_meets.Goals.{After-joint_place-place}

module _ (c : After-joint_place-place) where
  member_is : c.member.result ≡ get_or c.args.set (length c.args.set - 1) 0
  member_is = c.member.ensures.value ∙ ap (λ n. get_or c.args.set (n - 1) 0) c.size-2.ensures.value

  last_in : length c.args.set - 1 < length c.args.set
  last_in = let s = c.requires.some in omega arith

  within : (1 ≤ c.member.result) × (c.member.result ≤ height c.args.qp.now.g)
  within = subst (λ n. (1 ≤ n) × (n ≤ height c.args.qp.now.g)) (sym member_is) (member (height c.args.qp.now.g) c.args.set c.requires.set_of_rows (length c.args.set - 1) last_in)

  longer_is : lengthened c.in-Some.run' (turned (row_at c.in-Some.run' c.joint_place-place.result) ∷ []) ≡ reach_system c.args.qp.now c.args.set
  longer_is =
      let w = within in
      let s = c.requires.some in
      reach_last c.args.qp.now c.args.set (length c.args.set - 1) c.args.before.now c.in-Some.run' c.in-Some.is c.requires.before c.member.result (omega arith) member_is
      _ (turned_row c.args.qp.now c.args.set (length c.args.set - 1) c.args.before.now c.in-Some.run' c.in-Some.is c.requires.before c.member.result c.joint_place-place.result w.0 w.1 c.joint_place-place.ensures)

pub meets_turned-requires : goal.meets_turned-requires
meets_turned-requires c =
    let d = (goal.at.meets_turned-requires c).After-joint_place-place in
    let w = within d in
    row_within c.args.qp.now c.args.set (length c.args.set - 1) c.args.before.now c.in-Some.run' c.in-Some.is c.requires.before c.member.result c.joint_place-place.result w.0 w.1 c.joint_place-place.ensures

pub returns-clause-answer : goal.returns-clause-answer
returns-clause-answer c =
    let d = (goal.at.returns-clause-answer c).After-joint_place-place in
    subst (λ s. IfOk c.meets_turned.result (λ o. IfSome o (λ yes. IsTrue yes ↔ HasPoint s))) (longer_is d) c.meets_turned.ensures.answer

pub returns-clause-fits : goal.returns-clause-fits
returns-clause-fits c =
    let d = (goal.at.returns-clause-fits c).After-joint_place-place in
    subst (λ s. IfOk c.meets_turned.result (λ o. IfSome o (λ _. RunFits s))) (longer_is d) c.meets_turned.ensures.fits
