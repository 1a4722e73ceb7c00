use Rattle.std.proofs.Common.{◌≡◌, ◌∙◌, sym, subst, arith}
use Rattle.mpc_rows.specs.RunWidth.{RunFits}
use Rattle.mpc_simplex.specs.Answer.{HasPoint}
use Rattle.mpc_systems.specs.Systems.{meet_system}
use Rattle.mpc_tree.proofs.CertLists.{false_true}
use Rattle.mpc_tree.proofs.MissedLaws.{missed_by_all}
use Rattle.mpc_tree.proofs.nodes.region_meets.Goals as goal
use Rattle.mpc_tree.proofs.nodes.region_meets.Goals.{In-Ok}

system_is : (c : In-Ok) → c.in-Ok.system ≡ meet_system c.args.qp.now c.args.cell.now.rows.items c.args.border.now
system_is c = c.in-Ok.ensures ∙ (λ t. meet_system c.args.qp.now (c.deref.ensures.value t) (c.as_slice.ensures t))

pub returns-in-Ok-true-clause-answer : goal.returns-in-Ok-true-clause-answer
returns-in-Ok-true-clause-answer c = subst HasPoint (system_is (goal.at.returns-in-Ok-true-clause-answer c).In-Ok) (c.in-Ok-true.ensures.answer.0 c.in-Ok-true.field-0-test)

pub returns-in-Ok-true-clause-wide : goal.returns-in-Ok-true-clause-wide
returns-in-Ok-true-clause-wide c = subst RunFits (system_is (goal.at.returns-in-Ok-true-clause-wide c).In-Ok) c.in-Ok-true.ensures.wide

pub returns-in-Ok-false-clause-answer : goal.returns-in-Ok-false-clause-answer
returns-in-Ok-false-clause-answer c =
    let e = system_is (goal.at.returns-in-Ok-false-clause-answer c).In-Ok in
    missed_by_all c.args.qp.now c.args.border.now c.args.cell.now.rows.items c.len.result (omega arith) (λ p. false_true (sym c.in-Ok-false.field-0-test ∙ c.in-Ok-false.ensures.answer.1 (subst HasPoint (sym e) p)))

pub returns-in-Ok-false-clause-wide : goal.returns-in-Ok-false-clause-wide
returns-in-Ok-false-clause-wide c = subst RunFits (system_is (goal.at.returns-in-Ok-false-clause-wide c).In-Ok) c.in-Ok-false.ensures.wide
