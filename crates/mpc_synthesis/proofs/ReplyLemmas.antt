-- A controller replies at every point of its plant's box, and rightly.
use Rattle.std.proofs.Common.{sym, subst}
use Rattle.mpc_plant.specs.Reply.{IsRight}
use Rattle.mpc_plant.specs.Trajectory.{IsInBox}
use Rattle.mpc_controller.specs.Bounds.{IsController as IsControllerOf}
use Rattle.mpc_controller.specs.ReplyTheorems.{RepliesEverywhere}
use Rattle.mpc_check.specs.Acceptance.{AcceptedIsRight}
use Rattle.mpc_synthesis.specs.Controllers.{ControllerIsRight, ControllerReplies}

pub controller_right : AcceptedIsRight → ControllerIsRight
controller_right accepted plant qp parts t reply is box replies =
    let here : IsControllerOf parts.plant parts.laws parts.tree = subst (λ p. IsControllerOf p parts.laws parts.tree) (sym is.is_sealed.plant_is) is.is_sealed.fits in
    let inside : IsInBox parts.plant t = subst (λ p. IsInBox p t) (sym is.is_sealed.plant_is) box in
    subst (λ p. IsRight p t reply) is.is_sealed.plant_is (accepted parts t reply here is.accepted inside replies)

pub controller_replies : RepliesEverywhere → ControllerReplies
controller_replies everywhere plant qp parts t is box = everywhere parts (subst (λ p. IsControllerOf p parts.laws parts.tree) (sym is.is_sealed.plant_is) is.is_sealed.fits) t
