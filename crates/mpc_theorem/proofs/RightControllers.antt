-- A plant's controller replies at every point of the box, and rightly.
use Rattle.std.proofs.Common.{sym, subst}
use Rattle.mpc_plant.specs.declared.plants.Plant.{Plant}
use Rattle.mpc_rows.specs.declared.programs.Qp.{Qp}
use Rattle.mpc_controller.specs.Parts.{Parts}
use Rattle.mpc_files.specs.FileAnswers.{RepliesRightly}
use Rattle.mpc_synthesis.specs.Controllers.{IsController, ControllerIsRight, ControllerReplies}

pub controls_its_plant : (plant : Plant) (qp : Qp) (parts : Parts) → IsController plant qp parts → IsController parts.plant qp parts
controls_its_plant plant qp parts is = subst (λ p. IsController p qp parts) (sym is.is_sealed.plant_is) is

pub controller_rightly : ControllerIsRight → ControllerReplies → (plant : Plant) (qp : Qp) (parts : Parts) → IsController plant qp parts → RepliesRightly parts
controller_rightly right replies plant qp parts is =
    let own : IsController parts.plant qp parts = controls_its_plant plant qp parts is in
    record { replies = λ t box. replies parts.plant qp parts t own box; right = λ t reply box r. right parts.plant qp parts t reply own box r }
