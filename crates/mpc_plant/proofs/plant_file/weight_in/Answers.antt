use Rattle.std.proofs.Common.{◌≡◌, None}
use Rattle.std.proofs.lemmas.Result.{IfOk-weaker, IfOk-at_ok}
use Rattle.mpc_linear.specs.Shape.{HasShape}
use Rattle.mpc_plant.specs.CheckedPlant.{difference_from}
use Rattle.mpc_plant.proofs.Mirror.{weight_is}
use Rattle.mpc_plant.proofs.plant_file.weight_in.Goals as goal

pub returns-clause-weight : goal.returns-clause-weight
returns-clause-weight c =
    IfOk-weaker c.under_key.result _ _
    (λ m e. weight_is m c.args.size (IfOk-at_ok (λ m. HasShape m c.args.size c.args.size) e c.weight.ensures.shape) (IfOk-at_ok (λ m. difference_from m.rows c.args.size 0 c.args.size ≡ None) e c.weight.ensures.mirrored)) c.under_key.ensures.ok
