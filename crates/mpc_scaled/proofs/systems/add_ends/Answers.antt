use Rattle.std.proofs.Common.{◌∙◌, ◌++◌, ◌∷◌, [], ap}
use Rattle.std.specs.Int.{w64}
use Rattle.std.proofs.lemmas.Int.{to_z-of_z}
use Rattle.std.proofs.lemmas.Result.{err_from_is_err_and}
use Rattle.mpc_scaled.proofs.WholeSystems.{kept_whole, kept_as, kept_behind}
use Rattle.mpc_scaled.proofs.systems.add_ends.Goals as goal

pub returns-in_err-push : goal.returns-in_err-push
returns-in_err-push c =
    let p = err_from_is_err_and c.from_residual.result c.from_residual.ensures.1 in
    rw p.1 (record { sides = tt; scales = tt; strict = tt; sides_kept = kept_as _ _ c.in_err-push.ensures.items; scales_kept = kept_whole _; strict_kept = kept_whole _ })

pub returns-in_err-push-2 : goal.returns-in_err-push-2
returns-in_err-push-2 c =
    let p = err_from_is_err_and c.from_residual-in_err-push-2.result c.from_residual-in_err-push-2.ensures.1 in
    rw p.1 (record { sides = tt; scales = tt; strict = tt; sides_kept = kept_behind _ _ _ c.in_ok-push.ensures.items; scales_kept = kept_as _ _ c.in_err-push-2.ensures.items; strict_kept = kept_whole _ })

pub returns-in_err-push-3 : goal.returns-in_err-push-3
returns-in_err-push-3 c =
    let p = err_from_is_err_and c.from_residual-in_err-push-3.result c.from_residual-in_err-push-3.ensures.1 in
    rw p.1 (record { sides = tt; scales = tt; strict = tt; sides_kept = kept_behind _ _ _ c.in_ok-push.ensures.items; scales_kept = kept_behind _ _ _ c.in_ok-push-2.ensures.items; strict_kept = kept_as _ _ c.in_err-push-3.ensures.items })

pub returns : goal.returns
returns c = record {
  sides = c.in_ok-push.ensures.items ∙ ap (λ z. c.args.sides.now.items ++ z ∷ []) (to_z-of_z w64 c.args.side c.ranges.side);
  scales = c.in_ok-push-2.ensures.items;
  strict = c.in_ok-push-3.ensures.items;
  sides_kept = kept_behind _ _ _ c.in_ok-push.ensures.items;
  scales_kept = kept_behind _ _ _ c.in_ok-push-2.ensures.items;
  strict_kept = kept_behind _ _ _ c.in_ok-push-3.ensures.items;
}
