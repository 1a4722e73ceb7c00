use Rattle.std.proofs.Common.{List, sym, subst, ◌∙◌, length}
use Rattle.std.specs.Prelude.{All}
use Rattle.mpc_online.specs.Shared.{IsKeptDirection, IsKeptAt}
use Rattle.mpc_online.specs.declared.prepared.KeptDirection.{KeptDirection}
use Rattle.mpc_online.proofs.Keeping.{kept_too, kept_last}
use Rattle.mpc_online.proofs.directions.keep_direction.Goals as goal

pub returns-in_err-push-clause-kept : goal.returns-in_err-push-clause-kept
returns-in_err-push-clause-kept c = λ qp all found. subst (All (IsKeptDirection qp)) (sym c.in_err-push.ensures.items) (c.room_at-at.ensures.kept qp all)

pub returns-in_err-insert-clause-kept : goal.returns-in_err-insert-clause-kept
returns-in_err-insert-clause-kept c = λ qp all found.
    subst (All (IsKeptDirection qp)) (sym c.in_ok-push.ensures.items) (kept_too qp c.room_at-at.new.directions.items c.args.found (c.room_at-at.ensures.kept qp all) found)

pub returns-clause-kept : goal.returns-clause-kept
returns-clause-kept c = λ qp all found.
    subst (All (IsKeptDirection qp)) (sym c.in_ok-push.ensures.items) (kept_too qp c.room_at-at.new.directions.items c.args.found (c.room_at-at.ensures.kept qp all) found)

pub returns-clause-place : goal.returns-clause-place
returns-clause-place c =
    let before = c.room_at-at.new.directions in
    subst (λ k. IsKeptAt c.args.found.set c.args.found.row c.push.new.self.items k) (sym (c.len-place.ensures ∙ before.ok.0))
    (subst (λ (ds : List KeptDirection). IsKeptAt c.args.found.set c.args.found.row ds (length before.items)) (sym c.in_ok-push.ensures.items) (kept_last before.items c.args.found))
