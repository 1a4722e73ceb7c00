use Rattle.std.proofs.Common.{◌≡◌, ◌<◌, length, None, sym, ap, subst}
use Rattle.std.specs.Prelude.{All}
use Rattle.std.proofs.lemmas.List.{length-map}
use Rattle.mpc_controller.specs.Replies.{first_outside}
use Rattle.mpc_table.specs.Steps.{AreSafe, WalksTo}
use Rattle.mpc_table.specs.SharedSteps.{action_at, actions_at, NamesRow}
use Rattle.mpc_table.specs.Lookup.{Lookup, IsTableOf}
use Rattle.mpc_table.specs.SharedLookup.{lookup_of}
use Rattle.mpc_table.specs.TableReplies.{CanMove}
use Rattle.mpc_table.proofs.SharedLemmas.{action_read}
use Rattle.mpc_table.proofs.ReplyLemmas.{none_outside, safe_up_to, last_not_branch, move_reply, infeasible_reply, can_move}
use Rattle.mpc_table.proofs.tables.Table.reply_at.Goals as goal

pub leaf_place-place-requires-clause-root : goal.leaf_place-place-requires-clause-root
leaf_place-place-requires-clause-root c =
    let t = c.self.inside in
    subst (λ steps. 0 < length steps) (sym c.as_slice-3.ensures.value) (subst (λ n. 0 < n) (length-map t.steps.items (action_at t.rows.items)) c.self.invariant.lookup.root)

pub leaf_place-place-requires-clause-named : goal.leaf_place-place-requires-clause-named
leaf_place-place-requires-clause-named c =
    let t = c.self.inside in
    subst (λ rows. All (NamesRow (length rows)) c.as_slice-3.result.now) (sym c.as_slice-2.ensures.value)
    (subst (All (NamesRow (length t.rows.items))) (sym c.as_slice-3.ensures.value) c.self.invariant.rows_named)

pub leaf_place-place-requires-clause-safe : goal.leaf_place-place-requires-clause-safe
leaf_place-place-requires-clause-safe c =
    let t = c.self.inside in
    let size : length c.args.counts.now ≡ length t.limits = subst (λ (x : Lookup). length c.args.counts.now ≡ length x.limits) (sym c.self.view_is) c.requires in
    let none : first_outside t.limits c.args.counts.now ≡ None = subst (λ limits. first_outside limits c.args.counts.now ≡ None) c.as_slice.ensures (sym c.in_default.ensures) in
    subst (λ rows. AreSafe c.args.counts.now (actions_at rows c.as_slice-3.result.now) c.as_slice-4.result.now) (sym c.as_slice-2.ensures.value)
    (subst (λ steps. AreSafe c.args.counts.now (actions_at t.rows.items steps) c.as_slice-4.result.now) (sym c.as_slice-3.ensures.value)
    (subst (AreSafe c.args.counts.now (actions_at t.rows.items t.steps.items)) (sym c.as_slice-4.ensures.value)
    (safe_up_to c.args.counts.now t.limits (actions_at t.rows.items t.steps.items) t.sides.items (none_outside 1 t.limits c.args.counts.now size none) c.self.invariant.lookup.safe)))

pub unreachable-requires : goal.unreachable-requires
unreachable-requires c =
    let t = c.self.inside in
    let walk : WalksTo (actions_at t.rows.items t.steps.items) t.sides.items c.args.counts.now c.leaf_place-place.result =
    subst (λ rows. WalksTo (actions_at rows t.steps.items) t.sides.items c.args.counts.now c.leaf_place-place.result) c.as_slice-2.ensures.value
    (subst (λ steps. WalksTo (actions_at c.as_slice-2.result.now steps) t.sides.items c.args.counts.now c.leaf_place-place.result) c.as_slice-3.ensures.value
    (subst (λ sides. WalksTo (actions_at c.as_slice-2.result.now c.as_slice-3.result.now) sides c.args.counts.now c.leaf_place-place.result) c.as_slice-4.ensures.value c.leaf_place-place.ensures)) in
    let inside : c.leaf_place-place.result < length t.steps.items = subst (λ n. c.leaf_place-place.result < n) (length-map t.steps.items (action_at t.rows.items)) walk.inside in
    last_not_branch (actions_at t.rows.items t.steps.items) c.leaf_place-place.result (action_at t.rows.items c.index.result.now) _ walk.inside walk.last (action_read t.rows.items t.steps.items c.leaf_place-place.result c.index.result.now inside c.index.ensures) (ap (action_at t.rows.items) c.in-Branch.is)

pub returns-in-Apply-clause-reply : goal.returns-in-Apply-clause-reply
returns-in-Apply-clause-reply c = λ parts is_table.
    let t = c.self.inside in
    let none : first_outside t.limits c.args.counts.now ≡ None = subst (λ limits. first_outside limits c.args.counts.now ≡ None) c.as_slice.ensures (sym c.in_default.ensures) in
    let walk : WalksTo (actions_at t.rows.items t.steps.items) t.sides.items c.args.counts.now c.leaf_place-place.result =
    subst (λ rows. WalksTo (actions_at rows t.steps.items) t.sides.items c.args.counts.now c.leaf_place-place.result) c.as_slice-2.ensures.value
    (subst (λ steps. WalksTo (actions_at c.as_slice-2.result.now steps) t.sides.items c.args.counts.now c.leaf_place-place.result) c.as_slice-3.ensures.value
    (subst (λ sides. WalksTo (actions_at c.as_slice-2.result.now c.as_slice-3.result.now) sides c.args.counts.now c.leaf_place-place.result) c.as_slice-4.ensures.value c.leaf_place-place.ensures)) in
    let inside : c.leaf_place-place.result < length t.steps.items = subst (λ n. c.leaf_place-place.result < n) (length-map t.steps.items (action_at t.rows.items)) walk.inside in
    move_reply (lookup_of t.limits t.inputs t.forms.items t.laws.items t.rows.items t.steps.items t.sides.items) c.args.counts.now c.leaf_place-place.result walk none (action_at t.rows.items c.index.result.now) (action_read t.rows.items t.steps.items c.leaf_place-place.result c.index.result.now inside c.index.ensures) c.in-Apply.law (ap (action_at t.rows.items) c.in-Apply.is) parts
    (subst (IsTableOf parts) (sym c.self.view_is) is_table)

pub returns-in-Apply-clause-writable : goal.returns-in-Apply-clause-writable
returns-in-Apply-clause-writable c =
    let t = c.self.inside in
    let size : length c.args.counts.now ≡ length t.limits = subst (λ (x : Lookup). length c.args.counts.now ≡ length x.limits) (sym c.self.view_is) c.requires in
    let none : first_outside t.limits c.args.counts.now ≡ None = subst (λ limits. first_outside limits c.args.counts.now ≡ None) c.as_slice.ensures (sym c.in_default.ensures) in
    let walk : WalksTo (actions_at t.rows.items t.steps.items) t.sides.items c.args.counts.now c.leaf_place-place.result =
    subst (λ rows. WalksTo (actions_at rows t.steps.items) t.sides.items c.args.counts.now c.leaf_place-place.result) c.as_slice-2.ensures.value
    (subst (λ steps. WalksTo (actions_at c.as_slice-2.result.now steps) t.sides.items c.args.counts.now c.leaf_place-place.result) c.as_slice-3.ensures.value
    (subst (λ sides. WalksTo (actions_at c.as_slice-2.result.now c.as_slice-3.result.now) sides c.args.counts.now c.leaf_place-place.result) c.as_slice-4.ensures.value c.leaf_place-place.ensures)) in
    let inside : c.leaf_place-place.result < length t.steps.items = subst (λ n. c.leaf_place-place.result < n) (length-map t.steps.items (action_at t.rows.items)) walk.inside in
    subst (λ (x : Lookup). CanMove x c.args.counts.now c.in-Apply.law) c.self.view_is
    (can_move (lookup_of t.limits t.inputs t.forms.items t.laws.items t.rows.items t.steps.items t.sides.items) c.args.counts.now c.leaf_place-place.result walk none (action_at t.rows.items c.index.result.now) (action_read t.rows.items t.steps.items c.leaf_place-place.result c.index.result.now inside c.index.ensures) c.in-Apply.law (ap (action_at t.rows.items) c.in-Apply.is) c.self.invariant.lookup.numbers size)

pub returns-in-Stop-clause-reply : goal.returns-in-Stop-clause-reply
returns-in-Stop-clause-reply c = λ parts is_table.
    let t = c.self.inside in
    let none : first_outside t.limits c.args.counts.now ≡ None = subst (λ limits. first_outside limits c.args.counts.now ≡ None) c.as_slice.ensures (sym c.in_default.ensures) in
    let walk : WalksTo (actions_at t.rows.items t.steps.items) t.sides.items c.args.counts.now c.leaf_place-place.result =
    subst (λ rows. WalksTo (actions_at rows t.steps.items) t.sides.items c.args.counts.now c.leaf_place-place.result) c.as_slice-2.ensures.value
    (subst (λ steps. WalksTo (actions_at c.as_slice-2.result.now steps) t.sides.items c.args.counts.now c.leaf_place-place.result) c.as_slice-3.ensures.value
    (subst (λ sides. WalksTo (actions_at c.as_slice-2.result.now c.as_slice-3.result.now) sides c.args.counts.now c.leaf_place-place.result) c.as_slice-4.ensures.value c.leaf_place-place.ensures)) in
    let inside : c.leaf_place-place.result < length t.steps.items = subst (λ n. c.leaf_place-place.result < n) (length-map t.steps.items (action_at t.rows.items)) walk.inside in
    infeasible_reply (lookup_of t.limits t.inputs t.forms.items t.laws.items t.rows.items t.steps.items t.sides.items) c.args.counts.now c.leaf_place-place.result walk none (action_at t.rows.items c.index.result.now) (action_read t.rows.items t.steps.items c.leaf_place-place.result c.index.result.now inside c.index.ensures) (ap (action_at t.rows.items) c.in-Stop.is) parts
    (subst (IsTableOf parts) (sym c.self.view_is) is_table)
