use Rattle.std.proofs.Common.{◌≡◌, ◌-◌, ◌++◌, length, get_or, map, sym, subst}
use Rattle.std.specs.Prelude.{All}
use Rattle.std.specs.List.{join_with_byte}
use Rattle.std.proofs.lemmas.Result.{on_ok_weaker}
use Rattle.mpc_frac.specs.Text.{text_of}
use Rattle.mpc_table.specs.Forms.{affine_values, IsBounded}
use Rattle.mpc_table.specs.Lookup.{Lookup, IsTableOf}
use Rattle.mpc_table.specs.SharedForms.{forms_at, AreBelow}
use Rattle.mpc_table.specs.SharedLookup.{lookup_of}
use Rattle.mpc_table.specs.TableReplies.{IsReply, IsWritable, CanMove}
use Rattle.mpc_table.proofs.ReadLemmas.{law_read, places_below, law_bounded}
use Rattle.mpc_table.proofs.ReplyLemmas.{reread}
use Rattle.mpc_table.proofs.AnswerLemmas.{move_answer, infeasible_answer, outside_answer}
use Rattle.mpc_table.proofs.tables.Table.write_reply.Goals as goal

pub write_values-requires-clause-below : goal.write_values-requires-clause-below
write_values-requires-clause-below c =
    let t = c.self.inside in
    let can : CanMove (lookup_of t.limits t.inputs t.forms.items t.laws.items t.rows.items t.steps.items t.sides.items) c.args.counts.now c.in-Move.law =
    subst (λ (x : Lookup). CanMove x c.args.counts.now c.in-Move.law) (sym c.self.view_is) (subst (IsWritable c.args.self.now c.args.counts.now) c.in-Move.is c.requires) in
    let read : c.as_slice-places.result.now ≡ get_or t.laws.items (c.in-Move.law - 1) c.as_slice-places.result.now = reread t.laws.items (c.in-Move.law - 1) c.index.result.now c.as_slice-places.result.now c.as_slice-places.ensures c.index.ensures in
    subst (λ forms. AreBelow (length forms) c.as_slice-places.result.now) (sym c.as_slice.ensures.value) (places_below t.limits c.args.counts.now t.inputs t.forms.items t.laws.items c.self.invariant.lookup.forms c.self.invariant.forms_named can.inside c.in-Move.law can.from_first can.to_last c.as_slice-places.result.now read)

pub write_values-requires-clause-bounded : goal.write_values-requires-clause-bounded
write_values-requires-clause-bounded c =
    let t = c.self.inside in
    let can : CanMove (lookup_of t.limits t.inputs t.forms.items t.laws.items t.rows.items t.steps.items t.sides.items) c.args.counts.now c.in-Move.law =
    subst (λ (x : Lookup). CanMove x c.args.counts.now c.in-Move.law) (sym c.self.view_is) (subst (IsWritable c.args.self.now c.args.counts.now) c.in-Move.is c.requires) in
    let read : c.as_slice-places.result.now ≡ get_or t.laws.items (c.in-Move.law - 1) c.as_slice-places.result.now = reread t.laws.items (c.in-Move.law - 1) c.index.result.now c.as_slice-places.result.now c.as_slice-places.ensures c.index.ensures in
    subst (λ forms. All (IsBounded c.args.counts.now) (forms_at forms c.as_slice-places.result.now)) (sym c.as_slice.ensures.value) (law_bounded t.limits c.args.counts.now t.inputs t.forms.items t.laws.items c.self.invariant.lookup.forms c.self.invariant.forms_named can.inside c.in-Move.law can.from_first can.to_last c.as_slice-places.result.now read)

pub returns-in-Move-clause-ok : goal.returns-in-Move-clause-ok
returns-in-Move-clause-ok c =
    let t = c.self.inside in
    let can : CanMove (lookup_of t.limits t.inputs t.forms.items t.laws.items t.rows.items t.steps.items t.sides.items) c.args.counts.now c.in-Move.law =
    subst (λ (x : Lookup). CanMove x c.args.counts.now c.in-Move.law) (sym c.self.view_is) (subst (IsWritable c.args.self.now c.args.counts.now) c.in-Move.is c.requires) in
    let read : c.as_slice-places.result.now ≡ get_or t.laws.items (c.in-Move.law - 1) c.as_slice-places.result.now = reread t.laws.items (c.in-Move.law - 1) c.index.result.now c.as_slice-places.result.now c.as_slice-places.ensures c.index.ensures in
    on_ok_weaker c.write_values.result
    (λ added parts is_table is_reply. move_answer (lookup_of t.limits t.inputs t.forms.items t.laws.items t.rows.items t.steps.items t.sides.items) parts c.args.counts.now c.in-Move.node c.in-Move.law (forms_at t.forms.items c.as_slice-places.result.now) c.args.out.now.items c.write_values.new.out.items
    (subst (IsTableOf parts) (sym c.self.view_is) is_table) (subst (IsReply parts c.args.counts.now) c.in-Move.is is_reply) can (law_read t.limits c.args.counts.now t.inputs t.forms.items t.laws.items c.self.invariant.lookup.forms c.self.invariant.forms_named can.inside c.in-Move.law can.from_first can.to_last c.as_slice-places.result.now read)
    (subst (λ forms. c.write_values.new.out.items ≡ c.args.out.now.items ++ join_with_byte 32 (map text_of (affine_values (forms_at forms c.as_slice-places.result.now) c.args.counts.now))) c.as_slice.ensures.value added))
    c.write_values.ensures.ok

pub returns-in-Infeasible-clause-ok : goal.returns-in-Infeasible-clause-ok
returns-in-Infeasible-clause-ok c =
    on_ok_weaker c.add_text.result
    (λ added parts is_table is_reply. infeasible_answer parts c.args.counts.now c.in-Infeasible.node c.args.out.now.items c.add_text.new.text.items (subst (IsReply parts c.args.counts.now) c.in-Infeasible.is is_reply) added)
    c.add_text.ensures.ok

pub returns-in-Outside-clause-ok : goal.returns-in-Outside-clause-ok
returns-in-Outside-clause-ok c =
    on_ok_weaker c.write_outside.result
    (λ added parts is_table is_reply. outside_answer parts c.args.counts.now c.in-Outside.coordinate c.args.out.now.items c.write_outside.new.out.items (subst (IsReply parts c.args.counts.now) c.in-Outside.is is_reply) added)
    c.write_outside.ensures.ok
