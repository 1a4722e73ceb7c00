use Rattle.std.proofs.Common.{◌≡◌, ◌+◌, cond, ◌++◌, length, sym, ◌∙◌, ap, subst, Some, None, append_assoc}
use Rattle.std.specs.Prelude.{codes, if◌then◌else◌}
use Rattle.std.specs.Option.{is_some}
use Rattle.std.specs.BTreeMap.{get, btree_map_len}
use Rattle.std.specs.Ordering.{is_eq}
use Rattle.mpc_writing.specs.Writing.{ended}
use Rattle.mpc_grammar.specs.Digests.{digest}
use Rattle.mpc_writing.specs.Names.{key_cmp, AreNames, IsNamed}
use Rattle.mpc_writing.proofs.KeptTexts.{kept_then}
use Rattle.mpc_writing.proofs.NameLemmas.{is_found, named_before, named_behind}
use Rattle.mpc_writing.proofs.names.Names.number.Goals as goal

pub returns-in-Some-clause-named : goal.returns-in-Some-clause-named
returns-in-Some-clause-named c = λ lines are.
    let right : c.digest.result ≡ digest c.args.line.items = c.digest.ensures ∙ ap digest c.as_slice.ensures.value in
    named_before c.args.self.now lines c.args.line.items c.in-Some.number.now are (is_found c.args.self.now lines (c.digest.result, c.args.line) c.in-Some.number.now are right (sym c.in-Some.ensures.value))

pub returns-clause-named : goal.returns-clause-named
returns-clause-named c = λ lines are.
    let right : c.digest.result ≡ digest c.args.line.items = c.digest.ensures ∙ ap digest c.as_slice.ensures.value in
    let size : c.len.result + 1 ≡ length lines + 1 = ap (λ n. n + 1) (c.len.ensures.len ∙ are.count) in
    let absent : get key_cmp c.args.self.now.numbers (c.digest.result, c.args.line) ≡ None = sym c.in_default.ensures.value in
    let insert = c.in_ok-insert.ensures in
    let grown : btree_map_len c.insert.new.self ≡ length lines + 1 =
    insert.len ∙ ap (λ o. btree_map_len c.args.self.now.numbers + (if is_some o then 0 else 1)) (insert.old ∙ absent) ∙ ap (λ n. n + 1) are.count in
    let text : c.end_line.new.out.items ≡ c.args.self.now.text.items ++ ended c.args.line.items =
    c.in_ok-end_line.ensures.text ∙ ap (λ t. t ++ codes "\n") (c.in_ok-write_piece.ensures.text ∙ ap (λ s. c.args.self.now.text.items ++ s) c.as_slice-2.ensures.value) ∙ append_assoc c.args.self.now.text.items c.args.line.items (codes "\n") in
    subst (λ k. IsNamed lines c.args.line.items k (AreNames (record { numbers = c.insert.new.self; text = c.end_line.new.out }))) (sym size)
    (named_behind c.args.self.now (record { numbers = c.insert.new.self; text = c.end_line.new.out }) lines (c.digest.result, c.args.line) are right absent
    (λ q. insert.updates.0 q ∙ ap (λ k. cond (is_eq (key_cmp (c.digest.result, c.args.line) q)) (Some k) (get key_cmp c.args.self.now.numbers q)) size)
    grown text)

pub returns-in_err-end_line-clause-kept : goal.returns-in_err-end_line-clause-kept
returns-in_err-end_line-clause-kept c = kept_then _ _ _ c.write_piece.ensures.kept c.end_line.ensures.kept

pub returns-in_err-insert-clause-kept : goal.returns-in_err-insert-clause-kept
returns-in_err-insert-clause-kept c = kept_then _ _ _ c.write_piece.ensures.kept c.end_line.ensures.kept

pub returns-clause-kept : goal.returns-clause-kept
returns-clause-kept c = kept_then _ _ _ c.write_piece.ensures.kept c.end_line.ensures.kept
