use Rattle.std.proofs.Common.{◌≡◌, ◌+◌, length, sym, ◌∙◌, ap, None}
use Rattle.std.specs.Prelude.{if◌then◌else◌}
use Rattle.std.specs.Option.{is_some}
use Rattle.std.specs.BTreeMap.{get, btree_map_len}
use Rattle.std.specs.Ordering.{int_cmp}
use Rattle.std.specs.Cmp.Lexicographic.{slice_cmp}
use Rattle.mpc_table.proofs.PlaceLemmas.{placed_before, placed_behind}
use Rattle.mpc_table.proofs.places.Places.place.Goals as goal

pub returns-in-Some-clause-placed : goal.returns-in-Some-clause-placed
returns-in-Some-clause-placed c = λ lines are. placed_before c.args.self.now lines c.args.line c.in-Some.place.now are (sym c.in-Some.ensures.value)

pub returns-clause-placed : goal.returns-clause-placed
returns-clause-placed c = λ lines are.
    let last : c.len-place.result ≡ length lines = c.len-place.ensures.len ∙ are.count in
    let absent : get (λ x y. slice_cmp int_cmp x.items y.items) c.args.self.now.places c.args.line ≡ None = sym c.in_default.ensures.value in
    let insert = c.in_ok-insert.ensures in
    let grown : btree_map_len c.insert.new.self ≡ length lines + 1 =
    insert.len ∙ ap (λ o. btree_map_len c.args.self.now.places + (if is_some o then 0 else 1)) (insert.old ∙ absent) ∙ ap (λ n. n + 1) are.count in
    placed_behind c.args.self.now (record { places = c.insert.new.self }) lines c.args.line c.len-place.result are absent last (λ q. insert.updates.0 q) grown
