use Rattle.std.proofs.Common.{◌≡◌, length, sym, subst, arith, rules, Vec, Global}
use Rattle.std.proofs.lemmas.Result.{IfOk-weaker}
use Rattle.std.specs.Prelude.{All, IfOk, slice_index_or}
use Rattle.mpc_tree.specs.declared.frontier.Piece.{Piece}
use Rattle.mpc_tree.specs.Pieces.{AreJoined, IsFiner, IsOpen, all_of}
use Rattle.mpc_tree.proofs.GroupLemmas.{group_open, groups_finer, groups_open}
use Rattle.mpc_tree.proofs.threads.AnyGrow.all_finer.Goals as goal

pub map_vec-requires-after_bounds : goal.map_vec-requires-after_bounds
map_vec-requires-after_bounds g c κs within = λ i x inside is.
    let qp = c.args.qp.now in
    let laws = c.args.laws.now in
    let groups = c.in_ok-groups.groups.items in
    let whole : All (IsOpen qp laws) (all_of groups) = subst (All (IsOpen qp laws)) (sym c.in_ok-groups.ensures) c.requires.open in
    let ready : All (IsOpen qp laws) x.items = subst (λ (v : Vec Piece Global). All (IsOpen qp laws) v.items) (sym is) (group_open qp laws groups whole i x inside) in
    search rules

pub returns-in-Ok-clause-open : goal.returns-in-Ok-clause-open
returns-in-Ok-clause-open g c =
    let qp = c.args.qp.now in
    let laws = c.args.laws.now in
    let groups = c.in_ok-groups.groups.items in
    let parts = c.in-Ok.groups.items in
    let as_many : length parts ≡ length groups = (let p = c.in-Ok.groups.ok in let s = c.in_ok-groups.groups.ok in omega (arith, p, s, c.in-Ok.ensures.len)) in
    IfOk-weaker c.joined_groups.result (λ v. AreJoined parts v.items) (λ v. All (IsOpen qp laws) v.items) (λ v j. groups_open qp laws parts v.items (λ i part inside.
    let job = (c.in-Ok.ensures.each i part (omega (arith, as_many, inside))).1 in
    let met = job.call.met in
    search rules) j) c.joined_groups.ensures

pub returns-in-Ok-clause-finer : goal.returns-in-Ok-clause-finer
returns-in-Ok-clause-finer g c =
    let qp = c.args.qp.now in
    let laws = c.args.laws.now in
    let groups = c.in_ok-groups.groups.items in
    let parts = c.in-Ok.groups.items in
    let as_many : length parts ≡ length groups = (let p = c.in-Ok.groups.ok in let s = c.in_ok-groups.groups.ok in omega (arith, p, s, c.in-Ok.ensures.len)) in
    IfOk-weaker c.joined_groups.result (λ v. AreJoined parts v.items) (λ v. IsFiner qp laws c.args.pieces.items v.items) (λ v j.
    subst (λ whole. IsFiner qp laws whole v.items) c.in_ok-groups.ensures (groups_finer qp laws groups parts v.items as_many (λ i group part inside.
    let job = (c.in-Ok.ensures.each i part inside).1 in
    let met = job.call.met in
    subst (λ (w : Vec Piece Global). IfOk (slice_index_or parts i part) (λ v. IsFiner qp laws w.items v.items)) (sym (job.job_is group)) (search rules)) j)) c.joined_groups.ensures
