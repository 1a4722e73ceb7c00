use Rattle.std.proofs.Common.{◌≡◌, ◌∙◌, ◌++◌, ◌∷◌, [], length, sym, ap, subst, arith, cond, IfOk, OnErr}
use Rattle.mpc_rows.specs.LinearSystem.{LinearSystem}
use Rattle.mpc_scaled.specs.WholeSystems.{system_of, IsSettled}
use Rattle.mpc_scaled.proofs.WholeSystems.{rows_stand}
use Rattle.mpc_scaled.proofs.systems.WholeSystem.push.Goals as goal
use Rattle.mpc_scaled.proofs.systems.WholeSystem.push.Goals.{After-settle}

settled_row : (c : After-settle) → IsSettled c.self.inside.lists c.settle.new.lists (c.args.row.now) c.settle.result
settled_row c =
    let size : c.len-height.result ≡ length c.self.inside.lists.b.items = (let o = c.self.inside.lists.b.ok in let e = c.len-height.ensures in omega (arith, o, e)) in
    c.settle.ensures c.self.inside.lists (c.args.row.now) c.self.invariant (c.requires ∙ ap (λ (s : LinearSystem). s.width) (sym c.self.view_is)) size
    c.add_row-added.ensures.kept c.add_row-added.ensures.added

pub invariant_of-self : goal.invariant_of-self
invariant_of-self c = (settled_row c).lists

pub returns-clause-width : goal.returns-clause-width
returns-clause-width c = (settled_row c).width ∙ ap (λ (s : LinearSystem). s.width) c.self.view_is

pub returns-clause-ok : goal.returns-clause-ok
returns-clause-ok c =
    subst (λ (s : LinearSystem). IfOk c.settle.result (λ done. (system_of c.settle.new.lists).rows ≡ cond done (s.rows ++ c.args.row.now ∷ []) s.rows)) c.self.view_is (settled_row c).ok

pub returns-clause-err : goal.returns-clause-err
returns-clause-err c = subst (λ (s : LinearSystem). OnErr c.settle.result ((system_of c.settle.new.lists).rows ≡ s.rows)) c.self.view_is (settled_row c).err

pub settle-requires : goal.settle-requires
settle-requires c =
    let size : c.len-height.result ≡ length c.self.inside.lists.b.items = (let o = c.self.inside.lists.b.ok in let e = c.len-height.ensures in omega (arith, o, e)) in
    rows_stand c.self.inside.lists c.add_row-added.new.lists c.len-height.result c.self.invariant c.add_row-added.ensures.kept size
