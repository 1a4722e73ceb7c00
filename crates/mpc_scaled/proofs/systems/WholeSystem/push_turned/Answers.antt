use Rattle.std.proofs.Common.{◌≡◌, ◌∙◌, ◌++◌, ◌∷◌, [], length, ap, subst, arith, cond, IfOk, OnErr}
use Rattle.mpc_rows.specs.declared.systems.Row.{Row}
use Rattle.mpc_rows.specs.LinearSystem.{LinearSystem, row_at}
use Rattle.mpc_rows.specs.SetRuns.{turned}
use Rattle.mpc_scaled.proofs.TurnedWhole.{in_lists, turned_wide, turned_row}
use Rattle.mpc_scaled.specs.WholeSystems.{kept_row, system_of, IsSettled}
use Rattle.mpc_scaled.proofs.WholeSystems.{rows_stand}
use Rattle.mpc_scaled.proofs.systems.WholeSystem.push_turned.Goals as goal
use Rattle.mpc_scaled.proofs.systems.WholeSystem.push_turned.Goals.{After-settle}

pub add_turned-added-requires-clause-row : goal.add_turned-added-requires-clause-row
add_turned-added-requires-clause-row c = in_lists c.self.inside.lists c.self.invariant c.args.self.now c.self.view_is c.args.row c.requires

settled_row : (c : After-settle) → IsSettled c.self.inside.lists c.settle.new.lists (turned (row_at c.args.self.now c.args.row)) c.settle.result
settled_row c =
    let l = c.self.inside.lists in
    let size : c.len-height.result ≡ length l.b.items = (let o = l.b.ok in let e = c.len-height.ensures in omega (arith, o, e)) in
    subst (λ (r : Row). IsSettled l c.settle.new.lists r c.settle.result) (turned_row l c.self.invariant c.args.self.now c.self.view_is c.args.row c.requires)
    (c.settle.ensures l (turned (kept_row l c.args.row)) c.self.invariant (turned_wide l c.self.invariant c.args.self.now c.self.view_is c.args.row c.requires) size c.add_turned-added.ensures.kept c.add_turned-added.ensures.added)

pub invariant_of-self : goal.invariant_of-self
invariant_of-self c = (settled_row c).lists

pub returns-clause-width : goal.returns-clause-width
returns-clause-width c = (settled_row c).width ∙ ap (λ (s : LinearSystem). s.width) c.self.view_is

pub returns-clause-ok : goal.returns-clause-ok
returns-clause-ok c =
    subst (λ (s : LinearSystem). IfOk c.settle.result (λ done. (system_of c.settle.new.lists).rows ≡ cond done (s.rows ++ turned (row_at c.args.self.now c.args.row) ∷ []) s.rows)) c.self.view_is (settled_row c).ok

pub returns-clause-err : goal.returns-clause-err
returns-clause-err c = subst (λ (s : LinearSystem). OnErr c.settle.result ((system_of c.settle.new.lists).rows ≡ s.rows)) c.self.view_is (settled_row c).err

pub settle-requires : goal.settle-requires
settle-requires c =
    let size : c.len-height.result ≡ length c.self.inside.lists.b.items = (let o = c.self.inside.lists.b.ok in let e = c.len-height.ensures in omega (arith, o, e)) in
    rows_stand c.self.inside.lists c.add_turned-added.new.lists c.len-height.result c.self.invariant c.add_turned-added.ensures.kept size
