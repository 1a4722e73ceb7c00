use Rattle.std.proofs.Common.{◌≡◌, ◌∙◌, ◌≤◌, length, take, sym, ap, subst, arith}
use Rattle.std.proofs.lemmas.List.{take_all}
use Rattle.mpc_rows.specs.LinearSystem.{LinearSystem}
use Rattle.mpc_scaled.specs.WholeSystems.{system_of}
use Rattle.mpc_scaled.proofs.WholeSystems.{cut_rows, cut_lists, first_rows, height_is}
use Rattle.mpc_scaled.proofs.systems.WholeSystem.truncate.Goals as goal

pub returns-then-count-len-clause-rows : goal.returns-then-count-len-clause-rows
returns-then-count-len-clause-rows c =
    let l = c.self.inside.lists in
    let few : c.args.count ≤ length l.b.items = (let o = l.b.ok in let e = c.len.ensures in let h = c.if-count-len.true in omega (arith, o, e, h)) in
    cut_rows l c.cut.new.lists c.self.invariant c.args.count few c.cut.ensures ∙ ap (λ (s : LinearSystem). take c.args.count s.rows) c.self.view_is

pub returns-else-count-len-clause-rows : goal.returns-else-count-len-clause-rows
returns-else-count-len-clause-rows c =
    let l = c.self.inside.lists in
    let all : length (system_of l).rows ≤ c.args.count =
    (let o = l.b.ok in let e = c.len.ensures in let h = c.if-count-len.false in let q = height_is l c.self.invariant in omega (arith, o, e, h, q))
    in
    subst (λ (s : LinearSystem). s.rows ≡ take c.args.count s.rows) c.self.view_is (sym (take_all c.args.count (system_of l).rows all))

pub cut-requires : goal.cut-requires
cut-requires c =
    let l = c.self.inside.lists in
    let few : c.args.count ≤ length l.b.items = (let o = l.b.ok in let e = c.len.ensures in let h = c.if-count-len.true in omega (arith, o, e, h)) in
    first_rows l c.args.count c.self.invariant few

pub invariant_of-self : goal.invariant_of-self
invariant_of-self c =
    let l = c.self.inside.lists in
    let few : c.args.count ≤ length l.b.items = (let o = l.b.ok in let e = c.len.ensures in let h = c.if-count-len.true in omega (arith, o, e, h)) in
    cut_lists l c.cut.new.lists c.self.invariant c.args.count few c.cut.ensures
