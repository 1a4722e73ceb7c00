use Rattle.std.proofs.Common.{◌≡◌, ℤ, ◌∙◌, ◌++◌, ◌∷◌, [], ap, sym, subst, false, length, arith}
use Rattle.mpc_rows.specs.LinearSystem.{LinearSystem}
use Rattle.mpc_rows.specs.LawRows.{whole_row}
use Rattle.mpc_scaled.specs.WholeSystems.{IsAdded}
use Rattle.mpc_scaled.proofs.Small.{read_small}
use Rattle.mpc_scaled.proofs.WholeSystems.{added_rows, added_lists, whole_length, copied_rows, copied_lists, cut_back, rows_stand}
use Rattle.mpc_scaled.proofs.systems.WholeSystem.push_small.Goals as goal
use Rattle.mpc_scaled.proofs.systems.WholeSystem.push_small.Goals.{In-Ok, After-len-height, After-cut}
use Rattle.mpc_scaled.specs.WholeSystems.{IsCopy}

wide : (c : In-Ok) → length (whole_row (record { a = c.args.entries.now; b = c.args.side })).a ≡ c.self.inside.lists.width
wide c = whole_length false (record { a = c.args.entries.now; b = c.args.side }) ∙ c.requires.width ∙ ap (λ (s : LinearSystem). s.width) (sym c.self.view_is)

added : (c : In-Ok) → IsAdded c.self.inside.lists c.add_small.new.lists (whole_row (record { a = c.args.entries.now; b = c.args.side }))
added c = subst (λ (z : ℤ). IsAdded c.self.inside.lists c.add_small.new.lists (whole_row (record { a = c.args.entries.now; b = z }))) (read_small c.args.side c.requires.side_small) c.in-Ok.ensures.added

pub invariant_of-self : goal.invariant_of-self
invariant_of-self c = added_lists c.self.inside.lists c.add_small.new.lists c.self.invariant c.in-Ok.ensures.kept (whole_row (record { a = c.args.entries.now; b = c.args.side })) (wide c) (added c)

pub returns-in-Ok-clause-ok : goal.returns-in-Ok-clause-ok
returns-in-Ok-clause-ok c =
    added_rows c.self.inside.lists c.add_small.new.lists c.self.invariant c.in-Ok.ensures.kept (whole_row (record { a = c.args.entries.now; b = c.args.side })) (wide c) (added c)
    ∙ ap (λ (s : LinearSystem). s.rows ++ whole_row (record { a = c.args.entries.now; b = c.args.side }) ∷ []) c.self.view_is

-- without memory all is as it was
height_is : (c : After-len-height) → c.len-height.result ≡ length c.self.inside.lists.b.items
height_is c = let o = c.self.inside.lists.b.ok in let e = c.len-height.ensures in omega (arith, o, e)

pub cut-requires : goal.cut-requires
cut-requires c =
    let at = goal.at.cut-requires c in
    rows_stand c.self.inside.lists c.add_small.new.lists c.len-height.result c.self.invariant c.add_small.ensures.kept (height_is at.After-len-height)

as_before : (c : After-cut) → c.len-height.result ≡ length c.self.inside.lists.b.items → IsCopy c.self.inside.lists c.cut.new.lists
as_before c e = cut_back c.self.inside.lists c.add_small.new.lists c.cut.new.lists c.len-height.result c.self.invariant c.add_small.ensures.kept c.cut.ensures e

pub invariant_of-self-in-Err : goal.invariant_of-self-in-Err
invariant_of-self-in-Err c =
    let at = goal.at.invariant_of-self-in-Err c in
    copied_lists c.self.inside.lists c.cut.new.lists c.self.invariant (as_before at.After-cut (height_is at.After-len-height))

pub returns-in-Err-clause-width : goal.returns-in-Err-clause-width
returns-in-Err-clause-width c =
    let at = goal.at.returns-in-Err-clause-width c in
    (as_before at.After-cut (height_is at.After-len-height)).width ∙ ap (λ (s : LinearSystem). s.width) c.self.view_is

pub returns-in-Err-clause-err : goal.returns-in-Err-clause-err
returns-in-Err-clause-err c =
    let at = goal.at.returns-in-Err-clause-err c in
    copied_rows c.self.inside.lists c.cut.new.lists c.self.invariant (as_before at.After-cut (height_is at.After-len-height)) ∙ ap (λ (s : LinearSystem). s.rows) c.self.view_is
