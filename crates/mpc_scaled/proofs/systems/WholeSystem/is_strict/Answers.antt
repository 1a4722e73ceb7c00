use Rattle.std.proofs.Common.{◌∙◌, ◌<◌, false, length, sym, ap, subst, arith}
use Rattle.std.proofs.lemmas.List.{get_or_read}
use Rattle.mpc_rows.specs.LinearSystem.{LinearSystem, height, row_at}
use Rattle.mpc_scaled.specs.WholeSystems.{system_of}
use Rattle.mpc_scaled.proofs.WholeSystems.{height_is, row_is}
use Rattle.mpc_scaled.proofs.systems.WholeSystem.is_strict.Goals as goal

pub index-requires : goal.index-requires
index-requires c =
    let l = c.self.inside.lists in
    let e = height_is l c.self.invariant in
    let s = c.self.invariant.strict_size in
    let r : c.args.row < height (system_of l) = subst (λ (u : LinearSystem). c.args.row < height u) (sym c.self.view_is) c.requires in
    omega arith

pub returns : goal.returns
returns c =
    let l = c.self.inside.lists in
    let e = height_is l c.self.invariant in
    let s = c.self.invariant.strict_size in
    let r : c.args.row < height (system_of l) = subst (λ (u : LinearSystem). c.args.row < height u) (sym c.self.view_is) c.requires in
    let b : c.args.row < length l.strict.items = omega arith in
    get_or_read l.strict.items c.args.row c.index.result.now b c.index.ensures false
    ∙ sym (ap (λ u. u.strict) (row_is l c.self.invariant c.args.row r)) ∙ ap (λ (u : LinearSystem). (row_at u c.args.row).strict) c.self.view_is
