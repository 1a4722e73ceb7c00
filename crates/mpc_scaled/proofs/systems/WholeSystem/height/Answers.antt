use Rattle.std.proofs.Common.{◌≡◌, ◌∙◌, length, sym, ap, arith}
use Rattle.mpc_rows.specs.LinearSystem.{height}
use Rattle.mpc_scaled.proofs.WholeSystems.{height_is}
use Rattle.mpc_scaled.proofs.systems.WholeSystem.height.Goals as goal

pub returns : goal.returns
returns c =
    let size : c.len.result ≡ length c.self.inside.lists.b.items = (let o = c.self.inside.lists.b.ok in let e = c.len.ensures in omega (arith, o, e)) in
    size ∙ sym (height_is c.self.inside.lists c.self.invariant) ∙ ap height c.self.view_is
