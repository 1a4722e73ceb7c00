use Rattle.std.proofs.Common.{◌≡◌, sym, ◌∙◌, ap, subst}
use Rattle.mpc_rows.specs.LinearSystem.{LinearSystem}
use Rattle.mpc_rows.specs.Run.{has_point, turn, last_position}
use Rattle.mpc_whole.specs.Underway.{turn_of}
use Rattle.mpc_beginnings.specs.Kept.{AreKept, IsFirstLater}
use Rattle.mpc_beginnings.proofs.Continued.{later_at_point, later_at_start}
use Rattle.mpc_beginnings.proofs.kept.KeptRun.first_later.Goals as goal

pub returns-in-Point : goal.returns-in-Point
returns-in-Point c =
    let r = c.self.inside in
    let d = c.last-last.result.now in
    let kept : AreKept r.system d.scales.items d.lists d.place d.end = subst (λ (t : LinearSystem). AreKept t d.scales.items d.lists d.place d.end) (sym c.self.view_is) c.last-last.ensures in
    let ends : turn r.system (last_position r.system) ≡ has_point = kept.kept.ended.turns ∙ ap turn_of c.in-Point.is in
    subst (λ (t : LinearSystem). IsFirstLater t c.variables.result) c.self.view_is (later_at_point r.system ends c.variables.result (c.variables.ensures ∙ kept.kept.lists.seated.each))

pub returns-in-Refuted : goal.returns-in-Refuted
returns-in-Refuted c = subst (λ (t : LinearSystem). IsFirstLater t c.unknowns.result) c.self.view_is (later_at_start c.self.inside.system c.unknowns.result c.unknowns.ensures)
