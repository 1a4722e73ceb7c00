use Rattle.std.proofs.Common.{◌≡◌, ◌↔◌, IsTrue, true, false, ℤ, pos, ◌<ℤ◌, refl, sym, ◌∙◌, subst}
use Rattle.mpc_systems.specs.Systems.{hold_system}
use Rattle.mpc_check.specs.Picks.{picked_system, weights}
use Rattle.mpc_controller.specs.Ways.{way_rows}
use Rattle.mpc_check.proofs.ColumnSums.{by_strict, by_side}
use Rattle.mpc_check.proofs.WholeSums.{read_sum}
use Rattle.mpc_check.proofs.whole_sums.is_refuted_in_wholes.Goals as goal

pub returns-then-is_zero-clause-answer : goal.returns-then-is_zero-clause-answer
returns-then-is_zero-clause-answer c =
    let s = picked_system (hold_system c.args.qp.now (way_rows c.args.tree.now c.args.way.now) c.args.row.now) c.args.cert.now in
    by_strict s (weights c.args.cert.now) c.in_ok-side.ensures.nonneg c.in_ok-zero.zero c.in_ok-zero.ensures.value c.in_ok-all.all c.in_ok-all.ensures.some c.in_ok-side.side c.in_ok-side.ensures.value c.if-not-zero.false
    (sym (read_sum c.in_ok-side.side c.in_ok-side.ensures.size) ∙ c.if-is_zero.ensures.0 refl) c.weighs_strict.result c.weighs_strict.ensures

pub returns-clause-answer : goal.returns-clause-answer
returns-clause-answer c =
    let s = picked_system (hold_system c.args.qp.now (way_rows c.args.tree.now c.args.way.now) c.args.row.now) c.args.cert.now in
    by_side s (weights c.args.cert.now) c.in_ok-side.ensures.nonneg c.in_ok-zero.zero c.in_ok-zero.ensures.value c.in_ok-all.all c.in_ok-all.ensures.some c.in_ok-side.side c.in_ok-side.ensures.value c.if-not-zero.false
    (λ e. different (c.if-is_zero.ensures.1 (read_sum c.in_ok-side.side c.in_ok-side.ensures.size ∙ e))) c.is_below_zero.result
    (subst (λ (z : ℤ). IsTrue c.is_below_zero.result ↔ (z <ℤ pos 0)) (read_sum c.in_ok-side.side c.in_ok-side.ensures.size) c.is_below_zero.ensures)
  where
    different : false ≡ true → ⊥
    different e = cc
