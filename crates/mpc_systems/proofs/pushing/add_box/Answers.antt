use Rattle.std.proofs.Common.{◌∙◌, length, ap, sym, pos, negsuc, false, arith}
use Rattle.mpc_exact.specs.Rational.{int}
use Rattle.mpc_space.proofs.Entries.{length-listed}
use Rattle.mpc_rows.specs.SetRuns.{axis}
use Rattle.mpc_systems.proofs.SystemRows.{box_pushed}
use Rattle.mpc_systems.proofs.Wholes.{count_back}
use Rattle.mpc_systems.proofs.pushing.add_box.Goals as goal

pub push-requires : goal.push-requires
push-requires c = ap (λ r. length r.a) c.in_ok-axis_row.ensures ∙ length-listed c.unknowns-width.result _ ∙ c.unknowns-width.ensures ∙ sym c.loop-coordinate.invariant.width

pub push-requires-in-loop-coordinate : goal.push-requires-in-loop-coordinate
push-requires-in-loop-coordinate c = ap (λ r. length r.a) c.in_ok-axis_row-2.ensures ∙ length-listed c.unknowns-width.result _ ∙ c.unknowns-width.ensures ∙ sym (c.push.ensures.width ∙ c.loop-coordinate.invariant.width)

pub loop-coordinate-preserved : goal.loop-coordinate-preserved
loop-coordinate-preserved c = record {
  width = c.push-in-loop-coordinate.ensures.width ∙ c.push.ensures.width ∙ c.loop-coordinate.invariant.width;
  rows = box_pushed c.args.system.now.width c.args.counts.now c.loop-coordinate.coordinate c.args.system.now.rows c.loop-coordinate.system.rows c.push.new.self.rows c.push-in-loop-coordinate.new.self.rows c.in_ok-axis_row.field-0 c.in_ok-axis_row-2.field-0
      (omega arith) c.loop-coordinate.invariant.rows c.in_ok-push.ensures.ok c.in_ok-push-2.ensures.ok
      (c.in_ok-axis_row.ensures ∙ (λ t. record { a = axis (c.unknowns-width.ensures t) c.loop-coordinate.coordinate (int (negsuc 0)); b = c.whole.ensures t; strict = false }))
      (c.in_ok-axis_row-2.ensures ∙ (λ t. record { a = axis (c.unknowns-width.ensures t) c.loop-coordinate.coordinate (int (pos 1)); b = (c.whole-count.ensures ∙ count_back c.at.result.now (omega arith) ∙ ap (λ k. int (pos k)) c.at.ensures) t; strict = false }));
}
