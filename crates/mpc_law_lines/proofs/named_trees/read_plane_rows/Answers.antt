use Rattle.std.proofs.Common.{◌∙◌, ◌<◌, List, length, nat_lt, ap, sym, subst}
use Rattle.mpc_linear.specs.declared.integers.RowInt.{RowInt}
use Rattle.mpc_grammar.specs.Reading.{one_line, ReadsItems, no_item}
use Rattle.mpc_grammar.specs.TreeGrammar.{plane_rule}
use Rattle.mpc_law_lines.specs.PlaneReading.{AreLinesOf}
use Rattle.mpc_grammar.specs.Outcomes.{more_read, asks_for_more}
use Rattle.mpc_law_lines.proofs.TreeReading.{one_longer}
use Rattle.mpc_law_lines.proofs.PlaneLists.{no_lines, rows_error}
use Rattle.mpc_law_lines.proofs.named_trees.read_plane_rows.Goals as goal

pub loop-i-init : goal.loop-i-init
loop-i-init c =
    record {
      so_many = ap length c.new-planes.ensures;
      lines_are = no_lines c.new-before.result c.new-planes.result c.new-before.ensures c.new-planes.ensures;
      reads = subst (λ rows. ReadsItems RowInt (λ before. one_line (plane_rule c.args.plant.now before)) (λ before. nat_lt (length before) c.args.count) c.args.lines.now rows c.args.lines.now) (sym c.new-planes.ensures) no_item;
    }

pub returns-in_err-plane : goal.returns-in_err-plane
returns-in_err-plane c =
    rows_error c.args.plant.now c.args.count c.args.lines.now c.loop-i.lines c.read_plane.new.lines c.read_plane.new.lines c.loop-i.planes c.from_residual-in_err-plane.result c.in_err-plane.field-0.0 c.loop-i.invariant.reads
    (subst (λ n. n < c.args.count) (sym c.loop-i.invariant.so_many) c.loop-i-test.true)
    (c.in_err-plane.ensures.read c.args.plant.now c.loop-i.planes (c.as_slice.ensures ∙ c.in_ok-counts.ensures) c.loop-i.invariant.lines_are) c.from_residual-in_err-plane.ensures.1

pub loop-i-preserved : goal.loop-i-preserved
loop-i-preserved c =
    record {
      so_many = one_longer c.loop-i.planes c.push.new.self c.in_ok-plane.plane c.loop-i._i c.in_ok-push.ensures.ok c.loop-i.invariant.so_many;
      lines_are = subst (AreLinesOf c.read_plane.new.before) (sym c.in_ok-push.ensures.ok) (c.in_ok-plane.ensures.before c.loop-i.planes c.loop-i.invariant.lines_are);
      reads = more_read (λ (before : List RowInt). one_line (plane_rule c.args.plant.now before)) (λ (before : List RowInt). nat_lt (length before) c.args.count) c.args.lines.now c.loop-i.lines c.read_plane.new.lines c.loop-i.planes c.push.new.self c.in_ok-plane.plane
          c.loop-i.invariant.reads (asks_for_more c.loop-i.planes c.args.count (subst (λ n. n < c.args.count) (sym c.loop-i.invariant.so_many) c.loop-i-test.true))
          (c.in_ok-plane.ensures.read c.args.plant.now c.loop-i.planes (c.as_slice.ensures ∙ c.in_ok-counts.ensures) c.loop-i.invariant.lines_are) c.in_ok-push.ensures.ok;
    }
