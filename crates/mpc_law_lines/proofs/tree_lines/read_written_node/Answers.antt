use Rattle.std.proofs.Common.{refl, codes}
use Rattle.mpc_rows.specs.declared.trees.Node.TheVariants.{Split}
use Rattle.mpc_law_lines.specs.declared.tree_lines.PlaneLine.TheVariants.{Plane, Wide, NoRow}
use Rattle.mpc_grammar.specs.TreeGrammar.{written_split, node_of}
use Rattle.mpc_law_lines.proofs.TreeReading.{plane_reads, split_reads, split_over, written_leaf}
use Rattle.mpc_law_lines.proofs.tree_lines.read_written_node.Goals as goal

pub returns-in-Plane : goal.returns-in-Plane
returns-in-Plane c =
    let p = plane_reads (codes "split") c.args.plant.now c.args.counts.now c.requires.limits c.in_ok-line.line.now c.in_ok-row.field-0 (Plane c.in-Plane.row) c.in-Plane.is c.in_ok-row.ensures in
    split_reads c.args.plant.now c.args.laws c.args.depth (written_split c.args.plant.now) (node_of (λ row. row)) c.args.lines.now c.take.new.self c.in_ok-line.line.now c.number-number.result c.number-number.ensures c.in_ok-line.ensures.taken
    c.in-Plane.row (Split c.in-Plane.row) p.0 (λ no. no p.1) refl

pub returns-in-Wide : goal.returns-in-Wide
returns-in-Wide c =
    let p = plane_reads (codes "split") c.args.plant.now c.args.counts.now c.requires.limits c.in_ok-line.line.now c.in_ok-row.field-0 Wide c.in-Wide.is c.in_ok-row.ensures in
    split_over c.args.plant.now c.args.laws c.args.depth (written_split c.args.plant.now) (node_of (λ row. row)) c.args.lines.now c.take.new.self c.in_ok-line.line.now c.number-number.result c.number-number.ensures c.in_ok-line.ensures.taken
    p.0 p.1.0 p.1.1

pub returns-in-NoRow : goal.returns-in-NoRow
returns-in-NoRow c =
    written_leaf c.args.plant.now c.args.laws c.args.depth c.args.lines.now c.take.new.self c.read_leaf.new.lines c.in_ok-line.line.now c.number-number.result c.number-number.ensures c.in_ok-line.ensures.taken
    (plane_reads (codes "split") c.args.plant.now c.args.counts.now c.requires.limits c.in_ok-line.line.now c.in_ok-row.field-0 NoRow c.in-NoRow.is c.in_ok-row.ensures)
    c.read_leaf.result c.read_leaf.ensures
