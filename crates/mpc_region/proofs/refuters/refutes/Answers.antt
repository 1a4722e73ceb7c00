use Rattle.std.proofs.Common.{◌≡◌, ◌+◌, ◌∙◌, ap, subst, length, take, arith}
use Rattle.std.proofs.lemmas.List.{length-take-le}
use Rattle.mpc_minors.specs.Lines.{HaveNoPoint}
use Rattle.mpc_region.proofs.TableLines.{none_meet}
use Rattle.mpc_region.proofs.refuters.refutes.Goals as goal

pub returns : goal.returns
returns c = λ e.
    let rows = take (c.len-states.result + 1) c.args.refuter.now.rows in
    let count : length rows ≡ length c.args.qp.now.counts + 1 = length-take-le (c.len-states.result + 1) c.args.refuter.now.rows (omega arith) ∙ ap (λ n. n + 1) c.len-states.ensures in
    none_meet c.args.qp.now c.args.table.now rows c.put_lines.new.lines count (c.are_rows.ensures c.if-not-are_rows.false) c.put_lines.ensures
    (subst (λ n. HaveNoPoint n c.put_lines.new.lines) c.len-states.ensures (c.have_no_point.ensures e))
