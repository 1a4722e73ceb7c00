use Rattle.std.proofs.Common.{◌≡◌, ◌+◌, ◌-◌, ◌*◌, ◌≤◌, suc, sym, ◌∙◌, subst, length, arith, mul-le-mul_right}
use Rattle.std.specs.List.{between}
use Rattle.std.proofs.lemmas.List.Edits.{length-between}
use Rattle.mpc_region.specs.Refuters.{AreLines}
use Rattle.mpc_region.proofs.TableLines.{lines_more}
use Rattle.mpc_region.proofs.refuters.put_lines.Goals as goal
use borrow.Rule.Slice.PartMut.{put_mid}

pub loop-index-preserved : goal.loop-index-preserved
loop-index-preserved c =
    let k = c.loop-index.index in
    let lines = c.loop-index.lines in
    let new = c.put_line.new.line in
    let columns = length c.args.qp.now.counts + 1 in
    let last : suc k * columns ≤ length c.args.rows.now * columns = mul-le-mul_right columns c.loop-index-test.true in
    let inside : k * columns + columns ≤ length lines = (let s = c.requires.size in let a = c.loop-index.auto.lines in omega arith) in
    let part : length (between (k * columns) (k * columns + columns) lines) ≡ columns = length-between lines (k * columns) (k * columns + columns) inside ∙ omega arith in
    let long : length new ≡ columns = subst (λ n. length new ≡ length (between (k * (n + 1)) (k * (n + 1) + (n + 1)) lines)) c.len-columns.ensures c.put_line.auto.line ∙ part in
    subst (λ n. AreLines c.args.qp.now c.args.table.now c.args.rows.now (k + 1) (put_mid (k * (n + 1)) (k * (n + 1) + (n + 1) - k * (n + 1)) lines new)) (sym c.len-columns.ensures)
    (lines_more c.args.qp.now c.args.table.now c.args.rows.now k (k * columns + columns - k * columns) lines new long (omega arith) c.loop-index.invariant c.put_line.ensures)
