use Rattle.std.proofs.Common.{◌≡◌, min, length, sym, ◌∙◌, ap, subst, arith}
use Rattle.std.proofs.lemmas.List.{with_items_is}
use Rattle.mpc_space.specs.Matrix.{height, entry}
use Rattle.mpc_bordered.specs.Kept.{IsFormedColumn}
use Rattle.mpc_bordered.proofs.Clearing.{done_formed, added_size, added_formed}
use Rattle.mpc_bordered.proofs.columns.columns.Goals as goal

pub loop-at_column-preserved : goal.loop-at_column-preserved
loop-at_column-preserved c =
    let t = entry c.args.table.now in
    let rows = height c.args.table.now in
    let ys = c.eliminate.new.column in
    let kept : length ys ≡ length c.deref_mut.result.now = c.eliminate.auto.column in
    let width : length c.deref_mut.result.now ≡ rows = ap length c.deref_mut.ensures.value ∙ c.in_ok-column.ensures.size in
    let lesser : c.lesser.result ≡ min c.loop-at_column.at_column c.args.front = c.lesser.ensures in
    let formed : IsFormedColumn t c.lesser.result c.loop-at_column.at_column ys =
    c.eliminate.ensures t c.args.front c.loop-at_column.at_column (omega arith)
    (done_formed t c.args.front rows c.loop-at_column.at_column c.loop-at_column.entries.items c.loop-at_column.invariant.size c.loop-at_column.invariant.formed c.lesser.result (length c.deref_mut.result.now) c.deref.result.now c.deref.ensures.value width (omega arith))
    (subst (IsFormedColumn t 0 c.loop-at_column.at_column) (sym c.deref_mut.ensures.value) c.in_ok-column.ensures.formed) in
    let same = c.deref-in-loop-at_column.ensures.value ∙ with_items_is c.in_ok-column.column ys (kept ∙ c.deref_mut.ensures.len) in
    record {
      size = added_size t c.args.front rows c.loop-at_column.at_column c.loop-at_column.entries.items c.loop-at_column.invariant.size c.loop-at_column.invariant.formed ys c.extend_from_slice.new.self.items c.deref-in-loop-at_column.result.now (kept ∙ width) c.in_ok-extend_from_slice.ensures.items same;
      formed = added_formed t c.args.front rows c.loop-at_column.at_column c.loop-at_column.entries.items c.loop-at_column.invariant.size c.loop-at_column.invariant.formed c.lesser.result ys c.extend_from_slice.new.self.items c.deref-in-loop-at_column.result.now lesser (kept ∙ width) formed c.in_ok-extend_from_slice.ensures.items same;
    }
