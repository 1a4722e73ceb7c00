use Rattle.std.proofs.Common.{◌≡◌, ◌∷◌, [], ◌∙◌, sym, ap, subst, arith}
use Rattle.std.proofs.lemmas.Result.{IfOk-weaker}
use Rattle.std.specs.Prelude.{All}
use Rattle.mpc_tree.specs.declared.frontier.Piece.TheVariants.{Closed, Open, Refused}
use Rattle.mpc_tree.specs.Growth.{IsSplitAt, cell_of}
use Rattle.mpc_tree.specs.Pieces.{AreSides, IsOpen, IsFiner}
use Rattle.mpc_tree.proofs.CellRuns.{row_fits}
use Rattle.mpc_tree.proofs.Dividing.{place_within, plain_read}
use Rattle.mpc_tree.proofs.Sides.{same_row, split_open, split_finer, one_open}
use Rattle.mpc_tree.proofs.PieceLemmas.{finer_one, leaf_becomes, node_refused}
use Rattle.mpc_tree.proofs.frontier.divided_cell.Goals as goal

pub split-requires-clause-width : goal.split-requires-clause-width
split-requires-clause-width c =
    let s : IsSplitAt c.args.qp.now c.args.laws.now c.args.borders.now (cell_of c.args.parent) c.in-Ok-Split.place c.in-Ok-Split.row = (rw c.in-Ok-Split.field-0-is at c.in-Ok-Split.ensures.placed).0 in
    let row = same_row c.args.qp.now c.args.laws.now c.args.borders.now c.requires.borders (cell_of c.args.parent) c.in-Ok-Split.place c.in-Ok-Split.row s c.index-borders-place.result c.as_slice.result.now c.index-as_slice-row.result c.index-borders-place.is c.as_slice.ensures c.index-as_slice-row.is in
    row_fits c.args.qp.now c.args.parent.cell.rows.items c.args.parent.cell.run c.requires.parent.run c.index-as_slice-row.result (plain_read c.args.qp.now c.args.laws.now c.args.borders.now c.requires.borders (cell_of c.args.parent) c.in-Ok-Split.place c.in-Ok-Split.row s c.index-as_slice-row.result row).size

pub split-requires-clause-room : goal.split-requires-clause-room
split-requires-clause-room c =
    let s : IsSplitAt c.args.qp.now c.args.laws.now c.args.borders.now (cell_of c.args.parent) c.in-Ok-Split.place c.in-Ok-Split.row = (rw c.in-Ok-Split.field-0-is at c.in-Ok-Split.ensures.placed).0 in
    omega (arith, place_within c.args.qp.now c.args.laws.now c.args.borders.now c.requires.borders (cell_of c.args.parent) c.in-Ok-Split.place c.in-Ok-Split.row s, c.requires.few)

pub returns-in-Ok-Split-clause-open : goal.returns-in-Ok-Split-clause-open
returns-in-Ok-Split-clause-open c =
    let s : IsSplitAt c.args.qp.now c.args.laws.now c.args.borders.now (cell_of c.args.parent) c.in-Ok-Split.place c.in-Ok-Split.row = (rw c.in-Ok-Split.field-0-is at c.in-Ok-Split.ensures.placed).0 in
    let row = same_row c.args.qp.now c.args.laws.now c.args.borders.now c.requires.borders (cell_of c.args.parent) c.in-Ok-Split.place c.in-Ok-Split.row s c.index-borders-place.result c.as_slice.result.now c.index-as_slice-row.result c.index-borders-place.is c.as_slice.ensures c.index-as_slice-row.is in
    IfOk-weaker c.split.result (λ v. AreSides c.args.parent c.index-as_slice-row.result c.in-Ok-Split.run' c.in-Ok-Split.place v.items) (λ v. All (IsOpen c.args.qp.now c.args.laws.now) v.items)
    (λ v p. split_open c.args.qp.now c.args.laws.now c.args.borders.now c.requires.borders c.args.parent c.in-Ok-Split.place c.in-Ok-Split.row s c.index-as_slice-row.result row c.in-Ok-Split.run' v.items p c.requires.parent c.cell_theorems.ensures (rw c.in-Ok-Split.field-0-is at c.in-Ok-Split.ensures.placed).1) c.split.ensures

pub returns-in-Ok-Split-clause-finer : goal.returns-in-Ok-Split-clause-finer
returns-in-Ok-Split-clause-finer c =
    let s : IsSplitAt c.args.qp.now c.args.laws.now c.args.borders.now (cell_of c.args.parent) c.in-Ok-Split.place c.in-Ok-Split.row = (rw c.in-Ok-Split.field-0-is at c.in-Ok-Split.ensures.placed).0 in
    let row = same_row c.args.qp.now c.args.laws.now c.args.borders.now c.requires.borders (cell_of c.args.parent) c.in-Ok-Split.place c.in-Ok-Split.row s c.index-borders-place.result c.as_slice.result.now c.index-as_slice-row.result c.index-borders-place.is c.as_slice.ensures c.index-as_slice-row.is in
    IfOk-weaker c.split.result (λ v. AreSides c.args.parent c.index-as_slice-row.result c.in-Ok-Split.run' c.in-Ok-Split.place v.items) (λ v. IsFiner c.args.qp.now c.args.laws.now (Open c.args.parent ∷ []) v.items)
    (λ v p. split_finer c.args.qp.now c.args.laws.now c.args.borders.now c.requires.borders c.args.parent c.in-Ok-Split.place c.in-Ok-Split.row s c.index-as_slice-row.result row c.in-Ok-Split.run' v.items p) c.split.ensures

pub returns-in-Ok-Leaf-clause-finer : goal.returns-in-Ok-Leaf-clause-finer
returns-in-Ok-Leaf-clause-finer c =
    IfOk-weaker c.one.result (λ v. v.items ≡ c.in_ok-closed-in-Ok-Leaf.field-0 ∷ []) (λ v. IsFiner c.args.qp.now c.args.laws.now (Open c.args.parent ∷ []) v.items)
    (λ v e. subst (IsFiner c.args.qp.now c.args.laws.now (Open c.args.parent ∷ [])) (sym (e ∙ ap (λ p. p ∷ []) c.in_ok-closed-in-Ok-Leaf.ensures)) (finer_one c.args.qp.now c.args.laws.now (Open c.args.parent) (Closed (c.in-Ok-Leaf.leaf ∷ [])) (leaf_becomes c.args.qp.now c.args.laws.now c.args.parent c.in-Ok-Leaf.leaf (rw c.in-Ok-Leaf.field-0-is at c.in-Ok-Leaf.ensures.placed)))) c.one.ensures

pub returns-in-Err-Wide-clause-open : goal.returns-in-Err-Wide-clause-open
returns-in-Err-Wide-clause-open c =
    IfOk-weaker c.one-in-Err-Wide.result (λ v. v.items ≡ Refused c.in-Err-Wide.place ∷ []) (λ v. All (IsOpen c.args.qp.now c.args.laws.now) v.items)
    (λ v e. one_open c.args.qp.now c.args.laws.now v.items (Refused c.in-Err-Wide.place) e tt) c.one-in-Err-Wide.ensures

pub returns-in-Err-Wide-clause-finer : goal.returns-in-Err-Wide-clause-finer
returns-in-Err-Wide-clause-finer c =
    IfOk-weaker c.one-in-Err-Wide.result (λ v. v.items ≡ Refused c.in-Err-Wide.place ∷ []) (λ v. IsFiner c.args.qp.now c.args.laws.now (Open c.args.parent ∷ []) v.items)
    (λ v e. subst (IsFiner c.args.qp.now c.args.laws.now (Open c.args.parent ∷ [])) (sym e) (finer_one c.args.qp.now c.args.laws.now (Open c.args.parent) (Refused c.in-Err-Wide.place) (node_refused c.args.qp.now c.args.laws.now c.args.parent c.in-Err-Wide.place (rw c.in-Err-Wide.field-0-is at c.in-Err-Wide.ensures.wide)))) c.one-in-Err-Wide.ensures
