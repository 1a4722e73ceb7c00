-- A cell of the upper part of the tree that is divided, as the code has it.
use Rattle.std.proofs.Common.{◌≡◌, ℕ, List, get_or, [], ◌∷◌, ◌++◌, sym, ◌∙◌, ap, subst, subst₂, Option}
use Rattle.std.specs.Prelude.{All}
use Rattle.std.proofs.lemmas.List.Elements.{All-nil, All-cons}
use Rattle.mpc_linear.specs.declared.integers.RowInt.{RowInt}
use Rattle.mpc_rows.specs.declared.programs.Qp.{Qp}
use Rattle.mpc_rows.specs.declared.laws.Law.{Law}
use Rattle.mpc_rows.specs.declared.trees.Node.TheVariants.{Split}
use Rattle.mpc_rows.specs.LinearSystem.{LinearSystem}
use Rattle.mpc_rows.specs.LawRows.{whole_row, broken_row}
use Rattle.mpc_systems.specs.CellTheorems.{CellTheorems}
use Rattle.mpc_tree.specs.declared.frontier.Piece.{Piece}
use Rattle.mpc_tree.specs.declared.frontier.Piece.TheVariants.{Closed, Open}
use Rattle.mpc_tree.specs.declared.runs.OpenCell.{OpenCell}
use Rattle.mpc_tree.specs.Borders.{AreBorders}
use Rattle.mpc_tree.specs.CellRuns.{IsRunOf}
use Rattle.mpc_tree.specs.Growth.{IsOpenCell, IsReady, IsSplitAt, cell_of}
use Rattle.mpc_tree.specs.Pieces.{AreSides, IsOpen, IsFiner}
use Rattle.mpc_tree.specs.Trees.{Cell}
use Rattle.mpc_tree.proofs.CellRuns.{narrowed}
use Rattle.mpc_tree.proofs.Dividing.{yes_ready, no_ready, rows_read, row_read}
use Rattle.mpc_tree.proofs.PieceLemmas.{finer_between, finer_split}

module _ (qp : Qp) (laws : List Law) (borders : List (List RowInt)) (are : AreBorders qp laws borders) (parent : OpenCell) (place i : ℕ) (s : IsSplitAt qp laws borders (cell_of parent) place i) (row : RowInt) (same : row ≡ s.row) (broken : Option LinearSystem) (pieces : List Piece) (p : AreSides parent row broken place pieces) where
  abbrev q : AreSides parent s.row broken place pieces
  q = subst (λ r. AreSides parent r broken place pieces) same p

  module _ (o : IsOpenCell qp laws parent) where
    yes_open : IsOpenCell qp laws q.yes
    yes_open =
        let rows : q.yes.cell.rows.items ≡ parent.cell.rows.items ++ whole_row s.row ∷ [] = ap (λ (c : Cell). c.rows) q.yes_cell in
        record {
          ready = subst (IsReady qp laws) (sym q.yes_cell) (yes_ready qp laws borders are (cell_of parent) place i s o.ready.width);
          run = subst (λ x. IsRunOf qp x q.yes.cell.run) (sym rows) (narrowed qp parent.cell.rows.items parent.cell.run o.run (whole_row s.row) q.yes.cell.run q.yes_run);
        }

    no_open : CellTheorems → IsRunOf qp (parent.cell.rows.items ++ broken_row s.row ∷ []) broken → IsOpenCell qp laws q.no
    no_open points fails =
        let rows : q.no.cell.rows.items ≡ parent.cell.rows.items ++ broken_row s.row ∷ [] = ap (λ (c : Cell). c.rows) q.no_cell in
        record {
          ready = subst (IsReady qp laws) (sym q.no_cell) (no_ready qp laws borders are (cell_of parent) place i s points o.ready.width);
          run = subst₂ (IsRunOf qp) (sym rows) (sym q.no_run) fails;
        }

    pub split_open : CellTheorems → IsRunOf qp (parent.cell.rows.items ++ broken_row s.row ∷ []) broken → All (IsOpen qp laws) pieces
    split_open points fails = subst (All (IsOpen qp laws)) (sym q.are)
        (All-cons (IsOpen qp laws) (Closed (Split s.row ∷ [])) (Open q.yes ∷ Open q.no ∷ []) tt (All-cons (IsOpen qp laws) (Open q.yes) (Open q.no ∷ []) yes_open (All-cons (IsOpen qp laws) (Open q.no) [] (no_open points fails) (All-nil (IsOpen qp laws)))))

  pub split_finer : IsFiner qp laws (Open parent ∷ []) pieces
  split_finer = subst (IsFiner qp laws (Open parent ∷ [])) (sym q.are) (finer_split qp laws parent place s.row s.divides q.yes q.no q.yes_cell q.no_cell)

-- the row, as it is read
pub same_row : (qp : Qp) (laws : List Law) (borders : List (List RowInt)) (are : AreBorders qp laws borders) (cell : Cell) (place i : ℕ) (s : IsSplitAt qp laws borders cell place i) (border slice : List RowInt) (row : RowInt) → border ≡ get_or borders place border → slice ≡ border → row ≡ get_or slice i row → row ≡ s.row
same_row qp laws borders are cell place i s border slice row b e r = row_read qp laws borders are cell place i s slice row (rows_read qp laws borders are cell place i s border slice b e) r

-- ---- a cell that isn't divided
pub one_open : (qp : Qp) (laws : List Law) (pieces : List Piece) (piece : Piece) → pieces ≡ piece ∷ [] → IsOpen qp laws piece → All (IsOpen qp laws) pieces
one_open qp laws pieces piece p o = subst (All (IsOpen qp laws)) (sym p) (All-cons (IsOpen qp laws) piece [] o (All-nil (IsOpen qp laws)))

-- ---- lists of pieces, as they are pushed
pub three : (e a b all : List Piece) (x y z : Piece) → e ≡ [] → a ≡ e ++ x ∷ [] → b ≡ a ++ y ∷ [] → all ≡ b ++ z ∷ [] → all ≡ x ∷ (y ∷ (z ∷ []))
three e a b all x y z n p q r = r ∙ ap (λ l. l ++ z ∷ []) (q ∙ ap (λ l. l ++ y ∷ []) (p ∙ ap (λ l. l ++ x ∷ []) n))

pub pushed_finer : (qp : Qp) (laws : List Law) (pieces done new rest left after : List Piece) (piece : Piece) → rest ≡ piece ∷ left → IsFiner qp laws pieces (done ++ rest) → IsFiner qp laws (piece ∷ []) new → after ≡ done ++ new → IsFiner qp laws pieces (after ++ left)
pushed_finer qp laws pieces done new rest left after piece e g h a =
    subst (λ l. IsFiner qp laws pieces (l ++ left)) (sym a) (finer_between qp laws pieces done new left piece (subst (λ r. IsFiner qp laws pieces (done ++ r)) e g) h)
