-- What is first at a cell is single: the law whose region meets it, and the row of that law that fails on it. A cell that is divided has no leaf.
use Rattle.std.proofs.Common.{◌≡◌, ℕ, ◌+◌, ◌<◌, List, length, sym, ◌∙◌, ap, subst, arith, Contains, Some, slice_get}
use Rattle.std.proofs.lemmas.Option.{slice_get_within, get_or_from_slice_get}
use Rattle.std.proofs.lemmas.List.Elements.{Contains-get_or}
use Rattle.mpc_linear.specs.declared.integers.RowInt.{RowInt}
use Rattle.mpc_rows.specs.declared.programs.Qp.{Qp}
use Rattle.mpc_rows.specs.declared.laws.Law.{Law}
use Rattle.mpc_rows.specs.declared.systems.Row.{Row}
use Rattle.mpc_rows.specs.declared.trees.Node.{Node}
use Rattle.mpc_rows.specs.declared.trees.Node.TheVariants.{Split, Law as LawLeaf, NoMove}
use Rattle.mpc_rows.specs.Laws.{IsLaw}
use Rattle.mpc_rows.specs.Candidates.{IsTable}
use Rattle.mpc_rows.specs.LawTheorems.{LawTheorems}
use Rattle.mpc_systems.specs.CellTheorems.{CellTheorems}
use Rattle.mpc_tree.specs.Cells.{LiesInRegion, NoneMeetsBefore, IsFirstToMeet, IsFirstToFail}
use Rattle.mpc_tree.specs.Trees.{Cell, Divides, IsOfLaw, IsLeafOf}
use Rattle.mpc_tree.specs.Certified.{AreLaws}
use Rattle.mpc_tree.proofs.CellPoints.{region_row}

-- the laws of a table
pub laws_of_table : (qp : Qp) (laws : List Law) → IsTable qp laws → AreLaws qp laws
laws_of_table qp laws table law at = (table.are_laws law at).verdict.2

pub same_place : (p q : ℕ) → (¬ (p < q)) → (¬ (q < p)) → p ≡ q
same_place p q h k = omega arith

-- one list has one element at a place
pub same_item : {A : Type 0} (xs : List A) (p q : ℕ) (x y : A) → p ≡ q → slice_get xs p ≡ Some x → slice_get xs q ≡ Some y → x ≡ y
same_item xs p q x y e h k = cc

pub is_member : {A : Type 0} (xs : List A) (p : ℕ) (x : A) → slice_get xs p ≡ Some x → Contains xs x
is_member xs p x h = subst (Contains xs) (get_or_from_slice_get xs p x x h) (Contains-get_or xs p x (slice_get_within xs p x h))

-- ---- the first law whose region meets the cell
module _ (qp : Qp) (laws : List Law) (cell : List Row) where
  pub one_first_place : (p q : ℕ) (a b : Law) → IsFirstToMeet qp laws cell p a → IsFirstToMeet qp laws cell q b → p ≡ q
  one_first_place p q a b f g = same_place p q (λ l. g.before p a l f.is f.meets) (λ l. f.before q b l g.is g.meets)

  pub one_first_law : (p q : ℕ) (a b : Law) → IsFirstToMeet qp laws cell p a → IsFirstToMeet qp laws cell q b → a ≡ b
  one_first_law p q a b f g = same_item laws p q a b (one_first_place p q a b f g) f.is g.is

  pub none_not_first : (p : ℕ) (a : Law) → IsFirstToMeet qp laws cell p a → ¬ NoneMeetsBefore qp laws cell (length laws)
  none_not_first p a f h = h p a (slice_get_within laws p a f.is) f.is f.meets

-- ---- the first row that fails on the cell
pub one_failing_row : (single : LawTheorems) (qp : Qp) (law : Law) (cell : List Row) (r s : RowInt) → IsFirstToFail qp law cell r → IsFirstToFail qp law cell s → r ≡ s
one_failing_row single qp law cell r s f g =
    let rows : f.rows ≡ g.rows = single.law_rows_unique qp law f.rows g.rows f.of_law g.of_law in
    let is : slice_get f.rows g.place ≡ Some s = ap (λ xs. slice_get xs g.place) rows ∙ g.is in
    let is_other : slice_get g.rows f.place ≡ Some r = ap (λ xs. slice_get xs f.place) (sym rows) ∙ f.is in
    let place : f.place ≡ g.place = same_place f.place g.place (λ l. g.before f.place r l is_other f.fails) (λ l. f.before g.place s l is g.fails) in
    same_item f.rows f.place g.place r s place f.is is

-- ---- no row of a law fails on a cell that lies in its region
pub fails_not_inside : (points : CellTheorems) (qp : Qp) (law : Law) → IsLaw qp law → (cell : List Row) (row : RowInt) → IsFirstToFail qp law cell row → ¬ LiesInRegion qp cell law
fails_not_inside points qp law is cell row f lies = f.fails.fails (region_row points qp law is f.rows f.of_law f.fails.state (lies.each f.fails.state f.fails.in_cell) f.place row f.is)

-- ---- a cell is divided once, or has a leaf of one law, or a leaf without a law
module _ (qp : Qp) (laws : List Law) (cell : Cell) where
  pub divides_once : LawTheorems → (p q : ℕ) (r s : RowInt) → Divides qp laws cell p r → Divides qp laws cell q s → (p ≡ q) × (r ≡ s)
  divides_once single p q r s d e =
      let law : e.law ≡ d.law = one_first_law qp laws cell.rows q p e.law d.law e.first d.first in (
        one_first_place qp laws cell.rows p q d.law e.law d.first e.first,
        one_failing_row single qp d.law cell.rows r s d.fails (subst (λ l. IsFirstToFail qp l cell.rows s) law e.fails),
      )

  pub divides_of_no_law : CellTheorems → AreLaws qp laws → (p number : ℕ) (r : RowInt) → Divides qp laws cell p r → ¬ IsOfLaw qp laws cell number
  divides_of_no_law points are p number r d l =
      let law : l.law ≡ d.law = one_first_law qp laws cell.rows l.place p l.law d.law l.first d.first in
      fails_not_inside points qp d.law (are d.law (is_member laws p d.law d.first.is)) cell.rows r d.fails (subst (LiesInRegion qp cell.rows) law l.lies_in)

  pub divides_not_leaf : CellTheorems → AreLaws qp laws → (p : ℕ) (r : RowInt) (node : Node) → Divides qp laws cell p r → ¬ IsLeafOf qp laws cell node
  divides_not_leaf points are p r (Split row) d h = h
  divides_not_leaf points are p r (LawLeaf number certs) d h = divides_of_no_law points are p number r d h
  divides_not_leaf points are p r (NoMove cert) d h = none_not_first qp laws cell.rows p d.law d.first h

  pub one_law : (m n : ℕ) → IsOfLaw qp laws cell m → IsOfLaw qp laws cell n → m ≡ n
  one_law m n k l =
      let place : k.place ≡ l.place = one_first_place qp laws cell.rows k.place l.place k.law l.law k.first l.first in
      k.number_is ∙ ap (λ p. p + 1) place ∙ sym l.number_is

  pub law_not_empty : (m : ℕ) → IsOfLaw qp laws cell m → ¬ NoneMeetsBefore qp laws cell.rows (length laws)
  law_not_empty m k = none_not_first qp laws cell.rows k.place k.law k.first
