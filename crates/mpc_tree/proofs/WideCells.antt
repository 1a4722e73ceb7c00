-- The runs of a node that all fit, against the first that is too wide: there is no such run beside them, and no two of them are first.
use Rattle.std.proofs.Common.{◌≡◌, ℕ, ◌+◌, ◌<◌, List, length, refl, sym, ◌∙◌, ap, subst, arith, Some, slice_get, inl, inr}
use Rattle.std.proofs.lemmas.Option.{slice_get_within}
use Rattle.mpc_linear.specs.declared.integers.RowInt.{RowInt}
use Rattle.mpc_rows.specs.declared.programs.Qp.{Qp}
use Rattle.mpc_rows.specs.declared.laws.Law.{Law}
use Rattle.mpc_rows.specs.declared.systems.Row.{Row}
use Rattle.mpc_rows.specs.declared.trees.Node.{Node}
use Rattle.mpc_rows.specs.declared.trees.Node.TheVariants.{Split, Law as LawLeaf, NoMove}
use Rattle.mpc_rows.specs.declared.places.Place.{Place}
use Rattle.mpc_rows.specs.declared.places.Place.TheVariants.{Meet, Holds}
use Rattle.mpc_rows.specs.RunWidth.{RunFits}
use Rattle.mpc_rows.specs.LawRows.{AreLawRows}
use Rattle.mpc_rows.specs.LawTheorems.{LawTheorems}
use Rattle.mpc_tree.specs.Cells.{FailsOn, NoneMeetsBefore, IsFirstToMeet}
use Rattle.mpc_systems.specs.Systems.{meet_system}
use Rattle.mpc_tree.specs.Trees.{Cell, IsOfLaw, IsLeafOf}
use Rattle.mpc_tree.specs.NodeRuns.{MeetsFit, HoldsFit, LawLeafFits, EmptyLeafFits, LeafFits, DividesAndFits, EndsAndFits}
use Rattle.mpc_tree.specs.WideRuns.{IsWideMeet, IsWideHold, IsWideRow, IsWideJoint, IsWideAt}
use Rattle.mpc_tree.proofs.OneCell.{same_place, same_item, one_first_place, one_first_law, none_not_first}

-- ---- the searches for a state of the cell in a region
module _ (single : LawTheorems) (qp : Qp) (laws : List Law) (cell : Cell) where
  -- none that fits is too wide
  pub meet_not_wide : (upto number : ℕ) → MeetsFit qp laws cell upto → (w : IsWideMeet qp laws cell number) → ¬ (w.place < upto)
  meet_not_wide upto number fit w below =
      let fits = fit w.place w.law w.reached below w.is_law in
      let rows : fits.rows ≡ w.rows = single.law_rows_unique qp w.law fits.rows w.rows fits.of_law w.of_law in
      w.wide (subst (λ xs. RunFits (meet_system qp cell.rows xs)) rows fits.fits)

  -- nor is one behind the first law whose region meets the cell
  pub meet_not_behind : (p number : ℕ) (law : Law) → IsFirstToMeet qp laws cell.rows p law → MeetsFit qp laws cell (p + 1) → ¬ IsWideMeet qp laws cell number
  meet_not_behind p number law first fit w =
      let behind : p < w.place = omega (arith, meet_not_wide (p + 1) number fit w) in
      w.none_before p law behind first.is first.meets

  pub meet_not_all : (number : ℕ) → MeetsFit qp laws cell (length laws) → ¬ IsWideMeet qp laws cell number
  meet_not_all number fit w = meet_not_wide (length laws) number fit w (slice_get_within laws w.place w.law w.is_law)

  pub one_wide_meet : (m n : ℕ) → IsWideMeet qp laws cell m → IsWideMeet qp laws cell n → m ≡ n
  one_wide_meet m n v w =
      let place : v.place ≡ w.place = same_place v.place w.place (meet_not_wide w.place m w.before v) (meet_not_wide v.place n v.before w) in
      v.number_is ∙ ap (λ p. p + 1) place ∙ sym w.number_is

-- ---- the searches for a state of the cell where a row fails
module _ (qp : Qp) (cell : List Row) (rows : List RowInt) where
  pub hold_not_wide : (upto number : ℕ) → HoldsFit qp cell rows upto → (w : IsWideHold qp cell rows number) → ¬ (w.place < upto)
  hold_not_wide upto number fit w below = w.wide (fit w.place w.row below w.is_row)

  pub one_wide_hold : (m n : ℕ) → IsWideHold qp cell rows m → IsWideHold qp cell rows n → m ≡ n
  one_wide_hold m n v w =
      let place : v.place ≡ w.place = same_place v.place w.place (hold_not_wide w.place m w.before v) (hold_not_wide v.place n v.before w) in
      v.number_is ∙ ap (λ p. p + 1) place ∙ sym w.number_is

  -- none is too wide up to a row that fails first
  pub hold_not_behind : (place at number : ℕ) (row : RowInt) → slice_get rows place ≡ Some row → FailsOn qp cell row → slice_get rows at ≡ Some row → HoldsFit qp cell rows (at + 1) → ((i : ℕ) (r : RowInt) → i < place → slice_get rows i ≡ Some r → ¬ FailsOn qp cell r) → ¬ IsWideHold qp cell rows number
  hold_not_behind place at number row is fails is_at fit before w =
      let late : ¬ (at < place) = λ l. before at row l is_at fails in
      let behind : place < w.place = omega (arith, hold_not_wide (at + 1) number fit w) in
      w.none_before place row behind is fails

-- ---- a node
module _ (single : LawTheorems) (qp : Qp) (laws : List Law) (cell : Cell) where
  pub row_not_wide : (number i p : ℕ) (law : Law) → IsFirstToMeet qp laws cell.rows p law → (rows : List RowInt) → AreLawRows qp law rows → (w : IsWideRow qp laws cell number i) → IsWideHold qp cell.rows rows i
  row_not_wide number i p law first rows are w =
      let laws_same : w.law ≡ law = one_first_law qp laws cell.rows w.place p w.law law w.first first in
      let rows_same : w.rows ≡ rows = single.law_rows_unique qp law w.rows rows (subst (λ l. AreLawRows qp l w.rows) laws_same w.of_law) are in
      subst (λ xs. IsWideHold qp cell.rows xs i) rows_same w.row

  -- the runs at a split
  split_not_row : (p number i : ℕ) (row : RowInt) → DividesAndFits qp laws cell p row → ¬ IsWideRow qp laws cell number i
  split_not_row p number i row d w =
      let fail = d.divides.fails in
      let law_same : d.fits.law ≡ d.divides.law = same_item laws p p d.fits.law d.divides.law refl d.fits.is_law d.divides.first.is in
      let of_law : AreLawRows qp d.divides.law d.fits.rows = subst (λ l. AreLawRows qp l d.fits.rows) law_same d.fits.of_law in
      let rows_same : d.fits.rows ≡ fail.rows = single.law_rows_unique qp d.divides.law d.fits.rows fail.rows of_law fail.of_law in
      let wide = row_not_wide number i p d.divides.law d.divides.first fail.rows fail.of_law w in
      let holds : HoldsFit qp cell.rows fail.rows (d.fits.row_place + 1) = subst (λ xs. HoldsFit qp cell.rows xs (d.fits.row_place + 1)) rows_same d.fits.holds in
      let is_row : slice_get fail.rows d.fits.row_place ≡ Some row = subst (λ xs. slice_get xs d.fits.row_place ≡ Some row) rows_same d.fits.is_row in
      hold_not_behind qp cell.rows fail.rows fail.place d.fits.row_place i row fail.is fail.fails is_row holds fail.before wide

  pub split_not_wide : (p number : ℕ) (row : RowInt) (place : Place) → DividesAndFits qp laws cell p row → ¬ IsWideAt qp laws cell number place
  split_not_wide p number row place d w = by w
    where
      by : IsWideAt qp laws cell number place → ⊥
      by (inl v) = meet_not_behind single qp laws cell p v.0 d.divides.law d.divides.first d.fits.meets v.2
      by (inr (inl v)) = split_not_row p v.0 v.1 row d v.3
      by (inr (inr v)) = none_not_first qp laws cell.rows p d.divides.law d.divides.first v.1.none

  -- the runs at a leaf with a law
  law_leaf_not_meet : (number law : ℕ) → IsOfLaw qp laws cell number → LawLeafFits qp laws cell number → ¬ IsWideMeet qp laws cell law
  law_leaf_not_meet number law l f =
      let place : f.place ≡ l.place = omega (arith, f.number_is, l.number_is) in
      meet_not_behind single qp laws cell l.place law l.law l.first (subst (λ p. MeetsFit qp laws cell (p + 1)) place f.meets)

  law_leaf_not_row : (number law i : ℕ) → IsOfLaw qp laws cell number → LawLeafFits qp laws cell number → ¬ IsWideRow qp laws cell law i
  law_leaf_not_row number law i l f w =
      let place : f.place ≡ l.place = omega (arith, f.number_is, l.number_is) in
      let same : f.law ≡ l.law = same_item laws f.place l.place f.law l.law place f.is_law l.first.is in
      let wide = row_not_wide law i l.place l.law l.first f.rows (subst (λ a. AreLawRows qp a f.rows) same f.of_law) w in
      hold_not_wide qp cell.rows f.rows (length f.rows) i f.holds wide (slice_get_within f.rows wide.place wide.row wide.is_row)

  law_leaf_not_wide : (of_law number : ℕ) (place : Place) → IsOfLaw qp laws cell of_law → LawLeafFits qp laws cell of_law → ¬ IsWideAt qp laws cell number place
  law_leaf_not_wide of_law number place l f w = by w
    where
      by : IsWideAt qp laws cell number place → ⊥
      by (inl v) = law_leaf_not_meet of_law v.0 l f v.2
      by (inr (inl v)) = law_leaf_not_row of_law v.0 v.1 l f v.3
      by (inr (inr v)) = none_not_first qp laws cell.rows l.place l.law l.first v.1.none

  -- the runs at a leaf without one
  empty_leaf_not_wide : (number : ℕ) (place : Place) → NoneMeetsBefore qp laws cell.rows (length laws) → EmptyLeafFits qp laws cell → ¬ IsWideAt qp laws cell number place
  empty_leaf_not_wide number place none f w = by w
    where
      by : IsWideAt qp laws cell number place → ⊥
      by (inl v) = meet_not_all single qp laws cell v.0 f.meets v.2
      by (inr (inl v)) = none_not_first qp laws cell.rows v.3.place v.3.law v.3.first none
      by (inr (inr v)) = v.1.wide f.joint

  pub leaf_not_wide : (number : ℕ) (node : Node) (place : Place) → EndsAndFits qp laws cell node → ¬ IsWideAt qp laws cell number place
  leaf_not_wide number node place e = by node e.ends e.fits
    where
      by : (node : Node) → IsLeafOf qp laws cell node → LeafFits qp laws cell node → ¬ IsWideAt qp laws cell number place
      by (Split row) l f = absurd l
      by (LawLeaf of_law certs) l f = law_leaf_not_wide of_law number place l f
      by (NoMove cert) l f = empty_leaf_not_wide number place l f

  -- ---- two first runs that are too wide
  meet_and_row : (m n i : ℕ) → IsWideMeet qp laws cell m → ¬ IsWideRow qp laws cell n i
  meet_and_row m n i v w = meet_not_behind single qp laws cell w.place m w.law w.first w.before v

  meet_and_joint : (m : ℕ) → IsWideMeet qp laws cell m → ¬ IsWideJoint qp laws cell
  meet_and_joint m v w = meet_not_all single qp laws cell m w.before v

  row_and_joint : (m i : ℕ) → IsWideRow qp laws cell m i → ¬ IsWideJoint qp laws cell
  row_and_joint m i v w = none_not_first qp laws cell.rows v.place v.law v.first w.none

  one_wide_row : (m n i j : ℕ) → IsWideRow qp laws cell m i → IsWideRow qp laws cell n j → (m ≡ n) × (i ≡ j)
  one_wide_row m n i j v w =
      let place : v.place ≡ w.place = one_first_place qp laws cell.rows v.place w.place v.law w.law v.first w.first in (
        v.number_is ∙ ap (λ p. p + 1) place ∙ sym w.number_is,
        one_wide_hold qp cell.rows v.rows i j v.row (row_not_wide n j v.place v.law v.first v.rows v.of_law w),
      )

  pub one_wide_at : (number : ℕ) (p q : Place) → IsWideAt qp laws cell number p → IsWideAt qp laws cell number q → p ≡ q
  one_wide_at number p q v w = by v w
    where
      by : IsWideAt qp laws cell number p → IsWideAt qp laws cell number q → p ≡ q
      by (inl v) (inl w) = v.1 ∙ ap (λ m. Meet number m) (one_wide_meet single qp laws cell v.0 w.0 v.2 w.2) ∙ sym w.1
      by (inl v) (inr (inl w)) = absurd (meet_and_row v.0 w.0 w.1 v.2 w.3)
      by (inl v) (inr (inr w)) = absurd (meet_and_joint v.0 v.2 w.1)
      by (inr (inl v)) (inl w) = absurd (meet_and_row w.0 v.0 v.1 w.2 v.3)
      by (inr (inl v)) (inr (inl w)) = let same = one_wide_row v.0 w.0 v.1 w.1 v.3 w.3 in v.2 ∙ (λ k. Holds number (same.0 k) (same.1 k)) ∙ sym w.2
      by (inr (inl v)) (inr (inr w)) = absurd (row_and_joint v.0 v.1 v.3 w.1)
      by (inr (inr v)) (inl w) = absurd (meet_and_joint w.0 w.2 v.1)
      by (inr (inr v)) (inr (inl w)) = absurd (row_and_joint w.0 w.1 w.3 v.1)
      by (inr (inr v)) (inr (inr w)) = v.0 ∙ sym w.0
