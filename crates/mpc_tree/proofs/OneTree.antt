-- A cell has one tree, and at most one first run that is too wide.
use Rattle.std.proofs.Common.{◌≡◌, ℕ, suc, ◌+◌, List, [], ◌∷◌, ◌++◌, length, refl, sym, ◌∙◌, ap, subst}
use Rattle.std.proofs.lemmas.List.{length-append}
use Rattle.mpc_linear.specs.declared.integers.RowInt.{RowInt}
use Rattle.mpc_rows.specs.declared.programs.Qp.{Qp}
use Rattle.mpc_rows.specs.declared.laws.Law.{Law}
use Rattle.mpc_rows.specs.declared.trees.Node.{Node}
use Rattle.mpc_rows.specs.declared.trees.Node.TheVariants.{Split}
use Rattle.mpc_rows.specs.declared.places.Place.{Place}
use Rattle.mpc_rows.specs.LawTheorems.{LawTheorems}
use Rattle.mpc_systems.specs.CellTheorems.{CellTheorems}
use Rattle.mpc_tree.specs.Trees.{Cell, yes_side, no_side, leaf, split, IsTreeOf, Divides, IsLeafOf}
use Rattle.mpc_tree.specs.LeafCerts.{HasItsCerts}
use Rattle.mpc_tree.specs.NodeRuns.{DividesAndFits, EndsAndFits, IsFittingTree}
use Rattle.mpc_tree.specs.WideRuns.{IsFirstWide, here, in_yes, in_no}
use Rattle.mpc_tree.specs.Certified.{AreLaws, IsCertified, IsOwnTree}
use Rattle.mpc_tree.proofs.OneCell.{divides_once, divides_not_leaf}
use Rattle.mpc_tree.proofs.WideCells.{split_not_wide, leaf_not_wide, one_wide_at}
use Rattle.mpc_tree.proofs.OneLeaf.{one_leaf}
use Rattle.mpc_tree.proofs.TreeLemmas.{weakened}

pub fitting_of_certified : (qp : Qp) (laws : List Law) (cell : Cell) (nodes : List Node) → IsCertified qp laws cell nodes → IsFittingTree qp laws cell nodes
fitting_of_certified qp laws = weakened (DividesAndFits qp laws) (DividesAndFits qp laws) (λ cell node. EndsAndFits qp laws cell node × HasItsCerts qp laws cell node) (EndsAndFits qp laws) (λ cell place row d. d) (λ cell node e. e.0)

pub tree_of_fitting : (qp : Qp) (laws : List Law) (cell : Cell) (nodes : List Node) → IsFittingTree qp laws cell nodes → IsTreeOf qp laws cell nodes
tree_of_fitting qp laws = weakened (DividesAndFits qp laws) (Divides qp laws) (EndsAndFits qp laws) (IsLeafOf qp laws) (λ cell place row d. d.divides) (λ cell node e. e.ends)

pub tree_of_certified : (qp : Qp) (laws : List Law) (cell : Cell) (nodes : List Node) → IsCertified qp laws cell nodes → IsTreeOf qp laws cell nodes
tree_of_certified qp laws cell nodes t = tree_of_fitting qp laws cell nodes (fitting_of_certified qp laws cell nodes t)

pub own_of_certified : (qp : Qp) (laws : List Law) (cell : Cell) (nodes : List Node) → IsCertified qp laws cell nodes → IsOwnTree qp laws cell nodes
own_of_certified qp laws =
    weakened (DividesAndFits qp laws) (Divides qp laws) (λ cell node. EndsAndFits qp laws cell node × HasItsCerts qp laws cell node) (λ cell node. IsLeafOf qp laws cell node × HasItsCerts qp laws cell node) (λ cell place row d. d.divides) (λ cell node e. (e.0.ends, e.1))

-- ---- trees of one cell
module _ (P : Cell → Type 0) (cell : Cell) (p q : ℕ) (r s : RowInt) (same : (p ≡ q) × (r ≡ s)) where
  on_yes : P (yes_side cell p r) → P (yes_side cell q s)
  on_yes h = subst (λ n. P (yes_side cell n s)) same.0 (subst (λ k. P (yes_side cell p k)) same.1 h)

  on_no : P (no_side cell p r) → P (no_side cell q s)
  on_no h = subst (λ n. P (no_side cell n s)) same.0 (subst (λ k. P (no_side cell p k)) same.1 h)

module _ (single : LawTheorems) (points : CellTheorems) (qp : Qp) (laws : List Law) (are : AreLaws qp laws) where
  same_sides : (cell : Cell) (p q : ℕ) (r s : RowInt) → DividesAndFits qp laws cell p r → DividesAndFits qp laws cell q s → (p ≡ q) × (r ≡ s)
  same_sides cell p q r s d e = divides_once qp laws cell single p q r s d.divides e.divides

  no_leaf : (cell : Cell) (p : ℕ) (r : RowInt) (node : Node) → DividesAndFits qp laws cell p r → ¬ EndsAndFits qp laws cell node
  no_leaf cell p r node d e = divides_not_leaf qp laws cell points are p r node d.divides e.ends

  pub one_own_tree : (cell : Cell) (x y : List Node) → IsOwnTree qp laws cell x → IsOwnTree qp laws cell y → x ≡ y
  one_own_tree cell x y (leaf c a e) (leaf _ b f) = ap (λ n. n ∷ []) (one_leaf qp laws c single a b e.0 f.0 e.1 f.1)
  one_own_tree cell x y (leaf c a e) (split _ p r inside outside d s t) = absurd (divides_not_leaf qp laws c points are p r a d e.0)
  one_own_tree cell x y (split c p r inside outside d s t) (leaf _ b f) = absurd (divides_not_leaf qp laws c points are p r b d f.0)
  one_own_tree cell x y (split c p r inside outside d s t) (split _ q w left right e u v) =
      let same = divides_once qp laws c single q p w r e d in
      let first : inside ≡ left = one_own_tree (yes_side c p r) inside left s (on_yes (λ k. IsOwnTree qp laws k left) c q p w r same u) in
      let second : outside ≡ right = one_own_tree (no_side c p r) outside right t (on_no (λ k. IsOwnTree qp laws k right) c q p w r same v) in
      λ i. Split (sym same.1 i) ∷ (first i ++ second i)

  pub one_tree : (cell : Cell) (x y : List Node) → IsCertified qp laws cell x → IsCertified qp laws cell y → x ≡ y
  one_tree cell x y s t = one_own_tree cell x y (own_of_certified qp laws cell x s) (own_of_certified qp laws cell y t)

  one_length : (cell : Cell) (x y : List Node) → IsFittingTree qp laws cell x → IsFittingTree qp laws cell y → length x ≡ length y
  one_length cell x y (leaf c a e) (leaf _ b f) = refl
  one_length cell x y (leaf c a e) (split _ p r inside outside d s t) = absurd (no_leaf c p r a d e)
  one_length cell x y (split c p r inside outside d s t) (leaf _ b f) = absurd (no_leaf c p r b d f)
  one_length cell x y (split c p r inside outside d s t) (split _ q w left right e u v) =
      let same = same_sides c q p w r e d in
      let first : length inside ≡ length left = one_length (yes_side c p r) inside left s (on_yes (λ k. IsFittingTree qp laws k left) c q p w r same u) in
      let second : length outside ≡ length right = one_length (no_side c p r) outside right t (on_no (λ k. IsFittingTree qp laws k right) c q p w r same v) in
      ap suc (length-append inside outside ∙ (λ i. first i + second i) ∙ sym (length-append left right))

  -- ---- a tree whose runs all fit has no first run that is too wide
  pub fits_not_wide : (cell : Cell) (nodes : List Node) (number : ℕ) (place : Place) → IsFittingTree qp laws cell nodes → ¬ IsFirstWide qp laws cell number place
  fits_not_wide cell nodes number place (leaf c a e) (here _ n at w) = leaf_not_wide single qp laws c n a at e w
  fits_not_wide cell nodes number place (leaf c a e) (in_yes _ n q s at d w) = no_leaf c q s a d e
  fits_not_wide cell nodes number place (leaf c a e) (in_no _ n q s nodes' at d t w) = no_leaf c q s a d e
  fits_not_wide cell nodes number place (split c p r inside outside d s t) (here _ n at w) = split_not_wide single qp laws c p n r at d w
  fits_not_wide cell nodes number place (split c p r inside outside d s t) (in_yes _ n q o at e w) =
      let same = same_sides c q p o r e d in
      fits_not_wide (yes_side c p r) inside (n + 1) at s (on_yes (λ k. IsFirstWide qp laws k (n + 1) at) c q p o r same w)
  fits_not_wide cell nodes number place (split c p r inside outside d s t) (in_no _ n q o nodes' at e u w) =
      let same = same_sides c q p o r e d in
      fits_not_wide (no_side c p r) outside (n + 1 + length nodes') at t (on_no (λ k. IsFirstWide qp laws k (n + 1 + length nodes') at) c q p o r same w)

  -- ---- no two runs are the first that is too wide
  pub one_first_wide : (cell : Cell) (number : ℕ) (p q : Place) → IsFirstWide qp laws cell number p → IsFirstWide qp laws cell number q → p ≡ q
  one_first_wide cell number p q (here c n x v) (here _ _ y w) = one_wide_at single qp laws c n x y v w
  one_first_wide cell number p q (here c n x v) (in_yes _ _ at s y d w) = absurd (split_not_wide single qp laws c at n s x d v)
  one_first_wide cell number p q (here c n x v) (in_no _ _ at s nodes y d t w) = absurd (split_not_wide single qp laws c at n s x d v)
  one_first_wide cell number p q (in_yes c n at r x d v) (here _ _ y w) = absurd (split_not_wide single qp laws c at n r y d w)
  one_first_wide cell number p q (in_yes c n at r x d v) (in_yes _ _ bt s y e w) =
      let same = same_sides c bt at s r e d in
      one_first_wide (yes_side c at r) (n + 1) x y v (on_yes (λ k. IsFirstWide qp laws k (n + 1) y) c bt at s r same w)
  one_first_wide cell number p q (in_yes c n at r x d v) (in_no _ _ bt s nodes y e t w) =
      let same = same_sides c bt at s r e d in
      absurd (fits_not_wide (yes_side c at r) nodes (n + 1) x (on_yes (λ k. IsFittingTree qp laws k nodes) c bt at s r same t) v)
  one_first_wide cell number p q (in_no c n at r nodes x d t v) (here _ _ y w) = absurd (split_not_wide single qp laws c at n r y d w)
  one_first_wide cell number p q (in_no c n at r nodes x d t v) (in_yes _ _ bt s y e w) =
      let same = same_sides c bt at s r e d in
      absurd (fits_not_wide (yes_side c at r) nodes (n + 1) y t (on_yes (λ k. IsFirstWide qp laws k (n + 1) y) c bt at s r same w))
  one_first_wide cell number p q (in_no c n at r nodes x d t v) (in_no _ _ bt s others y e u w) =
      let same = same_sides c bt at s r e d in
      let size : length others ≡ length nodes = one_length (yes_side c at r) others nodes (on_yes (λ k. IsFittingTree qp laws k others) c bt at s r same u) t in
      one_first_wide (no_side c at r) (n + 1 + length nodes) x y v
      (subst (λ m. IsFirstWide qp laws (no_side c at r) (n + 1 + m) y) size (on_no (λ k. IsFirstWide qp laws k (n + 1 + length others) y) c bt at s r same w))
