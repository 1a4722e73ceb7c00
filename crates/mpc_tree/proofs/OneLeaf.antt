-- A cell has one leaf, with its certificates.
use Rattle.std.proofs.Common.{◌≡◌, ℕ, ◌<◌, List, [], length, get_or, pos, sym, ◌∙◌, ap, subst, arith, Some, slice_get}
use Rattle.std.proofs.lemmas.List.{ext_get_or}
use Rattle.std.proofs.lemmas.Option.{slice_get-get_or, get_or_from_slice_get}
use Rattle.mpc_exact.specs.Rational.{ℚ}
use Rattle.mpc_space.proofs.Entries.{same_entries}
use Rattle.mpc_linear.specs.declared.integers.RowInt.{RowInt}
use Rattle.mpc_rows.specs.declared.programs.Qp.{Qp}
use Rattle.mpc_rows.specs.declared.laws.Law.{Law}
use Rattle.mpc_rows.specs.declared.systems.Row.{Row}
use Rattle.mpc_rows.specs.declared.trees.Node.{Node}
use Rattle.mpc_rows.specs.declared.trees.Node.TheVariants.{Split, Law as LawLeaf, NoMove}
use Rattle.mpc_rows.specs.LinearSystem.{LinearSystem, height}
use Rattle.mpc_rows.specs.Run.{is_refuted, last_position}
use Rattle.mpc_rows.specs.LawRows.{AreLawRows}
use Rattle.mpc_rows.specs.LawTheorems.{LawTheorems}
use Rattle.mpc_simplex.specs.Answer.{IsMultipliers, EndsRefuted}
use Rattle.mpc_systems.specs.Systems.{hold_system, joint_system}
use Rattle.mpc_tree.specs.Trees.{Cell, IsLeafOf}
use Rattle.mpc_tree.specs.LeafCerts.{nonzero_from, IsCertOf, AreCertsOf, AreLawCerts, HasItsCerts}
use Rattle.mpc_tree.proofs.OneCell.{same_item, one_law, law_not_empty}

-- ---- a system has one certificate
refuted_once : (k l : ℕ) → is_refuted k ≡ is_refuted l → k ≡ l
refuted_once k l e = cc

pub one_end : (s : LinearSystem) (l m : List ℚ) → EndsRefuted s l → EndsRefuted s m → l ≡ m
one_end s l m h k =
    let row : h.row ≡ k.row = refuted_once h.row k.row (sym h.ends ∙ k.ends) in
    let other : IsMultipliers s (last_position s) h.row m = subst (λ r. IsMultipliers s (last_position s) r m) (sym row) k.multipliers in
    same_entries l m (h.multipliers.size ∙ sym other.size)
    (λ i within. let inside : i < height s = subst (λ n. i < n) h.multipliers.size within in h.multipliers.at i inside ∙ sym (other.at i inside))

pub one_cert : (s : LinearSystem) (c d : List (ℕ × ℚ)) → IsCertOf s c → IsCertOf s d → c ≡ d
one_cert s c d h k = h.is ∙ ap (nonzero_from 1) (one_end s h.multipliers k.multipliers h.ends k.ends) ∙ sym k.is

-- ---- the rows of a law have one list of certificates
abbrev nothing : RowInt
nothing = record { a = []; b = pos 0 }

abbrev blank : List (ℕ × ℚ)
blank = []

module _ (qp : Qp) (cell : List Row) (rows : List RowInt) (c d : List (List (ℕ × ℚ))) (h : AreCertsOf qp cell rows (length rows) c) (k : AreCertsOf qp cell rows (length rows) d) where
  cert_at : (e : List (List (ℕ × ℚ))) → AreCertsOf qp cell rows (length rows) e → (i : ℕ) (row : RowInt) → i < length rows → slice_get rows i ≡ Some row → IsCertOf (hold_system qp cell row) (get_or e i blank)
  cert_at e are i row within is =
      let found = are.each i row within is in
      subst (IsCertOf (hold_system qp cell row)) (sym (get_or_from_slice_get e i found.0 blank found.1)) found.2

  pub one_cert_list : c ≡ d
  one_cert_list =
      ext_get_or blank c d (h.one_each ∙ sym k.one_each)
      (λ i within.
      let inside : i < length rows = subst (λ n. i < n) h.one_each within in
      let row = get_or rows i nothing in
      let is = slice_get-get_or rows i nothing inside in
      one_cert (hold_system qp cell row) (get_or c i blank) (get_or d i blank) (cert_at c h i row inside is) (cert_at d k i row inside is))

module _ (qp : Qp) (laws : List Law) (cell : Cell) where
  one_law_certs : LawTheorems → (number : ℕ) (c d : List (List (ℕ × ℚ))) → AreLawCerts qp laws cell number c → AreLawCerts qp laws cell number d → c ≡ d
  one_law_certs single number c d h k =
      let place : k.place ≡ h.place = omega (arith, h.number_is, k.number_is) in
      let law : k.law ≡ h.law = same_item laws k.place h.place k.law h.law place k.is h.is in
      let rows : k.rows ≡ h.rows = single.law_rows_unique qp h.law k.rows h.rows (subst (λ l. AreLawRows qp l k.rows) law k.of_law) h.of_law in
      one_cert_list qp cell.rows h.rows c d h.certs_are (subst (λ xs. AreCertsOf qp cell.rows xs (length xs) d) rows k.certs_are)

  pub one_leaf : LawTheorems → (x y : Node) → IsLeafOf qp laws cell x → IsLeafOf qp laws cell y → HasItsCerts qp laws cell x → HasItsCerts qp laws cell y → x ≡ y
  one_leaf single (Split r) y h k c d = absurd h
  one_leaf single (LawLeaf m b) (Split s) h k c d = absurd k
  one_leaf single (LawLeaf m b) (LawLeaf n e) h k c d =
      let number : m ≡ n = one_law qp laws cell m n h k in
      let certs : b ≡ e = one_law_certs single m b e c (subst (λ j. AreLawCerts qp laws cell j e) (sym number) d) in
      λ i. LawLeaf (number i) (certs i)
  one_leaf single (LawLeaf m b) (NoMove e) h k c d = absurd (law_not_empty qp laws cell m h k)
  one_leaf single (NoMove b) (Split s) h k c d = absurd k
  one_leaf single (NoMove b) (LawLeaf n e) h k c d = absurd (law_not_empty qp laws cell n k h)
  one_leaf single (NoMove b) (NoMove e) h k c d = ap NoMove (one_cert (joint_system qp cell.rows) b e c d)
