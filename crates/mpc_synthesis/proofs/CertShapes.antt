-- The leaves of a tree with its certificates have as many as a controller's leaves have, and each names rows of its leaf's system only.
use Rattle.std.proofs.Common.{◌≡◌, ℕ, suc, ◌+◌, ◌*◌, ◌<◌, ◌≤◌, List, [], ◌∷◌, ◌++◌, length, get_or, map, cond, true, false, ◌⊎◌, inl, inr, pos, refl, sym, ◌∙◌, subst, arith, append_assoc}
use Rattle.std.specs.Prelude.{All}
use Rattle.std.proofs.lemmas.Bool.{cond-true, cond-false, cases_Bool}
use Rattle.std.proofs.lemmas.List.{append-nil, length-append, length-map}
use Rattle.std.proofs.lemmas.List.FromFn.{length-map-range_with_len}
use Rattle.std.proofs.lemmas.List.Elements.{All-nil, All-cons, All-from_get_or}
use Rattle.std.proofs.lemmas.Option.{get_or_from_slice_get, slice_get-get_or}
use Rattle.mpc_exact.specs.Rational.{ℚ}
use Rattle.mpc_space.specs.Matrix.{height}
use Rattle.mpc_linear.specs.declared.integers.RowInt.{RowInt}
use Rattle.mpc_rows.specs.declared.programs.Qp.{Qp}
use Rattle.mpc_rows.specs.declared.laws.Law.{Law as LawOfSet}
use Rattle.mpc_rows.specs.declared.systems.Row.{Row}
use Rattle.mpc_rows.specs.declared.trees.Node.{Node}
use Rattle.mpc_rows.specs.declared.trees.Node.TheVariants.{Split, Law, NoMove}
use Rattle.mpc_rows.specs.LinearSystem.{LinearSystem}
use Rattle.mpc_rows.specs.Run.{is_zero}
use Rattle.mpc_rows.specs.LawRows.{whole_row, broken_row}
use Rattle.mpc_rows.specs.SetRuns.{box_from, box_rows, joint_row, joint_rows}
use Rattle.mpc_systems.specs.Writing.{widened}
use Rattle.mpc_systems.specs.Systems.{hold_system, joint_system}
use Rattle.mpc_tree.specs.Trees.{Cell, whole_box, yes_side, no_side, leaf, split}
use Rattle.mpc_tree.specs.LeafCerts.{nonzero_from, IsCertOf, AreCertsOf, AreLawCerts as AreItsCerts, HasItsCerts}
use Rattle.mpc_tree.specs.Certified.{IsCertified, MultipliersAreCert}
use Rattle.mpc_controller.specs.Certificates.{IsCertOver, cell_rows, AreLawCerts, HaveCerts}

-- ---- one certificate
-- the multipliers that aren't 0 stand at places of the list
nonzero_within : (rows p : ℕ) (ms : List ℚ) → p + length ms ≤ rows + 1 → All (λ (entry : ℕ × ℚ). entry.0 ≤ rows) (nonzero_from p ms)
nonzero_within rows p [] h = All-nil (λ (entry : ℕ × ℚ). entry.0 ≤ rows)
nonzero_within rows p (m ∷ ms) h = by (cases_Bool (is_zero m)) (nonzero_within rows (p + 1) ms (omega (arith, h)))
  where
    here : p ≤ rows
    here = omega (arith, h)

    by : (is_zero m ≡ true) ⊎ (is_zero m ≡ false) → All (λ (entry : ℕ × ℚ). entry.0 ≤ rows) (nonzero_from (p + 1) ms)
        → All (λ (entry : ℕ × ℚ). entry.0 ≤ rows) (cond (is_zero m) (nonzero_from (p + 1) ms) ((p, m) ∷ nonzero_from (p + 1) ms))
    by (inl e) later = subst (All (λ (entry : ℕ × ℚ). entry.0 ≤ rows)) (sym (cond-true (is_zero m) (nonzero_from (p + 1) ms) ((p, m) ∷ nonzero_from (p + 1) ms) e)) later
    by (inr e) later =
        subst (All (λ (entry : ℕ × ℚ). entry.0 ≤ rows)) (sym (cond-false (is_zero m) (nonzero_from (p + 1) ms) ((p, m) ∷ nonzero_from (p + 1) ms) e))
        (All-cons (λ (entry : ℕ × ℚ). entry.0 ≤ rows) (p, m) (nonzero_from (p + 1) ms) here later)

nonzero_over : MultipliersAreCert → (rows : ℕ) (ms : List ℚ) → length ms ≡ rows → IsCertOver rows (nonzero_from 1 ms)
nonzero_over certs_are rows ms e = record { is_cert = certs_are ms; within = nonzero_within rows 1 ms (omega (arith, e)) }

-- a certificate of a system names rows of it
over_system : MultipliersAreCert → (s : LinearSystem) (rows : ℕ) (cert : List (ℕ × ℚ)) → length s.rows ≡ rows → IsCertOf s cert → IsCertOver rows cert
over_system certs_are s rows cert e h = subst (IsCertOver rows) (sym h.is) (nonzero_over certs_are rows h.multipliers (h.ends.multipliers.size ∙ e))

-- ---- how many rows a leaf's system has
length-box_from : (width i : ℕ) (counts : List ℕ) → length (box_from width i counts) ≡ 2 * length counts
length-box_from width i [] = omega arith
length-box_from width i (count ∷ counts) = omega (arith, length-box_from width (suc i) counts)

length-one_more : (rows : List Row) (row : Row) → length (rows ++ row ∷ []) ≡ length rows + 1
length-one_more rows row = omega (arith, length-append rows (row ∷ []))

module _ (certs_are : MultipliersAreCert) (qp : Qp) (n m : ℕ) (states : length qp.counts ≡ n) (rows_are : height qp.g ≡ m) where
  length-hold : (cell : List Row) (row : RowInt) → length (hold_system qp cell row).rows ≡ cell_rows n (length cell) + 1
  unfolding hold_system
  length-hold cell row =
      let box = length-box_from (length qp.counts) 0 qp.counts in
      let whole = length-append (box_rows (length qp.counts) qp.counts) (cell ++ broken_row row ∷ []) in
      let more = length-one_more cell (broken_row row) in
      omega (arith, box, whole, more, states)

  length-joint : (cell : List Row) → length (joint_system qp cell).rows ≡ cell_rows n (length cell) + m
  unfolding joint_system
  length-joint cell =
      let width = length qp.counts + height qp.h in
      let box = length-box_from width 0 qp.counts in
      let whole = length-append (box_rows width qp.counts) (map (widened (height qp.h)) cell ++ joint_rows qp) in
      let later = length-append (map (widened (height qp.h)) cell) (joint_rows qp) in
      let path = length-map cell (widened (height qp.h)) in
      let program = length-map-range_with_len (joint_row qp) 1 (height qp.g) in
      omega (arith, box, whole, later, path, program, states, rows_are)

  -- ---- the certificates of a leaf
  over_hold : (cell : List Row) (rows : List RowInt) (upto : ℕ) (certs : List (List (ℕ × ℚ))) → length rows ≡ upto → AreCertsOf qp cell rows upto certs → All (IsCertOver (cell_rows n (length cell) + 1)) certs
  over_hold cell rows upto certs e h = All-from_get_or (IsCertOver (cell_rows n (length cell) + 1)) certs [] at
    where
      at : (i : ℕ) → i < length certs → IsCertOver (cell_rows n (length cell) + 1) (get_or certs i [])
      at i below =
          let row : RowInt = get_or rows i (record { a = []; b = pos 0 }) in
          let c = h.each i row (omega (arith, h.one_each)) (slice_get-get_or rows i (record { a = []; b = pos 0 }) (omega (arith, h.one_each))) in
          subst (IsCertOver (cell_rows n (length cell) + 1)) (sym (get_or_from_slice_get certs i c.0 [] c.1))
          (over_system certs_are (hold_system qp cell row) (cell_rows n (length cell) + 1) c.0 (length-hold cell row) c.2)

  law_certs : (laws : List LawOfSet) (cell : Cell) (number : ℕ) (certs : List (List (ℕ × ℚ))) → AreItsCerts qp laws cell number certs → AreLawCerts n m (length cell.rows) certs
  law_certs laws cell number certs h = record {
    one_each = h.certs_are.one_each ∙ h.of_law.one_each ∙ rows_are;
    each = over_hold cell.rows h.rows (length h.rows) certs refl h.certs_are;
  }

  leaf_certs : (laws : List LawOfSet) (cell : Cell) (node : Node) (depths : List ℕ) (later : List Node) → HasItsCerts qp laws cell node → HaveCerts n m depths later → HaveCerts n m (length cell.rows ∷ depths) (node ∷ later)
  leaf_certs laws cell (Split row) depths later h rest = absurd h
  leaf_certs laws cell (Law number certs) depths later h rest = (law_certs laws cell number certs h, rest)
  leaf_certs laws cell (NoMove cert) depths later h rest = (over_system certs_are (joint_system qp cell.rows) (cell_rows n (length cell.rows) + m) cert (length-joint cell.rows) h, rest)

  -- ---- the certificates of a tree, before those of the trees behind it
  pub tree_certs : (laws : List LawOfSet) (cell : Cell) (nodes : List Node) → IsCertified qp laws cell nodes → (depths : List ℕ) (later : List Node) → HaveCerts n m depths later → HaveCerts n m (length cell.rows ∷ depths) (nodes ++ later)
  tree_certs laws cell _ (leaf _ node e) depths later rest = leaf_certs laws cell node depths later e.1 rest
  tree_certs laws cell _ (split _ place row one two d first second) depths later rest =
      let below : ℕ = length cell.rows + 1 in
      let behind : HaveCerts n m (below ∷ depths) (two ++ later) =
      subst (λ k. HaveCerts n m (k ∷ depths) (two ++ later)) (length-one_more cell.rows (broken_row row)) (tree_certs laws (no_side cell place row) two second depths later rest) in
      let both : HaveCerts n m (below ∷ below ∷ depths) (one ++ (two ++ later)) =
      subst (λ k. HaveCerts n m (k ∷ below ∷ depths) (one ++ (two ++ later))) (length-one_more cell.rows (whole_row row)) (tree_certs laws (yes_side cell place row) one first (below ∷ depths) (two ++ later) behind) in
      subst (HaveCerts n m (below ∷ below ∷ depths)) (sym (append_assoc one two later)) both

  -- the whole tree stands under no split
  pub whole_certs : (laws : List LawOfSet) (nodes : List Node) → IsCertified qp laws whole_box nodes → HaveCerts n m (0 ∷ []) nodes
  whole_certs laws nodes is = subst (HaveCerts n m (0 ∷ [])) (append-nil nodes) (tree_certs laws whole_box nodes is [] [] tt)
