-- The conditions on the leaves of a certified tree hold, whether or not their numbers fit.
use Rattle.std.proofs.Common.{◌≡◌, ℕ, ◌+◌, ◌<◌, List, [], length, get_or, Some, pos, sym, ◌∙◌, ap, subst, arith}
use Rattle.std.specs.Prelude.{slice_get}
use Rattle.std.proofs.lemmas.Option.{slice_get-get_or, same_Some}
use Rattle.mpc_exact.specs.Rational.{ℚ}
use Rattle.mpc_space.specs.Matrix.{height}
use Rattle.mpc_linear.specs.declared.integers.RowInt.{RowInt}
use Rattle.mpc_rows.specs.declared.programs.Qp.{Qp}
use Rattle.mpc_rows.specs.declared.laws.Law.{Law as LawOfSet}
use Rattle.mpc_rows.specs.declared.systems.Row.{Row}
use Rattle.mpc_rows.specs.declared.trees.Node.{Node}
use Rattle.mpc_rows.specs.declared.trees.Node.TheVariants.{Split, Law, NoMove}
use Rattle.mpc_rows.specs.LawRows.{IsLawRow}
use Rattle.mpc_controller.specs.PreorderTheorems.{JoinedSpell}
use Rattle.mpc_controller.specs.Walk.{IsLeaf}
use Rattle.mpc_controller.specs.Replies.{IsLawNumbered}
use Rattle.mpc_systems.specs.Systems.{hold_system, joint_system}
use Rattle.mpc_tree.specs.Trees.{Cell, whole_box}
use Rattle.mpc_tree.specs.LeafCerts.{AreLawCerts, HasItsCerts}
use Rattle.mpc_tree.specs.NodeRuns.{DividesAndFits, EndsAndFits}
use Rattle.mpc_tree.specs.Certified.{IsCertified}
use Rattle.mpc_check.specs.Certs.{CertRefutes}
use Rattle.mpc_controller.specs.Paths.{PathTo, OnePath}
use Rattle.mpc_check.specs.LeafConditions.{RowHolds}
use Rattle.mpc_synthesis.proofs.WholeCerts.{cert_refutes}
use Rattle.mpc_synthesis.proofs.LeafPaths.{leaf_at}

module _ (qp : Qp) (laws : List LawOfSet) where
  -- ---- a leaf behind the rows of its path
  abbrev pub NodeHolds : List Row → Node → Type 0
  NodeHolds path (Split row) = Unit {0}
  NodeHolds path (Law number certs) = (law : LawOfSet) → IsLawNumbered laws number law → (i : ℕ) → i < height qp.g → RowHolds qp path law certs i
  NodeHolds path (NoMove cert) = CertRefutes (joint_system qp path) cert

  no_row : RowInt
  no_row = record { a = []; b = pos 0 }

  law_holds : (cell : Cell) (number : ℕ) (certs : List (List (ℕ × ℚ))) → AreLawCerts qp laws cell number certs → (law : LawOfSet) → IsLawNumbered laws number law → (i : ℕ) → i < height qp.g → RowHolds qp cell.rows law certs i
  unfolding no_row
  law_holds cell number certs h law named i below =
      let at : slice_get laws h.place ≡ Some law = ap (slice_get laws) (omega (arith, h.number_is)) ∙ named in
      let same : h.law ≡ law = same_Some h.law law (sym h.is ∙ at) in
      let inside : i < length h.rows = omega (arith, h.of_law.one_each) in
      let c = h.certs_are.each i (get_or h.rows i no_row) inside (slice_get-get_or h.rows i no_row inside) in
      record {
        row = get_or h.rows i no_row;
        is_row = subst (λ (l : LawOfSet). IsLawRow qp l (i + 1) (get_or h.rows i no_row)) same (h.of_law.each i below);
        cert = c.0;
        is_cert = c.1;
        refutes = cert_refutes (hold_system qp cell.rows (get_or h.rows i no_row)) c.0 c.2;
      }

  node_holds : (cell : Cell) (node : Node) → HasItsCerts qp laws cell node → NodeHolds cell.rows node
  node_holds cell (Split row) h = absurd h
  node_holds cell (Law number certs) h = law_holds cell number certs h
  node_holds cell (NoMove cert) h = cert_refutes (joint_system qp cell.rows) cert h

  -- ---- each node of the tree
  abbrev Ends : Cell → Node → Type 0
  Ends cell node = EndsAndFits qp laws cell node × HasItsCerts qp laws cell node

  certified_leaf : (cell : Cell) (node : Node) → Ends cell node → IsLeaf node
  certified_leaf cell (Split row) e = absurd e.1
  certified_leaf cell (Law number certs) e = tt
  certified_leaf cell (NoMove cert) e = tt

  module _ (join : JoinedSpell) (one_path : OnePath) (nodes : List Node) (tree : IsCertified qp laws whole_box nodes) where
    leaf_holds : (place : ℕ) (path : List Row) (node : Node) → PathTo nodes place path → slice_get nodes place ≡ Some node → IsLeaf node → NodeHolds path node
    leaf_holds place path node leads at l =
        let a = leaf_at join (DividesAndFits qp laws) Ends certified_leaf nodes tree place node at l in
        subst (λ p. NodeHolds p node) (one_path nodes place a.cell.rows a.leads path leads) (node_holds a.cell node a.ends_here.1)

    pub nodes_hold : (place : ℕ) (path : List Row) (node : Node) → PathTo nodes place path → slice_get nodes place ≡ Some node → NodeHolds path node
    nodes_hold place path (Split row) leads at = tt
    nodes_hold place path (Law number certs) leads at = leaf_holds place path (Law number certs) leads at tt
    nodes_hold place path (NoMove cert) leads at = leaf_holds place path (NoMove cert) leads at tt
