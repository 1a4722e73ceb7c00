-- The table of a plant's program and the tree of that table, with its certificates, have the shapes of a controller's parts.
use Rattle.std.proofs.Common.{◌≡◌, ℕ, ◌+◌, ◌≤◌, List, [], ◌++◌, length, ◌∙◌, ap, subst, arith, All}
use Rattle.std.specs.Prelude.{Contains}
use Rattle.std.proofs.lemmas.List.{length-map}
use Rattle.std.proofs.lemmas.List.Elements.{All-nil, All-cons, All-append}
use Rattle.std.proofs.lemmas.Option.{slice_get_within}
use Rattle.mpc_space.specs.Matrix.{height}
use Rattle.mpc_sets.specs.RowSet.{IsSetOfRows}
use Rattle.mpc_linear.specs.declared.integers.RowInt.{RowInt}
use Rattle.mpc_linear.specs.PrimitiveRows.{SmallPrimitiveRow}
use Rattle.mpc_plant.specs.declared.plants.Plant.{Plant}
use Rattle.mpc_rows.specs.declared.programs.Qp.{Qp}
use Rattle.mpc_rows.specs.declared.laws.Law.{Law as LawOfSet}
use Rattle.mpc_rows.specs.declared.trees.Node.{Node}
use Rattle.mpc_rows.specs.declared.trees.Node.TheVariants.{Split, Law, NoMove}
use Rattle.mpc_linear.specs.Shape.{HasShape}
use Rattle.mpc_rows.specs.Laws.{HasLawShape}
use Rattle.mpc_rows.specs.Candidates.{IsTable}
use Rattle.mpc_rows.specs.SetRuns.{LawRowsFit}
use Rattle.mpc_rows.specs.LawTheorems.{LawRowSize}
use Rattle.mpc_rows.specs.RegionTheorems.{RegionPoints}
use Rattle.mpc_condense.specs.Condensed.{IsCondensed}
use Rattle.mpc_controller.specs.PreorderTheorems.{JoinedSpell}
use Rattle.mpc_controller.specs.Parts.{row_count, IsLawFor, IsSplitRow, IsNodeFor}
use Rattle.mpc_tree.specs.Trees.{Cell, whole_box, yes_side, no_side, leaf, split, Divides, IsLeafOf, IsTreeOf}
use Rattle.mpc_tree.specs.Certified.{CertifiedIsTree, MultipliersAreCert}
use Rattle.mpc_synthesis.specs.RightReplies.{PartsHaveShapes, PlantTableIsSmall}
use Rattle.mpc_synthesis.proofs.ElementLemmas.{all_contained}
use Rattle.mpc_synthesis.proofs.CertShapes.{whole_certs}
use Rattle.mpc_synthesis.proofs.TableSizes.{table_shape}
use Rattle.mpc_synthesis.proofs.TreeWalks.{spells_tree, table_leaf, contains_at}
use Rattle.mpc_synthesis.proofs.SplitRows.{split_row}

module _ (region_points : RegionPoints) (law_row_size : LawRowSize) (small_row : SmallPrimitiveRow) (qp : Qp) (plant : Plant) (condensed : IsCondensed qp plant) where
  states : length qp.counts ≡ plant.n
  states = ap length condensed.counts_are ∙ length-map plant.grid (λ axis. axis.count) ∙ plant.is_plant.grid_size

  law_for : (law : LawOfSet) → HasLawShape qp law → IsLawFor plant law
  law_for law s = record {
    set_of_rows = subst (λ n. IsSetOfRows n law.set) condensed.rows_are s.set_of_rows;
    few = subst (λ n. length law.set ≤ n) condensed.unknowns_are s.few;
    moves_shape = subst (λ m. HasShape law.moves m (plant.n + 1)) condensed.unknowns_are (subst (λ n. HasShape law.moves (height qp.h) (n + 1)) states s.moves_shape);
    mults_shape = subst (λ n. HasShape law.mults (length law.set) (n + 1)) states s.mults_shape;
  }

  module _ (laws : List LawOfSet) (table : IsTable qp laws) (fit : (law : LawOfSet) → Contains laws law → LawRowsFit qp law (height qp.g)) where
    laws_fit : All (IsLawFor plant) laws
    laws_fit = all_contained laws (IsLawFor plant) (λ law c. law_for law (table_shape qp laws table law c))

    split_for : (cell : Cell) (place : ℕ) (row : RowInt) → Divides qp laws cell place row → IsSplitRow plant.n row
    split_for cell place row d =
        let c : Contains laws d.law = contains_at laws place d.law d.first.is in
        subst (λ n. IsSplitRow n row) states (split_row region_points law_row_size small_row qp d.law (table.are_laws d.law c).verdict.2 (fit d.law c) cell.rows d.first.meets row d.fails)

    leaf_for : (cell : Cell) (node : Node) → IsLeafOf qp laws cell node → IsNodeFor plant.n (length laws) node
    leaf_for cell (Split row) h = absurd h
    leaf_for cell (Law number certs) h =
        let below = slice_get_within laws h.place h.law h.first.is in
        record { from_low = omega (arith, h.number_is); to_high = omega (arith, h.number_is) }
    leaf_for cell (NoMove cert) h = tt

    nodes_fit : (cell : Cell) (nodes : List Node) → IsTreeOf qp laws cell nodes → All (IsNodeFor plant.n (length laws)) nodes
    nodes_fit cell _ (leaf _ node e) = All-cons (IsNodeFor plant.n (length laws)) node [] (leaf_for cell node e) (All-nil (IsNodeFor plant.n (length laws)))
    nodes_fit cell _ (split _ place row one two d y n) =
        All-cons (IsNodeFor plant.n (length laws)) (Split row) (one ++ two) (split_for cell place row d)
        (All-append (IsNodeFor plant.n (length laws)) one two (nodes_fit (yes_side cell place row) one y) (nodes_fit (no_side cell place row) two n))

pub tree_shapes : CertifiedIsTree → MultipliersAreCert → JoinedSpell → RegionPoints → LawRowSize → SmallPrimitiveRow → PlantTableIsSmall → PartsHaveShapes
tree_shapes is_tree certs_are join points size small few qp plant laws nodes condensed table fit is =
    let tree : IsTreeOf qp laws whole_box nodes = is_tree qp laws whole_box nodes is in
    record {
      laws_few = few plant qp laws condensed table;
      laws_fit = laws_fit points size small qp plant condensed laws table fit;
      nodes_fit = nodes_fit points size small qp plant condensed laws table fit whole_box nodes tree;
      complete = spells_tree join (Divides qp laws) (IsLeafOf qp laws) (table_leaf qp laws) whole_box nodes tree;
      certs_fit = whole_certs certs_are qp plant.n (row_count plant) (states points size small qp plant condensed) condensed.rows_are laws nodes is;
    }
