-- Of a controller at most one outcome is due.
use Rattle.std.proofs.Common.{◌≡◌, ℕ, ◌+◌, ◌-◌, List, length, Some, refl, ap, subst, sym, ◌∙◌}
use Rattle.std.specs.Prelude.{slice_get}
use Rattle.mpc_plant.specs.declared.plants.Plant.{Plant}
use Rattle.mpc_rows.specs.declared.laws.Law.{Law as LawOfSet}
use Rattle.mpc_rows.specs.declared.systems.Row.{Row}
use Rattle.mpc_rows.specs.declared.trees.Node.{Node}
use Rattle.mpc_rows.specs.declared.trees.Node.TheVariants.{Split, Law, NoMove as NoMoveLeaf}
use Rattle.mpc_rows.specs.SystemTheorems.{PointOfPairs}
use Rattle.mpc_controller.specs.Parts.{Parts}
use Rattle.mpc_recur.specs.declared.answers.Target.TheVariants.{Low, High, NoMove}
use Rattle.mpc_recur.specs.Forms.{FormsFit}
use Rattle.mpc_recur.specs.Findings.{Finding, reached, too_wide, IsFirstOfTwo}
use Rattle.mpc_recur.specs.Targets.{low_system, high_system, met_system, HighRowFits, RowsFit, target_of, LowMet, LowFinds, HighMet, HighFinds, SideMet, SideFinds, EmptyMet, EmptyFinds, LeafFinds, FormsFind, SidesMet, SidesFind, EmptiesMet, EmptiesFind, TargetsMet, TargetsFind, NodeMet, NodeFinds, NodeAtMet, NodeAtFinds, AllRuledOut, IsFound}
use Rattle.mpc_recur.specs.Outcomes.{is_safe, finds}
use Rattle.mpc_recur.specs.SafetyTheorems.{OneOutcome}
use Rattle.mpc_recur.proofs.FindingLemmas.{IsSingle, single_target, single_list, single_pair}
use Rattle.mpc_controller.specs.Paths.{OnePath}

same_node : (nodes : List Node) (place : ℕ) (node other : Node) → slice_get nodes place ≡ Some node → slice_get nodes place ≡ Some other → node ≡ other
same_node nodes place node other a b = cc

same_law : (laws : List LawOfSet) (place : ℕ) (law other : LawOfSet) → slice_get laws place ≡ Some law → slice_get laws place ≡ Some other → law ≡ other
same_law laws place law other a b = cc

module _ (one_path : OnePath) (points : PointOfPairs) where
  -- ---- one leaf
  module _ (plant : Plant) (nodes : List Node) (law : LawOfSet) (path : List Row) (leaf : ℕ) where
    single_side : (i : ℕ) → IsSingle (SideMet plant law path i) (SideFinds plant law path leaf i)
    single_side i =
        single_pair (LowMet plant law path i) (HighMet plant law path i) (LowFinds plant law path leaf i) (HighFinds plant law path leaf i)
        (single_target points (Unit {0}) (low_system plant law path i) (target_of leaf (Low (i + 1)))) (single_target points (HighRowFits plant law i) (high_system plant law path i) (target_of leaf (High (i + 1))))
        (SideMet plant law path i) (λ m. m.low) (λ m. m.high)

    one_empty : (k : ℕ) (f g : Finding) → EmptyFinds plant nodes law path leaf k f → EmptyFinds plant nodes law path leaf k g → f ≡ g
    one_empty k f g a b =
        (single_target points (RowsFit plant law b.other) (met_system plant law path b.other) (target_of leaf (NoMove (k + 1)))).one f g
        (subst (λ other. LeafFinds plant law path leaf k other f) (one_path nodes k a.other a.leads b.other b.leads) a.finds) b.finds

    single_empty : (k : ℕ) → IsSingle (EmptyMet plant nodes law path k) (EmptyFinds plant nodes law path leaf k)
    single_empty k = record {
      not_met = λ f a m. (single_target points (RowsFit plant law a.other) (met_system plant law path a.other) (target_of leaf (NoMove (k + 1)))).not_met f a.finds (m a.other a.cert a.leads a.is);
      one = one_empty k;
    }

    forms_met : (f : Finding) → FormsFind plant law leaf f → FormsFit plant law → ⊥
    forms_met (reached n pairs) a m = a
    forms_met (too_wide n) a m = a.1 m

    one_forms : (f g : Finding) → FormsFind plant law leaf f → FormsFind plant law leaf g → f ≡ g
    one_forms (reached n pairs) g a b = absurd a
    one_forms (too_wide n) (reached m pairs) a b = absurd b
    one_forms (too_wide n) (too_wide m) a b = ap too_wide (a.0 ∙ sym b.0)

    abbrev RestMet : Type 0
    RestMet = SidesMet plant law path × EmptiesMet plant nodes law path

    abbrev RestFinds : Finding → Type 0
    RestFinds = IsFirstOfTwo (SidesMet plant law path) (SidesFind plant law path leaf) (EmptiesFind plant nodes law path leaf)

    single_rest : IsSingle RestMet RestFinds
    single_rest =
        single_pair (SidesMet plant law path) (EmptiesMet plant nodes law path) (SidesFind plant law path leaf) (EmptiesFind plant nodes law path leaf)
        (single_list (SideMet plant law path) (SideFinds plant law path leaf) plant.n single_side) (single_list (EmptyMet plant nodes law path) (EmptyFinds plant nodes law path leaf) (length nodes) single_empty)
        RestMet (λ m. m.0) (λ m. m.1)

    pub single_targets : IsSingle (TargetsMet plant nodes law path) (TargetsFind plant nodes law path leaf)
    single_targets =
        single_pair (FormsFit plant law) RestMet (FormsFind plant law leaf) RestFinds (record { not_met = forms_met; one = one_forms }) single_rest
        (TargetsMet plant nodes law path) (λ m. m.forms) (λ m. (m.sides, m.empties))

  -- ---- node by node
  module _ (parts : Parts) where
    node_met : (path : List Row) (leaf : ℕ) (node : Node) (f : Finding) → NodeFinds parts path leaf node f → NodeMet parts path node → ⊥
    node_met path leaf (Split row) f a m = a
    node_met path leaf (Law number certs) f a m = (single_targets parts.plant parts.tree a.law path leaf).not_met f a.finds (m a.law a.is)
    node_met path leaf (NoMoveLeaf cert) f a m = a

    one_node : (path : List Row) (leaf : ℕ) (node : Node) (f g : Finding) → NodeFinds parts path leaf node f → NodeFinds parts path leaf node g → f ≡ g
    one_node path leaf (Split row) f g a b = absurd a
    one_node path leaf (Law number certs) f g a b =
        (single_targets parts.plant parts.tree b.law path leaf).one f g (subst (λ law. TargetsFind parts.plant parts.tree law path leaf f) (same_law parts.laws (number - 1) a.law b.law a.is b.is) a.finds) b.finds
    one_node path leaf (NoMoveLeaf cert) f g a b = absurd a

    one_node_at : (place : ℕ) (f g : Finding) → NodeAtFinds parts place f → NodeAtFinds parts place g → f ≡ g
    one_node_at place f g a b =
        one_node b.path (place + 1) b.node f g
        (subst (λ path. NodeFinds parts path (place + 1) b.node f) (one_path parts.tree place a.path a.leads b.path b.leads)
        (subst (λ node. NodeFinds parts a.path (place + 1) node f) (same_node parts.tree place a.node b.node a.is b.is) a.finds)) b.finds

    single_node : (place : ℕ) → IsSingle (NodeAtMet parts place) (NodeAtFinds parts place)
    single_node place = record { not_met = λ f a m. node_met a.path (place + 1) a.node f a.finds (m a.path a.node a.leads a.is); one = one_node_at place }

    single_tree : IsSingle (AllRuledOut parts) (IsFound parts)
    single_tree = single_list (NodeAtMet parts) (NodeAtFinds parts) (length parts.tree) single_node

  pub one_outcome : OneOutcome
  one_outcome parts is_safe is_safe a b = refl
  one_outcome parts is_safe (finds g) a b = absurd ((single_tree parts).not_met g b a)
  one_outcome parts (finds f) is_safe a b = absurd ((single_tree parts).not_met f a b)
  one_outcome parts (finds f) (finds g) a b = ap finds ((single_tree parts).one f g a b)
