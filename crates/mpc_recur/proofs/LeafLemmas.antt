-- What is found of a leaf, from what is found of its targets.
use Rattle.std.proofs.Common.{◌≡◌, ℕ, ◌+◌, ◌<◌, ◌≤◌, ◌⊎◌, inl, inr, List, [], ◌∷◌, ◌++◌, length, get_or, map, Some, refl, sym, ◌∙◌, ap, subst, arith, All, Result, zero-add}
use Rattle.std.specs.Prelude.{slice_get}
use Rattle.std.specs.Result.{MatchResult}
use Rattle.std.proofs.lemmas.Result.{MatchResult-weaker}
use Rattle.std.proofs.lemmas.Bool.{cases_lt}
use Rattle.std.proofs.lemmas.List.{length-map}
use Rattle.std.proofs.lemmas.List.FromFn.{get_or-map-range_with_len}
use Rattle.mpc_exact.specs.Rational.{ℚ}
use Rattle.mpc_plant.specs.declared.lists.Coordinate.{Coordinate}
use Rattle.mpc_plant.specs.declared.plants.Plant.{Plant}
use Rattle.mpc_rows.specs.declared.laws.Law.{Law as LawOfSet}
use Rattle.mpc_rows.specs.declared.systems.Row.{Row}
use Rattle.mpc_rows.specs.declared.trees.Node.{Node}
use Rattle.mpc_rows.specs.declared.trees.Node.TheVariants.{Split, Law, NoMove as NoMoveLeaf}
use Rattle.mpc_rows.specs.LinearSystem.{LinearSystem}
use Rattle.mpc_controller.specs.Parts.{Parts, limits_of}
use Rattle.mpc_controller.specs.Replies.{IsLawNumbered}
use Rattle.mpc_recur.specs.declared.answers.Stop.{Stop}
use Rattle.mpc_recur.specs.declared.answers.Stop.TheVariants.{Reached, Wide, NoMemory}
use Rattle.mpc_recur.specs.declared.answers.Target.TheVariants.{Low, High, NoMove}
use Rattle.mpc_controller.specs.Paths.{PathTo}
use Rattle.mpc_controller.specs.Ways.{way_rows}
use Rattle.mpc_recur.specs.Empties.{EmptiesBefore}
use Rattle.mpc_recur.specs.Forms.{next_form, next_forms, low_row, high_row, substituted, FormsFit, HighFits, SubstitutedFits}
use Rattle.mpc_recur.specs.Findings.{Finding, too_wide, IsRuledOut, TargetFinds, IsStop, Each, IsFirstOfTwo}
use Rattle.mpc_recur.specs.Targets.{IsBaseOf, with_rows, leaf_system, low_system, high_system, met_system, count_at, target_of, LowMet, LowFinds, HighFinds, SideMet, SideFinds, LeafMet, LeafFinds, RowsFit, EmptyMet, EmptyFinds, FormsFind, SidesMet, SidesFind, EmptiesMet, EmptiesFind, TargetsMet, TargetsFind, NodeMet, NodeFinds, NodeAtMet, NodeAtFinds}
use Rattle.mpc_rows.specs.SetRuns.{box_rows}
use Rattle.mpc_controller.specs.declared.ways.Turn.{Turn}
use Rattle.mpc_recur.proofs.FormLemmas.{form_size, forms_size}
use Rattle.mpc_controller.specs.Paths.{OnePath}
use Rattle.mpc_recur.proofs.TargetLemmas.{on_base, earlier_stop, later_stop}

abbrev Done : Type 0
Done = Unit {0}

module _ (plant : Plant) (law : LawOfSet) (path : List Row) (leaf : ℕ) (s : LinearSystem) (base : IsBaseOf plant path s) where
  -- ---- below and above a coordinate
  module _ (i : ℕ) (form : List ℚ) (ef : form ≡ next_form plant law i) where
    low_is : with_rows s (low_row form ∷ []) ≡ low_system plant law path i
    low_is = on_base plant path (low_row form ∷ []) s base ∙ ap (λ f. leaf_system plant path (low_row f ∷ [])) ef

    pub low_met : IsRuledOut (Unit {0}) (with_rows s (low_row form ∷ [])) → LowMet plant law path i
    low_met h = subst (IsRuledOut (Unit {0})) low_is h

    pub low_stop : (e : Stop) → IsStop (TargetFinds (Unit {0}) (with_rows s (low_row form ∷ [])) (target_of leaf (Low (i + 1)))) e → IsStop (SideFinds plant law path leaf i) e
    low_stop e h = earlier_stop (LowMet plant law path i) (LowFinds plant law path leaf i) (HighFinds plant law path leaf i) e (subst (λ x. IsStop (TargetFinds (Unit {0}) x (target_of leaf (Low (i + 1)))) e) low_is h)

    module _ (count : ℕ) (ec : count ≡ count_at plant i) where
      high_there : (P : Type 0 → LinearSystem → Type 0) → P (HighFits form count) (with_rows s (high_row form count ∷ [])) → P (HighFits (next_form plant law i) (count_at plant i)) (high_system plant law path i)
      high_there P h =
          let on : P (HighFits form count) (leaf_system plant path (high_row form count ∷ [])) = subst (P (HighFits form count)) (on_base plant path (high_row form count ∷ []) s base) h in
          subst (λ k. P (HighFits (next_form plant law i) k) (leaf_system plant path (high_row (next_form plant law i) k ∷ []))) ec (subst (λ f. P (HighFits f count) (leaf_system plant path (high_row f count ∷ []))) ef on)

      pub high_found : (r : Result Done Stop) → LowMet plant law path i
          → MatchResult r (λ _. IsRuledOut (HighFits form count) (with_rows s (high_row form count ∷ []))) (IsStop (TargetFinds (HighFits form count) (with_rows s (high_row form count ∷ [])) (target_of leaf (High (i + 1)))))
          → MatchResult r (λ _. SideMet plant law path i) (IsStop (SideFinds plant law path leaf i))
      high_found r low h =
          MatchResult-weaker r h (λ u met. record { low = low; high = high_there IsRuledOut met })
          (λ e stop. later_stop (LowMet plant law path i) (LowFinds plant law path leaf i) (HighFinds plant law path leaf i) e low (high_there (λ f x. IsStop (TargetFinds f x (target_of leaf (High (i + 1)))) e) stop))

  -- ---- a leaf without a law
  module _ (n : ℕ) (forms : List (List ℚ)) (en : n ≡ plant.n) (ef : forms ≡ next_forms plant law) (other : List Row) where
    pub met_there : (P : Type 0 → LinearSystem → Type 0) → P (All (SubstitutedFits n forms) other) (with_rows s (map (substituted n forms) other)) → P (RowsFit plant law other) (met_system plant law path other)
    met_there P h =
        let on : P (All (SubstitutedFits n forms) other) (leaf_system plant path (map (substituted n forms) other)) = subst (P (All (SubstitutedFits n forms) other)) (on_base plant path (map (substituted n forms) other) s base) h in
        subst (λ m. P (All (SubstitutedFits m (next_forms plant law)) other) (leaf_system plant path (map (substituted m (next_forms plant law)) other))) en
        (subst (λ f. P (All (SubstitutedFits n f) other) (leaf_system plant path (map (substituted n f) other))) ef on)

  module _ (one_path : OnePath) (nodes : List Node) (k : ℕ) (other : List Row) (cert : List (ℕ × ℚ)) (leads : PathTo nodes k other) (is : slice_get nodes k ≡ Some (NoMoveLeaf cert)) (n : ℕ) (forms : List (List ℚ)) (en : n ≡ plant.n) (ef : forms ≡ next_forms plant law) where
    empty_met : LeafMet plant law path other → EmptyMet plant nodes law path k
    empty_met h mine mine_cert mine_leads mine_is = subst (LeafMet plant law path) (one_path nodes k other leads mine mine_leads) h

    empty_stop : (e : Stop) → IsStop (LeafFinds plant law path leaf k other) e → IsStop (EmptyFinds plant nodes law path leaf k) e
    empty_stop (Reached one pairs) h = record { other = other; cert = cert; leads = leads; is = is; finds = h }
    empty_stop (Wide one) h = record { other = other; cert = cert; leads = leads; is = is; finds = h }
    empty_stop NoMemory h = tt

    pub empty_found : (r : Result Done Stop) → MatchResult r (λ _. IsRuledOut (All (SubstitutedFits n forms) other) (with_rows s (map (substituted n forms) other))) (IsStop (TargetFinds (All (SubstitutedFits n forms) other) (with_rows s (map (substituted n forms) other)) (target_of leaf (NoMove (k + 1)))))
        → MatchResult r (λ _. EmptyMet plant nodes law path k) (IsStop (EmptyFinds plant nodes law path leaf k))
    empty_found r h = MatchResult-weaker r h (λ u met. empty_met (met_there n forms en ef other IsRuledOut met)) (λ e stop. empty_stop e (met_there n forms en ef other (λ f x. IsStop (TargetFinds f x (target_of leaf (NoMove (k + 1)))) e) stop))

pub behind_empties : (plant : Plant) (nodes : List Node) (law : LawOfSet) (path : List Row) (end : ℕ) → EmptiesBefore nodes end → (k : ℕ) → end ≤ k → EmptyMet plant nodes law path k
behind_empties plant nodes law path end before k h other cert leads is = absurd (let below = before k cert is in omega arith)

pub all_empties : (plant : Plant) (nodes : List Node) (law : LawOfSet) (path : List Row) (end : ℕ) → EmptiesBefore nodes end → Each (EmptyMet plant nodes law path) end → EmptiesMet plant nodes law path
all_empties plant nodes law path end before met k h = by (cases_lt k end)
  where
    by : (k < end) ⊎ (end ≤ k) → EmptyMet plant nodes law path k
    by (inl l) = met k l
    by (inr l) = behind_empties plant nodes law path end before k l

pub limits_count : (plant : Plant) (limits : List ℕ) → limits ≡ limits_of plant → length limits ≡ plant.n
limits_count plant limits e = ap length e ∙ length-map plant.grid (λ (axis : Coordinate). axis.count) ∙ plant.is_plant.grid_size

-- ---- one form of all
pub form_of : (plant : Plant) (law : LawOfSet) (forms : List (List ℚ)) (i : ℕ) (form : List ℚ) → forms ≡ next_forms plant law → i < plant.n → form ≡ get_or forms i form → form ≡ next_form plant law i
form_of plant law forms i form e h read = read ∙ ap (λ f. get_or f i form) e ∙ get_or-map-range_with_len (next_form plant law) 0 plant.n i i form h (zero-add i)

pub forms_affine : (plant : Plant) (law : LawOfSet) (forms : List (List ℚ)) → forms ≡ next_forms plant law → (w : ℕ) → w ≡ plant.n → All (λ form. length form ≡ w + 1) forms
forms_affine plant law forms e w ew i d h =
    let inside : i < plant.n = omega (arith, ap length e, forms_size plant law) in
    ap length (ap (λ f. get_or f i d) e ∙ get_or-map-range_with_len (next_form plant law) 0 plant.n i i d inside (zero-add i)) ∙ form_size plant law i ∙ ap (λ m. m + 1) (sym ew)

-- ---- what a leaf's system begins with
pub leaf_base : (plant : Plant) (limits : List ℕ) → limits ≡ limits_of plant → (s : LinearSystem) (tree nodes : List Node) (way : List Turn) → tree ≡ nodes → s.width ≡ length limits → s.rows ≡ box_rows (length limits) limits ++ way_rows tree way → IsBaseOf plant (way_rows nodes way) s
leaf_base plant limits el s tree nodes way et ew er = record {
  width = ew ∙ limits_count plant limits el;
  rows = er ∙ (λ i. box_rows (limits_count plant limits el i) (el i) ++ way_rows (et i) way);
}

pub node_there : (tree nodes : List Node) (k : ℕ) (node : Node) (cert : List (ℕ × ℚ)) → tree ≡ nodes → slice_get tree k ≡ Some node → node ≡ NoMoveLeaf cert → slice_get nodes k ≡ Some (NoMoveLeaf cert)
node_there tree nodes k node cert et at is = ap (λ t. slice_get t k) (sym et) ∙ at ∙ ap Some is

-- ---- the leaf
module _ (plant : Plant) (nodes : List Node) (law : LawOfSet) (path : List Row) (leaf : ℕ) where
  pub forms_stop : ¬ FormsFit plant law → TargetsFind plant nodes law path leaf (too_wide (target_of leaf (Low 1)))
  forms_stop h = inl (refl, h)

  abbrev Later : Finding → Type 0
  Later = IsFirstOfTwo (SidesMet plant law path) (SidesFind plant law path leaf) (EmptiesFind plant nodes law path leaf)

  pub sides_stop : FormsFit plant law → (e : Stop) → IsStop (SidesFind plant law path leaf) e → IsStop (TargetsFind plant nodes law path leaf) e
  sides_stop fits e h = later_stop (FormsFit plant law) (FormsFind plant law leaf) Later e fits (earlier_stop (SidesMet plant law path) (SidesFind plant law path leaf) (EmptiesFind plant nodes law path leaf) e h)

  pub targets_found : (r : Result Done Stop) → FormsFit plant law → SidesMet plant law path → MatchResult r (λ _. EmptiesMet plant nodes law path) (IsStop (EmptiesFind plant nodes law path leaf))
      → MatchResult r (λ _. TargetsMet plant nodes law path) (IsStop (TargetsFind plant nodes law path leaf))
  targets_found r fits sides h =
      MatchResult-weaker r h (λ u met. record { forms = fits; sides = sides; empties = met })
      (λ e stop. later_stop (FormsFit plant law) (FormsFind plant law leaf) Later e fits (later_stop (SidesMet plant law path) (SidesFind plant law path leaf) (EmptiesFind plant nodes law path leaf) e sides stop))

-- ---- the node at a place
module _ (one_path : OnePath) (parts : Parts) (place : ℕ) (path : List Row) (leads : PathTo parts.tree place path) (node : Node) (at : slice_get parts.tree place ≡ Some node) where
  node_met : NodeMet parts path node → NodeAtMet parts place
  node_met h other mine other_leads is = subst (λ n. NodeMet parts other n) (let same : node ≡ mine = cc in same) (subst (λ p. NodeMet parts p node) (one_path parts.tree place path leads other other_leads) h)

  node_stop : (e : Stop) → IsStop (NodeFinds parts path (place + 1) node) e → IsStop (NodeAtFinds parts place) e
  node_stop (Reached one pairs) h = record { path = path; node = node; leads = leads; is = at; finds = h }
  node_stop (Wide one) h = record { path = path; node = node; leads = leads; is = at; finds = h }
  node_stop NoMemory h = tt

  pub law_found : (number : ℕ) (certs : List (List (ℕ × ℚ))) (law : LawOfSet) → node ≡ Law number certs → IsLawNumbered parts.laws number law → (r : Result Done Stop)
      → MatchResult r (λ _. TargetsMet parts.plant parts.tree law path) (IsStop (TargetsFind parts.plant parts.tree law path (place + 1)))
      → MatchResult r (λ _. NodeAtMet parts place) (IsStop (NodeAtFinds parts place))
  law_found number certs law is named r h = MatchResult-weaker r h (λ u met. node_met (subst (NodeMet parts path) (sym is) (one_law met))) (λ e stop. node_stop e (subst (λ n. IsStop (NodeFinds parts path (place + 1) n) e) (sym is) (law_stop e stop)))
    where
      one_law : TargetsMet parts.plant parts.tree law path → NodeMet parts path (Law number certs)
      one_law met other other_named = subst (λ l. TargetsMet parts.plant parts.tree l path) (let same : law ≡ other = cc in same) met

      law_stop : (e : Stop) → IsStop (TargetsFind parts.plant parts.tree law path (place + 1)) e → IsStop (NodeFinds parts path (place + 1) (Law number certs)) e
      law_stop (Reached one pairs) s = record { law = law; is = named; finds = s }
      law_stop (Wide one) s = record { law = law; is = named; finds = s }
      law_stop NoMemory s = tt

  pub no_law_met : ((number : ℕ) (certs : List (List (ℕ × ℚ))) → ¬ (node ≡ Law number certs)) → NodeAtMet parts place
  no_law_met not = node_met (nothing node not)
    where
      nothing : (node : Node) → ((number : ℕ) (certs : List (List (ℕ × ℚ))) → ¬ (node ≡ Law number certs)) → NodeMet parts path node
      nothing (Split row) not = tt
      nothing (NoMoveLeaf cert) not = tt
      nothing (Law number certs) not = absurd (not number certs refl)
