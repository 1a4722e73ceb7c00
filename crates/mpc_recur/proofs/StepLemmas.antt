-- Where the controller leads from the points of a target's system, and what a safe controller rules out.
use Rattle.std.proofs.Common.{◌≡◌, ℕ, ◌+◌, ◌-◌, ◌<◌, List, [], ◌∷◌, get_or, pos, Some, refl, sym, ◌∙◌, ap, subst, arith, All}
use Rattle.std.specs.Prelude.{slice_get}
use Rattle.mpc_exact.specs.Rational.{ℚ, int, ◌*ℚ◌, ◌/ℚ◌, ◌<ℚ◌}
use Rattle.mpc_exact.proofs.OrderTheorems.{≤ℚ-not-<, *ℚ-/ℚ}
use Rattle.mpc_exact.proofs.RationalOrder.{positive_int, <ℚ_irrefl}
use Rattle.mpc_exact.proofs.Linear.{linear_lt, claims, none, lt, eq}
use Rattle.mpc_space.specs.Vector.{coordinate}
use Rattle.mpc_plant.specs.declared.plants.Plant.{Plant}
use Rattle.mpc_plant.specs.Trajectory.{IsInBox}
use Rattle.mpc_plant.specs.Reply.{Reply, move}
use Rattle.mpc_rows.specs.declared.laws.Law.{Law as LawOfSet}
use Rattle.mpc_rows.specs.declared.systems.Row.{Row}
use Rattle.mpc_rows.specs.declared.trees.Node.{Node}
use Rattle.mpc_rows.specs.declared.trees.Node.TheVariants.{Law, NoMove as NoMoveLeaf}
use Rattle.mpc_rows.specs.LinearSystem.{MeetsRow, IsPoint, point_at}
use Rattle.mpc_rows.specs.RegionTheorems.{BoxPoints}
use Rattle.mpc_systems.specs.CellTheorems.{BrokenPoints}
use Rattle.mpc_controller.specs.Parts.{Parts, IsLawFor, limits_of}
use Rattle.mpc_controller.specs.Bounds.{IsController}
use Rattle.mpc_controller.specs.Walk.{EndsAt}
use Rattle.mpc_controller.specs.OneLeaf.{OneLeaf, EndsOnce}
use Rattle.mpc_controller.specs.Replies.{RepliesAt, by_law, by_no_law, first_move, IsLawNumbered}
use Rattle.mpc_controller.specs.ReplyTheorems.{RepliesEverywhere}
use Rattle.mpc_recur.specs.declared.answers.Target.{Target}
use Rattle.mpc_recur.specs.declared.answers.Target.TheVariants.{Low, High, NoMove}
use Rattle.mpc_recur.specs.declared.answers.Next.{Next}
use Rattle.mpc_controller.specs.Paths.{PathTo}
use Rattle.mpc_recur.specs.Successors.{next, HasMove, IsSafe, IsAtTarget, LeadsToTarget, LeadsAway}
use Rattle.mpc_recur.specs.Forms.{next_form, next_forms, low_row, high_row}
use Rattle.mpc_recur.specs.Targets.{low_system, high_system, met_system, count_at, target_of}
use Rattle.mpc_recur.proofs.ElementLemmas.{all_at, all_one}
use Rattle.mpc_recur.proofs.FormLemmas.{next_value, next_forms_value, form_size}
use Rattle.mpc_recur.proofs.RowLemmas.{low_points, high_points, substituted_points}
use Rattle.mpc_recur.proofs.SystemLemmas.{box_size, within_low, within_high, IsLeafPoint, leaf_point, point_of_leaf}
use Rattle.mpc_recur.proofs.WalkLemmas.{walks_on_path}
use Rattle.std.proofs.lemmas.List.Elements.{All-cons, All-nil}

-- what is known of rows, of trees and of replies
pub record Known : Type 0 where
  pub broken_points : BrokenPoints
  pub box_meets : BoxPoints
  pub one_leaf : OneLeaf
  pub everywhere : RepliesEverywhere

-- ---- a leaf with a law
module _ (known : Known) (parts : Parts) (is : IsController parts.plant parts.laws parts.tree) (place number : ℕ) (path : List Row) (certs : List (List (ℕ × ℚ))) (law : LawOfSet) (leads : PathTo parts.tree place path)
    (at : slice_get parts.tree place ≡ Some (Law number certs)) (named : IsLawNumbered parts.laws number law) where
  abbrev plant : Plant
  plant = parts.plant

  law_fits : IsLawFor plant law
  law_fits = all_at (IsLawFor plant) parts.laws (number - 1) law named is.shapes.laws_fit

  -- the point behind one step
  abbrev behind : List ℚ → List ℚ
  behind t = next plant t (first_move plant.p law t)

  pub ends_there : (t : List ℚ) → All (MeetsRow t) path → EndsAt parts.tree t place (Law number certs)
  ends_there t on_path = record { reached = walks_on_path known.broken_points parts.tree t place path leads on_path; node_at = at; is_leaf = tt }

  arriving : (one : Next) (t : List ℚ) → one.leaf ≡ place + 1 → IsInBox plant t → All (MeetsRow t) path → IsAtTarget parts (behind t) one.target → LeadsToTarget parts one t
  arriving one t e in_box on_path arrives = record {
    in_box = in_box;
    number = number;
    certs = certs;
    law = law;
    ends = (let same : place ≡ one.leaf - 1 = omega arith in subst (λ k. EndsAt parts.tree t k (Law number certs)) same (ends_there t on_path));
    named = named;
    arrives = arrives;
  }

  module _ (t : List ℚ) where
    -- ---- below and above a coordinate
    module _ (i : ℕ) (h : i < plant.n) where
      pub low_there : IsPoint (low_system plant law path i) t → LeadsToTarget parts (target_of (place + 1) (Low (i + 1))) t
      low_there p =
          let q = point_of_leaf known.box_meets plant path (low_row (next_form plant law i) ∷ []) t p in
          let row = all_one (MeetsRow t) (low_row (next_form plant law i)) q.meets in
          let below = (low_points (next_form plant law i) t plant.n (form_size plant law i)).0 row in
          let value = next_value plant law law_fits t (box_size known.box_meets plant t q.in_box) i h in
          let same : i ≡ i + 1 - 1 = omega arith in
          arriving (target_of (place + 1) (Low (i + 1))) t refl q.in_box q.on_path (subst (λ k. coordinate (behind t) k <ℚ int (pos 0)) same (subst (λ x. x <ℚ int (pos 0)) value below))

      pub high_there : IsPoint (high_system plant law path i) t → LeadsToTarget parts (target_of (place + 1) (High (i + 1))) t
      high_there p =
          let q = point_of_leaf known.box_meets plant path (high_row (next_form plant law i) (count_at plant i) ∷ []) t p in
          let row = all_one (MeetsRow t) (high_row (next_form plant law i) (count_at plant i)) q.meets in
          let above = (high_points (next_form plant law i) t plant.n (count_at plant i) (form_size plant law i)).0 row in
          let value = next_value plant law law_fits t (box_size known.box_meets plant t q.in_box) i h in
          let same : i ≡ i + 1 - 1 = omega arith in
          arriving (target_of (place + 1) (High (i + 1))) t refl q.in_box q.on_path (subst (λ k. int (pos (get_or (limits_of plant) k 0)) <ℚ coordinate (behind t) k) same (subst (λ x. int (pos (count_at plant i)) <ℚ x) value above))

      module _ (in_box : IsInBox plant t) (on_path : All (MeetsRow t) path) where
        pub low_point : coordinate (behind t) i <ℚ int (pos 0) → IsPoint (low_system plant law path i) t
        low_point below =
            let value = next_value plant law law_fits t (box_size known.box_meets plant t in_box) i h in
            leaf_point known.box_meets plant path (low_row (next_form plant law i) ∷ []) t
            (record { in_box = in_box; on_path = on_path; meets = All-cons (MeetsRow t) (low_row (next_form plant law i)) [] ((low_points (next_form plant law i) t plant.n (form_size plant law i)).1 (subst (λ x. x <ℚ int (pos 0)) (sym value) below)) (All-nil (MeetsRow t)) })

        pub high_point : int (pos (count_at plant i)) <ℚ coordinate (behind t) i → IsPoint (high_system plant law path i) t
        high_point above =
            let value = next_value plant law law_fits t (box_size known.box_meets plant t in_box) i h in
            leaf_point known.box_meets plant path (high_row (next_form plant law i) (count_at plant i) ∷ []) t
            (record { in_box = in_box; on_path = on_path; meets = All-cons (MeetsRow t) (high_row (next_form plant law i) (count_at plant i)) [] ((high_points (next_form plant law i) t plant.n (count_at plant i) (form_size plant law i)).1 (subst (λ x. int (pos (count_at plant i)) <ℚ x) (sym value) above)) (All-nil (MeetsRow t)) })

    -- ---- a leaf without a law
    module _ (k : ℕ) (other : List Row) (cert : List (ℕ × ℚ)) (leads_there : PathTo parts.tree k other) (at_other : slice_get parts.tree k ≡ Some (NoMoveLeaf cert)) where
      pub meets_other : IsPoint (met_system plant law path other) t → IsLeafPoint plant path [] t × All (MeetsRow (behind t)) other
      meets_other p =
          let q = point_of_leaf known.box_meets plant path _ t p in
          let size = box_size known.box_meets plant t q.in_box in
          let there = (substituted_points plant.n (next_forms plant law) t size other).0 q.meets in
          (record { in_box = q.in_box; on_path = q.on_path; meets = All-nil (MeetsRow t) }, subst (λ s. All (MeetsRow s) other) (next_forms_value plant law law_fits t size) there)

      pub empty_there : IsPoint (met_system plant law path other) t → IsInBox plant (behind t) → LeadsToTarget parts (target_of (place + 1) (NoMove (k + 1))) t
      empty_there p behind_in_box =
          let m = meets_other p in
          let ends : EndsAt parts.tree (behind t) k (NoMoveLeaf cert) = record { reached = walks_on_path known.broken_points parts.tree (behind t) k other leads_there m.1; node_at = at_other; is_leaf = tt } in
          let same : k ≡ k + 1 - 1 = omega arith in
          arriving (target_of (place + 1) (NoMove (k + 1))) t refl m.0.in_box m.0.on_path (behind_in_box, (cert, subst (λ j. EndsAt parts.tree (behind t) j (NoMoveLeaf cert)) same ends))

      pub empty_point : IsInBox plant t → All (MeetsRow t) path → All (MeetsRow (behind t)) other → IsPoint (met_system plant law path other) t
      empty_point in_box on_path met =
          let size = box_size known.box_meets plant t in_box in
          leaf_point known.box_meets plant path _ t
          (record { in_box = in_box; on_path = on_path; meets = (substituted_points plant.n (next_forms plant law) t size other).1 (subst (λ s. All (MeetsRow s) other) (sym (next_forms_value plant law law_fits t size)) met) })

-- ---- replies
pub record HasLawAt (parts : Parts) (t u : List ℚ) : Type 0 where
  pub place : ℕ
  pub number : ℕ
  pub certs : List (List (ℕ × ℚ))
  pub law : LawOfSet
  pub ends : EndsAt parts.tree t place (Law number certs)
  pub named : IsLawNumbered parts.laws number law
  pub is_move : first_move parts.plant.p law t ≡ u

law_of : (parts : Parts) (t u : List ℚ) (reply : Reply) → RepliesAt parts t reply → reply ≡ move u → HasLawAt parts t u
law_of parts t u _ (by_law place number certs law ends named) e = record { place = place; number = number; certs = certs; law = law; ends = ends; named = named; is_move = (let same : first_move parts.plant.p law t ≡ u = cc in same) }
law_of parts t u _ (by_no_law place cert ends) e = absurd cc

pub law_at : (parts : Parts) (t u : List ℚ) → RepliesAt parts t (move u) → HasLawAt parts t u
law_at parts t u r = law_of parts t u (move u) r refl

-- ---- a controller that leads to a target isn't safe
law_not_empty : (nodes : List Node) (p q number : ℕ) (certs : List (List (ℕ × ℚ))) (cert : List (ℕ × ℚ)) → p ≡ q → slice_get nodes p ≡ Some (Law number certs) → slice_get nodes q ≡ Some (NoMoveLeaf cert) → ⊥
law_not_empty nodes p q number certs cert e a b = let same = ap (slice_get nodes) e in absurd cc

module _ (known : Known) (parts : Parts) (is : IsController parts.plant parts.laws parts.tree) where
  no_target : (s : List ℚ) (target : Target) → HasMove parts s → IsAtTarget parts s target → ⊥
  no_target s (Low i) has below = ≤ℚ-not-< (within_low parts.plant.grid s (i - 1) has.in_box) below
  no_target s (High i) has above = ≤ℚ-not-< (within_high parts.plant.grid s (i - 1) has.in_box) above
  no_target s (NoMove number) has arrives =
      let law = law_at parts s has.u has.replies in
      let once : EndsOnce parts.tree s = known.one_leaf parts.tree s is.shapes.complete in
      let mine : law.place ≡ once.place = once.only law.place (Law law.number law.certs) law.ends in
      let other : number - 1 ≡ once.place = once.only (number - 1) (NoMoveLeaf arrives.1.0) arrives.1.1 in
      law_not_empty parts.tree law.place (number - 1) law.number law.certs arrives.1.0 (mine ∙ sym other) law.ends.node_at arrives.1.1.node_at

  pub leads_not_safe : (one : Next) (t : List ℚ) → LeadsToTarget parts one t → IsSafe parts → ⊥
  leads_not_safe one t l safe =
      no_target (next parts.plant t (first_move parts.plant.p l.law t)) one.target (safe.stays t (first_move parts.plant.p l.law t) l.in_box (by_law (one.leaf - 1) l.number l.certs l.law l.ends l.named)) l.arrives

  pub away_not_safe : (one : Next) (pairs : List (ℚ × ℚ)) → LeadsAway parts one pairs → IsSafe parts → ⊥
  away_not_safe one pairs l safe =
      let half = l.reach /ℚ int (pos 2) in
      let twice : int (pos 2) *ℚ half ≡ l.reach = *ℚ-/ℚ l.reach (int (pos 2)) (λ e. <ℚ_irrefl (subst (λ z. int (pos 0) <ℚ z) e (positive_int 2 (omega arith)))) in
      let some : int (pos 0) <ℚ half = positive half l.reach twice l.some in
      let less : half <ℚ l.reach = below half l.reach twice l.some in
      leads_not_safe one (point_at pairs half) (l.away half some less) safe
    where
      positive : (h r : ℚ) → int (pos 2) *ℚ h ≡ r → int (pos 0) <ℚ r → int (pos 0) <ℚ h
      positive h r e p = linear_lt (h ∷ r ∷ []) (eq e (lt p none)) (search claims depth 40) tt

      below : (h r : ℚ) → int (pos 2) *ℚ h ≡ r → int (pos 0) <ℚ r → h <ℚ r
      below h r e p = linear_lt (h ∷ r ∷ []) (eq e (lt p none)) (search claims depth 40) tt
