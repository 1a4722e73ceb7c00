-- What it means that the targets of a controller are ruled out, or that one is reached.
use Rattle.std.proofs.Common.{◌≡◌, ℕ, ◌+◌, ◌<◌, inl, inr, List, Some, sym, ◌∙◌, subst, arith, All, ◌↔◌}
use Rattle.std.specs.Prelude.{slice_get}
use Rattle.std.proofs.lemmas.Option.{slice_get_within}
use Rattle.mpc_exact.specs.Rational.{ℚ}
use Rattle.mpc_plant.specs.declared.plants.Plant.{Plant}
use Rattle.mpc_plant.specs.Trajectory.{IsInBox}
use Rattle.mpc_plant.specs.Reply.{Reply}
use Rattle.mpc_rows.specs.declared.laws.Law.{Law as LawOfSet}
use Rattle.mpc_rows.specs.declared.systems.Row.{Row}
use Rattle.mpc_rows.specs.declared.trees.Node.{Node}
use Rattle.mpc_rows.specs.declared.trees.Node.TheVariants.{Split, Law, NoMove as NoMoveLeaf}
use Rattle.mpc_rows.specs.LinearSystem.{LinearSystem, MeetsRow, IsPoint, IsPairPoint, point_at}
use Rattle.mpc_controller.specs.Parts.{Parts}
use Rattle.mpc_controller.specs.Bounds.{IsController}
use Rattle.mpc_controller.specs.Walk.{EndsAt}
use Rattle.mpc_controller.specs.Replies.{RepliesAt, by_law, by_no_law, first_move, IsLawNumbered}
use Rattle.mpc_recur.specs.declared.answers.Target.TheVariants.{Low, High, NoMove}
use Rattle.mpc_recur.specs.declared.answers.Next.{Next}
use Rattle.mpc_controller.specs.Paths.{PathTo}
use Rattle.mpc_recur.specs.Successors.{next, HasMove, IsSafe, LeadsToTarget, LeadsAway}
use Rattle.mpc_recur.specs.Findings.{reached}
use Rattle.mpc_recur.specs.Targets.{low_system, high_system, met_system, target_of, SideFinds, SidesMet, EmptyFinds, TargetsMet, TargetsFind, NodeMet, NodeFinds, AllRuledOut, IsFound, TargetsFit, NothingWide}
use Rattle.mpc_recur.proofs.FormLemmas.{next_size}
use Rattle.mpc_recur.proofs.SystemLemmas.{within_by}
use Rattle.mpc_recur.proofs.WalkLemmas.{meets_path}
use Rattle.mpc_recur.proofs.StepLemmas.{Known, ends_there, low_there, high_there, low_point, high_point, meets_other, empty_there, empty_point, HasLawAt, law_at, leads_not_safe}

module _ (known : Known) (parts : Parts) (is : IsController parts.plant parts.laws parts.tree) where
  abbrev plant : Plant
  plant = parts.plant

  -- ---- the targets of one leaf
  module _ (place number : ℕ) (path : List Row) (certs : List (List (ℕ × ℚ))) (law : LawOfSet) (leads : PathTo parts.tree place path) (at : slice_get parts.tree place ≡ Some (Law number certs)) (named : IsLawNumbered parts.laws number law) where
    abbrev after : List ℚ → List ℚ
    after t = next plant t (first_move plant.p law t)

    -- where no step leads below or above a coordinate, each leads into the box
    stays_in_box : SidesMet plant law path → (t : List ℚ) → IsInBox plant t → All (MeetsRow t) path → IsInBox plant (after t)
    stays_in_box sides t in_box on_path =
        within_by plant.grid (after t) (next_size plant t (first_move plant.p law t) ∙ sym plant.is_plant.grid_size)
        (λ i h below.
        let inside : i < plant.n = omega (arith, plant.is_plant.grid_size) in
        (sides i inside).low.no_point (t, low_point known parts is place number path certs law leads at named t i inside in_box on_path below))
        (λ i h above.
        let inside : i < plant.n = omega (arith, plant.is_plant.grid_size) in
        (sides i inside).high.no_point (t, high_point known parts is place number path certs law leads at named t i inside in_box on_path above))

    no_infeasible : TargetsMet plant parts.tree law path → (t : List ℚ) → IsInBox plant t → All (MeetsRow t) path → (reply : Reply) → RepliesAt parts (after t) reply → HasMove parts (after t)
    no_infeasible met t in_box on_path _ (by_law there law_number law_certs other ends other_named) = record {
      in_box = stays_in_box met.sides t in_box on_path;
      u = first_move plant.p other (after t);
      replies = by_law there law_number law_certs other ends other_named;
    }
    no_infeasible met t in_box on_path _ (by_no_law there cert ends) =
        let other = meets_path known.broken_points parts.tree (after t) there ends.reached in
        let ruled_out = met.empties there (slice_get_within parts.tree there (NoMoveLeaf cert) ends.node_at) other.path cert other.leads ends.node_at in
        absurd (ruled_out.no_point (t, empty_point known parts is place number path certs law leads at named t there other.path cert other.leads ends.node_at in_box on_path other.meets))

    pub stays_safe : TargetsMet plant parts.tree law path → (t : List ℚ) → IsInBox plant t → All (MeetsRow t) path → HasMove parts (after t)
    stays_safe met t in_box on_path = let reply = known.everywhere parts is (after t) in no_infeasible met t in_box on_path reply.0 reply.1

    -- ---- one that is reached
    abbrev LeadsThere : Next → List ℚ → Type 0
    LeadsThere one t = LeadsToTarget parts one t

    away_by : (one : Next) (s : LinearSystem) (pairs : List (ℚ × ℚ)) → IsPairPoint s pairs → ((t : List ℚ) → IsPoint s t → LeadsToTarget parts one t) → LeadsAway parts one pairs
    away_by one s pairs p there = record { reach = p.reach; some = p.some; away = λ d some less. there (point_at pairs d) (p.meets d some less) }

    same_away : (one other : Next) (pairs : List (ℚ × ℚ)) → one ≡ other → LeadsAway parts other pairs → LeadsAway parts one pairs
    same_away one other pairs e l = subst (λ n. LeadsAway parts n pairs) (sym e) l

    side_leads : (i : ℕ) → i < plant.n → (one : Next) (pairs : List (ℚ × ℚ)) → SideFinds plant law path (place + 1) i (reached one pairs) → LeadsAway parts one pairs
    side_leads i h one pairs (inl f) =
        same_away one (target_of (place + 1) (Low (i + 1))) pairs f.0 (away_by (target_of (place + 1) (Low (i + 1))) (low_system plant law path i) pairs f.1.point (λ t p. low_there known parts is place number path certs law leads at named t i h p))
    side_leads i h one pairs (inr (met, f)) =
        same_away one (target_of (place + 1) (High (i + 1))) pairs f.0 (away_by (target_of (place + 1) (High (i + 1))) (high_system plant law path i) pairs f.1.point (λ t p. high_there known parts is place number path certs law leads at named t i h p))

    empty_leads : SidesMet plant law path → (k : ℕ) (one : Next) (pairs : List (ℚ × ℚ)) → EmptyFinds plant parts.tree law path (place + 1) k (reached one pairs) → LeadsAway parts one pairs
    empty_leads sides k one pairs f =
        same_away one (target_of (place + 1) (NoMove (k + 1))) pairs f.finds.0
        (away_by (target_of (place + 1) (NoMove (k + 1))) (met_system plant law path f.other) pairs f.finds.1.point
        (λ t p.
        let m = meets_other known parts is place number path certs law leads at named t k f.other f.cert f.leads f.is p in
        empty_there known parts is place number path certs law leads at named t k f.other f.cert f.leads f.is p (stays_in_box sides t m.0.in_box m.0.on_path)))

    pub target_leads : (one : Next) (pairs : List (ℚ × ℚ)) → TargetsFind plant parts.tree law path (place + 1) (reached one pairs) → LeadsAway parts one pairs
    target_leads one pairs (inl f) = absurd f
    target_leads one pairs (inr (forms, inl f)) = side_leads f.place f.within one pairs f.here
    target_leads one pairs (inr (forms, inr (sides, f))) = empty_leads sides f.place one pairs f.here

    -- ---- of a safe controller each is ruled out
    pub safe_ruled_out : IsSafe parts → TargetsFit plant parts.tree law path → TargetsMet plant parts.tree law path
    safe_ruled_out safe fits = record {
      forms = fits.forms;
      sides = λ i h. record {
        low = record { fits = fits.lows i h; no_point = λ v. leads_not_safe known parts is (target_of (place + 1) (Low (i + 1))) v.0 (low_there known parts is place number path certs law leads at named v.0 i h v.1) safe };
        high = record { fits = fits.highs i h; no_point = λ v. leads_not_safe known parts is (target_of (place + 1) (High (i + 1))) v.0 (high_there known parts is place number path certs law leads at named v.0 i h v.1) safe };
      };
      empties = λ k h other cert other_leads other_at. record {
        fits = fits.empties k other cert other_leads other_at;
        no_point = λ v. leads_not_safe known parts is (target_of (place + 1) (NoMove (k + 1))) v.0 (empty_leads_there k other cert other_leads other_at v.0 v.1) safe;
      };
    }
      where
        empty_leads_there : (k : ℕ) (other : List Row) (cert : List (ℕ × ℚ)) → PathTo parts.tree k other → slice_get parts.tree k ≡ Some (NoMoveLeaf cert) → (t : List ℚ) → IsPoint (met_system plant law path other) t → LeadsToTarget parts (target_of (place + 1) (NoMove (k + 1))) t
        empty_leads_there k other cert other_leads other_at t p =
            let m = meets_other known parts is place number path certs law leads at named t k other cert other_leads other_at p in
            let ends = ends_of t m.0.on_path in
            let has = safe.stays t (first_move plant.p law t) m.0.in_box (by_law place number certs law ends named) in
            empty_there known parts is place number path certs law leads at named t k other cert other_leads other_at p has.in_box
          where
            ends_of : (t : List ℚ) → All (MeetsRow t) path → EndsAt parts.tree t place (Law number certs)
            ends_of t on_path = ends_there known parts is place number path certs law leads at named t on_path

  -- ---- the tree
  safe_stays : AllRuledOut parts → (t u : List ℚ) → IsInBox plant t → HasLawAt parts t u → HasMove parts (next plant t u)
  safe_stays all t u in_box l =
      let p = meets_path known.broken_points parts.tree t l.place l.ends.reached in
      let within = slice_get_within parts.tree l.place (Law l.number l.certs) l.ends.node_at in
      let met : TargetsMet plant parts.tree l.law p.path = all l.place within p.path (Law l.number l.certs) p.leads l.ends.node_at l.law l.named in
      subst (λ v. HasMove parts (next plant t v)) l.is_move (stays_safe l.place l.number p.path l.certs l.law p.leads l.ends.node_at l.named met t in_box p.meets)

  ruled_out_safe : AllRuledOut parts → IsSafe parts
  ruled_out_safe all = record { stays = λ t u in_box replies. safe_stays all t u in_box (law_at parts t u replies) }

  ruled_out_fits : AllRuledOut parts → NothingWide parts
  ruled_out_fits all = record { fits = λ place number path certs law leads at named. fits_of law path (all place (slice_get_within parts.tree place (Law number certs) at) path (Law number certs) leads at law named) }
    where
      fits_of : (law : LawOfSet) (path : List Row) → TargetsMet plant parts.tree law path → TargetsFit plant parts.tree law path
      fits_of law path met = record {
        forms = met.forms;
        lows = λ i h. (met.sides i h).low.fits;
        highs = λ i h. (met.sides i h).high.fits;
        empties = λ k other cert leads at. (met.empties k (slice_get_within parts.tree k (NoMoveLeaf cert) at) other cert leads at).fits;
      }

  node_ruled_out : IsSafe parts → NothingWide parts → (place : ℕ) (path : List Row) (node : Node) → PathTo parts.tree place path → slice_get parts.tree place ≡ Some node → NodeMet parts path node
  node_ruled_out safe wide place path (Split row) leads at = tt
  node_ruled_out safe wide place path (NoMoveLeaf cert) leads at = tt
  node_ruled_out safe wide place path (Law number certs) leads at = λ law named. safe_ruled_out place number path certs law leads at named safe (wide.fits place number path certs law leads at named)

  pub ruled_out_where_safe : AllRuledOut parts ↔ (IsSafe parts × NothingWide parts)
  ruled_out_where_safe = (λ all. (ruled_out_safe all, ruled_out_fits all), λ h place within path node leads at. node_ruled_out h.0 h.1 place path node leads at)

  -- ---- what is found
  node_leads : (place : ℕ) (path : List Row) (node : Node) (one : Next) (pairs : List (ℚ × ℚ)) → PathTo parts.tree place path → slice_get parts.tree place ≡ Some node → NodeFinds parts path (place + 1) node (reached one pairs) → LeadsAway parts one pairs
  node_leads place path (Split row) one pairs leads at f = absurd f
  node_leads place path (NoMoveLeaf cert) one pairs leads at f = absurd f
  node_leads place path (Law number certs) one pairs leads at f = target_leads place number path certs f.law leads at f.is one pairs f.finds

  pub found_leads : (one : Next) (pairs : List (ℚ × ℚ)) → IsFound parts (reached one pairs) → LeadsAway parts one pairs
  found_leads one pairs f = node_leads f.place f.here.path f.here.node one pairs f.here.leads f.here.is f.here.finds
