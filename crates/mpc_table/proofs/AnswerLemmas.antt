-- The answers that a table writes, and the table of a controller.
use Rattle.std.proofs.Common.{◌≡◌, ℕ, zero, suc, ◌-◌, ◌<◌, ◌≤◌, List, [], ◌∷◌, ◌++◌, length, get_or, take, map, Some, refl, sym, ◌∙◌, ap, subst, arith}
use Rattle.std.specs.Prelude.{All, slice_get, slice_index, codes, decimal}
use Rattle.std.specs.List.{join_with_byte}
use Rattle.std.proofs.lemmas.List.{length-map, get_or-map}
use Rattle.std.proofs.lemmas.Option.{get_or_from_slice_get}
use Rattle.mpc_frac.specs.Text.{text_of}
use Rattle.mpc_linear.specs.declared.integers.IntAffine.{IntAffine}
use Rattle.mpc_linear.specs.declared.integers.RowInt.{RowInt}
use Rattle.mpc_plant.specs.declared.lists.Coordinate.{Coordinate}
use Rattle.mpc_plant.specs.declared.plants.Plant.{Plant}
use Rattle.mpc_plant.specs.Reply.{move, infeasible}
use Rattle.mpc_plant.specs.Trajectory.{point_of}
use Rattle.mpc_rows.specs.ActiveSets.{extended}
use Rattle.mpc_rows.specs.declared.laws.Law.{Law as LawOfSet}
use Rattle.mpc_rows.specs.declared.trees.Node.{Node}
use Rattle.mpc_rows.specs.declared.trees.Node.TheVariants.{Split, Law, NoMove}
use Rattle.mpc_controller.specs.Preorder.{IsTree, IsNoSide}
use Rattle.mpc_controller.specs.Parts.{Parts, limits_of, IsNodeFor, IsSplitRow}
use Rattle.mpc_controller.specs.Bounds.{IsController, NodeFits, SplitFits}
use Rattle.mpc_controller.specs.Replies.{at_state, outside, first_outside, first_move, by_law, by_no_law}
use Rattle.mpc_table.proofs.ElementLemmas.{all_at}
use Rattle.mpc_table.specs.Steps.{Action, step_of, steps_of, AreNoSides, IsSafeBranch, AreSafe}
use Rattle.mpc_table.specs.Forms.{affine_values, AreFormsOf}
use Rattle.mpc_table.specs.Lookup.{Lookup, AreInputForms, NamesLaw, IsLookup, AreLawForms, IsTableOf}
use Rattle.mpc_table.specs.declared.steps.Step.{Step}
use Rattle.mpc_table.specs.SharedForms.{all_forms_at, AreLawPlaces}
use Rattle.mpc_table.specs.SharedSteps.{actions_at, AreStepsOf}
use Rattle.mpc_table.specs.SharedLookup.{IsShared}
use Rattle.mpc_table.specs.TableReplies.{IsMoveReply, IsInfeasibleReply, CanMove, AddsAnswer}
use Rattle.mpc_table.proofs.FormLemmas.{forms_values, take-mat_vec}
use Rattle.mpc_table.proofs.TableLemmas.{law_forms_length, law_forms_at}
use Rattle.mpc_table.proofs.WalkLemmas.{branch_node}

-- ---- what is written
law_at : (laws : List LawOfSet) (j : ℕ) → j < length laws → (law : LawOfSet) × (slice_get laws j ≡ Some law)
law_at [] j h = absurd (omega arith)
law_at (l ∷ ls) zero h = (l, refl)
law_at (l ∷ ls) (suc j) h = law_at ls j (omega arith)

pub move_answer : (t : Lookup) (parts : Parts) (counts : List ℕ) (node law : ℕ) (forms : List IntAffine) (before after : List ℕ) → IsTableOf parts t → IsMoveReply parts counts node law → CanMove t counts law → forms ≡ get_or t.laws (law - 1) forms
    → after ≡ before ++ join_with_byte 32 (map text_of (affine_values forms counts)) → AddsAnswer parts counts before after
move_answer t parts counts node law forms before after h reply can read added =
    let laws_are : AreLawForms parts.plant.p parts.laws t.laws = h.laws_are in
    let size : length t.laws ≡ length parts.laws = law_forms_length parts.plant.p parts.laws t.laws laws_are in
    let found = law_at parts.laws (law - 1) (omega (arith, can.from_first, can.to_last)) in
    let rows = found.0.moves.rows in
    let of_law : AreFormsOf (take parts.plant.p rows) forms = subst (AreFormsOf (take parts.plant.p rows)) (sym read) (law_forms_at parts.plant.p parts.laws t.laws (law - 1) found.0 forms laws_are found.1) in
    let values : affine_values forms counts ≡ first_move parts.plant.p found.0 (point_of counts) = forms_values (take parts.plant.p rows) forms counts of_law ∙ sym (take-mat_vec parts.plant.p rows (extended (point_of counts))) in
    record {
      answer = at_state (move (first_move parts.plant.p found.0 (point_of counts)));
      is_answer = (reply.inside, by_law reply.place law reply.certs found.0 reply.ends found.1);
      added = added ∙ ap (λ u. before ++ join_with_byte 32 (map text_of u)) values;
    }

pub infeasible_answer : (parts : Parts) (counts : List ℕ) (node : ℕ) (before after : List ℕ) → IsInfeasibleReply parts counts node → after ≡ before ++ codes "infeasible" → AddsAnswer parts counts before after
infeasible_answer parts counts node before after reply added = record { answer = at_state infeasible; is_answer = (reply.inside, by_no_law reply.place reply.cert reply.ends); added = added }

pub outside_answer : (parts : Parts) (counts : List ℕ) (i : ℕ) (before after : List ℕ) → first_outside (limits_of parts.plant) counts ≡ Some i → after ≡ before ++ (codes "outside " ++ decimal i) → AddsAnswer parts counts before after
outside_answer parts counts i before after reply added = record { answer = outside i; is_answer = reply; added = added }

-- ---- the table of a controller is safe
some_node : (tree : List Node) → IsTree tree → 0 < length tree
some_node [] h = absurd (omega arith)
some_node (node ∷ nodes) h = omega arith

named : (n laws others : ℕ) (node : Node) → others ≡ laws → IsNodeFor n laws node → NamesLaw others (step_of node)
named n laws others (Split row) e h = tt
named n laws others (Law law certs) e h = (h.from_low, subst (λ k. law ≤ k) (sym e) h.to_high)
named n laws others (NoMove cert) e h = tt

module _ (plant : Plant) (laws : List LawOfSet) (tree : List Node) (ok : IsController plant laws tree) (limits : List ℕ) (limits_are : limits ≡ limits_of plant) where
  size : length limits ≡ plant.n
  size = ap length limits_are ∙ length-map plant.grid (λ (axis : Coordinate). axis.count) ∙ plant.is_plant.grid_size

  safe : (sides : List ℕ) → AreNoSides tree sides → AreSafe limits (steps_of tree) sides
  safe sides h = record {
    one_each = h.one_each ∙ sym (length-map tree step_of);
    branches = λ place row at. safe_branch place row (branch_node tree place row at);
  }
    where
      safe_branch : (place : ℕ) (row : RowInt) → slice_get tree place ≡ Some (Split row) → IsSafeBranch limits (steps_of tree) sides place row
      safe_branch place row at =
          let shape : IsSplitRow plant.n row = all_at (IsNodeFor plant.n (length laws)) tree place (Split row) at ok.shapes.nodes_fit in
          let fits : SplitFits (limits_of plant) row = all_at (NodeFits (limits_of plant)) tree place (Split row) at ok.bounds.nodes_fit in
          let side : IsNoSide tree place (slice_index sides place) = h.each place row at in
          let here : SplitFits limits row = subst (λ l. SplitFits l row) (sym limits_are) fits in
          record {
            size = shape.size ∙ sym size;
            fits = here.reach_fits;
            after = side.after;
            before_end = subst (λ k. slice_index sides place < k) (sym (length-map tree step_of)) side.before_end;
          }

  numbers : (forms : List (List IntAffine)) → AreLawForms plant.p laws forms → All (NamesLaw (length forms)) (steps_of tree)
  numbers forms h k done lt =
      let inside : k < length tree = subst (λ n. k < n) (length-map tree step_of) lt in
      named_at k done inside (law_at_node tree k inside)
    where
      law_at_node : (nodes : List Node) (k : ℕ) → k < length nodes → (node : Node) × (slice_get nodes k ≡ Some node)
      law_at_node [] k h = absurd (omega arith)
      law_at_node (x ∷ xs) zero h = (x, refl)
      law_at_node (x ∷ xs) (suc k) h = law_at_node xs k (omega arith)

      named_at : (k : ℕ) (done : Action) → k < length tree → (node : Node) × (slice_get tree k ≡ Some node) → NamesLaw (length forms) (get_or (steps_of tree) k done)
      named_at k done inside found =
          subst (NamesLaw (length forms)) (sym (get_or-map step_of tree k found.0 done inside ∙ ap step_of (get_at tree k found.0 found.1)))
          (named plant.n (length laws) (length forms) found.0 (law_forms_length plant.p laws forms h) (all_at (IsNodeFor plant.n (length laws)) tree k found.0 found.1 ok.shapes.nodes_fit))
        where
          get_at : (nodes : List Node) (k : ℕ) (node : Node) → slice_get nodes k ≡ Some node → get_or nodes k node ≡ node
          get_at nodes k node at = get_or_from_slice_get nodes k node node at

  lookup : (forms : List (List IntAffine)) (sides : List ℕ) → AreLawForms plant.p laws forms → All (AreInputForms limits plant.p) forms → AreNoSides tree sides → IsLookup limits plant.p forms (steps_of tree) sides
  lookup forms sides of_laws bounded sides_are = record {
    limits_few = omega (arith, size, plant.is_plant.states.to_high);
    forms = bounded;
    root = subst (λ k. 0 < k) (sym (length-map tree step_of)) (some_node tree ok.shapes.complete);
    numbers = numbers forms of_laws;
    safe = safe sides sides_are;
  }

pub lookup_from : (parts : Parts) → IsController parts.plant parts.laws parts.tree → (plant : Plant) (laws : List LawOfSet) (tree other : List Node) (limits counts : List ℕ) (forms : List (List IntAffine)) (steps : List Action) (sides : List ℕ)
    → plant ≡ parts.plant → laws ≡ parts.laws → tree ≡ parts.tree → other ≡ parts.tree → limits ≡ limits_of plant → counts ≡ limits → AreLawForms plant.p laws forms → All (AreInputForms counts plant.p) forms → steps ≡ steps_of tree → AreNoSides other sides
    → IsLookup limits plant.p forms steps sides
lookup_from parts ok plant laws tree other limits counts forms steps sides ep el et eo limits_are same of_laws bounded steps_are sides_are =
    let ok_here : IsController plant laws tree = subst (λ p. IsController p laws tree) (sym ep) (subst (λ l. IsController parts.plant l tree) (sym el) (subst (IsController parts.plant parts.laws) (sym et) ok)) in
    subst (λ s. IsLookup limits plant.p forms s sides) (sym steps_are)
    (lookup plant laws tree ok_here limits limits_are forms sides of_laws (subst (λ l. All (AreInputForms l plant.p) forms) same bounded) (subst (λ t. AreNoSides t sides) (eo ∙ sym et) sides_are))

pub shared_from : (parts : Parts) → IsController parts.plant parts.laws parts.tree → (plant : Plant) (laws : List LawOfSet) (tree other : List Node) (limits counts : List ℕ) (forms : List IntAffine) (places : List (List ℕ)) (rows : List RowInt) (steps : List Step) (sides : List ℕ)
    → plant ≡ parts.plant → laws ≡ parts.laws → tree ≡ parts.tree → other ≡ parts.tree → limits ≡ limits_of plant → counts ≡ limits → AreLawPlaces counts plant.p laws forms places → AreStepsOf tree rows steps → AreNoSides other sides
    → IsShared limits plant.p forms places rows steps sides
shared_from parts ok plant laws tree other limits counts forms places rows steps sides ep el et eo limits_are same laws_are steps_are sides_are = record {
  lookup = lookup_from parts ok plant laws tree other limits counts (all_forms_at forms places) (actions_at rows steps) sides ep el et eo limits_are same laws_are.forms_are laws_are.bounded steps_are.actions_are sides_are;
  forms_named = laws_are.below;
  forms_different = laws_are.different;
  rows_named = steps_are.named;
  rows_different = steps_are.different;
}
