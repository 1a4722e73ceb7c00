-- The cheapest choice of a program is the best of the sequences for which its rows hold.
use Rattle.std.proofs.Common.{◌≡◌, ◌≢◌, ℕ, zero, suc, ◌*◌, ◌<◌, List, [], ◌∷◌, length, get_or, take, refl, sym, ◌∙◌, ap, subst, arith, ◌↔◌}
use Rattle.std.proofs.lemmas.List.Elements.{All-from_recursion, recursion_from_All}
use Rattle.std.proofs.lemmas.List.{length-map}
use Rattle.mpc_exact.specs.Rational.{ℚ, ◌+ℚ◌, ◌<ℚ◌}
use Rattle.mpc_exact.proofs.Linear.{linear_lt, claims, none, lt}
use Rattle.mpc_space.specs.Vector.{quadratic}
use Rattle.mpc_space.specs.Matrix.{height}
use Rattle.mpc_linear.specs.Grid.{rows_of as cut_rows}
use Rattle.mpc_plant.specs.declared.plants.Plant.{Plant}
use Rattle.mpc_plant.specs.declared.lists.Coordinate.{Coordinate}
use Rattle.mpc_plant.specs.Trajectory.{IsSequence, cost}
use Rattle.mpc_rows.specs.declared.programs.Qp.{Qp}
use Rattle.mpc_rows.specs.ActiveSets.{extended, IsInBox, MeetsRows, IsFeasible}
use Rattle.mpc_cover.specs.Cheapest.{cost_at, IsCheapest}
use Rattle.mpc_condense.specs.Condensed.{stacked, program_cost, counts_of}
use Rattle.mpc_states.proofs.Stacks.{cut_stacked, cut_wide, cut_length, stacked_length, stacked_apart, AllWide}

dearer : (a b k : ℚ) → a <ℚ b → (a +ℚ k) <ℚ (b +ℚ k)
dearer a b k h = linear_lt (a ∷ b ∷ k ∷ []) (lt h none) (search claims depth 40) tt

first_cut : (n p : ℕ) (xs : List ℚ) → 0 < n → get_or (cut_rows n p xs) 0 [] ≡ take p xs
first_cut zero p xs h = absurd (omega arith)
first_cut (suc n) p xs h = refl

-- a point of the box has one entry a count
box_length : (counts : List ℕ) (t : List ℚ) → IsInBox counts t → length t ≡ length counts
box_length [] [] h = refl
box_length [] (x ∷ t) h = absurd h
box_length (count ∷ counts) [] h = absurd h
box_length (count ∷ counts) (x ∷ t) h = ap suc (box_length counts t h.2)

pub point_length : (plant : Plant) (counts : List ℕ) (t : List ℚ) → counts ≡ counts_of plant.grid → IsInBox counts t → length t ≡ plant.n
point_length plant counts t e in_box = box_length counts t in_box ∙ ap length e ∙ length-map plant.grid (λ (axis : Coordinate). axis.count) ∙ plant.is_plant.grid_size

-- a program with the plant's cost, whose rows hold for certain sequences at t
module _ (plant : Plant) (qp : Qp) (t : List ℚ) (Admissible : List (List ℚ) → Type 0) (in_box : IsInBox qp.counts t) (unknowns_are : height qp.h ≡ plant.p * plant.horizon)
    (same_cost : (v : List (List ℚ)) → IsSequence plant v → cost plant t v ≡ program_cost qp (extended t) (stacked v)) (same_sequences : (v : List (List ℚ)) → IsSequence plant v → MeetsRows qp t (stacked v) ↔ Admissible v) where
  wide_of : (v : List (List ℚ)) → IsSequence plant v → AllWide plant.p v
  wide_of v s = recursion_from_All (λ u. length u ≡ plant.p) v s.inputs

  stacked_size : (v : List (List ℚ)) → IsSequence plant v → length (stacked v) ≡ height qp.h
  stacked_size v s = stacked_length plant.p v (wide_of v s) ∙ ap (λ n. n * plant.p) s.steps ∙ omega (arith, unknowns_are)

  feasible_of : (v : List (List ℚ)) → IsSequence plant v → Admissible v → IsFeasible qp t (stacked v)
  feasible_of v s a = record { in_box = in_box; size = stacked_size v s; meets = (same_sequences v s).1 a }

  pub no_sequence : ((z : List ℚ) → IsFeasible qp t z → ⊥) → (v : List (List ℚ)) → IsSequence plant v → Admissible v → ⊥
  no_sequence empty v s a = empty (stacked v) (feasible_of v s a)

  module _ (z : List ℚ) (least : IsCheapest qp t z) where
    abbrev pub sequence : List (List ℚ)
    sequence = cut_rows plant.horizon plant.p z

    h_size : height qp.h ≡ plant.horizon * plant.p
    h_size = unknowns_are ∙ (omega arith)

    shaped : length z ≡ plant.horizon * plant.p
    shaped = least.feasible.size ∙ h_size

    pub is_sequence : IsSequence plant sequence
    is_sequence = record {
      steps = cut_length plant.horizon plant.p z;
      inputs = All-from_recursion (λ u. length u ≡ plant.p) sequence (cut_wide plant.horizon plant.p z shaped);
    }

    stacked_is : stacked sequence ≡ z
    stacked_is = cut_stacked plant.horizon plant.p z shaped

    pub is_admissible : Admissible sequence
    is_admissible = (same_sequences sequence is_sequence).0 (subst (MeetsRows qp t) (sym stacked_is) least.feasible.meets)

    pub dearer_sequence : (v : List (List ℚ)) → IsSequence plant v → Admissible v → v ≢ sequence → cost plant t sequence <ℚ cost plant t v
    dearer_sequence v s a other =
        let apart : stacked v ≢ z =
        λ e. other (stacked_apart plant.p v sequence (wide_of v s) (cut_wide plant.horizon plant.p z shaped) (s.steps ∙ sym (cut_length plant.horizon plant.p z)) (e ∙ sym stacked_is)) in
        let less : cost_at qp t z <ℚ cost_at qp t (stacked v) = least.others (stacked v) (feasible_of v s a) apart in
        let sum : program_cost qp (extended t) z <ℚ program_cost qp (extended t) (stacked v) =
        dearer (cost_at qp t z) (cost_at qp t (stacked v)) (quadratic qp.y.rows (extended t)) less in
        let mine : program_cost qp (extended t) z ≡ cost plant t sequence = ap (program_cost qp (extended t)) (sym stacked_is) ∙ sym (same_cost sequence is_sequence) in
        let its : program_cost qp (extended t) (stacked v) ≡ cost plant t v = sym (same_cost v s) in
        subst (λ b. cost plant t sequence <ℚ b) its (subst (λ a. a <ℚ program_cost qp (extended t) (stacked v)) mine sum)

    pub first_move : get_or sequence 0 [] ≡ take plant.p z
    first_move = first_cut plant.horizon plant.p z (omega (arith, plant.is_plant.steps.from_low))
