-- In the region of a law its unknowns meet the conditions of Karush, Kuhn and Tucker with the rows of its set, so each other admissible
-- sequence costs more.
use Rattle.std.proofs.Common.{◌≡◌, ◌≢◌, ℕ, zero, suc, ◌-◌, ◌*◌, ◌<◌, List, [], ◌∷◌, length, get_or, take, refl, sym, ◌∙◌, ap, subst, arith}
use Rattle.std.proofs.lemmas.List.Elements.{All-from_recursion, recursion_from_All}
use Rattle.std.proofs.lemmas.List.{length-map}
use Rattle.mpc_exact.specs.Rational.{ℚ, ◌+ℚ◌, ◌≤ℚ◌, ◌<ℚ◌}
use Rattle.mpc_exact.proofs.Linear.{linear_lt, claims, none, lt}
use Rattle.mpc_space.specs.Vector.{coordinate, dot, mat_vec, quadratic, AllAtMost}
use Rattle.mpc_space.specs.Matrix.{height}
use Rattle.mpc_space.specs.Definite.{IsDefinite}
use Rattle.mpc_space.specs.Optimality.{objective, IsStationary}
use Rattle.mpc_space.proofs.Entries.{at_most_at}
use Rattle.mpc_space.proofs.Matrix.{length-mat_vec, coordinate-mat_vec}
use Rattle.mpc_space.proofs.Optimality.{stationary_unique}
use Rattle.mpc_linear.specs.Grid.{rows_of as cut_rows}
use Rattle.mpc_plant.specs.declared.plants.Plant.{Plant}
use Rattle.mpc_plant.specs.declared.lists.Coordinate.{Coordinate}
use Rattle.mpc_plant.specs.Trajectory.{IsSequence, IsAdmissible, IsBest, cost}
use Rattle.mpc_plant.specs.Reply.{IsRight, move, infeasible}
use Rattle.mpc_rows.specs.declared.programs.Qp.{Qp}
use Rattle.mpc_rows.specs.declared.laws.Law.{Law}
use Rattle.mpc_rows.specs.ActiveSets.{extended, rows_of, IsInBox, MeetsRows, IsFeasible}
use Rattle.mpc_rows.specs.Laws.{IsLaw, IsInRegion, moves_at, mults_at}
use Rattle.mpc_condense.specs.Condensed.{stacked, program_cost, IsCondensed}
use Rattle.mpc_condense.specs.ProgramTheorems.{SameSequences}
use Rattle.mpc_condense.proofs.Stacks.{cut_stacked, cut_wide, cut_length, stacked_length, stacked_apart, AllWide}

dearer : (a b k : ℚ) → a <ℚ b → (a +ℚ k) <ℚ (b +ℚ k)
dearer a b k h = linear_lt (a ∷ b ∷ k ∷ []) (lt h none) (search claims depth 40) tt

first_cut : (n p : ℕ) (xs : List ℚ) → 0 < n → get_or (cut_rows n p xs) 0 [] ≡ take p xs
first_cut zero p xs h = absurd (omega arith)
first_cut (suc n) p xs h = refl

-- a point of the box has one entry a count
box_length : (counts : List ℕ) (t : List ℚ) → IsInBox counts t → length t ≡ length counts
box_length [] [] h = refl
box_length [] (x ∷ t) h = absurd h
box_length (count ∷ counts) [] h = absurd h
box_length (count ∷ counts) (x ∷ t) h = ap suc (box_length counts t h.2)

-- ---- rows, one by one
module _ (qp : Qp) (t z : List ℚ) (meets : MeetsRows qp t z) where
  abbrev c : List ℚ
  c = extended t

  row_meets : (i : ℕ) → dot (get_or qp.g.rows i []) z ≤ℚ dot (get_or qp.w.rows i []) c
  row_meets i =
      subst (λ a. a ≤ℚ dot (get_or qp.w.rows i []) c) (coordinate-mat_vec qp.g.rows z i)
      (subst (λ b. coordinate (mat_vec qp.g.rows z) i ≤ℚ b) (coordinate-mat_vec qp.w.rows c i) (at_most_at (mat_vec qp.g.rows z) (mat_vec qp.w.rows c) meets i))

  -- the rows of a set hold where all rows do
  part_meets : (s : List ℕ) → AllAtMost (mat_vec (rows_of qp.g.rows s) z) (mat_vec (rows_of qp.w.rows s) c)
  part_meets [] = tt
  part_meets (i ∷ s) = (row_meets (i - 1), part_meets s)

-- ---- sequences, which are admissible exactly where the program's rows hold
module _ (laws : SameSequences) where
  module _ (plant : Plant) (qp : Qp) (is : IsCondensed qp plant) (t : List ℚ) (in_box : IsInBox qp.counts t) where
    size : length t ≡ plant.n
    size = box_length qp.counts t in_box ∙ ap length is.counts_are ∙ length-map plant.grid (λ (axis : Coordinate). axis.count) ∙ plant.is_plant.grid_size

    wide_of : (v : List (List ℚ)) → IsSequence plant v → AllWide plant.p v
    wide_of v s = recursion_from_All (λ u. length u ≡ plant.p) v s.inputs

    stacked_size : (v : List (List ℚ)) → IsSequence plant v → length (stacked v) ≡ height qp.h
    stacked_size v s = stacked_length plant.p v (wide_of v s) ∙ ap (λ n. n * plant.p) s.steps ∙ omega (arith, is.unknowns_are)

    meets_of_admissible : (v : List (List ℚ)) → IsSequence plant v → IsAdmissible plant t v → MeetsRows qp t (stacked v)
    meets_of_admissible v s a = (laws plant qp t v is size s).0 a

    pub no_sequence : ((z : List ℚ) → IsFeasible qp t z → ⊥) → IsRight plant t infeasible
    no_sequence empty v s a = empty (stacked v) (record { in_box = in_box; size = stacked_size v s; meets = meets_of_admissible v s a })

  module _ (plant : Plant) (qp : Qp) (law : Law) (t : List ℚ) (is : IsCondensed qp plant) (definite : IsDefinite qp.h.rows) (is_law : IsLaw qp law) (within : IsInRegion qp law t) where
    abbrev z : List ℚ
    z = moves_at law t

    abbrev l : List ℚ
    l = mults_at law t

    abbrev g : List (List ℚ)
    g = rows_of qp.g.rows law.set

    abbrev w : List ℚ
    w = mat_vec (rows_of qp.w.rows law.set) (extended t)

    abbrev f : List ℚ
    f = mat_vec qp.f.rows (extended t)

    abbrev sequence : List (List ℚ)
    sequence = cut_rows plant.horizon plant.p z

    t_size : length t ≡ plant.n
    t_size = size plant qp is t within.in_box

    h_size : height qp.h ≡ plant.horizon * plant.p
    h_size = is.unknowns_are ∙ (omega arith)

    z_size : length z ≡ height qp.h
    z_size = length-mat_vec law.moves.rows (extended t) ∙ is_law.shape.moves_shape.rows_are

    shaped : length z ≡ plant.horizon * plant.p
    shaped = z_size ∙ h_size

    is_sequence : IsSequence plant sequence
    is_sequence = record {
      steps = cut_length plant.horizon plant.p z;
      inputs = All-from_recursion (λ u. length u ≡ plant.p) sequence (cut_wide plant.horizon plant.p z shaped);
    }

    stacked_is : stacked sequence ≡ z
    stacked_is = cut_stacked plant.horizon plant.p z shaped

    is_admissible : IsAdmissible plant t sequence
    is_admissible =
        (laws plant qp t sequence is t_size is_sequence).1 (subst (MeetsRows qp t) (sym stacked_is) within.meets)

    stationary : IsStationary qp.h.rows f g w z l
    stationary =
        let e = is_law.equations t (box_length qp.counts t within.in_box) in
        record {
          gradient = e.stationary;
          nonnegative = within.nonnegative;
          complementary = ap (dot l) e.tight;
        }

    dearer_sequence : (v : List (List ℚ)) → IsSequence plant v → IsAdmissible plant t v → v ≢ sequence → cost plant t sequence <ℚ cost plant t v
    dearer_sequence v s a other =
        let v_size : length (stacked v) ≡ height qp.h = stacked_size plant qp is t within.in_box v s in
        let apart : stacked v ≢ z =
        λ e. other (stacked_apart plant.p v sequence (wide_of plant qp is t within.in_box v s) (cut_wide plant.horizon plant.p z shaped) (s.steps ∙ sym (cut_length plant.horizon plant.p z)) (e ∙ sym stacked_is)) in
        let meets : AllAtMost (mat_vec g (stacked v)) w = part_meets qp t (stacked v) ((laws plant qp t v is t_size s).0 a) law.set in
        let less : objective qp.h.rows f z <ℚ objective qp.h.rows f (stacked v) =
        stationary_unique qp.h.rows f g w z l stationary is.h_symmetric definite z_size (stacked v) v_size apart meets in
        let sum : program_cost qp (extended t) z <ℚ program_cost qp (extended t) (stacked v) =
        dearer (objective qp.h.rows f z) (objective qp.h.rows f (stacked v)) (quadratic qp.y.rows (extended t)) less in
        let mine : program_cost qp (extended t) z ≡ cost plant t sequence = ap (program_cost qp (extended t)) (sym stacked_is) ∙ sym (is.same_cost t sequence t_size is_sequence) in
        let its : program_cost qp (extended t) (stacked v) ≡ cost plant t v = sym (is.same_cost t v t_size s) in
        subst (λ b. cost plant t sequence <ℚ b) its (subst (λ a. a <ℚ program_cost qp (extended t) (stacked v)) mine sum)

    is_best : IsBest plant t sequence
    is_best = record { sequence = is_sequence; admissible = is_admissible; cheapest = λ v s a other. dearer_sequence v s a other }

    pub right_move : IsRight plant t (move (take plant.p (moves_at law t)))
    right_move = (sequence, is_best, first_cut plant.horizon plant.p z (omega (arith, plant.is_plant.steps.from_low)))

  pub law_is_right :
      (plant : Plant) (qp : Qp) (law : Law) (t : List ℚ) → IsCondensed qp plant → IsDefinite qp.h.rows → IsLaw qp law → IsInRegion qp law t
      → IsRight plant t (move (take plant.p (moves_at law t)))
  law_is_right plant qp law t is definite is_law within = right_move plant qp law t is definite is_law within

  pub infeasible_is_right : (plant : Plant) (qp : Qp) (t : List ℚ) → IsCondensed qp plant → IsInBox qp.counts t → ((z : List ℚ) → IsFeasible qp t z → ⊥) → IsRight plant t infeasible
  infeasible_is_right plant qp t is in_box empty = no_sequence plant qp is t in_box empty
