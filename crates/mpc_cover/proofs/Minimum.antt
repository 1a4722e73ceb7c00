-- The cheapest admissible choice at a point of the box, from the descent over the program's rows.
use Rattle.std.proofs.Common.{◌≡◌, ◌≢◌, ℕ, suc, ◌-◌, ◌≤◌, List, [], ◌∷◌, length, map, get_or, pos, negsuc, refl, sym, ◌∙◌, ap, subst, arith, append-nil, inl, inr, ⊎_elim}
use Rattle.std.proofs.Common.{subst₂}
use Rattle.mpc_exact.specs.Rational.{ℚ, int, ◌+ℚ◌, ◌-ℚ◌, ◌≤ℚ◌}
use Rattle.mpc_exact.proofs.OrderTheorems.{<ℚ_asymm}
use Rattle.mpc_exact.proofs.RationalRing.{reads, by_ring, by_equations}
use Rattle.mpc_space.specs.Vector.{coordinate, dot, vec_add, vec_sub, mat_vec, vec_mat, IsZero, IsSymmetric, IsIndependent, AllAtMost, AllNonneg}
use Rattle.mpc_space.specs.Matrix.{height}
use Rattle.mpc_space.specs.Definite.{IsDefinite}
use Rattle.mpc_space.proofs.Entries.{coordinate-sub, difference_zero, zero_by_dots, zero_by_entries, zero_or_not, at_most_at, at_most_by_entries}
use Rattle.mpc_space.proofs.Vector.{dot-add_right}
use Rattle.mpc_space.proofs.Matrix.{coordinate-mat_vec, length-mat_vec}
use Rattle.mpc_space.proofs.Optimality.{stationary_unique}
use Rattle.mpc_sets.specs.RowSet.{IsSetOfRows, Among}
use Rattle.mpc_cover.proofs.Members.{Among_within}
use Rattle.mpc_rows.specs.declared.programs.Qp.{Qp}
use Rattle.mpc_rows.specs.declared.laws.Law.{Law}
use Rattle.mpc_rows.specs.Laws.{moves_at, mults_at, IsLaw, IsInRegion}
use Rattle.mpc_rows.specs.ActiveSets.{extended, IsInBox, MeetsRows, IsTight, row_of, rows_of, IsFeasible, IsIndependentSet, MeetsEquations}
use Rattle.mpc_cover.specs.Cheapest.{IsCheapest, HasMultipliers}
use Rattle.mpc_cover.proofs.Segments.{MeetsFirst, holds_among, no_rows_independent, dot-no_rows}
use Rattle.mpc_cover.proofs.Descent.{Cheapest, descend}
use Rattle.mpc_cover.proofs.Laws.{length-row, cost_form, height-f}

pub length-box : (counts : List ℕ) (t : List ℚ) → IsInBox counts t → length t ≡ length counts
length-box [] [] h = refl
length-box [] (x ∷ t) h = absurd h
length-box (n ∷ counts) [] h = absurd h
length-box (n ∷ counts) (x ∷ t) h = ap suc (length-box counts t h.2)

without_last : (x l m : ℚ) → x +ℚ (l +ℚ m) ≡ int (pos 0) → m ≡ int (pos 0) → x +ℚ l ≡ int (pos 0)
without_last x l m e f = by_equations (int (pos 1)) (int (negsuc 0)) e f (by_ring (x ∷ l ∷ m ∷ []) (search reads depth 30) (search reads depth 30) tt)

module _ (qp : Qp) (t : List ℚ) where
  abbrev pub side : ℕ → List ℚ
  side i = row_of qp.g.rows i

  abbrev pub bound : ℕ → ℚ
  bound i = dot (row_of qp.w.rows i) (extended t)

  -- ---- rows one by one, and all at once
  pub rows_met : (z : List ℚ) → MeetsRows qp t z → MeetsFirst side bound (height qp.g) z
  rows_met z h i from to =
      subst₂ (λ u v. u ≤ℚ v) (coordinate-mat_vec qp.g.rows z (i - 1)) (coordinate-mat_vec qp.w.rows (extended t) (i - 1)) (at_most_at (mat_vec qp.g.rows z) (mat_vec qp.w.rows (extended t)) h (i - 1))

  pub rows_meet : (z : List ℚ) → MeetsFirst side bound (height qp.g) z → MeetsRows qp t z
  rows_meet z h =
      at_most_by_entries (mat_vec qp.g.rows z) (mat_vec qp.w.rows (extended t)) (length-mat_vec qp.g.rows z ∙ sym qp.is_program.w_shape.rows_are ∙ sym (length-mat_vec qp.w.rows (extended t)))
      (λ i l.
      let from_one : suc i - 1 ≡ i = omega arith in
      let within : suc i ≤ height qp.g = omega (arith, length-mat_vec qp.g.rows z, l) in
      subst₂ (λ u v. u ≤ℚ v) (sym (coordinate-mat_vec qp.g.rows z i)) (sym (coordinate-mat_vec qp.w.rows (extended t) i))
      (subst (λ k. dot (get_or qp.g.rows k []) z ≤ℚ dot (get_or qp.w.rows k []) (extended t)) from_one (h (suc i) (omega arith) within)))

  pub tight_by_rows : (s : List ℕ) (z : List ℚ) → ((i : ℕ) → Among i s → dot (side i) z ≡ bound i) → IsTight qp s t z
  tight_by_rows [] z h = refl
  tight_by_rows (i ∷ s) z h = λ k. h i (inl refl) k ∷ tight_by_rows s z (λ j m. h j (inr m)) k

  met_among : (s : List ℕ) (z : List ℚ) → ((i : ℕ) → Among i s → dot (side i) z ≤ℚ bound i) → AllAtMost (mat_vec (rows_of qp.g.rows s) z) (mat_vec (rows_of qp.w.rows s) (extended t))
  met_among [] z h = tt
  met_among (i ∷ s) z h = (h i (inl refl), met_among s z (λ j m. h j (inr m)))

  -- ---- the cheapest choice
  module _ (d : IsDefinite qp.h.rows) (y : List ℚ) (feasible : IsFeasible qp t y) where
    reached : Cheapest (height qp.h) (mat_vec qp.h.rows) (mat_vec qp.f.rows (extended t)) side bound (height qp.g) []
    reached =
        descend (height qp.h) (mat_vec qp.h.rows) (cost_form qp d) (mat_vec qp.f.rows (extended t)) side bound (length-row qp)
        (omega (arith, length-mat_vec qp.f.rows (extended t), height-f qp)) (height qp.g) [] no_rows_independent y feasible.size (rows_met y feasible.meets) tt

    pub choice : List ℚ
    choice = reached.z

    members_independent : IsIndependentSet qp reached.members
    members_independent = subst (λ s. IsIndependent (map side s)) (append-nil reached.members) reached.independent

    combined : IsZero (vec_add (vec_add (mat_vec qp.h.rows reached.z) (mat_vec qp.f.rows (extended t))) (vec_mat reached.l (rows_of qp.g.rows reached.members)))
    combined =
        let h = mat_vec qp.h.rows reached.z in
        let q = mat_vec qp.f.rows (extended t) in
        let rows = vec_mat reached.l (rows_of qp.g.rows reached.members) in
        zero_by_dots (vec_add (vec_add h q) rows) (λ x.
        dot-add_right (vec_add h q) rows x ∙ ap (λ u. u +ℚ dot x rows) (dot-add_right h q x)
        ∙ without_last (dot x h +ℚ dot x q) (dot x rows) (dot x (vec_mat reached.m [])) (reached.stationary x) (dot-no_rows x reached.m))

    choice_equations : MeetsEquations qp reached.members t reached.z reached.l
    choice_equations = record { stationary = combined; tight = tight_by_rows reached.members reached.z (holds_among side bound reached.members reached.z reached.tight) }

    pub choice_multipliers : HasMultipliers qp t choice
    unfolding choice
    choice_multipliers = record {
      set = reached.members;
      set_of_rows = record { rises = reached.rises };
      independent = members_independent;
      multipliers = reached.l;
      one_each = reached.one_each;
      nonnegative = reached.nonnegative;
      equations = choice_equations;
    }

    pub choice_feasible : IsFeasible qp t choice
    unfolding choice
    choice_feasible = record { in_box = feasible.in_box; size = reached.size; meets = rows_meet reached.z reached.meets }

  -- where Karush, Kuhn and Tucker's conditions hold, every other admissible choice costs more
  pub others_cost_more : IsSymmetric qp.h.rows → IsDefinite qp.h.rows → (z : List ℚ) → IsFeasible qp t z → (s : List ℕ) (l : List ℚ) → IsSetOfRows (height qp.g) s → AllNonneg l → MeetsEquations qp s t z l → IsCheapest qp t z
  others_cost_more symmetric d z feasible s l r nonnegative e = record {
    feasible = feasible;
    others = λ x other differs.
        stationary_unique qp.h.rows (mat_vec qp.f.rows (extended t)) (rows_of qp.g.rows s) (mat_vec (rows_of qp.w.rows s) (extended t)) z l
        (record { gradient = e.stationary; nonnegative = nonnegative; complementary = ap (dot l) e.tight })
        symmetric d feasible.size x other.size differs
        (met_among s x (λ i m. let w = Among_within 0 (height qp.g) i s r.rises m in rows_met x other.meets i w.0 w.1));
  }

pub cheapest_by_multipliers : (qp : Qp) → IsSymmetric qp.h.rows → IsDefinite qp.h.rows → (t z : List ℚ) → IsFeasible qp t z → HasMultipliers qp t z → IsCheapest qp t z
cheapest_by_multipliers qp symmetric d t z feasible k = others_cost_more qp t symmetric d z feasible k.set k.multipliers k.set_of_rows k.nonnegative k.equations

-- a law gives the cheapest choice at each point of its region
pub cheapest_in_region : (qp : Qp) (law : Law) → IsSymmetric qp.h.rows → IsDefinite qp.h.rows → IsLaw qp law → (t : List ℚ) → IsInRegion qp law t → IsCheapest qp t (moves_at law t)
cheapest_in_region qp law symmetric d is_law t region =
    others_cost_more qp t symmetric d (moves_at law t)
    (record { in_box = region.in_box; size = length-mat_vec law.moves.rows (extended t) ∙ is_law.shape.moves_shape.rows_are; meets = region.meets })
    law.set (mults_at law t) is_law.shape.set_of_rows region.nonnegative (is_law.equations t (length-box qp.counts t region.in_box))

pub cheapest_choice : (qp : Qp) → IsSymmetric qp.h.rows → IsDefinite qp.h.rows → (t y : List ℚ) → IsFeasible qp t y → (z : List ℚ) × IsCheapest qp t z × HasMultipliers qp t z
cheapest_choice qp symmetric d t y feasible =
    let z = choice qp t d y feasible in
    let k = choice_multipliers qp t d y feasible in
    (z, cheapest_by_multipliers qp symmetric d t z (choice_feasible qp t d y feasible) k, k)

-- ---- the cheapest choice is one
pub single_choice : (qp : Qp) (t x z : List ℚ) → IsCheapest qp t x → IsCheapest qp t z → x ≡ z
single_choice qp t x z p q =
    let same : length x ≡ length z = p.feasible.size ∙ sym q.feasible.size in
    ⊎_elim (difference_zero x z same) (λ some.
    let differs : x ≢ z = λ e. some (zero_difference x z e) in
    absurd (<ℚ_asymm (p.others z q.feasible (λ e. differs (sym e))) (q.others x p.feasible differs))) (zero_or_not (vec_sub x z))
  where
    no_gap : (x : ℚ) → x -ℚ x ≡ int (pos 0)
    no_gap x = by_ring (x ∷ []) (search reads depth 30) (search reads depth 30) tt

    zero_difference : (x z : List ℚ) → x ≡ z → IsZero (vec_sub x z)
    zero_difference x z e = subst (λ u. IsZero (vec_sub x u)) e (zero_by_entries (vec_sub x x) (λ i _. coordinate-sub x x i ∙ no_gap (coordinate x i)))

-- where two regions meet, their laws give the same choice
pub regions_agree : (qp : Qp) (law other : Law) → IsSymmetric qp.h.rows → IsDefinite qp.h.rows → IsLaw qp law → IsLaw qp other → (t : List ℚ) → IsInRegion qp law t → IsInRegion qp other t → moves_at law t ≡ moves_at other t
regions_agree qp law other symmetric d is_law is_other t in_law in_other =
    single_choice qp t (moves_at law t) (moves_at other t) (cheapest_in_region qp law symmetric d is_law t in_law) (cheapest_in_region qp other symmetric d is_other t in_other)
