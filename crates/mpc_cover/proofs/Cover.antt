-- The regions cover the feasible points: the set of the multipliers at the cheapest choice is a candidate, and its law's region has the point.
use Rattle.std.proofs.Common.{◌≡◌, ℕ, zero, suc, List, [], ◌∷◌, length, Contains, refl, sym, ◌∙◌, ap, subst, arith, inl, inr}
use Rattle.mpc_exact.specs.Rational.{ℚ}
use Rattle.mpc_space.specs.Vector.{coordinate, later_entries, dot, mat_vec, AllNonneg, AllAtMost}
use Rattle.mpc_space.specs.Matrix.{height}
use Rattle.mpc_space.specs.Definite.{IsDefinite}
use Rattle.mpc_sets.specs.RowSet.{IsSetOfRows, Among}
use Rattle.mpc_cover.proofs.Members.{Contains-from_among, Among-from_contains}
use Rattle.mpc_rows.specs.declared.programs.Qp.{Qp}
use Rattle.mpc_rows.specs.declared.laws.Law.{Law}
use Rattle.mpc_rows.specs.ActiveSets.{extended, row_of, IsFeasible, IsIndependentSet, IsTight, MeetsEquations}
use Rattle.mpc_rows.specs.Laws.{IsLaw, IsInRegion}
use Rattle.mpc_rows.specs.Candidates.{CanGrow, IsCandidateOf, IsLawOfTable, IsTable}
use Rattle.mpc_cover.specs.Cheapest.{HasMultipliers}
use Rattle.mpc_cover.proofs.Subsets.{subset_independent}
use Rattle.mpc_cover.proofs.Laws.{few_members, law_of, set-law_of, is_law_of, law_moves, law_mults}
use Rattle.mpc_cover.proofs.Minimum.{length-box, tight_by_rows, choice, choice_feasible, choice_multipliers}

module _ (qp : Qp) (t z : List ℚ) (feasible : IsFeasible qp t z) (k : HasMultipliers qp t z) where
  -- the members' rows hold with equality, one by one
  tight_rows : (s : List ℕ) → IsTight qp s t z → (i : ℕ) → Among i s → dot (row_of qp.g.rows i) z ≡ dot (row_of qp.w.rows i) (extended t)
  tight_rows [] e i m = absurd m
  tight_rows (j ∷ s) e i (inl f) = subst (λ u. dot (row_of qp.g.rows u) z ≡ dot (row_of qp.w.rows u) (extended t)) (sym f) (ap (λ u. coordinate u 0) e)
  tight_rows (j ∷ s) e i (inr m) = tight_rows s (ap later_entries e) i m

  -- each subset of the set can grow
  subset_grows : (s : List ℕ) → IsSetOfRows (height qp.g) s → ((i : ℕ) → Contains s i → Contains k.set i) → CanGrow qp s
  subset_grows s r h =
      let among : (i : ℕ) → Among i s → Among i k.set = λ i m. Among-from_contains i k.set (h i (Contains-from_among i s m)) in
      record {
        independent = subset_independent (row_of qp.g.rows) 0 0 (height qp.g) (height qp.g) k.set s k.set_of_rows.rises r.rises among k.independent;
        reachable = record { state = t; unknowns = z; feasible = feasible; tight = tight_by_rows qp t s z (λ i m. tight_rows k.set k.equations.tight i (among i m)) };
      }

  empty : (s : List ℕ) → length s ≡ 0 → s ≡ []
  empty [] e = refl
  empty (i ∷ s) e = absurd (omega arith)

  subset_candidate : (n : ℕ) (s : List ℕ) → length s ≡ n → IsSetOfRows (height qp.g) s → ((i : ℕ) → Contains s i → Contains k.set i) → IsCandidateOf n qp s
  subset_candidate zero s e r h = empty s e
  subset_candidate (suc n) s e r h =
      let few = few_members qp s (subset_grows s r h).independent in (
        r,
        e,
        omega (arith, few, e),
        λ u v lacks.
            let within : (i : ℕ) → Contains u i → Contains k.set i = λ i m. h i (lacks.subset i m) in
            (subset_candidate n u (omega (arith, lacks.one_fewer, e)) v within, subset_grows u v within),
      )

  -- so its law is one of the table, and its region has t
  module _ (d : IsDefinite qp.h.rows) (law : Law) (same : law.set ≡ k.set) (is_law : IsLaw qp law) where
    equations : MeetsEquations qp law.set t z k.multipliers
    equations = subst (λ s. MeetsEquations qp s t z k.multipliers) (sym same) k.equations

    size : length t ≡ length qp.counts
    size = length-box qp.counts t feasible.in_box

    pub in_region : IsInRegion qp law t
    in_region = record {
      in_box = feasible.in_box;
      nonnegative = subst AllNonneg (sym (law_mults qp d law is_law t z k.multipliers size feasible.size equations
          (subst (IsIndependentSet qp) (sym same) k.independent) (k.one_each ∙ ap length (sym same)))) k.nonnegative;
      meets = subst (λ u. AllAtMost (mat_vec qp.g.rows u) (mat_vec qp.w.rows (extended t))) (sym (law_moves qp d law is_law t z k.multipliers size feasible.size equations)) feasible.meets;
    }

    pub of_table : IsLawOfTable qp law
    of_table = record {
      candidate = subst (λ s. IsCandidateOf (length s) qp s) (sym same) (subset_candidate (length k.set) k.set refl k.set_of_rows (λ i m. m));
      verdict = (subst (CanGrow qp) (sym same) (subset_grows k.set k.set_of_rows (λ i m. m)), refl, is_law, record { point = t; within = in_region });
    }

pub covered : (qp : Qp) → IsDefinite qp.h.rows → (t z : List ℚ) → IsFeasible qp t z → (law : Law) × IsLawOfTable qp law × IsInRegion qp law t
covered qp d t y feasible =
    let z = choice qp t d y feasible in
    let f = choice_feasible qp t d y feasible in
    let k = choice_multipliers qp t d y feasible in
    let law = law_of qp d k.set k.independent in
    let same = set-law_of qp d k.set k.independent in
    let is_law = is_law_of qp d k.set k.independent k.set_of_rows in
    (law, of_table qp t z f k d law same is_law, in_region qp t z f k d law same is_law)

pub covered_by_table : (qp : Qp) (laws : List Law) → IsDefinite qp.h.rows → IsTable qp laws → (t z : List ℚ) → IsFeasible qp t z → (law : Law) × Contains laws law × IsInRegion qp law t
covered_by_table qp laws d table t z feasible = let c = covered qp d t z feasible in (c.0, table.complete c.0 c.1, c.2)
