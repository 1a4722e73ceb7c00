-- What an answer shows: the cheapest choice, or multipliers that refute the rows.
use Rattle.std.proofs.Common.{◌≡◌, ℕ, suc, ◌-◌, ◌<◌, ◌≤◌, List, [], length, get_or, refl, sym, ◌∙◌, ap, subst, arith}
use Rattle.std.proofs.lemmas.List.FromFn.{length-map-range_with_len, get_or-map-range_with_len}
use Rattle.mpc_exact.specs.Rational.{ℚ, ◌≤ℚ◌}
use Rattle.mpc_space.specs.Vector.{coordinate, dot, mat_vec, IsSymmetric}
use Rattle.mpc_space.specs.Matrix.{height}
use Rattle.mpc_space.specs.Definite.{IsDefinite}
use Rattle.mpc_space.proofs.Entries.{at_most_at}
use Rattle.mpc_space.proofs.Matrix.{coordinate-mat_vec}
use Rattle.mpc_rows.specs.declared.programs.Qp.{Qp}
use Rattle.mpc_rows.specs.declared.systems.Row.{Row}
use Rattle.mpc_rows.specs.LinearSystem.{HasWidth, MeetsRow, IsPoint}
use Rattle.mpc_rows.specs.SystemTheorems.{SystemTheorems}
use Rattle.mpc_rows.specs.Refutation.{Refutes}
use Rattle.mpc_rows.specs.ActiveSets.{extended, row_of, IsInBox, IsFeasible}
use Rattle.mpc_cover.specs.Cheapest.{IsCheapest, HasMultipliers}
use Rattle.mpc_online.specs.StateRows.{sides_at, state_row, state_system, IsViolated}
use Rattle.mpc_online.specs.Standing.{IsAnswer}
use Rattle.mpc_online.specs.Answers.{IfBest, IfRefuted}
use Rattle.mpc_online.specs.declared.Online.{Online}
use Rattle.mpc_online.specs.declared.Online.TheVariants.{Best, Refuted}
use Rattle.mpc_online.proofs.Corners.{corner_multipliers, corner_feasible}

abbrev pub ByMultipliers : Type 0
ByMultipliers = (qp : Qp) → IsSymmetric qp.h.rows → IsDefinite qp.h.rows → (t z : List ℚ) → IsFeasible qp t z → HasMultipliers qp t z → IsCheapest qp t z

pub best_found : ByMultipliers → (qp : Qp) (t : List ℚ) → IsSymmetric qp.h.rows → IsDefinite qp.h.rows → IsInBox qp.counts t → (o : Online) → IsAnswer qp t o → IfBest o (IsCheapest qp t)
best_found law qp t symmetric definite box (Best z) a =
    subst (IsCheapest qp t) a.2
    (law qp symmetric definite t a.0.point (corner_feasible qp t a.0 a.1 box (subst (λ u. (i : ℕ) → 1 ≤ i → i ≤ height qp.g → ¬ IsViolated qp (sides_at qp t) u i) (sym a.2) a.3)) (corner_multipliers qp t a.0 a.1))
best_found law qp t symmetric definite box (Refuted m) a = tt

module _ (qp : Qp) (t : List ℚ) where
  abbrev rows : ℕ
  rows = height qp.g

  row_at_is : (i : ℕ) (d : Row) → i < rows → get_or (state_system qp t).rows i d ≡ state_row qp t (suc i)
  row_at_is i d h = get_or-map-range_with_len (state_row qp t) 1 rows i (suc i) d h (omega arith)

  pub system_size : length (state_system qp t).rows ≡ rows
  system_size = length-map-range_with_len (state_row qp t) 1 rows

  row_size : (i : ℕ) → i < rows → length (row_of qp.g.rows (suc i)) ≡ height qp.h
  row_size i h =
      let p = qp.is_program.g_shape in
      let place : suc i - 1 ≡ i = omega arith in
      ap (λ k. length (get_or qp.g.rows k [])) place ∙ p.rectangular i [] h ∙ p.columns_are

  system_width : HasWidth (height qp.h) (state_system qp t).rows
  system_width = record { each = λ i d h. let l : i < rows = omega (arith, system_size) in ap (λ (r : Row). length r.a) (row_at_is i d l) ∙ row_size i l }

  meets_row : (z : List ℚ) → IsFeasible qp t z → (i : ℕ) → i < rows → MeetsRow z (state_row qp t (suc i))
  meets_row z f i h =
      let place : suc i - 1 ≡ i = omega arith in
      subst (λ k. dot (get_or qp.g.rows k []) z ≤ℚ coordinate (sides_at qp t) k) (sym place)
      (subst (λ u. u ≤ℚ coordinate (sides_at qp t) i) (coordinate-mat_vec qp.g.rows z i) (at_most_at (mat_vec qp.g.rows z) (mat_vec qp.w.rows (extended t)) f.meets i))

  feasible_point : (z : List ℚ) → IsFeasible qp t z → IsPoint (state_system qp t) z
  feasible_point z f = record { size = f.size; meets = λ i d h. let l : i < rows = omega (arith, system_size) in subst (MeetsRow z) (sym (row_at_is i d l)) (meets_row z f i l) }

  module _ (laws : SystemTheorems) where
    pub refuted_found : (o : Online) → IsAnswer qp t o → IfRefuted o (Refutes (state_system qp t))
    refuted_found (Best z) a = tt
    refuted_found (Refuted m) a = laws.refutes_from (state_system qp t) m (coordinate m) (a.0 ∙ sym system_size) (λ i h. refl) a.1

    pub size_found : (o : Online) → IsAnswer qp t o → IfRefuted o (λ m. length m ≡ rows)
    size_found (Best z) a = tt
    size_found (Refuted m) a = a.0

    pub none_found : (o : Online) → IsAnswer qp t o → IfRefuted o (λ _. (z : List ℚ) → ¬ IsFeasible qp t z)
    none_found (Best z) a = tt
    none_found (Refuted m) a = λ z f.
        laws.refuted_has_no_point (state_system qp t) m system_width (a.0 ∙ sym system_size)
        (laws.refutes_from (state_system qp t) m (coordinate m) (a.0 ∙ sym system_size) (λ i h. refl) a.1) z (feasible_point z f)
