-- What the swept table of a set says of its law.
use Rattle.std.proofs.Common.{◌≡◌, ℕ, suc, ◌+◌, ◌-◌, ◌<◌, ◌≤◌, ◌++◌, ◌∷◌, [], List, length, map, get_or, take, drop, pos, ℤ, ◌*ℤ◌, refl, sym, ◌∙◌, ap, subst, arith, lit<}
use Rattle.std.proofs.Math.Seq.{take-append_seam}
use Rattle.std.proofs.lemmas.List.{append_assoc, length-take-le, map-append, take-append-drop}
use Rattle.std.specs.List.{range_with_len}
use Rattle.mpc_exact.specs.Rational.{ℚ, frac, int}
use Rattle.mpc_exact.proofs.IntRing.{int_reads, by_ring_ℤ}
use Rattle.mpc_exact.proofs.Rational.{same_frac}
use Rattle.mpc_space.specs.Matrix.{RationalMatrix, height, entry, tabled}
use Rattle.mpc_space.specs.Definite.{IsDefinite}
use Rattle.mpc_space.proofs.Matrix.{same_matrix, entry-tabled, height-tabled, rectangular-tabled}
use Rattle.mpc_sets.specs.RowSet.{IsSetOfRows}
use Rattle.mpc_linear.specs.Solution.{IsAnswer, FitsTo}
use Rattle.mpc_linear.specs.declared.elimination.Solved.TheVariants.{Unique, Dependent}
use Rattle.mpc_rows.specs.declared.programs.Qp.{Qp}
use Rattle.mpc_rows.specs.ActiveSets.{IsIndependentSet}
use Rattle.mpc_rows.specs.Laws.{IsLaw}
use Rattle.mpc_rows.specs.SetRuns.{law_matrix, law_right, LawFits}
use Rattle.mpc_sweep.specs.declared.numbers.Swept.{Swept}
use Rattle.mpc_sweep.specs.Sweeps.{swept, pivot_at, HasPivots, SweepsFit}
use Rattle.mpc_sweep.specs.Numbers.{number}
use Rattle.mpc_sweep.specs.Theorems.{PartIsSolved, PartIsDependent, IsSolutionOf}
use Rattle.mpc_region.specs.LawEnd.{IsLawOfSet}
use Rattle.mpc_region.specs.Shared.{shared_entry}
use Rattle.mpc_region.specs.Sweeps.{sweeps_of, rights, all_columns, IsTableOf, swept_law}
use Rattle.mpc_region.proofs.LawEnds.{found, dependent}
use Rattle.mpc_region.proofs.LawForms.{law_is}
use Rattle.mpc_region.proofs.SweptParts.{sweeps_size, first_sweep, later_sweep, are_rows, is_part_of}

tabled_same : (rows columns : ℕ) (f g : ℕ → ℕ → ℚ) → ((i j : ℕ) → i < rows → j < columns → f i j ≡ g i j) → tabled rows columns f ≡ tabled rows columns g
tabled_same rows columns f g e =
    same_matrix (tabled rows columns f) (tabled rows columns g) (rectangular-tabled rows columns f) (rectangular-tabled rows columns g)
    (height-tabled rows columns f ∙ sym (height-tabled rows columns g)) refl
    (λ i j l k. let h : i < rows = omega (arith, height-tabled rows columns f) in entry-tabled rows columns f i j h k ∙ e i j h k ∙ sym (entry-tabled rows columns g i j h k))

pub swept_set : (qp : Qp) (s : List ℕ) → (swept_law qp s).set ≡ s
unfolding swept_law
swept_set qp s = refl

zero_frac : (d : ℕ) → 0 < d → frac (pos 0) d ≡ int (pos 0)
zero_frac d h = same_frac (pos 0) d (pos 0) 1 h (lit< tt) (nothing (pos d))
  where
    nothing : (d : ℤ) → pos 0 *ℤ pos 1 ≡ pos 0 *ℤ d
    nothing d = by_ring_ℤ (d ∷ []) (search int_reads depth 30) (search int_reads depth 30) tt

module _ (qp : Qp) (s : List ℕ) (set : IsSetOfRows (height qp.g) s) where
  abbrev n : ℕ
  n = height qp.h

  abbrev w : ℕ
  w = length qp.counts + 1

  abbrev ps : List ℕ
  ps = sweeps_of qp s

  abbrev shown : ℕ → ℕ → ℚ
  shown i j = swept (shared_entry qp) ps (pivot_at ps i) (rights qp + j)

  -- the right sides of all rows
  solution : RationalMatrix
  solution = tabled (n + length s) w shown

  module _ (solved : PartIsSolved) (pivots : HasPivots (shared_entry qp) ps) (fit : SweepsFit (shared_entry qp) ps (rights qp) (all_columns qp) (rights qp)) where
    is_solution : IsSolutionOf (shared_entry qp) ps (rights qp) w solution
    unfolding solution
    is_solution = record {
      shape = record {
        rows_are = height-tabled (n + length s) w shown ∙ sym (sweeps_size qp s);
        columns_are = refl;
        rectangular = rectangular-tabled (n + length s) w shown;
      };
      entries = λ i j l k. entry-tabled (n + length s) w shown i j (omega (arith, sweeps_size qp s)) k;
    }

    solves : IsAnswer (law_matrix qp s) (law_right qp s) (Unique solution) × FitsTo (law_matrix qp s) (law_right qp s) (Unique solution)
    solves = solved (shared_entry qp) ps (rights qp) (rights qp) w (law_matrix qp s) (law_right qp s) solution (are_rows qp s set) (is_part_of qp s set) pivots fit is_solution

    moves_are : tabled n w (λ i j. swept (shared_entry qp) ps i (rights qp + j)) ≡ tabled n solution.columns (λ i j. entry solution (0 + i) j)
    unfolding solution
    moves_are = tabled_same n w (λ i j. swept (shared_entry qp) ps i (rights qp + j)) (λ i j. entry solution (0 + i) j)
        (λ i j l k. sym ((let e : 0 + i ≡ i = omega arith in ap (λ r. entry solution r j) e) ∙ entry-tabled (n + length s) w shown i j (omega arith) k
        ∙ ap (λ r. swept (shared_entry qp) ps r (rights qp + j)) (first_sweep qp s i l)))

    mults_are : tabled (length s) w (λ k j. swept (shared_entry qp) ps (n + (get_or s k 0 - 1)) (rights qp + j)) ≡ tabled (length s) solution.columns (λ i j. entry solution (n + i) j)
    unfolding solution
    mults_are = tabled_same (length s) w (λ k j. swept (shared_entry qp) ps (n + (get_or s k 0 - 1)) (rights qp + j)) (λ i j. entry solution (n + i) j)
        (λ i j l k. sym (entry-tabled (n + length s) w shown (n + i) j (omega arith) k ∙ ap (λ r. swept (shared_entry qp) ps r (rights qp + j)) (later_sweep qp s i l)))

    swept_is_law : length s ≤ n → IsLaw qp (swept_law qp s)
    unfolding swept_law
    swept_is_law few = law_is qp s solution solves.0 (swept_law qp s) set few refl moves_are mults_are

    pub law_shown : length s ≤ n → IsLawOfSet qp s (swept_law qp s)
    unfolding swept_law
    law_shown few = found qp s (law_matrix qp s) (law_right qp s) refl refl (Unique solution) solution (swept_law qp s) refl solves.0 solves.1 refl (swept_is_law few)

  -- a zero on the diagonal where the last member stands shows a dependence
  module _ (dependent_laws : PartIsDependent) (k : ℕ) (last : length s ≡ k + 1) (p : ℕ) (at : p ≡ n + (get_or s k 0 - 1)) (table : Swept) (is : IsTableOf qp (take k s) p table) where
    sweeps_before : take (n + k) ps ≡ sweeps_of qp (take k s)
    sweeps_before =
        ap (λ xs. take (n + k) (sweeps_of qp xs)) (sym (take-append-drop k s))
        ∙ ap (take (n + k)) (ap (λ xs. range_with_len 0 n ++ xs) (map-append (λ i. n + (i - 1)) (take k s) (drop k s)) ∙ sym (append_assoc (range_with_len 0 n) (map (λ i. n + (i - 1)) (take k s)) (map (λ i. n + (i - 1)) (drop k s))))
        ∙ ap (λ m. take m (sweeps_of qp (take k s) ++ map (λ i. n + (i - 1)) (drop k s))) (sym (sweeps_size qp (take k s) ∙ ap (λ m. n + m) (length-take-le k s (omega arith))))
        ∙ take-append_seam (sweeps_of qp (take k s)) (map (λ i. n + (i - 1)) (drop k s))

    last_pivot : pivot_at ps (n + k) ≡ p
    last_pivot = later_sweep qp s k (omega arith) ∙ sym at

    p_within : p < rights qp
    p_within = let r = (are_rows qp s set).within (n + k) (omega (arith, sweeps_size qp s)) in omega (arith, last_pivot)

    no_pivot : number table p p ≡ pos 0 → swept (shared_entry qp) (sweeps_of qp (take k s)) p p ≡ int (pos 0)
    no_pivot zero =
        is.entries p p p_within (omega arith) (let a = p_within in omega arith) ∙ ap (λ x. frac x table.den) zero ∙ zero_frac table.den is.table.some_den

    pub dependent_shown : IsDefinite qp.h.rows → number table p p ≡ pos 0 → (¬ IsIndependentSet qp s) × LawFits qp s
    dependent_shown definite zero =
        let a = dependent_laws (shared_entry qp) ps (rights qp) (rights qp) w (n + k) (law_matrix qp s) (law_right qp s) (are_rows qp s set) (is_part_of qp s set) (sweeps_size qp s ∙ omega arith)
        (subst (HasPivots (shared_entry qp)) (sym sweeps_before) is.pivots)
        (subst (λ xs. SweepsFit (shared_entry qp) xs (rights qp) (rights qp + w) (pivot_at ps (n + k))) (sym sweeps_before) (subst (SweepsFit (shared_entry qp) (sweeps_of qp (take k s)) (rights qp) (rights qp + w)) (sym last_pivot) is.fits))
        (subst (λ xs. swept (shared_entry qp) xs (pivot_at ps (n + k)) (pivot_at ps (n + k)) ≡ int (pos 0)) (sym sweeps_before) (subst (λ q. swept (shared_entry qp) (sweeps_of qp (take k s)) q q ≡ int (pos 0)) (sym last_pivot) (no_pivot zero))) in
        dependent qp s (law_matrix qp s) (law_right qp s) refl refl (Dependent (suc (n + k))) (suc (n + k)) refl definite a.0 a.1
