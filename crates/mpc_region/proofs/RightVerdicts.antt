-- What a point of the box that meets the rows of a law, or that there is none, tells of the set.
use Rattle.std.proofs.Common.{◌≡◌, ℕ, List, Bool, true, false, Option, Some, IfSome, IsTrue, ◌↔◌, refl, inl, inr, subst}
use Rattle.mpc_space.specs.Matrix.{height}
use Rattle.mpc_linear.specs.declared.integers.RowInt.{RowInt}
use Rattle.mpc_rows.specs.declared.programs.Qp.{Qp}
use Rattle.mpc_rows.specs.declared.laws.Law.{Law}
use Rattle.mpc_rows.specs.declared.verdicts.Verdict.TheVariants.{Unreachable, Hollow, Region, Wide}
use Rattle.mpc_rows.specs.declared.places.Place.TheVariants.{Reach, Region as RegionRun}
use Rattle.mpc_rows.specs.RunWidth.{RunFits}
use Rattle.mpc_rows.specs.ActiveSets.{IsIndependentSet, IsReachable}
use Rattle.mpc_rows.specs.Candidates.{CanGrow}
use Rattle.mpc_rows.specs.Laws.{IsLaw, HasRegion}
use Rattle.mpc_rows.specs.LawRows.{AreLawRows}
use Rattle.mpc_rows.specs.SetRuns.{reach_system, region_system, LawFits, LawRowsFit, RegionFits}
use Rattle.mpc_rows.specs.Verdicts.{IsRight, ReachFits, AllFit}
use Rattle.mpc_rows.specs.LawTheorems.{LawTheorems}
use Rattle.mpc_rows.specs.RegionTheorems.{RegionTheorems}
use Rattle.mpc_simplex.specs.Answer.{HasPoint}

not_both : (b : Bool) → b ≡ true → b ≡ false → ⊥
not_both b e f = cc

-- by the run for the states that reach an independent set
module _ (qp : Qp) (s : List ℕ) (independent : IsIndependentSet qp s) (fits : LawFits qp s) where
  pub reached : (b : Bool) → IsTrue b ↔ IsReachable qp s → b ≡ true → CanGrow qp s
  reached b answer e = record { independent = independent; reachable = answer.0 e }

  pub not_reached : (b : Bool) → IsTrue b ↔ IsReachable qp s → RunFits (reach_system qp s) → b ≡ false → IsRight qp s Unreachable
  not_reached b answer reach e = ((independent, λ r. not_both b (answer.1 r) e), record { law = fits; reach = reach })

  pub reach_wide : ¬ RunFits (reach_system qp s) → IsRight qp s (Wide (Reach s))
  reach_wide unfit = inr (inl (refl, fits, independent, unfit))

-- by a run of its own for the region
module _ (qp : Qp) (law : Law) (is_law : IsLaw qp law) (grows : CanGrow qp law.set) (reach_fits : ReachFits qp law.set) (rows_fit : LawRowsFit qp law (height qp.g)) where
  pub run_region : (b : Bool) → IsTrue b ↔ HasRegion qp law → RegionFits qp law → b ≡ true → IsRight qp law.set (Region law)
  run_region b answer fits e = ((grows, refl, is_law, answer.0 e), (reach_fits, record { rows = rows_fit; region = fits }))

  pub run_hollow : (b : Bool) → IsTrue b ↔ HasRegion qp law → RegionFits qp law → b ≡ false → IsRight qp law.set Hollow
  run_hollow b answer fits e = (
    (grows, record { law = law; of_set = refl; is_law = is_law; holds = λ r. not_both b (answer.1 r) e }),
    (reach_fits, record { law = law; of_set = refl; is_law = is_law; holds = record { rows = rows_fit; region = fits } }),
  )

  pub run_wide : ¬ RegionFits qp law → IsRight qp law.set (Wide (RegionRun law.set))
  run_wide unfit = inr (inr (inr (refl, reach_fits, grows, record { law = law; of_set = refl; is_law = is_law; holds = record { before = rows_fit; here = unfit } })))

module _ (points : RegionTheorems) (single : LawTheorems) (qp : Qp) (s : List ℕ) (law : Law) (of_set : law.set ≡ s) (is_law : IsLaw qp law) (grows : CanGrow qp s) (reach_fits : ReachFits qp s) (rows : List RowInt) (are : AreLawRows qp law rows) (fit : LawRowsFit qp law (height qp.g))
    (o : Option Bool) (yes : Bool) (is : o ≡ Some yes) (met : IfSome o (λ yes. IsTrue yes ↔ HasPoint (region_system qp rows))) (met_fits : IfSome o (λ yes. RunFits (region_system qp rows))) where
  answer : IsTrue yes ↔ HasPoint (region_system qp rows)
  answer = subst (λ o. IfSome o (λ yes. IsTrue yes ↔ HasPoint (region_system qp rows))) is met

  run_fits : RunFits (region_system qp rows)
  run_fits = subst (λ o. IfSome o (λ yes. RunFits (region_system qp rows))) is met_fits

  all_fit : AllFit qp law
  all_fit = record { rows = fit; region = λ others k. subst (λ xs. RunFits (region_system qp xs)) (single.law_rows_unique qp law rows others are k) run_fits }

  pub right_region : yes ≡ true → IsRight qp s (Region law)
  right_region e = ((grows, of_set, is_law, (points.has_region qp law is_law rows are).1 (answer.0 e)), (reach_fits, all_fit))

  pub right_hollow : yes ≡ false → IsRight qp s Hollow
  right_hollow e = (
    (grows, record { law = law; of_set = of_set; is_law = is_law; holds = λ r. not_both yes (answer.1 ((points.has_region qp law is_law rows are).0 r)) e }),
    (reach_fits, record { law = law; of_set = of_set; is_law = is_law; holds = all_fit }),
  )

-- by the rows that show that the region is empty
module _ (qp : Qp) (s : List ℕ) (law : Law) (of_set : law.set ≡ s) (is_law : IsLaw qp law) (grows : CanGrow qp s) (reach_fits : ReachFits qp s) where
  pub right_refuted : ¬ HasRegion qp law → LawRowsFit qp law (height qp.g) → RegionFits qp law → IsRight qp s Hollow
  right_refuted none rows_fit region_fits = (
    (grows, record { law = law; of_set = of_set; is_law = is_law; holds = none }),
    (reach_fits, record { law = law; of_set = of_set; is_law = is_law; holds = record { rows = rows_fit; region = region_fits } }),
  )
