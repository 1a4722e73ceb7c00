-- The system of a region is that of the box with the rows of the law behind.
use Rattle.std.proofs.Common.{◌≡◌, ◌↔◌, List, [], length, map, Bool, Option, Some, IsTrue, Result, IfOk, IfSome, refl, ◌∙◌, ap, subst}
use Rattle.std.proofs.lemmas.List.{append_assoc}
use Rattle.mpc_frac.specs.declared.NoMemory.{NoMemory}
use Rattle.mpc_linear.specs.declared.integers.RowInt.{RowInt}
use Rattle.mpc_rows.specs.declared.programs.Qp.{Qp}
use Rattle.mpc_rows.specs.declared.systems.Row.{Row}
use Rattle.mpc_rows.specs.LinearSystem.{LinearSystem}
use Rattle.mpc_rows.specs.LawRows.{whole_row}
use Rattle.mpc_rows.specs.SetRuns.{box_rows, region_system}
use Rattle.mpc_rows.specs.RunWidth.{RunFits}
use Rattle.mpc_simplex.specs.Answer.{HasPoint}
use Rattle.mpc_beginnings.specs.Beginnings.{lengthened}
use Rattle.mpc_region.specs.Kept.{IsBoxRun}

module _ (qp : Qp) where
  box_longer : (rows : List RowInt) → lengthened (region_system qp []) (map whole_row rows) ≡ region_system qp rows
  unfolding region_system
  box_longer rows = λ t. record { width = length qp.counts; rows = append_assoc (box_rows (length qp.counts) qp.counts) [] (map whole_row rows) t }

  box_width : (region_system qp []).width ≡ length qp.counts
  unfolding region_system
  box_width = refl

  -- the run of the box that is kept
  module _ (kept : Option LinearSystem) (box : LinearSystem) (there : kept ≡ Some box) (is : IsBoxRun qp kept) where
    box_is : box ≡ region_system qp []
    box_is = subst (IsBoxRun qp) there is

    pub width_is : box.width ≡ length qp.counts
    width_is = ap (λ (s : LinearSystem). s.width) box_is ∙ box_width

    module _ (rows : List Row) where
      pub box_answer : (r : Result (Option Bool) NoMemory) → IfOk r (λ o. IfSome o (λ yes. IsTrue yes ↔ HasPoint (lengthened box rows))) → IfOk r (λ o. IfSome o (λ yes. IsTrue yes ↔ HasPoint (lengthened (region_system qp []) rows)))
      box_answer r h = subst (λ s. IfOk r (λ o. IfSome o (λ yes. IsTrue yes ↔ HasPoint (lengthened s rows)))) box_is h

      pub box_fits : (r : Result (Option Bool) NoMemory) → IfOk r (λ o. IfSome o (λ _. RunFits (lengthened box rows))) → IfOk r (λ o. IfSome o (λ _. RunFits (lengthened (region_system qp []) rows)))
      box_fits r h = subst (λ s. IfOk r (λ o. IfSome o (λ _. RunFits (lengthened s rows)))) box_is h

  -- a system that has the rows of a region
  module _ (rows : List RowInt) (s : LinearSystem) (e : s.rows ≡ map whole_row rows) where
    region_is : lengthened (region_system qp []) s.rows ≡ region_system qp rows
    region_is = ap (lengthened (region_system qp [])) e ∙ box_longer rows

    pub region_answer : (o : Option Bool) → IfSome o (λ yes. IsTrue yes ↔ HasPoint (lengthened (region_system qp []) s.rows)) → IfSome o (λ yes. IsTrue yes ↔ HasPoint (region_system qp rows))
    region_answer o h = subst (λ t. IfSome o (λ yes. IsTrue yes ↔ HasPoint t)) region_is h

    pub region_fits : (o : Option Bool) → IfSome o (λ _. RunFits (lengthened (region_system qp []) s.rows)) → IfSome o (λ _. RunFits (region_system qp rows))
    region_fits o h = subst (λ t. IfSome o (λ _. RunFits t)) region_is h

    pub result_answer : (r : Result (Option Bool) NoMemory) → IfOk r (λ o. IfSome o (λ yes. IsTrue yes ↔ HasPoint (lengthened (region_system qp []) s.rows))) → IfOk r (λ o. IfSome o (λ yes. IsTrue yes ↔ HasPoint (region_system qp rows)))
    result_answer r h = subst (λ t. IfOk r (λ o. IfSome o (λ yes. IsTrue yes ↔ HasPoint t))) region_is h

    pub result_fits : (r : Result (Option Bool) NoMemory) → IfOk r (λ o. IfSome o (λ _. RunFits (lengthened (region_system qp []) s.rows))) → IfOk r (λ o. IfSome o (λ _. RunFits (region_system qp rows)))
    result_fits r h = subst (λ t. IfOk r (λ o. IfSome o (λ _. RunFits t))) region_is h
