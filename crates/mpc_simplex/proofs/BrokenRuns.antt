-- What the run of a system with a broken row behind says, where the system is that of a kept run.
use Rattle.std.proofs.Common.{◌≡◌, List, [], ◌∷◌, length, Option, Some, IfSome, sym, ◌∙◌, ap, subst}
use Rattle.mpc_exact.specs.Rational.{ℚ}
use Rattle.mpc_linear.specs.declared.integers.RowInt.{RowInt}
use Rattle.mpc_rows.specs.LawRows.{broken_row}
use Rattle.mpc_rows.specs.LinearSystem.{LinearSystem}
use Rattle.mpc_rows.specs.Refutation.{Refutes}
use Rattle.mpc_rows.specs.SystemTheorems.{SystemTheorems}
use Rattle.mpc_beginnings.specs.Beginnings.{lengthened}
use Rattle.mpc_beginnings.specs.Broken.{IsBroken}
use Rattle.mpc_beginnings.specs.declared.kept.Broken.{Broken}
use Rattle.mpc_beginnings.specs.declared.kept.Broken.TheVariants.{Point, Refuted}
use Rattle.mpc_simplex.specs.Answer.{HasPoint, EndsRefuted}
use Rattle.mpc_simplex.proofs.Decided.{ended-refuted, ended-no_point}
use Rattle.mpc_simplex.proofs.KeptWidths.{AreWide, same_widths, broken_width}
use Rattle.mpc_simplex.proofs.LastTurn.{has_point_there}

module _ (theorems : SystemTheorems) (s t : LinearSystem) (view : s ≡ t) (w : AreWide s) (row : RowInt) (size : length row.a ≡ t.width) (found : Option Broken) (ends : IfSome found (IsBroken (lengthened s (broken_row row ∷ [])))) where
  longer : LinearSystem
  longer = lengthened s (broken_row row ∷ [])

  same : longer ≡ lengthened t (broken_row row ∷ [])
  unfolding longer
  same = ap (λ z. lengthened z (broken_row row ∷ [])) view

  wide : AreWide longer
  unfolding longer
  wide = broken_width s w row (size ∙ ap (λ (z : LinearSystem). z.width) (sym view))

  module _ (run : LinearSystem) (is : found ≡ Some (Point run)) where
    point : IsBroken longer (Point run)
    unfolding longer
    point = subst (λ o. IfSome o (IsBroken (lengthened s (broken_row row ∷ [])))) is ends

    pub run_wide : AreWide run
    run_wide = same_widths longer wide run (sym point.0)

    pub broken_point : (run ≡ lengthened t (broken_row row ∷ [])) × HasPoint (lengthened t (broken_row row ∷ []))
    broken_point = (point.0 ∙ same, subst HasPoint same (has_point_there longer theorems wide point.1))

  module _ (m : List ℚ) (is : found ≡ Some (Refuted m)) where
    refuted : EndsRefuted longer m
    unfolding longer
    refuted = subst (λ o. IfSome o (IsBroken (lengthened s (broken_row row ∷ [])))) is ends

    pub unbroken_refuted : Refutes (lengthened t (broken_row row ∷ [])) m
    unbroken_refuted = subst (λ z. Refutes z m) same (ended-refuted theorems longer wide m refuted)

    pub unbroken_no_point : ¬ HasPoint (lengthened t (broken_row row ∷ []))
    unbroken_no_point = subst (λ z. ¬ HasPoint z) same (ended-no_point theorems longer wide m refuted)
