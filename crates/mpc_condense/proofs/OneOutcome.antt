-- One outcome is that of a plant.
use Rattle.std.proofs.Common.{◌≡◌, ℕ, refl, ap, subst}
use Rattle.mpc_space.specs.Matrix.{height, entry}
use Rattle.mpc_plant.specs.declared.plants.Plant.{Plant}
use Rattle.mpc_rows.specs.declared.programs.Qp.{Qp}
use Rattle.mpc_rows.specs.declared.places.Place.{Place}
use Rattle.mpc_rows.specs.declared.places.Place.TheVariants.{Pivot}
use Rattle.mpc_definite.specs.Pivots.{IsFirstNotPositive, IsFirstWide}
use Rattle.mpc_condense.specs.ProgramTheorems.{NoWidePlace, OneWidePlace}
use Rattle.mpc_condense.specs.BestReplies.{OneProgram}
use Rattle.mpc_condense.specs.Convex.{HasProgram, IsConvexProgram}
use Rattle.mpc_condense.specs.Refusals.{IsNotDefiniteAt, IsFirstWidePlace, wide_program, wide_pivot}
use Rattle.mpc_condense.specs.Outcomes.{ProgramOutcome, not_definite, too_wide, convex, IsProgramOutcome}
use Rattle.mpc_condense.proofs.FirstPivots.{passes_not_positive, passes_wide, one_not_positive, one_pivot_wide, not_both}

module _ (one_place : OneWidePlace) (no_place : NoWidePlace) (one_program : OneProgram) (plant : Plant) where
  not_positive : (a b : Qp) (j : ℕ) → HasProgram plant a → HasProgram plant b → IsFirstNotPositive (entry a.h) (height a.h) j → IsFirstNotPositive (entry b.h) (height b.h) j
  not_positive a b j p q = subst (λ (z : Qp). IsFirstNotPositive (entry z.h) (height z.h) j) (one_program plant a b p.condensed q.condensed)

  wide : (a b : Qp) (j : ℕ) → HasProgram plant a → HasProgram plant b → IsFirstWide (entry a.h) (height a.h) j → IsFirstWide (entry b.h) (height b.h) j
  wide a b j p q = subst (λ (z : Qp). IsFirstWide (entry z.h) (height z.h) j) (one_program plant a b p.condensed q.condensed)

  definite_or_wide : (j : ℕ) (place : Place) → IsNotDefiniteAt plant j → IsFirstWidePlace plant place → ⊥
  definite_or_wide j _ p (wide_program place w) = no_place plant place p.has_program.fits w
  definite_or_wide j _ p (wide_pivot qp k has w) = not_both (entry qp.h) (height qp.h) j k (not_positive p.qp qp j p.has_program has p.first) w

  convex_and_indefinite : (qp : Qp) (j : ℕ) → IsConvexProgram plant qp → IsNotDefiniteAt plant j → ⊥
  convex_and_indefinite qp j q p = passes_not_positive (entry qp.h) (height qp.h) q.pivots j (not_positive p.qp qp j p.has_program q.has_program p.first)

  convex_and_wide : (qp : Qp) (place : Place) → IsConvexProgram plant qp → IsFirstWidePlace plant place → ⊥
  convex_and_wide qp _ q (wide_program place w) = no_place plant place q.has_program.fits w
  convex_and_wide qp _ q (wide_pivot other k has w) = passes_wide (entry qp.h) (height qp.h) q.pivots k (wide other qp k has q.has_program w)

  one_wide : (a b : Place) → IsFirstWidePlace plant a → IsFirstWidePlace plant b → a ≡ b
  one_wide _ _ (wide_program a w) (wide_program b v) = one_place plant a b w v
  one_wide _ _ (wide_program a w) (wide_pivot qp k has v) = absurd (no_place plant a has.fits w)
  one_wide _ _ (wide_pivot qp k has v) (wide_program b w) = absurd (no_place plant b has.fits w)
  one_wide _ _ (wide_pivot qp k has v) (wide_pivot other m its w) = ap Pivot (one_pivot_wide (entry other.h) (height other.h) k m (wide qp other k has its v) w)

  pub one_outcome : (a b : ProgramOutcome) → IsProgramOutcome plant a → IsProgramOutcome plant b → a ≡ b
  one_outcome (not_definite j) (not_definite k) p q = ap not_definite (one_not_positive (entry q.qp.h) (height q.qp.h) j k (not_positive p.qp q.qp j p.has_program q.has_program p.first) q.first)
  one_outcome (not_definite j) (too_wide place) p w = absurd (definite_or_wide j place p w)
  one_outcome (not_definite j) convex p q = absurd (convex_and_indefinite q.0 j q.1 p)
  one_outcome (too_wide place) (not_definite j) w p = absurd (definite_or_wide j place p w)
  one_outcome (too_wide a) (too_wide b) w v = ap too_wide (one_wide a b w v)
  one_outcome (too_wide place) convex w q = absurd (convex_and_wide q.0 place q.1 w)
  one_outcome convex (not_definite j) q p = absurd (convex_and_indefinite q.0 j q.1 p)
  one_outcome convex (too_wide place) q w = absurd (convex_and_wide q.0 place q.1 w)
  one_outcome convex convex p q = refl
