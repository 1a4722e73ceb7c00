-- What ends a step, by its least quotient and its full length.
use Rattle.std.proofs.Common.{◌≡◌, List, subst, Some, None, true, false}
use Rattle.mpc_exact.specs.Rational.{ℚ, lt_ℚ, ◌≤ℚ◌, ◌<ℚ◌}
use Rattle.mpc_exact.proofs.RationalOrder.{≤ℚ_trans}
use Rattle.mpc_exact.proofs.OrderTheorems.{lt_ℚ-true, lt_ℚ-false}
use Rattle.mpc_space.specs.Vector.{IsZero}
use Rattle.mpc_rows.specs.declared.programs.Qp.{Qp}
use Rattle.mpc_online.specs.Positions.{Position}
use Rattle.mpc_online.specs.Turns.{full_length, IsShortestWith, IsTurn}
use Rattle.mpc_online.specs.Widths.{QuotientsFit, FullFits, LengthsFit}
use Rattle.mpc_online.specs.declared.turns.Turn.TheVariants.{Refuted, Drops, Joins}
use Rattle.mpc_online.specs.declared.turns.Partial.{Partial}

module _ (qp : Qp) (b : List ℚ) (p : Position) (d e : List ℚ) where
  pub still_fits : QuotientsFit p.multipliers e → IsZero d → LengthsFit qp b p d e
  still_fits f z = record { partial = f; full = λ some. absurd (some z) }

  pub moving_fits : QuotientsFit p.multipliers e → FullFits qp b p d → LengthsFit qp b p d e
  moving_fits f g = record { partial = f; full = λ some. g }

  pub wide_partial : ¬ QuotientsFit p.multipliers e → ¬ LengthsFit qp b p d e
  wide_partial h f = h f.partial

  pub wide_full : ¬ IsZero d → ¬ FullFits qp b p d → ¬ LengthsFit qp b p d e
  wide_full some h f = h (f.full some)

  pub refuted_turn : IsZero d → IsShortestWith p.multipliers e None → IsTurn qp b p d e Refuted
  refuted_turn z h = (z, h)

  pub still_drops : (drop : Partial) → IsZero d → IsShortestWith p.multipliers e (Some drop) → IsTurn qp b p d e (Drops drop.place drop.length)
  still_drops drop z h = record { shortest = h.0; is = h.1; before_row = λ some. absurd (some z) }

  pub moving_drops : (drop : Partial) (full : ℚ) → full ≡ full_length qp b p d → lt_ℚ drop.length full ≡ true → IsShortestWith p.multipliers e (Some drop) → IsTurn qp b p d e (Drops drop.place drop.length)
  moving_drops drop full is test h = record { shortest = h.0; is = h.1; before_row = λ some. subst (λ u. drop.length <ℚ u) is (lt_ℚ-true test) }

  pub joins_alone : (full : ℚ) → full ≡ full_length qp b p d → ¬ IsZero d → IsShortestWith p.multipliers e None → IsTurn qp b p d e (Joins full)
  joins_alone full is some h = record { moves = some; is = is; before_members = λ k l f. absurd (h k l f) }

  pub joins_first : (drop : Partial) (full : ℚ) → full ≡ full_length qp b p d → ¬ IsZero d → lt_ℚ drop.length full ≡ false → IsShortestWith p.multipliers e (Some drop) → IsTurn qp b p d e (Joins full)
  joins_first drop full is some test h = record {
    moves = some;
    is = is;
    before_members = λ k l f. ≤ℚ_trans (subst (λ u. full ≤ℚ u) h.1 (lt_ℚ-false test)) (h.0.least k l f);
  }
