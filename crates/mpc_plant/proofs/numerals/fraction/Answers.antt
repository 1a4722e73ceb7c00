use Rattle.std.proofs.Common.{◌≡◌, ◌∙◌, ℕ, ◌<◌, ◌^◌, ap, pos, sym, subst, to_z, of_z, arith}
use Rattle.std.specs.Int.{w128}
use Rattle.std.proofs.lemmas.Int.{to_z_pos, to_z-of_z, fits_signed_from_abs}
use Rattle.mpc_exact.specs.Rational.{IsNonneg}
use Rattle.mpc_exact.proofs.RationalOrder.{nonneg_int, positive_int, nonneg_cancel}
use Rattle.mpc_exact.proofs.School.{frac_times}
use Rattle.mpc_plant.proofs.DigitLemmas.{no_error, quotient_at}
use Rattle.mpc_plant.proofs.numerals.fraction.Goals as goal

read_back : (d : ℕ) → d < 2 ^ 127 → to_z w128 (of_z w128 (pos d)) ≡ pos d
read_back d h = to_z-of_z w128 (pos d) (fits_signed_from_abs w128 (pos d) h)

pub unreachable-requires : goal.unreachable-requires
unreachable-requires c =
    no_error c.args.numerator c.args.denominator (to_z w128 c.args.numerator) (to_z w128 (of_z w128 c.from.result)) c.requires.positive c.requires.small (omega (arith, c.ranges.denominator.fits)) (to_z_pos w128 c.args.numerator c.requires.small)
    (ap (λ z. to_z w128 (of_z w128 z)) c.from.ensures ∙ read_back c.args.denominator (omega (arith, c.ranges.denominator.fits))) c.in-Err.field-0 c.in-Err.ensures.zero.0 c.in-Err.ensures.wide.0

pub returns-clause-value : goal.returns-clause-value
returns-clause-value c =
    c.in-Ok.ensures.value ∙
    quotient_at c.args.numerator c.args.denominator (to_z w128 c.args.numerator) (to_z w128 (of_z w128 c.from.result)) c.requires.positive c.requires.small (omega (arith, c.ranges.denominator.fits)) (to_z_pos w128 c.args.numerator c.requires.small)
    (ap (λ z. to_z w128 (of_z w128 z)) c.from.ensures ∙ read_back c.args.denominator (omega (arith, c.ranges.denominator.fits)))

pub returns-clause-nonneg : goal.returns-clause-nonneg
returns-clause-nonneg c =
    subst IsNonneg (sym (returns-clause-value c))
    (nonneg_cancel (positive_int c.args.denominator c.requires.positive) (subst IsNonneg (sym (frac_times (pos c.args.numerator) c.args.denominator c.requires.positive)) (nonneg_int c.args.numerator)))
