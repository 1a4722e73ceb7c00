-- What a `Frac` stands for.
use Rattle.std.specs.Prelude.{◌≡◌, ◌^◌, ◌<◌, T, ℤ, pos, negsuc, ◌<ℤ◌, unsigned_abs}
use Rattle.std.proofs.Common.{ap, ◌∙◌, refl}
use Rattle.mpc_exact.specs.Rational.{ℚ, frac, is_reduced, frac_record}
use Rattle.mpc_frac.specs.declared.Frac.TheInside.{Inside}

abbrev pub number : Inside → ℚ
number f = frac f.num (unsigned_abs f.den)

-- in lowest terms, over a positive denominator, and of parts below 2^127 in size
pub record IsFrac (f : Inside) : Type 0 where
  pub positive : pos 0 <ℤ f.den
  pub lowest : T (is_reduced f.num (unsigned_abs f.den))
  pub numer_fits : unsigned_abs f.num < 2 ^ 127
  pub denom_fits : unsigned_abs f.den < 2 ^ 127

abbrev pub parts : ℚ → Inside
parts x = record { num = x.numer; den = pos x.denom }

abs_of_positive : (z : ℤ) → pos 0 <ℤ z → pos (unsigned_abs z) ≡ z
abs_of_positive (pos n) h = refl
abs_of_positive (negsuc n) h = absurd h.lt

pub parts_back : (f : Inside) → IsFrac f → parts (number f) ≡ f
parts_back f h =
    let e = frac_record f.num (unsigned_abs f.den) h.lowest in
    λ i. record { num = (ap (λ x. x.numer) e) i; den = (ap (λ x. pos x.denom) e ∙ abs_of_positive f.den h.positive) i }
