-- The rational numbers: fractions of whole numbers without a bound, each in lowest terms over a positive denominator, so that equal
-- numbers are equal values. The operations and the order are those of school arithmetic.
use Rattle.std.specs.Prelude.{◌≡◌, ℕ, zero, suc, ◌*◌, ◌/◌, ◌<◌, Bool, true, false, cond, ◌&&◌, T, ◌∷◌, eqb, ltb, ℤ, pos, negsuc, ◌+ℤ◌, ◌*ℤ◌, neg_ℤ, ◌≤ℤ◌, ◌<ℤ◌, int_div, unsigned_abs, int_le, int_lt}
use Rattle.std.specs.Coded.{Coded, code_by, coded×, coded_ℕ, coded_ℤ}
use Rattle.std.proofs.Common.{refl, sym, ◌∙◌, ap, subst, zero-lt-suc, lt→ltb, ltb→lt, eqb→eq, div-one, lt_irrefl}
use Rattle.std.proofs.Common.{Ordering, int_cmp}
use Rattle.mpc_exact.specs.Gcd.{gcd, gcd-parts, part-positive}
use lib.Dec.{eqb_refl, T_prop}
use mathlib.Core.HLevel.{is_prop→PathP}

-- the denominator is positive, and no number above 1 divides both
abbrev pub is_reduced : ℤ → ℕ → Bool
is_reduced n d = ltb 0 d && eqb (gcd (unsigned_abs n) d) 1

pub record ℚ : Type 0 where
  pub numer : ℤ
  pub denom : ℕ
  pub reduced : T (is_reduced numer denom)

-- ---- n / d in lowest terms
pub T_and : (a b : Bool) → T a → T b → T (a && b)
T_and true b p q = q
T_and false b p q = p

abs-neg : (n : ℕ) → unsigned_abs (neg_ℤ (pos n)) ≡ n
abs-neg zero = refl
abs-neg (suc n) = refl

pub abs-div : (n : ℤ) (g : ℕ) → unsigned_abs (int_div n (pos g)) ≡ unsigned_abs n / g
abs-div (pos n) g = refl
abs-div (negsuc n) g = abs-neg (suc n / g)

pub frac_reduced : (n : ℤ) (d : ℕ) → 0 < d → T (is_reduced (int_div n (pos (gcd (unsigned_abs n) d))) (d / gcd (unsigned_abs n) d))
frac_reduced n d some =
    let g = gcd (unsigned_abs n) d in
    let one : gcd (unsigned_abs (int_div n (pos g))) (d / g) ≡ 1 = ap (λ m. gcd m (d / g)) (abs-div n g) ∙ gcd-parts (unsigned_abs n) d some in
    T_and (ltb 0 (d / g)) (eqb (gcd (unsigned_abs (int_div n (pos g))) (d / g)) 1)
    (lt→ltb 0 (d / g) (part-positive (unsigned_abs n) d some)) (subst (λ m. T (eqb m 1)) (sym one) (eqb_refl 1))

pub zero_reduced : T (is_reduced (pos 0) 1)
unfolding gcd
zero_reduced = tt

-- the fraction n / d; 0 where d is 0
unfoldable pub frac : ℤ → ℕ → ℚ
frac n zero = record { numer = pos 0; denom = 1; reduced = zero_reduced }
frac n (suc d) = record { numer = int_div n (pos (gcd (unsigned_abs n) (suc d))); denom = suc d / gcd (unsigned_abs n) (suc d); reduced = frac_reduced n (suc d) (zero-lt-suc d) }

-- ---- the operations
-- an integer as a fraction
abbrev pub int : ℤ → ℚ
int n = frac n 1

infixl 6 ◌+ℚ◌ ◌-ℚ◌
infixl 7 ◌*ℚ◌ ◌/ℚ◌
unfoldable pub ◌+ℚ◌ : ℚ → ℚ → ℚ
x +ℚ y = frac (x.numer *ℤ pos y.denom +ℤ y.numer *ℤ pos x.denom) (x.denom * y.denom)

unfoldable pub ◌*ℚ◌ : ℚ → ℚ → ℚ
x *ℚ y = frac (x.numer *ℤ y.numer) (x.denom * y.denom)

unfoldable pub neg_ℚ : ℚ → ℚ
neg_ℚ x = frac (neg_ℤ x.numer) x.denom

abbrev pub ◌-ℚ◌ : ℚ → ℚ → ℚ
x -ℚ y = x +ℚ neg_ℚ y

-- d / n; 0 where n is 0
abbrev pub upside_down : ℤ → ℕ → ℚ
upside_down (pos n) d = frac (pos d) n
upside_down (negsuc n) d = frac (neg_ℤ (pos d)) (suc n)

-- 1 / x; 0 where x is 0
unfoldable pub inv_ℚ : ℚ → ℚ
inv_ℚ x = upside_down x.numer x.denom

abbrev pub ◌/ℚ◌ : ℚ → ℚ → ℚ
x /ℚ y = x *ℚ inv_ℚ y

-- ---- the order
infix 50 ◌≤ℚ◌ ◌<ℚ◌
pub record ◌≤ℚ◌ (x y : ℚ) : Type 0 where
  pub at_most : (x.numer *ℤ pos y.denom) ≤ℤ (y.numer *ℤ pos x.denom)

pub record ◌<ℚ◌ (x y : ℚ) : Type 0 where
  pub below : (x.numer *ℤ pos y.denom) <ℤ (y.numer *ℤ pos x.denom)

abbrev pub le_ℚ : ℚ → ℚ → Bool
le_ℚ x y = int_le (x.numer *ℤ pos y.denom) (y.numer *ℤ pos x.denom)

abbrev pub lt_ℚ : ℚ → ℚ → Bool
lt_ℚ x y = int_lt (x.numer *ℤ pos y.denom) (y.numer *ℤ pos x.denom)

-- Less, Equal or Greater
abbrev pub cmp_ℚ : ℚ → ℚ → Ordering
cmp_ℚ x y = int_cmp (x.numer *ℤ pos y.denom) (y.numer *ℤ pos x.denom)

-- ---- two fractions of the same parts are one
pub same_parts : (x y : ℚ) → x.numer ≡ y.numer → x.denom ≡ y.denom → x ≡ y
same_parts x y p q = λ i. record { numer = p i; denom = q i; reduced = is_prop→PathP (λ i. T (is_reduced (p i) (q i))) (λ i. T_prop (is_reduced (p i) (q i))) x.reduced y.reduced i }

and_left : (a b : Bool) → T (a && b) → T a
and_left true b t = tt
and_left false b t = t

and_right : (a b : Bool) → T (a && b) → T b
and_right true b t = t
and_right false b t = absurd t

pub denom_positive : (x : ℚ) → 0 < x.denom
denom_positive x = ltb→lt 0 x.denom (and_left (ltb 0 x.denom) (eqb (gcd (unsigned_abs x.numer) x.denom) 1) x.reduced)

pub parts_coprime : (x : ℚ) → gcd (unsigned_abs x.numer) x.denom ≡ 1
parts_coprime x = eqb→eq (gcd (unsigned_abs x.numer) x.denom) 1 (and_right (ltb 0 x.denom) (eqb (gcd (unsigned_abs x.numer) x.denom) 1) x.reduced)

-- ---- a fraction gives its parts back
div_one : (n : ℤ) → int_div n (pos 1) ≡ n
div_one (pos n) = ap pos (div-one n)
div_one (negsuc n) = ap (λ m. neg_ℤ (pos m)) (div-one (suc n))

pub frac_parts : (n : ℤ) (d : ℕ) → 0 < d → gcd (unsigned_abs n) d ≡ 1 → ((frac n d).numer ≡ n) × ((frac n d).denom ≡ d)
unfolding frac
frac_parts n zero h e = absurd (lt_irrefl 0 h)
frac_parts n (suc d) h e = (ap (λ g. int_div n (pos g)) e ∙ div_one n, ap (λ g. suc d / g) e ∙ div-one (suc d))

pub frac_self : (x : ℚ) → frac x.numer x.denom ≡ x
frac_self x =
    let p = frac_parts x.numer x.denom (denom_positive x) (parts_coprime x) in
    same_parts (frac x.numer x.denom) x p.0 p.1

-- parts in lowest terms are the fraction's own
pub frac_record : (n : ℤ) (d : ℕ) (t : T (is_reduced n d)) → frac n d ≡ record { numer = n; denom = d; reduced = t }
frac_record n d t = frac_self (record { numer = n; denom = d; reduced = t })

-- stored as the pair of its parts
abbrev pub coded_ℚ : Coded ℚ
coded_ℚ = code_by (ℤ × ℕ) (coded× coded_ℤ coded_ℕ) (λ x. (x.numer, x.denom)) (λ p. frac p.0 p.1) frac_self

-- the absolute value
unfoldable pub abs_ℚ : ℚ → ℚ
abs_ℚ x = frac (pos (unsigned_abs x.numer)) x.denom

abbrev pub IsNonneg : ℚ → Type 0
IsNonneg x = int (pos 0) ≤ℚ x

abbrev pub IsPositive : ℚ → Type 0
IsPositive x = int (pos 0) <ℚ x

-- the lesser and the greater of two fractions
unfoldable pub min_ℚ : ℚ → ℚ → ℚ
min_ℚ x y = cond (le_ℚ x y) x y

unfoldable pub max_ℚ : ℚ → ℚ → ℚ
max_ℚ x y = cond (le_ℚ x y) y x

-- m divided by n; 0 where n is 0
unfoldable pub quotient : ℤ → ℤ → ℚ
quotient m n = int m /ℚ int n
