-- The order of the fractions. A fact is proved by a certificate: a sum of products of values that are not negative, by which the two
-- sides differ.
use Rattle.std.proofs.Common.{◌≡◌, ℕ, zero, suc, ◌*◌, ◌<◌, List, [], ◌∷◌, T, ℤ, pos, negsuc, ◌+ℤ◌, ◌*ℤ◌, neg_ℤ, ◌≤ℤ◌, ◌<ℤ◌, sym, ◌∙◌, ap, subst, subst₂, arith, mul-pos, lit<, ◌⊎◌, inl, inr, ⊎_elim}
use Rattle.std.proofs.lemmas.Int.{ints, by_lt_z}
use Rattle.mpc_exact.specs.Rational.{ℚ, frac, int, ◌+ℚ◌, ◌-ℚ◌, ◌*ℚ◌, inv_ℚ, ◌≤ℚ◌, ◌<ℚ◌, denom_positive}
pub use Rattle.mpc_exact.specs.Rational.{IsNonneg, IsPositive}
use Rattle.mpc_exact.proofs.Ring.{Read, from_one, agree}
use Rattle.mpc_exact.proofs.IntRing.{int_ring, int_reads, by_ring_ℤ, int_le_of_mul, int_lt_of_mul, int_le_by, int_lt_by}
use Rattle.mpc_exact.proofs.Rational.{frac_cross, by_frac, same_ℚ, frac-add, frac-mul, frac-neg, rational_ring, *ℚ_inv}
use Rattle.mpc_exact.proofs.RationalRing.{reads, by_ring}

-- ---- on n / d
across : (a b c d xn xd yn yd : ℤ) → xn *ℤ b ≡ a *ℤ xd → yn *ℤ d ≡ c *ℤ yd → (xn *ℤ yd) *ℤ (b *ℤ d) +ℤ (c *ℤ b) *ℤ (xd *ℤ yd) ≡ (yn *ℤ xd) *ℤ (b *ℤ d) +ℤ (a *ℤ d) *ℤ (xd *ℤ yd)
across a b c d xn xd yn yd e f =
    from_one int_ring (yd *ℤ d) e (from_one int_ring (xd *ℤ b) (sym f)
    (by_ring_ℤ (a ∷ b ∷ c ∷ d ∷ xn ∷ xd ∷ yn ∷ yd ∷ []) (search int_reads depth 30) (search int_reads depth 30) tt))

back_across : (a b c d xn xd yn yd : ℤ) → xn *ℤ b ≡ a *ℤ xd → yn *ℤ d ≡ c *ℤ yd → (a *ℤ d) *ℤ (xd *ℤ yd) +ℤ (yn *ℤ xd) *ℤ (b *ℤ d) ≡ (c *ℤ b) *ℤ (xd *ℤ yd) +ℤ (xn *ℤ yd) *ℤ (b *ℤ d)
back_across a b c d xn xd yn yd e f =
    from_one int_ring (yd *ℤ d) (sym e) (from_one int_ring (xd *ℤ b) f
    (by_ring_ℤ (a ∷ b ∷ c ∷ d ∷ xn ∷ xd ∷ yn ∷ yd ∷ []) (search int_reads depth 30) (search int_reads depth 30) tt))

module _ (a : ℤ) (b : ℕ) (c : ℤ) (d : ℕ) (p : 0 < b) (q : 0 < d) where
  pub le_frac : (a *ℤ pos d) ≤ℤ (c *ℤ pos b) → frac a b ≤ℚ frac c d
  le_frac h =
      let x = frac a b in
      let y = frac c d in
      record {
        at_most = int_le_of_mul (b * d) (mul-pos p q) (int_le_by (x.denom * y.denom) h
            (across a (pos b) c (pos d) x.numer (pos x.denom) y.numer (pos y.denom) (frac_cross a b p) (frac_cross c d q)));
      }

  pub frac_le : frac a b ≤ℚ frac c d → (a *ℤ pos d) ≤ℤ (c *ℤ pos b)
  frac_le h =
      let x = frac a b in
      let y = frac c d in
      int_le_of_mul (x.denom * y.denom) (mul-pos (denom_positive x) (denom_positive y)) (int_le_by (b * d) h.at_most
      (back_across a (pos b) c (pos d) x.numer (pos x.denom) y.numer (pos y.denom) (frac_cross a b p) (frac_cross c d q)))

  pub lt_frac : (a *ℤ pos d) <ℤ (c *ℤ pos b) → frac a b <ℚ frac c d
  lt_frac h =
      let x = frac a b in
      let y = frac c d in
      record {
        below = int_lt_of_mul (b * d) (int_lt_by (x.denom * y.denom) (mul-pos (denom_positive x) (denom_positive y)) h
            (across a (pos b) c (pos d) x.numer (pos x.denom) y.numer (pos y.denom) (frac_cross a b p) (frac_cross c d q)));
      }

  pub frac_lt : frac a b <ℚ frac c d → (a *ℤ pos d) <ℤ (c *ℤ pos b)
  frac_lt h =
      let x = frac a b in
      let y = frac c d in
      int_lt_of_mul (x.denom * y.denom) (int_lt_by (b * d) (mul-pos p q) h.below
      (back_across a (pos b) c (pos d) x.numer (pos x.denom) y.numer (pos y.denom) (frac_cross a b p) (frac_cross c d q)))

-- ---- signs
sign_out : (a b : ℤ) → pos 0 *ℤ b ≡ pos 0
sign_out a b = by_ring_ℤ (b ∷ []) (search int_reads depth 30) (search int_reads depth 30) tt

pub one_last : (a : ℤ) → a *ℤ pos 1 ≡ a
one_last a = by_ring_ℤ (a ∷ []) (search int_reads depth 30) (search int_reads depth 30) tt

module _ (a : ℤ) (b : ℕ) (p : 0 < b) where
  pub nonneg_frac : pos 0 ≤ℤ a → IsNonneg (frac a b)
  nonneg_frac h = le_frac (pos 0) 1 a b (lit< tt) p (subst₂ (λ u v. u ≤ℤ v) (sym (sign_out a (pos b))) (sym (one_last a)) h)

  pub frac_nonneg : IsNonneg (frac a b) → pos 0 ≤ℤ a
  frac_nonneg h = subst₂ (λ u v. u ≤ℤ v) (sign_out a (pos b)) (one_last a) (frac_le (pos 0) 1 a b (lit< tt) p h)

  pub positive_frac : pos 0 <ℤ a → IsPositive (frac a b)
  positive_frac h = lt_frac (pos 0) 1 a b (lit< tt) p (subst₂ (λ u v. u <ℤ v) (sym (sign_out a (pos b))) (sym (one_last a)) h)

  pub frac_positive : IsPositive (frac a b) → pos 0 <ℤ a
  frac_positive h = subst₂ (λ u v. u <ℤ v) (sign_out a (pos b)) (one_last a) (frac_lt (pos 0) 1 a b (lit< tt) p h)

int_nonneg-mul : (a c : ℤ) → pos 0 ≤ℤ a → pos 0 ≤ℤ c → pos 0 ≤ℤ (a *ℤ c)
int_nonneg-mul (pos a) (pos c) h k = omega (arith, ints)
int_nonneg-mul (pos a) (negsuc c) h k = absurd (omega (arith, ints))
int_nonneg-mul (negsuc a) c h k = absurd (omega (arith, ints))

int_positive-mul : (a c : ℤ) → pos 0 <ℤ a → pos 0 <ℤ c → pos 0 <ℤ (a *ℤ c)
int_positive-mul (pos zero) c h k = absurd (omega (arith, ints))
int_positive-mul (pos (suc a)) (pos zero) h k = absurd (omega (arith, ints))
int_positive-mul (pos (suc a)) (pos (suc c)) h k = omega (arith, ints)
int_positive-mul (pos (suc a)) (negsuc c) h k = absurd (omega (arith, ints))
int_positive-mul (negsuc a) c h k = absurd (omega (arith, ints))

pos_nonneg : (n : ℕ) → pos 0 ≤ℤ pos n
pos_nonneg n = omega (arith, ints)

int_square : (a : ℤ) → pos 0 ≤ℤ (a *ℤ a)
int_square (pos a) = omega (arith, ints)
int_square (negsuc a) = omega (arith, ints)

pub nonneg_int : (n : ℕ) → IsNonneg (int (pos n))
nonneg_int n = nonneg_frac (pos n) 1 (lit< tt) (omega (arith, ints))

pub positive_int : (n : ℕ) → 0 < n → IsPositive (int (pos n))
positive_int n h = positive_frac (pos n) 1 (lit< tt) (omega (arith, ints))

nonneg_sum : (a b c d : ℤ) → pos 0 ≤ℤ (a *ℤ d) → pos 0 ≤ℤ (c *ℤ b) → pos 0 ≤ℤ (a *ℤ d +ℤ c *ℤ b)
nonneg_sum a b c d h k = omega (arith, ints)

positive_sum : (a b c d : ℤ) → pos 0 <ℤ (a *ℤ d) → pos 0 ≤ℤ (c *ℤ b) → pos 0 <ℤ (a *ℤ d +ℤ c *ℤ b)
positive_sum a b c d h k = omega (arith, ints)

pub nonneg-add : {x y : ℚ} → IsNonneg x → IsNonneg y → IsNonneg (x +ℚ y)
nonneg-add {x} {y} =
    by_frac (λ x. IsNonneg x → IsNonneg y → IsNonneg (x +ℚ y)) (λ a b p. by_frac (λ y. IsNonneg (frac a b) → IsNonneg y → IsNonneg (frac a b +ℚ y)) (λ c d q h k.
    subst IsNonneg (sym (frac-add a b c d p q)) (nonneg_frac (a *ℤ pos d +ℤ c *ℤ pos b) (b * d) (mul-pos p q)
    (nonneg_sum a (pos b) c (pos d) (int_nonneg-mul a (pos d) (frac_nonneg a b p h) (pos_nonneg d)) (int_nonneg-mul c (pos b) (frac_nonneg c d q k) (pos_nonneg b))))) y) x

pub positive-add : {x y : ℚ} → IsPositive x → IsNonneg y → IsPositive (x +ℚ y)
positive-add {x} {y} =
    by_frac (λ x. IsPositive x → IsNonneg y → IsPositive (x +ℚ y)) (λ a b p. by_frac (λ y. IsPositive (frac a b) → IsNonneg y → IsPositive (frac a b +ℚ y)) (λ c d q h k.
    subst IsPositive (sym (frac-add a b c d p q)) (positive_frac (a *ℤ pos d +ℤ c *ℤ pos b) (b * d) (mul-pos p q)
    (positive_sum a (pos b) c (pos d) (int_positive-mul a (pos d) (frac_positive a b p h) (omega (arith, ints))) (int_nonneg-mul c (pos b) (frac_nonneg c d q k) (pos_nonneg b))))) y) x

pub nonneg-mul : {x y : ℚ} → IsNonneg x → IsNonneg y → IsNonneg (x *ℚ y)
nonneg-mul {x} {y} =
    by_frac (λ x. IsNonneg x → IsNonneg y → IsNonneg (x *ℚ y)) (λ a b p. by_frac (λ y. IsNonneg (frac a b) → IsNonneg y → IsNonneg (frac a b *ℚ y)) (λ c d q h k.
    subst IsNonneg (sym (frac-mul a b c d p q)) (nonneg_frac (a *ℤ c) (b * d) (mul-pos p q) (int_nonneg-mul a c (frac_nonneg a b p h) (frac_nonneg c d q k)))) y) x

pub positive-mul : {x y : ℚ} → IsPositive x → IsPositive y → IsPositive (x *ℚ y)
positive-mul {x} {y} =
    by_frac (λ x. IsPositive x → IsPositive y → IsPositive (x *ℚ y)) (λ a b p. by_frac (λ y. IsPositive (frac a b) → IsPositive y → IsPositive (frac a b *ℚ y)) (λ c d q h k.
    subst IsPositive (sym (frac-mul a b c d p q)) (positive_frac (a *ℤ c) (b * d) (mul-pos p q) (int_positive-mul a c (frac_positive a b p h) (frac_positive c d q k)))) y) x

pub nonneg_square : (x : ℚ) → IsNonneg (x *ℚ x)
nonneg_square = by_frac (λ x. IsNonneg (x *ℚ x)) (λ a b p. subst IsNonneg (sym (frac-mul a b a b p p)) (nonneg_frac (a *ℤ a) (b * b) (mul-pos p p) (int_square a)))

-- ---- the difference
less : (a b c d : ℤ) → (a *ℤ d) ≤ℤ (c *ℤ b) → pos 0 ≤ℤ (c *ℤ b +ℤ neg_ℤ a *ℤ d)
less a b c d h = int_le_by 1 h (by_ring_ℤ (a ∷ b ∷ c ∷ d ∷ []) (search int_reads depth 30) (search int_reads depth 30) tt)

more : (a b c d : ℤ) → pos 0 ≤ℤ (c *ℤ b +ℤ neg_ℤ a *ℤ d) → (a *ℤ d) ≤ℤ (c *ℤ b)
more a b c d h = int_le_by 1 h (by_ring_ℤ (a ∷ b ∷ c ∷ d ∷ []) (search int_reads depth 30) (search int_reads depth 30) tt)

less_strict : (a b c d : ℤ) → (a *ℤ d) <ℤ (c *ℤ b) → pos 0 <ℤ (c *ℤ b +ℤ neg_ℤ a *ℤ d)
less_strict a b c d h = int_lt_by 1 (lit< tt) h (by_ring_ℤ (a ∷ b ∷ c ∷ d ∷ []) (search int_reads depth 30) (search int_reads depth 30) tt)

more_strict : (a b c d : ℤ) → pos 0 <ℤ (c *ℤ b +ℤ neg_ℤ a *ℤ d) → (a *ℤ d) <ℤ (c *ℤ b)
more_strict a b c d h = int_lt_by 1 (lit< tt) h (by_ring_ℤ (a ∷ b ∷ c ∷ d ∷ []) (search int_reads depth 30) (search int_reads depth 30) tt)

minus : (a : ℤ) (b : ℕ) (c : ℤ) (d : ℕ) → 0 < b → 0 < d → frac c d -ℚ frac a b ≡ frac (c *ℤ pos b +ℤ neg_ℤ a *ℤ pos d) (d * b)
minus a b c d p q = ap (λ u. frac c d +ℚ u) (frac-neg a b p) ∙ frac-add c d (neg_ℤ a) b q p

pub gap : {x y : ℚ} → x ≤ℚ y → IsNonneg (y -ℚ x)
gap {x} {y} =
    by_frac (λ x. x ≤ℚ y → IsNonneg (y -ℚ x)) (λ a b p. by_frac (λ y. frac a b ≤ℚ y → IsNonneg (y -ℚ frac a b)) (λ c d q h.
    subst IsNonneg (sym (minus a b c d p q)) (nonneg_frac (c *ℤ pos b +ℤ neg_ℤ a *ℤ pos d) (d * b) (mul-pos q p) (less a (pos b) c (pos d) (frac_le a b c d p q h)))) y) x

pub from_gap : {x y : ℚ} → IsNonneg (y -ℚ x) → x ≤ℚ y
from_gap {x} {y} =
    by_frac (λ x. IsNonneg (y -ℚ x) → x ≤ℚ y) (λ a b p. by_frac (λ y. IsNonneg (y -ℚ frac a b) → frac a b ≤ℚ y) (λ c d q h.
    le_frac a b c d p q (more a (pos b) c (pos d) (frac_nonneg (c *ℤ pos b +ℤ neg_ℤ a *ℤ pos d) (d * b) (mul-pos q p) (subst IsNonneg (minus a b c d p q) h)))) y) x

pub strict_gap : {x y : ℚ} → x <ℚ y → IsPositive (y -ℚ x)
strict_gap {x} {y} =
    by_frac (λ x. x <ℚ y → IsPositive (y -ℚ x)) (λ a b p. by_frac (λ y. frac a b <ℚ y → IsPositive (y -ℚ frac a b)) (λ c d q h.
    subst IsPositive (sym (minus a b c d p q)) (positive_frac (c *ℤ pos b +ℤ neg_ℤ a *ℤ pos d) (d * b) (mul-pos q p) (less_strict a (pos b) c (pos d) (frac_lt a b c d p q h)))) y) x

pub from_strict_gap : {x y : ℚ} → IsPositive (y -ℚ x) → x <ℚ y
from_strict_gap {x} {y} =
    by_frac (λ x. IsPositive (y -ℚ x) → x <ℚ y) (λ a b p. by_frac (λ y. IsPositive (y -ℚ frac a b) → frac a b <ℚ y) (λ c d q h.
    lt_frac a b c d p q (more_strict a (pos b) c (pos d) (frac_positive (c *ℤ pos b +ℤ neg_ℤ a *ℤ pos d) (d * b) (mul-pos q p) (subst IsPositive (minus a b c d p q) h)))) y) x

-- ---- certificates: x ≤ y where y - x is a value that is not negative, up to the ring's laws
module _ (xs : List ℚ) {x y w : ℚ} where
  pub by_le : IsNonneg w → (r : Read rational_ring xs (y -ℚ x)) (s : Read rational_ring xs w) → T (agree r.as_expr s.as_expr) → x ≤ℚ y
  by_le h r s t = from_gap (subst IsNonneg (sym (by_ring xs r s t)) h)

  pub by_lt : IsPositive w → (r : Read rational_ring xs (y -ℚ x)) (s : Read rational_ring xs w) → T (agree r.as_expr s.as_expr) → x <ℚ y
  by_lt h r s t = from_strict_gap (subst IsPositive (sym (by_ring xs r s t)) h)

irrefl : (z : ℤ) → z <ℤ z → ⊥
irrefl z h = omega (arith, ints)

pub <ℚ_irrefl : {x : ℚ} → x <ℚ x → ⊥
<ℚ_irrefl {x} h = irrefl (x.numer *ℤ pos x.denom) h.below

-- nothing meets the hypotheses, since a positive sum of them is zero
pub by_conflict : (xs : List ℚ) {w : ℚ} → IsPositive w → (r : Read rational_ring xs w) (s : Read rational_ring xs (int (pos 0))) → T (agree r.as_expr s.as_expr) → ⊥
by_conflict xs h r s t = <ℚ_irrefl (subst IsPositive (by_ring xs r s t) h)

-- ---- the order's laws
pub ≤ℚ_refl : (x : ℚ) → x ≤ℚ x
≤ℚ_refl x = by_le (x ∷ []) (nonneg_int 0) (search reads depth 30) (search reads depth 30) tt

pub ≤ℚ_trans : {x y z : ℚ} → x ≤ℚ y → y ≤ℚ z → x ≤ℚ z
≤ℚ_trans {x} {y} {z} h k = by_le (x ∷ y ∷ z ∷ []) (nonneg-add (gap h) (gap k)) (search reads depth 30) (search reads depth 30) tt

pub <ℚ-≤ℚ_trans : {x y z : ℚ} → x <ℚ y → y ≤ℚ z → x <ℚ z
<ℚ-≤ℚ_trans {x} {y} {z} h k = by_lt (x ∷ y ∷ z ∷ []) (positive-add (strict_gap h) (gap k)) (search reads depth 30) (search reads depth 30) tt

antisymm : (u v : ℤ) → u ≤ℤ v → v ≤ℤ u → u ≡ v
antisymm u v h k = omega (arith, ints)

pub ≤ℚ_antisymm : {x y : ℚ} → x ≤ℚ y → y ≤ℚ x → x ≡ y
≤ℚ_antisymm {x} {y} h k = same_ℚ x y (antisymm (x.numer *ℤ pos y.denom) (y.numer *ℤ pos x.denom) h.at_most k.at_most)

weaken : (u v : ℤ) → u <ℤ v → u ≤ℤ v
weaken u v h = omega (arith, ints)

pub ≤ℚ_of_< : {x y : ℚ} → x <ℚ y → x ≤ℚ y
≤ℚ_of_< {x} {y} h = record { at_most = weaken (x.numer *ℤ pos y.denom) (y.numer *ℤ pos x.denom) h.below }

pub le_or_lt : (x y : ℚ) → (x ≤ℚ y) ⊎ (y <ℚ x)
le_or_lt x y = by_lt_z (y.numer *ℤ pos x.denom) (x.numer *ℤ pos y.denom) (λ h. inr (record { below = h })) (λ h. inl (record { at_most = h }))

pub +ℚ-≤ℚ : {x y z w : ℚ} → x ≤ℚ y → z ≤ℚ w → (x +ℚ z) ≤ℚ (y +ℚ w)
+ℚ-≤ℚ {x} {y} {z} {w} h k = by_le (x ∷ y ∷ z ∷ w ∷ []) (nonneg-add (gap h) (gap k)) (search reads depth 30) (search reads depth 30) tt

pub *ℚ-≤ℚ : {x y z : ℚ} → IsNonneg z → x ≤ℚ y → (z *ℚ x) ≤ℚ (z *ℚ y)
*ℚ-≤ℚ {x} {y} {z} h k = by_le (x ∷ y ∷ z ∷ []) (nonneg-mul (gap h) (gap k)) (search reads depth 30) (search reads depth 30) tt

-- a positive factor is cancelled
pub nonneg_cancel : {k d : ℚ} → IsPositive k → IsNonneg (k *ℚ d) → IsNonneg d
nonneg_cancel {k} {d} p h =
    ⊎_elim (λ l. l) (λ l. absurd (by_conflict (k ∷ d ∷ []) (positive-add (positive-mul p (strict_gap l)) h) (search reads depth 30) (search reads depth 30) tt)) (le_or_lt (int (pos 0)) d)

pub positive_cancel : {k d : ℚ} → IsPositive k → IsPositive (k *ℚ d) → IsPositive d
positive_cancel {k} {d} p h =
    ⊎_elim (λ l. absurd (by_conflict (k ∷ d ∷ []) (positive-add h (nonneg-mul (≤ℚ_of_< p) (gap l))) (search reads depth 30) (search reads depth 30) tt)) (λ l. l) (le_or_lt d (int (pos 0)))

-- the same with a positive factor k on the difference, as where a multiplier is a fraction
module _ (xs : List ℚ) {x y w k : ℚ} where
  pub by_le_times : IsPositive k → IsNonneg w → (r : Read rational_ring xs (k *ℚ (y -ℚ x))) (s : Read rational_ring xs w) → T (agree r.as_expr s.as_expr) → x ≤ℚ y
  by_le_times p h r s t = from_gap (nonneg_cancel p (subst IsNonneg (sym (by_ring xs r s t)) h))

  pub by_lt_times : IsPositive k → IsPositive w → (r : Read rational_ring xs (k *ℚ (y -ℚ x))) (s : Read rational_ring xs w) → T (agree r.as_expr s.as_expr) → x <ℚ y
  by_lt_times p h r s t = from_strict_gap (positive_cancel p (subst IsPositive (sym (by_ring xs r s t)) h))

pub inv_positive : {x : ℚ} → IsPositive x → IsPositive (inv_ℚ x)
inv_positive {x} p =
    positive_cancel p (subst IsPositive (sym (*ℚ_inv x (λ e. <ℚ_irrefl (subst (λ z. IsPositive z) e p)))) (positive_int 1 (lit< tt)))
