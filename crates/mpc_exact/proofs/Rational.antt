-- The laws of fractions: what `frac` says, the ring, and the inverse.
use Rattle.std.proofs.Common.{◌≡◌, ◌≢◌, ℕ, zero, suc, ◌*◌, ◌/◌, ◌<◌, [], ◌∷◌, ℤ, pos, negsuc, ◌+ℤ◌, ◌*ℤ◌, neg_ℤ, int_div, unsigned_abs, refl, sym, ◌∙◌, ap, ap₂, subst, arith, mul-pos, mul_comm, mul_assoc, mul-one, zero-lt-suc, lit<}
use Rattle.std.specs.Int.{◌∣◌}
use native.Mathlib.Nat.{dvd-mul_left, div-mul_cancel, dvd_antisymm, mul-div_cancel'}
use Rattle.std.proofs.lemmas.Int.{unsigned_abs-mul}
use Rattle.std.proofs.Math.IntN.{+ℤ_comm, *ℤ_comm}
use Rattle.mpc_exact.specs.Gcd.{gcd, gcd-divides_left, gcd-divides_right, coprime_divides}
use Rattle.mpc_exact.specs.Rational.{ℚ, frac, int, ◌+ℚ◌, ◌*ℚ◌, neg_ℚ, inv_ℚ, upside_down, same_parts, denom_positive, parts_coprime, frac_self}
use Rattle.mpc_exact.proofs.Ring.{Ring, from_one}
use Rattle.mpc_exact.proofs.IntRing.{int_ring, int_reads, by_ring_ℤ, int_mul_cancel, *ℤ_assoc}

-- ---- `frac`
neg_exact : (m g a : ℕ) → m * g ≡ suc a → neg_ℤ (pos m) *ℤ pos g ≡ negsuc a
neg_exact zero g a e = absurd (omega arith)
neg_exact (suc m) g a e = ap (λ n. neg_ℤ (pos n)) e

pub int_div_exact : (n : ℤ) (g : ℕ) → g ∣ unsigned_abs n → int_div n (pos g) *ℤ pos g ≡ n
int_div_exact (pos a) g h = ap pos (div-mul_cancel g h)
int_div_exact (negsuc a) g h = neg_exact (suc a / g) g a (div-mul_cancel g h)

pub frac_cross : (n : ℤ) (d : ℕ) → 0 < d → (frac n d).numer *ℤ pos d ≡ n *ℤ pos (frac n d).denom
unfolding frac
frac_cross n zero h = absurd (omega arith)
frac_cross n (suc d) h =
    let g = gcd (unsigned_abs n) (suc d) in
    let q = int_div n (pos g) in
    let e : g * (suc d / g) ≡ suc d = mul-div_cancel' g (gcd-divides_right (unsigned_abs n) (suc d)) in
    ap (λ m. q *ℤ pos m) (sym e) ∙ sym (*ℤ_assoc q (pos g) (pos (suc d / g))) ∙ ap (λ z. z *ℤ pos (suc d / g)) (int_div_exact n g (gcd-divides_left (unsigned_abs n) (suc d)))

same_denom : (x y : ℚ) → x.numer *ℤ pos y.denom ≡ y.numer *ℤ pos x.denom → x.denom ∣ y.denom
same_denom x y e =
    let abs : unsigned_abs x.numer * y.denom ≡ unsigned_abs y.numer * x.denom = sym (unsigned_abs-mul x.numer (pos y.denom)) ∙ ap unsigned_abs e ∙ unsigned_abs-mul y.numer (pos x.denom) in
    let at : unsigned_abs y.numer * x.denom ≡ y.denom * unsigned_abs x.numer = sym abs ∙ mul_comm (unsigned_abs x.numer) y.denom in
    coprime_divides (unsigned_abs x.numer) x.denom y.denom (parts_coprime x) (subst (λ n. x.denom ∣ n) at (dvd-mul_left x.denom (unsigned_abs y.numer)))

-- two fractions that agree crosswise are one
pub same_ℚ : (x y : ℚ) → x.numer *ℤ pos y.denom ≡ y.numer *ℤ pos x.denom → x ≡ y
same_ℚ x y e =
    let d : x.denom ≡ y.denom = dvd_antisymm (same_denom x y e) (same_denom y x (sym e)) in
    same_parts x y (int_mul_cancel y.denom (denom_positive y) (e ∙ ap (λ n. y.numer *ℤ pos n) d)) d

-- to show it of each fraction, show it of each n / d
pub by_frac : (P : ℚ → Type 0) → ((n : ℤ) (d : ℕ) → 0 < d → P (frac n d)) → (x : ℚ) → P x
by_frac P h x = subst P (frac_self x) (h x.numer x.denom (denom_positive x))

cross : (a b c d xn xd yn yd : ℤ) → xn *ℤ b ≡ a *ℤ xd → yn *ℤ d ≡ c *ℤ yd → a *ℤ d ≡ c *ℤ b → (xn *ℤ yd) *ℤ (b *ℤ d) ≡ (yn *ℤ xd) *ℤ (b *ℤ d)
cross a b c d xn xd yn yd e f g =
    from_one int_ring (yd *ℤ d) e (from_one int_ring (xd *ℤ b) (sym f) (from_one int_ring (xd *ℤ yd) g
    (by_ring_ℤ (a ∷ b ∷ c ∷ d ∷ xn ∷ xd ∷ yn ∷ yd ∷ []) (search int_reads depth 30) (search int_reads depth 30) tt)))

pub same_frac : (a : ℤ) (b : ℕ) (c : ℤ) (d : ℕ) → 0 < b → 0 < d → a *ℤ pos d ≡ c *ℤ pos b → frac a b ≡ frac c d
same_frac a b c d p q e =
    same_ℚ (frac a b) (frac c d) (int_mul_cancel (b * d) (mul-pos p q)
    (cross a (pos b) c (pos d) (frac a b).numer (pos (frac a b).denom) (frac c d).numer (pos (frac c d).denom) (frac_cross a b p) (frac_cross c d q) e))

apart : (a b c d xn xd : ℤ) → xn *ℤ b ≡ a *ℤ xd → xn *ℤ d ≡ c *ℤ xd → (a *ℤ d) *ℤ xd ≡ (c *ℤ b) *ℤ xd
apart a b c d xn xd e f =
    from_one int_ring d (sym e) (from_one int_ring b f (by_ring_ℤ (a ∷ b ∷ c ∷ d ∷ xn ∷ xd ∷ []) (search int_reads depth 30) (search int_reads depth 30) tt))

pub frac_same : (a : ℤ) (b : ℕ) (c : ℤ) (d : ℕ) → 0 < b → 0 < d → frac a b ≡ frac c d → a *ℤ pos d ≡ c *ℤ pos b
frac_same a b c d p q e =
    int_mul_cancel (frac a b).denom (denom_positive (frac a b))
    (apart a (pos b) c (pos d) (frac a b).numer (pos (frac a b).denom) (frac_cross a b p)
    (ap (λ x. x.numer *ℤ pos d) e ∙ frac_cross c d q ∙ ap (λ x. c *ℤ pos x.denom) (sym e)))

-- ---- the operations on n / d
sums : (a b c d xn xd yn yd : ℤ) → xn *ℤ b ≡ a *ℤ xd → yn *ℤ d ≡ c *ℤ yd → (xn *ℤ yd +ℤ yn *ℤ xd) *ℤ (b *ℤ d) ≡ (a *ℤ d +ℤ c *ℤ b) *ℤ (xd *ℤ yd)
sums a b c d xn xd yn yd e f =
    from_one int_ring (yd *ℤ d) e (from_one int_ring (xd *ℤ b) f
    (by_ring_ℤ (a ∷ b ∷ c ∷ d ∷ xn ∷ xd ∷ yn ∷ yd ∷ []) (search int_reads depth 30) (search int_reads depth 30) tt))

pub frac-add : (a : ℤ) (b : ℕ) (c : ℤ) (d : ℕ) → 0 < b → 0 < d → frac a b +ℚ frac c d ≡ frac (a *ℤ pos d +ℤ c *ℤ pos b) (b * d)
unfolding ◌+ℚ◌
frac-add a b c d p q =
    let x = frac a b in
    let y = frac c d in
    same_frac (x.numer *ℤ pos y.denom +ℤ y.numer *ℤ pos x.denom) (x.denom * y.denom) (a *ℤ pos d +ℤ c *ℤ pos b) (b * d)
    (mul-pos (denom_positive x) (denom_positive y)) (mul-pos p q)
    (sums a (pos b) c (pos d) x.numer (pos x.denom) y.numer (pos y.denom) (frac_cross a b p) (frac_cross c d q))

products : (a b c d xn xd yn yd : ℤ) → xn *ℤ b ≡ a *ℤ xd → yn *ℤ d ≡ c *ℤ yd → (xn *ℤ yn) *ℤ (b *ℤ d) ≡ (a *ℤ c) *ℤ (xd *ℤ yd)
products a b c d xn xd yn yd e f =
    from_one int_ring (yn *ℤ d) e (from_one int_ring (a *ℤ xd) f
    (by_ring_ℤ (a ∷ b ∷ c ∷ d ∷ xn ∷ xd ∷ yn ∷ yd ∷ []) (search int_reads depth 30) (search int_reads depth 30) tt))

pub frac-mul : (a : ℤ) (b : ℕ) (c : ℤ) (d : ℕ) → 0 < b → 0 < d → frac a b *ℚ frac c d ≡ frac (a *ℤ c) (b * d)
unfolding ◌*ℚ◌
frac-mul a b c d p q =
    let x = frac a b in
    let y = frac c d in
    same_frac (x.numer *ℤ y.numer) (x.denom * y.denom) (a *ℤ c) (b * d)
    (mul-pos (denom_positive x) (denom_positive y)) (mul-pos p q)
    (products a (pos b) c (pos d) x.numer (pos x.denom) y.numer (pos y.denom) (frac_cross a b p) (frac_cross c d q))

negated : (a b xn xd : ℤ) → xn *ℤ b ≡ a *ℤ xd → neg_ℤ xn *ℤ b ≡ neg_ℤ a *ℤ xd
negated a b xn xd e = from_one int_ring (negsuc 0) e (by_ring_ℤ (a ∷ b ∷ xn ∷ xd ∷ []) (search int_reads depth 30) (search int_reads depth 30) tt)

pub frac-neg : (a : ℤ) (b : ℕ) → 0 < b → neg_ℚ (frac a b) ≡ frac (neg_ℤ a) b
unfolding neg_ℚ
frac-neg a b p =
    let x = frac a b in
    same_frac (neg_ℤ x.numer) x.denom (neg_ℤ a) b (denom_positive x) p (negated a (pos b) x.numer (pos x.denom) (frac_cross a b p))

-- ---- the ring
pub +ℚ_comm : (x y : ℚ) → x +ℚ y ≡ y +ℚ x
unfolding ◌+ℚ◌
+ℚ_comm x y = ap₂ frac (+ℤ_comm (x.numer *ℤ pos y.denom) (y.numer *ℤ pos x.denom)) (mul_comm x.denom y.denom)

pub *ℚ_comm : (x y : ℚ) → x *ℚ y ≡ y *ℚ x
unfolding ◌*ℚ◌
*ℚ_comm x y = ap₂ frac (*ℤ_comm x.numer y.numer) (mul_comm x.denom y.denom)

sum_assoc : (a b c d e f : ℤ) → (a *ℤ d +ℤ c *ℤ b) *ℤ f +ℤ e *ℤ (b *ℤ d) ≡ a *ℤ (d *ℤ f) +ℤ (c *ℤ f +ℤ e *ℤ d) *ℤ b
sum_assoc a b c d e f = by_ring_ℤ (a ∷ b ∷ c ∷ d ∷ e ∷ f ∷ []) (search int_reads depth 30) (search int_reads depth 30) tt

pub +ℚ_assoc : (x y z : ℚ) → (x +ℚ y) +ℚ z ≡ x +ℚ (y +ℚ z)
+ℚ_assoc x y z =
    by_frac (λ x. (x +ℚ y) +ℚ z ≡ x +ℚ (y +ℚ z)) (λ a b p. by_frac (λ y. (frac a b +ℚ y) +ℚ z ≡ frac a b +ℚ (y +ℚ z)) (λ c d q. by_frac (λ z. (frac a b +ℚ frac c d) +ℚ z ≡ frac a b +ℚ (frac c d +ℚ z))
    (λ e f r.
    ap (λ u. u +ℚ frac e f) (frac-add a b c d p q) ∙ frac-add (a *ℤ pos d +ℤ c *ℤ pos b) (b * d) e f (mul-pos p q) r
    ∙ ap₂ frac (sum_assoc a (pos b) c (pos d) e (pos f)) (mul_assoc b d f)
    ∙ sym (ap (λ u. frac a b +ℚ u) (frac-add c d e f q r) ∙ frac-add a b (c *ℤ pos f +ℤ e *ℤ pos d) (d * f) p (mul-pos q r))) z) y) x

pub *ℚ_assoc : (x y z : ℚ) → (x *ℚ y) *ℚ z ≡ x *ℚ (y *ℚ z)
*ℚ_assoc x y z =
    by_frac (λ x. (x *ℚ y) *ℚ z ≡ x *ℚ (y *ℚ z)) (λ a b p. by_frac (λ y. (frac a b *ℚ y) *ℚ z ≡ frac a b *ℚ (y *ℚ z)) (λ c d q. by_frac (λ z. (frac a b *ℚ frac c d) *ℚ z ≡ frac a b *ℚ (frac c d *ℚ z))
    (λ e f r.
    ap (λ u. u *ℚ frac e f) (frac-mul a b c d p q) ∙ frac-mul (a *ℤ c) (b * d) e f (mul-pos p q) r
    ∙ ap₂ frac (*ℤ_assoc a c e) (mul_assoc b d f)
    ∙ sym (ap (λ u. frac a b *ℚ u) (frac-mul c d e f q r) ∙ frac-mul a b (c *ℤ e) (d * f) p (mul-pos q r))) z) y) x

spread : (a b c d e f : ℤ) → (a *ℤ (c *ℤ f +ℤ e *ℤ d)) *ℤ ((b *ℤ d) *ℤ (b *ℤ f)) ≡ ((a *ℤ c) *ℤ (b *ℤ f) +ℤ (a *ℤ e) *ℤ (b *ℤ d)) *ℤ (b *ℤ (d *ℤ f))
spread a b c d e f = by_ring_ℤ (a ∷ b ∷ c ∷ d ∷ e ∷ f ∷ []) (search int_reads depth 30) (search int_reads depth 30) tt

pub *ℚ-+ℚ : (x y z : ℚ) → x *ℚ (y +ℚ z) ≡ x *ℚ y +ℚ x *ℚ z
*ℚ-+ℚ x y z =
    by_frac (λ x. x *ℚ (y +ℚ z) ≡ x *ℚ y +ℚ x *ℚ z) (λ a b p. by_frac (λ y. frac a b *ℚ (y +ℚ z) ≡ frac a b *ℚ y +ℚ frac a b *ℚ z) (λ c d q. by_frac (λ z. frac a b *ℚ (frac c d +ℚ z) ≡ frac a b *ℚ frac c d +ℚ frac a b *ℚ z)
    (λ e f r.
    ap (λ u. frac a b *ℚ u) (frac-add c d e f q r) ∙ frac-mul a b (c *ℤ pos f +ℤ e *ℤ pos d) (d * f) p (mul-pos q r)
    ∙ same_frac (a *ℤ (c *ℤ pos f +ℤ e *ℤ pos d)) (b * (d * f)) ((a *ℤ c) *ℤ pos (b * f) +ℤ (a *ℤ e) *ℤ pos (b * d)) ((b * d) * (b * f)) (mul-pos p (mul-pos q r)) (mul-pos (mul-pos p q) (mul-pos p r)) (spread a (pos b) c (pos d) e (pos f))
    ∙ sym ((λ i. frac-mul a b c d p q i +ℚ frac-mul a b e f p r i) ∙ frac-add (a *ℤ c) (b * d) (a *ℤ e) (b * f) (mul-pos p q) (mul-pos p r))) z) y) x

zero_last : (a b : ℤ) → a *ℤ pos 1 +ℤ pos 0 *ℤ b ≡ a
zero_last a b = by_ring_ℤ (a ∷ b ∷ []) (search int_reads depth 30) (search int_reads depth 30) tt

pub +ℚ_zero : (x : ℚ) → x +ℚ int (pos 0) ≡ x
+ℚ_zero = by_frac (λ x. x +ℚ int (pos 0) ≡ x) (λ a b p. frac-add a b (pos 0) 1 p (lit< tt) ∙ ap₂ frac (zero_last a (pos b)) (mul-one b))

vanish : (a b : ℤ) → (a *ℤ b +ℤ neg_ℤ a *ℤ b) *ℤ pos 1 ≡ pos 0 *ℤ (b *ℤ b)
vanish a b = by_ring_ℤ (a ∷ b ∷ []) (search int_reads depth 30) (search int_reads depth 30) tt

pub +ℚ_neg : (x : ℚ) → x +ℚ neg_ℚ x ≡ int (pos 0)
+ℚ_neg = by_frac (λ x. x +ℚ neg_ℚ x ≡ int (pos 0)) (λ a b p.
    ap (λ u. frac a b +ℚ u) (frac-neg a b p) ∙ frac-add a b (neg_ℤ a) b p p ∙ same_frac (a *ℤ pos b +ℤ neg_ℤ a *ℤ pos b) (b * b) (pos 0) 1 (mul-pos p p) (lit< tt) (vanish a (pos b)))

one_last : (a : ℤ) → a *ℤ pos 1 ≡ a
one_last a = by_ring_ℤ (a ∷ []) (search int_reads depth 30) (search int_reads depth 30) tt

pub *ℚ_one : (x : ℚ) → x *ℚ int (pos 1) ≡ x
*ℚ_one = by_frac (λ x. x *ℚ int (pos 1) ≡ x) (λ a b p. frac-mul a b (pos 1) 1 p (lit< tt) ∙ ap₂ frac (one_last a) (mul-one b))

pub int-add : (m n : ℤ) → int (m +ℤ n) ≡ int m +ℚ int n
int-add m n = sym (frac-add m 1 n 1 (lit< tt) (lit< tt) ∙ (λ i. frac (one_last m i +ℤ one_last n i) 1))

pub int-mul : (m n : ℤ) → int (m *ℤ n) ≡ int m *ℚ int n
int-mul m n = sym (frac-mul m 1 n 1 (lit< tt) (lit< tt))

abbrev pub rational_ring : Ring
rational_ring = record {
  Carrier = ℚ;
  lit = int;
  add = ◌+ℚ◌;
  mul = ◌*ℚ◌;
  neg = neg_ℚ;
  add_comm = +ℚ_comm;
  add_assoc = +ℚ_assoc;
  add_zero = +ℚ_zero;
  add_neg = +ℚ_neg;
  mul_comm = *ℚ_comm;
  mul_assoc = *ℚ_assoc;
  mul_one = *ℚ_one;
  mul-add = *ℚ-+ℚ;
  lit-add = int-add;
  lit-mul = int-mul;
}

-- ---- the inverse
swapped : (n d : ℤ) → (n *ℤ d) *ℤ pos 1 ≡ pos 1 *ℤ (d *ℤ n)
swapped n d = by_ring_ℤ (n ∷ d ∷ []) (search int_reads depth 30) (search int_reads depth 30) tt

swapped_neg : (n d : ℤ) → (neg_ℤ n *ℤ neg_ℤ d) *ℤ pos 1 ≡ pos 1 *ℤ (d *ℤ n)
swapped_neg n d = by_ring_ℤ (n ∷ d ∷ []) (search int_reads depth 30) (search int_reads depth 30) tt

turned : (n : ℤ) (d : ℕ) → 0 < d → n ≢ pos 0 → frac n d *ℚ upside_down n d ≡ int (pos 1)
turned (pos zero) d p h = absurd (h refl)
turned (pos (suc n)) d p h = frac-mul (pos (suc n)) d (pos d) (suc n) p (zero-lt-suc n) ∙ same_frac (pos (suc n) *ℤ pos d) (d * suc n) (pos 1) 1 (mul-pos p (zero-lt-suc n)) (lit< tt) (swapped (pos (suc n)) (pos d))
turned (negsuc n) d p h = frac-mul (negsuc n) d (neg_ℤ (pos d)) (suc n) p (zero-lt-suc n) ∙ same_frac (negsuc n *ℤ neg_ℤ (pos d)) (d * suc n) (pos 1) 1 (mul-pos p (zero-lt-suc n)) (lit< tt) (swapped_neg (pos (suc n)) (pos d))

zero_cross : (n d : ℤ) → n ≡ pos 0 → n *ℤ pos 1 ≡ pos 0 *ℤ d
zero_cross n d e = from_one int_ring (pos 1) e (by_ring_ℤ (n ∷ d ∷ []) (search int_reads depth 30) (search int_reads depth 30) tt)

pub numer_zero : (x : ℚ) → x.numer ≡ pos 0 → x ≡ int (pos 0)
numer_zero x e = sym (frac_self x) ∙ same_frac x.numer x.denom (pos 0) 1 (denom_positive x) (lit< tt) (zero_cross x.numer (pos x.denom) e)

pub *ℚ_inv : (x : ℚ) → x ≢ int (pos 0) → x *ℚ inv_ℚ x ≡ int (pos 1)
unfolding inv_ℚ
*ℚ_inv x h = ap (λ u. u *ℚ upside_down x.numer x.denom) (sym (frac_self x)) ∙ turned x.numer x.denom (denom_positive x) (λ e. h (numer_zero x e))
