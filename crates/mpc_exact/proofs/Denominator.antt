-- Fractions over a common denominator.
use Rattle.std.proofs.Common.{◌≡◌, ℕ, zero, suc, ◌*◌, ◌/◌, ◌<◌, List, [], ◌∷◌, ◌++◌, ℤ, pos, ◌*ℤ◌, unsigned_abs, refl, sym, ◌∙◌, ap, subst, arith, mul-pos, zero-lt-suc, lit<}
use Rattle.std.specs.Int.{◌∣◌}
use Rattle.std.proofs.lemmas.Int.{unsigned_abs-mul}
use Rattle.std.proofs.lemmas.Nat.Gcd.{dvd_trans, dvd_antisymm}
use Rattle.std.proofs.Math.Nat.{one-dvd}
use native.Mathlib.Nat.{mul-div_cancel', dvd-mul_left}
use Rattle.mpc_exact.specs.Gcd.{lcm, lcm-divided_left, lcm-divided_right, lcm-positive, lcm_least, coprime_divides}
use Rattle.mpc_exact.specs.Rational.{ℚ, frac, int, ◌*ℚ◌, denom_positive, parts_coprime, frac_self}
use Rattle.mpc_exact.specs.Denominator.{common_denom, IsCommonDenom}
use Rattle.mpc_exact.proofs.IntRing.{int_reads, by_ring_ℤ}
use Rattle.mpc_exact.proofs.Rational.{frac_same, frac-mul}
use Rattle.mpc_exact.proofs.School.{frac_expand, frac_times}

-- x over any multiple of its denominator
pub over_multiple : (x : ℚ) (l : ℕ) → 0 < l → x.denom ∣ l → frac (x.numer *ℤ pos (l / x.denom)) l ≡ x
over_multiple x l p h =
    let at : x.denom * (l / x.denom) ≡ l = mul-div_cancel' x.denom h in
    ap (λ n. frac (x.numer *ℤ pos (l / x.denom)) n) (sym at)
    ∙ frac_expand x.numer x.denom (l / x.denom) (denom_positive x) (factor (l / x.denom) x.denom l at p) ∙ frac_self x
  where
    factor : (k d n : ℕ) → d * k ≡ n → 0 < n → 0 < k
    factor zero d n e h = absurd (omega arith)
    factor (suc k) d n e h = zero-lt-suc k

-- so that times it, x is whole
pub whole_at_multiple : (x : ℚ) (l : ℕ) → 0 < l → x.denom ∣ l → int (pos l) *ℚ x ≡ int (x.numer *ℤ pos (l / x.denom))
whole_at_multiple x l p h = ap (λ z. int (pos l) *ℚ z) (sym (over_multiple x l p h)) ∙ frac_times (x.numer *ℤ pos (l / x.denom)) l p

cleared : (n d l z : ℤ) → (l *ℤ n) *ℤ pos 1 ≡ z *ℤ (pos 1 *ℤ d) → l *ℤ n ≡ z *ℤ d
cleared n d l z e = by_ring_ℤ (n ∷ l ∷ []) (search int_reads depth 30) (search int_reads depth 30) tt ∙ e ∙ by_ring_ℤ (d ∷ z ∷ []) (search int_reads depth 30) (search int_reads depth 30) tt

-- and only at a multiple is it whole
pub multiple_of_whole : (x : ℚ) (l : ℕ) (z : ℤ) → int (pos l) *ℚ x ≡ int z → x.denom ∣ l
multiple_of_whole x l z e =
    let at : frac (pos l *ℤ x.numer) (1 * x.denom) ≡ int z = sym (frac-mul (pos l) 1 x.numer x.denom (lit< tt) (denom_positive x)) ∙ ap (λ u. int (pos l) *ℚ u) (frac_self x) ∙ e in
    let across : pos l *ℤ x.numer ≡ z *ℤ pos x.denom = cleared x.numer (pos x.denom) (pos l) z (frac_same (pos l *ℤ x.numer) (1 * x.denom) z 1 (mul-pos (lit< tt) (denom_positive x)) (lit< tt) at) in
    let sizes : unsigned_abs z * x.denom ≡ l * unsigned_abs x.numer = sym (unsigned_abs-mul z (pos x.denom)) ∙ ap unsigned_abs (sym across) ∙ unsigned_abs-mul (pos l) x.numer in
    coprime_divides (unsigned_abs x.numer) x.denom l (parts_coprime x) (subst (λ n. x.denom ∣ n) sizes (dvd-mul_left x.denom (unsigned_abs z)))

-- a fraction is whole exactly where its denominator is 1
pub whole_of_denom : (x : ℚ) → x.denom ≡ 1 → int x.numer ≡ x
whole_of_denom x e = ap (λ d. frac x.numer d) (sym e) ∙ frac_self x

common_bigger : (m n : ℕ) (xs : List ℚ) → m ∣ n → IsCommonDenom m xs → IsCommonDenom n xs
common_bigger m n [] h k = tt
common_bigger m n (x ∷ xs) h k = (dvd_trans x.denom k.0 h, common_bigger m n xs h k.1)

-- ---- the least common denominator
pub common_denom_is : (xs : List ℚ) → IsCommonDenom (common_denom xs) xs
unfolding common_denom
common_denom_is [] = tt
common_denom_is (x ∷ xs) = (lcm-divided_left x.denom (common_denom xs), common_bigger (common_denom xs) (lcm x.denom (common_denom xs)) xs (lcm-divided_right x.denom (common_denom xs)) (common_denom_is xs))

pub common_denom_least : (n : ℕ) (xs : List ℚ) → IsCommonDenom n xs → common_denom xs ∣ n
unfolding common_denom
common_denom_least n [] h = one-dvd n
common_denom_least n (x ∷ xs) h = lcm_least x.denom (common_denom xs) n h.0 (common_denom_least n xs h.1)

pub common_denom-positive : (xs : List ℚ) → 0 < common_denom xs
unfolding common_denom
common_denom-positive [] = lit< tt
common_denom-positive (x ∷ xs) = lcm-positive x.denom (common_denom xs) (denom_positive x) (common_denom-positive xs)

common_front : (n : ℕ) (xs ys : List ℚ) → IsCommonDenom n (xs ++ ys) → IsCommonDenom n xs
common_front n [] ys h = tt
common_front n (x ∷ xs) ys h = (h.0, common_front n xs ys h.1)

common_back : (n : ℕ) (xs ys : List ℚ) → IsCommonDenom n (xs ++ ys) → IsCommonDenom n ys
common_back n [] ys h = h
common_back n (x ∷ xs) ys h = common_back n xs ys h.1

common_both : (n : ℕ) (xs ys : List ℚ) → IsCommonDenom n xs → IsCommonDenom n ys → IsCommonDenom n (xs ++ ys)
common_both n [] ys h k = k
common_both n (x ∷ xs) ys h k = (h.0, common_both n xs ys h.1 k)

-- one more fraction at the end
pub common_denom-last : (xs : List ℚ) (x : ℚ) → common_denom (xs ++ (x ∷ [])) ≡ lcm (common_denom xs) x.denom
common_denom-last xs x =
    let n = common_denom (xs ++ (x ∷ [])) in
    let m = lcm (common_denom xs) x.denom in
    dvd_antisymm
    (common_denom_least m (xs ++ (x ∷ []))
    (common_both m xs (x ∷ []) (common_bigger (common_denom xs) m xs (lcm-divided_left (common_denom xs) x.denom) (common_denom_is xs)) (lcm-divided_right (common_denom xs) x.denom, tt)))
    (lcm_least (common_denom xs) x.denom n
    (common_denom_least n xs (common_front n xs (x ∷ []) (common_denom_is (xs ++ (x ∷ [])))))
    (common_back n xs (x ∷ []) (common_denom_is (xs ++ (x ∷ [])))).0)

pub common_denom-nil : common_denom [] ≡ 1
unfolding common_denom
common_denom-nil = refl
