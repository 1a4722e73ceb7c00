-- Dots of fractions that stand over one denominator each, in whole numbers.
use Rattle.std.proofs.Common.{◌≡◌, ℕ, zero, suc, refl, ◌+◌, ◌-◌, ◌*◌, ◌^◌, ◌<◌, ◌≤◌, List, [], ◌∷◌, ◌++◌, below_more, length, get_or, All, ℤ, pos, ◌+ℤ◌, ◌*ℤ◌, unsigned_abs, FitsSigned, to_z, of_z, sym, ◌∙◌, ap, subst, arith, mul-le-mul_right, le_trans, ⊎_elim, ◌/◌}
use Rattle.std.proofs.Math.Nat.{mul-le-mul_left}
use Rattle.std.specs.Int.{◌∣◌, w128}
use lib.Signed.{mag}
use Rattle.std.proofs.lemmas.Int.{unsigned_abs-mul, fits_signed_from_abs, to_z-of_z}
use Rattle.std.proofs.lemmas.Bool.{cases_lt}
use Rattle.std.proofs.lemmas.List.{get_or_past, get_or_append_left, get_or_at}
use Rattle.mpc_exact.specs.Gcd.{gcd, lcm, lcm-divided_left, lcm-positive}
use Rattle.mpc_exact.specs.Rational.{ℚ, frac, frac_self}
use Rattle.mpc_exact.proofs.Denominator.{over_multiple}
use Rattle.mpc_exact.proofs.IntRing.{int_reads, by_ring_ℤ}
use Rattle.mpc_space.specs.Matrix.{RationalMatrix}
use Rattle.mpc_linear.specs.SumTheorems.{SumTheorems, IsSumSoFar}
use Rattle.mpc_wholes.specs.declared.numbers.Wholes.{Wholes}
use Rattle.mpc_wholes.specs.Wholes.{IsOver, AreOver}
use Rattle.mpc_wholes.specs.Sums.{AddsDot}
use Rattle.mpc_wholes.specs.Spans.{IsSpanOf}
use Rattle.mpc_wholes.specs.declared.spans.Span.{Span}
use Rattle.mpc_wholes.proofs.WholeFits.{abs-add}
use Rattle.mpc_wholes.proofs.Terms.{next_over, term_fits}

-- ---- numbers as the code reads them
number_at : (zs : List ℤ) (most k : ℕ) → All (λ z. unsigned_abs z ≤ most) zs → unsigned_abs (get_or zs k (pos 0)) ≤ most
number_at zs most k h = ⊎_elim (λ l. h k (pos 0) l) (λ l. subst (λ z. unsigned_abs z ≤ most) (sym (get_or_past zs k (pos 0) l)) (omega arith)) (cases_lt k (length zs))

fits_wide : (z : ℤ) → unsigned_abs z < 2 ^ 127 → FitsSigned w128 z
fits_wide z h = fits_signed_from_abs w128 z (omega (arith, h))

pub read_wide : (z : ℤ) → unsigned_abs z < 2 ^ 127 → to_z w128 (of_z w128 z) ≡ z
read_wide z h = to_z-of_z w128 z (fits_wide z h)

product_at_most : (u v : ℤ) (m n : ℕ) → unsigned_abs u ≤ m → unsigned_abs v ≤ n → unsigned_abs (u *ℤ v) ≤ m * n
product_at_most u v m n h k = subst (λ z. z ≤ m * n) (sym (unsigned_abs-mul u v)) (le_trans (mul-le-mul_right (unsigned_abs v) h) (mul-le-mul_left m k))

both_at_most : (a b m n : ℕ) → a ≤ m → b ≤ n → a * b ≤ m * n
both_at_most a b m n h k = le_trans (mul-le-mul_right b h) (mul-le-mul_left m k)

-- ---- one product more
module _ (x y : Wholes) (s : ℕ) (room : s + 6 * (x.most * y.most) < 2 ^ 127) where
  abbrev a : ℕ → ℤ
  a k = get_or x.numerators k (pos 0)

  abbrev b : ℕ → ℤ
  b k = get_or y.numerators k (pos 0)

  den_small : x.den * y.den < 2 ^ 127
  den_small = let l = both_at_most x.den y.den x.most y.most x.at_most.den_small y.at_most.den_small in omega (arith, l, room)

  pub left_at_most : (k : ℕ) → unsigned_abs (a k) ≤ x.most
  left_at_most k = number_at x.numerators x.most k x.at_most.numbers

  pub right_at_most : (k : ℕ) → unsigned_abs (b k) ≤ y.most
  right_at_most k = number_at y.numerators y.most k y.at_most.numbers

  pub left_small : (k : ℕ) → unsigned_abs (a k) < 2 ^ 127
  left_small k = let s = x.at_most.most_small in omega (arith, left_at_most k, s)

  pub right_small : (k : ℕ) → unsigned_abs (b k) < 2 ^ 127
  right_small k = let s = y.at_most.most_small in omega (arith, right_at_most k, s)

  term_at_most : (k : ℕ) → unsigned_abs (a k *ℤ b k) ≤ x.most * y.most
  term_at_most k = product_at_most (a k) (b k) x.most y.most (left_at_most k) (right_at_most k)

  term_small : (k : ℕ) → unsigned_abs (a k *ℤ b k) < 2 ^ 127
  term_small k = omega (arith, term_at_most k, room)

  term_read : (k : ℕ) → to_z w128 (of_z w128 (a k)) *ℤ to_z w128 (of_z w128 (b k)) ≡ a k *ℤ b k
  term_read k = λ i. read_wide (a k) (left_small k) i *ℤ read_wide (b k) (right_small k) i

  pub mul_fits : (k : ℕ) → unsigned_abs (to_z w128 (of_z w128 (a k)) *ℤ to_z w128 (of_z w128 (b k))) < 2 ^ 127
  mul_fits k = subst (λ z. unsigned_abs z < 2 ^ 127) (sym (term_read k)) (term_small k)

  -- p is the product as the code made it
  module _ (k : ℕ) (few : k < 6) (p : ℤ) (is : p ≡ to_z w128 (of_z w128 (a k)) *ℤ to_z w128 (of_z w128 (b k))) (t : ℤ) (size : unsigned_abs t ≤ s + k * (x.most * y.most)) where
    product_read : to_z w128 (of_z w128 p) ≡ a k *ℤ b k
    product_read = ap (λ z. to_z w128 (of_z w128 z)) (is ∙ term_read k) ∙ read_wide (a k *ℤ b k) (term_small k)

    sizes : unsigned_abs t + unsigned_abs (a k *ℤ b k) < 2 ^ 127
    sizes = let l : k * (x.most * y.most) ≤ 5 * (x.most * y.most) = mul-le-mul_right (x.most * y.most) (omega (arith, few)) in omega (arith, l, size, term_at_most k, room)

    next_small : unsigned_abs (t +ℤ (a k *ℤ b k)) < 2 ^ 127
    next_small = let s = sizes in omega (arith, s, abs-add t (a k *ℤ b k))

    next_term : t +ℤ to_z w128 (of_z w128 p) ≡ t +ℤ (a k *ℤ b k)
    next_term = ap (λ z. t +ℤ z) product_read

    pub add_fits : FitsSigned w128 (t +ℤ to_z w128 (of_z w128 p))
    add_fits = subst (λ z. FitsSigned w128 z) (sym next_term) (fits_wide (t +ℤ (a k *ℤ b k)) next_small)

    pub next_read : to_z w128 (of_z w128 (t +ℤ to_z w128 (of_z w128 p))) ≡ t +ℤ (a k *ℤ b k)
    next_read = ap (λ z. to_z w128 (of_z w128 z)) next_term ∙ read_wide (t +ℤ (a k *ℤ b k)) next_small

    pub next_at_most : unsigned_abs (t +ℤ (a k *ℤ b k)) ≤ s + (k + 1) * (x.most * y.most)
    next_at_most = one_more k (x.most * y.most) (unsigned_abs t) (unsigned_abs (a k *ℤ b k)) (unsigned_abs (t +ℤ (a k *ℤ b k))) size (term_at_most k) (abs-add t (a k *ℤ b k))
      where
        one_more : (k m t p n : ℕ) → t ≤ s + k * m → p ≤ m → n ≤ t + p → n ≤ s + (k + 1) * m
        one_more k m t p n h l e = omega (arith, h, l, e)

    pub sum_more : SumTheorems → (start : ℚ) (xs ys : List ℚ) → IsOver xs x → IsOver ys y → k < length xs → k < length ys → IsSumSoFar start xs ys k (frac t (x.den * y.den))
        → IsSumSoFar start xs ys (k + 1) (frac (t +ℤ (a k *ℤ b k)) (x.den * y.den))
    sum_more laws start xs ys ox oy hx hy g =
        laws.more start xs ys k (frac t (x.den * y.den)) (frac (a k) x.den) (frac (b k) y.den) (frac (t +ℤ (a k *ℤ b k)) (x.den * y.den))
        (record { within_left = hx; within_right = hy; left = sym (ox.entries k hx); right = sym (oy.entries k hy) }) g
        (next_over t (a k) (b k) x.den y.den x.at_most.some y.at_most.some) (term_fits t (a k) (b k) x.den y.den x.at_most.some y.at_most.some den_small sizes)

-- the sum of the first k products
abbrev pub DotSoFar : Wholes → Wholes → ℕ → ℤ → ℕ → ℤ → Type 0
DotSoFar x y count start k total =
    (xs ys : List ℚ) → IsOver xs x → IsOver ys y → length xs ≡ count → length ys ≡ count → IsSumSoFar (frac start (x.den * y.den)) xs ys k (frac total (x.den * y.den))

pub dot_all : SumTheorems → (x y : Wholes) (count k : ℕ) (start total : ℤ) → count ≤ k → DotSoFar x y count start k total → AddsDot x y count start total
dot_all laws x y count k start total h g xs ys ox oy hx hy =
    let over : length xs ≤ k = subst (λ n. n ≤ k) (sym hx) h in
    let s = g xs ys ox oy hx hy in
    record {
      fits = laws.fits (frac start (x.den * y.den)) xs ys k (frac total (x.den * y.den)) over s;
      value = laws.value (frac start (x.den * y.den)) xs ys k (frac total (x.den * y.den)) over s;
    }

-- ---- numerators that are 0 add nothing
no_more : (t b : ℤ) → t +ℤ (pos 0 *ℤ b) ≡ t
no_more t b = by_ring_ℤ (t ∷ b ∷ []) (search int_reads depth 30) (search int_reads depth 30) tt

module _ (laws : SumTheorems) (x y : Wholes) (count : ℕ) (few : count ≤ 6) (start t : ℤ) (room : unsigned_abs start + 6 * (x.most * y.most) < 2 ^ 127) where
  skip_one : (k : ℕ) → k < count → get_or x.numerators k (pos 0) ≡ pos 0 → unsigned_abs t ≤ unsigned_abs start + k * (x.most * y.most) → DotSoFar x y count start k t → DotSoFar x y count start (k + 1) t
  skip_one k l nothing size g xs ys ox oy hx hy =
      let u = get_or x.numerators k (pos 0) in
      let v = get_or y.numerators k (pos 0) in
      let same : t +ℤ (u *ℤ v) ≡ t = ap (λ z. t +ℤ (z *ℤ v)) nothing ∙ no_more t v in
      subst (λ z. IsSumSoFar (frac start (x.den * y.den)) xs ys (k + 1) (frac z (x.den * y.den))) same
      (sum_more x y (unsigned_abs start) room k (omega (arith, l, few)) (to_z w128 (of_z w128 u) *ℤ to_z w128 (of_z w128 v)) refl t size laws (frac start (x.den * y.den)) xs ys ox oy
      (subst (λ n. k < n) (sym hx) l) (subst (λ n. k < n) (sym hy) l) (g xs ys ox oy hx hy))

  pub skip : (n k : ℕ) → k + n ≤ count → ((j : ℕ) → k ≤ j → j < k + n → get_or x.numerators j (pos 0) ≡ pos 0) → unsigned_abs t ≤ unsigned_abs start + k * (x.most * y.most) → DotSoFar x y count start k t → DotSoFar x y count start (k + n) t
  skip zero k l zeros size g = subst (λ m. DotSoFar x y count start m t) (let e : k ≡ k + 0 = omega arith in e) g
  skip (suc n) k l zeros size g =
      let more : k * (x.most * y.most) ≤ (k + n) * (x.most * y.most) = mul-le-mul_right (x.most * y.most) (omega arith) in
      let e : k + n + 1 ≡ k + suc n = omega arith in
      subst (λ m. DotSoFar x y count start m t) e
      (skip_one (k + n) (omega (arith, l)) (zeros (k + n) (omega arith) (omega arith)) (omega (arith, more, size)) (skip n k (omega (arith, l)) (λ j h i. zeros j h (omega (arith, i))) size g))

  pub finish : (k : ℕ) → k ≤ count → ((j : ℕ) → k ≤ j → j < count → get_or x.numerators j (pos 0) ≡ pos 0) → unsigned_abs t ≤ unsigned_abs start + k * (x.most * y.most) → DotSoFar x y count start k t → AddsDot x y count start t
  finish k l zeros size g =
      let e : k + (count - k) ≡ count = omega (arith, l) in
      dot_all laws x y count count start t (omega arith)
      (subst (λ m. DotSoFar x y count start m t) e (skip (count - k) k (omega (arith, l)) (λ j h i. zeros j h (omega (arith, i, l))) size g))

pub begin : SumTheorems → (x y : Wholes) (count : ℕ) → count ≤ 6 → (start : ℤ) → unsigned_abs start + 6 * (x.most * y.most) < 2 ^ 127 → (first : ℕ) → first ≤ count → ((j : ℕ) → j < first → get_or x.numerators j (pos 0) ≡ pos 0) → DotSoFar x y count start first start
begin laws x y count few start room first l zeros =
    let e : 0 + first ≡ first = omega arith in
    subst (λ m. DotSoFar x y count start m start) e
    (skip laws x y count few start start room first 0 (omega (arith, l)) (λ j h i. zeros j (omega (arith, i))) (omega arith) (λ xs ys ox oy hx hy. laws.none (frac start (x.den * y.den)) xs ys))

-- ---- common denominators, and numerators over them
pub multiple_of_first : (a b g m : ℕ) → g ≡ gcd a b → m ≡ a / g * b → a ∣ m
unfolding lcm
multiple_of_first a b g m e h = subst (λ n. a ∣ n) (sym (h ∙ ap (λ d. a / d * b) e)) (lcm-divided_left a b)

pub some_multiple : (a b g m : ℕ) → 0 < a → 0 < b → g ≡ gcd a b → m ≡ a / g * b → 0 < m
unfolding lcm
some_multiple a b g m h k e f = subst (λ n. 0 < n) (sym (f ∙ ap (λ d. a / d * b) e)) (lcm-positive a b h k)

pub numerator_is : (x : ℚ) (all times : ℕ) (numerator : ℤ) → 0 < all → x.denom ∣ all → times ≡ all / x.denom → numerator ≡ x.numer *ℤ pos times → x ≡ frac numerator all
numerator_is x all times numerator some h t is = sym (over_multiple x all some h) ∙ ap (λ z. frac z all) (sym (is ∙ ap (λ n. x.numer *ℤ pos n) t))

pub numerator_read : (x : ℚ) (num : ℤ) → mag num < 2 ^ 127 → num ≡ x.numer → x ≡ frac (to_z w128 (of_z w128 num)) x.denom
numerator_read x num m e = sym (frac_self x) ∙ ap (λ z. frac z x.denom) (sym (to_z-of_z w128 num (record { sfits = m }) ∙ e))

-- ---- one row more
pub rows_more : (m : RationalMatrix) (den limit i : ℕ) (rows next : List Wholes) (row : Wholes) → next ≡ rows ++ row ∷ [] → length rows ≡ i → AreOver (get_or m.rows i []) den limit row
    → ((j : ℕ) (d : Wholes) → j < i → AreOver (get_or m.rows j []) den limit (get_or rows j d)) → (j : ℕ) (d : Wholes) → j < i + 1 → AreOver (get_or m.rows j []) den limit (get_or next j d)
rows_more m den limit i rows next row e size here before j d h = below_more (λ k. (z : Wholes) → AreOver (get_or m.rows k []) den limit (get_or next k z)) i old new j h d
  where
    old : (k : ℕ) → k < i → (z : Wholes) → AreOver (get_or m.rows k []) den limit (get_or next k z)
    old k l z = subst (AreOver (get_or m.rows k []) den limit) (sym (ap (λ xs. get_or xs k z) e ∙ get_or_append_left rows (row ∷ []) z k (subst (λ n. k < n) (sym size) l))) (before k z l)

    new : (z : Wholes) → AreOver (get_or m.rows i []) den limit (get_or next i z)
    new z = subst (AreOver (get_or m.rows i []) den limit) (sym (ap (λ xs. get_or xs i z) e ∙ get_or_at rows row [] z i size)) here

-- ---- one span more
read_any : (rows : List Wholes) (i : ℕ) (w d : Wholes) → i < length rows → get_or rows i w ≡ get_or rows i d
read_any [] i w d h = absurd (omega arith)
read_any (x ∷ rows) zero w d h = refl
read_any (x ∷ rows) (suc i) w d h = read_any rows i w d (omega arith)

pub spans_more : (rows : List Wholes) (count i : ℕ) (spans next : List Span) (row : Wholes) (span : Span) → i < length rows → row ≡ get_or rows i row → next ≡ spans ++ span ∷ [] → length spans ≡ i → IsSpanOf row.numerators count span
    → ((j : ℕ) (w : Wholes) (s : Span) → j < i → IsSpanOf (get_or rows j w).numerators count (get_or spans j s)) → (j : ℕ) (w : Wholes) (s : Span) → j < i + 1 → IsSpanOf (get_or rows j w).numerators count (get_or next j s)
spans_more rows count i spans next row span within is e size here before j w s h = below_more (λ k. (x : Wholes) (z : Span) → IsSpanOf (get_or rows k x).numerators count (get_or next k z)) i old new j h w s
  where
    old : (k : ℕ) → k < i → (x : Wholes) (z : Span) → IsSpanOf (get_or rows k x).numerators count (get_or next k z)
    old k l x z = subst (IsSpanOf (get_or rows k x).numerators count) (sym (ap (λ xs. get_or xs k z) e ∙ get_or_append_left spans (span ∷ []) z k (subst (λ n. k < n) (sym size) l))) (before k x z l)

    new : (x : Wholes) (z : Span) → IsSpanOf (get_or rows i x).numerators count (get_or next i z)
    new x z =
        let same : row ≡ get_or rows i x = is ∙ read_any rows i row x within in
        subst (λ (r : Wholes). IsSpanOf r.numerators count (get_or next i z)) same
        (subst (IsSpanOf row.numerators count) (sym (ap (λ xs. get_or xs i z) e ∙ get_or_at spans span [] z i size)) here)
