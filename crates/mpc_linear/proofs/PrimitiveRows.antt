-- A row has one multiple in whole numbers without a common divisor, and it is small where the numbers that bring it to whole numbers fit.
use Rattle.std.proofs.Common.{◌≡◌, ◌≢◌, ℕ, zero, suc, ◌+◌, ◌^◌, ◌<◌, ◌≤◌, List, [], ◌∷◌, ◌++◌, length, get_or, map, ℤ, pos, negsuc, neg_ℤ, ◌*ℤ◌, ◌<ℤ◌, int_div, unsigned_abs, refl, sym, ◌∙◌, ap, subst, arith, inl, inr, zero-lt-suc}
use Rattle.std.specs.Int.{◌∣◌}
use Rattle.std.specs.List.{AllByRecursion, AllZip}
use Rattle.std.proofs.lemmas.Int.{unsigned_abs-mul}
use Rattle.std.proofs.lemmas.List.{length-append, get_or_default}
use Rattle.std.proofs.lemmas.List.Elements.{All-from_recursion, recursion_from_All, AllZip-push, same_from_all_zip, All-get_or, All-push}
use Rattle.std.proofs.Math.Nat.{dvd-mul_right}
use Rattle.mpc_exact.specs.Gcd.{gcd, lcm}
use Rattle.mpc_exact.specs.Denominator.{common_denom}
use Rattle.mpc_exact.specs.Rational.{ℚ, int, ◌*ℚ◌, neg_ℚ, inv_ℚ, IsPositive}
use Rattle.mpc_exact.proofs.Rational.{int-mul, *ℚ_comm, *ℚ_inv}
use Rattle.mpc_exact.proofs.RationalRing.{reads, by_ring, by_equation, by_equations}
use Rattle.mpc_exact.proofs.RationalOrder.{positive-mul, inv_positive}
use Rattle.mpc_exact.proofs.OrderTheorems.{positive-not_zero}
use Rattle.mpc_exact.proofs.School.{int-neg, int_same, int_lt}
use Rattle.mpc_exact.proofs.Denominator.{multiple_of_whole, whole_of_denom}
use Rattle.mpc_space.specs.Vector.{vec_scale}
use Rattle.mpc_linear.specs.declared.integers.RowInt.{RowInt}
use Rattle.mpc_linear.specs.Whole.{scaled, ScaledFit, WholeFits, IsScaledRow, IsShared, AreSmall, IsPrimitive}
use Rattle.mpc_linear.specs.PrimitiveRows.{IsPrimitiveRow, OnePrimitiveRow, SmallPrimitiveRow}
use Rattle.mpc_linear.proofs.PrimitiveLemmas.{All-last, Sharing, sharing_none, sharing_more, sharing_all, primitive_small, primitive_divided, scaled_divided, divided_append, denom_is, scaled_row, small_row, quotient_small, quotients_small}

-- x is q times y
abbrev pub Times : ℚ → ℤ → ℤ → Type 0
Times q x y = int x ≡ q *ℚ int y

-- ---- a primitive row has no multiple by a fraction that isn't whole
negative : (q u x : ℚ) → x ≡ q *ℚ u → neg_ℚ u *ℚ q ≡ neg_ℚ x
negative q u x e = by_equation (int (pos 1)) e (by_ring (q ∷ u ∷ x ∷ []) (search reads depth 30) (search reads depth 30) tt)

denom_divides : (q : ℚ) (x y : ℤ) → Times q x y → q.denom ∣ unsigned_abs y
denom_divides q x (pos n) e = multiple_of_whole q n x (*ℚ_comm (int (pos n)) q ∙ sym e)
denom_divides q x (negsuc n) e =
    multiple_of_whole q (suc n) (neg_ℤ x) (ap (λ u. u *ℚ q) (int-neg (negsuc n)) ∙ negative q (int (negsuc n)) (int x) e ∙ sym (int-neg x))

denom_divides_all : (q : ℚ) (xs ys : List ℤ) → AllZip (Times q) xs ys → AllByRecursion (λ y. q.denom ∣ unsigned_abs y) ys
denom_divides_all q [] [] h = tt
denom_divides_all q [] (y ∷ ys) h = absurd h
denom_divides_all q (x ∷ xs) [] h = absurd h
denom_divides_all q (x ∷ xs) (y ∷ ys) h = (denom_divides q x y h.0, denom_divides_all q xs ys h.1)

whole_divides : (n : ℕ) (x y : ℤ) → Times (int (pos n)) x y → n ∣ unsigned_abs x
whole_divides n x y e =
    let product : x ≡ pos n *ℤ y = int_same x (pos n *ℤ y) (e ∙ sym (int-mul (pos n) y)) in
    subst (λ m. n ∣ m) (sym (ap unsigned_abs product ∙ unsigned_abs-mul (pos n) y)) (dvd-mul_right n (unsigned_abs y))

whole_divides_all : (n : ℕ) (xs ys : List ℤ) → AllZip (Times (int (pos n))) xs ys → AllByRecursion (λ x. n ∣ unsigned_abs x) xs
whole_divides_all n [] [] h = tt
whole_divides_all n [] (y ∷ ys) h = absurd h
whole_divides_all n (x ∷ xs) [] h = absurd h
whole_divides_all n (x ∷ xs) (y ∷ ys) h = (whole_divides n x y h.0, whole_divides_all n xs ys h.1)

positive_whole : (q : ℚ) → IsPositive q → q.denom ≡ 1 → (n : ℕ) × (q ≡ int (pos n))
positive_whole q h e = by q.numer (whole_of_denom q e)
  where
    by : (z : ℤ) → int z ≡ q → (n : ℕ) × (q ≡ int (pos n))
    by (pos n) f = (n, sym f)
    by (negsuc n) f = absurd (below ((int_lt (pos 0) (negsuc n)).0 (subst IsPositive (sym f) h)))
      where
        below : pos 0 <ℤ negsuc n → ⊥
        below k = omega arith

-- ---- rows of zeros
zeros_right : (q : ℚ) (xs ys : List ℤ) → AllZip (Times q) xs ys → AllByRecursion (λ y. y ≡ pos 0) ys → ys ≡ xs
zeros_right q [] [] h z = refl
zeros_right q [] (y ∷ ys) h z = absurd h
zeros_right q (x ∷ xs) [] h z = absurd h
zeros_right q (x ∷ xs) (y ∷ ys) h z = λ i. (z.0 ∙ sym (int_same x (pos 0) (h.0 ∙ ap (λ u. q *ℚ int u) z.0 ∙ by_ring (q ∷ []) (search reads depth 30) (search reads depth 30) tt))) i ∷ zeros_right q xs ys h.1 z.1 i

zero_factor : (q : ℚ) (x y : ℤ) → q ≢ int (pos 0) → Times q x y → x ≡ pos 0 → y ≡ pos 0
zero_factor q x y n e z = int_same y (pos 0) (undone (inv_ℚ q) q (int y) (*ℚ_inv q n) (sym e ∙ ap int z))
  where
    undone : (p q u : ℚ) → q *ℚ p ≡ int (pos 1) → q *ℚ u ≡ int (pos 0) → u ≡ int (pos 0)
    undone p q u e f = by_equations (neg_ℚ u) p e f (by_ring (p ∷ q ∷ u ∷ []) (search reads depth 30) (search reads depth 30) tt)

zeros_left : (q : ℚ) (xs ys : List ℤ) → q ≢ int (pos 0) → AllZip (Times q) xs ys → AllByRecursion (λ x. x ≡ pos 0) xs → ys ≡ xs
zeros_left q [] [] n h z = refl
zeros_left q [] (y ∷ ys) n h z = absurd h
zeros_left q (x ∷ xs) [] n h z = absurd h
zeros_left q (x ∷ xs) (y ∷ ys) n h z = λ i. (zero_factor q x y n h.0 z.0 ∙ sym z.0) i ∷ zeros_left q xs ys n h.1 z.1 i

one_times : (u : ℚ) → int (pos 1) *ℚ u ≡ u
one_times u = by_ring (u ∷ []) (search reads depth 30) (search reads depth 30) tt

-- ---- two primitive rows, one a positive multiple of the other, are one
same_primitive : (q : ℚ) (xs ys : List ℤ) → IsPositive q → AllZip (Times q) xs ys → IsPrimitive xs → IsPrimitive ys → ys ≡ xs
same_primitive q xs ys p h k (inr z) = zeros_right q xs ys h (recursion_from_All (λ y. y ≡ pos 0) ys z)
same_primitive q xs ys p h (inr z) (inl l) = zeros_left q xs ys (positive-not_zero p) h (recursion_from_All (λ x. x ≡ pos 0) xs z)
same_primitive q xs ys p h (inl k) (inl l) =
    let whole = positive_whole q p (l q.denom (All-from_recursion (λ y. q.denom ∣ unsigned_abs y) ys (denom_divides_all q xs ys h))) in
    let n : ℕ = whole.0 in
    let zip : AllZip (Times (int (pos n))) xs ys = subst (λ u. AllZip (Times u) xs ys) whole.1 h in
    let one : n ≡ 1 = k n (All-from_recursion (λ x. n ∣ unsigned_abs x) xs (whole_divides_all n xs ys zip)) in
    same_from_all_zip (Times (int (pos n))) xs ys zip
    (λ x y e. sym (int_same x y (e ∙ ap (λ m. int (pos m) *ℚ int y) one ∙ one_times (int y))))

zip_scaled : (q : ℚ) (xs ys : List ℤ) → map int xs ≡ vec_scale q (map int ys) → AllZip (Times q) xs ys
zip_scaled q [] [] e = tt
zip_scaled q [] (y ∷ ys) e = absurd (cc)
zip_scaled q (x ∷ xs) [] e = absurd (cc)
zip_scaled q (x ∷ xs) (y ∷ ys) e = (cc, zip_scaled q xs ys (cc))

last_parts : (xs ys : List ℤ) (x y : ℤ) → xs ++ x ∷ [] ≡ ys ++ y ∷ [] → (xs ≡ ys) × (x ≡ y)
last_parts [] [] x y e = (refl, cc)
last_parts [] (z ∷ ys) x y e = absurd (let n : 1 ≡ suc (length (ys ++ y ∷ [])) = ap length e in omega (arith, length-append ys (y ∷ [])))
last_parts (z ∷ xs) [] x y e = absurd (let n : suc (length (xs ++ x ∷ [])) ≡ 1 = ap length e in omega (arith, length-append xs (x ∷ [])))
last_parts (z ∷ xs) (w ∷ ys) x y e =
    let head : z ≡ w = cc in
    let rest = last_parts xs ys x y (cc) in
    (λ i. head i ∷ rest.0 i, rest.1)

-- the factor between two multiples of one row
undo : (f g u : ℚ) → g *ℚ inv_ℚ g ≡ int (pos 1) → (f *ℚ inv_ℚ g) *ℚ (g *ℚ u) ≡ f *ℚ u
undo f g u e = by_equation (f *ℚ u) e (by_ring (f ∷ g ∷ inv_ℚ g ∷ u ∷ []) (search reads depth 30) (search reads depth 30) tt)

undo_list : (f g : ℚ) (us : List ℚ) → g *ℚ inv_ℚ g ≡ int (pos 1) → vec_scale (f *ℚ inv_ℚ g) (vec_scale g us) ≡ vec_scale f us
undo_list f g [] e = refl
undo_list f g (u ∷ us) e = λ i. undo f g u e i ∷ undo_list f g us e i

module _ (a : List ℚ) (b : ℚ) (r s : RowInt) (k : IsScaledRow a b r.a r.b) (l : IsScaledRow a b s.a s.b) where
  ratio : ℚ
  ratio = k.factor *ℚ inv_ℚ l.factor

  inverse : l.factor *ℚ inv_ℚ l.factor ≡ int (pos 1)
  inverse = *ℚ_inv l.factor (positive-not_zero l.positive)

  lefts : map int r.a ≡ vec_scale ratio (map int s.a)
  unfolding ratio
  lefts = k.left ∙ sym (undo_list k.factor l.factor a inverse) ∙ ap (vec_scale ratio) (sym l.left)

  rights : Times ratio r.b s.b
  unfolding ratio
  rights = k.right ∙ sym (undo k.factor l.factor b inverse) ∙ ap (λ u. ratio *ℚ u) (sym l.right)

  ratio_positive : IsPositive ratio
  unfolding ratio
  ratio_positive = positive-mul k.positive (inv_positive l.positive)

  same : IsPrimitive (r.a ++ r.b ∷ []) → IsPrimitive (s.a ++ s.b ∷ []) → r ≡ s
  same p q =
      let whole : s.a ++ s.b ∷ [] ≡ r.a ++ r.b ∷ [] = same_primitive ratio (r.a ++ r.b ∷ []) (s.a ++ s.b ∷ []) ratio_positive (AllZip-push (Times ratio) r.a s.a r.b s.b (zip_scaled ratio r.a s.a lefts) rights) p q in
      let parts = last_parts s.a r.a s.b r.b whole in
      λ i. record { a = sym parts.0 i; b = sym parts.1 i }

pub one_primitive_row : OnePrimitiveRow
one_primitive_row a b r s h k = same a b r s h.scaled k.scaled h.primitive k.primitive

-- ---- small integers have a greatest common divisor
shared_by : (row : List ℤ) (b : ℤ) → AreSmall row → unsigned_abs b < 2 ^ 127 → (k : ℕ) → k ≤ length row → (g : ℕ) × Sharing row b k g
shared_by row b h l zero m = (unsigned_abs b, sharing_none row b l)
shared_by row b h l (suc k) m =
    let (g, s) = shared_by row b h l k (omega arith) in
    let z = get_or row k (pos 0) in
    let within : k < length row = omega arith in
    let next : k + 1 ≡ suc k = omega arith in
    let small : unsigned_abs z < 2 ^ 127 = All-get_or (λ y. unsigned_abs y < 2 ^ 127) row k (pos 0) within h in
    (gcd g (unsigned_abs z), subst (λ j. Sharing row b j (gcd g (unsigned_abs z))) next (sharing_more row b k g s z within (get_or_default row k (pos 0) z within) (unsigned_abs z) refl small (gcd g (unsigned_abs z)) refl))

-- ---- the row that dividing by it gives
module _ (a : List ℚ) (b : ℚ) (fits : WholeFits (a ++ b ∷ [])) where
  over : ℕ
  over = lcm (common_denom a) b.denom

  row : List ℤ
  row = map (scaled over) a

  side : ℤ
  side = scaled over b

  fit : ScaledFit over a × (unsigned_abs (scaled over b) < 2 ^ 127)
  unfolding over
  fit = All-last (λ x. unsigned_abs (scaled over x) < 2 ^ 127) a b (subst (λ n. ScaledFit n (a ++ b ∷ [])) (sym (denom_is a b over refl)) fits.numers)

  row_small : AreSmall row
  unfolding row
  row_small = small_row over a row refl fit.0

  side_small : unsigned_abs side < 2 ^ 127
  unfolding side
  side_small = fit.1

  multiple : IsScaledRow a b row side
  unfolding over row side
  multiple = scaled_row a b over refl

  shared : (g : ℕ) × IsShared g (row ++ side ∷ [])
  shared = let (g, s) = shared_by row side row_small side_small (length row) (omega arith) in (g, sharing_all row side (length row) g (omega arith) s)

  divided : (g : ℕ) → IsShared g (row ++ side ∷ []) → (r : RowInt) × IsPrimitiveRow a b r × AreSmall (r.a ++ r.b ∷ [])
  divided zero s = (
    record { a = row; b = side },
    record { scaled = multiple; primitive = primitive_small (row ++ side ∷ []) 0 (omega arith) s },
    All-push (λ z. unsigned_abs z < 2 ^ 127) row side row_small side_small,
  )
  divided (suc g) s =
      let by = λ (z : ℤ). int_div z (pos (suc g)) in
      let some : 0 < suc g = zero-lt-suc g in (
        record { a = map by row; b = by side },
        record {
          scaled = scaled_divided (suc g) some a b row side multiple s;
          primitive = subst IsPrimitive (divided_append (suc g) some row side) (primitive_divided (suc g) some (row ++ side ∷ []) s);
        },
        All-push (λ z. unsigned_abs z < 2 ^ 127) (map by row) (by side) (quotients_small (suc g) some row (map by row) row_small refl) (quotient_small side (suc g) some side_small),
      )

pub small_primitive_row : SmallPrimitiveRow
small_primitive_row a b row fits h =
    let (g, s) = shared a b fits in
    let (small, is, below) = divided a b fits g s in
    subst (λ r. AreSmall (r.a ++ r.b ∷ [])) (one_primitive_row a b small row is h) below
