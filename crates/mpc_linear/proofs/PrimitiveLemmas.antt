-- Rows in whole numbers without a common divisor.
use Rattle.std.proofs.Common.{◌≡◌, ◌≢◌, ◌↔◌, ℕ, zero, suc, ◌+◌, ◌*◌, ◌/◌, ◌^◌, ◌<◌, ◌≤◌, List, [], ◌∷◌, ◌++◌, length, get_or, take, map, All, ℤ, pos, ◌*ℤ◌, int_div, unsigned_abs, refl, sym, ◌∙◌, ap, subst, subst₂, arith, inl, inr, negsuc, zero-lt-suc, mul-one}
use native.Mathlib.Nat.{mul_comm}
use Rattle.std.specs.Int.{◌∣◌}
use Rattle.std.proofs.lemmas.Int.{unsigned_abs-mul}
use Rattle.std.proofs.lemmas.List.{map_more, take_all, length-map, get_or-map}
use Rattle.std.proofs.lemmas.List.Elements.{All-nil, All-cons, All-head, All-tail, All-push, All-map, All-more}
use Rattle.std.proofs.lemmas.Nat.Gcd.{dvd_trans, dvd_refl}
use native.Mathlib.Nat.{div-le_self, le_of_dvd, mul-dvd-mul_left, dvd_of_mul-dvd-mul_left, eq-one_of_dvd-one}
use Rattle.std.proofs.Math.Nat.{eq-zero_of_zero-dvd}
use Rattle.mpc_exact.specs.Gcd.{gcd, lcm, gcd-divides_left, gcd-divides_right, gcd_greatest, gcd_comm, gcd_zero}
use Rattle.mpc_exact.specs.Rational.{ℚ, int, ◌*ℚ◌, inv_ℚ, ◌≤ℚ◌, abs-div}
use Rattle.mpc_exact.specs.Denominator.{common_denom, IsCommonDenom}
use Rattle.mpc_exact.proofs.Rational.{int_div_exact, int-mul, *ℚ_inv}
use Rattle.mpc_exact.proofs.RationalRing.{reads, by_ring}
use Rattle.mpc_exact.proofs.RationalOrder.{positive_int, positive-mul, inv_positive, ≤ℚ_of_<, *ℚ-≤ℚ}
use Rattle.mpc_exact.proofs.OrderTheorems.{*ℚ-≤ℚ_cancel, positive-not_zero}
use Rattle.mpc_exact.proofs.Denominator.{common_denom_is, common_denom_least, common_denom-positive, common_denom-last, whole_at_multiple}
use Rattle.mpc_space.specs.Vector.{dot, vec_scale}
use Rattle.mpc_space.proofs.Vector.{dot-scale, vec_scale-scale}
use Rattle.mpc_linear.specs.Whole.{scaled, ScaledFit, WholeFits, IsScaledRow, DividesAll, IsShared, AreSmall, IsPrimitive}

-- ---- the shared divisor, one by one
-- g is that of the first k integers and b
pub record Sharing (row : List ℤ) (b : ℤ) (k g : ℕ) : Type 0 where
  pub side : g ∣ unsigned_abs b
  pub divides : DividesAll g (take k row)
  pub greatest : (n : ℕ) → n ∣ unsigned_abs b → DividesAll n (take k row) → n ∣ g
  pub small : g < 2 ^ 127

pub sharing_none : (row : List ℤ) (b : ℤ) → unsigned_abs b < 2 ^ 127 → Sharing row b 0 (unsigned_abs b)
sharing_none row b h = record { side = dvd_refl (unsigned_abs b); divides = All-nil (λ z. unsigned_abs b ∣ unsigned_abs z); greatest = λ n h _. h; small = h }

gcd-small : (a b m : ℕ) → a < m → b < m → gcd a b < m
gcd-small zero b m ha hb = subst (λ n. n < m) (sym (gcd_comm zero b ∙ gcd_zero b)) hb
gcd-small (suc a) b m ha hb = let l : gcd (suc a) b ≤ suc a = le_of_dvd (zero-lt-suc a) (gcd-divides_left (suc a) b) in omega arith

All-take_more : (P : ℤ → Type 0) (xs : List ℤ) (k : ℕ) (d : ℤ) → k < length xs → All P (take (k + 1) xs) → All P (take k xs) × P (get_or xs k d)
All-take_more P [] k d h a = absurd (omega arith)
All-take_more P (x ∷ xs) zero d h a = (All-nil P, a 0 d (omega arith))
All-take_more P (x ∷ xs) (suc k) d h a =
    let r = All-take_more P xs k d (omega arith) (All-tail P x (take (k + 1) xs) a') in
    (All-cons P x (take k xs) (All-head P x (take (k + 1) xs) a') r.0, r.1)
  where
    a' : All P (x ∷ take (k + 1) xs)
    a' = subst (λ n. All P (take n (x ∷ xs))) (same k) a
      where
        same : (k : ℕ) → suc k + 1 ≡ suc (k + 1)
        same k = omega arith

module _ (row : List ℤ) (b : ℤ) (k g : ℕ) (s : Sharing row b k g) (z : ℤ) (h : k < length row) (r : z ≡ get_or row k z) (size : ℕ) (e : size ≡ unsigned_abs z) (small : unsigned_abs z < 2 ^ 127) where
  pub sharing_more : (g' : ℕ) → g' ≡ gcd g size → Sharing row b (k + 1) g'
  sharing_more g' q = subst (Sharing row b (k + 1)) (sym (q ∙ ap (gcd g) e)) (record {
    side = dvd_trans (gcd g (unsigned_abs z)) (gcd-divides_left g (unsigned_abs z)) s.side;
    divides = All-more (λ y. gcd g (unsigned_abs z) ∣ unsigned_abs y) row k z h
        (λ i d l. dvd_trans (gcd g (unsigned_abs z)) (gcd-divides_left g (unsigned_abs z)) (s.divides i d l))
        (subst (λ y. gcd g (unsigned_abs z) ∣ unsigned_abs y) r (gcd-divides_right g (unsigned_abs z)));
    greatest = λ n m a.
        let p = All-take_more (λ y. n ∣ unsigned_abs y) row k z h a in
        gcd_greatest g (unsigned_abs z) n (s.greatest n m p.0) (subst (λ y. n ∣ unsigned_abs y) (sym r) p.1);
    small = gcd-small g (unsigned_abs z) (2 ^ 127) s.small small;
  })

pub All-last : {X : Type 0} (P : X → Type 0) (xs : List X) (y : X) → All P (xs ++ (y ∷ [])) → All P xs × P y
All-last P [] y a = (All-nil P, a 0 y (omega arith))
All-last P (x ∷ xs) y a =
    let r = All-last P xs y (All-tail P x (xs ++ (y ∷ [])) a) in
    (All-cons P x xs (All-head P x (xs ++ (y ∷ [])) a) r.0, r.1)

pub sharing_all : (row : List ℤ) (b : ℤ) (k g : ℕ) → length row ≤ k → Sharing row b k g → IsShared g (row ++ (b ∷ []))
sharing_all row b k g h s = record {
  divides = All-push (λ z. g ∣ unsigned_abs z) row b (subst (DividesAll g) (take_all k row h) s.divides) s.side;
  greatest = λ n a. let p = All-last (λ z. n ∣ unsigned_abs z) row b a in s.greatest n p.1 (subst (DividesAll n) (sym (take_all k row h)) p.0);
}

-- ---- what is left without it
zero_size : (z : ℤ) → 0 ∣ unsigned_abs z → z ≡ pos 0
zero_size z h = of_size z (zero_of (unsigned_abs z) h)
  where
    zero_of : (n : ℕ) → 0 ∣ n → n ≡ 0
    zero_of n h = eq-zero_of_zero-dvd h

    of_size : (z : ℤ) → unsigned_abs z ≡ 0 → z ≡ pos 0
    of_size (pos n) e = ap pos e
    of_size (negsuc n) e = cc

pub primitive_small : (zs : List ℤ) (g : ℕ) → g ≤ 1 → IsShared g zs → IsPrimitive zs
primitive_small zs g h s = by g h s
  where
    by : (g : ℕ) → g ≤ 1 → IsShared g zs → IsPrimitive zs
    by zero h s = inr (λ k d l. zero_size (get_or zs k d) (s.divides k d l))
    by (suc zero) h s = inl (λ n a. eq-one_of_dvd-one (s.greatest n a))
    by (suc (suc g)) h s = absurd (omega arith)

unit_out : (q p : ℚ) → p ≢ int (pos 0) → q ≡ inv_ℚ p *ℚ (q *ℚ p)
unit_out q p h =
    by_ring (q ∷ []) (search reads depth 30) (search reads depth 30) tt ∙ ap (λ u. q *ℚ u) (sym (*ℚ_inv p h))
    ∙ by_ring (q ∷ p ∷ inv_ℚ p ∷ []) (search reads depth 30) (search reads depth 30) tt

-- each integer divided by a number that divides it
module _ (g : ℕ) (some : 0 < g) where
  abbrev over : ℤ → ℤ
  over z = int_div z (pos g)

  back : (z : ℤ) → g ∣ unsigned_abs z → over z *ℤ pos g ≡ z
  back z h = int_div_exact z g h

  back_size : (z : ℤ) → g ∣ unsigned_abs z → g * unsigned_abs (over z) ≡ unsigned_abs z
  back_size z h = mul_comm g (unsigned_abs (over z)) ∙ sym (unsigned_abs-mul (over z) (pos g)) ∙ ap unsigned_abs (back z h)

  pub primitive_divided : (zs : List ℤ) → IsShared g zs → IsPrimitive (map over zs)
  primitive_divided zs s = inl (λ n a. one n (s.greatest (g * n) (λ k d l. scaled_up n a k d l)))
    where
      scaled_up : (n : ℕ) → DividesAll n (map over zs) → (k : ℕ) (d : ℤ) → k < length zs → g * n ∣ unsigned_abs (get_or zs k d)
      scaled_up n a k d l =
          let l' : k < length (map over zs) = subst (λ m. k < m) (sym (length-map zs over)) l in
          let h : n ∣ unsigned_abs (over (get_or zs k d)) = subst (λ y. n ∣ unsigned_abs y) (get_or-map over zs k d d l) (a k d l') in
          subst (λ y. g * n ∣ y) (back_size (get_or zs k d) (s.divides k d l)) (mul-dvd-mul_left _ g h)

      one : (n : ℕ) → g * n ∣ g → n ≡ 1
      one n h = eq-one_of_dvd-one (dvd_of_mul-dvd-mul_left _ some (subst (λ y. g * n ∣ y) (sym (mul-one g)) h))

  over_int : (z : ℤ) → g ∣ unsigned_abs z → int (over z) ≡ inv_ℚ (int (pos g)) *ℚ int z
  over_int z h =
      let q = int (over z) in
      let p = int (pos g) in
      unit_out q p (positive-not_zero (positive_int g some)) ∙ ap (λ u. inv_ℚ p *ℚ u) (sym (int-mul (over z) (pos g)) ∙ ap int (back z h))

  over_list : (zs : List ℤ) → DividesAll g zs → map int (map over zs) ≡ vec_scale (inv_ℚ (int (pos g))) (map int zs)
  over_list [] h = refl
  over_list (z ∷ zs) h = λ i. over_int z (All-head (λ y. g ∣ unsigned_abs y) z zs h) i ∷ over_list zs (All-tail (λ y. g ∣ unsigned_abs y) z zs h) i

  pub scaled_divided : (a : List ℚ) (b : ℚ) (row : List ℤ) (side : ℤ) → IsScaledRow a b row side → IsShared g (row ++ (side ∷ [])) → IsScaledRow a b (map over row) (over side)
  scaled_divided a b row side r s =
      let k = inv_ℚ (int (pos g)) in
      let p = All-last (λ z. g ∣ unsigned_abs z) row side s.divides in
      record {
        factor = k *ℚ r.factor;
        positive = positive-mul (inv_positive (positive_int g some)) r.positive;
        left = over_list row p.0 ∙ ap (vec_scale k) r.left ∙ vec_scale-scale k r.factor a;
        right = over_int side p.1 ∙ ap (λ u. k *ℚ u) r.right ∙ by_ring (k ∷ r.factor ∷ b ∷ []) (search reads depth 30) (search reads depth 30) tt;
      }

  pub divided_append : (row : List ℤ) (side : ℤ) → map over (row ++ (side ∷ [])) ≡ map over row ++ (over side ∷ [])
  divided_append [] side = refl
  divided_append (z ∷ zs) side = ap (λ ys. over z ∷ ys) (divided_append zs side)

-- ---- the row over the common denominator
common_parts : (n : ℕ) (a : List ℚ) (b : ℚ) → IsCommonDenom n (a ++ (b ∷ [])) → IsCommonDenom n a × (b.denom ∣ n)
common_parts n [] b h = (tt, h.0)
common_parts n (x ∷ xs) b h = let r = common_parts n xs b h.1 in ((h.0, r.0), r.1)

scaled_list : (n : ℕ) (a : List ℚ) → 0 < n → IsCommonDenom n a → map int (map (scaled n) a) ≡ vec_scale (int (pos n)) a
scaled_list n [] p h = refl
scaled_list n (x ∷ xs) p h = λ i. sym (whole_at_multiple x n p h.0) i ∷ scaled_list n xs p h.1 i

module _ (a : List ℚ) (b : ℚ) (n : ℕ) (e : n ≡ lcm (common_denom a) b.denom) where
  pub denom_is : n ≡ common_denom (a ++ (b ∷ []))
  denom_is = e ∙ sym (common_denom-last a b)

  pub row_denom-positive : 0 < n
  row_denom-positive = subst (λ k. 0 < k) (sym denom_is) (common_denom-positive (a ++ (b ∷ [])))

  parts : IsCommonDenom n a × (b.denom ∣ n)
  parts = common_parts n a b (subst (λ k. IsCommonDenom k (a ++ (b ∷ []))) (sym denom_is) (common_denom_is (a ++ (b ∷ []))))

  pub scaled_row : IsScaledRow a b (map (scaled n) a) (scaled n b)
  scaled_row = record { factor = int (pos n); positive = positive_int n row_denom-positive; left = scaled_list n a row_denom-positive parts.0; right = sym (whole_at_multiple b n row_denom-positive parts.1) }

  pub row_fits : n < 2 ^ 127 → ScaledFit n a → unsigned_abs (scaled n b) < 2 ^ 127 → WholeFits (a ++ (b ∷ []))
  row_fits h f g = record {
    denom = subst (λ k. k < 2 ^ 127) denom_is h;
    numers = subst (λ k. ScaledFit k (a ++ (b ∷ []))) denom_is (All-push (λ x. unsigned_abs (scaled n x) < 2 ^ 127) a b f g);
  }

  parts_fit : WholeFits (a ++ (b ∷ [])) → ScaledFit n (a ++ (b ∷ []))
  parts_fit w = subst (λ k. ScaledFit k (a ++ (b ∷ []))) (sym denom_is) w.numers

  pub entries_unfit : (ScaledFit n a → ⊥) → WholeFits (a ++ (b ∷ [])) → ⊥
  entries_unfit h w = h (front a (parts_fit w))
    where
      front : (xs : List ℚ) → All (λ x. unsigned_abs (scaled n x) < 2 ^ 127) (xs ++ (b ∷ [])) → All (λ x. unsigned_abs (scaled n x) < 2 ^ 127) xs
      front [] f = All-nil (λ x. unsigned_abs (scaled n x) < 2 ^ 127)
      front (x ∷ xs) f = All-cons (λ x. unsigned_abs (scaled n x) < 2 ^ 127) x xs (All-head (λ x. unsigned_abs (scaled n x) < 2 ^ 127) x (xs ++ (b ∷ [])) f) (front xs (All-tail (λ x. unsigned_abs (scaled n x) < 2 ^ 127) x (xs ++ (b ∷ [])) f))

  pub side_unfit : 2 ^ 127 ≤ unsigned_abs (scaled n b) → WholeFits (a ++ (b ∷ [])) → ⊥
  side_unfit h w = clash (unsigned_abs (scaled n b)) h (back a (parts_fit w))
    where
      clash : (m : ℕ) → 2 ^ 127 ≤ m → m < 2 ^ 127 → ⊥
      clash m h k = omega arith

      back : (xs : List ℚ) → All (λ x. unsigned_abs (scaled n x) < 2 ^ 127) (xs ++ (b ∷ [])) → unsigned_abs (scaled n b) < 2 ^ 127
      back [] f = f 0 b (omega arith)
      back (x ∷ xs) f = back xs (All-tail (λ x. unsigned_abs (scaled n x) < 2 ^ 127) x (xs ++ (b ∷ [])) f)

pub lcm_unfit : (a : List ℚ) (b : ℚ) → 2 ^ 127 ≤ lcm (common_denom a) b.denom → WholeFits (a ++ (b ∷ [])) → ⊥
lcm_unfit a b h w = let d = w.denom in let e = common_denom-last a b in omega arith

pub front_unfit : (a : List ℚ) (b : ℚ) → 2 ^ 127 ≤ common_denom a → WholeFits (a ++ (b ∷ [])) → ⊥
front_unfit a b h w =
    let l : common_denom a ≤ common_denom (a ++ (b ∷ [])) = le_of_dvd (common_denom-positive (a ++ (b ∷ []))) (common_denom_least (common_denom (a ++ (b ∷ []))) a (common_parts (common_denom (a ++ (b ∷ []))) a b (common_denom_is (a ++ (b ∷ [])))).0) in
    let d = w.denom in omega arith

pub small_row : (n : ℕ) (a : List ℚ) (row : List ℤ) → row ≡ map (scaled n) a → ScaledFit n a → AreSmall row
small_row n a row e f = subst AreSmall (sym e) (All-map (λ z. unsigned_abs z < 2 ^ 127) (scaled n) a f)

-- ---- the points of the row
pub row_points : (a : List ℚ) (b : ℚ) (row : List ℤ) (side : ℤ) → IsScaledRow a b row side → (t : List ℚ) → (dot a t ≤ℚ b) ↔ (dot (map int row) t ≤ℚ int side)
row_points a b row side r t =
    let l : dot (map int row) t ≡ r.factor *ℚ dot a t = ap (λ xs. dot xs t) r.left ∙ dot-scale r.factor a t in (
      λ h. subst₂ (λ x y. x ≤ℚ y) (sym l) (sym r.right) (*ℚ-≤ℚ (≤ℚ_of_< r.positive) h),
      λ h. *ℚ-≤ℚ_cancel r.positive (subst₂ (λ x y. x ≤ℚ y) l r.right h),
    )

pub quotient_small : (z : ℤ) (by : ℕ) → 0 < by → unsigned_abs z < 2 ^ 127 → unsigned_abs (int_div z (pos by)) < 2 ^ 127
quotient_small z by p h = let e = abs-div z by in let l : unsigned_abs z / by ≤ unsigned_abs z = div-le_self (unsigned_abs z) by in omega arith

pub quotients_small : (by : ℕ) → 0 < by → (zs ws : List ℤ) → AreSmall zs → ws ≡ map (λ z. int_div z (pos by)) zs → AreSmall ws
quotients_small by p zs ws h e =
    subst AreSmall (sym e) (All-map (λ z. unsigned_abs z < 2 ^ 127) (λ z. int_div z (pos by)) zs (λ k d l. quotient_small (get_or zs k d) by p (h k d l)))

pub quotients_more : (by : ℕ) (zs : List ℤ) (k : ℕ) (z : ℤ) → k < length zs → z ≡ get_or zs k z → (xs ys : List ℤ) (q : ℤ) → xs ≡ map (λ z. int_div z (pos by)) (take k zs) → ys ≡ xs ++ (q ∷ []) → q ≡ int_div z (pos by) → ys ≡ map (λ z. int_div z (pos by)) (take (k + 1) zs)
quotients_more by zs k z h r xs ys q e f g =
    f ∙ (λ i. e i ++ ((g ∙ ap (λ z. int_div z (pos by)) r) i ∷ [])) ∙ sym (map_more (λ z. int_div z (pos by)) zs k z h)
