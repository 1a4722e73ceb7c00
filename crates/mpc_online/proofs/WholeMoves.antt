-- Sums of fractions and multiples of fractions over one denominator.
use Rattle.std.proofs.Common.{FitsSigned, true, false, negsuc, refl, All, set, ⊎_elim, ◌≡◌, ◌≢◌, ◌-ℤ◌, to_z, of_z, div-le_self, le_trans, ℕ, zero, suc, ◌+◌, ◌*◌, ◌/◌, ◌^◌, ◌<◌, ◌≤◌, List, [], ◌∷◌, length, get_or, ℤ, pos, ◌+ℤ◌, ◌*ℤ◌, unsigned_abs, sym, ◌∙◌, ap, subst, subst₂, arith, mul-pos, mul_comm}
use lib.Signed.{lt_z, mag}
use Rattle.std.specs.Int.{◌∣◌, w128}
use Rattle.std.proofs.lemmas.Bool.{cases_eq}
use Rattle.std.proofs.lemmas.List.{length-set, get_or-set_same, get_or-set_other}
use Rattle.std.proofs.lemmas.Int.{ints, to_z_pos, unsigned_abs-mul}
use native.Mathlib.Nat.{mul-div_cancel', div-mul_cancel}
use Rattle.mpc_exact.specs.Rational.{ℚ, frac, ◌+ℚ◌, ◌*ℚ◌, frac_self, denom_positive, quotient}
use Rattle.mpc_exact.proofs.IntRing.{int_reads, by_ring_ℤ}
use Rattle.mpc_exact.proofs.Rational.{frac-mul}
use Rattle.mpc_exact.proofs.School.{frac_expand, quotient_positive}
use Rattle.mpc_frac.specs.Fits.{FitsFrac, FitsSum}
use Rattle.mpc_space.specs.Vector.{coordinate, vec_add, vec_scale}
use Rattle.mpc_space.proofs.Entries.{coordinate-add, coordinate-scale, length-add, length-scale, length-listed, coordinate-listed, same_entries}
use Rattle.mpc_linear.specs.Dot.{TermFits}
use Rattle.mpc_wholes.specs.declared.numbers.Wholes.{Wholes}
use Rattle.mpc_wholes.specs.Wholes.{IsOver}
use Rattle.mpc_wholes.specs.OverTheorems.{OverTheorems}
use Rattle.mpc_online.specs.Wholes.{first_of}
use Rattle.mpc_online.specs.Widths.{GrowsFit}
use Rattle.mpc_online.proofs.WholeDots.{abs-add, grows, product_at_most, number_at, read_wide, read_mag, fits_wide}

-- what a product with a positive value has
factor_some : (d k n : ℕ) → d * k ≡ n → 0 < n → 0 < k
factor_some d zero n e h = absurd (omega arith)
factor_some d (suc k) n e h = omega arith

regrouped : (m p r : ℤ) → (p *ℤ m) *ℤ r ≡ m *ℤ (p *ℤ r)
regrouped m p r = by_ring_ℤ (m ∷ p ∷ r ∷ []) (search int_reads depth 30) (search int_reads depth 30) tt

-- ---- n / x and a multiple of m / d by s over one denominator
module _ (laws : OverTheorems) (n m : ℤ) (s : ℚ) (x d left right den : ℕ) (x_some : 0 < x) (d_some : 0 < d) (den_some : 0 < den) (of_x : x * left ≡ den) (of_d : (d * s.denom) * right ≡ den) where
  left_is : frac n x ≡ frac (n *ℤ pos left) den
  left_is = sym (ap (frac (n *ℤ pos left)) (sym of_x) ∙ frac_expand n x left x_some (factor_some x left den of_x den_some))

  below_is : s.denom * d ≡ d * s.denom
  below_is = omega arith

  right_is : s *ℚ frac m d ≡ frac (m *ℤ (s.numer *ℤ pos right)) den
  right_is =
      ap (λ z. z *ℚ frac m d) (sym (frac_self s)) ∙ frac-mul s.numer s.denom m d (denom_positive s) d_some
      ∙ ap (frac (s.numer *ℤ m)) below_is
      ∙ sym (frac_expand (s.numer *ℤ m) (d * s.denom) right (mul-pos d_some (denom_positive s)) (factor_some (d * s.denom) right den of_d den_some))
      ∙ (λ i. frac (regrouped m s.numer (pos right) i) (of_d i))

  pub moved_is : frac n x +ℚ s *ℚ frac m d ≡ frac (n *ℤ pos left +ℤ m *ℤ (s.numer *ℤ pos right)) den
  moved_is = (λ i. left_is i +ℚ right_is i) ∙ laws.sum (n *ℤ pos left) (m *ℤ (s.numer *ℤ pos right)) den den_some

  pub moved_fits : unsigned_abs (n *ℤ pos left) ≤ 2 ^ 124 → unsigned_abs (m *ℤ (s.numer *ℤ pos right)) ≤ 2 ^ 124 → den ≤ 2 ^ 124 → TermFits (frac n x) s (frac m d)
  moved_fits a b c = record {
    product = subst (λ z. FitsFrac z) (sym right_is) (laws.one (m *ℤ (s.numer *ℤ pos right)) den den_some (omega (arith, b)) (omega (arith, c)));
    sum = subst₂ (λ u v. FitsSum u v) (sym left_is) (sym right_is) (laws.both (n *ℤ pos left) (m *ℤ (s.numer *ℤ pos right)) den den_some (omega (arith, a, b)) (omega (arith, c)));
  }

-- ---- all entries
module _ (laws : OverTheorems) (x d : Wholes) (s : ℚ) (left right den : ℕ) (den_some : 0 < den) (of_x : x.den * left ≡ den) (of_d : (d.den * s.denom) * right ≡ den) (xs ds : List ℚ) (over_x : IsOver xs x) (over_d : IsOver ds d) (count : ℕ) (x_size : length xs ≡ count) (d_size : length ds ≡ count) where
  abbrev a : ℕ → ℤ
  a k = get_or x.numerators k (pos 0)

  abbrev b : ℕ → ℤ
  b k = get_or d.numerators k (pos 0)

  size : length (vec_add xs (vec_scale s ds)) ≡ length xs
  size = length-add xs (vec_scale s ds) (x_size ∙ sym d_size ∙ sym (length-scale s ds))

  module _ (w : Wholes) (den_is : w.den ≡ den) (few : count ≤ length w.numerators)
      (numerators : (k : ℕ) → k < count → get_or w.numerators k (pos 0) ≡ a k *ℤ pos left +ℤ b k *ℤ (s.numer *ℤ pos right)) where
    at : (k : ℕ) → k < length (vec_add xs (vec_scale s ds)) → coordinate (vec_add xs (vec_scale s ds)) k ≡ frac (get_or w.numerators k (pos 0)) w.den
    at k h =
        let lx : k < length xs = omega (arith, h, size) in
        let ld : k < length ds = omega (arith, lx, x_size, d_size) in
        coordinate-add xs (vec_scale s ds) k ∙ ap (λ u. coordinate xs k +ℚ u) (coordinate-scale s ds k)
        ∙ (λ i. over_x.entries k lx i +ℚ s *ℚ over_d.entries k ld i)
        ∙ moved_is laws (a k) (b k) s x.den d.den left right den x.at_most.some d.at_most.some den_some of_x of_d
        ∙ (λ i. frac (sym (numerators k (omega (arith, lx, x_size))) i) (sym den_is i))

    pub moved_over : IsOver (vec_add xs (vec_scale s ds)) w
    moved_over = record { few = (let z = size in omega (arith, z, x_size, few)); entries = at }

  pub all_fit : (x.most * left ≤ 2 ^ 124) → (d.most * unsigned_abs (s.numer *ℤ pos right) ≤ 2 ^ 124) → den ≤ 2 ^ 124 → GrowsFit xs s ds
  all_fit hx hd c k h =
      let ld : k < length ds = omega (arith, h, x_size, d_size) in
      let ax : unsigned_abs (a k *ℤ pos left) ≤ x.most * left = product_at_most (a k) (pos left) x.most left (number_at x.numerators x.most k x.at_most.numbers) (omega arith) in
      let bd : unsigned_abs (b k *ℤ (s.numer *ℤ pos right)) ≤ d.most * unsigned_abs (s.numer *ℤ pos right) = product_at_most (b k) (s.numer *ℤ pos right) d.most (unsigned_abs (s.numer *ℤ pos right)) (number_at d.numerators d.most k d.at_most.numbers) (omega arith) in
      subst₂ (λ u v. TermFits u s v) (sym (over_x.entries k h)) (sym (over_d.entries k ld))
      (moved_fits laws (a k) (b k) s x.den d.den left right den x.at_most.some d.at_most.some den_some of_x of_d (omega (arith, ax, hx)) (omega (arith, bd, hd)) c)

-- ---- what a common divisor leaves
module _ (w : Wholes) (shared count : ℕ) (some : 0 < shared) (of_den : shared ∣ w.den) (v : Wholes) (den_is : v.den ≡ w.den / shared)
    (numerators : (k : ℕ) → k < count → get_or v.numerators k (pos 0) *ℤ pos shared ≡ get_or w.numerators k (pos 0)) (few : count ≤ length v.numerators) where
  den_back : v.den * shared ≡ w.den
  den_back = (let t : v.den * shared ≡ shared * v.den = omega arith in t) ∙ ap (λ n. shared * n) den_is ∙ mul-div_cancel' shared of_den

  pub lowest_over : (xs : List ℚ) → IsOver xs w → length xs ≡ count → IsOver xs v
  lowest_over xs over l = record {
    few = omega (arith, l, few);
    entries = λ k h. over.entries k h ∙ (λ i. frac (sym (numerators k (omega (arith, h, l))) i) (sym den_back i)) ∙ frac_expand (get_or v.numerators k (pos 0)) v.den shared v.at_most.some some;
  }

-- ---- the first numbers as a list
pub first_over : (w : Wholes) (count : ℕ) → count ≤ length w.numerators → IsOver (first_of w count) w
first_over w count few = record {
  few = (let l = length-listed count (λ k. frac (get_or w.numerators k (pos 0)) w.den) in omega (arith, l, few));
  entries = λ k h. coordinate-listed count (λ k. frac (get_or w.numerators k (pos 0)) w.den) k (let l = length-listed count (λ k. frac (get_or w.numerators k (pos 0)) w.den) in omega (arith, l, h));
}

pub first_is : (w : Wholes) (count : ℕ) (xs : List ℚ) → IsOver xs w → length xs ≡ count → first_of w count ≡ xs
first_is w count xs over l =
    same_entries (first_of w count) xs (length-listed count (λ k. frac (get_or w.numerators k (pos 0)) w.den) ∙ sym l)
    (λ k h. let m : k < count = (let g = length-listed count (λ k. frac (get_or w.numerators k (pos 0)) w.den) in omega (arith, g, h)) in
    coordinate-listed count (λ k. frac (get_or w.numerators k (pos 0)) w.den) k m ∙ sym (over.entries k (omega (arith, m, l))))

-- ---- numbers as the code reads them
pub den_not_zero : (den : ℕ) → 0 < den → den < 2 ^ 127 → to_z w128 den ≢ pos 0
den_not_zero den some small e = let g : den ≡ 0 = ap unsigned_abs (sym (to_z_pos w128 den small) ∙ e) in absurd (omega (arith, g, some))

pub den_read_small : (den : ℕ) → den < 2 ^ 127 → unsigned_abs (to_z w128 den) < 2 ^ 127
den_read_small den small = subst (λ z. unsigned_abs z < 2 ^ 127) (sym (to_z_pos w128 den small)) small

pub number_read_small : (t : ℤ) → unsigned_abs t < 2 ^ 127 → unsigned_abs (to_z w128 (of_z w128 t)) < 2 ^ 127
number_read_small t small = subst (λ z. unsigned_abs z < 2 ^ 127) (sym (read_wide t small)) small

pub quotient_read : (t : ℤ) (den : ℕ) → 0 < den → den < 2 ^ 127 → unsigned_abs t < 2 ^ 127 → quotient (to_z w128 (of_z w128 t)) (to_z w128 den) ≡ frac t den
quotient_read t den some small h = (λ i. quotient (read_wide t h i) (to_z_pos w128 den small i)) ∙ quotient_positive t den some

pub number_small : (w : Wholes) (k : ℕ) → unsigned_abs (get_or w.numerators k (pos 0)) < 2 ^ 127
number_small w k = let a = number_at w.numerators w.most k w.at_most.numbers in let b = w.at_most.most_small in omega (arith, a, b)

pub den_of_small : (w : Wholes) → w.den < 2 ^ 127
den_of_small w = let a = w.at_most.den_small in let b = w.at_most.most_small in omega (arith, a, b)

-- ---- a number divided by a divisor of its size
different : {b : _} → b ≡ true → b ≡ false → ⊥
different e f = cc

sign_above : (n : ℤ) → lt_z n (pos 0) ≡ false → pos (unsigned_abs n) ≡ n
sign_above (pos m) h = refl
sign_above (negsuc m) h = absurd (different refl h)

sign_below : (n : ℤ) → lt_z n (pos 0) ≡ true → pos 0 -ℤ pos (unsigned_abs n) ≡ n
sign_below (pos m) h = omega (arith, ints, h)
sign_below (negsuc m) h = omega (arith, ints)

less : (a b : ℤ) → (pos 0 -ℤ a) *ℤ b ≡ pos 0 -ℤ (a *ℤ b)
less a b = by_ring_ℤ (a ∷ b ∷ []) (search int_reads depth 30) (search int_reads depth 30) tt

module _ (n : ℤ) (s : ℕ) (divides : s ∣ unsigned_abs n) (small : unsigned_abs n < 2 ^ 127) where
  quotient_back : (unsigned_abs n / s) * s ≡ unsigned_abs n
  quotient_back = div-mul_cancel s divides

  quotient_small : unsigned_abs n / s < 2 ^ 127
  quotient_small = let l : unsigned_abs n / s ≤ unsigned_abs n = div-le_self (unsigned_abs n) s in omega (arith, l, small)

  pub divided_above : lt_z (to_z w128 (of_z w128 n)) (pos 0) ≡ false → to_z w128 (unsigned_abs n / s) *ℤ pos s ≡ n
  divided_above h = ap (λ z. z *ℤ pos s) (to_z_pos w128 (unsigned_abs n / s) quotient_small) ∙ ap pos quotient_back ∙ sign_above n (ap (λ z. lt_z z (pos 0)) (sym (read_wide n small)) ∙ h)

  pub divided_below : lt_z (to_z w128 (of_z w128 n)) (pos 0) ≡ true → to_z w128 (of_z w128 (pos 0 -ℤ to_z w128 (unsigned_abs n / s))) *ℤ pos s ≡ n
  divided_below h =
      let q : unsigned_abs (pos 0 -ℤ pos (unsigned_abs n / s)) < 2 ^ 127 = (let l = quotient_small in omega (arith, ints, l)) in
      ap (λ z. to_z w128 (of_z w128 (pos 0 -ℤ z)) *ℤ pos s) (to_z_pos w128 (unsigned_abs n / s) quotient_small)
      ∙ ap (λ z. z *ℤ pos s) (read_wide (pos 0 -ℤ pos (unsigned_abs n / s)) q) ∙ less (pos (unsigned_abs n / s)) (pos s) ∙ ap (λ m. pos 0 -ℤ pos m) quotient_back ∙ sign_below n (ap (λ z. lt_z z (pos 0)) (sym (read_wide n small)) ∙ h)

-- ---- numerators that are found one after another
pub record AreFound (bound : ℕ) (f : ℕ → ℤ → Type 0) (den : ℕ) (numerators : List ℤ) (most k : ℕ) : Type 0 where
  pub size : length numerators ≡ 6
  pub entries : (j : ℕ) → j < k → f j (get_or numerators j (pos 0))
  pub numbers : All (λ z. unsigned_abs z ≤ most) numerators
  pub den_small : den ≤ most
  pub most_small : most ≤ bound

pub found_more : (bound : ℕ) (f : ℕ → ℤ → Type 0) (den : ℕ) (numerators : List ℤ) (most k next : ℕ) (z : ℤ) → k < 6 → most ≤ next → unsigned_abs z ≤ next → next ≤ bound → f k z → AreFound bound f den numerators most k → AreFound bound f den (set numerators k z) next (k + 1)
found_more bound f den numerators most k next z few grows here room is g = record {
  size = length-set numerators k z ∙ g.size;
  entries = λ j h. ⊎_elim
      (λ q. subst (λ i. f i (get_or (set numerators k z) i (pos 0))) (sym q) (subst (f k) (sym (get_or-set_same numerators k z (pos 0) within)) is))
      (λ q. subst (f j) (sym (get_or-set_other numerators k j z (pos 0) q)) (g.entries j (omega arith)))
      (cases_eq j k);
  numbers = λ j d h. ⊎_elim
      (λ q. subst (λ i. unsigned_abs (get_or (set numerators k z) i d) ≤ next) (sym q) (subst (λ u. unsigned_abs u ≤ next) (sym (get_or-set_same numerators k z d within)) here))
      (λ q. subst (λ u. unsigned_abs u ≤ next) (sym (get_or-set_other numerators k j z d q)) (le_trans (g.numbers j d (let l = length-set numerators k z in omega (arith, l, h))) grows))
      (cases_eq j k);
  den_small = le_trans g.den_small grows;
  most_small = room;
}
  where
    within : k < length numerators
    within = let s = g.size in omega (arith, s, few)

pub lowest_some : (den s : ℕ) → 0 < den → s ∣ den → 0 < den / s
lowest_some den s some h = factor_some s (den / s) den (mul-div_cancel' s h) some

pub number_times_small : (w : Wholes) (k : ℕ) (left : ℤ) → w.most * unsigned_abs left ≤ 2 ^ 124 → unsigned_abs (get_or w.numerators k (pos 0) *ℤ left) ≤ 2 ^ 124
number_times_small w k left h =
    let p = product_at_most (get_or w.numerators k (pos 0)) left w.most (unsigned_abs left) (number_at w.numerators w.most k w.at_most.numbers) (omega arith) in omega (arith, p, h)

pub factor_read : (w : Wholes) (k : ℕ) (left : ℤ) → unsigned_abs left < 2 ^ 127 → to_z w128 (of_z w128 (get_or w.numerators k (pos 0))) *ℤ to_z w128 (of_z w128 left) ≡ get_or w.numerators k (pos 0) *ℤ left
factor_read w k left h = λ i. read_wide (get_or w.numerators k (pos 0)) (number_small w k) i *ℤ read_wide left h i

pub factor_small : (w : Wholes) (left : ℤ) → w.most * unsigned_abs left ≤ 2 ^ 124 → unsigned_abs left < 2 ^ 127
factor_small w left h = let some = w.at_most.some in let d = w.at_most.den_small in let g = grows (unsigned_abs left) w.most (omega (arith, some, d)) in omega (arith, g, mul_comm (unsigned_abs left) w.most, h)

-- ---- the sum of two products as the code reads it
module _ (x l d r : ℤ) (fx : mag x < 2 ^ 127) (fl : mag l < 2 ^ 127) (fd : mag d < 2 ^ 127) (fr : mag r < 2 ^ 127) (hx : unsigned_abs (x *ℤ l) ≤ 2 ^ 124) (hd : unsigned_abs (d *ℤ r) ≤ 2 ^ 124) where
  product_read : (u v : ℤ) → mag u < 2 ^ 127 → mag v < 2 ^ 127 → unsigned_abs (u *ℤ v) ≤ 2 ^ 124 → to_z w128 (of_z w128 (to_z w128 (of_z w128 u) *ℤ to_z w128 (of_z w128 v))) ≡ u *ℤ v
  product_read u v fu fv h = ap (λ z. to_z w128 (of_z w128 z)) (λ i. read_mag u fu i *ℤ read_mag v fv i) ∙ read_wide (u *ℤ v) (omega (arith, h))

  pub combination_read : to_z w128 (of_z w128 (to_z w128 (of_z w128 x) *ℤ to_z w128 (of_z w128 l))) +ℤ to_z w128 (of_z w128 (to_z w128 (of_z w128 d) *ℤ to_z w128 (of_z w128 r))) ≡ x *ℤ l +ℤ d *ℤ r
  combination_read = λ i. product_read x l fx fl hx i +ℤ product_read d r fd fr hd i

  pub combination_small : unsigned_abs (x *ℤ l +ℤ d *ℤ r) ≤ 2 ^ 125
  combination_small = omega (arith, hx, hd, abs-add (x *ℤ l) (d *ℤ r))

  pub combination_is : to_z w128 (of_z w128 (to_z w128 (of_z w128 (to_z w128 (of_z w128 x) *ℤ to_z w128 (of_z w128 l))) +ℤ to_z w128 (of_z w128 (to_z w128 (of_z w128 d) *ℤ to_z w128 (of_z w128 r))))) ≡ x *ℤ l +ℤ d *ℤ r
  combination_is = ap (λ z. to_z w128 (of_z w128 z)) combination_read ∙ read_wide (x *ℤ l +ℤ d *ℤ r) (let s = combination_small in omega (arith, s))

  pub combination_fits : FitsSigned w128 (to_z w128 (of_z w128 (to_z w128 (of_z w128 x) *ℤ to_z w128 (of_z w128 l))) +ℤ to_z w128 (of_z w128 (to_z w128 (of_z w128 d) *ℤ to_z w128 (of_z w128 r))))
  combination_fits = subst (FitsSigned w128) (sym combination_read) (fits_wide (x *ℤ l +ℤ d *ℤ r) (let s = combination_small in omega (arith, s)))

-- ---- a size times a whole number
pub times_read : (n m : ℤ) (right : ℕ) → n ≡ m → unsigned_abs m < 2 ^ 127 → right ≤ 2 ^ 124 → to_z w128 (of_z w128 n) *ℤ to_z w128 right ≡ m *ℤ pos right
times_read n m right e h k = λ i. (ap (λ z. to_z w128 (of_z w128 z)) e ∙ read_wide m h) i *ℤ to_z_pos w128 right (omega (arith, k)) i

pub times_size : (m : ℤ) (right most s : ℕ) → s ≡ unsigned_abs m → most * right * s ≤ 2 ^ 124 → most * unsigned_abs (m *ℤ pos right) ≤ 2 ^ 124
times_size m right most s e h =
    let g : most * (s * right) ≡ most * right * s = omega arith in
    subst (λ n. most * n ≤ 2 ^ 124) (ap (λ n. n * right) e ∙ sym (unsigned_abs-mul m (pos right))) (subst (λ n. n ≤ 2 ^ 124) (sym g) h)
