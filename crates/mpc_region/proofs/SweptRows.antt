-- Rows in whole numbers without a common divisor, as they are read from a table.
use Rattle.std.proofs.Common.{◌≡◌, ◌≢◌, ℕ, zero, suc, ◌+◌, ◌*◌, ◌^◌, ◌<◌, ◌≤◌, List, [], ◌∷◌, ◌++◌, length, get_or, set, map, max, All, ℤ, pos, negsuc, ◌*ℤ◌, neg_ℤ, unsigned_abs, refl, sym, ◌∙◌, ap, subst, arith, ◌⊎◌, inl, inr, ⊎_elim, mul-one, mul-le-mul_left}
use Rattle.std.specs.Int.{◌∣◌}
use Rattle.std.proofs.lemmas.Bool.{cases_eq, cases_lt}
use Rattle.std.proofs.lemmas.Int.{unsigned_abs-mul}
use Rattle.std.proofs.lemmas.List.{get_or_default, get_or-map, length-map, length-set, get_or-set_same, get_or-set_other, length-append, map-append, get_or_append_left, get_or_past}
use Rattle.std.proofs.lemmas.List.Elements.{All-nil, All-cons, All-head, All-tail, All-push}
use Rattle.std.proofs.Math.Seq.{get_or-append_seam}
use Rattle.std.proofs.lemmas.Nat.Gcd.{dvd-zero}
use Rattle.std.proofs.Math.Nat.{eq-zero_of_zero-dvd}
use native.Mathlib.Nat.{mul_comm, mul-dvd-mul_left, dvd_of_mul-dvd-mul_left, eq-one_of_dvd-one}
use Rattle.mpc_exact.specs.Rational.{ℚ, int, frac, ◌*ℚ◌, inv_ℚ}
use Rattle.mpc_exact.proofs.IntRing.{int_reads, by_ring_ℤ}
use Rattle.mpc_exact.proofs.Rational.{int-mul, *ℚ_inv}
use Rattle.mpc_exact.proofs.RationalRing.{reads, by_ring}
use Rattle.mpc_exact.proofs.RationalOrder.{positive_int, positive-mul, inv_positive}
use Rattle.mpc_exact.proofs.OrderTheorems.{positive-not_zero}
use Rattle.mpc_exact.proofs.School.{frac_times}
use Rattle.mpc_space.specs.Vector.{coordinate, vec_scale}
use Rattle.mpc_space.proofs.Entries.{same_entries, coordinate-scale, length-scale}
use Rattle.mpc_linear.specs.declared.integers.RowInt.{RowInt}
use Rattle.mpc_linear.specs.Whole.{IsScaledRow, DividesAll, IsPrimitive}
use Rattle.mpc_rows.specs.LinearSystem.{LinearSystem}
use Rattle.mpc_rows.specs.LawRows.{whole_row}
use Rattle.mpc_scaled.specs.Scaled.{whole_at, IsSmall}
use Rattle.mpc_region.specs.SweptRows.{DividesEach, IsSharedBy, AreSides, IsRowFrom}
use Rattle.mpc_region.proofs.LawRowLists.{no_row}
use Rattle.mpc_region.proofs.SweptDivisors.{abs_negated}

-- ---- as the code forms them
-- the divisor is that of all, or 1
module _ (f : ℕ → ℤ) (count g by : ℕ) (s : IsSharedBy f count g) (e : by ≡ max g 1) where
  pub by_positive : 0 < by
  by_positive = omega arith

  pub by_same : 0 < g → by ≡ g
  by_same h = omega arith

  pub by_divides : DividesEach by f count
  by_divides = ⊎_elim
      (λ h. let z : g ≡ 0 = omega arith in record { each = λ j l. zero_divided (unsigned_abs (f j)) (subst (λ m. m ∣ unsigned_abs (f j)) z (s.divides.each j l)) })
      (λ h. subst (λ m. DividesEach m f count) (sym (by_same h)) s.divides)
      (cases_some g)
    where
      cases_some : (n : ℕ) → (n ≡ 0) ⊎ (0 < n)
      cases_some zero = inl refl
      cases_some (suc n) = inr (omega arith)

      zero_divided : (n : ℕ) → 0 ∣ n → by ∣ n
      zero_divided n h = subst (λ m. by ∣ m) (sym (eq-zero_of_zero-dvd h)) (dvd-zero by)

-- sides that are written so far
pub record WritingSides (f : ℕ → ℤ) (by count k : ℕ) (sides : List ℤ) : Type 0 where
  pub size : length sides ≡ count
  pub each : (j : ℕ) → j < k → get_or sides j (pos 0) *ℤ pos by ≡ neg_ℤ (f (suc j))

pub sides_none : (f : ℕ → ℤ) (by : ℕ) (sides : List ℤ) → WritingSides f by (length sides) 0 sides
sides_none f by sides = record { size = refl; each = λ j h. absurd (omega arith) }

negated_times : (q b : ℤ) → neg_ℤ q *ℤ b ≡ neg_ℤ (q *ℤ b)
negated_times q b = by_ring_ℤ (q ∷ b ∷ []) (search int_reads depth 30) (search int_reads depth 30) tt

pub sides_more : (f : ℕ → ℤ) (by count k : ℕ) (sides new : List ℤ) (q z : ℤ) → k < count → WritingSides f by count k sides → q *ℤ pos by ≡ z → z ≡ f (suc k) → new ≡ set sides k (neg_ℤ q) → WritingSides f by count (k + 1) new
sides_more f by count k sides new q z h w e r n = subst (WritingSides f by count (k + 1)) (sym n) (record {
  size = length-set sides k (neg_ℤ q) ∙ w.size;
  each = λ j l. ⊎_elim
      (λ p. subst (λ i. get_or (set sides k (neg_ℤ q)) i (pos 0) *ℤ pos by ≡ neg_ℤ (f (suc i))) (sym p)
      (ap (λ y. y *ℤ pos by) (get_or-set_same sides k (neg_ℤ q) (pos 0) (omega (arith, w.size))) ∙ negated_times q (pos by) ∙ ap neg_ℤ (e ∙ r)))
      (λ p. ap (λ y. y *ℤ pos by) (get_or-set_other sides k j (neg_ℤ q) (pos 0) p) ∙ w.each j (omega arith))
      (cases_eq j k);
})

pub sides_all : (f : ℕ → ℤ) (by count k : ℕ) (sides : List ℤ) → count ≤ k → WritingSides f by count k sides → AreSides f by sides
sides_all f by count k sides h w = record { each = λ j l. w.each j (omega (arith, w.size)) }

-- ---- what such a row is
All-last : {X : Type 0} (P : X → Type 0) (xs : List X) (y : X) → All P (xs ++ (y ∷ [])) → All P xs × P y
All-last P [] y a = (All-nil P, a 0 y (omega arith))
All-last P (x ∷ xs) y a =
    let r = All-last P xs y (All-tail P x (xs ++ (y ∷ [])) a) in
    (All-cons P x xs (All-head P x (xs ++ (y ∷ [])) a) r.0, r.1)

of_size : (z : ℤ) → unsigned_abs z ≡ 0 → z ≡ pos 0
of_size (pos n) e = ap pos e
of_size (negsuc n) e = cc

factor_zero : (m n : ℕ) → 0 < n → m * n ≡ 0 → m ≡ 0
factor_zero zero n h e = refl
factor_zero (suc m) n h e = absurd (omega arith)

unit_out : (q p : ℚ) → p ≢ int (pos 0) → q ≡ inv_ℚ p *ℚ (q *ℚ p)
unit_out q p h =
    by_ring (q ∷ []) (search reads depth 30) (search reads depth 30) tt ∙ ap (λ u. q *ℚ u) (sym (*ℚ_inv p h))
    ∙ by_ring (q ∷ p ∷ inv_ℚ p ∷ []) (search reads depth 30) (search reads depth 30) tt

regrouped : (k p x : ℚ) → k *ℚ (p *ℚ x) ≡ (k *ℚ p) *ℚ x
regrouped k p x = by_ring (k ∷ p ∷ x ∷ []) (search reads depth 30) (search reads depth 30) tt

module _ (f : ℕ → ℤ) (width : ℕ) (row : RowInt) (r : IsRowFrom f width row) where
  -- each of the row's numbers, times the divisor, has the size of one of the numbers
  pub side_size : (j : ℕ) (d : ℤ) → j < length row.a → unsigned_abs (get_or row.a j d) * r.by ≡ unsigned_abs (f (suc j))
  side_size j d h =
      ap (λ z. unsigned_abs z * r.by) (get_or_default row.a j d (pos 0) h) ∙ sym (unsigned_abs-mul (get_or row.a j (pos 0)) (pos r.by)) ∙ ap unsigned_abs (r.sides.each j h)
      ∙ abs_negated (f (suc j))

  pub bound_size : unsigned_abs row.b * r.by ≡ unsigned_abs (f 0)
  bound_size = sym (unsigned_abs-mul row.b (pos r.by)) ∙ ap unsigned_abs r.bound

  -- what divides all of the row's numbers, times the divisor, divides all of the numbers
  times_divides : (n : ℕ) → DividesAll n (row.a ++ (row.b ∷ [])) → DividesEach (r.by * n) f (suc width)
  times_divides n a = let p = All-last (λ z. n ∣ unsigned_abs z) row.a row.b a in record { each = λ j h. at j h p.0 p.1 }
    where
      up : (m k : ℕ) → n ∣ m → m * r.by ≡ k → r.by * n ∣ k
      up m k h e = subst (λ y. r.by * n ∣ y) (mul_comm r.by m ∙ e) (mul-dvd-mul_left _ r.by h)

      at : (j : ℕ) → j < suc width → DividesAll n row.a → n ∣ unsigned_abs row.b → r.by * n ∣ unsigned_abs (f j)
      at zero h a b = up (unsigned_abs row.b) (unsigned_abs (f 0)) b bound_size
      at (suc j) h a b = let l : j < length row.a = omega (arith, r.size) in up (unsigned_abs (get_or row.a j (pos 0))) (unsigned_abs (f (suc j))) (a j (pos 0) l) (side_size j (pos 0) l)

  one_left : 0 < r.shared → (n : ℕ) → DividesAll n (row.a ++ (row.b ∷ [])) → n ≡ 1
  one_left h n a =
      let d : r.by * n ∣ r.by = subst (λ m. r.by * n ∣ m) (sym (r.same h)) (r.is_shared.greatest (r.by * n) (times_divides n a)) in
      eq-one_of_dvd-one (dvd_of_mul-dvd-mul_left _ r.positive (subst (λ y. r.by * n ∣ y) (sym (mul-one r.by)) d))

  all_zero : r.shared ≡ 0 → All (λ z. z ≡ pos 0) (row.a ++ (row.b ∷ []))
  all_zero e = All-push (λ z. z ≡ pos 0) row.a row.b
      (λ j d h. none (get_or row.a j d) (side_size j d h ∙ gone (suc j) (omega (arith, r.size))))
      (none row.b (bound_size ∙ gone 0 (omega arith)))
    where
      gone : (j : ℕ) → j < suc width → unsigned_abs (f j) ≡ 0
      gone j h = eq-zero_of_zero-dvd (subst (λ m. m ∣ unsigned_abs (f j)) e (r.is_shared.divides.each j h))

      none : (z : ℤ) → unsigned_abs z * r.by ≡ 0 → z ≡ pos 0
      none z h = of_size z (factor_zero (unsigned_abs z) r.by r.positive h)

  pub row_primitive : IsPrimitive (row.a ++ (row.b ∷ []))
  row_primitive = by r.shared refl
    where
      by : (n : ℕ) → r.shared ≡ n → IsPrimitive (row.a ++ (row.b ∷ []))
      by zero e = inr (all_zero e)
      by (suc n) e = inl (one_left (omega arith))

  -- an integer that is, times the divisor, a number over den
  scaled_once : (den : ℕ) → 0 < den → (z g : ℤ) → z *ℤ pos r.by ≡ g → int z ≡ (inv_ℚ (int (pos r.by)) *ℚ int (pos den)) *ℚ frac g den
  scaled_once den some z g e =
      let p = int (pos r.by) in
      unit_out (int z) p (positive-not_zero (positive_int r.by r.positive)) ∙ ap (λ u. inv_ℚ p *ℚ u) (sym (int-mul z (pos r.by)) ∙ ap int e ∙ sym (frac_times g den some))
      ∙ regrouped (inv_ℚ p) (int (pos den)) (frac g den)

  pub row_scaled : (a : List ℚ) (b : ℚ) (den : ℕ) → 0 < den → length a ≡ width → ((j : ℕ) → j < width → coordinate a j ≡ frac (neg_ℤ (f (suc j))) den) → b ≡ frac (f 0) den → IsScaledRow a b row.a row.b
  row_scaled a b den some size e h =
      let k = inv_ℚ (int (pos r.by)) *ℚ int (pos den) in
      record {
        factor = k;
        positive = positive-mul (inv_positive (positive_int r.by r.positive)) (positive_int den some);
        left = same_entries (map int row.a) (vec_scale k a) (length-map row.a int ∙ r.size ∙ sym (length-scale k a ∙ size))
            (λ j l.
            let l' : j < length row.a = omega (arith, length-map row.a int) in
            let w : j < width = omega (arith, r.size) in
            get_or-map int row.a j (pos 0) (int (pos 0)) l' ∙ scaled_once den some (get_or row.a j (pos 0)) (neg_ℤ (f (suc j))) (r.sides.each j l')
            ∙ ap (λ u. k *ℚ u) (sym (e j w)) ∙ sym (coordinate-scale k a j));
        right = scaled_once den some row.b (f 0) r.bound ∙ ap (λ u. k *ℚ u) (sym h);
      }

  pub at_most_times : (m : ℕ) → m ≤ m * r.by
  at_most_times m = subst (λ n. n ≤ m * r.by) (mul-one m) (mul-le-mul_left m r.positive)

  -- a row of small numbers
  module _ (small : (j : ℕ) → unsigned_abs (f j) ≤ 2 ^ 62) where
    below : (m j : ℕ) → m * r.by ≡ unsigned_abs (f j) → m ≤ 2 ^ 62
    below m j e = let a = at_most_times m in let b = small j in omega arith

    pub sides_small : IsSmall (2 ^ 62) row.a
    sides_small = record { each = λ j. at j (cases_lt j (length row.a)) }
      where
        at : (j : ℕ) → (j < length row.a) ⊎ (length row.a ≤ j) → unsigned_abs (whole_at row.a j) ≤ 2 ^ 62
        at j (inl h) = below (unsigned_abs (get_or row.a j (pos 0))) (suc j) (side_size j (pos 0) h)
        at j (inr h) = subst (λ z. unsigned_abs z ≤ 2 ^ 62) (sym (get_or_past row.a j (pos 0) h)) (omega arith)

    pub bound_small : unsigned_abs row.b ≤ 2 ^ 62
    bound_small = below (unsigned_abs row.b) 0 bound_size

-- ---- the rows that are written so far, from a row of the table on
pub record AreFilled (f : ℕ → ℕ → ℤ) (width k : ℕ) (rows : List RowInt) : Type 0 where
  pub one_each : length rows ≡ k
  pub each : (r : ℕ) → r < k → IsRowFrom (f r) width (get_or rows r no_row)

-- they are those of a system
pub record HasFilled (f : ℕ → ℕ → ℤ) (width k : ℕ) (s : LinearSystem) : Type 0 where
  pub width_is : s.width ≡ width
  pub list : List RowInt
  pub filled : AreFilled f width k list
  pub rows : s.rows ≡ map whole_row list

pub filled_none : (f : ℕ → ℕ → ℤ) (width : ℕ) (s : LinearSystem) → s.width ≡ width → s.rows ≡ [] → HasFilled f width 0 s
filled_none f width s w e = record { width_is = w; list = []; filled = record { one_each = refl; each = λ r h. absurd (omega arith) }; rows = e }

pub filled_more : (f : ℕ → ℕ → ℤ) (width k : ℕ) (s new : LinearSystem) (row : RowInt) → IsRowFrom (f k) width row → new.width ≡ s.width → new.rows ≡ s.rows ++ (whole_row row ∷ []) → HasFilled f width k s → HasFilled f width (k + 1) new
filled_more f width k s new row i w e h = record {
  width_is = w ∙ h.width_is;
  list = h.list ++ (row ∷ []);
  filled = record {
    one_each = length-append h.list (row ∷ []) ∙ ap (λ n. n + 1) h.filled.one_each;
    each = λ r l. ⊎_elim
        (λ p. subst (λ x. IsRowFrom (f r) width x) (sym (last r p)) (subst (λ y. IsRowFrom (f y) width row) (sym p) i))
        (λ p. subst (λ x. IsRowFrom (f r) width x) (sym (get_or_append_left h.list (row ∷ []) no_row r (omega (arith, h.filled.one_each)))) (h.filled.each r (omega arith)))
        (cases_eq r k);
  };
  rows = e ∙ ap (λ xs. xs ++ (whole_row row ∷ [])) h.rows ∙ sym (map-append whole_row h.list (row ∷ []));
}
  where
    last : (r : ℕ) → r ≡ k → get_or (h.list ++ (row ∷ [])) r no_row ≡ row
    last r p = ap (λ y. get_or (h.list ++ (row ∷ [])) y no_row) (p ∙ sym h.filled.one_each) ∙ get_or-append_seam h.list row [] no_row
