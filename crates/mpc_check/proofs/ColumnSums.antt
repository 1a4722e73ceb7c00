-- The sums of columns of the rows that a certificate names, entry by entry.
use Rattle.std.proofs.Common.{◌≡◌, ℕ, ◌+◌, ◌-◌, ◌^◌, ◌<◌, ◌≤◌, ◌⊎◌, inl, inr, ◌↔◌, Bool, true, IsTrue, List, [], ◌∷◌, length, get_or, Some, ℤ, pos, ◌+ℤ◌, ◌*ℤ◌, ◌<ℤ◌, unsigned_abs, sym, ◌∙◌, ap, subst, subst₂, arith, below_more}
use Rattle.std.specs.Prelude.{slice_get}
use Rattle.std.proofs.lemmas.Bool.{cases_eq}
use Rattle.std.proofs.lemmas.List.{get_or-map, get_or_default, length-map}
use Rattle.std.proofs.lemmas.Option.{slice_get-get_or, slice_get_within, get_or_from_slice_get}
use Rattle.mpc_exact.specs.Rational.{ℚ, frac, int, ◌*ℚ◌, ◌<ℚ◌, IsNonneg, IsPositive}
use Rattle.mpc_exact.proofs.OrderTheorems.{*ℚ-<ℚ, *ℚ-<ℚ_cancel, negative-not_zero}
use Rattle.mpc_exact.proofs.RationalRing.{reads, by_ring}
use Rattle.mpc_exact.proofs.School.{frac_times, int_lt, natural_lt}
use Rattle.mpc_space.specs.Vector.{coordinate, dot, AllNonneg}
use Rattle.mpc_space.proofs.Entries.{nonneg_by_entries}
use Rattle.mpc_linear.specs.Dot.{DotFits}
use Rattle.mpc_linear.specs.SumTheorems.{SumTheorems, IsSumSoFar, StandAt}
use Rattle.mpc_wholes.specs.OverTheorems.{OverTheorems}
use Rattle.mpc_rows.specs.declared.systems.Row.{Row}
use Rattle.mpc_rows.specs.LinearSystem.{LinearSystem, no_row}
use Rattle.mpc_rows.specs.Refutation.{coefficients_on, right_sides, ColumnsFit, CombinesToZero, WeighsStrict, Refutes}
use Rattle.mpc_check.specs.declared.whole_sums.Column.{Column}
use Rattle.mpc_check.specs.Columns.{number_in, picked_column}
use Rattle.mpc_check.specs.Picks.{picked_rows, weights}
use Rattle.mpc_check.proofs.SumLemmas.{from_nought}
use Rattle.mpc_check.proofs.WholeSums.{next_is, term_fits, zero_over, zero_at}

-- ---- the sum of one column
pub record SumSo (column : Column) (s : LinearSystem) (cert : List (ℕ × ℚ)) (all i : ℕ) (total : ℤ) : Type 0 where
  pub so_far : IsSumSoFar (int (pos 0)) (weights cert) (picked_column column s cert) i (frac total all)
  pub small : unsigned_abs total ≤ 2 ^ 126
  pub nonneg : (k : ℕ) → k < i → IsNonneg (coordinate (weights cert) k)

pub none_added : SumTheorems → (column : Column) (s : LinearSystem) (cert : List (ℕ × ℚ)) (all : ℕ) → 0 < all → SumSo column s cert all 0 (pos 0)
none_added laws column s cert all some = record {
  so_far = subst (λ x. IsSumSoFar (int (pos 0)) (weights cert) (picked_column column s cert) 0 x) (sym (zero_over all some)) (laws.none (int (pos 0)) (weights cert) (picked_column column s cert));
  small = omega arith;
  nonneg = λ k h. absurd (omega arith);
}

-- the entry of a certificate at a place
module _ (s : LinearSystem) (cert entries : List (ℕ × ℚ)) (same : entries ≡ cert) (i : ℕ) (d : ℕ × ℚ) (h : i < length entries) where
  abbrev named : Row
  named = get_or s.rows ((get_or entries i d).0 - 1) no_row

  entry_is : get_or entries i d ≡ get_or cert i d
  entry_is = ap (λ c. get_or c i d) same

  within : i < length cert
  within = subst (λ (c : List (ℕ × ℚ)). i < length c) same h

  pub weight_at : (get_or entries i d).1 ≡ coordinate (weights cert) i
  weight_at = ap (λ (e : ℕ × ℚ). e.1) entry_is ∙ sym (get_or-map (λ (e : ℕ × ℚ). e.1) cert i d (int (pos 0)) within)

  in_weights : i < length (weights cert)
  in_weights = subst (λ n. i < n) (sym (length-map cert (λ (e : ℕ × ℚ). e.1))) within

  in_picked : i < length (picked_rows s.rows cert)
  in_picked = subst (λ n. i < n) (sym (length-map cert (λ (e : ℕ × ℚ). get_or s.rows (e.0 - 1) no_row))) within

  named_is : named ≡ get_or (picked_rows s.rows cert) i no_row
  named_is = ap (λ (e : ℕ × ℚ). get_or s.rows (e.0 - 1) no_row) entry_is ∙ sym (get_or-map (λ (e : ℕ × ℚ). get_or s.rows (e.0 - 1) no_row) cert i d no_row within)

  pub picked_at : slice_get (picked_rows s.rows cert) i ≡ Some named
  picked_at = slice_get-get_or (picked_rows s.rows cert) i no_row in_picked ∙ ap Some (sym named_is)

  module _ (laws : SumTheorems) (over : OverTheorems) (column : Column) (all : ℕ) (some : 0 < all) (few : all ≤ 2 ^ 124) (total weight number : ℤ) (g : SumSo column s cert all i total) (e : ℕ × ℚ) (w : (get_or entries i e).1 ≡ frac weight all) (nonneg : IsNonneg (get_or entries i e).1) (w_small : unsigned_abs weight ≤ 2 ^ 62) (n : int number ≡ number_in column named) (n_small : unsigned_abs number ≤ 2 ^ 62) where
    in_column : i < length (picked_column column s cert)
    in_column = subst (λ k. i < k) (sym (length-map (picked_rows s.rows cert) (number_in column))) in_picked

    number_at : int number ≡ coordinate (picked_column column s cert) i
    number_at = n ∙ ap (number_in column) named_is ∙ sym (get_or-map (number_in column) (picked_rows s.rows cert) i no_row (int (pos 0)) in_picked)

    there : (get_or entries i e).1 ≡ coordinate (weights cert) i
    there = ap (λ (x : ℕ × ℚ). x.1) (get_or_default entries i e d h) ∙ weight_at

    stand : StandAt (weights cert) (picked_column column s cert) i (frac weight all) (int number)
    stand = record { within_left = in_weights; within_right = in_column; left = sym w ∙ there; right = number_at }

    pub sum_more : (next : ℤ) → next ≡ total +ℤ (weight *ℤ number) → unsigned_abs next ≤ 2 ^ 126 → SumSo column s cert all (i + 1) next
    sum_more next is small = record {
      so_far = laws.more (int (pos 0)) (weights cert) (picked_column column s cert) i (frac total all) (frac weight all) (int number) (frac next all) stand g.so_far (next_is over all some few total weight number g.small w_small n_small next is) (term_fits over all some few total weight number g.small w_small n_small);
      small = small;
      nonneg = below_more (λ k. IsNonneg (coordinate (weights cert) k)) i g.nonneg (subst (λ x. IsNonneg x) there nonneg);
    }

module _ (laws : SumTheorems) (column : Column) (s : LinearSystem) (cert : List (ℕ × ℚ)) (all i : ℕ) (total : ℤ) (g : SumSo column s cert all i total) (h : length cert ≤ i) where
  over : length (weights cert) ≤ i
  over = subst (λ n. n ≤ i) (sym (length-map cert (λ (e : ℕ × ℚ). e.1))) h

  pub sum_value : dot (weights cert) (picked_column column s cert) ≡ frac total all
  sum_value = sym (laws.value (int (pos 0)) (weights cert) (picked_column column s cert) i (frac total all) over g.so_far ∙ from_nought (dot (weights cert) (picked_column column s cert)))

  pub sum_fits : DotFits (weights cert) (picked_column column s cert)
  sum_fits = laws.fits (int (pos 0)) (weights cert) (picked_column column s cert) i (frac total all) over g.so_far

  pub all_nonneg : AllNonneg (weights cert)
  all_nonneg = nonneg_by_entries (weights cert) (λ k l. g.nonneg k (let o = over in omega arith))

-- ---- the sums of the unknowns
-- those of the unknowns below j fit, and the flag says whether they are all 0
pub record ColumnsSo (rows : List Row) (m : List ℚ) (j : ℕ) (zero : Bool) : Type 0 where
  pub fits : (k : ℕ) → k < j → DotFits m (coefficients_on k rows)
  pub zeros : zero ≡ true → (k : ℕ) → k < j → dot m (coefficients_on k rows) ≡ int (pos 0)
  pub back : ((k : ℕ) → k < j → dot m (coefficients_on k rows) ≡ int (pos 0)) → zero ≡ true

pub columns_more : (rows : List Row) (m : List ℚ) (j : ℕ) (zero next : Bool) (all : ℕ) (sum : ℤ) → 0 < all → ColumnsSo rows m j zero → DotFits m (coefficients_on j rows) → dot m (coefficients_on j rows) ≡ frac sum all → IsTrue next ↔ (IsTrue zero × (sum ≡ pos 0)) → ColumnsSo rows m (j + 1) next
columns_more rows m j zero next all sum some g fits value r = record {
  fits = below_more (λ k. DotFits m (coefficients_on k rows)) j g.fits fits;
  zeros = λ t. below_more (λ k. dot m (coefficients_on k rows) ≡ int (pos 0)) j (g.zeros (r.0 t).0) (value ∙ ap (λ z. frac z all) (r.0 t).1 ∙ zero_over all some);
  back = λ h. r.1 (g.back (λ k l. h k (omega arith)), zero_at sum all some (sym value ∙ h j (omega arith)));
}

-- ---- strict rows
-- no strict row before row i has a positive multiplier
abbrev pub NoneBefore : List Row → List ℚ → ℕ → Type 0
NoneBefore rows m i = (w : WeighsStrict rows m) → w.place < i → ⊥

module _ (rows : List Row) (m : List ℚ) (i : ℕ) (r : Row) (x : ℚ) (is : slice_get rows i ≡ Some r) (ex : x ≡ coordinate m i) where
  pub strict_found : (r.strict ≡ true) × (int (pos 0) <ℚ x) → WeighsStrict rows m
  strict_found h = record { place = i; row = r; is = is; strict = h.0; positive = subst (λ z. int (pos 0) <ℚ z) ex h.1 }

  pub none_more : ((r.strict ≡ true) × (int (pos 0) <ℚ x) → ⊥) → NoneBefore rows m i → NoneBefore rows m (i + 1)
  none_more never before w h = by (cases_eq w.place i)
    where
      at : (e : w.place ≡ i) → r ≡ w.row
      at e = sym (get_or_from_slice_get rows i r r is) ∙ ap (λ k. get_or rows k r) (sym e) ∙ get_or_from_slice_get rows w.place w.row r w.is

      by : (w.place ≡ i) ⊎ (w.place ≡ i → ⊥) → ⊥
      by (inl e) = never (ap (λ (z : Row). z.strict) (at e) ∙ w.strict, subst (λ z. int (pos 0) <ℚ z) (ap (coordinate m) e ∙ sym ex) w.positive)
      by (inr e) = before w (omega arith)

pub none_at_all : (rows : List Row) (m : List ℚ) (i : ℕ) → length rows ≤ i → NoneBefore rows m i → WeighsStrict rows m → ⊥
none_at_all rows m i h before w = let k : w.place < length rows = slice_get_within rows w.place w.row w.is in before w (omega arith)

-- ---- what the sums say
times_nought : (x : ℚ) → x *ℚ int (pos 0) ≡ int (pos 0)
times_nought x = by_ring (x ∷ []) (search reads depth 30) (search reads depth 30) tt

module _ (s : LinearSystem) (m : List ℚ) (nonneg : AllNonneg m) (zero : Bool) (left : IsTrue zero ↔ CombinesToZero s m) (all : ℕ) (some : 0 < all) (side : ℤ) (value : dot m (right_sides s.rows) ≡ frac side all) where
  some_times : IsPositive (int (pos all))
  some_times = (natural_lt 0 all).1 some

  no_times : int (pos all) *ℚ int (pos 0) ≡ int (pos 0)
  no_times = times_nought (int (pos all))

  below : side <ℤ pos 0 → frac side all <ℚ int (pos 0)
  below h = *ℚ-<ℚ_cancel some_times (subst₂ (λ x y. x <ℚ y) (sym (frac_times side all some)) (sym no_times) ((int_lt side (pos 0)).1 h))

  is_below : frac side all <ℚ int (pos 0) → side <ℤ pos 0
  is_below h = (int_lt side (pos 0)).0 (subst₂ (λ x y. x <ℚ y) (frac_times side all some) no_times (*ℚ-<ℚ some_times h))

  pub by_strict : zero ≡ true → side ≡ pos 0 → (found : Bool) → IsTrue found ↔ WeighsStrict s.rows m → IsTrue found ↔ Refutes s m
  by_strict is_zero e found f = (λ t. record { nonneg = nonneg; left = left.0 is_zero; right = inr (nought, f.0 t) }, λ r. f.1 (weighs r.right))
    where
      nought : dot m (right_sides s.rows) ≡ int (pos 0)
      nought = value ∙ ap (λ z. frac z all) e ∙ zero_over all some

      weighs : (dot m (right_sides s.rows) <ℚ int (pos 0)) ⊎ ((dot m (right_sides s.rows) ≡ int (pos 0)) × WeighsStrict s.rows m) → WeighsStrict s.rows m
      weighs (inl l) = absurd (negative-not_zero l nought)
      weighs (inr r) = r.1

  pub by_side : zero ≡ true → ¬ (side ≡ pos 0) → (found : Bool) → IsTrue found ↔ (side <ℤ pos 0) → IsTrue found ↔ Refutes s m
  by_side is_zero ne found f = (λ t. record { nonneg = nonneg; left = left.0 is_zero; right = inl (subst (λ x. x <ℚ int (pos 0)) (sym value) (below (f.0 t))) }, λ r. f.1 (negative r.right))
    where
      negative : (dot m (right_sides s.rows) <ℚ int (pos 0)) ⊎ ((dot m (right_sides s.rows) ≡ int (pos 0)) × WeighsStrict s.rows m) → side <ℤ pos 0
      negative (inl l) = is_below (subst (λ x. x <ℚ int (pos 0)) value l)
      negative (inr r) = absurd (ne (zero_at side all some (sym value ∙ r.0)))

-- the sums of all unknowns
pub all_zero : (s : LinearSystem) (m : List ℚ) (j : ℕ) (zero : Bool) → s.width ≤ j → ColumnsSo s.rows m j zero → (j ≤ s.width) → IsTrue zero ↔ CombinesToZero s m
all_zero s m j zero h g k = (λ t. record { on = λ u l. g.zeros t u (omega arith) }, λ c. g.back (λ u l. c.on u (omega arith)))

pub all_fit : (s : LinearSystem) (m : List ℚ) (j : ℕ) (zero : Bool) → s.width ≤ j → ColumnsSo s.rows m j zero → ColumnsFit s m
all_fit s m j zero h g = record { on = λ u l. g.fits u (omega arith) }
