-- The numbers of a table give a list of the rows of the law that it shows.
use Rattle.std.proofs.Common.{◌≡◌, ℕ, zero, suc, ◌<◌, List, length, map, max, ℤ, pos, ◌*ℤ◌, neg_ℤ, int_div, unsigned_abs, refl, sym, ◌∙◌, ap, subst, arith}
use Rattle.std.specs.Int.{◌∣◌}
use Rattle.std.specs.List.{range_with_len}
use Rattle.std.proofs.lemmas.List.FromFn.{length-map-range_with_len, get_or-map-range_with_len}
use Rattle.mpc_exact.specs.Gcd.{gcd}
use Rattle.mpc_exact.proofs.Rational.{int_div_exact}
use Rattle.mpc_linear.specs.declared.integers.RowInt.{RowInt}
use Rattle.mpc_region.specs.SweptRows.{DividesEach, IsSharedBy, IsRowFrom}
use Rattle.mpc_region.proofs.LawRowLists.{no_row}
use Rattle.mpc_region.proofs.SweptDivisors.{abs_negated, shared_none, shared_more}
use Rattle.mpc_region.proofs.SweptRows.{AreFilled, by_positive, by_same, by_divides}

-- the greatest number that divides so many numbers
abbrev shared : (ℕ → ℤ) → ℕ → ℕ
shared f zero = 0
shared f (suc k) = gcd (shared f k) (unsigned_abs (f k))

shared_is : (f : ℕ → ℤ) (k : ℕ) → IsSharedBy f k (shared f k)
shared_is f zero = shared_none f
shared_is f (suc k) = subst (λ n. IsSharedBy f n (shared f (suc k))) (omega arith) (shared_more f k (shared f k) (unsigned_abs (f k)) (shared f (suc k)) refl refl (shared_is f k))

-- ---- one row
module _ (f : ℕ → ℤ) (width : ℕ) where
  abbrev all : ℕ
  all = shared f (suc width)

  abbrev by : ℕ
  by = max all 1

  abbrev side : ℕ → ℤ
  side j = int_div (neg_ℤ (f (suc j))) (pos by)

  abbrev pub row_of : RowInt
  row_of = record { a = map side (range_with_len 0 width); b = int_div (f 0) (pos by) }

  divides : DividesEach by f (suc width)
  divides = by_divides f (suc width) all by (shared_is f (suc width)) refl

  size : length row_of.a ≡ width
  size = length-map-range_with_len side 0 width

  pub row_is : IsRowFrom f width row_of
  row_is = record {
    by = by;
    shared = all;
    positive = by_positive f (suc width) all by (shared_is f (suc width)) refl;
    is_shared = shared_is f (suc width);
    same = by_same f (suc width) all by (shared_is f (suc width)) refl;
    size = size;
    sides = record {
      each = λ j h.
          let l : j < width = omega (arith, size) in
          ap (λ z. z *ℤ pos by) (get_or-map-range_with_len side 0 width j j (pos 0) l (omega arith))
          ∙ int_div_exact (neg_ℤ (f (suc j))) by (subst (λ n. by ∣ n) (sym (abs_negated (f (suc j)))) (divides.each (suc j) (omega arith)));
    };
    bound = int_div_exact (f 0) by (divides.each 0 (omega arith));
  }

-- ---- all rows
module _ (f : ℕ → ℕ → ℤ) (width k : ℕ) where
  abbrev pub rows_of : List RowInt
  rows_of = map (λ r. row_of (f r) width) (range_with_len 0 k)

  pub rows_are : AreFilled f width k rows_of
  rows_are = record {
    one_each = length-map-range_with_len (λ r. row_of (f r) width) 0 k;
    each = λ r h. subst (IsRowFrom (f r) width) (sym (get_or-map-range_with_len (λ r. row_of (f r) width) 0 k r r no_row h (omega arith))) (row_is (f r) width);
  }
