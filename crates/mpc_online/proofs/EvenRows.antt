-- Rows and right sides over one denominator.
use Rattle.std.proofs.Common.{◌≡◌, ℕ, zero, suc, ◌+◌, ◌-◌, ◌*◌, ◌^◌, ◌<◌, ◌≤◌, ◌↔◌, List, [], ◌∷◌, ◌++◌, length, get_or, ℤ, pos, ◌-ℤ◌, ◌*ℤ◌, ◌<ℤ◌, neg_ℤ, unsigned_abs, to_z, of_z, Bool, IsTrue, sym, ◌∙◌, ap, subst, subst₂, arith, mul-pos, ⊎_elim}
use Rattle.std.specs.Int.{w128}
use Rattle.std.proofs.lemmas.Bool.{cases_eq}
use Rattle.std.proofs.lemmas.Int.{ints}
use Rattle.std.proofs.lemmas.List.{length-append, get_or_append_left, get_or-append_right}
use Rattle.mpc_exact.specs.Rational.{ℚ, frac, int, ◌+ℚ◌, ◌-ℚ◌, ◌<ℚ◌, neg_ℚ, IsPositive}
use Rattle.mpc_exact.proofs.OrderTheorems.{*ℚ-<ℚ, *ℚ-<ℚ_cancel}
use Rattle.mpc_exact.proofs.Rational.{frac-neg}
use Rattle.mpc_exact.proofs.School.{frac_expand, frac_times, int_lt, natural_lt}
use Rattle.mpc_frac.specs.Fits.{FitsSum}
use Rattle.mpc_space.specs.Vector.{coordinate, dot, listed, mat_vec}
use Rattle.mpc_space.specs.Matrix.{RationalMatrix, height, IsRectangular}
use Rattle.mpc_space.proofs.Matrix.{length-mat_vec, coordinate-mat_vec}
use Rattle.mpc_space.proofs.Entries.{same_entries, length-listed, coordinate-listed}
use Rattle.mpc_linear.specs.Dot.{DotFits}
use Rattle.mpc_rows.specs.ActiveSets.{row_of}
use Rattle.mpc_rows.specs.declared.programs.Qp.{Qp}
use Rattle.mpc_wholes.specs.declared.numbers.Wholes.{Wholes}
use Rattle.mpc_wholes.specs.Wholes.{IsOver, AreOver, AreRowsOver}
use Rattle.mpc_wholes.specs.OverTheorems.{OverTheorems}
use Rattle.mpc_online.specs.StateRows.{level, side, IsViolated}
use Rattle.mpc_online.specs.Widths.{ProductsFit, TestFits}
use Rattle.mpc_online.specs.Wholes.{first_of}
use Rattle.mpc_online.specs.Sizes.{AreSmallSides}
use Rattle.mpc_online.specs.Evens.{even_sides}
use Rattle.mpc_online.specs.declared.sides.EvenSides.{EvenSides}
use Rattle.mpc_online.proofs.WholeDots.{read_wide, product_at_most, both_at_most}
use Rattle.mpc_online.proofs.WholeMoves.{first_over}

-- ---- numbers that are made one after another
pub record AreMade (P : ℕ → ℤ → Type 0) (xs : List ℤ) (n : ℕ) : Type 0 where
  pub size : length xs ≡ n
  pub at : (k : ℕ) → k < n → P k (get_or xs k (pos 0))

pub made_none : (P : ℕ → ℤ → Type 0) (xs : List ℤ) → xs ≡ [] → AreMade P xs 0
made_none P xs e = record { size = (let g : length xs ≡ 0 = ap length e in g); at = λ k h. absurd (omega arith) }

pub made_more : (P : ℕ → ℤ → Type 0) (xs ys : List ℤ) (n : ℕ) (v : ℤ) → ys ≡ xs ++ v ∷ [] → P n v → AreMade P xs n → AreMade P ys (n + 1)
made_more P xs ys n v e is h = record {
  size = (let f : length ys ≡ length (xs ++ v ∷ []) = ap length e in f) ∙ length-append xs (v ∷ []) ∙ ap (λ k. k + 1) h.size;
  at = λ k l. ⊎_elim
      (λ q. subst (P k)
      (sym (ap (λ zs. get_or zs k (pos 0)) e ∙ get_or-append_right xs (v ∷ []) n k (pos 0) h.size (omega arith)
      ∙ (let z : k - n ≡ 0 = omega arith in ap (λ j. get_or (v ∷ []) j (pos 0)) z))) (subst (λ j. P j v) (sym q) is))
      (λ q. subst (P k) (sym (ap (λ zs. get_or zs k (pos 0)) e ∙ get_or_append_left xs (v ∷ []) (pos 0) k (omega (arith, h.size)))) (h.at k (omega arith)))
      (cases_eq k n);
}

pub number_read : (xs : List ℤ) (i : ℕ) (x : ℤ) → i < length xs → x ≡ get_or xs i x → x ≡ get_or xs i (pos 0)
number_read [] i x h e = absurd (omega arith)
number_read (y ∷ xs) zero x h e = e
number_read (y ∷ xs) (suc i) x h e = number_read xs i x (omega arith) e

-- ---- what is read of right sides
module _ (e : EvenSides) (k : ℕ) (h : k < length (even_sides e)) where
  pub even_within : k < length e.numerators.items
  even_within = let n = length-listed (length e.numerators.items) (λ j. frac (get_or e.numerators.items j (pos 0)) e.den) in omega (arith, h, n)

  pub even_den : e.den < 2 ^ 127
  even_den = let d = e.small.den_small in omega (arith, d)

  module _ (n : ℤ) (is : n ≡ get_or e.numerators.items k n) where
    pub even_read : frac n e.den ≡ coordinate (even_sides e) k
    even_read =
        ap (λ z. frac z e.den) (number_read e.numerators.items k n even_within is)
        ∙ sym (coordinate-listed (length e.numerators.items) (λ j. frac (get_or e.numerators.items j (pos 0)) e.den) k even_within)

    pub even_number : unsigned_abs n < 2 ^ 127
    even_number =
        let s : unsigned_abs n ≤ 6 * 2 ^ 64 = subst (λ z. unsigned_abs z ≤ 6 * 2 ^ 64) (sym (number_read e.numerators.items k n even_within is)) (e.small.numbers k even_within) in
        omega (arith, s)

    -- also as the code hands it on
    pub even_handed : to_z w128 (of_z w128 n) ≡ get_or e.numerators.items k (pos 0)
    even_handed = read_wide n even_number ∙ number_read e.numerators.items k n even_within is

-- ---- the right sides at a state
pub record IsProduct (m : RationalMatrix) (den : ℕ) (counts : Wholes) (count k : ℕ) (z : ℤ) : Type 0 where
  pub small : unsigned_abs z ≤ 6 * 2 ^ 64
  pub is : (c : List ℚ) → IsOver c counts → length c ≡ count → coordinate (mat_vec m.rows c) k ≡ frac z den
  pub fits : (c : List ℚ) → IsOver c counts → length c ≡ count → DotFits (get_or m.rows k []) c

module _ (m : RationalMatrix) (den : ℕ) (counts : Wholes) (count : ℕ) where
  pub product_is : IsRectangular m → count ≡ m.columns → counts.den ≡ 1 → counts.most ≤ 2 ^ 20 → (k : ℕ) → k < height m → (row : Wholes) → AreOver (get_or m.rows k []) den (2 ^ 44) row → (z : ℤ) → unsigned_abs z ≤ 6 * (row.most * counts.most)
      → ((xs ys : List ℚ) → IsOver xs row → IsOver ys counts → length xs ≡ count → length ys ≡ count → dot xs ys ≡ frac z (row.den * counts.den))
      → ((xs ys : List ℚ) → IsOver xs row → IsOver ys counts → length xs ≡ count → length ys ≡ count → DotFits xs ys) → IsProduct m den counts count k z
  product_is rectangular columns whole small k within row over z size value fits = record {
    small = (let r : row.most * counts.most ≤ 2 ^ 44 * 2 ^ 20 = both_at_most row.most counts.most (2 ^ 44) (2 ^ 20) over.most small in omega (arith, r, size));
    is = λ c o l. coordinate-mat_vec m.rows c k ∙ value (get_or m.rows k []) c over.over o (rectangular k [] within ∙ sym columns) l
        ∙ ap (frac z) ((λ i. over.den_is i * whole i) ∙ (let e : den * 1 ≡ den = omega arith in e));
    fits = λ c o l. fits (get_or m.rows k []) c over.over o (rectangular k [] within ∙ sym columns) l;
  }

  module _ (zs : List ℤ) (made : AreMade (IsProduct m den counts count) zs (height m)) where
    pub even_small : 0 < den → den ≤ 2 ^ 44 → AreSmallSides zs den
    even_small some small = record { some = some; den_small = small; numbers = λ k h. (made.at k (omega (arith, h, made.size))).small }

    pub even_value : (c : List ℚ) → IsOver c counts → length c ≡ count → listed (length zs) (λ k. frac (get_or zs k (pos 0)) den) ≡ mat_vec m.rows c
    even_value c o l =
        let n = length-listed (length zs) (λ k. frac (get_or zs k (pos 0)) den) in
        same_entries (listed (length zs) (λ k. frac (get_or zs k (pos 0)) den)) (mat_vec m.rows c) (n ∙ made.size ∙ sym (length-mat_vec m.rows c))
        (λ k h. coordinate-listed (length zs) (λ k. frac (get_or zs k (pos 0)) den) k (omega (arith, h, n)) ∙ sym ((made.at k (omega (arith, h, n, made.size))).is c o l))

    pub even_fits : (c : List ℚ) → IsOver c counts → length c ≡ count → ProductsFit m c
    even_fits c o l k h = (made.at k h).fits c o l

-- ---- a dot beside a numerator over the row's denominator
module _ (x y : Wholes) (n : ℤ) (x_small : x.most ≤ 2 ^ 44) (y_small : y.most ≤ 2 ^ 58) (n_small : unsigned_abs n ≤ 6 * 2 ^ 64) where
  pub room : x.most * y.most ≤ 2 ^ 102
  room = let r : x.most * y.most ≤ 2 ^ 44 * 2 ^ 58 = both_at_most x.most y.most (2 ^ 44) (2 ^ 58) x_small y_small in omega (arith, r)

  y_den : y.den ≤ 2 ^ 58
  y_den = let d = y.at_most.den_small in omega (arith, d, y_small)

  scaled_at_most : unsigned_abs (n *ℤ pos y.den) ≤ 6 * 2 ^ 64 * 2 ^ 58
  scaled_at_most = product_at_most n (pos y.den) (6 * 2 ^ 64) (2 ^ 58) n_small y_den

  pub scaled_small : unsigned_abs (n *ℤ pos y.den) < 2 ^ 127
  scaled_small = let s = scaled_at_most in omega (arith, s)

  all_some : 0 < x.den * y.den
  all_some = mul-pos x.at_most.some y.at_most.some

  all_small : x.den * y.den < 2 ^ 127
  all_small = let r = room in let d = both_at_most x.den y.den x.most y.most x.at_most.den_small y.at_most.den_small in omega (arith, r, d)

  side_over : frac n x.den ≡ frac (n *ℤ pos y.den) (x.den * y.den)
  side_over = sym (frac_expand n x.den y.den x.at_most.some y.at_most.some)

  abs_neg : (z : ℤ) → unsigned_abs (neg_ℤ z) ≡ unsigned_abs z
  abs_neg z = omega (arith, ints)

  pub side_fits : (l : ℤ) → unsigned_abs l ≤ 6 * (x.most * y.most) → OverTheorems → FitsSum (frac l (x.den * y.den)) (neg_ℚ (frac n x.den))
  side_fits l size laws =
      let a = room in let b = scaled_at_most in
      let e = abs_neg (n *ℤ pos y.den) in
      subst (λ v. FitsSum (frac l (x.den * y.den)) v) (sym (ap neg_ℚ side_over ∙ frac-neg (n *ℤ pos y.den) (x.den * y.den) all_some))
      (laws.both l (neg_ℤ (n *ℤ pos y.den)) (x.den * y.den) all_some (omega (arith, a, b, e, size)) all_small)

  pub excess_is : (l : ℤ) → OverTheorems → frac (l -ℤ n *ℤ pos y.den) (x.den * y.den) ≡ frac l (x.den * y.den) -ℚ frac n x.den
  excess_is l laws =
      sym (laws.sum l (neg_ℤ (n *ℤ pos y.den)) (x.den * y.den) all_some)
      ∙ ap (λ v. frac l (x.den * y.den) +ℚ v) (sym (ap neg_ℚ side_over ∙ frac-neg (n *ℤ pos y.den) (x.den * y.den) all_some))

  positive_all : IsPositive (int (pos (x.den * y.den)))
  positive_all = (natural_lt 0 (x.den * y.den)).1 all_some

  pub above_side : (l : ℤ) → (frac n x.den <ℚ frac l (x.den * y.den)) ↔ ((n *ℤ pos y.den) <ℤ l)
  above_side l = (
    λ h. (int_lt (n *ℤ pos y.den) l).0
        (subst₂ (λ u v. u <ℚ v) (frac_times (n *ℤ pos y.den) (x.den * y.den) all_some) (frac_times l (x.den * y.den) all_some)
        (*ℚ-<ℚ positive_all (subst (λ u. u <ℚ frac l (x.den * y.den)) side_over h))),
    λ h. subst (λ u. u <ℚ frac l (x.den * y.den)) (sym side_over)
        (*ℚ-<ℚ_cancel positive_all (subst₂ (λ u v. u <ℚ v) (sym (frac_times (n *ℤ pos y.den) (x.den * y.den) all_some)) (sym (frac_times l (x.den * y.den) all_some))
        ((int_lt (n *ℤ pos y.den) l).1 h))),
  )

-- ---- the test of a row
module _ (qp : Qp) (e : EvenSides) (w : Wholes) (count : ℕ) (rows : List Wholes) (over : AreRowsOver qp.g e.den (2 ^ 44) rows) (b_size : length (even_sides e) ≡ height qp.g) (count_is : count ≡ height qp.h) (few : count ≤ 6) (k : ℕ) (l : k < length rows) (row : Wholes) (row_is : row ≡ get_or rows k row) where
  pub within : k < height qp.g
  within = omega (arith, l, over.size)

  row_over : AreOver (get_or qp.g.rows k []) e.den (2 ^ 44) row
  row_over = subst (AreOver (get_or qp.g.rows k []) e.den (2 ^ 44)) (sym row_is) (over.at k row within)

  pub row_small : row.most ≤ 2 ^ 44
  row_small = row_over.most

  pub in_sides : k < length (even_sides e)
  in_sides = omega (arith, within, b_size)

  within_sides : k < length e.numerators.items
  within_sides = even_within e k in_sides

  back : k + 1 - 1 ≡ k
  back = omega arith

  row_at : get_or qp.g.rows k [] ≡ row_of qp.g.rows (k + 1)
  row_at = ap (λ j. get_or qp.g.rows j []) (sym back)

  row_size : length (row_of qp.g.rows (k + 1)) ≡ count
  row_size = ap length (sym row_at) ∙ qp.is_program.g_shape.rectangular k [] within ∙ qp.is_program.g_shape.columns_are ∙ sym count_is

  of_row : (P : List ℚ → List ℚ → Type 0) → ((xs ys : List ℚ) → IsOver xs row → IsOver ys w → length xs ≡ count → length ys ≡ count → P xs ys) → P (row_of qp.g.rows (k + 1)) (first_of w count)
  of_row P h =
      h (row_of qp.g.rows (k + 1)) (first_of w count) (subst (λ xs. IsOver xs row) row_at row_over.over)
      (first_over w count (let s = w.at_most.size in omega (arith, few, s))) row_size (length-listed count (λ j. frac (get_or w.numerators j (pos 0)) w.den))

  module _ (n : ℤ) (n_read : n ≡ get_or e.numerators.items k (pos 0)) where
    pub numerator_small : unsigned_abs n ≤ 6 * 2 ^ 64
    numerator_small = subst (λ z. unsigned_abs z ≤ 6 * 2 ^ 64) (sym n_read) (e.small.numbers k within_sides)

    side_is : frac n row.den ≡ side (even_sides e) (k + 1)
    side_is =
        (λ i. frac (n_read i) (row_over.den_is i)) ∙ sym (coordinate-listed (length e.numerators.items) (λ j. frac (get_or e.numerators.items j (pos 0)) e.den) k within_sides)
        ∙ ap (coordinate (even_sides e)) (sym back)

    pub violated_even : (above : Bool) → ((xs ys : List ℚ) → IsOver xs row → IsOver ys w → length xs ≡ count → length ys ≡ count → IsTrue above ↔ (frac n row.den <ℚ dot xs ys)) → IsTrue above ↔ IsViolated qp (even_sides e) (first_of w count) (k + 1)
    violated_even above h =
        let g = of_row (λ xs ys. IsTrue above ↔ (frac n row.den <ℚ dot xs ys)) h in (
          λ t. record { above = subst (λ x. x <ℚ level qp (first_of w count) (k + 1)) side_is (g.0 t) },
          λ v. g.1 (subst (λ x. x <ℚ level qp (first_of w count) (k + 1)) (sym side_is) v.above),
        )

    pub excess_even : (v : ℚ) → ((xs ys : List ℚ) → IsOver xs row → IsOver ys w → length xs ≡ count → length ys ≡ count → v ≡ dot xs ys -ℚ frac n row.den) → v ≡ level qp (first_of w count) (k + 1) -ℚ side (even_sides e) (k + 1)
    excess_even v h = of_row (λ xs ys. v ≡ dot xs ys -ℚ frac n row.den) h ∙ ap (λ x. level qp (first_of w count) (k + 1) -ℚ x) side_is

    pub test_fits_even : ((xs ys : List ℚ) → IsOver xs row → IsOver ys w → length xs ≡ count → length ys ≡ count → DotFits xs ys × FitsSum (dot xs ys) (neg_ℚ (frac n row.den))) → TestFits qp (even_sides e) (first_of w count) (k + 1)
    test_fits_even h =
        let g = of_row (λ xs ys. DotFits xs ys × FitsSum (dot xs ys) (neg_ℚ (frac n row.den))) h in
        record { product = g.0; difference = subst (λ x. FitsSum (level qp (first_of w count) (k + 1)) (neg_ℚ x)) side_is g.1 }
