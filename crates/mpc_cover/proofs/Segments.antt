-- Combinations of rows along a direction, and the segment from a point inside a row to one outside, cut at the row's border.
use Rattle.std.proofs.Common.{◌≡◌, ℕ, ◌≤◌, List, [], ◌∷◌, ◌++◌, length, map, pos, refl, sym, ◌∙◌, ap, subst, arith, inl, inr}
use Rattle.std.specs.List.{AllByRecursion}
use Rattle.mpc_exact.specs.Rational.{ℚ, int, ◌+ℚ◌, ◌-ℚ◌, ◌*ℚ◌, ◌/ℚ◌, ◌≤ℚ◌, ◌<ℚ◌, IsNonneg, IsPositive}
use Rattle.mpc_exact.proofs.RationalRing.{reads, by_ring, by_equations}
use Rattle.mpc_exact.proofs.RationalOrder.{gap, nonneg_int, nonneg-add, by_le, nonneg-mul, ≤ℚ_of_<, ≤ℚ_refl, inv_positive}
use Rattle.mpc_exact.proofs.OrderTheorems.{positive-not_zero, /ℚ-≤ℚ, product_nonpositive}
use Rattle.mpc_exact.proofs.Rational.{+ℚ_assoc, *ℚ_one}
use Rattle.mpc_exact.proofs.Linear.{linear_le, linear_lt, claims, none, le, lt}
use Rattle.mpc_space.specs.Vector.{coordinate, later_entries, dot, vec_add, vec_scale, vec_sub, mat_vec, vec_mat, IsZero, AllNonneg, AllAtMost, IsIndependent}
use Rattle.mpc_space.proofs.Entries.{length-add, length-scale, length-sub, dot_nil}
use Rattle.mpc_space.proofs.Vector.{dot_comm, dot-sub_right}
use Rattle.mpc_sets.specs.RowSet.{Among}
use Rattle.mpc_cover.proofs.Systems.{dot_combination, dot_along, arrives}

pub lengths_of : (n : ℕ) (a : ℕ → List ℚ) → ((i : ℕ) → length (a i) ≤ n) → (s : List ℕ) → AllByRecursion (λ row. length row ≤ n) (map a s)
lengths_of n a h [] = tt
lengths_of n a h (i ∷ s) = (h i, lengths_of n a h s)

-- ---- rows a 1, a 2, .. with the bounds b 1, b 2, ..
module _ (a : ℕ → List ℚ) (b : ℕ → ℚ) where
  -- z meets the first k rows
  abbrev pub MeetsFirst : ℕ → List ℚ → Type 0
  MeetsFirst k z = (i : ℕ) → 1 ≤ i → i ≤ k → dot (a i) z ≤ℚ b i

  -- z meets the rows of s with equality
  abbrev pub Holds : List ℕ → List ℚ → Type 0
  Holds s z = AllByRecursion (λ i. dot (a i) z ≡ b i) s

  pub holds_among : (s : List ℕ) (z : List ℚ) → Holds s z → (i : ℕ) → Among i s → dot (a i) z ≡ b i
  holds_among [] z h i m = absurd m
  holds_among (j ∷ s) z h i (inl e) = subst (λ u. dot (a u) z ≡ b u) (sym e) h.0
  holds_among (j ∷ s) z h i (inr m) = holds_among s z h.1 i m

  pub holds-append : (s u : List ℕ) (z : List ℚ) → Holds s z → Holds u z → Holds (s ++ u) z
  holds-append [] u z h k = k
  holds-append (j ∷ s) u z h k = (h.0, holds-append s u z h.1 k)

  pub holds_from_rows : (s : List ℕ) (z : List ℚ) → mat_vec (map a s) z ≡ map b s → Holds s z
  holds_from_rows [] z e = tt
  holds_from_rows (j ∷ s) z e = (ap (λ u. coordinate u 0) e, holds_from_rows s z (ap later_entries e))

  pub rows_from_holds : (s : List ℕ) (z : List ℚ) → Holds s z → mat_vec (map a s) z ≡ map b s
  rows_from_holds [] z h = refl
  rows_from_holds (j ∷ s) z h = λ i. h.0 i ∷ rows_from_holds s z h.1 i

  pub met_among : (s : List ℕ) (z : List ℚ) → ((i : ℕ) → Among i s → dot (a i) z ≤ℚ b i) → AllAtMost (mat_vec (map a s) z) (map b s)
  met_among [] z h = tt
  met_among (i ∷ s) z h = (h i (inl refl), met_among s z (λ j m. h j (inr m)))

-- ---- combinations
no_factors : (factors : List ℚ) → length factors ≡ 0 → IsZero (vec_mat factors []) → IsZero factors
no_factors [] e z = tt
no_factors (x ∷ factors) e z = absurd (omega arith)

pub no_rows_independent : IsIndependent []
no_rows_independent = record { only_zero = no_factors }

-- a combination of no rows
pub dot-no_rows : (y m : List ℚ) → dot y (vec_mat m []) ≡ int (pos 0)
dot-no_rows y [] = dot_nil y
dot-no_rows y (x ∷ m) = dot_nil y

pub nothing_more : (x : ℚ) → int (pos 0) +ℚ x ≡ x
nothing_more x = by_ring (x ∷ []) (search reads depth 30) (search reads depth 30) tt

pub dot-combination_append : (y : List ℚ) (ls ms : List ℚ) (rows others : List (List ℚ)) → length ls ≡ length rows → dot y (vec_mat (ls ++ ms) (rows ++ others)) ≡ dot y (vec_mat ls rows) +ℚ dot y (vec_mat ms others)
dot-combination_append y [] ms [] others e = sym (ap (λ u. u +ℚ dot y (vec_mat ms others)) (dot_nil y) ∙ nothing_more (dot y (vec_mat ms others)))
dot-combination_append y [] ms (r ∷ rows) others e = absurd (omega arith)
dot-combination_append y (l ∷ ls) ms [] others e = absurd (omega arith)
dot-combination_append y (l ∷ ls) ms (r ∷ rows) others e =
    dot_combination y l (ls ++ ms) r (rows ++ others) ∙ ap (λ u. l *ℚ dot y r +ℚ u) (dot-combination_append y ls ms rows others (omega arith))
    ∙ sym (ap (λ u. u +ℚ dot y (vec_mat ms others)) (dot_combination y l ls r rows) ∙ +ℚ_assoc (l *ℚ dot y r) (dot y (vec_mat ls rows)) (dot y (vec_mat ms others)))

module _ (a : ℕ → List ℚ) (d : List ℚ) where
  -- a direction along which no row falls, none rises, or all stay
  pub combination_rises : (ls : List ℚ) (s : List ℕ) → AllNonneg ls → ((i : ℕ) → Among i s → IsNonneg (dot d (a i))) → IsNonneg (dot d (vec_mat ls (map a s)))
  combination_rises [] s h k = subst IsNonneg (sym (dot_nil d)) (nonneg_int 0)
  combination_rises (l ∷ ls) [] h k = subst IsNonneg (sym (dot_nil d)) (nonneg_int 0)
  combination_rises (l ∷ ls) (i ∷ s) h k =
      subst IsNonneg (sym (dot_combination d l ls (a i) (map a s))) (nonneg-add (nonneg-mul h.0 (k i (inl refl))) (combination_rises ls s h.1 (λ j m. k j (inr m))))

  sum_nonpositive : {x y : ℚ} → x ≤ℚ int (pos 0) → y ≤ℚ int (pos 0) → (x +ℚ y) ≤ℚ int (pos 0)
  sum_nonpositive {x} {y} h k = linear_le (x ∷ y ∷ []) (le h (le k none)) (search claims depth 40) tt

  pub combination_falls : (ls : List ℚ) (s : List ℕ) → AllNonneg ls → ((i : ℕ) → Among i s → dot d (a i) ≤ℚ int (pos 0)) → dot d (vec_mat ls (map a s)) ≤ℚ int (pos 0)
  combination_falls [] s h k = subst (λ u. u ≤ℚ int (pos 0)) (sym (dot_nil d)) (≤ℚ_refl (int (pos 0)))
  combination_falls (l ∷ ls) [] h k = subst (λ u. u ≤ℚ int (pos 0)) (sym (dot_nil d)) (≤ℚ_refl (int (pos 0)))
  combination_falls (l ∷ ls) (i ∷ s) h k =
      subst (λ u. u ≤ℚ int (pos 0)) (sym (dot_combination d l ls (a i) (map a s)))
      (sum_nonpositive (product_nonpositive h.0 (k i (inl refl))) (combination_falls ls s h.1 (λ j m. k j (inr m))))

  pub combination_stays : (ls : List ℚ) (s : List ℕ) → ((i : ℕ) → Among i s → dot d (a i) ≡ int (pos 0)) → dot d (vec_mat ls (map a s)) ≡ int (pos 0)
  combination_stays [] s k = dot_nil d
  combination_stays (l ∷ ls) [] k = dot_nil d
  combination_stays (l ∷ ls) (i ∷ s) k =
      dot_combination d l ls (a i) (map a s)
      ∙ by_equations l (int (pos 1)) (k i (inl refl)) (combination_stays ls s (λ j m. k j (inr m)))
      (by_ring (l ∷ dot d (a i) ∷ dot d (vec_mat ls (map a s)) ∷ []) (search reads depth 30) (search reads depth 30) tt)

-- ---- the difference of two points against a row
pub difference : (r x z : List ℚ) → dot (vec_sub x z) r ≡ dot r x -ℚ dot r z
difference r x z = dot_comm (vec_sub x z) r ∙ dot-sub_right x z r

-- ---- between two points
between : (p r s u : ℚ) → p ≤ℚ u → r ≤ℚ u → IsNonneg s → s ≤ℚ int (pos 1) → (p +ℚ s *ℚ (r -ℚ p)) ≤ℚ u
between p r s u h k m l = by_le (p ∷ r ∷ s ∷ u ∷ []) (nonneg-add (nonneg-mul (gap l) (gap h)) (nonneg-mul m (gap k))) (search reads depth 30) (search reads depth 30) tt

unmoved : (p r s u : ℚ) → p ≡ u → r ≡ u → p +ℚ s *ℚ (r -ℚ p) ≡ u
unmoved p r s u e f = by_equations (int (pos 1) -ℚ s) s e f (by_ring (p ∷ r ∷ s ∷ u ∷ []) (search reads depth 30) (search reads depth 30) tt)

share_nonneg : (u t : ℚ) → IsNonneg u → IsPositive t → IsNonneg (u /ℚ t)
share_nonneg u t h k = nonneg-mul h (≤ℚ_of_< (inv_positive k))

at_most_whole : (u t : ℚ) → u ≤ℚ t → IsPositive t → (u /ℚ t) ≤ℚ int (pos 1)
at_most_whole u t h k = (/ℚ-≤ℚ (int (pos 1)) t u k).1 (subst (λ v. u ≤ℚ v) (sym (*ℚ_one t)) h)

-- what the segment from y to z, which goes out of row r, meets at the border of r
module _ (a : ℕ → List ℚ) (b : ℕ → ℚ) (r : ℕ) (y z : List ℚ) (inside : dot (a r) y ≤ℚ b r) (outside : b r <ℚ dot (a r) z) where
  whole : ℚ
  whole = dot (a r) z -ℚ dot (a r) y

  part : ℚ
  part = (b r -ℚ dot (a r) y) /ℚ whole

  pub border : List ℚ
  border = vec_add y (vec_scale part (vec_sub z y))

  whole_positive : IsPositive whole
  unfolding whole
  whole_positive = linear_lt (dot (a r) y ∷ dot (a r) z ∷ b r ∷ []) (le inside (lt outside none)) (search claims depth 40) tt

  part_nonneg : IsNonneg part
  unfolding part
  part_nonneg = share_nonneg (b r -ℚ dot (a r) y) whole (gap inside) whole_positive

  part_below : (b r -ℚ dot (a r) y) ≤ℚ whole
  unfolding whole
  part_below = linear_le (dot (a r) y ∷ dot (a r) z ∷ b r ∷ []) (lt outside none) (search claims depth 40) tt

  part_at_most : part ≤ℚ int (pos 1)
  unfolding part
  part_at_most = at_most_whole (b r -ℚ dot (a r) y) whole part_below whole_positive

  pub length-border : length y ≡ length z → length border ≡ length y
  unfolding border
  length-border e = length-add y (vec_scale part (vec_sub z y)) (sym (length-scale part (vec_sub z y) ∙ length-sub z y (sym e) ∙ sym e))

  along : (row : List ℚ) → dot row border ≡ dot row y +ℚ part *ℚ (dot row z -ℚ dot row y)
  unfolding border
  along row = dot_along row y (vec_sub z y) part ∙ ap (λ u. dot row y +ℚ part *ℚ u) (dot-sub_right z y row)

  pub border_meets : (i : ℕ) → dot (a i) y ≤ℚ b i → dot (a i) z ≤ℚ b i → dot (a i) border ≤ℚ b i
  border_meets i h k = subst (λ u. u ≤ℚ b i) (sym (along (a i))) (between (dot (a i) y) (dot (a i) z) part (b i) h k part_nonneg part_at_most)

  pub border_at : dot (a r) border ≡ b r
  unfolding part whole
  border_at = along (a r) ∙ arrives (dot (a r) y) (dot (a r) z -ℚ dot (a r) y) (b r) (positive-not_zero whole_positive)

  pub border_holds : (s : List ℕ) → Holds a b s y → Holds a b s z → Holds a b s border
  border_holds [] h k = tt
  border_holds (i ∷ s) h k = (along (a i) ∙ unmoved (dot (a i) y) (dot (a i) z) part (b i) h.0 k.0, border_holds s h.1 k.1)
