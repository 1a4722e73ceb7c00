-- Rows that no values meet: with weights of one sign they add up to 0 on the left and to the other sign on the right.
use Rattle.std.proofs.Common.{◌≡◌, ℕ, zero, suc, ◌+◌, ◌<◌, List, ℤ, pos, ◌+ℤ◌, ◌*ℤ◌, neg_ℤ, ◌<ℤ◌, ◌≤ℤ◌, refl, sym, ◌∙◌, ap, subst, subst₂, arith, ◌⊎◌, inl, inr, lit<, [], ◌∷◌}
use Rattle.std.proofs.lemmas.Int.{ints}
use Rattle.mpc_exact.specs.Rational.{ℚ, int, ◌*ℚ◌, ◌≤ℚ◌}
use Rattle.mpc_exact.proofs.Rational.{int-mul}
use Rattle.mpc_exact.proofs.IntRing.{int_reads, by_ring_ℤ}
use Rattle.mpc_exact.proofs.RationalRing.{reads, by_ring}
use Rattle.mpc_exact.proofs.RationalOrder.{*ℚ-≤ℚ, <ℚ_irrefl}
use Rattle.mpc_exact.proofs.OrderTheorems.{≤ℚ-<ℚ_trans}
use Rattle.mpc_exact.proofs.School.{int_le, int_lt}
use Rattle.mpc_space.specs.Total.{total}
use Rattle.mpc_space.proofs.Total.{total-same, total-scale, total-swap, total-le, total-zeros}
use Rattle.mpc_runs.specs.WholeNumbers.{whole_total}
use Rattle.mpc_runs.proofs.WholeSums.{total_over}
use Rattle.mpc_minors.specs.Lines.{line_number, MeetsLine, HaveNoPoint}

-- sums of products of whole numbers, as fractions
products_total : (n : ℕ) (y f : ℕ → ℤ) → total n (λ i. int (y i) *ℚ int (f i)) ≡ int (whole_total n (λ i. y i *ℤ f i))
products_total n y f =
    total-same n (λ i. int (y i) *ℚ int (f i)) (λ i. int (y i *ℤ f i)) (λ i l. sym (int-mul (y i) (f i)))
    ∙ total_over n 1 (λ i. y i *ℤ f i) (lit< tt)

module _ (width : ℕ) (lines : List ℤ) (y : ℕ → ℤ)
    (columns : (j : ℕ) → j < width → whole_total (width + 1) (λ i. y i *ℤ line_number width lines i j) ≡ pos 0) where
  module _ (x : ℕ → ℚ) where
    abbrev term : ℕ → ℕ → ℚ
    term i j = int (y i) *ℚ (int (line_number width lines i j) *ℚ x j)

    column_gone : (j : ℕ) → j < width → total (width + 1) (λ i. term i j) ≡ int (pos 0)
    column_gone j h =
        total-same (width + 1) (λ i. term i j) (λ i. x j *ℚ (int (y i) *ℚ int (line_number width lines i j))) (λ i l. moved (int (y i)) (int (line_number width lines i j)) (x j))
        ∙ total-scale (width + 1) (x j) (λ i. int (y i) *ℚ int (line_number width lines i j))
        ∙ ap (λ u. x j *ℚ u) (products_total (width + 1) y (λ i. line_number width lines i j) ∙ ap int (columns j h))
        ∙ nought (x j)
      where
        moved : (a b c : ℚ) → a *ℚ (b *ℚ c) ≡ c *ℚ (a *ℚ b)
        moved a b c = by_ring (a ∷ b ∷ c ∷ []) (search reads depth 30) (search reads depth 30) tt

        nought : (a : ℚ) → a *ℚ int (pos 0) ≡ int (pos 0)
        nought a = by_ring (a ∷ []) (search reads depth 30) (search reads depth 30) tt

    left_gone : total (width + 1) (λ i. int (y i) *ℚ total width (λ j. int (line_number width lines i j) *ℚ x j)) ≡ int (pos 0)
    left_gone =
        total-same (width + 1) (λ i. int (y i) *ℚ total width (λ j. int (line_number width lines i j) *ℚ x j)) (λ i. total width (λ j. term i j))
        (λ i l. sym (total-scale width (int (y i)) (λ j. int (line_number width lines i j) *ℚ x j)))
        ∙ total-swap (width + 1) width term
        ∙ total-zeros width (λ j. total (width + 1) (λ i. term i j)) column_gone

  abbrev sides : ℤ
  sides = whole_total (width + 1) (λ i. y i *ℤ line_number width lines i width)

  pub no_point : ((i : ℕ) → i < width + 1 → pos 0 ≤ℤ y i) → sides <ℤ pos 0 → HaveNoPoint width lines
  no_point nonneg below = record { none = λ x meets. <ℚ_irrefl (≤ℚ-<ℚ_trans (most x meets) ((int_lt sides (pos 0)).1 below)) }
    where
      most : (x : ℕ → ℚ) → ((i : ℕ) → i < width + 1 → MeetsLine width lines x i) → int (pos 0) ≤ℚ int sides
      most x meets =
          subst₂ (λ u v. u ≤ℚ v) (left_gone x) (products_total (width + 1) y (λ i. line_number width lines i width))
          (total-le (width + 1) (λ i. int (y i) *ℚ total width (λ j. int (line_number width lines i j) *ℚ x j)) (λ i. int (y i) *ℚ int (line_number width lines i width))
          (λ i h. *ℚ-≤ℚ ((int_le (pos 0) (y i)).1 (nonneg i h)) (meets i h)))

-- the same with the other sign
negated_total : (n : ℕ) (y f : ℕ → ℤ) → whole_total n (λ i. neg_ℤ (y i) *ℤ f i) ≡ neg_ℤ (whole_total n (λ i. y i *ℤ f i))
unfolding whole_total
negated_total zero y f = refl
negated_total (suc n) y f = ap (λ u. u +ℤ neg_ℤ (y n) *ℤ f n) (negated_total n y f) ∙ one_more (whole_total n (λ i. y i *ℤ f i)) (y n) (f n)
  where
    one_more : (s a b : ℤ) → neg_ℤ s +ℤ neg_ℤ a *ℤ b ≡ neg_ℤ (s +ℤ a *ℤ b)
    one_more s a b = by_ring_ℤ (s ∷ a ∷ b ∷ []) (search int_reads depth 30) (search int_reads depth 30) tt

negated_nonneg : (z : ℤ) → z ≤ℤ pos 0 → pos 0 ≤ℤ neg_ℤ z
negated_nonneg z h = omega (arith, ints)

negated_below : (z : ℤ) → pos 0 <ℤ z → neg_ℤ z <ℤ pos 0
negated_below z h = omega (arith, ints)

-- weights from the least to the greatest, and the sum of the sides
pub refuted : (width : ℕ) (lines : List ℤ) (y : ℕ → ℤ) (least greatest sum : ℤ)
    → ((j : ℕ) → j < width → whole_total (width + 1) (λ i. y i *ℤ line_number width lines i j) ≡ pos 0)
    → ((i : ℕ) → i < width + 1 → (least ≤ℤ y i) × (y i ≤ℤ greatest))
    → sum ≡ whole_total (width + 1) (λ i. y i *ℤ line_number width lines i width)
    → ((pos 0 ≤ℤ least) × (sum <ℤ pos 0)) ⊎ ((greatest ≤ℤ pos 0) × (pos 0 <ℤ sum))
    → HaveNoPoint width lines
refuted width lines y least greatest sum columns between e (inl h) =
    no_point width lines y columns (λ i l. int_le_trans (pos 0) least (y i) h.0 (between i l).0) (subst (λ z. z <ℤ pos 0) e h.1)
  where
    int_le_trans : (a b c : ℤ) → a ≤ℤ b → b ≤ℤ c → a ≤ℤ c
    int_le_trans a b c h k = omega (arith, ints)
refuted width lines y least greatest sum columns between e (inr h) =
    no_point width lines (λ i. neg_ℤ (y i)) (λ j l. negated_total (width + 1) y (λ i. line_number width lines i j) ∙ ap neg_ℤ (columns j l))
    (λ i l. negated_nonneg (y i) (int_le_trans (y i) greatest (pos 0) (between i l).1 h.0))
    (subst (λ z. z <ℤ pos 0) (sym (negated_total (width + 1) y (λ i. line_number width lines i width))) (negated_below (whole_total (width + 1) (λ i. y i *ℤ line_number width lines i width)) (subst (λ z. pos 0 <ℤ z) e h.1)))
  where
    int_le_trans : (a b c : ℤ) → a ≤ℤ b → b ≤ℤ c → a ≤ℤ c
    int_le_trans a b c h k = omega (arith, ints)
