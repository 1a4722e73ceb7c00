-- A matrix of one to four rows within one of four, which has the unit matrix on the other rows and columns.
use Rattle.std.proofs.Common.{◌≡◌, ℕ, ◌+◌, ◌-◌, ◌<◌, ◌≤◌, true, false, cond, ◌&&◌, ltb, eqb, ℤ, pos, [], ◌∷◌, refl, sym, ◌∙◌, ap, subst, arith, ◌⊎◌, inl, inr, lt-ltb, le-ltb}
use Rattle.std.proofs.lemmas.Bool.{cases_lt, cases_eq, cond-true, cond-false}
use Rattle.mpc_exact.specs.Rational.{ℚ, int, ◌*ℚ◌}
use Rattle.mpc_exact.proofs.Rational.{rational_ring, *ℚ_comm}
use Rattle.mpc_exact.proofs.RationalRing.{reads, by_ring}
use Rattle.mpc_space.specs.Total.{total, unit}
use Rattle.mpc_space.proofs.Total.{total-same, total-unit, total-short, unit-same, unit-other}
use Rattle.mpc_minors.proofs.Minors.{sum_four}

abbrev pub whole_unit : ℕ → ℕ → ℤ
whole_unit i j = cond (eqb i j) (pos 1) (pos 0)

-- within the first w rows and columns
abbrev pub within : {A : Type 0} → ℕ → ℕ → ℕ → A → A → A
within w i j a b = cond (ltb i w && ltb j w) a b

abbrev pub padded : ℕ → (ℕ → ℕ → ℤ) → ℕ → ℕ → ℤ
padded w m i j = within w i j (m i j) (whole_unit i j)

abbrev pub padded_ratios : ℕ → (ℕ → ℕ → ℚ) → ℕ → ℕ → ℚ
padded_ratios w x i j = within w i j (x i j) (unit i j)

abbrev pub padded_scales : ℕ → (ℕ → ℕ) → ℕ → ℕ
padded_scales w k i = cond (ltb i w) (k i) 1

pub inside : {A : Type 0} (w i j : ℕ) (a b : A) → i < w → j < w → within w i j a b ≡ a
inside w i j a b h l = λ t. cond (lt-ltb i w h t && lt-ltb j w l t) a b

below : {A : Type 0} (w i j : ℕ) (a b : A) → w ≤ i → within w i j a b ≡ b
below w i j a b h = λ t. cond (le-ltb i w h t && ltb j w) a b

beside : {A : Type 0} (w i j : ℕ) (a b : A) → w ≤ j → within w i j a b ≡ b
beside w i j a b h = (λ t. cond (ltb i w && le-ltb j w h t) a b) ∙ elim (ltb i w) as (λ c. cond (c && false) a b ≡ b) [ true ↦ refl | false ↦ refl ]

pub scale-inside : (w : ℕ) (k : ℕ → ℕ) (i : ℕ) → i < w → padded_scales w k i ≡ k i
scale-inside w k i h = cond-true (ltb i w) (k i) 1 (lt-ltb i w h)

scale-below : (w : ℕ) (k : ℕ → ℕ) (i : ℕ) → w ≤ i → padded_scales w k i ≡ 1
scale-below w k i h = cond-false (ltb i w) (k i) 1 (le-ltb i w h)

pub padded_some : (w : ℕ) (k : ℕ → ℕ) → ((i : ℕ) → i < w → 0 < k i) → (i : ℕ) → 0 < padded_scales w k i
padded_some w k h i = by (cases_lt i w)
  where
    by : (i < w) ⊎ (w ≤ i) → 0 < padded_scales w k i
    by (inl l) = subst (λ n. 0 < n) (sym (scale-inside w k i l)) (h i l)
    by (inr l) = subst (λ n. 0 < n) (sym (scale-below w k i l)) (omega arith)

-- ---- dots
total-four : (f : ℕ → ℚ) → total 4 f ≡ sum_four rational_ring f
unfolding total
total-four f = by_ring (f 0 ∷ f 1 ∷ f 2 ∷ f 3 ∷ []) (search reads depth 30) (search reads depth 30) tt

pub int-unit : (y j : ℕ) → int (whole_unit y j) ≡ unit y j
unfolding unit
int-unit y j = elim (eqb y j) as (λ b. int (cond b (pos 1) (pos 0)) ≡ cond b (int (pos 1)) (int (pos 0))) [ true ↦ refl | false ↦ refl ]

unit-turned : (i j : ℕ) → unit i j ≡ unit j i
unit-turned i j = by (cases_eq i j)
  where
    by : (i ≡ j) ⊎ (i ≡ j → ⊥) → unit i j ≡ unit j i
    by (inl e) = unit-same i j e ∙ sym (unit-same j i (sym e))
    by (inr e) = unit-other i j e ∙ sym (unit-other j i (λ f. e (sym f)))

zero_times : (x : ℚ) → int (pos 0) *ℚ x ≡ int (pos 0)
zero_times x = by_ring (x ∷ []) (search reads depth 30) (search reads depth 30) tt

times_zero : (x : ℚ) → x *ℚ int (pos 0) ≡ int (pos 0)
times_zero x = by_ring (x ∷ []) (search reads depth 30) (search reads depth 30) tt

one_times : (x : ℚ) → int (pos 1) *ℚ x ≡ x
one_times x = by_ring (x ∷ []) (search reads depth 30) (search reads depth 30) tt

module _ (w : ℕ) (few : w ≤ 4) (m : ℕ → ℕ → ℤ) (x : ℕ → ℕ → ℚ) (k : ℕ → ℕ)
    (dots : (i c : ℕ) → i < w → c < w → total w (λ l. int (m i l) *ℚ x c l) ≡ int (pos (k i)) *ℚ unit i c) where
  abbrev term : ℕ → ℕ → ℕ → ℚ
  term i c l = int (padded w m i l) *ℚ padded_ratios w x c l

  abbrev IsDot : ℕ → ℕ → Type 0
  IsDot i c = total 4 (term i c) ≡ int (pos (padded_scales w k i)) *ℚ unit i c

  apart : (i l : ℕ) → i < w → w ≤ l → int (padded w m i l) ≡ int (pos 0)
  apart i l h o = ap int (beside w i l (m i l) (whole_unit i l) o) ∙ int-unit i l ∙ unit-other i l (λ e. omega arith)

  both_inside : (i c : ℕ) → i < w → c < w → IsDot i c
  both_inside i c h v =
      let e : w + (4 - w) ≡ 4 = omega arith in
      subst (λ n. total n (term i c) ≡ int (pos (padded_scales w k i)) *ℚ unit i c) e
      (total-short w (4 - w) (term i c) (λ l o. ap (λ u. u *ℚ padded_ratios w x c l) (apart i l h o) ∙ zero_times (padded_ratios w x c l))
      ∙ total-same w (term i c) (λ l. int (m i l) *ℚ x c l) (λ l o t. int (inside w i l (m i l) (whole_unit i l) h o t) *ℚ inside w c l (x c l) (unit c l) v o t)
      ∙ dots i c h v
      ∙ ap (λ n. int (pos n) *ℚ unit i c) (sym (scale-inside w k i h)))

  column_outside : (i c : ℕ) → c < 4 → i < w → w ≤ c → IsDot i c
  column_outside i c l h v =
      total-same 4 (term i c) (λ j. unit c j *ℚ int (padded w m i j))
      (λ j o. *ℚ_comm (int (padded w m i j)) (padded_ratios w x c j) ∙ ap (λ u. u *ℚ int (padded w m i j)) (below w c j (x c j) (unit c j) v))
      ∙ total-unit 4 c (λ j. int (padded w m i j)) l
      ∙ apart i c h v
      ∙ sym (ap (λ u. int (pos (padded_scales w k i)) *ℚ u) (unit-other i c (λ e. omega arith)) ∙ times_zero (int (pos (padded_scales w k i))))

  row_outside : (i c : ℕ) → i < 4 → w ≤ i → IsDot i c
  row_outside i c l h =
      total-same 4 (term i c) (λ j. unit i j *ℚ padded_ratios w x c j)
      (λ j o. ap (λ u. u *ℚ padded_ratios w x c j) (ap int (below w i j (m i j) (whole_unit i j) h) ∙ int-unit i j))
      ∙ total-unit 4 i (padded_ratios w x c) l
      ∙ beside w c i (x c i) (unit c i) h
      ∙ unit-turned c i
      ∙ sym (ap (λ n. int (pos n) *ℚ unit i c) (scale-below w k i h) ∙ one_times (unit i c))

  pub padded_dots : (i c : ℕ) → i < 4 → c < 4 → sum_four rational_ring (λ l. int (padded w m i l) *ℚ padded_ratios w x c l) ≡ int (pos (padded_scales w k i)) *ℚ unit i c
  padded_dots i c h l = sym (total-four (term i c)) ∙ by (cases_lt i w) (cases_lt c w)
    where
      by : (i < w) ⊎ (w ≤ i) → (c < w) ⊎ (w ≤ c) → IsDot i c
      by (inl u) (inl v) = both_inside i c u v
      by (inl u) (inr v) = column_outside i c l u v
      by (inr u) v = row_outside i c h u
