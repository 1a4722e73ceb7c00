-- The numbers of a part are such of the table.
use Rattle.std.proofs.Common.{◌≡◌, ◌≢◌, ℕ, zero, suc, ◌+◌, ◌-◌, ◌<◌, ◌≤◌, List, ◌++◌, length, get_or, refl, sym, ◌∙◌, ap, subst, subst₂, arith, ◌⊎◌, inl, inr, ⊎_elim, min}
use Rattle.std.proofs.lemmas.Bool.{cases_eq, cases_lt, cond_below, cond_above}
use Rattle.std.proofs.lemmas.List.{get_or_append_left, get_or-append_right}
use Rattle.mpc_exact.specs.Rational.{ℚ, ◌*ℚ◌, ◌-ℚ◌, ◌/ℚ◌, neg_ℚ}
use Rattle.mpc_frac.specs.Fits.{FitsFrac, FitsSum}
use Rattle.mpc_space.specs.Matrix.{RationalMatrix, height, entry}
use Rattle.mpc_space.specs.Total.{unit}
use Rattle.mpc_linear.specs.Elimination.{Table, reduced}
use Rattle.mpc_bordered.specs.Fronts.{front, HasFront, EntryFits}
use Rattle.mpc_bordered.specs.Kept.{IsFormed}
use Rattle.mpc_bordered.specs.Parts.{place, part, ArePlaces, IsPicked}
use Rattle.mpc_bordered.proofs.Agree.{reduced-pivot, reduced-other}
use Rattle.mpc_bordered.proofs.FrontLemmas.{front-suc, front-zero, front-units}

-- ---- a table whose rows and columns are such of another, and the first u the same
module _ (t p : Table) (n u : ℕ) (within : u ≤ n) (r s : ℕ → ℕ) (r_first : (c : ℕ) → c < u → r c ≡ c) (s_first : (c : ℕ) → c < u → s c ≡ c)
    (r_behind : (i c : ℕ) → i < n → c < u → i ≢ c → r i ≢ c) (is : (i j : ℕ) → p i j ≡ t (r i) (s j)) where
  FrontIs : ℕ → Type 0
  FrontIs k = (i j : ℕ) → i < n → front p k i j ≡ front t k (r i) (s j)

  module _ (c : ℕ) (hc : c < u) (h : (i j : ℕ) → i < n → front p c i j ≡ front t c (r i) (s j)) where
    pivot_is : front p c c c ≡ front t c c c
    pivot_is = h c c (omega arith) ∙ (λ m. front t c (r_first c hc m) (s_first c hc m))

    row_is : (j : ℕ) → front p c c j ≡ front t c c (s j)
    row_is j = h c j (omega arith) ∙ ap (λ i. front t c i (s j)) (r_first c hc)

    factor_is : (i : ℕ) → i < n → front p c i c ≡ front t c (r i) c
    factor_is i hi = h i c hi ∙ ap (front t c (r i)) (s_first c hc)

    quotient_is : (j : ℕ) → front p c c j /ℚ front p c c c ≡ front t c c (s j) /ℚ front t c c c
    quotient_is j = λ m. row_is j m /ℚ pivot_is m

    next_is : (i j : ℕ) → i < n → reduced c (front p c) i j ≡ reduced c (front t c) (r i) (s j)
    next_is i j hi = by (cases_eq i c)
      where
        by : (i ≡ c) ⊎ (i ≡ c → ⊥) → reduced c (front p c) i j ≡ reduced c (front t c) (r i) (s j)
        by (inl e) = reduced-pivot c (front p c) i j e ∙ quotient_is j ∙ sym (reduced-pivot c (front t c) (r i) (s j) (ap r e ∙ r_first c hc))
        by (inr e) =
            reduced-other c (front p c) i j e ∙ (λ m. h i j hi m -ℚ factor_is i hi m *ℚ quotient_is j m)
            ∙ sym (reduced-other c (front t c) (r i) (s j) (r_behind i c hi hc e))

    fits_is : (i j : ℕ) → i < n → EntryFits c (front t c) (r i) (s j) → EntryFits c (front p c) i j
    fits_is i j hi f = record {
      quotient = λ e. subst FitsFrac (sym (quotient_is j)) (f.quotient (ap r e ∙ r_first c hc));
      product = λ e some. subst₂ (λ x y. FitsFrac (x *ℚ y)) (sym (factor_is i hi)) (sym (quotient_is j)) (f.product (r_behind i c hi hc e) (λ z. some (factor_is i hi ∙ z)));
      difference = λ e some. subst₂ (λ x y. FitsSum x (neg_ℚ y)) (sym (h i j hi)) (λ m. sym (factor_is i hi) m *ℚ sym (quotient_is j) m) (f.difference (r_behind i c hi hc e) (λ z. some (factor_is i hi ∙ z)));
    }

  pub front_is : (k : ℕ) → k ≤ u → (i j : ℕ) → i < n → front p k i j ≡ front t k (r i) (s j)
  front_is zero l = λ i j hi. ap (λ a. a i j) (front-zero p) ∙ is i j ∙ ap (λ a. a (r i) (s j)) (sym (front-zero t))
  front_is (suc c) l = λ i j hi. ap (λ a. a i j) (front-suc p c) ∙ next_is c (omega arith) (front_is c (omega arith)) i j hi ∙ ap (λ a. a (r i) (s j)) (sym (front-suc t c))

  pub has_front : HasFront t u → HasFront p u
  has_front h c l e = h c l (sym (pivot_is c l (front_is c (omega arith))) ∙ e)

  pub entry_fits : (c i j : ℕ) → c < u → i < n → EntryFits c (front t c) (r i) (s j) → EntryFits c (front p c) i j
  entry_fits c i j l hi f = fits_is c l (front_is c (omega arith)) i j hi f

-- ---- places
place_first : (u : ℕ) (rows : List ℕ) (c : ℕ) → c < u → place u rows c ≡ c
place_first u rows c l = sym (cond_below c u c (get_or rows (c - u) 0) l)

place_later : (u : ℕ) (rows : List ℕ) (i : ℕ) → u ≤ i → place u rows i ≡ get_or rows (i - u) 0
place_later u rows i l = sym (cond_above i u i (get_or rows (i - u) 0) (get_or rows (i - u) 0) l refl)

module _ (t : RationalMatrix) (u : ℕ) (rows rights : List ℕ) (a : ArePlaces t u rows rights) (rows_enough : u ≤ height t) (columns_enough : u ≤ t.columns) where
  abbrev n : ℕ
  n = u + length rows

  abbrev p : Table
  p = part (entry t) u rows rights

  place_behind : (i c : ℕ) → i < n → c < u → i ≢ c → place u rows i ≢ c
  place_behind i c hi hc apart e = ⊎_elim
      (λ l. apart (sym (place_first u rows i l) ∙ e))
      (λ l. let b = a.behind (i - u) (omega arith) in let q : get_or rows (i - u) 0 ≡ c = sym (place_later u rows i l) ∙ e in absurd (omega arith))
      (cases_lt i u)

  pub row_within : (i : ℕ) → i < n → place u rows i < height t
  row_within i hi = ⊎_elim
      (λ l. subst (λ k. k < height t) (sym (place_first u rows i l)) (omega arith))
      (λ l. subst (λ k. k < height t) (sym (place_later u rows i l)) (a.within (i - u) (omega arith)))
      (cases_lt i u)

  behind_within : (k : ℕ) → k < length rows + length rights → get_or (rows ++ rights) k 0 < t.columns
  behind_within k h = ⊎_elim
      (λ l. subst (λ x. x < t.columns) (sym (get_or_append_left rows rights 0 k l)) (a.columns_within k l))
      (λ l. subst (λ x. x < t.columns) (sym (get_or-append_right rows rights (length rows) k 0 refl l)) (a.rights_within (k - length rows) (omega arith)))
      (cases_lt k (length rows))

  pub column_within : (j : ℕ) → j < n + length rights → place u (rows ++ rights) j < t.columns
  column_within j hj = ⊎_elim
      (λ l. subst (λ k. k < t.columns) (sym (place_first u (rows ++ rights) j l)) (omega arith))
      (λ l. subst (λ k. k < t.columns) (sym (place_later u (rows ++ rights) j l)) (behind_within (j - u) (omega arith)))
      (cases_lt j u)

  part_is : (i j : ℕ) → p i j ≡ entry t (place u rows i) (place u (rows ++ rights) j)
  unfolding part
  part_is i j = refl

  pub part_front : HasFront (entry t) u → HasFront p u
  part_front = has_front (entry t) p n u (omega arith) (place u rows) (place u (rows ++ rights)) (place_first u rows) (place_first u (rows ++ rights)) place_behind part_is

  part_value : (i j : ℕ) → i < n → front p u i j ≡ front (entry t) u (place u rows i) (place u (rows ++ rights) j)
  part_value = front_is (entry t) p n u (omega arith) (place u rows) (place u (rows ++ rights)) (place_first u rows) (place_first u (rows ++ rights)) place_behind part_is u (omega arith)

  part_fits : (c i j : ℕ) → c < u → i < n → EntryFits c (front (entry t) c) (place u rows i) (place u (rows ++ rights) j) → EntryFits c (front p c) i j
  part_fits = entry_fits (entry t) p n u (omega arith) (place u rows) (place u (rows ++ rights)) (place_first u rows) (place_first u (rows ++ rights)) place_behind part_is

  -- a column of the places stands behind the first u where the part's does
  abbrev at_row : ℕ → ℕ
  at_row i = place u rows i

  abbrev at_column : ℕ → ℕ
  at_column j = place u (rows ++ rights) j

  module _ (i j : ℕ) (hi : i < n) (hj : j < n + length rights) (v : ℚ) (f : IsFormed (entry t) (min (at_column j) u) (at_row i) (at_column j) v) where
    later_column : u ≤ j → u ≤ at_column j
    later_column l = subst (λ k. u ≤ k) (sym (place_later u (rows ++ rights) j l)) (⊎_elim
        (λ q. subst (λ x. u ≤ x) (sym (get_or_append_left rows rights 0 (j - u) q)) (a.behind (j - u) q))
        (λ q. subst (λ x. u ≤ x) (sym (get_or-append_right rows rights (length rows) (j - u) 0 refl q)) (a.rights_behind (j - u - length rows) (omega arith)))
        (cases_lt (j - u) (length rows)))

    pub picked_behind : u ≤ j → IsPicked p u i j v
    picked_behind l =
        let q = later_column l in
        let e : min (at_column j) u ≡ u = omega arith in
        let g : IsFormed (entry t) u (at_row i) (at_column j) v = subst (λ k. IsFormed (entry t) k (at_row i) (at_column j) v) e f in
        record { value = g.value ∙ sym (part_value i j hi); fits = g.fits; before = λ c a b. part_fits c i j a hi (g.before c a) }

    pub picked_first : (w : ℚ) → HasFront (entry t) u → j < u → w ≡ unit i j → FitsFrac w → IsPicked p u i j w
    picked_first w h l e fits =
        let q : at_column j ≡ j = place_first u (rows ++ rights) j l in
        let k : min (at_column j) u ≡ j = omega arith in
        let g : IsFormed (entry t) j (at_row i) (at_column j) v = subst (λ k. IsFormed (entry t) k (at_row i) (at_column j) v) k f in
        record { value = e ∙ sym (front-units p u (part_front h) i j l); fits = fits; before = λ c a b. part_fits c i j a hi (g.before c b) }
