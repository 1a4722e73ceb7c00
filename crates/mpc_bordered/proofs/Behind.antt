-- How the elimination of a table ends, told by that of what its first columns leave.
use Rattle.std.proofs.Common.{◌≡◌, ℕ, ◌<◌, ◌≤◌, Option, Some, None, refl, sym, ◌∙◌, ap, subst, arith, ⊎_elim}
use Rattle.std.proofs.lemmas.Bool.{cases_lt}
use Rattle.mpc_frac.specs.Fits.{FitsFrac}
use Rattle.mpc_space.proofs.Total.{unit-same, unit-other}
use Rattle.mpc_linear.specs.Elimination.{Table, exchanged, eliminated, pivot_row, ColumnFits, ColumnDone, ColumnsDone, EndsDependent, EndsWide}
use Rattle.mpc_bordered.specs.Fronts.{front, HasFront, EntryFits}
use Rattle.mpc_bordered.proofs.Agree.{Agree, agree_back, fits_agree, exchanged_agree, exchanged-itself, pivot_same, pivot_within, from_agree}
use Rattle.mpc_bordered.proofs.FrontLemmas.{front-units, eliminated_front, pivot_of, StartsWithUnits, by_one, front_stays, units_front}

-- ---- the first u columns, whose numbers fit
module _ (n w u : ℕ) (t : Table) (within : u ≤ n) (pivots : HasFront t u) (fits : (c i j : ℕ) → c < u → i < n → c < j → j < w → EntryFits c (front t c) i j) where
  front_fits : (c : ℕ) → c < u → ColumnFits n w c (exchanged c c (eliminated n t c))
  front_fits c l =
      let e : exchanged c c (eliminated n t c) ≡ front t c = exchanged-itself c (eliminated n t c) ∙ eliminated_front n c t (omega arith) (λ k m. pivots k (omega arith)) in
      subst (ColumnFits n w c) (sym e) (record {
        quotients = λ j a b. (fits c c j l (omega arith) a b).quotient refl;
        products = λ i j hi q some a b. (fits c i j l hi a b).product q some;
        differences = λ i j hi q some a b. (fits c i j l hi a b).difference q some;
      })

  pub front_done : (c : ℕ) → c < u → ColumnDone n w t c c
  front_done c l = record { pivot = pivot_of n u t within pivots c l; fits = front_fits c l }

-- s agrees with what the first u columns of t leave, and the numbers up to there fit
module _ (n w u : ℕ) (t s : Table) (within : u ≤ n) (square : n ≤ w) (pivots : HasFront t u)
    (fits : (c i j : ℕ) → c < u → i < n → c < j → j < w → EntryFits c (front t c) i j)
    (same : Agree n w s (front t u)) (small : (i j : ℕ) → i < n → j < w → FitsFrac (s i j)) where
  units : StartsWithUnits n u s
  units i k hi hk = same i k hi (omega arith) ∙ front-units t u pivots i k hk

  s_pivots : HasFront s u
  s_pivots = units_front n w u s s within square units (λ i j hi hj. refl)

  s_front : (c : ℕ) → c ≤ u → Agree n w (front s c) s
  s_front = front_stays n w u s s within square units (λ i j hi hj. refl)

  agree_at : Agree n w (eliminated n t u) (eliminated n s u)
  agree_at i j hi hj =
      ap (λ a. a i j) (eliminated_front n u t within pivots)
      ∙ sym (ap (λ a. a i j) (eliminated_front n u s within s_pivots) ∙ s_front u (omega arith) i j hi hj ∙ same i j hi hj)

  agree_from : (c : ℕ) → u ≤ c → c ≤ n → Agree n w (eliminated n t c) (eliminated n s c)
  agree_from c l m = from_agree n w square t s u c l m agree_at

  pivot_is : (c : ℕ) → u ≤ c → c < n → pivot_row n (eliminated n t c) c ≡ pivot_row n (eliminated n s c) c
  pivot_is c l m = pivot_same n w c (eliminated n t c) (eliminated n s c) (omega arith) (omega arith) (agree_from c l (omega arith))

  exchange_is : (c p : ℕ) → u ≤ c → c < n → p < n → Agree n w (exchanged c p (eliminated n t c)) (exchanged c p (eliminated n s c))
  exchange_is c p l m h = exchanged_agree n w c p (eliminated n t c) (eliminated n s c) m h (agree_from c l (omega arith))

  later_done : (c p : ℕ) → u ≤ c → c < n → ColumnDone n w s c p → ColumnDone n w t c p
  later_done c p l m d =
      let hp = pivot_within n c p (eliminated n s c) (omega arith) d.pivot in
      record {
        pivot = pivot_is c l m ∙ d.pivot;
        fits = fits_agree n w c (exchanged c p (eliminated n t c)) (exchanged c p (eliminated n s c)) m (omega arith) (exchange_is c p l m hp) d.fits;
      }

  pub all_done : (c : ℕ) → c ≤ n → ColumnsDone n w s c → ColumnsDone n w t c
  all_done c l d k m = ⊎_elim
      (λ a. (k, front_done n w u t within pivots fits k a))
      (λ a. let p = d k m in (p.0, later_done k p.0 a (omega arith) p.1))
      (cases_lt k u)

  none_not_some : (o : Option ℕ) (x : ℕ) → o ≡ None → o ≡ Some x → ⊥
  none_not_some o x e f = cc

  -- a column without a pivot stands behind the first
  behind_dependent : (c : ℕ) → pivot_row n (eliminated n s c) c ≡ None → u ≤ c
  behind_dependent c e = ⊎_elim (λ l. absurd (none_not_some (pivot_row n (eliminated n s c) c) c e (pivot_of n u s within s_pivots c l))) (λ l. l) (cases_lt c u)

  pub ends_dependent : (c : ℕ) → EndsDependent n w s c → EndsDependent n w t c
  ends_dependent c d =
      let b = d.below in
      let l = behind_dependent c d.no_pivot in
      record { before = all_done c (omega arith) d.before; below = d.below; no_pivot = pivot_is c l d.below ∙ d.no_pivot }

  -- the columns of the unit matrix form nothing that is wide
  unit_column : (c : ℕ) → c < u → ColumnFits n w c s
  unit_column c l = record {
    quotients = λ j a b. subst FitsFrac (sym (by_one (s c j) (s c c) (units c c (omega arith) l ∙ unit-same c c refl))) (small c j (omega arith) b);
    products = λ i j hi q some a b. absurd (some (units i c hi l ∙ unit-other i c q));
    differences = λ i j hi q some a b. absurd (some (units i c hi l ∙ unit-other i c q));
  }

  behind_wide : (c p : ℕ) → pivot_row n (eliminated n s c) c ≡ Some p → (ColumnFits n w c (exchanged c p (eliminated n s c)) → ⊥) → u ≤ c
  behind_wide c p e wide = ⊎_elim (λ l. absurd (wide (fits_here l))) (λ l. l) (cases_lt c u)
    where
      some_same : (x y : ℕ) → Some x ≡ Some y → x ≡ y
      some_same x y e = cc

      table_is : c < u → exchanged c c (eliminated n s c) ≡ front s c
      table_is l = exchanged-itself c (eliminated n s c) ∙ eliminated_front n c s (omega arith) (λ k m. s_pivots k (omega arith))

      fits_here : c < u → ColumnFits n w c (exchanged c p (eliminated n s c))
      fits_here l =
          let q : c ≡ p = some_same c p (sym (pivot_of n u s within s_pivots c l) ∙ e) in
          subst (λ p. ColumnFits n w c (exchanged c p (eliminated n s c))) q
          (subst (ColumnFits n w c) (sym (table_is l))
          (fits_agree n w c (front s c) s (omega arith) (omega arith) (s_front c (omega arith)) (unit_column c l)))

  pub ends_wide : (c : ℕ) → EndsWide n w s c → EndsWide n w t c
  ends_wide c d =
      let b = d.below in
      let hp = pivot_within n c d.pivot (eliminated n s c) (omega arith) d.has_pivot in
      let l = behind_wide c d.pivot d.has_pivot d.wide in
      record {
        before = all_done c (omega arith) d.before;
        below = d.below;
        pivot = d.pivot;
        has_pivot = pivot_is c l d.below ∙ d.has_pivot;
        wide = λ f. d.wide (fits_agree n w c (exchanged c d.pivot (eliminated n s c)) (exchanged c d.pivot (eliminated n t c)) d.below (omega arith)
            (agree_back n w (exchanged c d.pivot (eliminated n t c)) (exchanged c d.pivot (eliminated n s c)) (exchange_is c d.pivot l d.below hp)) f);
      }
