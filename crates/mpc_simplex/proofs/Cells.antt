-- Entries written one after another in a table that is stored row by row.
use Rattle.std.proofs.Common.{◌≡◌, ℕ, ◌+◌, ◌*◌, ◌<◌, ◌≤◌, eqb, List, length, set, get_or, pos, [], ◌∷◌, ◌++◌, refl, sym, ◌∙◌, ap, subst, subst₂, arith, Result, Ok, Err, IfOk, ◌⊎◌, inl, inr, ⊎_elim, get_or-set_same, get_or-set_other, eq-eqb, ne_eqb}
use Rattle.std.proofs.lemmas.Bool.{cond-true, cond-false, cases_eq, cases_lt}
use Rattle.std.proofs.lemmas.List.{get_or_read, get_or_append_left, get_or-append-add, length-append}
use Rattle.mpc_exact.specs.Rational.{ℚ, int, ◌+ℚ◌, ◌*ℚ◌, neg_ℚ, inv_ℚ}
use Rattle.mpc_exact.proofs.RationalRing.{reads, by_ring}
use Rattle.mpc_runs.specs.Table.{cell_at}
use Rattle.mpc_runs.specs.Exchange.{own_cell, changed, changed_cell, row_at, IsOwnRow, ChangesRow, ChangesRows, PutsRow, IsExchanged, EntryFits, ChangeFits, ChangesFit}

-- a result as another value that is the same
pub value_as : {T E : Type 0} (r : Result T E) (a b : T) → a ≡ b → IfOk r (λ v. v ≡ a) → IfOk r (λ v. v ≡ b)
value_as (Ok v) a b e h = h ∙ e
value_as (Err x) a b e h = h

-- ---- places
pub place_below : (h w r c : ℕ) → r < h → c < w → r * w + c < h * w
place_below h w r c a b = grind arith

pub next_row : (r w : ℕ) → (r + 1) * w ≡ r * w + w
next_row r w = omega arith

pub row_before : (w t r c : ℕ) → t < r → c < w → t * w + c < r * w
row_before w t r c a b = place_below r w t c a b

row_apart : (w r l c : ℕ) → c < w → (r < l) ⊎ (l < r) → (r * w + c < l * w) ⊎ (l * w + w ≤ r * w + c)
row_apart w r l c b (inl h) = inl (row_before w r l c h b)
row_apart w r l c b (inr h) = inr (by (l + 1) (let k : l + 1 ≤ r = omega arith in k) (next_row l w))
  where
    by : (m : ℕ) → m ≤ r → m * w ≡ l * w + w → l * w + w ≤ r * w + c
    by m k e = grind arith

two_sides : (r l : ℕ) → (r ≡ l → ⊥) → (r < l) ⊎ (l ≤ r) → (r < l) ⊎ (l < r)
two_sides r l k (inl h) = inl h
two_sides r l k (inr h) = inr (omega arith)

-- no place is left of the row
pub all_past : (q r w c : ℕ) → c ≤ w → (q < r) ⊎ (r + w ≤ q) → (q < r) ⊎ (r + c ≤ q)
all_past q r w c h (inl k) = inl k
all_past q r w c h (inr k) = inr (omega arith)

pub lt-le-trans : {a b c : ℕ} → a < b → b ≤ c → a < c
lt-le-trans h k = omega arith

-- ---- one entry more of a row
module _ (w : ℕ) (old cur : List ℚ) (r c here : ℕ) (v : ℚ) (e : here ≡ r * w + c) (b : here < length cur) where
  pub set_done : (f : ℕ → ℚ) → ((z : ℕ) → z < c → cell_at w cur r z ≡ f z) → v ≡ f c → (z : ℕ) → z < c + 1 → cell_at w (set cur here v) r z ≡ f z
  set_done f done k z h = by (cases_eq z c)
    where
      by : (z ≡ c) ⊎ (z ≡ c → ⊥) → cell_at w (set cur here v) r z ≡ f z
      by (inl q) =
          ap (λ m. get_or (set cur here v) m (int (pos 0))) (ap (λ m. r * w + m) q ∙ sym e)
          ∙ get_or-set_same cur here v (int (pos 0)) b ∙ k ∙ ap f (sym q)
      by (inr q) = get_or-set_other cur here (r * w + z) v (int (pos 0)) (λ m. q (omega arith)) ∙ done z (omega arith)

  pub set_kept : ((q : ℕ) → (q < r * w) ⊎ (r * w + c ≤ q) → row_at cur q ≡ row_at old q) → (q : ℕ) → (q < r * w) ⊎ (r * w + (c + 1) ≤ q) → row_at (set cur here v) q ≡ row_at old q
  set_kept kept q d = get_or-set_other cur here q v (int (pos 0)) (λ m. other m d) ∙ kept q (⊎_elim (λ h. inl h) (λ h. inr (omega arith)) d)
    where
      other : q ≡ here → (q < r * w) ⊎ (r * w + (c + 1) ≤ q) → ⊥
      other m (inl h) = omega arith
      other m (inr h) = omega arith

-- ---- a changed entry
nought : (k own : ℚ) → k ≡ int (pos 0) → k *ℚ own ≡ k
nought k own e = ap (λ u. u *ℚ own) e ∙ by_ring (own ∷ []) (search reads depth 30) (search reads depth 30) tt ∙ sym e

still : (k old own : ℚ) → k ≡ int (pos 0) → old +ℚ k *ℚ own ≡ old
still k old own e = ap (λ u. old +ℚ u *ℚ own) e ∙ by_ring (old ∷ own ∷ []) (search reads depth 30) (search reads depth 30) tt

pub changed_at : (k old own : ℚ) (e c : ℕ) → c ≡ e → k *ℚ own ≡ changed k old own e c
unfolding changed
changed_at k old own e c q = sym (cond-true (eqb c e) _ _ (eq-eqb c e q))

pub changed_other : (k old own : ℚ) (e c : ℕ) → (c ≡ e → ⊥) → old +ℚ k *ℚ own ≡ changed k old own e c
unfolding changed
changed_other k old own e c q = sym (cond-false (eqb c e) _ _ (ne_eqb c e q))

pub own_at : (w : ℕ) (entries : List ℚ) (l e c : ℕ) → c ≡ e → inv_ℚ (cell_at w entries l e) ≡ own_cell w entries l e c
unfolding own_cell
own_at w entries l e c q = sym (cond-true (eqb c e) _ _ (eq-eqb c e q))

pub own_other : (w : ℕ) (entries : List ℚ) (l e c : ℕ) → (c ≡ e → ⊥) → neg_ℚ (cell_at w entries l c) *ℚ inv_ℚ (cell_at w entries l e) ≡ own_cell w entries l e c
unfolding own_cell
own_other w entries l e c q = sym (cond-false (eqb c e) _ _ (ne_eqb c e q))

-- one entry more of a changed row, as it is read and formed
module _ (w : ℕ) (old cur row : List ℚ) (r c e here : ℕ) (k x y : ℚ) (ek : k ≡ cell_at w old r e) (eh : here ≡ r * w + c) (b : here < length cur) (ex : x ≡ get_or cur here x)
    (d : c < length row) (ey : y ≡ get_or row c y) (kept : (q : ℕ) → (q < r * w) ⊎ (r * w + c ≤ q) → row_at cur q ≡ row_at old q) where
  x_is : x ≡ cell_at w old r c
  x_is = get_or_read cur here x b ex (int (pos 0)) ∙ ap (row_at cur) eh ∙ kept (r * w + c) (inr (omega arith))

  y_is : y ≡ row_at row c
  y_is = get_or_read row c y d ey (int (pos 0))

  pub step_value : (v : ℚ) → v ≡ changed k x y e c → v ≡ changed_cell w old (row_at row) e r c
  step_value v h = h ∙ (λ i. changed (ek i) (x_is i) (y_is i) e c)

  step_fits : EntryFits k x y e c → EntryFits (cell_at w old r e) (cell_at w old r c) (row_at row c) e c
  step_fits h = subst (λ u. EntryFits u (cell_at w old r c) (row_at row c) e c) ek (subst₂ (λ u v. EntryFits k u v e c) x_is y_is h)

  pub step_fits_back : (EntryFits k x y e c → ⊥) → ChangeFits w old (row_at row) e r → c < w → ⊥
  step_fits_back no_ a h = no_ (subst₂ (λ u v. EntryFits k u v e c) (sym x_is) (sym y_is) (subst (λ u. EntryFits u (cell_at w old r c) (row_at row c) e c) (sym ek) (a.each c h)))

  pub fits_more : EntryFits k x y e c → ((z : ℕ) → z < c → EntryFits (cell_at w old r e) (cell_at w old r z) (row_at row z) e z) → (z : ℕ) → z < c + 1 → EntryFits (cell_at w old r e) (cell_at w old r z) (row_at row z) e z
  fits_more h g z m = by (cases_eq z c)
    where
      by : (z ≡ c) ⊎ (z ≡ c → ⊥) → EntryFits (cell_at w old r e) (cell_at w old r z) (row_at row z) e z
      by (inl q) = subst (λ u. EntryFits (cell_at w old r e) (cell_at w old r u) (row_at row u) e u) (sym q) (step_fits h)
      by (inr q) = g z (omega arith)

-- a row with the entry 0 in column e stays
pub changed_zero : (w : ℕ) (entries : List ℚ) (f : ℕ → ℚ) (e r c : ℕ) → cell_at w entries r e ≡ int (pos 0) → cell_at w entries r c ≡ changed_cell w entries f e r c
changed_zero w entries f e r c h = by (cases_eq c e)
  where
    by : (c ≡ e) ⊎ (c ≡ e → ⊥) → cell_at w entries r c ≡ changed_cell w entries f e r c
    by (inl q) = ap (cell_at w entries r) q ∙ sym (nought (cell_at w entries r e) (f c) h) ∙ changed_at (cell_at w entries r e) (cell_at w entries r c) (f c) e c q
    by (inr q) = sym (still (cell_at w entries r e) (cell_at w entries r c) (f c) h) ∙ changed_other (cell_at w entries r e) (cell_at w entries r c) (f c) e c q

-- the same row in two tables is changed the same way
module _ (w : ℕ) (old cur : List ℚ) (f : ℕ → ℚ) (e r : ℕ) (eb : e < w) (same : (c : ℕ) → c < w → cell_at w cur r c ≡ cell_at w old r c) where
  pub changed_same : (c : ℕ) → c < w → changed_cell w cur f e r c ≡ changed_cell w old f e r c
  changed_same c b = λ i. changed (same e eb i) (same c b i) (f c) e c

  pub fits_same : ChangeFits w cur f e r → ChangeFits w old f e r
  fits_same h = record { each = λ c b. subst₂ (λ u v. EntryFits u v (f c) e c) (same e eb) (same c b) (h.each c b) }

  pub fits_same_back : ChangeFits w old f e r → ChangeFits w cur f e r
  fits_same_back h = record { each = λ c b. subst₂ (λ u v. EntryFits u v (f c) e c) (sym (same e eb)) (sym (same c b)) (h.each c b) }

-- ---- row after row
pub record RowsSo (w : ℕ) (old cur : List ℚ) (f : ℕ → ℚ) (l e r : ℕ) : Type 0 where
  pub done : (t c : ℕ) → t < r → c < w → (t ≡ l → ⊥) → cell_at w cur t c ≡ changed_cell w old f e t c
  pub kept : (q : ℕ) → r * w ≤ q → row_at cur q ≡ row_at old q
  pub fits : (t : ℕ) → t < r → (t ≡ l → ⊥) → (cell_at w old t e ≡ int (pos 0) → ⊥) → ChangeFits w old f e t

pub rows_start : (w : ℕ) (old : List ℚ) (f : ℕ → ℚ) (l e : ℕ) → RowsSo w old old f l e 0
rows_start w old f l e = record { done = λ t c h. absurd (omega arith); kept = λ q h. refl; fits = λ t h. absurd (omega arith) }

module _ (w : ℕ) (old cur : List ℚ) (f : ℕ → ℚ) (l e r : ℕ) (eb : e < w) (g : RowsSo w old cur f l e r) where
  pub row_same : (c : ℕ) → c < w → cell_at w cur r c ≡ cell_at w old r c
  row_same c b = g.kept (r * w + c) (omega arith)

  later : (q : ℕ) → (r + 1) * w ≤ q → r * w ≤ q
  later q h = let k : (r + 1) * w ≡ r * w + w = next_row r w in omega arith

  pub rows_skip : r ≡ l → RowsSo w old cur f l e (r + 1)
  rows_skip q = record {
    done = λ t c h b k. g.done t c (before t h (cases_eq t r) k) b k;
    kept = λ p h. g.kept p (later p h);
    fits = λ t h k m. g.fits t (before t h (cases_eq t r) k) k m;
  }
    where
      before : (t : ℕ) → t < r + 1 → (t ≡ r) ⊎ (t ≡ r → ⊥) → (t ≡ l → ⊥) → t < r
      before t h (inl m) k = absurd (k (m ∙ q))
      before t h (inr m) k = omega arith

  pub rows_zero : cell_at w cur r e ≡ int (pos 0) → RowsSo w old cur f l e (r + 1)
  rows_zero h = record {
    done = λ t c k b m. at t c b m k (cases_eq t r);
    kept = λ p k. g.kept p (later p k);
    fits = λ t k m o. fit t m o k (cases_eq t r);
  }
    where
      zero_old : cell_at w old r e ≡ int (pos 0)
      zero_old = sym (row_same e eb) ∙ h

      at : (t c : ℕ) → c < w → (t ≡ l → ⊥) → t < r + 1 → (t ≡ r) ⊎ (t ≡ r → ⊥) → cell_at w cur t c ≡ changed_cell w old f e t c
      at t c b m k (inl q) = subst (λ u. cell_at w cur u c ≡ changed_cell w old f e u c) (sym q) (row_same c b ∙ changed_zero w old f e r c zero_old)
      at t c b m k (inr q) = g.done t c (omega arith) b m

      fit : (t : ℕ) → (t ≡ l → ⊥) → (cell_at w old t e ≡ int (pos 0) → ⊥) → t < r + 1 → (t ≡ r) ⊎ (t ≡ r → ⊥) → ChangeFits w old f e t
      fit t m o k (inl q) = absurd (o (ap (λ u. cell_at w old u e) q ∙ zero_old))
      fit t m o k (inr q) = g.fits t (omega arith) m o

  pub rows_more : (new : List ℚ) → ChangesRow w cur new f e r → ChangeFits w cur f e r → RowsSo w old new f l e (r + 1)
  rows_more new x y = record {
    done = λ t c k b m. at t c b m k (cases_eq t r);
    kept = λ p k. x.others p (inr (let n : (r + 1) * w ≡ r * w + w = next_row r w in omega arith)) ∙ g.kept p (later p k);
    fits = λ t k m o. fit t m o k (cases_eq t r);
  }
    where
      at : (t c : ℕ) → c < w → (t ≡ l → ⊥) → t < r + 1 → (t ≡ r) ⊎ (t ≡ r → ⊥) → cell_at w new t c ≡ changed_cell w old f e t c
      at t c b m k (inl q) = subst (λ u. cell_at w new u c ≡ changed_cell w old f e u c) (sym q) (x.cells c b ∙ changed_same w old cur f e r eb row_same c b)
      at t c b m k (inr q) = let h : t < r = omega arith in x.others (t * w + c) (inl (row_before w t r c h b)) ∙ g.done t c h b m

      fit : (t : ℕ) → (t ≡ l → ⊥) → (cell_at w old t e ≡ int (pos 0) → ⊥) → t < r + 1 → (t ≡ r) ⊎ (t ≡ r → ⊥) → ChangeFits w old f e t
      fit t m o k (inl q) = subst (ChangeFits w old f e) (sym q) (fits_same w old cur f e r eb row_same y)
      fit t m o k (inr q) = g.fits t (omega arith) m o

  pub rows_wide : (h : ℕ) → r < h → (r ≡ l → ⊥) → (cell_at w cur r e ≡ int (pos 0) → ⊥) → (ChangeFits w cur f e r → ⊥) → ChangesFit h w old f l e → ⊥
  rows_wide h b k m never a = never (fits_same_back w old cur f e r eb row_same (a.rows r b k (λ q. m (row_same e eb ∙ q))))

module _ (w : ℕ) (old cur : List ℚ) (f : ℕ → ℚ) (l e r h : ℕ) (b : h ≤ r) (g : RowsSo w old cur f l e r) where
  pub rows_done : ChangesRows h w old cur f l e
  rows_done = record { cells = λ t c k d m. g.done t c (omega arith) d m }

  pub rows_fit_all : ChangesFit h w old f l e
  rows_fit_all = record { rows = λ t k m o. g.fits t (omega arith) m o }

-- ---- the whole pivot
module _ (h w : ℕ) (old mid new row : List ℚ) (l e : ℕ) (eb : e < w) (o : IsOwnRow w old l e row) where
  pub fits_own : ChangesFit h w old (row_at row) l e → ChangesFit h w old (own_cell w old l e) l e
  fits_own a = record { rows = λ r b k m. record { each = λ c d. subst (λ u. EntryFits (cell_at w old r e) (cell_at w old r c) u e c) (o.cells c d) ((a.rows r b k m).each c d) } }

  pub fits_own_back : ChangesFit h w old (own_cell w old l e) l e → ChangesFit h w old (row_at row) l e
  fits_own_back a = record { rows = λ r b k m. record { each = λ c d. subst (λ u. EntryFits (cell_at w old r e) (cell_at w old r c) u e c) (sym (o.cells c d)) ((a.rows r b k m).each c d) } }

  pub whole_pivot : ChangesRows h w old mid (row_at row) l e → PutsRow w mid new row l → IsExchanged h w old new l e
  whole_pivot a p = record {
    own = λ c b. p.cells c b ∙ o.cells c b;
    others = λ r c b d k.
        p.others (r * w + c) (row_apart w r l c d (two_sides r l k (cases_lt r l))) ∙ a.cells r c b d k
        ∙ ap (λ u. changed (cell_at w old r e) (cell_at w old r c) u e c) (o.cells c d);
  }

-- ---- rows put behind one another
module _ (w i : ℕ) (old part new : List ℚ) (f : ℕ → ℕ → ℚ) (e : new ≡ old ++ part) (long : length old ≡ i * w) (short : length part ≡ w) (g : (t j : ℕ) → t < i → j < w → cell_at w old t j ≡ f t j) (h : (j : ℕ) → j < w → row_at part j ≡ f i j) where
  pub rows_long : length new ≡ (i + 1) * w
  rows_long = ap length e ∙ length-append old part ∙ (let k : (i + 1) * w ≡ i * w + w = next_row i w in omega arith)

  pub rows_at : (t j : ℕ) → t < i + 1 → j < w → cell_at w new t j ≡ f t j
  rows_at t j b d = ap (λ xs. get_or xs (t * w + j) (int (pos 0))) e ∙ by (cases_eq t i)
    where
      by : (t ≡ i) ⊎ (t ≡ i → ⊥) → cell_at w (old ++ part) t j ≡ f t j
      by (inl q) =
          ap (λ m. get_or (old ++ part) m (int (pos 0))) (ap (λ m. m * w + j) q ∙ ap (λ m. m + j) (sym long))
          ∙ get_or-append-add old part j (int (pos 0)) ∙ h j d ∙ ap (λ m. f m j) (sym q)
      by (inr q) =
          let k : t * w + j < i * w = row_before w t i j (omega arith) d in
          get_or_append_left old part (int (pos 0)) (t * w + j) (omega arith) ∙ g t j (omega arith) d
