-- A pivot on a tableau that is stored row by row, with the pivot in row l and column e: the entries after it, and which numbers must fit.
use Rattle.std.specs.Prelude.{◌≡◌, ℕ, ◌+◌, ◌*◌, ◌<◌, ◌≤◌, ◌⊎◌, cond, eqb, List, get_or, pos}
use Rattle.mpc_exact.specs.Rational.{ℚ, int, ◌+ℚ◌, ◌*ℚ◌, neg_ℚ, inv_ℚ}
use Rattle.mpc_frac.specs.Fits.{FitsFrac}
use Rattle.mpc_linear.specs.Dot.{TermFits}
use Rattle.mpc_runs.specs.Table.{cell_at}

-- the new row l
unfoldable pub own_cell : ℕ → List ℚ → ℕ → ℕ → ℕ → ℚ
own_cell width entries l e c =
    let q = cell_at width entries l e in
    cond (eqb c e) (inv_ℚ q) (neg_ℚ (cell_at width entries l c) *ℚ inv_ℚ q)

-- the new entry of another row in column c, from its old one, its entry k in column e, and the entry of the new row l
unfoldable pub changed : ℚ → ℚ → ℚ → ℕ → ℕ → ℚ
changed k old own e c = cond (eqb c e) (k *ℚ own) (old +ℚ k *ℚ own)

-- the new row r, where f is the new row l
abbrev pub changed_cell : ℕ → List ℚ → (ℕ → ℚ) → ℕ → ℕ → ℕ → ℚ
changed_cell width entries f e r c = changed (cell_at width entries r e) (cell_at width entries r c) (f c) e c

abbrev pub row_at : List ℚ → ℕ → ℚ
row_at row c = get_or row c (int (pos 0))

pub record IsOwnRow (width : ℕ) (entries : List ℚ) (l e : ℕ) (row : List ℚ) : Type 0 where
  pub cells : (c : ℕ) → c < width → row_at row c ≡ own_cell width entries l e c

-- row r is changed, and nothing else
pub record ChangesRow (width : ℕ) (old new : List ℚ) (f : ℕ → ℚ) (e r : ℕ) : Type 0 where
  pub cells : (c : ℕ) → c < width → cell_at width new r c ≡ changed_cell width old f e r c
  pub others : (q : ℕ) → (q < r * width) ⊎ (r * width + width ≤ q) → row_at new q ≡ row_at old q

-- each row but l is changed
pub record ChangesRows (height width : ℕ) (old new : List ℚ) (f : ℕ → ℚ) (l e : ℕ) : Type 0 where
  pub cells : (r c : ℕ) → r < height → c < width → (r ≡ l → ⊥) → cell_at width new r c ≡ changed_cell width old f e r c

-- row l is put, and nothing else
pub record PutsRow (width : ℕ) (old new row : List ℚ) (l : ℕ) : Type 0 where
  pub cells : (c : ℕ) → c < width → cell_at width new l c ≡ row_at row c
  pub others : (q : ℕ) → (q < l * width) ⊎ (l * width + width ≤ q) → row_at new q ≡ row_at old q

-- the entries after the pivot
pub record IsExchanged (height width : ℕ) (old new : List ℚ) (l e : ℕ) : Type 0 where
  pub own : (c : ℕ) → c < width → cell_at width new l c ≡ own_cell width old l e c
  pub others : (r c : ℕ) → r < height → c < width → (r ≡ l → ⊥) → cell_at width new r c ≡ changed_cell width old (own_cell width old l e) e r c

-- ---- the numbers that must fit
abbrev pub QuotientFits : ℕ → List ℚ → ℕ → ℕ → ℕ → Type 0
QuotientFits width entries l e c = FitsFrac (neg_ℚ (cell_at width entries l c) *ℚ inv_ℚ (cell_at width entries l e))

pub record OwnFits (width : ℕ) (entries : List ℚ) (l e : ℕ) : Type 0 where
  pub quotients : (c : ℕ) → c < width → (c ≡ e → ⊥) → QuotientFits width entries l e c

-- one entry of a changed row
pub record EntryFits (k old own : ℚ) (e c : ℕ) : Type 0 where
  pub leaving : c ≡ e → FitsFrac (k *ℚ own)
  pub other : (c ≡ e → ⊥) → TermFits old k own

pub record ChangeFits (width : ℕ) (entries : List ℚ) (f : ℕ → ℚ) (e r : ℕ) : Type 0 where
  pub each : (c : ℕ) → c < width → EntryFits (cell_at width entries r e) (cell_at width entries r c) (f c) e c

pub record ChangesFit (height width : ℕ) (entries : List ℚ) (f : ℕ → ℚ) (l e : ℕ) : Type 0 where
  pub rows : (r : ℕ) → r < height → (r ≡ l → ⊥) → (cell_at width entries r e ≡ int (pos 0) → ⊥) → ChangeFits width entries f e r

pub record ExchangeFits (height width : ℕ) (entries : List ℚ) (l e : ℕ) : Type 0 where
  pub own : OwnFits width entries l e
  pub others : ChangesFit height width entries (own_cell width entries l e) l e
