-- What the loops keep of the matrix that they work on.
use Rattle.std.proofs.Common.{◌≡◌, ◌≢◌, ℕ, ◌+◌, ◌<◌, ◌≤◌, pos, sym, ◌∙◌, subst, arith, ⊎_elim}
use Rattle.std.proofs.lemmas.Bool.{cases_eq}
use Rattle.mpc_exact.specs.Rational.{ℚ, int, ◌-ℚ◌, ◌*ℚ◌, ◌/ℚ◌, inv_ℚ}
use Rattle.mpc_frac.specs.Fits.{FitsFrac}
use Rattle.mpc_linear.specs.Dot.{TakenFits}
use Rattle.mpc_space.specs.Matrix.{RationalMatrix, height, entry}
use Rattle.mpc_linear.specs.Entries.{with_entry}
use Rattle.mpc_definite.specs.Pivots.{without_column, RowFits, StepFits}
use Rattle.mpc_definite.specs.Steps.{IsLike, EliminatesRow, EliminatesColumn}
use Rattle.mpc_definite.proofs.Cells.{with_entry-same, with_entry-row, with_entry-others, with_entry-shape, like-trans}

-- writing one entry of row i of a matrix like old
like_with : (old m : RationalMatrix) (i k : ℕ) (v : ℚ) → i < height old → IsLike old m → IsLike old (with_entry m i k v)
like_with old m i k v a p = with_entry-shape m i k v (height old) (height old) (omega (arith, p.rows_are)) p

same_with : (old m : RationalMatrix) (i k : ℕ) (v : ℚ) → i < height old → k < height old → IsLike old m → entry (with_entry m i k v) i k ≡ v
same_with old m i k v a b p = with_entry-same m i k v (omega (arith, p.rows_are)) (omega (arith, p.rows_are, p.columns_are)) p.rectangular

other_with : (old m : RationalMatrix) (i k : ℕ) (v : ℚ) (q : ℕ) → i < height old → q ≢ k → IsLike old m → entry (with_entry m i k v) i q ≡ entry m i q
other_with old m i k v q a other p = with_entry-row m i k v q (omega (arith, p.rows_are)) other

-- ---- copying
-- the first entries of row i are those of h
pub record CopiesSome (h old new : RationalMatrix) (i k : ℕ) : Type 0 where
  pub like : IsLike old new
  pub copied : (q : ℕ) → q < k → entry new i q ≡ entry h i q
  pub above : (q : ℕ) → k ≤ q → entry new i q ≡ entry old i q
  pub others : (r q : ℕ) → r ≢ i → entry new r q ≡ entry old r q

-- the first rows of the lower triangle
pub record LowerSome (h new : RationalMatrix) (i : ℕ) : Type 0 where
  pub like : IsLike h new
  pub copied : (r q : ℕ) → r < i → q ≤ r → entry new r q ≡ entry h r q
  pub above : (r q : ℕ) → r < q → entry new r q ≡ int (pos 0)

-- ---- one row
-- the entries of row i behind column j and before column k are done
pub record RowSome (old new : RationalMatrix) (j i k : ℕ) : Type 0 where
  pub like : IsLike old new
  pub done : (q : ℕ) → j < q → q < k → entry new i q ≡ without_column (entry old) j i q
  pub before : (q : ℕ) → q ≤ j → entry new i q ≡ entry old i q
  pub behind : (q : ℕ) → k ≤ q → entry new i q ≡ entry old i q
  pub others : (r q : ℕ) → r ≢ i → entry new r q ≡ entry old r q

-- the entry of column j above or in row i is still that of before
pub row_read : (old m : RationalMatrix) (j i k : ℕ) → RowSome old m j i k → (r : ℕ) → entry m r j ≡ entry old r j
row_read old m j i k w r = ⊎_elim (λ p. subst (λ z. entry m z j ≡ entry old z j) (sym p) (w.before j (omega arith))) (λ p. w.others r j p) (cases_eq r i)

pub row_step : (old m : RationalMatrix) (j i k : ℕ) (v : ℚ) → j < k → k ≤ i → i < height old → v ≡ without_column (entry old) j i k → RowSome old m j i k → RowSome old (with_entry m i k v) j i (k + 1)
row_step old m j i k v a b c e w = record {
  like = like_with old m i k v c w.like;
  done = λ q l p. ⊎_elim
      (λ r. subst (λ z. entry (with_entry m i k v) i z ≡ without_column (entry old) j i z) (sym r) (same_with old m i k v c (omega arith) w.like ∙ e))
      (λ r. other_with old m i k v q c r w.like ∙ w.done q l (omega arith))
      (cases_eq q k);
  before = λ q l. other_with old m i k v q c (λ p. omega arith) w.like ∙ w.before q l;
  behind = λ q l. other_with old m i k v q c (λ p. omega arith) w.like ∙ w.behind q (omega arith);
  others = λ r q p. with_entry-others m i k v r q p ∙ w.others r q p;
}

pub row_done : (old m : RationalMatrix) (j i k : ℕ) (v : ℚ) → j < i → i < height old → k ≡ i + 1 → v ≡ entry old i j /ℚ entry old j j → RowSome old m j i k → EliminatesRow old (with_entry m i j v) j i
row_done old m j i k v a b c e w = record {
  like = like_with old m i j v b w.like;
  factor = same_with old m i j v b (omega arith) w.like ∙ e;
  rest = λ q l p. other_with old m i j v q b (λ r. omega arith) w.like ∙ w.done q l (omega arith);
  before = λ q l. other_with old m i j v q b (λ r. omega arith) w.like ∙ w.before q (omega arith);
  above = λ q l. other_with old m i j v q b (λ r. omega arith) w.like ∙ w.behind q (omega arith);
  others = λ r q p. with_entry-others m i j v r q p ∙ w.others r q p;
}

-- the operations on row i before column k
pub record RowFitsTo (m : ℕ → ℕ → ℚ) (j i k : ℕ) : Type 0 where
  pub quotient : FitsFrac (m i j /ℚ m j j)
  pub entries : (q : ℕ) → j < q → q < k → TakenFits (m i q) (m i j /ℚ m j j) (m q j)

pub fits_step : (m : ℕ → ℕ → ℚ) (j i k : ℕ) → TakenFits (m i k) (m i j /ℚ m j j) (m k j) → RowFitsTo m j i k → RowFitsTo m j i (k + 1)
fits_step m j i k p w = record {
  quotient = w.quotient;
  entries = λ q a b. ⊎_elim (λ e. subst (λ z. TakenFits (m i z) (m i j /ℚ m j j) (m z j)) (sym e) p) (λ e. w.entries q a (omega arith)) (cases_eq q k);
}

-- ---- what the code reads, as the entries before the step
pub factor_is : (old : RationalMatrix) (j i : ℕ) (f x p : ℚ) → x ≡ entry old i j → p ≡ entry old j j → f ≡ x *ℚ inv_ℚ p → f ≡ entry old i j /ℚ entry old j j
factor_is old j i f x p a b e = e ∙ (λ t. a t *ℚ inv_ℚ (b t))

taken_same : (s x y s' x' y' : ℚ) → s ≡ s' → x ≡ x' → y ≡ y' → TakenFits s x y → TakenFits s' x' y'
taken_same s x y s' x' y' a b c h = subst (TakenFits s' x') c (subst (λ z. TakenFits s' z y) b (subst (λ z. TakenFits z x y) a h))

-- the entry that is written, from the values that the code reads in m
module _ (old m : RationalMatrix) (j i k : ℕ) (f s y : ℚ) (w : RowSome old m j i k) (ef : f ≡ entry old i j /ℚ entry old j j) (es : s ≡ entry m i k) (ey : y ≡ entry m k j) where
  s_is : s ≡ entry old i k
  s_is = es ∙ w.behind k (omega arith)

  y_is : y ≡ entry old k j
  y_is = ey ∙ row_read old m j i k w k

  pub rest_is : (rest : ℚ) → rest ≡ s -ℚ f *ℚ y → rest ≡ without_column (entry old) j i k
  rest_is rest e = e ∙ (λ t. s_is t -ℚ ef t *ℚ y_is t)

  pub rest_fits : TakenFits s f y → TakenFits (entry old i k) (entry old i j /ℚ entry old j j) (entry old k j)
  rest_fits h = taken_same s f y (entry old i k) (entry old i j /ℚ entry old j j) (entry old k j) s_is ef y_is h

  pub rest_wide : j < k → k ≤ i → (TakenFits s f y → ⊥) → RowFits (entry old) j i → ⊥
  rest_wide l p h r = h (taken_same (entry old i k) (entry old i j /ℚ entry old j j) (entry old k j) s f y (sym s_is) (sym ef) (sym y_is) (r.entries k l p))

-- ---- the rows below row j, from the last up to row i
pub record ColumnSome (old new : RationalMatrix) (j i : ℕ) : Type 0 where
  pub like : IsLike old new
  pub factor : (r : ℕ) → j < r → i ≤ r → r < height old → entry new r j ≡ entry old r j /ℚ entry old j j
  pub rest : (r k : ℕ) → j < k → k ≤ r → i ≤ r → r < height old → entry new r k ≡ without_column (entry old) j r k
  pub before : (r k : ℕ) → k < j → entry new r k ≡ entry old r k
  pub above : (r k : ℕ) → r < k → entry new r k ≡ entry old r k
  pub others : (r k : ℕ) → r < i → entry new r k ≡ entry old r k

-- rows j and i are still as before, so what row i loses is what it is to lose
pub column_step : (old m new : RationalMatrix) (j i : ℕ) → j < i → i < height old → ColumnSome old m j (i + 1) → EliminatesRow m new j i → ColumnSome old new j i
column_step old m new j i a b w r = record {
  like = like-trans old m new w.like r.like;
  factor = λ q l p c. ⊎_elim
      (λ e. subst (λ z. entry new z j ≡ entry old z j /ℚ entry old j j) (sym e) (r.factor ∙ (λ t. w.others i j (omega arith) t /ℚ w.others j j (omega arith) t)))
      (λ e. r.others q j e ∙ w.factor q l (omega arith) c)
      (cases_eq q i);
  rest = λ q k l s p c. ⊎_elim
      (λ e. subst (λ z. entry new z k ≡ without_column (entry old) j z k) (sym e)
      (r.rest k l (omega arith)
      ∙ (λ t. w.others i k (omega arith) t -ℚ (w.others i j (omega arith) t /ℚ w.others j j (omega arith) t) *ℚ old_or_same k (omega arith) t)))
      (λ e. r.others q k e ∙ w.rest q k l s (omega arith) c)
      (cases_eq q i);
  before = λ q k l. ⊎_elim
      (λ e. subst (λ z. entry new z k ≡ entry old z k) (sym e) (r.before k l ∙ w.before i k l))
      (λ e. r.others q k e ∙ w.before q k l)
      (cases_eq q i);
  above = λ q k l. ⊎_elim
      (λ e. subst (λ z. entry new z k ≡ entry old z k) (sym e) (r.above k (omega arith) ∙ w.above i k (omega arith)))
      (λ e. r.others q k e ∙ w.above q k l)
      (cases_eq q i);
  others = λ q k l. r.others q k (λ e. omega arith) ∙ w.others q k (omega arith);
}
  where
    old_or_same : (k : ℕ) → k ≤ i → entry m k j ≡ entry old k j
    old_or_same k l = w.others k j (omega arith)

pub column_done : (old new : RationalMatrix) (j i : ℕ) → i ≡ j + 1 → ColumnSome old new j i → EliminatesColumn old new j
column_done old new j i e w = record {
  like = w.like;
  factor = λ r l c. w.factor r l (omega arith) c;
  rest = λ r k l p c. w.rest r k l p (omega arith) c;
  before = w.before;
  above = w.above;
  others = λ r k l. w.others r k (omega arith);
}

-- the rows that are done fit
pub record RowsFit (m : ℕ → ℕ → ℚ) (n j i : ℕ) : Type 0 where
  pub rows : (r : ℕ) → j < r → i ≤ r → r < n → RowFits m j r

-- on and below the diagonal, from column j on and down to row i
abbrev pub AgreesTo : (ℕ → ℕ → ℚ) → (ℕ → ℕ → ℚ) → ℕ → ℕ → Type 0
AgreesTo m new j i = (r k : ℕ) → j ≤ k → k ≤ r → r ≤ i → m r k ≡ new r k

pub agrees_back : (m new : ℕ → ℕ → ℚ) (j i : ℕ) → AgreesTo m new j i → AgreesTo new m j i
agrees_back m new j i h = λ r k a b c. sym (h r k a b c)

pub row_fits_of : (m new : ℕ → ℕ → ℚ) (j i : ℕ) → j < i → AgreesTo m new j i → RowFits m j i → RowFits new j i
row_fits_of m new j i a h r = record {
  quotient = subst FitsFrac quotient_same r.quotient;
  entries = λ k l p. taken_same (m i k) (m i j /ℚ m j j) (m k j) (new i k) (new i j /ℚ new j j) (new k j) (h i k (omega arith) p (omega arith)) quotient_same (h k j (omega arith) (omega arith) (omega arith)) (r.entries k l p);
}
  where
    quotient_same : m i j /ℚ m j j ≡ new i j /ℚ new j j
    quotient_same = λ t. h i j (omega arith) (omega arith) (omega arith) t /ℚ h j j (omega arith) (omega arith) (omega arith) t

pub step_fits_of : (m new : ℕ → ℕ → ℚ) (n j : ℕ) → ((i : ℕ) → i < n → AgreesTo m new j i) → StepFits m n j → StepFits new n j
step_fits_of m new n j h s = record { rows = λ i a b. row_fits_of m new j i a (h i b) (s.rows i a b) }

agrees_some : (old m : RationalMatrix) (j i : ℕ) → ColumnSome old m j (i + 1) → AgreesTo (entry m) (entry old) j i
agrees_some old m j i w = λ r k a b c. w.others r k (omega arith)

pub rows_step : (old m : RationalMatrix) (j i : ℕ) → j < i → i < height old → ColumnSome old m j (i + 1) → RowFits (entry m) j i → RowsFit (entry old) (height old) j (i + 1) → RowsFit (entry old) (height old) j i
rows_step old m j i a b w r f = record {
  rows = λ q l p c. ⊎_elim
      (λ e. subst (λ z. RowFits (entry old) j z) (sym e) (row_fits_of (entry m) (entry old) j i a (agrees_some old m j i w) r))
      (λ e. f.rows q l (omega arith) c)
      (cases_eq q i);
}

pub rows_done : (m : ℕ → ℕ → ℚ) (n j i : ℕ) → i ≡ j + 1 → RowsFit m n j i → StepFits m n j
rows_done m n j i e w = record { rows = λ r a b. w.rows r a (omega arith) b }

pub rows_wide : (old m : RationalMatrix) (j i : ℕ) → j < i → i < height old → ColumnSome old m j (i + 1) → (RowFits (entry m) j i → ⊥) → StepFits (entry old) (height old) j → ⊥
rows_wide old m j i a b w h s = h (row_fits_of (entry old) (entry m) j i a (agrees_back (entry m) (entry old) j i (agrees_some old m j i w)) (s.rows i a b))
