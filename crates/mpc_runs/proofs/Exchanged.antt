-- A pivot on the stored tableau is the pivot on the position that it stands for, and the same numbers must fit.
use Rattle.std.proofs.Common.{◌≡◌, ℕ, ◌<◌, true, false, cond, eqb, List, length, set, pos, refl, sym, ◌∙◌, ap, subst, subst₂, ◌⊎◌, inl, inr, length-set, get_or-set_same, get_or-set_other, eq-eqb, ne_eqb}
use Rattle.std.proofs.lemmas.Bool.{cond-true, cond-false, cases_eq}
use Rattle.mpc_exact.specs.Rational.{ℚ, int, ◌+ℚ◌, ◌*ℚ◌, neg_ℚ, inv_ℚ}
use Rattle.mpc_frac.specs.Fits.{FitsFrac, FitsSum}
use Rattle.mpc_linear.specs.Dot.{TermFits}
use Rattle.mpc_space.specs.Total.{unit}
use Rattle.mpc_space.proofs.Total.{unit-other}
use Rattle.mpc_runs.specs.declared.variables.Seat.{Seat}
use Rattle.mpc_runs.specs.declared.variables.Seat.TheVariants.{Row, Column}
use Rattle.mpc_rows.specs.Run.{Position, IsTableau, entering_row, other_row, pivot}
use Rattle.mpc_rows.specs.RunWidth.{EnteringFits, EntryFits as PivotEntryFits, RowFits, RowsFit}
use Rattle.mpc_runs.specs.Table.{seat_at, in_row, cell_at, between, position_of, IsSeated}
use Rattle.mpc_runs.specs.Exchange.{own_cell, changed, IsExchanged, OwnFits, ChangeFits, ChangesFit, ExchangeFits}
use Rattle.mpc_runs.proofs.Outside.{IsBounded}
use Rattle.mpc_runs.proofs.Pivot.{basic-at_leaving, basic-at_entering, basic-other}
use Rattle.mpc_runs.proofs.Entries.{entering_leaving, entering_zero, entering_else, entering_empty, other_zero, other_leaving, other_else, other_still, other_empty, new_leaving, new_entering, new_other}
use Rattle.mpc_runs.proofs.Seats.{seat_cases, row_seat, column_seat, seats_apart, row_same, column_same, basic_is, cell_read, unit_row, tableau_of, position_same}

module _ (h w n : ℕ) (seats : List Seat) (entries : List ℚ) (z : IsSeated h w n seats) (l e r₀ c₀ : ℕ) (lb : l < n) (eb : e < n) (sl : seat_at seats l ≡ Row r₀) (se : seat_at seats e ≡ Column c₀) where
  p : Position
  p = position_of w seats entries

  tab : IsTableau (position_of w seats entries)
  tab = tableau_of w n seats entries z.each

  pub apart : e ≡ l → ⊥
  apart k = seats_apart r₀ c₀ (sym sl ∙ ap (seat_at seats) (sym k) ∙ se)

  r₀_in : r₀ < h
  r₀_in = (z.rows l r₀ lb sl).0

  c₀_in : c₀ < w
  c₀_in = (z.columns e c₀ eb se).0

  l_basic : (position_of w seats entries).is_basic l ≡ true
  l_basic = basic_is w n seats entries z.each l ∙ ap in_row sl

  e_free : (position_of w seats entries).is_basic e ≡ false
  e_free = basic_is w n seats entries z.each e ∙ ap in_row se

  -- another variable stands in another row or column
  other_row_of : (x r : ℕ) → x < n → seat_at seats x ≡ Row r → (x ≡ l → ⊥) → r ≡ r₀ → ⊥
  other_row_of x r b s k q = k (sym (z.rows x r b s).1 ∙ ap z.of_row q ∙ (z.rows l r₀ lb sl).1)

  pub other_column_of : (y c : ℕ) → y < n → seat_at seats y ≡ Column c → (y ≡ e → ⊥) → c ≡ c₀ → ⊥
  other_column_of y c b s k q = k (sym (z.columns y c b s).1 ∙ ap z.of_column q ∙ (z.columns e c₀ eb se).1)

  -- ---- the new seats
  long' : length (set (set seats l (Column c₀)) e (Row r₀)) ≡ n
  long' = length-set (set seats l (Column c₀)) e (Row r₀) ∙ length-set seats l (Column c₀) ∙ z.each

  pub at_e : seat_at (set (set seats l (Column c₀)) e (Row r₀)) e ≡ Row r₀
  at_e = get_or-set_same (set seats l (Column c₀)) e (Row r₀) (Row 0) (subst (λ m. e < m) (sym (length-set seats l (Column c₀) ∙ z.each)) eb)

  pub at_l : seat_at (set (set seats l (Column c₀)) e (Row r₀)) l ≡ Column c₀
  at_l =
      get_or-set_other (set seats l (Column c₀)) e l (Row r₀) (Row 0) (λ q. apart (sym q))
      ∙ get_or-set_same seats l (Column c₀) (Row 0) (subst (λ m. l < m) (sym z.each) lb)

  pub at_other : (x : ℕ) → (x ≡ e → ⊥) → (x ≡ l → ⊥) → seat_at (set (set seats l (Column c₀)) e (Row r₀)) x ≡ seat_at seats x
  at_other x k m = get_or-set_other (set seats l (Column c₀)) e x (Row r₀) (Row 0) k ∙ get_or-set_other seats l x (Column c₀) (Row 0) m

  row_variable : ℕ → ℕ
  row_variable r = cond (eqb r r₀) e (z.of_row r)

  column_variable : ℕ → ℕ
  column_variable c = cond (eqb c c₀) l (z.of_column c)

  new_rows : (x r : ℕ) → x < n → (x ≡ e) ⊎ (x ≡ e → ⊥) → (x ≡ l) ⊎ (x ≡ l → ⊥) → seat_at (set (set seats l (Column c₀)) e (Row r₀)) x ≡ Row r → (r < h) × (row_variable r ≡ x)
  unfolding row_variable
  new_rows x r b (inl q) d s =
      let k : r₀ ≡ r = row_same r₀ r (sym at_e ∙ ap (seat_at (set (set seats l (Column c₀)) e (Row r₀))) (sym q) ∙ s) in
      (subst (λ m. m < h) k r₀_in, cond-true (eqb r r₀) e (z.of_row r) (eq-eqb r r₀ (sym k)) ∙ sym q)
  new_rows x r b (inr q) (inl m) s = absurd (seats_apart r c₀ (sym s ∙ ap (seat_at (set (set seats l (Column c₀)) e (Row r₀))) m ∙ at_l))
  new_rows x r b (inr q) (inr m) s =
      let t : seat_at seats x ≡ Row r = sym (at_other x q m) ∙ s in
      ((z.rows x r b t).0, cond-false (eqb r r₀) e (z.of_row r) (ne_eqb r r₀ (other_row_of x r b t m)) ∙ (z.rows x r b t).1)

  new_columns : (y c : ℕ) → y < n → (y ≡ e) ⊎ (y ≡ e → ⊥) → (y ≡ l) ⊎ (y ≡ l → ⊥) → seat_at (set (set seats l (Column c₀)) e (Row r₀)) y ≡ Column c → (c < w) × (column_variable c ≡ y)
  unfolding column_variable
  new_columns y c b (inl q) d s = absurd (seats_apart r₀ c (sym at_e ∙ ap (seat_at (set (set seats l (Column c₀)) e (Row r₀))) (sym q) ∙ s))
  new_columns y c b (inr q) (inl m) s =
      let k : c₀ ≡ c = column_same c₀ c (sym at_l ∙ ap (seat_at (set (set seats l (Column c₀)) e (Row r₀))) (sym m) ∙ s) in
      (subst (λ u. u < w) k c₀_in, cond-true (eqb c c₀) l (z.of_column c) (eq-eqb c c₀ (sym k)) ∙ sym m)
  new_columns y c b (inr q) (inr m) s =
      let t : seat_at seats y ≡ Column c = sym (at_other y q m) ∙ s in
      ((z.columns y c b t).0, cond-false (eqb c c₀) l (z.of_column c) (ne_eqb c c₀ (other_column_of y c b t q)) ∙ (z.columns y c b t).1)

  new_rows_full : (r : ℕ) → r < h → (r ≡ r₀) ⊎ (r ≡ r₀ → ⊥) → (row_variable r < n) × (seat_at (set (set seats l (Column c₀)) e (Row r₀)) (row_variable r) ≡ Row r)
  unfolding row_variable
  new_rows_full r b (inl q) =
      let k : cond (eqb r r₀) e (z.of_row r) ≡ e = cond-true (eqb r r₀) e (z.of_row r) (eq-eqb r r₀ q) in
      (subst (λ u. u < n) (sym k) eb, ap (seat_at (set (set seats l (Column c₀)) e (Row r₀))) k ∙ at_e ∙ ap Row (sym q))
  new_rows_full r b (inr q) =
      let k : cond (eqb r r₀) e (z.of_row r) ≡ z.of_row r = cond-false (eqb r r₀) e (z.of_row r) (ne_eqb r r₀ q) in
      let f = z.rows_full r b in (
        subst (λ u. u < n) (sym k) f.0,
        ap (seat_at (set (set seats l (Column c₀)) e (Row r₀))) k
            ∙ at_other (z.of_row r) (λ m. seats_apart r c₀ (sym f.1 ∙ ap (seat_at seats) m ∙ se)) (λ m. q (row_same r r₀ (sym f.1 ∙ ap (seat_at seats) m ∙ sl))) ∙ f.1,
      )

  new_columns_full : (c : ℕ) → c < w → (c ≡ c₀) ⊎ (c ≡ c₀ → ⊥) → (column_variable c < n) × (seat_at (set (set seats l (Column c₀)) e (Row r₀)) (column_variable c) ≡ Column c)
  unfolding column_variable
  new_columns_full c b (inl q) =
      let k : cond (eqb c c₀) l (z.of_column c) ≡ l = cond-true (eqb c c₀) l (z.of_column c) (eq-eqb c c₀ q) in
      (subst (λ u. u < n) (sym k) lb, ap (seat_at (set (set seats l (Column c₀)) e (Row r₀))) k ∙ at_l ∙ ap Column (sym q))
  new_columns_full c b (inr q) =
      let k : cond (eqb c c₀) l (z.of_column c) ≡ z.of_column c = cond-false (eqb c c₀) l (z.of_column c) (ne_eqb c c₀ q) in
      let f = z.columns_full c b in (
        subst (λ u. u < n) (sym k) f.0,
        ap (seat_at (set (set seats l (Column c₀)) e (Row r₀))) k
            ∙ at_other (z.of_column c) (λ m. q (column_same c c₀ (sym f.1 ∙ ap (seat_at seats) m ∙ se))) (λ m. seats_apart r₀ c (sym sl ∙ ap (seat_at seats) (sym m) ∙ f.1)) ∙ f.1,
      )

  pub new_seated : IsSeated h w n (set (set seats l (Column c₀)) e (Row r₀))
  new_seated = record {
    count = z.count;
    each = long';
    of_row = row_variable;
    of_column = column_variable;
    rows = λ x r b s. new_rows x r b (cases_eq x e) (cases_eq x l) s;
    columns = λ y c b s. new_columns y c b (cases_eq y e) (cases_eq y l) s;
    rows_full = λ r b. new_rows_full r b (cases_eq r r₀);
    columns_full = λ c b. new_columns_full c b (cases_eq c c₀);
  }

  -- ---- the entering row
  q_is : cell_at w entries r₀ c₀ ≡ (position_of w seats entries).coefficient l e
  q_is = cell_read w n seats entries z.each l e r₀ c₀ lb eb sl se

  own_at_leaving : own_cell w entries r₀ c₀ c₀ ≡ entering_row (position_of w seats entries) l e l
  unfolding own_cell
  own_at_leaving = cond-true (eqb c₀ c₀) _ _ (eq-eqb c₀ c₀ refl) ∙ ap inv_ℚ q_is ∙ entering_leaving (position_of w seats entries) l e l refl

  own_at_other : (y c : ℕ) → y < n → seat_at seats y ≡ Column c → (y ≡ e → ⊥) → own_cell w entries r₀ c₀ c ≡ entering_row (position_of w seats entries) l e y
  unfolding own_cell
  own_at_other y c b s k =
      cond-false (eqb c c₀) _ _ (ne_eqb c c₀ (other_column_of y c b s k))
      ∙ (λ i. neg_ℚ (cell_read w n seats entries z.each l y r₀ c lb b sl s i) *ℚ inv_ℚ (q_is i))
      ∙ entering_else (position_of w seats entries) l e y (λ m. seats_apart r₀ c (sym sl ∙ ap (seat_at seats) (sym m) ∙ s)) k

  own_fits : OwnFits w entries r₀ c₀ → EnteringFits n (position_of w seats entries) l e
  own_fits f = record { quotients = λ y b k m. by y b m (column_seat (seat_at seats y) (sym (basic_is w n seats entries z.each y) ∙ k)) }
    where
      by : (y : ℕ) → y < n → (y ≡ e → ⊥) → (c : ℕ) × (seat_at seats y ≡ Column c) → FitsFrac (neg_ℚ ((position_of w seats entries).coefficient l y) *ℚ inv_ℚ ((position_of w seats entries).coefficient l e))
      by y b m u =
          subst₂ (λ a d. FitsFrac (neg_ℚ a *ℚ inv_ℚ d)) (cell_read w n seats entries z.each l y r₀ u.0 lb b sl u.1) q_is
          (f.quotients u.0 (z.columns y u.0 b u.1).0 (other_column_of y u.0 b u.1 m))

  own_fits_back : EnteringFits n (position_of w seats entries) l e → OwnFits w entries r₀ c₀
  own_fits_back f = record { quotients = λ c b k. by c k (z.columns_full c b) }
    where
      by : (c : ℕ) → (c ≡ c₀ → ⊥) → (z.of_column c < n) × (seat_at seats (z.of_column c) ≡ Column c) → FitsFrac (neg_ℚ (cell_at w entries r₀ c) *ℚ inv_ℚ (cell_at w entries r₀ c₀))
      by c k u =
          subst₂ (λ a d. FitsFrac (neg_ℚ a *ℚ inv_ℚ d)) (sym (cell_read w n seats entries z.each l (z.of_column c) r₀ c lb u.0 sl u.1)) (sym q_is)
          (f.quotients (z.of_column c) u.0 (basic_is w n seats entries z.each (z.of_column c) ∙ ap in_row u.1) (λ m. k (column_same c c₀ (sym u.1 ∙ ap (seat_at seats) m ∙ se))))

  -- ---- the other rows
  row_fits : (x r : ℕ) → x < n → seat_at seats x ≡ Row r → ChangeFits w entries (own_cell w entries r₀ c₀) c₀ r → RowFits n (position_of w seats entries) l e x
  row_fits x r b s f = record {
    leaving = subst₂ (λ a d. FitsFrac (a *ℚ d)) (cell_read w n seats entries z.each x e r c₀ b eb s se) own_at_leaving ((f.each c₀ c₀_in).leaving refl);
    entries = λ y g k m. by y g m (column_seat (seat_at seats y) (sym (basic_is w n seats entries z.each y) ∙ k));
  }
    where
      by : (y : ℕ) → y < n → (y ≡ e → ⊥) → (c : ℕ) × (seat_at seats y ≡ Column c) → PivotEntryFits (position_of w seats entries) l e x y
      by y g m u =
          let t = (f.each u.0 (z.columns y u.0 g u.1).0).other (other_column_of y u.0 g u.1 m) in
          let ek = cell_read w n seats entries z.each x e r c₀ b eb s se in
          let eo = own_at_other y u.0 g u.1 m in
          record {
            product = subst₂ (λ a d. FitsFrac (a *ℚ d)) ek eo t.product;
            sum = subst₂ (λ a d. FitsSum a d) (cell_read w n seats entries z.each x y r u.0 b g s u.1) (λ i. ek i *ℚ eo i) t.sum;
          }

  row_fits_back : (x r : ℕ) → x < n → seat_at seats x ≡ Row r → RowFits n (position_of w seats entries) l e x → ChangeFits w entries (own_cell w entries r₀ c₀) c₀ r
  row_fits_back x r b s f = record { each = λ c g. record { leaving = λ q. at_leaving c q; other = λ q. by c q (z.columns_full c g) } }
    where
      at_leaving : (c : ℕ) → c ≡ c₀ → FitsFrac (cell_at w entries r c₀ *ℚ own_cell w entries r₀ c₀ c)
      at_leaving c q = subst₂ (λ a d. FitsFrac (a *ℚ d)) (sym (cell_read w n seats entries z.each x e r c₀ b eb s se)) (sym (ap (own_cell w entries r₀ c₀) q ∙ own_at_leaving)) f.leaving

      by : (c : ℕ) → (c ≡ c₀ → ⊥) → (z.of_column c < n) × (seat_at seats (z.of_column c) ≡ Column c) → TermFits (cell_at w entries r c) (cell_at w entries r c₀) (own_cell w entries r₀ c₀ c)
      by c q u =
          let k : z.of_column c ≡ e → ⊥ = λ m. q (column_same c c₀ (sym u.1 ∙ ap (seat_at seats) m ∙ se)) in
          let t = f.entries (z.of_column c) u.0 (basic_is w n seats entries z.each (z.of_column c) ∙ ap in_row u.1) k in
          let ek = cell_read w n seats entries z.each x e r c₀ b eb s se in
          let eo = own_at_other (z.of_column c) c u.0 u.1 k in
          record {
            product = subst₂ (λ a d. FitsFrac (a *ℚ d)) (sym ek) (sym eo) t.product;
            sum = subst₂ (λ a d. FitsSum a d) (sym (cell_read w n seats entries z.each x (z.of_column c) r c b u.0 s u.1)) (λ i. sym ek i *ℚ sym eo i) t.sum;
          }

  rows_fit : ChangesFit h w entries (own_cell w entries r₀ c₀) r₀ c₀ → RowsFit n (position_of w seats entries) l e
  rows_fit f = record { rows = λ x b k m q. by x b m q (row_seat (seat_at seats x) (sym (basic_is w n seats entries z.each x) ∙ k)) }
    where
      by : (x : ℕ) → x < n → (x ≡ l → ⊥) → ((position_of w seats entries).coefficient x e ≡ int (pos 0) → ⊥) → (r : ℕ) × (seat_at seats x ≡ Row r) → RowFits n (position_of w seats entries) l e x
      by x b m q u =
          row_fits x u.0 b u.1 (f.rows u.0 (z.rows x u.0 b u.1).0 (other_row_of x u.0 b u.1 m) (λ i. q (sym (cell_read w n seats entries z.each x e u.0 c₀ b eb u.1 se) ∙ i)))

  rows_fit_back : RowsFit n (position_of w seats entries) l e → ChangesFit h w entries (own_cell w entries r₀ c₀) r₀ c₀
  rows_fit_back f = record { rows = λ r b m q. by r m q (z.rows_full r b) }
    where
      by : (r : ℕ) → (r ≡ r₀ → ⊥) → (cell_at w entries r c₀ ≡ int (pos 0) → ⊥) → (z.of_row r < n) × (seat_at seats (z.of_row r) ≡ Row r) → ChangeFits w entries (own_cell w entries r₀ c₀) c₀ r
      by r m q u =
          row_fits_back (z.of_row r) r u.0 u.1
          (f.rows (z.of_row r) u.0 (basic_is w n seats entries z.each (z.of_row r) ∙ ap in_row u.1) (λ i. m (row_same r r₀ (sym u.1 ∙ ap (seat_at seats) i ∙ sl)))
          (λ i. q (cell_read w n seats entries z.each (z.of_row r) e r c₀ u.0 eb u.1 se ∙ i)))

  pub exchange_fits : ExchangeFits h w entries r₀ c₀ → EnteringFits n (position_of w seats entries) l e × RowsFit n (position_of w seats entries) l e
  exchange_fits f = (own_fits f.own, rows_fit f.others)

  pub exchange_fits_back : EnteringFits n (position_of w seats entries) l e → RowsFit n (position_of w seats entries) l e → ExchangeFits h w entries r₀ c₀
  exchange_fits_back f g = record { own = own_fits_back f; others = rows_fit_back g }

  -- ---- the entries after the pivot
  module _ (new : List ℚ) (x_ : IsExchanged h w entries new r₀ c₀) (bounded : IsBounded n (pivot (position_of w seats entries) l e)) where
    e_row : (y : ℕ) → y < n → (y ≡ e) ⊎ (y ≡ e → ⊥) → (y ≡ l) ⊎ (y ≡ l → ⊥) → between w new (unit e y) (Row r₀) (seat_at (set (set seats l (Column c₀)) e (Row r₀)) y) ≡ entering_row (position_of w seats entries) l e y
    e_row y b (inl q) d =
        ap (between w new (unit e y) (Row r₀)) (ap (seat_at (set (set seats l (Column c₀)) e (Row r₀))) q ∙ at_e)
        ∙ entering_zero (position_of w seats entries) l e y (λ m. apart (sym q ∙ m)) q
    e_row y b (inr q) (inl m) =
        ap (between w new (unit e y) (Row r₀)) (ap (seat_at (set (set seats l (Column c₀)) e (Row r₀))) m ∙ at_l)
        ∙ x_.own c₀ c₀_in ∙ own_at_leaving ∙ ap (entering_row (position_of w seats entries) l e) (sym m)
    e_row y b (inr q) (inr m) = ap (between w new (unit e y) (Row r₀)) (at_other y q m) ∙ by (seat_cases (seat_at seats y))
      where
        by : ((r : ℕ) × (seat_at seats y ≡ Row r)) ⊎ ((c : ℕ) × (seat_at seats y ≡ Column c)) → between w new (unit e y) (Row r₀) (seat_at seats y) ≡ entering_row (position_of w seats entries) l e y
        by (inl u) = ap (between w new (unit e y) (Row r₀)) u.1 ∙ entering_empty (position_of w seats entries) tab l e l_basic y m q (basic_is w n seats entries z.each y ∙ ap in_row u.1)
        by (inr u) = ap (between w new (unit e y) (Row r₀)) u.1 ∙ x_.own u.0 (z.columns y u.0 b u.1).0 ∙ own_at_other y u.0 b u.1 q

    module _ (x r : ℕ) (b : x < n) (s : seat_at seats x ≡ Row r) (k : x ≡ l → ⊥) (x_e : x ≡ e → ⊥) where
      factor : cell_at w entries r c₀ ≡ (position_of w seats entries).coefficient x e
      factor = cell_read w n seats entries z.each x e r c₀ b eb s se

      r_in : r < h
      r_in = (z.rows x r b s).0

      r_other : r ≡ r₀ → ⊥
      r_other = other_row_of x r b s k

      other_e_row : (y : ℕ) → y < n → (y ≡ e) ⊎ (y ≡ e → ⊥) → (y ≡ l) ⊎ (y ≡ l → ⊥) → between w new (unit x y) (Row r) (seat_at (set (set seats l (Column c₀)) e (Row r₀)) y) ≡ other_row (position_of w seats entries) l e x y
      unfolding changed
      other_e_row y g (inl q) d =
          ap (between w new (unit x y) (Row r)) (ap (seat_at (set (set seats l (Column c₀)) e (Row r₀))) q ∙ at_e)
          ∙ other_zero (position_of w seats entries) l e x y q
      other_e_row y g (inr q) (inl m) =
          ap (between w new (unit x y) (Row r)) (ap (seat_at (set (set seats l (Column c₀)) e (Row r₀))) m ∙ at_l)
          ∙ x_.others r c₀ r_in c₀_in r_other ∙ cond-true (eqb c₀ c₀) _ _ (eq-eqb c₀ c₀ refl)
          ∙ (λ i. factor i *ℚ (own_at_leaving ∙ ap (entering_row (position_of w seats entries) l e) (sym m)) i)
          ∙ other_leaving (position_of w seats entries) l e x y q m
      other_e_row y g (inr q) (inr m) = ap (between w new (unit x y) (Row r)) (at_other y q m) ∙ by (seat_cases (seat_at seats y))
        where
          by : ((t : ℕ) × (seat_at seats y ≡ Row t)) ⊎ ((c : ℕ) × (seat_at seats y ≡ Column c)) → between w new (unit x y) (Row r) (seat_at seats y) ≡ other_row (position_of w seats entries) l e x y
          by (inl u) = ap (between w new (unit x y) (Row r)) u.1 ∙ other_empty (position_of w seats entries) tab l e l_basic x y q m (basic_is w n seats entries z.each y ∙ ap in_row u.1)
          by (inr u) =
              ap (between w new (unit x y) (Row r)) u.1
              ∙ x_.others r u.0 r_in (z.columns y u.0 g u.1).0 r_other ∙ cond-false (eqb u.0 c₀) _ _ (ne_eqb u.0 c₀ (other_column_of y u.0 g u.1 q))
              ∙ (λ i. cell_read w n seats entries z.each x y r u.0 b g s u.1 i +ℚ factor i *ℚ own_at_other y u.0 g u.1 q i)
              ∙ other_else (position_of w seats entries) l e x y q m

    free_row : (x c y : ℕ) → x < n → y < n → seat_at seats x ≡ Column c → (x ≡ e → ⊥) → (y ≡ e) ⊎ (y ≡ e → ⊥) → unit x y ≡ other_row (position_of w seats entries) l e x y
    free_row x c y b g s k (inl q) = unit-other x y (λ m. k (m ∙ q)) ∙ other_zero (position_of w seats entries) l e x y q
    free_row x c y b g s k (inr q) =
        sym (unit_row w n seats entries z.each x y c b g s)
        ∙ other_still (position_of w seats entries) tab l e l_basic x y q (unit_row w n seats entries z.each x e c b eb s ∙ unit-other x e k)

    new_cells : (x y : ℕ) → x < n → y < n → (x ≡ l) ⊎ (x ≡ l → ⊥) → (x ≡ e) ⊎ (x ≡ e → ⊥) →
        between w new (unit x y) (seat_at (set (set seats l (Column c₀)) e (Row r₀)) x) (seat_at (set (set seats l (Column c₀)) e (Row r₀)) y) ≡ (pivot (position_of w seats entries) l e).coefficient x y
    new_cells x y b g (inl q) d =
        ap (λ u. between w new (unit x y) u (seat_at (set (set seats l (Column c₀)) e (Row r₀)) y)) (ap (seat_at (set (set seats l (Column c₀)) e (Row r₀))) q ∙ at_l)
        ∙ ap (λ v. unit v y) q ∙ new_leaving (position_of w seats entries) l e x y q
    new_cells x y b g (inr q) (inl m) =
        (λ i. between w new (unit (m i) y) ((ap (seat_at (set (set seats l (Column c₀)) e (Row r₀))) m ∙ at_e) i) (seat_at (set (set seats l (Column c₀)) e (Row r₀)) y))
        ∙ e_row y g (cases_eq y e) (cases_eq y l) ∙ new_entering (position_of w seats entries) l e x y q m
    new_cells x y b g (inr q) (inr m) =
        ap (λ u. between w new (unit x y) u (seat_at (set (set seats l (Column c₀)) e (Row r₀)) y)) (at_other x m q)
        ∙ by (seat_cases (seat_at seats x)) ∙ new_other (position_of w seats entries) l e x y q m
      where
        by : ((r : ℕ) × (seat_at seats x ≡ Row r)) ⊎ ((c : ℕ) × (seat_at seats x ≡ Column c)) → between w new (unit x y) (seat_at seats x) (seat_at (set (set seats l (Column c₀)) e (Row r₀)) y) ≡ other_row (position_of w seats entries) l e x y
        by (inl u) = ap (λ v. between w new (unit x y) v (seat_at (set (set seats l (Column c₀)) e (Row r₀)) y)) u.1 ∙ other_e_row x u.0 b u.1 q m y g (cases_eq y e) (cases_eq y l)
        by (inr u) = ap (λ v. between w new (unit x y) v (seat_at (set (set seats l (Column c₀)) e (Row r₀)) y)) u.1 ∙ free_row x u.0 y b g u.1 m (cases_eq y e)

    new_basic : (x : ℕ) → x < n → (x ≡ l) ⊎ (x ≡ l → ⊥) → (x ≡ e) ⊎ (x ≡ e → ⊥) → in_row (seat_at (set (set seats l (Column c₀)) e (Row r₀)) x) ≡ (pivot (position_of w seats entries) l e).is_basic x
    new_basic x b (inl q) d =
        ap in_row (ap (seat_at (set (set seats l (Column c₀)) e (Row r₀))) q ∙ at_l)
        ∙ sym (ap (pivot (position_of w seats entries) l e).is_basic q ∙ basic-at_leaving (position_of w seats entries) l e)
    new_basic x b (inr q) (inl m) =
        ap in_row (ap (seat_at (set (set seats l (Column c₀)) e (Row r₀))) m ∙ at_e)
        ∙ sym (ap (pivot (position_of w seats entries) l e).is_basic m ∙ basic-at_entering (position_of w seats entries) l e apart)
    new_basic x b (inr q) (inr m) =
        ap in_row (at_other x m q) ∙ sym (basic_is w n seats entries z.each x) ∙ sym (basic-other (position_of w seats entries) l e x q m)

    pub exchanged_is : position_of w (set (set seats l (Column c₀)) e (Row r₀)) new ≡ pivot (position_of w seats entries) l e
    exchanged_is = position_same w n (set (set seats l (Column c₀)) e (Row r₀)) new long' (pivot (position_of w seats entries) l e) bounded
        (λ x b. new_basic x b (cases_eq x l) (cases_eq x e)) (λ x y b g. new_cells x y b g (cases_eq x l) (cases_eq x e))
