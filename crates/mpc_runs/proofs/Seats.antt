-- The position that a tableau stands for.
use Rattle.std.proofs.Common.{◌≡◌, ℕ, ◌+◌, ◌-◌, ◌<◌, ◌≤◌, true, false, not, ltb, ◌&&◌, List, length, pos, refl, sym, ◌∙◌, ap, subst, arith, ◌⊎◌, inl, inr, lt-ltb, le-ltb}
use Rattle.std.proofs.lemmas.Bool.{cond-true, cond-false, cases_lt, cases_Bool, both_ways, and_from, and_left, and_right}
use Rattle.std.proofs.lemmas.List.{get_or_past}
use Rattle.mpc_exact.specs.Rational.{ℚ, int}
use Rattle.mpc_space.specs.Total.{unit}
use Rattle.mpc_space.proofs.Total.{unit-other}
use Rattle.mpc_rows.specs.LinearSystem.{LinearSystem, height}
use Rattle.mpc_runs.specs.declared.variables.Seat.{Seat}
use Rattle.mpc_runs.specs.declared.variables.Seat.TheVariants.{Row, Column}
use Rattle.mpc_rows.specs.Run.{Position, IsTableau, is_unknown, opening}
use Rattle.mpc_runs.specs.Table.{seat_at, in_row, cell_at, between, position_of, IsSeated, IsOpeningSeats, IsOpeningEntries}
use Rattle.mpc_runs.proofs.Outside.{IsBounded}
use Rattle.mpc_runs.proofs.Read.{opening_unknown, opening_side, opening_none, unknown_below, from_unknown}

pub seat_cases : (q : Seat) → ((r : ℕ) × (q ≡ Row r)) ⊎ ((c : ℕ) × (q ≡ Column c))
seat_cases (Row r) = inl (r, refl)
seat_cases (Column c) = inr (c, refl)

pub row_seat : (q : Seat) → in_row q ≡ true → (r : ℕ) × (q ≡ Row r)
row_seat (Row r) h = (r, refl)
row_seat (Column c) h = absurd (both_ways false refl h)

pub column_seat : (q : Seat) → in_row q ≡ false → (c : ℕ) × (q ≡ Column c)
column_seat (Row r) h = absurd (both_ways true h refl)
column_seat (Column c) h = (c, refl)

pub seats_apart : (r c : ℕ) → Row r ≡ Column c → ⊥
seats_apart r c e = both_ways true (ap in_row e) refl

pub row_same : (r t : ℕ) → Row r ≡ Row t → r ≡ t
row_same r t e = ap number e
  where
    number : Seat → ℕ
    number (Row k) = k
    number (Column k) = k

pub column_same : (c d : ℕ) → Column c ≡ Column d → c ≡ d
column_same c d e = ap number e
  where
    number : Seat → ℕ
    number (Row k) = k
    number (Column k) = k

module _ (w n : ℕ) (seats : List Seat) (entries : List ℚ) (long : length seats ≡ n) where
  pub coefficient_is : (x y : ℕ) → x < n → y < n → (position_of w seats entries).coefficient x y ≡ between w entries (unit x y) (seat_at seats x) (seat_at seats y)
  unfolding position_of
  coefficient_is x y h k =
      cond-true (ltb x (length seats) && ltb y (length seats)) _ _
      (and_from (ltb x (length seats)) (ltb y (length seats)) (lt-ltb x (length seats) (subst (λ m. x < m) (sym long) h)) (lt-ltb y (length seats) (subst (λ m. y < m) (sym long) k)))

  pub past_row : (x y : ℕ) → n ≤ x → (position_of w seats entries).coefficient x y ≡ int (pos 0)
  unfolding position_of
  past_row x y h = cond-false (ltb x (length seats) && ltb y (length seats)) _ _ (and_left (ltb x (length seats)) (ltb y (length seats)) (le-ltb x (length seats) (subst (λ m. m ≤ x) (sym long) h)))

  pub past_column : (x y : ℕ) → n ≤ y → (position_of w seats entries).coefficient x y ≡ int (pos 0)
  unfolding position_of
  past_column x y h = cond-false (ltb x (length seats) && ltb y (length seats)) _ _ (and_right (ltb x (length seats)) (ltb y (length seats)) (le-ltb y (length seats) (subst (λ m. m ≤ y) (sym long) h)))

  pub basic_is : (x : ℕ) → (position_of w seats entries).is_basic x ≡ in_row (seat_at seats x)
  unfolding position_of
  basic_is x = refl

  past_seat : (x : ℕ) → n ≤ x → seat_at seats x ≡ Row 0
  past_seat x h = get_or_past seats x (Row 0) (subst (λ m. m ≤ x) (sym long) h)

  pub past_basic : (x : ℕ) → n ≤ x → (position_of w seats entries).is_basic x ≡ true
  past_basic x h = basic_is x ∙ ap in_row (past_seat x h)

  pub free_below : (x : ℕ) → (position_of w seats entries).is_basic x ≡ false → x < n
  free_below x h = by (cases_lt x n)
    where
      by : (x < n) ⊎ (n ≤ x) → x < n
      by (inl l) = l
      by (inr l) = absurd (both_ways ((position_of w seats entries).is_basic x) h (past_basic x l))

  pub cell_read : (x y r c : ℕ) → x < n → y < n → seat_at seats x ≡ Row r → seat_at seats y ≡ Column c → cell_at w entries r c ≡ (position_of w seats entries).coefficient x y
  cell_read x y r c h k e f = sym (coefficient_is x y h k ∙ (λ i. between w entries (unit x y) (e i) (f i)))

  pub both_rows : (x y r t : ℕ) → x < n → y < n → seat_at seats x ≡ Row r → seat_at seats y ≡ Row t → (position_of w seats entries).coefficient x y ≡ int (pos 0)
  both_rows x y r t h k e f = coefficient_is x y h k ∙ (λ i. between w entries (unit x y) (e i) (f i))

  pub unit_row : (x y c : ℕ) → x < n → y < n → seat_at seats x ≡ Column c → (position_of w seats entries).coefficient x y ≡ unit x y
  unit_row x y c h k e = coefficient_is x y h k ∙ ap (λ q. between w entries (unit x y) q (seat_at seats y)) e

  empty_at : (x y : ℕ) → (x < n) ⊎ (n ≤ x) → (y < n) ⊎ (n ≤ y) → in_row (seat_at seats y) ≡ true → (position_of w seats entries).coefficient x y ≡ int (pos 0)
  empty_at x y (inr h) k b = past_row x y h
  empty_at x y (inl h) (inr k) b = past_column x y k
  empty_at x y (inl h) (inl k) b = by (seat_cases (seat_at seats x)) (row_seat (seat_at seats y) b)
    where
      by : ((r : ℕ) × (seat_at seats x ≡ Row r)) ⊎ ((c : ℕ) × (seat_at seats x ≡ Column c)) → (t : ℕ) × (seat_at seats y ≡ Row t) → (position_of w seats entries).coefficient x y ≡ int (pos 0)
      by (inl u) v = both_rows x y u.0 v.0 h k u.1 v.1
      by (inr u) v = unit_row x y u.0 h k u.1 ∙ unit-other x y (λ e. seats_apart v.0 u.0 (sym v.1 ∙ ap (seat_at seats) (sym e) ∙ u.1))

  own_at : (x y : ℕ) → x < n → (y < n) ⊎ (n ≤ y) → in_row (seat_at seats x) ≡ false → (position_of w seats entries).coefficient x y ≡ unit x y
  own_at x y h (inl k) b = let u = column_seat (seat_at seats x) b in unit_row x y u.0 h k u.1
  own_at x y h (inr k) b = past_column x y k ∙ sym (unit-other x y (λ e. absurd (omega arith)))

  pub tableau_of : IsTableau (position_of w seats entries)
  tableau_of = record {
    empty = λ x y b. empty_at x y (cases_lt x n) (cases_lt y n) (sym (basic_is y) ∙ b);
    own = λ x y b. own_at x y (free_below x b) (cases_lt y n) (sym (basic_is x) ∙ b);
  }

  -- a bounded position with the same basis and the same entries
  module _ (q : Position) (bounded : IsBounded n q) (bases : (x : ℕ) → x < n → in_row (seat_at seats x) ≡ q.is_basic x)
      (cells : (x y : ℕ) → x < n → y < n → between w entries (unit x y) (seat_at seats x) (seat_at seats y) ≡ q.coefficient x y) where
    same_basic : (x : ℕ) → (x < n) ⊎ (n ≤ x) → (position_of w seats entries).is_basic x ≡ q.is_basic x
    same_basic x (inl h) = basic_is x ∙ bases x h
    same_basic x (inr h) = past_basic x h ∙ sym (bounded.basic x h)

    same_coefficient : (x y : ℕ) → (x < n) ⊎ (n ≤ x) → (y < n) ⊎ (n ≤ y) → (position_of w seats entries).coefficient x y ≡ q.coefficient x y
    same_coefficient x y (inl h) (inl k) = coefficient_is x y h k ∙ cells x y h k
    same_coefficient x y (inl h) (inr k) = past_column x y k ∙ sym (bounded.column x y h k)
    same_coefficient x y (inr h) d = past_row x y h ∙ sym (bounded.row x y h)

    pub position_same : position_of w seats entries ≡ q
    position_same = λ i. record { is_basic = λ x. same_basic x (cases_lt x n) i; coefficient = λ x y. same_coefficient x y (cases_lt x n) (cases_lt y n) i }

-- ---- the opening
module _ (s : LinearSystem) (n : ℕ) (seats : List Seat) (whole : n ≡ s.width + height s) (o : IsOpeningSeats s n seats) where
  seat_unknown : (x : ℕ) → x < n → is_unknown s x ≡ true → seat_at seats x ≡ Column x
  seat_unknown x h u = o.at x h ∙ cond-true (is_unknown s x) _ _ u

  seat_side : (x : ℕ) → x < n → is_unknown s x ≡ false → seat_at seats x ≡ Row (x - s.width)
  seat_side x h u = o.at x h ∙ cond-false (is_unknown s x) _ _ u

  unknown_is : (x : ℕ) → x < s.width → is_unknown s x ≡ true
  unknown_is x h = lt-ltb x s.width h

  side_is : (x : ℕ) → s.width ≤ x → is_unknown s x ≡ false
  side_is x h = le-ltb x s.width h

  open_rows : (x r : ℕ) → x < n → (is_unknown s x ≡ true) ⊎ (is_unknown s x ≡ false) → seat_at seats x ≡ Row r → (r < height s) × (s.width + r ≡ x)
  open_rows x r h (inl u) e = absurd (seats_apart r x (sym e ∙ seat_unknown x h u))
  open_rows x r h (inr u) e =
      let k : s.width ≤ x = from_unknown s x u in
      let m : x - s.width ≡ r = row_same (x - s.width) r (sym (seat_side x h u) ∙ e) in
      (omega arith, omega arith)

  open_columns : (y c : ℕ) → y < n → (is_unknown s y ≡ true) ⊎ (is_unknown s y ≡ false) → seat_at seats y ≡ Column c → (c < s.width) × (c ≡ y)
  open_columns y c h (inl u) e =
      let k : y < s.width = unknown_below s y u in
      let m : y ≡ c = column_same y c (sym (seat_unknown y h u) ∙ e) in
      (omega arith, omega arith)
  open_columns y c h (inr u) e = absurd (seats_apart (y - s.width) c (sym (seat_side y h u) ∙ e))

  row_filled : (r : ℕ) → r < height s → (s.width + r < n) × (seat_at seats (s.width + r) ≡ Row r)
  row_filled r h =
      let k : s.width + r < n = omega arith in
      let m : s.width + r - s.width ≡ r = omega arith in
      (k, seat_side (s.width + r) k (side_is (s.width + r) (omega arith)) ∙ ap Row m)

  column_filled : (c : ℕ) → c < s.width → (c < n) × (seat_at seats c ≡ Column c)
  column_filled c h = let k : c < n = omega arith in (k, seat_unknown c k (unknown_is c h))

  pub opening_seated : IsSeated (height s) s.width n seats
  opening_seated = record {
    count = whole;
    each = o.each;
    of_row = λ r. s.width + r;
    of_column = λ c. c;
    rows = λ x r h e. open_rows x r h (cases_Bool (is_unknown s x)) e;
    columns = λ y c h e. open_columns y c h (cases_Bool (is_unknown s y)) e;
    rows_full = row_filled;
    columns_full = column_filled;
  }

  module _ (entries : List ℚ) (a : IsOpeningEntries s entries) (bounded : IsBounded n (opening s)) where
    open_basic : (x : ℕ) → x < n → (is_unknown s x ≡ true) ⊎ (is_unknown s x ≡ false) → in_row (seat_at seats x) ≡ (opening s).is_basic x
    unfolding opening
    open_basic x h (inl u) = ap in_row (seat_unknown x h u) ∙ sym (ap not u)
    open_basic x h (inr u) = ap in_row (seat_side x h u) ∙ sym (ap not u)

    open_cells : (x y : ℕ) → x < n → y < n → (is_unknown s x ≡ true) ⊎ (is_unknown s x ≡ false) → (is_unknown s y ≡ true) ⊎ (is_unknown s y ≡ false) →
        between s.width entries (unit x y) (seat_at seats x) (seat_at seats y) ≡ (opening s).coefficient x y
    open_cells x y h k (inl u) v = ap (λ q. between s.width entries (unit x y) q (seat_at seats y)) (seat_unknown x h u) ∙ sym (opening_unknown s x y u)
    open_cells x y h k (inr u) (inl v) =
        let m : s.width ≤ x = from_unknown s x u in
        (λ i. between s.width entries (unit x y) (seat_side x h u i) (seat_unknown y k v i))
        ∙ a.at (x - s.width) y (omega arith) (unknown_below s y v) ∙ sym (opening_side s x y u v)
    open_cells x y h k (inr u) (inr v) =
        (λ i. between s.width entries (unit x y) (seat_side x h u i) (seat_side y k v i)) ∙ sym (opening_none s x y u v)

    pub opening_is : position_of s.width seats entries ≡ opening s
    opening_is = position_same s.width n seats entries o.each (opening s) bounded
        (λ x h. open_basic x h (cases_Bool (is_unknown s x)))
        (λ x y h k. open_cells x y h k (cases_Bool (is_unknown s x)) (cases_Bool (is_unknown s y)))
