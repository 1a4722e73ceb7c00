-- The seats of a longer system: its further sides stand in further rows.
use Rattle.std.proofs.Common.{◌≡◌, ℕ, ◌+◌, ◌<◌, ◌≤◌, true, cond, eqb, List, ◌++◌, length, [], ◌∷◌, refl, sym, ◌∙◌, ap, subst, arith, ◌⊎◌, inl, inr, eq-eqb, ne_eqb, length-append}
use Rattle.std.proofs.lemmas.Bool.{cond-true, cond-false, cases_lt}
use Rattle.std.proofs.lemmas.List.{get_or_append_left, get_or_at, get_or_past}
use Rattle.mpc_runs.specs.declared.variables.Seat.{Seat}
use Rattle.mpc_runs.specs.declared.variables.Seat.TheVariants.{Row, Column}
use Rattle.mpc_runs.specs.Table.{seat_at, in_row, IsSeated}
use Rattle.mpc_beginnings.specs.LongerSeats.{AreLongerSeats}
use Rattle.mpc_runs.proofs.Seats.{row_same, seats_apart}

module _ (h w n : ℕ) (seats : List Seat) (z : IsSeated h w n seats) where
  pub seat_kept : (x : ℕ) → x < n → seat_at (seats ++ Row h ∷ []) x ≡ seat_at seats x
  seat_kept x l = get_or_append_left seats (Row h ∷ []) (Row 0) x (omega (arith, z.each))

  pub seat_new : seat_at (seats ++ Row h ∷ []) n ≡ Row h
  seat_new = get_or_at seats (Row h) [] (Row 0) n z.each

  -- past the variables of the shorter system each seat is in a row
  pub seat_past : (x : ℕ) → n ≤ x → in_row (seat_at (seats ++ Row h ∷ []) x) ≡ true
  seat_past x l = by (cases_lt n x)
    where
      by : (n < x) ⊎ (x ≤ n) → in_row (seat_at (seats ++ Row h ∷ []) x) ≡ true
      by (inl k) = ap in_row (get_or_past (seats ++ Row h ∷ []) x (Row 0) (omega (arith, z.each, length-append seats (Row h ∷ []))))
      by (inr k) = ap in_row (ap (seat_at (seats ++ Row h ∷ [])) (let e : x ≡ n = omega arith in e) ∙ seat_new)

  of_row : ℕ → ℕ
  of_row r = cond (eqb r h) n (z.of_row r)

  of_old : (r : ℕ) → r < h → of_row r ≡ z.of_row r
  unfolding of_row
  of_old r l = cond-false (eqb r h) _ _ (ne_eqb r h (λ e. omega arith))

  of_new : of_row h ≡ n
  unfolding of_row
  of_new = cond-true (eqb h h) _ _ (eq-eqb h h refl)

  rows_at : (x r : ℕ) → x < n + 1 → seat_at (seats ++ Row h ∷ []) x ≡ Row r → (x < n) ⊎ (n ≤ x) → (r < h + 1) × (of_row r ≡ x)
  rows_at x r b e (inl l) =
      let old = z.rows x r l (sym (seat_kept x l) ∙ e) in
      let k : r < h = old.0 in
      (omega arith, of_old r old.0 ∙ old.1)
  rows_at x r b e (inr l) =
      let m : x ≡ n = omega arith in
      let q : r ≡ h = row_same r h (sym e ∙ ap (seat_at (seats ++ Row h ∷ [])) m ∙ seat_new) in
      (omega arith, ap of_row q ∙ of_new ∙ sym m)

  columns_at : (y c : ℕ) → y < n + 1 → seat_at (seats ++ Row h ∷ []) y ≡ Column c → (y < n) ⊎ (n ≤ y) → (c < w) × (z.of_column c ≡ y)
  columns_at y c b e (inl l) = z.columns y c l (sym (seat_kept y l) ∙ e)
  columns_at y c b e (inr l) = let m : y ≡ n = omega arith in absurd (seats_apart h c (sym seat_new ∙ ap (seat_at (seats ++ Row h ∷ [])) (sym m) ∙ e))

  rows_filled : (r : ℕ) → r < h + 1 → (r < h) ⊎ (h ≤ r) → (of_row r < n + 1) × (seat_at (seats ++ Row h ∷ []) (of_row r) ≡ Row r)
  rows_filled r b (inl l) =
      let old = z.rows_full r l in
      let k : z.of_row r < n = old.0 in
      (subst (λ m. m < n + 1) (sym (of_old r l)) (omega arith), ap (seat_at (seats ++ Row h ∷ [])) (of_old r l) ∙ seat_kept (z.of_row r) old.0 ∙ old.1)
  rows_filled r b (inr l) =
      let m : r ≡ h = omega arith in
      (subst (λ u. u < n + 1) (sym (ap of_row m ∙ of_new)) (omega arith), ap (seat_at (seats ++ Row h ∷ [])) (ap of_row m ∙ of_new) ∙ seat_new ∙ ap Row (sym m))

  columns_filled : (c : ℕ) → c < w → (z.of_column c < n + 1) × (seat_at (seats ++ Row h ∷ []) (z.of_column c) ≡ Column c)
  columns_filled c l =
      let old = z.columns_full c l in
      let k : z.of_column c < n = old.0 in
      (omega arith, seat_kept (z.of_column c) old.0 ∙ old.1)

  pub seated_longer : IsSeated (h + 1) w (n + 1) (seats ++ Row h ∷ [])
  seated_longer = record {
    count = let e : n ≡ w + h = z.count in omega arith;
    each = omega (arith, z.each, length-append seats (Row h ∷ []));
    of_row = of_row;
    of_column = z.of_column;
    rows = λ x r b e. rows_at x r b e (cases_lt x n);
    columns = λ y c b e. columns_at y c b e (cases_lt y n);
    rows_full = λ r b. rows_filled r b (cases_lt r h);
    columns_full = columns_filled;
  }

-- ---- further rows, one after another
pub none_longer : (n : ℕ) (seats : List Seat) → length seats ≡ n → AreLongerSeats n seats seats
none_longer n seats e = record { kept = λ x l. refl; past = λ x l. ap in_row (get_or_past seats x (Row 0) (omega (arith, e))) }

pub one_longer : (n : ℕ) (seats : List Seat) (h w m : ℕ) (longer : List Seat) → IsSeated h w m longer → n ≤ m → AreLongerSeats n seats longer → AreLongerSeats n seats (longer ++ Row h ∷ [])
one_longer n seats h w m longer z o g = record { kept = λ x l. seat_kept h w m longer z x (omega arith) ∙ g.kept x l; past = λ x l. by x l (cases_lt x m) }
  where
    by : (x : ℕ) → n ≤ x → (x < m) ⊎ (m ≤ x) → in_row (seat_at (longer ++ Row h ∷ []) x) ≡ true
    by x l (inl b) = ap in_row (seat_kept h w m longer z x b) ∙ g.past x l
    by x l (inr b) = seat_past h w m longer z x b
