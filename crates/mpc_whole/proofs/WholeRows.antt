-- A system read into whole numbers, and the unit matrix.
use Rattle.std.proofs.Common.{◌≡◌, ℕ, ◌+◌, ◌*◌, ◌<◌, ◌≤◌, List, length, set, ℤ, pos, ◌*ℤ◌, sym, ◌∙◌, ap, subst, arith, ◌⊎◌, inl, inr, le_trans, ◌-◌, true, false, not, lit<, lt-ltb}
use Rattle.std.proofs.lemmas.Bool.{cases_eq, cases_lt, cases_Bool, cond-true, cond-false}
use Rattle.mpc_exact.specs.Rational.{ℚ, int, frac}
use Rattle.mpc_exact.proofs.RationalOrder.{one_last}
use Rattle.mpc_space.specs.Total.{unit}
use Rattle.mpc_space.proofs.Total.{unit-same, unit-other}
use Rattle.mpc_rows.specs.LinearSystem.{LinearSystem, height}
use Rattle.mpc_rows.specs.Run.{is_unknown, opening}
use Rattle.mpc_runs.specs.declared.variables.Seat.{Seat}
use Rattle.mpc_runs.specs.declared.variables.Seat.TheVariants.{Row, Column}
use Rattle.mpc_runs.specs.Table.{seat_at, in_row, IsOpeningSeats}
use Rattle.mpc_whole.specs.Whole.{IsForm, IsUnit}
use Rattle.mpc_scaled.specs.Scaled.{whole_at, whole_cell, scale_at, AreScales, IsSmall}
use Rattle.mpc_runs.proofs.Seats.{column_same, seats_apart}
use Rattle.mpc_runs.proofs.Read.{opening_unknown, unknown_below}
use Rattle.mpc_runs.proofs.WholeLists.{set_same, set_other}
use Rattle.mpc_whole.proofs.WholeExchange.{row_below}

module _ (w scale : ℕ) (old now : List ℤ) (f : ℕ → ℚ) (i j at : ℕ) (z : ℤ) (q : at ≡ i * w + j) (b : at < length now) where
  pub read_done : ((k : ℕ) → k < j → f k ≡ frac (whole_cell w now i k) scale) → f j ≡ frac z scale → (k : ℕ) → k < j + 1 → f k ≡ frac (whole_cell w (set now at z) i k) scale
  read_done h e k l = by (cases_eq k j)
    where
      by : (k ≡ j) ⊎ (k ≡ j → ⊥) → f k ≡ frac (whole_cell w (set now at z) i k) scale
      by (inl m) = ap f m ∙ e ∙ ap (λ u. frac u scale) (sym (ap (λ u. whole_at (set now at z) (i * w + u)) m ∙ ap (whole_at (set now at z)) (sym q) ∙ set_same now at z b))
      by (inr m) = h k (omega arith) ∙ ap (λ u. frac u scale) (sym (set_other now at z b (i * w + k) (λ u. m (omega arith))))

  pub read_kept : ((k : ℕ) → (k < i * w) ⊎ (i * w + j ≤ k) → whole_at now k ≡ whole_at old k) → (k : ℕ) → (k < i * w) ⊎ (i * w + (j + 1) ≤ k) → whole_at (set now at z) k ≡ whole_at old k
  read_kept h k (inl l) = set_other now at z b k (λ m. omega arith) ∙ h k (inl l)
  read_kept h k (inr l) = set_other now at z b k (λ m. omega arith) ∙ h k (inr (omega arith))

-- ---- the unit matrix, one row more
apart_below : (w i j c : ℕ) → j < i → c < w → j * w + c ≡ i * w + i → ⊥
apart_below w i j c h l e = let m : j * w + c < i * w = row_below w j i c h l in omega arith

apart_above : (w i j c : ℕ) → i < j → i < w → j * w + c ≡ i * w + i → ⊥
apart_above w i j c h l e = let m : i * w + i < j * w = row_below w i j i h l in omega arith

module _ (w : ℕ) (now : List ℤ) (i : ℕ) (i_in : i < w) (b : i * w + i < length now) where
  spot_only : (j c : ℕ) → c < w → (j ≡ c → ⊥) ⊎ (j < i) → j * w + c ≡ i * w + i → ⊥
  spot_only j c l (inr h) e = apart_below w i j c h l e
  spot_only j c l (inl h) e = by (cases_lt j i) (cases_lt i j)
    where
      by : (j < i) ⊎ (i ≤ j) → (i < j) ⊎ (j ≤ i) → ⊥
      by (inl m) d = apart_below w i j c m l e
      by (inr m) (inl k) = apart_above w i j c k i_in e
      by (inr m) (inr k) =
          let q : j ≡ i = omega arith in
          let r : j * w ≡ i * w = ap (λ u. u * w) q in
          h (omega arith)

  pub units_done : ((j : ℕ) → j < i → whole_cell w now j j ≡ pos 1) → (j : ℕ) → j < i + 1 → j < w → whole_cell w (set now (i * w + i) (pos 1)) j j ≡ pos 1
  units_done h j l k = by (cases_eq j i)
    where
      by : (j ≡ i) ⊎ (j ≡ i → ⊥) → whole_cell w (set now (i * w + i) (pos 1)) j j ≡ pos 1
      by (inl q) = ap (λ u. whole_cell w (set now (i * w + i) (pos 1)) u u) q ∙ set_same now (i * w + i) (pos 1) b
      by (inr q) = set_other now (i * w + i) (pos 1) b (j * w + j) (spot_only j j k (inr (omega arith))) ∙ h j (omega arith)

  pub units_kept : ((j c : ℕ) → j < w → c < w → (j ≡ c → ⊥) → whole_cell w now j c ≡ pos 0) → (j c : ℕ) → j < w → c < w → (j ≡ c → ⊥) → whole_cell w (set now (i * w + i) (pos 1)) j c ≡ pos 0
  units_kept h j c k l m = set_other now (i * w + i) (pos 1) b (j * w + c) (spot_only j c l (inl m)) ∙ h j c k l m

-- ---- bounds
pub weaker : (m k : ℕ) (xs : List ℤ) → IsSmall m xs → m ≤ k → IsSmall k xs
weaker m k xs h l = record { each = λ i. le_trans (h.each i) l }

-- ---- the opening
module _ (s : LinearSystem) (n : ℕ) (whole : n ≡ s.width + height s) (seats : List Seat) (o : IsOpeningSeats s n seats) (k : List ℕ) (w : AreScales s k) (v : List ℤ) (u : IsUnit s.width v) where
  at_unknown : (y : ℕ) → y < n → is_unknown s y ≡ true → seat_at seats y ≡ Column y
  at_unknown y h t = o.at y h ∙ cond-true (is_unknown s y) _ _ t

  at_side : (y : ℕ) → y < n → is_unknown s y ≡ false → seat_at seats y ≡ Row (y - s.width)
  at_side y h t = o.at y h ∙ cond-false (is_unknown s y) _ _ t

  basic_first : (y : ℕ) → y < n → (is_unknown s y ≡ true) ⊎ (is_unknown s y ≡ false) → (opening s).is_basic y ≡ in_row (seat_at seats y)
  unfolding opening
  basic_first y h (inl t) = ap not t ∙ sym (ap in_row (at_unknown y h t))
  basic_first y h (inr t) = ap not t ∙ sym (ap in_row (at_side y h t))

  unit_over : (j c : ℕ) → j < s.width → c < s.width → (j ≡ c) ⊎ (j ≡ c → ⊥) → unit j c ≡ frac (whole_cell s.width v j c) 1
  unit_over j c h l (inl e) = unit-same j c e ∙ ap int (sym (ap (whole_cell s.width v j) (sym e) ∙ u.diagonal j h))
  unit_over j c h l (inr e) = unit-other j c e ∙ ap int (sym (u.others j c h l e))

  unscaled : (j y c : ℕ) → y < s.width → frac (whole_cell s.width v j c) 1 ≡ frac (whole_cell s.width v j c *ℤ pos (scale_at k y)) 1
  unscaled j y c h = ap int (sym (ap (λ z. whole_cell s.width v j c *ℤ pos z) (w.own y h) ∙ one_last (whole_cell s.width v j c)))

  entry_first : (j y c : ℕ) → j < s.width → y < n → seat_at seats y ≡ Column c → (is_unknown s y ≡ true) ⊎ (is_unknown s y ≡ false) → (opening s).coefficient j y ≡ frac (whole_cell s.width v j c *ℤ pos (scale_at k y)) 1
  entry_first j y c h l q (inl m) =
      let e : y ≡ c = column_same y c (sym (at_unknown y l m) ∙ q) in
      opening_unknown s j y (lt-ltb j s.width h) ∙ ap (unit j) e ∙ unit_over j c h (subst (λ z. z < s.width) e (unknown_below s y m)) (cases_eq j c) ∙ unscaled j y c (unknown_below s y m)
  entry_first j y c h l q (inr m) = absurd (seats_apart (y - s.width) c (sym (at_side y l m) ∙ q))

  pub form_first : IsForm s n seats k 1 v (opening s)
  form_first = record {
    some = lit< tt;
    basic = λ y h. basic_first y h (cases_Bool (is_unknown s y));
    entries = λ j y c h l q. entry_first j y c h l q (cases_Bool (is_unknown s y));
  }
