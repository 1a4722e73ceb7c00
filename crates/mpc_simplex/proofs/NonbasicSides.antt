-- The nonbasic sides in a list, in rising order.
use Rattle.std.proofs.Common.{◌≡◌, ℕ, ◌+◌, ◌<◌, ◌≤◌, true, false, List, [], ◌∷◌, ◌++◌, length, get_or, sym, ◌∙◌, ap, subst, arith, ◌⊎◌, inl, inr}
use Rattle.std.proofs.lemmas.Bool.{cases_eq, cases_lt, cases_Bool}
use Rattle.std.proofs.lemmas.List.{get_or_past, get_or_append_left, get_or-append-add, length-append}
use Rattle.std.proofs.lemmas.Grind.{get_or_default_zero}
use Rattle.mpc_runs.specs.declared.variables.Seat.{Seat}
use Rattle.mpc_runs.specs.declared.variables.Seat.TheVariants.{Row, Column}
use Rattle.mpc_runs.specs.Table.{seat_at, in_row, IsSeated}
use Rattle.mpc_runs.proofs.Pigeonhole.{pigeonhole}
use Rattle.mpc_runs.proofs.Seats.{column_seat}
use Rattle.mpc_simplex.specs.Nonbasic.{AreNonbasicSides}

-- the k-th side of the list, or n past its end
abbrev pub reached : ℕ → List ℕ → ℕ → ℕ
reached n sides k = get_or sides k n

pub reached_end : (n : ℕ) (sides : List ℕ) (k : ℕ) → length sides ≤ k → reached n sides k ≡ n
reached_end n sides k h = get_or_past sides k n h

pub reached_side : (n : ℕ) (sides : List ℕ) (k : ℕ) → k < length sides → reached n sides k ≡ get_or sides k 0
reached_side n sides k h = get_or_default_zero sides k n h

module _ (w n : ℕ) (seats : List Seat) (sides : List ℕ) (a : AreNonbasicSides w n seats sides) where
  reached_below : (k j : ℕ) → k ≤ j → j < length sides → reached n sides k ≤ get_or sides j 0
  reached_below k j h b = by (cases_eq k j)
    where
      by : (k ≡ j) ⊎ (k ≡ j → ⊥) → reached n sides k ≤ get_or sides j 0
      by (inl e) = let q : reached n sides k ≡ get_or sides k 0 = reached_side n sides k (omega arith) in let r : get_or sides k 0 ≡ get_or sides j 0 = ap (λ m. get_or sides m 0) e in omega arith
      by (inr e) = let q : reached n sides k ≡ get_or sides k 0 = reached_side n sides k (omega arith) in let r : get_or sides k 0 < get_or sides j 0 = a.rising k j (omega arith) b in omega arith

  pub reached_most : (k : ℕ) → reached n sides k ≤ n
  reached_most k = by (cases_lt k (length sides))
    where
      by : (k < length sides) ⊎ (length sides ≤ k) → reached n sides k ≤ n
      by (inl h) = let q : reached n sides k ≡ get_or sides k 0 = reached_side n sides k h in let r : get_or sides k 0 < n = a.below k h in omega arith
      by (inr h) = let q : reached n sides k ≡ n = reached_end n sides k h in omega arith

  -- a side between two that follow one another in the list is basic
  gap : (k y : ℕ) → w ≤ y → y < reached n sides k → ((i : ℕ) → i < k → i < length sides → get_or sides i 0 < y) → in_row (seat_at seats y) ≡ true
  gap k y h l before = by (cases_Bool (in_row (seat_at seats y)))
    where
      none : (j : ℕ) → (j < k) ⊎ (k ≤ j) → j < length sides → get_or sides j 0 ≡ y → ⊥
      none j (inl m) b e = let q : get_or sides j 0 < y = before j m b in omega arith
      none j (inr m) b e = let q : reached n sides k ≤ get_or sides j 0 = reached_below k j m b in omega arith

      by : (in_row (seat_at seats y) ≡ true) ⊎ (in_row (seat_at seats y) ≡ false) → in_row (seat_at seats y) ≡ true
      by (inl t) = t
      by (inr f) = let q : reached n sides k ≤ n = reached_most k in let m = a.all y h (omega arith) f in absurd (none m.0 (cases_lt m.0 k) m.1 m.2)

  pub gap_first : (y : ℕ) → w ≤ y → y < reached n sides 0 → in_row (seat_at seats y) ≡ true
  gap_first y h l = gap 0 y h l (λ i k. absurd (omega arith))

  pub gap_next : (k y : ℕ) → k < length sides → get_or sides k 0 < y → y < reached n sides (k + 1) → in_row (seat_at seats y) ≡ true
  gap_next k y b m l = gap (k + 1) y (let q : w ≤ get_or sides k 0 = a.sides k b in omega arith) l (λ i h d. before i h (cases_eq i k))
    where
      before : (i : ℕ) → i < k + 1 → (i ≡ k) ⊎ (i ≡ k → ⊥) → get_or sides i 0 < y
      before i h (inl e) = let r : get_or sides i 0 ≡ get_or sides k 0 = ap (λ m. get_or sides m 0) e in omega arith
      before i h (inr e) = let r : get_or sides i 0 < get_or sides k 0 = a.rising i k (omega arith) b in omega arith

-- ---- the list grows
module _ (w y : ℕ) (seats : List Seat) (sides : List ℕ) (a : AreNonbasicSides w y seats sides) where
  long : length (sides ++ y ∷ []) ≡ length sides + 1
  long = length-append sides (y ∷ [])

  old : (k : ℕ) → k < length sides → get_or (sides ++ y ∷ []) k 0 ≡ get_or sides k 0
  old k h = get_or_append_left sides (y ∷ []) 0 k h

  last : get_or (sides ++ y ∷ []) (length sides) 0 ≡ y
  last = ap (λ m. get_or (sides ++ y ∷ []) m 0) (let q : length sides ≡ length sides + 0 = omega arith in q) ∙ get_or-append-add sides (y ∷ []) 0 0

  -- what holds of each side and of y holds of each side of the longer list
  each : (P : ℕ → Type 0) → ((k : ℕ) → k < length sides → P (get_or sides k 0)) → P y → (k : ℕ) → k < length (sides ++ y ∷ []) → P (get_or (sides ++ y ∷ []) k 0)
  each P h p k b = by (cases_lt k (length sides))
    where
      by : (k < length sides) ⊎ (length sides ≤ k) → P (get_or (sides ++ y ∷ []) k 0)
      by (inl l) = subst P (sym (old k l)) (h k l)
      by (inr l) =
          let q : length (sides ++ y ∷ []) ≡ length sides + 1 = long in
          let e : k ≡ length sides = omega arith in
          subst P (sym (ap (λ m. get_or (sides ++ y ∷ []) m 0) e ∙ last)) p

  pub sides_more : w ≤ y → in_row (seat_at seats y) ≡ false → AreNonbasicSides w (y + 1) seats (sides ++ y ∷ [])
  sides_more l f = record {
    sides = each (λ m. w ≤ m) a.sides l;
    below = each (λ m. m < y + 1) (λ k h. let q : get_or sides k 0 < y = a.below k h in omega arith) (omega arith);
    nonbasic = each (λ m. in_row (seat_at seats m) ≡ false) a.nonbasic f;
    rising = λ i k h b. rise i k h b (cases_lt k (length sides));
    all = λ z h b g. found z h b g (cases_eq z y);
  }
    where
      rise : (i k : ℕ) → i < k → k < length (sides ++ y ∷ []) → (k < length sides) ⊎ (length sides ≤ k) → get_or (sides ++ y ∷ []) i 0 < get_or (sides ++ y ∷ []) k 0
      rise i k h b (inl m) =
          let p : get_or (sides ++ y ∷ []) i 0 ≡ get_or sides i 0 = old i (omega arith) in
          let q : get_or (sides ++ y ∷ []) k 0 ≡ get_or sides k 0 = old k m in
          let r : get_or sides i 0 < get_or sides k 0 = a.rising i k h m in
          omega arith
      rise i k h b (inr m) =
          let u : length (sides ++ y ∷ []) ≡ length sides + 1 = long in
          let e : k ≡ length sides = omega arith in
          let p : get_or (sides ++ y ∷ []) i 0 ≡ get_or sides i 0 = old i (omega arith) in
          let q : get_or (sides ++ y ∷ []) k 0 ≡ y = ap (λ m. get_or (sides ++ y ∷ []) m 0) e ∙ last in
          let r : get_or sides i 0 < y = a.below i (omega arith) in
          omega arith

      found : (z : ℕ) → w ≤ z → z < y + 1 → in_row (seat_at seats z) ≡ false → (z ≡ y) ⊎ (z ≡ y → ⊥) → (k : ℕ) × (k < length (sides ++ y ∷ [])) × (get_or (sides ++ y ∷ []) k 0 ≡ z)
      found z h b g (inl e) = (length sides, (let u : length (sides ++ y ∷ []) ≡ length sides + 1 = long in omega arith), last ∙ sym e)
      found z h b g (inr e) =
          let m = a.all z h (omega arith) g in
          let d : m.0 < length sides = m.1 in
          let u : length (sides ++ y ∷ []) ≡ length sides + 1 = long in
          (m.0, omega arith, old m.0 d ∙ m.2)

-- ---- there are at most as many as columns
column_number : Seat → ℕ
column_number (Row r) = 0
column_number (Column c) = c

module _ (h w n y : ℕ) (seats : List Seat) (sides : List ℕ) (seated : IsSeated h w n seats) (a : AreNonbasicSides w y seats sides) (below : y < n) (free : in_row (seat_at seats y) ≡ false) where
  member_old : (k : ℕ) → k < length sides → get_or sides k y ≡ get_or sides k 0
  member_old k b = get_or_default_zero sides k y b

  member_free : (k : ℕ) → in_row (seat_at seats (get_or sides k y)) ≡ false
  member_free k = by (cases_lt k (length sides))
    where
      by : (k < length sides) ⊎ (length sides ≤ k) → in_row (seat_at seats (get_or sides k y)) ≡ false
      by (inl b) = ap (λ m. in_row (seat_at seats m)) (member_old k b) ∙ a.nonbasic k b
      by (inr b) = ap (λ m. in_row (seat_at seats m)) (get_or_past sides k y b) ∙ free

  member_below : (k : ℕ) → get_or sides k y < n
  member_below k = by (cases_lt k (length sides))
    where
      by : (k < length sides) ⊎ (length sides ≤ k) → get_or sides k y < n
      by (inl b) = let q : get_or sides k y ≡ get_or sides k 0 = member_old k b in let r : get_or sides k 0 < y = a.below k b in omega arith
      by (inr b) = let q : get_or sides k y ≡ y = get_or_past sides k y b in omega arith

  apart : (i k : ℕ) → i < k → k < length sides + 1 → get_or sides i y < get_or sides k y
  apart i k l b = by (cases_lt k (length sides))
    where
      by : (k < length sides) ⊎ (length sides ≤ k) → get_or sides i y < get_or sides k y
      by (inl m) =
          let p : get_or sides i y ≡ get_or sides i 0 = member_old i (omega arith) in
          let q : get_or sides k y ≡ get_or sides k 0 = member_old k m in
          let r : get_or sides i 0 < get_or sides k 0 = a.rising i k l m in
          omega arith
      by (inr m) =
          let p : get_or sides i y ≡ get_or sides i 0 = member_old i (omega arith) in
          let q : get_or sides k y ≡ y = get_or_past sides k y m in
          let r : get_or sides i 0 < y = a.below i (omega arith) in
          omega arith

  place_is : (k : ℕ) → (column_number (seat_at seats (get_or sides k y)) < w) × (seated.of_column (column_number (seat_at seats (get_or sides k y))) ≡ get_or sides k y)
  unfolding column_number
  place_is k =
      let u = column_seat (seat_at seats (get_or sides k y)) (member_free k) in
      let e : column_number (seat_at seats (get_or sides k y)) ≡ u.0 = ap column_number u.1 in
      let v = seated.columns (get_or sides k y) u.0 (member_below k) u.1 in
      (subst (λ m. m < w) (sym e) v.0, ap seated.of_column e ∙ v.1)

  full : w < length sides + 1 → ⊥
  full m =
      let t = pigeonhole w (length sides + 1) (λ k. column_number (seat_at seats (get_or sides k y))) (λ k b. (place_is k).0) m in
      let e : get_or sides t.first y ≡ get_or sides t.second y = sym (place_is t.first).1 ∙ ap seated.of_column t.same ∙ (place_is t.second).1 in
      let q : get_or sides t.first y < get_or sides t.second y = apart t.first t.second t.order t.below in
      omega arith

  pub room_left : length sides < w
  room_left = by (cases_lt (length sides) w)
    where
      by : (length sides < w) ⊎ (w ≤ length sides) → length sides < w
      by (inl m) = m
      by (inr m) = absurd (full (omega arith))
