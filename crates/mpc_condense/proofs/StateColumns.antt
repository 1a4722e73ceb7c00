-- The states of a plant are the combinations of the columns that condensing forms.
use Rattle.std.proofs.Common.{◌≡◌, ◌≢◌, ℕ, zero, suc, ◌+◌, ◌-◌, ◌*◌, ◌<◌, ◌≤◌, cond, List, [], ◌∷◌, length, get_or, pos, refl, sym, ◌∙◌, ap, subst, arith, ⊎_elim, add-one, eqb, ltb}
use Rattle.std.proofs.Math.Nat.{mul-le-mul_left}
use Rattle.std.proofs.lemmas.Bool.{cases_eq, cases_lt, cond-true, cond-false, eq-eqb, ne_eqb, lt-ltb, le-ltb}
use Rattle.std.proofs.lemmas.List.{length-map}
use Rattle.mpc_exact.specs.Rational.{ℚ, int, ◌+ℚ◌, ◌-ℚ◌, ◌*ℚ◌, neg_ℚ}
use Rattle.mpc_exact.proofs.RationalRing.{reads, by_ring}
use Rattle.mpc_space.specs.Vector.{coordinate, cell, column, listed, zeros, vec_add, vec_sub, mat_vec}
use Rattle.mpc_space.specs.Total.{total, unit}
use Rattle.mpc_space.proofs.Vector.{dot_comm}
use Rattle.mpc_space.proofs.Entries.{coordinate_past, coordinate-add, coordinate-sub, coordinate-listed, coordinate-zeros, length-listed, dot-total_within, dot-zero, zero_by_entries}
use Rattle.mpc_space.proofs.Matrix.{coordinate-mat_vec, coordinate-column}
use Rattle.mpc_space.proofs.Total.{total-same, total-zeros, total-add, total-first, total-split, total-unit, unit-same, unit-other}
use Rattle.mpc_plant.specs.declared.lists.Coordinate.{Coordinate}
use Rattle.mpc_plant.specs.declared.plants.Plant.{Plant}
use Rattle.mpc_plant.specs.Trajectory.{values_at, state_of, state_at, move_at, IsSequence}
use Rattle.mpc_condense.specs.Motion.{first_move, lows, steps, first_entry, motion, distance}
use Rattle.mpc_condense.proofs.Combinations.{Combines, total-more, mat_vec-combined}
use Rattle.mpc_condense.proofs.Sequences.{total-block, stacked-at, factors, factors-head, factors-tail}

-- ---- the columns, case by case
module _ (plant : Plant) where
  pub motion-first : (j : ℕ) → motion plant 0 j ≡ listed plant.n (first_entry plant j)
  unfolding motion
  motion-first j = refl

  pub motion-drift : (k : ℕ) → motion plant (suc k) 0 ≡ vec_add (mat_vec plant.a.rows (motion plant k 0)) plant.drift
  unfolding motion
  motion-drift k = refl

  -- the columns behind the first
  behind_first : {X : Type 0} (j : ℕ) (x y : X) → 0 < j → cond (eqb j 0) x y ≡ y
  behind_first j x y some = cond-false (eqb j 0) x y (ne_eqb j 0 (λ e. omega arith))

  pub motion-image : (k j : ℕ) → 0 < j → j < first_move plant k → motion plant (suc k) j ≡ mat_vec plant.a.rows (motion plant k j)
  unfolding motion
  motion-image k j some l = behind_first j _ _ some ∙ cond-true (ltb j (first_move plant k)) _ _ (lt-ltb j (first_move plant k) l)

  pub motion-input : (k j : ℕ) → first_move plant k ≤ j → j < first_move plant (suc k) → motion plant (suc k) j ≡ column plant.b.rows (j - first_move plant k)
  unfolding motion
  motion-input k j l m =
      behind_first j _ _ (omega arith) ∙ cond-false (ltb j (first_move plant k)) _ _ (le-ltb j (first_move plant k) l)
      ∙ cond-true (ltb j (first_move plant (suc k))) _ _ (lt-ltb j (first_move plant (suc k)) m)

  pub first-grows : (k : ℕ) → first_move plant (suc k) ≡ first_move plant k + plant.p
  first-grows k = omega arith

  pub motion-later : (k j : ℕ) → first_move plant (suc k) ≤ j → motion plant (suc k) j ≡ zeros plant.n
  unfolding motion
  motion-later k j l =
      behind_first j _ _ (omega arith)
      ∙ cond-false (ltb j (first_move plant k)) _ _ (le-ltb j (first_move plant k) (omega (arith, first-grows k)))
      ∙ cond-false (ltb j (first_move plant (suc k))) _ _ (le-ltb j (first_move plant (suc k)) l)

  pub distance-first : (k : ℕ) → distance plant k 0 ≡ vec_sub (motion plant k 0) plant.xgoal
  unfolding distance
  distance-first k = refl

  pub distance-other : (k j : ℕ) → 0 < j → distance plant k j ≡ motion plant k j
  unfolding distance
  distance-other k j some = behind_first j _ _ some

  pub first_entry-low : (i : ℕ) → first_entry plant 0 i ≡ coordinate (lows plant.grid) i
  first_entry-low i = refl

  pub first_entry-step : (i : ℕ) → first_entry plant (i + 1) i ≡ coordinate (steps plant.grid) i
  first_entry-step i = cond-false (eqb (i + 1) 0) _ _ (ne_eqb (i + 1) 0 (λ e. omega arith)) ∙ cond-true (eqb (i + 1) (i + 1)) _ _ (eq-eqb (i + 1) (i + 1) refl)

  pub first_entry-other : (j i : ℕ) → j ≢ 0 → j ≢ i + 1 → first_entry plant j i ≡ int (pos 0)
  first_entry-other j i h k = cond-false (eqb j 0) _ _ (ne_eqb j 0 h) ∙ cond-false (eqb j (i + 1)) _ _ (ne_eqb j (i + 1) k)

  -- the columns of later moves are 0
  pub motion-zero : (k j i : ℕ) → first_move plant k ≤ j → coordinate (motion plant k j) i ≡ int (pos 0)
  motion-zero zero j i l = ap (λ x. coordinate x i) (motion-first j) ∙ ⊎_elim
      (λ m. coordinate-listed plant.n (first_entry plant j) i m ∙ first_entry-other j i (λ e. omega arith) (λ e. omega arith))
      (λ m. coordinate_past (listed plant.n (first_entry plant j)) i (omega (arith, length-listed plant.n (first_entry plant j))))
      (cases_lt i plant.n)
  motion-zero (suc k) j i l = ap (λ x. coordinate x i) (motion-later k j l) ∙ coordinate-zeros plant.n i

  pub distance-zero : (k j i : ℕ) → first_move plant k ≤ j → coordinate (distance plant k j) i ≡ int (pos 0)
  distance-zero k j i l = ap (λ x. coordinate x i) (distance-other k j (omega arith)) ∙ motion-zero k j i l

  -- what the move at step k adds to column j
  pub input : ℕ → ℕ → ℕ → ℚ
  input k j i = cond (ltb j (first_move plant k)) (int (pos 0)) (cond (ltb j (first_move plant (suc k))) (cell plant.b.rows i (j - first_move plant k)) (int (pos 0)))

  input-before : (k j i : ℕ) → j < first_move plant k → input k j i ≡ int (pos 0)
  unfolding input
  input-before k j i l = cond-true (ltb j (first_move plant k)) _ _ (lt-ltb j (first_move plant k) l)

  input-at : (k j i : ℕ) → first_move plant k ≤ j → j < first_move plant (suc k) → input k j i ≡ cell plant.b.rows i (j - first_move plant k)
  unfolding input
  input-at k j i l m = cond-false (ltb j (first_move plant k)) _ _ (le-ltb j (first_move plant k) l) ∙ cond-true (ltb j (first_move plant (suc k))) _ _ (lt-ltb j (first_move plant (suc k)) m)

  input-behind : (k j i : ℕ) → first_move plant (suc k) ≤ j → input k j i ≡ int (pos 0)
  unfolding input
  input-behind k j i l =
      cond-false (ltb j (first_move plant k)) _ _ (le-ltb j (first_move plant k) (omega (arith, first-grows k)))
      ∙ cond-false (ltb j (first_move plant (suc k))) _ _ (le-ltb j (first_move plant (suc k)) l)

  no_image : (k j i : ℕ) → first_move plant k ≤ j → coordinate (mat_vec plant.a.rows (motion plant k j)) i ≡ int (pos 0)
  no_image k j i l =
      coordinate-mat_vec plant.a.rows (motion plant k j) i
      ∙ dot-zero (get_or plant.a.rows i []) (motion plant k j) (zero_by_entries (motion plant k j) (λ q m. motion-zero k j q l))

  plus_zero : (x y : ℚ) → y ≡ int (pos 0) → x ≡ x +ℚ y
  plus_zero x y e = by_ring (x ∷ []) (search reads depth 30) (search reads depth 30) tt ∙ ap (λ u. x +ℚ u) (sym e)

  zero_plus : (x y : ℚ) → x ≡ int (pos 0) → y ≡ x +ℚ y
  zero_plus x y e = by_ring (y ∷ []) (search reads depth 30) (search reads depth 30) tt ∙ ap (λ u. u +ℚ y) (sym e)

  -- the step without the drift
  abbrev moved : ℕ → ℕ → ℕ → ℚ
  moved k j i = coordinate (mat_vec plant.a.rows (motion plant k j)) i +ℚ input k j i

  motion-moved : (k j i : ℕ) → 0 < j → coordinate (motion plant (suc k) j) i ≡ moved k j i
  motion-moved k j i some = ⊎_elim
      (λ l. ap (λ x. coordinate x i) (motion-image k j some l) ∙ plus_zero (coordinate (mat_vec plant.a.rows (motion plant k j)) i) (input k j i) (input-before k j i l))
      (λ l. ⊎_elim
      (λ m. ap (λ x. coordinate x i) (motion-input k j l m) ∙ coordinate-column plant.b.rows i (j - first_move plant k) ∙ sym (input-at k j i l m)
      ∙ zero_plus (coordinate (mat_vec plant.a.rows (motion plant k j)) i) (input k j i) (no_image k j i l))
      (λ m. ap (λ x. coordinate x i) (motion-later k j m) ∙ coordinate-zeros plant.n i ∙ sym (input-behind k j i m)
      ∙ zero_plus (coordinate (mat_vec plant.a.rows (motion plant k j)) i) (input k j i) (no_image k j i l))
      (cases_lt j (first_move plant (suc k))))
      (cases_lt j (first_move plant k))

  -- what the first column has more than the others
  only_first : (j : ℕ) (f g : ℕ → ℚ) (c : ℚ) → g 0 ≡ f 0 +ℚ c → (0 < j → g j ≡ f j) → g j ≡ f j +ℚ unit 0 j *ℚ c
  only_first j f g c first other = ⊎_elim
      (λ e. subst (λ z. g z ≡ f z +ℚ unit 0 z *ℚ c) (sym e) (first ∙ one_more (f 0) (unit 0 0) (unit-same 0 0 refl)))
      (λ e. other (omega arith) ∙ none_more (f j) (unit 0 j) (unit-other 0 j (λ q. e (sym q))))
      (cases_eq j 0)
    where
      one_more : (x u : ℚ) → u ≡ int (pos 1) → x +ℚ c ≡ x +ℚ u *ℚ c
      one_more x u e = by_ring (x ∷ c ∷ []) (search reads depth 30) (search reads depth 30) tt ∙ ap (λ w. x +ℚ w *ℚ c) (sym e)

      none_more : (x u : ℚ) → u ≡ int (pos 0) → x ≡ x +ℚ u *ℚ c
      none_more x u e = by_ring (x ∷ c ∷ []) (search reads depth 30) (search reads depth 30) tt ∙ ap (λ w. x +ℚ w *ℚ c) (sym e)

  motion-sum : (k j i : ℕ) → coordinate (motion plant (suc k) j) i ≡ moved k j i +ℚ unit 0 j *ℚ coordinate plant.drift i
  motion-sum k j i = only_first j (λ z. moved k z i) (λ z. coordinate (motion plant (suc k) z) i) (coordinate plant.drift i) first (motion-moved k j i)
    where
      first : coordinate (motion plant (suc k) 0) i ≡ moved k 0 i +ℚ coordinate plant.drift i
      first =
          ap (λ x. coordinate x i) (motion-drift k) ∙ coordinate-add (mat_vec plant.a.rows (motion plant k 0)) plant.drift i
          ∙ ap (λ u. u +ℚ coordinate plant.drift i) (plus_zero (coordinate (mat_vec plant.a.rows (motion plant k 0)) i) (input k 0 i) (input-before k 0 i (omega arith)))

  -- a vector less another, whose columns have it taken from the first
  pub less_first : (m d : ℕ → List ℚ) (g : List ℚ) → d 0 ≡ vec_sub (m 0) g → ((j : ℕ) → 0 < j → d j ≡ m j) → (j i : ℕ) → coordinate (d j) i ≡ coordinate (m j) i +ℚ unit 0 j *ℚ neg_ℚ (coordinate g i)
  less_first m d g first other j i = only_first j (λ z. coordinate (m z) i) (λ z. coordinate (d z) i) (neg_ℚ (coordinate g i)) (ap (λ x. coordinate x i) first ∙ coordinate-sub (m 0) g i) (λ l. ap (λ x. coordinate x i) (other j l))

-- ---- the state at a point of the grid
values_at-at : (grid : List Coordinate) (t : List ℚ) (i : ℕ) → length t ≡ length grid → coordinate (values_at grid t) i ≡ coordinate (lows grid) i +ℚ coordinate (steps grid) i *ℚ coordinate t i
values_at-at [] t i e = by_ring (coordinate t i ∷ []) (search reads depth 30) (search reads depth 30) tt
values_at-at (axis ∷ grid) [] i e = absurd (omega arith)
values_at-at (axis ∷ grid) (x ∷ t) zero e = refl
values_at-at (axis ∷ grid) (x ∷ t) (suc i) e = values_at-at grid t i (omega arith)

module _ (plant : Plant) (t : List ℚ) (v : List (List ℚ)) (size : length t ≡ plant.n) (sequence : IsSequence plant v) where
  abbrev pub width : ℕ
  width = plant.n + 1 + plant.p * plant.horizon

  -- the columns up to those of the move at step k, that move's, and the rest
  rest : (k : ℕ) → k < plant.horizon → (r : ℕ) × (width ≡ first_move plant k + (plant.p + r))
  rest k l =
      let h : plant.p * suc k ≤ plant.p * plant.horizon = mul-le-mul_left plant.p (omega arith) in
      (plant.p * plant.horizon - plant.p * suc k, omega arith)

  pub factor-move : (k q : ℕ) → k < plant.horizon → q < plant.p → factors t v (first_move plant k + q) ≡ coordinate (move_at v k) q
  factor-move k q l m =
      let e : first_move plant k + q ≡ plant.n + 1 + (plant.p * k + q) = omega arith in
      ap (factors t v) e ∙ factors-tail t v plant.n (plant.p * k + q) size ∙ stacked-at plant.p v k q sequence.inputs (omega (arith, sequence.steps)) m

  -- the first column counts once
  pub factor-first : factors t v 0 ≡ int (pos 1)
  factor-first = factors-head t v 0 (omega arith)

  -- a vector less another is the combination of the columns with it taken from the first
  pub less-combines : (m d : ℕ → List ℚ) (x g : List ℚ) → d 0 ≡ vec_sub (m 0) g → ((j : ℕ) → 0 < j → d j ≡ m j) → Combines width (factors t v) m x → Combines width (factors t v) d (vec_sub x g)
  less-combines m d x g first other h = record {
    entries = λ i.
        coordinate-sub x g i ∙ ap (λ z. z -ℚ coordinate g i) (h.entries i)
        ∙ sym (total-more width (factors t v) (λ j. coordinate (m j) i) (λ j. coordinate (d j) i) (neg_ℚ (coordinate g i)) (omega arith) factor-first (λ j l. less_first plant m d g first other j i));
  }

  -- a sum over the columns to which only those of the move at step k contribute
  pub move-total : (k : ℕ) (f : ℕ → ℚ) → k < plant.horizon → ((j : ℕ) → j < first_move plant k → f j ≡ int (pos 0)) → ((j : ℕ) → first_move plant (suc k) ≤ j → f j ≡ int (pos 0)) →
      total width f ≡ total plant.p (λ q. f (first_move plant k + q))
  move-total k f l before behind =
      let r = rest k l in
      ap (λ w. total w f) r.1 ∙ total-block (first_move plant k) plant.p r.0 f before (λ j m. behind j (omega (arith, first-grows plant k)))

  start-combines : length plant.grid ≡ plant.n → Combines width (factors t v) (motion plant 0) (state_of plant t)
  start-combines grid_size = record { entries = λ i. values_at-at plant.grid t i (size ∙ sym grid_size) ∙ sym (right i) }
    where
      f : ℕ → ℕ → ℚ
      f i j = factors t v j *ℚ coordinate (motion plant 0 j) i

      times_zero : (x y : ℚ) → y ≡ int (pos 0) → x *ℚ y ≡ int (pos 0)
      times_zero x y e = ap (λ u. x *ℚ u) e ∙ by_ring (x ∷ []) (search reads depth 30) (search reads depth 30) tt

      later : (i j : ℕ) → plant.n + 1 ≤ j → f i j ≡ int (pos 0)
      later i j l = times_zero (factors t v j) (coordinate (motion plant 0 j) i) (motion-zero plant 0 j i (omega arith))

      -- a coordinate past the end
      outside : (i : ℕ) → plant.n ≤ i → (j : ℕ) → coordinate (motion plant 0 j) i ≡ int (pos 0)
      outside i l j = ap (λ x. coordinate x i) (motion-first plant j) ∙ coordinate_past (listed plant.n (first_entry plant j)) i (omega (arith, length-listed plant.n (first_entry plant j)))

      heads : (i : ℕ) → total (suc plant.n) (f i) ≡ coordinate (lows plant.grid) i +ℚ coordinate (steps plant.grid) i *ℚ coordinate t i
      heads i = total-first plant.n (f i) ∙ ⊎_elim (λ l. within i l) (λ l. past i l) (cases_lt i plant.n)
        where
          entry_at : (i j : ℕ) → i < plant.n → coordinate (motion plant 0 j) i ≡ first_entry plant j i
          entry_at i j l = ap (λ x. coordinate x i) (motion-first plant j) ∙ coordinate-listed plant.n (first_entry plant j) i l

          unit_term : (i : ℕ) → i < plant.n → (j : ℕ) → j < plant.n → f i (suc j) ≡ unit i j *ℚ (coordinate (steps plant.grid) j *ℚ coordinate t j)
          unit_term i l j m = ⊎_elim
              (λ e. (λ s. factors-head t v (suc j) (omega (arith, size)) s *ℚ (entry_at i (suc j) l ∙ ap (λ z. first_entry plant z i) (sym (add-one j)) ∙ ap (λ z. first_entry plant (j + 1) z) e ∙ first_entry-step plant j) s)
              ∙ by_ring (coordinate t j ∷ coordinate (steps plant.grid) j ∷ []) (search reads depth 30) (search reads depth 30) tt
              ∙ ap (λ u. u *ℚ (coordinate (steps plant.grid) j *ℚ coordinate t j)) (sym (unit-same i j e)))
              (λ e. times_zero (factors t v (suc j)) (coordinate (motion plant 0 (suc j)) i) (entry_at i (suc j) l ∙ first_entry-other plant (suc j) i (λ q. omega arith) (λ q. e (omega arith)))
              ∙ by_ring (coordinate (steps plant.grid) j ∷ coordinate t j ∷ []) (search reads depth 30) (search reads depth 30) tt
              ∙ ap (λ u. u *ℚ (coordinate (steps plant.grid) j *ℚ coordinate t j)) (sym (unit-other i j e)))
              (cases_eq i j)

          within : (i : ℕ) → i < plant.n → f i 0 +ℚ total plant.n (λ j. f i (suc j)) ≡ coordinate (lows plant.grid) i +ℚ coordinate (steps plant.grid) i *ℚ coordinate t i
          within i l =
              (λ s. (factors-head t v 0 (omega arith) s *ℚ (entry_at i 0 l ∙ first_entry-low plant i) s)
              +ℚ (total-same plant.n (λ j. f i (suc j)) (λ j. unit i j *ℚ (coordinate (steps plant.grid) j *ℚ coordinate t j)) (unit_term i l) ∙ total-unit plant.n i (λ j. coordinate (steps plant.grid) j *ℚ coordinate t j) l) s)
              ∙ by_ring (coordinate (lows plant.grid) i ∷ coordinate (steps plant.grid) i ∷ coordinate t i ∷ []) (search reads depth 30) (search reads depth 30) tt

          past : (i : ℕ) → plant.n ≤ i → f i 0 +ℚ total plant.n (λ j. f i (suc j)) ≡ coordinate (lows plant.grid) i +ℚ coordinate (steps plant.grid) i *ℚ coordinate t i
          past i l =
              (λ s. times_zero (factors t v 0) (coordinate (motion plant 0 0) i) (outside i l 0) s
              +ℚ total-zeros plant.n (λ j. f i (suc j)) (λ j m. times_zero (factors t v (suc j)) (coordinate (motion plant 0 (suc j)) i) (outside i l (suc j))) s)
              ∙ by_ring (coordinate t i ∷ []) (search reads depth 30) (search reads depth 30) tt
              ∙ (λ s. sym (coordinate_past (lows plant.grid) i (omega (arith, length-map plant.grid (λ axis. axis.low), grid_size))) s
              +ℚ sym (coordinate_past (steps plant.grid) i (omega (arith, length-map plant.grid (λ axis. axis.step), grid_size))) s *ℚ coordinate t i)

      right : (i : ℕ) → total width (f i) ≡ coordinate (lows plant.grid) i +ℚ coordinate (steps plant.grid) i *ℚ coordinate t i
      right i =
          total-split (plant.n + 1) (plant.p * plant.horizon) (f i)
          ∙ (λ s. (ap (λ z. total z (f i)) (add-one plant.n) ∙ heads i) s +ℚ total-zeros (plant.p * plant.horizon) (λ j. f i (plant.n + 1 + j)) (λ j l. later i (plant.n + 1 + j) (omega arith)) s)
          ∙ by_ring (coordinate (lows plant.grid) i ∷ coordinate (steps plant.grid) i ∷ coordinate t i ∷ []) (search reads depth 30) (search reads depth 30) tt

  step-combines : (k : ℕ) → k < plant.horizon → Combines width (factors t v) (motion plant k) (state_at plant t v k) → Combines width (factors t v) (motion plant (suc k)) (state_at plant t v (suc k))
  step-combines k l h = record { entries = λ i. whole i }
    where
      x : List ℚ
      x = state_at plant t v k

      u : List ℚ
      u = move_at v k

      image : ℕ → ℕ → ℚ
      image j i = coordinate (mat_vec plant.a.rows (motion plant k j)) i

      u_size : length u ≡ plant.p
      u_size = sequence.inputs k [] (omega (arith, sequence.steps))

      term : (i q : ℕ) → q < plant.p → factors t v (first_move plant k + q) *ℚ input plant k (first_move plant k + q) i ≡ coordinate u q *ℚ cell plant.b.rows i q
      term i q m =
          let e : first_move plant k + q - first_move plant k ≡ q = omega arith in
          (λ s. factor-move k q l m s *ℚ (input-at plant k (first_move plant k + q) i (omega arith) (omega (arith, first-grows plant k)) ∙ ap (cell plant.b.rows i) e) s)

      inputs : (i : ℕ) → coordinate (mat_vec plant.b.rows u) i ≡ total width (λ j. factors t v j *ℚ input plant k j i)
      inputs i =
          coordinate-mat_vec plant.b.rows u i ∙ dot_comm (get_or plant.b.rows i []) u ∙ dot-total_within plant.p u (get_or plant.b.rows i []) (omega (arith, u_size))
          ∙ total-same plant.p (λ q. coordinate u q *ℚ cell plant.b.rows i q) (λ q. factors t v (first_move plant k + q) *ℚ input plant k (first_move plant k + q) i) (λ q m. sym (term i q m))
          ∙ sym (move-total k (λ j. factors t v j *ℚ input plant k j i) l
          (λ j m. ap (λ z. factors t v j *ℚ z) (input-before plant k j i m) ∙ by_ring (factors t v j ∷ []) (search reads depth 30) (search reads depth 30) tt)
          (λ j m. ap (λ z. factors t v j *ℚ z) (input-behind plant k j i m) ∙ by_ring (factors t v j ∷ []) (search reads depth 30) (search reads depth 30) tt))

      before : (i : ℕ) → coordinate (vec_add (mat_vec plant.a.rows x) (mat_vec plant.b.rows u)) i ≡ total width (λ j. factors t v j *ℚ moved plant k j i)
      before i =
          coordinate-add (mat_vec plant.a.rows x) (mat_vec plant.b.rows u) i
          ∙ (λ s. (mat_vec-combined width (factors t v) (motion plant k) x plant.a.rows h).entries i s +ℚ inputs i s)
          ∙ sym (total-add width (λ j. factors t v j *ℚ image j i) (λ j. factors t v j *ℚ input plant k j i))
          ∙ total-same width (λ j. factors t v j *ℚ image j i +ℚ factors t v j *ℚ input plant k j i) (λ j. factors t v j *ℚ (image j i +ℚ input plant k j i))
          (λ j m. by_ring (factors t v j ∷ image j i ∷ input plant k j i ∷ []) (search reads depth 30) (search reads depth 30) tt)

      whole : (i : ℕ) → coordinate (state_at plant t v (suc k)) i ≡ total width (λ j. factors t v j *ℚ coordinate (motion plant (suc k) j) i)
      whole i =
          coordinate-add (vec_add (mat_vec plant.a.rows x) (mat_vec plant.b.rows u)) plant.drift i
          ∙ ap (λ z. z +ℚ coordinate plant.drift i) (before i)
          ∙ sym (total-more width (factors t v) (λ j. moved plant k j i) (λ j. coordinate (motion plant (suc k) j) i) (coordinate plant.drift i) (omega arith) factor-first (λ j m. motion-sum plant k j i))

  -- each state is the combination of its columns
  pub state-combines : length plant.grid ≡ plant.n → (k : ℕ) → k ≤ plant.horizon → Combines width (factors t v) (motion plant k) (state_at plant t v k)
  state-combines grid_size zero l = start-combines grid_size
  state-combines grid_size (suc k) l = step-combines k (omega arith) (state-combines grid_size k (omega arith))

  -- and its distance from the target that of the distance's
  pub distance-combines : length plant.grid ≡ plant.n → (k : ℕ) → k ≤ plant.horizon → Combines width (factors t v) (distance plant k) (vec_sub (state_at plant t v k) plant.xgoal)
  distance-combines grid_size k l = less-combines (motion plant k) (distance plant k) (state_at plant t v k) plant.xgoal (distance-first plant k) (distance-other plant k) (state-combines grid_size k l)
