-- The rows of a tightened program hold exactly where those of the plant hold under every disturbance.
use Rattle.std.proofs.Common.{◌≡◌, ℕ, zero, suc, ◌<◌, ◌≤◌, List, [], ◌∷◌, length, get_or, pos, refl, sym, ◌∙◌, ap, subst, arith, inl, inr, ⊎_elim, Some, slice_get}
use Rattle.std.proofs.lemmas.Bool.{cases_lt}
use Rattle.std.proofs.lemmas.Option.{slice_get-get_or, slice_get_within, get_or_from_slice_get}
use Rattle.mpc_exact.specs.Rational.{ℚ, int, ◌+ℚ◌, ◌-ℚ◌, ◌*ℚ◌, ◌≤ℚ◌}
use Rattle.mpc_exact.proofs.RationalRing.{reads, by_ring}
use Rattle.mpc_exact.proofs.Linear.{linear_le, claims, none, le, eq}
use Rattle.mpc_space.specs.Vector.{coordinate, dot, mat_vec, quadratic, later_entries, AllAtMost, IsSymmetric}
use Rattle.mpc_space.specs.Matrix.{height}
use Rattle.mpc_space.proofs.Vector.{dot_comm, dot-add_right}
use Rattle.mpc_space.proofs.Entries.{at_most_at, at_most_by_entries, dot_same}
use Rattle.mpc_space.proofs.Matrix.{length-mat_vec, coordinate-mat_vec}
use Rattle.mpc_plant.specs.declared.lists.PlantRow.{PlantRow}
use Rattle.mpc_plant.specs.declared.plants.Plant.{Plant}
use Rattle.mpc_plant.specs.Trajectory.{IsSequence, Keeps, KeepsAtEnd, state_at, move_at}
use Rattle.mpc_rows.specs.declared.programs.Qp.{Qp}
use Rattle.mpc_rows.specs.ActiveSets.{extended, MeetsRows}
use Rattle.mpc_condense.specs.Condensed.{stacked, stage_row, terminal_row, HasRoom, IsCondensed}
use Rattle.mpc_condense.specs.Stages.{IsRow}
use Rattle.mpc_condense.specs.Causes.{row_count}
use Rattle.mpc_tight.specs.Noise.{IsNoise}
use Rattle.mpc_tight.specs.Disturbed.{sizes, disturbance_at, disturbed_at, IsDisturbance, KeepsRows, IsRobustlyAdmissible}
use Rattle.mpc_tight.specs.Tightening.{tightening}
use Rattle.mpc_tight.specs.Tightened.{IsTightened, IsRobustProgram}
use Rattle.mpc_tight.specs.TightTheorems.{TightenedIsRobust}
use Rattle.mpc_tight.proofs.Spread.{spread, added, AllShort, disturbed_is, added_is, added_at_most}
use Rattle.mpc_tight.proofs.Worst.{worst_steps, is_disturbance, added_worst}
use Rattle.mpc_tight.proofs.RowPlaces.{row_within, row_exists}

-- ---- the lists of a disturbance
at_most_length : (xs ys : List ℚ) → AllAtMost xs ys → length xs ≡ length ys
at_most_length [] [] h = refl
at_most_length [] (y ∷ ys) h = absurd h
at_most_length (x ∷ xs) [] h = absurd h
at_most_length (x ∷ xs) (y ∷ ys) h = ap suc (at_most_length xs ys h.1)

sizes_length : (xs : List ℚ) → length (sizes xs) ≡ length xs
sizes_length [] = refl
sizes_length (x ∷ xs) = ap suc (sizes_length xs)

past_end : (e : List (List ℚ)) (k : ℕ) → length e ≤ k → get_or e k [] ≡ []
past_end [] k h = refl
past_end (d ∷ e) zero h = absurd (omega arith)
past_end (d ∷ e) (suc k) h = past_end e k (omega arith)

module _ (plant : Plant) (noise : List ℚ) (is : IsNoise noise plant.n) (e : List (List ℚ)) (within : IsDisturbance plant noise e) where
  pub at_steps : (k : ℕ) → k < plant.horizon → AllAtMost (sizes (disturbance_at e k)) noise
  at_steps k h = within.within k [] (omega (arith, within.steps))

  pub all_short : AllShort plant e
  all_short k = ⊎_elim
      (λ h. omega (arith, at_most_length (sizes (disturbance_at e k)) noise (at_steps k h), sizes_length (disturbance_at e k), is.size))
      (λ h. omega (arith, ap length (past_end e k (omega (arith, within.steps)))))
      (cases_lt k plant.horizon)

  -- a row's dot with a disturbed state
  pub disturbed_dot : (t : List ℚ) (v : List (List ℚ)) (a : List ℚ) (k : ℕ) → dot a (disturbed_at plant t v e k) ≡ dot a (state_at plant t v k) +ℚ added plant e a k
  disturbed_dot t v a k =
      ap (dot a) (disturbed_is plant t v e k) ∙ dot-add_right (state_at plant t v k) (spread plant e k) a
      ∙ ap (λ x. dot a (state_at plant t v k) +ℚ x) (added_is plant e all_short a k)

  pub added_most : (a : List ℚ) (k : ℕ) → k ≤ plant.horizon → added plant e a k ≤ℚ tightening plant noise a k
  added_most a k h = added_at_most plant noise e at_steps a k h

-- ---- right sides
split_first : (t r : List ℚ) → dot (extended t) r ≡ coordinate r 0 +ℚ dot t (later_entries r)
split_first t [] = nothing t
  where
    nothing : (t : List ℚ) → int (pos 0) ≡ int (pos 0) +ℚ dot t []
    nothing [] = by_ring [] (search reads depth 30) (search reads depth 30) tt
    nothing (x ∷ xs) = by_ring [] (search reads depth 30) (search reads depth 30) tt
split_first t (x ∷ xs) = by_ring (x ∷ dot t xs ∷ []) (search reads depth 30) (search reads depth 30) tt

later_coordinate : (r : List ℚ) (j : ℕ) → coordinate (later_entries r) j ≡ coordinate r (suc j)
later_coordinate [] j = refl
later_coordinate (x ∷ xs) j = refl

less_first : (a b c : ℚ) → (a -ℚ b) +ℚ c ≡ (a +ℚ c) -ℚ b
less_first a b c = by_ring (a ∷ b ∷ c ∷ []) (search reads depth 30) (search reads depth 30) tt

-- two rows that differ in the first entry alone
right_side : (t r s : List ℚ) (x : ℚ) → coordinate s 0 ≡ coordinate r 0 -ℚ x → ((j : ℕ) → 0 < j → coordinate s j ≡ coordinate r j) → dot s (extended t) ≡ dot r (extended t) -ℚ x
right_side t r s x first others =
    dot_comm s (extended t) ∙ split_first t s
    ∙ (λ i. first i +ℚ dot_same t (later_entries s) (later_entries r) (λ j h. later_coordinate s j ∙ others (suc j) (omega arith) ∙ sym (later_coordinate r j)) i)
    ∙ less_first (coordinate r 0) x (dot t (later_entries r))
    ∙ ap (λ y. y -ℚ x) (sym (split_first t r) ∙ dot_comm (extended t) r)

-- ---- numbers
-- w is the right side and g the left side of a row of the program, l that of the plant, r the tightened right side
holds_under : (w r m s g l a x : ℚ) → r ≡ w -ℚ s → w -ℚ g ≡ m -ℚ l → g ≤ℚ r → a ≤ℚ s → x ≡ l +ℚ a → x ≤ℚ m
holds_under w r m s g l a x p q h k e = linear_le (w ∷ r ∷ m ∷ s ∷ g ∷ l ∷ a ∷ x ∷ []) (eq p (eq q (le h (le k (eq e none))))) (search claims depth 60 fits 9000) tt

holds_of : (w r m s g l x : ℚ) → r ≡ w -ℚ s → w -ℚ g ≡ m -ℚ l → x ≡ l +ℚ s → x ≤ℚ m → g ≤ℚ r
holds_of w r m s g l x p q e h = linear_le (w ∷ r ∷ m ∷ s ∷ g ∷ l ∷ x ∷ []) (eq p (eq q (eq e (le h none)))) (search claims depth 60 fits 9000) tt

between : (a b c : ℚ) → (a +ℚ b) +ℚ c ≡ (a +ℚ c) +ℚ b
between a b c = by_ring (a ∷ b ∷ c ∷ []) (search reads depth 30) (search reads depth 30) tt

-- ---- the theorem
module _ (plant : Plant) (noise : List ℚ) (qp tight : Qp) (condensed : IsCondensed qp plant) (is : IsNoise noise plant.n) (done : IsTightened plant noise qp tight) where
  same_height : height tight.g ≡ row_count plant
  same_height = ap height done.same_g ∙ condensed.rows_are

  module _ (t : List ℚ) (v : List (List ℚ)) (size : length t ≡ plant.n) (sequence : IsSequence plant v) where
    rooms : HasRoom qp plant t v
    rooms = condensed.same_rows t v size sequence

    abbrev Left : ℕ → ℚ
    Left i = dot (get_or qp.g.rows i []) (stacked v)

    abbrev Right : ℕ → ℚ
    Right i = dot (get_or qp.w.rows i []) (extended t)

    abbrev TightRight : ℕ → ℚ
    TightRight i = dot (get_or tight.w.rows i []) (extended t)

    tight_right : (i k : ℕ) (row : PlantRow) → IsRow plant i k row → TightRight i ≡ Right i -ℚ tightening plant noise row.x k
    tight_right i k row r =
        right_side t (get_or qp.w.rows i []) (get_or tight.w.rows i []) (tightening plant noise row.x k)
        (done.rows.rows i k row (row_within plant i k row r) r) (λ j h. done.rows.others i j h)

    -- the rows of the tightened program, one by one
    row_meets : MeetsRows tight t (stacked v) → (i : ℕ) → Left i ≤ℚ TightRight i
    row_meets meets i =
        subst (λ g. dot (get_or g i []) (stacked v) ≤ℚ TightRight i) (ap (λ m. m.rows) done.same_g)
        (subst (λ a. a ≤ℚ TightRight i) (coordinate-mat_vec tight.g.rows (stacked v) i)
        (subst (λ b. coordinate (mat_vec tight.g.rows (stacked v)) i ≤ℚ b) (coordinate-mat_vec tight.w.rows (extended t) i) (at_most_at (mat_vec tight.g.rows (stacked v)) (mat_vec tight.w.rows (extended t)) meets i)))

    meets_rows : ((i : ℕ) → i < row_count plant → Left i ≤ℚ TightRight i) → MeetsRows tight t (stacked v)
    meets_rows h =
        at_most_by_entries (mat_vec tight.g.rows (stacked v)) (mat_vec tight.w.rows (extended t))
        (length-mat_vec tight.g.rows (stacked v) ∙ sym tight.is_program.w_shape.rows_are ∙ sym (length-mat_vec tight.w.rows (extended t)))
        (λ i l. subst (λ a. a ≤ℚ coordinate (mat_vec tight.w.rows (extended t)) i) (sym (coordinate-mat_vec tight.g.rows (stacked v) i))
        (subst (λ b. dot (get_or tight.g.rows i []) (stacked v) ≤ℚ b) (sym (coordinate-mat_vec tight.w.rows (extended t) i))
        (subst (λ g. dot (get_or g i []) (stacked v) ≤ℚ TightRight i) (ap (λ m. m.rows) (sym done.same_g)) (h i (omega (arith, l, length-mat_vec tight.g.rows (stacked v), same_height))))))

    -- ---- under each disturbance
    module _ (meets : MeetsRows tight t (stacked v)) (e : List (List ℚ)) (within : IsDisturbance plant noise e) where
      stage_kept : (k r : ℕ) (row : PlantRow) → k < plant.horizon → slice_get plant.rows r ≡ Some row → Keeps row (disturbed_at plant t v e k) (move_at v k)
      stage_kept k r row l m =
          let i = stage_row plant k r in
          holds_under (Right i) (TightRight i) row.max (tightening plant noise row.x k) (Left i) (dot row.x (state_at plant t v k) +ℚ dot row.u (move_at v k)) (added plant e row.x k) _
          (tight_right i k row (inl (r, l, m, refl))) (rooms.stage k r row l m) (row_meets meets i) (added_most plant noise is e within row.x k (omega arith))
          (ap (λ y. y +ℚ dot row.u (move_at v k)) (disturbed_dot plant noise is e within t v row.x k) ∙ between (dot row.x (state_at plant t v k)) (added plant e row.x k) (dot row.u (move_at v k)))

      end_kept : (r : ℕ) (row : PlantRow) → slice_get plant.terminal r ≡ Some row → KeepsAtEnd row (disturbed_at plant t v e plant.horizon)
      end_kept r row m =
          let i = terminal_row plant r in
          holds_under (Right i) (TightRight i) row.max (tightening plant noise row.x plant.horizon) (Left i) (dot row.x (state_at plant t v plant.horizon)) (added plant e row.x plant.horizon) _
          (tight_right i plant.horizon row (inr (r, refl, m, refl))) (rooms.terminal r row m) (row_meets meets i) (added_most plant noise is e within row.x plant.horizon (omega arith))
          (disturbed_dot plant noise is e within t v row.x plant.horizon)

      pub rows_kept : KeepsRows plant t v e
      rows_kept = record {
        stage = λ k l r d m. stage_kept k r (get_or plant.rows r d) l (slice_get-get_or plant.rows r d m);
        end = λ r d m. end_kept r (get_or plant.terminal r d) (slice_get-get_or plant.terminal r d m);
      }

    -- ---- by the worst disturbance of each row
    module _ (admissible : IsRobustlyAdmissible plant noise t v) where
      worst_dot_is : (a : List ℚ) (k : ℕ) → k ≤ plant.horizon → dot a (disturbed_at plant t v (worst_steps plant noise is.nonneg a k) k) ≡ dot a (state_at plant t v k) +ℚ tightening plant noise a k
      worst_dot_is a k l =
          disturbed_dot plant noise is (worst_steps plant noise is.nonneg a k) (is_disturbance plant noise is.nonneg a k) t v a k
          ∙ ap (λ x. dot a (state_at plant t v k) +ℚ x) (added_worst plant noise is.nonneg a k l)

      kept : (a : List ℚ) (k : ℕ) → KeepsRows plant t v (worst_steps plant noise is.nonneg a k)
      kept a k = admissible (worst_steps plant noise is.nonneg a k) (is_disturbance plant noise is.nonneg a k)

      row_holds : (i k : ℕ) (row : PlantRow) → IsRow plant i k row → Left i ≤ℚ TightRight i
      row_holds i k row (inl (r, l, m, c)) =
          subst (λ z. Left z ≤ℚ TightRight z) (sym c)
          (holds_of (Right (stage_row plant k r)) (TightRight (stage_row plant k r)) row.max (tightening plant noise row.x k) (Left (stage_row plant k r)) (dot row.x (state_at plant t v k) +ℚ dot row.u (move_at v k)) _
          (tight_right (stage_row plant k r) k row (inl (r, l, m, refl))) (rooms.stage k r row l m)
          (ap (λ y. y +ℚ dot row.u (move_at v k)) (worst_dot_is row.x k (omega arith)) ∙ between (dot row.x (state_at plant t v k)) (tightening plant noise row.x k) (dot row.u (move_at v k)))
          (subst (λ z. Keeps z (disturbed_at plant t v (worst_steps plant noise is.nonneg row.x k) k) (move_at v k)) (get_or_from_slice_get plant.rows r row row m) ((kept row.x k).stage k l r row (slice_get_within plant.rows r row m))))
      row_holds i k row (inr (r, l, m, c)) =
          subst (λ z. Left z ≤ℚ TightRight z) (sym c)
          (holds_of (Right (terminal_row plant r)) (TightRight (terminal_row plant r)) row.max (tightening plant noise row.x plant.horizon) (Left (terminal_row plant r)) (dot row.x (state_at plant t v plant.horizon)) _
          (tight_right (terminal_row plant r) plant.horizon row (inr (r, refl, m, refl))) (rooms.terminal r row m)
          (worst_dot_is row.x plant.horizon (omega arith))
          (subst (λ z. KeepsAtEnd z (disturbed_at plant t v (worst_steps plant noise is.nonneg row.x plant.horizon) plant.horizon)) (get_or_from_slice_get plant.terminal r row row m) ((kept row.x plant.horizon).end r row (slice_get_within plant.terminal r row m))))

      pub rows_meet : MeetsRows tight t (stacked v)
      rows_meet = meets_rows (λ i l. let h = row_exists plant i l in row_holds i h.step h.row h.is_row)

  pub is_robust : IsRobustProgram tight plant noise
  is_robust = record {
    counts_are = done.same_counts ∙ condensed.counts_are;
    unknowns_are = ap height done.same_h ∙ condensed.unknowns_are;
    h_symmetric = subst (λ m. IsSymmetric m.rows) (sym done.same_h) condensed.h_symmetric;
    same_cost = λ t v size sequence. condensed.same_cost t v size sequence
        ∙ (λ i. quadratic (sym done.same_h i).rows (stacked v) +ℚ int (pos 2) *ℚ dot (stacked v) (mat_vec (sym done.same_f i).rows (extended t)) +ℚ quadratic (sym done.same_y i).rows (extended t));
    same_sequences = λ t v size sequence. (λ meets e within. rows_kept t v size sequence meets e within, λ admissible. rows_meet t v size sequence admissible);
  }

pub tightened_is_robust : TightenedIsRobust
tightened_is_robust plant noise qp tight condensed is done = is_robust plant noise qp tight condensed is done
