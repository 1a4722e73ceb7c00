-- A sequence keeps the plant's rows exactly where it keeps the program's.
use Rattle.std.proofs.Common.{◌≡◌, ℕ, ◌+◌, ◌-◌, ◌*◌, ◌/◌, ◌%◌, ◌<◌, ◌≤◌, List, [], ◌∷◌, length, get_or, pos, sym, ◌∙◌, ap, subst, arith, ⊎_elim}
use Rattle.std.proofs.Math.Nat.{mul-le-mul_left}
use Rattle.std.proofs.lemmas.Bool.{cases_lt}
use Rattle.std.proofs.lemmas.Option.{slice_get-get_or}
use Rattle.mpc_exact.specs.Rational.{ℚ, int, ◌+ℚ◌, ◌-ℚ◌, ◌≤ℚ◌}
use Rattle.mpc_exact.proofs.Linear.{linear_le, claims, none, le, eq}
use Rattle.mpc_space.specs.Vector.{coordinate, dot, mat_vec}
use Rattle.mpc_space.specs.Matrix.{height}
use Rattle.mpc_space.proofs.Entries.{at_most_at, at_most_by_entries}
use Rattle.mpc_space.proofs.Matrix.{length-mat_vec, coordinate-mat_vec}
use Rattle.mpc_plant.specs.declared.lists.PlantRow.{PlantRow}
use Rattle.mpc_plant.specs.declared.plants.Plant.{Plant}
use Rattle.mpc_plant.specs.Trajectory.{IsSequence, IsAdmissible, state_at, move_at}
use Rattle.mpc_rows.specs.declared.programs.Qp.{Qp}
use Rattle.mpc_condense.specs.Condensed.{stacked, stage_row, terminal_row, HasRoom, IsCondensed}
use Rattle.mpc_rows.specs.ActiveSets.{extended, MeetsRows}
use Rattle.mpc_condense.specs.ProgramTheorems.{SameSequences, SameCosts}
use Rattle.mpc_condense.proofs.RowLemmas.{stage_within, terminal_within}

-- the rows of the program hold, one by one
abbrev pub KeepsRows : Qp → List ℚ → List ℚ → Type 0
KeepsRows qp c z = (i : ℕ) → i < height qp.g → dot (get_or qp.g.rows i []) z ≤ℚ dot (get_or qp.w.rows i []) c

keeps_of_meets : (qp : Qp) (t z : List ℚ) → MeetsRows qp t z → KeepsRows qp (extended t) z
keeps_of_meets qp t z m i l =
    let c = extended t in
    subst (λ a. a ≤ℚ dot (get_or qp.w.rows i []) c) (coordinate-mat_vec qp.g.rows z i)
    (subst (λ b. coordinate (mat_vec qp.g.rows z) i ≤ℚ b) (coordinate-mat_vec qp.w.rows c i) (at_most_at (mat_vec qp.g.rows z) (mat_vec qp.w.rows c) m i))

meets_of_keeps : (qp : Qp) (t z : List ℚ) → KeepsRows qp (extended t) z → MeetsRows qp t z
meets_of_keeps qp t z k =
    let c = extended t in
    at_most_by_entries (mat_vec qp.g.rows z) (mat_vec qp.w.rows c)
    (length-mat_vec qp.g.rows z ∙ sym qp.is_program.w_shape.rows_are ∙ sym (length-mat_vec qp.w.rows c))
    (λ i l. subst (λ a. a ≤ℚ coordinate (mat_vec qp.w.rows c) i) (sym (coordinate-mat_vec qp.g.rows z i))
    (subst (λ b. dot (get_or qp.g.rows i []) z ≤ℚ b) (sym (coordinate-mat_vec qp.w.rows c i)) (k i (omega (arith, l, length-mat_vec qp.g.rows z)))))

holds_of_room : (g w m s : ℚ) → w -ℚ g ≡ m -ℚ s → g ≤ℚ w → s ≤ℚ m
holds_of_room g w m s e h = linear_le (g ∷ w ∷ m ∷ s ∷ []) (eq e (le h none)) (search claims depth 40) tt

room_of_holds : (g w m s : ℚ) → w -ℚ g ≡ m -ℚ s → s ≤ℚ m → g ≤ℚ w
room_of_holds g w m s e h = linear_le (g ∷ w ∷ m ∷ s ∷ []) (eq e (le h none)) (search claims depth 40) tt

-- a number below n m is k m + r with k below n and r below m
quotient_below : (i n m : ℕ) → i < n * m → 0 < m → (i / m < n) × ((i / m) * m + i % m ≡ i) × (i % m < m)
quotient_below i n m l some = (below, omega arith, omega arith)
  where
    below : i / m < n
    below = ⊎_elim (λ p. p) (λ p. let h : m * n ≤ m * (i / m) = mul-le-mul_left m p in absurd (omega arith)) (cases_lt (i / m) n)

module _ (plant : Plant) (qp : Qp) (condensed : IsCondensed qp plant) (t : List ℚ) (v : List (List ℚ)) (size : length t ≡ plant.n) (sequence : IsSequence plant v) where
  rooms : HasRoom qp plant t v
  rooms = condensed.same_rows t v size sequence

  pub admissible_of_rows : KeepsRows qp (extended t) (stacked v) → IsAdmissible plant t v
  admissible_of_rows h = record {
    stage = λ k l r d m.
        let row = get_or plant.rows r d in
        holds_of_room _ _ row.max (dot row.x (state_at plant t v k) +ℚ dot row.u (move_at v k)) (rooms.stage k r row l (slice_get-get_or plant.rows r d m)) (h (stage_row plant k r) (omega (arith, stage_within plant k r l m, condensed.rows_are)));
    end = λ r d m.
        let row = get_or plant.terminal r d in
        holds_of_room _ _ row.max (dot row.x (state_at plant t v plant.horizon)) (rooms.terminal r row (slice_get-get_or plant.terminal r d m)) (h (terminal_row plant r) (omega (arith, terminal_within plant r m, condensed.rows_are)));
  }

  pub rows_of_admissible : IsAdmissible plant t v → KeepsRows qp (extended t) (stacked v)
  rows_of_admissible a i l = ⊎_elim (λ p. in_stage p) (λ p. in_end p) (cases_lt i (plant.horizon * length plant.rows))
    where
      Row : ℕ → Type 0
      Row i = dot (get_or qp.g.rows i []) (stacked v) ≤ℚ dot (get_or qp.w.rows i []) (extended t)

      blank : PlantRow
      blank = record { x = []; u = []; max = int (pos 0) }

      in_stage : i < plant.horizon * length plant.rows → Row i
      in_stage p = subst Row q.1 (room_of_holds _ _ row.max _ (rooms.stage k r row q.0 (slice_get-get_or plant.rows r blank q.2)) (a.stage k q.0 r blank q.2))
        where
          some : 0 < length plant.rows
          some = ⊎_elim (λ s. s) (λ s. let none_left : length plant.rows ≡ 0 = omega arith in let z : plant.horizon * length plant.rows ≡ 0 = ap (λ m. plant.horizon * m) none_left ∙ omega arith in absurd (omega arith)) (cases_lt 0 (length plant.rows))

          k : ℕ
          k = i / length plant.rows

          r : ℕ
          r = i % length plant.rows

          q : (k < plant.horizon) × (k * length plant.rows + r ≡ i) × (r < length plant.rows)
          q = quotient_below i plant.horizon (length plant.rows) p some

          row : PlantRow
          row = get_or plant.rows r blank

      in_end : plant.horizon * length plant.rows ≤ i → Row i
      in_end p = subst Row back (room_of_holds _ _ row.max _ (rooms.terminal r row (slice_get-get_or plant.terminal r blank small)) (a.end r blank small))
        where
          r : ℕ
          r = i - plant.horizon * length plant.rows

          back : terminal_row plant r ≡ i
          back = omega arith

          small : r < length plant.terminal
          small = omega (arith, condensed.rows_are)

          row : PlantRow
          row = get_or plant.terminal r blank

pub same_sequences : SameSequences
same_sequences plant qp t v condensed size sequence = (
  λ a. meets_of_keeps qp t (stacked v) (rows_of_admissible plant qp condensed t v size sequence a),
  λ m. admissible_of_rows plant qp condensed t v size sequence (keeps_of_meets qp t (stacked v) m),
)

pub same_costs : SameCosts
same_costs plant qp t v condensed size sequence = condensed.same_cost t v size sequence
