-- A plant has one program: its costs determine y too, and its rows determine g and w.
use Rattle.std.proofs.Common.{◌≡◌, ℕ, suc, ◌+◌, ◌-◌, ◌*◌, ◌/◌, ◌%◌, ◌<◌, ◌≤◌, List, [], ◌∷◌, length, get_or, pos, refl, sym, ◌∙◌, ap, subst, arith, ⊎_elim}
use Rattle.std.proofs.Math.Nat.{mul-le-mul_left}
use Rattle.std.proofs.lemmas.Bool.{cases_lt}
use Rattle.std.proofs.lemmas.Option.{slice_get-get_or}
use Rattle.std.proofs.lemmas.List.Elements.{All-from_recursion}
use Rattle.std.proofs.Props.{props}
use mathlib.Core.HLevel.{is_prop→PathP}
use Rattle.mpc_exact.specs.Rational.{ℚ, int, frac, ◌+ℚ◌, ◌-ℚ◌, ◌*ℚ◌}
use Rattle.mpc_exact.proofs.School.{frac_one}
use Rattle.mpc_exact.proofs.RationalRing.{reads, by_ring}
use Rattle.mpc_exact.proofs.RationalOrder.{≤ℚ_antisymm}
use Rattle.mpc_exact.proofs.Linear.{linear_le, claims, none, eq}
use Rattle.mpc_space.specs.Vector.{dot, vec_add, vec_scale, mat_vec, quadratic, listed, zeros}
use Rattle.mpc_space.specs.Matrix.{RationalMatrix, height, entry}
use Rattle.mpc_space.specs.Total.{unit}
use Rattle.mpc_space.proofs.Entries.{dot-unit, dot-zero, zeros_zero, length-listed, length-add, length-scale}
use Rattle.mpc_space.proofs.Vector.{dot_comm, vec_scale-scale}
use Rattle.mpc_space.proofs.Matrix.{coordinate-mat_vec, same_matrix}
use Rattle.mpc_space.proofs.Quadratic.{quadratic-add, quadratic-scale}
use Rattle.mpc_linear.specs.Grid.{rows_of}
use Rattle.mpc_plant.specs.declared.lists.PlantRow.{PlantRow}
use Rattle.mpc_plant.specs.declared.plants.Plant.{Plant}
use Rattle.mpc_plant.specs.Trajectory.{IsSequence}
use Rattle.mpc_rows.specs.declared.programs.Qp.{Qp}
use Rattle.mpc_rows.specs.Program.{IsProgram}
use Rattle.mpc_rows.specs.ActiveSets.{extended}
use Rattle.mpc_condense.specs.Condensed.{stacked, room, stage_row, terminal_row, HasRoom, IsCondensed}
use Rattle.mpc_condense.proofs.Stacks.{cut_stacked, cut_wide, cut_length}
use Rattle.mpc_condense.proofs.OneProgram.{same_row, same_constant, same_h, same_f, states, h_height, zero_size, zeros_size}

is_program-prop : (h f y g w : RationalMatrix) (counts : List ℕ) → IsProp (IsProgram h f y g w counts)
is_program-prop h f y g w counts = hlevel props

-- ---- numbers
-- a number below n m is k m + r with k below n and r below m
quotient_below : (i n m : ℕ) → i < n * m → 0 < m → (i / m < n) × ((i / m) * m + i % m ≡ i) × (i % m < m)
quotient_below i n m l some = (below, omega arith, omega arith)
  where
    below : i / m < n
    below = ⊎_elim (λ p. p) (λ p. let h : m * n ≤ m * (i / m) = mul-le-mul_left m p in absurd (omega arith)) (cases_lt (i / m) n)

four_parts : (a b c d e f : ℚ) → a ≡ b → c ≡ d → a +ℚ int (pos 2) *ℚ e +ℚ c ≡ b +ℚ int (pos 2) *ℚ f +ℚ d → e ≡ f
four_parts a b c d e f p q r =
    ≤ℚ_antisymm (linear_le (a ∷ b ∷ c ∷ d ∷ e ∷ f ∷ []) (eq p (eq q (eq r none))) (search claims depth 60 fits 9000) tt)
    (linear_le (a ∷ b ∷ c ∷ d ∷ e ∷ f ∷ []) (eq p (eq q (eq r none))) (search claims depth 60 fits 9000) tt)

first_part : (a b c d : ℚ) → a -ℚ b ≡ c -ℚ d → b ≡ int (pos 0) → d ≡ int (pos 0) → a ≡ c
first_part a b c d p q r =
    ≤ℚ_antisymm (linear_le (a ∷ b ∷ c ∷ d ∷ []) (eq p (eq q (eq r none))) (search claims depth 60 fits 9000) tt) (linear_le (a ∷ b ∷ c ∷ d ∷ []) (eq p (eq q (eq r none))) (search claims depth 60 fits 9000) tt)

second_part : (a b c d : ℚ) → a -ℚ b ≡ c -ℚ d → a ≡ c → b ≡ d
second_part a b c d p q =
    ≤ℚ_antisymm (linear_le (a ∷ b ∷ c ∷ d ∷ []) (eq p (eq q none)) (search claims depth 60 fits 9000) tt) (linear_le (a ∷ b ∷ c ∷ d ∷ []) (eq p (eq q none)) (search claims depth 60 fits 9000) tt)

-- ---- the sum of two points is twice the point between them
half : ℚ
half = frac (pos 1) 2

one_times : (x : ℚ) → int (pos 1) *ℚ x ≡ x
one_times x = by_ring (x ∷ []) (search reads depth 30) (search reads depth 30) tt

unit_scale : (xs : List ℚ) → vec_scale (int (pos 1)) xs ≡ xs
unit_scale [] = refl
unit_scale (x ∷ xs) = λ i. one_times x i ∷ unit_scale xs i

abbrev middle : List ℚ → List ℚ → List ℚ
middle s t = vec_scale half (vec_add s t)

twice_half : int (pos 2) *ℚ half ≡ int (pos 1)
unfolding half
twice_half = frac_one 2 (omega arith)

twice_middle : (s t : List ℚ) → vec_add (extended s) (extended t) ≡ vec_scale (int (pos 2)) (extended (middle s t))
twice_middle s t =
    let one : int (pos 1) +ℚ int (pos 1) ≡ int (pos 2) *ℚ int (pos 1) = by_ring [] (search reads depth 30) (search reads depth 30) tt in
    let rest : vec_add s t ≡ vec_scale (int (pos 2)) (middle s t) = sym (vec_scale-scale (int (pos 2)) half (vec_add s t) ∙ ap (λ k. vec_scale k (vec_add s t)) twice_half ∙ unit_scale (vec_add s t)) in
    λ i. one i ∷ rest i

-- ---- two programs of one plant
module _ (plant : Plant) (one two : Qp) (a : IsCondensed one plant) (b : IsCondensed two plant) where
  abbrev size : ℕ
  size = plant.horizon * plant.p

  abbrev constant : Qp → List ℚ → ℚ
  constant qp t = quadratic qp.y.rows (extended t)

  same_at_point : (t : List ℚ) → length t ≡ plant.n → constant one t ≡ constant two t
  same_at_point t e = same_constant plant one two a b t e (zeros_size plant one two a b)

  at_sum : (qp : Qp) (s t : List ℚ) → quadratic qp.y.rows (vec_add (extended s) (extended t)) ≡ (int (pos 2) *ℚ int (pos 2)) *ℚ constant qp (middle s t)
  at_sum qp s t = ap (quadratic qp.y.rows) (twice_middle s t) ∙ quadratic-scale qp.y.rows (int (pos 2)) (extended (middle s t))

  middle_size : (s t : List ℚ) → length s ≡ plant.n → length t ≡ plant.n → length (middle s t) ≡ plant.n
  middle_size s t e f = length-scale half (vec_add s t) ∙ length-add s t (e ∙ sym f) ∙ e

  same_mixed : (s t : List ℚ) → length s ≡ plant.n → length t ≡ plant.n → dot (extended s) (mat_vec one.y.rows (extended t)) ≡ dot (extended s) (mat_vec two.y.rows (extended t))
  same_mixed s t e f =
      four_parts (constant one s) (constant two s) (constant one t) (constant two t) (dot (extended s) (mat_vec one.y.rows (extended t))) (dot (extended s) (mat_vec two.y.rows (extended t)))
      (same_at_point s e) (same_at_point t f)
      (sym (quadratic-add one.y.rows a.y_symmetric (extended s) (extended t)) ∙ at_sum one s t
      ∙ ap (λ k. (int (pos 2) *ℚ int (pos 2)) *ℚ k) (same_at_point (middle s t) (middle_size s t e f))
      ∙ sym (at_sum two s t) ∙ quadratic-add two.y.rows b.y_symmetric (extended s) (extended t))

  y_row : (t : List ℚ) → length t ≡ plant.n → (i : ℕ) → i < suc plant.n → dot (extended t) (get_or one.y.rows i []) ≡ dot (extended t) (get_or two.y.rows i [])
  y_row t f i l =
      dot_comm (extended t) (get_or one.y.rows i []) ∙ sym (coordinate-mat_vec one.y.rows (extended t) i)
      ∙ same_row plant.n (mat_vec one.y.rows (extended t)) (mat_vec two.y.rows (extended t)) (λ s e. same_mixed s t e f) (zero_size plant one two a b) i l
      ∙ coordinate-mat_vec two.y.rows (extended t) i ∙ dot_comm (get_or two.y.rows i []) (extended t)

  same_counts : one.counts ≡ two.counts
  same_counts = a.counts_are ∙ sym b.counts_are

  one_states : length one.counts ≡ plant.n
  one_states = states plant one two a b

  two_states : length two.counts ≡ plant.n
  two_states = ap length (sym same_counts) ∙ one_states

  same_y : one.y ≡ two.y
  same_y =
      same_matrix one.y two.y one.is_program.y_shape.rectangular two.is_program.y_shape.rectangular
      (one.is_program.y_shape.rows_are ∙ ap (λ n. n + 1) (one_states ∙ sym two_states) ∙ sym two.is_program.y_shape.rows_are)
      (one.is_program.y_shape.columns_are ∙ ap (λ n. n + 1) (one_states ∙ sym two_states) ∙ sym two.is_program.y_shape.columns_are)
      (λ i j h k. same_row plant.n (get_or one.y.rows i []) (get_or two.y.rows i [])
      (λ t e. y_row t e i (omega (arith, one_states, one.is_program.y_shape.rows_are, h))) (zero_size plant one two a b) j (omega (arith, one_states, one.is_program.y_shape.columns_are, k)))

  -- ---- rows
  -- of a sequence
  module _ (t : List ℚ) (v : List (List ℚ)) (e : length t ≡ plant.n) (sequence : IsSequence plant v) where
    abbrev SameRoom : ℕ → Type 0
    SameRoom i = room one i (extended t) (stacked v) ≡ room two i (extended t) (stacked v)

    first : HasRoom one plant t v
    first = a.same_rows t v e sequence

    second : HasRoom two plant t v
    second = b.same_rows t v e sequence

    abbrev blank : PlantRow
    blank = record { x = []; u = []; max = int (pos 0) }

    at_stage : (k r : ℕ) → k < plant.horizon → r < length plant.rows → SameRoom (stage_row plant k r)
    at_stage k r l m =
        let is = slice_get-get_or plant.rows r blank m in
        first.stage k r (get_or plant.rows r blank) l is ∙ sym (second.stage k r (get_or plant.rows r blank) l is)

    at_end : (r : ℕ) → r < length plant.terminal → SameRoom (terminal_row plant r)
    at_end r m =
        let is = slice_get-get_or plant.terminal r blank m in
        first.terminal r (get_or plant.terminal r blank) is ∙ sym (second.terminal r (get_or plant.terminal r blank) is)

    some_rows : (i : ℕ) → i < plant.horizon * length plant.rows → 0 < length plant.rows
    some_rows i p =
        ⊎_elim (λ s. s) (λ s. let none_left : length plant.rows ≡ 0 = omega arith in let z : plant.horizon * length plant.rows ≡ 0 = ap (λ m. plant.horizon * m) none_left ∙ omega arith in absurd (omega arith)) (cases_lt 0 (length plant.rows))

    in_stage : (i : ℕ) → i < plant.horizon * length plant.rows → SameRoom i
    in_stage i p =
        let q = quotient_below i plant.horizon (length plant.rows) p (some_rows i p) in
        subst SameRoom q.1 (at_stage (i / length plant.rows) (i % length plant.rows) q.0 q.2)

    in_end : (i : ℕ) → i < height one.g → plant.horizon * length plant.rows ≤ i → SameRoom i
    in_end i l p =
        let r = i - plant.horizon * length plant.rows in
        let back : terminal_row plant r ≡ i = omega arith in
        subst SameRoom back (at_end r (omega (arith, a.rows_are, l, p)))

    same_room_of : (i : ℕ) → i < height one.g → SameRoom i
    same_room_of i l = ⊎_elim (λ p. in_stage i p) (λ p. in_end i l p) (cases_lt i (plant.horizon * length plant.rows))

  same_room : (i : ℕ) → i < height one.g → (t z : List ℚ) → length t ≡ plant.n → length z ≡ size → room one i (extended t) z ≡ room two i (extended t) z
  same_room i l t z e f =
      let v = rows_of plant.horizon plant.p z in
      let is : stacked v ≡ z = cut_stacked plant.horizon plant.p z f in
      let sequence : IsSequence plant v = record { steps = cut_length plant.horizon plant.p z; inputs = All-from_recursion (λ u. length u ≡ plant.p) v (cut_wide plant.horizon plant.p z f) } in
      subst (λ x. room one i (extended t) x ≡ room two i (extended t) x) is (same_room_of t v e sequence i l)

  nothing : (x : List ℚ) → dot x (zeros size) ≡ int (pos 0)
  nothing x = dot-zero x (zeros size) (zeros_zero size)

  w_row : (i : ℕ) → i < height one.g → (t : List ℚ) → length t ≡ plant.n → dot (extended t) (get_or one.w.rows i []) ≡ dot (extended t) (get_or two.w.rows i [])
  w_row i l t e =
      dot_comm (extended t) (get_or one.w.rows i [])
      ∙ first_part (dot (get_or one.w.rows i []) (extended t)) (dot (get_or one.g.rows i []) (zeros size)) (dot (get_or two.w.rows i []) (extended t)) (dot (get_or two.g.rows i []) (zeros size))
      (same_room i l t (zeros size) e (zeros_size plant one two a b)) (nothing (get_or one.g.rows i [])) (nothing (get_or two.g.rows i []))
      ∙ dot_comm (get_or two.w.rows i []) (extended t)

  g_row : (i : ℕ) → i < height one.g → (z : List ℚ) → length z ≡ size → dot (get_or one.g.rows i []) z ≡ dot (get_or two.g.rows i []) z
  g_row i l z f =
      let t = zeros plant.n in
      let e = zero_size plant one two a b in
      second_part (dot (get_or one.w.rows i []) (extended t)) (dot (get_or one.g.rows i []) z) (dot (get_or two.w.rows i []) (extended t)) (dot (get_or two.g.rows i []) z)
      (same_room i l t z e f)
      (dot_comm (get_or one.w.rows i []) (extended t) ∙ w_row i l t e ∙ dot_comm (extended t) (get_or two.w.rows i []))

  g_entry : (i j : ℕ) → i < height one.g → j < size → entry one.g i j ≡ entry two.g i j
  g_entry i j l k =
      sym (dot-unit size j (get_or one.g.rows i []) k) ∙ dot_comm (listed size (unit j)) (get_or one.g.rows i [])
      ∙ g_row i l (listed size (unit j)) (length-listed size (unit j))
      ∙ dot_comm (get_or two.g.rows i []) (listed size (unit j)) ∙ dot-unit size j (get_or two.g.rows i []) k

  same_height : height one.g ≡ height two.g
  same_height = a.rows_are ∙ sym b.rows_are

  one_size : height one.h ≡ size
  one_size = h_height plant one two a b one a

  two_size : height two.h ≡ size
  two_size = h_height plant one two a b two b

  same_g : one.g ≡ two.g
  same_g =
      same_matrix one.g two.g one.is_program.g_shape.rectangular two.is_program.g_shape.rectangular same_height
      (one.is_program.g_shape.columns_are ∙ one_size ∙ sym two_size ∙ sym two.is_program.g_shape.columns_are)
      (λ i j h k. g_entry i j h (omega (arith, one.is_program.g_shape.columns_are, one_size, k)))

  same_w : one.w ≡ two.w
  same_w =
      same_matrix one.w two.w one.is_program.w_shape.rectangular two.is_program.w_shape.rectangular
      (one.is_program.w_shape.rows_are ∙ same_height ∙ sym two.is_program.w_shape.rows_are)
      (one.is_program.w_shape.columns_are ∙ ap (λ n. n + 1) (one_states ∙ sym two_states) ∙ sym two.is_program.w_shape.columns_are)
      (λ i j h k. same_row plant.n (get_or one.w.rows i []) (get_or two.w.rows i [])
      (λ t e. w_row i (omega (arith, one.is_program.w_shape.rows_are, h)) t e) (zero_size plant one two a b) j (omega (arith, one_states, one.is_program.w_shape.columns_are, k)))

  pub one_program : one ≡ two
  one_program =
      let h = same_h plant one two a b in
      let f = same_f plant one two a b in
      λ i. record {
        h = h i;
        f = f i;
        y = same_y i;
        g = same_g i;
        w = same_w i;
        counts = same_counts i;
        is_program = is_prop→PathP (λ j. IsProgram (h j) (f j) (same_y j) (same_g j) (same_w j) (same_counts j))
            (λ j. is_program-prop (h j) (f j) (same_y j) (same_g j) (same_w j) (same_counts j)) one.is_program two.is_program i;
      }
