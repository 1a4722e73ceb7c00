-- The cost of a plant's sequences determines h and f: all programs of a plant agree in them.
use Rattle.std.proofs.Common.{◌≡◌, ℕ, zero, suc, ◌+◌, ◌*◌, ◌<◌, List, [], ◌∷◌, length, get_or, pos, negsuc, refl, sym, ◌∙◌, ap, subst, arith}
use Rattle.std.proofs.lemmas.List.Elements.{All-from_recursion}
use Rattle.std.proofs.lemmas.List.{length-map, length-replicate}
use Rattle.mpc_exact.specs.Rational.{ℚ, int, ◌+ℚ◌, ◌*ℚ◌}
use Rattle.mpc_exact.proofs.RationalRing.{reads, by_ring}
use Rattle.mpc_exact.proofs.RationalOrder.{≤ℚ_antisymm}
use Rattle.mpc_exact.proofs.Linear.{linear_le, claims, none, eq}
use Rattle.mpc_space.specs.Vector.{coordinate, cell, dot, vec_add, vec_scale, mat_vec, quadratic, listed, zeros, later_entries}
use Rattle.mpc_space.specs.Matrix.{height, entry}
use Rattle.mpc_space.specs.Total.{unit}
use Rattle.mpc_space.proofs.Entries.{dot-unit, dot-zero, zeros_zero, length-listed, length-add, length-scale}
use Rattle.mpc_space.proofs.Vector.{dot_comm, dot-scale}
use Rattle.mpc_space.proofs.Matrix.{coordinate-mat_vec, same_matrix}
use Rattle.mpc_space.proofs.Quadratic.{quadratic-add, quadratic-scale}
use Rattle.mpc_linear.specs.Grid.{rows_of}
use Rattle.mpc_plant.specs.declared.plants.Plant.{Plant}
use Rattle.mpc_plant.specs.Trajectory.{IsSequence}
use Rattle.mpc_rows.specs.declared.programs.Qp.{Qp}
use Rattle.mpc_condense.specs.Condensed.{stacked, program_cost, IsCondensed}
use Rattle.mpc_rows.specs.ActiveSets.{extended}
use Rattle.mpc_condense.proofs.Stacks.{cut_stacked, cut_wide, cut_length}
use Rattle.mpc_plant.specs.declared.lists.Coordinate.{Coordinate}

minus_one : ℚ
minus_one = int (negsuc 0)

-- ---- numbers
-- q + 2 l + y at z and q - 2 l + y at -z agree on both sides
linear_part : (q l y r m w : ℚ) → q +ℚ int (pos 2) *ℚ l +ℚ y ≡ r +ℚ int (pos 2) *ℚ m +ℚ w → q +ℚ int (pos 2) *ℚ (int (negsuc 0) *ℚ l) +ℚ y ≡ r +ℚ int (pos 2) *ℚ (int (negsuc 0) *ℚ m) +ℚ w → l ≡ m
linear_part q l y r m w h k =
    ≤ℚ_antisymm (linear_le (q ∷ l ∷ y ∷ r ∷ m ∷ w ∷ []) (eq h (eq k none)) (search claims depth 60 fits 9000) tt)
    (linear_le (q ∷ l ∷ y ∷ r ∷ m ∷ w ∷ []) (eq h (eq k none)) (search claims depth 60 fits 9000) tt)

-- and at 0
constant_part : (q l y r m w : ℚ) → q ≡ int (pos 0) → l ≡ int (pos 0) → r ≡ int (pos 0) → m ≡ int (pos 0) → q +ℚ int (pos 2) *ℚ l +ℚ y ≡ r +ℚ int (pos 2) *ℚ m +ℚ w → y ≡ w
constant_part q l y r m w a b c d h =
    ≤ℚ_antisymm (linear_le (q ∷ l ∷ y ∷ r ∷ m ∷ w ∷ []) (eq a (eq b (eq c (eq d (eq h none))))) (search claims depth 60 fits 9000) tt)
    (linear_le (q ∷ l ∷ y ∷ r ∷ m ∷ w ∷ []) (eq a (eq b (eq c (eq d (eq h none))))) (search claims depth 60 fits 9000) tt)

square_part : (q l y r m w : ℚ) → l ≡ m → y ≡ w → q +ℚ int (pos 2) *ℚ l +ℚ y ≡ r +ℚ int (pos 2) *ℚ m +ℚ w → q ≡ r
square_part q l y r m w a b h =
    ≤ℚ_antisymm (linear_le (q ∷ l ∷ y ∷ r ∷ m ∷ w ∷ []) (eq a (eq b (eq h none))) (search claims depth 60 fits 9000) tt)
    (linear_le (q ∷ l ∷ y ∷ r ∷ m ∷ w ∷ []) (eq a (eq b (eq h none))) (search claims depth 60 fits 9000) tt)

mixed_part : (a b c d e f g h : ℚ) → a ≡ e → b ≡ f → c ≡ g → a +ℚ int (pos 2) *ℚ d +ℚ b ≡ e +ℚ int (pos 2) *ℚ h +ℚ f → d ≡ h
mixed_part a b c d e f g h p q r s =
    ≤ℚ_antisymm (linear_le (a ∷ b ∷ d ∷ e ∷ f ∷ h ∷ []) (eq p (eq q (eq s none))) (search claims depth 60 fits 9000) tt)
    (linear_le (a ∷ b ∷ d ∷ e ∷ f ∷ h ∷ []) (eq p (eq q (eq s none))) (search claims depth 60 fits 9000) tt)

squared : (q : ℚ) → (int (negsuc 0) *ℚ int (negsuc 0)) *ℚ q ≡ q
squared q = by_ring (q ∷ []) (search reads depth 30) (search reads depth 30) tt

-- ---- entries by products with unit vectors
entry_by_units : (m : List (List ℚ)) (s i j : ℕ) → i < s → j < s → dot (listed s (unit i)) (mat_vec m (listed s (unit j))) ≡ cell m i j
entry_by_units m s i j h k =
    dot-unit s i (mat_vec m (listed s (unit j))) h ∙ coordinate-mat_vec m (listed s (unit j)) i ∙ dot_comm (get_or m i []) (listed s (unit j)) ∙ dot-unit s j (get_or m i []) k

split_first : (t r : List ℚ) → dot (extended t) r ≡ coordinate r 0 +ℚ dot t (later_entries r)
split_first t [] = dot_nil_sum t
  where
    dot_nil_sum : (t : List ℚ) → int (pos 0) ≡ int (pos 0) +ℚ dot t []
    dot_nil_sum [] = by_ring [] (search reads depth 30) (search reads depth 30) tt
    dot_nil_sum (x ∷ xs) = by_ring [] (search reads depth 30) (search reads depth 30) tt
split_first t (x ∷ xs) = by_ring (x ∷ dot t xs ∷ []) (search reads depth 30) (search reads depth 30) tt

later_coordinate : (r : List ℚ) (j : ℕ) → coordinate (later_entries r) j ≡ coordinate r (suc j)
later_coordinate [] j = refl
later_coordinate (x ∷ xs) j = refl

first_left : (a b x y : ℚ) → x ≡ int (pos 0) → y ≡ int (pos 0) → a +ℚ x ≡ b +ℚ y → a ≡ b
first_left a b x y p q h =
    ≤ℚ_antisymm (linear_le (a ∷ b ∷ x ∷ y ∷ []) (eq p (eq q (eq h none))) (search claims depth 60 fits 9000) tt) (linear_le (a ∷ b ∷ x ∷ y ∷ []) (eq p (eq q (eq h none))) (search claims depth 60 fits 9000) tt)

second_left : (a b x y : ℚ) → a ≡ b → a +ℚ x ≡ b +ℚ y → x ≡ y
second_left a b x y p h = ≤ℚ_antisymm (linear_le (a ∷ b ∷ x ∷ y ∷ []) (eq p (eq h none)) (search claims depth 60 fits 9000) tt) (linear_le (a ∷ b ∷ x ∷ y ∷ []) (eq p (eq h none)) (search claims depth 60 fits 9000) tt)

-- two rows with the same product at each (1, t) have the same entries
module _ (n : ℕ) (r s : List ℚ) (same : (t : List ℚ) → length t ≡ n → dot (extended t) r ≡ dot (extended t) s) where
  parts : (t : List ℚ) → length t ≡ n → coordinate r 0 +ℚ dot t (later_entries r) ≡ coordinate s 0 +ℚ dot t (later_entries s)
  parts t e = sym (split_first t r) ∙ same t e ∙ split_first t s

  nothing : (xs : List ℚ) → dot (zeros n) xs ≡ int (pos 0)
  nothing xs = dot_comm (zeros n) xs ∙ dot-zero xs (zeros n) (zeros_zero n)

  same_first : length (zeros n) ≡ n → coordinate r 0 ≡ coordinate s 0
  same_first e = first_left (coordinate r 0) (coordinate s 0) (dot (zeros n) (later_entries r)) (dot (zeros n) (later_entries s)) (nothing (later_entries r)) (nothing (later_entries s)) (parts (zeros n) e)

  same_later : length (zeros n) ≡ n → (j : ℕ) → j < n → coordinate r (suc j) ≡ coordinate s (suc j)
  same_later e j h =
      sym (later_coordinate r j) ∙ sym (dot-unit n j (later_entries r) h)
      ∙ second_left (coordinate r 0) (coordinate s 0) (dot (listed n (unit j)) (later_entries r)) (dot (listed n (unit j)) (later_entries s)) (same_first e) (parts (listed n (unit j)) (length-listed n (unit j)))
      ∙ dot-unit n j (later_entries s) h ∙ later_coordinate s j

  pub same_row : length (zeros n) ≡ n → (j : ℕ) → j < suc n → coordinate r j ≡ coordinate s j
  same_row e zero h = same_first e
  same_row e (suc j) h = same_later e j (omega arith)

-- ---- two programs of one plant
module _ (plant : Plant) (one two : Qp) (a : IsCondensed one plant) (b : IsCondensed two plant) where
  abbrev size : ℕ
  size = plant.horizon * plant.p

  pub zero_size : length (zeros plant.n) ≡ plant.n
  zero_size = length-replicate plant.n (int (pos 0))

  pub zeros_size : length (zeros size) ≡ size
  zeros_size = length-replicate size (int (pos 0))

  same_at : (t z : List ℚ) → length t ≡ plant.n → length z ≡ size → program_cost one (extended t) z ≡ program_cost two (extended t) z
  same_at t z e f =
      let v = rows_of plant.horizon plant.p z in
      let is : stacked v ≡ z = cut_stacked plant.horizon plant.p z f in
      let sequence : IsSequence plant v = record { steps = cut_length plant.horizon plant.p z; inputs = All-from_recursion (λ u. length u ≡ plant.p) v (cut_wide plant.horizon plant.p z f) } in
      ap (program_cost one (extended t)) (sym is) ∙ sym (a.same_cost t v e sequence) ∙ b.same_cost t v e sequence ∙ ap (program_cost two (extended t)) is

  abbrev linear : Qp → List ℚ → List ℚ → ℚ
  linear qp t z = dot z (mat_vec qp.f.rows (extended t))

  -- at -z
  turned : (qp : Qp) (t z : List ℚ) → program_cost qp (extended t) (vec_scale (int (negsuc 0)) z) ≡ quadratic qp.h.rows z +ℚ int (pos 2) *ℚ (int (negsuc 0) *ℚ linear qp t z) +ℚ quadratic qp.y.rows (extended t)
  turned qp t z = λ i. (quadratic-scale qp.h.rows (int (negsuc 0)) z ∙ squared (quadratic qp.h.rows z)) i +ℚ int (pos 2) *ℚ dot-scale (int (negsuc 0)) z (mat_vec qp.f.rows (extended t)) i +ℚ quadratic qp.y.rows (extended t)

  same_linear : (t z : List ℚ) → length t ≡ plant.n → length z ≡ size → linear one t z ≡ linear two t z
  same_linear t z e f =
      linear_part (quadratic one.h.rows z) (linear one t z) (quadratic one.y.rows (extended t)) (quadratic two.h.rows z) (linear two t z) (quadratic two.y.rows (extended t))
      (same_at t z e f)
      (sym (turned one t z) ∙ same_at t (vec_scale (int (negsuc 0)) z) e (length-scale (int (negsuc 0)) z ∙ f) ∙ turned two t z)

  at_zero : (x : List ℚ) → dot (zeros size) x ≡ int (pos 0)
  at_zero x = dot_comm (zeros size) x ∙ dot-zero x (zeros size) (zeros_zero size)

  pub same_constant : (t : List ℚ) → length t ≡ plant.n → length (zeros size) ≡ size → quadratic one.y.rows (extended t) ≡ quadratic two.y.rows (extended t)
  same_constant t e f =
      constant_part (quadratic one.h.rows (zeros size)) (linear one t (zeros size)) (quadratic one.y.rows (extended t)) (quadratic two.h.rows (zeros size)) (linear two t (zeros size)) (quadratic two.y.rows (extended t))
      (at_zero (mat_vec one.h.rows (zeros size))) (at_zero (mat_vec one.f.rows (extended t))) (at_zero (mat_vec two.h.rows (zeros size))) (at_zero (mat_vec two.f.rows (extended t))) (same_at t (zeros size) e f)

  same_square : (z : List ℚ) → length z ≡ size → length (zeros size) ≡ size → quadratic one.h.rows z ≡ quadratic two.h.rows z
  same_square z f g =
      square_part (quadratic one.h.rows z) (linear one (zeros plant.n) z) (quadratic one.y.rows (extended (zeros plant.n))) (quadratic two.h.rows z) (linear two (zeros plant.n) z) (quadratic two.y.rows (extended (zeros plant.n)))
      (same_linear (zeros plant.n) z zero_size f) (same_constant (zeros plant.n) zero_size g) (same_at (zeros plant.n) z zero_size f)

  same_mixed : (x z : List ℚ) → length x ≡ size → length z ≡ size → length (zeros size) ≡ size → dot x (mat_vec one.h.rows z) ≡ dot x (mat_vec two.h.rows z)
  same_mixed x z e f g =
      mixed_part (quadratic one.h.rows x) (quadratic one.h.rows z) (quadratic one.h.rows x) (dot x (mat_vec one.h.rows z)) (quadratic two.h.rows x) (quadratic two.h.rows z) (quadratic two.h.rows x) (dot x (mat_vec two.h.rows z))
      (same_square x e g) (same_square z f g) (same_square x e g)
      (sym (quadratic-add one.h.rows a.h_symmetric x z) ∙ same_square (vec_add x z) (length-add x z (e ∙ sym f) ∙ e) g ∙ quadratic-add two.h.rows b.h_symmetric x z)

  h_entries : length (zeros size) ≡ size → (i j : ℕ) → i < size → j < size → entry one.h i j ≡ entry two.h i j
  h_entries g i j h k =
      sym (entry_by_units one.h.rows size i j h k) ∙ same_mixed (listed size (unit i)) (listed size (unit j)) (length-listed size (unit i)) (length-listed size (unit j)) g ∙ entry_by_units two.h.rows size i j h k

  f_row : (i : ℕ) → i < size → (t : List ℚ) → length t ≡ plant.n → dot (extended t) (get_or one.f.rows i []) ≡ dot (extended t) (get_or two.f.rows i [])
  f_row i h t e =
      dot_comm (extended t) (get_or one.f.rows i []) ∙ sym (coordinate-mat_vec one.f.rows (extended t) i) ∙ sym (dot-unit size i (mat_vec one.f.rows (extended t)) h)
      ∙ same_linear t (listed size (unit i)) e (length-listed size (unit i))
      ∙ dot-unit size i (mat_vec two.f.rows (extended t)) h ∙ coordinate-mat_vec two.f.rows (extended t) i ∙ dot_comm (get_or two.f.rows i []) (extended t)

  pub h_height : (qp : Qp) → IsCondensed qp plant → height qp.h ≡ size
  h_height qp is = is.unknowns_are ∙ (omega arith)

  pub same_h : one.h ≡ two.h
  same_h =
      let size_one : height one.h ≡ size = h_height one a in
      let size_two : height two.h ≡ size = h_height two b in
      same_matrix one.h two.h one.is_program.h_shape.rectangular two.is_program.h_shape.rectangular (size_one ∙ sym size_two)
      (one.is_program.h_shape.columns_are ∙ size_one ∙ sym size_two ∙ sym two.is_program.h_shape.columns_are)
      (λ i j h k. h_entries zeros_size i j (subst (λ n. i < n) size_one h) (subst (λ n. j < n) (one.is_program.h_shape.columns_are ∙ size_one) k))

  pub states : length one.counts ≡ plant.n
  states = ap length a.counts_are ∙ length-map plant.grid (λ (axis : Coordinate). axis.count) ∙ plant.is_plant.grid_size

  pub same_f : one.f ≡ two.f
  same_f =
      let size_one : height one.f ≡ size = one.is_program.f_shape.rows_are ∙ h_height one a in
      let size_two : height two.f ≡ size = two.is_program.f_shape.rows_are ∙ h_height two b in
      let counts : one.counts ≡ two.counts = a.counts_are ∙ sym b.counts_are in
      same_matrix one.f two.f one.is_program.f_shape.rectangular two.is_program.f_shape.rectangular (size_one ∙ sym size_two)
      (one.is_program.f_shape.columns_are ∙ ap (λ c. length c + 1) counts ∙ sym two.is_program.f_shape.columns_are)
      (λ i j h k. same_row plant.n (get_or one.f.rows i []) (get_or two.f.rows i []) (f_row i (subst (λ n. i < n) size_one h)) zero_size j (omega (arith, states, one.is_program.f_shape.columns_are)))
