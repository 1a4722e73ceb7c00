-- The parts of a drill's plant make a plant, and a drill's number has one plant.
use Rattle.std.proofs.Common.{◌≡◌, ℕ, zero, suc, List, [], ◌∷◌, ℤ, pos, refl, sym, ◌∙◌, ap, subst, lit≤, lit<, length, ◌*◌, ◌+◌, ◌≤◌}
use Rattle.std.specs.Prelude.{All}
use Rattle.std.proofs.lemmas.List.Elements.{All-cons, All-nil}
use mathlib.Core.HLevel.{is_prop→PathP}
use Rattle.std.proofs.Props.{props}
use Rattle.mpc_exact.specs.Rational.{ℚ}
use Rattle.mpc_exact.proofs.RationalOrder.{positive_int}
use Rattle.mpc_space.specs.Matrix.{RationalMatrix}
use Rattle.mpc_space.specs.Vector.{IsSymmetric, cell}
use Rattle.mpc_linear.specs.Shape.{HasShape}
use Rattle.mpc_plant.specs.declared.lists.PlantRow.{PlantRow}
use Rattle.mpc_plant.specs.declared.lists.Coordinate.{Coordinate}
use Rattle.mpc_plant.specs.declared.plants.Plant.{Plant}
use Rattle.mpc_plant.specs.Limits.{IsPlant, IsWeight, FitsRow, IsCoordinate, row_limit}
use Rattle.mpc_trace.specs.DrillPlant.{vector, matrix, stage_rows, end_rows, axis, IsDrillPlant}

-- ---- each element of a list that is written out
abbrev Each : {X : Type 0} → (X → Type 0) → List X → Type 0
Each P [] = Unit {0}
Each P (x ∷ xs) = P x × Each P xs

each_all : {X : Type 0} (P : X → Type 0) (xs : List X) → Each P xs → All P xs
each_all P [] h = All-nil P
each_all P (x ∷ xs) h = All-cons P x xs h.0 (each_all P xs h.1)

-- ---- shapes
square_shape : (x y z w : ℤ) → HasShape (matrix 2 ((x ∷ y ∷ []) ∷ (z ∷ w ∷ []) ∷ [])) 2 2
square_shape x y z w = record { rows_are = refl; columns_are = refl; rectangular = each_all (λ row. length row ≡ 2) (vector (x ∷ y ∷ []) ∷ vector (z ∷ w ∷ []) ∷ []) (refl, (refl, tt)) }

column_shape : (x y : ℤ) → HasShape (matrix 1 ((x ∷ []) ∷ (y ∷ []) ∷ [])) 2 1
column_shape x y = record { rows_are = refl; columns_are = refl; rectangular = each_all (λ row. length row ≡ 1) (vector (x ∷ []) ∷ vector (y ∷ []) ∷ []) (refl, (refl, tt)) }

single_shape : (x : ℤ) → HasShape (matrix 1 ((x ∷ []) ∷ [])) 1 1
single_shape x = record { rows_are = refl; columns_are = refl; rectangular = each_all (λ row. length row ≡ 1) (vector (x ∷ []) ∷ []) (refl, tt) }

square_mirrored : (x y z : ℤ) → IsSymmetric (matrix 2 ((x ∷ y ∷ []) ∷ (y ∷ z ∷ []) ∷ [])).rows
square_mirrored x y z = record { mirrored = at }
  where
    m : List (List ℚ)
    m = vector (x ∷ y ∷ []) ∷ vector (y ∷ z ∷ []) ∷ []

    at : (i j : ℕ) → cell m i j ≡ cell m j i
    at zero zero = refl
    at zero (suc zero) = refl
    at zero (suc (suc j)) = refl
    at (suc zero) zero = refl
    at (suc zero) (suc zero) = refl
    at (suc zero) (suc (suc j)) = refl
    at (suc (suc i)) zero = refl
    at (suc (suc i)) (suc zero) = refl
    at (suc (suc i)) (suc (suc j)) = refl

single_mirrored : (x : ℤ) → IsSymmetric (matrix 1 ((x ∷ []) ∷ [])).rows
single_mirrored x = record { mirrored = at }
  where
    m : List (List ℚ)
    m = vector (x ∷ []) ∷ []

    at : (i j : ℕ) → cell m i j ≡ cell m j i
    at zero zero = refl
    at zero (suc j) = refl
    at (suc i) zero = refl
    at (suc i) (suc j) = refl

square_weight : (x y z : ℤ) → IsWeight (matrix 2 ((x ∷ y ∷ []) ∷ (y ∷ z ∷ []) ∷ [])) 2
square_weight x y z = record { shape = square_shape x y y z; symmetric = square_mirrored x y z }

single_weight : (x : ℤ) → IsWeight (matrix 1 ((x ∷ []) ∷ [])) 1
single_weight x = record { shape = single_shape x; symmetric = single_mirrored x }

-- ---- rows and coordinates
stage_fits : (bound : ℤ) → All (FitsRow 2 1) (stage_rows bound)
stage_fits bound = each_all (FitsRow 2 1) (stage_rows bound) (record { x_size = refl; u_size = refl }, (record { x_size = refl; u_size = refl }, (record { x_size = refl; u_size = refl }, (record { x_size = refl; u_size = refl }, tt))))

end_fits : All (FitsRow 2 0) end_rows
end_fits = each_all (FitsRow 2 0) end_rows (record { x_size = refl; u_size = refl }, (record { x_size = refl; u_size = refl }, (record { x_size = refl; u_size = refl }, (record { x_size = refl; u_size = refl }, (record { x_size = refl; u_size = refl }, (record { x_size = refl; u_size = refl }, tt))))))

axis_ok : IsCoordinate axis
axis_ok = record { step_positive = positive_int 1 (lit< tt); count_small = lit≤ tt }

-- ---- the parts make a plant
pub is_plant : (a b q r last : RationalMatrix) (drift xgoal ugoal : List ℚ) (rows terminal : List PlantRow) (grid : List Coordinate) (turn input weight bound : ℤ)
    → a ≡ matrix 2 ((pos 1 ∷ pos 1 ∷ []) ∷ (turn ∷ pos 1 ∷ []) ∷ []) → b ≡ matrix 1 ((input ∷ []) ∷ (pos 1 ∷ []) ∷ [])
    → q ≡ matrix 2 ((weight ∷ pos 0 ∷ []) ∷ (pos 0 ∷ pos 1 ∷ []) ∷ []) → r ≡ matrix 1 ((pos 1 ∷ []) ∷ []) → last ≡ matrix 2 ((pos 1 ∷ pos 0 ∷ []) ∷ (pos 0 ∷ pos 1 ∷ []) ∷ [])
    → drift ≡ vector (pos 0 ∷ pos 0 ∷ []) → xgoal ≡ vector (pos 0 ∷ pos 0 ∷ []) → ugoal ≡ vector (pos 0 ∷ [])
    → rows ≡ stage_rows bound → terminal ≡ end_rows → grid ≡ axis ∷ axis ∷ [] → IsPlant 2 1 3 a b q r last drift xgoal ugoal rows terminal grid
is_plant a b q r last drift xgoal ugoal rows terminal grid turn input weight bound ea eb eq er el ed ex eu es et eg = record {
  states = record { from_low = lit≤ tt; to_high = lit≤ tt };
  inputs = record { from_low = lit≤ tt; to_high = lit≤ tt };
  steps = record { from_low = lit≤ tt; to_high = lit≤ tt };
  moves_few = lit≤ tt;
  a_shape = subst (λ m. HasShape m 2 2) (sym ea) (square_shape (pos 1) (pos 1) turn (pos 1));
  b_shape = subst (λ m. HasShape m 2 1) (sym eb) (column_shape input (pos 1));
  q_weight = subst (λ m. IsWeight m 2) (sym eq) (square_weight weight (pos 0) (pos 1));
  r_weight = subst (λ m. IsWeight m 1) (sym er) (single_weight (pos 1));
  last_weight = subst (λ m. IsWeight m 2) (sym el) (square_weight (pos 1) (pos 0) (pos 1));
  drift_size = ap length ed;
  xgoal_size = ap length ex;
  ugoal_size = ap length eu;
  rows_few = subst (λ (rs : List PlantRow). 3 * length rs + length terminal ≤ row_limit 3) (sym es) (subst (λ (ts : List PlantRow). 3 * length (stage_rows bound) + length ts ≤ row_limit 3) (sym et) (lit≤ tt));
  rows_fit = subst (All (FitsRow 2 1)) (sym es) (stage_fits bound);
  terminal_fits = subst (All (FitsRow 2 0)) (sym et) end_fits;
  grid_size = ap length eg;
  grid_ok = subst (All IsCoordinate) (sym eg) (each_all IsCoordinate (axis ∷ axis ∷ []) (axis_ok, (axis_ok, tt)));
}

-- ---- one plant a number
is_plant-prop : (n p horizon : ℕ) (a b q r last : RationalMatrix) (drift xgoal ugoal : List ℚ) (rows terminal : List PlantRow) (grid : List Coordinate) → IsProp (IsPlant n p horizon a b q r last drift xgoal ugoal rows terminal grid)
is_plant-prop n p horizon a b q r last drift xgoal ugoal rows terminal grid = hlevel props

pub one_plant : (number : ℕ) (x y : Plant) → IsDrillPlant number x → IsDrillPlant number y → x ≡ y
one_plant number x y h k =
    let n : x.n ≡ y.n = h.states ∙ sym k.states in
    let p : x.p ≡ y.p = h.inputs ∙ sym k.inputs in
    let steps : x.horizon ≡ y.horizon = h.steps ∙ sym k.steps in
    let a : x.a ≡ y.a = h.a_is ∙ sym k.a_is in
    let b : x.b ≡ y.b = h.b_is ∙ sym k.b_is in
    let q : x.q ≡ y.q = h.q_is ∙ sym k.q_is in
    let r : x.r ≡ y.r = h.r_is ∙ sym k.r_is in
    let last : x.last ≡ y.last = h.last_is ∙ sym k.last_is in
    let drift : x.drift ≡ y.drift = h.drift_is ∙ sym k.drift_is in
    let xgoal : x.xgoal ≡ y.xgoal = h.xgoal_is ∙ sym k.xgoal_is in
    let ugoal : x.ugoal ≡ y.ugoal = h.ugoal_is ∙ sym k.ugoal_is in
    let rows : x.rows ≡ y.rows = h.rows_are ∙ sym k.rows_are in
    let terminal : x.terminal ≡ y.terminal = h.terminal_is ∙ sym k.terminal_is in
    let grid : x.grid ≡ y.grid = h.grid_is ∙ sym k.grid_is in
    λ i. record {
      n = n i;
      p = p i;
      horizon = steps i;
      a = a i;
      b = b i;
      q = q i;
      r = r i;
      last = last i;
      drift = drift i;
      xgoal = xgoal i;
      ugoal = ugoal i;
      rows = rows i;
      terminal = terminal i;
      grid = grid i;
      is_plant = is_prop→PathP (λ j. IsPlant (n j) (p j) (steps j) (a j) (b j) (q j) (r j) (last j) (drift j) (xgoal j) (ugoal j) (rows j) (terminal j) (grid j))
          (λ j. is_plant-prop (n j) (p j) (steps j) (a j) (b j) (q j) (r j) (last j) (drift j) (xgoal j) (ugoal j) (rows j) (terminal j) (grid j)) x.is_plant y.is_plant i;
    }
