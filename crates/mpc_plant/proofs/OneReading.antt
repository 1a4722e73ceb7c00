-- Bytes are read as at most one plant, or one fault.
use Rattle.std.proofs.Common.{◌≡◌, ℕ, inl, inr, List, [], length, get_or, sym, ◌∙◌, ap, arith}
use mathlib.Core.HLevel.{is_prop→PathP}
use Rattle.std.proofs.Props.{props}
use Rattle.mpc_exact.specs.Rational.{ℚ}
use Rattle.mpc_space.specs.Matrix.{RationalMatrix}
use Rattle.mpc_plant.specs.declared.faults.PlantKind.{PlantKind}
use Rattle.mpc_plant.specs.declared.lists.PlantRow.{PlantRow}
use Rattle.mpc_plant.specs.declared.lists.Coordinate.{Coordinate}
use Rattle.mpc_plant.specs.declared.plants.Plant.{Plant}
use Rattle.mpc_plant.specs.Limits.{IsPlant}
use Rattle.mpc_plant.specs.WholePlant.{Parts, stated_by, ReadsAsPlant, IsFirstFault}
use Rattle.mpc_plant.specs.Readings.{stated, faulty, OneReading}

is_plant-prop : (n p horizon : ℕ) (a b q r last : RationalMatrix) (drift xgoal ugoal : List ℚ) (rows terminal : List PlantRow) (grid : List Coordinate) → IsProp (IsPlant n p horizon a b q r last drift xgoal ugoal rows terminal grid)
is_plant-prop n p horizon a b q r last drift xgoal ugoal rows terminal grid = hlevel props

same_matrix_parts : (m w : RationalMatrix) → m.rows ≡ w.rows → m.columns ≡ w.columns → m ≡ w
same_matrix_parts m w e f = λ i. record { rows = e i; columns = f i }

first_width : (plant : Plant) → length (get_or plant.b.rows 0 []) ≡ plant.p
first_width plant = plant.is_plant.b_shape.rectangular 0 [] (omega (arith, plant.is_plant.b_shape.rows_are, plant.is_plant.states.from_low)) ∙ plant.is_plant.b_shape.columns_are

same_stated : (x y : Plant) → stated_by x ≡ stated_by y → x ≡ y
same_stated x y e =
    let steps : x.horizon ≡ y.horizon = ap (λ (s : Parts). s.horizon) e in
    let a_rows : x.a.rows ≡ y.a.rows = ap (λ (s : Parts). s.dynamics.a) e in
    let b_rows : x.b.rows ≡ y.b.rows = ap (λ (s : Parts). s.dynamics.b) e in
    let q_rows : x.q.rows ≡ y.q.rows = ap (λ (s : Parts). s.weights.q) e in
    let r_rows : x.r.rows ≡ y.r.rows = ap (λ (s : Parts). s.weights.r) e in
    let last_rows : x.last.rows ≡ y.last.rows = ap (λ (s : Parts). s.weights.last) e in
    let drift : x.drift ≡ y.drift = ap (λ (s : Parts). s.targets.drift) e in
    let xgoal : x.xgoal ≡ y.xgoal = ap (λ (s : Parts). s.targets.xgoal) e in
    let ugoal : x.ugoal ≡ y.ugoal = ap (λ (s : Parts). s.targets.ugoal) e in
    let rows : x.rows ≡ y.rows = ap (λ (s : Parts). s.row_lists.rows) e in
    let terminal : x.terminal ≡ y.terminal = ap (λ (s : Parts). s.row_lists.terminal) e in
    let grid : x.grid ≡ y.grid = ap (λ (s : Parts). s.grid) e in
    let n : x.n ≡ y.n = sym x.is_plant.a_shape.rows_are ∙ ap length a_rows ∙ y.is_plant.a_shape.rows_are in
    let p : x.p ≡ y.p = sym (first_width x) ∙ ap (λ (m : List (List ℚ)). length (get_or m 0 [])) b_rows ∙ first_width y in
    let a : x.a ≡ y.a = same_matrix_parts x.a y.a a_rows (x.is_plant.a_shape.columns_are ∙ n ∙ sym y.is_plant.a_shape.columns_are) in
    let b : x.b ≡ y.b = same_matrix_parts x.b y.b b_rows (x.is_plant.b_shape.columns_are ∙ p ∙ sym y.is_plant.b_shape.columns_are) in
    let q : x.q ≡ y.q = same_matrix_parts x.q y.q q_rows (x.is_plant.q_weight.shape.columns_are ∙ n ∙ sym y.is_plant.q_weight.shape.columns_are) in
    let r : x.r ≡ y.r = same_matrix_parts x.r y.r r_rows (x.is_plant.r_weight.shape.columns_are ∙ p ∙ sym y.is_plant.r_weight.shape.columns_are) in
    let last : x.last ≡ y.last = same_matrix_parts x.last y.last last_rows (x.is_plant.last_weight.shape.columns_are ∙ n ∙ sym y.is_plant.last_weight.shape.columns_are) in
    λ i. record {
      n = n i;
      p = p i;
      horizon = steps i;
      a = a i;
      b = b i;
      q = q i;
      r = r i;
      last = last i;
      drift = drift i;
      xgoal = xgoal i;
      ugoal = ugoal i;
      rows = rows i;
      terminal = terminal i;
      grid = grid i;
      is_plant = is_prop→PathP (λ j. IsPlant (n j) (p j) (steps j) (a j) (b j) (q j) (r j) (last j) (drift j) (xgoal j) (ugoal j) (rows j) (terminal j) (grid j))
          (λ j. is_plant-prop (n j) (p j) (steps j) (a j) (b j) (q j) (r j) (last j) (drift j) (xgoal j) (ugoal j) (rows j) (terminal j) (grid j)) x.is_plant y.is_plant i;
    }

same_plant : (bytes : List ℕ) (x y : Plant) → ReadsAsPlant bytes x → ReadsAsPlant bytes y → x ≡ y
same_plant bytes x y h k =
    let value : h.value ≡ k.value = (let e = h.json in let f = k.json in cc) in
    let stated : stated_by x ≡ stated_by y = (let e = h.checked in let f = k.checked in cc) in
    same_stated x y stated

no_fault : (bytes : List ℕ) (plant : Plant) (kind : PlantKind) (path : List ℕ) → ReadsAsPlant bytes plant → IsFirstFault bytes kind path → ⊥
no_fault bytes plant kind path r (inl h) = (let e = h.unread r.text in let f = r.json in cc)
no_fault bytes plant kind path r (inr h) =
    let value : r.value ≡ h.value = (let e = r.json in let f = h.json in cc) in
    let e = r.checked in
    let f = h.failed in
    cc

one_fault : (bytes : List ℕ) (kind other : PlantKind) (path long : List ℕ) → IsFirstFault bytes kind path → IsFirstFault bytes other long → faulty kind path ≡ faulty other long
one_fault bytes kind other path long (inl h) (inl k) = λ i. faulty ((h.kind_is ∙ sym k.kind_is) i) ((h.at_top ∙ sym k.at_top) i)
one_fault bytes kind other path long (inl h) (inr k) = absurd (let e = h.unread k.text in let f = k.json in cc)
one_fault bytes kind other path long (inr h) (inl k) = absurd (let e = k.unread h.text in let f = h.json in cc)
one_fault bytes kind other path long (inr h) (inr k) =
    let value : h.value ≡ k.value = (let e = h.json in let f = k.json in cc) in
    let pair : ◌≡◌ {A = PlantKind × List ℕ} (kind, path) (other, long) = (let e = h.failed in let f = k.failed in cc) in
    λ i. faulty (pair i).0 (pair i).1

pub one_reading : OneReading
one_reading bytes (stated x) (stated y) h k = ap stated (same_plant bytes x y h k)
one_reading bytes (stated x) (faulty kind path) h k = absurd (no_fault bytes x kind path h k)
one_reading bytes (faulty kind path) (stated y) h k = absurd (no_fault bytes y kind path k h)
one_reading bytes (faulty kind path) (faulty other long) h k = one_fault bytes kind other path long h k
