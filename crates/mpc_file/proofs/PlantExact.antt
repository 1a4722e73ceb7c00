-- The lines of a plant are read in one way.
use Rattle.std.proofs.Common.{◌≡◌, ℕ, zero, suc, ◌+◌, ◌*◌, ◌≤◌, Bool, true, false, nat_lt, cond, List, [], ◌∷◌, ◌++◌, length, codes, decimal, refl, sym, subst, ◌∙◌, arith, All, suc-mul, flat_map, length-append}
use mathlib.Core.HLevel.{is_prop→PathP}
use Rattle.std.proofs.Props.{props}
use Rattle.std.proofs.lemmas.List.Elements.{All-from_recursion}
use Rattle.mpc_exact.specs.Rational.{ℚ}
use Rattle.mpc_space.specs.Vector.{zeros}
use Rattle.mpc_space.specs.Matrix.{RationalMatrix}
use Rattle.mpc_frac.specs.Text.{text_of}
use Rattle.mpc_plant.specs.Limits.{IsPlant}
use Rattle.mpc_plant.specs.declared.plants.Plant.{Plant}
use Rattle.mpc_plant.specs.declared.lists.PlantRow.{PlantRow}
use Rattle.mpc_plant.specs.declared.lists.Coordinate.{Coordinate}
use Rattle.mpc_words.specs.Words.{IsWithout}
use Rattle.mpc_grammar.specs.Reading.{Cursor, LineRule, one_line}
use Rattle.mpc_grammar.specs.Versions.{greatest_rows}
use Rattle.mpc_grammar.specs.declared.versions.Version.{Version}
use Rattle.mpc_grammar.specs.declared.versions.Version.TheVariants.{One, Two, Three}
use Rattle.mpc_grammar.specs.declared.plant_parts.Sizes.{Sizes}
use Rattle.mpc_grammar.specs.declared.plant_parts.Dynamics.{Dynamics}
use Rattle.mpc_grammar.specs.declared.plant_parts.Weights.{Weights}
use Rattle.mpc_grammar.specs.declared.plant_parts.Offsets.{Offsets}
use Rattle.mpc_grammar.specs.declared.plant_parts.Limits.{Limits}
use Rattle.mpc_grammar.specs.PlantGrammar.{AllFit, AreSizes, plain_rule, IsMatrix, IsWeightLine, matrix, weight, dynamics, weights, IsGoal, offsets_with, offset_lines, offsets, IsRow, so_many, row_list, last_list, IsAxis, limits, IsPlantWith, plant, AreNumbers, IsNumber}
use Rattle.mpc_file.proofs.Exactness.{IsExactAt, IsExactRule, CutTheorems, exact_line, exact_give, exact_that, exact_both, exact_many}
use Rattle.mpc_grammar.specs.LineTheorems.{WordTheorems}
use Rattle.mpc_grammar.specs.Fractions.{entries_fit}
use Rattle.mpc_file.proofs.LineNumbers.{IsShortNumber, without, same_front, same_back, same_rows, one_words, one_decimal, decimal_word, one_naturals, one_count, one_fractions}

-- ---- the plant of given parts
is_plant-prop : (n p horizon : ℕ) (a b q r last : RationalMatrix) (drift xgoal ugoal : List ℚ) (rows terminal : List PlantRow) (grid : List Coordinate) → IsProp (IsPlant n p horizon a b q r last drift xgoal ugoal rows terminal grid)
is_plant-prop n p horizon a b q r last drift xgoal ugoal rows terminal grid = hlevel props

module _ (s : Sizes) (d : Dynamics) (w : Weights) (o : Offsets) (l : Limits) where
  one_plant : (x y : Plant) → IsPlantWith s d w o l x → IsPlantWith s d w o l y → x ≡ y
  one_plant x y h k =
      let n : x.n ≡ y.n = h.n ∙ sym k.n in
      let p : x.p ≡ y.p = h.p ∙ sym k.p in
      let horizon : x.horizon ≡ y.horizon = h.horizon ∙ sym k.horizon in
      let a : x.a ≡ y.a = h.a ∙ sym k.a in
      let b : x.b ≡ y.b = h.b ∙ sym k.b in
      let q : x.q ≡ y.q = h.q ∙ sym k.q in
      let r : x.r ≡ y.r = h.r ∙ sym k.r in
      let last : x.last ≡ y.last = h.last ∙ sym k.last in
      let drift : x.drift ≡ y.drift = h.drift ∙ sym k.drift in
      let xgoal : x.xgoal ≡ y.xgoal = h.xgoal ∙ sym k.xgoal in
      let ugoal : x.ugoal ≡ y.ugoal = h.ugoal ∙ sym k.ugoal in
      let rows : x.rows ≡ y.rows = h.rows ∙ sym k.rows in
      let terminal : x.terminal ≡ y.terminal = h.terminal ∙ sym k.terminal in
      let grid : x.grid ≡ y.grid = h.grid ∙ sym k.grid in
      λ i. record {
        n = n i;
        p = p i;
        horizon = horizon i;
        a = a i;
        b = b i;
        q = q i;
        r = r i;
        last = last i;
        drift = drift i;
        xgoal = xgoal i;
        ugoal = ugoal i;
        rows = rows i;
        terminal = terminal i;
        grid = grid i;
        is_plant = is_prop→PathP (λ j. IsPlant (n j) (p j) (horizon j) (a j) (b j) (q j) (r j) (last j) (drift j) (xgoal j) (ugoal j) (rows j) (terminal j) (grid j))
            (λ j. is_plant-prop (n j) (p j) (horizon j) (a j) (b j) (q j) (r j) (last j) (drift j) (xgoal j) (ugoal j) (rows j) (terminal j) (grid j)) x.is_plant y.is_plant i;
      }

-- ---- small numbers
few_items : (each count others most : ℕ) → 1 ≤ each → each * count + others ≤ most → count ≤ most
few_items zero count others most h k = absurd (omega arith)
few_items (suc each) count others most h k = omega (arith, suc-mul each count)

either_limit : (b : Bool) → cond b 60 40 ≤ 60
either_limit true = omega arith
either_limit false = omega arith

pub few_rows : (version : Version) (unknowns : ℕ) → greatest_rows version unknowns ≤ 60
few_rows One unknowns = omega arith
few_rows Two unknowns = omega arith
few_rows Three unknowns = either_limit _

module _ (cuts : CutTheorems) (laws : WordTheorems) where
  pub exact_plain : {X : Type 0} (states : List ℕ → X → Type 0) → ((line : List ℕ) (x y : X) → states line x → states line y → x ≡ y) → (here : Cursor) → IsExactAt (one_line (plain_rule states)) here
  exact_plain states one here = exact_line cuts (plain_rule states) (record { one = one; no_bad_node = λ line x h k. k }) here

  pub exact_so_many : {X : Type 0} (count : ℕ) (rule : LineRule X) → IsExactRule rule → (here : Cursor) → IsExactAt (so_many count rule) here
  exact_so_many {X} count rule exact here =
      exact_many (λ items. one_line rule) (λ (items : List X). nat_lt (length items) count) here (λ items between reads more. exact_line cuts rule exact between)

  -- ---- the sizes
  sizes_short : (line : List ℕ) (s : Sizes) → AreSizes line s → All IsShortNumber (s.states ∷ s.inputs ∷ s.steps ∷ [])
  sizes_short line s h =
      All-from_recursion IsShortNumber (s.states ∷ s.inputs ∷ s.steps ∷ []) (omega (arith, h.states.to_high), (omega (arith, h.inputs.to_high), (omega (arith, h.steps.to_high), tt)))

  one_sizes : (line : List ℕ) (s t : Sizes) → AreSizes line s → AreSizes line t → s ≡ t
  one_sizes line s t h k =
      let same : ◌≡◌ {A = List ℕ} (s.states ∷ s.inputs ∷ s.steps ∷ []) (t.states ∷ t.inputs ∷ t.steps ∷ []) =
      one_naturals laws (codes "size") (s.states ∷ s.inputs ∷ s.steps ∷ []) (t.states ∷ t.inputs ∷ t.steps ∷ []) (without 32 (codes "size") refl) (sizes_short line s h) (sizes_short line t k) (sym h.spelled ∙ k.spelled) in
      let a : s.states ≡ t.states = cc in
      let b : s.inputs ≡ t.inputs = cc in
      let c : s.steps ≡ t.steps = cc in
      λ i. record { states = a i; inputs = b i; steps = c i }

  exact_sizes : (here : Cursor) → IsExactAt (one_line (plain_rule AreSizes)) here
  exact_sizes here = exact_plain AreSizes one_sizes here

  -- ---- the matrices
  same_matrix : (name : List ℕ) → IsWithout 32 name → (rows columns : ℕ) (line : List ℕ) (m w : RationalMatrix) → IsMatrix name rows columns line m → IsMatrix name rows columns line w → m ≡ w
  same_matrix name plain rows columns line m w h k =
      let flat : flat_map (λ (row : List ℚ). row) m.rows ≡ flat_map (λ row. row) w.rows =
      one_fractions laws name (flat_map (λ row. row) m.rows) (flat_map (λ row. row) w.rows) plain (entries_fit m.rows h.fits) (entries_fit w.rows k.fits) (sym h.spelled ∙ k.spelled) in
      let width : m.columns ≡ w.columns = h.shape.columns_are ∙ sym k.shape.columns_are in
      let same : m.rows ≡ w.rows =
      same_rows m.columns m.rows w.rows (h.shape.rows_are ∙ sym k.shape.rows_are) h.shape.rectangular (subst (λ c. All (λ (row : List ℚ). length row ≡ c) w.rows) (sym width) k.shape.rectangular) flat in
      λ i. record { rows = same i; columns = width i }

  same_weight : (name : List ℕ) → IsWithout 32 name → (size : ℕ) (line : List ℕ) (m w : RationalMatrix) → IsWeightLine name size line m → IsWeightLine name size line w → m ≡ w
  same_weight name plain size line m w h k =
      same_matrix name plain size size line m w h.matrix_is k.matrix_is

  exact_matrix : (name : List ℕ) → IsWithout 32 name → (rows columns : ℕ) (here : Cursor) → IsExactAt (matrix name rows columns) here
  exact_matrix name plain rows columns here = exact_plain (IsMatrix name rows columns) (same_matrix name plain rows columns) here

  exact_weight : (name : List ℕ) → IsWithout 32 name → (size : ℕ) (here : Cursor) → IsExactAt (weight name size) here
  exact_weight name plain size here = exact_plain (IsWeightLine name size) (same_weight name plain size) here

  exact_dynamics : (s : Sizes) (here : Cursor) → IsExactAt (dynamics s) here
  exact_dynamics s here =
      exact_both _ _ here (exact_matrix (codes "A") (without 32 (codes "A") refl) s.states s.states here)
      (λ a at r. exact_both _ _ at (exact_matrix (codes "B") (without 32 (codes "B") refl) s.states s.inputs at)
      (λ b to q. exact_give (record { a = a; b = b }) to))

  exact_weights : (s : Sizes) (here : Cursor) → IsExactAt (weights s) here
  exact_weights s here =
      exact_both _ _ here (exact_weight (codes "Q") (without 32 (codes "Q") refl) s.states here)
      (λ q at h. exact_both _ _ at (exact_weight (codes "R") (without 32 (codes "R") refl) s.inputs at)
      (λ r to k. exact_both _ _ to (exact_weight (codes "P") (without 32 (codes "P") refl) s.states to)
      (λ last end l. exact_give (record { q = q; r = r; last = last }) end)))

  -- ---- the offsets
  one_drift : (n : ℕ) (line : List ℕ) (x y : List ℚ) → AreNumbers (codes "drift") n line x → AreNumbers (codes "drift") n line y → x ≡ y
  one_drift n line x y h k = one_fractions laws (codes "drift") x y (without 32 (codes "drift") refl) h.fits k.fits (sym h.spelled ∙ k.spelled)

  one_goal : (version : Version) (s : Sizes) (drift : List ℚ) (line : List ℕ) (x y : List ℚ) → IsGoal version s drift line x → IsGoal version s drift line y → x ≡ y
  one_goal version s drift line x y h k =
      one_fractions laws (codes "goal") x y (without 32 (codes "goal") refl) h.numbers_are.fits k.numbers_are.fits (sym h.numbers_are.spelled ∙ k.numbers_are.spelled)

  exact_offset_lines : (version : Version) (s : Sizes) (here : Cursor) → IsExactAt (offset_lines version s) here
  exact_offset_lines version s here =
      exact_both _ _ here (exact_plain (AreNumbers (codes "drift") s.states) (one_drift s.states) here)
      (λ drift at h. exact_both _ _ at (exact_plain (IsGoal version s drift) (one_goal version s drift) at)
      (λ goal to k. exact_give (offsets_with s drift goal) to))

  exact_offsets : (version : Version) (s : Sizes) (here : Cursor) → IsExactAt (offsets version s) here
  exact_offsets One s here = exact_give (record { drift = zeros s.states; xgoal = zeros s.states; ugoal = zeros s.inputs }) here
  exact_offsets Two s here = exact_offset_lines Two s here
  exact_offsets Three s here = exact_offset_lines Three s here

  -- ---- the rows
  one_row_count : (name : List ℕ) → IsWithout 32 name → (each others most : ℕ) → 1 ≤ each → most ≤ 60 → (line : List ℕ) (m n : ℕ) → IsNumber name (λ number. each * number + others ≤ most) line m → IsNumber name (λ number. each * number + others ≤ most) line n → m ≡ n
  one_row_count name plain each others most some few line m n h k =
      let low : m ≤ most = few_items each m others most some h.allowed in
      let high : n ≤ most = few_items each n others most some k.allowed in
      one_count laws name m n plain (omega arith) (omega arith) (sym h.spelled ∙ k.spelled)

  one_row : (name : List ℕ) → IsWithout 32 name → (states inputs : ℕ) (line : List ℕ) (x y : PlantRow) → IsRow name states inputs line x → IsRow name states inputs line y → x ≡ y
  one_row name plain states inputs line x y h k =
      let all : x.x ++ x.u ++ x.max ∷ [] ≡ y.x ++ y.u ++ y.max ∷ [] =
      one_fractions laws name (x.x ++ x.u ++ x.max ∷ []) (y.x ++ y.u ++ y.max ∷ []) plain h.fits k.fits (sym h.spelled ∙ k.spelled) in
      let x_size : length x.x ≡ length y.x = h.sizes.x_size ∙ sym k.sizes.x_size in
      let u_size : length x.u ≡ length y.u = h.sizes.u_size ∙ sym k.sizes.u_size in
      let both_size : length (x.x ++ x.u) ≡ length (y.x ++ y.u) = length-append x.x x.u ∙ (λ i. x_size i + u_size i) ∙ sym (length-append y.x y.u) in
      let both : x.x ++ x.u ≡ y.x ++ y.u = same_front (x.x ++ x.u) (x.max ∷ []) (y.x ++ y.u) (y.max ∷ []) both_size all in
      let a : x.x ≡ y.x = same_front x.x x.u y.x y.u x_size both in
      let b : x.u ≡ y.u = same_back x.x x.u y.x y.u x_size both in
      let last : ◌≡◌ {A = List ℚ} (x.max ∷ []) (y.max ∷ []) = same_back (x.x ++ x.u) (x.max ∷ []) (y.x ++ y.u) (y.max ∷ []) both_size all in
      let c : x.max ≡ y.max = cc in
      λ i. record { x = a i; u = b i; max = c i }

  exact_row_list : (version : Version) (s : Sizes) → 1 ≤ s.steps → (here : Cursor) → IsExactAt (row_list version s) here
  exact_row_list version s some here =
      let most : ℕ = greatest_rows version (s.inputs * s.steps) in
      exact_both _ _ here
      (exact_plain (IsNumber (codes "rows") (λ number. s.steps * number + 0 ≤ most)) (one_row_count (codes "rows") (without 32 (codes "rows") refl) s.steps 0 most some (few_rows version (s.inputs * s.steps))) here)
      (λ count at h. exact_so_many count (plain_rule (IsRow (codes "row") s.states s.inputs)) (record { one = one_row (codes "row") (without 32 (codes "row") refl) s.states s.inputs; no_bad_node = λ line x k l. l }) at)

  exact_last_list : (version : Version) (s : Sizes) (rows : List PlantRow) (here : Cursor) → IsExactAt (last_list version s rows) here
  exact_last_list version s rows here =
      let most : ℕ = greatest_rows version (s.inputs * s.steps) in
      exact_both _ _ here
      (exact_plain (IsNumber (codes "terminal") (λ number. 1 * number + (s.steps * length rows) ≤ most))
      (one_row_count (codes "terminal") (without 32 (codes "terminal") refl) 1 (s.steps * length rows) most (omega arith) (few_rows version (s.inputs * s.steps))) here)
      (λ count at h. exact_so_many count (plain_rule (IsRow (codes "last") s.states 0)) (record { one = one_row (codes "last") (without 32 (codes "last") refl) s.states 0; no_bad_node = λ line x k l. l }) at)

  -- ---- the grid
  axis_words : (x : Coordinate) → AllFit (x.low ∷ x.step ∷ []) → IsShortNumber x.count → All (IsWithout 32) (text_of x.low ∷ text_of x.step ∷ decimal x.count ∷ [])
  axis_words x fits short =
      All-from_recursion (IsWithout 32) (text_of x.low ∷ text_of x.step ∷ decimal x.count ∷ [])
      ((laws.fraction_word x.low (fits 0 x.low (omega arith))).no_blank, ((laws.fraction_word x.step (fits 1 x.low (omega arith))).no_blank, ((decimal_word laws x.count short).no_blank, tt)))

  one_axis : (line : List ℕ) (x y : Coordinate) → IsAxis line x → IsAxis line y → x ≡ y
  one_axis line x y h k =
      let short : IsShortNumber x.count = omega (arith, h.allowed.count_small) in
      let small : IsShortNumber y.count = omega (arith, k.allowed.count_small) in
      let same : ◌≡◌ {A = List (List ℕ)} (text_of x.low ∷ text_of x.step ∷ decimal x.count ∷ []) (text_of y.low ∷ text_of y.step ∷ decimal y.count ∷ []) =
      one_words laws (codes "grid") (text_of x.low ∷ text_of x.step ∷ decimal x.count ∷ []) (text_of y.low ∷ text_of y.step ∷ decimal y.count ∷ []) (without 32 (codes "grid") refl)
      (axis_words x h.fits short) (axis_words y k.fits small) (sym h.spelled ∙ k.spelled) in
      let low_text : text_of x.low ≡ text_of y.low = cc in
      let step_text : text_of x.step ≡ text_of y.step = cc in
      let count_text : decimal x.count ≡ decimal y.count = cc in
      let a : x.low ≡ y.low = laws.one_fraction x.low y.low (h.fits 0 x.low (omega arith)) (k.fits 0 y.low (omega arith)) low_text in
      let b : x.step ≡ y.step = laws.one_fraction x.step y.step (h.fits 1 x.low (omega arith)) (k.fits 1 y.low (omega arith)) step_text in
      let c : x.count ≡ y.count = one_decimal laws x.count y.count short small count_text in
      λ i. record { low = a i; step = b i; count = c i }

  exact_grid : (s : Sizes) (here : Cursor) → IsExactAt (so_many s.states (plain_rule IsAxis)) here
  exact_grid s here = exact_so_many s.states (plain_rule IsAxis) (record { one = one_axis; no_bad_node = λ line x h k. k }) here

  -- ---- the plant
  exact_limits : (version : Version) (s : Sizes) → 1 ≤ s.steps → (here : Cursor) → IsExactAt (limits version s) here
  exact_limits version s some here =
      exact_both _ _ here (exact_row_list version s some here)
      (λ rows at h. exact_both _ _ at (exact_last_list version s rows at)
      (λ terminal to k. exact_both _ _ to (exact_grid s to)
      (λ axes end l. exact_give (record { rows = rows; terminal = terminal; axes = axes }) end)))

  pub exact_plant : (version : Version) (here : Cursor) → IsExactAt (plant version) here
  exact_plant version here =
      exact_both _ _ here (exact_sizes here)
      (λ s behind_sizes h. exact_both _ _ behind_sizes (exact_dynamics s behind_sizes)
      (λ d behind_dynamics k. exact_both _ _ behind_dynamics (exact_weights s behind_dynamics)
      (λ w behind_weights l. exact_both _ _ behind_weights (exact_offsets version s behind_weights)
      (λ o behind_offsets m. exact_both _ _ behind_offsets (exact_limits version s h.1.1.0.steps.from_low behind_offsets)
      (λ l end n. exact_that (IsPlantWith s d w o l) end (one_plant s d w o l))))))
