-- A plant's lines are read as the plant.
use Rattle.std.proofs.Common.{◌≡◌, ℕ, zero, suc, true, pos, ◌+◌, ◌*◌, ◌<◌, ◌≤◌, ◌^◌, List, [], ◌∷◌, ◌++◌, length, take, drop, map, refl, sym, ◌∙◌, ap, subst, append_assoc, length-append, arith}
use Rattle.std.specs.Prelude.{All, codes, decimal}
use Rattle.std.specs.List.{flat_map}
use Rattle.std.proofs.lemmas.List.Concat.{flat_map-append}
use Rattle.std.proofs.lemmas.List.Elements.{All-nil, All-cons, All-head, All-tail, All-append, All-take, All-drop}
use Rattle.std.proofs.Math.Seq.{take-append_seam, drop-append_seam}
use Rattle.mpc_exact.specs.Rational.{ℚ, int}
use Rattle.mpc_space.specs.Vector.{zeros}
use Rattle.mpc_space.specs.Matrix.{RationalMatrix}
use Rattle.mpc_frac.specs.Fits.{FitsFrac}
use Rattle.mpc_frac.specs.Text.{text_of as fraction_text}
use Rattle.mpc_linear.specs.Shape.{HasShape}
use Rattle.mpc_plant.specs.Limits.{IsFromTo, IsWeight, FitsRow, IsCoordinate, IsPlant, row_limit}
use Rattle.mpc_plant.specs.declared.plants.Plant.{Plant}
use Rattle.mpc_plant.specs.declared.lists.PlantRow.{PlantRow}
use Rattle.mpc_plant.specs.declared.lists.Coordinate.{Coordinate}
use Rattle.mpc_controller.specs.Parts.{row_count}
use Rattle.mpc_words.specs.Words.{IsWithout}
use Rattle.mpc_grammar.specs.Reading.{one_line, give, that_which, ◌>>=◌}
use Rattle.mpc_grammar.specs.Lines.{count_line, matrix_line, row_line, grid_line}
use Rattle.mpc_grammar.specs.PlantGrammar.{AllFit, AreSizes, plain_rule, IsMatrix, IsWeightLine, matrix, weight, dynamics, weights, IsGoal, AreZero, MayHave, offsets_with, offset_lines, offsets, IsRow, so_many, row_list, last_list, IsAxis, limits, IsPlantWith, plant, AreNumbers, IsNumber}
use Rattle.mpc_grammar.specs.Versions.{greatest_rows}
use Rattle.mpc_grammar.specs.LawGrammar.{unknowns}
use Rattle.mpc_grammar.specs.LineTheorems.{WordTheorems}
use Rattle.mpc_writing.specs.Writing.{Prints, ended, text_of_lines, size_line, drift_line, goal_line, row_lines, last_lines, plant_lines}
use Rattle.mpc_grammar.specs.Statable.{CanStatePlant}
use Rattle.mpc_grammar.specs.WrittenFits.{RowFits, AxisFits, MatricesFit, GoalFits, PlantFits}
use Rattle.mpc_grammar.specs.declared.versions.Version.{Version}
use Rattle.mpc_grammar.specs.declared.versions.Version.TheVariants.{One, Two, Three}
use Rattle.mpc_grammar.specs.declared.plant_parts.Sizes.{Sizes}
use Rattle.mpc_grammar.specs.declared.plant_parts.Dynamics.{Dynamics}
use Rattle.mpc_grammar.specs.declared.plant_parts.Offsets.{Offsets}
use Rattle.mpc_grammar.specs.declared.plant_parts.Weights.{Weights}
use Rattle.mpc_grammar.specs.declared.plant_parts.Limits.{Limits}
use Rattle.mpc_writing.proofs.PrintLemmas.{prints_plain, prints_give, prints_that, prints_both, prints_end, prints_as, prints_so_many}
use Rattle.mpc_writing.proofs.WithoutLemmas.{is_plain, line_without, count_without, count_line_without, fraction_without, fractions_line_without, matrix_line_without}

abbrev pub IsPlantOf : Plant → Type 0
IsPlantOf v = IsPlant v.n v.p v.horizon v.a v.b v.q v.r v.last v.drift v.xgoal v.ugoal v.rows v.terminal v.grid

abbrev sizes_of : Plant → Sizes
sizes_of v = record { states = v.n; inputs = v.p; steps = v.horizon }

abbrev dynamics_of : Plant → Dynamics
dynamics_of v = record { a = v.a; b = v.b }

abbrev weights_of : Plant → Weights
weights_of v = record { q = v.q; r = v.r; last = v.last }

abbrev offsets_of : Plant → Offsets
offsets_of v = record { drift = v.drift; xgoal = v.xgoal; ugoal = v.ugoal }

-- the lines of the offsets, which version 1 hasn't
abbrev pub offset_text : Version → Plant → List ℕ
offset_text One v = []
offset_text Two v = ended (drift_line v) ++ ended (goal_line v)
offset_text Three v = ended (drift_line v) ++ ended (goal_line v)

abbrev limits_in : Plant → Limits
limits_in v = record { rows = v.rows; terminal = v.terminal; axes = v.grid }

-- ---- sizes
-- offsets of so many zeros
zeros_only : (n : ℕ) (xs : List ℚ) → length xs ≡ n → AreZero xs → xs ≡ zeros n
zeros_only zero [] size all = refl
zeros_only zero (x ∷ xs) size all = absurd (omega arith)
zeros_only (suc n) [] size all = absurd (omega arith)
zeros_only (suc n) (x ∷ xs) size all = λ i. All-head (λ y. y ≡ int (pos 0)) x xs all i ∷ zeros_only n xs (omega arith) (All-tail (λ y. y ≡ int (pos 0)) x xs all) i

zero_offsets : (v : Plant) → IsPlantOf v → AreZero v.drift × AreZero (v.xgoal ++ v.ugoal) → offsets_of v ≡ (record { drift = zeros v.n; xgoal = zeros v.n; ugoal = zeros v.p })
zero_offsets v is none = λ i. record { drift = zeros_only v.n v.drift is.drift_size none.0 i; xgoal = zeros_only v.n v.xgoal is.xgoal_size (subst AreZero (take-append_seam v.xgoal v.ugoal) (All-take (λ x. x ≡ int (pos 0)) (length v.xgoal) (v.xgoal ++ v.ugoal) none.1)) i; ugoal = zeros_only v.p v.ugoal is.ugoal_size (subst AreZero (drop-append_seam v.xgoal v.ugoal) (All-drop (λ x. x ≡ int (pos 0)) (length v.xgoal) (v.xgoal ++ v.ugoal) none.1)) i }

below_64 : (low high n : ℕ) → IsFromTo low high n → high ≤ 6 → n < 2 ^ 64
below_64 low high n from small = let to = from.to_high in omega arith

-- ---- matrices
matrix_prints : (name : List ℕ) (rows columns : ℕ) (m : RationalMatrix) → IsWithout 10 (matrix_line name m) → HasShape m rows columns → All AllFit m.rows → Prints (matrix name rows columns) m (ended (matrix_line name m))
matrix_prints name rows columns m without shape fits = prints_plain (IsMatrix name rows columns) m (matrix_line name m) without (record { spelled = refl; shape = shape; fits = fits })

weight_prints : (name : List ℕ) (size : ℕ) (m : RationalMatrix) → IsWithout 10 (matrix_line name m) → IsWeight m size → All AllFit m.rows → Prints (weight name size) m (ended (matrix_line name m))
weight_prints name size m without is fits = prints_plain (IsWeightLine name size) m (matrix_line name m) without (record { matrix_is = record { spelled = refl; shape = is.shape; fits = fits }; symmetric = is.symmetric })

-- ---- rows
pub all_both : {X : Type 0} (P Q R : X → Type 0) → ((x : X) → P x → Q x → R x) → (xs : List X) → All P xs → All Q xs → All R xs
all_both P Q R both [] p q = All-nil R
all_both P Q R both (x ∷ xs) p q = All-cons R x xs (both x (All-head P x xs p) (All-head Q x xs q)) (all_both P Q R both xs (All-tail P x xs p) (All-tail Q x xs q))

-- items that are lines
pub each_ended : {X : Type 0} (f : X → List ℕ) (xs : List X) → text_of_lines (map f xs) ≡ flat_map (λ x. ended (f x)) xs
each_ended f [] = refl
each_ended f (x ∷ xs) = ap (λ t. ended (f x) ++ t) (each_ended f xs)

pub limit_small : (unknowns : ℕ) → row_limit unknowns ≤ 60
limit_small unknowns = grind arith

-- ---- the plant
regroup : (s a b q r p d g rest : List ℕ) → s ++ (a ++ (b ++ (q ++ (r ++ (p ++ (d ++ (g ++ rest))))))) ≡ s ++ ((a ++ b) ++ ((q ++ (r ++ p)) ++ ((d ++ g) ++ rest)))
regroup s a b q r p d g rest = simp append_assoc

three : (a b c : List (List ℕ)) → text_of_lines ((a ++ b) ++ c) ≡ text_of_lines a ++ (text_of_lines b ++ text_of_lines c)
three a b c = ap text_of_lines (append_assoc a b c) ∙ flat_map-append ended a (b ++ c) ∙ ap (λ t. text_of_lines a ++ t) (flat_map-append ended b c)

lines_joined : (v : Plant) → text_of_lines (plant_lines v)
    ≡ ended (size_line v) ++ ((ended (matrix_line (codes "A") v.a) ++ ended (matrix_line (codes "B") v.b)) ++ ((ended (matrix_line (codes "Q") v.q) ++ (ended (matrix_line (codes "R") v.r) ++ ended (matrix_line (codes "P") v.last)))
    ++ ((ended (drift_line v) ++ ended (goal_line v)) ++ (text_of_lines (row_lines v.rows) ++ (text_of_lines (last_lines v.terminal) ++ text_of_lines (map grid_line v.grid))))))
lines_joined v =
    ap (λ t. ended (size_line v) ++ (ended (matrix_line (codes "A") v.a) ++ (ended (matrix_line (codes "B") v.b) ++ (ended (matrix_line (codes "Q") v.q) ++ (ended (matrix_line (codes "R") v.r) ++ (ended (matrix_line (codes "P") v.last) ++ (ended (drift_line v) ++ (ended (goal_line v) ++ t))))))))
    (three (row_lines v.rows) (last_lines v.terminal) (map grid_line v.grid))
    ∙ regroup (ended (size_line v)) (ended (matrix_line (codes "A") v.a)) (ended (matrix_line (codes "B") v.b)) (ended (matrix_line (codes "Q") v.q)) (ended (matrix_line (codes "R") v.r)) (ended (matrix_line (codes "P") v.last)) (ended (drift_line v)) (ended (goal_line v))
    (text_of_lines (row_lines v.rows) ++ (text_of_lines (last_lines v.terminal) ++ text_of_lines (map grid_line v.grid)))

-- the lines of the plant
abbrev pub plant_text : Version → Plant → List ℕ
plant_text version v =
    ended (size_line v) ++ ((ended (matrix_line (codes "A") v.a) ++ ended (matrix_line (codes "B") v.b)) ++ ((ended (matrix_line (codes "Q") v.q) ++ (ended (matrix_line (codes "R") v.r) ++ ended (matrix_line (codes "P") v.last)))
    ++ (offset_text version v ++ (text_of_lines (row_lines v.rows) ++ (text_of_lines (last_lines v.terminal) ++ text_of_lines (map grid_line v.grid))))))

plant_with : (v : Plant) → IsPlantWith (sizes_of v) (dynamics_of v) (weights_of v) (offsets_of v) (limits_in v) v
plant_with v = record { n = refl; p = refl; horizon = refl; a = refl; b = refl; q = refl; r = refl; last = refl; drift = refl; xgoal = refl; ugoal = refl; rows = refl; terminal = refl; grid = refl }

module _ (words : WordTheorems) where
  size_without : (v : Plant) → IsPlantOf v → IsWithout 10 (size_line v)
  size_without v is =
      line_without (codes "size") (decimal v.n ∷ decimal v.p ∷ decimal v.horizon ∷ []) refl
      (All-cons (IsWithout 10) (decimal v.n) (decimal v.p ∷ decimal v.horizon ∷ []) (count_without words v.n (below_64 1 4 v.n is.states (omega arith)))
      (All-cons (IsWithout 10) (decimal v.p) (decimal v.horizon ∷ []) (count_without words v.p (below_64 1 3 v.p is.inputs (omega arith)))
      (All-cons (IsWithout 10) (decimal v.horizon) [] (count_without words v.horizon (below_64 1 6 v.horizon is.steps (omega arith))) (All-nil (IsWithout 10)))))

  size_prints : (v : Plant) → IsPlantOf v → Prints (one_line (plain_rule AreSizes)) (sizes_of v) (ended (size_line v))
  size_prints v is = prints_plain AreSizes (sizes_of v) (size_line v) (size_without v is) (record { spelled = refl; states = is.states; inputs = is.inputs; steps = is.steps; moves_few = is.moves_few })

  dynamics_prints : (v : Plant) → IsPlantOf v → MatricesFit v → Prints (dynamics (sizes_of v)) (dynamics_of v) (ended (matrix_line (codes "A") v.a) ++ ended (matrix_line (codes "B") v.b))
  dynamics_prints v is fits =
      prints_both (matrix (codes "A") v.n v.n) (λ a. matrix (codes "B") v.n v.p >>= λ b. give (record { a = a; b = b })) v.a (dynamics_of v) (ended (matrix_line (codes "A") v.a)) (ended (matrix_line (codes "B") v.b))
      (matrix_prints (codes "A") v.n v.n v.a (matrix_line_without words (codes "A") v.a refl fits.a) is.a_shape fits.a)
      (prints_end (matrix (codes "B") v.n v.p) (λ b. give (record { a = v.a; b = b })) v.b (dynamics_of v) (ended (matrix_line (codes "B") v.b))
      (matrix_prints (codes "B") v.n v.p v.b (matrix_line_without words (codes "B") v.b refl fits.b) is.b_shape fits.b)
      (prints_give (dynamics_of v)))

  weights_prints : (v : Plant) → IsPlantOf v → MatricesFit v → Prints (weights (sizes_of v)) (weights_of v) (ended (matrix_line (codes "Q") v.q) ++ (ended (matrix_line (codes "R") v.r) ++ ended (matrix_line (codes "P") v.last)))
  weights_prints v is fits =
      prints_both (weight (codes "Q") v.n) (λ q. weight (codes "R") v.p >>= λ r. weight (codes "P") v.n >>= λ last. give (record { q = q; r = r; last = last })) v.q (weights_of v)
      (ended (matrix_line (codes "Q") v.q)) (ended (matrix_line (codes "R") v.r) ++ ended (matrix_line (codes "P") v.last))
      (weight_prints (codes "Q") v.n v.q (matrix_line_without words (codes "Q") v.q refl fits.q) is.q_weight fits.q)
      (prints_both (weight (codes "R") v.p) (λ r. weight (codes "P") v.n >>= λ last. give (record { q = v.q; r = r; last = last })) v.r (weights_of v)
      (ended (matrix_line (codes "R") v.r)) (ended (matrix_line (codes "P") v.last))
      (weight_prints (codes "R") v.p v.r (matrix_line_without words (codes "R") v.r refl fits.r) is.r_weight fits.r)
      (prints_end (weight (codes "P") v.n) (λ last. give (record { q = v.q; r = v.r; last = last })) v.last (weights_of v) (ended (matrix_line (codes "P") v.last))
      (weight_prints (codes "P") v.n v.last (matrix_line_without words (codes "P") v.last refl fits.last) is.last_weight fits.last)
      (prints_give (weights_of v))))

  -- ---- drift and targets
  drift_prints : (v : Plant) → IsPlantOf v → AllFit v.drift → Prints (one_line (plain_rule (AreNumbers (codes "drift") v.n))) v.drift (ended (drift_line v))
  drift_prints v is fits = prints_plain (AreNumbers (codes "drift") v.n) v.drift (drift_line v) (fractions_line_without words (codes "drift") v.drift refl fits) (record { spelled = refl; size = is.drift_size; fits = fits })

  goal_prints : (version : Version) (v : Plant) → IsPlantOf v → GoalFits v → MayHave version v.drift (v.xgoal ++ v.ugoal) → Prints (one_line (plain_rule (IsGoal version (sizes_of v) v.drift))) (v.xgoal ++ v.ugoal) (ended (goal_line v))
  goal_prints version v is fits allowed =
      let both : AllFit (v.xgoal ++ v.ugoal) = All-append FitsFrac v.xgoal v.ugoal fits.xgoal fits.ugoal in
      prints_plain (IsGoal version (sizes_of v) v.drift) (v.xgoal ++ v.ugoal) (goal_line v) (fractions_line_without words (codes "goal") (v.xgoal ++ v.ugoal) refl both)
      (record { numbers_are = record { spelled = refl; size = length-append v.xgoal v.ugoal ∙ (λ i. is.xgoal_size i + is.ugoal_size i); fits = both }; allowed = allowed })

  its_offsets : (v : Plant) → IsPlantOf v → offsets_with (sizes_of v) v.drift (v.xgoal ++ v.ugoal) ≡ offsets_of v
  its_offsets v is =
      let front : take v.n (v.xgoal ++ v.ugoal) ≡ v.xgoal = (λ i. take (sym is.xgoal_size i) (v.xgoal ++ v.ugoal)) ∙ take-append_seam v.xgoal v.ugoal in
      let back : drop v.n (v.xgoal ++ v.ugoal) ≡ v.ugoal = (λ i. drop (sym is.xgoal_size i) (v.xgoal ++ v.ugoal)) ∙ drop-append_seam v.xgoal v.ugoal in
      λ i. record { drift = v.drift; xgoal = front i; ugoal = back i }

  offset_lines_print : (version : Version) (v : Plant) → IsPlantOf v → AllFit v.drift → GoalFits v → MayHave version v.drift (v.xgoal ++ v.ugoal) → Prints (offset_lines version (sizes_of v)) (offsets_of v) (ended (drift_line v) ++ ended (goal_line v))
  offset_lines_print version v is drift goal allowed =
      prints_both (one_line (plain_rule (AreNumbers (codes "drift") v.n))) (λ d. one_line (plain_rule (IsGoal version (sizes_of v) d)) >>= λ goal. give (offsets_with (sizes_of v) d goal)) v.drift (offsets_of v)
      (ended (drift_line v)) (ended (goal_line v)) (drift_prints v is drift)
      (prints_end (one_line (plain_rule (IsGoal version (sizes_of v) v.drift))) (λ goal. give (offsets_with (sizes_of v) v.drift goal)) (v.xgoal ++ v.ugoal) (offsets_of v) (ended (goal_line v)) (goal_prints version v is goal allowed)
      (subst (λ o. Prints (give o) (offsets_of v) []) (sym (its_offsets v is)) (prints_give (offsets_of v))))

  offsets_print : (version : Version) (v : Plant) → IsPlantOf v → AllFit v.drift → GoalFits v → MayHave version v.drift (v.xgoal ++ v.ugoal) → Prints (offsets version (sizes_of v)) (offsets_of v) (offset_text version v)
  offsets_print One v is drift goal none = subst (λ o. Prints (give (record { drift = zeros v.n; xgoal = zeros v.n; ugoal = zeros v.p })) o []) (sym (zero_offsets v is none)) (prints_give (record { drift = zeros v.n; xgoal = zeros v.n; ugoal = zeros v.p }))
  offsets_print Two v is drift goal allowed = offset_lines_print Two v is drift goal allowed
  offsets_print Three v is drift goal allowed = offset_lines_print Three v is drift goal allowed

  row_prints : (name : List ℕ) → is_plain name ≡ true → (states inputs : ℕ) (row : PlantRow) → FitsRow states inputs row → RowFits row → Prints (one_line (plain_rule (IsRow name states inputs))) row (ended (row_line name row))
  row_prints name without states inputs row sizes fits =
      prints_plain (IsRow name states inputs) row (row_line name row) (fractions_line_without words name (row.x ++ row.u ++ row.max ∷ []) without fits) (record { spelled = refl; sizes = sizes; fits = fits })

  axis_without : (axis : Coordinate) → IsCoordinate axis → AxisFits axis → IsWithout 10 (grid_line axis)
  axis_without axis is fits =
      line_without (codes "grid") (fraction_text axis.low ∷ fraction_text axis.step ∷ decimal axis.count ∷ []) refl
      (All-cons (IsWithout 10) (fraction_text axis.low) (fraction_text axis.step ∷ decimal axis.count ∷ []) (fraction_without words axis.low (All-head FitsFrac axis.low (axis.step ∷ []) fits))
      (All-cons (IsWithout 10) (fraction_text axis.step) (decimal axis.count ∷ []) (fraction_without words axis.step (All-head FitsFrac axis.step [] (All-tail FitsFrac axis.low (axis.step ∷ []) fits)))
      (All-cons (IsWithout 10) (decimal axis.count) [] (count_without words axis.count (let small = is.count_small in omega arith)) (All-nil (IsWithout 10)))))

  axis_prints : (axis : Coordinate) → IsCoordinate axis → AxisFits axis → Prints (one_line (plain_rule IsAxis)) axis (ended (grid_line axis))
  axis_prints axis is fits = prints_plain IsAxis axis (grid_line axis) (axis_without axis is fits) (record { spelled = refl; allowed = is; fits = fits })

  rows_print : (version : Version) (v : Plant) → IsPlantOf v → row_count v ≤ greatest_rows version (unknowns v) → All RowFits v.rows → Prints (row_list version (sizes_of v)) v.rows (text_of_lines (row_lines v.rows))
  rows_print version v is few fits =
      prints_both (one_line (plain_rule (IsNumber (codes "rows") (λ number. v.horizon * number + 0 ≤ (greatest_rows version (v.p * v.horizon)))))) (λ count. so_many count (plain_rule (IsRow (codes "row") v.n v.p))) (length v.rows) v.rows
      (ended (count_line (codes "rows") (length v.rows))) (text_of_lines (map (row_line (codes "row")) v.rows))
      (prints_plain (IsNumber (codes "rows") (λ number. v.horizon * number + 0 ≤ (greatest_rows version (v.p * v.horizon)))) (length v.rows) (count_line (codes "rows") (length v.rows)) (count_line_without words (codes "rows") (length v.rows) refl (rows_small v is))
      (record { spelled = refl; allowed = omega arith }))
      (prints_as (so_many (length v.rows) (plain_rule (IsRow (codes "row") v.n v.p))) v.rows (flat_map (λ row. ended (row_line (codes "row") row)) v.rows) (text_of_lines (map (row_line (codes "row")) v.rows)) (each_ended (row_line (codes "row")) v.rows)
      (prints_so_many (plain_rule (IsRow (codes "row") v.n v.p)) (length v.rows) (λ row. ended (row_line (codes "row") row)) v.rows refl
      (all_both (FitsRow v.n v.p) RowFits (λ row. Prints (one_line (plain_rule (IsRow (codes "row") v.n v.p))) row (ended (row_line (codes "row") row))) (row_prints (codes "row") refl v.n v.p) v.rows is.rows_fit fits)))
    where
      rows_small : (v : Plant) → IsPlantOf v → length v.rows < 2 ^ 64
      rows_small v is = small (length v.rows) v.horizon (length v.terminal) (row_limit (v.p * v.horizon)) is.steps is.rows_few (limit_small (v.p * v.horizon))
        where
          small : (rows steps others most : ℕ) → IsFromTo 1 6 steps → steps * rows + others ≤ most → most ≤ 60 → rows < 2 ^ 64
          small rows steps others most from few limit = let low = from.from_low in let more = one_each rows steps low in omega arith
            where
              one_each : (rows steps : ℕ) → 1 ≤ steps → rows ≤ steps * rows
              one_each rows steps low = grind arith

  terminal_prints : (version : Version) (v : Plant) → IsPlantOf v → row_count v ≤ greatest_rows version (unknowns v) → All RowFits v.terminal → Prints (last_list version (sizes_of v) v.rows) v.terminal (text_of_lines (last_lines v.terminal))
  terminal_prints version v is few fits =
      prints_both (one_line (plain_rule (IsNumber (codes "terminal") (λ number. 1 * number + (v.horizon * length v.rows) ≤ (greatest_rows version (v.p * v.horizon)))))) (λ count. so_many count (plain_rule (IsRow (codes "last") v.n 0))) (length v.terminal) v.terminal
      (ended (count_line (codes "terminal") (length v.terminal))) (text_of_lines (map (row_line (codes "last")) v.terminal))
      (prints_plain (IsNumber (codes "terminal") (λ number. 1 * number + (v.horizon * length v.rows) ≤ (greatest_rows version (v.p * v.horizon)))) (length v.terminal) (count_line (codes "terminal") (length v.terminal))
      (count_line_without words (codes "terminal") (length v.terminal) refl (let most = is.rows_few in let limit = limit_small (v.p * v.horizon) in omega arith))
      (record { spelled = refl; allowed = omega arith }))
      (prints_as (so_many (length v.terminal) (plain_rule (IsRow (codes "last") v.n 0))) v.terminal (flat_map (λ row. ended (row_line (codes "last") row)) v.terminal) (text_of_lines (map (row_line (codes "last")) v.terminal)) (each_ended (row_line (codes "last")) v.terminal)
      (prints_so_many (plain_rule (IsRow (codes "last") v.n 0)) (length v.terminal) (λ row. ended (row_line (codes "last") row)) v.terminal refl
      (all_both (FitsRow v.n 0) RowFits (λ row. Prints (one_line (plain_rule (IsRow (codes "last") v.n 0))) row (ended (row_line (codes "last") row))) (row_prints (codes "last") refl v.n 0) v.terminal is.terminal_fits fits)))

  grid_prints : (v : Plant) → IsPlantOf v → All AxisFits v.grid → Prints (so_many v.n (plain_rule IsAxis)) v.grid (text_of_lines (map grid_line v.grid))
  grid_prints v is fits =
      prints_as (so_many v.n (plain_rule IsAxis)) v.grid (flat_map (λ axis. ended (grid_line axis)) v.grid) (text_of_lines (map grid_line v.grid)) (each_ended grid_line v.grid)
      (prints_so_many (plain_rule IsAxis) v.n (λ axis. ended (grid_line axis)) v.grid (sym is.grid_size)
      (all_both IsCoordinate AxisFits (λ axis. Prints (one_line (plain_rule IsAxis)) axis (ended (grid_line axis))) axis_prints v.grid is.grid_ok fits))

  limits_print : (version : Version) (v : Plant) → IsPlantOf v → CanStatePlant version v → Prints (limits version (sizes_of v)) (limits_in v) (text_of_lines (row_lines v.rows) ++ (text_of_lines (last_lines v.terminal) ++ text_of_lines (map grid_line v.grid)))
  limits_print version v is can =
      prints_both (row_list version (sizes_of v)) (λ rows. last_list version (sizes_of v) rows >>= λ terminal. so_many v.n (plain_rule IsAxis) >>= λ axes. give (record { rows = rows; terminal = terminal; axes = axes })) v.rows (limits_in v)
      (text_of_lines (row_lines v.rows)) (text_of_lines (last_lines v.terminal) ++ text_of_lines (map grid_line v.grid)) (rows_print version v is can.rows_few can.fits.rows)
      (prints_both (last_list version (sizes_of v) v.rows) (λ terminal. so_many v.n (plain_rule IsAxis) >>= λ axes. give (record { rows = v.rows; terminal = terminal; axes = axes })) v.terminal (limits_in v)
      (text_of_lines (last_lines v.terminal)) (text_of_lines (map grid_line v.grid)) (terminal_prints version v is can.rows_few can.fits.terminal)
      (prints_end (so_many v.n (plain_rule IsAxis)) (λ axes. give (record { rows = v.rows; terminal = v.terminal; axes = axes })) v.grid (limits_in v) (text_of_lines (map grid_line v.grid)) (grid_prints v is can.fits.grid) (prints_give (limits_in v))))

  pub plant_prints : (version : Version) (v : Plant) → CanStatePlant version v → Prints (plant version) v (plant_text version v)
  plant_prints version v can =
      let is : IsPlantOf v = v.is_plant in
      prints_both (one_line (plain_rule AreSizes)) (λ s. dynamics s >>= λ d. weights s >>= λ w. offsets version s >>= λ o. limits version s >>= λ l. that_which (IsPlantWith s d w o l)) (sizes_of v) v (ended (size_line v)) _ (size_prints v is)
      (prints_both (dynamics (sizes_of v)) (λ d. weights (sizes_of v) >>= λ w. offsets version (sizes_of v) >>= λ o. limits version (sizes_of v) >>= λ l. that_which (IsPlantWith (sizes_of v) d w o l)) (dynamics_of v) v _ _ (dynamics_prints v is can.fits.matrices)
      (prints_both (weights (sizes_of v)) (λ w. offsets version (sizes_of v) >>= λ o. limits version (sizes_of v) >>= λ l. that_which (IsPlantWith (sizes_of v) (dynamics_of v) w o l)) (weights_of v) v _ _ (weights_prints v is can.fits.matrices)
      (prints_both (offsets version (sizes_of v)) (λ o. limits version (sizes_of v) >>= λ l. that_which (IsPlantWith (sizes_of v) (dynamics_of v) (weights_of v) o l)) (offsets_of v) v _ _ (offsets_print version v is can.fits.drift can.fits.goal can.offsets)
      (prints_end (limits version (sizes_of v)) (λ l. that_which (IsPlantWith (sizes_of v) (dynamics_of v) (weights_of v) (offsets_of v) l)) (limits_in v) v _ (limits_print version v is can)
      (prints_that (IsPlantWith (sizes_of v) (dynamics_of v) (weights_of v) (offsets_of v) (limits_in v)) v (plant_with v))))))

  -- in version 3 they are the lines that are written
  pub lines_print : (v : Plant) → PlantFits v → Prints (plant Three) v (text_of_lines (plant_lines v))
  lines_print v fits = prints_as (plant Three) v (plant_text Three v) (text_of_lines (plant_lines v)) (lines_joined v) (plant_prints Three v (record { fits = fits; rows_few = v.is_plant.rows_few; offsets = tt }))
