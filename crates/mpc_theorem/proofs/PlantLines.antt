-- The lines of a plant.
use Rattle.std.proofs.Common.{◌+◌, ◌≤◌, ◌≡◌, ℕ, ◌*◌, List, [], ◌∷◌, ◌++◌, map, length, take, drop, take-append-drop, sym, ap, subst, codes, decimal, refl, ◌∙◌}
use Rattle.mpc_exact.specs.Rational.{ℚ}
use Rattle.mpc_space.specs.Matrix.{RationalMatrix}
use Rattle.mpc_plant.specs.declared.plants.Plant.{Plant}
use Rattle.mpc_plant.specs.declared.lists.PlantRow.{PlantRow}
use Rattle.mpc_plant.specs.declared.lists.Coordinate.{Coordinate}
use Rattle.mpc_words.specs.Words.{line}
use Rattle.mpc_grammar.specs.declared.versions.Version.{Version}
use Rattle.mpc_grammar.specs.declared.versions.Version.TheVariants.{One, Two, Three}
use Rattle.mpc_grammar.specs.declared.plant_parts.Sizes.{Sizes}
use Rattle.mpc_grammar.specs.declared.plant_parts.Dynamics.{Dynamics}
use Rattle.mpc_grammar.specs.declared.plant_parts.Weights.{Weights}
use Rattle.mpc_grammar.specs.declared.plant_parts.Offsets.{Offsets}
use Rattle.mpc_grammar.specs.declared.plant_parts.Limits.{Limits}
use Rattle.mpc_grammar.specs.Reading.{Cursor, one_line}
use Rattle.mpc_grammar.specs.Versions.{greatest_rows}
use Rattle.mpc_grammar.specs.Lines.{count_line, fractions_line, matrix_line, row_line, grid_line}
use Rattle.mpc_grammar.specs.PlantGrammar.{plain_rule, AreSizes, IsMatrix, IsWeightLine, dynamics, weights, IsGoal, offset_lines, offsets, IsRow, IsAxis, row_list, last_list, limits, plant, AreNumbers, IsNumber}
use Rattle.mpc_writing.specs.Writing.{row_lines, last_lines}
use Rattle.mpc_theorem.specs.ControllerFile.{plant_lines}
use Rattle.mpc_theorem.proofs.Walks.{HasLines, lines_none, lines_plain, lines_then, lines_are, lines_so_many, so_many_items}

-- what is given behind lines
pub lines_given : (here between behind : Cursor) (lines : List (List ℕ)) → HasLines here lines between → behind ≡ between → HasLines here lines behind
lines_given here between behind lines h e = subst (HasLines here lines) (sym e) h

size_words : ℕ → ℕ → ℕ → List ℕ
size_words n p horizon = line (codes "size") (decimal n ∷ decimal p ∷ decimal horizon ∷ [])

dynamics_lines : RationalMatrix → RationalMatrix → List (List ℕ)
dynamics_lines a b = matrix_line (codes "A") a ∷ matrix_line (codes "B") b ∷ []

weight_lines : RationalMatrix → RationalMatrix → RationalMatrix → List (List ℕ)
weight_lines q r last = matrix_line (codes "Q") q ∷ matrix_line (codes "R") r ∷ matrix_line (codes "P") last ∷ []

goal_lines : List ℚ → List ℚ → List ℚ → List (List ℕ)
goal_lines drift xgoal ugoal = fractions_line (codes "drift") drift ∷ fractions_line (codes "goal") (xgoal ++ ugoal) ∷ []

limit_lines : List PlantRow → List PlantRow → List Coordinate → List (List ℕ)
limit_lines rows terminal axes = row_lines rows ++ last_lines terminal ++ map grid_line axes

lines_dynamics : (s : Sizes) (here : Cursor) (d : Dynamics) (behind : Cursor) → (dynamics s).Reads here d behind → HasLines here (dynamics_lines d.a d.b) behind
unfolding dynamics_lines
lines_dynamics s here d behind (a, (between, (first, (b, (beyond, (second, (e, at))))))) =
    subst (λ (x : Dynamics). HasLines here (dynamics_lines x.a x.b) behind) (sym e)
    (lines_given here beyond behind _
    (lines_then here (matrix_line (codes "A") a ∷ []) between (matrix_line (codes "B") b ∷ []) beyond
    (lines_plain (IsMatrix (codes "A") s.states s.states) (matrix_line (codes "A")) (λ line x h. h.spelled) here a between first)
    (lines_plain (IsMatrix (codes "B") s.states s.inputs) (matrix_line (codes "B")) (λ line x h. h.spelled) between b beyond second)) at)

lines_weights : (s : Sizes) (here : Cursor) (w : Weights) (behind : Cursor) → (weights s).Reads here w behind → HasLines here (weight_lines w.q w.r w.last) behind
unfolding weight_lines
lines_weights s here w behind (q, (b, (first, (r, (c, (second, (last, (d, (third, (e, at)))))))))) =
    subst (λ (x : Weights). HasLines here (weight_lines x.q x.r x.last) behind) (sym e)
    (lines_given here d behind _
    (lines_then here (matrix_line (codes "Q") q ∷ []) b (matrix_line (codes "R") r ∷ matrix_line (codes "P") last ∷ []) d
    (lines_plain (IsWeightLine (codes "Q") s.states) (matrix_line (codes "Q")) (λ line x h. h.matrix_is.spelled) here q b first)
    (lines_then b (matrix_line (codes "R") r ∷ []) c (matrix_line (codes "P") last ∷ []) d
    (lines_plain (IsWeightLine (codes "R") s.inputs) (matrix_line (codes "R")) (λ line x h. h.matrix_is.spelled) b r c second)
    (lines_plain (IsWeightLine (codes "P") s.states) (matrix_line (codes "P")) (λ line x h. h.matrix_is.spelled) c last d third))) at)

lines_told : (version : Version) (s : Sizes) (here : Cursor) (o : Offsets) (behind : Cursor) → (offset_lines version s).Reads here o behind → HasLines here (goal_lines o.drift o.xgoal o.ugoal) behind
unfolding goal_lines
lines_told version s here o behind (drift, (b, (first, (t, (c, (second, (e, at))))))) =
    subst (λ (x : Offsets). HasLines here (goal_lines x.drift x.xgoal x.ugoal) behind) (sym e)
    (lines_given here c behind _
    (lines_then here (fractions_line (codes "drift") drift ∷ []) b (fractions_line (codes "goal") (take s.states t ++ drop s.states t) ∷ []) c
    (lines_plain (AreNumbers (codes "drift") s.states) (fractions_line (codes "drift")) (λ line x h. h.spelled) here drift b first)
    (lines_plain (IsGoal version s drift) (λ x. fractions_line (codes "goal") (take s.states x ++ drop s.states x))
    (λ line x h. h.numbers_are.spelled ∙ ap (fractions_line (codes "goal")) (sym (take-append-drop s.states x))) b t c second)) at)

offset_words : Version → List ℚ → List ℚ → List ℚ → List (List ℕ)
offset_words One drift xgoal ugoal = []
offset_words Two drift xgoal ugoal = goal_lines drift xgoal ugoal
offset_words Three drift xgoal ugoal = goal_lines drift xgoal ugoal

lines_offsets : (version : Version) (s : Sizes) (here : Cursor) (o : Offsets) (behind : Cursor) → (offsets version s).Reads here o behind → HasLines here (offset_words version o.drift o.xgoal o.ugoal) behind
unfolding offset_words
lines_offsets One s here o behind h = lines_none here behind h.1
lines_offsets Two s here o behind h = lines_told Two s here o behind h
lines_offsets Three s here o behind h = lines_told Three s here o behind h

lines_rows : (version : Version) (s : Sizes) (here : Cursor) (rows : List PlantRow) (behind : Cursor) → (row_list version s).Reads here rows behind → HasLines here (row_lines rows) behind
lines_rows version s here rows behind (count, (b, (first, reads))) =
    lines_are here behind (count_line (codes "rows") count ∷ map (row_line (codes "row")) rows) (row_lines rows)
    (λ i. count_line (codes "rows") (sym (so_many_items (λ items. one_line (plain_rule (IsRow (codes "row") s.states s.inputs))) count b rows behind reads) i) ∷ map (row_line (codes "row")) rows)
    (lines_then here (count_line (codes "rows") count ∷ []) b (map (row_line (codes "row")) rows) behind
    (lines_plain (IsNumber (codes "rows") (λ number. s.steps * number + 0 ≤ (greatest_rows version (s.inputs * s.steps)))) (count_line (codes "rows")) (λ line x h. h.spelled) here count b first)
    (lines_so_many count (plain_rule (IsRow (codes "row") s.states s.inputs)) (row_line (codes "row")) (λ line x h. h.spelled) b rows behind reads))

lines_ends : (version : Version) (s : Sizes) (before : List PlantRow) (here : Cursor) (rows : List PlantRow) (behind : Cursor) → (last_list version s before).Reads here rows behind → HasLines here (last_lines rows) behind
lines_ends version s before here rows behind (count, (b, (first, reads))) =
    lines_are here behind (count_line (codes "terminal") count ∷ map (row_line (codes "last")) rows) (last_lines rows)
    (λ i. count_line (codes "terminal") (sym (so_many_items (λ items. one_line (plain_rule (IsRow (codes "last") s.states 0))) count b rows behind reads) i) ∷ map (row_line (codes "last")) rows)
    (lines_then here (count_line (codes "terminal") count ∷ []) b (map (row_line (codes "last")) rows) behind
    (lines_plain (IsNumber (codes "terminal") (λ number. 1 * number + (s.steps * length before) ≤ (greatest_rows version (s.inputs * s.steps)))) (count_line (codes "terminal")) (λ line x h. h.spelled) here count b first)
    (lines_so_many count (plain_rule (IsRow (codes "last") s.states 0)) (row_line (codes "last")) (λ line x h. h.spelled) b rows behind reads))

lines_limits : (version : Version) (s : Sizes) (here : Cursor) (l : Limits) (behind : Cursor) → (limits version s).Reads here l behind → HasLines here (limit_lines l.rows l.terminal l.axes) behind
unfolding limit_lines
lines_limits version s here l behind (rows, (b, (first, (terminal, (c, (second, (axes, (d, (third, (e, at)))))))))) =
    subst (λ (x : Limits). HasLines here (limit_lines x.rows x.terminal x.axes) behind) (sym e)
    (lines_given here d behind _
    (lines_then here (row_lines rows ++ last_lines terminal) c (map grid_line axes) d
    (lines_then here (row_lines rows) b (last_lines terminal) c (lines_rows version s here rows b first) (lines_ends version s rows b terminal c second))
    (lines_so_many s.states (plain_rule IsAxis) grid_line (λ line x h. h.spelled) c axes d third)) at)

plant_words : Version → ℕ → ℕ → ℕ → RationalMatrix → RationalMatrix → RationalMatrix → RationalMatrix → RationalMatrix → List ℚ → List ℚ → List ℚ → List PlantRow → List PlantRow → List Coordinate → List (List ℕ)
plant_words version n p horizon a b q r last drift xgoal ugoal rows terminal axes = size_words n p horizon ∷ (dynamics_lines a b ++ (weight_lines q r last ++ (offset_words version drift xgoal ugoal ++ limit_lines rows terminal axes)))

plant_same : (version : Version) (v : Plant) → plant_words version v.n v.p v.horizon v.a v.b v.q v.r v.last v.drift v.xgoal v.ugoal v.rows v.terminal v.grid ≡ plant_lines version v
unfolding plant_words size_words dynamics_lines weight_lines goal_lines offset_words limit_lines
plant_same One v = refl
plant_same Two v = refl
plant_same Three v = refl

pub lines_plant : (version : Version) (here : Cursor) (v : Plant) (behind : Cursor) → (plant version).Reads here v behind → HasLines here (plant_lines version v) behind
unfolding plant_words size_words
lines_plant version here v behind (s, (c1, (first, (d, (c2, (second, (w, (c3, (third, (o, (c4, (fourth, (l, (c5, (fifth, (is, at)))))))))))))))) =
    lines_are here behind (plant_words version s.states s.inputs s.steps d.a d.b w.q w.r w.last o.drift o.xgoal o.ugoal l.rows l.terminal l.axes) (plant_lines version v)
    (sym (λ i. plant_words version (is.n i) (is.p i) (is.horizon i) (is.a i) (is.b i) (is.q i) (is.r i) (is.last i) (is.drift i) (is.xgoal i) (is.ugoal i) (is.rows i) (is.terminal i) (is.grid i)) ∙ plant_same version v)
    (lines_given here c5 behind _
    (lines_then here (size_words s.states s.inputs s.steps ∷ []) c1 _ c5
    (lines_plain AreSizes (λ x. size_words x.states x.inputs x.steps) (λ line x h. h.spelled) here s c1 first)
    (lines_then c1 (dynamics_lines d.a d.b) c2 _ c5 (lines_dynamics s c1 d c2 second)
    (lines_then c2 (weight_lines w.q w.r w.last) c3 _ c5 (lines_weights s c2 w c3 third)
    (lines_then c3 (offset_words version o.drift o.xgoal o.ugoal) c4 _ c5 (lines_offsets version s c3 o c4 fourth) (lines_limits version s c4 l c5 fifth))))) at)
