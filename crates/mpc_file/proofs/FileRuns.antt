-- What is read of a controller's file goes on, and is read the same where more bytes stand behind it.
use Rattle.std.proofs.Common.{◌+◌, ◌<◌, ◌^◌, ◌≤◌, ℕ, ◌*◌, List, [], ◌∷◌, length, codes}
use Rattle.mpc_space.specs.Vector.{zeros}
use Rattle.mpc_exact.specs.Rational.{ℚ}
use Rattle.mpc_linear.specs.declared.integers.RowInt.{RowInt}
use Rattle.mpc_plant.specs.declared.plants.Plant.{Plant}
use Rattle.mpc_plant.specs.declared.lists.PlantRow.{PlantRow}
use Rattle.mpc_grammar.specs.Versions.{greatest_rows}
use Rattle.mpc_grammar.specs.declared.versions.Version.{Version}
use Rattle.mpc_grammar.specs.declared.versions.Version.TheVariants.{One, Two, Three}
use Rattle.mpc_grammar.specs.declared.plant_parts.Sizes.{Sizes}
use Rattle.mpc_grammar.specs.Reading.{LineRule}
use Rattle.mpc_grammar.specs.PlantGrammar.{AreSizes, plain_rule, IsMatrix, IsWeightLine, dynamics, weights, IsGoal, offsets_with, offset_lines, offsets, IsRow, so_many, row_list, last_list, IsAxis, limits, IsPlantWith, plant, AreNumbers, IsNumber, UsesAll, StatesNew}
use Rattle.mpc_grammar.specs.LawGrammar.{IsLawLine, move_rule, moves, law_with, written_law, written_laws, forms, used_behind, AreFormNumbers, named_moves_rule, named_mults, used_by, named_law, named_laws}
use Rattle.mpc_grammar.specs.TreeGrammar.{written_split, IsWord, written_tree, plane_rule, planes, planes_used, named_split, named_tree}
use Rattle.mpc_grammar.specs.FileGrammar.{IsVersion, parts_with, written, parts_named, named, behind_plant, whole_file}
use Rattle.mpc_file.proofs.Runs.{IsRun, run_line, run_give, run_that, run_both, run_many}
use Rattle.mpc_file.proofs.TreeExact.{run_nodes}

run_so_many : {X : Type 0} (count : ℕ) (rule : LineRule X) → IsRun (so_many count rule)
run_so_many count rule = run_many _ _ (λ items. run_line rule)

-- ---- the plant
run_dynamics : (s : Sizes) → IsRun (dynamics s)
run_dynamics s =
    run_both _ _ (run_line (plain_rule (IsMatrix (codes "A") s.states s.states)))
    (λ a. run_both _ _ (run_line (plain_rule (IsMatrix (codes "B") s.states s.inputs))) (λ b. run_give (record { a = a; b = b })))

run_weights : (s : Sizes) → IsRun (weights s)
run_weights s =
    run_both _ _ (run_line (plain_rule (IsWeightLine (codes "Q") s.states)))
    (λ q. run_both _ _ (run_line (plain_rule (IsWeightLine (codes "R") s.inputs)))
    (λ r. run_both _ _ (run_line (plain_rule (IsWeightLine (codes "P") s.states))) (λ last. run_give (record { q = q; r = r; last = last }))))

run_offset_lines : (version : Version) (s : Sizes) → IsRun (offset_lines version s)
run_offset_lines version s =
    run_both _ _ (run_line (plain_rule (AreNumbers (codes "drift") s.states)))
    (λ drift. run_both _ _ (run_line (plain_rule (IsGoal version s drift))) (λ goal. run_give (offsets_with s drift goal)))

run_offsets : (version : Version) (s : Sizes) → IsRun (offsets version s)
run_offsets One s = run_give (record { drift = zeros s.states; xgoal = zeros s.states; ugoal = zeros s.inputs })
run_offsets Two s = run_offset_lines Two s
run_offsets Three s = run_offset_lines Three s

run_row_list : (version : Version) (s : Sizes) → IsRun (row_list version s)
run_row_list version s =
    run_both _ _ (run_line (plain_rule (IsNumber (codes "rows") (λ number. s.steps * number + 0 ≤ (greatest_rows version (s.inputs * s.steps)))))) (λ count. run_so_many count (plain_rule (IsRow (codes "row") s.states s.inputs)))

run_last_list : (version : Version) (s : Sizes) (rows : List PlantRow) → IsRun (last_list version s rows)
run_last_list version s rows =
    run_both _ _ (run_line (plain_rule (IsNumber (codes "terminal") (λ number. 1 * number + (s.steps * length rows) ≤ (greatest_rows version (s.inputs * s.steps)))))) (λ count. run_so_many count (plain_rule (IsRow (codes "last") s.states 0)))

run_limits : (version : Version) (s : Sizes) → IsRun (limits version s)
run_limits version s =
    run_both _ _ (run_row_list version s)
    (λ rows. run_both _ _ (run_last_list version s rows)
    (λ terminal. run_both _ _ (run_so_many s.states (plain_rule IsAxis)) (λ axes. run_give (record { rows = rows; terminal = terminal; axes = axes }))))

pub run_plant : (version : Version) → IsRun (plant version)
run_plant version =
    run_both _ _ (run_line (plain_rule AreSizes))
    (λ s. run_both _ _ (run_dynamics s)
    (λ d. run_both _ _ (run_weights s)
    (λ w. run_both _ _ (run_offsets version s)
    (λ o. run_both _ _ (run_limits version s) (λ l. run_that (IsPlantWith s d w o l))))))

-- ---- the laws
run_moves : (plant : Plant) → IsRun (moves plant)
run_moves plant = run_many _ _ (λ before. run_line (move_rule plant (length before)))

run_written_law : (plant : Plant) → IsRun (written_law plant)
run_written_law plant =
    run_both _ _ (run_line (plain_rule (IsLawLine plant)))
    (λ set. run_both _ _ (run_moves plant) (λ zs. run_both _ _ (run_so_many (length set) (plain_rule (AreNumbers (codes "mult") (plant.n + 1)))) (λ ls. run_give (law_with plant set zs ls))))

pub run_written_laws : (plant : Plant) → IsRun (written_laws plant)
run_written_laws plant = run_both _ _ (run_line (plain_rule (IsNumber (codes "laws") (λ number. number ≤ 4598479)))) (λ count. run_many _ _ (λ before. run_written_law plant))

pub run_forms : (plant : Plant) → IsRun (forms plant)
run_forms plant = run_both _ _ (run_line (plain_rule (IsNumber (codes "forms") (λ number. number < 10 ^ 18)))) (λ count. run_many _ _ (λ before. run_line (plain_rule (StatesNew before (AreNumbers (codes "form") (plant.n + 1))))))

run_named_mults : (fs : List (List ℚ)) (used : ℕ) (set : List ℕ) → IsRun (named_mults fs used set)
run_named_mults fs used [] = run_give []
run_named_mults fs used (i ∷ set) = run_line (plain_rule (AreFormNumbers (codes "mult") (length fs) used (length (i ∷ set))))

run_named_law : (plant : Plant) (fs : List (List ℚ)) (used : ℕ) → IsRun (named_law plant fs used)
run_named_law plant fs used =
    run_both _ _ (run_line (plain_rule (IsLawLine plant)))
    (λ set. run_both _ _ (run_line (named_moves_rule plant fs used))
    (λ zs. run_both _ _ (run_named_mults fs (used_behind used zs) set) (λ ls. run_give (record { set = set; moves = zs; mults = ls }))))

pub run_named_laws : (plant : Plant) (fs : List (List ℚ)) → IsRun (named_laws plant fs)
run_named_laws plant fs = run_both _ _ (run_line (plain_rule (IsNumber (codes "laws") (λ number. number ≤ 4598479)))) (λ count. run_many _ _ (λ before. run_named_law plant fs (used_by before)))

-- ---- the tree
pub run_written_tree : (plant : Plant) (laws : ℕ) → IsRun (written_tree plant laws)
run_written_tree plant laws =
    run_both _ _ (run_line (plain_rule (IsWord (codes "tree")))) (λ u. run_both _ _ (run_nodes plant laws (λ before. written_split plant)) (λ ns. run_give _))

pub run_planes : (plant : Plant) (all used : ℕ) → IsRun (planes plant all used)
run_planes plant all used = run_both _ _ (run_line (plain_rule (UsesAll all used (IsNumber (codes "planes") (λ number. number < 10 ^ 18))))) (λ count. run_many _ _ (λ before. run_line (plane_rule plant before)))

pub run_named_tree : (plant : Plant) (laws : ℕ) (ps : List RowInt) → IsRun (named_tree plant laws ps)
run_named_tree plant laws ps =
    run_both _ _ (run_line (plain_rule (IsWord (codes "tree")))) (λ u. run_both _ _ (run_nodes plant laws (λ before. named_split (length ps) (planes_used before))) (λ ns. run_give ns))

-- ---- the file
pub run_written : (plant : Plant) → IsRun (written plant)
run_written plant =
    run_both _ _ (run_written_laws plant)
    (λ laws. run_both _ _ (run_written_tree plant (length laws)) (λ tree. run_both _ _ (run_line (plain_rule (IsWord (codes "end")))) (λ u. run_give (parts_with plant laws tree))))

pub run_named : (plant : Plant) → IsRun (named plant)
run_named plant =
    run_both _ _ (run_forms plant)
    (λ fs. run_both _ _ (run_named_laws plant fs)
    (λ laws. run_both _ _ (run_planes plant (length fs) (used_by laws))
    (λ ps. run_both _ _ (run_named_tree plant (length laws) ps)
    (λ ns. run_both _ _ (run_line (plain_rule (UsesAll (length ps) (planes_used ns) (IsWord (codes "end"))))) (λ u. run_give (parts_named plant fs laws ps ns))))))

run_behind_plant : (version : Version) (plant : Plant) → IsRun (behind_plant version plant)
run_behind_plant One plant = run_written plant
run_behind_plant Two plant = run_written plant
run_behind_plant Three plant = run_named plant

pub run_file : IsRun whole_file
run_file = run_both _ _ (run_line (plain_rule IsVersion)) (λ version. run_both _ _ (run_plant version) (λ plant. run_behind_plant version plant))
