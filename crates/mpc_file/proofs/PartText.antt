-- The parts of a controller's file determine the bytes that they are read from.
use Rattle.std.specs.Prelude.{slice_index_or}
use Rattle.std.proofs.Common.{◌<◌, ◌^◌, ◌≤◌, ◌≡◌, ℕ, ◌+◌, ◌*◌, List, [], ◌∷◌, ◌++◌, map, length, codes, refl, sym, ap, ◌∙◌, take-append-drop}
use Rattle.mpc_space.specs.Vector.{zeros}
use Rattle.mpc_exact.specs.Rational.{ℚ}
use Rattle.mpc_linear.specs.declared.integers.RowInt.{RowInt}
use Rattle.mpc_plant.specs.declared.plants.Plant.{Plant}
use Rattle.mpc_plant.specs.declared.lists.PlantRow.{PlantRow}
use Rattle.mpc_rows.specs.declared.laws.Law.{Law}
use Rattle.mpc_rows.specs.declared.trees.Node.{Node}
use Rattle.mpc_rows.specs.declared.trees.Node.TheVariants.{Split, Law as LawLeaf, NoMove}
use Rattle.mpc_controller.specs.Parts.{row_count}
use Rattle.mpc_controller.specs.Certificates.{cell_rows}
use Rattle.mpc_grammar.specs.Versions.{greatest_rows}
use Rattle.mpc_grammar.specs.declared.versions.Version.{Version}
use Rattle.mpc_grammar.specs.declared.versions.Version.TheVariants.{One, Two, Three}
use Rattle.mpc_grammar.specs.declared.plant_parts.Sizes.{Sizes}
use Rattle.mpc_grammar.specs.declared.plant_parts.Dynamics.{Dynamics}
use Rattle.mpc_grammar.specs.declared.plant_parts.Weights.{Weights}
use Rattle.mpc_grammar.specs.declared.plant_parts.Offsets.{Offsets}
use Rattle.mpc_grammar.specs.declared.plant_parts.Limits.{Limits}
use Rattle.mpc_grammar.specs.Reading.{Cursor, LineRule, one_line}
use Rattle.mpc_grammar.specs.PlantGrammar.{AreSizes, plain_rule, IsMatrix, IsWeightLine, dynamics, weights, IsGoal, offsets_with, offset_lines, offsets, IsRow, row_list, last_list, IsAxis, limits, IsPlantWith, plant, AreNumbers, IsNumber, UsesAll, StatesNew}
use Rattle.mpc_grammar.specs.LawGrammar.{IsLawLine, move_rule, moves, law_with, written_law, law_count, written_laws, forms, used_behind, AreFormNumbers, named_moves_rule, named_mults, NamedLaw, used_by, named_law, named_laws}
use Rattle.mpc_grammar.specs.TreeGrammar.{IsCertLine, certs, NodeLine, split_at, leaf_of, no_move, StatesNode, splits, names_law, has_none, node_rule, NodeOver, split_node, law_node, no_move_node, node_behind, node_at, owed, nodes, written_split, IsWord, written_tree, plane_rule, planes, planes_used, named_split, named_tree, node_of}
use Rattle.mpc_file.proofs.OneText.{HasOneText, text_line, text_plain, text_give, text_that, text_with, text_many, text_so_many, so_many_read}

-- ---- the plant
text_dynamics : (s : Sizes) → HasOneText (dynamics s)
text_dynamics s =
    text_with _ _ (λ (d : Dynamics). d.a) (text_plain (IsMatrix (codes "A") s.states s.states) (λ line other x h k. h.spelled ∙ sym k.spelled))
    (λ a. text_with _ _ (λ (d : Dynamics). d.b) (text_plain (IsMatrix (codes "B") s.states s.inputs) (λ line other x h k. h.spelled ∙ sym k.spelled))
    (λ b. text_give (record { a = a; b = b })) (λ here b y behind h. ap (λ (d : Dynamics). d.b) h.0))
    (λ here a y behind h. ap (λ (d : Dynamics). d.a) h.1.1.1.0)

text_weights : (s : Sizes) → HasOneText (weights s)
text_weights s =
    text_with _ _ (λ (w : Weights). w.q) (text_plain (IsWeightLine (codes "Q") s.states) (λ line other x h k. h.matrix_is.spelled ∙ sym k.matrix_is.spelled))
    (λ q. text_with _ _ (λ (w : Weights). w.r) (text_plain (IsWeightLine (codes "R") s.inputs) (λ line other x h k. h.matrix_is.spelled ∙ sym k.matrix_is.spelled))
    (λ r. text_with _ _ (λ (w : Weights). w.last) (text_plain (IsWeightLine (codes "P") s.states) (λ line other x h k. h.matrix_is.spelled ∙ sym k.matrix_is.spelled))
    (λ last. text_give (record { q = q; r = r; last = last })) (λ here last y behind h. ap (λ (w : Weights). w.last) h.0))
    (λ here r y behind h. ap (λ (w : Weights). w.r) h.1.1.1.0))
    (λ here q y behind h. ap (λ (w : Weights). w.q) h.1.1.1.1.1.1.0)

abbrev goal_in : Offsets → List ℚ
goal_in o = o.xgoal ++ o.ugoal

text_offset_lines : (version : Version) (s : Sizes) → HasOneText (offset_lines version s)
text_offset_lines version s =
    text_with _ _ (λ (o : Offsets). o.drift) (text_plain (AreNumbers (codes "drift") s.states) (λ line other x h k. h.spelled ∙ sym k.spelled))
    (λ drift. text_with _ _ goal_in (text_plain (IsGoal version s drift) (λ line other x h k. h.numbers_are.spelled ∙ sym k.numbers_are.spelled))
    (λ goal. text_give (offsets_with s drift goal)) (λ here goal y behind h. ap goal_in h.0 ∙ take-append-drop s.states goal))
    (λ here drift y behind h. ap (λ (o : Offsets). o.drift) h.1.1.1.0)

text_offsets : (version : Version) (s : Sizes) → HasOneText (offsets version s)
text_offsets One s = text_give (record { drift = zeros s.states; xgoal = zeros s.states; ugoal = zeros s.inputs })
text_offsets Two s = text_offset_lines Two s
text_offsets Three s = text_offset_lines Three s

text_row_list : (version : Version) (s : Sizes) → HasOneText (row_list version s)
text_row_list version s =
    text_with _ _ length (text_plain (IsNumber (codes "rows") (λ number. s.steps * number + 0 ≤ (greatest_rows version (s.inputs * s.steps)))) (λ line other x h k. h.spelled ∙ sym k.spelled))
    (λ count. text_so_many count (plain_rule (IsRow (codes "row") s.states s.inputs)) (λ line other x h k. h.spelled ∙ sym k.spelled))
    (λ here count y behind h. so_many_read (λ items. one_line (plain_rule (IsRow (codes "row") s.states s.inputs))) count here y behind h)

text_last_list : (version : Version) (s : Sizes) (rows : List PlantRow) → HasOneText (last_list version s rows)
text_last_list version s rows =
    text_with _ _ length (text_plain (IsNumber (codes "terminal") (λ number. 1 * number + (s.steps * length rows) ≤ (greatest_rows version (s.inputs * s.steps)))) (λ line other x h k. h.spelled ∙ sym k.spelled))
    (λ count. text_so_many count (plain_rule (IsRow (codes "last") s.states 0)) (λ line other x h k. h.spelled ∙ sym k.spelled))
    (λ here count y behind h. so_many_read (λ items. one_line (plain_rule (IsRow (codes "last") s.states 0))) count here y behind h)

text_limits : (version : Version) (s : Sizes) → HasOneText (limits version s)
text_limits version s =
    text_with _ _ (λ (l : Limits). l.rows) (text_row_list version s)
    (λ rows. text_with _ _ (λ (l : Limits). l.terminal) (text_last_list version s rows)
    (λ terminal. text_with _ _ (λ (l : Limits). l.axes) (text_so_many s.states (plain_rule IsAxis) (λ line other x h k. h.spelled ∙ sym k.spelled))
    (λ axes. text_give (record { rows = rows; terminal = terminal; axes = axes })) (λ here axes y behind h. ap (λ (l : Limits). l.axes) h.0))
    (λ here terminal y behind h. ap (λ (l : Limits). l.terminal) h.1.1.1.0))
    (λ here rows y behind h. ap (λ (l : Limits). l.rows) h.1.1.1.1.1.1.0)

abbrev sizes_in : Plant → Sizes
sizes_in p = record { states = p.n; inputs = p.p; steps = p.horizon }

abbrev dynamics_in : Plant → Dynamics
dynamics_in p = record { a = p.a; b = p.b }

abbrev weights_in : Plant → Weights
weights_in p = record { q = p.q; r = p.r; last = p.last }

abbrev offsets_in : Plant → Offsets
offsets_in p = record { drift = p.drift; xgoal = p.xgoal; ugoal = p.ugoal }

abbrev limits_in : Plant → Limits
limits_in p = record { rows = p.rows; terminal = p.terminal; axes = p.grid }

module _ (s : Sizes) (d : Dynamics) (w : Weights) (o : Offsets) (l : Limits) (p : Plant) (is : IsPlantWith s d w o l p) where
  its_sizes : sizes_in p ≡ s
  its_sizes = λ i. record { states = is.n i; inputs = is.p i; steps = is.horizon i }

  its_dynamics : dynamics_in p ≡ d
  its_dynamics = λ i. record { a = is.a i; b = is.b i }

  its_weights : weights_in p ≡ w
  its_weights = λ i. record { q = is.q i; r = is.r i; last = is.last i }

  its_offsets : offsets_in p ≡ o
  its_offsets = λ i. record { drift = is.drift i; xgoal = is.xgoal i; ugoal = is.ugoal i }

  its_limits : limits_in p ≡ l
  its_limits = λ i. record { rows = is.rows i; terminal = is.terminal i; axes = is.grid i }

pub text_plant : (version : Version) → HasOneText (plant version)
text_plant version =
    text_with _ _ sizes_in (text_plain AreSizes (λ line other x h k. h.spelled ∙ sym k.spelled))
    (λ s. text_with _ _ dynamics_in (text_dynamics s)
    (λ d. text_with _ _ weights_in (text_weights s)
    (λ w. text_with _ _ offsets_in (text_offsets version s)
    (λ o. text_with _ _ limits_in (text_limits version s) (λ l. text_that (IsPlantWith s d w o l)) (λ here l p behind h. its_limits s d w o l p h.0))
    (λ here o p behind (l, (c, (reads, (is, e)))). its_offsets s d w o l p is))
    (λ here w p behind (o, (b, (takes, (l, (c, (reads, (is, e))))))). its_weights s d w o l p is))
    (λ here d p behind (w, (a, (gives, (o, (b, (takes, (l, (c, (reads, (is, e)))))))))). its_dynamics s d w o l p is))
    (λ here s p behind (d, (z, (has, (w, (a, (gives, (o, (b, (takes, (l, (c, (reads, (is, e))))))))))))). its_sizes s d w o l p is)

-- ---- the laws
text_moves : (plant : Plant) → HasOneText (moves plant)
text_moves plant = text_many _ _ (λ before. text_line (move_rule plant (length before)) (λ line other x h k. h.spelled ∙ sym k.spelled))

text_written_law : (plant : Plant) → HasOneText (written_law plant)
text_written_law plant =
    text_with _ _ (λ (law : Law). law.set) (text_plain (IsLawLine plant) (λ line other x h k. h.spelled ∙ sym k.spelled))
    (λ set. text_with _ _ (λ (law : Law). law.moves.rows) (text_moves plant)
    (λ zs. text_with _ _ (λ (law : Law). law.mults.rows) (text_so_many (length set) (plain_rule (AreNumbers (codes "mult") (plant.n + 1))) (λ line other x h k. h.spelled ∙ sym k.spelled))
    (λ ls. text_give (law_with plant set zs ls)) (λ here ls y behind h. ap (λ (law : Law). law.mults.rows) h.0))
    (λ here zs y behind h. ap (λ (law : Law). law.moves.rows) h.1.1.1.0))
    (λ here set y behind h. ap (λ (law : Law). law.set) h.1.1.1.1.1.1.0)

text_law_count : HasOneText law_count
text_law_count = text_plain (IsNumber (codes "laws") (λ number. number ≤ 4598479)) (λ line other x h k. h.spelled ∙ sym k.spelled)

pub text_written_laws : (plant : Plant) → HasOneText (written_laws plant)
text_written_laws plant =
    text_with _ _ length text_law_count (λ count. text_many _ _ (λ before. text_written_law plant)) (λ here count y behind h. so_many_read (λ before. written_law plant) count here y behind h)

pub text_forms : (plant : Plant) → HasOneText (forms plant)
text_forms plant =
    text_with _ _ length (text_plain (IsNumber (codes "forms") (λ number. number < 10 ^ 18)) (λ line other x h k. h.spelled ∙ sym k.spelled))
    (λ count. text_many _ _ (λ before. text_plain (StatesNew before (AreNumbers (codes "form") (plant.n + 1))) (λ line other x h k. h.stated.spelled ∙ sym k.stated.spelled)))
    (λ here count y behind h. so_many_read (λ before. one_line (plain_rule (StatesNew before (AreNumbers (codes "form") (plant.n + 1))))) count here y behind h)

text_named_mults : (fs : List (List ℚ)) (used : ℕ) (set : List ℕ) → HasOneText (named_mults fs used set)
text_named_mults fs used [] = text_give []
text_named_mults fs used (i ∷ set) = text_plain (AreFormNumbers (codes "mult") (length fs) used (length (i ∷ set))) (λ line other x h k. h.spelled ∙ sym k.spelled)

text_named_law : (plant : Plant) (fs : List (List ℚ)) (used : ℕ) → HasOneText (named_law plant fs used)
text_named_law plant fs used =
    text_with _ _ (λ (law : NamedLaw). law.set) (text_plain (IsLawLine plant) (λ line other x h k. h.spelled ∙ sym k.spelled))
    (λ set. text_with _ _ (λ (law : NamedLaw). law.moves) (text_line (named_moves_rule plant fs used) (λ line other x h k. h.spelled ∙ sym k.spelled))
    (λ zs. text_with _ _ (λ (law : NamedLaw). law.mults) (text_named_mults fs (used_behind used zs) set)
    (λ ls. text_give (record { set = set; moves = zs; mults = ls })) (λ here ls y behind h. ap (λ (law : NamedLaw). law.mults) h.0))
    (λ here zs y behind h. ap (λ (law : NamedLaw). law.moves) h.1.1.1.0))
    (λ here set y behind h. ap (λ (law : NamedLaw). law.set) h.1.1.1.1.1.1.0)

pub text_named_laws : (plant : Plant) (fs : List (List ℚ)) → HasOneText (named_laws plant fs)
text_named_laws plant fs =
    text_with _ _ length text_law_count (λ count. text_many _ _ (λ before. text_named_law plant fs (used_by before)))
    (λ here count y behind h. so_many_read (λ (before : List NamedLaw). named_law plant fs (used_by before)) count here y behind h)

-- ---- the tree
text_certs : (rows count : ℕ) → HasOneText (certs rows count)
text_certs rows count = text_so_many count (plain_rule (IsCertLine rows)) (λ line other x h k. h.spelled ∙ sym k.spelled)

-- the certificates of a node, or none
abbrev certs_in : {Row : Type 0} → NodeOver Row → List (List (ℕ × ℚ))
certs_in (split_node row) = []
certs_in (law_node j cs) = cs
certs_in (no_move_node c) = c ∷ []

abbrev cert_in : {Row : Type 0} → NodeOver Row → List (ℕ × ℚ)
cert_in (split_node row) = []
cert_in (law_node j cs) = []
cert_in (no_move_node c) = c

text_node_behind : {Row : Type 0} (plant : Plant) (depth : ℕ) (node : NodeLine Row) → HasOneText (node_behind plant depth node)
text_node_behind plant depth (split_at row) = text_give (split_node row)
text_node_behind plant depth (leaf_of j) =
    text_with _ _ certs_in (text_certs (cell_rows plant.n depth + 1) (row_count plant)) (λ cs. text_give (law_node j cs)) (λ here cs y behind h. ap certs_in h.0)
text_node_behind plant depth no_move =
    text_with _ _ cert_in (text_plain (IsCertLine (cell_rows plant.n depth + row_count plant)) (λ line other x h k. h.spelled ∙ sym k.spelled)) (λ c. text_give (no_move_node c)) (λ here c y behind h. ap cert_in h.0)

abbrev line_in : {Row : Type 0} → NodeOver Row → NodeLine Row
line_in (split_node row) = split_at row
line_in (law_node j cs) = leaf_of j
line_in (no_move_node c) = no_move

its_line : {Row : Type 0} (plant : Plant) (depth : ℕ) (here : Cursor) (node : NodeLine Row) (y : NodeOver Row) (behind : Cursor) → (node_behind plant depth node).Reads here y behind → line_in y ≡ node
its_line plant depth here (split_at row) y behind h = ap line_in h.0
its_line plant depth here (leaf_of j) y behind h = ap line_in h.1.1.1.0
its_line plant depth here no_move y behind h = ap line_in h.1.1.1.0

one_node_line : {Row : Type 0} (laws : ℕ) (split : LineRule Row) → ((line other : List ℕ) (x : Row) → split.States line x → split.States other x → line ≡ other) → (line other : List ℕ) (x : NodeLine Row) → StatesNode laws split.States line x → StatesNode laws split.States other x → line ≡ other
one_node_line laws split one line other x (splits row h) (splits again k) = one line other row h k
one_node_line laws split one line other x (names_law j e f) (names_law k g h) = e ∙ sym g
one_node_line laws split one line other x (has_none e) (has_none f) = e ∙ sym f

text_node : {Row : Type 0} (plant : Plant) (laws : ℕ) (split : LineRule Row) → ((line other : List ℕ) (x : Row) → split.States line x → split.States other x → line ≡ other) → (depth : ℕ) → HasOneText (node_at plant laws split depth)
text_node plant laws split one depth =
    text_with _ _ line_in (text_line (node_rule laws split) (one_node_line laws split one)) (λ node. text_node_behind plant depth node) (λ here node y behind h. its_line plant depth here node y behind h)

text_nodes : {Row : Type 0} (plant : Plant) (laws : ℕ) (split : List (NodeOver Row) → LineRule Row) → ((before : List (NodeOver Row)) (line other : List ℕ) (x : Row) → (split before).States line x → (split before).States other x → line ≡ other) → HasOneText (nodes plant laws split)
text_nodes plant laws split one = text_many _ _ (λ before. text_node plant laws (split before) (one before) (slice_index_or (owed before) 0 0))

pub text_word : (word : List ℕ) → HasOneText (one_line (plain_rule (IsWord word)))
text_word word = text_plain (IsWord word) (λ line other x h k. h ∙ sym k)

abbrev node_in : Node → NodeOver RowInt
node_in (Split row) = split_node row
node_in (LawLeaf j cs) = law_node j cs
node_in (NoMove c) = no_move_node c

its_node : (node : NodeOver RowInt) → node_in ((node_of (λ row. row)) node) ≡ node
its_node (split_node row) = refl
its_node (law_node j cs) = refl
its_node (no_move_node c) = refl

its_nodes : (ns : List (NodeOver RowInt)) → map node_in (map (node_of (λ row. row)) ns) ≡ ns
its_nodes [] = refl
its_nodes (n ∷ ns) = λ i. its_node n i ∷ its_nodes ns i

pub text_written_tree : (plant : Plant) (laws : ℕ) → HasOneText (written_tree plant laws)
text_written_tree plant laws =
    text_with _ _ (λ tree. tt) (text_word (codes "tree"))
    (λ u. text_with _ _ (map node_in) (text_nodes plant laws (λ before. written_split plant) (λ before line other x h k. h.row_is.spelled ∙ sym k.row_is.spelled))
    (λ ns. text_give (map (node_of (λ row. row)) ns)) (λ here ns y behind h. ap (map node_in) h.0 ∙ its_nodes ns))
    (λ here u y behind h. refl)

pub text_planes : (plant : Plant) (all used : ℕ) → HasOneText (planes plant all used)
text_planes plant all used =
    text_with _ _ length (text_plain (UsesAll all used (IsNumber (codes "planes") (λ number. number < 10 ^ 18))) (λ line other x h k. h.stated.spelled ∙ sym k.stated.spelled))
    (λ count. text_many _ _ (λ before. text_line (plane_rule plant before) (λ line other x h k. h.stated.row_is.spelled ∙ sym k.stated.row_is.spelled)))
    (λ here count y behind h. so_many_read (λ before. one_line (plane_rule plant before)) count here y behind h)

pub text_named_tree : (plant : Plant) (laws : ℕ) (ps : List RowInt) → HasOneText (named_tree plant laws ps)
text_named_tree plant laws ps =
    text_with _ _ (λ tree. tt) (text_word (codes "tree"))
    (λ u. text_with _ _ (λ ns. ns) (text_nodes plant laws (λ before. named_split (length ps) (planes_used before)) (λ before line other x h k. h.spelled ∙ sym k.spelled))
    (λ ns. text_give ns) (λ here ns y behind h. h.0))
    (λ here u y behind h. refl)
