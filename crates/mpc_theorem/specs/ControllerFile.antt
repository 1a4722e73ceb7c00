-- The file of a controller: its lines in each version, one below the other.
use Rattle.std.specs.Prelude.{◌≡◌, ℕ, ◌+◌, if◌then◌else◌, List, [], ◌∷◌, ◌++◌, length, map, fold, codes, decimal, bytes_eq}
use Rattle.std.specs.List.{flat_map, list_any}
use Rattle.mpc_exact.specs.Rational.{ℚ}
use Rattle.mpc_linear.specs.declared.integers.RowInt.{RowInt}
use Rattle.mpc_plant.specs.declared.plants.Plant.{Plant}
use Rattle.mpc_rows.specs.declared.laws.Law.{Law}
use Rattle.mpc_rows.specs.declared.trees.Node.{Node}
use Rattle.mpc_rows.specs.declared.trees.Node.TheVariants.{Split, Law as LawLeaf, NoMove}
use Rattle.mpc_words.specs.Words.{line}
use Rattle.mpc_controller.specs.Parts.{Parts}
use Rattle.mpc_grammar.specs.declared.versions.Version.{Version}
use Rattle.mpc_grammar.specs.declared.versions.Version.TheVariants.{One, Two, Three}
use Rattle.mpc_grammar.specs.Versions.{number_of}
use Rattle.mpc_grammar.specs.Lines.{count_line, integers_line, fractions_line, grid_line, cert_line}
use Rattle.mpc_writing.specs.FormNames.{form_line}
use Rattle.mpc_writing.specs.PlaneNames.{plane_line}
use Rattle.mpc_writing.specs.Writing.{text_of_lines, size_line, matrix_lines, drift_line, goal_line, row_lines, last_lines}
use Rattle.mpc_grammar.specs.Statable.{CanState}

-- ---- lines that are written once, and named by their numbers from 1
abbrev pub with_line : List (List ℕ) → List ℕ → List (List ℕ)
with_line lines text = if list_any (bytes_eq text) lines then lines else lines ++ text ∷ []

-- the different ones of these lines, in the order in which they come first
abbrev pub different : List (List ℕ) → List (List ℕ)
different lines = fold with_line [] lines

-- the number of a line that is one of these
abbrev pub number_in : List (List ℕ) → List ℕ → ℕ
number_in [] text = 0
number_in (first ∷ others) text = if bytes_eq text first then 1 else number_in others text + 1

-- how many lines there are, and then these
abbrev pub counted : List ℕ → List (List ℕ) → List (List ℕ)
counted name lines = count_line name (length lines) ∷ lines

-- ---- the plant
-- the drift and the targets, which version 1 hasn't
abbrev pub offset_lines : Version → Plant → List (List ℕ)
offset_lines One plant = []
offset_lines Two plant = drift_line plant ∷ goal_line plant ∷ []
offset_lines Three plant = drift_line plant ∷ goal_line plant ∷ []

abbrev pub plant_lines : Version → Plant → List (List ℕ)
plant_lines version plant = size_line plant ∷ (matrix_lines plant ++ offset_lines version plant ++ row_lines plant.rows ++ last_lines plant.terminal ++ map grid_line plant.grid)

-- ---- the laws
abbrev pub set_line : Law → List ℕ
set_line law = line (codes "law") (map decimal law.set)

-- with their forms written out
abbrev pub law_lines : Law → List (List ℕ)
law_lines law = set_line law ∷ (map (fractions_line (codes "move")) law.moves.rows ++ map (fractions_line (codes "mult")) law.mults.rows)

-- the lines of the forms that laws use, the moves of each law before its multipliers
abbrev pub forms_of : List Law → List (List ℕ)
forms_of laws = different (flat_map (λ law. map form_line (law.moves.rows ++ law.mults.rows)) laws)

-- the numbers of these forms
abbrev pub names_line : List ℕ → List (List ℕ) → List (List ℚ) → List ℕ
names_line name forms rows = line name (map (λ form. decimal (number_in forms (form_line form))) rows)

-- of the multipliers, if there are any
abbrev pub mult_lines : List (List ℕ) → List (List ℚ) → List (List ℕ)
mult_lines forms [] = []
mult_lines forms (row ∷ rows) = names_line (codes "mult") forms (row ∷ rows) ∷ []

-- with their forms named
abbrev pub named_law_lines : List (List ℕ) → Law → List (List ℕ)
named_law_lines forms law = set_line law ∷ names_line (codes "move") forms law.moves.rows ∷ mult_lines forms law.mults.rows

abbrev pub laws_lines : (Law → List (List ℕ)) → List Law → List (List ℕ)
laws_lines lines laws = count_line (codes "laws") (length laws) ∷ flat_map lines laws

-- ---- the tree
-- the line of the plane that divides a node, if there is one
abbrev pub split_lines : Node → List (List ℕ)
split_lines (Split row) = plane_line row ∷ []
split_lines (LawLeaf law certs) = []
split_lines (NoMove cert) = []

abbrev pub planes_of : List Node → List (List ℕ)
planes_of tree = different (flat_map split_lines tree)

-- by the line of a split
abbrev pub node_lines : (RowInt → List ℕ) → Node → List (List ℕ)
node_lines split (Split row) = split row ∷ []
node_lines split (LawLeaf law certs) = count_line (codes "leaf") law ∷ map cert_line certs
node_lines split (NoMove cert) = codes "none" ∷ cert_line cert ∷ []

abbrev pub tree_lines : (RowInt → List ℕ) → List Node → List (List ℕ)
tree_lines split tree = codes "tree" ∷ flat_map (node_lines split) tree

-- with its row written out, and with its plane named
abbrev pub split_line : RowInt → List ℕ
split_line row = integers_line (codes "split") (row.a ++ row.b ∷ [])

abbrev pub named_split_line : List (List ℕ) → RowInt → List ℕ
named_split_line planes row = count_line (codes "split") (number_in planes (plane_line row))

-- ---- the file
abbrev pub written_lines : List Law → List Node → List (List ℕ)
written_lines laws tree = laws_lines law_lines laws ++ tree_lines split_line tree

-- the forms stand before the laws, and the planes before the tree
abbrev pub named_lines : List Law → List Node → List (List ℕ)
named_lines laws tree =
    (counted (codes "forms") (forms_of laws) ++ laws_lines (named_law_lines (forms_of laws)) laws) ++ (counted (codes "planes") (planes_of tree) ++ tree_lines (named_split_line (planes_of tree)) tree)

abbrev pub lines_behind : Version → List Law → List Node → List (List ℕ)
lines_behind One laws tree = written_lines laws tree
lines_behind Two laws tree = written_lines laws tree
lines_behind Three laws tree = named_lines laws tree

abbrev pub file_text : Version → Parts → List ℕ
file_text version parts =
    text_of_lines (count_line (codes "mpc") (number_of version) ∷ (plant_lines version parts.plant ++ (lines_behind version parts.laws parts.tree ++ codes "end" ∷ [])))

-- The text is the file of this controller in a version that can state it: its parts have a controller's shapes, no reply has a number that is too
-- wide, and each fraction has parts of at most 2^127 - 1 in size.
pub record IsControllerFile (version : Version) (parts : Parts) (text : List ℕ) : Type 0 where
  pub stated : CanState version parts
  pub text_is : text ≡ file_text version parts
