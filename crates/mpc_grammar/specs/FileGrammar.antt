-- The file of a controller.
use Rattle.std.specs.Prelude.{◌≡◌, ◌≢◌, ℕ, ◌⊎◌, List, [], length, map, codes}
use Rattle.mpc_exact.specs.Rational.{ℚ}
use Rattle.mpc_linear.specs.declared.integers.RowInt.{RowInt}
use Rattle.mpc_plant.specs.declared.plants.Plant.{Plant}
use Rattle.mpc_rows.specs.declared.laws.Law.{Law}
use Rattle.mpc_rows.specs.declared.trees.Node.{Node}
use Rattle.mpc_controller.specs.Parts.{Parts}
use Rattle.mpc_grammar.specs.declared.errors.FileKind.{FileKind}
use Rattle.mpc_grammar.specs.declared.errors.FileKind.TheVariants.{TailAfterEnd}
use Rattle.mpc_grammar.specs.declared.errors.FileError.{FileError}
use Rattle.mpc_grammar.specs.declared.errors.FileError.TheVariants.{Bad, NoMemory}
use Rattle.mpc_grammar.specs.declared.versions.Version.{Version}
use Rattle.mpc_grammar.specs.declared.versions.Version.TheVariants.{Three}
use Rattle.mpc_grammar.specs.Versions.{number_of}
use Rattle.mpc_grammar.specs.Reading.{Cursor, Grammar, one_line, give, ◌>>=◌}
use Rattle.mpc_grammar.specs.Lines.{count_line}
use Rattle.mpc_grammar.specs.PlantGrammar.{plain_rule, plant, UsesAll}
use Rattle.mpc_grammar.specs.LawGrammar.{written_laws, forms, NamedLaw, named_laws, used_by, law_named}
use Rattle.mpc_grammar.specs.TreeGrammar.{IsWord, NodeOver, written_tree, planes, planes_used, named_tree, node_of, plane_named}

abbrev pub IsVersion : List ℕ → Version → Type 0
IsVersion text version = text ≡ count_line (codes "mpc") (number_of version)

abbrev pub parts_with : Plant → List Law → List Node → Parts
parts_with plant laws tree = record { plant = plant; laws = laws; tree = tree }

-- the laws and the tree, with their forms and rows written out
abbrev pub written : Plant → Grammar Parts
written plant =
    written_laws plant >>= λ laws. written_tree plant (length laws) >>= λ tree. one_line (plain_rule (IsWord (codes "end"))) >>= λ u. give (parts_with plant laws tree)

abbrev pub parts_named : Plant → List (List ℚ) → List NamedLaw → List RowInt → List (NodeOver ℕ) → Parts
parts_named plant fs laws ps nodes = parts_with plant (map (law_named plant fs) laws) (map (node_of (plane_named ps)) nodes)

-- the laws and the tree, with their forms and planes named; the last line stands behind a tree that uses all planes
abbrev pub named : Plant → Grammar Parts
named plant =
    forms plant >>= λ fs. named_laws plant fs >>= λ laws. planes plant (length fs) (used_by laws) >>= λ ps. named_tree plant (length laws) ps >>= λ ns.
    one_line (plain_rule (UsesAll (length ps) (planes_used ns) (IsWord (codes "end")))) >>= λ u. give (parts_named plant fs laws ps ns)

-- what stands behind the plant
abbrev pub behind_plant : Version → Plant → Grammar Parts
behind_plant Three plant = named plant
behind_plant other plant = written plant

abbrev pub start : List ℕ → Cursor
start bytes = record { rest = bytes; number = 1 }

-- the version of a text and the controller that it spells, whose last line nothing follows
pub record Spells (bytes : List ℕ) (version : Version) (parts : Parts) : Type 0 where
  pub behind_first : Cursor
  pub first : (one_line (plain_rule IsVersion)).Reads (start bytes) version behind_first
  pub number : ℕ
  pub lines : (plant version >>= behind_plant version).Reads behind_first parts (record { rest = []; number = number })

abbrev pub whole_file : Grammar Parts
whole_file = one_line (plain_rule IsVersion) >>= λ version. plant version >>= behind_plant version

-- the lines are those of a controller, and a byte follows the last one
abbrev pub HasTail : List ℕ → ℕ → Type 0
HasTail bytes number = (parts : Parts) × ((behind : Cursor) × (whole_file.Reads (start bytes) parts behind × (behind.rest ≢ []) × (number ≡ behind.number)))

-- the first line that fails, by its number from 1, and why
abbrev pub FailsAt : List ℕ → FileKind → ℕ → Type 0
FailsAt bytes kind number = whole_file.Fails (start bytes) kind number ⊎ ((kind ≡ TailAfterEnd) × HasTail bytes number)

-- the bytes are the controller's text in one of the versions
abbrev pub IsSpelled : List ℕ → Parts → Type 0
IsSpelled bytes parts = (version : Version) × Spells bytes version parts

-- why bytes are no controller's file; nothing is said of want of memory
abbrev pub ExplainsFileError : List ℕ → FileError → Type 0
ExplainsFileError bytes (Bad kind number) = FailsAt bytes kind number
ExplainsFileError bytes NoMemory = Unit {0}
