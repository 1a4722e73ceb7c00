-- The block of a controller: what its replies need, in words of 64 bits, without a pointer.
--
-- A block is a list of lines: the head, of twelve words, a line for each node of the search tree, in preorder, and then for each law a line
-- for each input. These have six words where each row of the tree and each first move of a law keep within 63 bits at all counts of the
-- grid, with a word for each number, and twelve otherwise, with two. Words that are not named here can be anything.
--
--   head    0 the layout's version    1 how many words the block has    2 coordinates, n    3 inputs, p    4 .. the greatest count of each
--           coordinate    8 nodes    9 laws    10 the height of the tree    11 how many words a number has, 1 or 2
--   split   0 the word at which the line of its no side begins; the numbers 1 .. are the bound of its row and the n entries
--   leaf    0 zero    1 its law, from 1, or zero where it has none    2 the word at which the law's first line begins
--   input   the numbers 0 .. are the least common denominator and the n + 1 numerators of its first move, the constant first
use Rattle.std.specs.Prelude.{◌≡◌, ℕ, ◌+◌, ◌-◌, ◌*◌, ◌^◌, ◌<◌, ◌≤◌, max, Bool, true, ◌&&◌, nat_lt, if◌then◌else◌, pos, unsigned_abs, List, ◌∷◌, length, map, take, slice_get, slice_index, slice_range, Some}
use Rattle.std.specs.List.{list_all}
use Rattle.mpc_exact.specs.Rational.{ℚ}
use Rattle.mpc_exact.specs.Denominator.{common_denom}
use Rattle.mpc_linear.specs.Whole.{scaled}
use Rattle.mpc_linear.specs.declared.integers.IntAffine.{IntAffine}
use Rattle.mpc_linear.specs.declared.integers.RowInt.{RowInt}
use Rattle.mpc_plant.specs.declared.plants.Plant.{Plant}
use Rattle.mpc_rows.specs.declared.laws.Law.{Law as LawOfSet}
use Rattle.mpc_rows.specs.declared.trees.Node.{Node}
use Rattle.mpc_rows.specs.declared.trees.Node.TheVariants.{Split, Law, NoMove}
use Rattle.mpc_controller.specs.Parts.{Parts, limits_of}
use Rattle.mpc_controller.specs.Bounds.{reach, IsController, first_move_form}
use Rattle.mpc_controller.specs.Replies.{IsLawNumbered}
use Rattle.mpc_table.specs.Steps.{AreNoSides}
use Rattle.mpc_block.specs.declared.lines.TheConstants.{LAYOUT}
use Rattle.mpc_block.specs.declared.lines.Width.{Width}
use Rattle.mpc_block.specs.declared.lines.Width.TheVariants.{Short, Wide}
use Rattle.mpc_block.specs.Heights.{AreHeightsFrom}
use Rattle.mpc_block.specs.Words.{words_from, number_at, numbers_in}

-- ---- how wide numbers are
-- the greatest counts of the plant's grid, and 1 where a coordinate has no other count than 0
abbrev pub spans_of : Plant → List ℕ
spans_of plant = map (λ axis. max axis.count 1) plant.grid

-- the row of a split keeps within 63 bits at such counts
abbrev pub row_fits_word : List ℕ → Node → Bool
row_fits_word spans (Split row) = nat_lt (unsigned_abs row.b + reach row.a spans) (2 ^ 63)
row_fits_word spans (Law law certs) = true
row_fits_word spans (NoMove cert) = true

-- the affine form with these coefficients, over their least common denominator
abbrev pub whole : List ℚ → IntAffine
whole form = record { den = pos (common_denom form); k = map (scaled (common_denom form)) form }

-- it keeps within 63 bits at such counts
abbrev pub form_fits_word : List ℕ → List ℚ → Bool
form_fits_word spans form = nat_lt (common_denom form) (2 ^ 63) && nat_lt (reach (whole form).k (1 ∷ spans)) (2 ^ 63)

-- and so does the first move of each of a law's inputs
abbrev pub law_fits_word : Plant → LawOfSet → Bool
law_fits_word plant law = list_all (form_fits_word (spans_of plant)) (take plant.p law.moves.rows)

abbrev pub width_of : Parts → Width
width_of parts = if list_all (row_fits_word (spans_of parts.plant)) parts.tree && list_all (law_fits_word parts.plant) parts.laws then Short else Wide

-- how many words a number has
abbrev pub words_each : Width → ℕ
words_each Short = 1
words_each Wide = 2

-- how many words a line behind the head has
abbrev pub line_size : Width → ℕ
line_size Short = 6
line_size Wide = 12

-- ---- where lines stand
-- the word at which the line at a place, from 0, begins
abbrev pub line_start : Width → ℕ → ℕ
line_start width place = 12 + line_size width * place

abbrev pub line_at : List ℕ → Width → ℕ → List ℕ
line_at words width place = words_from words (line_start width place) (line_size width)

-- the place of the line of the first input of a law, from 1: behind the nodes and the laws before it
abbrev pub law_place : Parts → ℕ → ℕ
law_place parts law = length parts.tree + (law - 1) * parts.plant.p

-- the word at which it begins
abbrev pub law_start : Parts → ℕ → ℕ
law_start parts law = line_start (width_of parts) (law_place parts law)

-- the line of an input, from 0, of a law
abbrev pub input_line : List ℕ → Parts → ℕ → ℕ → List ℕ
input_line words parts law input = line_at words (width_of parts) (law_place parts law + input)

-- how many words a controller's block has
abbrev pub block_size : Parts → ℕ
block_size parts = line_start (width_of parts) (length parts.tree + length parts.laws * parts.plant.p)

-- ---- what lines have
-- the line of a split, whose no side begins at this word
pub record IsSplitLine (width : Width) (side : ℕ) (row : RowInt) (line : List ℕ) : Type 0 where
  pub side_is : slice_index line 0 ≡ side
  pub row_is : take (length row.a + 1) (numbers_in width line) ≡ row.b ∷ row.a

-- the line of a leaf with this law, whose first line begins at this word
pub record IsLeafLine (law start : ℕ) (line : List ℕ) : Type 0 where
  pub zero_is : slice_index line 0 ≡ 0
  pub law_is : slice_index line 1 ≡ law
  pub start_is : slice_index line 2 ≡ start

-- the line of a node that leads to this word
abbrev pub IsNodeLine : Width → ℕ → Node → List ℕ → Type 0
IsNodeLine width word (Split row) line = IsSplitLine width word row line
IsNodeLine width word (Law law certs) line = IsLeafLine law word line
IsNodeLine width word (NoMove cert) line = IsLeafLine 0 word line

-- the word to which a node's line leads: that of a split, whose no side stands at a place, to the line of that one, and a leaf's to its law
abbrev pub word_after : Parts → ℕ → Node → ℕ
word_after parts side (Split row) = line_start (width_of parts) side
word_after parts side (Law law certs) = law_start parts law
word_after parts side (NoMove cert) = 0

-- the node at a place has its line
abbrev pub HasLine : List ℕ → Parts → ℕ → ℕ → Node → Type 0
HasLine words parts side place node = IsNodeLine (width_of parts) (word_after parts side node) node (line_at words (width_of parts) place)

-- the form of an input's line
abbrev pub form_in : Width → ℕ → List ℕ → IntAffine
form_in width n line = record { den = number_at width line 0; k = take (n + 1) (numbers_in width line) }

-- the line of an input of a law
abbrev pub IsFormLine : Parts → LawOfSet → ℕ → List ℕ → Type 0
IsFormLine parts law input line = form_in (width_of parts) parts.plant.n line ≡ whole (first_move_form law input)

-- the words begin with a block, by its own head, for so many coordinates and inputs
pub record HasHead (words : List ℕ) (coordinates inputs : ℕ) : Type 0 where
  pub long : 12 ≤ length words
  pub version : slice_index words 0 ≡ LAYOUT
  pub whole : slice_index words 1 ≤ length words
  pub coordinates_are : slice_index words 2 ≡ coordinates
  pub inputs_are : slice_index words 3 ≡ inputs
  pub few_coordinates : coordinates ≤ 4
  pub few_inputs : inputs ≤ 3

-- the words begin with the block of this controller
pub record IsBlockOf (words : List ℕ) (parts : Parts) : Type 0 where
  pub controller : IsController parts.plant parts.laws parts.tree
  pub long : block_size parts ≤ length words
  pub version : slice_index words 0 ≡ LAYOUT
  pub size : slice_index words 1 ≡ block_size parts
  pub coordinates : slice_index words 2 ≡ parts.plant.n
  pub inputs : slice_index words 3 ≡ parts.plant.p
  pub limits : slice_range words 4 (4 + parts.plant.n) ≡ limits_of parts.plant
  pub nodes : slice_index words 8 ≡ length parts.tree
  pub laws : slice_index words 9 ≡ length parts.laws
  pub sides : List ℕ
  pub are_sides : AreNoSides parts.tree sides
  pub heights : List ℕ
  pub are_heights : AreHeightsFrom parts.tree sides 0 heights
  pub height : slice_index words 10 ≡ slice_index heights 0
  pub width : slice_index words 11 ≡ words_each (width_of parts)
  pub tree : (place : ℕ) (node : Node) → slice_get parts.tree place ≡ Some node → HasLine words parts (slice_index sides place) place node
  pub forms : (law : ℕ) (of_set : LawOfSet) (input : ℕ) → IsLawNumbered parts.laws law of_set → input < parts.plant.p → IsFormLine parts of_set input (input_line words parts law input)
