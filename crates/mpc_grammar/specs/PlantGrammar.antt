-- The lines of a plant: its sizes, its matrices, its drift and targets, its rows and its grid.
use Rattle.std.specs.Prelude.{◌≡◌, ℕ, ◌+◌, ◌*◌, ◌≤◌, nat_lt, List, [], ◌∷◌, ◌++◌, length, take, drop, All, Contains, codes, decimal, pos}
use Rattle.mpc_exact.specs.Rational.{ℚ, int}
use Rattle.mpc_space.specs.Vector.{zeros, IsSymmetric}
use Rattle.mpc_space.specs.Matrix.{RationalMatrix}
use Rattle.mpc_frac.specs.Fits.{FitsFrac}
use Rattle.mpc_linear.specs.Shape.{HasShape}
use Rattle.mpc_plant.specs.Limits.{IsFromTo, FitsRow, IsCoordinate}
use Rattle.mpc_plant.specs.declared.plants.Plant.{Plant}
use Rattle.mpc_plant.specs.declared.lists.PlantRow.{PlantRow}
use Rattle.mpc_plant.specs.declared.lists.Coordinate.{Coordinate}
use Rattle.mpc_grammar.specs.Reading.{LineRule, Grammar, one_line, give, that_which, ◌>>=◌, many}
use Rattle.mpc_words.specs.Words.{line}
use Rattle.mpc_grammar.specs.Lines.{count_line, fractions_line, matrix_line, row_line, grid_line}
use Rattle.mpc_grammar.specs.Versions.{greatest_rows}
use Rattle.mpc_grammar.specs.declared.versions.Version.{Version}
use Rattle.mpc_grammar.specs.declared.versions.Version.TheVariants.{One, Two, Three}
use Rattle.mpc_grammar.specs.declared.plant_parts.Sizes.{Sizes}
use Rattle.mpc_grammar.specs.declared.plant_parts.Dynamics.{Dynamics}
use Rattle.mpc_grammar.specs.declared.plant_parts.Weights.{Weights}
use Rattle.mpc_grammar.specs.declared.plant_parts.Offsets.{Offsets}
use Rattle.mpc_grammar.specs.declared.plant_parts.Limits.{Limits}

-- each fraction has parts of at most 2^127 - 1 in size
abbrev pub AllFit : List ℚ → Type 0
AllFit xs = All FitsFrac xs

-- ---- lines of most kinds
-- a line that is never refused for a node
abbrev pub bounded_rule : {X : Type 0} → (List ℕ → X → Type 0) → (X → Type 0) → LineRule X
bounded_rule states over = record { States = states; IsNoNode = λ text. ⊥; IsOver = over }

-- nor for a bound
abbrev pub plain_rule : {X : Type 0} → (List ℕ → X → Type 0) → LineRule X
plain_rule states = bounded_rule states (λ x. ⊥)

-- so many fractions behind a name
pub record AreNumbers (name : List ℕ) (count : ℕ) (text : List ℕ) (numbers : List ℚ) : Type 0 where
  pub spelled : text ≡ fractions_line name numbers
  pub size : length numbers ≡ count
  pub fits : AllFit numbers

-- one whole number behind a name
pub record IsNumber (name : List ℕ) (IsAllowed : ℕ → Type 0) (text : List ℕ) (number : ℕ) : Type 0 where
  pub spelled : text ≡ count_line name number
  pub allowed : IsAllowed number

-- what the line states is none of these
pub record StatesNew {X : Type 0} (before : List X) (States : List ℕ → X → Type 0) (text : List ℕ) (x : X) : Type 0 where
  pub stated : States text x
  pub new_one : ¬ Contains before x

-- the lines before it use all that is numbered
pub record UsesAll {X : Type 0} (all used : ℕ) (States : List ℕ → X → Type 0) (text : List ℕ) (x : X) : Type 0 where
  pub stated : States text x
  pub all_used : used ≡ all

-- ---- the sizes
pub record AreSizes (text : List ℕ) (s : Sizes) : Type 0 where
  pub spelled : text ≡ line (codes "size") (decimal s.states ∷ decimal s.inputs ∷ decimal s.steps ∷ [])
  pub states : IsFromTo 1 4 s.states
  pub inputs : IsFromTo 1 3 s.inputs
  pub steps : IsFromTo 1 6 s.steps
  pub moves_few : s.inputs * s.steps ≤ 6

-- ---- the matrices
-- the line of a matrix of so many rows and columns, whose entries stand row by row
pub record IsMatrix (name : List ℕ) (rows columns : ℕ) (text : List ℕ) (m : RationalMatrix) : Type 0 where
  pub spelled : text ≡ matrix_line name m
  pub shape : HasShape m rows columns
  pub fits : All AllFit m.rows

-- that of a square, symmetric one
pub record IsWeightLine (name : List ℕ) (size : ℕ) (text : List ℕ) (m : RationalMatrix) : Type 0 where
  pub matrix_is : IsMatrix name size size text m
  pub symmetric : IsSymmetric m.rows

abbrev pub matrix : List ℕ → ℕ → ℕ → Grammar RationalMatrix
matrix name rows columns = one_line (plain_rule (IsMatrix name rows columns))

abbrev pub weight : List ℕ → ℕ → Grammar RationalMatrix
weight name size = one_line (plain_rule (IsWeightLine name size))

abbrev pub dynamics : Sizes → Grammar Dynamics
dynamics s = matrix (codes "A") s.states s.states >>= λ a. matrix (codes "B") s.states s.inputs >>= λ b. give (record { a = a; b = b })

abbrev pub weights : Sizes → Grammar Weights
weights s =
    weight (codes "Q") s.states >>= λ q. weight (codes "R") s.inputs >>= λ r. weight (codes "P") s.states >>= λ last. give (record { q = q; r = r; last = last })

-- ---- the drift, and where state and moves are to be
abbrev pub AreZero : List ℚ → Type 0
AreZero xs = All (λ x. x ≡ int (pos 0)) xs

-- the goal: the targets of the state, and then those of the input
abbrev pub offsets_with : Sizes → List ℚ → List ℚ → Offsets
offsets_with s drift goal = record { drift = drift; xgoal = take s.states goal; ugoal = drop s.states goal }

-- a text of version 2 tells of a drift or a target that isn't 0
abbrev pub MayHave : Version → List ℚ → List ℚ → Type 0
MayHave One drift goal = AreZero drift × AreZero goal
MayHave Two drift goal = ¬ (AreZero drift × AreZero goal)
MayHave Three drift goal = Unit {0}

pub record IsGoal (version : Version) (s : Sizes) (drift : List ℚ) (text : List ℕ) (goal : List ℚ) : Type 0 where
  pub numbers_are : AreNumbers (codes "goal") (s.states + s.inputs) text goal
  pub allowed : MayHave version drift goal

-- the two lines of the offsets, which version 1 hasn't
abbrev pub offset_lines : Version → Sizes → Grammar Offsets
offset_lines version s =
    one_line (plain_rule (AreNumbers (codes "drift") s.states)) >>= λ drift. one_line (plain_rule (IsGoal version s drift)) >>= λ goal. give (offsets_with s drift goal)

abbrev pub offsets : Version → Sizes → Grammar Offsets
offsets One s = give (record { drift = zeros s.states; xgoal = zeros s.states; ugoal = zeros s.inputs })
offsets version s = offset_lines version s

-- ---- the rows
-- a row of the end weighs no inputs
pub record IsRow (name : List ℕ) (states inputs : ℕ) (text : List ℕ) (row : PlantRow) : Type 0 where
  pub spelled : text ≡ row_line name row
  pub sizes : FitsRow states inputs row
  pub fits : AllFit (row.x ++ row.u ++ row.max ∷ [])

-- so many items, each by the same rule
abbrev pub so_many : {X : Type 0} → ℕ → LineRule X → Grammar (List X)
so_many {X} count rule = many (λ items. one_line rule) (λ (items : List X). nat_lt (length items) count)

-- there are only so many rows over all steps and the end
abbrev pub row_list : Version → Sizes → Grammar (List PlantRow)
row_list version s =
    one_line (plain_rule (IsNumber (codes "rows") (λ number. s.steps * number + 0 ≤ greatest_rows version (s.inputs * s.steps)))) >>= λ count. so_many count (plain_rule (IsRow (codes "row") s.states s.inputs))

abbrev pub last_list : Version → Sizes → List PlantRow → Grammar (List PlantRow)
last_list version s rows =
    one_line (plain_rule (IsNumber (codes "terminal") (λ number. 1 * number + s.steps * length rows ≤ greatest_rows version (s.inputs * s.steps)))) >>= λ count. so_many count (plain_rule (IsRow (codes "last") s.states 0))

-- ---- the grid
pub record IsAxis (text : List ℕ) (axis : Coordinate) : Type 0 where
  pub spelled : text ≡ grid_line axis
  pub allowed : IsCoordinate axis
  pub fits : AllFit (axis.low ∷ axis.step ∷ [])

-- ---- the plant
abbrev pub limits : Version → Sizes → Grammar Limits
limits version s =
    row_list version s >>= λ rows. last_list version s rows >>= λ terminal. so_many s.states (plain_rule IsAxis) >>= λ axes. give (record { rows = rows; terminal = terminal; axes = axes })

-- the plant of these parts
pub record IsPlantWith (s : Sizes) (d : Dynamics) (w : Weights) (o : Offsets) (l : Limits) (plant : Plant) : Type 0 where
  pub n : plant.n ≡ s.states
  pub p : plant.p ≡ s.inputs
  pub horizon : plant.horizon ≡ s.steps
  pub a : plant.a ≡ d.a
  pub b : plant.b ≡ d.b
  pub q : plant.q ≡ w.q
  pub r : plant.r ≡ w.r
  pub last : plant.last ≡ w.last
  pub drift : plant.drift ≡ o.drift
  pub xgoal : plant.xgoal ≡ o.xgoal
  pub ugoal : plant.ugoal ≡ o.ugoal
  pub rows : plant.rows ≡ l.rows
  pub terminal : plant.terminal ≡ l.terminal
  pub grid : plant.grid ≡ l.axes

abbrev pub plant : Version → Grammar Plant
plant version =
    one_line (plain_rule AreSizes) >>= λ s. dynamics s >>= λ d. weights s >>= λ w. offsets version s >>= λ o. limits version s >>= λ l. that_which (IsPlantWith s d w o l)
