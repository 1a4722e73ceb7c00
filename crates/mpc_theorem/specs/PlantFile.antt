-- What a plant file says, key by key.
use Rattle.std.specs.Prelude.{◌≡◌, ◌↔◌, ℕ, ℤ, pos, List, [], ◌∷◌, ◌++◌, Contains, codes, replicate, Some, MatchOption, IsUtf8}
use Rattle.serde_json.specs.Data.{Data, string, array, Items, no_items, item}
use Rattle.serde_json.specs.Find.{get}
use Rattle.serde_json.specs.Read.{read}
use Rattle.mpc_exact.specs.Rational.{ℚ, int}
use Rattle.mpc_plant.specs.Numbers.{integer_of}
use Rattle.mpc_plant.specs.declared.lists.PlantRow.{PlantRow}
use Rattle.mpc_plant.specs.declared.lists.Coordinate.{Coordinate}
use Rattle.mpc_plant.specs.declared.plants.Plant.{Plant}
use Rattle.mpc_plant.specs.WholePlant.{ReadsAsPlant}
use Rattle.mpc_theorem.specs.PlantNumbers.{IsSpelled}

-- ---- numbers and lists
abbrev pub IsInteger : ℤ → Data → Type 0
IsInteger z d = integer_of d ≡ Some z

-- an integer, or a text that spells a number
pub data IsNumber (x : ℚ) (d : Data) : Type 0 where
  whole : (z : ℤ) → IsInteger z d → x ≡ int z → IsNumber x d
  spelled : (text : List ℕ) → d ≡ string text → IsSpelled x text → IsNumber x d

-- one item for each element, in their order
pub data AreItems {A : Type 0} (Is : A → Data → Type 0) : List A → Items → Type 0 where
  no_more : AreItems Is [] no_items
  one_more : (x : A) (d : Data) (xs : List A) (ds : Items) → Is x d → AreItems Is xs ds → AreItems Is (x ∷ xs) (item d ds)

pub record IsList {A : Type 0} (Is : A → Data → Type 0) (xs : List A) (d : Data) : Type 0 where
  pub items : Items
  pub list : d ≡ array items
  pub are : AreItems Is xs items

abbrev pub IsVector : List ℚ → Data → Type 0
IsVector xs d = IsList IsNumber xs d

-- the list of its rows
abbrev pub IsMatrix : List (List ℚ) → Data → Type 0
IsMatrix rows d = IsList IsVector rows d

-- ---- objects
-- what stands at a key
pub record At (key : List ℕ) (d : Data) (Is : Data → Type 0) : Type 0 where
  pub value : Data
  pub found : get key d ≡ Some value
  pub is : Is value

-- or nothing stands there, and then something else holds
abbrev pub AtOr : List ℕ → Data → Type 0 → (Data → Type 0) → Type 0
AtOr key d Absent Is = MatchOption (get key d) Absent Is

-- nothing stands at another key
abbrev pub HasOnly : List (List ℕ) → Data → Type 0
HasOnly keys d = (key : List ℕ) (value : Data) → get key d ≡ Some value → Contains keys key

abbrev pub IsVectorOrZeros : List ℕ → ℕ → List ℚ → Data → Type 0
IsVectorOrZeros key size xs d = AtOr key d (xs ≡ replicate size (int (pos 0))) (IsVector xs)

-- x·state + u·move <= max, on n states and p inputs
pub record IsRow (n p : ℕ) (row : PlantRow) (d : Data) : Type 0 where
  pub keys : HasOnly (codes "x" ∷ codes "u" ∷ codes "max" ∷ []) d
  pub x : IsVectorOrZeros (codes "x") n row.x d
  pub u : IsVectorOrZeros (codes "u") p row.u d
  pub max : At (codes "max") d (IsNumber row.max)

-- x·state <= max; by the type of a plant such a row weighs no input
pub record IsTerminalRow (row : PlantRow) (d : Data) : Type 0 where
  pub keys : HasOnly (codes "x" ∷ codes "max" ∷ []) d
  pub x : At (codes "x") d (IsVector row.x)
  pub max : At (codes "max") d (IsNumber row.max)

-- the values low + step t for t from 0 to count
pub record IsAxis (axis : Coordinate) (d : Data) : Type 0 where
  pub keys : HasOnly (codes "low" ∷ codes "step" ∷ codes "count" ∷ []) d
  pub low : At (codes "low") d (IsNumber axis.low)
  pub step : At (codes "step") d (IsNumber axis.step)
  pub count : At (codes "count") d (IsInteger (pos axis.count))

-- ---- the file
-- the keys of version 1, and those of version 2
abbrev pub keys_of_one : List (List ℕ)
keys_of_one = codes "version" ∷ codes "horizon" ∷ codes "A" ∷ codes "B" ∷ codes "Q" ∷ codes "R" ∷ codes "P" ∷ codes "rows" ∷ codes "terminal" ∷ codes "grid" ∷ []

abbrev pub keys_of_two : List (List ℕ)
keys_of_two = keys_of_one ++ codes "drift" ∷ codes "xgoal" ∷ codes "ugoal" ∷ []

-- the version, and nothing at a key that it hasn't
pub data IsEdition (d : Data) : Type 0 where
  one : At (codes "version") d (IsInteger (pos 1)) → HasOnly keys_of_one d → IsEdition d
  two : At (codes "version") d (IsInteger (pos 2)) → HasOnly keys_of_two d → IsEdition d

-- The plant's parts, each at its key. Their sizes, the symmetry of the weights and all limits are a fact of the type `Plant`.
pub record IsPlantFile (plant : Plant) (d : Data) : Type 0 where
  pub edition : IsEdition d
  pub horizon : At (codes "horizon") d (IsInteger (pos plant.horizon))
  pub a : At (codes "A") d (IsMatrix plant.a.rows)
  pub b : At (codes "B") d (IsMatrix plant.b.rows)
  pub q : At (codes "Q") d (IsMatrix plant.q.rows)
  pub r : At (codes "R") d (IsMatrix plant.r.rows)
  pub last : At (codes "P") d (IsMatrix plant.last.rows)
  pub drift : IsVectorOrZeros (codes "drift") plant.n plant.drift d
  pub xgoal : IsVectorOrZeros (codes "xgoal") plant.n plant.xgoal d
  pub ugoal : IsVectorOrZeros (codes "ugoal") plant.p plant.ugoal d
  pub rows : AtOr (codes "rows") d (plant.rows ≡ []) (IsList (IsRow plant.n plant.p) plant.rows)
  pub terminal : AtOr (codes "terminal") d (plant.terminal ≡ []) (IsList IsTerminalRow plant.terminal)
  pub grid : At (codes "grid") d (IsList IsAxis plant.grid)

-- bytes that are a JSON text whose value is the file of the plant
pub record IsPlantText (bytes : List ℕ) (plant : Plant) : Type 0 where
  pub text : IsUtf8 bytes
  pub value : Data
  pub json : read bytes ≡ Some value
  pub file : IsPlantFile plant value

-- a text is that of one plant at most
abbrev pub OnePlantText : Type 0
OnePlantText = (bytes : List ℕ) (one other : Plant) → IsPlantText bytes one → IsPlantText bytes other → one ≡ other

-- just the plant texts pass all checks, and give that plant
abbrev pub PlantTextsAreRead : Type 0
PlantTextsAreRead = (bytes : List ℕ) (plant : Plant) → ReadsAsPlant bytes plant ↔ IsPlantText bytes plant
