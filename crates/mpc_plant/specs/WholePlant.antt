-- All checks of a plant file, in their order, and what bytes read as a plant.
use Rattle.std.specs.Prelude.{◌≡◌, ℕ, ◌+◌, ◌*◌, ◌⊎◌, List, [], length, codes, nat_le, Some, None, Ok, Err, IsUtf8, ⊤}
use Rattle.serde_json.specs.Data.{Data, Items}
use Rattle.serde_json.specs.Events.{items_len}
use Rattle.serde_json.specs.Find.{get}
use Rattle.serde_json.specs.Read.{read}
use Rattle.mpc_exact.specs.Rational.{ℚ}
use Rattle.mpc_plant.specs.declared.faults.PlantKind.{PlantKind}
use Rattle.mpc_plant.specs.declared.faults.PlantKind.TheVariants.{NotJson, OverLimit}
use Rattle.mpc_plant.specs.declared.lists.PlantRow.{PlantRow}
use Rattle.mpc_plant.specs.declared.lists.Coordinate.{Coordinate}
use Rattle.mpc_plant.specs.declared.plants.Plant.{Plant}
use Rattle.mpc_plant.specs.Faults.{Checked, ◌>>=◌, ensure, under, each}
use Rattle.mpc_plant.specs.Limits.{row_limit}
use Rattle.mpc_plant.specs.CheckedRows.{vector_or_zeros, stage_row_of, terminal_row_of}
use Rattle.mpc_plant.specs.CheckedPlant.{at_key, keys_of, edition_of, horizon_of, square_of, side_of, weight_of, width, list_or_none, grid_of}

-- the keys, the version, and then the horizon
abbrev pub head_of : Data → Checked ℕ
head_of d = keys_of d >>= λ _. edition_of d >>= λ _. at_key (codes "horizon") horizon_of d

-- A and B, of which each step's moves together have at most six entries
pub record Dynamics : Type 0 where
  pub a : List (List ℚ)
  pub b : List (List ℚ)

abbrev pub dynamics_of : ℕ → Data → Checked Dynamics
dynamics_of steps d =
    at_key (codes "A") square_of d >>= λ a. at_key (codes "B") (side_of (length a)) d >>= λ b. under (codes "horizon") (ensure (nat_le (width b * steps) 6) OverLimit) >>= λ _.
    Ok (record { a = a; b = b })

-- Q, R and P
pub record Weights : Type 0 where
  pub q : List (List ℚ)
  pub r : List (List ℚ)
  pub last : List (List ℚ)

abbrev pub weights_of : ℕ → ℕ → Data → Checked Weights
weights_of n p d =
    at_key (codes "Q") (weight_of n) d >>= λ q. at_key (codes "R") (weight_of p) d >>= λ r. at_key (codes "P") (weight_of n) d >>= λ last. Ok (record { q = q; r = r; last = last })

-- the drift, and where state and moves are to be
pub record Targets : Type 0 where
  pub drift : List ℚ
  pub xgoal : List ℚ
  pub ugoal : List ℚ

-- zeros where a key is absent
abbrev pub targets_of : ℕ → ℕ → Data → Checked Targets
targets_of n p d =
    vector_or_zeros (codes "drift") n (get (codes "drift") d) >>= λ drift. vector_or_zeros (codes "xgoal") n (get (codes "xgoal") d) >>= λ xgoal. vector_or_zeros (codes "ugoal") p (get (codes "ugoal") d) >>= λ ugoal.
    Ok (record { drift = drift; xgoal = xgoal; ugoal = ugoal })

-- the rows, of which there are only so many over all steps and the end
pub record RowLists : Type 0 where
  pub rows : List PlantRow
  pub terminal : List PlantRow

abbrev pub few_rows : ℕ → ℕ → Items → Items → Checked ⊤
few_rows steps p stage end = ensure (nat_le (steps * items_len stage + items_len end) (row_limit (p * steps))) OverLimit

abbrev pub row_lists_of : ℕ → ℕ → ℕ → Data → Checked RowLists
row_lists_of steps n p d =
    list_or_none (codes "rows") (get (codes "rows") d) >>= λ stage. list_or_none (codes "terminal") (get (codes "terminal") d) >>= λ end.
    under (codes "rows") (few_rows steps p stage end) >>= λ _. under (codes "rows") (each (stage_row_of n p) 0 stage) >>= λ rows.
    under (codes "terminal") (each (terminal_row_of n) 0 end) >>= λ terminal. Ok (record { rows = rows; terminal = terminal })

-- what a plant file states
pub record Parts : Type 0 where
  pub horizon : ℕ
  pub dynamics : Dynamics
  pub weights : Weights
  pub targets : Targets
  pub row_lists : RowLists
  pub grid : List Coordinate

-- all checks, one after another
abbrev pub parts_of : Data → Checked Parts
parts_of d =
    head_of d >>= λ steps. dynamics_of steps d >>= λ dynamics. weights_of (length dynamics.a) (width dynamics.b) d >>= λ weights. targets_of (length dynamics.a) (width dynamics.b) d >>= λ targets.
    row_lists_of steps (length dynamics.a) (width dynamics.b) d >>= λ lists. at_key (codes "grid") (grid_of (length dynamics.a)) d >>= λ grid. Ok (record { horizon = steps; dynamics = dynamics; weights = weights; targets = targets; row_lists = lists; grid = grid })

-- what a plant states
abbrev pub stated_by : Plant → Parts
stated_by plant = record {
  horizon = plant.horizon;
  dynamics = record { a = plant.a.rows; b = plant.b.rows };
  weights = record { q = plant.q.rows; r = plant.r.rows; last = plant.last.rows };
  targets = record { drift = plant.drift; xgoal = plant.xgoal; ugoal = plant.ugoal };
  row_lists = record { rows = plant.rows; terminal = plant.terminal };
  grid = plant.grid;
}

-- the bytes are the file of this plant
pub record ReadsAsPlant (bytes : List ℕ) (plant : Plant) : Type 0 where
  pub text : IsUtf8 bytes
  pub value : Data
  pub json : read bytes ≡ Some value
  pub checked : parts_of value ≡ Ok (stated_by plant)

-- the JSON value that bytes are fails a check, and this is the first one
pub record FailsAt (bytes : List ℕ) (kind : PlantKind) (path : List ℕ) : Type 0 where
  pub text : IsUtf8 bytes
  pub value : Data
  pub json : read bytes ≡ Some value
  pub failed : parts_of value ≡ Err (kind, path)

-- the bytes have no JSON reading
pub record IsNoJson (bytes : List ℕ) (kind : PlantKind) (path : List ℕ) : Type 0 where
  pub unread : IsUtf8 bytes → read bytes ≡ None
  pub kind_is : kind ≡ NotJson
  pub at_top : path ≡ []

-- the first check that fails
abbrev pub IsFirstFault : List ℕ → PlantKind → List ℕ → Type 0
IsFirstFault bytes kind path = IsNoJson bytes kind path ⊎ FailsAt bytes kind path
