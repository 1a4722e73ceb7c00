-- What a check of a plant file gives: a value, or what is wrong and where.
use Rattle.std.specs.Prelude.{ℕ, suc, List, [], ◌∷◌, decimal, Result, Ok, Err, Bool, if◌then◌else◌, ⊤}
use Rattle.serde_json.specs.Data.{Data, Items, no_items, item}
use Rattle.mpc_plant.specs.Paths.{below}
use Rattle.mpc_plant.specs.declared.faults.PlantKind.{PlantKind}

-- a value, or the first fault: its kind and its path
abbrev pub Checked : Type 0 → Type 0
Checked A = Result A (PlantKind × List ℕ)

-- one check after another
infixl 10 ◌>>=◌
abbrev pub ◌>>=◌ : {A B : Type 0} → Checked A → (A → Checked B) → Checked B
(Ok x) >>= f = f x
(Err fault) >>= f = Err fault

-- a fault at the value itself
abbrev pub fault : {A : Type 0} → PlantKind → Checked A
fault kind = Err (kind, [])

-- the value, if the test holds
abbrev pub ensure : Bool → PlantKind → Checked ⊤
ensure test kind = if test then Ok tt else fault kind

-- what was checked at a key or a position, seen from one level higher
abbrev pub under : {A : Type 0} → List ℕ → Checked A → Checked A
under segment (Ok x) = Ok x
under segment (Err fault) = Err (fault.0, below segment fault.1)

-- the items of a list from the position i on, checked one after another
abbrev pub each : {A : Type 0} → (Data → Checked A) → ℕ → Items → Checked (List A)
each check i no_items = Ok []
each check i (item d ds) = under (decimal i) (check d) >>= λ x. each check (suc i) ds >>= λ xs. Ok (x ∷ xs)
