-- The lines of a controller's laws. In versions 1 and 2 a law's forms stand behind its set. In version 3 the different forms stand before
-- all laws, numbered from 1 in the order in which the laws use them first, and the laws name them.
use Rattle.std.specs.Prelude.{◌≡◌, ℕ, ◌+◌, ◌-◌, ◌*◌, ◌^◌, ◌<◌, ◌≤◌, nat_lt, cond, List, [], ◌∷◌, length, map, fold, All, codes, decimal, slice_index_or, take}
use Rattle.mpc_exact.specs.Rational.{ℚ}
use Rattle.mpc_space.specs.Matrix.{RationalMatrix}
use Rattle.mpc_sets.specs.RowSet.{IsSetOfRows}
use Rattle.mpc_plant.specs.declared.plants.Plant.{Plant}
use Rattle.mpc_rows.specs.declared.laws.Law.{Law}
use Rattle.mpc_controller.specs.Parts.{limits_of, row_count}
use Rattle.mpc_controller.specs.Bounds.{FormFits}
use Rattle.mpc_grammar.specs.Reading.{LineRule, Grammar, one_line, give, ◌>>=◌, many}
use Rattle.mpc_words.specs.Words.{line}
use Rattle.mpc_grammar.specs.PlantGrammar.{bounded_rule, plain_rule, AreNumbers, IsNumber, so_many, StatesNew}

-- the number of unknowns of the plant's program
abbrev pub unknowns : Plant → ℕ
unknowns plant = plant.p * plant.horizon

-- ---- a law's set
pub record IsLawLine (plant : Plant) (text : List ℕ) (set : List ℕ) : Type 0 where
  pub spelled : text ≡ line (codes "law") (map decimal set)
  pub set_of_rows : IsSetOfRows (row_count plant) set
  pub few : length set ≤ unknowns plant

-- ---- forms that are written out
-- each has the coefficients of an affine form of the states, the constant first; those of the first step's moves are bounded
abbrev pub move_rule : Plant → ℕ → LineRule (List ℚ)
move_rule plant index = bounded_rule (AreNumbers (codes "move") (plant.n + 1)) (λ form. (index < plant.p) × (¬ FormFits (limits_of plant) form))

abbrev pub moves : Plant → Grammar (List (List ℚ))
moves plant = many (λ (before : List (List ℚ)). one_line (move_rule plant (length before))) (λ (before : List (List ℚ)). nat_lt (length before) (unknowns plant))

abbrev pub mults : Plant → ℕ → Grammar (List (List ℚ))
mults plant members = so_many members (plain_rule (AreNumbers (codes "mult") (plant.n + 1)))

abbrev pub matrix_of : Plant → List (List ℚ) → RationalMatrix
matrix_of plant rows = record { rows = rows; columns = plant.n + 1 }

abbrev pub law_with : Plant → List ℕ → List (List ℚ) → List (List ℚ) → Law
law_with plant set zs ls = record { set = set; moves = matrix_of plant zs; mults = matrix_of plant ls }

abbrev pub written_law : Plant → Grammar Law
written_law plant =
    one_line (plain_rule (IsLawLine plant)) >>= λ set. moves plant >>= λ zs. mults plant (length set) >>= λ ls. give (law_with plant set zs ls)

-- ---- the number of laws
abbrev pub law_count : Grammar ℕ
law_count = one_line (plain_rule (IsNumber (codes "laws") (λ number. number ≤ 4598479)))

abbrev pub written_laws : Plant → Grammar (List Law)
written_laws plant = law_count >>= λ count. many (λ before. written_law plant) (λ (before : List Law). nat_lt (length before) count)

-- ---- forms that are named
-- their number has at most 18 digits, and no two are equal
abbrev pub forms : Plant → Grammar (List (List ℚ))
forms plant =
    one_line (plain_rule (IsNumber (codes "forms") (λ number. number < 10 ^ 18))) >>= λ count. many (λ before. one_line (plain_rule (StatesNew before (AreNumbers (codes "form") (plant.n + 1))))) (λ (before : List (List ℚ)). nat_lt (length before) count)

-- the numbers name forms, of which so many are used before: each is from 1 to the number of forms, and at most the next one that isn't used
abbrev pub NameForms : ℕ → ℕ → List ℕ → Type 0
NameForms all used [] = Unit {0}
NameForms all used (k ∷ ks) = (1 ≤ k) × (k ≤ all) × (k ≤ used + 1) × NameForms all (cond (nat_lt used k) k used) ks

-- how many forms are used behind these numbers, too
abbrev pub used_behind : ℕ → List ℕ → ℕ
used_behind used [] = used
used_behind used (k ∷ ks) = used_behind (cond (nat_lt used k) k used) ks

-- the form with a number
abbrev pub form_named : List (List ℚ) → ℕ → List ℚ
form_named fs k = slice_index_or fs (k - 1) []

pub record AreFormNumbers (name : List ℕ) (all used count : ℕ) (text : List ℕ) (numbers : List ℕ) : Type 0 where
  pub spelled : text ≡ line name (map decimal numbers)
  pub size : length numbers ≡ count
  pub name_forms : NameForms all used numbers

-- the first step's forms fit
abbrev pub named_moves_rule : Plant → List (List ℚ) → ℕ → LineRule (List ℕ)
named_moves_rule plant fs used =
    bounded_rule (AreFormNumbers (codes "move") (length fs) used (unknowns plant)) (λ numbers. ¬ All (λ k. FormFits (limits_of plant) (form_named fs k)) (take plant.p numbers))

-- a law of the empty set has no line of multipliers
abbrev pub named_mults : List (List ℚ) → ℕ → List ℕ → Grammar (List ℕ)
named_mults fs used [] = give []
named_mults fs used (i ∷ set) = one_line (plain_rule (AreFormNumbers (codes "mult") (length fs) used (length (i ∷ set))))

-- a law whose forms are named
pub record NamedLaw : Type 0 where
  pub set : List ℕ
  pub moves : List ℕ
  pub mults : List ℕ

abbrev pub used_by : List NamedLaw → ℕ
used_by laws = fold (λ used law. used_behind (used_behind used law.moves) law.mults) 0 laws

abbrev pub named_law : Plant → List (List ℚ) → ℕ → Grammar NamedLaw
named_law plant fs used =
    one_line (plain_rule (IsLawLine plant)) >>= λ set. one_line (named_moves_rule plant fs used) >>= λ zs. named_mults fs (used_behind used zs) set >>= λ ls.
    give (record { set = set; moves = zs; mults = ls })

abbrev pub named_laws : Plant → List (List ℚ) → Grammar (List NamedLaw)
named_laws plant fs = law_count >>= λ count. many (λ (before : List NamedLaw). named_law plant fs (used_by before)) (λ (before : List NamedLaw). nat_lt (length before) count)

-- the law that it is
abbrev pub law_named : Plant → List (List ℚ) → NamedLaw → Law
law_named plant fs law = law_with plant law.set (map (form_named fs) law.moves) (map (form_named fs) law.mults)
