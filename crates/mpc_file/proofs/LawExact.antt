-- The lines of laws are read in one way.
use Rattle.std.proofs.Common.{◌+◌, ◌≡◌, ℕ, ◌*◌, ◌^◌, ◌<◌, ◌≤◌, nat_lt, cond, List, [], ◌∷◌, length, codes, refl, sym, ◌∙◌, arith, All, length-append, ltb-true}
use Rattle.std.proofs.lemmas.List.Elements.{All-nil, All-cons}
use Rattle.mpc_exact.specs.Rational.{ℚ}
use Rattle.mpc_sets.specs.RowSet.{RisesWithin}
use Rattle.mpc_plant.specs.declared.plants.Plant.{Plant}
use Rattle.mpc_rows.specs.declared.laws.Law.{Law}
use Rattle.mpc_controller.specs.Parts.{row_count}
use Rattle.mpc_words.specs.Words.{IsWithout}
use Rattle.mpc_grammar.specs.declared.versions.Version.TheVariants.{Three}
use Rattle.mpc_grammar.specs.Reading.{Cursor, Grammar, one_line, ReadsItems, no_item, one_more}
use Rattle.mpc_grammar.specs.PlantGrammar.{plain_rule, AreNumbers, IsNumber, StatesNew}
use Rattle.mpc_grammar.specs.LawGrammar.{unknowns, IsLawLine, move_rule, moves, mults, law_with, written_law, law_count, written_laws, forms, NameForms, used_behind, AreFormNumbers, named_moves_rule, named_mults, NamedLaw, used_by, named_law, named_laws}
use Rattle.mpc_file.proofs.Exactness.{IsExactAt, CutTheorems, exact_line, exact_give, exact_both, exact_many}
use Rattle.mpc_grammar.specs.LineTheorems.{WordTheorems}
use Rattle.mpc_file.proofs.LineNumbers.{IsShortNumber, without, one_naturals, one_count, one_fractions}
use Rattle.mpc_file.proofs.PlantExact.{few_rows, exact_plain, exact_so_many}

-- ---- small numbers
pub row_count_few : (plant : Plant) → row_count plant ≤ 60
row_count_few plant = omega (arith, plant.is_plant.rows_few, few_rows Three (plant.p * plant.horizon))

rises_short : (low high : ℕ) (s : List ℕ) → high ≤ 60 → RisesWithin low high s → All IsShortNumber s
rises_short low high [] few h = All-nil IsShortNumber
rises_short low high (i ∷ s) few h =
    let here : i ≤ high = h.1 in
    All-cons IsShortNumber i s (omega arith) (rises_short i high s few h.2)

names_short : (all used : ℕ) (numbers : List ℕ) → all < 10 ^ 18 → NameForms all used numbers → All IsShortNumber numbers
names_short all used [] few h = All-nil IsShortNumber
names_short all used (k ∷ ks) few h =
    let here : k ≤ all = h.1 in
    All-cons IsShortNumber k ks (omega arith) (names_short all (cond (nat_lt used k) k used) ks few h.3)

-- items that are asked for by their number are no more than that
pub so_few : {X : Type 0} (item : List X → Grammar X) (count : ℕ) (here : Cursor) (items : List X) (behind : Cursor) → ReadsItems X item (λ items. nat_lt (length items) count) here items behind → length items ≤ count
so_few item count here items behind no_item = omega arith
so_few item count here items behind (one_more before between x end reads more one) =
    omega (arith, length-append before (x ∷ []), ltb-true (length before) count more)

module _ (cuts : CutTheorems) (laws : WordTheorems) where
  -- ---- written laws
  one_set : (plant : Plant) (line : List ℕ) (x y : List ℕ) → IsLawLine plant line x → IsLawLine plant line y → x ≡ y
  one_set plant line x y h k =
      one_naturals laws (codes "law") x y (without 32 (codes "law") refl) (rises_short 0 (row_count plant) x (row_count_few plant) h.set_of_rows.rises)
      (rises_short 0 (row_count plant) y (row_count_few plant) k.set_of_rows.rises) (sym h.spelled ∙ k.spelled)

  one_form : (name : List ℕ) → IsWithout 32 name → (n : ℕ) (line : List ℕ) (x y : List ℚ) → AreNumbers name (n + 1) line x → AreNumbers name (n + 1) line y → x ≡ y
  one_form name plain n line x y h k = one_fractions laws name x y plain h.fits k.fits (sym h.spelled ∙ k.spelled)

  exact_moves : (plant : Plant) (here : Cursor) → IsExactAt (moves plant) here
  exact_moves plant here =
      exact_many (λ (before : List (List ℚ)). one_line (move_rule plant (length before))) (λ (before : List (List ℚ)). nat_lt (length before) (unknowns plant)) here
      (λ before at reads more. exact_line cuts (move_rule plant (length before)) (record { one = one_form (codes "move") (without 32 (codes "move") refl) plant.n; no_bad_node = λ line x h k. k }) at)

  exact_mults : (plant : Plant) (members : ℕ) (here : Cursor) → IsExactAt (mults plant members) here
  exact_mults plant members here =
      exact_so_many cuts laws members (plain_rule (AreNumbers (codes "mult") (plant.n + 1))) (record { one = one_form (codes "mult") (without 32 (codes "mult") refl) plant.n; no_bad_node = λ line x h k. k }) here

  exact_set : (plant : Plant) (here : Cursor) → IsExactAt (one_line (plain_rule (IsLawLine plant))) here
  exact_set plant here = exact_plain cuts laws (IsLawLine plant) (one_set plant) here

  exact_written_law : (plant : Plant) (here : Cursor) → IsExactAt (written_law plant) here
  exact_written_law plant here =
      exact_both _ _ here (exact_set plant here)
      (λ set at h. exact_both _ _ at (exact_moves plant at)
      (λ zs to k. exact_both _ _ to (exact_mults plant (length set) to)
      (λ ls end l. exact_give (law_with plant set zs ls) end)))

  one_law_count : (line : List ℕ) (m n : ℕ) → IsNumber (codes "laws") (λ number. number ≤ 4598479) line m → IsNumber (codes "laws") (λ number. number ≤ 4598479) line n → m ≡ n
  one_law_count line m n h k =
      let low : m ≤ 4598479 = h.allowed in
      let high : n ≤ 4598479 = k.allowed in
      one_count laws (codes "laws") m n (without 32 (codes "laws") refl) (omega arith) (omega arith) (sym h.spelled ∙ k.spelled)

  exact_law_count : (here : Cursor) → IsExactAt law_count here
  exact_law_count here = exact_plain cuts laws (IsNumber (codes "laws") (λ number. number ≤ 4598479)) one_law_count here

  pub exact_written_laws : (plant : Plant) (here : Cursor) → IsExactAt (written_laws plant) here
  exact_written_laws plant here =
      exact_both _ _ here (exact_law_count here)
      (λ count at h. exact_many (λ before. written_law plant) (λ (before : List Law). nat_lt (length before) count) at (λ before to reads more. exact_written_law plant to))

  -- ---- named laws
  pub one_short_count : (name : List ℕ) → IsWithout 32 name → (line : List ℕ) (m n : ℕ) → IsNumber name (λ number. number < 10 ^ 18) line m → IsNumber name (λ number. number < 10 ^ 18) line n → m ≡ n
  one_short_count name plain line m n h k =
      let low : m < 10 ^ 18 = h.allowed in
      let high : n < 10 ^ 18 = k.allowed in
      one_count laws name m n plain (omega arith) (omega arith) (sym h.spelled ∙ k.spelled)

  pub exact_forms : (plant : Plant) (here : Cursor) → IsExactAt (forms plant) here
  exact_forms plant here =
      exact_both _ _ here (exact_plain cuts laws (IsNumber (codes "forms") (λ number. number < 10 ^ 18)) (one_short_count (codes "forms") (without 32 (codes "forms") refl)) here)
      (λ count at h. exact_many (λ before. one_line (plain_rule (StatesNew before (AreNumbers (codes "form") (plant.n + 1))))) (λ (before : List (List ℚ)). nat_lt (length before) count) at
      (λ before to reads more. exact_plain cuts laws (StatesNew before (AreNumbers (codes "form") (plant.n + 1))) (λ line x y k l. one_form (codes "form") (without 32 (codes "form") refl) plant.n line x y k.stated l.stated) to))

  one_list_of_numbers : (name : List ℕ) → IsWithout 32 name → (all used count : ℕ) → all < 10 ^ 18 → (line : List ℕ) (x y : List ℕ) → AreFormNumbers name all used count line x → AreFormNumbers name all used count line y → x ≡ y
  one_list_of_numbers name plain all used count few line x y h k =
      one_naturals laws name x y plain (names_short all used x few h.name_forms) (names_short all used y few k.name_forms) (sym h.spelled ∙ k.spelled)

  module _ (plant : Plant) (fs : List (List ℚ)) (few : length fs < 10 ^ 18) where
    exact_named_moves : (used : ℕ) (here : Cursor) → IsExactAt (one_line (named_moves_rule plant fs used)) here
    exact_named_moves used here =
        exact_line cuts (named_moves_rule plant fs used) (record { one = one_list_of_numbers (codes "move") (without 32 (codes "move") refl) (length fs) used (unknowns plant) few; no_bad_node = λ line x h k. k }) here

    exact_named_mults : (used : ℕ) (set : List ℕ) (here : Cursor) → IsExactAt (named_mults fs used set) here
    exact_named_mults used [] here = exact_give [] here
    exact_named_mults used (i ∷ set) here =
        exact_plain cuts laws (AreFormNumbers (codes "mult") (length fs) used (length (i ∷ set)))
        (one_list_of_numbers (codes "mult") (without 32 (codes "mult") refl) (length fs) used (length (i ∷ set)) few) here

    exact_named_law : (used : ℕ) (here : Cursor) → IsExactAt (named_law plant fs used) here
    exact_named_law used here =
        exact_both _ _ here (exact_set plant here)
        (λ set at h. exact_both _ _ at (exact_named_moves used at)
        (λ zs to k. exact_both _ _ to (exact_named_mults (used_behind used zs) set to)
        (λ ls end l. exact_give (record { set = set; moves = zs; mults = ls }) end)))

    pub exact_named_laws : (here : Cursor) → IsExactAt (named_laws plant fs) here
    exact_named_laws here =
        exact_both _ _ here (exact_law_count here)
        (λ count at h. exact_many (λ (before : List NamedLaw). named_law plant fs (used_by before)) (λ (before : List NamedLaw). nat_lt (length before) count) at
        (λ before to reads more. exact_named_law (used_by before) to))

-- ---- how many are read
pub written_laws_few : (plant : Plant) (here behind : Cursor) (ls : List Law) → (written_laws plant).Reads here ls behind → length ls ≤ 4598479
written_laws_few plant here behind ls (count, (between, ((line, (taken, (states, over))), (reads, none)))) =
    omega (arith, so_few (λ before. written_law plant) count between ls behind reads, states.allowed)

pub named_laws_few : (plant : Plant) (fs : List (List ℚ)) (here behind : Cursor) (ls : List NamedLaw) → (named_laws plant fs).Reads here ls behind → length ls ≤ 4598479
named_laws_few plant fs here behind ls (count, (between, ((line, (taken, (states, over))), (reads, none)))) =
    omega (arith, so_few (λ (before : List NamedLaw). named_law plant fs (used_by before)) count between ls behind reads, states.allowed)

pub forms_few : (plant : Plant) (here behind : Cursor) (fs : List (List ℚ)) → (forms plant).Reads here fs behind → length fs < 10 ^ 18
forms_few plant here behind fs (count, (between, ((line, (taken, (states, over))), (reads, none)))) =
    omega (arith, so_few (λ before. one_line (plain_rule (StatesNew before (AreNumbers (codes "form") (plant.n + 1))))) count between fs behind reads, states.allowed)
