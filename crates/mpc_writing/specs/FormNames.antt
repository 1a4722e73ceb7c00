-- Affine forms that are named by their numbers, and the text of the laws that name them.
use Rattle.std.specs.Prelude.{◌≡◌, ℕ, ◌+◌, ◌≤◌, List, [], ◌∷◌, ◌++◌, length, map, All, codes, decimal}
use Rattle.std.specs.List.{flat_map, AllZip}
use Rattle.mpc_exact.specs.Rational.{ℚ}
use Rattle.mpc_rows.specs.declared.laws.Law.{Law}
use Rattle.mpc_words.specs.Words.{line, behind_blanks}
use Rattle.mpc_grammar.specs.Lines.{count_line, fractions_line}
use Rattle.mpc_grammar.specs.PlantGrammar.{AllFit}
use Rattle.mpc_grammar.specs.LawGrammar.{NameForms, used_behind, form_named, NamedLaw, used_by}
use Rattle.mpc_writing.specs.Writing.{ended, text_of_lines}
use Rattle.mpc_writing.specs.Names.{AreDifferent}

abbrev pub form_line : List ℚ → List ℕ
form_line form = fractions_line (codes "form") form

-- a form of so many numbers
abbrev pub HasWidth : ℕ → List ℚ → Type 0
HasWidth n form = length form ≡ n

abbrev pub LawHasWidth : ℕ → Law → Type 0
LawHasWidth n law = All (HasWidth n) law.moves.rows × All (HasWidth n) law.mults.rows

-- the lines that are named are those of these forms
pub record AreForms (AreNamed : List (List ℕ) → Type 0) (forms : List (List ℚ)) : Type 0 where
  pub names_are : AreNamed (map form_line forms)
  pub fit : All AllFit forms

-- behind these forms, rows are named: what was appended, which forms came behind, and which are used
pub record AreNumbered (forms rows : List (List ℚ)) (old new : List ℕ) (AreNamed : List (List ℕ) → Type 0) : Type 0 where
  pub behind : List (List ℚ)
  pub all : List (List ℚ)
  pub all_are : all ≡ forms ++ behind
  pub numbers : List ℕ
  pub forms_are : AreForms AreNamed all
  pub rows_are : map (form_named all) numbers ≡ rows
  pub text : new ≡ old ++ behind_blanks (map decimal numbers)
  pub in_order : NameForms (length all) (length forms) numbers
  pub used : used_behind (length forms) numbers ≡ length all
  pub few : length all ≤ length forms + length rows
  pub widths : (n : ℕ) → All (HasWidth n) forms → All (HasWidth n) rows → All (HasWidth n) all

-- ---- laws
abbrev pub mults_text : List ℕ → List ℕ
mults_text [] = []
mults_text (k ∷ ks) = ended (line (codes "mult") (map decimal (k ∷ ks)))

abbrev pub law_text : NamedLaw → List ℕ
law_text law = ended (line (codes "law") (map decimal law.set)) ++ (ended (line (codes "move") (map decimal law.moves)) ++ mults_text law.mults)

-- the law that is named
pub record IsLawNamed (forms : List (List ℚ)) (named : NamedLaw) (law : Law) : Type 0 where
  pub set : named.set ≡ law.set
  pub moves : map (form_named forms) named.moves ≡ law.moves.rows
  pub mults : map (form_named forms) named.mults ≡ law.mults.rows

-- law by law the numbers name forms in order, behind so many that are used
abbrev pub InOrder : ℕ → ℕ → List NamedLaw → Type 0
InOrder all used [] = Unit {0}
InOrder all used (law ∷ laws) = NameForms all used law.moves × NameForms all (used_behind used law.moves) law.mults × InOrder all (used_behind (used_behind used law.moves) law.mults) laws

pub record IsLawNumbered (forms : List (List ℚ)) (law : Law) (old new : List ℕ) (AreNamed : List (List ℕ) → Type 0) : Type 0 where
  pub behind : List (List ℚ)
  pub all : List (List ℚ)
  pub all_are : all ≡ forms ++ behind
  pub named : NamedLaw
  pub forms_are : AreForms AreNamed all
  pub law_is : IsLawNamed all named law
  pub text : new ≡ old ++ law_text named
  pub moves_in_order : NameForms (length all) (length forms) named.moves
  pub mults_in_order : NameForms (length all) (used_behind (length forms) named.moves) named.mults
  pub used : used_behind (used_behind (length forms) named.moves) named.mults ≡ length all
  pub few : length all ≤ length forms + (length law.moves.rows + length law.mults.rows)
  pub widths : (n : ℕ) → All (HasWidth n) forms → LawHasWidth n law → All (HasWidth n) all

-- how many rows the laws have
abbrev pub rows_in : List Law → ℕ
rows_in [] = 0
rows_in (law ∷ laws) = (length law.moves.rows + length law.mults.rows) + rows_in laws

pub record AreLawsNumbered (laws : List Law) (old new : List ℕ) (AreNamed : List (List ℕ) → Type 0) : Type 0 where
  pub forms : List (List ℚ)
  pub named : List NamedLaw
  pub forms_are : AreForms AreNamed forms
  pub laws_are : AllZip (IsLawNamed forms) named laws
  pub text : new ≡ old ++ flat_map law_text named
  pub in_order : InOrder (length forms) 0 named
  pub used : used_by named ≡ length forms
  pub few : length forms ≤ rows_in laws
  pub widths : (n : ℕ) → All (LawHasWidth n) laws → All (HasWidth n) forms

-- ---- the forms and the laws
abbrev pub forms_text : List (List ℚ) → List ℕ
forms_text forms = ended (count_line (codes "forms") (length forms)) ++ text_of_lines (map form_line forms)

abbrev pub laws_text : List NamedLaw → List ℕ
laws_text named = ended (count_line (codes "laws") (length named)) ++ flat_map law_text named

-- the laws are appended, and before them their different forms
pub record IsTableWritten (laws : List Law) (old new : List ℕ) : Type 0 where
  pub forms : List (List ℚ)
  pub named : List NamedLaw
  pub fit : All AllFit forms
  pub different : AreDifferent (map form_line forms)
  pub laws_are : AllZip (IsLawNamed forms) named laws
  pub in_order : InOrder (length forms) 0 named
  pub used : used_by named ≡ length forms
  pub few : length forms ≤ rows_in laws
  pub widths : (n : ℕ) → All (LawHasWidth n) laws → All (HasWidth n) forms
  pub text : new ≡ old ++ (forms_text forms ++ laws_text named)
