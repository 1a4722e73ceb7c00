-- How a text is read: line by line, each line as those before it demand. A grammar says what the lines from a place on state, and at which
-- line they fail.
use Rattle.std.specs.Prelude.{◌≡◌, ℕ, ◌+◌, ◌⊎◌, Bool, IsTrue, false, List, [], ◌∷◌, ◌++◌, Result, Ok, Err}
use Rattle.mpc_words.specs.Words.{IsWithout, IsCutAt}
use Rattle.mpc_grammar.specs.declared.errors.FileKind.{FileKind}
use Rattle.mpc_grammar.specs.declared.errors.FileKind.TheVariants.{BadLine, Truncated, BadNode, OverBound}
use Rattle.mpc_grammar.specs.declared.errors.FileError.{FileError}
use Rattle.mpc_grammar.specs.declared.errors.FileError.TheVariants.{Bad, NoMemory}

-- a place in a text: the bytes from there on, and the number, from 1, of the line that they begin with
pub record Cursor : Type 0 where
  pub rest : List ℕ
  pub number : ℕ

-- the line at a place, which a line feed ends, and the place behind it
pub record TakesLine (here : Cursor) (line : List ℕ) (behind : Cursor) : Type 0 where
  pub cut : IsCutAt 10 here.rest line behind.rest
  pub next : behind.number ≡ here.number + 1

-- What a line may state: as the tables of the format demand, where it names or states what no node is, and what breaks a bound.
pub record LineRule (X : Type 0) : Type 1 where
  pub States : List ℕ → X → Type 0
  pub IsNoNode : List ℕ → Type 0
  pub IsOver : X → Type 0

-- the line states this, which breaks no bound
abbrev pub IsGood : {X : Type 0} → LineRule X → List ℕ → X → Type 0
IsGood rule line x = rule.States line x × (¬ rule.IsOver x)

-- the line is refused, and why: the first of these reasons
abbrev pub IsRefused : {X : Type 0} → LineRule X → List ℕ → FileKind → Type 0
IsRefused {X} rule line BadLine = ((x : X) → ¬ rule.States line x) × (¬ rule.IsNoNode line)
IsRefused {X} rule line BadNode = rule.IsNoNode line
IsRefused {X} rule line OverBound = (x : X) × (rule.States line x × rule.IsOver x)
IsRefused {X} rule line other = ⊥

-- Reads: the lines from one place to another state this. Fails: the lines from a place on fail, why, and at the line of which number.
pub record Grammar (X : Type 0) : Type 1 where
  pub Reads : Cursor → X → Cursor → Type 0
  pub Fails : Cursor → FileKind → ℕ → Type 0

-- ---- one line
-- no line feed follows, or the line is refused
abbrev pub FailsLine : {X : Type 0} → LineRule X → Cursor → FileKind → ℕ → Type 0
FailsLine rule here kind number =
    (number ≡ here.number) × (((kind ≡ Truncated) × IsWithout 10 here.rest) ⊎ ((line : List ℕ) × ((behind : Cursor) × (TakesLine here line behind × IsRefused rule line kind))))

abbrev pub one_line : {X : Type 0} → LineRule X → Grammar X
one_line rule = record { Reads = λ here x behind. (line : List ℕ) × (TakesLine here line behind × IsGood rule line x); Fails = FailsLine rule }

-- ---- no line
abbrev pub give : {X : Type 0} → X → Grammar X
give {X} value = record { Reads = λ here x behind. (x ≡ value) × (behind ≡ here); Fails = λ here kind number. ⊥ }

-- ---- one part behind another, which may depend on what the first states
infixl 10 ◌>>=◌
abbrev pub ◌>>=◌ : {X Y : Type 0} → Grammar X → (X → Grammar Y) → Grammar Y
◌>>=◌ {X} {Y} first second =
    record {
      Reads = λ here y end. (x : X) × ((between : Cursor) × (first.Reads here x between × (second x).Reads between y end));
      Fails = λ here kind number. first.Fails here kind number ⊎ ((x : X) × ((between : Cursor) × (first.Reads here x between × (second x).Fails between kind number)));
    }

-- ---- no line: what is so
abbrev pub that_which : {X : Type 0} → (X → Type 0) → Grammar X
that_which {X} IsIt = record { Reads = λ here x behind. IsIt x × (behind ≡ here); Fails = λ here kind number. ⊥ }

-- ---- items one behind another, each as those before it demand, as long as those before it ask for more
pub data ReadsItems (X : Type 0) (item : List X → Grammar X) (asks_more : List X → Bool) (here : Cursor) : List X → Cursor → Type 0 where
  no_item : ReadsItems X item asks_more here [] here
  one_more : (items : List X) (between : Cursor) (x : X) (behind : Cursor) → ReadsItems X item asks_more here items between → IsTrue (asks_more items) → (item items).Reads between x behind → ReadsItems X item asks_more here (items ++ x ∷ []) behind

-- one fails behind those that are read
abbrev pub FailsItem : {X : Type 0} → (List X → Grammar X) → (List X → Bool) → Cursor → FileKind → ℕ → Type 0
FailsItem {X} item asks_more here kind number =
    (items : List X) × ((between : Cursor) × (ReadsItems X item asks_more here items between × IsTrue (asks_more items) × (item items).Fails between kind number))

abbrev pub many : {X : Type 0} → (List X → Grammar X) → (List X → Bool) → Grammar (List X)
many {X} item asks_more =
    record { Reads = λ here items behind. ReadsItems X item asks_more here items behind × (asks_more items ≡ false); Fails = FailsItem item asks_more }

-- ---- what a reader answers
-- what was read from one place to another, or why and where the lines fail; nothing is said of want of memory
abbrev pub Outcome : {X : Type 0} → Grammar X → Cursor → Cursor → Result X FileError → Type 0
Outcome grammar here behind (Ok x) = grammar.Reads here x behind
Outcome grammar here behind (Err (Bad kind number)) = grammar.Fails here kind number
Outcome grammar here behind (Err NoMemory) = Unit {0}
