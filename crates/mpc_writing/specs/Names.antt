-- Lines that are written once and named by their numbers, from 1, in the order in which they come first.
use Rattle.std.specs.Prelude.{◌≡◌, ◌≢◌, ℕ, ◌+◌, ◌-◌, ◌<◌, ◌≤◌, ◌⊎◌, cond, nat_lt, List, [], ◌∷◌, ◌++◌, length, slice_index_or, MatchOption}
use Rattle.std.specs.BTreeMap.{get, btree_map_len}
use Rattle.std.specs.Cmp.Lexicographic.{slice_cmp}
use Rattle.std.specs.declared.cmp.Ordering.{Ordering}
use Rattle.std.specs.Ordering.{nat_cmp, ordering_then}
use Rattle.std.specs.Global.{Vec}
use Rattle.mpc_grammar.specs.Digests.{digest}
use Rattle.mpc_writing.specs.Writing.{text_of_lines}
use Rattle.mpc_writing.specs.declared.names.Names.{Names}

-- the line isn't one of these
abbrev pub IsNew : List (List ℕ) → List ℕ → Type 0
IsNew lines text = (i : ℕ) → i < length lines → slice_index_or lines i [] ≢ text

-- no two lines are equal
abbrev pub AreDifferent : List (List ℕ) → Type 0
AreDifferent lines = (j : ℕ) → j < length lines → (i : ℕ) → i < j → slice_index_or lines i [] ≢ slice_index_or lines j []

-- the line with this number, from 1
pub record IsNumberOf (lines : List (List ℕ)) (text : List ℕ) (k : ℕ) : Type 0 where
  pub from_one : 1 ≤ k
  pub is_line : k ≤ length lines
  pub line_is : slice_index_or lines (k - 1) [] ≡ text

-- a digest and a line
abbrev pub Key : Type 0
Key = ℕ × Vec ℕ

-- the digests decide, and the lines only where these are equal
abbrev pub key_cmp : Key → Key → Ordering
key_cmp x y = ordering_then (nat_cmp x.0 y.0) (slice_cmp nat_cmp x.1.items y.1.items)

-- these are the lines that are named
pub record AreNames (names : Names) (lines : List (List ℕ)) : Type 0 where
  pub found : (key : Key) → key.0 ≡ digest key.1.items → MatchOption (get key_cmp names.numbers key) (IsNew lines key.1.items) (λ k. IsNumberOf lines key.1.items k)
  pub count : btree_map_len names.numbers ≡ length lines
  pub text : names.text.items ≡ text_of_lines lines
  pub different : AreDifferent lines

-- Behind these lines the line is named by this number, as the next one where it is new. Which lines are named then is told by what holds of
-- them alone, as of those in a writer's memory.
pub record IsNamed (lines : List (List ℕ)) (text : List ℕ) (k : ℕ) (AreNamed : List (List ℕ) → Type 0) : Type 0 where
  pub behind : List (List ℕ)
  pub behind_is : (behind ≡ []) ⊎ (behind ≡ text ∷ [])
  pub names_are : AreNamed (lines ++ behind)
  pub number_of : IsNumberOf (lines ++ behind) text k
  pub used : length (lines ++ behind) ≡ cond (nat_lt (length lines) k) k (length lines)
  pub in_order : k ≤ length lines + 1
