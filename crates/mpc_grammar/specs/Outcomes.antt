-- How the answers of readers are put together: of one line, of parts one behind another, and of many items. These are terms in place of theorems,
-- since no clause can speak of all grammars.
use Rattle.std.proofs.Common.{◌≡◌, ℕ, ◌<◌, ◌≤◌, Bool, IsTrue, false, ltb, nat_lt, List, [], ◌∷◌, ◌++◌, length, Option, Some, None, MatchOption, Result, Ok, Err, IfOk, inl, inr, refl, sym, ◌∙◌, subst, zero-le, le_antisymm, add-one}
use Rattle.std.specs.Prelude.{All, MatchResult}
use Rattle.std.proofs.lemmas.Bool.{lt-ltb, le-ltb, ltb-true, ltb-false}
use Rattle.std.proofs.lemmas.List.{length_push}
use Rattle.std.proofs.lemmas.List.Elements.{All-append, All-cons, All-nil}
use Rattle.mpc_words.specs.Words.{IsWithout}
use Rattle.mpc_grammar.specs.Reading.{Cursor, TakesLine, LineRule, Grammar, one_line, ◌>>=◌, ReadsItems, no_item, one_more, many, Outcome}
use Rattle.mpc_grammar.specs.PlantGrammar.{plain_rule}
use Rattle.mpc_grammar.specs.declared.errors.FileKind.{FileKind}
use Rattle.mpc_grammar.specs.declared.errors.FileKind.TheVariants.{BadLine, Truncated, BadNode, OverBound}
use Rattle.mpc_grammar.specs.declared.errors.FileError.{FileError}
use Rattle.mpc_grammar.specs.declared.errors.FileError.TheVariants.{Bad, NoMemory}

-- ---- errors
-- nothing is said of want of memory
pub no_memory : {X : Type 0} (grammar : Grammar X) (here behind : Cursor) (error : FileError) → error ≡ NoMemory → Outcome grammar here behind (Err error)
no_memory grammar here behind error e = subst (λ x. Outcome grammar here behind (Err x)) (sym e) tt

-- why and where the lines fail
pub fails : {X : Type 0} (grammar : Grammar X) (here behind : Cursor) (error : FileError) (kind : FileKind) (number : ℕ) → error ≡ Bad kind number → grammar.Fails here kind number → Outcome grammar here behind (Err error)
fails grammar here behind error kind number e h = subst (λ x. Outcome grammar here behind (Err x)) (sym e) h

-- an error is passed on from a reader of one grammar by that of another, which fails where the first does; the place behind plays no part
pub error_from : {X Y : Type 0} (first : Grammar X) (second : Grammar Y) (here between start behind : Cursor) (error : FileError) → ((kind : FileKind) (number : ℕ) → first.Fails here kind number → second.Fails start kind number) → Outcome first here between (Err error) → Outcome second start behind (Err error)
error_from first second here between start behind (Bad kind number) f h = f kind number h
error_from first second here between start behind NoMemory f h = tt

-- ---- one line, by any rule
module _ {X : Type 0} (rule : LineRule X) where
  pub line_reads : {here behind : Cursor} {line : List ℕ} (x : X) → TakesLine here line behind → rule.States line x → ¬ rule.IsOver x → (one_line rule).Reads here x behind
  line_reads {line} x taken states within = (line, (taken, (states, within)))

  -- no line feed follows: what `Lines::take` answers then
  pub line_cut_off : (here : Cursor) → IsWithout 10 here.rest → (one_line rule).Fails here Truncated here.number
  line_cut_off here without = (refl, inl (refl, without))

  pub cut_off : (here behind : Cursor) (error : FileError) → error ≡ Bad Truncated here.number → IsWithout 10 here.rest → Outcome (one_line rule) here behind (Err error)
  cut_off here behind error e without = fails (one_line rule) here behind error Truncated here.number e (line_cut_off here without)

  -- nothing is stated, and the line names no missing node
  pub line_bad : {here behind : Cursor} {line : List ℕ} → TakesLine here line behind → ((x : X) → ¬ rule.States line x) → ¬ rule.IsNoNode line → (one_line rule).Fails here BadLine here.number
  line_bad {behind} {line} taken none no_node = (refl, inr (line, (behind, (taken, (none, no_node)))))

  pub line_no_node : {here behind : Cursor} {line : List ℕ} → TakesLine here line behind → rule.IsNoNode line → (one_line rule).Fails here BadNode here.number
  line_no_node {behind} {line} taken no_node = (refl, inr (line, (behind, (taken, no_node))))

  pub line_over : {here behind : Cursor} {line : List ℕ} (x : X) → TakesLine here line behind → rule.States line x → rule.IsOver x → (one_line rule).Fails here OverBound here.number
  line_over {behind} {line} x taken states over = (refl, inr (line, (behind, (taken, (x, (states, over))))))

-- ---- one line that is never refused for a node or a bound
module _ {X : Type 0} (States : List ℕ → X → Type 0) where
  pub plain_reads : {here behind : Cursor} {line : List ℕ} (x : X) → TakesLine here line behind → States line x → (one_line (plain_rule States)).Reads here x behind
  plain_reads {line} x taken states = (line, (taken, (states, λ over. over)))

  pub plain_bad : {here behind : Cursor} {line : List ℕ} → TakesLine here line behind → ((x : X) → ¬ States line x) → (one_line (plain_rule States)).Fails here BadLine here.number
  plain_bad {behind} {line} taken none = (refl, inr (line, (behind, (taken, (none, λ node. node)))))

-- ---- one part behind another
module _ {X Y : Type 0} (first : Grammar X) (second : X → Grammar Y) where
  pub both_read : (here between end : Cursor) (x : X) (y : Y) → first.Reads here x between → (second x).Reads between y end → (first >>= second).Reads here y end
  both_read here between end x y reads reads_then = (x, (between, (reads, reads_then)))

  pub first_fails : (here : Cursor) (kind : FileKind) (number : ℕ) → first.Fails here kind number → (first >>= second).Fails here kind number
  first_fails here kind number h = inl h

  pub second_fails : (here between : Cursor) (x : X) (kind : FileKind) (number : ℕ) → first.Reads here x between → (second x).Fails between kind number → (first >>= second).Fails here kind number
  second_fails here between x kind number reads h = inr (x, (between, (reads, h)))

  -- an error of the first part's reader
  pub first_error : (here between end : Cursor) (error : FileError) → Outcome first here between (Err error) → Outcome (first >>= second) here end (Err error)
  first_error here between end error h = error_from first (first >>= second) here between here end error (first_fails here) h

  -- any answer of the second part's reader
  pub then_outcome : (here between end : Cursor) (x : X) (r : Result Y FileError) → first.Reads here x between → Outcome (second x) between end r → Outcome (first >>= second) here end r
  then_outcome here between end x (Ok y) reads h = both_read here between end x y reads h
  then_outcome here between end x (Err (Bad kind number)) reads h = second_fails here between x kind number reads h
  then_outcome here between end x (Err NoMemory) reads h = tt

-- ---- items one behind another
module _ {X : Type 0} (item : List X → Grammar X) (asks_more : List X → Bool) where
  pub none_read : (here : Cursor) → ReadsItems X item asks_more here [] here
  none_read here = no_item

  pub more_read : (here between behind : Cursor) (items more : List X) (x : X) → ReadsItems X item asks_more here items between → IsTrue (asks_more items) → (item items).Reads between x behind → more ≡ items ++ x ∷ [] → ReadsItems X item asks_more here more behind
  more_read here between behind items more x before asked reads e = subst (λ xs. ReadsItems X item asks_more here xs behind) (sym e) (one_more items between x behind before asked reads)

  pub item_fails : (here between : Cursor) (items : List X) (kind : FileKind) (number : ℕ) → ReadsItems X item asks_more here items between → IsTrue (asks_more items) → (item items).Fails between kind number → (many item asks_more).Fails here kind number
  item_fails here between items kind number before asked h = (items, (between, (before, asked, h)))

  -- an error of an item's reader
  pub item_error : (here between behind end : Cursor) (items : List X) (error : FileError) → ReadsItems X item asks_more here items between → IsTrue (asks_more items) → Outcome (item items) between behind (Err error) → Outcome (many item asks_more) here end (Err error)
  item_error here between behind end items error before asked h =
      error_from (item items) (many item asks_more) between behind here end error (λ kind number f. item_fails here between items kind number before asked f) h

  pub all_read : (here behind : Cursor) (items : List X) → ReadsItems X item asks_more here items behind → asks_more items ≡ false → (many item asks_more).Reads here items behind
  all_read here behind items before enough = (before, enough)

-- fewer items than there are to be, or as many
pub asks_for_more : {X : Type 0} (items : List X) (count : ℕ) → length items < count → IsTrue (ltb (length items) count)
asks_for_more items count h = lt-ltb (length items) count h

pub asks_no_more : {X : Type 0} (items : List X) (count : ℕ) → count ≤ length items → ltb (length items) count ≡ false
asks_no_more items count h = le-ltb (length items) count h

-- each item has what every reading of an item gives it
pub all_items : (X : Type 0) (item : List X → Grammar X) (asks : List X → Bool) (P : X → Type 0) → ((before : List X) (b : Cursor) (x : X) (c : Cursor) → IsTrue (asks before) → (item before).Reads b x c → P x)
    → (here : Cursor) (items : List X) (behind : Cursor) → ReadsItems X item asks here items behind → All P items
all_items X item asks P each here [] behind no_item = All-nil P
all_items X item asks P each here _ behind (one_more items between x _ before more reads) =
    All-append P items (x ∷ []) (all_items X item asks P each here items between before) (All-cons P x [] (each items between x behind more reads) (All-nil P))

-- a list that asks for more as long as it is shorter than a count
module _ (X : Type 0) (item : List X → Grammar X) (count : ℕ) where
  pub at_most : (here : Cursor) (items : List X) (behind : Cursor) → ReadsItems X item (λ (before : List X). nat_lt (length before) count) here items behind → length items ≤ count
  at_most here [] behind no_item = zero-le
  at_most here _ behind (one_more items between x _ before more reads) = subst (λ n. n ≤ count) (sym (length_push items x ∙ add-one (length items))) (ltb-true (length items) count more)

  pub just_so_many : (here : Cursor) (items : List X) (behind : Cursor) → (many item (λ (before : List X). nat_lt (length before) count)).Reads here items behind → length items ≡ count
  just_so_many here items behind all = le_antisymm (at_most here items behind all.0) (ltb-false (length items) count all.1)

-- ---- what a line states
-- where something is found, it is what is said of it
pub at_some : {X : Type 0} (A : Type 0) (B : X → Type 0) (r : Option X) (x : X) → r ≡ Some x → MatchOption r A B → B x
at_some A B r x e h = subst (λ y. MatchOption y A B) e h

-- what a reader answers that takes one line and asks what it states
pub line_stated : {X E : Type 0} (States : List ℕ → X → Type 0) (found : Result (Option X) E) (r : Result X FileError) {here behind : Cursor} {line : List ℕ} (number : ℕ) → TakesLine here line behind → number ≡ here.number
    → IfOk found (λ it. MatchOption it ((x : X) → ¬ States line x) (λ x. States line x))
    → MatchResult found (λ it. MatchOption it (r ≡ Err (Bad BadLine number)) (λ x. r ≡ Ok x)) (λ _. r ≡ Err NoMemory)
    → Outcome (one_line (plain_rule States)) here behind r
line_stated States (Ok (Some x)) r {here} {behind} number taken first states is = subst (Outcome (one_line (plain_rule States)) here behind) (sym is) (plain_reads States x taken states)
line_stated States (Ok None) r {here} {behind} number taken first none is =
    subst (Outcome (one_line (plain_rule States)) here behind) (sym is) (subst (λ n. (one_line (plain_rule States)).Fails here BadLine n) (sym first) (plain_bad States taken none))
line_stated States (Err error) r {here} {behind} number taken first nothing is = subst (Outcome (one_line (plain_rule States)) here behind) (sym is) tt
