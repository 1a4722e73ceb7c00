-- What is read from a place goes on from it, and is read the same where more bytes stand behind. This holds of the ways in which grammars are
-- joined where it holds of their parts.
use Rattle.std.proofs.Common.{◌≡◌, ℕ, ◌+◌, ◌<◌, ◌≤◌, Bool, List, [], ◌∷◌, ◌++◌, length, ap, ◌∙◌, arith, length-append, append_assoc}
use Rattle.mpc_grammar.specs.Reading.{Cursor, TakesLine, LineRule, Grammar, one_line, give, ◌>>=◌, that_which, ReadsItems, no_item, one_more, many}

-- a place with more bytes behind it
abbrev pub with_more : List ℕ → Cursor → Cursor
with_more more here = record { rest = here.rest ++ more; number = here.number }

-- a place is no further from its text's end than another, even with the number of its line added
abbrev pub reach : Cursor → ℕ
reach here = here.number + length here.rest

pub record IsRun {X : Type 0} (g : Grammar X) : Type 0 where
  pub shorter : (here : Cursor) (x : X) (behind : Cursor) → g.Reads here x behind → reach behind ≤ reach here
  pub onward : (here : Cursor) (x : X) (behind : Cursor) → g.Reads here x behind → here.number ≤ behind.number
  pub extends : (more : List ℕ) (here : Cursor) (x : X) (behind : Cursor) → g.Reads here x behind → g.Reads (with_more more here) x (with_more more behind)

-- ---- one line
pub line_shorter : (here : Cursor) (line : List ℕ) (behind : Cursor) → TakesLine here line behind → reach behind ≤ reach here
line_shorter here line behind h =
    let size : length here.rest ≡ length line + length (10 ∷ behind.rest) = ap length h.cut.joined ∙ length-append line (10 ∷ behind.rest) in
    omega (arith, h.next)

line_extends : (more : List ℕ) (here : Cursor) (line : List ℕ) (behind : Cursor) → TakesLine here line behind → TakesLine (with_more more here) line (with_more more behind)
line_extends more here line behind h =
    record {
      cut = record { first = h.cut.first; joined = ap (λ text. text ++ more) h.cut.joined ∙ append_assoc line (10 ∷ behind.rest) more };
      next = h.next;
    }

pub run_line : {X : Type 0} (rule : LineRule X) → IsRun (one_line rule)
run_line rule = record {
  shorter = λ here x behind h. line_shorter here h.0 behind h.1.0;
  onward = λ here x behind h. omega (arith, h.1.0.next);
  extends = λ more here x behind h. (h.0, (line_extends more here h.0 behind h.1.0, h.1.1));
}

-- ---- no line
pub run_give : {X : Type 0} (value : X) → IsRun (give value)
run_give value = record {
  shorter = λ here x behind h. omega (arith, ap reach h.1);
  onward = λ here x behind h. omega (arith, ap (λ (c : Cursor). c.number) h.1);
  extends = λ more here x behind h. (h.0, ap (with_more more) h.1);
}

pub run_that : {X : Type 0} (IsIt : X → Type 0) → IsRun (that_which IsIt)
run_that IsIt = record {
  shorter = λ here x behind h. omega (arith, ap reach h.1);
  onward = λ here x behind h. omega (arith, ap (λ (c : Cursor). c.number) h.1);
  extends = λ more here x behind h. (h.0, ap (with_more more) h.1);
}

-- ---- one part behind another
pub run_both : {X Y : Type 0} (first : Grammar X) (second : X → Grammar Y) → IsRun first → ((x : X) → IsRun (second x)) → IsRun (first >>= second)
run_both first second front back = record {
  shorter = λ here y end h. omega (arith, front.shorter here h.0 h.1.0 h.1.1.0, (back h.0).shorter h.1.0 y end h.1.1.1);
  onward = λ here y end h. omega (arith, front.onward here h.0 h.1.0 h.1.1.0, (back h.0).onward h.1.0 y end h.1.1.1);
  extends = λ more here y end h. (h.0, (with_more more h.1.0, (front.extends more here h.0 h.1.0 h.1.1.0, (back h.0).extends more h.1.0 y end h.1.1.1)));
}

-- ---- items one behind another
module _ {X : Type 0} (item : List X → Grammar X) (asks_more : List X → Bool) (each : (items : List X) → IsRun (item items)) where
  pub items_shorter : (here : Cursor) (items : List X) (behind : Cursor) → ReadsItems X item asks_more here items behind → reach behind ≤ reach here
  items_shorter here items behind no_item = omega arith
  items_shorter here items behind (one_more before between x end reads more one) =
      omega (arith, items_shorter here before between reads, (each before).shorter between x end one)

  items_onward : (here : Cursor) (items : List X) (behind : Cursor) → ReadsItems X item asks_more here items behind → here.number ≤ behind.number
  items_onward here items behind no_item = omega arith
  items_onward here items behind (one_more before between x end reads more one) =
      omega (arith, items_onward here before between reads, (each before).onward between x end one)

  items_extend : (extra : List ℕ) (here : Cursor) (items : List X) (behind : Cursor) → ReadsItems X item asks_more here items behind → ReadsItems X item asks_more (with_more extra here) items (with_more extra behind)
  items_extend extra here items behind no_item = no_item
  items_extend extra here items behind (one_more before between x end reads more one) =
      one_more before (with_more extra between) x (with_more extra end) (items_extend extra here before between reads) more ((each before).extends extra between x end one)

  pub run_many : IsRun (many item asks_more)
  run_many = record {
    shorter = λ here items behind h. items_shorter here items behind h.0;
    onward = λ here items behind h. items_onward here items behind h.0;
    extends = λ more here items behind h. (items_extend more here items behind h.0, h.1);
  }

-- items of which each takes a line are no more than the lines before the place behind them
module _ {X : Type 0} (item : List X → Grammar X) (asks_more : List X → Bool)
    (each : (items : List X) (here : Cursor) (x : X) (behind : Cursor) → (item items).Reads here x behind → here.number < behind.number) where
  pub items_few : (here : Cursor) (items : List X) (behind : Cursor) → ReadsItems X item asks_more here items behind → here.number + length items ≤ behind.number
  items_few here items behind no_item = omega arith
  items_few here items behind (one_more before between x end reads more one) =
      omega (arith, items_few here before between reads, each before between x end one, length-append before (x ∷ []))
