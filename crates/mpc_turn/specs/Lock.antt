-- The rule of the lock, and what each step tells.
use Rattle.std.specs.Prelude.{◌≡◌, ◌≢◌, ℕ, ◌+◌, ◌%◌, ◌^◌, ◌<◌, ◌≤◌, List, [], ◌∷◌, ◌++◌, length, drop, slice_index, Bool, true, false, Some, None, cond}
use mathlib.Core.Option.{some, none}
use lib.ListN.{get_elem?}
use Rattle.atomic_table.specs.Table.{State, Me, Step}
use Rattle.mpc_rows.specs.declared.programs.Qp.{Qp}
use Rattle.mpc_claim.specs.Board.{Board}
use Rattle.mpc_claim.specs.History.{IsLegal}
use Rattle.mpc_claim.specs.OpenClaims.{Held, open_of}
use Rattle.mpc_turn.specs.declared.view.View.{View}
use Rattle.mpc_turn.specs.Views.{Call, weigh, placed, Starts, nobody, parts_of, firsts_of, waits, calls_weight, hands_weight, numbered, turned, served, settled, AreOpen}
use Rattle.mpc_claim.specs.declared.events.Event.{Event}

-- what is true of each view. `log` is the longest history, and `out` says that the slot is away
pub record Fits (drawn served : ℕ) (program : Qp) (before log : List Event) (out : Bool) (v : View) : Type 0 where
  pub known : 0 < v.parts → (v.program ≡ program) × (v.before ≡ before)
  pub spent : v.parts ≡ 0 → v ≡ nobody
  pub queued : (n : ℕ) → v.number ≡ Some n → (served ≤ n) × (n < drawn)
  pub has_turn : v.turn ≡ true → (out ≡ true) × (v.number ≡ Some served) × (v.seen ≡ log)
  pub seen : Starts log v.seen
  pub beside : Starts log v.beside
  pub opening : 0 < v.parts → Starts v.seen before

-- The words are the numbers drawn and served, modulo 2^64. `held` is the registry at home, or as it was taken
pub record Kept (s : State Board View) : Type 0 where
  pub drawn : ℕ
  pub served : ℕ
  pub program : Qp
  pub before : List Event
  pub after : List Event
  pub out : Bool
  pub two : length s.words ≡ 2
  pub ticket : slice_index s.words 0 ≡ drawn % 2 ^ 64
  pub serving : slice_index s.words 1 ≡ served % 2 ^ 64
  pub parts : weigh parts_of s.views ≡ 33
  pub firsts : weigh firsts_of s.views ≡ 1
  pub queue : served + weigh waits s.views ≡ drawn
  pub each : (j : ℕ) (v : View) → get_elem? s.views j ≡ some v → Fits drawn served program before (before ++ after) out v
  pub apart : (j k : ℕ) (v w : View) (n : ℕ) → get_elem? s.views j ≡ some v → get_elem? s.views k ≡ some w → v.number ≡ Some n → w.number ≡ Some n → j ≡ k
  pub held : Board
  pub held_program : held.program ≡ program
  pub held_history : held.history ≡ before ++ after
  pub slot : s.homes ≡ (cond out none (some held)) ∷ []
  pub away : out ≡ true → (k : ℕ) × (v : View) × (get_elem? s.views k ≡ some v) × (v.turn ≡ true)
  pub legal : IsLegal program (before ++ after)
  pub counted : (f : Call → ℕ) → weigh (calls_weight f) s.views ≡ weigh f (placed (length before) after)
  pub hands : (f : Held → ℕ) → weigh (hands_weight f) s.views + weigh f (open_of before) ≡ weigh f (open_of (before ++ after))

abbrev pub Sat : Type 0
Sat = Me Board View

-- the number r was drawn
abbrev pub Draws : Sat → ℕ → Sat → Type 0
Draws m r m' = (n : ℕ) × (m' ≡ (numbered m.0 n, m.1)) × (r ≡ n % 2 ^ 64)

-- a number was drawn where the word was as expected, and else nothing changed
abbrev pub drew : Step Board → Sat → ℕ → Sat → Type 0
drew st m r m' = (r ≡ st.first → Draws m r m') × (r ≢ st.first → m' ≡ m)

-- the slot is taken, with a registry of this program whose legal history begins with what was seen, and in which the claims of the hand are open
abbrev pub Takes : Sat → Sat → Type 0
Takes m m' = (r : Board) × (m' ≡ (turned m.0 r.history, (0, r) ∷ m.1)) × (r.program ≡ m.0.program) × Starts r.history m.0.seen × IsLegal r.program r.history × AreOpen m.0.calls r.history

abbrev pub looked : Step Board → Sat → ℕ → Sat → Type 0
looked st m r m' = (n : ℕ) → m.0.number ≡ Some n → (r ≡ n % 2 ^ 64 → Takes m m') × (r ≢ n % 2 ^ 64 → m' ≡ m)

abbrev pub gave : Step Board → Sat → ℕ → Sat → Type 0
gave st m r m' = (r' : Board) → m.1 ≡ (0, r') ∷ [] → m' ≡ (served m.0 r'.history, [])

-- one of what was seen and what was seen beside begins the other
abbrev pub compared : Step Board → Sat → ℕ → Sat → Type 0
compared st m r m' = (m' ≡ (settled m.0, m.1)) × (m.0.parts ≤ 33) × (m.0.firsts ≤ 1) × IsLegal m.0.program (settled m.0).seen × Starts (settled m.0).seen m.0.seen × Starts (settled m.0).seen m.0.beside

-- no number and no turn
abbrev pub IsOutside : View → Type 0
IsOutside v = (v.number ≡ None) × (v.turn ≡ false)

-- what is known when the first view alone is left
pub record Ends (v : View) (r : Board) : Type 0 where
  pub program : r.program ≡ v.program
  pub legal : IsLegal r.program r.history
  pub seen : Starts r.history v.seen
  pub before : Starts r.history v.before
  pub counted : (f : Call → ℕ) → calls_weight f v ≡ weigh f (placed (length v.before) (drop (length v.before) r.history))
  pub hands : (f : Held → ℕ) → hands_weight f v + weigh f (open_of v.before) ≡ weigh f (open_of r.history)
