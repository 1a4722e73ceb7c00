-- What a pass knows.
use Rattle.std.specs.Prelude.{◌≡◌, ℕ, ◌+◌, ◌-◌, List, [], ◌∷◌, ◌++◌, map, drop, length, true, false, Option, Some, None, if◌then◌else◌, nat_le}
use Rattle.mpc_claim.specs.declared.events.Event.{Event}
use Rattle.mpc_claim.specs.Board.{Board}
use Rattle.mpc_claim.specs.History.{is_claim, IsLegal}
use Rattle.mpc_claim.specs.OpenClaims.{Held, open_of, has}
use Rattle.mpc_turn.specs.declared.view.View.{View}
use Rattle.mpc_turn.specs.Blank.{blank}

-- a position and the event there
abbrev pub Call : Type 0
Call = ℕ × Event

-- added up
abbrev pub weigh : {A : Type 0} → (A → ℕ) → List A → ℕ
weigh f [] = 0
weigh f (x ∷ xs) = f x + weigh f xs

abbrev pub weigh_all : {A : Type 0} → (A → ℕ) → List (List A) → ℕ
weigh_all f [] = 0
weigh_all f (x ∷ xs) = weigh f x + weigh_all f xs

-- these events with their positions, from k on
abbrev pub placed : ℕ → List Event → List Call
placed k [] = []
placed k (e ∷ es) = (k, e) ∷ placed (k + 1) es

-- what these calls claimed and neither delivered nor gave up
abbrev pub hand_of : List Call → List Held
hand_of calls = open_of (map (λ c. c.1) calls)

abbrev pub hands_of : List (List Call) → List (List Held)
hands_of = map hand_of

abbrev pub Starts : List Event → List Event → Type 0
Starts log seen = (rest : List Event) × (log ≡ seen ++ rest)

-- a spent view
abbrev pub nobody : View
nobody = record { first = false; firsts = 0; parts = 0; program = blank; before = []; number = None; turn = false; seen = []; beside = []; calls = []; ended = [] }

abbrev pub first_view : Board → View
first_view r = record { first = true; firsts = 1; parts = 33; program = r.program; before = r.history; number = None; turn = false; seen = r.history; beside = []; calls = []; ended = [] }

abbrev pub parts_of : View → ℕ
parts_of v = v.parts

abbrev pub firsts_of : View → ℕ
firsts_of v = v.firsts

abbrev pub one_if : Option ℕ → ℕ
one_if None = 0
one_if (Some n) = 1

abbrev pub waits : View → ℕ
waits v = one_if v.number

abbrev pub calls_weight : (Call → ℕ) → View → ℕ
calls_weight f v = weigh f v.calls + weigh_all f v.ended

abbrev pub hands_weight : (Held → ℕ) → View → ℕ
hands_weight f v = weigh f (hand_of v.calls) + weigh_all f (hands_of v.ended)

-- with a number in the queue
abbrev pub numbered : View → ℕ → View
numbered v n = record v { number = Some n }

-- with the turn, and all that is in the slot seen
abbrev pub turned : View → List Event → View
turned v log = record v { turn = true; seen = log }

-- the turn is over, and the slot has this history
abbrev pub served : View → List Event → View
served v log = record v { number = None; turn = false; seen = log; calls = v.calls ++ placed (length v.seen) (drop (length v.seen) log) }

abbrev pub left_of : View → View
left_of v = record v { parts = v.parts - 1 }

abbrev pub right_of : View → View
right_of v = record { first = false; firsts = 0; parts = 1; program = v.program; before = v.before; number = None; turn = false; seen = v.seen; beside = []; calls = []; ended = [] }

-- with another's parts and calls, and what that one has seen
abbrev pub both_of : View → View → View
both_of v w = record v { firsts = v.firsts + w.firsts; parts = v.parts + w.parts; beside = w.seen; ended = v.ended ++ w.calls ∷ w.ended }

abbrev pub longer : List Event → List Event → List Event
longer xs ys = if nat_le (length xs) (length ys) then ys else xs

abbrev pub settled : View → View
settled v = record v { seen = longer v.seen v.beside; beside = [] }

-- what one turn may add: nothing, one event, or the end of a set and behind it the same worker's claim; an end is of a set in this hand
abbrev pub IsTurn : List Held → List Event → Type 0
IsTurn hand [] = Unit {0}
IsTurn hand (e ∷ []) = is_claim e.kind ≡ false → has (e.worker, e.set) hand ≡ true
IsTurn hand (e ∷ c ∷ []) = (is_claim e.kind ≡ false) × (has (e.worker, e.set) hand ≡ true) × (is_claim c.kind ≡ true) × (c.worker ≡ e.worker)
IsTurn hand (e ∷ c ∷ d ∷ more) = ⊥

-- the registry in the slot after a turn: as it was seen, with what the turn adds
abbrev pub Follows : View → Board → Type 0
Follows v r = (r.program ≡ v.program) × IsLegal r.program r.history × ((more : List Event) × (r.history ≡ v.seen ++ more) × IsTurn (hand_of v.calls) more)

-- each claim of the hand is open
abbrev pub AreOpen : List Call → List Event → Type 0
AreOpen calls log = (h : Held) → has h (hand_of calls) ≡ true → has h (open_of log) ≡ true
