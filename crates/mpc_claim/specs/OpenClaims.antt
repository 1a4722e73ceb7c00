-- The claims of a history that are neither delivered nor given up.
use Rattle.std.specs.Prelude.{ℕ, List, [], ◌∷◌, ◌++◌, Bool, true, false, ◌==◌, ◌&&◌, ◌||◌, if◌then◌else◌}
use Rattle.mpc_claim.specs.declared.events.Event.{Event}
use Rattle.mpc_claim.specs.declared.tickets.Ticket.{Ticket}
use Rattle.mpc_claim.specs.History.{is_claim}

-- a worker, and the set that it has claimed
abbrev pub Held : Type 0
Held = ℕ × List ℕ

abbrev pub held_by : Ticket → Held
held_by ticket = (ticket.worker, ticket.set)

abbrev pub same_set : List ℕ → List ℕ → Bool
same_set [] [] = true
same_set [] (j ∷ t) = false
same_set (i ∷ s) [] = false
same_set (i ∷ s) (j ∷ t) = (i == j) && same_set s t

abbrev pub same : Held → Held → Bool
same a b = (a.0 == b.0) && same_set a.1 b.1

abbrev pub has : Held → List Held → Bool
has h [] = false
has h (x ∷ xs) = same h x || has h xs

-- without its first place
abbrev pub without : Held → List Held → List Held
without h [] = []
without h (x ∷ xs) = if same h x then xs else x ∷ without h xs

-- a claim comes last, and an end takes that of its worker and set away
abbrev pub opened : List Held → Event → List Held
opened held e = if is_claim e.kind then held ++ (e.worker, e.set) ∷ [] else without (e.worker, e.set) held

abbrev pub open_after : List Held → List Event → List Held
open_after held [] = held
open_after held (e ∷ es) = open_after (opened held e) es

-- what is open after these events, in the order of the claims
abbrev pub open_of : List Event → List Held
open_of past = open_after [] past
