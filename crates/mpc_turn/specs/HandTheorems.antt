-- What a claim puts into an empty hand, and that its end takes it out again.
use Rattle.std.specs.Prelude.{◌≡◌, [], ◌∷◌, false, Ok}
use Rattle.mpc_claim.specs.declared.events.EventKind.{EventKind}
use Rattle.mpc_claim.specs.declared.tickets.Ticket.{Ticket}
use Rattle.mpc_claim.specs.declared.tickets.Claimed.TheVariants.{Job}
use Rattle.mpc_claim.specs.History.{is_claim}
use Rattle.mpc_claim.specs.OpenClaims.{held_by}
use Rattle.mpc_turn.specs.Views.{hand_of}
use Rattle.mpc_turn.specs.Known.{Known, ClaimedAs, EndedAs, InHand}

-- after a claim that gives a set out, an empty hand has this set alone
abbrev pub ClaimFills : Type 0
ClaimFills = (a b : Known) (t : Ticket) → hand_of a.calls ≡ [] → ClaimedAs a (Ok (Job t)) b → hand_of b.calls ≡ held_by t ∷ []

-- and the ticket may be spent by it
abbrev pub ClaimIsInHand : Type 0
ClaimIsInHand = (a b : Known) (t : Ticket) → hand_of a.calls ≡ [] → ClaimedAs a (Ok (Job t)) b → InHand t b

-- a hand that has one set alone is empty after its end
abbrev pub EndEmpties : Type 0
EndEmpties = (a b : Known) (t : Ticket) (kind : EventKind) → is_claim kind ≡ false → hand_of a.calls ≡ held_by t ∷ [] → EndedAs a t kind b → hand_of b.calls ≡ []
