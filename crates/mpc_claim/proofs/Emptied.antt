-- Hands that are emptied one after the other.
use Rattle.std.proofs.Common.{◌≡◌, ℕ, zero, suc, ◌<◌, List, [], ◌∷◌, ◌++◌, length, Option, None, Some, refl, ap, ◌∙◌, arith}
use Rattle.std.proofs.lemmas.List.{get_or_append_left}
use Rattle.std.proofs.Math.Seq.{get_or-append_seam}
use Rattle.mpc_rows.specs.declared.programs.Qp.{Qp}
use Rattle.mpc_claim.specs.declared.events.Event.{Event}
use Rattle.mpc_claim.specs.declared.events.EventKind.TheVariants.{Drop}
use Rattle.mpc_claim.specs.declared.tickets.Ticket.{Ticket}
use Rattle.mpc_claim.specs.Board.{Board, event}
use Rattle.mpc_claim.specs.Answers.{abandoned}
use Rattle.mpc_claim.specs.Hands.{hand_at, HoldsOpen, emptied}
use Rattle.mpc_claim.proofs.Held.{held_end}

within : (hands : List (Option Ticket)) (j : ℕ) (t : Ticket) → hand_at hands j ≡ Some t → j < length hands
within [] j t e = absurd (cc)
within (x ∷ hands) zero t e = omega arith
within (x ∷ hands) (suc j) t e = let p = within hands j t e in omega arith

longer : (hands more : List (Option Ticket)) (j : ℕ) (t : Ticket) → hand_at hands j ≡ Some t → hand_at (hands ++ more) j ≡ Some t
longer hands more j t e = get_or_append_left hands more None j (within hands j t e) ∙ e

-- the last hand is empty
pub held_front : (qp : Qp) (h : List Event) (hands : List (Option Ticket)) (last : Option Ticket) → HoldsOpen qp h (hands ++ last ∷ []) → HoldsOpen qp h hands
held_front qp h hands last k = record { legal = k.legal; held = λ j t q. k.held j t (longer hands (last ∷ []) j t q) }

pub emptied_none : (board : Board) (hands : List (Option Ticket)) → emptied board (hands ++ None ∷ []) ≡ emptied board hands
emptied_none board [] = refl
emptied_none board (None ∷ hands) = emptied_none board hands
emptied_none board (Some ticket ∷ hands) = ap (λ b. abandoned b ticket) (emptied_none board hands)

-- its set is given up
pub last_open : (qp : Qp) (h : List Event) (hands : List (Option Ticket)) (ticket : Ticket) → HoldsOpen qp h (hands ++ Some ticket ∷ []) → hand_at (hands ++ Some ticket ∷ []) (length hands) ≡ Some ticket
last_open qp h hands ticket k = get_or-append_seam hands (Some ticket) [] None

pub held_less : (qp : Qp) (h : List Event) (hands : List (Option Ticket)) (ticket : Ticket) → HoldsOpen qp h (hands ++ Some ticket ∷ []) → HoldsOpen qp (h ++ event ticket.worker ticket.set Drop ∷ []) hands
held_less qp h hands ticket k =
    let at = get_or-append_seam hands (Some ticket) [] None in
    held_end qp h (hands ++ Some ticket ∷ []) (length hands) ticket Drop hands k at refl (k.held (length hands) ticket at).open_still.may_end
    (λ j t q. (λ same. (let p = within hands j t q in omega arith), longer hands (Some ticket ∷ []) j t q))

pub emptied_some : (board : Board) (hands : List (Option Ticket)) (ticket : Ticket) → emptied board (hands ++ Some ticket ∷ []) ≡ emptied (abandoned board ticket) hands
emptied_some board [] ticket = refl
emptied_some board (None ∷ hands) ticket = emptied_some board hands ticket
emptied_some board (Some other ∷ hands) ticket = ap (λ b. abandoned b other) (emptied_some board hands ticket)
