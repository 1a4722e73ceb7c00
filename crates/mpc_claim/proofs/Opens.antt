-- Open claims, as the history grows.
use Rattle.std.proofs.Common.{◌≡◌, ◌≢◌, ℕ, zero, suc, ◌-◌, List, [], ◌∷◌, ◌++◌, false, Contains, Some, slice_get, ap, ◌∙◌, subst, inl, inr}
use Rattle.std.proofs.lemmas.List.Elements.{Contains-append_left, Contains-push_cases}
use Rattle.mpc_claim.specs.declared.events.Event.{Event}
use Rattle.mpc_claim.specs.declared.events.EventKind.{EventKind}
use Rattle.mpc_claim.specs.declared.events.EventKind.TheVariants.{Claim}
use Rattle.mpc_claim.specs.declared.tickets.Ticket.{Ticket}
use Rattle.mpc_claim.specs.Board.{event}
use Rattle.mpc_claim.specs.History.{is_claim, claimed_sets, ended_sets, IsOpen}
use Rattle.mpc_claim.proofs.Histories.{claimed-claim, claimed-end, ended-claim, ended-end}

pub slice_get-front : {X : Type 0} (xs ys : List X) (i : ℕ) (x : X) → slice_get xs i ≡ Some x → slice_get (xs ++ ys) i ≡ Some x
slice_get-front [] ys i x e = absurd (cc)
slice_get-front (y ∷ xs) ys zero x e = e
slice_get-front (y ∷ xs) ys (suc i) x e = slice_get-front xs ys i x e

-- a claim of another set leaves it open, under the same number
pub open_after_claim : (h : List Event) (w : ℕ) (s : List ℕ) (ticket : Ticket) → IsOpen h ticket → IsOpen (h ++ event w s Claim ∷ []) ticket
open_after_claim h w s ticket o = record {
  from_one = o.from_one;
  numbered = ap (λ u. slice_get u (ticket.number - 1)) (claimed-claim h w s) ∙ slice_get-front (claimed_sets h) (s ∷ []) (ticket.number - 1) ticket.set o.numbered;
  may_end = record {
    claimed = Contains-append_left h (event w s Claim ∷ []) (event ticket.worker ticket.set Claim) o.may_end.claimed;
    open_still = λ c. o.may_end.open_still (subst (λ u. Contains u ticket.set) (ended-claim h w s) c);
  };
}

-- and so does the end of another set
pub open_after_end : (h : List Event) (w : ℕ) (s : List ℕ) (kind : EventKind) (ticket : Ticket) → is_claim kind ≡ false → s ≢ ticket.set → IsOpen h ticket → IsOpen (h ++ event w s kind ∷ []) ticket
open_after_end h w s kind ticket e ne o = record {
  from_one = o.from_one;
  numbered = ap (λ u. slice_get u (ticket.number - 1)) (claimed-end h w s kind e) ∙ o.numbered;
  may_end = record {
    claimed = Contains-append_left h (event w s kind ∷ []) (event ticket.worker ticket.set Claim) o.may_end.claimed;
    open_still = λ c. elim (Contains-push_cases (ended_sets h) s ticket.set (subst (λ u. Contains u ticket.set) (ended-end h w s kind e) c)) [ inl k ↦ o.may_end.open_still k | inr same ↦ ne same ];
  };
}
