-- What a claim and its end do to a hand.
use Rattle.std.proofs.Common.{◌≡◌, ℕ, ◌+◌, ◌-◌, List, [], ◌∷◌, ◌++◌, length, Bool, true, false, Some, Ok, refl, sym, ap, ◌∙◌, arith, eq-eqb}
use Rattle.std.specs.Prelude.{slice_get, if◌then◌else◌}
use Rattle.mpc_claim.specs.declared.events.EventKind.{EventKind}
use Rattle.mpc_claim.specs.declared.events.EventKind.TheVariants.{Claim}
use Rattle.mpc_claim.specs.declared.tickets.Ticket.{Ticket}
use Rattle.mpc_claim.specs.declared.tickets.Claimed.TheVariants.{Job}
use Rattle.mpc_claim.specs.Board.{event}
use Rattle.mpc_claim.specs.History.{is_claim, claimed_sets}
use Rattle.mpc_claim.specs.OpenClaims.{Held, held_by, same, without}
use Rattle.mpc_claim.specs.HistoryTheorems.{AppendTheorems}
use Rattle.mpc_turn.specs.Views.{hand_of}
use Rattle.mpc_turn.specs.Known.{Known, ClaimedAs, EndedAs, InHand}
use Rattle.mpc_turn.proofs.Sums.{hand_of-append, same_set-refl}

same-refl : (h : Held) → same h h ≡ true
same-refl h = rw (eq-eqb h.0 h.0 refl) (same_set-refl h.1)

get_last : (xs : List (List ℕ)) (x : List ℕ) → slice_get (xs ++ x ∷ []) (length xs) ≡ Some x
get_last [] x = refl
get_last (y ∷ xs) x = get_last xs x

module _ (a b : Known) (t : Ticket) where
  pub claimed_hand : hand_of a.calls ≡ [] → ClaimedAs a (Ok (Job t)) b → hand_of b.calls ≡ held_by t ∷ []
  claimed_hand none c =
      ap (λ (k : Known). hand_of k.calls) c.2
      ∙ (hand_of-append a.calls (length c.0) (event a.worker t.set Claim ∷ [])
      ∙ (ap (λ (l : List Held). l ++ (a.worker, t.set) ∷ []) none ∙ ap (λ (w : ℕ). (w, t.set) ∷ []) (sym (ap (λ (x : Ticket). x.worker) c.3))))

  pub in_hand : AppendTheorems → hand_of a.calls ≡ [] → ClaimedAs a (Ok (Job t)) b → InHand t b
  in_hand appended none c =
      let number : t.number ≡ length (claimed_sets c.0) + 1 = ap (λ (x : Ticket). x.number) c.3 in
      let place : t.number - 1 ≡ length (claimed_sets c.0) = omega (arith, number) in
      let listed : claimed_sets b.seen ≡ claimed_sets c.0 ++ t.set ∷ [] = ap (λ (k : Known). claimed_sets k.seen) c.2 ∙ appended.claimed c.0 (event a.worker t.set Claim ∷ []) in
      record {
        held = rw (claimed_hand none c) (rw (same-refl (held_by t)) refl);
        from_one = omega (arith, number);
        numbered = ap (slice_get (claimed_sets b.seen)) place ∙ (ap (λ l. slice_get l (length (claimed_sets c.0))) listed ∙ get_last (claimed_sets c.0) t.set);
      }

  pub ended_hand : (kind : EventKind) → is_claim kind ≡ false → hand_of a.calls ≡ held_by t ∷ [] → EndedAs a t kind b → hand_of b.calls ≡ []
  ended_hand kind ends one d =
      ap (λ (k : Known). hand_of k.calls) d.2
      ∙ (hand_of-append a.calls (length d.0) (event t.worker t.set kind ∷ [])
      ∙ (ap (λ (c : Bool). if c then hand_of a.calls ++ held_by t ∷ [] else without (held_by t) (hand_of a.calls)) ends
      ∙ (ap (without (held_by t)) one ∙ rw (same-refl (held_by t)) refl)))
