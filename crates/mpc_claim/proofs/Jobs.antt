-- What a claim gives out.
use Rattle.std.proofs.Common.{◌≡◌, ℕ, suc, ◌+◌, ◌-◌, ◌<◌, ◌≤◌, List, [], ◌∷◌, ◌++◌, length, set, map, Contains, Some, slice_get, refl, sym, ap, ◌∙◌, subst, arith}
use Rattle.std.proofs.Math.Seq.{get_or-append_seam}
use Rattle.std.proofs.lemmas.List.{length-append, length-map, length-take-le}
use Rattle.std.proofs.lemmas.List.Elements.{Contains-push}
use Rattle.std.proofs.lemmas.Option.{slice_get-get_or}
use Rattle.mpc_rows.specs.declared.programs.Qp.{Qp}
use Rattle.mpc_claim.specs.declared.events.Event.{Event}
use Rattle.mpc_claim.specs.declared.events.EventKind.TheVariants.{Claim}
use Rattle.mpc_claim.specs.declared.events.Phase.TheVariants.{Working}
use Rattle.mpc_claim.specs.declared.candidates.Candidate.{Candidate}
use Rattle.mpc_claim.specs.declared.candidates.Slot.TheVariants.{Claimed}
use Rattle.mpc_claim.specs.declared.tickets.Ticket.{Ticket}
use Rattle.mpc_claim.specs.Board.{Board, at, candidate, event, sets_of, waiting}
use Rattle.mpc_claim.specs.History.{claimed_sets, ended_sets, MayClaim, IsOpen}
use Rattle.mpc_claim.specs.Books.{HasSlots, IsKept, IsQuiet}
use Rattle.mpc_claim.specs.Levels.{HoldsCandidates}
use Rattle.mpc_claim.specs.Answers.{GivesJob}
use Rattle.mpc_claim.proofs.Lists.{length-sets_of}
use Rattle.mpc_claim.proofs.Histories.{claimed-claim, ended-claim}
use Rattle.mpc_claim.proofs.Sound.{may_claim, sound}
use Rattle.mpc_claim.proofs.Steps.{kept_claim, unended}
use Rattle.mpc_claim.proofs.NextLevels.{kept_level}

abbrev pub board : Qp → List Candidate → ℕ → List Event → Board
board qp cs settled h = record { program = qp; candidates = cs; settled = settled; phase = Working; history = h }

claim_count : (qp : Qp) (cs : List Candidate) (settled n pending : ℕ) (h : List Event) → HasSlots qp cs settled n pending h → length (claimed_sets h) ≡ n
claim_count qp cs settled n pending h k =
    let many = length-sets_of cs in
    let within = k.within in
    ap length k.claimed ∙ length-take-le n (sets_of cs) (omega (arith, many))

pub opens : (h : List Event) (n w : ℕ) (ticket : Ticket) → length (claimed_sets h) ≡ n → ticket.number ≡ n + 1 → ticket.worker ≡ w → (Contains (ended_sets h) ticket.set → ⊥) → IsOpen (h ++ event w ticket.set Claim ∷ []) ticket
opens h n w ticket count number worker fresh =
    let l = length-append (claimed_sets h) (ticket.set ∷ []) in
    let here : ticket.number - 1 ≡ length (claimed_sets h) = omega (arith, count, number) in
    let listed : slice_get (claimed_sets h ++ ticket.set ∷ []) (length (claimed_sets h)) ≡ Some ticket.set =
    slice_get-get_or (claimed_sets h ++ ticket.set ∷ []) (length (claimed_sets h)) [] (omega (arith, l)) ∙ ap Some (get_or-append_seam (claimed_sets h) ticket.set [] []) in
    record {
      from_one = omega (arith, number);
      numbered = ap (λ u. slice_get u (ticket.number - 1)) (claimed-claim h w ticket.set) ∙ ap (slice_get (claimed_sets h ++ ticket.set ∷ [])) here ∙ listed;
      may_end = record {
        claimed = subst (λ v. Contains (h ++ event w ticket.set Claim ∷ []) (event v ticket.set Claim)) (sym worker) (Contains-push h (event w ticket.set Claim));
        open_still = λ c. fresh (subst (λ u. Contains u ticket.set) (ended-claim h w ticket.set) c);
      };
    }

gives : (qp : Qp) (old cs : List Candidate) (settled n pending size : ℕ) (h : List Event) (w room capacity earlier : ℕ) (ticket : Ticket) → IsKept qp cs settled n pending size Working h room → n < length cs → length h + (pending + 2) ≤ capacity → ticket.number ≡ n + 1 → ticket.worker ≡ w → ticket.set ≡ (at cs n).set
    → GivesJob (board qp old earlier h) w ticket (board qp (set cs n (candidate (at cs n).set (Claimed (n + 1)))) settled (h ++ event w (at cs n).set Claim ∷ []))
gives qp old cs settled n pending size h w room capacity earlier ticket k p enough number worker set_is =
    let count = claim_count qp cs settled n pending h k.slots in
    record {
      working = refl;
      may_claim = subst (MayClaim qp h) (sym set_is) (may_claim qp cs settled n pending size h k.lineup k.slots k.phase_fits p);
      worker_is = worker;
      number_is = omega (arith, count, number);
      program = refl;
      phase = refl;
      history = ap (λ s. h ++ event w s Claim ∷ []) (sym set_is);
      opens = subst (λ s. IsOpen (h ++ event w s Claim ∷ []) ticket) set_is
          (opens h n w ticket count number worker (λ c. unended qp cs settled n pending size h k.legal k.lineup k.slots p (subst (Contains (ended_sets h)) set_is c)));
      sound = sound qp (set cs n (candidate (at cs n).set (Claimed (n + 1)))) settled (n + 1) (pending + 1) size (h ++ event w (at cs n).set Claim ∷ []) Working capacity
          (kept_claim qp cs settled n pending size h w room capacity k p enough);
    }

pub gives_waiting : (qp : Qp) (cs : List Candidate) (settled n pending size : ℕ) (h : List Event) (w room capacity : ℕ) (ticket : Ticket) → IsKept qp cs settled n pending size Working h room → n < length cs → length h + (pending + 2) ≤ capacity → ticket.number ≡ n + 1 → ticket.worker ≡ w → ticket.set ≡ (at cs n).set
    → GivesJob (board qp cs settled h) w ticket (board qp (set cs n (candidate (at cs n).set (Claimed (n + 1)))) settled (h ++ event w (at cs n).set Claim ∷ []))
gives_waiting qp cs settled n pending size h w room capacity ticket = gives qp cs cs settled n pending size h w room capacity settled ticket

-- the next level, of which the first candidate is given out
module _ (qp : Qp) (cs : List Candidate) (sets : List (List ℕ)) (settled n pending size : ℕ) (h : List Event) (w room capacity : ℕ) (ticket : Ticket)
    (k : IsKept qp cs settled n pending size Working h room) (all : n ≡ length cs) (quiet : (i : ℕ) → i < length cs → IsQuiet (at cs i).slot) (next : HoldsCandidates qp (suc size) sets) (some : 0 < length sets) (enough : length h + (pending + 2) ≤ capacity) where
  level_kept : IsKept qp (cs ++ map waiting sets) (length cs) n pending (size + 1) Working h room
  level_kept = kept_level qp cs sets settled n pending size h room k (omega arith) quiet next some

  pub some_waits : n < length (cs ++ map waiting sets)
  some_waits = let l = length-append cs (map waiting sets) in let m = length-map sets waiting in omega (arith, l, m)

  pub kept_next : IsKept qp (set (cs ++ map waiting sets) n (candidate (at (cs ++ map waiting sets) n).set (Claimed (n + 1)))) n (n + 1) (pending + 1) (size + 1) Working (h ++ event w (at (cs ++ map waiting sets) n).set Claim ∷ []) capacity
  kept_next = subst (λ m. IsKept qp (set (cs ++ map waiting sets) n (candidate (at (cs ++ map waiting sets) n).set (Claimed (n + 1)))) m (n + 1) (pending + 1) (size + 1) Working (h ++ event w (at (cs ++ map waiting sets) n).set Claim ∷ []) capacity) (sym all)
      (kept_claim qp (cs ++ map waiting sets) (length cs) n pending (size + 1) h w room capacity level_kept some_waits enough)

  pub gives_next : ticket.number ≡ n + 1 → ticket.worker ≡ w → ticket.set ≡ (at (cs ++ map waiting sets) n).set
      → GivesJob (board qp cs settled h) w ticket (board qp (set (cs ++ map waiting sets) n (candidate (at (cs ++ map waiting sets) n).set (Claimed (n + 1)))) n (h ++ event w (at (cs ++ map waiting sets) n).set Claim ∷ []))
  gives_next number worker set_is = subst (λ m. GivesJob (board qp cs settled h) w ticket (board qp (set (cs ++ map waiting sets) n (candidate (at (cs ++ map waiting sets) n).set (Claimed (n + 1)))) m (h ++ event w (at (cs ++ map waiting sets) n).set Claim ∷ []))) (sym all)
      (gives qp cs (cs ++ map waiting sets) (length cs) n pending (size + 1) h w room capacity settled ticket level_kept some_waits enough number worker set_is)
