-- What a claim and its end do to a post.
use Rattle.std.proofs.Common.{◌≡◌, ◌≤◌, ℕ, [], ◌∷◌, ◌++◌, length, false, true≢false, Result, Ok, Err, All, refl, sym, ap, ◌∙◌, subst}
use Rattle.std.proofs.lemmas.List.Elements.{All-push, All-nil}
use Rattle.mpc_frac.specs.declared.NoMemory.{NoMemory}
use Rattle.mpc_space.specs.Matrix.{height}
use Rattle.mpc_sets.specs.RowSet.{IsSetOfRows}
use Rattle.mpc_rows.specs.declared.programs.Qp.{Qp}
use Rattle.mpc_claim.specs.declared.events.Event.{Event}
use Rattle.mpc_claim.specs.declared.events.EventKind.{EventKind}
use Rattle.mpc_claim.specs.declared.events.EventKind.TheVariants.{Claim}
use Rattle.mpc_claim.specs.declared.tickets.Ticket.{Ticket}
use Rattle.mpc_claim.specs.declared.tickets.Claimed.{Claimed}
use Rattle.mpc_claim.specs.declared.tickets.Claimed.TheVariants.{Job, Idle, Finished, Stopped}
use Rattle.mpc_claim.specs.Board.{event}
use Rattle.mpc_claim.specs.History.{is_claim, is_drop}
use Rattle.mpc_claim.specs.HistoryTheorems.{CandidateTheorems}
use Rattle.mpc_turn.specs.Views.{Call}
use Rattle.mpc_turn.specs.Known.{Known, TurnId, ClaimedAs, EndedAs, InHand, called}
use Rattle.mpc_turn.specs.HandTheorems.{ClaimFills, ClaimIsInHand, EndEmpties}
use Rattle.mpc_workers.specs.declared.seats.Post.{Post}
use Rattle.mpc_workers.specs.Calls.{GivesNoneUp, TakesTurns}
use Rattle.mpc_workers.specs.Posts.{GivesNoJob, IsPassOf, IsPost, IsAnswered, IsBusy, opening, post_with}
use Rattle.mpc_workers.proofs.Holding.{turns_more}

-- ---- one set of a post, in hand
module _ (worker : ℕ) (turn : TurnId) (qp : Qp) (t : Ticket) (post : Post) (b : IsBusy worker turn qp t post) where
  abbrev pub before : Known
  before = b.answered.before

  pub its_program : post.pass.program ≡ qp
  its_program = ap (λ (k : Known). k.program) b.answered.claimed.2 ∙ b.answered.pass.program

  pub its_turn : post.pass.turn ≡ turn
  its_turn = ap (λ (k : Known). k.turn) b.answered.claimed.2 ∙ b.answered.pass.turn_is

  pub its_rows : CandidateTheorems → IsSetOfRows (height qp.g) t.set
  its_rows laws = subst (λ (q : Qp). IsSetOfRows (height q.g) t.set) b.answered.pass.program (laws.rows before.program t.set b.answered.claimed.4.candidate)

  pub its_few : CandidateTheorems → length t.set ≤ height qp.h
  its_few laws = subst (λ (q : Qp). length t.set ≤ height q.h) b.answered.pass.program (laws.few before.program t.set b.answered.claimed.4.candidate)

  pub its_hand : ClaimIsInHand → InHand t post.pass
  its_hand in_hand = in_hand before post.pass t b.answered.pass.empty b.answered.claimed

  -- after its end
  module _ (fills : ClaimFills) (empties : EndEmpties) (kind : EventKind) (ends : is_claim kind ≡ false) (last : Known) (d : EndedAs post.pass t kind last) where
    abbrev claimed : Event
    claimed = event before.worker t.set Claim

    abbrev ended : Event
    ended = event t.worker t.set kind

    last_is : last ≡ called (called before b.answered.claimed.0 claimed) d.0 ended
    last_is = d.2 ∙ ap (λ (k : Known). called k d.0 ended) b.answered.claimed.2

    own_ticket : t.worker ≡ worker
    own_ticket = ap (λ (x : Ticket). x.worker) b.answered.claimed.3 ∙ b.answered.pass.worker_is

    pub ended_pass : IsPassOf worker turn qp last
    ended_pass = let i = b.answered.pass in record {
      turn_is = ap (λ (k : Known). k.turn) last_is ∙ i.turn_is;
      other = ap (λ (k : Known). k.first) last_is ∙ i.other;
      empty = empties post.pass last t kind ends (fills before post.pass t i.empty b.answered.claimed) d;
      alone = ap (λ (k : Known). k.ended) last_is ∙ i.alone;
      program = ap (λ (k : Known). k.program) last_is ∙ i.program;
      worker_is = ap (λ (k : Known). k.worker) last_is ∙ i.worker_is;
      own = subst (λ (k : Known). All (λ (x : Call). x.1.worker ≡ worker) k.calls) (sym last_is)
          (All-push (λ (x : Call). x.1.worker ≡ worker) (before.calls ++ (length b.answered.claimed.0, claimed) ∷ []) (length d.0, ended) (All-push (λ (x : Call). x.1.worker ≡ worker) before.calls (length b.answered.claimed.0, claimed) i.own i.worker_is) own_ticket);
      turns = subst (λ (k : Known). TakesTurns k.calls) (sym last_is) (turns_more before.calls (length b.answered.claimed.0, claimed) (length d.0, ended) i.turns refl ends refl);
    }

    pub ended_kept : is_drop kind ≡ false → post.gave_up ≡ false → GivesNoneUp last.calls
    ended_kept fine f = subst (λ (k : Known). GivesNoneUp k.calls) (sym last_is)
        (All-push (λ (x : Call). is_drop x.1.kind ≡ false) (before.calls ++ (length b.answered.claimed.0, claimed) ∷ []) (length d.0, ended) (All-push (λ (x : Call). is_drop x.1.kind ≡ false) before.calls (length b.answered.claimed.0, claimed) (b.answered.kept f) refl) fine)

    -- and after a claim behind it
    pub then_answered : is_drop kind ≡ false → (answer : Result Claimed NoMemory) (next : Known) → ClaimedAs last answer next → IsAnswered worker turn qp answer (record post { pass = next })
    then_answered fine answer next claimed = record { before = last; pass = ended_pass; kept = ended_kept fine; claimed = claimed }

-- ---- a claim that gave nothing
pub same_calls : (a b : Known) (answer : Result Claimed NoMemory) → ClaimedAs a answer b → GivesNoJob answer → b.calls ≡ a.calls
same_calls a b (Ok (Job t)) c h = absurd h
same_calls a b (Ok Idle) c h = ap (λ (k : Known). k.calls) c.1
same_calls a b (Ok Finished) c h = ap (λ (k : Known). k.calls) c.1
same_calls a b (Ok Stopped) c h = ap (λ (k : Known). k.calls) c.1
same_calls a b (Err e) c h = ap (λ (k : Known). k.calls) c.1

-- a post with a pass that was just split off
pub split_off : (turn : TurnId) (qp : Qp) (lent worker : ℕ) (first p : Known) (post : Post) → first ≡ opening turn qp lent → p ≡ record first { first = false; lent = 0; worker = worker; calls = []; ended = [] } → post ≡ post_with p → IsPost worker turn qp post
split_off turn qp lent worker first p post o is with_it =
    let all : post ≡ post_with (record (opening turn qp lent) { first = false; lent = 0; worker = worker; calls = []; ended = [] }) =
    with_it ∙ (ap post_with is ∙ ap (λ (k : Known). post_with (record k { first = false; lent = 0; worker = worker; calls = []; ended = [] })) o) in
    subst (IsPost worker turn qp) (sym all) (record {
      pass = record {
        turn_is = refl;
        other = refl;
        empty = refl;
        alone = refl;
        program = refl;
        worker_is = refl;
        own = All-nil (λ (c : Call). c.1.worker ≡ worker);
        turns = tt;
      };
      kept = λ _. All-nil (λ (c : Call). is_drop c.1.kind ≡ false);
      ended = λ no. absurd (true≢false (sym no));
    })
