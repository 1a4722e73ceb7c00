-- What is left when all passes are back.
use Rattle.std.proofs.Common.{◌≡◌, ◌⊎◌, ℕ, ◌+◌, ◌<◌, List, [], ◌∷◌, ◌++◌, length, drop, Bool, true, false, true≢false, cond, zero, suc, get_or, All, refl, sym, ap, ◌∙◌, subst, inl, inr, arith, append_assoc}
use Rattle.std.specs.Prelude.{◌||◌, ◌&&◌, nat_lt, nat_le}
use Rattle.std.proofs.lemmas.Bool.Decides.{nat_tests}
use Rattle.std.proofs.lemmas.List.Elements.{All-head, All-tail, All-nil, All-cons}
use Rattle.std.proofs.lemmas.List.{append-nil}
use Rattle.mpc_rows.specs.declared.programs.Qp.{Qp}
use Rattle.mpc_claim.specs.declared.events.Event.{Event}
use Rattle.mpc_claim.specs.declared.events.EventKind.TheVariants.{Drop}
use Rattle.mpc_claim.specs.declared.events.Phase.TheVariants.{Finished, Stopped}
use Rattle.mpc_claim.specs.declared.tickets.Ticket.{Ticket}
use Rattle.mpc_claim.specs.Board.{Board, at, event}
use Rattle.mpc_claim.specs.History.{is_drop, has_drop, MayClaim, IsLegal, IsFinished, IsIdle, EndsWide}
use Rattle.mpc_claim.specs.OpenClaims.{open_of}
use Rattle.mpc_claim.specs.Books.{IsSlotOf, IsSound}
use Rattle.mpc_claim.specs.Answers.{GivesJob, FindsIdle}
use Rattle.mpc_claim.specs.HistoryTheorems.{AnswerTheorems, AppendTheorems, EndedIsWhole}
use Rattle.mpc_turn.specs.Views.{Call, Starts, weigh, weigh_all, placed, hand_of}
use Rattle.mpc_turn.specs.Known.{Known, TurnId, Closed, NoneClaimed, at_place}
use Rattle.mpc_workers.specs.Holding.{HoldOneSet}
use Rattle.mpc_workers.specs.Calls.{GivesNoneUp}
use Rattle.mpc_workers.specs.Posts.{HasEnd}
use Rattle.mpc_workers.specs.Joined.{Joins, SeesEnd, IsLeft}
use Rattle.mpc_workers.specs.Seats.{IsWorker, NoneDropped, IsDone}
use Rattle.mpc_workers.proofs.Holding.{hold_one}

-- ---- sums in which each term is 0
module _ (f : Call → ℕ) where
  weigh_none : (cs : List Call) → All (λ (c : Call). f c ≡ 0) cs → weigh f cs ≡ 0
  weigh_none [] a = refl
  weigh_none (c ∷ cs) a = let h = All-head (λ (x : Call). f x ≡ 0) c cs a in let r = weigh_none cs (All-tail (λ (x : Call). f x ≡ 0) c cs a) in omega (arith, h, r)

  weigh_all_none : (cs : List (List Call)) → All (λ (c : List Call). All (λ (x : Call). f x ≡ 0) c) cs → weigh_all f cs ≡ 0
  weigh_all_none [] a = refl
  weigh_all_none (c ∷ cs) a =
      let h = weigh_none c (All-head (λ (d : List Call). All (λ (x : Call). f x ≡ 0) d) c cs a) in
      let r = weigh_all_none cs (All-tail (λ (d : List Call). All (λ (x : Call). f x ≡ 0) d) c cs a) in
      omega (arith, h, r)

-- ---- workers of the pool
abbrev stray : ℕ → ℕ → ℕ
stray most w = cond (nat_lt 0 w && nat_le w most) 0 1

in_range : (most w : ℕ) → IsWorker most w → stray most w ≡ 0
in_range most w r = let a = r.0 in let b = r.1 in grind (arith, nat_tests)

not_stray : (most w : ℕ) → stray most w ≡ 0 → IsWorker most w
not_stray most w e = (grind (arith, nat_tests), grind (arith, nat_tests))

abbrev strays : ℕ → Call → ℕ
strays most c = stray most c.1.worker

events_in : (most k : ℕ) (es : List Event) → weigh (strays most) (placed k es) ≡ 0 → All (λ (e : Event). IsWorker most e.worker) es
events_in most k [] z = All-nil (λ (e : Event). IsWorker most e.worker)
events_in most k (e ∷ es) z = All-cons (λ (x : Event). IsWorker most x.worker) e es (not_stray most e.worker (omega arith)) (events_in most (k + 1) es (omega arith))

-- ---- sets that were given up
abbrev drops : Call → ℕ
drops c = cond (is_drop c.1.kind) 1 0

no_drops : (k : ℕ) (es : List Event) → weigh drops (placed k es) ≡ 0 → has_drop es ≡ false
no_drops k [] z = refl
no_drops k (e ∷ es) z = go (is_drop e.kind) refl (no_drops (k + 1) es)
  where
    go : (b : Bool) → is_drop e.kind ≡ b → (weigh drops (placed (k + 1) es) ≡ 0 → has_drop es ≡ false) → (is_drop e.kind || has_drop es) ≡ false
    go true q r = let one : drops (k, e) ≡ 1 = ap (λ (c : Bool). cond c 1 0) q in absurd (omega (arith, one, z))
    go false q r = rw q (r (omega arith))

-- ---- the closed turn
module _ (whole : EndedIsWhole) (appended : AppendTheorems) (turn : TurnId) (qp : Qp) (most : ℕ) (k : Known) (r : Board) (j : Joins turn qp most 0 k) (kept : All GivesNoneUp k.ended) (d : SeesEnd qp k) (c : Closed k r) where
  same_program : r.program ≡ qp
  same_program = c.program ∙ j.program

  legal : IsLegal qp r.history
  legal = subst (λ (q : Qp). IsLegal q r.history) same_program c.legal

  counts : (f : Call → ℕ) → All (λ (cs : List Call). All (λ (x : Call). f x ≡ 0) cs) k.ended → weigh f (placed 0 r.history) ≡ 0
  counts f none =
      let sum = subst (λ (b : List Event). weigh f k.calls + weigh_all f k.ended ≡ weigh f (placed (length b) (drop (length b) r.history))) j.before_none (c.counted f) in
      let own = ap (weigh f) j.calls_none in
      let others = weigh_all_none f k.ended none in
      omega (arith, sum, own, others)

  no_drop : has_drop r.history ≡ false
  no_drop = no_drops 0 r.history (counts drops (λ i e p x y q. ap (λ (b : Bool). cond b 1 0) (kept i e p x y q)))

  begins : Starts r.history d.past
  begins = (d.begins.0 ++ c.seen.0, c.seen.1 ∙ (ap (λ l. l ++ c.seen.0) d.begins.1 ∙ append_assoc d.past d.begins.0 c.seen.0))

  past_no_drop : has_drop d.past ≡ true → ⊥
  past_no_drop e = go (sym no_drop ∙ (ap has_drop begins.1 ∙ (appended.dropped d.past begins.0 ∙ ap (λ (b : Bool). b || has_drop begins.0) e)))
    where
      go : false ≡ true → ⊥
      go f = true≢false (sym f)

  ends : HasEnd qp d.past → IsFinished qp d.past ⊎ EndsWide qp d.past
  ends (inl f) = inl f
  ends (inr (inl e)) = absurd (past_no_drop e)
  ends (inr (inr w)) = inr w

  all_seen : r.history ≡ d.past
  all_seen = begins.1 ∙ (ap (λ l. d.past ++ l) (whole qp d.past begins.0 (subst (IsLegal qp) begins.1 legal) (ends d.end)) ∙ append-nil d.past)

  each_once : (p : ℕ) → p < length r.history → weigh_all (at_place p) k.ended ≡ 1
  each_once p l =
      let none = ap length j.before_none in
      let sum = c.once p (omega (arith, none)) l in
      let own = ap (weigh (at_place p)) j.calls_none in
      omega (arith, sum, own)

  pub left_of_all : IsLeft qp most r
  left_of_all =
      let before : open_of k.before ≡ [] = ap open_of j.before_none in
      let hand : hand_of k.calls ≡ [] = ap hand_of j.calls_none in
      let nothing = c.settled before hand (λ i e p. (j.ended_all i e p).empty) in
      record {
        program = same_program;
        legal = legal;
        none_open = nothing.0;
        none_claimed = nothing.1;
        no_drop = no_drop;
        workers = events_in most 0 r.history (counts (strays most) (λ i e p x y q. in_range most _ ((j.ended_all i e p).workers x y q)));
        one_each = hold_one most (length k.before) r.history k.ended each_once c.stands.1 j.ended_all j.in_order;
        ended = subst (λ (h : List Event). IsFinished qp h ⊎ EndsWide qp h) (sym all_seen) (ends d.end);
      }

-- ---- the last claim
module _ (answers : AnswerTheorems) (qp : Qp) (most : ℕ) (r : Board) (l : IsLeft qp most r) where
  pub no_job : (worker : ℕ) (ticket : Ticket) (new : Board) → GivesJob r worker ticket new → ⊥
  no_job worker ticket new j = go l.ended
    where
      may : MayClaim qp r.history ticket.set
      may = subst (λ (q : Qp). MayClaim q r.history ticket.set) l.program j.may_claim

      go : IsFinished qp r.history ⊎ EndsWide qp r.history → ⊥
      go (inl f) = answers.finished_alone qp r.history f ticket.set may
      go (inr w) = (answers.wide_alone qp r.history l.legal w).0 (inl (ticket.set, may))

  pub not_idle : FindsIdle r → ⊥
  not_idle i = go l.ended
    where
      here : IsIdle qp r.history
      here = subst (λ (q : Qp). IsIdle q r.history) l.program i.idle

      go : IsFinished qp r.history ⊎ EndsWide qp r.history → ⊥
      go (inl f) = (answers.idle_alone qp r.history l.legal here).1 f
      go (inr w) = (answers.idle_alone qp r.history l.legal here).2 w

drop_by : (es : List Event) (w : ℕ) (s : List ℕ) (i : ℕ) → i < length es → get_or es i (event w s Drop) ≡ event w s Drop → has_drop es ≡ true
drop_by [] w s i p e = absurd (omega arith)
drop_by (x ∷ es) w s zero p e = let k : is_drop x.kind ≡ true = ap (λ (y : Event). is_drop y.kind) e in ap (λ (b : Bool). b || has_drop es) k
drop_by (x ∷ es) w s (suc i) p e = right (is_drop x.kind) (has_drop es) (drop_by es w s i (omega arith) e)
  where
    right : (a b : Bool) → b ≡ true → (a || b) ≡ true
    right true b f = refl
    right false b f = f

none_dropped : (r : Board) → IsSound r → has_drop r.history ≡ false → NoneDropped r
none_dropped r sound none i within slot =
    let shown = (subst (IsSlotOf r.program r.history i (at r.candidates i).set) slot (sound.slots i within)).1 in
    let there = shown.1 in
    true≢false (sym (drop_by r.history shown.0 (at r.candidates i).set there.0 there.1 there.2) ∙ none)

module _ (qp : Qp) (most : ℕ) (r new : Board) (l : IsLeft qp most r) (sound : IsSound new) where
  pub ends_finished : new ≡ record r { phase = Finished } → IsFinished r.program r.history → IsDone qp most new
  ends_finished is f = record {
    program = ap (λ (b : Board). b.program) is ∙ l.program;
    legal = subst (λ (b : Board). IsLegal qp b.history) (sym is) l.legal;
    ended = inl (ap (λ (b : Board). b.phase) is, subst (λ (b : Board). IsFinished qp b.history) (sym is) (subst (λ (q : Qp). IsFinished q r.history) l.program f));
    workers = subst (λ (b : Board). All (λ (e : Event). IsWorker most e.worker) b.history) (sym is) l.workers;
    one_each = subst (λ (b : Board). HoldOneSet b.history) (sym is) l.one_each;
    none_claimed = subst NoneClaimed (sym is) l.none_claimed;
    none_dropped = none_dropped new sound (ap (λ (b : Board). has_drop b.history) is ∙ l.no_drop);
    no_drop = ap (λ (b : Board). has_drop b.history) is ∙ l.no_drop;
  }

  pub ends_stopped : new ≡ record r { phase = Stopped } → (has_drop r.history ≡ true) ⊎ EndsWide r.program r.history → IsDone qp most new
  ends_stopped is w = record {
    program = ap (λ (b : Board). b.program) is ∙ l.program;
    legal = subst (λ (b : Board). IsLegal qp b.history) (sym is) l.legal;
    ended = inr (ap (λ (b : Board). b.phase) is, subst (λ (b : Board). EndsWide qp b.history) (sym is) (subst (λ (q : Qp). EndsWide q r.history) l.program (wide w)));
    workers = subst (λ (b : Board). All (λ (e : Event). IsWorker most e.worker) b.history) (sym is) l.workers;
    one_each = subst (λ (b : Board). HoldOneSet b.history) (sym is) l.one_each;
    none_claimed = subst NoneClaimed (sym is) l.none_claimed;
    none_dropped = none_dropped new sound (ap (λ (b : Board). has_drop b.history) is ∙ l.no_drop);
    no_drop = ap (λ (b : Board). has_drop b.history) is ∙ l.no_drop;
  }
    where
      wide : (has_drop r.history ≡ true) ⊎ EndsWide r.program r.history → EndsWide r.program r.history
      wide (inl e) = absurd (true≢false (sym e ∙ l.no_drop))
      wide (inr w) = w
