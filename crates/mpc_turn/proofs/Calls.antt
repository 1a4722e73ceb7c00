-- What a call does to its pass.
use Rattle.std.proofs.Common.{◌≡◌, ◌⊎◌, ℕ, zero, suc, ◌+◌, ◌-◌, ◌<◌, ◌≤◌, List, [], ◌∷◌, ◌++◌, map, length, get_or, drop, Bool, true, false, true≢false, Some, None, refl, sym, ap, ◌∙◌, subst, ⊎_elim, inl, inr, eqb, eqb-true, arith, append_assoc, length-append}
use Rattle.std.specs.List.{All}
use Rattle.std.proofs.lemmas.List.Elements.{All-head, All-tail, All-append, All-nil, All-cons, All-same}
use Rattle.std.specs.Prelude.{cond, slice_get, ◌||◌, IfOk}
use Rattle.std.proofs.lemmas.Option.{slice_get_within, get_or_from_slice_get}
use mathlib.Core.Option.{some, some-injective}
use lib.ListN.{get_elem?}
use Rattle.atomic_table.specs.Table.{Final, Seen}
use Rattle.atomic_table.specs.Seated.{TableId}
use Rattle.std.specs.Prelude.{Result, Ok, Err}
use Rattle.mpc_rows.specs.declared.programs.Qp.{Qp}
use Rattle.mpc_rows.specs.declared.verdicts.Verdict.{Verdict}
use Rattle.mpc_rows.specs.Candidates.{IsCandidate}
use Rattle.mpc_rows.specs.Verdicts.{IsRight}
use Rattle.mpc_claim.specs.declared.events.EventKind.TheVariants.{Claim}
use Rattle.mpc_frac.specs.declared.NoMemory.{NoMemory}
use Rattle.mpc_claim.specs.declared.tickets.Ahead.{Ahead}
use Rattle.mpc_claim.specs.declared.tickets.Claimed.{Claimed}
use Rattle.mpc_claim.specs.declared.tickets.Claimed.TheVariants.{Job, Idle, Finished, Stopped}
use Rattle.mpc_claim.specs.declared.events.Event.{Event}
use Rattle.mpc_claim.specs.declared.tickets.Ticket.{Ticket}
use Rattle.mpc_claim.specs.Board.{Board, at, event}
use Rattle.mpc_claim.specs.declared.events.EventKind.{EventKind}
use Rattle.mpc_claim.specs.declared.candidates.Slot.TheVariants.{Claimed as ClaimedSlot}
use Rattle.mpc_claim.specs.History.{is_claim, claimed_sets, has_drop, MayClaim, IsLegal, IsOpen, IsFinished, IsIdle, EndsWide, WantsMemory}
use Rattle.mpc_claim.specs.OpenClaims.{Held, held_by, same_set, same, open_of, opened, open_after, has, without}
use Rattle.mpc_claim.specs.HistoryTheorems.{AppendTheorems, OpenListTheorems, ClaimTheorems}
use Rattle.mpc_claim.specs.Answers.{Claims}
use Rattle.mpc_claim.specs.Books.{IsSlotOf, IsSound}
use Rattle.mpc_turn.specs.declared.view.View.{View}
use Rattle.mpc_turn.specs.Views.{Call, weigh, weigh_all, placed, hand_of, hands_of, Starts, numbered, turned, served, both_of, Follows, AreOpen}
use Rattle.mpc_turn.specs.Lock.{Sat, Kept, IsOutside, Ends, compared}
use Rattle.mpc_turn.specs.Known.{Known, known, IsPass, StandsFrom, HasTurn, Holds, MayDeliver, ClaimsBy, EndsBy, LooksAt, IsDue, InHand, NoneClaimed, Closed, called, looked_on, Looks, ClaimedAs, EndedAs, EndedThenClaimed}
use Rattle.mpc_turn.proofs.Sums.{and_first, placed-append, drop_whole, append-nil, starts_on}
use Rattle.mpc_turn.proofs.Once.{once, all_stand}
use Rattle.mpc_turn.proofs.Lending.{closes}
use Rattle.mpc_turn.proofs.Keeps.{any}

-- the view after a call that found this history and left that one
abbrev pub after_call : View → List Event → List Event → View
after_call v found left = record v { number = None; turn = false; seen = left; calls = v.calls ++ placed (length found) (drop (length found) left) }

pub record Chain (v : View) (Q : Board → Board → Type 0) (m : Sat) : Type 0 where
  pub found : Board
  pub left : Board
  pub does : Q found left
  pub leaves : m ≡ (after_call v found.history left.history, [])
  pub program : found.program ≡ v.program
  pub begins : Starts found.history v.seen

carried_same : (a b : Board) (c : List (ℕ × Board)) → c ≡ (0, a) ∷ [] → c ≡ (0, b) ∷ [] → a ≡ b
carried_same a b c p q = ap (λ (l : List (ℕ × Board)). (get_or l 0 (0, a)).1) (sym p ∙ q)

chain : (v : View) (m1 m2 m3 : Sat) (Q : Board → Board → Type 0) → HasTurn v m1 → m2.0 ≡ m1.0 → Holds m1.1 (λ r. Holds m2.1 (Q r)) → Holds m2.1 (λ s. m3 ≡ (served m2.0 s.history, [])) → Chain v Q m3
chain v m1 m2 m3 Q turn kept does gave =
    let r = turn.1 in
    let is = turn.2 in
    let same_r : does.0 ≡ r = carried_same does.0 r m1.1 does.1 (ap (λ (m : Sat). m.1) is) in
    let inner = subst (λ (z : Board). Holds m2.1 (Q z)) same_r does.2 in
    let s = inner.0 in
    let same_s : gave.0 ≡ s = carried_same gave.0 s m2.1 gave.1 inner.1 in
    record {
      found = r;
      left = s;
      does = inner.2;
      leaves = gave.2 ∙ (λ i. (served ((kept ∙ ap (λ (m : Sat). m.0) is) i) (same_s i).history, []));
      program = turn.3;
      begins = turn.4;
    }

-- one call behind the other
abbrev pub Then : (Board → Board → Type 0) → (Board → Board → Type 0) → Board → Board → Type 0
Then Q R r s = (mid : Board) × Q r mid × R mid s

then_does : (c1 c2 c3 : List (ℕ × Board)) (Q R : Board → Board → Type 0) → Holds c1 (λ r. Holds c2 (Q r)) → Holds c2 (λ r. Holds c3 (R r)) → Holds c1 (λ r. Holds c3 (Then Q R r))
then_does c1 c2 c3 Q R q r = (q.0, q.1, (r.2.0, r.2.1, (q.2.0, q.2.2, subst (λ (z : Board). R z r.2.0) (carried_same r.0 q.2.0 c2 r.1 q.2.1) r.2.2)))

abbrev Own : ℕ → Call → Type 0
Own w c = c.1.worker ≡ w

abbrev Of : ℕ → List Held → Type 0
Of w held = (t : Held) → has t held ≡ true → t.0 ≡ w

pub or_cases : (a b : Bool) → (a || b) ≡ true → (a ≡ true) ⊎ (b ≡ true)
or_cases true b e = inl refl
or_cases false b e = inr e

of-head : (w : ℕ) (t x : Held) → same t x ≡ true → x.0 ≡ w → t.0 ≡ w
of-head w t x e h = let a : eqb t.0 x.0 ≡ true = and_first (eqb t.0 x.0) (same_set t.1 x.1) e in eqb-true t.0 x.0 a ∙ h

pub has-without : (t x : Held) (xs : List Held) → has t (without x xs) ≡ true → has t xs ≡ true
has-without t x [] h = h
has-without t x (y ∷ ys) h = go (same x y) refl (has-without t x ys)
  where
    or_right : (a b : Bool) → b ≡ true → (a || b) ≡ true
    or_right true b e = refl
    or_right false b e = e

    or_more : (a b c : Bool) → (b ≡ true → c ≡ true) → (a || b) ≡ true → (a || c) ≡ true
    or_more true b c r e = refl
    or_more false b c r e = r e

    go : (b : Bool) → same x y ≡ b → (has t (without x ys) ≡ true → has t ys ≡ true) → has t (y ∷ ys) ≡ true
    go true e r = or_right (same t y) (has t ys) (rw e at h)
    go false e r = let h' : (same t y || has t (without x ys)) ≡ true = rw e at h in or_more (same t y) (has t (without x ys)) (has t ys) r h'

pub has-snoc : (t x : Held) (xs : List Held) → has t (xs ++ x ∷ []) ≡ true → (has t xs ≡ true) ⊎ (same t x ≡ true)
has-snoc t x [] h = ⊎_elim (λ e. inr e) (λ e. inl e) (or_cases (same t x) false h)
has-snoc t x (y ∷ ys) h = go (same t y) refl (has-snoc t x ys)
  where
    go : (b : Bool) → same t y ≡ b → (has t (ys ++ x ∷ []) ≡ true → (has t ys ≡ true) ⊎ (same t x ≡ true)) → ((same t y || has t ys) ≡ true) ⊎ (same t x ≡ true)
    go true e r = inl (rw e refl)
    go false e r = let h' : has t (ys ++ x ∷ []) ≡ true = rw e at h in rw e (r h')

of-opened : (w : ℕ) (held : List Held) (e : Event) → e.worker ≡ w → Of w held → Of w (opened held e)
of-opened w held e own old = go (is_claim e.kind) refl
  where
    go : (b : Bool) → is_claim e.kind ≡ b → Of w (opened held e)
    go false q = λ t h. old t (has-without t (e.worker, e.set) held (rw q at h))
    go true q = λ t h. let h' : has t (held ++ (e.worker, e.set) ∷ []) ≡ true = rw q at h in ⊎_elim (old t) (λ s. of-head w t (e.worker, e.set) s own) (has-snoc t (e.worker, e.set) held h')

-- the tickets of a hand have the worker of the calls
hand_own : (w : ℕ) (calls : List Call) (held : List Held) → Of w held → All (Own w) calls → Of w (open_after held (map (λ (c : Call). c.1) calls))
hand_own w [] held old own = old
hand_own w (c ∷ cs) held old own = hand_own w cs (opened held c.1) (of-opened w held c.1 (All-head (Own w) c cs own) old) (All-tail (Own w) c cs own)

worker_of : (w : ℕ) (m : Sat) (t : Ticket) → IsPass w m → has (held_by t) (hand_of m.0.calls) ≡ true → t.worker ≡ w
worker_of w m t p h = hand_own w m.0.calls [] (λ x e. absurd (cc)) p.own (held_by t) h

added : (found left more : List Event) → left ≡ found ++ more → placed (length found) (drop (length found) left) ≡ placed (length found) more
added found left more e = ap (placed (length found)) (ap (drop (length found)) e ∙ drop_whole found more)

-- a call that goes on from what another left
goes_on : (v : View) (found mid left xs ys : List Event) → mid ≡ found ++ xs → left ≡ mid ++ ys → after_call v found left ≡ after_call (after_call v found mid) mid left
goes_on v found mid left xs ys e f =
    let whole : left ≡ found ++ (xs ++ ys) = f ∙ (ap (λ l. l ++ ys) e ∙ append_assoc found xs ys) in
    let places : placed (length found + length xs) ys ≡ placed (length mid) (drop (length mid) left) = ap (λ n. placed n ys) (sym (ap length e ∙ length-append found xs)) ∙ sym (added mid left ys f) in
    let calls : v.calls ++ placed (length found) (drop (length found) left) ≡ (v.calls ++ placed (length found) (drop (length found) mid)) ++ placed (length mid) (drop (length mid) left) =
    ap (λ l. v.calls ++ l) (added found left (xs ++ ys) whole ∙ placed-append (length found) xs ys)
    ∙ (sym (append_assoc v.calls (placed (length found) xs) (placed (length found + length xs) ys)) ∙ (λ i. (v.calls ++ sym (added found mid xs e) i) ++ places i)) in
    λ i. record v { number = None; turn = false; seen = left; calls = calls i }

get_early : (xs ys : List (List ℕ)) (k : ℕ) (e : List ℕ) → slice_get xs k ≡ Some e → slice_get (xs ++ ys) k ≡ Some e
get_early [] ys k e h = absurd (cc)
get_early (x ∷ xs) ys zero e h = h
get_early (x ∷ xs) ys (suc k) e h = get_early xs ys k e h

below_get : (xs : List Event) (k : ℕ) (e : Event) → slice_get xs k ≡ Some e → k < length xs
below_get [] k e h = absurd (cc)
below_get (x ∷ xs) zero e h = omega arith
below_get (x ∷ xs) (suc k) e h = let r = below_get xs k e h in omega (arith, r)

get_front : (xs ys : List Event) (k : ℕ) (e : Event) → slice_get xs k ≡ Some e → slice_get (xs ++ ys) k ≡ Some e
get_front [] ys k e h = absurd (cc)
get_front (x ∷ xs) ys zero e h = h
get_front (x ∷ xs) ys (suc k) e h = get_front xs ys k e h

get_last : (xs : List Event) (e : Event) → slice_get (xs ++ e ∷ []) (length xs) ≡ Some e
get_last [] e = refl
get_last (x ∷ xs) e = get_last xs e

stands_longer : (seen more : List Event) (k : ℕ) (cs : List Call) → StandsFrom seen k cs → StandsFrom (seen ++ more) k cs
stands_longer seen more k [] s = tt
stands_longer seen more k (c ∷ cs) s = (s.0, get_front seen more c.0 c.1 s.1, stands_longer seen more (c.0 + 1) cs s.2)

stands-snoc : (h : List Event) (e : Event) (k : ℕ) (cs : List Call) → k ≤ length h → StandsFrom h k cs → StandsFrom (h ++ e ∷ []) k (cs ++ (length h, e) ∷ [])
stands-snoc h e k [] le s = (le, get_last h e, tt)
stands-snoc h e k (c ∷ cs) le s = let b = below_get h c.0 c.1 s.1 in (s.0, get_front h (e ∷ []) c.0 c.1 s.1, stands-snoc h e (c.0 + 1) cs (omega (arith, b)) s.2)

starts-length : (xs ys : List Event) → Starts xs ys → length ys ≤ length xs
starts-length xs ys t = omega (arith, ap length t.1, length-append ys t.0)

stands_in : (xs ys : List Event) (k : ℕ) (cs : List Call) → Starts xs ys → StandsFrom ys k cs → StandsFrom xs k cs
stands_in xs ys k cs s t = subst (λ (l : List Event). StandsFrom l k cs) (sym s.1) (stands_longer ys s.0 k cs t)

unchanged : (v : View) (found left : List Event) → left ≡ found → v.calls ++ placed (length found) (drop (length found) left) ≡ v.calls
unchanged v found left same = ap (λ l. v.calls ++ l) (added found left [] (same ∙ sym (append-nil found))) ∙ append-nil v.calls

module _ (w : ℕ) (m : Sat) (p : IsPass w m) where
  pass_after : (m' : Sat) (found left : List Event) (e : Event) → Starts found m.0.seen → m' ≡ (after_call m.0 found left, []) → left ≡ found ++ e ∷ [] → e.worker ≡ w → IsLegal m.0.program left → IsPass w m'
  pass_after m' found left e on is more own legal = subst (IsPass w) (sym is) record {
    idle = (refl, refl);
    empty = refl;
    alone = p.alone;
    living = p.living;
    most = p.most;
    lent = p.lent;
    one = p.one;
    legal = legal;
    own = All-append (Own w) m.0.calls (placed (length found) (drop (length found) left)) p.own
        (All-same (Own w) (placed (length found) (drop (length found) left)) ((length found, e) ∷ []) (added found left (e ∷ []) more) (All-cons (Own w) (length found, e) [] own (All-nil (Own w))));
    begins = starts_on left found m.0.before (e ∷ [], more) (starts_on found m.0.seen m.0.before on p.begins);
    stands = subst (λ (z : List Event × List Call). StandsFrom z.0 (length m.0.before) (m.0.calls ++ z.1)) (λ i. (sym more i, sym (added found left (e ∷ []) more) i))
        (stands-snoc found e (length m.0.before) m.0.calls (starts-length found m.0.before (starts_on found m.0.seen m.0.before on p.begins)) (stands_in found m.0.seen (length m.0.before) m.0.calls on p.stands));
  }

  still_pass : (m' : Sat) (found left : List Event) → Starts found m.0.seen → m' ≡ (after_call m.0 found left, []) → left ≡ found → IsLegal m.0.program left → IsPass w m'
  still_pass m' found left on is same legal =
      let calls = unchanged m.0 found left same in
      subst (IsPass w) (sym is) record {
        idle = (refl, refl);
        empty = refl;
        alone = p.alone;
        living = p.living;
        most = p.most;
        lent = p.lent;
        one = p.one;
        legal = legal;
        own = All-same (Own w) _ m.0.calls calls p.own;
        begins = subst (λ (l : List Event). Starts l m.0.before) (sym same) (starts_on found m.0.seen m.0.before on p.begins);
        stands = subst (λ (z : List Event × List Call). StandsFrom z.0 (length m.0.before) z.1) (λ i. (sym same i, sym calls i)) (stands_in found m.0.seen (length m.0.before) m.0.calls on p.stands);
      }

  -- another pass was taken in
  pub joined_pass : (u : ℕ) (o m1 m2 : Sat) (found : ℕ) → IsPass u o → m.0.first ≡ true → m1 ≡ (both_of m.0 o.0, m.1) → compared any m1 found m2 → IsPass w m2
  joined_pass u o m1 m2 found q first is told =
      let t = subst (λ (x : Sat). compared any x found m2) is told in
      let a = p.living in
      let b = t.1 in
      subst (IsPass w) (sym t.0) record {
        idle = p.idle;
        empty = p.empty;
        alone = refl;
        living = omega (arith, a);
        most = t.1;
        lent = λ no. absurd (true≢false (sym first ∙ no));
        one = (let x : m.0.firsts ≡ 1 = p.one ∙ ap (λ (b : Bool). cond b 1 0) first in let y = t.2 in omega (arith, x, y)) ∙ ap (λ (b : Bool). cond b 1 0) (sym first);
        legal = t.3;
        own = p.own;
        begins = starts_on _ _ _ t.4 (starts_on _ m.0.seen m.0.before ([], sym (append-nil m.0.seen)) p.begins);
        stands = stands_in _ m.0.seen (length m.0.before) m.0.calls t.4 p.stands;
      }

-- the pass that was taken in isn't the first
pub not_first : (w u : ℕ) (m o m1 m2 : Sat) (found : ℕ) → IsPass w m → IsPass u o → m.0.first ≡ true → m1 ≡ (both_of m.0 o.0, m.1) → compared any m1 found m2 → o.0.first ≡ false
not_first w u m o m1 m2 found p q first is told = go o.0.first refl
  where
    go : (b : Bool) → o.0.first ≡ b → o.0.first ≡ false
    go false e = e
    go true e =
        let t = subst (λ (x : Sat). compared any x found m2) is told in
        let x : m.0.firsts ≡ 1 = p.one ∙ ap (λ (b : Bool). cond b 1 0) first in
        let y : o.0.firsts ≡ 1 = q.one ∙ ap (λ (b : Bool). cond b 1 0) e in
        let z = t.2 in
        absurd (omega (arith, x, y, z))

called_is : (id id' : TableId) (w : ℕ) (v : View) (m : Sat) (found left : List Event) (e : Event) → id' ≡ id → m ≡ (after_call v found left, []) → left ≡ found ++ e ∷ [] → known id' w m.0 ≡ called (known id w v) found e
called_is id id' w v m found left e same is more =
    (λ i. known (same i) w (is i).0) ∙ (λ i. record (known id w v) { seen = more i; calls = v.calls ++ added found left (e ∷ []) more i })

looked_is : (id id' : TableId) (w : ℕ) (v : View) (m : Sat) (found left : List Event) → id' ≡ id → m ≡ (after_call v found left, []) → left ≡ found → known id' w m.0 ≡ looked_on (known id w v) found
looked_is id id' w v m found left same is e =
    (λ i. known (same i) w (is i).0) ∙ (λ i. record (known id w v) { seen = e i; calls = unchanged v found left e i })

-- what a claim answers, and what it leaves of the pass
module _ (id id' : TableId) (w : ℕ) (v : View) (m : Sat) (r s : Board) (same_id : id' ≡ id) (is : m ≡ (after_call v r.history s.history, [])) (program : r.program ≡ v.program) (on : Starts r.history v.seen) where
  quiet_is : s.history ≡ r.history → known id' w m.0 ≡ looked_on (known id w v) r.history
  quiet_is same_history = looked_is id id' w v m r.history s.history same_id is same_history

  claimed_is : (res : Result Claimed NoMemory) → Claims r w res s → ClaimedAs (known id w v) res (known id' w m.0)
  claimed_is (Ok (Job t)) c = (
    r.history,
    on,
    called_is id id' w v m r.history s.history (event w t.set Claim) same_id is c.history,
    (λ i. record { number = c.number_is i; worker = c.worker_is i; set = t.set }),
    subst (λ (p : Qp). MayClaim p r.history t.set) program c.may_claim,
  )
  claimed_is (Ok Idle) c =
      subst (λ (k : Known). ClaimedAs (known id w v) (Ok Idle) k) (sym (quiet_is (ap (λ (x : Board). x.history) c.0)))
      (on, refl, subst (λ (p : Qp). IsIdle p r.history) program c.1.idle)
  claimed_is (Ok Finished) c =
      subst (λ (k : Known). ClaimedAs (known id w v) (Ok Finished) k) (sym (quiet_is (ap (λ (x : Board). x.history) c.0)))
      (on, refl, subst (λ (p : Qp). IsFinished p r.history) program c.1)
  claimed_is (Ok Stopped) c =
      subst (λ (k : Known). ClaimedAs (known id w v) (Ok Stopped) k) (sym (quiet_is (ap (λ (x : Board). x.history) c.0)))
      (on, refl, subst (λ (p : Qp). (has_drop r.history ≡ true) ⊎ EndsWide p r.history) program c.1)
  claimed_is (Err e) c =
      subst (λ (k : Known). ClaimedAs (known id w v) (Err e) k) (sym (quiet_is (ap (λ (x : Board). x.history) c.0)))
      (on, refl, subst (λ (p : Qp). WantsMemory p r.history) program c.1.wants)

-- a claim leaves the history as it was, or adds itself to it, and the program stays
claim_leaves : (r s : Board) (w : ℕ) (res : Result Claimed NoMemory) → Claims r w res s → (s.program ≡ r.program) × ((s.history ≡ r.history) ⊎ ((t : List ℕ) × (s.history ≡ r.history ++ event w t Claim ∷ [])))
claim_leaves r s w (Ok (Job t)) c = (c.program, inr (t.set, c.history))
claim_leaves r s w (Ok Idle) c = (ap (λ (x : Board). x.program) c.0, inl (ap (λ (x : Board). x.history) c.0))
claim_leaves r s w (Ok Finished) c = (ap (λ (x : Board). x.program) c.0, inl (ap (λ (x : Board). x.history) c.0))
claim_leaves r s w (Ok Stopped) c = (ap (λ (x : Board). x.program) c.0, inl (ap (λ (x : Board). x.history) c.0))
claim_leaves r s w (Err e) c = (ap (λ (x : Board). x.program) c.0, inl (ap (λ (x : Board). x.history) c.0))

claimed_pass : (w : ℕ) (m m' : Sat) (r s : Board) (res : Result Claimed NoMemory) → IsPass w m → m' ≡ (after_call m.0 r.history s.history, []) → r.program ≡ m.0.program → Starts r.history m.0.seen → Claims r w res s → IsLegal s.program s.history → IsPass w m'
claimed_pass w m m' r s res p is program on c legal = go (claim_leaves r s w res c)
  where
    go : (s.program ≡ r.program) × ((s.history ≡ r.history) ⊎ ((t : List ℕ) × (s.history ≡ r.history ++ event w t Claim ∷ []))) → IsPass w m'
    go (same_program, inl same_history) = still_pass w m p m' r.history s.history on is same_history (subst (λ (j : Qp). IsLegal j s.history) (same_program ∙ program) legal)
    go (same_program, inr (t, more)) = pass_after w m p m' r.history s.history (event w t Claim) on is more refl (subst (λ (j : Qp). IsLegal j s.history) (same_program ∙ program) legal)

-- before the turn is given up
due : (v : View) (m1 m2 : Sat) (Q : Board → Board → Type 0) → 0 < v.parts → HasTurn v m1 → m2.0 ≡ m1.0 → Holds m1.1 (λ r. Holds m2.1 (Q r))
    → ((r s : Board) → r.program ≡ v.program → Q r s → Follows (turned v r.history) s) → IsDue m2
due v m1 m2 Q living turn kept does follows =
    let r = turn.1 in
    let is = turn.2 in
    let same_r : does.0 ≡ r = carried_same does.0 r m1.1 does.1 (ap (λ (m : Sat). m.1) is) in
    let inner = subst (λ (z : Board). Holds m2.1 (Q z)) same_r does.2 in
    let view : m2.0 ≡ turned (numbered v turn.0) r.history = kept ∙ ap (λ (m : Sat). m.0) is in
    let parts = ap (λ (u : View). u.parts) view in
    (ap (λ (u : View). u.turn) view, omega (arith, parts, living), (inner.0, inner.1, subst (λ (u : View). Follows u inner.0) (sym view) (follows r inner.0 turn.3 inner.2)))

-- one turn of a pass, up to its call and up to the turn's end
module _ (id id' : TableId) (w : ℕ) (m m1 m2 m3 : Sat) (k : Known) (is : known id w m.0 ≡ k) (p : IsPass w m) (turn : HasTurn m.0 m1) (kept : m2.0 ≡ m1.0) where
  abbrev Gave : Type 0
  Gave = Holds m2.1 (λ s. m3 ≡ (served m2.0 s.history, []))

  same_turn : id' ≡ k.turn → id' ≡ id
  same_turn e = e ∙ sym (ap (λ (k : Known). k.turn) is)

  -- a claim
  module _ (res : Result Claimed NoMemory) (does : Holds m1.1 (λ r. Holds m2.1 (ClaimsBy w res r))) where
    pub claim_due : IsDue m2
    claim_due = due m.0 m1 m2 (ClaimsBy w res) p.living turn kept does follows
      where
        follows : (r s : Board) → r.program ≡ m.0.program → ClaimsBy w res r s → Follows (turned m.0 r.history) s
        follows r s program (c, legal) =
            let l = claim_leaves r s w res c in
            (l.0 ∙ program, legal, ⊎_elim (λ same_history. ([], same_history ∙ sym (append-nil r.history), tt)) (λ more. (event w more.0 Claim ∷ [], more.1, λ no. absurd (true≢false no))) l.1)

    pub claim_pass : Gave → IsPass w m3
    claim_pass gave =
        let q = chain m.0 m1 m2 m3 (ClaimsBy w res) turn kept does gave in
        claimed_pass w m m3 q.found q.left res p q.leaves q.program q.begins q.does.0 q.does.1

    pub claim_is : Gave → id' ≡ k.turn → ClaimedAs k res (known id' w m3.0)
    claim_is gave same_id =
        let q = chain m.0 m1 m2 m3 (ClaimsBy w res) turn kept does gave in
        subst (λ (k : Known). ClaimedAs k res (known id' w m3.0)) is (claimed_is id id' w m.0 m3 q.found q.left (same_turn same_id) q.leaves q.program q.begins res q.does.0)

  -- a look ahead
  module _ (res : Result Ahead NoMemory) (does : Holds m1.1 (λ r. Holds m2.1 (LooksAt res r))) where
    pub look_due : IsDue m2
    look_due = due m.0 m1 m2 (LooksAt res) p.living turn kept does follows
      where
        follows : (r s : Board) → r.program ≡ m.0.program → LooksAt res r s → Follows (turned m.0 r.history) s
        follows r s program (same, legal, _) = (ap (λ (x : Board). x.program) same ∙ program, legal, ([], ap (λ (x : Board). x.history) same ∙ sym (append-nil r.history), tt))

    module _ (gave : Gave) where
      abbrev seen : Chain m.0 (LooksAt res) m3
      seen = chain m.0 m1 m2 m3 (LooksAt res) turn kept does gave

      abbrev same_history : seen.left.history ≡ seen.found.history
      same_history = ap (λ (x : Board). x.history) seen.does.0

      pub look_pass : IsPass w m3
      look_pass =
          still_pass w m p m3 seen.found.history seen.left.history seen.begins seen.leaves same_history (subst (λ (j : Qp). IsLegal j seen.left.history) (ap (λ (x : Board). x.program) seen.does.0 ∙ seen.program) seen.does.1)

      look_is : id' ≡ k.turn → (known id' w m3.0 ≡ looked_on (known id w m.0) seen.found.history)
      look_is same_id = looked_is id id' w m.0 m3 seen.found.history seen.left.history (same_turn same_id) seen.leaves same_history

      pub look_looks : id' ≡ k.turn → Looks k (known id' w m3.0)
      look_looks same_id =
          let at = look_is same_id in
          subst (λ (k : Known). Looks k (known id' w m3.0)) is
          (subst (λ (j : Known). Looks (known id w m.0) j) (sym at) (seen.begins, refl))

      pub look_candidates : IfOk res (λ (a : Ahead). All (IsCandidate k.program) a.sets.items)
      look_candidates = subst (λ (q : Qp). IfOk res (λ (a : Ahead). All (IsCandidate q) a.sets.items)) (seen.program ∙ ap (λ (k : Known). k.program) is) seen.does.2

  -- the end of a set in the hand
  module _ (t : Ticket) (kind : EventKind) (hand : InHand t k) where
    held : has (held_by t) (hand_of m.0.calls) ≡ true
    held = (subst (InHand t) (sym is) hand).held

    abbrev e : Event
    e = event t.worker t.set kind

    module _ (does : Holds m1.1 (λ r. Holds m2.1 (EndsBy t kind r))) where
      pub end_due : IsDue m2
      end_due = due m.0 m1 m2 (EndsBy t kind) p.living turn kept does follows
        where
          follows : (r s : Board) → r.program ≡ m.0.program → EndsBy t kind r s → Follows (turned m.0 r.history) s
          follows r s program (same_program, more, legal) = (same_program ∙ program, legal, (e ∷ [], more, λ _. held))

      pub end_pass : Gave → IsPass w m3
      end_pass gave =
          let q = chain m.0 m1 m2 m3 (EndsBy t kind) turn kept does gave in
          pass_after w m p m3 q.found.history q.left.history e q.begins q.leaves q.does.1 (worker_of w m t p held) (subst (λ (j : Qp). IsLegal j q.left.history) (q.does.0 ∙ q.program) q.does.2)

      pub end_is : Gave → id' ≡ k.turn → EndedAs k t kind (known id' w m3.0)
      end_is gave same_id =
          let q = chain m.0 m1 m2 m3 (EndsBy t kind) turn kept does gave in
          subst (λ (k : Known). EndedAs k t kind (known id' w m3.0)) is (q.found.history, q.begins, called_is id id' w m.0 m3 q.found.history q.left.history e (same_turn same_id) q.leaves q.does.1)

    -- and a claim behind it: what is left is what the claim leaves of the pass that the end has left
    module _ (c : List (ℕ × Board)) (res : Result Claimed NoMemory) (ended : Holds m1.1 (λ r. Holds c (EndsBy t kind r))) (claimed : Holds c (λ r. Holds m2.1 (ClaimsBy w res r))) where
      does : Holds m1.1 (λ r. Holds m2.1 (Then (EndsBy t kind) (ClaimsBy w res) r))
      does = then_does m1.1 c m2.1 (EndsBy t kind) (ClaimsBy w res) ended claimed

      pub end_then_claim_due : is_claim kind ≡ false → IsDue m2
      end_then_claim_due ends = due m.0 m1 m2 (Then (EndsBy t kind) (ClaimsBy w res)) p.living turn kept does follows
        where
          follows : (r s : Board) → r.program ≡ m.0.program → Then (EndsBy t kind) (ClaimsBy w res) r s → Follows (turned m.0 r.history) s
          follows r s program (mid, (same_program, ended, _), (c, legal)) =
              let l = claim_leaves mid s w res c in (
                l.0 ∙ (same_program ∙ program),
                legal,
                ⊎_elim
                    (λ same_history. (e ∷ [], same_history ∙ ended, λ _. held))
                    (λ more. (e ∷ event w more.0 Claim ∷ [], more.1 ∙ (ap (λ (h : List Event). h ++ event w more.0 Claim ∷ []) ended ∙ append_assoc r.history (e ∷ []) (event w more.0 Claim ∷ [])), (ends, held, refl, sym (worker_of w m t p held))))
                    l.1,
              )

      module _ (gave : Gave) where
        abbrev q : Chain m.0 (Then (EndsBy t kind) (ClaimsBy w res)) m3
        q = chain m.0 m1 m2 m3 (Then (EndsBy t kind) (ClaimsBy w res)) turn kept does gave

        abbrev between : Sat
        between = (after_call m.0 q.found.history q.does.0.history, [])

        program : q.does.0.program ≡ m.0.program
        program = q.does.1.0 ∙ q.program

        leaves : m3 ≡ (after_call between.0 q.does.0.history q.left.history, [])
        leaves =
            let mid = q.does.0.history in
            let on : Starts q.left.history mid = ⊎_elim (λ same_history. ([], same_history ∙ sym (append-nil mid))) (λ more. (event w more.0 Claim ∷ [], more.1)) (claim_leaves q.does.0 q.left w res q.does.2.0).1 in
            q.leaves ∙ (λ i. (goes_on m.0 q.found.history mid q.left.history (e ∷ []) on.0 q.does.1.1 on.1 i, []))

        begins : Starts q.does.0.history q.does.0.history
        begins = ([], sym (append-nil q.does.0.history))

        pub end_then_claim_pass : IsPass w m3
        end_then_claim_pass =
            let legal = subst (λ (j : Qp). IsLegal j q.does.0.history) program q.does.1.2 in
            let there = pass_after w m p between q.found.history q.does.0.history e q.begins refl q.does.1.1 (worker_of w m t p held) legal in
            claimed_pass w between m3 q.does.0 q.left res there leaves program begins q.does.2.0 q.does.2.1

        pub end_then_claim_is : id' ≡ k.turn → EndedThenClaimed k t kind res (known id' w m3.0)
        end_then_claim_is same_id = subst (λ (k : Known). EndedThenClaimed k t kind res (known id' w m3.0)) is (
          called (known id w m.0) q.found.history e,
          (q.found.history, q.begins, refl),
          subst (λ (k : Known). ClaimedAs k res (known id' w m3.0)) (called_is id id w m.0 between q.found.history q.does.0.history e refl refl q.does.1.1)
              (claimed_is id id' w between.0 m3 q.does.0 q.left (same_turn same_id) leaves program begins res q.does.2.0),
        )

-- the ticket of a hand is open in what the turn finds
pub open_ticket : OpenListTheorems → AppendTheorems → (qp : Qp) (seen log : List Event) (calls : List Call) (t : Ticket) → IsLegal qp log → AreOpen calls log → Starts log seen → has (held_by t) (hand_of calls) ≡ true → 1 ≤ t.number → slice_get (claimed_sets seen) (t.number - 1) ≡ Some t.set → IsOpen log t
open_ticket open_list appended qp seen log calls t legal are_open on held from_one numbered = record {
  from_one = from_one;
  numbered = ap (λ l. slice_get (claimed_sets l) (t.number - 1)) on.1 ∙ (ap (λ l. slice_get l (t.number - 1)) (appended.claimed seen on.0) ∙ get_early (claimed_sets seen) (claimed_sets on.0) (t.number - 1) t.set numbered);
  may_end = open_list.is_open qp log t.worker t.set legal (are_open (held_by t) held);
}

pub turn_opens : OpenListTheorems → AppendTheorems → (id : TableId) (w : ℕ) (v : View) (m : Sat) (t : Ticket) (k : Known) → known id w v ≡ k → InHand t k → HasTurn v m → Holds m.1 (λ r. IsOpen r.history t × (r.program ≡ k.program))
turn_opens open_list appended id w v m t k is hand turn =
    let h : InHand t (known id w v) = subst (InHand t) (sym is) hand in
    let program : v.program ≡ k.program = ap (λ (k : Known). k.program) is in
    (turn.1, ap (λ (x : Sat). x.1) turn.2, (open_ticket open_list appended turn.1.program v.seen turn.1.history v.calls t turn.5 turn.6 turn.4 h.held h.from_one h.numbered, turn.3 ∙ program))

pub turn_delivers : OpenListTheorems → AppendTheorems → (id : TableId) (w : ℕ) (v : View) (m : Sat) (t : Ticket) (k : Known) (verdict : Verdict) → known id w v ≡ k → InHand t k → HasTurn v m → IsRight k.program t.set verdict → Holds m.1 (MayDeliver t verdict)
turn_delivers open_list appended id w v m t k verdict is hand turn right =
    let o = turn_opens open_list appended id w v m t k is hand turn in
    (o.0, o.1, (o.2.0, subst (λ (j : Qp). IsRight j t.set verdict) (sym o.2.1) right))

-- the end
ones : (xs : List Held) → weigh (λ _. 1) xs ≡ 0 → xs ≡ []
ones [] e = refl
ones (x ∷ xs) e = absurd (omega arith)

all_empty : (cs : List (List Call)) → All (λ c. hand_of c ≡ []) cs → weigh_all (λ _. 1) (hands_of cs) ≡ 0
all_empty [] a = refl
all_empty (c ∷ cs) a = let h : weigh (λ _. 1) (hand_of c) ≡ 0 = ap (weigh (λ _. 1)) (All-head (λ x. hand_of x ≡ []) c cs a) in let r = all_empty cs (All-tail (λ x. hand_of x ≡ []) c cs a) in omega (arith, h, r)

-- where nothing is open, no slot is claimed
none_claimed : OpenListTheorems → ClaimTheorems → (r : Board) → IsSound r → open_of r.history ≡ [] → NoneClaimed r
none_claimed open_list claims r sound none i number within slot = claimed (subst (IsSlotOf r.program r.history i (at r.candidates i).set) slot (sound.slots i within))
  where
    claimed : IsSlotOf r.program r.history i (at r.candidates i).set (ClaimedSlot number) → ⊥
    claimed (listed, begun) =
        let by = claims.by_worker r.history (at r.candidates i).set (i, slice_get_within (claimed_sets r.history) i (at r.candidates i).set listed, get_or_from_slice_get (claimed_sets r.history) i (at r.candidates i).set (at r.candidates i).set listed) in
        let there = open_list.has_open r.history by.0 (at r.candidates i).set (record { claimed = by.1; open_still = begun.1 }) in
        true≢false (sym there ∙ ap (has (by.0, (at r.candidates i).set)) none)

pub closed_of : OpenListTheorems → ClaimTheorems → (id : TableId) (w : ℕ) (v : View) (r : Board) → IsSound r → Ends v r → Closed (known id w v) r
closed_of open_list claims id w v r sound e = record {
  program = e.program;
  legal = e.legal;
  seen = e.seen;
  before = e.before;
  counted = e.counted;
  once = once v.before r.history v.calls v.ended e.before e.counted;
  stands = all_stand v.before r.history v.calls v.ended e.before e.counted;
  settled = λ none hand all.
      let a : weigh (λ _. 1) (hand_of v.calls) ≡ 0 = ap (weigh (λ _. 1)) hand in
      let b = all_empty v.ended all in
      let c : weigh (λ _. 1) (open_of v.before) ≡ 0 = ap (weigh (λ _. 1)) none in
      let d = e.hands (λ _. 1) in
      let nothing = ones (open_of r.history) (omega (arith, a, b, c, d)) in
      (nothing, none_claimed open_list claims r sound nothing);
}

pub ends_of : (id : ℕ) (v : View) (ws : List ℕ) (xs : List Board) → Final (Seen Kept id v) ws xs → v.parts ≡ 33 → IsOutside v → (r : Board) → get_elem? xs 0 ≡ some r → Ends v r
ends_of id v ws xs f all idle r there =
    let t = closes f.0 f.1.0 id v f.1.1 all idle in
    subst (Ends v) (some-injective _ _ (sym (f.4 0 t.0 t.1) ∙ there)) t.2
