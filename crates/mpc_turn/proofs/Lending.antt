-- How the table is made, how passes are lent and joined, and what is left at the end.
use Rattle.std.proofs.Common.{◌≡◌, ◌≢◌, ℕ, zero, suc, ◌+◌, ◌<◌, ◌≤◌, List, [], ◌∷◌, ◌++◌, length, set, drop, Bool, true, false, true≢false, cond, None, refl, sym, ap, ◌∙◌, subst, ⊎_elim, arith}
use Rattle.std.specs.Prelude.{nat_le}
use mathlib.Core.Option.{some, none, some-injective, some-ne-none}
use mathlib.Core.List.{map-append}
use mathlib.Core.Logic.{dite}
use native.Mathlib.Decide.{ℕ_discrete}
use lib.ListN.{get_elem?}
use lib.Seq.{set-get_or}
use Rattle.std.proofs.lemmas.Bool.Decides.{nat_tests}
use Rattle.atomic_table.specs.Table.{Step, keeps, opening, Allows, Splits, Joins}
use Rattle.atomic_table.proofs.Lists.{at_snoc, at_longer, set_else}
use Rattle.mpc_rows.specs.declared.programs.Qp.{Qp}
use Rattle.mpc_claim.specs.declared.events.Event.{Event}
use Rattle.mpc_claim.specs.Board.{Board}
use Rattle.mpc_claim.specs.History.{IsLegal}
use Rattle.mpc_claim.specs.HistoryTheorems.{LegalBeginnings}
use Rattle.mpc_claim.specs.OpenClaims.{Held, open_of}
use Rattle.mpc_turn.specs.declared.view.View.{View}
use Rattle.mpc_turn.specs.Views.{Call, weigh, weigh_all, placed, hand_of, hands_of, Starts, nobody, first_view, parts_of, firsts_of, one_if, waits, calls_weight, hands_weight, left_of, right_of, both_of, longer, settled}
use Rattle.mpc_turn.specs.Lock.{Sat, Fits, Kept, compared, IsOutside, Ends}
use Rattle.mpc_turn.proofs.Sums.{weigh-append, weigh_all-append, weigh-set, weigh-same, weigh_at, weigh_two, weigh_only, drop_whole, append-nil, starts_on}
use Rattle.mpc_turn.proofs.Keeps.{St, At, Apart, Holder, each_set, apart_set, holder_set, still_apart, none_some, off, log, any}

-- the table is made
pub opens : (r : Board) → IsLegal r.program r.history → Kept (opening (0 ∷ 0 ∷ []) (r ∷ []) (first_view r))
opens r legal =
    let whole = append-nil r.history in
    record {
      drawn = 0;
      served = 0;
      program = r.program;
      before = r.history;
      after = [];
      out = false;
      two = refl;
      ticket = refl;
      serving = refl;
      parts = refl;
      firsts = refl;
      queue = refl;
      each = each;
      apart = λ j k v w n p q x y. absurd (none_some n (sym (ap (λ (z : View). z.number) (only j v p)) ∙ x));
      held = r;
      held_program = refl;
      held_history = sym whole;
      slot = refl;
      away = λ o. absurd (off o);
      legal = subst (λ (l : List Event). IsLegal r.program l) (sym whole) legal;
      counted = λ f. refl;
      hands = λ f. let e = ap (λ (l : List Event). weigh f (open_of l)) whole in omega (arith, e);
    }
  where
    only : (j : ℕ) (v : View) → At (first_view r ∷ []) j v → v ≡ first_view r
    only zero v e = sym (some-injective _ _ e)
    only (suc j) v e = absurd (some-ne-none v (sym e))

    each : (j : ℕ) (v : View) → At (first_view r ∷ []) j v → Fits 0 0 r.program r.history (r.history ++ []) false v
    each j v e = subst (Fits 0 0 r.program r.history (r.history ++ []) false) (sym (only j v e)) record {
      known = λ _. (refl, refl);
      spent = λ z. absurd (omega arith);
      queued = λ n q. absurd (none_some n q);
      has_turn = λ t. absurd (off t);
      seen = ([], refl);
      beside = (r.history ++ [], refl);
      opening = λ _. ([], sym (append-nil r.history));
    }

apart_snoc : (vs : List View) (w : View) → w.number ≡ None → Apart vs → Apart (vs ++ w ∷ [])
apart_snoc vs w free old j k a b n p q x y =
    ⊎_elim
    (λ p'. ⊎_elim (λ q'. old j k a b n p' q' x y) (λ (e : w ≡ b). absurd (none_some n (sym free ∙ (ap (λ (z : View). z.number) e ∙ y)))) (at_snoc vs w b k q))
    (λ (e : w ≡ a). absurd (none_some n (sym free ∙ (ap (λ (z : View). z.number) e ∙ x))))
    (at_snoc vs w a j p)

-- other views that weigh the same, with the same words and slot
reseats : (s : St) (k : Kept s) (vs : List View) → weigh parts_of vs ≡ weigh parts_of s.views → weigh firsts_of vs ≡ weigh firsts_of s.views → weigh waits vs ≡ weigh waits s.views
    → ((f : Call → ℕ) → weigh (calls_weight f) vs ≡ weigh (calls_weight f) s.views) → ((f : Held → ℕ) → weigh (hands_weight f) vs ≡ weigh (hands_weight f) s.views)
    → ((j : ℕ) (u : View) → At vs j u → Fits k.drawn k.served k.program k.before (log s k) k.out u) → Apart vs → (Holder s.views → Holder vs) → Kept record { words = s.words; homes = s.homes; views = vs }
reseats s k vs parts firsts queue counted hands each apart away = record {
  drawn = k.drawn;
  served = k.served;
  program = k.program;
  before = k.before;
  after = k.after;
  out = k.out;
  two = k.two;
  ticket = k.ticket;
  serving = k.serving;
  parts = parts ∙ k.parts;
  firsts = firsts ∙ k.firsts;
  queue = let q = k.queue in omega (arith, q, queue);
  each = each;
  apart = apart;
  held = k.held;
  held_program = k.held_program;
  held_history = k.held_history;
  slot = k.slot;
  away = λ o. away (k.away o);
  legal = k.legal;
  counted = λ f. counted f ∙ k.counted f;
  hands = λ f. let a = hands f in let b = k.hands f in omega (arith, a, b);
}

pub splits : (id : ℕ) (v : View) → IsOutside v → 1 < v.parts → Splits Kept id v (left_of v) (right_of v)
splits id v idle more s k at =
    let l = left_of v in
    let r = right_of v in
    let f = k.each id v at in
    let weighs : (g : View → ℕ) → g l + g r ≡ g v → weigh g (set s.views id l ++ r ∷ []) ≡ weigh g s.views = λ g e. let a = weigh-append g (set s.views id l) (r ∷ []) in let b = weigh-set g s.views id v l at in omega (arith, a, b, e) in
    reseats s k (set s.views id l ++ r ∷ [])
    (weighs parts_of (omega arith))
    (weighs firsts_of (omega arith))
    (weighs waits (omega arith))
    (λ g. weighs (calls_weight g) (omega arith))
    (λ g. weighs (hands_weight g) (omega arith))
    (λ j u e. ⊎_elim
    (each_set s.views id l (Fits k.drawn k.served k.program k.before (log s k) k.out)
    record {
      known = λ _. f.known (omega arith);
      spent = λ z. absurd (omega arith);
      queued = f.queued;
      has_turn = f.has_turn;
      seen = f.seen;
      beside = f.beside;
      opening = λ _. f.opening (omega arith);
    }
    (λ i w _ q. k.each i w q) j u)
    (λ (same : r ≡ u). subst (Fits k.drawn k.served k.program k.before (log s k) k.out) same record {
      known = λ _. f.known (omega arith);
      spent = λ z. absurd (omega arith);
      queued = λ n q. absurd (none_some n q);
      has_turn = λ t. absurd (off t);
      seen = f.seen;
      beside = (log s k, refl);
      opening = λ _. f.opening (omega arith);
    })
    (at_snoc (set s.views id l) r u j e))
    (apart_snoc (set s.views id l) r refl (apart_set s.views id l k.apart (still_apart s.views id v at k.apart)))
    (λ o. let h = holder_set s.views id l v at (λ t. t) o in (h.0, h.1, at_longer (set s.views id l) (r ∷ []) h.0 h.1 h.2, h.3))

pub joins : (id : ℕ) (v : View) (other : ℕ) (w : View) → IsOutside v → IsOutside w → 0 < v.parts → Joins Kept id v other w (both_of v w) nobody
joins id v other w idle idle' alive s k at apart there =
    let b = both_of v w in
    let f = k.each id v at in
    let here : At s.views other w = sym (set_else s.views id other b apart) ∙ there in
    let g = k.each other w here in
    let one = set s.views id b in
    let weighs : (h : View → ℕ) → h b + h nobody ≡ h v + h w → weigh h (set one other nobody) ≡ weigh h s.views = λ h e. let x = weigh-set h s.views id v b at in let y = weigh-set h one other w nobody there in omega (arith, x, y, e) in
    reseats s k (set one other nobody)
    (weighs parts_of (omega arith))
    (weighs firsts_of (omega arith))
    (weighs waits (let z : waits w ≡ 0 = ap one_if idle'.0 in omega (arith, z)))
    (λ h. weighs (calls_weight h) (let z = weigh_all-append h v.ended (w.calls ∷ w.ended) in omega (arith, z)))
    (λ h. weighs (hands_weight h) (let z = ap (weigh_all h) (map-append hand_of v.ended (w.calls ∷ w.ended)) ∙ weigh_all-append h (hands_of v.ended) (hands_of (w.calls ∷ w.ended)) in omega (arith, z)))
    (each_set one other nobody (Fits k.drawn k.served k.program k.before (log s k) k.out)
    record {
      known = λ z. absurd (omega arith);
      spent = λ _. refl;
      queued = λ n q. absurd (none_some n q);
      has_turn = λ t. absurd (off t);
      seen = (log s k, refl);
      beside = (log s k, refl);
      opening = λ z. absurd (omega arith);
    }
    (λ j u _. each_set s.views id b (Fits k.drawn k.served k.program k.before (log s k) k.out)
    record {
      known = λ _. f.known alive;
      spent = λ z. absurd (omega arith);
      queued = f.queued;
      has_turn = f.has_turn;
      seen = f.seen;
      beside = g.seen;
      opening = λ _. f.opening alive;
    }
    (λ i x _ q. k.each i x q) j u))
    (apart_set one other nobody (apart_set s.views id b k.apart (still_apart s.views id v at k.apart)) (λ j u n ne e x y. none_some n y))
    (λ o. holder_set one other nobody w there (λ t. absurd (true≢false (sym t ∙ idle'.1))) (holder_set s.views id b v at (λ t. t) o))

-- of two beginnings of one list the shorter begins the longer
begins : (log xs ys : List Event) → Starts log xs → Starts log ys → length xs ≤ length ys → Starts ys xs
begins log [] ys p q le = (ys, refl)
begins log (x ∷ xs) [] p q le = absurd (omega arith)
begins log (x ∷ xs) (y ∷ ys) p q le =
    let e : x ∷ (xs ++ p.0) ≡ y ∷ (ys ++ q.0) = sym p.1 ∙ q.1 in
    let heads : x ≡ y = cc in
    let tails : xs ++ p.0 ≡ ys ++ q.0 = cc in
    let t = begins (ys ++ q.0) xs ys (p.0, sym tails) (q.0, refl) (omega arith) in
    (t.0, λ i. sym heads i ∷ t.1 i)

longer_begins : (log xs ys : List Event) → Starts log xs → Starts log ys → Starts (longer xs ys) xs × Starts (longer xs ys) ys × Starts log (longer xs ys)
longer_begins log xs ys p q = go (nat_le (length xs) (length ys)) refl
  where
    all : List Event → Type 0
    all = λ l. Starts l xs × Starts l ys × Starts log l

    go : (b : Bool) → nat_le (length xs) (length ys) ≡ b → Starts (longer xs ys) xs × Starts (longer xs ys) ys × Starts log (longer xs ys)
    go true e = let le : length xs ≤ length ys = grind (arith, nat_tests) in rw e (begins log xs ys p q le, ([], sym (append-nil ys)), q)
    go false e = let le : length ys ≤ length xs = grind (arith, nat_tests) in rw e (([], sym (append-nil xs)), begins log ys xs q p le, p)

-- a load, at which one of what was seen and what was seen beside begins the other
pub compares : LegalBeginnings → (slots id : ℕ) (v : View) (c : List (ℕ × Board)) (st : Step Board) → IsOutside v → 0 < v.parts → Allows Kept slots id (v, c) 0 (λ n. n) (compared st (v, c))
compares beginnings slots id v c st idle alive s k len at small =
    let w = settled v in
    let f = k.each id v at in
    let t = longer_begins (log s k) v.seen v.beside f.seen f.beside in
    let legal : IsLegal v.program (settled v).seen = subst (λ (j : Qp). IsLegal j (settled v).seen) (sym (f.known alive).0)
    (beginnings k.program (settled v).seen t.2.0 (subst (λ (l : List Event). IsLegal k.program l) t.2.1 k.legal)) in (
      w,
      keeps,
      tt,
      subst (λ (ws : List ℕ). Kept record { words = ws; homes = s.homes; views = set s.views id w }) (sym (set-get_or s.words 0 0))
          (reseats s k (set s.views id w) (weigh-same parts_of s.views id v w at refl) (weigh-same firsts_of s.views id v w at refl) (weigh-same waits s.views id v w at refl)
          (λ g. weigh-same (calls_weight g) s.views id v w at refl)
          (λ g. weigh-same (hands_weight g) s.views id v w at refl)
          (each_set s.views id w (Fits k.drawn k.served k.program k.before (log s k) k.out)
          record {
            known = f.known;
            spent = λ z. absurd (omega arith);
            queued = f.queued;
            has_turn = λ x. absurd (true≢false (sym x ∙ idle.1));
            seen = t.2;
            beside = (log s k, refl);
            opening = λ z. starts_on (settled v).seen v.seen k.before t.0 (f.opening z);
          }
          (λ j u _ e. k.each j u e))
          (apart_set s.views id w k.apart (still_apart s.views id v at k.apart))
          (holder_set s.views id w v at (λ x. x))),
      (refl, (let a = weigh_at parts_of s.views id v at in let b = k.parts in omega (arith, a, b)), (let a = weigh_at firsts_of s.views id v at in let b = k.firsts in omega (arith, a, b)), legal, t.0, t.1),
    )

-- the pass with every part is the only one that isn't spent
alone : (s : St) (k : Kept s) (id : ℕ) (v : View) → At s.views id v → v.parts ≡ 33 → (j : ℕ) (u : View) → At s.views j u → j ≢ id → u ≡ nobody
alone s k id v at all j u e ne = (k.each j u e).spent (let a = weigh_two parts_of s.views j id u v e at ne in let b = k.parts in omega (arith, a, b))

pub closes : (s : St) (k : Kept s) (id : ℕ) (v : View) → At s.views id v → v.parts ≡ 33 → IsOutside v → (r : Board) × (get_elem? s.homes 0 ≡ some (some r)) × Ends v r
closes s k id v at all idle =
    let f = k.each id v at in
    let known = f.known (omega arith) in
    let others = alone s k id v at all in
    let home : k.out ≡ false = home_of k.out refl in
    let whole = k.held_history in
    let sliced : drop (length v.before) k.held.history ≡ k.after = (λ i. drop (length (known.1 i)) (whole i)) ∙ drop_whole k.before k.after in (
      k.held,
      ap (λ (h : List (mathlib.Core.Option.Option Board)). get_elem? h 0) (subst (λ (b : Bool). s.homes ≡ cond b none (some k.held) ∷ []) home k.slot),
      record {
        program = k.held_program ∙ sym known.0;
        legal = subst (λ (z : Qp × List Event). IsLegal z.0 z.1) (λ i. (sym k.held_program i, sym whole i)) k.legal;
        seen = (f.seen.0, whole ∙ f.seen.1);
        before = (k.after, whole ∙ ap (λ l. l ++ k.after) (sym known.1));
        counted = λ g. sym (weigh_only (calls_weight g) s.views id v at (λ j u e ne. ap (calls_weight g) (others j u e ne))) ∙ (k.counted g ∙ λ i. weigh g (placed (length (sym known.1 i)) (sym sliced i)));
        hands = λ g. let a = weigh_only (hands_weight g) s.views id v at (λ j u e ne. ap (hands_weight g) (others j u e ne)) in let b = k.hands g in let c = ap (λ (l : List Event). weigh g (open_of l)) known.1 in let d = ap (λ (l : List Event). weigh g (open_of l)) whole in omega (arith, a, b, c, d);
      },
    )
  where
    home_of : (b : Bool) → k.out ≡ b → k.out ≡ false
    home_of false e = e
    home_of true e =
        let h = k.away e in
        dite (ℕ_discrete (h.0) id)
        (λ same. absurd (true≢false (sym h.3 ∙ (ap (λ (z : View). z.turn) (sym (some-injective v (h.1) (sym at ∙ (ap (get_elem? s.views) (sym same) ∙ h.2)))) ∙ idle.1))))
        (λ ne. absurd (true≢false (sym h.3 ∙ ap (λ (z : View). z.turn) (alone s k id v at all h.0 h.1 h.2 ne))))

-- the same of a seat
pub compares_as : LegalBeginnings → (slots id : ℕ) (m : Sat) → IsOutside m.0 → 0 < m.0.parts → Allows Kept slots id m 0 (λ n. n) (compared any m)
compares_as beginnings slots id m = compares beginnings slots id m.0 m.1 any
