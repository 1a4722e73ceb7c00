-- Each step keeps the rule.
use Rattle.std.proofs.Common.{◌≡◌, ◌≢◌, ℕ, zero, suc, ◌+◌, ◌%◌, ◌^◌, ◌<◌, ◌≤◌, List, [], ◌∷◌, ◌++◌, length, set, get_or, drop, Bool, true, false, true≢false, cond, Option, Some, None, refl, sym, ap, ◌∙◌, subst, ⊎_elim, arith, append_assoc, length-append, length-set, get_or-set_other, get_or-set_same}
use Rattle.std.proofs.Math.Nat.{mod-add-mod}
use Rattle.std.specs.Prelude.{◌==◌}
use prog.Atomic.{either}
use mathlib.Core.Option.{some, none, some-injective, some-ne-none}
use mathlib.Core.Logic.{dite}
use native.Mathlib.Decide.{ℕ_discrete}
use lib.ListN.{get_elem?}
use lib.Seq.{set-get_or}
use Rattle.atomic_table.specs.Table.{State, Step, step, Act, keeps, takes, gives, carried_after, Valid, stepped, Allows}
use Rattle.atomic_table.proofs.Lists.{at_set, set_again, set_here, set_else, one_turn, exchanged}
use Rattle.mpc_rows.specs.declared.programs.Qp.{Qp}
use Rattle.mpc_claim.specs.declared.events.Event.{Event}
use Rattle.mpc_claim.specs.Board.{Board}
use Rattle.mpc_claim.specs.History.{is_claim, IsLegal}
use Rattle.mpc_claim.specs.OpenClaims.{Held, open_after, open_of, opened, has}
use Rattle.mpc_turn.specs.declared.view.View.{View}
use Rattle.mpc_turn.specs.Views.{weigh, placed, hand_of, Starts, parts_of, firsts_of, one_if, waits, calls_weight, hands_weight, numbered, turned, served, IsTurn, Follows}
use Rattle.mpc_turn.specs.Known.{HasTurn}
use Rattle.mpc_turn.specs.Lock.{Sat, Fits, Kept, drew, looked, gave, Takes}
use Rattle.mpc_turn.proofs.Sums.{weigh-append, weigh-set, weigh-same, weigh_at, weigh_le, is, has_weighs, weighs_has, weigh-without, hand_of-append, placed-append, open_after-append, drop_whole, append-nil}

abbrev pub St : Type 0
St = State Board View

abbrev pub At : List View → ℕ → View → Type 0
At vs j v = get_elem? vs j ≡ some v

abbrev pub Apart : List View → Type 0
Apart vs = (j k : ℕ) (v w : View) (n : ℕ) → At vs j v → At vs k w → v.number ≡ Some n → w.number ≡ Some n → j ≡ k

abbrev pub Holder : List View → Type 0
Holder vs = (k : ℕ) × (v : View) × At vs k v × (v.turn ≡ true)

pub at_below : (vs : List View) (i : ℕ) (v : View) → At vs i v → i < length vs
at_below [] i v e = absurd (some-ne-none v (sym e))
at_below (x ∷ xs) zero v e = omega arith
at_below (x ∷ xs) (suc i) v e = let h = at_below xs i v e in omega arith

module _ (vs : List View) (me : ℕ) (w : View) where
  pub each_set : (G : View → Type 0) → G w → ((j : ℕ) (u : View) → j ≢ me → At vs j u → G u) → (j : ℕ) (u : View) → At (set vs me w) j u → G u
  each_set G mine others j u e = ⊎_elim (λ (t : (j ≡ me) × (w ≡ u)). subst G t.1 mine) (λ (t : (j ≢ me) × At vs j u). others j u t.0 t.1) (at_set vs me j w u e)

  pub apart_set : Apart vs → ((j : ℕ) (u : View) (n : ℕ) → j ≢ me → At vs j u → u.number ≡ Some n → w.number ≡ Some n → ⊥) → Apart (set vs me w)
  apart_set old new j k a b n p q x y =
      ⊎_elim
      (λ (t : (j ≡ me) × (w ≡ a)). ⊎_elim
      (λ (u : (k ≡ me) × (w ≡ b)). t.0 ∙ sym u.0)
      (λ (u : (k ≢ me) × At vs k b). absurd (new k b n u.0 u.1 y (ap (λ (z : View). z.number) t.1 ∙ x)))
      (at_set vs me k w b q))
      (λ (t : (j ≢ me) × At vs j a). ⊎_elim
      (λ (u : (k ≡ me) × (w ≡ b)). absurd (new j a n t.0 t.1 x (ap (λ (z : View). z.number) u.1 ∙ y)))
      (λ (u : (k ≢ me) × At vs k b). old j k a b n t.1 u.1 x y)
      (at_set vs me k w b q))
      (at_set vs me j w a p)

  pub holder_set : (v : View) → At vs me v → (v.turn ≡ true → w.turn ≡ true) → Holder vs → Holder (set vs me w)
  holder_set v at same h = dite (ℕ_discrete (h.0) me)
      (λ e. (me, w, set_here vs me w (at_below vs me v at), same (ap (λ (z : View). z.turn) (some-injective v (h.1) (sym at ∙ ap (get_elem? vs) (sym e) ∙ h.2)) ∙ h.3)))
      (λ ne. (h.0, h.1, set_else vs me (h.0) w ne ∙ h.2, h.3))

-- the same number is at no other view
pub still_apart : (vs : List View) (me : ℕ) (v : View) → At vs me v → Apart vs → (j : ℕ) (u : View) (n : ℕ) → j ≢ me → At vs j u → u.number ≡ Some n → v.number ≡ Some n → ⊥
still_apart vs me v at old j u n ne e x y = ne (old j me u v n e at x y)

one_if-le : (o : Option ℕ) → one_if o ≤ 1
one_if-le None = omega arith
one_if-le (Some n) = omega arith

pub none_some : (n : ℕ) → None ≡ Some n → ⊥
none_some n e = cc

pub some_same : (m n : ℕ) → Some m ≡ Some n → m ≡ n
some_same m n e = cc

pub off : false ≡ true → ⊥
off e = true≢false (sym e)

module _ (s : St) (k : Kept s) where
  abbrev pub log : List Event
  log = k.before ++ k.after

  waits-le : (v : View) → Fits k.drawn k.served k.program k.before log k.out v → waits v ≤ parts_of v
  waits-le v f = dite (ℕ_discrete v.parts 0) (λ z. let e : waits v ≡ 0 = ap waits (f.spent z) in omega (arith, e)) (λ ne. let l = one_if-le v.number in omega (arith, l))

  -- no more passes wait than there are
  short : k.drawn ≤ k.served + 33
  short = let w = weigh_le waits parts_of s.views (λ j v e. waits-le v (k.each j v e)) in let p = k.parts in let q = k.queue in omega (arith, w, p, q)

  pub no_prefix : (seen more : List Event) → Starts log seen → Starts (k.before ++ (k.after ++ more)) seen
  no_prefix seen more t = (t.0 ++ more, sym (append_assoc k.before k.after more) ∙ ap (λ l. l ++ more) t.1 ∙ append_assoc seen t.0 more)

-- a word that stays, with a view that stays
stays : (i id : ℕ) (v : View) (c : List (ℕ × Board)) (s : St) (k : Kept s) → At s.views id v → Kept (stepped s i (get_or s.words i 0) id c v keeps)
stays i id v c s k at =
    subst (λ (ws : List ℕ). Kept record { words = ws; homes = s.homes; views = set s.views id v }) (sym (set-get_or s.words i 0))
    (subst (λ (vs : List View). Kept record { words = s.words; homes = s.homes; views = vs }) (sym (set_again s.views id v at)) k)

draw_kept : (id : ℕ) (v : View) (c : List (ℕ × Board)) (s : St) (k : Kept s) → At s.views id v → v.number ≡ None → 0 < v.parts → Kept (stepped s 0 ((get_or s.words 0 0 + 1) % 2 ^ 64) id c (numbered v k.drawn) keeps)
draw_kept id v c s k at free alive =
    let w = numbered v k.drawn in
    let x : ℕ = (get_or s.words 0 0 + 1) % 2 ^ 64 in
    let two = k.two in
    let f = k.each id v at in
    let none_at : (n : ℕ) → v.number ≡ Some n → ⊥ = λ n e. none_some n (sym free ∙ e) in
    record {
      drawn = k.drawn + 1;
      served = k.served;
      program = k.program;
      before = k.before;
      after = k.after;
      out = k.out;
      two = length-set s.words 0 x ∙ two;
      ticket = get_or-set_same s.words 0 x 0 (omega arith) ∙ (ap (λ (n : ℕ). (n + 1) % 2 ^ 64) k.ticket ∙ mod-add-mod k.drawn (2 ^ 64) 1);
      serving = get_or-set_other s.words 0 1 x 0 (λ e. omega arith) ∙ k.serving;
      parts = weigh-same parts_of s.views id v w at refl ∙ k.parts;
      firsts = weigh-same firsts_of s.views id v w at refl ∙ k.firsts;
      queue = let q = k.queue in let t = weigh-set waits s.views id v w at in let z : waits v ≡ 0 = ap one_if free in omega (arith, q, t, z);
      each = each_set s.views id w (Fits (k.drawn + 1) k.served k.program k.before (log s k) k.out)
          record {
            known = f.known;
            spent = λ z. absurd (omega arith);
            queued = λ n e. let same = some_same k.drawn n e in let q = k.queue in (omega arith, omega arith);
            has_turn = λ t. absurd (none_at k.served (f.has_turn t).1);
            seen = f.seen;
            beside = f.beside;
            opening = f.opening;
          }
          (λ j u ne e. let g = k.each j u e in record {
            known = g.known;
            spent = g.spent;
            queued = λ n q. let h = g.queued n q in (h.0, omega (arith, h.1));
            has_turn = g.has_turn;
            seen = g.seen;
            beside = g.beside;
            opening = g.opening;
          });
      apart = apart_set s.views id w k.apart (λ j u n ne e p q. let same = some_same k.drawn n q in let h = (k.each j u e).queued n p in omega (arith, h.1, same));
      held = k.held;
      held_program = k.held_program;
      held_history = k.held_history;
      slot = k.slot;
      away = λ o. holder_set s.views id w v at (λ t. t) (k.away o);
      legal = k.legal;
      counted = λ g. weigh-same (calls_weight g) s.views id v w at refl ∙ k.counted g;
      hands = λ g. ap (λ (n : ℕ). n + weigh g (open_of k.before)) (weigh-same (hands_weight g) s.views id v w at refl) ∙ k.hands g;
    }

-- a number is drawn where the word is as expected, and nothing changes elsewhere
pub draws : (slots id : ℕ) (m : Sat) (old new : ℕ) → new ≡ (old + 1) % 2 ^ 64 → m.0.number ≡ None → 0 < m.0.parts → Allows Kept slots id m 0 (λ n. either (n == old) new n) (drew (step 0 0 old new none) m)
draws slots id m old new is free alive s k len at small =
    exchanged (get_or s.words 0 0) old new (λ x. (w : View) × (a : Act Board) × Valid s.homes m.1 a × Kept (stepped s 0 x id m.1 w a) × drew (step 0 0 old new none) m (get_or s.words 0 0) (w, carried_after m.1 a))
    (λ e. (
      numbered m.0 k.drawn,
      keeps,
      tt,
      subst (λ (x : ℕ). Kept (stepped s 0 x id m.1 (numbered m.0 k.drawn) keeps)) (ap (λ (n : ℕ). (n + 1) % 2 ^ 64) e ∙ sym is) (draw_kept id m.0 m.1 s k at free alive),
      ((λ _. (k.drawn, refl, k.ticket)), (λ ne. absurd (ne e))),
    ))
    (λ ne. (m.0, keeps, tt, stays 0 id m.0 m.1 s k at, ((λ e. absurd (ne e)), (λ _. refl))))

-- the tickets of a hand are open in the history
hand_open : (s : St) (k : Kept s) (id : ℕ) (v : View) → At s.views id v → (t : Held) → has t (hand_of v.calls) ≡ true → has t (open_of (log s k)) ≡ true
hand_open s k id v at t h =
    let a = has_weighs t (hand_of v.calls) h in
    let b = weigh_at (hands_weight (is t)) s.views id v at in
    let c = k.hands (is t) in
    weighs_has t (open_of (log s k)) (omega (arith, a, b, c))

-- no pass has the turn, where this one's number is served and it has no turn
at_home : (s : St) (k : Kept s) (id : ℕ) (v : View) → At s.views id v → v.number ≡ Some k.served → v.turn ≡ false → (b : Bool) → k.out ≡ b → k.out ≡ false
at_home s k id v at number idle false e = e
at_home s k id v at number idle true e =
    let h = k.away e in
    let t = (k.each h.0 h.1 h.2).has_turn h.3 in
    let here = k.apart h.0 id h.1 v k.served h.2 at t.1 number in
    let same : h.1 ≡ v = some_injective_at (h.1) v (sym (ap (get_elem? s.views) here ∙ at) ∙ h.2) in
    absurd (true≢false (sym h.3 ∙ ap (λ (z : View). z.turn) same ∙ idle))
  where
    some_injective_at : (a b : View) → some b ≡ some a → a ≡ b
    some_injective_at a b e = sym (some-injective b a e)

looks_here : (id : ℕ) (v : View) (n : ℕ) (st : Step Board) (s : St) (k : Kept s) → At s.views id v → v.number ≡ Some n → v.turn ≡ false → 0 < v.parts → k.served ≡ n → k.out ≡ false
    → let w = turned v k.held.history in let r = k.held in
    (get_elem? s.homes 0 ≡ some (some r)) × Kept (stepped s 1 (get_or s.words 1 0) id [] w (takes 0 r)) × Takes (v, []) (w, (0, r) ∷ [])
looks_here id v n st s k at number idle alive same home =
    let w = turned v k.held.history in
    let r = k.held in
    let whole = k.held_history in
    let f = k.each id v at in
    let slot : s.homes ≡ some r ∷ [] = subst (λ (b : Bool). s.homes ≡ cond b none (some r) ∷ []) home k.slot in (
      ap (λ (h : List (mathlib.Core.Option.Option Board)). get_elem? h 0) slot,
      subst (λ (ws : List ℕ). Kept record { words = ws; homes = set s.homes 0 none; views = set s.views id w }) (sym (set-get_or s.words 1 0)) record {
        drawn = k.drawn;
        served = k.served;
        program = k.program;
        before = k.before;
        after = k.after;
        out = true;
        two = k.two;
        ticket = k.ticket;
        serving = k.serving;
        parts = weigh-same parts_of s.views id v w at refl ∙ k.parts;
        firsts = weigh-same firsts_of s.views id v w at refl ∙ k.firsts;
        queue = let e = weigh-same waits s.views id v w at refl in let q = k.queue in omega (arith, e, q);
        each = each_set s.views id w (Fits k.drawn k.served k.program k.before (log s k) true)
            record {
              known = f.known;
              spent = λ z. absurd (omega arith);
              queued = f.queued;
              has_turn = λ _. (refl, number ∙ ap Some (sym same), whole);
              seen = ([], sym whole ∙ sym (append-nil k.held.history));
              beside = f.beside;
              opening = λ _. (k.after, whole);
            }
            (λ j u ne e. let g = k.each j u e in record {
              known = g.known;
              spent = g.spent;
              queued = g.queued;
              has_turn = λ t. absurd (true≢false (sym (g.has_turn t).0 ∙ home));
              seen = g.seen;
              beside = g.beside;
              opening = g.opening;
            });
        apart = apart_set s.views id w k.apart (still_apart s.views id v at k.apart);
        held = k.held;
        held_program = k.held_program;
        held_history = k.held_history;
        slot = ap (λ (h : List (mathlib.Core.Option.Option Board)). set h 0 none) slot;
        away = λ _. (id, w, set_here s.views id w (at_below s.views id v at), refl);
        legal = k.legal;
        counted = λ g. weigh-same (calls_weight g) s.views id v w at refl ∙ k.counted g;
        hands = λ g. ap (λ (m : ℕ). m + weigh g (open_of k.before)) (weigh-same (hands_weight g) s.views id v w at refl) ∙ k.hands g;
      },
      (
        r,
        refl,
        k.held_program ∙ sym (f.known alive).0,
        (f.seen.0, whole ∙ f.seen.1),
        subst (λ (z : Qp × List Event). IsLegal z.0 z.1) (λ i. (sym k.held_program i, sym whole i)) k.legal,
        λ t h. subst (λ (l : List Event). has t (open_of l) ≡ true) (sym whole) (hand_open s k id v at t h),
      ),
    )

pub looks : (slots id : ℕ) (v : View) (n : ℕ) (st : Step Board) → v.number ≡ Some n → v.turn ≡ false → 0 < v.parts → Allows Kept slots id (v, []) 1 (λ m. m) (looked st (v, []))
looks slots id v n st number idle alive s k len at small = dite (ℕ_discrete (get_or s.words 1 0) (n % 2 ^ 64))
    (λ e.
    let q = (k.each id v at).queued n number in
    let b = short s k in
    let same : k.served ≡ n = one_turn k.served n (2 ^ 64) q.0 (omega (arith, q.1, b)) (sym k.serving ∙ e) in
    let home = at_home s k id v at (number ∙ ap Some (sym same)) idle k.out refl in
    let t = looks_here id v n st s k at number idle alive same home in
    (turned v k.held.history, takes 0 k.held, t.0, t.1, λ m p. ((λ _. t.2), (λ ne. absurd (ne (e ∙ ap (λ (z : ℕ). z % 2 ^ 64) (some_same n m (sym number ∙ p))))))))
    (λ ne. (v, keeps, tt, stays 1 id v [] s k at, λ m p. ((λ e. absurd (ne (e ∙ ap (λ (z : ℕ). z % 2 ^ 64) (sym (some_same n m (sym number ∙ p)))))), (λ _. refl))))

-- what one turn adds does to a hand what it does to what is open
opens_alike : (f : Held → ℕ) (hand held : List Held) (e : Event) → (is_claim e.kind ≡ false → has (e.worker, e.set) hand ≡ true) → (is_claim e.kind ≡ false → has (e.worker, e.set) held ≡ true)
    → weigh f (opened hand e) + weigh f held ≡ weigh f hand + weigh f (opened held e)
opens_alike f hand held e a b = go (is_claim e.kind) refl
  where
    go : (d : Bool) → is_claim e.kind ≡ d → weigh f (opened hand e) + weigh f held ≡ weigh f hand + weigh f (opened held e)
    go true q = let x = weigh-append f hand ((e.worker, e.set) ∷ []) in let y = weigh-append f held ((e.worker, e.set) ∷ []) in rw q (omega (arith, x, y))
    go false q = let x = weigh-without f (e.worker, e.set) hand (a q) in let y = weigh-without f (e.worker, e.set) held (b q) in rw q (omega (arith, x, y))

turns_alike : (f : Held → ℕ) (hand held : List Held) (more : List Event) → ((t : Held) → has t hand ≡ true → has t held ≡ true) → IsTurn hand more
    → weigh f (open_after hand more) + weigh f held ≡ weigh f hand + weigh f (open_after held more)
turns_alike f hand held [] there turn = omega arith
turns_alike f hand held (e ∷ []) there turn = opens_alike f hand held e turn (λ q. there (e.worker, e.set) (turn q))
turns_alike f hand held (e ∷ c ∷ []) there turn =
    let claim : is_claim c.kind ≡ false → ⊥ = λ q. true≢false (sym turn.2 ∙ q) in
    let x = opens_alike f hand held e (λ _. turn.1) (λ _. there (e.worker, e.set) turn.1) in
    let y = opens_alike f (opened hand e) (opened held e) c (λ q. absurd (claim q)) (λ q. absurd (claim q)) in
    omega (arith, x, y)
turns_alike f hand held (e ∷ c ∷ d ∷ more) there turn = absurd turn

abbrev carrying : Board → List (ℕ × Board)
carrying r = (0, r) ∷ []

carried_is : (a b : Board) → carrying a ≡ carrying b → a ≡ b
carried_is a b e = ap (λ (l : List (ℕ × Board)). (get_or l 0 (0, a)).1) e

-- the slot comes back with what the turn has added, and the turn is over
serves_kept : (id : ℕ) (v : View) (r : Board) (s : St) (k : Kept s) → At s.views id v → v.turn ≡ true → 0 < v.parts → Follows v r → Kept (stepped s 1 ((get_or s.words 1 0 + 1) % 2 ^ 64) id ((0, r) ∷ []) (served v r.history) gives)
serves_kept id v r s k at turn alive follows =
    let w = served v r.history in
    let x : ℕ = (get_or s.words 1 0 + 1) % 2 ^ 64 in
    let f = k.each id v at in
    let mine = f.has_turn turn in
    let two = k.two in
    let more = follows.2.0 in
    let program : r.program ≡ k.program = follows.0 ∙ (f.known alive).0 in
    let history : r.history ≡ k.before ++ (k.after ++ more) = follows.2.1 ∙ (ap (λ l. l ++ more) mine.2 ∙ append_assoc k.before k.after more) in
    let calls : w.calls ≡ v.calls ++ placed (length v.seen) more = ap (λ l. v.calls ++ placed (length v.seen) l) (ap (drop (length v.seen)) follows.2.1 ∙ drop_whole v.seen more) in
    let slot : s.homes ≡ none ∷ [] = subst (λ (b : Bool). s.homes ≡ cond b none (some k.held) ∷ []) mine.0 k.slot in
    -- another view has another number
    let else : (j : ℕ) (u : View) → j ≢ id → At s.views j u → u.number ≡ Some k.served → ⊥ = λ j u ne e q. ne (k.apart j id u v k.served e at q mine.1) in
    record {
      drawn = k.drawn;
      served = k.served + 1;
      program = k.program;
      before = k.before;
      after = k.after ++ more;
      out = false;
      two = length-set s.words 1 x ∙ two;
      ticket = get_or-set_other s.words 1 0 x 0 (λ e. omega arith) ∙ k.ticket;
      serving = get_or-set_same s.words 1 x 0 (omega arith) ∙ (ap (λ (n : ℕ). (n + 1) % 2 ^ 64) k.serving ∙ mod-add-mod k.served (2 ^ 64) 1);
      parts = weigh-same parts_of s.views id v w at refl ∙ k.parts;
      firsts = weigh-same firsts_of s.views id v w at refl ∙ k.firsts;
      queue = let q = k.queue in let t = weigh-set waits s.views id v w at in let a : waits v ≡ 1 = ap one_if mine.1 in omega (arith, q, t, a);
      each = each_set s.views id w (Fits k.drawn (k.served + 1) k.program k.before (k.before ++ (k.after ++ more)) false)
          record {
            known = f.known;
            spent = λ z. absurd (omega (arith, alive));
            queued = λ n e. absurd (none_some n e);
            has_turn = λ t. absurd (off t);
            seen = ([], sym history ∙ sym (append-nil r.history));
            beside = no_prefix s k v.beside more f.beside;
            opening = λ _. (k.after ++ more, history);
          }
          (λ j u ne e. let g = k.each j u e in record {
            known = g.known;
            spent = g.spent;
            queued = λ n q. let h = g.queued n q in let apart : k.served ≢ n = λ t. else j u ne e (q ∙ ap Some (sym t)) in (omega (arith, h.0, apart), h.1);
            has_turn = λ t. absurd (else j u ne e (g.has_turn t).1);
            seen = no_prefix s k u.seen more g.seen;
            beside = no_prefix s k u.beside more g.beside;
            opening = g.opening;
          });
      apart = apart_set s.views id w k.apart (λ j u n ne e p q. none_some n q);
      held = r;
      held_program = program;
      held_history = history;
      slot = ap (λ (h : List (mathlib.Core.Option.Option Board)). set h 0 (some r)) slot;
      away = λ o. absurd (off o);
      legal = subst (λ (z : Qp × List Event). IsLegal z.0 z.1) (λ i. (program i, history i)) follows.1;
      counted = λ g.
          let t = weigh-set (calls_weight g) s.views id v w at in
          let c = k.counted g in
          let a = ap (weigh g) calls in
          let b = weigh-append g v.calls (placed (length v.seen) more) in
          let d = ap (weigh g) (placed-append (length k.before) k.after more) in
          let e = weigh-append g (placed (length k.before) k.after) (placed (length k.before + length k.after) more) in
          let n = ap (λ (n : ℕ). weigh g (placed n more)) (ap length mine.2 ∙ length-append k.before k.after) in
          omega (arith, t, c, a, b, d, e, n);
      hands = λ g.
          let t = weigh-set (hands_weight g) s.views id v w at in
          let c = k.hands g in
          let a = ap (λ l. weigh g (hand_of l)) calls in
          let b = ap (weigh g) (hand_of-append v.calls (length v.seen) more) in
          let d = ap (λ l. weigh g (open_of l)) (sym (append_assoc k.before k.after more)) ∙ ap (weigh g) (open_after-append [] (k.before ++ k.after) more) in
          let e = turns_alike g (hand_of v.calls) (open_of (k.before ++ k.after)) more (hand_open s k id v at) follows.2.2 in
          omega (arith, t, c, a, b, d, e);
    }

pub serves : (slots id : ℕ) (v : View) (r : Board) (st : Step Board) → v.turn ≡ true → 0 < v.parts → Follows v r → Allows Kept slots id (v, (0, r) ∷ []) 1 (λ n. (n + 1) % 2 ^ 64) (gave st (v, (0, r) ∷ []))
serves slots id v r st turn alive follows s k len at small = (served v r.history, gives, tt, serves_kept id v r s k at turn alive follows, λ r' e. ap (λ (z : Board). (served v z.history, [])) (carried_is r r' e))

-- what these steps tell doesn't depend on the step's operands
abbrev pub any : Step Board
any = step 0 0 0 0 none

-- the same of a seat, at what it carries
pub looks_as : (slots id : ℕ) (m : Sat) (n : ℕ) → m.0.number ≡ Some n → m.0.turn ≡ false → 0 < m.0.parts → m.1 ≡ [] → Allows Kept slots id m 1 (λ x. x) (looked any m)
looks_as slots id m n number idle alive empty = subst (λ (c : List (ℕ × Board)). Allows Kept slots id (m.0, c) 1 (λ x. x) (looked any (m.0, c))) (sym empty) (looks slots id m.0 n any number idle alive)

pub serves_as : (slots id : ℕ) (m : Sat) (r : Board) → m.1 ≡ (0, r) ∷ [] → m.0.turn ≡ true → 0 < m.0.parts → Follows m.0 r → Allows Kept slots id m 1 (λ n. (n + 1) % 2 ^ 64) (gave any m)
serves_as slots id m r carries turn alive follows = subst (λ (c : List (ℕ × Board)). Allows Kept slots id (m.0, c) 1 (λ n. (n + 1) % 2 ^ 64) (gave any (m.0, c))) (sym carries) (serves slots id m.0 r any turn alive follows)

-- a look that finds the number that was drawn has the turn
pub takes_turn : (m m1 m2 : Sat) (n found : ℕ) → m1 ≡ (numbered m.0 n, m.1) → m.1 ≡ [] → found ≡ n % 2 ^ 64 → looked any m1 found m2 → HasTurn m.0 m2
takes_turn m m1 m2 n found is empty e told =
    let t = (subst (λ (x : Sat). looked any x found m2) is told n refl).0 e in
    (n, t.0, t.1 ∙ ap (λ (c : List (ℕ × Board)). (turned (numbered m.0 n) t.0.history, (0, t.0) ∷ c)) empty, t.2, t.3, t.4, t.5)
