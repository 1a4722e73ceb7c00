-- Workers who take turns hold one set at a time.
use Rattle.std.proofs.Common.{◌≡◌, ◌⊎◌, ℕ, zero, suc, ◌+◌, ◌<◌, ◌≤◌, List, [], ◌∷◌, ◌++◌, length, get_or, Bool, true, false, true≢false, Some, All, Contains, refl, sym, ap, ◌∙◌, subst, inl, inr, arith, eqb}
use Rattle.std.specs.Prelude.{slice_get, if◌then◌else◌}
use Rattle.std.proofs.lemmas.Bool.{eqb-true}
use Rattle.std.proofs.lemmas.List.{length-append}
use Rattle.std.proofs.lemmas.List.Elements.{Contains-append_right}
use mathlib.Core.Logic.{dite}
use native.Mathlib.Decide.{dec_lt}
use Rattle.mpc_claim.specs.declared.events.Event.{Event}
use Rattle.mpc_claim.specs.declared.events.EventKind.TheVariants.{Claim}
use Rattle.mpc_claim.specs.Board.{event}
use Rattle.mpc_claim.specs.History.{is_claim, ended_sets, MayEnd}
use Rattle.mpc_turn.specs.Views.{Call, weigh, weigh_all}
use Rattle.mpc_turn.specs.Known.{StandsFrom, StandsAt, at_place}
use Rattle.mpc_workers.specs.Calls.{TakesTurns, Rise}
use Rattle.mpc_workers.specs.Alone.{IsTurn, AreTurns}
use Rattle.mpc_workers.specs.Holding.{HoldOneSet}
use Rattle.mpc_workers.specs.Joined.{IsEnded, AreCountedDown}

-- ---- calls of one pass
abbrev IsOneOf : Call → List Call → Type 0
IsOneOf c [] = ⊥
IsOneOf c (x ∷ xs) = (c ≡ x) ⊎ IsOneOf c xs

all_at : (P : Call → Type 0) (cs : List Call) (c : Call) → All P cs → IsOneOf c cs → P c
all_at P [] c a h = absurd h
all_at P (x ∷ xs) c a (inl e) = subst P (sym e) (a 0 x (omega arith))
all_at P (x ∷ xs) c a (inr h) = all_at P xs c (λ k d l. a (suc k) d (omega arith)) h

pub turns_more : (cs : List Call) (c e : Call) → TakesTurns cs → is_claim c.1.kind ≡ true → is_claim e.1.kind ≡ false → e.1.set ≡ c.1.set → TakesTurns ((cs ++ c ∷ []) ++ e ∷ [])
turns_more [] c e t p q r = (p, q, r, tt)
turns_more (x ∷ []) c e t p q r = absurd t
turns_more (x ∷ y ∷ rest) c e t p q r = (t.0, t.1, t.2, turns_more rest c e t.3 p q r)

not_before : (k : ℕ) (cs : List Call) (c : Call) → Rise k cs → IsOneOf c cs → k ≤ c.0
not_before k [] c s h = absurd h
not_before k (x ∷ xs) c s (inl e) = subst (λ (y : Call). k ≤ y.0) (sym e) s.0
not_before k (x ∷ xs) c s (inr h) = let l = not_before (x.0 + 1) xs c s.1 h in let m = s.0 in omega (arith, l, m)

rise_lower : (i j : ℕ) (cs : List Call) → i ≤ j → Rise j cs → Rise i cs
rise_lower i j [] l r = tt
rise_lower i j (c ∷ cs) l r = let m = r.0 in (omega (arith, l, m), r.1)

rise_at : (seen : List Event) (k : ℕ) (cs : List Call) → StandsFrom seen k cs → Rise k cs
rise_at seen k [] s = tt
rise_at seen k (c ∷ cs) s = (s.0, rise_at seen (c.0 + 1) cs s.2)

-- calls that stand in a history stand at rising positions
pub rising : (seen : List Event) (k : ℕ) (cs : List Call) → StandsFrom seen k cs → Rise 0 cs
rising seen k cs s = rise_lower 0 k cs (omega arith) (rise_at seen k cs s)

-- an end of the call's set, before this position
record EndsBefore (cs : List Call) (c : Call) (p : ℕ) : Type 0 where
  pub end : Call
  pub one : IsOneOf end cs
  pub before : end.0 < p
  pub set_is : end.1.set ≡ c.1.set
  pub ends : is_claim end.1.kind ≡ false

later : (x y : Call) (rest : List Call) (c : Call) (p : ℕ) → EndsBefore rest c p → EndsBefore (x ∷ y ∷ rest) c p
later x y rest c p e = record { end = e.end; one = inr (inr e.one); before = e.before; set_is = e.set_is; ends = e.ends }

no_claim : (c x : Call) → c ≡ x → is_claim c.1.kind ≡ true → is_claim x.1.kind ≡ false → ⊥
no_claim c x e p q = true≢false (sym p ∙ (ap (λ (y : Call). is_claim y.1.kind) e ∙ q))

-- between two claims of one pass stands the end of the first one's set
between : (k : ℕ) (cs : List Call) (a b : Call) → TakesTurns cs → Rise k cs → IsOneOf a cs → IsOneOf b cs
    → is_claim a.1.kind ≡ true → is_claim b.1.kind ≡ true → a.0 < b.0 → EndsBefore cs a b.0
between k [] a b t s p q i j l = absurd p
between k (x ∷ []) a b t s p q i j l = absurd t
between k (x ∷ y ∷ rest) a b t s (inl e) (inl f) i j l = let g : a.0 ≡ b.0 = ap (λ (c : Call). c.0) (e ∙ sym f) in absurd (omega (arith, g, l))
between k (x ∷ y ∷ rest) a b t s (inl e) (inr (inl f)) i j l = absurd (no_claim b y f j t.1)
between k (x ∷ y ∷ rest) a b t s (inl e) (inr (inr q)) i j l =
    let m = not_before (y.0 + 1) rest b s.1.1 q in
    record { end = y; one = inr (inl refl); before = omega (arith, m); set_is = t.2 ∙ sym (ap (λ (c : Call). c.1.set) e); ends = t.1 }
between k (x ∷ y ∷ rest) a b t s (inr (inl e)) q i j l = absurd (no_claim a y e i t.1)
between k (x ∷ y ∷ rest) a b t s (inr (inr p)) (inl f) i j l =
    let m = not_before (y.0 + 1) rest a s.1.1 p in
    let n = s.1.0 in
    let o : b.0 ≡ x.0 = ap (λ (c : Call). c.0) f in
    absurd (omega (arith, m, n, o, l))
between k (x ∷ y ∷ rest) a b t s (inr (inr p)) (inr (inl f)) i j l = absurd (no_claim b y f j t.1)
between k (x ∷ y ∷ rest) a b t s (inr (inr p)) (inr (inr q)) i j l = later x y rest a b.0 (between (y.0 + 1) rest a b t.3 s.1.1 p q i j l)

-- ---- the call that stands at a position
module _ (p : ℕ) where
  abbrev IsAt : List Call → Type 0
  IsAt cs = (c : Call) × IsOneOf c cs × (c.0 ≡ p)

  found : (cs : List Call) → 1 ≤ weigh (at_place p) cs → IsAt cs
  found [] l = absurd (omega arith)
  found (x ∷ xs) l = go (eqb x.0 p) refl (found xs)
    where
      go : (b : Bool) → eqb x.0 p ≡ b → (1 ≤ weigh (at_place p) xs → IsAt xs) → IsAt (x ∷ xs)
      go true e r = (x, inl refl, eqb-true x.0 p e)
      go false e r = let z : at_place p x ≡ 0 = rw e refl in let h = r (omega (arith, z, l)) in (h.0, inr h.1, h.2)

  abbrev IsIn : List (List Call) → Type 0
  IsIn ended = (i : ℕ) × (i < length ended) × IsAt (get_or ended i [])

  found_in : (ended : List (List Call)) → 1 ≤ weigh_all (at_place p) ended → IsIn ended
  found_in [] l = absurd (omega arith)
  found_in (x ∷ xs) l = go (weigh (at_place p) x) refl (found_in xs)
    where
      go : (n : ℕ) → weigh (at_place p) x ≡ n → (1 ≤ weigh_all (at_place p) xs → IsIn xs) → IsIn (x ∷ xs)
      go zero e r = let h = r (omega (arith, e, l)) in (suc h.0, omega (arith, h.1), h.2)
      go (suc n) e r = (0, omega arith, found x (omega (arith, e)))

-- ---- places in a history
got : (past more : List Event) (p : ℕ) (e : Event) → p < length past → get_or past p e ≡ e → slice_get (past ++ more) p ≡ Some e
got [] more p e l is = absurd (omega arith)
got (x ∷ past) more zero e l is = ap Some is
got (x ∷ past) more (suc p) e l is = got past more p e (omega arith) is

ended_at : (past more : List Event) (p : ℕ) (e : Event) → p < length past → slice_get (past ++ more) p ≡ Some e → is_claim e.kind ≡ false → Contains (ended_sets past) e.set
ended_at [] more p e l is ends = absurd (omega arith)
ended_at (x ∷ past) more zero e l is ends =
    let same : x ≡ e = some_same is in
    let kind : is_claim x.kind ≡ false = ap (λ (y : Event). is_claim y.kind) same ∙ ends in
    rw kind (0, omega arith, ap (λ (y : Event). y.set) same)
  where
    some_same : Some x ≡ Some e → x ≡ e
    some_same f = cc
ended_at (x ∷ past) more (suc p) e l is ends = Contains-append_right (if is_claim x.kind then [] else x.set ∷ []) (ended_sets past) e.set (ended_at past more p e (omega arith) is ends)

-- the call of a claim
record IsClaimed (ended : List (List Call)) (worker : ℕ) (s : List ℕ) (place : ℕ) : Type 0 where
  pub pass : ℕ
  pub within : pass < length ended
  pub call : Call
  pub one : IsOneOf call (get_or ended pass [])
  pub place_is : call.0 ≡ place
  pub event_is : call.1 ≡ event worker s Claim

-- ---- the calls of the passes make a history in which each worker holds one set at a time
module _ (most k : ℕ) (history : List Event) (ended : List (List Call)) (once : (p : ℕ) → p < length history → weigh_all (at_place p) ended ≡ 1)
    (stands : All (All (StandsAt history k)) ended) (each : All (IsEnded most) ended) (order : AreCountedDown most ended) where
  call_of : (past more : List Event) → history ≡ past ++ more → (worker : ℕ) (s : List ℕ) (p : ℕ) → p < length past → get_or past p (event worker s Claim) ≡ event worker s Claim → IsClaimed ended worker s p
  call_of past more is worker s p l e =
      let long : length history ≡ length past + length more = ap length is ∙ length-append past more in
      let sum = once p (omega (arith, long, l)) in
      let f = found_in p ended (omega (arith, sum)) in
      let at : slice_get history f.2.0.0 ≡ Some f.2.0.1 = (all_at (StandsAt history k) (get_or ended f.0 []) f.2.0 (stands f.0 [] f.1) f.2.1).1 in
      let there : slice_get history p ≡ Some (event worker s Claim) = ap (λ (h : List Event). slice_get h p) is ∙ got past more p (event worker s Claim) l e in
      record { pass = f.0; within = f.1; call = f.2.0; one = f.2.1; place_is = f.2.2; event_is = same f.2.0.1 (sym at ∙ (ap (slice_get history) f.2.2 ∙ there)) }
    where
      same : (x : Event) → Some x ≡ Some (event worker s Claim) → x ≡ event worker s Claim
      same x q = cc

  -- the second of two claims by one worker comes after the end of the first one's set
  ended_between : (past more : List Event) → history ≡ past ++ more → (worker : ℕ) (s t : List ℕ) (p q : ℕ) → IsClaimed ended worker s p → IsClaimed ended worker t q → p < q → q < length past → Contains (ended_sets past) s
  ended_between past more is worker s t p q a b l within =
      let first = all_at (λ (c : Call). c.1.worker + a.pass ≡ most) (get_or ended a.pass []) a.call (order a.pass [] a.within) a.one in
      let second = all_at (λ (c : Call). c.1.worker + b.pass ≡ most) (get_or ended b.pass []) b.call (order b.pass [] b.within) b.one in
      let mine : a.call.1.worker ≡ worker = ap (λ (e : Event). e.worker) a.event_is in
      let yours : b.call.1.worker ≡ worker = ap (λ (e : Event). e.worker) b.event_is in
      let same : b.pass ≡ a.pass = omega (arith, first, second, mine, yours) in
      let calls = get_or ended a.pass [] in
      let here : IsOneOf b.call calls = subst (λ (i : ℕ). IsOneOf b.call (get_or ended i [])) same b.one in
      let of : IsEnded most calls = each a.pass [] a.within in
      let before : a.call.0 < b.call.0 = let f = a.place_is in let g = b.place_is in omega (arith, f, g, l) in
      let e = between 0 calls a.call b.call of.turns of.rise a.one here (ap (λ (x : Event). is_claim x.kind) a.event_is) (ap (λ (x : Event). is_claim x.kind) b.event_is) before in
      let at : slice_get history e.end.0 ≡ Some e.end.1 = (all_at (StandsAt history k) calls e.end (stands a.pass [] a.within) e.one).1 in
      let early : e.end.0 < length past = let f = e.before in let g = b.place_is in omega (arith, f, g, within) in
      subst (Contains (ended_sets past)) (e.set_is ∙ ap (λ (x : Event). x.set) a.event_is)
      (ended_at past more e.end.0 e.end.1 early (subst (λ (h : List Event). slice_get h e.end.0 ≡ Some e.end.1) is at) e.ends)

  pub hold_one : HoldOneSet history
  hold_one = record { one = two }
    where
      two : (past more : List Event) → history ≡ past ++ more → (worker : ℕ) (s t : List ℕ) → MayEnd past worker s → MayEnd past worker t → s ≡ t
      two past more is worker s t x y =
          let p = x.claimed.0 in
          let q = y.claimed.0 in
          let a = call_of past more is worker s p x.claimed.1 x.claimed.2 in
          let b = call_of past more is worker t q y.claimed.1 y.claimed.2 in
          dite (dec_lt p q)
          (λ l. absurd (x.open_still (ended_between past more is worker s t p q a b l y.claimed.1)))
          (λ nl. dite (dec_lt q p)
          (λ l. absurd (y.open_still (ended_between past more is worker t s q p b a l x.claimed.1)))
          (λ nm. let e : p ≡ q = omega (arith, nl, nm) in set_same s t (sym (got past more p (event worker s Claim) x.claimed.1 x.claimed.2) ∙ (ap (slice_get (past ++ more)) e ∙ got past more q (event worker t Claim) y.claimed.1 y.claimed.2))))
        where
          set_same : (u v : List ℕ) → Some (event worker u Claim) ≡ Some (event worker v Claim) → u ≡ v
          set_same u v q = let e : event worker u Claim ≡ event worker v Claim = cc in ap (λ (x : Event). x.set) e

-- ---- so does a worker who is alone
one_of_three : (c d : Event) (rest : List Event) (x : Event) → Contains (c ∷ d ∷ rest) x → (c ≡ x) ⊎ ((d ≡ x) ⊎ Contains rest x)
one_of_three c d rest x (k, l, e) = go k l e
  where
    go : (k : ℕ) → k < length (c ∷ d ∷ rest) → get_or (c ∷ d ∷ rest) k x ≡ x → (c ≡ x) ⊎ ((d ≡ x) ⊎ Contains rest x)
    go zero l e = inl e
    go (suc zero) l e = inr (inl e)
    go (suc (suc k)) l e = inr (inr (k, omega arith, e))

only_one : (c x : Event) → Contains (c ∷ []) x → c ≡ x
only_one c x (k, l, e) = go k l e
  where
    go : (k : ℕ) → k < length (c ∷ []) → get_or (c ∷ []) k x ≡ x → c ≡ x
    go zero l e = e
    go (suc k) l e = absurd (omega arith)

module _ (c d : Event) (rest : List Event) (worker : ℕ) (s : List ℕ) (turn : IsTurn c d) where
  ended_after : Contains (ended_sets rest) s → Contains (ended_sets (c ∷ d ∷ rest)) s
  ended_after h =
      Contains-append_right (if is_claim c.kind then [] else c.set ∷ []) (ended_sets (d ∷ rest)) s
      (Contains-append_right (if is_claim d.kind then [] else d.set ∷ []) (ended_sets rest) s h)

  ended_here : turn.set ≡ s → Contains (ended_sets (c ∷ d ∷ rest)) s
  ended_here e =
      subst (λ (x : Event). Contains (ended_sets (x ∷ d ∷ rest)) s) (sym turn.claim_is)
      (subst (λ (x : Event). Contains (ended_sets (event 1 turn.set Claim ∷ x ∷ rest)) s) (sym turn.done_is) (0, omega arith, e))

  after_turn : MayEnd (c ∷ d ∷ rest) worker s → MayEnd rest worker s
  after_turn m = record { claimed = go (one_of_three c d rest (event worker s Claim) m.claimed); open_still = λ h. m.open_still (ended_after h) }
    where
      go : (c ≡ event worker s Claim) ⊎ ((d ≡ event worker s Claim) ⊎ Contains rest (event worker s Claim)) → Contains rest (event worker s Claim)
      go (inl e) = absurd (m.open_still (ended_here (ap (λ (x : Event). x.set) (sym turn.claim_is ∙ e))))
      go (inr (inl e)) = absurd (true≢false (ap (λ (x : Event). is_claim x.kind) (sym e ∙ turn.done_is)))
      go (inr (inr h)) = h

turns_one : (past more : List Event) → AreTurns (past ++ more) → (worker : ℕ) (s t : List ℕ) → MayEnd past worker s → MayEnd past worker t → s ≡ t
turns_one [] more turns worker s t x y = absurd (nothing x.claimed.0 x.claimed.1)
  where
    nothing : (k : ℕ) → k < 0 → ⊥
    nothing k l = omega arith
turns_one (c ∷ []) more turns worker s t x y = ap (λ (e : Event). e.set) (sym (only_one c (event worker s Claim) x.claimed) ∙ only_one c (event worker t Claim) y.claimed)
turns_one (c ∷ d ∷ rest) more turns worker s t x y = turns_one rest more turns.1 worker s t (after_turn c d rest worker s turns.0 x) (after_turn c d rest worker t turns.0 y)

pub turns_hold_one : (history : List Event) → AreTurns history → HoldOneSet history
turns_hold_one history turns = record { one = λ past more is. turns_one past more (subst AreTurns is turns) }
