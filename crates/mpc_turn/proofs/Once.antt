-- Each event is a call of one pass, once, and each call stands at its position.
use Rattle.std.proofs.Common.{zero, suc, ◌≡◌, ◌≢◌, ℕ, ◌+◌, ◌<◌, ◌≤◌, List, [], ◌∷◌, ◌++◌, length, drop, Bool, true, false, cond, Option, Some, None, refl, sym, ap, ◌∙◌, subst, arith, append_assoc, length-append, eqb, eqb-true, eq-eqb, ne_eqb}
use Rattle.std.specs.Prelude.{slice_get, ◌&&◌, nat_le}
use Rattle.std.specs.List.{All}
use Rattle.std.proofs.lemmas.List.Elements.{All-nil, All-cons}
use Rattle.std.proofs.lemmas.Bool.Decides.{nat_tests}
use mathlib.Core.Logic.{dite}
use native.Mathlib.Decide.{ℕ_discrete}
use Rattle.mpc_claim.specs.declared.events.Event.{Event}
use Rattle.mpc_claim.specs.declared.events.EventKind.{EventKind}
use Rattle.mpc_claim.specs.declared.events.EventKind.TheVariants.{Claim, Done, Drop}
use Rattle.mpc_claim.specs.declared.events.Tag.TheVariants.{Dependent, Unreachable, Hollow, Region, Wide}
use Rattle.mpc_turn.specs.Views.{Call, Starts, weigh, weigh_all, placed}
use Rattle.mpc_turn.specs.Known.{at_place, StandsAt}
use Rattle.mpc_claim.specs.OpenClaims.{same_set}
use Rattle.mpc_turn.proofs.Sums.{drop_whole, same_set_is, same_set-refl}

at_other : (p : ℕ) (c : Call) → c.0 ≢ p → at_place p c ≡ 0
at_other p c ne = rw (ne_eqb c.0 p ne) refl

at_this : (p : ℕ) (c : Call) → c.0 ≡ p → at_place p c ≡ 1
at_this p c e = rw (eq-eqb c.0 p e) refl

placed_none : (p n : ℕ) (xs : List Event) → p < n → weigh (at_place p) (placed n xs) ≡ 0
placed_none p n [] l = refl
placed_none p n (x ∷ xs) l = let h = placed_none p (n + 1) xs (omega arith) in let k = at_other p (n, x) (λ e. omega arith) in omega (arith, h, k)

placed_once : (p n : ℕ) (xs : List Event) → n ≤ p → p < n + length xs → weigh (at_place p) (placed n xs) ≡ 1
placed_once p n [] le lt = absurd (omega arith)
placed_once p n (x ∷ xs) le lt =
    let rest : n ≢ p → weigh (at_place p) (placed (n + 1) xs) ≡ 1 = λ ne. placed_once p (n + 1) xs (omega arith) (omega arith) in
    dite (ℕ_discrete n p)
    (λ e. let h = placed_none p (n + 1) xs (omega arith) in let k = at_this p (n, x) e in omega (arith, h, k))
    (λ ne. let h = rest ne in let k = at_other p (n, x) ne in omega (arith, h, k))

-- with a history that begins with `before`
sliced : (before history : List Event) → Starts history before → history ≡ before ++ drop (length before) history
sliced before history s = s.1 ∙ ap (λ l. before ++ l) (sym (ap (drop (length before)) s.1 ∙ drop_whole before s.0))

pub once : (before history : List Event) (calls : List Call) (ended : List (List Call)) → Starts history before
    → ((f : Call → ℕ) → weigh f calls + weigh_all f ended ≡ weigh f (placed (length before) (drop (length before) history)))
    → (p : ℕ) → length before ≤ p → p < length history → weigh (at_place p) calls + weigh_all (at_place p) ended ≡ 1
once before history calls ended s counted p le lt =
    let l = ap length (sliced before history s) ∙ length-append before (drop (length before) history) in
    counted (at_place p) ∙ placed_once p (length before) (drop (length before) history) le (omega (arith, l))

abbrev kind_code : EventKind → ℕ
kind_code Claim = 0
kind_code Drop = 1
kind_code (Done Dependent) = 2
kind_code (Done Unreachable) = 3
kind_code (Done Hollow) = 4
kind_code (Done Region) = 5
kind_code (Done Wide) = 6

kind_of : ℕ → EventKind
kind_of zero = Claim
kind_of (suc zero) = Drop
kind_of (suc (suc zero)) = Done Dependent
kind_of (suc (suc (suc zero))) = Done Unreachable
kind_of (suc (suc (suc (suc zero)))) = Done Hollow
kind_of (suc (suc (suc (suc (suc zero))))) = Done Region
kind_of (suc (suc (suc (suc (suc (suc n)))))) = Done Wide

coded_back : (k : EventKind) → kind_of (kind_code k) ≡ k
unfolding kind_of
coded_back Claim = refl
coded_back Drop = refl
coded_back (Done Dependent) = refl
coded_back (Done Unreachable) = refl
coded_back (Done Hollow) = refl
coded_back (Done Region) = refl
coded_back (Done Wide) = refl

abbrev same_event : Event → Event → Bool
same_event x e = (eqb x.worker e.worker && same_set x.set e.set) && eqb (kind_code x.kind) (kind_code e.kind)

and_first : (a b : Bool) → (a && b) ≡ true → a ≡ true
and_first true b p = refl
and_first false b p = absurd (cc)

and_second : (a b : Bool) → (a && b) ≡ true → b ≡ true
and_second true b p = p
and_second false b p = absurd (cc)

same_event-is : (x e : Event) → same_event x e ≡ true → x ≡ e
same_event-is x e h =
    let a = and_first (eqb x.worker e.worker && same_set x.set e.set) (eqb (kind_code x.kind) (kind_code e.kind)) h in
    let w = eqb-true x.worker e.worker (and_first (eqb x.worker e.worker) (same_set x.set e.set) a) in
    let n = same_set_is x.set e.set (and_second (eqb x.worker e.worker) (same_set x.set e.set) a) in
    let d = sym (coded_back x.kind) ∙ (ap kind_of (eqb-true (kind_code x.kind) (kind_code e.kind) (and_second (eqb x.worker e.worker && same_set x.set e.set) _ h)) ∙ coded_back e.kind) in
    λ i. record { worker = w i; set = n i; kind = d i }

same_event-refl : (e : Event) → same_event e e ≡ true
same_event-refl e = rw (eq-eqb e.worker e.worker refl, same_set-refl e.set, eq-eqb (kind_code e.kind) (kind_code e.kind) refl) refl

abbrev is_some : Option Event → Event → Bool
is_some None e = false
is_some (Some x) e = same_event x e

-- 1 for a call that doesn't stand there
abbrev astray : List Event → ℕ → Call → ℕ
astray history k c = cond (nat_le k c.0 && is_some (slice_get history c.0) c.1) 0 1

some_is : (o : Option Event) (e : Event) → is_some o e ≡ true → o ≡ Some e
some_is None e h = absurd (cc)
some_is (Some x) e h = ap Some (same_event-is x e h)

abbrev unless : Bool → ℕ
unless b = cond b 0 1

zero_true : (b : Bool) → unless b ≡ 0 → b ≡ true
zero_true true e = refl
zero_true false e = absurd (omega arith)

stands : (history : List Event) (k : ℕ) (c : Call) → astray history k c ≡ 0 → StandsAt history k c
stands history k c z =
    let b = zero_true (nat_le k c.0 && is_some (slice_get history c.0) c.1) z in
    let l : nat_le k c.0 ≡ true = and_first (nat_le k c.0) _ b in
    (grind (arith, nat_tests), some_is (slice_get history c.0) c.1 (and_second (nat_le k c.0) _ b))

get_there : (front back : List Event) (x : Event) → slice_get (front ++ x ∷ back) (length front) ≡ Some x
get_there [] back x = refl
get_there (y ∷ ys) back x = get_there ys back x

placed_stand : (k : ℕ) (front xs : List Event) → k ≤ length front → weigh (astray (front ++ xs) k) (placed (length front) xs) ≡ 0
placed_stand k front [] le = refl
placed_stand k front (x ∷ xs) le =
    let here : slice_get (front ++ x ∷ xs) (length front) ≡ Some x = get_there front xs x in
    let l : nat_le k (length front) ≡ true = grind (arith, nat_tests) in
    let a : astray (front ++ x ∷ xs) k (length front, x) ≡ 0 = rw (l, here, same_event-refl x) refl in
    let n : length (front ++ x ∷ []) ≡ length front + 1 = length-append front (x ∷ []) in
    let r = placed_stand k (front ++ x ∷ []) xs (omega (arith, n)) in
    let r' : weigh (astray (front ++ x ∷ xs) k) (placed (length front + 1) xs) ≡ 0 = subst (λ (z : List Event × ℕ). weigh (astray z.0 k) (placed z.1 xs) ≡ 0) (λ i. (append_assoc front (x ∷ []) xs i, n i)) r in
    omega (arith, a, r')

each_stands : (history : List Event) (k : ℕ) (cs : List Call) → weigh (astray history k) cs ≡ 0 → All (StandsAt history k) cs
each_stands history k [] z = All-nil (StandsAt history k)
each_stands history k (c ∷ cs) z = All-cons (StandsAt history k) c cs (stands history k c (omega arith)) (each_stands history k cs (omega arith))

all_each : (history : List Event) (k : ℕ) (cs : List (List Call)) → weigh_all (astray history k) cs ≡ 0 → All (All (StandsAt history k)) cs
all_each history k [] z = All-nil (All (StandsAt history k))
all_each history k (c ∷ cs) z = All-cons (All (StandsAt history k)) c cs (each_stands history k c (omega arith)) (all_each history k cs (omega arith))

pub all_stand : (before history : List Event) (calls : List Call) (ended : List (List Call)) → Starts history before
    → ((f : Call → ℕ) → weigh f calls + weigh_all f ended ≡ weigh f (placed (length before) (drop (length before) history)))
    → All (StandsAt history (length before)) calls × All (All (StandsAt history (length before))) ended
all_stand before history calls ended s counted =
    let k = length before in
    let z : weigh (astray history k) (placed k (drop k history)) ≡ 0 = subst (λ (h : List Event). weigh (astray h k) (placed k (drop k history)) ≡ 0) (sym (sliced before history s)) (placed_stand k before (drop k history) (omega arith)) in
    let c = counted (astray history k) in
    (each_stands history k calls (omega (arith, z, c)), all_each history k ended (omega (arith, z, c)))
