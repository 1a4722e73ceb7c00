-- Sums over lists.
use Rattle.std.proofs.Common.{◌≡◌, ◌≢◌, ℕ, zero, suc, ◌+◌, ◌≤◌, List, [], ◌∷◌, ◌++◌, map, length, set, drop, Bool, true, false, cond, refl, sym, ap, ◌∙◌, subst, arith, append_assoc, eqb, eqb-true, eq-eqb}
use Rattle.std.specs.Prelude.{◌&&◌}
use mathlib.Core.List.{map-append}
use mathlib.Core.Option.{some, some-injective, some-ne-none}
use lib.ListN.{get_elem?}
use Rattle.mpc_claim.specs.declared.events.Event.{Event}
use Rattle.mpc_claim.specs.OpenClaims.{Held, same_set, same, has, without, opened, open_after, open_of}
use Rattle.mpc_turn.specs.Views.{Call, weigh, weigh_all, placed, hand_of, Starts}

module _ {A : Type 0} (f : A → ℕ) where
  pub weigh-append : (xs ys : List A) → weigh f (xs ++ ys) ≡ weigh f xs + weigh f ys
  weigh-append [] ys = omega arith
  weigh-append (x ∷ xs) ys = let h = weigh-append xs ys in omega (arith, h)

  pub weigh_all-append : (xs ys : List (List A)) → weigh_all f (xs ++ ys) ≡ weigh_all f xs + weigh_all f ys
  weigh_all-append [] ys = omega arith
  weigh_all-append (x ∷ xs) ys = let h = weigh_all-append xs ys in omega (arith, h)

  pub weigh-set : (xs : List A) (i : ℕ) (a b : A) → get_elem? xs i ≡ some a → weigh f (set xs i b) + f a ≡ weigh f xs + f b
  weigh-set [] i a b e = absurd (some-ne-none a (sym e))
  weigh-set (x ∷ xs) zero a b e = let h : f x ≡ f a = ap f (some-injective x a e) in omega (arith, h)
  weigh-set (x ∷ xs) (suc i) a b e = let h = weigh-set xs i a b e in omega (arith, h)

  pub weigh-same : (xs : List A) (i : ℕ) (a b : A) → get_elem? xs i ≡ some a → f b ≡ f a → weigh f (set xs i b) ≡ weigh f xs
  weigh-same xs i a b e h = let s = weigh-set xs i a b e in omega (arith, s, h)

  pub weigh_at : (xs : List A) (i : ℕ) (a : A) → get_elem? xs i ≡ some a → f a ≤ weigh f xs
  weigh_at [] i a e = absurd (some-ne-none a (sym e))
  weigh_at (x ∷ xs) zero a e = let h : f x ≡ f a = ap f (some-injective x a e) in omega (arith, h)
  weigh_at (x ∷ xs) (suc i) a e = let h = weigh_at xs i a e in omega (arith, h)

  pub weigh_two : (xs : List A) (i j : ℕ) (a b : A) → get_elem? xs i ≡ some a → get_elem? xs j ≡ some b → i ≢ j → f a + f b ≤ weigh f xs
  weigh_two [] i j a b p q n = absurd (some-ne-none a (sym p))
  weigh_two (x ∷ xs) zero zero a b p q n = absurd (n refl)
  weigh_two (x ∷ xs) zero (suc j) a b p q n = let h : f x ≡ f a = ap f (some-injective x a p) in let k = weigh_at xs j b q in omega (arith, h, k)
  weigh_two (x ∷ xs) (suc i) zero a b p q n = let h : f x ≡ f b = ap f (some-injective x b q) in let k = weigh_at xs i a p in omega (arith, h, k)
  weigh_two (x ∷ xs) (suc i) (suc j) a b p q n = let h = weigh_two xs i j a b p q (λ e. n (ap suc e)) in omega (arith, h)

  -- a sum in which each term is 0
  pub weigh_none : (xs : List A) → ((j : ℕ) (b : A) → get_elem? xs j ≡ some b → f b ≡ 0) → weigh f xs ≡ 0
  weigh_none [] z = refl
  weigh_none (x ∷ xs) z = let h = weigh_none xs (λ j b e. z (suc j) b e) in let k = z 0 x refl in omega (arith, h, k)

  -- a sum with one term
  pub weigh_only : (xs : List A) (i : ℕ) (a : A) → get_elem? xs i ≡ some a → ((j : ℕ) (b : A) → get_elem? xs j ≡ some b → j ≢ i → f b ≡ 0) → weigh f xs ≡ f a
  weigh_only [] i a e z = absurd (some-ne-none a (sym e))
  weigh_only (x ∷ xs) zero a e z = let h : f x ≡ f a = ap f (some-injective x a e) in let k = weigh_none xs (λ j b q. z (suc j) b q (λ p. omega arith)) in omega (arith, h, k)
  weigh_only (x ∷ xs) (suc i) a e z = let k = z 0 x refl (λ p. omega arith) in let h = weigh_only xs i a e (λ j b q n. z (suc j) b q (λ p. n (omega arith))) in omega (arith, h, k)

module _ {A : Type 0} (f g : A → ℕ) where
  pub weigh_le : (xs : List A) → ((j : ℕ) (b : A) → get_elem? xs j ≡ some b → f b ≤ g b) → weigh f xs ≤ weigh g xs
  weigh_le [] h = omega arith
  weigh_le (x ∷ xs) h = let k = weigh_le xs (λ j b e. h (suc j) b e) in let l = h 0 x refl in omega (arith, k, l)

-- tickets
abbrev pub is : Held → Held → ℕ
is t x = cond (same t x) 1 0

pub and_first : (p q : Bool) → (p && q) ≡ true → p ≡ true
and_first true q h = refl
and_first false q h = absurd (cc)

and_second : (p q : Bool) → (p && q) ≡ true → q ≡ true
and_second true q h = h
and_second false q h = absurd (cc)

pub same_set_is : (s t : List ℕ) → same_set s t ≡ true → s ≡ t
same_set_is [] [] e = refl
same_set_is [] (j ∷ t) e = absurd (cc)
same_set_is (i ∷ s) [] e = absurd (cc)
same_set_is (i ∷ s) (j ∷ t) e =
    let p = eqb-true i j (and_first (eqb i j) (same_set s t) e) in
    let q = same_set_is s t (and_second (eqb i j) (same_set s t) e) in
    λ k. p k ∷ q k

pub same_set-refl : (s : List ℕ) → same_set s s ≡ true
same_set-refl [] = refl
same_set-refl (i ∷ s) = rw (eq-eqb i i refl) (same_set-refl s)

pub same_is : (t x : Held) → same t x ≡ true → t ≡ x
same_is t x e =
    let p = eqb-true t.0 x.0 (and_first (eqb t.0 x.0) (same_set t.1 x.1) e) in
    let q = same_set_is t.1 x.1 (and_second (eqb t.0 x.0) (same_set t.1 x.1) e) in
    λ k. (p k, q k)

has_weighs_go : (t x : Held) (xs : List Held) (b : Bool) → same t x ≡ b → (has t xs ≡ true → 1 ≤ weigh (is t) xs) → has t (x ∷ xs) ≡ true → 1 ≤ weigh (is t) (x ∷ xs)
has_weighs_go t x xs true e r h = rw e (omega arith)
has_weighs_go t x xs false e r h = let h' : has t xs ≡ true = rw e at h in let k = r h' in rw e (omega (arith, k))

pub has_weighs : (t : Held) (xs : List Held) → has t xs ≡ true → 1 ≤ weigh (is t) xs
has_weighs t [] h = absurd (cc)
has_weighs t (x ∷ xs) h = has_weighs_go t x xs (same t x) refl (has_weighs t xs) h

weighs_has_go : (t x : Held) (xs : List Held) (b : Bool) → same t x ≡ b → (1 ≤ weigh (is t) xs → has t xs ≡ true) → 1 ≤ weigh (is t) (x ∷ xs) → has t (x ∷ xs) ≡ true
weighs_has_go t x xs true e r h = rw e refl
weighs_has_go t x xs false e r h = let h' : 1 ≤ cond false 1 0 + weigh (is t) xs = subst (λ (c : Bool). 1 ≤ cond c 1 0 + weigh (is t) xs) e h in rw e (r (omega arith))

pub weighs_has : (t : Held) (xs : List Held) → 1 ≤ weigh (is t) xs → has t xs ≡ true
weighs_has t [] h = absurd (omega arith)
weighs_has t (x ∷ xs) h = weighs_has_go t x xs (same t x) refl (weighs_has t xs) h

weigh-without_go : (f : Held → ℕ) (t x : Held) (xs : List Held) (b : Bool) → same t x ≡ b → (has t xs ≡ true → weigh f (without t xs) + f t ≡ weigh f xs) → has t (x ∷ xs) ≡ true → weigh f (without t (x ∷ xs)) + f t ≡ weigh f (x ∷ xs)
weigh-without_go f t x xs true e r h = let k : f t ≡ f x = ap f (same_is t x e) in rw e (omega (arith, k))
weigh-without_go f t x xs false e r h = let h' : has t xs ≡ true = rw e at h in let k = r h' in rw e (omega (arith, k))

pub weigh-without : (f : Held → ℕ) (t : Held) (xs : List Held) → has t xs ≡ true → weigh f (without t xs) + f t ≡ weigh f xs
weigh-without f t [] h = absurd (cc)
weigh-without f t (x ∷ xs) h = weigh-without_go f t x xs (same t x) refl (weigh-without f t xs) h

-- events with their places
pub open_after-append : (held : List Held) (xs ys : List Event) → open_after held (xs ++ ys) ≡ open_after (open_after held xs) ys
open_after-append held [] ys = refl
open_after-append held (x ∷ xs) ys = open_after-append (opened held x) xs ys

placed_events : (k : ℕ) (es : List Event) → map (λ (c : Call). c.1) (placed k es) ≡ es
placed_events k [] = refl
placed_events k (e ∷ es) = ap (λ l. e ∷ l) (placed_events (k + 1) es)

pub hand_of-append : (cs : List Call) (k : ℕ) (es : List Event) → hand_of (cs ++ placed k es) ≡ open_after (hand_of cs) es
hand_of-append cs k es =
    ap open_of (map-append (λ (c : Call). c.1) cs (placed k es) ∙ ap (λ l. map (λ (c : Call). c.1) cs ++ l) (placed_events k es)) ∙ open_after-append [] (map (λ (c : Call). c.1) cs) es

pub placed-append : (k : ℕ) (xs ys : List Event) → placed k (xs ++ ys) ≡ placed k xs ++ placed (k + length xs) ys
placed-append k [] ys = let h : k ≡ k + 0 = omega arith in ap (λ (n : ℕ). placed n ys) h
placed-append k (x ∷ xs) ys = let n : (k + 1) + length xs ≡ k + suc (length xs) = omega arith in
    ap (λ l. (k, x) ∷ l) (placed-append (k + 1) xs ys ∙ ap (λ (m : ℕ). placed (k + 1) xs ++ placed m ys) n)

pub drop_whole : (xs ys : List Event) → drop (length xs) (xs ++ ys) ≡ ys
drop_whole [] ys = refl
drop_whole (x ∷ xs) ys = drop_whole xs ys

pub append-nil : {A : Type 0} (xs : List A) → xs ++ [] ≡ xs
append-nil [] = refl
append-nil (x ∷ xs) = ap (λ l. x ∷ l) (append-nil xs)

pub starts_on : (xs ys zs : List Event) → Starts xs ys → Starts ys zs → Starts xs zs
starts_on xs ys zs s t = (t.0 ++ s.0, s.1 ∙ (ap (λ l. l ++ s.0) t.1 ∙ append_assoc zs t.0 s.0))
