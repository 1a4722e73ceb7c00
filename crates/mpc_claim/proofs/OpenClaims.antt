-- The list of open claims.
use Rattle.std.proofs.Common.{◌≡◌, ◌≢◌, ◌⊎◌, ℕ, zero, suc, ◌+◌, ◌<◌, ◌≤◌, List, [], ◌∷◌, ◌++◌, Bool, true, false, cond, length, get_or, Contains, refl, sym, ap, ◌∙◌, subst, inl, inr, arith, eqb, eqb-true, eq-eqb}
use Rattle.std.specs.Prelude.{◌&&◌, ◌||◌, if◌then◌else◌}
use Rattle.std.proofs.lemmas.List.{append_assoc, append-nil}
use Rattle.std.proofs.lemmas.List.Elements.{Contains-append_left, Contains-push, Contains-push_cases}
use Rattle.mpc_rows.specs.declared.programs.Qp.{Qp}
use Rattle.mpc_claim.specs.declared.events.Event.{Event}
use Rattle.mpc_claim.specs.declared.events.EventKind.{EventKind}
use Rattle.mpc_claim.specs.declared.events.EventKind.TheVariants.{Claim, Done, Drop}
use Rattle.mpc_claim.specs.Board.{event}
use Rattle.mpc_claim.specs.History.{is_claim, claimed_sets, ended_sets, MayEnd, MayFollow, IsLegalAfter, IsLegal}
use Rattle.mpc_claim.specs.OpenClaims.{Held, same_set, same, has, without, opened, open_after, open_of}
use Rattle.mpc_claim.specs.HistoryTheorems.{OpenListTheorems}
use Rattle.mpc_claim.proofs.Histories.{claimed-claim, claimed-end, ended-claim, ended-end, IsLegal-push, legal_nothing, ended_was_claimed}

-- ---- equal pairs
and_first : (a b : Bool) → (a && b) ≡ true → a ≡ true
and_first true b p = refl
and_first false b p = absurd (cc)

and_second : (a b : Bool) → (a && b) ≡ true → b ≡ true
and_second true b p = p
and_second false b p = absurd (cc)

and_both : (a b : Bool) → a ≡ true → b ≡ true → (a && b) ≡ true
and_both true b p q = q
and_both false b p q = absurd (cc)

or_cases : (a b : Bool) → (a || b) ≡ true → (a ≡ true) ⊎ (b ≡ true)
or_cases true b e = inl refl
or_cases false b e = inr e

or_left : (a b : Bool) → a ≡ true → (a || b) ≡ true
or_left true b e = refl
or_left false b e = absurd (cc)

or_right : (a b : Bool) → b ≡ true → (a || b) ≡ true
or_right true b e = refl
or_right false b e = e

same_set_true : (s t : List ℕ) → same_set s t ≡ true → s ≡ t
same_set_true [] [] e = refl
same_set_true [] (j ∷ t) e = absurd (cc)
same_set_true (i ∷ s) [] e = absurd (cc)
same_set_true (i ∷ s) (j ∷ t) e =
    let p = eqb-true i j (and_first (eqb i j) (same_set s t) e) in
    let q = same_set_true s t (and_second (eqb i j) (same_set s t) e) in
    λ k. p k ∷ q k

same_set-refl : (s : List ℕ) → same_set s s ≡ true
same_set-refl [] = refl
same_set-refl (i ∷ s) = and_both (eqb i i) (same_set s s) (eq-eqb i i refl) (same_set-refl s)

same_true : (a b : Held) → same a b ≡ true → a ≡ b
same_true a b e =
    let p = eqb-true a.0 b.0 (and_first (eqb a.0 b.0) (same_set a.1 b.1) e) in
    let q = same_set_true a.1 b.1 (and_second (eqb a.0 b.0) (same_set a.1 b.1) e) in
    λ k. (p k, q k)

same-refl : (a : Held) → same a a ≡ true
same-refl a = and_both (eqb a.0 a.0) (same_set a.1 a.1) (eq-eqb a.0 a.0 refl) (same_set-refl a.1)

-- ---- what a list of pairs has
has-front : (h x : Held) (xs : List Held) → has h xs ≡ true → has h (xs ++ x ∷ []) ≡ true
has-front h x [] e = absurd (cc)
has-front h x (y ∷ ys) e = elim (or_cases (same h y) (has h ys) e) [ inl p ↦ or_left (same h y) (has h (ys ++ x ∷ [])) p | inr q ↦ or_right (same h y) (has h (ys ++ x ∷ [])) (has-front h x ys q) ]

has-last : (h : Held) (xs : List Held) → has h (xs ++ h ∷ []) ≡ true
has-last h [] = or_left (same h h) false (same-refl h)
has-last h (y ∷ ys) = or_right (same h y) (has h (ys ++ h ∷ [])) (has-last h ys)

has-snoc : (h x : Held) (xs : List Held) → has h (xs ++ x ∷ []) ≡ true → (has h xs ≡ true) ⊎ (h ≡ x)
has-snoc h x [] e = elim (or_cases (same h x) false e) [ inl p ↦ inr (same_true h x p) | inr q ↦ absurd (cc) ]
has-snoc h x (y ∷ ys) e = elim (or_cases (same h y) (has h (ys ++ x ∷ [])) e) [
  | inl p ↦ inl (or_left (same h y) (has h ys) p)
  | inr q ↦ elim (has-snoc h x ys q) [ inl a ↦ inl (or_right (same h y) (has h ys) a) | inr b ↦ inr b ]
]

has-without : (h x : Held) (xs : List Held) → has h (without x xs) ≡ true → has h xs ≡ true
has-without h x [] e = e
has-without h x (y ∷ ys) e = go (same x y) (has-without h x ys) e
  where
    go : (b : Bool) → (has h (without x ys) ≡ true → has h ys ≡ true) → has h (if b then ys else y ∷ without x ys) ≡ true → has h (y ∷ ys) ≡ true
    go true r f = or_right (same h y) (has h ys) f
    go false r f = elim (or_cases (same h y) (has h (without x ys)) f) [ inl p ↦ or_left (same h y) (has h ys) p | inr q ↦ or_right (same h y) (has h ys) (r q) ]

-- another set stays
has-still : (h x : Held) (xs : List Held) → h.1 ≢ x.1 → has h xs ≡ true → has h (without x xs) ≡ true
has-still h x [] ne e = e
has-still h x (y ∷ ys) ne e = go (same x y) refl (has-still h x ys ne)
  where
    go : (b : Bool) → same x y ≡ b → (has h ys ≡ true → has h (without x ys) ≡ true) → has h (if b then ys else y ∷ without x ys) ≡ true
    go true f r = elim (or_cases (same h y) (has h ys) e) [
      | inl p ↦ absurd (ne (ap (λ (z : Held). z.1) (same_true h y p) ∙ sym (ap (λ (z : Held). z.1) (same_true x y f))))
      | inr q ↦ q
    ]
    go false f r = elim (or_cases (same h y) (has h ys) e) [ inl p ↦ or_left (same h y) (has h (without x ys)) p | inr q ↦ or_right (same h y) (has h (without x ys)) (r q) ]

-- ---- how often a set is held
abbrev mark : List ℕ → Held → ℕ
mark s x = cond (same_set s x.1) 1 0

abbrev count : List ℕ → List Held → ℕ
count s [] = 0
count s (x ∷ xs) = mark s x + count s xs

count-snoc : (s : List ℕ) (x : Held) (xs : List Held) → count s (xs ++ x ∷ []) ≡ count s xs + mark s x
count-snoc s x [] = omega arith
count-snoc s x (y ∷ ys) = let h = count-snoc s x ys in omega (arith, h)

count-without : (s : List ℕ) (x : Held) (xs : List Held) → has x xs ≡ true → count s (without x xs) + mark s x ≡ count s xs
count-without s x [] e = absurd (cc)
count-without s x (y ∷ ys) e = go (same x y) refl (count-without s x ys)
  where
    go : (b : Bool) → same x y ≡ b → (has x ys ≡ true → count s (without x ys) + mark s x ≡ count s ys) → count s (if b then ys else y ∷ without x ys) + mark s x ≡ count s (y ∷ ys)
    go true f r = let k : mark s x ≡ mark s y = ap (mark s) (same_true x y f) in omega (arith, k)
    go false f r = elim (or_cases (same x y) (has x ys) e) [
      | inl p ↦ absurd (let p' : same x y ≡ true = p in cc)
      | inr q ↦ let k = r q in omega (arith, k)
    ]

has_counts : (h : Held) (xs : List Held) → has h xs ≡ true → 1 ≤ count h.1 xs
has_counts h [] e = absurd (cc)
has_counts h (y ∷ ys) e = elim (or_cases (same h y) (has h ys) e) [
  | inl p ↦
      let one : mark h.1 y ≡ 1 = ap (λ (b : Bool). cond b 1 0) (and_second (eqb h.0 y.0) (same_set h.1 y.1) p) in
      omega (arith, one)
  | inr q ↦ let r = has_counts h ys q in omega (arith, r)
]

one_of : (s : List ℕ) (x : Held) → s ≡ x.1 → mark s x ≡ 1
one_of s x e = ap (λ (b : Bool). cond b 1 0) (ap (λ t. same_set s t) (sym e) ∙ same_set-refl s)

some_of : (b : Bool) → 1 ≤ cond b 1 0 → b ≡ true
some_of true p = refl
some_of false p = absurd (omega arith)

-- ---- one event more
open_after-snoc : (held : List Held) (es : List Event) (e : Event) → open_after held (es ++ e ∷ []) ≡ opened (open_after held es) e
open_after-snoc held [] e = refl
open_after-snoc held (x ∷ es) e = open_after-snoc (opened held x) es e

more : (past : List Event) (e : Event) → open_of (past ++ e ∷ []) ≡ opened (open_of past) e
more past e = open_after-snoc [] past e

-- ---- what is claimed and not ended is listed
module _ (w : ℕ) (s : List ℕ) where
  listed : (held : List Held) (es : List Event) → (has (w, s) held ≡ true) ⊎ Contains es (event w s Claim) → ¬ Contains (ended_sets es) s → has (w, s) (open_after held es) ≡ true
  listed held [] (inl h) open_still = h
  listed held [] (inr (i, p, e)) open_still = absurd (omega arith)
  listed held (x ∷ es) c open_still = go (λ l d o. listed l es d o) x.kind refl open_still
    where
      later : (i : ℕ) → i < length (x ∷ es) → get_or (x ∷ es) i (event w s Claim) ≡ event w s Claim → (x ≡ event w s Claim) ⊎ Contains es (event w s Claim)
      later zero p e = inl e
      later (suc i) p e = inr (i, omega arith, e)

      claimed_next : (held : List Held) (e : Event) → (has (w, s) held ≡ true) ⊎ (e ≡ event w s Claim) → has (w, s) (held ++ (e.worker, e.set) ∷ []) ≡ true
      claimed_next held e (inl h) = has-front (w, s) (e.worker, e.set) held h
      claimed_next held e (inr same) = subst (λ (d : Event). has (w, s) (held ++ (d.worker, d.set) ∷ []) ≡ true) (sym same) (has-last (w, s) held)

      cases : (x ≡ event w s Claim) ⊎ Contains es (event w s Claim) → ((has (w, s) held ≡ true) ⊎ (x ≡ event w s Claim)) ⊎ Contains es (event w s Claim)
      cases (inl e) = inl (inr e)
      cases (inr d) = inr d

      split : ((has (w, s) held ≡ true) ⊎ Contains (x ∷ es) (event w s Claim)) → ((has (w, s) held ≡ true) ⊎ (x ≡ event w s Claim)) ⊎ Contains es (event w s Claim)
      split (inl h) = inl (inl h)
      split (inr (i, p, e)) = cases (later i p e)

      at_claim : ((l : List Held) → (has (w, s) l ≡ true) ⊎ Contains es (event w s Claim) → ¬ Contains (ended_sets es) s → has (w, s) (open_after l es) ≡ true) → is_claim x.kind ≡ true → ¬ Contains (ended_sets es) s → ((has (w, s) held ≡ true) ⊎ (x ≡ event w s Claim)) ⊎ Contains es (event w s Claim) → has (w, s) (open_after (held ++ (x.worker, x.set) ∷ []) es) ≡ true
      at_claim r k o (inl d) = r (held ++ (x.worker, x.set) ∷ []) (inl (claimed_next held x d)) o
      at_claim r k o (inr d) = r (held ++ (x.worker, x.set) ∷ []) (inr d) o

      at_end : ((l : List Held) → (has (w, s) l ≡ true) ⊎ Contains es (event w s Claim) → ¬ Contains (ended_sets es) s → has (w, s) (open_after l es) ≡ true) → is_claim x.kind ≡ false → s ≢ x.set → ¬ Contains (ended_sets es) s → ((has (w, s) held ≡ true) ⊎ (x ≡ event w s Claim)) ⊎ Contains es (event w s Claim) → has (w, s) (open_after (without (x.worker, x.set) held) es) ≡ true
      at_end r k ne o (inl (inl h)) = r (without (x.worker, x.set) held) (inl (has-still (w, s) (x.worker, x.set) held ne h)) o
      at_end r k ne o (inl (inr same)) = let t : is_claim x.kind ≡ true = ap (λ (d : Event). is_claim d.kind) same in absurd (cc)
      at_end r k ne o (inr d) = r (without (x.worker, x.set) held) (inr d) o

      tail_open : (t : List ℕ) → ¬ Contains (t ∷ ended_sets es) s → ¬ Contains (ended_sets es) s
      tail_open t o = λ d. let (i, p, e) = d in o (suc i, omega arith, e)

      other : (t : List ℕ) → ¬ Contains (t ∷ ended_sets es) s → s ≢ t
      other t o = λ e. o (0, omega arith, sym e)

      go : ((l : List Held) → (has (w, s) l ≡ true) ⊎ Contains es (event w s Claim) → ¬ Contains (ended_sets es) s → has (w, s) (open_after l es) ≡ true) → (kind : EventKind) → x.kind ≡ kind → ¬ Contains ((if is_claim kind then [] else x.set ∷ []) ++ ended_sets es) s → has (w, s) (open_after (if is_claim kind then held ++ (x.worker, x.set) ∷ [] else without (x.worker, x.set) held) es) ≡ true
      go r Claim k o = at_claim r (ap is_claim k) o (split c)
      go r (Done tag) k o = at_end r (ap is_claim k) (other x.set o) (tail_open x.set o) (split c)
      go r Drop k o = at_end r (ap is_claim k) (other x.set o) (tail_open x.set o) (split c)

has_open : (past : List Event) (w : ℕ) (s : List ℕ) → MayEnd past w s → has (w, s) (open_of past) ≡ true
has_open past w s m = listed w s [] past (inr m.claimed) m.open_still

-- ---- what is listed is claimed and not ended
record Agrees (qp : Qp) (past : List Event) : Type 0 where
  legal : IsLegal qp past
  ends : (h : Held) → has h (open_of past) ≡ true → MayEnd past h.0 h.1
  one : (s : List ℕ) → count s (open_of past) ≤ 1
  claimed : (s : List ℕ) → 1 ≤ count s (open_of past) → Contains (claimed_sets past) s

after_claim : (qp : Qp) (past : List Event) (w : ℕ) (s : List ℕ) → Agrees qp past → MayFollow qp past w s Claim → Agrees qp (past ++ event w s Claim ∷ [])
after_claim qp past w s a m = record {
  legal = IsLegal-push qp past (event w s Claim) a.legal m;
  ends = λ h e. by h (has-snoc h (w, s) (open_of past) (subst (λ l. has h l ≡ true) (more past (event w s Claim)) e));
  one = λ t. let k = counted t in let l = a.one t in single t k l (same_set t s) refl;
  claimed = λ t p.
      subst (λ u. Contains u t) (sym (claimed-claim past w s))
      (named t (same_set t s) refl (subst (λ n. 1 ≤ n) (counted t) p));
}
  where
    counted : (t : List ℕ) → count t (open_of (past ++ event w s Claim ∷ [])) ≡ count t (open_of past) + mark t (w, s)
    counted t = ap (count t) (more past (event w s Claim)) ∙ count-snoc t (w, s) (open_of past)

    none : (t : List ℕ) → t ≡ s → 1 ≤ count t (open_of past) → ⊥
    none t e p = m.fresh (subst (Contains (claimed_sets past)) e (a.claimed t p))

    single : (t : List ℕ) → count t (open_of (past ++ event w s Claim ∷ [])) ≡ count t (open_of past) + mark t (w, s) → count t (open_of past) ≤ 1 → (b : Bool) → same_set t s ≡ b → count t (open_of (past ++ event w s Claim ∷ [])) ≤ 1
    single t k l true e =
        let one : mark t (w, s) ≡ 1 = ap (λ (b : Bool). cond b 1 0) e in
        zero_or (count t (open_of past)) refl (omega (arith, k, one))
      where
        zero_or : (n : ℕ) → count t (open_of past) ≡ n → count t (open_of (past ++ event w s Claim ∷ [])) ≡ count t (open_of past) + 1 → count t (open_of (past ++ event w s Claim ∷ [])) ≤ 1
        zero_or zero z q = omega (arith, z, q)
        zero_or (suc n) z q = absurd (none t (same_set_true t s e) (omega (arith, z)))
    single t k l false e = let no : mark t (w, s) ≡ 0 = ap (λ (b : Bool). cond b 1 0) e in omega (arith, k, no, l)

    named : (t : List ℕ) (b : Bool) → same_set t s ≡ b → 1 ≤ count t (open_of past) + mark t (w, s) → Contains (claimed_sets past ++ s ∷ []) t
    named t true e p = subst (Contains (claimed_sets past ++ s ∷ [])) (sym (same_set_true t s e)) (Contains-push (claimed_sets past) s)
    named t false e p = let no : mark t (w, s) ≡ 0 = ap (λ (b : Bool). cond b 1 0) e in Contains-append_left (claimed_sets past) (s ∷ []) t (a.claimed t (omega (arith, no, p)))

    by : (h : Held) → (has h (open_of past) ≡ true) ⊎ (h ≡ (w, s)) → MayEnd (past ++ event w s Claim ∷ []) h.0 h.1
    by h (inl old) = record {
      claimed = Contains-append_left past (event w s Claim ∷ []) (event h.0 h.1 Claim) (a.ends h old).claimed;
      open_still = λ c. (a.ends h old).open_still (subst (λ u. Contains u h.1) (ended-claim past w s) c);
    }
    by h (inr new) = subst (λ (x : Held). MayEnd (past ++ event w s Claim ∷ []) x.0 x.1) (sym new) (record {
      claimed = Contains-push past (event w s Claim);
      open_still = λ c. m.fresh (ended_was_claimed qp past s a.legal (subst (λ u. Contains u s) (ended-claim past w s) c));
    })

after_end : (qp : Qp) (past : List Event) (w : ℕ) (s : List ℕ) (kind : EventKind) → is_claim kind ≡ false → opened (open_of past) (event w s kind) ≡ without (w, s) (open_of past) → MayEnd past w s → Agrees qp past → MayFollow qp past w s kind → Agrees qp (past ++ event w s kind ∷ [])
after_end qp past w s kind ends opens m a may = record {
  legal = IsLegal-push qp past (event w s kind) a.legal may;
  ends = λ h e.
      let left : has h (without (w, s) (open_of past)) ≡ true = subst (λ l. has h l ≡ true) list_is e in
      let old = a.ends h (has-without h (w, s) (open_of past) left) in
      let some = has_counts h (without (w, s) (open_of past)) left in
      record {
        claimed = Contains-append_left past (event w s kind ∷ []) (event h.0 h.1 Claim) old.claimed;
        open_still = λ c. elim (Contains-push_cases (ended_sets past) s h.1 (subst (λ u. Contains u h.1) (ended-end past w s kind ends) c)) [
          | inl d ↦ old.open_still d
          | inr same ↦ gone h same some
        ];
      };
  one = λ t. let k = counted t in let l = a.one t in omega (arith, k, l);
  claimed = λ t p. subst (λ u. Contains u t) (sym (claimed-end past w s kind ends)) (a.claimed t (let k = counted t in omega (arith, k, p)));
}
  where
    list_is : open_of (past ++ event w s kind ∷ []) ≡ without (w, s) (open_of past)
    list_is = more past (event w s kind) ∙ opens

    taken : (t : List ℕ) → count t (without (w, s) (open_of past)) + mark t (w, s) ≡ count t (open_of past)
    taken t = count-without t (w, s) (open_of past) (has_open past w s m)

    counted : (t : List ℕ) → count t (open_of (past ++ event w s kind ∷ [])) + mark t (w, s) ≡ count t (open_of past)
    counted t = ap (λ l. count t l + mark t (w, s)) list_is ∙ taken t

    gone : (h : Held) → s ≡ h.1 → 1 ≤ count h.1 (without (w, s) (open_of past)) → ⊥
    gone h same some =
        let one = a.one h.1 in
        let full = one_of h.1 (w, s) (sym same) in
        let k = taken h.1 in
        omega (arith, one, full, k, some)

after : (qp : Qp) (past : List Event) (e : Event) → Agrees qp past → MayFollow qp past e.worker e.set e.kind → Agrees qp (past ++ e ∷ [])
after qp past e a m = go e.kind m
  where
    go : (kind : EventKind) → MayFollow qp past e.worker e.set kind → Agrees qp (past ++ event e.worker e.set kind ∷ [])
    go Claim n = after_claim qp past e.worker e.set a n
    go (Done tag) n = after_end qp past e.worker e.set (Done tag) refl refl n.0 a n
    go Drop n = after_end qp past e.worker e.set Drop refl refl n a n

agrees_after : (qp : Qp) (past es : List Event) → Agrees qp past → IsLegalAfter qp past es → Agrees qp (past ++ es)
agrees_after qp past [] a l = subst (Agrees qp) (sym (append-nil past)) a
agrees_after qp past (e ∷ es) a l = subst (Agrees qp) (append_assoc past (e ∷ []) es) (agrees_after qp (past ++ e ∷ []) es (after qp past e a l.0) l.1)

agrees : (qp : Qp) (past : List Event) → IsLegal qp past → Agrees qp past
unfolding IsLegal
agrees qp past l = agrees_after qp [] past (record {
  legal = legal_nothing qp;
  ends = λ h e. absurd (cc);
  one = λ s. omega arith;
  claimed = λ s p. absurd (omega arith);
}) l

pub open_list : OpenListTheorems
open_list = record {
  more = more;
  has_open = has_open;
  is_open = λ qp past w s legal e. (agrees qp past legal).ends (w, s) e;
}
