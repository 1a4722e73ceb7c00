-- Sets of lines in the order of their digests hold the lines that were put into them.
use Rattle.std.proofs.Common.{◌≡◌, ℕ, zero, suc, Bool, true, false, not, ◌||◌, IsTrue, List, [], ◌∷◌, map, Bor, ◌⊎◌, inl, inr, ◌↔◌, refl, sym, ◌∙◌, ap, subst, arith}
use Rattle.std.specs.Prelude.{Contains, All}
use Rattle.std.specs.List.{list_any}
use Rattle.std.specs.declared.cmp.Ordering.{Ordering}
use Rattle.std.specs.declared.cmp.Ordering.TheVariants.{Less, Equal, Greater}
use Rattle.std.specs.Ordering.{nat_cmp, match_ordering, ordering_then, is_eq}
use Rattle.std.specs.Cmp.{tied_itself, nat_cmp_total}
use Rattle.std.specs.Cmp.Lexicographic.{slice_cmp}
use Rattle.std.specs.BTreeMap.{is_at}
use Rattle.std.specs.BTreeSet.{insert_key}
use Rattle.std.proofs.lemmas.Bool.{false≢true}
use Rattle.std.proofs.lemmas.Cmp.{nat_list_cmp_total}
use Rattle.std.proofs.lemmas.Map.Lookups.{exact_bytes}
use Rattle.std.proofs.lemmas.Map.Views.{All-insert_key}
use Rattle.std.proofs.lemmas.List.Elements.{All-head, All-tail}
use Rattle.mpc_grammar.specs.Digests.{digest}

-- ---- one element more in front
here : {X : Type 0} (x : X) (xs : List X) (y : X) → x ≡ y → Contains (x ∷ xs) y
here x xs y e = (0, omega arith, e)

there : {X : Type 0} (x : X) (xs : List X) (y : X) → Contains xs y → Contains (x ∷ xs) y
there x xs y c = (suc c.0, omega (arith, c.1), c.2)

cases : {X : Type 0} (x : X) (xs : List X) (y : X) → Contains (x ∷ xs) y → (x ≡ y) ⊎ Contains xs y
cases x xs y (zero, h, e) = inl e
cases x xs y (suc k, h, e) = inr (k, omega arith, e)

none : {X : Type 0} (y : X) → Contains [] y → ⊥
none y (k, h, e) = absurd (omega arith)

-- ---- lines
abbrev Key : Type 0
Key = ℕ × Bor (List ℕ)

abbrev pub order : Key → Key → Ordering
order x y = ordering_then (nat_cmp x.0 y.0) (slice_cmp nat_cmp x.1.now y.1.now)

abbrev pub lines_of : List Key → List (List ℕ)
lines_of keys = map (λ key. key.1.now) keys

-- the number in front of a line is its digest
abbrev pub IsRight : Key → Type 0
IsRight key = key.0 ≡ digest key.1.now

or_right : (a b : Bool) → IsTrue b → IsTrue (a || b)
or_right true b h = refl
or_right false b h = h

less_is_not_equal : Less ≡ Equal → ⊥
less_is_not_equal e = false≢true (ap is_eq e)

greater_is_not_equal : Greater ≡ Equal → ⊥
greater_is_not_equal e = false≢true (ap is_eq e)

behind_tie : (a b : Ordering) → ordering_then a b ≡ Equal → b ≡ Equal
behind_tie Less b e = absurd (less_is_not_equal e)
behind_tie Equal b e = e
behind_tie Greater b e = absurd (greater_is_not_equal e)

-- keys that are tied have one line
tied_line : (x y : Key) → order x y ≡ Equal → x.1.now ≡ y.1.now
tied_line x y e = exact_bytes x.1.now y.1.now (behind_tie (nat_cmp x.0 y.0) (slice_cmp nat_cmp x.1.now y.1.now) e)

tied_numbers : (m n : ℕ) → m ≡ n → nat_cmp m n ≡ Equal
tied_numbers m n e = subst (λ k. nat_cmp m k ≡ Equal) e (tied_itself nat_cmp_total m)

tied_lines : (a b : List ℕ) → a ≡ b → slice_cmp nat_cmp a b ≡ Equal
tied_lines a b e = subst (λ t. slice_cmp nat_cmp a t ≡ Equal) e (tied_itself nat_list_cmp_total a)

tied_both : (a b : Ordering) → a ≡ Equal → b ≡ Equal → ordering_then a b ≡ Equal
tied_both a b e f = subst (λ o. ordering_then o b ≡ Equal) (sym e) f

-- keys of one line are tied, where each has its digest
line_tied : (x y : Key) → IsRight x → IsRight y → x.1.now ≡ y.1.now → order x y ≡ Equal
line_tied x y a b e = tied_both (nat_cmp x.0 y.0) (slice_cmp nat_cmp x.1.now y.1.now) (tied_numbers x.0 y.0 (a ∙ ap digest e ∙ sym b)) (tied_lines x.1.now y.1.now e)

module _ (key : Key) where
  abbrev has : List Key → Bool
  has keys = list_any (is_at (order key)) keys

  found_by : (k : Key) (keys : List Key) (o : Ordering) → order key k ≡ o → (IsTrue (has keys) → Contains (lines_of keys) key.1.now) → IsTrue (is_eq o || has keys) → Contains (lines_of (k ∷ keys)) key.1.now
  found_by k keys Less e f h = there k.1.now (lines_of keys) key.1.now (f h)
  found_by k keys Equal e f h = here k.1.now (lines_of keys) key.1.now (sym (tied_line key k e))
  found_by k keys Greater e f h = there k.1.now (lines_of keys) key.1.now (f h)

  found : (keys : List Key) → IsTrue (has keys) → Contains (lines_of keys) key.1.now
  found [] h = absurd (false≢true h)
  found (k ∷ keys) h = found_by k keys (order key k) refl (found keys) h

  held_by : (k : Key) (keys : List Key) → IsRight key → IsRight k → (Contains (lines_of keys) key.1.now → IsTrue (has keys)) → (k.1.now ≡ key.1.now) ⊎ Contains (lines_of keys) key.1.now → IsTrue (has (k ∷ keys))
  held_by k keys a b f (inl e) = subst (λ o. IsTrue (is_eq o || has keys)) (sym (line_tied key k a b (sym e))) refl
  held_by k keys a b f (inr h) = or_right (is_at (order key) k) (has keys) (f h)

  held : (keys : List Key) → IsRight key → All IsRight keys → Contains (lines_of keys) key.1.now → IsTrue (has keys)
  held [] a all c = absurd (none key.1.now c)
  held (k ∷ keys) a all c = held_by k keys a (All-head IsRight k keys all) (held keys a (All-tail IsRight k keys all)) (cases k.1.now (lines_of keys) key.1.now c)

  not_both : (b : Bool) → IsTrue b → IsTrue (not b) → ⊥
  not_both true h k = false≢true k
  not_both false h k = false≢true h

  one_of : (b : Bool) → (IsTrue b → ⊥) → IsTrue (not b)
  one_of true f = absurd (f refl)
  one_of false f = refl

  pub new_iff : (keys : List Key) (old : List (List ℕ)) (added : Bool) → IsRight key → All IsRight keys → old ≡ lines_of keys → added ≡ not (has keys) → IsTrue added ↔ (¬ Contains old key.1.now)
  new_iff keys old added a all v e =
      subst (λ ls. IsTrue added ↔ (¬ Contains ls key.1.now)) (sym v) ((λ t c. not_both (has keys) (held keys a all c) (subst IsTrue e t)), (λ n. subst IsTrue (sym e) (one_of (has keys) (λ t. n (found keys t)))))

  pub all_right : (keys more : List Key) → IsRight key → All IsRight keys → more ≡ insert_key order keys key → All IsRight more
  all_right keys more a all e = subst (All IsRight) (sym e) (All-insert_key order key IsRight keys all a)

  module _ (other : List ℕ) where
    abbrev Old : List Key → Type 0
    Old keys = Contains (lines_of keys) other ⊎ (other ≡ key.1.now)

    abbrev New : List Key → Type 0
    New keys = Contains (lines_of keys) other

    into_behind : (k : Key) (keys more : List Key) → (New more → Old keys) → (k.1.now ≡ other) ⊎ New more → Old (k ∷ keys)
    into_behind k keys more f (inl e) = inl (here k.1.now (lines_of keys) other e)
    into_behind k keys more f (inr h) = elim (f h) [ inl d ↦ inl (there k.1.now (lines_of keys) other d) | inr e ↦ inr e ]

    into_front : (k : Key) (keys : List Key) → (key.1.now ≡ other) ⊎ New (k ∷ keys) → Old (k ∷ keys)
    into_front k keys (inl e) = inr (sym e)
    into_front k keys (inr h) = inl h

    into_by : (k : Key) (keys more : List Key) (o : Ordering) → (New more → Old keys) → New (match_ordering o (key ∷ k ∷ keys) (k ∷ keys) (k ∷ more)) → Old (k ∷ keys)
    into_by k keys more Less f c = into_front k keys (cases key.1.now (lines_of (k ∷ keys)) other c)
    into_by k keys more Equal f c = inl c
    into_by k keys more Greater f c = into_behind k keys more f (cases k.1.now (lines_of more) other c)

    into_none : (key.1.now ≡ other) ⊎ New [] → Old []
    into_none (inl e) = inr (sym e)
    into_none (inr h) = inl h

    into : (keys : List Key) → New (insert_key order keys key) → Old keys
    into [] c = into_none (cases key.1.now [] other c)
    into (k ∷ keys) c = into_by k keys (insert_key order keys key) (order key k) (into keys) c

    onto_behind : (k : Key) (keys more : List Key) → (Old keys → New more) → (k.1.now ≡ other) ⊎ New keys → New (k ∷ more)
    onto_behind k keys more f (inl q) = here k.1.now (lines_of more) other q
    onto_behind k keys more f (inr d) = there k.1.now (lines_of more) other (f (inl d))

    onto_by : (k : Key) (keys more : List Key) (o : Ordering) → order key k ≡ o → (Old keys → New more) → Old (k ∷ keys) → New (match_ordering o (key ∷ k ∷ keys) (k ∷ keys) (k ∷ more))
    onto_by k keys more Less e f (inl c) = there key.1.now (lines_of (k ∷ keys)) other c
    onto_by k keys more Less e f (inr q) = here key.1.now (lines_of (k ∷ keys)) other (sym q)
    onto_by k keys more Equal e f (inl c) = c
    onto_by k keys more Equal e f (inr q) = here k.1.now (lines_of keys) other (sym (tied_line key k e) ∙ sym q)
    onto_by k keys more Greater e f (inl c) = onto_behind k keys more f (cases k.1.now (lines_of keys) other c)
    onto_by k keys more Greater e f (inr q) = there k.1.now (lines_of more) other (f (inr q))

    onto : (keys : List Key) → Old keys → New (insert_key order keys key)
    onto [] (inl c) = absurd (none other c)
    onto [] (inr e) = here key.1.now [] other (sym e)
    onto (k ∷ keys) h = onto_by k keys (insert_key order keys key) (order key k) refl (onto keys) h

  pub lines_iff : (keys more : List Key) (old : List (List ℕ)) → old ≡ lines_of keys → more ≡ insert_key order keys key → (other : List ℕ) → Contains (lines_of more) other ↔ (Contains old other ⊎ (other ≡ key.1.now))
  lines_iff keys more old v e other =
      subst (λ ls. Contains (lines_of more) other ↔ (Contains ls other ⊎ (other ≡ key.1.now))) (sym v)
      (subst (λ ks. Contains (lines_of ks) other ↔ (Contains (lines_of keys) other ⊎ (other ≡ key.1.now))) (sym e) (into other keys, onto other keys))
