-- Lists of candidates and their sets.
use Rattle.std.proofs.Common.{◌≡◌, ◌≢◌, ℕ, suc, ◌+◌, ◌<◌, ◌≤◌, List, [], ◌∷◌, ◌++◌, length, get_or, set, take, Contains, Some, slice_get, refl, sym, ap, ◌∙◌, subst, inl, inr, arith}
use Rattle.std.proofs.Math.ListN.{get_or-map}
use Rattle.std.proofs.Math.Seq.{map-set_same, take-suc}
use Rattle.std.proofs.lemmas.Bool.{cases_eq, cases_lt}
use Rattle.std.proofs.lemmas.List.{length-map, length-take, get_or-take, get_or_default, get_or-set_same, get_or-set_other}
use Rattle.std.proofs.lemmas.List.Elements.{Contains-get_or}
use Rattle.std.proofs.lemmas.Option.{slice_get-get_or, slice_get_within, get_or_from_slice_get}
use Rattle.mpc_sets.specs.SetOrder.{IsBefore, IsInOrder}
use Rattle.std.specs.Ordering.{nat_cmp, ordering_then}
use Rattle.std.specs.Cmp.Lexicographic.{slice_cmp}
use Rattle.std.specs.declared.cmp.Ordering.{Ordering}
use Rattle.std.specs.declared.cmp.Ordering.TheVariants.{Less, Equal, Greater}
use Rattle.mpc_sets.specs.SetOrder.{set_cmp-total, tied_numbers}
use Rattle.std.specs.Cmp.{tied_itself, ranks}
use Rattle.std.proofs.lemmas.Bool.{lt-ltb}
use Rattle.std.proofs.lemmas.Cmp.{by_ranked}
use Rattle.mpc_claim.specs.declared.candidates.Candidate.{Candidate}
use Rattle.mpc_claim.specs.Board.{at, sets_of, waiting}

-- ---- the order of sets and of numbers
less_tied : Less ≡ Equal → ⊥
less_tied e = cc

pub IsBefore-irrefl : (s : List ℕ) → IsBefore s s → ⊥
IsBefore-irrefl s h = less_tied (sym h ∙ tied_itself set_cmp-total s)

IsBefore-trans : (s t u : List ℕ) → IsBefore s t → IsBefore t u → IsBefore s u
IsBefore-trans s t u h k = set_cmp-total.trans s t u h k

less_numbers : (i j : ℕ) → i < j → nat_cmp i j ≡ Less
less_numbers i j h = rw (lt-ltb i j h)

numbers_less : (i j : ℕ) → nat_cmp i j ≡ Less → i < j
numbers_less i j e = by_ranked (i < j) (i ≡ j) (j < i) (nat_cmp i j) (ranks i j) (λ _ h. h) (λ f _. cc) (λ f _. cc)

-- ---- the sets of candidates
pub set_at : (cs : List Candidate) (i : ℕ) → get_or (sets_of cs) i [] ≡ (at cs i).set
set_at cs i = get_or-map (λ (c : Candidate). c.set) cs i (waiting [])

pub length-sets_of : (cs : List Candidate) → length (sets_of cs) ≡ length cs
length-sets_of cs = length-map cs (λ (c : Candidate). c.set)

pub sets_of-set : (cs : List Candidate) (i : ℕ) (c : Candidate) → c.set ≡ (at cs i).set → sets_of (set cs i c) ≡ sets_of cs
sets_of-set cs i c e = map-set_same (λ (c : Candidate). c.set) cs i c (waiting []) e

pub at-set : (cs : List Candidate) (i : ℕ) (c : Candidate) → i < length cs → at (set cs i c) i ≡ c
at-set cs i c h = get_or-set_same cs i c (waiting []) h

pub at-other : (cs : List Candidate) (i j : ℕ) (c : Candidate) → j ≢ i → at (set cs i c) j ≡ at cs j
at-other cs i j c h = get_or-set_other cs i j c (waiting []) h

pub place_of : (cs : List Candidate) (s : List ℕ) → Contains (sets_of cs) s → (i : ℕ) × (i < length cs) × ((at cs i).set ≡ s)
place_of cs s (i, p, e) =
    let n = length-sets_of cs in
    (i, omega (arith, n), sym (set_at cs i) ∙ get_or_default (sets_of cs) i [] s p ∙ e)

pub contains_at : (cs : List Candidate) (i : ℕ) → i < length cs → Contains (sets_of cs) (at cs i).set
contains_at cs i p =
    let n = length-sets_of cs in
    subst (Contains (sets_of cs)) (set_at cs i) (Contains-get_or (sets_of cs) i [] (omega (arith, n)))

-- ---- the first sets
pub place_in_front : (n : ℕ) (sets : List (List ℕ)) (s : List ℕ) → Contains (take n sets) s → (i : ℕ) × (i < n) × (i < length sets) × (get_or sets i [] ≡ s)
place_in_front n sets s (i, p, e) =
    let l = length-take n sets in
    let below : i < n = omega (arith, l) in
    (i, below, omega (arith, l), get_or_default sets i [] s (omega (arith, l)) ∙ sym (get_or-take n sets i s below) ∙ e)

pub contains_in_front : (n : ℕ) (sets : List (List ℕ)) (i : ℕ) → i < n → n ≤ length sets → Contains (take n sets) (get_or sets i [])
contains_in_front n sets i p q =
    let l = length-take n sets in
    subst (Contains (take n sets)) (get_or-take n sets i [] p) (Contains-get_or (take n sets) i [] (omega (arith, l)))

pub front_more : (n : ℕ) (sets : List (List ℕ)) → n < length sets → take (n + 1) sets ≡ take n sets ++ get_or sets n [] ∷ []
front_more n sets p = let e : n + 1 ≡ suc n = omega arith in rw e (take-suc sets n [] p)

pub numbered_in_front : (n : ℕ) (sets : List (List ℕ)) (i : ℕ) (s : List ℕ) → slice_get (take n sets) i ≡ Some s → (i < n) × (i < length sets) × (get_or sets i [] ≡ s)
numbered_in_front n sets i s e =
    let l = length-take n sets in
    let within = slice_get_within (take n sets) i s e in
    let below : i < n = omega (arith, l) in
    (below, omega (arith, l), sym (get_or-take n sets i [] below) ∙ get_or_from_slice_get (take n sets) i s [] e)

pub number_in_front : (n : ℕ) (sets : List (List ℕ)) (i : ℕ) → i < n → n ≤ length sets → slice_get (take n sets) i ≡ Some (get_or sets i [])
number_in_front n sets i p q =
    let l = length-take n sets in
    slice_get-get_or (take n sets) i [] (omega (arith, l)) ∙ ap Some (get_or-take n sets i [] p)

pub different_at : (sets : List (List ℕ)) (i j : ℕ) → IsInOrder sets → i < length sets → j < length sets → i ≢ j → get_or sets i [] ≡ get_or sets j [] → ⊥
different_at sets i j h p q ne e = elim (cases_lt i j) [
  | inl l ↦ IsBefore-irrefl (get_or sets j []) (subst (λ u. IsBefore u (get_or sets j [])) e (h i j [] l q))
  | inr m ↦ IsBefore-irrefl (get_or sets j []) (subst (λ u. IsBefore (get_or sets j []) u) e (h j i [] (lt_of m) p))
]
  where
    lt_of : j ≤ i → j < i
    lt_of m = omega (arith, ne)

-- a set before the one at n stands at a lesser place
pub place_before : (sets : List (List ℕ)) (i n : ℕ) → IsInOrder sets → i < length sets → IsBefore (get_or sets i []) (get_or sets n []) → i < n
place_before sets i n h p b = elim (cases_lt i n) [
  | inl l ↦ l
  | inr m ↦ elim (cases_eq i n) [
    | inl e ↦ absurd (IsBefore-irrefl (get_or sets n []) (subst (λ k. IsBefore (get_or sets k []) (get_or sets n [])) e b))
    | inr ne ↦ absurd (IsBefore-irrefl (get_or sets n []) (IsBefore-trans (get_or sets n []) (get_or sets i []) (get_or sets n []) (h n i [] (lt_of m ne) p) b))
  ]
]
  where
    lt_of : n ≤ i → i ≢ n → n < i
    lt_of m ne = omega (arith, ne)

-- the set at n isn't one of the first n
pub fresh_at : (sets : List (List ℕ)) (n : ℕ) → IsInOrder sets → n < length sets → Contains (take n sets) (get_or sets n []) → ⊥
fresh_at sets n h p c =
    let (i, below, within, e) = place_in_front n sets (get_or sets n []) c in
    different_at sets i n h within p (λ same. absurd (omega (arith, same))) e

-- a set before another has no more members
pub before_size : (s t : List ℕ) → IsBefore s t → length s ≤ length t
before_size s t b = go (nat_cmp (length s) (length t)) refl b
  where
    go : (o : Ordering) → nat_cmp (length s) (length t) ≡ o → ordering_then o (slice_cmp nat_cmp s t) ≡ Less → length s ≤ length t
    go Less e f = let l = numbers_less (length s) (length t) e in omega arith
    go Equal e f = let l = tied_numbers (length s) (length t) e in omega arith
    go Greater e f = absurd (cc)

-- a set with fewer members is before the other
pub shorter_before : (s t : List ℕ) → length s < length t → IsBefore s t
shorter_before s t l = let e = less_numbers (length s) (length t) l in ap (λ o. ordering_then o (slice_cmp nat_cmp s t)) e
