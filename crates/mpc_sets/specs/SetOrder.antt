-- The order of sets: by the number of members, then by the first member in which they differ.
use Rattle.std.specs.Prelude.{◌≡◌, ℕ, List, ◌<◌, true, [], ◌∷◌, length, AllPairs, nat_eq}
use Rattle.std.proofs.Common.{refl, sym, ap, ◌∙◌, subst}
use Rattle.std.proofs.lemmas.Bool.{eqb-true}
use Rattle.std.proofs.lemmas.Cmp.{by_ranked}
use Rattle.std.specs.Ordering.{nat_cmp, on, then_cmp, eq_by_cmp, ordering_then, is_eq}
use Rattle.std.specs.Cmp.{IsTotalOrder, then_total, on_total, nat_cmp_total, both_ways, tied_itself, first_so, second_so, ranks}
use Rattle.std.specs.Cmp.Lexicographic.{slice_cmp, pointwise, nat_list_cmp_total, nat_list_eq_equiv}
use Rattle.std.specs.declared.cmp.Ordering.{Ordering}
use Rattle.std.specs.declared.cmp.Ordering.TheVariants.{Less, Equal, Greater}

abbrev pub set_cmp : List ℕ → List ℕ → Ordering
set_cmp = then_cmp (on length nat_cmp) (slice_cmp nat_cmp)

abbrev pub IsBefore : List ℕ → List ℕ → Type 0
IsBefore s t = set_cmp s t ≡ Less

-- in the order of sets, each once
abbrev pub IsInOrder : List (List ℕ) → Type 0
IsInOrder sets = AllPairs IsBefore sets

-- ---- theorems of the order
pub set_cmp-total : IsTotalOrder set_cmp
set_cmp-total = then_total (on_total length nat_cmp_total) nat_list_cmp_total

then-Equal : (p q : Ordering) → ordering_then p q ≡ Equal → q ≡ Equal
then-Equal Less q e = cc
then-Equal Equal q e = e
then-Equal Greater q e = cc

then-Equal_first : (p q : Ordering) → ordering_then p q ≡ Equal → p ≡ Equal
then-Equal_first Less q e = cc
then-Equal_first Equal q e = refl
then-Equal_first Greater q e = cc

pub tied_numbers : (i j : ℕ) → nat_cmp i j ≡ Equal → i ≡ j
tied_numbers i j e = by_ranked (i < j) (i ≡ j) (j < i) (nat_cmp i j) (ranks i j) (λ f _. cc) (λ _ h. h) (λ f _. cc)

pub slice_cmp-Equal : (s t : List ℕ) → slice_cmp nat_cmp s t ≡ Equal → s ≡ t
slice_cmp-Equal [] [] e = refl
slice_cmp-Equal [] (j ∷ t) e = cc
slice_cmp-Equal (i ∷ s) [] e = cc
slice_cmp-Equal (i ∷ s) (j ∷ t) e =
    let head = tied_numbers i j (then-Equal_first (nat_cmp i j) (slice_cmp nat_cmp s t) e) in
    let tail = slice_cmp-Equal s t (then-Equal (nat_cmp i j) (slice_cmp nat_cmp s t) e) in
    λ k. head k ∷ tail k

-- sets that tie are one
pub set_cmp-Equal : (s t : List ℕ) → set_cmp s t ≡ Equal → s ≡ t
set_cmp-Equal s t e = slice_cmp-Equal s t (then-Equal (nat_cmp (length s) (length t)) (slice_cmp nat_cmp s t) e)

equal_from_test : (o : Ordering) → is_eq o ≡ true → o ≡ Equal
equal_from_test Less e = cc
equal_from_test Equal e = refl
equal_from_test Greater e = cc

-- `==` on sets tells whether they are one
pub pointwise-same : (s t : List ℕ) → s ≡ t → pointwise nat_eq s t ≡ true
pointwise-same s t e = subst (λ u. pointwise nat_eq s u ≡ true) e (nat_list_eq_equiv.refl s)

pub pointwise_true : (s t : List ℕ) → pointwise nat_eq s t ≡ true → s ≡ t
pointwise_true [] [] e = refl
pointwise_true [] (j ∷ t) e = cc
pointwise_true (i ∷ s) [] e = cc
pointwise_true (i ∷ s) (j ∷ t) e =
    let head = eqb-true i j (first_so (nat_eq i j) (pointwise nat_eq s t) e) in
    let tail = pointwise_true s t (second_so (nat_eq i j) (pointwise nat_eq s t) e) in
    λ k. head k ∷ tail k

pub set_cmp-matches_eq : (s t : List ℕ) → pointwise nat_eq s t ≡ eq_by_cmp set_cmp s t
set_cmp-matches_eq s t = both_ways (pointwise nat_eq s t) (eq_by_cmp set_cmp s t)
    (λ e. ap is_eq (ap (λ u. set_cmp s u) (sym (pointwise_true s t e)) ∙ tied_itself set_cmp-total s))
    (λ e. pointwise-same s t (set_cmp-Equal s t (equal_from_test (set_cmp s t) e)))
