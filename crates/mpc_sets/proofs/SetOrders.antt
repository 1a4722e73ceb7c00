-- The order of sets.
use Rattle.std.proofs.Common.{◌≡◌, ℕ, suc, ◌<◌, ◌≤◌, ◌⊎◌, List, [], ◌∷◌, ◌++◌, length, get_or, drop, refl, sym, ap, ◌∙◌, inl, inr, arith}
use Rattle.std.proofs.lemmas.Bool.{lt-ltb}
use Rattle.std.proofs.lemmas.Cmp.{by_ranked}
use Rattle.std.specs.Ordering.{nat_cmp, ordering_then, ordering_reverse}
use Rattle.std.specs.Cmp.{nat_cmp_total, tied_itself, ranks}
use Rattle.std.specs.Cmp.Lexicographic.{slice_cmp}
use Rattle.std.specs.declared.cmp.Ordering.{Ordering}
use Rattle.std.specs.declared.cmp.Ordering.TheVariants.{Less, Equal, Greater}
use Rattle.mpc_sets.specs.SetOrder.{set_cmp, IsBefore, set_cmp-total, set_cmp-Equal, tied_numbers}

pub less_tied : Less ≡ Equal → ⊥
less_tied e = cc

pub IsBefore-irrefl : (s : List ℕ) → IsBefore s s → ⊥
IsBefore-irrefl s h = less_tied (sym h ∙ tied_itself set_cmp-total s)

pub IsBefore-trans : (s t u : List ℕ) → IsBefore s t → IsBefore t u → IsBefore s u
IsBefore-trans s t u h k = set_cmp-total.trans s t u h k

-- one of two sets is before the other, or they are one
pub IsBefore-cases : (s t : List ℕ) → (s ≡ t) ⊎ (IsBefore s t ⊎ IsBefore t s)
IsBefore-cases s t = by (set_cmp s t) refl
  where
    turned : (o : Ordering) → Greater ≡ ordering_reverse o → o ≡ Less
    turned Less e = refl
    turned Equal e = cc
    turned Greater e = cc

    by : (o : Ordering) → set_cmp s t ≡ o → (s ≡ t) ⊎ (IsBefore s t ⊎ IsBefore t s)
    by Less e = inr (inl e)
    by Equal e = inl (set_cmp-Equal s t e)
    by Greater e = inr (inr (turned (set_cmp t s) (sym e ∙ set_cmp-total.antisymm s t)))

-- ---- numbers
pub less_numbers : (i j : ℕ) → i < j → nat_cmp i j ≡ Less
less_numbers i j h = rw (lt-ltb i j h)

pub numbers_less : (i j : ℕ) → nat_cmp i j ≡ Less → i < j
numbers_less i j e = by_ranked (i < j) (i ≡ j) (j < i) (nat_cmp i j) (ranks i j) (λ _ h. h) (λ f _. cc) (λ f _. cc)

-- ---- sets of different sizes
-- a set before another has no more members
pub before_size : (s t : List ℕ) → IsBefore s t → length s ≤ length t
before_size s t b = by (nat_cmp (length s) (length t)) refl b
  where
    by : (o : Ordering) → nat_cmp (length s) (length t) ≡ o → ordering_then o (slice_cmp nat_cmp s t) ≡ Less → length s ≤ length t
    by Less e f = let l = numbers_less (length s) (length t) e in omega arith
    by Equal e f = let l = tied_numbers (length s) (length t) e in omega arith
    by Greater e f = absurd (cc)

-- a set of fewer members is before the other
pub shorter_before : (s t : List ℕ) → length s < length t → IsBefore s t
shorter_before s t l = let e = less_numbers (length s) (length t) l in ap (λ o. ordering_then o (slice_cmp nat_cmp s t)) e

-- ---- sets of one size
pub set_cmp-one_size : (s t : List ℕ) → length s ≡ length t → set_cmp s t ≡ slice_cmp nat_cmp s t
set_cmp-one_size s t e = ap (λ o. ordering_then o (slice_cmp nat_cmp s t)) (ap (nat_cmp (length s)) (sym e) ∙ tied_itself nat_cmp_total (length s))

pub slice_cmp-last : (f : List ℕ) (x y : ℕ) → x < y → slice_cmp nat_cmp (f ++ x ∷ []) (f ++ y ∷ []) ≡ Less
slice_cmp-last [] x y h = rw (less_numbers x y h)
slice_cmp-last (i ∷ f) x y h = ap (λ o. ordering_then o (slice_cmp nat_cmp (f ++ x ∷ []) (f ++ y ∷ []))) (tied_itself nat_cmp_total i) ∙ slice_cmp-last f x y h

then_less : (p q : Ordering) → ordering_then p q ≡ Less → (p ≡ Less) ⊎ ((p ≡ Equal) × (q ≡ Less))
then_less Less q e = inl refl
then_less Equal q e = inr (refl, e)
then_less Greater q e = cc

-- the heads of two lists in order
heads : (i j : ℕ) (s t : List ℕ) → slice_cmp nat_cmp (i ∷ s) (j ∷ t) ≡ Less → (i < j) ⊎ ((i ≡ j) × (slice_cmp nat_cmp s t ≡ Less))
heads i j s t h = elim (then_less (nat_cmp i j) (slice_cmp nat_cmp s t) h) [ inl e ↦ inl (numbers_less i j e) | inr r ↦ inr (tied_numbers i j r.0, r.1) ]

pub last_less : (f : List ℕ) (x y : ℕ) → slice_cmp nat_cmp (f ++ x ∷ []) (f ++ y ∷ []) ≡ Less → x < y
last_less [] x y h = elim (heads x y [] [] h) [ inl p ↦ p | inr r ↦ absurd (less_tied (sym r.1)) ]
last_less (i ∷ f) x y h = last_less f x y (sym (ap (λ o. ordering_then o (slice_cmp nat_cmp (f ++ x ∷ []) (f ++ y ∷ []))) (tied_itself nat_cmp_total i)) ∙ h)

-- what follows two lists of one length in order changes nothing
pub slice_cmp-append : (s t u v : List ℕ) → length s ≡ length t → slice_cmp nat_cmp s t ≡ Less → slice_cmp nat_cmp (s ++ u) (t ++ v) ≡ Less
slice_cmp-append [] [] u v e h = absurd (less_tied (sym h))
slice_cmp-append [] (j ∷ t) u v e h = absurd (omega arith)
slice_cmp-append (i ∷ s) [] u v e h = absurd (omega arith)
slice_cmp-append (i ∷ s) (j ∷ t) u v e h =
    elim (heads i j s t h) [
      | inl p ↦ rw (less_numbers i j p) refl
      | inr r ↦ alike r.0 (slice_cmp-append s t u v (omega arith) r.1)
    ]
  where
    alike : i ≡ j → slice_cmp nat_cmp (s ++ u) (t ++ v) ≡ Less → slice_cmp nat_cmp (i ∷ (s ++ u)) (j ∷ (t ++ v)) ≡ Less
    alike e k = ap (λ o. ordering_then o (slice_cmp nat_cmp (s ++ u) (t ++ v))) (ap (nat_cmp i) (sym e) ∙ tied_itself nat_cmp_total i) ∙ k

-- what stands between two lists with one beginning has that beginning too
pub between : (f : List ℕ) (x y : ℕ) (z : List ℕ) → slice_cmp nat_cmp (f ++ x ∷ []) z ≡ Less → (slice_cmp nat_cmp z (f ++ y ∷ []) ≡ Less) ⊎ (z ≡ f ++ y ∷ []) → length z ≡ suc (length f)
    → (w : ℕ) × (z ≡ f ++ w ∷ []) × (x < w) × (w ≤ y)
between [] x y [] h k l = absurd (omega arith)
between [] x y (w ∷ v ∷ z) h k l = absurd (omega arith)
between [] x y (w ∷ []) h k l = (w, refl, last_less [] x w h, elim k [ inl g ↦ less_le (last_less [] w y g) | inr e ↦ le_from (ap (λ s. get_or s 0 0) e) ])
  where
    less_le : w < y → w ≤ y
    less_le p = omega arith

    le_from : w ≡ y → w ≤ y
    le_from p = omega arith
between (i ∷ f) x y [] h k l = absurd (omega arith)
between (i ∷ f) x y (j ∷ z) h k l =
    elim (heads i j (f ++ x ∷ []) z h) [
      | inl p ↦ absurd (elim k [ inl g ↦ elim (heads j i z (f ++ y ∷ []) g) [ inl q ↦ omega arith | inr r ↦ omega (arith, r.0) ] | inr e ↦ omega (arith, ap (λ s. get_or s 0 0) e) ])
      | inr r ↦ behind r.0 (between f x y z r.1 (elim k [
        | inl g ↦ elim (heads j i z (f ++ y ∷ []) g) [ inl q ↦ absurd (omega (arith, r.0)) | inr q ↦ inl q.1 ]
        | inr e ↦ inr (ap (drop 1) e)
      ]) (omega arith))
    ]
  where
    behind : i ≡ j → (w : ℕ) × (z ≡ f ++ w ∷ []) × (x < w) × (w ≤ y) → (w : ℕ) × (j ∷ z ≡ i ∷ (f ++ w ∷ [])) × (x < w) × (w ≤ y)
    behind e (w, g, p, q) = (w, λ n. sym e n ∷ g n, p, q)
