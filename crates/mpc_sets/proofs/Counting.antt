-- How many sets of few rows there are.
use Rattle.std.proofs.Common.{◌≡◌, ◌≢◌, ℕ, suc, zero, ◌+◌, ◌<◌, ◌≤◌, ◌⊎◌, cond, ◌==◌, List, [], ◌∷◌, length, get_or, All, AllPairs, refl, sym, ap, ◌∙◌, subst, inl, inr, arith}
use Rattle.std.proofs.lemmas.Bool.{cases_eq, eq-eqb, ne_eqb}
use Rattle.mpc_sets.specs.RowSet.{RisesWithin, IsSetOfRows}

-- s is one of the sets, by recursion on the list
Occurs : List ℕ → List (List ℕ) → Type 0
Occurs s [] = ⊥
Occurs s (t ∷ sets) = (s ≡ t) ⊎ Occurs s sets

Different : List (List ℕ) → Type 0
Different [] = Unit {0}
Different (s ∷ sets) = (Occurs s sets → ⊥) × Different sets

-- the sets that begin with i, without it
tails_of : ℕ → List (List ℕ) → List (List ℕ)
tails_of i [] = []
tails_of i ([] ∷ sets) = tails_of i sets
tails_of i ((j ∷ s) ∷ sets) = cond (i == j) (s ∷ tails_of i sets) (tails_of i sets)

-- the sets that do not
others_of : ℕ → List (List ℕ) → List (List ℕ)
others_of i [] = []
others_of i ([] ∷ sets) = [] ∷ others_of i sets
others_of i ((j ∷ s) ∷ sets) = cond (i == j) (others_of i sets) ((j ∷ s) ∷ others_of i sets)

length-parts : (i : ℕ) (sets : List (List ℕ)) → length sets ≡ length (tails_of i sets) + length (others_of i sets)
unfolding tails_of others_of
length-parts i [] = omega arith
length-parts i ([] ∷ sets) = omega (arith, length-parts i sets)
length-parts i ((j ∷ s) ∷ sets) =
    elim (cases_eq i j) [
      | inl e ↦ rw (eq-eqb i j e) (omega (arith, length-parts i sets))
      | inr f ↦ rw (ne_eqb i j f) (omega (arith, length-parts i sets))
    ]

Occurs-tails_of : (i : ℕ) (s : List ℕ) (sets : List (List ℕ)) → Occurs s (tails_of i sets) → Occurs (i ∷ s) sets
unfolding Occurs tails_of
Occurs-tails_of i s [] h = h
Occurs-tails_of i s ([] ∷ sets) h = inr (Occurs-tails_of i s sets h)
Occurs-tails_of i s ((j ∷ t) ∷ sets) h =
    elim (cases_eq i j) [
      | inl e ↦ elim (rw (eq-eqb i j e) at h) [ inl g ↦ inl (λ k. e k ∷ g k) | inr a ↦ inr (Occurs-tails_of i s sets a) ]
      | inr f ↦ inr (Occurs-tails_of i s sets (rw (ne_eqb i j f) at h))
    ]

Occurs-others_of : (i : ℕ) (s : List ℕ) (sets : List (List ℕ)) → Occurs s (others_of i sets) → Occurs s sets
unfolding Occurs others_of
Occurs-others_of i s [] h = h
Occurs-others_of i s ([] ∷ sets) (inl e) = inl e
Occurs-others_of i s ([] ∷ sets) (inr h) = inr (Occurs-others_of i s sets h)
Occurs-others_of i s ((j ∷ t) ∷ sets) h =
    elim (cases_eq i j) [
      | inl e ↦ inr (Occurs-others_of i s sets (rw (eq-eqb i j e) at h))
      | inr f ↦ elim (rw (ne_eqb i j f) at h) [ inl g ↦ inl g | inr a ↦ inr (Occurs-others_of i s sets a) ]
    ]

-- the others begin otherwise
others_begin : (i j : ℕ) (s : List ℕ) (sets : List (List ℕ)) → Occurs (j ∷ s) (others_of i sets) → i ≡ j → ⊥
unfolding Occurs others_of
others_begin i j s [] h e = h
others_begin i j s ([] ∷ sets) (inl g) e = absurd (omega (arith, ap length g))
others_begin i j s ([] ∷ sets) (inr h) e = others_begin i j s sets h e
others_begin i j s ((k ∷ t) ∷ sets) h e =
    elim (cases_eq i k) [
      | inl g ↦ others_begin i j s sets (rw (eq-eqb i k g) at h) e
      | inr f ↦ elim (rw (ne_eqb i k f) at h) [ inl g ↦ f (e ∙ ap (λ u. get_or u 0 0) g) | inr a ↦ others_begin i j s sets a e ]
    ]

Different-tails_of : (i : ℕ) (sets : List (List ℕ)) → Different sets → Different (tails_of i sets)
unfolding Different tails_of Occurs
Different-tails_of i [] d = tt
Different-tails_of i ([] ∷ sets) d = Different-tails_of i sets d.1
Different-tails_of i ((j ∷ s) ∷ sets) d =
    elim (cases_eq i j) [
      | inl e ↦ rw (eq-eqb i j e) (λ h. d.0 (subst (λ k. Occurs (k ∷ s) sets) e (Occurs-tails_of i s sets h)), Different-tails_of i sets d.1)
      | inr f ↦ rw (ne_eqb i j f) (Different-tails_of i sets d.1)
    ]

Different-others_of : (i : ℕ) (sets : List (List ℕ)) → Different sets → Different (others_of i sets)
unfolding Different others_of
Different-others_of i [] d = tt
Different-others_of i ([] ∷ sets) d = (λ h. d.0 (Occurs-others_of i [] sets h), Different-others_of i sets d.1)
Different-others_of i ((j ∷ s) ∷ sets) d =
    elim (cases_eq i j) [
      | inl e ↦ rw (eq-eqb i j e) (Different-others_of i sets d.1)
      | inr f ↦ rw (ne_eqb i j f) (λ h. d.0 (Occurs-others_of i (j ∷ s) sets h), Different-others_of i sets d.1)
    ]

-- how many sets of at most k of n rows there are: the sum of the binomial coefficients n over 0 to n over k
unfoldable pub sets_of_at_most : ℕ → ℕ → ℕ
sets_of_at_most zero k = 1
sets_of_at_most (suc n) zero = 1
sets_of_at_most (suc n) (suc k) = sets_of_at_most n k + sets_of_at_most n (suc k)

-- sets of at most k rows above low and up to high
record AreSmall (low high k : ℕ) (sets : List (List ℕ)) : Type 0 where
  pub rise : (s : List ℕ) → Occurs s sets → RisesWithin low high s
  pub small : (s : List ℕ) → Occurs s sets → length s ≤ k

one_at_most : (sets : List (List ℕ)) → Different sets → ((s : List ℕ) → Occurs s sets → s ≡ []) → length sets ≤ 1
unfolding Different Occurs
one_at_most [] d h = omega arith
one_at_most (s ∷ []) d h = omega arith
one_at_most (s ∷ t ∷ sets) d h = absurd (d.0 (inl (h s (inl refl) ∙ sym (h t (inr (inl refl))))))

count_at_most : (n low high k : ℕ) (sets : List (List ℕ)) → high ≡ low + n → Different sets → AreSmall low high k sets → length sets ≤ sets_of_at_most n k
unfolding sets_of_at_most
count_at_most zero low high k sets e d h = one_at_most sets d (λ s o. empty s (h.rise s o))
  where
    empty : (s : List ℕ) → RisesWithin low high s → s ≡ []
    empty [] r = refl
    empty (j ∷ s) r = absurd (omega (arith, r.0, r.1))
count_at_most (suc n) low high zero sets e d h = one_at_most sets d (λ s o. empty s (h.small s o))
  where
    empty : (s : List ℕ) → length s ≤ 0 → s ≡ []
    empty [] r = refl
    empty (j ∷ s) r = absurd (omega arith)
count_at_most (suc n) low high (suc k) sets e d h =
    omega (
      arith,
      length-parts (suc low) sets,
      count_at_most n (suc low) high k (tails_of (suc low) sets) (omega arith) (Different-tails_of (suc low) sets d) tails,
      count_at_most n (suc low) high (suc k) (others_of (suc low) sets) (omega arith) (Different-others_of (suc low) sets d) others,
    )
  where
    tails : AreSmall (suc low) high k (tails_of (suc low) sets)
    tails = record {
      rise = λ s o. (h.rise (suc low ∷ s) (Occurs-tails_of (suc low) s sets o)).2;
      small = λ s o. omega (arith, h.small (suc low ∷ s) (Occurs-tails_of (suc low) s sets o));
    }

    higher : (s : List ℕ) → Occurs s (others_of (suc low) sets) → RisesWithin low high s → RisesWithin (suc low) high s
    higher [] o r = tt
    higher (j ∷ s) o r = let apart = others_begin (suc low) j s sets o in (omega (arith, r.0), r.1, r.2)

    others : AreSmall (suc low) high (suc k) (others_of (suc low) sets)
    others = record {
      rise = λ s o. higher s o (h.rise s (Occurs-others_of (suc low) s sets o));
      small = λ s o. h.small s (Occurs-others_of (suc low) s sets o);
    }

-- ---- the numbers, computed row by row
next_counts : List ℕ → List ℕ
next_counts [] = []
next_counts (a ∷ []) = []
next_counts (a ∷ b ∷ counts) = (a + b) ∷ next_counts (b ∷ counts)

counts_of : ℕ → List ℕ
counts_of zero = 1 ∷ 1 ∷ 1 ∷ 1 ∷ 1 ∷ 1 ∷ 1 ∷ []
counts_of (suc n) = 1 ∷ next_counts (counts_of n)

first_count : (n : ℕ) → sets_of_at_most n 0 ≡ 1
unfolding sets_of_at_most
first_count zero = refl
first_count (suc n) = refl

counts_are : (n : ℕ) → counts_of n ≡ 1 ∷ sets_of_at_most n 1 ∷ sets_of_at_most n 2 ∷ sets_of_at_most n 3 ∷ sets_of_at_most n 4 ∷ sets_of_at_most n 5 ∷ sets_of_at_most n 6 ∷ []
unfolding counts_of next_counts sets_of_at_most
counts_are zero = refl
counts_are (suc n) = ap (λ u. 1 ∷ next_counts u) (counts_are n) ∙ ap (λ c. 1 ∷ (c + sets_of_at_most n 1) ∷ sets_of_at_most (suc n) 2 ∷ sets_of_at_most (suc n) 3 ∷ sets_of_at_most (suc n) 4 ∷ sets_of_at_most (suc n) 5 ∷ sets_of_at_most (suc n) 6 ∷ []) (sym (first_count n))

six_of_forty : get_or (counts_of 40) 6 0 ≡ 4598479
unfolding counts_of next_counts
six_of_forty = refl

four_of_sixty : get_or (counts_of 60) 4 0 ≡ 523686
unfolding counts_of next_counts
four_of_sixty = refl

six_of_sixty : get_or (counts_of 60) 6 0 ≡ 56049058
unfolding counts_of next_counts
six_of_sixty = refl

-- ---- from lists read by index
Different-from_pairs : (sets : List (List ℕ)) → AllPairs (λ s t. s ≢ t) sets → Different sets
unfolding Different Occurs
Different-from_pairs [] h = tt
Different-from_pairs (s ∷ sets) h = (λ o. let c = index_of s sets o in h 0 (suc c.0) s (omega arith) (omega (arith, c.1)) (sym c.2), Different-from_pairs sets (λ i j d p q. h (suc i) (suc j) d (omega arith) (omega arith)))
  where
    index_of : (s : List ℕ) (sets : List (List ℕ)) → Occurs s sets → (k : ℕ) × (k < length sets) × (get_or sets k s ≡ s)
    index_of s [] o = absurd o
    index_of s (t ∷ sets) (inl e) = (0, omega arith, sym e)
    index_of s (t ∷ sets) (inr o) = let (k, p, e) = index_of s sets o in (suc k, omega arith, e)

holds_of : (P : List ℕ → Type 0) (sets : List (List ℕ)) → All P sets → (s : List ℕ) → Occurs s sets → P s
unfolding Occurs
holds_of P [] h s o = absurd o
holds_of P (t ∷ sets) h s (inl e) = subst P (sym e) (h 0 t (omega arith))
holds_of P (t ∷ sets) h s (inr o) = holds_of P sets (λ k d p. h (suc k) d (omega arith)) s o

-- different sets of at most k of the rows 1 to n
pub length-sets-le : (n k : ℕ) (sets : List (List ℕ)) → AllPairs (λ s t. s ≢ t) sets → All (IsSetOfRows n) sets → All (λ s. length s ≤ k) sets → length sets ≤ sets_of_at_most n k
length-sets-le n k sets d r l = count_at_most n 0 n k sets (omega arith) (Different-from_pairs sets d) (record { rise = λ s o. (holds_of (IsSetOfRows n) sets r s o).rises; small = λ s o. holds_of (λ s. length s ≤ k) sets l s o })

pub length-sets-of_forty : (sets : List (List ℕ)) → AllPairs (λ s t. s ≢ t) sets → All (IsSetOfRows 40) sets → All (λ s. length s ≤ 6) sets → length sets ≤ 4598479
length-sets-of_forty sets d r l = omega (arith, length-sets-le 40 6 sets d r l, ap (λ u. get_or u 6 0) (counts_are 40), six_of_forty)

pub length-sets-of_four : (sets : List (List ℕ)) → AllPairs (λ s t. s ≢ t) sets → All (IsSetOfRows 60) sets → All (λ s. length s ≤ 4) sets → length sets ≤ 523686
length-sets-of_four sets d r l = omega (arith, length-sets-le 60 4 sets d r l, ap (λ u. get_or u 4 0) (counts_are 60), four_of_sixty)

pub length-sets-of_sixty : (sets : List (List ℕ)) → AllPairs (λ s t. s ≢ t) sets → All (IsSetOfRows 60) sets → All (λ s. length s ≤ 6) sets → length sets ≤ 56049058
length-sets-of_sixty sets d r l = omega (arith, length-sets-le 60 6 sets d r l, ap (λ u. get_or u 6 0) (counts_are 60), six_of_sixty)
