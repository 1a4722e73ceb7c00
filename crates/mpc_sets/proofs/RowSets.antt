-- Theorems of sets of rows as rising lists.
use Rattle.std.proofs.Common.{◌≡◌, ℕ, suc, zero, ◌+◌, ◌<◌, ◌≤◌, ◌⊎◌, not, List, [], ◌∷◌, ◌++◌, length, get_or, ◌==◌, Contains, refl, sym, ap, ◌∙◌, subst, inl, inr, arith, append-nil}
use Rattle.std.proofs.lemmas.Bool.{cases_order, cases_eq, lt-ltb, le-ltb, eq-eqb, ne_eqb}
use Rattle.std.proofs.lemmas.List.Elements.{filter-append}
use Rattle.mpc_sets.specs.RowSet.{RisesWithin, Among, with_row, without_row}

pub Contains-from_among : (i : ℕ) (s : List ℕ) → Among i s → Contains s i
Contains-from_among i [] h = absurd h
Contains-from_among i (j ∷ rest) (inl e) = (0, omega arith, sym e)
Contains-from_among i (j ∷ rest) (inr h) = let c = Contains-from_among i rest h in (suc c.0, omega (arith, c.1), c.2)

pub Among-from_contains : (i : ℕ) (s : List ℕ) → Contains s i → Among i s
Among-from_contains i [] (k, h, e) = absurd (omega arith)
Among-from_contains i (j ∷ rest) (zero, h, e) = inl (sym e)
Among-from_contains i (j ∷ rest) (suc k, h, e) = inr (Among-from_contains i rest (k, omega arith, e))

pub Among_within : (low high i : ℕ) (s : List ℕ) → RisesWithin low high s → Among i s → (low < i) × (i ≤ high)
Among_within low high i [] r h = absurd h
Among_within low high i (j ∷ rest) r (inl e) = omega (arith, r.0, r.1)
Among_within low high i (j ∷ rest) r (inr h) = let w = Among_within j high i rest r.2 h in omega (arith, r.0, w)

-- two sets with the same members are one
pub same_members : (low high : ℕ) (s t : List ℕ) → RisesWithin low high s → RisesWithin low high t → ((i : ℕ) → Among i s → Among i t) → ((i : ℕ) → Among i t → Among i s) → s ≡ t
same_members low high [] [] p q f g = refl
same_members low high [] (j ∷ t) p q f g = absurd (g j (inl refl))
same_members low high (i ∷ s) [] p q f g = absurd (f i (inl refl))
same_members low high (i ∷ s) (j ∷ t) p q f g = same_cons i j s t (first_is i j s t high p.2 q.2 (f i (inl refl)) (g j (inl refl)))
    (λ e. same_members i high s t p.2 (subst (λ k. RisesWithin k high t) (sym e) q.2) (λ k h. drop_head i k s t high p.2 e (f k (inr h)) h) (λ k h. drop_head j k t s high q.2 (sym e) (g k (inr h)) h))
  where
    first_is : (i j : ℕ) (s t : List ℕ) (high : ℕ) → RisesWithin i high s → RisesWithin j high t → Among i (j ∷ t) → Among j (i ∷ s) → i ≡ j
    first_is i j s t high p q (inl e) h = e
    first_is i j s t high p q (inr a) (inl e) = sym e
    first_is i j s t high p q (inr a) (inr b) = absurd (omega (arith, (Among_within j high i t q a).0, (Among_within i high j s p b).0))

    drop_head : (i k : ℕ) (s t : List ℕ) (high : ℕ) {j : ℕ} → RisesWithin i high s → i ≡ j → Among k (j ∷ t) → Among k s → Among k t
    drop_head i k s t high p e (inr h) a = h
    drop_head i k s t high p e (inl h) a = absurd (omega (arith, (Among_within i high k s p a).0))

    same_cons : (i j : ℕ) (s t : List ℕ) → i ≡ j → (i ≡ j → s ≡ t) → i ∷ s ≡ j ∷ t
    same_cons i j s t e f = λ k. e k ∷ f e k

pub rises_from : (low low' high : ℕ) (s : List ℕ) → low' ≤ low → RisesWithin low high s → RisesWithin low' high s
rises_from low low' high [] h r = tt
rises_from low low' high (i ∷ s) h r = (omega (arith, r.0), r.1, r.2)

-- ---- with a row
pub Among-with_row : (i k : ℕ) (s : List ℕ) → (k ≡ i) ⊎ Among k s → Among k (with_row i s)
Among-with_row i k [] (inl e) = inl e
Among-with_row i k [] (inr h) = absurd h
Among-with_row i k (j ∷ s) h =
    elim (cases_order i j) [
      | inl e ↦ rw (le-ltb i j (omega arith), eq-eqb i j e) (elim h [ inl f ↦ inl (f ∙ e) | inr a ↦ a ])
      | inr (inl less) ↦ rw (lt-ltb i j less) h
      | inr (inr more) ↦ rw (le-ltb i j (omega arith), ne_eqb i j (omega arith)) (elim h [ inl f ↦ inr (Among-with_row i k s (inl f)) | inr (inl f) ↦ inl f | inr (inr a) ↦ inr (Among-with_row i k s (inr a)) ])
    ]

pub Among-with_row_cases : (i k : ℕ) (s : List ℕ) → Among k (with_row i s) → (k ≡ i) ⊎ Among k s
Among-with_row_cases i k [] h = h
Among-with_row_cases i k (j ∷ s) h =
    elim (cases_order i j) [
      | inl e ↦ inr (rw (le-ltb i j (omega arith), eq-eqb i j e) at h)
      | inr (inl less) ↦ rw (lt-ltb i j less) at h
      | inr (inr more) ↦ behind j (with_row i s) s (Among-with_row_cases i k s) (rw (le-ltb i j (omega arith), ne_eqb i j (omega arith)) at h)
    ]
  where
    behind : (j : ℕ) (u s : List ℕ) → (Among k u → (k ≡ i) ⊎ Among k s) → Among k (j ∷ u) → (k ≡ i) ⊎ Among k (j ∷ s)
    behind j u s f (inl e) = inr (inl e)
    behind j u s f (inr a) = elim (f a) [ inl e ↦ inl e | inr b ↦ inr (inr b) ]

pub RisesWithin-with_row : (i low high : ℕ) (s : List ℕ) → low < i → i ≤ high → RisesWithin low high s → RisesWithin low high (with_row i s)
RisesWithin-with_row i low high [] p q r = (p, q, tt)
RisesWithin-with_row i low high (j ∷ s) p q r =
    elim (cases_order i j) [
      | inl e ↦ rw (le-ltb i j (omega arith), eq-eqb i j e) r
      | inr (inl less) ↦ rw (lt-ltb i j less) (p, q, (less, r.1, r.2))
      | inr (inr more) ↦ rw (le-ltb i j (omega arith), ne_eqb i j (omega arith)) (r.0, r.1, RisesWithin-with_row i j high s more q r.2)
    ]

-- ---- without a row
pub Among-without_row : (i k : ℕ) (s : List ℕ) → (k ≡ i → ⊥) → Among k s → Among k (without_row i s)
Among-without_row i k [] n h = h
Among-without_row i k (j ∷ s) n (inl e) = rw (ne_eqb j i (λ f. n (e ∙ f))) (inl e)
Among-without_row i k (j ∷ s) n (inr a) =
    elim (cases_eq j i) [
      | inl e ↦ rw (eq-eqb j i e) (Among-without_row i k s n a)
      | inr f ↦ rw (ne_eqb j i f) (inr (Among-without_row i k s n a))
    ]

pub Among-without_row_cases : (i k : ℕ) (s : List ℕ) → Among k (without_row i s) → (k ≡ i → ⊥) × Among k s
Among-without_row_cases i k [] h = absurd h
Among-without_row_cases i k (j ∷ s) h =
    elim (cases_eq j i) [
      | inl e ↦ let r = Among-without_row_cases i k s (rw (eq-eqb j i e) at h) in (r.0, inr r.1)
      | inr f ↦ behind j (without_row i s) s f (Among-without_row_cases i k s) (rw (ne_eqb j i f) at h)
    ]
  where
    behind : (j : ℕ) (u s : List ℕ) → (j ≡ i → ⊥) → (Among k u → (k ≡ i → ⊥) × Among k s) → Among k (j ∷ u) → (k ≡ i → ⊥) × Among k (j ∷ s)
    behind j u s n f (inl e) = (λ g. n (sym e ∙ g), inl e)
    behind j u s n f (inr a) = ((f a).0, inr (f a).1)

pub RisesWithin-without_row : (i low high : ℕ) (s : List ℕ) → RisesWithin low high s → RisesWithin low high (without_row i s)
RisesWithin-without_row i low high [] r = tt
RisesWithin-without_row i low high (j ∷ s) r =
    elim (cases_eq j i) [
      | inl e ↦ rw (eq-eqb j i e) (rises_from j low high (without_row i s) (omega (arith, r.0)) (RisesWithin-without_row i j high s r.2))
      | inr f ↦ rw (ne_eqb j i f) (r.0, r.1, RisesWithin-without_row i j high s r.2)
    ]

-- ---- the least member comes first, and the greatest last
pub head_least : (t low high : ℕ) (s : List ℕ) (d : ℕ) → RisesWithin low high s → Among t s → ((i : ℕ) → Among i s → t ≤ i) → get_or s 0 d ≡ t
head_least t low high [] d r a least = absurd a
head_least t low high (j ∷ s) d r (inl e) least = sym e
head_least t low high (j ∷ s) d r (inr a) least = absurd (omega (arith, (Among_within j high t s r.2 a).0, least j (inl refl)))

pub Among_last : (s : List ℕ) (x : ℕ) → Among x (s ++ x ∷ [])
Among_last [] x = inl refl
Among_last (j ∷ s) x = inr (Among_last s x)

pub Among_front : (i : ℕ) (s u : List ℕ) → Among i s → Among i (s ++ u)
Among_front i [] u h = absurd h
Among_front i (j ∷ s) u (inl e) = inl e
Among_front i (j ∷ s) u (inr h) = inr (Among_front i s u h)

pub Among_last_cases : (i : ℕ) (s : List ℕ) (x : ℕ) → Among i (s ++ x ∷ []) → Among i s ⊎ (i ≡ x)
Among_last_cases i [] x (inl e) = inr e
Among_last_cases i [] x (inr h) = absurd h
Among_last_cases i (j ∷ s) x (inl e) = inl (inl e)
Among_last_cases i (j ∷ s) x (inr h) = elim (Among_last_cases i s x h) [ inl a ↦ inl (inr a) | inr e ↦ inr e ]

pub below_last : (low high i : ℕ) (s : List ℕ) (x : ℕ) → RisesWithin low high (s ++ x ∷ []) → Among i s → i < x
below_last low high i [] x r h = absurd h
below_last low high i (j ∷ s) x r (inl e) = omega (arith, (Among_within j high x (s ++ x ∷ []) r.2 (Among_last s x)).0)
below_last low high i (j ∷ s) x r (inr h) = below_last j high i s x r.2 h

pub rises_last : (low high' high : ℕ) (s : List ℕ) (x : ℕ) → RisesWithin low high' s → ((i : ℕ) → Among i s → i < x) → low < x → x ≤ high → RisesWithin low high (s ++ x ∷ [])
rises_last low high' high [] x r h p q = (p, q, tt)
rises_last low high' high (j ∷ s) x r h p q = let first : j < x = h j (inl refl) in (r.0, omega arith, rises_last j high' high s x r.2 (λ i a. h i (inr a)) first q)

pub with_row-last : (s : List ℕ) (x : ℕ) → ((i : ℕ) → Among i s → i < x) → with_row x s ≡ s ++ x ∷ []
with_row-last [] x h = refl
with_row-last (j ∷ s) x h = let first : j < x = h j (inl refl) in rw (le-ltb x j (omega arith), ne_eqb x j (omega arith)) (ap (λ u. j ∷ u) (with_row-last s x (λ i a. h i (inr a))))

pub without_row-absent : (i : ℕ) (s : List ℕ) → (Among i s → ⊥) → without_row i s ≡ s
without_row-absent i [] h = refl
without_row-absent i (j ∷ s) h = rw (ne_eqb j i (λ e. h (inl (sym e)))) (ap (λ u. j ∷ u) (without_row-absent i s (λ a. h (inr a))))

pub without_row-append : (i : ℕ) (s u : List ℕ) → without_row i (s ++ u) ≡ without_row i s ++ without_row i u
without_row-append i s u = filter-append (λ j. not (j == i)) s u

pub without_row-one : (i : ℕ) → without_row i (i ∷ []) ≡ []
without_row-one i = rw (eq-eqb i i refl)

pub without_row-other : (i j : ℕ) → (j ≡ i → ⊥) → without_row i (j ∷ []) ≡ j ∷ []
without_row-other i j h = rw (ne_eqb j i h)

-- without its last member a set is what stands before it
pub without_row-last : (low high : ℕ) (s : List ℕ) (x : ℕ) → RisesWithin low high (s ++ x ∷ []) → without_row x (s ++ x ∷ []) ≡ s
without_row-last low high s x r =
    let no_end : s ++ [] ≡ s = append-nil s in
    without_row-append x s (x ∷ []) ∙ (λ k. without_row-absent x s absent k ++ without_row-one x k) ∙ no_end
  where
    absent : Among x s → ⊥
    absent a = omega (arith, below_last low high x s x r a)

-- ---- one member fewer
pub length-without_row : (i low high : ℕ) (s : List ℕ) → RisesWithin low high s → Among i s → length (without_row i s) + 1 ≡ length s
length-without_row i low high [] r h = absurd h
length-without_row i low high (j ∷ s) r h =
    elim (cases_eq j i) [
      | inl e ↦ rw (eq-eqb j i e, without_row-absent i s (λ a. omega (arith, (Among_within j high i s r.2 a).0))) (omega arith)
      | inr f ↦ rw (ne_eqb j i f) (behind (length (without_row i s)) (length s) (length-without_row i j high s r.2 (elim h [ inl e ↦ absurd (f (sym e)) | inr a ↦ a ])))
    ]
  where
    behind : (m n : ℕ) → m + 1 ≡ n → suc m + 1 ≡ suc n
    behind m n e = omega arith

-- ---- subsets
module _ (i j high high' : ℕ) (t s : List ℕ) (p : RisesWithin i high t) (sub : (k : ℕ) → Among k (i ∷ t) → Among k (j ∷ s)) where
  tail_subset : i ≡ j → (k : ℕ) → Among k t → Among k s
  tail_subset e k a = elim (sub k (inr a)) [ inl f ↦ absurd (omega (arith, (Among_within i high k t p a).0)) | inr b ↦ b ]

  skip_subset : j < i → (k : ℕ) → Among k (i ∷ t) → Among k s
  skip_subset l k (inl e) = elim (sub k (inl e)) [ inl f ↦ absurd (omega arith) | inr b ↦ b ]
  skip_subset l k (inr a) = elim (sub k (inr a)) [ inl f ↦ absurd (omega (arith, (Among_within i high k t p a).0)) | inr b ↦ b ]

-- a subset has no more members
pub subset_length : (low low' high high' : ℕ) (s t : List ℕ) → RisesWithin low high t → RisesWithin low' high' s → ((i : ℕ) → Among i t → Among i s) → length t ≤ length s
subset_length low low' high high' [] [] p q f = omega arith
subset_length low low' high high' [] (i ∷ t) p q f = absurd (f i (inl refl))
subset_length low low' high high' (j ∷ s) [] p q f = omega arith
subset_length low low' high high' (j ∷ s) (i ∷ t) p q f =
    elim (f i (inl refl)) [
      | inl e ↦ same (length t) (length s) (subset_length i j high high' s t p.2 q.2 (tail_subset i j high high' t s p.2 f e))
      | inr a ↦ more (length t) (length s) (subset_length low j high high' s (i ∷ t) p q.2 (skip_subset i j high high' t s p.2 f (Among_within j high' i s q.2 a).0))
    ]
  where
    same : (m n : ℕ) → m ≤ n → suc m ≤ suc n
    same m n h = omega arith

    more : (m n : ℕ) → suc m ≤ n → suc m ≤ suc n
    more m n h = omega arith

-- a subset with as many members is the whole
pub whole : (low low' high high' : ℕ) (t s : List ℕ) → RisesWithin low high t → RisesWithin low' high' s → ((i : ℕ) → Among i t → Among i s) → length s ≤ length t → t ≡ s
whole low low' high high' [] [] p q f l = refl
whole low low' high high' [] (j ∷ s) p q f l = absurd (omega arith)
whole low low' high high' (i ∷ t) [] p q f l = absurd (f i (inl refl))
whole low low' high high' (i ∷ t) (j ∷ s) p q f l =
    elim (f i (inl refl)) [
      | inl e ↦ both e (whole i j high high' t s p.2 q.2 (tail_subset i j high high' t s p.2 f e) (omega arith))
      | inr a ↦ absurd (omega (arith, subset_length low j high high' s (i ∷ t) p q.2 (skip_subset i j high high' t s p.2 f (Among_within j high' i s q.2 a).0)))
    ]
  where
    both : i ≡ j → t ≡ s → i ∷ t ≡ j ∷ s
    both e g = λ k. e k ∷ g k

-- a subset with one member fewer is the set without one of its members
pub lacked_row : (low low' high high' : ℕ) (s t : List ℕ) → RisesWithin low high t → RisesWithin low' high' s → ((i : ℕ) → Among i t → Among i s) → length t + 1 ≡ length s → (m : ℕ) × Among m s × (t ≡ without_row m s)
lacked_row low low' high high' [] t p q f l = absurd (omega arith)
lacked_row low low' high high' (j ∷ []) [] p q f l = (j, inl refl, sym (without_row-one j))
lacked_row low low' high high' (j ∷ k ∷ s) [] p q f l = absurd (omega arith)
lacked_row low low' high high' (j ∷ s) (i ∷ t) p q f l =
    elim (f i (inl refl)) [
      | inl e ↦ kept e (lacked_row i j high high' s t p.2 q.2 (tail_subset i j high high' t s p.2 f e) (omega arith))
      | inr a ↦ (j, inl refl, whole low j high high' (i ∷ t) s p q.2 (skip_subset i j high high' t s p.2 f (Among_within j high' i s q.2 a).0) (omega arith) ∙ sym (dropped j s (λ b. omega (arith, (Among_within j high' j s q.2 b).0))))
    ]
  where
    dropped : (j : ℕ) (s : List ℕ) → (Among j s → ⊥) → without_row j (j ∷ s) ≡ s
    dropped j s h = rw (eq-eqb j j refl) (without_row-absent j s h)

    kept : i ≡ j → (m : ℕ) × Among m s × (t ≡ without_row m s) → (m : ℕ) × Among m (j ∷ s) × (i ∷ t ≡ without_row m (j ∷ s))
    kept e (m, a, g) = let other : j ≡ m → ⊥ = λ f. omega (arith, (Among_within j high' m s q.2 a).0) in (m, inr a, rw (ne_eqb j m other) (λ k. e k ∷ g k))

-- ---- places
pub length-rises : (low high : ℕ) (s : List ℕ) → low ≤ high → RisesWithin low high s → length s + low ≤ high
length-rises low high [] h r = omega arith
length-rises low high (j ∷ s) h r = omega (arith, length-rises j high s r.1 r.2, r.0)

pub Among_at : (s : List ℕ) (k : ℕ) → k < length s → Among (get_or s k 0) s
Among_at [] k h = absurd (omega arith)
Among_at (j ∷ s) zero h = inl refl
Among_at (j ∷ s) (suc k) h = inr (Among_at s k (omega arith))

pub greatest_last : (t low high : ℕ) (s : List ℕ) → RisesWithin low high s → Among t s → ((i : ℕ) → Among i s → i ≤ t) → s ≡ without_row t s ++ t ∷ []
greatest_last t low high [] r a most = absurd a
greatest_last t low high (j ∷ []) r (inl e) most = rw (eq-eqb j t (sym e)) (λ n. sym e n ∷ [])
greatest_last t low high (j ∷ []) r (inr a) most = absurd a
greatest_last t low high (j ∷ k ∷ s) r (inl e) most = absurd (omega (arith, r.2.0, most k (inr (inl refl))))
greatest_last t low high (j ∷ k ∷ s) r (inr a) most =
    let other : j ≡ t → ⊥ = λ e. omega (arith, (Among_within j high t (k ∷ s) r.2 a).0) in
    behind other (greatest_last t j high (k ∷ s) r.2 a (λ i b. most i (inr b)))
  where
    behind : (j ≡ t → ⊥) → k ∷ s ≡ without_row t (k ∷ s) ++ t ∷ [] → j ∷ k ∷ s ≡ without_row t (j ∷ k ∷ s) ++ t ∷ []
    behind other e = rw (ne_eqb j t other) (ap (λ u. j ∷ u) e)
