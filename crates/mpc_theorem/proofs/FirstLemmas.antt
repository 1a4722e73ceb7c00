-- The first place of a list that doesn't pass, in stretches and by its number.
use Rattle.std.proofs.Common.{◌≡◌, ℕ, zero, suc, ◌+◌, ◌<◌, ◌≤◌, ◌⊎◌, inl, inr, List, [], ◌∷◌, ◌++◌, Some, slice_get, refl, subst, sym, arith}
use Rattle.std.specs.Prelude.{All}
use Rattle.std.proofs.lemmas.Bool.{cases_order}
use Rattle.std.proofs.lemmas.Option.{slice_get_within, get_or_from_slice_get}
use Rattle.std.proofs.lemmas.List.Elements.{All-nil, All-cons, All-head, All-tail, All-get_or}
use Rattle.mpc_theorem.specs.Firsts.{IsFirstOf, numbered}

module _ {A : Type 0} (passes : A → Type 0) where
  -- ---- one stretch behind another
  pub first_left : (xs ys : List A) (a : A) → IsFirstOf passes xs a → IsFirstOf passes (xs ++ ys) a
  first_left [] ys a h = absurd h
  first_left (x ∷ xs) ys a (inl h) = inl h
  first_left (x ∷ xs) ys a (inr h) = inr (h.0, first_left xs ys a h.1)

  pub first_right : (xs ys : List A) (a : A) → All passes xs → IsFirstOf passes ys a → IsFirstOf passes (xs ++ ys) a
  first_right [] ys a all h = h
  first_right (x ∷ xs) ys a all h = inr (All-head passes x xs all, first_right xs ys a (All-tail passes x xs all) h)

  pub first_parts : (xs ys : List A) (a : A) → IsFirstOf passes (xs ++ ys) a → IsFirstOf passes xs a ⊎ (All passes xs × IsFirstOf passes ys a)
  first_parts [] ys a h = inr (All-nil passes, h)
  first_parts (x ∷ xs) ys a (inl h) = inl (inl h)
  first_parts (x ∷ xs) ys a (inr h) = by (first_parts xs ys a h.1)
    where
      by : IsFirstOf passes xs a ⊎ (All passes xs × IsFirstOf passes ys a) → IsFirstOf passes (x ∷ xs) a ⊎ (All passes (x ∷ xs) × IsFirstOf passes ys a)
      by (inl k) = inl (inr (h.0, k))
      by (inr k) = inr (All-cons passes x xs h.0 k.0, k.1)

  pub all_left : (xs ys : List A) → All passes (xs ++ ys) → All passes xs
  all_left [] ys h = All-nil passes
  all_left (x ∷ xs) ys h = All-cons passes x xs (All-head passes x (xs ++ ys) h) (all_left xs ys (All-tail passes x (xs ++ ys) h))

  pub all_right : (xs ys : List A) → All passes (xs ++ ys) → All passes ys
  all_right [] ys h = h
  all_right (x ∷ xs) ys h = all_right xs ys (All-tail passes x (xs ++ ys) h)

  -- ---- by the places of a list, from 0
  pub all_at : (xs : List A) → ((k : ℕ) (x : A) → slice_get xs k ≡ Some x → passes x) → All passes xs
  all_at [] h = All-nil passes
  all_at (x ∷ xs) h = All-cons passes x xs (h 0 x refl) (all_at xs (λ k y e. h (suc k) y e))

  pub at_all : (xs : List A) (k : ℕ) (x : A) → All passes xs → slice_get xs k ≡ Some x → passes x
  at_all xs k x h e = subst passes (get_or_from_slice_get xs k x x e) (All-get_or passes xs k x (slice_get_within xs k x e) h)

  -- ---- numbered places
  module _ (place : ℕ → A) where
    pub each_numbered : (from count k : ℕ) → All passes (numbered place from count) → from ≤ k → k < from + count → passes (place k)
    each_numbered from zero k h low high = absurd (omega (arith, low, high))
    each_numbered from (suc count) k h low high = by (λ l. each_numbered (suc from) count k (All-tail passes (place from) (numbered place (suc from) count) h) l (omega (arith, high))) (cases_order from k)
      where
        by : (from < k → passes (place k)) → (from ≡ k) ⊎ ((from < k) ⊎ (k < from)) → passes (place k)
        by later (inl e) = subst (λ i. passes (place i)) e (All-head passes (place from) (numbered place (suc from) count) h)
        by later (inr (inl l)) = later l
        by later (inr (inr l)) = absurd (omega (arith, low, l))

    pub numbered_each : (from count : ℕ) → ((k : ℕ) → from ≤ k → k < from + count → passes (place k)) → All passes (numbered place from count)
    numbered_each from zero h = All-nil passes
    numbered_each from (suc count) h =
        All-cons passes (place from) (numbered place (suc from) count) (h from (omega arith) (omega arith)) (numbered_each (suc from) count (λ k low high. h k (omega (arith, low)) (omega (arith, high))))

    -- by its number
    pub record IsFirstNumber (from count : ℕ) (a : A) : Type 0 where
      pub number : ℕ
      pub low : from ≤ number
      pub high : number < from + count
      pub is : a ≡ place number
      pub before : (k : ℕ) → from ≤ k → k < number → passes (place k)
      pub here : ¬ passes (place number)

    pub to_number : (from count : ℕ) (a : A) → IsFirstOf passes (numbered place from count) a → IsFirstNumber from count a
    to_number from zero a h = absurd h
    to_number from (suc count) a (inl h) = record { number = from; low = omega arith; high = omega arith; is = h.0; before = λ k low high. absurd (omega (arith, low, high)); here = h.1 }
    to_number from (suc count) a (inr h) =
        let later = to_number (suc from) count a h.1 in
        record { number = later.number; low = omega (arith, later.low); high = omega (arith, later.high); is = later.is; before = before later; here = later.here }
      where
        before : (later : IsFirstNumber (suc from) count a) (k : ℕ) → from ≤ k → k < later.number → passes (place k)
        before later k low high = by (cases_order from k)
          where
            by : (from ≡ k) ⊎ ((from < k) ⊎ (k < from)) → passes (place k)
            by (inl e) = subst (λ i. passes (place i)) e h.0
            by (inr (inl l)) = later.before k l high
            by (inr (inr l)) = absurd (omega (arith, low, l))

    pub of_number : (from count : ℕ) (a : A) → IsFirstNumber from count a → IsFirstOf passes (numbered place from count) a
    of_number from zero a h = absurd (omega (arith, h.low, h.high))
    of_number from (suc count) a h =
        by (λ l. of_number (suc from) count a (record { number = h.number; low = l; high = omega (arith, h.high); is = h.is; before = λ k low high. h.before k (omega (arith, low)) high; here = h.here })) (cases_order from h.number)
      where
        by : (from < h.number → IsFirstOf passes (numbered place (suc from) count) a) → (from ≡ h.number) ⊎ ((from < h.number) ⊎ (h.number < from)) → IsFirstOf passes (numbered place from (suc count)) a
        by later (inl e) = inl (subst (λ i. a ≡ place i) (sym e) h.is, subst (λ i. ¬ passes (place i)) (sym e) h.here)
        by later (inr (inl l)) = inr (h.before from (omega arith) l, later l)
        by later (inr (inr l)) = absurd (let low = h.low in omega (arith, low, l))
