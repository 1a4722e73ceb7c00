-- Tests on the numbers of a window: where they change.
use Rattle.std.proofs.Common.{◌≡◌, ℕ, zero, suc, ◌+◌, ◌-◌, ◌<◌, ◌≤◌, Bool, true, false, not, sym, ◌∙◌, ap, subst, arith, ◌⊎◌, inl, inr, ⊎_elim, add-suc, add-zero, add-sub_of_le}
use Rattle.std.proofs.lemmas.Bool.{cases_eq, cases_lt, cases_Bool, both_ways, not-true, not-false, not_from_true, not_from_false}

-- in i .. j - 1 the test turns from false to true
pub record Rises (f : ℕ → Bool) (i j : ℕ) : Type 0 where
  pub at : ℕ
  pub from : i ≤ at
  pub to : at < j
  pub before : f at ≡ false
  pub after : f (suc at) ≡ true

rises_over : (f : ℕ → Bool) (a c : ℕ) → f a ≡ false → f (a + c) ≡ true → Rises f a (a + c)
rises_over f a zero h k = absurd (both_ways (f a) h (subst (λ z. f z ≡ true) (add-zero a) k))
rises_over f a (suc c) h k = by (cases_Bool (f (a + c))) (rises_over f a c h)
  where
    by : (f (a + c) ≡ true) ⊎ (f (a + c) ≡ false) → (f (a + c) ≡ true → Rises f a (a + c)) → Rises f a (a + suc c)
    by (inl e) r = let w = r e in record { at = w.at; from = w.from; to = omega arith; before = w.before; after = w.after }
    by (inr e) r = record { at = a + c; from = omega arith; to = omega arith; before = e; after = subst (λ z. f z ≡ true) (add-suc a c) k }

pub rises_between : (f : ℕ → Bool) (a b : ℕ) → a ≤ b → f a ≡ false → f b ≡ true → Rises f a b
rises_between f a b l h k = subst (λ z. Rises f a z) (add-sub_of_le l) (rises_over f a (b - a) h (subst (λ z. f z ≡ true) (sym (add-sub_of_le l)) k))

wider : (f : ℕ → Bool) (i j a b : ℕ) → i ≤ a → b ≤ j → Rises f a b → Rises f i j
wider f i j a b h k r = record { at = r.at; from = omega arith; to = omega arith; before = r.before; after = r.after }

-- a test that is the same at both ends of a window, and false and true within, rises in the window
pub rises_around : (f : ℕ → Bool) (i j p q : ℕ) → i ≤ p → p ≤ j → i ≤ q → q ≤ j → f i ≡ f j → f p ≡ false → f q ≡ true → Rises f i j
rises_around f i j p q ip pj iq qj e h k = by (cases_lt q p) (cases_Bool (f i))
  where
    by : (q < p) ⊎ (p ≤ q) → (f i ≡ true) ⊎ (f i ≡ false) → Rises f i j
    by (inl l) (inl t) = wider f i j p j ip (omega arith) (rises_between f p j pj h (sym e ∙ t))
    by (inl l) (inr t) = wider f i j i q (omega arith) qj (rises_between f i q iq t k)
    by (inr l) t = wider f i j p q ip qj (rises_between f p q l h k)

-- in i .. j - 1 the test turns from true to false
pub record Falls (f : ℕ → Bool) (i j : ℕ) : Type 0 where
  pub at : ℕ
  pub from : i ≤ at
  pub to : at < j
  pub before : f at ≡ true
  pub after : f (suc at) ≡ false

pub falls_around : (f : ℕ → Bool) (i j p q : ℕ) → i ≤ p → p ≤ j → i ≤ q → q ≤ j → f i ≡ f j → f p ≡ false → f q ≡ true → Falls f i j
falls_around f i j p q ip pj iq qj e h k =
    let r = rises_around (λ z. not (f z)) i j q p iq qj ip pj (ap not e) (not_from_true (f q) k) (not_from_false (f p) h) in
    record { at = r.at; from = r.from; to = r.to; before = not-false (f r.at) r.before; after = not-true (f (suc r.at)) r.after }

-- the greatest value in a window
pub record Greatest (g : ℕ → ℕ) (i j : ℕ) : Type 0 where
  pub at : ℕ
  pub from : i ≤ at
  pub to : at < j
  pub most : (k : ℕ) → i ≤ k → k < j → g k ≤ g at

greatest_over : (g : ℕ → ℕ) (i c : ℕ) → Greatest g i (suc (i + c))
greatest_over g i zero = record { at = i; from = omega arith; to = omega arith; most = λ k h l. let e : k ≡ i = omega arith in subst (λ z. g z ≤ g i) (sym e) (omega arith) }
greatest_over g i (suc c) = by (greatest_over g i c)
  where
    at_end : (m : ℕ) → ((k : ℕ) → i ≤ k → k < suc (i + c) → g k ≤ m) → g (i + suc c) ≤ m → (k : ℕ) → i ≤ k → k < suc (i + suc c) → g k ≤ m
    at_end m h e k a b = ⊎_elim (λ p. subst (λ z. g z ≤ m) (sym p) e) (λ p. h k a (omega arith)) (cases_eq k (i + suc c))

    by : Greatest g i (suc (i + c)) → Greatest g i (suc (i + suc c))
    by w =
        ⊎_elim
        (λ l. record { at = i + suc c; from = omega arith; to = omega arith; most = at_end (g (i + suc c)) (λ k a b. let h : g k ≤ g w.at = w.most k a b in omega arith) (omega arith) })
        (λ l. record { at = w.at; from = w.from; to = let h : w.at < suc (i + c) = w.to in omega arith; most = at_end (g w.at) w.most l })
        (cases_lt (g w.at) (g (i + suc c)))

pub greatest : (g : ℕ → ℕ) (i j : ℕ) → i < j → Greatest g i j
greatest g i j h = let e : suc (i + (j - suc i)) ≡ j = omega arith in subst (λ z. Greatest g i z) e (greatest_over g i (j - suc i))
