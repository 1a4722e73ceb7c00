-- More values than places: two of them are equal. Tests on the numbers below n are told apart by a code below 2^n.
use Rattle.std.proofs.Common.{◌≡◌, ℕ, zero, suc, ◌+◌, ◌^◌, ◌<◌, ◌≤◌, Bool, true, false, cond, eqb, Option, Some, None, refl, sym, ◌∙◌, subst, arith, ◌⊎◌, inl, inr, eq-eqb, eqb-true, ne_eqb, pow-suc}
use Rattle.std.proofs.lemmas.Bool.{cond-true, cond-false, cases_eq, eqb-false}
use Rattle.mpc_rows.specs.Least.{least}
use Rattle.mpc_runs.proofs.LeastLemmas.{LeastIs, least-is}

-- two of the values f 0 .. f (n - 1) are equal
pub record Twice (f : ℕ → ℕ) (n : ℕ) : Type 0 where
  pub first : ℕ
  pub second : ℕ
  pub order : first < second
  pub below : second < n
  pub same : f first ≡ f second

-- f with the value m renamed to v
abbrev renamed : (ℕ → ℕ) → ℕ → ℕ → ℕ → ℕ
renamed f m v k = cond (eqb (f k) m) v (f k)

renamed_below : (f : ℕ → ℕ) (m v k : ℕ) → f k < suc m → v < suc m → (f k ≡ v → ⊥) → renamed f m v k < m
renamed_below f m v k h h' ne = by (cases_eq (f k) m)
  where
    by : (f k ≡ m) ⊎ (f k ≡ m → ⊥) → renamed f m v k < m
    by (inl e) = subst (λ z. z < m) (sym (cond-true (eqb (f k) m) v (f k) (eq-eqb (f k) m e))) (omega (arith, λ (q : v ≡ m). ne (e ∙ sym q)))
    by (inr e) = subst (λ z. z < m) (sym (cond-false (eqb (f k) m) v (f k) (ne_eqb (f k) m e))) (omega arith)

renamed_same : (f : ℕ → ℕ) (m v i j : ℕ) → (f i ≡ v → ⊥) → (f j ≡ v → ⊥) → renamed f m v i ≡ renamed f m v j → f i ≡ f j
renamed_same f m v i j h k e = by (cases_eq (f i) m) (cases_eq (f j) m)
  where
    by : (f i ≡ m) ⊎ (f i ≡ m → ⊥) → (f j ≡ m) ⊎ (f j ≡ m → ⊥) → f i ≡ f j
    by (inl a) (inl b) = a ∙ sym b
    by (inl a) (inr b) = absurd (k (sym (cond-false (eqb (f j) m) v (f j) (ne_eqb (f j) m b)) ∙ sym e ∙ cond-true (eqb (f i) m) v (f i) (eq-eqb (f i) m a)))
    by (inr a) (inl b) = absurd (h (sym (cond-false (eqb (f i) m) v (f i) (ne_eqb (f i) m a)) ∙ e ∙ cond-true (eqb (f j) m) v (f j) (eq-eqb (f j) m b)))
    by (inr a) (inr b) = sym (cond-false (eqb (f i) m) v (f i) (ne_eqb (f i) m a)) ∙ e ∙ cond-false (eqb (f j) m) v (f j) (ne_eqb (f j) m b)

-- n values below m, where m is below n
pub pigeonhole : (m n : ℕ) (f : ℕ → ℕ) → ((k : ℕ) → k < n → f k < m) → m < n → Twice f n
pigeonhole m zero f h l = absurd (omega arith)
pigeonhole zero (suc n) f h l = let w : f 0 < 0 = h 0 (omega arith) in absurd (omega arith)
pigeonhole (suc m) (suc n) f h l = by (least (λ k. eqb (f k) (f n)) n) (least-is (λ k. eqb (f k) (f n)) n) (λ ne. pigeonhole m n (renamed f m (f n)) (λ k b. renamed_below f m (f n) k (h k (omega arith)) (h n (omega arith)) (ne k b)) (omega arith))
  where
    back : ((k : ℕ) → k < n → f k ≡ f n → ⊥) → Twice (renamed f m (f n)) n → Twice f (suc n)
    back ne w =
        let b : w.second < n = w.below in
        let o : w.first < w.second = w.order in
        record { first = w.first; second = w.second; order = w.order; below = omega arith; same = renamed_same f m (f n) w.first w.second (ne w.first (omega arith)) (ne w.second b) w.same }

    by : (o : Option ℕ) → LeastIs (λ k. eqb (f k) (f n)) n o → (((k : ℕ) → k < n → f k ≡ f n → ⊥) → Twice (renamed f m (f n)) n) → Twice f (suc n)
    by (Some k) w r = record { first = k; second = n; order = w.below; below = omega arith; same = eqb-true (f k) (f n) w.passes }
    by None w r = let ne : (k : ℕ) → k < n → f k ≡ f n → ⊥ = λ k b. eqb-false (f k) (f n) (w k b) in back ne (r ne)

-- ---- the code of a test on the numbers below n
digit : Bool → ℕ → ℕ
digit true w = w
digit false w = 0

code : ℕ → (ℕ → Bool) → ℕ
code zero f = 0
code (suc n) f = code n f + digit (f n) (2 ^ n)

digit-le : (b : Bool) (w : ℕ) → digit b w ≤ w
unfolding digit
digit-le true w = omega arith
digit-le false w = omega arith

code_below : (n : ℕ) (f : ℕ → Bool) → code n f < 2 ^ n
unfolding code
code_below zero f = omega arith
code_below (suc n) f = rw (pow-suc 2 n) (omega (arith, code_below n f, digit-le (f n) (2 ^ n)))

digit_same : (b c : Bool) (w x y : ℕ) → x < w → y < w → x + digit b w ≡ y + digit c w → (x ≡ y) × (b ≡ c)
unfolding digit
digit_same true true w x y h k e = (omega arith, refl)
digit_same true false w x y h k e = absurd (omega arith)
digit_same false true w x y h k e = absurd (omega arith)
digit_same false false w x y h k e = (omega arith, refl)

code_same : (n : ℕ) (f g : ℕ → Bool) → code n f ≡ code n g → (x : ℕ) → x < n → f x ≡ g x
unfolding code
code_same zero f g e x h = absurd (omega arith)
code_same (suc n) f g e x h = by (cases_eq x n) (digit_same (f n) (g n) (2 ^ n) (code n f) (code n g) (code_below n f) (code_below n g) e) (λ d l. code_same n f g d x l)
  where
    by : (x ≡ n) ⊎ (x ≡ n → ⊥) → (code n f ≡ code n g) × (f n ≡ g n) → (code n f ≡ code n g → x < n → f x ≡ g x) → f x ≡ g x
    by (inl p) d r = subst (λ z. f z ≡ g z) (sym p) d.1
    by (inr p) d r = r d.0 (omega arith)

-- two of more than 2^n tests agree below n
pub record Agree (n : ℕ) (f : ℕ → ℕ → Bool) (m : ℕ) : Type 0 where
  pub first : ℕ
  pub second : ℕ
  pub order : first < second
  pub below : second < m
  pub same : (x : ℕ) → x < n → f first x ≡ f second x

pub two_agree : (n m : ℕ) (f : ℕ → ℕ → Bool) → 2 ^ n < m → Agree n f m
two_agree n m f h =
    let w = pigeonhole (2 ^ n) m (λ k. code n (f k)) (λ k l. code_below n (f k)) h in
    record { first = w.first; second = w.second; order = w.order; below = w.below; same = code_same n (f w.first) (f w.second) w.same }
