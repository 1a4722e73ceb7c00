-- Linear arithmetic over the fractions. The hypotheses are read as polynomials, whose monomials are taken for unknowns; multipliers
-- that refute them are looked for by Fourier and Motzkin's elimination, as a computation that nothing is proved of; and the sum of the
-- hypotheses, each times its multiplier, is then put into the ring's normal form, which shows a negative constant.
use Prim.Native.Nat.{Ordering}
use Rattle.std.proofs.Common.{◌≡◌, ℕ, zero, suc, ◌+◌, ◌*◌, List, [], ◌∷◌, Bool, true, false, ◌||◌, T, ℤ, pos, negsuc, nat_abs, sym, ◌∙◌, ap, subst, ⊎_elim, zero-lt-suc}
use Rattle.mpc_exact.specs.Rational.{ℚ, int, ◌+ℚ◌, ◌-ℚ◌, ◌*ℚ◌, neg_ℚ, ◌≤ℚ◌, ◌<ℚ◌}
use Rattle.mpc_exact.proofs.Ring.{Expr, con, ◌⊕◌, ◌⊗◌, ◌⊖◌, Poly, nil, term, order, plus, scale, norm, Read, eval, norm-poly, poly}
use Rattle.mpc_exact.proofs.Rational.{rational_ring, +ℚ_comm, int-add}
use Rattle.std.proofs.Math.IntN.{+ℤ_invr}
use Rattle.mpc_exact.proofs.RationalRing.{reads, by_ring}
use Rattle.mpc_exact.proofs.RationalOrder.{IsNonneg, IsPositive, gap, strict_gap, nonneg-add, nonneg-mul, nonneg_int, positive-add, positive-mul, positive_int, le_or_lt, ≤ℚ_of_<, <ℚ_irrefl, ≤ℚ_refl}

-- ---- the search for multipliers
-- 0 ≤ p, or 0 < p where the flag is set, as the sum of the hypotheses, each times its number
pub data Row : Type 0 where
  row : Bool → Poly → List ℕ → Row

abbrev pub coefficient : List ℕ → Poly → ℤ
coefficient m nil = pos 0
coefficient m (term c n p) = elim (order m n) [ Ordering.lt ↦ pos 0 | Ordering.eq ↦ c | Ordering.gt ↦ pos 0 ]

abbrev pub coefficient_in : List ℕ → Row → ℤ
coefficient_in m (row s p w) = coefficient m p

-- the greatest monomial
abbrev pub greatest : List Row → List ℕ → List ℕ
greatest [] m = m
greatest (row s nil w ∷ rs) m = greatest rs m
greatest (row s (term c n p) w ∷ rs) m = elim (order m n) [ Ordering.lt ↦ greatest rs m | Ordering.eq ↦ greatest rs m | Ordering.gt ↦ greatest rs n ]

abbrev pub positives : List ℕ → List Row → List Row
positives m [] = []
positives m (r ∷ rs) = elim (coefficient_in m r) [ pos zero ↦ positives m rs | pos (suc c) ↦ r ∷ positives m rs | negsuc c ↦ positives m rs ]

abbrev pub negatives : List ℕ → List Row → List Row
negatives m [] = []
negatives m (r ∷ rs) = elim (coefficient_in m r) [ pos zero ↦ negatives m rs | pos (suc c) ↦ negatives m rs | negsuc c ↦ r ∷ negatives m rs ]

abbrev pub others : List ℕ → List Row → List Row
others m [] = []
others m (r ∷ rs) = elim (coefficient_in m r) [ pos zero ↦ r ∷ others m rs | pos (suc c) ↦ others m rs | negsuc c ↦ others m rs ]

abbrev pub times_all : ℕ → List ℕ → List ℕ
times_all k [] = []
times_all k (n ∷ ns) = (k * n) ∷ times_all k ns

abbrev pub add_all : List ℕ → List ℕ → List ℕ
add_all [] ns = ns
add_all (m ∷ ms) [] = m ∷ ms
add_all (m ∷ ms) (n ∷ ns) = (m + n) ∷ add_all ms ns

abbrev pub cancel : List ℕ → Row → Row → Row
cancel m (row s p w) (row t q v) =
    let a = nat_abs (coefficient m p) in
    let b = nat_abs (coefficient m q) in
    row (s || t) (plus (scale (pos b) [] p) (scale (pos a) [] q)) (add_all (times_all b w) (times_all a v))

abbrev pub cancel_each : List ℕ → Row → List Row → List Row → List Row
cancel_each m r [] rest = rest
cancel_each m r (n ∷ ns) rest = cancel m r n ∷ cancel_each m r ns rest

abbrev pub cancel_all : List ℕ → List Row → List Row → List Row → List Row
cancel_all m [] ns rest = rest
cancel_all m (p ∷ ps) ns rest = cancel_each m p ns (cancel_all m ps ns rest)

-- the polynomial cannot be positive, or not negative
abbrev pub refuted : Bool → Poly → Bool
refuted true nil = true
refuted false nil = false
refuted s (term (pos c) m p) = false
refuted s (term (negsuc c) [] nil) = true
refuted s (term (negsuc c) [] (term d n p)) = false
refuted s (term (negsuc c) (i ∷ m) p) = false

abbrev pub pick : List Row → List ℕ
pick [] = []
pick (row s p w ∷ rs) = elim (refuted s p) [ true ↦ w | false ↦ pick rs ]

abbrev pub eliminate : ℕ → List Row → List ℕ
eliminate zero rs = pick rs
eliminate (suc k) rs = elim (greatest rs []) [ [] ↦ pick rs | i ∷ m ↦ eliminate k (cancel_all (i ∷ m) (positives (i ∷ m) rs) (negatives (i ∷ m) rs) (others (i ∷ m) rs)) ]

abbrev pub unit : ℕ → List ℕ
unit zero = 1 ∷ []
unit (suc k) = 0 ∷ unit k

abbrev pub rows : ℕ → List (Bool × Expr) → List Row
rows k [] = []
rows k (h ∷ hs) = row h.0 (norm h.1) (unit k) ∷ rows (suc k) hs

abbrev pub multipliers : List (Bool × Expr) → List ℕ
multipliers hs = eliminate 40 (rows 0 hs)

-- ---- the check
abbrev pub total : List ℕ → List (Bool × Expr) → Expr
total [] hs = con (pos 0)
total (m ∷ ms) [] = con (pos 0)
total (m ∷ ms) (h ∷ hs) = con (pos m) ⊗ h.1 ⊕ total ms hs

-- one that is strict is used
abbrev pub is_strict : List ℕ → List (Bool × Expr) → Bool
is_strict [] hs = false
is_strict (m ∷ ms) [] = false
is_strict (zero ∷ ms) (h ∷ hs) = is_strict ms hs
is_strict (suc m ∷ ms) (h ∷ hs) = h.0 || is_strict ms hs

abbrev pub contradicts : List ℕ → List (Bool × Expr) → Bool
contradicts ms hs = refuted (is_strict ms hs) (norm (total ms hs))

abbrev pub Sign : Bool → ℚ → Type 0
Sign true x = IsPositive x
Sign false x = IsNonneg x

abbrev pub Hold : List ℚ → List (Bool × Expr) → Type 0
Hold xs [] = Unit {0}
Hold xs (h ∷ hs) = Sign h.0 (eval rational_ring xs h.1) × Hold xs hs

weak : (s : Bool) (x : ℚ) → Sign s x → IsNonneg x
weak true x h = ≤ℚ_of_< h
weak false x h = h

total_nonneg : (xs : List ℚ) (ms : List ℕ) (hs : List (Bool × Expr)) → Hold xs hs → IsNonneg (eval rational_ring xs (total ms hs))
total_nonneg xs [] hs h = nonneg_int 0
total_nonneg xs (m ∷ ms) [] h = nonneg_int 0
total_nonneg xs (m ∷ ms) (e ∷ hs) h = nonneg-add (nonneg-mul (nonneg_int m) (weak e.0 (eval rational_ring xs e.1) h.0)) (total_nonneg xs ms hs h.1)

positive_last : {x y : ℚ} → IsNonneg x → IsPositive y → IsPositive (x +ℚ y)
positive_last {x} {y} h k = subst IsPositive (+ℚ_comm y x) (positive-add k h)

total_positive : (xs : List ℚ) (ms : List ℕ) (hs : List (Bool × Expr)) → Hold xs hs → T (is_strict ms hs) → IsPositive (eval rational_ring xs (total ms hs))
total_positive xs [] hs h t = absurd t
total_positive xs (m ∷ ms) [] h t = absurd t
total_positive xs (zero ∷ ms) (e ∷ hs) h t = positive_last (nonneg-mul (nonneg_int 0) (weak e.0 (eval rational_ring xs e.1) h.0)) (total_positive xs ms hs h.1 t)
total_positive xs (suc m ∷ ms) (e ∷ hs) h t = by (total_positive xs ms hs h.1) e.0 h.0 t
  where
    by : (T (is_strict ms hs) → IsPositive (eval rational_ring xs (total ms hs))) → (s : Bool) → Sign s (eval rational_ring xs e.1) → T (s || is_strict ms hs) → IsPositive (int (pos (suc m)) *ℚ eval rational_ring xs e.1 +ℚ eval rational_ring xs (total ms hs))
    by ih true p u = positive-add (positive-mul (positive_int (suc m) (zero-lt-suc m)) p) (total_nonneg xs ms hs h.1)
    by ih false p u = positive_last (nonneg-mul (nonneg_int (suc m)) p) (ih u)

opposite : (n m : ℚ) → n +ℚ m ≡ int (pos 0) → n +ℚ (m *ℚ int (pos 1) +ℚ int (pos 0)) ≡ int (pos 0)
opposite n m e = by_ring (n ∷ m ∷ []) (search reads depth 30) (search reads depth 30) tt ∙ e

-- a negative constant
negative : (xs : List ℚ) (c : ℕ) → IsNonneg (poly rational_ring xs (term (negsuc c) [] nil)) → ⊥
negative xs c h =
    <ℚ_irrefl (subst IsPositive (opposite (int (pos (suc c))) (int (negsuc c)) (sym (int-add (pos (suc c)) (negsuc c)) ∙ ap int (+ℤ_invr (pos (suc c))))) (positive-add (positive_int (suc c) (zero-lt-suc c)) h))

refute_by : (xs : List ℚ) (s : Bool) (p : Poly) → IsNonneg (poly rational_ring xs p) → (T s → IsPositive (poly rational_ring xs p)) → T (refuted s p) → ⊥
refute_by xs true nil h k t = <ℚ_irrefl (k tt)
refute_by xs false nil h k t = t
refute_by xs true (term (pos c) m p) h k t = t
refute_by xs false (term (pos c) m p) h k t = t
refute_by xs true (term (negsuc c) [] nil) h k t = negative xs c h
refute_by xs false (term (negsuc c) [] nil) h k t = negative xs c h
refute_by xs true (term (negsuc c) [] (term d n p)) h k t = t
refute_by xs false (term (negsuc c) [] (term d n p)) h k t = t
refute_by xs true (term (negsuc c) (i ∷ m) p) h k t = t
refute_by xs false (term (negsuc c) (i ∷ m) p) h k t = t

pub refute : (xs : List ℚ) (ms : List ℕ) (hs : List (Bool × Expr)) → Hold xs hs → T (contradicts ms hs) → ⊥
refute xs ms hs h t =
    let e = sym (norm-poly rational_ring xs (total ms hs)) in
    refute_by xs (is_strict ms hs) (norm (total ms hs)) (subst IsNonneg e (total_nonneg xs ms hs h)) (λ s. subst IsPositive e (total_positive xs ms hs h s)) t

-- ---- facts, as they are given, and their reading
pub data Claim : Type 0 where
  at_most : ℚ → ℚ → Claim
  below : ℚ → ℚ → Claim
  equal : ℚ → ℚ → Claim

pub data Facts : List Claim → Type 0 where
  none : Facts []
  le : {x y : ℚ} {cs : List Claim} → x ≤ℚ y → Facts cs → Facts (at_most x y ∷ cs)
  lt : {x y : ℚ} {cs : List Claim} → x <ℚ y → Facts cs → Facts (below x y ∷ cs)
  eq : {x y : ℚ} {cs : List Claim} → x ≡ y → Facts cs → Facts (equal x y ∷ cs)

pub record Understood (xs : List ℚ) (cs : List Claim) : Type 0 where
  pub hyps : List (Bool × Expr)
  pub hold : Facts cs → Hold xs hyps

gap_read : (xs : List ℚ) {x y : ℚ} (r : Read rational_ring xs x) (s : Read rational_ring xs y) → y -ℚ x ≡ eval rational_ring xs (s.as_expr ⊖ r.as_expr)
gap_read xs r s = λ i. sym s.is i +ℚ neg_ℚ (sym r.is i)

le_of_eq : {x y : ℚ} → x ≡ y → x ≤ℚ y
le_of_eq {x} {y} e = subst (λ z. x ≤ℚ z) e (≤ℚ_refl x)

module _ {xs : List ℚ} where
  abbrev pub understood_none : Understood xs []
  understood_none = record { hyps = []; hold = λ f. tt }

  pub hold_le : {x y : ℚ} {cs : List Claim} (r : Read rational_ring xs x) (s : Read rational_ring xs y) (u : Understood xs cs) → Facts (at_most x y ∷ cs) → IsNonneg (eval rational_ring xs (s.as_expr ⊖ r.as_expr)) × Hold xs u.hyps
  hold_le r s u (le h f) = (subst IsNonneg (gap_read xs r s) (gap h), u.hold f)

  abbrev pub understood_le : {x y : ℚ} {cs : List Claim} → Read rational_ring xs x → Read rational_ring xs y → Understood xs cs → Understood xs (at_most x y ∷ cs)
  understood_le r s u = record { hyps = (false, s.as_expr ⊖ r.as_expr) ∷ u.hyps; hold = hold_le r s u }

  pub hold_lt : {x y : ℚ} {cs : List Claim} (r : Read rational_ring xs x) (s : Read rational_ring xs y) (u : Understood xs cs) → Facts (below x y ∷ cs) → IsPositive (eval rational_ring xs (s.as_expr ⊖ r.as_expr)) × Hold xs u.hyps
  hold_lt r s u (lt h f) = (subst IsPositive (gap_read xs r s) (strict_gap h), u.hold f)

  abbrev pub understood_lt : {x y : ℚ} {cs : List Claim} → Read rational_ring xs x → Read rational_ring xs y → Understood xs cs → Understood xs (below x y ∷ cs)
  understood_lt r s u = record { hyps = (true, s.as_expr ⊖ r.as_expr) ∷ u.hyps; hold = hold_lt r s u }

  pub hold_eq : {x y : ℚ} {cs : List Claim} (r : Read rational_ring xs x) (s : Read rational_ring xs y) (u : Understood xs cs) → Facts (equal x y ∷ cs) → IsNonneg (eval rational_ring xs (s.as_expr ⊖ r.as_expr)) × (IsNonneg (eval rational_ring xs (r.as_expr ⊖ s.as_expr)) × Hold xs u.hyps)
  hold_eq r s u (eq e f) = (subst IsNonneg (gap_read xs r s) (gap (le_of_eq e)), (subst IsNonneg (gap_read xs s r) (gap (le_of_eq (sym e))), u.hold f))

  abbrev pub understood_eq : {x y : ℚ} {cs : List Claim} → Read rational_ring xs x → Read rational_ring xs y → Understood xs cs → Understood xs (equal x y ∷ cs)
  understood_eq r s u = record { hyps = (false, s.as_expr ⊖ r.as_expr) ∷ (false, r.as_expr ⊖ s.as_expr) ∷ u.hyps; hold = hold_eq r s u }

pub ruleset claims = (understood_none, understood_le, understood_lt, understood_eq, reads)

abbrev pub is_refuted : List (Bool × Expr) → Bool
is_refuted hs = contradicts (multipliers hs) hs

-- `linear_le (x ∷ y ∷ []) (le h (lt k none)) (search claims depth 40) tt` proves an inequality from h and k
module _ (xs : List ℚ) {cs : List Claim} where
  pub linear_false : Facts cs → (u : Understood xs cs) → T (is_refuted u.hyps) → ⊥
  linear_false f u t = refute xs (multipliers u.hyps) u.hyps (u.hold f) t

  pub linear_le : {x y : ℚ} → Facts cs → (u : Understood xs (below y x ∷ cs)) → T (is_refuted u.hyps) → x ≤ℚ y
  linear_le {x} {y} f u t = ⊎_elim (λ h. h) (λ h. absurd (refute xs (multipliers u.hyps) u.hyps (u.hold (lt h f)) t)) (le_or_lt x y)

  pub linear_lt : {x y : ℚ} → Facts cs → (u : Understood xs (at_most y x ∷ cs)) → T (is_refuted u.hyps) → x <ℚ y
  linear_lt {x} {y} f u t = ⊎_elim (λ h. absurd (refute xs (multipliers u.hyps) u.hyps (u.hold (le h f)) t)) (λ h. h) (le_or_lt y x)

-- the same with the multipliers given, the goal's first, for more hypotheses than the elimination can go through
module _ (xs : List ℚ) (ms : List ℕ) {cs : List Claim} where
  pub linear_false_with : Facts cs → (u : Understood xs cs) → T (contradicts ms u.hyps) → ⊥
  linear_false_with f u t = refute xs ms u.hyps (u.hold f) t

  pub linear_le_with : {x y : ℚ} → Facts cs → (u : Understood xs (below y x ∷ cs)) → T (contradicts ms u.hyps) → x ≤ℚ y
  linear_le_with {x} {y} f u t = ⊎_elim (λ h. h) (λ h. absurd (refute xs ms u.hyps (u.hold (lt h f)) t)) (le_or_lt x y)

  pub linear_lt_with : {x y : ℚ} → Facts cs → (u : Understood xs (at_most y x ∷ cs)) → T (contradicts ms u.hyps) → x <ℚ y
  linear_lt_with {x} {y} f u t = ⊎_elim (λ h. absurd (refute xs ms u.hyps (u.hold (le h f)) t)) (λ h. h) (le_or_lt y x)
