-- The variables that stand in the columns: after a pivot, and the first of them that may enter.
use Rattle.std.proofs.Common.{◌≡◌, ℕ, zero, suc, ◌+◌, ◌<◌, ◌≤◌, Bool, true, List, ℤ, pos, negsuc, ◌≤ℤ◌, ◌<ℤ◌, Option, Some, None, length, set, refl, sym, ◌∙◌, ap, subst, arith, ◌⊎◌, inl, inr, length-set, get_or-set_same, get_or-set_other}
use Rattle.std.proofs.lemmas.Int.{ints}
use Rattle.std.proofs.lemmas.Bool.{both_ways, cases_eq, cases_lt}
use Rattle.std.proofs.lemmas.List.{get_or_past}
use Rattle.mpc_rows.specs.Least.{least}
use Rattle.mpc_rows.specs.LinearSystem.{LinearSystem, height}
use Rattle.mpc_rows.specs.Run.{Position, may_enter}
use Rattle.mpc_runs.specs.declared.variables.Seat.{Seat}
use Rattle.mpc_runs.specs.declared.variables.Seat.TheVariants.{Row, Column}
use Rattle.mpc_runs.specs.Table.{seat_at, variable_at, IsSeated, AreNonbasic}
use Rattle.mpc_whole.specs.Whole.{HasBasis, IsRowOf}
use Rattle.mpc_runs.proofs.LeastLemmas.{LeastIs, least-is}
use Rattle.mpc_runs.proofs.Seats.{seat_cases, seats_apart, column_same}
use Rattle.mpc_whole.proofs.WholeTurns.{basic_stays}

-- a variable in a column is one of the list
pub column_below : (seats : List Seat) (y c : ℕ) → seat_at seats y ≡ Column c → y < length seats
column_below seats y c e = by (cases_lt y (length seats))
  where
    by : (y < length seats) ⊎ (length seats ≤ y) → y < length seats
    by (inl h) = h
    by (inr h) = absurd (seats_apart 0 c (sym (get_or_past seats y (Row 0) h) ∙ e))

-- the variable of a column is the one of the list
pub stands : (height width n : ℕ) (seats : List Seat) (nonbasic : List ℕ) → IsSeated height width n seats → AreNonbasic width seats nonbasic → (y c : ℕ) → y < n → seat_at seats y ≡ Column c → (c < width) × (variable_at nonbasic c ≡ y)
stands height width n seats nonbasic z a y c l e =
    let inside = (z.columns y c l e).0 in
    let below = subst (λ m. variable_at nonbasic c < m) z.each (column_below seats (variable_at nonbasic c) c (a.at c inside)) in
    (inside, sym (z.columns (variable_at nonbasic c) c below (a.at c inside)).1 ∙ (z.columns y c l e).1)

pub below_nought : (z : ℤ) → z ≤ℤ pos 0 → (z ≡ pos 0 → ⊥) → z <ℤ pos 0
below_nought (pos zero) h k = absurd (k refl)
below_nought (pos (suc n)) h k = absurd (omega (arith, ints))
below_nought (negsuc n) h k = omega (arith, ints)

-- ---- l leaves into the column of e
module _ (w : ℕ) (seats : List Seat) (nonbasic : List ℕ) (a : AreNonbasic w seats nonbasic) (l e r₀ c₀ : ℕ) (below : l < length seats) (inside : c₀ < w) (sl : seat_at seats l ≡ Row r₀) (se : seat_at seats e ≡ Column c₀) where
  apart : l ≡ e → ⊥
  apart k = seats_apart r₀ c₀ (sym sl ∙ ap (seat_at seats) k ∙ se)

  at_l : seat_at (set (set seats l (Column c₀)) e (Row r₀)) l ≡ Column c₀
  at_l = get_or-set_other (set seats l (Column c₀)) e l (Row r₀) (Row 0) apart ∙ get_or-set_same seats l (Column c₀) (Row 0) below

  at_other : (y c : ℕ) → seat_at seats y ≡ Column c → (c ≡ c₀ → ⊥) → seat_at (set (set seats l (Column c₀)) e (Row r₀)) y ≡ Column c
  at_other y c s k =
      get_or-set_other (set seats l (Column c₀)) e y (Row r₀) (Row 0) (λ q. k (column_same c c₀ (sym s ∙ ap (seat_at seats) q ∙ se)))
      ∙ get_or-set_other seats l y (Column c₀) (Row 0) (λ q. seats_apart r₀ c (sym sl ∙ ap (seat_at seats) (sym q) ∙ s)) ∙ s

  at_each : (c : ℕ) → c < w → (c ≡ c₀) ⊎ (c ≡ c₀ → ⊥) → seat_at (set (set seats l (Column c₀)) e (Row r₀)) (variable_at (set nonbasic c₀ l) c) ≡ Column c
  at_each c h (inl q) =
      ap (seat_at (set (set seats l (Column c₀)) e (Row r₀))) (ap (variable_at (set nonbasic c₀ l)) q ∙ get_or-set_same nonbasic c₀ l 0 (subst (λ m. c₀ < m) (sym a.each) inside))
      ∙ at_l ∙ ap Column (sym q)
  at_each c h (inr k) =
      ap (seat_at (set (set seats l (Column c₀)) e (Row r₀))) (get_or-set_other nonbasic c₀ c l 0 k)
      ∙ at_other (variable_at nonbasic c) c (a.at c h) k

  pub swapped : AreNonbasic w (set (set seats l (Column c₀)) e (Row r₀)) (set nonbasic c₀ l)
  swapped = record {
    each = length-set nonbasic c₀ l ∙ a.each;
    at = λ c h. at_each c h (cases_eq c c₀);
  }

-- ---- the first of a list that passes a test, where n stands for nobody
pub record IsFirstOf (test : ℕ → Bool) (list : List ℕ) (n count first : ℕ) : Type 0 where
  pub below : first ≤ n
  pub passes : first < n → test first ≡ true
  pub before : (k : ℕ) → k < count → test (variable_at list k) ≡ true → first ≤ variable_at list k

module _ (test : ℕ → Bool) (list : List ℕ) (n : ℕ) where
  pub none_yet : IsFirstOf test list n 0 n
  none_yet = record {
    below = omega arith;
    passes = λ h. absurd (omega arith);
    before = λ k h. absurd (omega arith);
  }

  module _ (count first : ℕ) (h : IsFirstOf test list n count first) where
    next : (z : ℕ) → z ≤ first → (test (variable_at list count) ≡ true → z ≤ variable_at list count) → (k : ℕ) → k < count + 1 → test (variable_at list k) ≡ true → z ≤ variable_at list k
    next z m own k b t = by (cases_eq k count)
      where
        by : (k ≡ count) ⊎ (k ≡ count → ⊥) → z ≤ variable_at list k
        by (inl q) = subst (λ j. z ≤ variable_at list j) (sym q) (own (subst (λ j. test (variable_at list j) ≡ true) q t))
        by (inr q) = (let f = h.before k (omega arith) t in omega arith)

    pub first_stays : (test (variable_at list count) ≡ true → first ≤ variable_at list count) → IsFirstOf test list n (count + 1) first
    first_stays own = record {
      below = h.below;
      passes = h.passes;
      before = next first (omega arith) own;
    }

    pub first_moves : variable_at list count < first → test (variable_at list count) ≡ true → IsFirstOf test list n (count + 1) (variable_at list count)
    first_moves less t = record {
      below = (let b = h.below in omega arith);
      passes = λ _. t;
      before = next (variable_at list count) (omega arith) (λ _. omega arith);
    }

  -- where the list has all that pass
  module _ (count first : ℕ) (h : IsFirstOf test list n count first) (all : (y : ℕ) → y < n → test y ≡ true → (k : ℕ) × (k < count) × (variable_at list k ≡ y)) where
    at_least : (y : ℕ) → y < n → test y ≡ true → first ≤ y
    at_least y b t = let f = all y b t in subst (λ z. first ≤ z) f.2 (h.before f.0 f.1 (subst (λ z. test z ≡ true) (sym f.2) t))

    pub first_is : first < n → Some first ≡ least test n
    first_is b = by (least test n) (least-is test n)
      where
        by : (o : Option ℕ) → LeastIs test n o → Some first ≡ o
        by None g = absurd (both_ways (test first) (g first b) (h.passes b))
        by (Some y) g = same (cases_lt first y)
          where
            same : (first < y) ⊎ (y ≤ first) → Some first ≡ Some y
            same (inl q) = absurd (both_ways (test first) (g.before first q) (h.passes b))
            same (inr q) = ap Some (let f = at_least y g.below g.passes in omega arith)

    pub nobody_is : n ≤ first → None ≡ least test n
    nobody_is b = by (least test n) (least-is test n)
      where
        by : (o : Option ℕ) → LeastIs test n o → None ≡ o
        by None g = refl
        by (Some y) g = absurd (let f = at_least y g.below g.passes in let c = g.below in omega arith)

-- ---- where the variables stand
module _ (s : LinearSystem) (n : ℕ) (seats : List Seat) (nonbasic : List ℕ) (z : IsSeated (height s) s.width n seats) (a : AreNonbasic s.width seats nonbasic) where
  pub variable_within : (c : ℕ) → c < s.width → variable_at nonbasic c < n
  variable_within c b = subst (λ m. variable_at nonbasic c < m) z.each (column_below seats (variable_at nonbasic c) c (a.at c b))

  pub column_of : (y c : ℕ) → y < n → seat_at seats y ≡ Column c → (c < s.width) × (variable_at nonbasic c ≡ y)
  column_of y c b q =
      let own = z.columns y c b q in
      let other = z.columns (variable_at nonbasic c) c (variable_within c own.0) (a.at c own.0) in
      (own.0, sym other.1 ∙ own.1)

-- all that may enter stand in the columns
module _ (s : LinearSystem) (n : ℕ) (seats : List Seat) (nonbasic : List ℕ) (z : IsSeated (height s) s.width n seats) (a : AreNonbasic s.width seats nonbasic) (k : List ℕ) (p : Position) (d l : ℕ) (x : List ℤ) (some : 0 < d) (h : HasBasis n seats p) (r : IsRowOf n seats k p d l x) where
  pub variable_below : (c : ℕ) → c < s.width → variable_at nonbasic c < n
  variable_below = variable_within s n seats nonbasic z a

  pub all_enter : (y : ℕ) → y < n → may_enter s p l y ≡ true → (c : ℕ) × (c < s.width) × (variable_at nonbasic c ≡ y)
  all_enter y b t = by (seat_cases (seat_at seats y))
    where
      by : ((t : ℕ) × (seat_at seats y ≡ Row t)) ⊎ ((c : ℕ) × (seat_at seats y ≡ Column c)) → (c : ℕ) × (c < s.width) × (variable_at nonbasic c ≡ y)
      by (inl q) = absurd (both_ways (may_enter s p l y) (basic_stays s n seats k p d l x some h r y b q.0 q.1) t)
      by (inr q) =
          let there = column_of s n seats nonbasic z a y q.0 b q.1 in
          (q.0, there.0, there.1)
