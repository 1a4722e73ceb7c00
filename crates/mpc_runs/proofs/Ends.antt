-- Each run ends, after fewer steps than there are sets of variables.
use Rattle.std.proofs.Common.{◌≡◌, ℕ, zero, suc, ◌+◌, ◌-◌, ◌^◌, ◌<◌, ◌≤◌, Bool, true, false, not, Option, Some, None, refl, sym, ◌∙◌, ap, subst, arith, ◌⊎◌, inl, inr, ⊎_elim, lt_irrefl}
use Rattle.std.proofs.lemmas.Bool.{cond-true, cond-false, cases_eq, cases_lt, both_ways, not-true, not-false}
use Rattle.mpc_rows.specs.Least.{least}
use Rattle.mpc_rows.specs.LinearSystem.{LinearSystem}
use Rattle.mpc_rows.specs.Run.{Position, count, turn, moved, opening, position, is_pivot, GoesOn, steps_within, steps_from, steps, last_position}
use Rattle.mpc_runs.proofs.LeastLemmas.{LeastIs, least-is}
use Rattle.mpc_runs.proofs.Cycle.{no_basis_twice}
use Rattle.mpc_runs.proofs.Pigeonhole.{two_agree}

-- the positions 0 to k have different bases
pub few_steps : (s : LinearSystem) (k : ℕ) → ((i : ℕ) → i < k → GoesOn s i) → k < 2 ^ count s
few_steps s k g = by (cases_lt k (2 ^ count s))
  where
    twice : 2 ^ count s < suc k → ⊥
    twice h =
        let w = two_agree (count s) (suc k) (λ i x. (position s i).is_basic x) h in
        let b : w.second < suc k = w.below in
        no_basis_twice s w.first w.second w.order (λ i l. g i (omega arith)) (record { same = w.same })

    by : (k < 2 ^ count s) ⊎ (2 ^ count s ≤ k) → k < 2 ^ count s
    by (inl l) = l
    by (inr l) = absurd (twice (omega arith))

-- the run goes on up to its end, and there it stops
pub record EndsAt (s : LinearSystem) (k : ℕ) : Type 0 where
  pub goes : (i : ℕ) → i < k → GoesOn s i
  pub stops : is_pivot (turn s (position s k)) ≡ false

pub record Ends (s : LinearSystem) : Type 0 where
  pub at : ℕ
  pub ends : EndsAt s at
  pub few : at < 2 ^ count s

abbrev stops_at : LinearSystem → ℕ → Bool
stops_at s k = not (is_pivot (turn s (position s k)))

on_from : (s : LinearSystem) (k : ℕ) → stops_at s k ≡ false → GoesOn s k
on_from s k h = record { pivots = not-false (is_pivot (turn s (position s k))) h }

pub ends : (s : LinearSystem) → Ends s
ends s = by (least (stops_at s) (2 ^ count s)) (least-is (stops_at s) (2 ^ count s))
  where
    by : (o : Option ℕ) → LeastIs (stops_at s) (2 ^ count s) o → Ends s
    by (Some k) h = record { at = k; ends = record { goes = λ i l. on_from s i (h.before i l); stops = not-true (is_pivot (turn s (position s k))) h.passes }; few = h.below }
    by None h = absurd (lt_irrefl (2 ^ count s) (few_steps s (2 ^ count s) (λ i l. on_from s i (h i l))))

-- ---- the count of steps
within-stop : (s : LinearSystem) (n : ℕ) (p : Position) → is_pivot (turn s p) ≡ false → steps_within s n p ≡ zero
unfolding steps_within
within-stop s zero p h = refl
within-stop s (suc n) p h = cond-false (is_pivot (turn s p)) _ _ h

within-on : (s : LinearSystem) (n : ℕ) (p : Position) → is_pivot (turn s p) ≡ true → steps_within s (suc n) p ≡ suc (steps_within s n (moved p (turn s p)))
unfolding steps_within
within-on s n p h = cond-true (is_pivot (turn s p)) _ _ h

pub position-suc : (s : LinearSystem) (k : ℕ) → position s (suc k) ≡ moved (position s k) (turn s (position s k))
unfolding position
position-suc s k = refl

-- c steps before the end
within-ends : (s : LinearSystem) (c n k : ℕ) → EndsAt s (k + c) → c ≤ n → steps_within s n (position s k) ≡ c
within-ends s zero n k e h = within-stop s n (position s k) (subst (λ z. is_pivot (turn s (position s z)) ≡ false) (let q : k + 0 ≡ k = omega arith in q) e.stops)
within-ends s (suc c) zero k e h = absurd (omega arith)
within-ends s (suc c) (suc n) k e h =
    within-on s n (position s k) (e.goes k (omega arith)).pivots
    ∙ ap suc (ap (steps_within s n) (sym (position-suc s k)) ∙ within-ends s c n (suc k) (subst (EndsAt s) (let q : k + suc c ≡ suc k + c = omega arith in q) e) (omega arith))

pub position-zero : (s : LinearSystem) → position s zero ≡ opening s
unfolding position
position-zero s = refl

pub steps-is : (s : LinearSystem) → steps s ≡ (ends s).at
unfolding steps steps_from
steps-is s =
    ap (steps_within s (2 ^ count s)) (sym (position-zero s))
    ∙ within-ends s (ends s).at (2 ^ count s) zero (subst (EndsAt s) (let q : (ends s).at ≡ 0 + (ends s).at = omega arith in q) (ends s).ends) (let q : (ends s).at < 2 ^ count s = (ends s).few in omega arith)

-- the run ends after `steps` steps
pub run_ends : (s : LinearSystem) → EndsAt s (steps s)
run_ends s = subst (EndsAt s) (sym (steps-is s)) (ends s).ends

pub steps_few : (s : LinearSystem) → steps s < 2 ^ count s
steps_few s = subst (λ z. z < 2 ^ count s) (sym (steps-is s)) (ends s).few

-- a position of the run
pub record Reached (s : LinearSystem) (p : Position) : Type 0 where
  pub after : ℕ
  pub order : after ≤ steps s
  pub is : p ≡ position s after

unfoldable pub reached_opening : (s : LinearSystem) → Reached s (opening s)
reached_opening s = record { after = 0; order = omega arith; is = sym (position-zero s) }

steps_from-at : (s : LinearSystem) (k : ℕ) → k ≤ steps s → steps_from s (position s k) ≡ steps s - k
unfolding steps_from
steps_from-at s k h =
    within-ends s (steps s - k) (2 ^ count s) k (subst (EndsAt s) (let q : steps s ≡ k + (steps s - k) = omega arith in q) (run_ends s)) (let q : steps s < 2 ^ count s = steps_few s in omega arith)

-- a position where the run goes on stands before the end
pub before_end : (s : LinearSystem) (k : ℕ) → k ≤ steps s → is_pivot (turn s (position s k)) ≡ true → k < steps s
before_end s k h g =
    ⊎_elim (λ e. absurd (both_ways (is_pivot (turn s (position s (steps s)))) (run_ends s).stops (subst (λ z. is_pivot (turn s (position s z)) ≡ true) e g))) (λ n. omega arith) (cases_eq k (steps s))

-- a step leads on to a position of the run, and fewer steps follow: the measure of a loop
unfoldable pub reached_next : (s : LinearSystem) (p : Position) → Reached s p → is_pivot (turn s p) ≡ true → Reached s (moved p (turn s p))
reached_next s p r g =
    record { after = suc r.after; order = before_end s r.after r.order (subst (λ z. is_pivot (turn s z) ≡ true) r.is g); is = ap (λ z. moved z (turn s z)) r.is ∙ sym (position-suc s r.after) }

from_at : (s : LinearSystem) (p : Position) (r : Reached s p) → steps_from s p ≡ steps s - r.after
from_at s p r = ap (steps_from s) r.is ∙ steps_from-at s r.after r.order

pub steps_fall : (s : LinearSystem) (p : Position) → Reached s p → is_pivot (turn s p) ≡ true → steps_from s (moved p (turn s p)) < steps_from s p
unfolding reached_next
steps_fall s p r g =
    let a : steps_from s p ≡ steps s - r.after = from_at s p r in
    let b : steps_from s (moved p (turn s p)) ≡ steps s - suc r.after = from_at s (moved p (turn s p)) (reached_next s p r g) in
    let c : r.after < steps s = before_end s r.after r.order (subst (λ z. is_pivot (turn s z) ≡ true) r.is g) in
    omega arith

-- a position of the run where it stops is the last one
pub stopped_last : (s : LinearSystem) (p : Position) → Reached s p → is_pivot (turn s p) ≡ false → p ≡ last_position s
unfolding last_position
stopped_last s p r g =
    ⊎_elim (λ l. absurd (both_ways (is_pivot (turn s (position s r.after))) (subst (λ z. is_pivot (turn s z) ≡ false) r.is g) ((run_ends s).goes r.after l).pivots))
    (λ l. r.is ∙ ap (position s) (let q : r.after ≤ steps s = r.order in omega arith))
    (cases_lt r.after (steps s))
