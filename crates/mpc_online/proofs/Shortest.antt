-- The least quotient among the first ones.
use Rattle.std.proofs.Common.{◌≡◌, ℕ, ◌+◌, ◌<◌, cond, true, false, Bool, List, length, refl, sym, ◌∙◌, ap, subst, arith, ⊎_elim, Option, Some, None}
use Rattle.std.proofs.lemmas.Bool.{cases_eq}
use Rattle.mpc_exact.specs.Rational.{ℚ, lt_ℚ, ◌≤ℚ◌, ◌<ℚ◌}
use Rattle.mpc_exact.proofs.RationalOrder.{≤ℚ_refl, ≤ℚ_of_<, <ℚ-≤ℚ_trans}
use Rattle.mpc_exact.proofs.OrderTheorems.{lt_ℚ-true, lt_ℚ-false}
use Rattle.mpc_online.specs.Turns.{quotient_at, IsFalling, IsShortestWith, shorter_of}
use Rattle.mpc_online.specs.declared.turns.Partial.{Partial}

-- the least among the quotients of the places below n
pub record IsLeastBelow (l e : List ℚ) (n k : ℕ) : Type 0 where
  pub below : k < n
  pub falls : IsFalling e k
  pub least : (j : ℕ) → j < n → IsFalling e j → quotient_at l e k ≤ℚ quotient_at l e j
  pub first : (j : ℕ) → j < k → IsFalling e j → quotient_at l e k <ℚ quotient_at l e j

abbrev pub IsShortestBelow : List ℚ → List ℚ → ℕ → Option Partial → Type 0
IsShortestBelow l e n None = (k : ℕ) → k < n → ¬ IsFalling e k
IsShortestBelow l e n (Some drop) = IsLeastBelow l e n drop.place × (drop.length ≡ quotient_at l e drop.place)

pub shortest_none : (l e : List ℚ) → IsShortestBelow l e 0 None
shortest_none l e k h = absurd (omega arith)

shortest_by : (l e : List ℚ) (n : ℕ) (earlier next : Partial) (b : Bool) → lt_ℚ next.length earlier.length ≡ b → next.place ≡ n → next.length ≡ quotient_at l e n → IsFalling e n → IsLeastBelow l e n earlier.place → earlier.length ≡ quotient_at l e earlier.place → IsShortestBelow l e (n + 1) (cond b (Some next) (Some earlier))
shortest_by l e n earlier next true test place is f s e_is =
    let less : quotient_at l e n <ℚ quotient_at l e earlier.place = subst (λ u. u <ℚ quotient_at l e earlier.place) is (subst (λ u. next.length <ℚ u) e_is (lt_ℚ-true test)) in
    let at : quotient_at l e next.place ≡ quotient_at l e n = ap (quotient_at l e) place in (
      record {
        below = omega arith;
        falls = subst (IsFalling e) (sym place) f;
        least = λ j m g. subst (λ u. u ≤ℚ quotient_at l e j) (sym at) (⊎_elim (λ q. subst (λ i. quotient_at l e n ≤ℚ quotient_at l e i) (sym q) (≤ℚ_refl (quotient_at l e n))) (λ q. ≤ℚ_of_< (<ℚ-≤ℚ_trans less (s.least j (omega arith) g))) (cases_eq j n));
        first = λ j m g. subst (λ u. u <ℚ quotient_at l e j) (sym at) (<ℚ-≤ℚ_trans less (s.least j (omega arith) g));
      },
      is ∙ sym at,
    )
shortest_by l e n earlier next false test place is f s e_is =
    let more : quotient_at l e earlier.place ≤ℚ quotient_at l e n = subst (λ u. u ≤ℚ quotient_at l e n) e_is (subst (λ u. earlier.length ≤ℚ u) is (lt_ℚ-false test)) in
    let b : earlier.place < n = s.below in (
      record {
        below = omega arith;
        falls = s.falls;
        least = λ j m g. ⊎_elim (λ q. subst (λ i. quotient_at l e earlier.place ≤ℚ quotient_at l e i) (sym q) more) (λ q. s.least j (omega arith) g) (cases_eq j n);
        first = s.first;
      },
      e_is,
    )

-- a place that falls
pub shortest_more : (l e : List ℚ) (n : ℕ) (o : Option Partial) (next : Partial) → next.place ≡ n → next.length ≡ quotient_at l e n → IsFalling e n → IsShortestBelow l e n o → IsShortestBelow l e (n + 1) (shorter_of o next)
shortest_more l e n None next place is f s = (
  record {
    below = omega arith;
    falls = subst (IsFalling e) (sym place) f;
    least = λ j m g. ⊎_elim (λ q. subst (λ i. quotient_at l e next.place ≤ℚ quotient_at l e i) (place ∙ sym q) (≤ℚ_refl (quotient_at l e next.place))) (λ q. absurd (s j (omega arith) g)) (cases_eq j n);
    first = λ j m g. absurd (s j (omega arith) g);
  },
  is ∙ ap (quotient_at l e) (sym place),
)
shortest_more l e n (Some earlier) next place is f s = shortest_by l e n earlier next (lt_ℚ next.length earlier.length) refl place is f s.0 s.1

pub shortest_all : (l e : List ℚ) (n : ℕ) (o : Option Partial) → n ≡ length e → IsShortestBelow l e n o → IsShortestWith l e o
shortest_all l e n None q s = λ k m. s k (omega arith)
shortest_all l e n (Some drop) q s =
    let b : drop.place < n = s.0.below in
    (record { below = omega arith; falls = s.0.falls; least = λ j m. s.0.least j (omega arith); first = s.0.first }, s.1)
