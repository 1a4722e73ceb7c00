-- A run is determined: at each position there is one turn, one step, and one end.
use Rattle.std.proofs.Common.{◌≡◌, ℕ, zero, suc, List, refl, sym, ◌∙◌, ap, subst, arith, inl, inr, ⊎_elim, Option, Some, None}
use Rattle.std.proofs.lemmas.Bool.{cases_lt}
use Rattle.mpc_exact.specs.Rational.{ℚ, ◌<ℚ◌}
use Rattle.mpc_exact.proofs.OrderTheorems.{≤ℚ-not-<}
use Rattle.mpc_space.specs.Matrix.{RationalMatrix}
use Rattle.mpc_linear.specs.Solution.{IsOnlySolution}
use Rattle.mpc_rows.specs.declared.programs.Qp.{Qp}
use Rattle.mpc_rows.specs.ActiveSets.{extended}
use Rattle.mpc_online.specs.StateRows.{sides_at, IsFirstViolated}
use Rattle.mpc_online.specs.Positions.{Position, Step, goes_to, ends, upper_part, lower_part, along, joined, opened, continued}
use Rattle.mpc_online.specs.Turns.{IsShortest, quotient_at, IsTurn}
use Rattle.mpc_online.specs.Widths.{StepFits}
use Rattle.mpc_online.specs.OnlineRun.{IsStep, IsOpening, LeadsTo, RunEnd, answered, wide_in, EndsHere, EndsAfter, EndsAtOnce, EndsLater, OneRunEnd}
use Rattle.mpc_online.specs.declared.turns.Turn.{Turn}
use Rattle.mpc_online.specs.declared.turns.Turn.TheVariants.{Refuted as RefutedTurn, Drops, Joins}
use Rattle.mpc_online.specs.declared.Online.{Online}

-- ---- the first row that isn't met
pub one_first : (qp : Qp) (b z : List ℚ) (o p : Option ℕ) → IsFirstViolated qp b z o → IsFirstViolated qp b z p → o ≡ p
one_first qp b z None None h k = refl
one_first qp b z None (Some r) h k = absurd (h r k.from_one k.to_last k.violated)
one_first qp b z (Some r) None h k = absurd (k r h.from_one h.to_last h.violated)
one_first qp b z (Some r) (Some q) h k = ap Some (⊎_elim (λ l. absurd (k.before r h.from_one l h.violated)) (λ l. ⊎_elim (λ m. absurd (h.before q k.from_one m k.violated)) (λ m. omega arith) (cases_lt q r)) (cases_lt r q))

-- ---- the turn
one_place : (l e : List ℚ) (j k : ℕ) → IsShortest l e j → IsShortest l e k → j ≡ k
one_place l e j k h i = ⊎_elim
    (λ m. absurd (≤ℚ-not-< (h.least k i.below i.falls) (i.first j m h.falls)))
    (λ m. ⊎_elim (λ n. absurd (≤ℚ-not-< (i.least j h.below h.falls) (h.first k n i.falls))) (λ n. omega arith) (cases_lt k j))
    (cases_lt j k)

pub one_turn : (qp : Qp) (b : List ℚ) (p : Position) (d e : List ℚ) (a c : Turn) → IsTurn qp b p d e a → IsTurn qp b p d e c → a ≡ c
one_turn qp b p d e RefutedTurn RefutedTurn h i = refl
one_turn qp b p d e RefutedTurn (Drops k s) h i = absurd (h.1 k i.shortest.below i.shortest.falls)
one_turn qp b p d e RefutedTurn (Joins s) h i = absurd (i.moves h.0)
one_turn qp b p d e (Drops k s) RefutedTurn h i = absurd (i.1 k h.shortest.below h.shortest.falls)
one_turn qp b p d e (Drops k s) (Drops j r) h i =
    let same : k ≡ j = one_place p.multipliers e k j h.shortest i.shortest in
    let lengths : s ≡ r = h.is ∙ ap (quotient_at p.multipliers e) same ∙ sym i.is in
    λ t. Drops (same t) (lengths t)
one_turn qp b p d e (Drops k s) (Joins r) h i =
    absurd (≤ℚ-not-< (i.before_members k h.shortest.below h.shortest.falls) (subst (λ u. u <ℚ r) h.is (subst (λ u. s <ℚ u) (sym i.is) (h.before_row i.moves))))
one_turn qp b p d e (Joins s) RefutedTurn h i = absurd (h.moves i.0)
one_turn qp b p d e (Joins r) (Drops k s) i h =
    absurd (≤ℚ-not-< (i.before_members k h.shortest.below h.shortest.falls) (subst (λ u. u <ℚ r) h.is (subst (λ u. s <ℚ u) (sym i.is) (h.before_row i.moves))))
one_turn qp b p d e (Joins s) (Joins r) h i = let lengths : s ≡ r = h.is ∙ sym i.is in ap Joins lengths

-- ---- the step
one_lead : (qp : Qp) (b : List ℚ) (p : Position) (d e : List ℚ) (turn : Turn) (x y : Step) → LeadsTo qp b p d e turn x → LeadsTo qp b p d e turn y → x ≡ y
one_lead qp b p d e RefutedTurn x y h i = h ∙ sym i
one_lead qp b p d e (Drops k s) x y h i = h ∙ sym i
one_lead qp b p d e (Joins s) x y h i = h.2 ∙ ap (continued (joined (along p d e s))) (one_first qp b (along p d e s).point h.0 i.0 h.1 i.1) ∙ sym i.2

pub one_solution : (m rhs x y : RationalMatrix) → IsOnlySolution m rhs x → IsOnlySolution m rhs y → x ≡ y
one_solution m rhs x y h i = i.only x h.shape h.solves

one_step : (qp : Qp) (b : List ℚ) (p : Position) (x y : Step) → IsStep qp b p x → IsStep qp b p y → x ≡ y
one_step qp b p x y h i =
    let same : h.solution ≡ i.solution = one_solution _ _ h.solution i.solution h.solves i.solves in
    let turn : IsTurn qp b p (upper_part qp i.solution) (lower_part qp p.set i.solution) h.turn = subst (λ z. IsTurn qp b p (upper_part qp z) (lower_part qp p.set z) h.turn) same h.is_turn in
    let leads : LeadsTo qp b p (upper_part qp i.solution) (lower_part qp p.set i.solution) h.turn x = subst (λ z. LeadsTo qp b p (upper_part qp z) (lower_part qp p.set z) h.turn x) same h.leads in
    let turns : h.turn ≡ i.turn = one_turn qp b p (upper_part qp i.solution) (lower_part qp p.set i.solution) h.turn i.turn turn i.is_turn in
    one_lead qp b p (upper_part qp i.solution) (lower_part qp p.set i.solution) i.turn x y (subst (λ z. LeadsTo qp b p (upper_part qp i.solution) (lower_part qp p.set i.solution) z x) turns leads) i.leads

one_opening : (qp : Qp) (b c : List ℚ) (x y : Step) → IsOpening qp b c x → IsOpening qp b c y → x ≡ y
one_opening qp b c x y h i =
    let same : h.solution ≡ i.solution = one_solution _ _ h.solution i.solution h.solves i.solves in
    let first : h.first ≡ i.first = one_first qp b (upper_part qp i.solution) h.first i.first (subst (λ z. IsFirstViolated qp b (upper_part qp z) h.first) same h.is_first) i.is_first in
    h.leads ∙ (λ t. continued (opened (upper_part qp (same t))) (first t)) ∙ sym i.leads

-- ---- the end
one_answer : (x y : Online) → ends x ≡ ends y → x ≡ y
one_answer x y e = cc

goes_or_ends : (p : Position) (x : Online) {A : Type 0} → goes_to p ≡ ends x → A
goes_or_ends p x e = cc

one_goal : (p q : Position) → goes_to p ≡ goes_to q → p ≡ q
one_goal p q e = cc

module _ (qp : Qp) (b : List ℚ) where
  here_once : (k : ℕ) (p : Position) (x y : RunEnd) → EndsHere qp b k p x → EndsHere qp b k p y → x ≡ y
  here_once k p (answered o) (answered u) h i = ap answered (one_answer o u (one_step qp b p (ends o) (ends u) h.1 i.1))
  here_once k p (answered o) (wide_in j) h i = absurd (i.1 h.0)
  here_once k p (wide_in j) (answered u) h i = absurd (h.1 i.0)
  here_once k p (wide_in j) (wide_in l) h i = let same : j ≡ l = h.0 ∙ sym i.0 in ap wide_in same

  here_not_later : (k : ℕ) (p next : Position) (x : RunEnd) → EndsHere qp b k p x → StepFits qp b p → IsStep qp b p (goes_to next) → ⊥
  here_not_later k p next (answered o) h fits step = goes_or_ends next o (one_step qp b p (goes_to next) (ends o) step h.1)
  here_not_later k p next (wide_in j) h fits step = h.1 fits

  after_once : (n m k : ℕ) (p : Position) (x y : RunEnd) → EndsAfter qp b n k p x → EndsAfter qp b m k p y → x ≡ y
  after_once zero zero k p x y h i = here_once k p x y h i
  after_once zero (suc m) k p x y h i = absurd (here_not_later k p i.1 x h i.0 i.2)
  after_once (suc n) zero k p x y h i = absurd (here_not_later k p h.1 y i h.0 h.2)
  after_once (suc n) (suc m) k p x y h i =
      let same : h.1 ≡ i.1 = one_goal h.1 i.1 (one_step qp b p (goes_to h.1) (goes_to i.1) h.2 i.2) in
      after_once n m (suc k) i.1 x y (subst (λ q. EndsAfter qp b n (suc k) q x) same h.3) i.3

once_at : (qp : Qp) (t : List ℚ) (x y : RunEnd) → EndsAtOnce qp t x → EndsAtOnce qp t y → x ≡ y
once_at qp t (answered o) (answered u) h i = ap answered (one_answer o u (one_opening qp (sides_at qp t) (extended t) (ends o) (ends u) h.1 i.1))
once_at qp t (answered o) (wide_in j) h i = absurd (i.1 h.0)
once_at qp t (wide_in j) (answered u) h i = absurd (h.1 i.0)
once_at qp t (wide_in j) (wide_in l) h i = let same : j ≡ l = h.0 ∙ sym i.0 in ap wide_in same

at_once_not_later : (qp : Qp) (t : List ℚ) (x y : RunEnd) → EndsAtOnce qp t x → EndsLater qp t y → ⊥
at_once_not_later qp t (answered o) y h i = goes_or_ends i.1 o (one_opening qp (sides_at qp t) (extended t) (goes_to i.1) (ends o) i.2 h.1)
at_once_not_later qp t (wide_in j) y h i = h.1 i.0

pub one_run_end : OneRunEnd
one_run_end qp t x y (inl h) (inl i) = once_at qp t x y h i
one_run_end qp t x y (inl h) (inr i) = absurd (at_once_not_later qp t x y h i)
one_run_end qp t x y (inr h) (inl i) = absurd (at_once_not_later qp t y x i h)
one_run_end qp t x y (inr h) (inr i) =
    let same : h.1 ≡ i.1 = one_goal h.1 i.1 (one_opening qp (sides_at qp t) (extended t) (goes_to h.1) (goes_to i.1) h.2 i.2) in
    after_once qp (sides_at qp t) h.3.0 i.3.0 1 i.1 x y (subst (λ q. EndsAfter qp (sides_at qp t) h.3.0 1 q x) same h.3.1) i.3.1
