-- The run of the longer system, step by step: up to the last position of the shorter one, and how it ends where that one is refuted.
use Rattle.std.proofs.Common.{◌≡◌, ℕ, zero, suc, ◌+◌, ◌-◌, ◌<◌, ◌≤◌, true, cond, eqb, List, ◌++◌, length, get_or, ℤ, pos, sym, ◌∙◌, ap, subst, subst₂, arith, ◌⊎◌, inl, inr, ne_eqb, length-append}
use Rattle.std.proofs.lemmas.Bool.{cond-true, cond-false, cases_lt, both_ways}
use Rattle.std.proofs.lemmas.List.{get_or_append_left, get_or-append_right, get_or-replicate, get_or_past, length-replicate}
use Rattle.mpc_exact.specs.Rational.{ℚ, int, neg_ℚ}
use Rattle.mpc_space.specs.Vector.{coordinate, zeros}
use Rattle.mpc_rows.specs.declared.systems.Row.{Row}
use Rattle.mpc_rows.specs.LinearSystem.{LinearSystem, height}
use Rattle.mpc_rows.specs.Run.{Turn, has_point, is_refuted, count, value, turn, pivot, position, is_pivot, leaving, entering, GoesOn, steps, last_position, multiplier}
use Rattle.mpc_whole.specs.Whole.{AreValues}
use Rattle.mpc_runs.specs.Leaving.{StayBefore}
use Rattle.mpc_runs.proofs.Stays.{stay_at_point}
use Rattle.mpc_runs.specs.RunEnd.{IsMultipliers, EndsRefuted}
use Rattle.mpc_beginnings.specs.Beginnings.{lengthened, Agrees}
use Rattle.mpc_runs.proofs.Turn.{turn-at}
use Rattle.mpc_runs.proofs.Positions.{tableau, goes_at, next_position, left_at, entered_at}
use Rattle.mpc_runs.proofs.Outside.{within}
use Rattle.mpc_runs.proofs.Ends.{run_ends, position-zero}
use Rattle.mpc_beginnings.proofs.Prefix.{opening_agrees, pivot_agrees, value_agrees, turn_agrees, leave_agrees}

goes_no_point : (t : Turn) → is_pivot t ≡ true → t ≡ has_point → ⊥
goes_no_point t g e = both_ways (is_pivot t) (ap is_pivot e) g

refuted_no_point : (t : Turn) (l : ℕ) → t ≡ is_refuted l → t ≡ has_point → ⊥
refuted_no_point t l g e = cc

module _ (s : LinearSystem) (more : List Row) where
  abbrev longer : LinearSystem
  longer = lengthened s more

  turn_at_agreeing : (k : ℕ) → Agrees (count s) (position s k) (position (lengthened s more) k) → (turn s (position s k) ≡ has_point → ⊥) → turn (lengthened s more) (position (lengthened s more) k) ≡ turn s (position s k)
  turn_at_agreeing k a = turn_agrees s more (position s k) (position (lengthened s more) k) (within s k) (tableau (lengthened s more) k) a

  step_agrees : (k : ℕ) → GoesOn s k → Agrees (count s) (position s k) (position (lengthened s more) k) → Agrees (count s) (position s (suc k)) (position (lengthened s more) (suc k))
  step_agrees k g a =
      let t : turn (lengthened s more) (position (lengthened s more) k) ≡ turn s (position s k) = turn_at_agreeing k a (goes_no_point (turn s (position s k)) g.pivots) in
      let g' : GoesOn (lengthened s more) k = record { pivots = ap is_pivot t ∙ g.pivots } in
      subst₂ (λ u v. Agrees (count s) u v) (sym (next_position s k g))
      (sym (next_position (lengthened s more) k g' ∙ (λ i. pivot (position (lengthened s more) k) (leaving (t i)) (entering (t i)))))
      (pivot_agrees (count s) (position s k) (position (lengthened s more) k) a (left_at s k) (entered_at s k) (goes_at s k g).leaves.below)

  -- the positions up to the last one of the shorter system
  pub positions_agree : (k : ℕ) → k ≤ steps s → Agrees (count s) (position s k) (position (lengthened s more) k)
  positions_agree zero h = subst₂ (λ u v. Agrees (count s) u v) (sym (position-zero s)) (sym (position-zero (lengthened s more))) (opening_agrees s more)
  positions_agree (suc k) h = step_agrees k ((run_ends s).goes k (omega arith)) (positions_agree k (omega arith))

  -- each step of the shorter system is one of the longer
  pub turns_agree : (k : ℕ) → k < steps s → turn (lengthened s more) (position (lengthened s more) k) ≡ turn s (position s k)
  turns_agree k h = turn_at_agreeing k (positions_agree k (omega arith)) (goes_no_point (turn s (position s k)) ((run_ends s).goes k h).pivots)

  pub goes_longer : (k : ℕ) → k < steps s → GoesOn (lengthened s more) k
  goes_longer k h = record { pivots = ap is_pivot (turns_agree k h) ∙ ((run_ends s).goes k h).pivots }

  pub steps_longer : steps s ≤ steps (lengthened s more)
  steps_longer = by (cases_lt (steps (lengthened s more)) (steps s))
    where
      by : (steps (lengthened s more) < steps s) ⊎ (steps s ≤ steps (lengthened s more)) → steps s ≤ steps (lengthened s more)
      by (inl l) = absurd (both_ways (is_pivot (turn (lengthened s more) (position (lengthened s more) (steps (lengthened s more))))) (run_ends (lengthened s more)).stops (goes_longer (steps (lengthened s more)) l).pivots)
      by (inr l) = l

  -- the longer run comes to where the shorter one ends
  pub last_agrees : Agrees (count s) (last_position s) (position (lengthened s more) (steps s))
  unfolding last_position
  last_agrees = positions_agree (steps s) (omega arith)

  same_value : (x : ℕ) → x < count s → value (lengthened s more) (position (lengthened s more) (steps s)) x ≡ value s (position s (steps s)) x
  same_value x l = value_agrees s more (position s (steps s)) (position (lengthened s more) (steps s)) (within s (steps s)) (tableau (lengthened s more) (steps s)) (positions_agree (steps s) (omega arith)) x l

  -- and there the unknowns have the same values
  pub values_agree : (d : ℕ) (c_1 c_2 : List ℤ) → AreValues s (last_position s) d c_1 c_2 → AreValues (lengthened s more) (position (lengthened s more) (steps s)) d c_1 c_2
  unfolding last_position
  values_agree d c_1 c_2 h = record {
    first = λ j l. ap (λ q. q.first) (same_value j (omega arith)) ∙ h.first j l;
    second = λ j l. ap (λ q. q.second) (same_value j (omega arith)) ∙ h.second j l;
  }

  -- ---- where the shorter one is refuted
  module _ (l : ℕ) (ends : turn s (last_position s) ≡ is_refuted l) where
    pub same_end : turn (lengthened s more) (position (lengthened s more) (steps s)) ≡ is_refuted l
    unfolding last_position
    same_end = turn_at_agreeing (steps s) (positions_agree (steps s) (omega arith)) (refuted_no_point (turn s (last_position s)) l ends) ∙ ends

    pub refuted_steps : steps (lengthened s more) ≡ steps s
    refuted_steps = by (cases_lt (steps s) (steps (lengthened s more)))
      where
        by : (steps s < steps (lengthened s more)) ⊎ (steps (lengthened s more) ≤ steps s) → steps (lengthened s more) ≡ steps s
        by (inl h) = absurd (both_ways (is_pivot (turn (lengthened s more) (position (lengthened s more) (steps s)))) (ap is_pivot same_end) ((run_ends (lengthened s more)).goes (steps s) h).pivots)
        by (inr h) = let k : steps s ≤ steps (lengthened s more) = steps_longer in omega arith

    pub refuted_last : last_position (lengthened s more) ≡ position (lengthened s more) (steps s)
    unfolding last_position
    refuted_last = ap (position (lengthened s more)) refuted_steps

    pub refuted_turn : turn (lengthened s more) (last_position (lengthened s more)) ≡ is_refuted l
    refuted_turn = ap (turn (lengthened s more)) refuted_last ∙ same_end

    l_below : l < count s
    l_below = (turn-at s (last_position s) (is_refuted l) ends).0.below

    at_last : Agrees (count s) (last_position s) (last_position (lengthened s more))
    at_last = subst (Agrees (count s) (last_position s)) (sym refuted_last) last_agrees

    -- the multipliers are the same
    pub refuted_multipliers : (i : ℕ) → multiplier (lengthened s more) (last_position (lengthened s more)) l i ≡ multiplier s (last_position s) l i
    unfolding multiplier
    refuted_multipliers i = λ j. cond (eqb (s.width + i) l) (int (pos 1)) (cond (at_last.basic (s.width + i) j) (int (pos 0)) (neg_ℚ (at_last.rows l (s.width + i) l_below j)))

    -- and those of the further rows are 0
    pub appended_multipliers : (i : ℕ) → height s ≤ i → multiplier (lengthened s more) (last_position (lengthened s more)) l i ≡ int (pos 0)
    unfolding multiplier last_position
    appended_multipliers i h =
        let k : l < count s = l_below in
        refuted_multipliers i
        ∙ cond-false (eqb (s.width + i) l) _ _ (ne_eqb (s.width + i) l (λ e. omega arith))
        ∙ cond-true ((last_position s).is_basic (s.width + i)) _ _ ((within s (steps s)).basic (s.width + i) (omega arith))

    multipliers_at : (m : List ℚ) → IsMultipliers s (last_position s) l m → (i : ℕ) → (i < height s) ⊎ (height s ≤ i) → coordinate (m ++ zeros (length more)) i ≡ multiplier (lengthened s more) (last_position (lengthened s more)) l i
    multipliers_at m h i (inl k) = get_or_append_left m (zeros (length more)) (int (pos 0)) i (let z : length m ≡ height s = h.size in omega arith) ∙ h.at i k ∙ sym (refuted_multipliers i)
    multipliers_at m h i (inr k) = get_or-append_right m (zeros (length more)) (height s) i (int (pos 0)) h.size k ∙ zeros_at (length more) (i - height s) ∙ sym (appended_multipliers i k)
      where
        zeros_at : (n i : ℕ) → get_or (zeros n) i (int (pos 0)) ≡ int (pos 0)
        zeros_at n i = by (cases_lt i n)
          where
            by : (i < n) ⊎ (n ≤ i) → get_or (zeros n) i (int (pos 0)) ≡ int (pos 0)
            by (inl l) = get_or-replicate n i (int (pos 0)) (int (pos 0)) l
            by (inr l) = get_or_past (zeros n) i (int (pos 0)) (omega (arith, length-replicate n (int (pos 0))))

    pub refuted_same : (m : List ℚ) → IsMultipliers s (last_position s) l m → IsMultipliers (lengthened s more) (last_position (lengthened s more)) l (m ++ zeros (length more))
    refuted_same m h = record { size = (let e : length m ≡ height s = h.size in omega (arith, length-append m (zeros (length more)), length-append s.rows more, length-replicate (length more) (int (pos 0)))); at = λ i k. multipliers_at m h i (cases_lt i (height s)) }

  -- so the longer run ends refuted with the multipliers of the shorter one, and 0 for each further row
  pub refuted_longer : (m : List ℚ) → EndsRefuted s m → EndsRefuted (lengthened s more) (m ++ zeros (length more))
  refuted_longer m h = record { row = h.row; ends = refuted_turn h.row h.ends; multipliers = refuted_same h.row h.ends m h.multipliers }

  -- ---- where the shorter one ends with a point: who leaves there is a further side
  module _ (ends : turn s (last_position s) ≡ has_point) where
    pub stay_before : StayBefore (lengthened s more) (position (lengthened s more) (steps s)) (count s)
    unfolding last_position
    stay_before x l =
        leave_agrees s more (position s (steps s)) (position (lengthened s more) (steps s)) (within s (steps s)) (tableau (lengthened s more) (steps s)) (positions_agree (steps s) (omega arith)) x l
        ∙ stay_at_point s (position s (steps s)) ends x l
