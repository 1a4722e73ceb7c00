-- Variables that may not leave.
use Rattle.std.proofs.Common.{◌≡◌, ℕ, ◌<◌, ◌≤◌, Bool, true, false, sym, ◌∙◌, ◌⊎◌, inl, inr, lt-ltb, le-ltb}
use Rattle.std.proofs.lemmas.Bool.{cases_Bool, cases_lt}
use Rattle.mpc_exact.specs.Pair.{Pair, IsAtMost, is_below}
use Rattle.mpc_exact.proofs.Pair.{is_below-true, at_most-not-below}
use Rattle.mpc_rows.specs.LinearSystem.{LinearSystem}
use Rattle.mpc_rows.specs.Run.{Position, has_point, count, bound, value, turn, may_leave}
use Rattle.mpc_runs.specs.Leaving.{StayBefore}
use Rattle.mpc_runs.proofs.Turn.{turn-at}
use Rattle.mpc_runs.proofs.Table.{leave_unknown, leave_free, leave_test}

pub not_below_so : (p q : Pair) → IsAtMost q p → false ≡ is_below p q
not_below_so p q h = by (cases_Bool (is_below p q))
  where
    by : (is_below p q ≡ true) ⊎ (is_below p q ≡ false) → false ≡ is_below p q
    by (inl e) = absurd (at_most-not-below h (is_below-true p q e))
    by (inr e) = sym e

-- no unknown may leave
pub unknowns_stay : (s : LinearSystem) (p : Position) → StayBefore s p s.width
unknowns_stay s p = λ x k. leave_unknown s p x (lt-ltb x s.width k)

-- where a run ends with a point nobody may leave
pub stay_at_point : (s : LinearSystem) (p : Position) → turn s p ≡ has_point → StayBefore s p (count s)
stay_at_point s p ends x l = by (cases_lt x s.width)
  where
    side : s.width ≤ x → (p.is_basic x ≡ true) ⊎ (p.is_basic x ≡ false) → may_leave s p x ≡ false
    side h (inl b) = leave_test s p x (le-ltb x s.width h) b ∙ sym (not_below_so (bound s x) (value s p x) (turn-at s p has_point ends x l h b))
    side h (inr b) = leave_free s p x (le-ltb x s.width h) b

    by : (x < s.width) ⊎ (s.width ≤ x) → may_leave s p x ≡ false
    by (inl h) = leave_unknown s p x (lt-ltb x s.width h)
    by (inr h) = side h (cases_Bool (p.is_basic x))
