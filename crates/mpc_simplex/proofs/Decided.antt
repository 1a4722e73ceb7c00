-- What the end of a run says of the system.
use Rattle.std.proofs.Common.{◌≡◌, ℕ, List, subst, Result, Ok, Err, IfOk}
use Rattle.mpc_exact.specs.Rational.{ℚ}
use Rattle.mpc_rows.specs.declared.systems.Row.{Row}
use Rattle.mpc_rows.specs.LinearSystem.{LinearSystem, HasWidth, IsPairPoint}
use Rattle.mpc_rows.specs.Refutation.{Refutes}
use Rattle.mpc_rows.specs.SystemTheorems.{SystemTheorems}
use Rattle.mpc_rows.specs.Run.{value, multiplier, last_position}
use Rattle.mpc_simplex.specs.Answer.{IfPoint, IfRefuted, HasPoint, EndsWithPoint, EndsRefuted, IsRunEnd}
use Rattle.mpc_simplex.specs.declared.Decision.{Decision}
use Rattle.mpc_simplex.specs.declared.Decision.TheVariants.{Point, Refuted}
use Rattle.mpc_simplex.specs.declared.SimplexError.{SimplexError}
use Rattle.mpc_simplex.proofs.EndRight.{EndIs, end_right}

abbrev pub seen : ℕ → List Row → LinearSystem
seen width rows = record { width = width; rows = rows }

module _ (theorems : SystemTheorems) (s : LinearSystem) (w : HasWidth s.width s.rows) where
  pub ended-point : (v : List (ℚ × ℚ)) → EndsWithPoint s v → IsPairPoint s v
  ended-point v h = theorems.pair_point_from s w v (value s (last_position s)) h.values.size h.values.at (subst (EndIs s) h.ends (end_right s))

  pub ended-refuted : (m : List ℚ) → EndsRefuted s m → Refutes s m
  ended-refuted m h = theorems.refutes_from s m (multiplier s (last_position s) h.row) h.multipliers.size h.multipliers.at (subst (EndIs s) h.ends (end_right s))

  pub ended-no_point : (m : List ℚ) → EndsRefuted s m → ¬ HasPoint s
  ended-no_point m h p = theorems.refuted_has_no_point s m w h.multipliers.size (ended-refuted m h) p.0 p.1

  if_point : (d : Decision) → IsRunEnd s d → IfPoint d (IsPairPoint s)
  if_point (Point v) h = ended-point v h
  if_point (Refuted m) h = tt

  if_has_point : (d : Decision) → IsRunEnd s d → IfPoint d (λ _. HasPoint s)
  if_has_point (Point v) h = theorems.point_of_pairs s v (ended-point v h)
  if_has_point (Refuted m) h = tt

  if_refuted : (d : Decision) → IsRunEnd s d → IfRefuted d (Refutes s)
  if_refuted (Point v) h = tt
  if_refuted (Refuted m) h = ended-refuted m h

  if_no_point : (d : Decision) → IsRunEnd s d → IfRefuted d (λ _. ¬ HasPoint s)
  if_no_point (Point v) h = tt
  if_no_point (Refuted m) h = ended-no_point m h

module _ (theorems : SystemTheorems) (s : LinearSystem) (width : ℕ) (inside : List Row) (view : seen width inside ≡ s) (w : HasWidth width inside) where
  has_width : HasWidth s.width s.rows
  has_width = subst (λ (z : LinearSystem). HasWidth z.width z.rows) view w

  module _ (P : Decision → Type 0) (by : (d : Decision) → IsRunEnd s d → P d) where
    decided : (r : Result Decision SimplexError) → IfOk r (λ d. IsRunEnd s d) → IfOk r P
    decided (Ok d) h = by d h
    decided (Err e) h = h

  pub decided-point : (r : Result Decision SimplexError) → IfOk r (λ d. IsRunEnd s d) → IfOk r (λ d. IfPoint d (IsPairPoint s))
  decided-point r h = decided (λ d. IfPoint d (IsPairPoint s)) (if_point theorems s has_width) r h

  pub decided-has_point : (r : Result Decision SimplexError) → IfOk r (λ d. IsRunEnd s d) → IfOk r (λ d. IfPoint d (λ _. HasPoint s))
  decided-has_point r h = decided (λ d. IfPoint d (λ _. HasPoint s)) (if_has_point theorems s has_width) r h

  pub decided-refuted : (r : Result Decision SimplexError) → IfOk r (λ d. IsRunEnd s d) → IfOk r (λ d. IfRefuted d (Refutes s))
  decided-refuted r h = decided (λ d. IfRefuted d (Refutes s)) (if_refuted theorems s has_width) r h

  pub decided-no_point : (r : Result Decision SimplexError) → IfOk r (λ d. IsRunEnd s d) → IfOk r (λ d. IfRefuted d (λ _. ¬ HasPoint s))
  decided-no_point r h = decided (λ d. IfRefuted d (λ _. ¬ HasPoint s)) (if_no_point theorems s has_width) r h
