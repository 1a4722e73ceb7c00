-- A run that goes on by the rows of a system, one after another.
use Rattle.std.proofs.Common.{◌≡◌, ℕ, ◌≤◌, ◌↔◌, List, Bool, true, false, IsTrue, length, ◌∙◌, ap, subst}
use Rattle.std.proofs.lemmas.List.{take_all}
use Rattle.std.proofs.lemmas.List.FromFn.{length-map-range_with_len}
use Rattle.mpc_bench.specs.declared.parts.Parts.{Parts}
use Rattle.mpc_rows.specs.declared.systems.Row.{Row}
use Rattle.mpc_rows.specs.LinearSystem.{LinearSystem, height}
use Rattle.mpc_bench.specs.declared.systems.Side.{Side}
use Rattle.mpc_bench.specs.Sent.{sent_row, sent_system}
use Rattle.mpc_rows.specs.RunWidth.{RunFits}
use Rattle.mpc_simplex.specs.Answer.{HasPoint}
use Rattle.mpc_bench.specs.declared.going_on.Course.{Course}
use Rattle.mpc_bench.specs.declared.going_on.Course.TheVariants.{Kept}
use Rattle.mpc_bench.specs.Courses.{first_rows, IfKept}

-- with all rows, the first ones are the system
pub all_rows : (s : LinearSystem) (count : ℕ) → height s ≤ count → (run : LinearSystem) → run ≡ first_rows s count → run ≡ s
all_rows s count far run is =
    let whole : (rows : List Row) → LinearSystem = λ rows. record { width = s.width; rows = rows } in
    is ∙ ap whole (take_all count s.rows far)

-- there is a row for each side that was sent
pub sent_height : (width : ℕ) (coefficients : List Parts) (sides : List Side) (system : LinearSystem) → system ≡ sent_system width coefficients sides → height system ≡ length sides
sent_height width coefficients sides system sent = ap height sent ∙ length-map-range_with_len (sent_row width coefficients sides) 0 (length sides)

-- what is kept of the system that was read holds of the one that was sent
module _ (sent system : LinearSystem) (same : system ≡ sent) (course : Course) (has_point : Bool) (is : course ≡ Kept has_point) where
  decided : IfKept course (λ b. IsTrue b ↔ HasPoint system) → IsTrue has_point ↔ HasPoint sent
  decided h = subst (λ s. IsTrue has_point ↔ HasPoint s) same (subst (λ f. IfKept f (λ b. IsTrue b ↔ HasPoint system)) is h)

  pub kept_point : IfKept course (λ b. IsTrue b ↔ HasPoint system) → IsTrue has_point → HasPoint sent
  kept_point h = (decided h).0

  pub kept_none : IfKept course (λ b. IsTrue b ↔ HasPoint system) → has_point ≡ false → ¬ HasPoint sent
  kept_none h out point = let there : has_point ≡ true = (decided h).1 point in cc

  pub kept_fits : IfKept course (λ b. RunFits system) → RunFits sent
  kept_fits h = subst RunFits same (subst (λ f. IfKept f (λ b. RunFits system)) is h)
