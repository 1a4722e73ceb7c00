-- Rows of systems, one behind the other.
use Rattle.std.proofs.Common.{◌≡◌, ℕ, suc, ◌+◌, ◌<◌, List, [], ◌∷◌, ◌++◌, length, get_or, map, take, drop, negsuc, refl, sym, ◌∙◌, ap, arith}
use Rattle.std.proofs.lemmas.List.{append-nil, append_assoc, take_more, length-append, length-drop, length-take-le}
use Rattle.mpc_exact.specs.Rational.{ℚ, int}
use Rattle.mpc_space.specs.Vector.{vec_scale}
use Rattle.mpc_space.proofs.Entries.{length-scale}
use Rattle.mpc_rows.specs.declared.systems.Row.{Row}
use Rattle.mpc_rows.specs.LinearSystem.{LinearSystem}
use Rattle.mpc_rows.specs.SetRuns.{box_from}
use Rattle.mpc_systems.specs.Writing.{widened}
use Rattle.mpc_systems.proofs.RowWriting.{lower, upper}

-- ---- the rows of a box
box-append : (width i : ℕ) (counts : List ℕ) (count : ℕ) → box_from width i (counts ++ count ∷ []) ≡ box_from width i counts ++ lower width (i + length counts) ∷ upper width (i + length counts) count ∷ []
box-append width i [] count = let e : i ≡ i + 0 = omega arith in λ t. lower width (e t) ∷ upper width (e t) count ∷ []
box-append width i (first ∷ counts) count =
    let e : suc i + length counts ≡ i + suc (length counts) = omega arith in
    ap (λ rows. lower width i ∷ upper width i first ∷ rows)
    (box-append width (suc i) counts count ∙ ap (λ q. box_from width (suc i) counts ++ lower width q ∷ upper width q count ∷ []) e)

box_more : (width : ℕ) (counts : List ℕ) (k : ℕ) → k < length counts → box_from width 0 (take (k + 1) counts) ≡ box_from width 0 (take k counts) ++ lower width k ∷ upper width k (get_or counts k 0) ∷ []
box_more width counts k h =
    ap (box_from width 0) (take_more counts k 0 h) ∙ box-append width 0 (take k counts) (get_or counts k 0)
    ∙ ap (λ q. box_from width 0 (take k counts) ++ lower width q ∷ upper width q (get_or counts k 0) ∷ []) (omega (arith, length-take-le k counts (omega arith)))

pub box_pushed : (width : ℕ) (counts : List ℕ) (k : ℕ) (old before middle new : List Row) (first second : Row) → k < length counts → before ≡ old ++ box_from width 0 (take k counts) → middle ≡ before ++ first ∷ [] → new ≡ middle ++ second ∷ [] →
    first ≡ lower width k → second ≡ upper width k (get_or counts k 0) → new ≡ old ++ box_from width 0 (take (k + 1) counts)
box_pushed width counts k old before middle new first second h e f g p q =
    g ∙ ap (λ rows. rows ++ (second ∷ [])) (f ∙ ap (λ rows. rows ++ (first ∷ [])) e)
    ∙ append_assoc (old ++ box_from width 0 (take k counts)) (first ∷ []) (second ∷ [])
    ∙ append_assoc old (box_from width 0 (take k counts)) (first ∷ second ∷ [])
    ∙ ap (λ rows. old ++ rows) (ap (λ rows. box_from width 0 (take k counts) ++ rows) (λ t. p t ∷ q t ∷ []) ∙ sym (box_more width counts k h))

-- ---- the rows in states and unknowns
pub joint_size : (right left a b : List ℚ) (p q : ℕ) → a ≡ [] ++ vec_scale (int (negsuc 0)) (drop 1 right) → b ≡ a ++ left → length right ≡ p + 1 → length left ≡ q → length b ≡ p + q
joint_size right left a b p q e f h k =
    ap length f ∙ length-append a left ∙ (λ t. first t + k t)
  where
    first : length a ≡ p
    first = ap length e ∙ length-scale (int (negsuc 0)) (drop 1 right) ∙ length-drop 1 right ∙ omega arith

pub three_parts : (width : ℕ) (a b c d box joint members : List Row) (s : LinearSystem) → a ≡ [] → b ≡ a ++ box → c ≡ b ++ joint → d ≡ c ++ members → s.rows ≡ d → s.width ≡ width → s ≡ record { width = width; rows = box ++ (joint ++ members) }
three_parts width a b c d box joint members s e f g h k l =
    λ t. record { width = l t; rows = (k ∙ h ∙ ap (λ r. r ++ members) (g ∙ ap (λ r. r ++ joint) (f ∙ ap (λ r. r ++ box) e)) ∙ append_assoc box joint members) t }

pub two_parts : (width : ℕ) (a b c box rest : List Row) (s : LinearSystem) → a ≡ [] → b ≡ a ++ box → c ≡ b ++ rest → s.rows ≡ c → s.width ≡ width → s ≡ record { width = width; rows = box ++ rest }
two_parts width a b c box rest s e f g k l = λ t. record { width = l t; rows = (k ∙ g ∙ ap (λ r. r ++ rest) (f ∙ ap (λ r. r ++ box) e)) t }

-- ---- the rows of a cell
-- no more coefficients change no row
pub widened-none : (rows : List Row) → map (widened 0) rows ≡ rows
widened-none [] = refl
widened-none (r ∷ rows) = λ i. record { a = append-nil r.a i; b = r.b; strict = r.strict } ∷ widened-none rows i

-- the parts of a system
pub last_part : (width : ℕ) (a box cell rest : List Row) (s : LinearSystem) → a ≡ box ++ cell → s.rows ≡ a ++ rest → s.width ≡ width → s ≡ record { width = width; rows = box ++ (cell ++ rest) }
last_part width a box cell rest s e f h = λ t. record { width = h t; rows = (f ∙ ap (λ r. r ++ rest) e ∙ append_assoc box cell rest) t }
