-- Past the last variable a position of a run has nothing: so the numbers below the count determine it.
use Rattle.std.proofs.Common.{◌≡◌, ℕ, zero, suc, ◌-◌, ◌<◌, ◌≤◌, true, false, not, pos, [], ◌∷◌, get_or, ◌∙◌, ap, arith, ◌⊎◌, inl, inr, lt-ltb, le-ltb}
use Rattle.std.proofs.lemmas.Bool.{cases_lt}
use Rattle.std.proofs.lemmas.List.{get_or_past}
use Rattle.mpc_exact.specs.Rational.{ℚ, int, ◌+ℚ◌, ◌-ℚ◌, ◌*ℚ◌, inv_ℚ}
use Rattle.mpc_exact.proofs.RationalRing.{reads, by_ring}
use Rattle.mpc_space.specs.Total.{unit}
use Rattle.mpc_rows.specs.declared.systems.Row.{Row}
use Rattle.mpc_rows.specs.LinearSystem.{LinearSystem, height, entry, no_row}
use Rattle.mpc_rows.specs.Run.{Position, IsTableau, Turn, has_point, is_refuted, goes_on, count, is_unknown, opening, pivot, moved, turn, position}
use Rattle.mpc_space.proofs.Total.{unit-other}
use Rattle.mpc_runs.proofs.Pivot.{update, basic-other}
use Rattle.mpc_runs.proofs.TableauRows.{opening_row, opening_rest, opening_known}
use Rattle.mpc_runs.proofs.Turn.{TurnIs, Goes, turn-is}
use Rattle.mpc_runs.proofs.Positions.{tableau}

pub record IsBounded (n : ℕ) (p : Position) : Type 0 where
  pub basic : (x : ℕ) → n ≤ x → p.is_basic x ≡ true
  pub row : (x y : ℕ) → n ≤ x → p.coefficient x y ≡ int (pos 0)
  pub column : (x y : ℕ) → x < n → n ≤ y → p.coefficient x y ≡ int (pos 0)

-- ---- the opening
entry_past : (s : LinearSystem) (i j : ℕ) → height s ≤ i → entry s i j ≡ int (pos 0)
unfolding entry
entry_past s i j h = ap (λ (r : Row). get_or r.a j (int (pos 0))) (get_or_past s.rows i no_row h)

opening_basic : (s : LinearSystem) (x : ℕ) → is_unknown s x ≡ false → (opening s).is_basic x ≡ true
unfolding opening
opening_basic s x e = ap not e

opening_within : (s : LinearSystem) → IsBounded (count s) (opening s)
opening_within s = record { basic = λ x h. opening_basic s x (le-ltb x s.width (omega arith)); row = λ x y h. row x y h (cases_lt y s.width); column = λ x y h k. column x y h k (cases_lt x s.width) }
  where
    row : (x y : ℕ) → count s ≤ x → (y < s.width) ⊎ (s.width ≤ y) → (opening s).coefficient x y ≡ int (pos 0)
    row x y h (inl k) = opening_row s x y (le-ltb x s.width (omega arith)) (lt-ltb y s.width k) ∙ entry_past s (x - s.width) y (omega arith)
    row x y h (inr k) = opening_rest s x y (le-ltb x s.width (omega arith)) (le-ltb y s.width k)

    column : (x y : ℕ) → x < count s → count s ≤ y → (x < s.width) ⊎ (s.width ≤ x) → (opening s).coefficient x y ≡ int (pos 0)
    column x y h k (inl l) = opening_known s x y (lt-ltb x s.width l) ∙ unit-other x y (λ e. omega arith)
    column x y h k (inr l) = opening_rest s x y (le-ltb x s.width l) (le-ltb y s.width (omega arith))

-- ---- a step
row_zero : (c k w : ℚ) → c ≡ int (pos 0) → k ≡ int (pos 0) → c +ℚ k *ℚ w ≡ int (pos 0)
row_zero c k w e f = (λ i. e i +ℚ f i *ℚ w) ∙ by_ring (w ∷ []) (search reads depth 30) (search reads depth 30) tt

column_zero : (c k u r i : ℚ) → c ≡ int (pos 0) → u ≡ int (pos 0) → r ≡ int (pos 0) → c +ℚ k *ℚ ((u -ℚ r) *ℚ i) ≡ int (pos 0)
column_zero c k u r i e f g = (λ j. e j +ℚ k *ℚ ((f j -ℚ g j) *ℚ i)) ∙ by_ring (k ∷ i ∷ []) (search reads depth 30) (search reads depth 30) tt

pivot_within : (s : LinearSystem) (p : Position) → IsTableau p → IsBounded (count s) p → (l e : ℕ) → Goes s p l e → IsBounded (count s) (pivot p l e)
pivot_within s p t w l e g = record {
  basic = λ x h. basic-other p l e x (λ q. omega (arith, g.leaves.below)) (λ q. omega (arith, g.below)) ∙ w.basic x h;
  row = λ x y h. up x y ∙ row_zero (p.coefficient x y) (p.coefficient x e) _ (w.row x y h) (w.row x e h);
  column = λ x y h k. up x y ∙ column_zero (p.coefficient x y) (p.coefficient x e) (unit l y) (p.coefficient l y) (inv_ℚ (p.coefficient l e)) (w.column x y h k) (unit-other l y (λ q. omega (arith, g.leaves.below))) (w.column l y g.leaves.below k);
}
  where
    up : (x y : ℕ) → (pivot p l e).coefficient x y ≡ p.coefficient x y +ℚ p.coefficient x e *ℚ ((unit l y -ℚ p.coefficient l y) *ℚ inv_ℚ (p.coefficient l e))
    up x y = update p t l e g.leaves.violated.basic g.eligible.free g.eligible.some x y

moved_within : (s : LinearSystem) (p : Position) → IsTableau p → IsBounded (count s) p → (t : Turn) → TurnIs s p t → IsBounded (count s) (moved p t)
moved_within s p t w has_point g = w
moved_within s p t w (is_refuted l) g = w
moved_within s p t w (goes_on l e) g = pivot_within s p t w l e g

pub within : (s : LinearSystem) (k : ℕ) → IsBounded (count s) (position s k)
unfolding position
within s zero = opening_within s
within s (suc k) = moved_within s (position s k) (tableau s k) (within s k) (turn s (position s k)) (turn-is s (position s k))
