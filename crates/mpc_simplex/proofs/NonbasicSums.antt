-- Sums over the nonbasic sides alone: the terms of the unknowns and of the basic variables are 0.
use Rattle.std.proofs.Common.{◌≡◌, ℕ, ◌+◌, ◌-◌, ◌<◌, ◌≤◌, true, false, pos, List, [], ◌∷◌, length, get_or, sym, ◌∙◌, ap, subst, arith, ◌⊎◌, inl, inr}
use Rattle.std.proofs.lemmas.Bool.{cases_eq, cases_lt, both_ways}
use Rattle.mpc_exact.specs.Rational.{ℚ, int, ◌+ℚ◌, ◌*ℚ◌}
use Rattle.mpc_exact.proofs.RationalRing.{reads, by_ring}
use Rattle.mpc_space.specs.Total.{total}
use Rattle.mpc_space.proofs.Total.{total-split, total-zeros}
use Rattle.mpc_linear.specs.ZeroTheorems.{ZeroTheorems}
use Rattle.mpc_rows.specs.LinearSystem.{LinearSystem}
use Rattle.mpc_rows.specs.Run.{Position, IsTableau, rest}
use Rattle.mpc_rows.specs.RunWidth.{TermFits}
use Rattle.mpc_runs.specs.declared.variables.Seat.{Seat}
use Rattle.mpc_runs.specs.Table.{seat_at, in_row}
use Rattle.mpc_runs.proofs.Fits.{first_unknowns, second_unknowns, unknown_fits}
use Rattle.mpc_runs.proofs.Table.{total_more, first_terms, second_terms}
use Rattle.mpc_simplex.specs.Nonbasic.{AreNonbasicSides}
use Rattle.mpc_simplex.proofs.NonbasicSides.{reached, reached_side, reached_end, gap_first, gap_next}

nought : (c r : ℚ) → c ≡ int (pos 0) → c *ℚ r ≡ int (pos 0)
nought c r e = ap (λ u. u *ℚ r) e ∙ by_ring (r ∷ []) (search reads depth 30) (search reads depth 30) tt

plus_nought : (a : ℚ) → a +ℚ int (pos 0) ≡ a
plus_nought a = by_ring (a ∷ []) (search reads depth 30) (search reads depth 30) tt

-- terms that are 0 from m on
still : (f : ℕ → ℚ) (m d : ℕ) → ((y : ℕ) → m ≤ y → y < m + d → f y ≡ int (pos 0)) → total m f ≡ total (m + d) f
still f m d h = sym (total-split m d f ∙ ap (λ u. total m f +ℚ u) (total-zeros d (λ i. f (m + i)) (λ i l. h (m + i) (omega arith) (omega arith))) ∙ plus_nought (total m f))

still_to : (f : ℕ → ℚ) (m t : ℕ) → m ≤ t → ((y : ℕ) → m ≤ y → y < t → f y ≡ int (pos 0)) → total m f ≡ total t f
still_to f m t l h =
    let e : m + (t - m) ≡ t = omega arith in
    still f m (t - m) (λ y a b. h y a (omega arith)) ∙ ap (λ k. total k f) e

module _ (s : LinearSystem) (n : ℕ) (seats : List Seat) (sides : List ℕ) (a : AreNonbasicSides s.width n seats sides) (p : Position) (t : IsTableau p) (same : (y : ℕ) → p.is_basic y ≡ in_row (seat_at seats y)) (x : ℕ) where
  zero_term : (f : ℕ → ℚ) (y : ℕ) → in_row (seat_at seats y) ≡ true → p.coefficient x y *ℚ f y ≡ int (pos 0)
  zero_term f y h = nought (p.coefficient x y) (f y) (t.empty x y (same y ∙ h))

  -- ---- before the first side of the list
  start_past : s.width ≤ n → s.width ≤ reached n sides 0
  start_past l = by (cases_lt 0 (length sides))
    where
      by : (0 < length sides) ⊎ (length sides ≤ 0) → s.width ≤ reached n sides 0
      by (inl b) = let q : reached n sides 0 ≡ get_or sides 0 0 = reached_side n sides 0 b in let r : s.width ≤ get_or sides 0 0 = a.sides 0 b in omega arith
      by (inr b) = let q : reached n sides 0 ≡ n = reached_end n sides 0 b in omega arith

  to_start : (f : ℕ → ℚ) → s.width ≤ n → total s.width (λ y. p.coefficient x y *ℚ f y) ≡ total (reached n sides 0) (λ y. p.coefficient x y *ℚ f y)
  to_start f l = still_to (λ y. p.coefficient x y *ℚ f y) s.width (reached n sides 0) (start_past l) (λ y h b. zero_term f y (gap_first s.width n seats sides a y h b))

  pub first_start : s.width ≤ n → int (pos 0) ≡ total (reached n sides 0) (first_terms s p x)
  first_start l = first_unknowns s p x s.width (omega arith) ∙ to_start (λ y. (rest s y).first) l

  pub second_start : s.width ≤ n → int (pos 0) ≡ total (reached n sides 0) (second_terms s p x)
  second_start l = second_unknowns s p x s.width (omega arith) ∙ to_start (λ y. (rest s y).second) l

  pub fits_start : ZeroTheorems → (z : ℕ) → z < reached n sides 0 → p.is_basic z ≡ false → TermFits s p x z
  fits_start theorems z b f = by (cases_lt z s.width)
    where
      by : (z < s.width) ⊎ (s.width ≤ z) → TermFits s p x z
      by (inl h) = unknown_fits s p x theorems z h
      by (inr h) = absurd (both_ways (p.is_basic z) f (same z ∙ gap_first s.width n seats sides a z h b))

  -- ---- one side on
  module _ (k y : ℕ) (b : k < length sides) (e : y ≡ get_or sides k 0) where
    at_side : reached n sides k ≡ y
    at_side = reached_side n sides k b ∙ sym e

    past : y + 1 ≤ reached n sides (k + 1)
    past = by (cases_lt (k + 1) (length sides))
      where
        by : (k + 1 < length sides) ⊎ (length sides ≤ k + 1) → y + 1 ≤ reached n sides (k + 1)
        by (inl h) = let q : reached n sides (k + 1) ≡ get_or sides (k + 1) 0 = reached_side n sides (k + 1) h in let r : get_or sides k 0 < get_or sides (k + 1) 0 = a.rising k (k + 1) (omega arith) h in omega arith
        by (inr h) = let q : reached n sides (k + 1) ≡ n = reached_end n sides (k + 1) h in let r : get_or sides k 0 < n = a.below k b in omega arith

    pub sum_next : (f : ℕ → ℚ) (sum part next : ℚ) → sum ≡ total (reached n sides k) (λ y. p.coefficient x y *ℚ f y) → part ≡ p.coefficient x y *ℚ f y → next ≡ sum +ℚ part
        → next ≡ total (reached n sides (k + 1)) (λ y. p.coefficient x y *ℚ f y)
    sum_next f sum part next g h m =
        total_more y (λ y. p.coefficient x y *ℚ f y) sum part next (g ∙ ap (λ u. total u (λ y. p.coefficient x y *ℚ f y)) at_side) h m
        ∙ still_to (λ y. p.coefficient x y *ℚ f y) (y + 1) (reached n sides (k + 1)) past
        (λ z l d. zero_term f z (gap_next s.width n seats sides a k z b (omega arith) d))

    pub fits_next : ((z : ℕ) → z < reached n sides k → p.is_basic z ≡ false → TermFits s p x z) → TermFits s p x y → (z : ℕ) → z < reached n sides (k + 1) → p.is_basic z ≡ false → TermFits s p x z
    fits_next g h z l f = by (cases_lt z y) (cases_eq z y)
      where
        by : (z < y) ⊎ (y ≤ z) → (z ≡ y) ⊎ (z ≡ y → ⊥) → TermFits s p x z
        by (inl m) d = g z (let q : reached n sides k ≡ y = at_side in omega arith) f
        by (inr m) (inl d) = subst (TermFits s p x) (sym d) h
        by (inr m) (inr d) = absurd (both_ways (p.is_basic z) f (same z ∙ gap_next s.width n seats sides a k z b (omega arith) l))
