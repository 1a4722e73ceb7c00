-- The multipliers of a row that refutes: its own, and those of the sides that stand in the columns.
use Rattle.std.proofs.Common.{◌≡◌, ℕ, ◌+◌, ◌-◌, ◌*◌, ◌<◌, ◌≤◌, List, length, set, ℤ, pos, ◌*ℤ◌, neg_ℤ, refl, sym, ◌∙◌, ap, subst, arith, ◌⊎◌, inl, inr, mul-pos, length-set, get_or-set_same, get_or-set_other}
use Rattle.std.proofs.lemmas.Bool.{cases_eq}
use Rattle.mpc_exact.specs.Rational.{ℚ, int, frac}
use Rattle.mpc_space.specs.Vector.{coordinate, zeros}
use Rattle.mpc_space.proofs.Entries.{coordinate-zeros}
use Rattle.mpc_rows.specs.LinearSystem.{LinearSystem, height}
use Rattle.mpc_rows.specs.Run.{Position, count, multiplier}
use Rattle.mpc_runs.specs.declared.variables.Seat.{Seat}
use Rattle.mpc_runs.specs.declared.variables.Seat.TheVariants.{Row, Column}
use Rattle.mpc_runs.specs.RunEnd.{IsMultipliers}
use Rattle.mpc_runs.specs.Table.{seat_at, variable_at, in_row, IsSeated, AreNonbasic}
use Rattle.mpc_scaled.specs.Scaled.{whole_at, scale_at}
use Rattle.mpc_whole.specs.Running.{HasColumnMultipliers}
use Rattle.mpc_whole.specs.Whole.{HasBasis, IsRowOf}
use Rattle.mpc_runs.proofs.Answered.{multiplier_own, multiplier_basic, multiplier_free}
use Rattle.mpc_runs.proofs.Seats.{seat_cases, seats_apart, column_same}
use Rattle.mpc_whole.proofs.Nonbasic.{column_of}
use Rattle.mpc_whole.proofs.WholeEnds.{negative_over}

pub no_columns : (w : ℕ) (k nonbasic : List ℕ) (x : List ℤ) (den h : ℕ) → HasColumnMultipliers w k nonbasic x den 0 (zeros h)
no_columns w k nonbasic x den h = record {
  inside = λ seats a c l. absurd (omega arith);
  outside = λ i f. coordinate-zeros h i;
}

-- one column more
module _ (w : ℕ) (k nonbasic : List ℕ) (x : List ℤ) (den column : ℕ) (m : List ℚ) (h : HasColumnMultipliers w k nonbasic x den column m) where
  abbrev v : ℕ → ℕ
  v = variable_at nonbasic

  abbrev value : ℕ → ℚ
  value c = frac (neg_ℤ (whole_at x c *ℤ pos (scale_at k (v c)))) den

  pub column_skipped : variable_at nonbasic column < w → HasColumnMultipliers w k nonbasic x den (column + 1) m
  column_skipped b = record {
    inside = λ seats a c l side. by seats a c l side (cases_eq c column);
    outside = λ i f. h.outside i (λ c l. f c (omega arith));
  }
    where
      by : (seats : List Seat) → AreNonbasic w seats nonbasic → (c : ℕ) → c < column + 1 → w ≤ v c → (c ≡ column) ⊎ (c ≡ column → ⊥) → coordinate m (v c - w) ≡ value c
      by seats a c l side (inl q) = absurd (let e : v c ≡ v column = ap (variable_at nonbasic) q in omega arith)
      by seats a c l side (inr q) = h.inside seats a c (omega arith) side

  module _ (z : ℚ) (b : column < w) (side : w ≤ variable_at nonbasic column) (there : variable_at nonbasic column - w < length m) (is : z ≡ value column) where
    abbrev new : List ℚ
    new = set m (v column - w) z

    written : (seats : List Seat) → AreNonbasic w seats nonbasic → (c : ℕ) → c < column + 1 → w ≤ v c → (c ≡ column) ⊎ (c ≡ column → ⊥) → coordinate new (v c - w) ≡ value c
    written seats a c l above (inl q) = subst (λ d. coordinate new (v d - w) ≡ value d) (sym q) (get_or-set_same m (v column - w) z (int (pos 0)) there ∙ is)
    written seats a c l above (inr q) =
        let other : v c ≡ v column → ⊥ = λ e. q (column_same c column (sym (a.at c (omega arith)) ∙ ap (seat_at seats) e ∙ a.at column b)) in
        get_or-set_other m (v column - w) (v c - w) z (int (pos 0)) (λ e. other (omega arith)) ∙ h.inside seats a c (omega arith) above

    pub column_written : HasColumnMultipliers w k nonbasic x den (column + 1) (set m (variable_at nonbasic column - w) z)
    column_written = record {
      inside = λ seats a c l above. written seats a c l above (cases_eq c column);
      outside = λ i f. get_or-set_other m (v column - w) i z (int (pos 0)) (λ e. f column (omega arith) (omega arith)) ∙ h.outside i (λ c l. f c (omega arith));
    }

-- all multipliers
module _ (s : LinearSystem) (k nonbasic : List ℕ) (x : List ℤ) (den l : ℕ) (m : List ℚ) (some : 0 < den) (side : s.width ≤ l) (leaves : l < count s) (size : length m ≡ height s) (all : HasColumnMultipliers s.width k nonbasic x (den * scale_at k l) s.width m)
    (seats : List Seat) (p : Position) (seated : IsSeated (height s) s.width (count s) seats) (a : AreNonbasic s.width seats nonbasic) (h : HasBasis (count s) seats p) (r : IsRowOf (count s) seats k p den l x) where
  another : (i : ℕ) → i < height s → (s.width + i ≡ l → ⊥) → coordinate m i ≡ multiplier s p l i
  another i b n = by (seat_cases (seat_at seats (s.width + i)))
    where
      y_in : s.width + i < count s
      y_in = omega arith

      by : ((t : ℕ) × (seat_at seats (s.width + i) ≡ Row t)) ⊎ ((c : ℕ) × (seat_at seats (s.width + i) ≡ Column c)) → coordinate m i ≡ multiplier s p l i
      by (inl q) =
          all.outside i (λ c g e. seats_apart q.0 c (sym q.1 ∙ ap (seat_at seats) e ∙ a.at c g))
          ∙ multiplier_basic s p l i (s.width + i) refl n (h.basic (s.width + i) y_in ∙ ap in_row q.1)
      by (inr q) =
          let there = column_of s (count s) seats nonbasic seated a (s.width + i) q.0 y_in q.1 in
          let back : i ≡ s.width + i - s.width = omega arith in
          ap (coordinate m) back
          ∙ subst (λ y. coordinate m (y - s.width) ≡ frac (neg_ℤ (whole_at x q.0 *ℤ pos (scale_at k y))) (den * scale_at k l)) there.1 (all.inside seats a q.0 there.0 (let e = there.1 in omega arith))
          ∙ negative_over (p.coefficient l (s.width + i)) _ _ (den * scale_at k l) (mul-pos some r.own) refl (r.coefficients (s.width + i) q.0 y_in q.1)
          ∙ multiplier_free s p l i (s.width + i) refl n (h.basic (s.width + i) y_in ∙ ap in_row q.1)

  pub multipliers_are : IsMultipliers s p l (set m (l - s.width) (int (pos 1)))
  multipliers_are = record { size = length-set m (l - s.width) (int (pos 1)) ∙ size; at = λ i b. by i b (cases_eq (s.width + i) l) }
    where
      by : (i : ℕ) → i < height s → (s.width + i ≡ l) ⊎ (s.width + i ≡ l → ⊥) → coordinate (set m (l - s.width) (int (pos 1))) i ≡ multiplier s p l i
      by i b (inl q) =
          let e : i ≡ l - s.width = omega arith in
          ap (coordinate (set m (l - s.width) (int (pos 1)))) e ∙ get_or-set_same m (l - s.width) (int (pos 1)) (int (pos 0)) (omega arith) ∙ multiplier_own s p l i (s.width + i) refl q
      by i b (inr q) = get_or-set_other m (l - s.width) i (int (pos 1)) (int (pos 0)) (λ e. q (omega arith)) ∙ another i b q
