-- The rows that a refutation takes: the columns tell up to which of the first rows a multiplier may be other than 0.
use Rattle.std.proofs.Common.{◌≡◌, ℕ, ◌+◌, ◌-◌, ◌*◌, ◌<◌, ◌≤◌, List, ℤ, pos, neg_ℤ, refl, sym, ◌∙◌, ap, arith, ◌⊎◌, inl, inr, mul-pos}
use Rattle.std.proofs.lemmas.Bool.{cases_eq}
use Rattle.mpc_exact.specs.Rational.{int}
use Rattle.mpc_rows.specs.LinearSystem.{LinearSystem, height}
use Rattle.mpc_rows.specs.Run.{count, multiplier, is_refuted, turn, last_position}
use Rattle.mpc_runs.specs.declared.variables.Seat.{Seat}
use Rattle.mpc_runs.specs.declared.variables.Seat.TheVariants.{Row, Column}
use Rattle.mpc_runs.specs.Table.{seat_at, variable_at, in_row, IsSeated, AreNonbasic}
use Rattle.mpc_scaled.specs.Scaled.{scale_at, IsWholeSystem}
use Rattle.mpc_whole.specs.Running.{AreUnused}
use Rattle.mpc_whole.specs.Whole.{IsForm, side_cell}
use Rattle.mpc_runs.proofs.Answered.{multiplier_basic, multiplier_free}
use Rattle.mpc_runs.proofs.Seats.{seat_cases}
use Rattle.mpc_runs.proofs.WholeSums.{zero_over}
use Rattle.mpc_whole.proofs.Nonbasic.{column_of}
use Rattle.mpc_whole.proofs.WholeEnds.{negative_over}
use Rattle.mpc_whole.proofs.WholeRun.{last_scale, last_entry, last_below}
use Rattle.mpc_whole.proofs.WholeTurns.{times_nought}

-- the row of the side has 0 in those of the first columns where the side of one of the first rows stands, from row most on
pub record AreBorne (s : LinearSystem) (a v : List ℤ) (nonbasic : List ℕ) (side first columns most : ℕ) : Type 0 where
  pub within : most ≤ first
  pub own : side < first → side < most
  pub others : (c i : ℕ) → c < columns → variable_at nonbasic c ≡ s.width + i → most ≤ i → i < first → side_cell s a v side c ≡ pos 0

-- one column more
pub borne_next : (s : LinearSystem) (a v : List ℤ) (nonbasic : List ℕ) (side first column most next : ℕ) → AreBorne s a v nonbasic side first column most → most ≤ next → next ≤ first
    → ((i : ℕ) → variable_at nonbasic column ≡ s.width + i → next ≤ i → i < first → side_cell s a v side column ≡ pos 0) → AreBorne s a v nonbasic side first (column + 1) next
borne_next s a v nonbasic side first column most next h more within here = record {
  within = within;
  own = λ b. let o = h.own b in omega arith;
  others = λ c i b e l u. by c i b e l u (cases_eq c column);
}
  where
    by : (c i : ℕ) → c < column + 1 → variable_at nonbasic c ≡ s.width + i → next ≤ i → i < first → (c ≡ column) ⊎ (c ≡ column → ⊥) → side_cell s a v side c ≡ pos 0
    by c i b e l u (inl q) = ap (side_cell s a v side) q ∙ here i (sym (ap (variable_at nonbasic) q) ∙ e) l u
    by c i b e l u (inr q) = h.others c i (omega arith) e (omega arith) u

-- all columns
module _ (s : LinearSystem) (seats : List Seat) (k : List ℕ) (d : ℕ) (v : List ℤ) (f : IsForm s (count s) seats k d v (last_position s)) (seated : IsSeated (height s) s.width (count s) seats) (a b : List ℤ) (w : IsWholeSystem s k a b) (l : ℕ) (t : turn s (last_position s) ≡ is_refuted l)
    (nonbasic : List ℕ) (free : AreNonbasic s.width seats nonbasic) (first most : ℕ) (inside : first ≤ height s) (h : AreBorne s a v nonbasic (l - s.width) first s.width most) where
  unused : (i : ℕ) → most ≤ i → i < first → multiplier s (last_position s) l i ≡ int (pos 0)
  unused i from below = by (seat_cases (seat_at seats (s.width + i)))
    where
      y_in : s.width + i < count s
      y_in = omega arith

      other : s.width + i ≡ l → ⊥
      other e = let o : l - s.width < first → l - s.width < most = h.own in let q : l - s.width < most = o (omega arith) in omega arith

      by : ((r : ℕ) × (seat_at seats (s.width + i) ≡ Row r)) ⊎ ((c : ℕ) × (seat_at seats (s.width + i) ≡ Column c)) → multiplier s (last_position s) l i ≡ int (pos 0)
      by (inl q) = sym (multiplier_basic s (last_position s) l i (s.width + i) refl other (f.basic (s.width + i) y_in ∙ ap in_row q.1))
      by (inr q) =
          let there = column_of s (count s) seats nonbasic seated free (s.width + i) q.0 y_in q.1 in
          let scale = last_scale s (count s) seats k d v f seated a b w l t in
          let some : 0 < d * scale_at k l = mul-pos f.some (scale l (last_below s (count s) seats k d v f seated a b w l t)) in
          let none = times_nought (side_cell s a v (l - s.width) q.0) (scale_at k (s.width + i)) (scale (s.width + i) y_in) (h.others q.0 i there.0 there.1 from below) in
          sym (negative_over ((last_position s).coefficient l (s.width + i)) (pos 0) _ (d * scale_at k l) some (sym (ap neg_ℤ none)) (last_entry s (count s) seats k d v f seated a b w l t (s.width + i) q.0 y_in q.1)
          ∙ multiplier_free s (last_position s) l i (s.width + i) refl other (f.basic (s.width + i) y_in ∙ ap in_row q.1))
          ∙ zero_over (d * scale_at k l) some

  pub are_unused : AreUnused s l most first
  are_unused = record { each = unused }
