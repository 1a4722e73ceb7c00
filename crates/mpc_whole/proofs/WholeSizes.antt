-- The sizes that are kept of the numbers of a run.
use Rattle.std.proofs.Common.{◌≡◌, ℕ, suc, ◌<◌, ◌≤◌, true, false, not, List, ℤ, pos, sym, ◌∙◌, ap, subst, arith, le_trans, ⊎_elim, lt-ltb, lit<}
use Rattle.std.proofs.lemmas.Bool.{cases_eq, cases_lt, both_ways}
use Rattle.mpc_exact.specs.Rational.{int, frac}
use Rattle.mpc_rows.specs.LinearSystem.{LinearSystem, height}
use Rattle.mpc_rows.specs.Run.{Position, count, is_unknown, opening, value, turn, is_pivot, position, steps}
use Rattle.mpc_runs.specs.declared.variables.Seat.{Seat}
use Rattle.mpc_runs.specs.Table.{IsSeated}
use Rattle.mpc_whole.specs.Whole.{IsForm, AreValues}
use Rattle.mpc_scaled.specs.Scaled.{whole_at, IsSmall}
use Rattle.mpc_whole.specs.SharedSizes.{IsSmallForm, AreSmallBefore}
use Rattle.mpc_whole.specs.Underway.{IsUnderway}
use Rattle.mpc_runs.proofs.Ends.{run_ends, position-zero}
use Rattle.mpc_runs.proofs.Positions.{value_rest}
use Rattle.mpc_runs.proofs.Read.{rest_unknown}
use Rattle.mpc_runs.proofs.WholeSums.{zero_over}
use Rattle.mpc_runs.proofs.Stays.{unknowns_stay}

-- a position of the run where it stops is the last one
pub stops_after : (s : LinearSystem) (q : ℕ) → q ≤ steps s → is_pivot (turn s (position s q)) ≡ false → q ≡ steps s
stops_after s q h g = ⊎_elim (λ l. absurd (both_ways (is_pivot (turn s (position s q))) g ((run_ends s).goes q l).pivots)) (λ l. omega arith) (cases_lt q (steps s))

-- at the opening no side is nonbasic, so all values are 0
opening_known : (s : LinearSystem) (j : ℕ) → is_unknown s j ≡ true → (opening s).is_basic j ≡ false
unfolding opening
opening_known s j h = ap not h

opening_value : (s : LinearSystem) (j : ℕ) → j < s.width → value s (position s 0) j ≡ record { first = int (pos 0); second = int (pos 0) }
opening_value s j l =
    let unknown : is_unknown s j ≡ true = lt-ltb j s.width l in
    value_rest s 0 j (omega arith) (ap (λ p. p.is_basic j) (position-zero s) ∙ opening_known s j unknown) ∙ rest_unknown s j unknown

pub opening_values : (s : LinearSystem) (c_1 c_2 : List ℤ) → ((j : ℕ) → whole_at c_1 j ≡ pos 0) → ((j : ℕ) → whole_at c_2 j ≡ pos 0) → AreValues s (position s 0) 1 c_1 c_2
opening_values s c_1 c_2 h_1 h_2 = record {
  first = λ j l. ap (λ q. q.first) (opening_value s j l) ∙ sym (zero_over 1 (lit< tt)) ∙ ap (λ z. frac z 1) (sym (h_1 j));
  second = λ j l. ap (λ q. q.second) (opening_value s j l) ∙ sym (zero_over 1 (lit< tt)) ∙ ap (λ z. frac z 1) (sym (h_2 j));
}

module _ (s : LinearSystem) (k : List ℕ) where
  abbrev pub wider_form : (p : Position) (m d most most_den : ℕ) → m ≤ most → d ≤ most_den → IsSmallForm s k p m d → IsSmallForm s k p most most_den
  wider_form p m d most most_den h l z = record { seats = z.seats; den = z.den; numbers = z.numbers; each = z.each; form = z.form; small = record { each = λ i. le_trans (z.small.each i) h }; den_small = le_trans z.den_small l }

  -- seated numbers that stand for a position
  abbrev pub small_form : (n : ℕ) (seats : List Seat) → IsSeated (height s) s.width n seats → (den : ℕ) (v : List ℤ) (p : Position) → IsForm s n seats k den v p → (most most_den : ℕ) → IsSmall most v → den ≤ most_den → IsSmallForm s k p most most_den
  small_form n seats seated den v p f most most_den h l =
      let all : n ≡ count s = seated.count in
      record { seats = seats; den = den; numbers = v; each = seated.each ∙ all; form = subst (λ m. IsForm s m seats k den v p) all f; small = h; den_small = l }

  -- one position more
  pub small_after : (q m d most most_den : ℕ) → m ≤ most → d ≤ most_den → AreSmallBefore s k q m d → IsSmallForm s k (position s q) most most_den → AreSmallBefore s k (suc q) most most_den
  small_after q m d most most_den h l b z = record { each = λ i below. ⊎_elim (λ e. subst (λ j. IsSmallForm s k (position s j) most most_den) (sym e) z) (λ e. wider_form (position s i) m d most most_den h l (b.each i (omega arith))) (cases_eq i q) }

  unfoldable pub opening_underway : (n : ℕ) (seats : List Seat) (v : List ℤ) → IsForm s n seats k 1 v (opening s) → (c_1 c_2 : List ℤ) → ((j : ℕ) → whole_at c_1 j ≡ pos 0) → ((j : ℕ) → whole_at c_2 j ≡ pos 0) → IsUnderway s n seats k 1 v c_1 c_2 0 0 s.width
  opening_underway n seats v f c_1 c_2 h_1 h_2 = record {
    stands = record { at = 0; order = omega arith; before = λ q h. absurd (omega arith); form = subst (IsForm s n seats k 1 v) (sym (position-zero s)) f };
    values = opening_values s c_1 c_2 h_1 h_2;
    before = record { each = λ q h. absurd (omega arith) };
    side = omega arith;
    stay = unknowns_stay s (position s 0);
  }
