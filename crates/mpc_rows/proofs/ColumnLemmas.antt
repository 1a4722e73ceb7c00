-- The columns so far, and the strict rows so far.
use Rattle.std.proofs.Common.{◌≡◌, ℕ, ◌+◌, ◌<◌, ◌≤◌, Bool, true, List, length, get_or, slice_get, Some, pos, sym, ◌∙◌, ap, subst, arith, ◌⊎◌, inl, inr}
use Rattle.std.proofs.lemmas.Bool.{cases_eq}
use Rattle.std.proofs.lemmas.Option.{get_or_from_slice_get, slice_get_within}
use Rattle.mpc_exact.specs.Rational.{ℚ, int, ◌<ℚ◌}
use Rattle.mpc_space.specs.Vector.{coordinate, dot}
use Rattle.mpc_linear.specs.Dot.{DotFits}
use Rattle.mpc_rows.specs.LinearSystem.{LinearSystem}
use Rattle.mpc_rows.proofs.SumLemmas.{seen}
use Rattle.mpc_rows.specs.Refutation.{coefficients_on, WeighsStrict}
use Rattle.mpc_rows.specs.declared.systems.Row.{Row}

abbrev pub column_dot : LinearSystem → List ℚ → ℕ → ℚ
column_dot s m k = dot m (coefficients_on k s.rows)

-- the sums of the unknowns below j fit, and the flag says whether they are all 0
pub record ColumnsSo (s : LinearSystem) (m : List ℚ) (j : ℕ) (zero : Bool) : Type 0 where
  pub fits : (k : ℕ) → k < j → DotFits m (coefficients_on k s.rows)
  pub zeros : zero ≡ true → (k : ℕ) → k < j → column_dot s m k ≡ int (pos 0)
  pub back : ((k : ℕ) → k < j → column_dot s m k ≡ int (pos 0)) → zero ≡ true

-- no strict row before row i has a positive multiplier
abbrev pub NoneBefore : LinearSystem → List ℚ → ℕ → Type 0
NoneBefore s m i = (w : WeighsStrict s.rows m) → w.place < i → ⊥

module _ (s : LinearSystem) (m : List ℚ) (inside : List Row) (width i : ℕ) (view : seen width inside ≡ s) (r : Row) (x : ℚ) (er : slice_get inside i ≡ Some r) (ex : x ≡ coordinate m i) where
  row_is : slice_get s.rows i ≡ Some r
  row_is = subst (λ (z : LinearSystem). slice_get z.rows i ≡ Some r) view er

  pub strict_found : (r.strict ≡ true) × (int (pos 0) <ℚ x) → WeighsStrict s.rows m
  strict_found h = record { place = i; row = r; is = row_is; strict = h.0; positive = subst (λ z. int (pos 0) <ℚ z) ex h.1 }

  pub none_more : ((r.strict ≡ true) × (int (pos 0) <ℚ x) → ⊥) → NoneBefore s m i → NoneBefore s m (i + 1)
  none_more never before w h = by (cases_eq w.place i)
    where
      at : (e : w.place ≡ i) → r ≡ w.row
      at e = sym (get_or_from_slice_get s.rows i r r row_is) ∙ ap (λ k. get_or s.rows k r) (sym e) ∙ get_or_from_slice_get s.rows w.place w.row r w.is

      by : (w.place ≡ i) ⊎ (w.place ≡ i → ⊥) → ⊥
      by (inl e) = never (ap (λ (z : Row). z.strict) (at e) ∙ w.strict, subst (λ z. int (pos 0) <ℚ z) (ap (coordinate m) e ∙ sym ex) w.positive)
      by (inr e) = before w (omega arith)

pub none_at_all : (s : LinearSystem) (m : List ℚ) (inside : List Row) (width i : ℕ) → seen width inside ≡ s → length inside ≤ i → NoneBefore s m i → WeighsStrict s.rows m → ⊥
none_at_all s m inside width i view h before w =
    let e : length inside ≡ length s.rows = ap (λ (z : LinearSystem). length z.rows) view in
    let k : w.place < length s.rows = slice_get_within s.rows w.place w.row w.is in
    before w (omega arith)
