-- A pivot on whole numbers is the pivot on the position that they stand for.
use Rattle.std.proofs.Common.{◌≡◌, ◌≢◌, ℕ, ◌+◌, ◌*◌, ◌<◌, true, List, set, ℤ, pos, ◌*ℤ◌, unsigned_abs, [], ◌∷◌, refl, sym, ◌∙◌, ap, subst, ◌⊎◌, inl, inr}
use Rattle.std.proofs.lemmas.Bool.{both_ways, cases_eq}
use Rattle.mpc_exact.specs.Rational.{ℚ, frac, int, ◌+ℚ◌, ◌-ℚ◌, ◌*ℚ◌, neg_ℚ, inv_ℚ}
use Rattle.mpc_exact.proofs.RationalRing.{reads, by_ring}
use Rattle.mpc_space.specs.Total.{unit}
use Rattle.mpc_space.proofs.Total.{unit-same, unit-other}
use Rattle.mpc_rows.specs.LinearSystem.{LinearSystem, height}
use Rattle.mpc_rows.specs.Run.{Position, IsTableau, count, pivot}
use Rattle.mpc_runs.specs.declared.variables.Seat.{Seat}
use Rattle.mpc_runs.specs.declared.variables.Seat.TheVariants.{Row, Column}
use Rattle.mpc_runs.specs.Table.{seat_at, in_row, IsSeated}
use Rattle.mpc_whole.specs.Judged.{IsReducedPivot}
use Rattle.mpc_whole.specs.Whole.{IsForm, IsSideRow, IsWholePivot}
use Rattle.mpc_scaled.specs.Scaled.{whole_at, whole_cell, scale_at, IsWholeSystem}
use Rattle.mpc_runs.proofs.Ends.{Reached}
use Rattle.mpc_runs.proofs.Seats.{seats_apart, column_same}
use Rattle.mpc_runs.proofs.Exchanged.{at_e, at_l, at_other, other_column_of}
use Rattle.mpc_runs.proofs.Pivot.{update, basic-at_leaving, basic-at_entering, basic-other}
use Rattle.mpc_runs.proofs.Turn.{Goes}
use Rattle.mpc_runs.proofs.WholeSums.{times_int, zero_over, ratio_is}
use Rattle.mpc_whole.proofs.WholeChanges.{at_leaving, at_another, over_scale, scale_not_zero, scaled_leave, turned_over, scaled_changed_over, size_some as some_over}
use Rattle.mpc_whole.proofs.WholeForm.{reached_tableau, side_entry}

-- a pivot by which nothing is taken out
pub whole_reduced : (width d : ℕ) (old new x : List ℤ) (e : ℕ) → 0 < d → IsWholePivot width d old new x e → IsReducedPivot width d old new x e (unsigned_abs (whole_at x e))
whole_reduced width d old new x e some h = record { factor = d; some = some; over = refl; column = λ j l. ap (λ z. z *ℤ pos d) (h.column j l); others = h.others }

nought_there : (E L : ℚ) → (int (pos 0) *ℚ E) *ℚ L ≡ int (pos 0)
nought_there E L = by_ring (E ∷ L ∷ []) (search reads depth 30) (search reads depth 30) tt

module _ (s : LinearSystem) (p : Position) (r : Reached s p) (k : List ℕ) (a b : List ℤ) (w : IsWholeSystem s k a b) (n : ℕ) (whole : count s ≡ n) (seats : List Seat) (seated : IsSeated (height s) s.width n seats)
    (d : ℕ) (v : List ℤ) (f : IsForm s n seats k d v p) (i e : ℕ) (g : Goes s p (s.width + i) e) (b_i : i < height s) (x : List ℤ) (row : IsSideRow s a v i x)
    (r₀ c₀ : ℕ) (sl : seat_at seats (s.width + i) ≡ Row r₀) (se : seat_at seats e ≡ Column c₀) where
  t : IsTableau p
  t = reached_tableau s p r

  pub l_in : s.width + i < n
  l_in = subst (λ m. s.width + i < m) whole g.leaves.below

  e_in : e < n
  e_in = subst (λ m. e < m) whole g.below

  c₀_in : c₀ < s.width
  c₀_in = (seated.columns e c₀ e_in se).0

  pub some_at : (y : ℕ) → y < n → 0 < scale_at k y
  some_at y h = w.scales.some y (subst (λ m. y < m) (sym whole) h)

  -- the scales of the two variables that are exchanged
  abbrev E : ℚ
  E = int (pos (scale_at k e))

  abbrev L : ℚ
  L = int (pos (scale_at k (s.width + i)))

  pub E_some : E ≢ int (pos 0)
  E_some = scale_not_zero (scale_at k e) (some_at e e_in)

  pub L_some : L ≢ int (pos 0)
  L_some = scale_not_zero (scale_at k (s.width + i)) (some_at (s.width + i) l_in)

  row_at_column : (y c : ℕ) → y < n → seat_at seats y ≡ Column c → p.coefficient (s.width + i) y ≡ (frac (whole_at x c) d *ℚ int (pos (scale_at k y))) *ℚ inv_ℚ L
  row_at_column y c h q =
      side_entry s p r k a b w n whole seats d v f i y c b_i h q ∙ ap (λ z. frac (z *ℤ pos (scale_at k y)) (d * scale_at k (s.width + i))) (sym (row.cells c (seated.columns y c h q).0))
      ∙ over_scale (whole_at x c) (scale_at k y) d (scale_at k (s.width + i)) f.some (some_at (s.width + i) l_in)

  pub pivot_is : p.coefficient (s.width + i) e ≡ (frac (whole_at x c₀) d *ℚ E) *ℚ inv_ℚ L
  pivot_is = row_at_column e c₀ e_in se

  pub pivot_some : frac (whole_at x c₀) d ≢ int (pos 0)
  pivot_some h = g.eligible.some (pivot_is ∙ ap (λ u. (u *ℚ E) *ℚ inv_ℚ L) h ∙ nought_there E (inv_ℚ L))

  pub pivot_number_some : whole_at x c₀ ≢ pos 0
  pivot_number_some h = pivot_some (ap (λ z. frac z d) h ∙ zero_over d f.some)

  -- the numbers of a column
  cell_is : (j y c : ℕ) → j < s.width → y < n → seat_at seats y ≡ Column c → p.coefficient j y ≡ frac (whole_cell s.width v j c) d *ℚ int (pos (scale_at k y))
  cell_is j y c h l o = f.entries j y c h l o ∙ sym (times_int (whole_cell s.width v j c) (pos (scale_at k y)) d f.some)

  pub entering_is : (j : ℕ) → j < s.width → p.coefficient j e ≡ frac (whole_cell s.width v j c₀) d *ℚ E
  entering_is j h = cell_is j e c₀ h e_in se

  up : (x y : ℕ) → (pivot p (s.width + i) e).coefficient x y ≡ p.coefficient x y +ℚ p.coefficient x e *ℚ ((unit (s.width + i) y -ℚ p.coefficient (s.width + i) y) *ℚ inv_ℚ (p.coefficient (s.width + i) e))
  up x y = update p t (s.width + i) e g.leaves.violated.basic g.eligible.free g.eligible.some x y

  e_not_l : e ≡ s.width + i → ⊥
  e_not_l h = both_ways (p.is_basic e) g.eligible.free (subst (λ z. p.is_basic z ≡ true) (sym h) g.leaves.violated.basic)

  module _ (new : List ℤ) (size : ℕ) (piv : IsReducedPivot s.width d v new x c₀ size) where
    pub size_some : 0 < size
    size_some = some_over (whole_at x c₀) d piv.factor size f.some pivot_number_some piv.some piv.over

    at_new : (j y c : ℕ) → j < s.width → y < n → (y ≡ e) ⊎ (y ≡ e → ⊥) → (y ≡ s.width + i) ⊎ (y ≡ s.width + i → ⊥) → seat_at (set (set seats (s.width + i) (Column c₀)) e (Row r₀)) y ≡ Column c →
        (pivot p (s.width + i) e).coefficient j y ≡ frac (whole_cell s.width new j c *ℤ pos (scale_at k y)) size
    at_new j y c h l (inl q) m o = absurd (seats_apart r₀ c (sym (at_e (height s) s.width n seats [] seated (s.width + i) e r₀ c₀ l_in e_in sl se) ∙ ap (seat_at (set (set seats (s.width + i) (Column c₀)) e (Row r₀))) (sym q) ∙ o))
    at_new j y c h l (inr q) (inl m) o =
        let cc : c₀ ≡ c = column_same c₀ c (sym (at_l (height s) s.width n seats [] seated (s.width + i) e r₀ c₀ l_in e_in sl se) ∙ ap (seat_at (set (set seats (s.width + i) (Column c₀)) e (Row r₀))) (sym m) ∙ o) in
        let there : (pivot p (s.width + i) e).coefficient j (s.width + i) ≡ frac (whole_cell s.width new j c₀ *ℤ pos (scale_at k (s.width + i))) size =
        up j (s.width + i)
        ∙ at_leaving (p.coefficient j (s.width + i)) (p.coefficient j e) (unit (s.width + i) (s.width + i)) (p.coefficient (s.width + i) (s.width + i)) (inv_ℚ (p.coefficient (s.width + i) e))
        (t.empty j (s.width + i) g.leaves.violated.basic) (unit-same (s.width + i) (s.width + i) refl) (t.empty (s.width + i) (s.width + i) g.leaves.violated.basic)
        ∙ (λ z. entering_is j h z *ℚ inv_ℚ (pivot_is z))
        ∙ scaled_leave (frac (whole_cell s.width v j c₀) d) (frac (whole_at x c₀) d) E L pivot_some E_some L_some
        ∙ ap (λ u. u *ℚ int (pos (scale_at k (s.width + i))))
        (ratio_is (whole_cell s.width v j c₀) (whole_at x c₀) d f.some pivot_number_some
        ∙ turned_over (whole_at x c₀) d piv.factor size f.some pivot_number_some piv.some piv.over (whole_cell s.width v j c₀) (whole_cell s.width new j c₀) (piv.column j h))
        ∙ times_int (whole_cell s.width new j c₀) (pos (scale_at k (s.width + i))) size size_some
        in
        ap ((pivot p (s.width + i) e).coefficient j) m ∙ there
        ∙ (λ z. frac (whole_cell s.width new j (cc z) *ℤ pos (scale_at k (sym m z))) size)
    at_new j y c h l (inr q) (inr m) o =
        let old : seat_at seats y ≡ Column c = sym (at_other (height s) s.width n seats [] seated (s.width + i) e r₀ c₀ l_in e_in sl se y q m) ∙ o in
        let apart : c ≡ c₀ → ⊥ = other_column_of (height s) s.width n seats [] seated (s.width + i) e r₀ c₀ l_in e_in sl se y c l old q in
        up j y
        ∙ at_another (p.coefficient j y) (p.coefficient j e) (unit (s.width + i) y) (p.coefficient (s.width + i) y) (inv_ℚ (p.coefficient (s.width + i) e)) (unit-other (s.width + i) y (λ z. m (sym z)))
        ∙ (λ z. cell_is j y c h l old z +ℚ entering_is j h z *ℚ (neg_ℚ (row_at_column y c l old z) *ℚ inv_ℚ (pivot_is z)))
        ∙ scaled_changed_over (whole_cell s.width v j c) (whole_cell s.width v j c₀) (whole_at x c) (whole_at x c₀) (whole_cell s.width new j c) d piv.factor size (scale_at k y) (frac (whole_at x c₀) d) E L f.some pivot_number_some piv.some piv.over refl pivot_some E_some L_some
        (piv.others j c h (seated.columns y c l old).0 apart)

    basic_new : (y : ℕ) → y < n → (y ≡ e) ⊎ (y ≡ e → ⊥) → (y ≡ s.width + i) ⊎ (y ≡ s.width + i → ⊥) → (pivot p (s.width + i) e).is_basic y ≡ in_row (seat_at (set (set seats (s.width + i) (Column c₀)) e (Row r₀)) y)
    basic_new y h (inl q) m =
        ap (pivot p (s.width + i) e).is_basic q ∙ basic-at_entering p (s.width + i) e e_not_l
        ∙ sym (ap (λ z. in_row (seat_at (set (set seats (s.width + i) (Column c₀)) e (Row r₀)) z)) q ∙ ap in_row (at_e (height s) s.width n seats [] seated (s.width + i) e r₀ c₀ l_in e_in sl se))
    basic_new y h (inr q) (inl m) =
        ap (pivot p (s.width + i) e).is_basic m ∙ basic-at_leaving p (s.width + i) e
        ∙ sym (ap (λ z. in_row (seat_at (set (set seats (s.width + i) (Column c₀)) e (Row r₀)) z)) m ∙ ap in_row (at_l (height s) s.width n seats [] seated (s.width + i) e r₀ c₀ l_in e_in sl se))
    basic_new y h (inr q) (inr m) =
        basic-other p (s.width + i) e y m q ∙ f.basic y h
        ∙ sym (ap in_row (at_other (height s) s.width n seats [] seated (s.width + i) e r₀ c₀ l_in e_in sl se y q m))

    pub pivot_form : IsForm s n (set (set seats (s.width + i) (Column c₀)) e (Row r₀)) k size new (pivot p (s.width + i) e)
    pivot_form = record {
      some = size_some;
      basic = λ y h. basic_new y h (cases_eq y e) (cases_eq y (s.width + i));
      entries = λ j y c h l o. at_new j y c h l (cases_eq y e) (cases_eq y (s.width + i)) o;
    }
