-- The values after a pivot, in whole numbers.
use Rattle.std.proofs.Common.{◌≡◌, ◌≢◌, ℕ, ◌+◌, ◌*◌, ◌<◌, List, ℤ, pos, ◌+ℤ◌, ◌*ℤ◌, neg_ℤ, unsigned_abs, [], ◌∷◌, refl, sym, ◌∙◌, ap, mul-pos}
use Rattle.mpc_exact.specs.Rational.{ℚ, frac, int, ◌+ℚ◌, ◌-ℚ◌, ◌*ℚ◌, neg_ℚ, inv_ℚ}
use Rattle.mpc_exact.proofs.IntRing.{int_reads, by_ring_ℤ}
use Rattle.mpc_exact.proofs.Rational.{same_frac, frac-neg}
use Rattle.mpc_exact.proofs.RationalOrder.{one_last}
use Rattle.mpc_exact.proofs.RationalRing.{reads, by_ring}
use Rattle.mpc_rows.specs.LinearSystem.{LinearSystem, height}
use Rattle.mpc_rows.specs.Run.{Position, count, bound, value, pivot}
use Rattle.mpc_runs.specs.declared.variables.Seat.{Seat}
use Rattle.mpc_runs.specs.declared.variables.Seat.TheVariants.{Row, Column}
use Rattle.mpc_runs.specs.Table.{seat_at, IsSeated}
use Rattle.mpc_runs.specs.WholeNumbers.{whole_total, turned}
use Rattle.mpc_whole.specs.Whole.{IsForm, IsSideRow, IsWholePivot, AreValues, HasSideValues}
use Rattle.mpc_scaled.specs.Scaled.{whole_at, whole_cell, scale_at, IsWholeSystem}
use Rattle.mpc_whole.specs.Moved.{excess, IsMoved, AreMoved}
use Rattle.mpc_runs.proofs.Ends.{Reached}
use Rattle.mpc_runs.proofs.LeftSides.{bound-first}
use Rattle.mpc_runs.proofs.Turn.{Goes}
use Rattle.mpc_runs.proofs.ValuesAfter.{first_after, second_after}
use Rattle.mpc_whole.proofs.WholeChanges.{over_scale, scaled_changed_over}
use Rattle.mpc_whole.proofs.WholeForm.{reached_tableau}
use Rattle.mpc_whole.proofs.WholePivot.{entering_is, pivot_is, pivot_some, pivot_number_some, E_some, L_some, some_at, l_in}
use Rattle.mpc_runs.proofs.WholeSums.{frac_sum}

-- ---- a bound g / k against a value t / (d k)
apart : (g t d : ℤ) → (g *ℤ d) +ℤ neg_ℤ t ≡ neg_ℤ (t +ℤ neg_ℤ (g *ℤ d))
apart g t d = by_ring_ℤ (g ∷ t ∷ d ∷ []) (search int_reads depth 30) (search int_reads depth 30) tt

shifted : (g d k : ℤ) → g *ℤ (d *ℤ k) ≡ (g *ℤ d) *ℤ k
shifted g d k = by_ring_ℤ (g ∷ d ∷ k ∷ []) (search int_reads depth 30) (search int_reads depth 30) tt

below_by : (g t : ℤ) (d k : ℕ) → 0 < d → 0 < k → frac g k -ℚ frac t (d * k) ≡ neg_ℚ ((frac (t +ℤ neg_ℤ (g *ℤ pos d)) d *ℚ int (pos 1)) *ℚ inv_ℚ (int (pos k)))
below_by g t d k some scale =
    let both : 0 < d * k = mul-pos some scale in
    (λ i. same_frac g k (g *ℤ pos d) (d * k) scale both (shifted g (pos d) (pos k)) i +ℚ frac-neg t (d * k) both i)
    ∙ frac_sum (g *ℤ pos d) (neg_ℤ t) (d * k) both
    ∙ ap (λ z. frac z (d * k)) (apart g t (pos d))
    ∙ sym (frac-neg (t +ℤ neg_ℤ (g *ℤ pos d)) (d * k) both)
    ∙ ap neg_ℚ (ap (λ z. frac z (d * k)) (sym (one_last (t +ℤ neg_ℤ (g *ℤ pos d)))) ∙ over_scale (t +ℤ neg_ℤ (g *ℤ pos d)) 1 d k some scale)

times_one : (x : ℚ) → x ≡ x *ℚ int (pos 1)
times_one x = by_ring (x ∷ []) (search reads depth 30) (search reads depth 30) tt

-- one value: c over d before, z over the size of the pivot q after
moved_over : (c f g t q z : ℤ) (d k : ℕ) (E L V C B T P : ℚ) → 0 < d → 0 < k → q ≢ pos 0 → frac q d ≢ int (pos 0) → E ≢ int (pos 0) → L ≢ int (pos 0) → L ≡ int (pos k)
    → V ≡ frac c d → C ≡ frac f d *ℚ E → B ≡ frac g k → T ≡ frac t (d * k) → P ≡ (frac q d *ℚ E) *ℚ inv_ℚ L
    → z *ℤ pos d ≡ (c *ℤ pos (unsigned_abs q)) +ℤ neg_ℤ (turned q f *ℤ (t +ℤ neg_ℤ (g *ℤ pos d)))
    → V +ℚ C *ℚ ((B -ℚ T) *ℚ inv_ℚ P) ≡ frac z (unsigned_abs q)
moved_over c f g t q z d k E L V C B T P some scale q_some qn en ln el ev ec eb et ep moved =
    (λ i. (ev ∙ times_one (frac c d)) i +ℚ ec i *ℚ (((λ j. eb j -ℚ et j) ∙ below_by g t d k some scale ∙ ap (λ u. neg_ℚ ((frac (t +ℤ neg_ℤ (g *ℤ pos d)) d *ℚ int (pos 1)) *ℚ inv_ℚ u)) (sym el)) i *ℚ inv_ℚ (ep i)))
    ∙ scaled_changed_over c f (t +ℤ neg_ℤ (g *ℤ pos d)) q z d d (unsigned_abs q) 1 (frac q d) E L some q_some some refl refl qn en ln moved
    ∙ ap (λ u. frac u (unsigned_abs q)) (one_last z)

module _ (s : LinearSystem) (p : Position) (r : Reached s p) (k : List ℕ) (a b : List ℤ) (w : IsWholeSystem s k a b) (n : ℕ) (whole : count s ≡ n) (seats : List Seat) (seated : IsSeated (height s) s.width n seats)
    (d : ℕ) (v : List ℤ) (f : IsForm s n seats k d v p) (i e : ℕ) (g : Goes s p (s.width + i) e) (b_i : i < height s) (x : List ℤ) (row : IsSideRow s a v i x)
    (r₀ c₀ : ℕ) (sl : seat_at seats (s.width + i) ≡ Row r₀) (se : seat_at seats e ≡ Column c₀) (new : List ℤ) (piv : IsWholePivot s.width d v new x c₀) where
  scale : 0 < scale_at k (s.width + i)
  scale = some_at s p r k a b w n whole seats seated d v f i e g b_i x row r₀ c₀ sl se (s.width + i) (l_in s p r k a b w n whole seats seated d v f i e g b_i x row r₀ c₀ sl se)

  -- one part of the value of an unknown
  part_after : (h : ℤ) (old after : List ℤ) (j : ℕ) (V B T : ℚ) → j < s.width → IsMoved s.width a i h new c₀ d (unsigned_abs (whole_at x c₀)) old after
      → V ≡ frac (whole_at old j) d → B ≡ frac h (scale_at k (s.width + i)) → T ≡ frac (whole_total s.width (λ m. whole_cell s.width a i m *ℤ whole_at old m)) (d * scale_at k (s.width + i))
      → V +ℚ p.coefficient j e *ℚ ((B -ℚ T) *ℚ inv_ℚ (p.coefficient (s.width + i) e)) ≡ frac (whole_at after j) (unsigned_abs (whole_at x c₀))
  part_after h old after j V B T l m ev eb et =
      moved_over (whole_at old j) (whole_cell s.width v j c₀) h (whole_total s.width (λ m. whole_cell s.width a i m *ℤ whole_at old m)) (whole_at x c₀) (whole_at after j) d (scale_at k (s.width + i)) (int (pos (scale_at k e))) (int (pos (scale_at k (s.width + i)))) V (p.coefficient j e) B T (p.coefficient (s.width + i) e)
      f.some scale
      (pivot_number_some s p r k a b w n whole seats seated d v f i e g b_i x row r₀ c₀ sl se)
      (pivot_some s p r k a b w n whole seats seated d v f i e g b_i x row r₀ c₀ sl se)
      (E_some s p r k a b w n whole seats seated d v f i e g b_i x row r₀ c₀ sl se)
      (L_some s p r k a b w n whole seats seated d v f i e g b_i x row r₀ c₀ sl se)
      refl ev (entering_is s p r k a b w n whole seats seated d v f i e g b_i x row r₀ c₀ sl se j l) eb et (pivot_is s p r k a b w n whole seats seated d v f i e g b_i x row r₀ c₀ sl se)
      (m.each j l ∙ ap (λ u. (whole_at old j *ℤ pos (unsigned_abs (whole_at x c₀))) +ℤ neg_ℤ (u *ℤ excess s.width a i h d old)) (piv.column j l))

  -- the values after the pivot, where h is the second part of the bound
  pub values_moved : (h : ℤ) (c_1 c_2 n_1 n_2 : List ℤ) → AreValues s p d c_1 c_2 → HasSideValues s k a p d c_1 c_2 → (bound s (s.width + i)).second ≡ frac h (scale_at k (s.width + i))
      → AreMoved s.width a i (whole_at b i) h new c₀ d (unsigned_abs (whole_at x c₀)) c_1 c_2 n_1 n_2 → AreValues s (pivot p (s.width + i) e) (unsigned_abs (whole_at x c₀)) n_1 n_2
  values_moved h c_1 c_2 n_1 n_2 values sides strict moved = record {
    first = λ j l. first_after s p (reached_tableau s p r) (s.width + i) e g j
        ∙ part_after (whole_at b i) c_1 n_1 j (value s p j).first (bound s (s.width + i)).first (value s p (s.width + i)).first l moved.first
        (values.first j l) (bound-first s i ∙ w.sides.sides i b_i) (sides.first i b_i);
    second = λ j l. second_after s p (reached_tableau s p r) (s.width + i) e g j
        ∙ part_after h c_2 n_2 j (value s p j).second (bound s (s.width + i)).second (value s p (s.width + i)).second l moved.second
        (values.second j l) strict (sides.second i b_i);
  }
