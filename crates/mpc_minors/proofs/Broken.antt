-- The whole numbers of the strict row that is met where a row of a system of whole numbers fails.
use Rattle.std.proofs.Common.{◌≡◌, ℕ, zero, suc, ◌+◌, ◌*◌, ◌^◌, ◌<◌, ◌≤◌, cond, ltb, List, [], ◌∷◌, map, ℤ, negsuc, neg_ℤ, unsigned_abs, refl, sym, ◌∙◌, ap, subst, arith, ◌⊎◌, inl, inr, lt-ltb, le-ltb}
use Rattle.std.proofs.lemmas.Bool.{cond-true, cond-false, cases_lt}
use Rattle.std.proofs.lemmas.List.{get_or_past}
use Rattle.std.specs.List.{range_with_len}
use Rattle.std.proofs.lemmas.List.FromFn.{get_or-map-range_with_len, length-map-range_with_len}
use Rattle.mpc_exact.specs.Rational.{ℚ, int, frac, ◌*ℚ◌, neg_ℚ}
use Rattle.mpc_exact.proofs.Rational.{frac-neg}
use Rattle.mpc_exact.proofs.RationalRing.{reads, by_ring}
use Rattle.mpc_space.specs.Vector.{coordinate}
use Rattle.mpc_space.proofs.Entries.{coordinate-scale}
use Rattle.mpc_linear.specs.declared.integers.RowInt.{RowInt}
use Rattle.mpc_rows.specs.declared.systems.Row.{Row}
use Rattle.mpc_rows.specs.LawRows.{whole_row, broken_row}
use Rattle.mpc_rows.specs.LinearSystem.{LinearSystem, row_at, height, entry}
use Rattle.mpc_scaled.specs.Scaled.{whole_at, whole_cell, scale_at, IsSmall, IsWholeSystem}
use Rattle.mpc_runs.proofs.WholeSums.{abs-negated}
use Rattle.mpc_minors.proofs.Appended.{wide, HasSizes}
use Rattle.mpc_minors.proofs.Cells.{cells, cells-size, cells-at, cells-small}

minus_one : (x : ℚ) → int (negsuc 0) *ℚ x ≡ neg_ℚ x
minus_one x = by_ring (x ∷ []) (search reads depth 30) (search reads depth 30) tt

module _ (s : LinearSystem) (k : List ℕ) (a b : List ℤ) (w : IsWholeSystem s k a b) (r : RowInt) (i : ℕ) (i_in : i < height s) (here : row_at s i ≡ whole_row r) where
  scale : ℕ
  scale = scale_at k (s.width + i)

  some_scale : 0 < scale
  unfolding scale
  some_scale = w.scales.some (s.width + i) (omega arith)

  abbrev scale_of : ℕ → ℕ
  scale_of x = cond (ltb x s.width) 1 scale

  pub broken_scales : List ℕ
  broken_scales = map scale_of (range_with_len 0 (s.width + 1))

  pub broken_entries : List ℤ
  broken_entries = cells s.width 1 (λ n j. neg_ℤ (whole_cell s.width a i j))

  pub broken_side : List ℤ
  broken_side = neg_ℤ (whole_at b i) ∷ []

  scale_read : (x : ℕ) → x < s.width + 1 → scale_at broken_scales x ≡ scale_of x
  unfolding broken_scales
  scale_read x h = get_or-map-range_with_len scale_of 0 (s.width + 1) x x 0 h (omega arith)

  of_unknown : (x : ℕ) → x < s.width → scale_at broken_scales x ≡ 1
  of_unknown x h = scale_read x (omega arith) ∙ cond-true (ltb x s.width) 1 scale (lt-ltb x s.width h)

  of_row : (x : ℕ) → x ≡ s.width → scale_at broken_scales x ≡ scale
  of_row x h = scale_read x (omega arith) ∙ cond-false (ltb x s.width) 1 scale (le-ltb x s.width (omega arith))

  past : (x : ℕ) → s.width < x → scale_at broken_scales x ≡ 0
  unfolding broken_scales
  past x h = get_or_past (map scale_of (range_with_len 0 (s.width + 1))) x 0 (let e = length-map-range_with_len scale_of 0 (s.width + 1) in omega arith)

  -- what holds of 0, of 1 and of the row's scale
  each_scale : (P : ℕ → Type 0) → P 0 → P 1 → P scale → (x : ℕ) → P (scale_at broken_scales x)
  each_scale P none one own x = by (cases_lt x s.width) (cases_lt s.width x)
    where
      by : (x < s.width) ⊎ (s.width ≤ x) → (s.width < x) ⊎ (x ≤ s.width) → P (scale_at broken_scales x)
      by (inl l) m = subst P (sym (of_unknown x l)) one
      by (inr l) (inl m) = subst P (sym (past x m)) none
      by (inr l) (inr m) = subst P (sym (of_row x (omega arith))) own

  some_scales : (x : ℕ) → x < s.width + 1 → 0 < scale_at broken_scales x
  some_scales x h = by (cases_lt x s.width)
    where
      by : (x < s.width) ⊎ (s.width ≤ x) → 0 < scale_at broken_scales x
      by (inl l) = subst (λ n. 0 < n) (sym (of_unknown x l)) (omega arith)
      by (inr l) = subst (λ n. 0 < n) (sym (of_row x (omega arith))) some_scale

  small_scale : scale ≤ 2 ^ 40
  unfolding scale
  small_scale = w.scales.small (s.width + i)

  abbrev broken : LinearSystem
  broken = wide s.width (broken_row r ∷ [])

  negated_entry : (j : ℕ) → j < s.width → entry broken 0 j ≡ frac (neg_ℤ (whole_cell s.width a i j)) scale
  unfolding entry scale
  negated_entry j h =
      coordinate-scale (int (negsuc 0)) (map int r.a) j ∙ minus_one (coordinate (map int r.a) j)
      ∙ ap neg_ℚ (sym (ap (λ (z : Row). coordinate z.a j) here) ∙ w.entries i j i_in h)
      ∙ frac-neg (whole_cell s.width a i j) (scale_at k (s.width + i)) some_scale

  negated_side : neg_ℚ (int r.b) ≡ frac (neg_ℤ (whole_at b i)) scale
  unfolding scale
  negated_side = ap neg_ℚ (sym (ap (λ (z : Row). z.b) here) ∙ w.sides.sides i i_in) ∙ frac-neg (whole_at b i) (scale_at k (s.width + i)) some_scale

  pub broken_whole : IsWholeSystem broken broken_scales broken_entries broken_side
  unfolding broken_entries broken_side broken_scales
  broken_whole = record {
    entries_size = cells-size s.width 1 (λ n j. neg_ℤ (whole_cell s.width a i j));
    sides_size = refl;
    scales = record {
      size = length-map-range_with_len scale_of 0 (s.width + 1);
      own = of_unknown;
      some = some_scales;
      small = each_scale (λ n. n ≤ 2 ^ 40) (omega arith) (omega arith) small_scale;
    };
    entries = entries;
    sides = record { sides = sides };
  }
    where
      entries : (n j : ℕ) → n < 1 → j < s.width → entry broken n j ≡ frac (whole_cell s.width broken_entries n j) (scale_at broken_scales (s.width + n))
      entries zero j h l =
          negated_entry j l
          ∙ (λ t. frac (sym (cells-at s.width 1 (λ n j. neg_ℤ (whole_cell s.width a i j)) 0 j h l) t) (sym (of_row (s.width + 0) (omega arith)) t))
      entries (suc n) j h l = absurd (omega arith)

      sides : (n : ℕ) → n < 1 → (row_at broken n).b ≡ frac (whole_at broken_side n) (scale_at broken_scales (s.width + n))
      sides zero h = negated_side ∙ ap (frac (neg_ℤ (whole_at b i))) (sym (of_row (s.width + 0) (omega arith)))
      sides (suc n) h = absurd (omega arith)

  -- ---- their sizes are those of the rows
  module _ (most_entry most_side most_scale : ℕ) (some : 0 < s.width) (h : HasSizes most_entry most_side most_scale k a b) where
    entries_small : IsSmall most_entry broken_entries
    unfolding broken_entries
    entries_small =
        cells-small s.width 1 (λ n j. neg_ℤ (whole_cell s.width a i j)) most_entry some
        (λ n j l m. subst (λ u. u ≤ most_entry) (sym (abs-negated (whole_cell s.width a i j))) (h.entries.each (i * s.width + j)))

    side_small : IsSmall most_side broken_side
    unfolding broken_side
    side_small = record { each = each }
      where
        each : (n : ℕ) → unsigned_abs (whole_at (neg_ℤ (whole_at b i) ∷ []) n) ≤ most_side
        each zero = subst (λ u. u ≤ most_side) (sym (abs-negated (whole_at b i))) (h.sides.each i)
        each (suc n) = omega arith

    own_small : scale ≤ most_scale
    unfolding scale
    own_small = h.scales (s.width + i)

    pub broken_sizes : HasSizes most_entry most_side most_scale broken_scales broken_entries broken_side
    broken_sizes = record {
      entries = entries_small;
      sides = side_small;
      scales = each_scale (λ n. n ≤ most_scale) (omega arith) (let e = h.scales 0 in let f = w.scales.own 0 some in omega arith) own_small;
    }
