-- One turn of the run at a position that whole numbers stand for, where all that is formed there fits.
use Rattle.std.proofs.Common.{◌≡◌, ℕ, ◌+◌, ◌-◌, ◌*◌, ◌<◌, ◌≤◌, true, false, List, set, ℤ, pos, ◌*ℤ◌, Some, None, refl, suc, sym, ◌∙◌, ap, subst, arith, ⊎_elim, []}
use Rattle.std.proofs.lemmas.Bool.{cases_eq}
use Rattle.mpc_exact.specs.Rational.{frac}
use Rattle.mpc_rows.specs.Least.{least}
use Rattle.mpc_rows.specs.LinearSystem.{LinearSystem, height}
use Rattle.mpc_rows.specs.Run.{has_point, is_refuted, goes_on, count, may_leave, may_enter, turn, moved, pivot, is_pivot, last_position, position, steps}
use Rattle.mpc_rows.specs.RunWidth.{PositionFits, ValuesFit, RunFits}
use Rattle.mpc_runs.specs.declared.variables.Seat.{Seat}
use Rattle.mpc_runs.specs.declared.variables.Seat.TheVariants.{Row, Column}
use Rattle.mpc_whole.specs.declared.whole.Ending.{Ending}
use Rattle.mpc_runs.specs.Table.{seat_at, in_row, IsSeated}
use Rattle.mpc_whole.specs.SharedSizes.{AreSmallBefore}
use Rattle.mpc_whole.specs.Underway.{turn_of, IsUnderway, HasEnded}
use Rattle.mpc_whole.specs.Judged.{IsReducedPivot}
use Rattle.mpc_whole.specs.Whole.{IsForm, AreValues, IsRowOf, IsSideRow, Stands}
use Rattle.mpc_scaled.specs.Scaled.{whole_at, scale_at, IsWholeSystem}
use Rattle.mpc_runs.proofs.Turn.{Goes, Leaves, leaver, turn-at}
use Rattle.mpc_runs.proofs.Ends.{Reached, stopped_last, before_end, position-suc}
use Rattle.mpc_runs.proofs.Loop.{Going, end_fits}
use Rattle.mpc_whole.proofs.WholeSizes.{stops_after}
use Rattle.mpc_runs.proofs.Steps.{turn_point, turn_refuted, turn_goes}
use Rattle.mpc_runs.proofs.Exchanged.{new_seated}
use Rattle.mpc_whole.proofs.WholeForm.{side_entry}
use Rattle.mpc_whole.proofs.WholePivot.{pivot_form}
use Rattle.mpc_runs.proofs.Stays.{unknowns_stay}

pub reached_of : (s : LinearSystem) (n : ℕ) (seats : List Seat) (k : List ℕ) (d : ℕ) (v : List ℤ) (z : Stands s n seats k d v) → Reached s (position s z.at)
reached_of s n seats k d v z = record { after = z.at; order = z.order; is = refl }

going_of : (s : LinearSystem) (n : ℕ) (seats : List Seat) (k : List ℕ) (d : ℕ) (v : List ℤ) (z : Stands s n seats k d v) → Going s (position s z.at)
going_of s n seats k d v z = record { reached = record { after = z.at; order = z.order; is = refl }; done = z.before }

module _ (s : LinearSystem) (n : ℕ) (seats : List Seat) (seated : IsSeated (height s) s.width n seats) (k : List ℕ) (d : ℕ) (v a b : List ℤ) (w : IsWholeSystem s k a b) (z : Stands s n seats k d v) where
  pub some_scale : (y : ℕ) → y < n → 0 < scale_at k y
  some_scale y h = w.scales.some y (subst (λ m. y < m) seated.count h)

  pub point_here : None ≡ least (may_leave s (position s z.at)) n → turn s (position s z.at) ≡ has_point
  point_here e = turn_point s (position s z.at) n (sym seated.count) e

  -- an end
  module _ (fits : PositionFits s (position s z.at)) (end : Ending) (here : turn s (position s z.at) ≡ turn_of end) (stops : is_pivot (turn_of end) ≡ false) where
    last : (position s z.at) ≡ last_position s
    last = stopped_last s (position s z.at) (reached_of s n seats k d v z) (ap is_pivot here ∙ stops)

    pub is_at_end : z.at ≡ steps s
    is_at_end = stops_after s z.at z.order (ap is_pivot here ∙ stops)

    end_fit : RunFits s
    end_fit = end_fits s n (sym seated.count) (position s z.at) (going_of s n seats k d v z) (ap is_pivot here ∙ stops) (subst (λ m. ValuesFit s m (position s z.at)) (sym seated.count) fits.values)

    pub has_ended : (c_1 c_2 : List ℤ) → AreValues s (position s z.at) d c_1 c_2 → (most most_den : ℕ) → AreSmallBefore s k z.at most most_den → HasEnded s n seats k d v c_1 c_2 most most_den end
    has_ended c_1 c_2 values most most_den h = record {
      form = subst (IsForm s n seats k d v) last z.form;
      values = subst (λ p. AreValues s p d c_1 c_2) last values;
      before = subst (λ q. AreSmallBefore s k q most most_den) is_at_end h;
      turns = subst (λ p. turn s p ≡ turn_of end) last here;
      fits = end_fit;
    }

  -- l leaves
  module _ (l : ℕ) (e : Some l ≡ least (may_leave s (position s z.at)) n) where
    pub leaves_here : Leaves s (position s z.at) l
    leaves_here = leaver s (position s z.at) n l (sym seated.count) e

    pub side_in : l - s.width < height s
    side_in = let h : l < count s = leaves_here.below in let k : s.width ≤ l = leaves_here.violated.side in omega arith

    side_back : s.width + (l - s.width) ≡ l
    side_back = let k : s.width ≤ l = leaves_here.violated.side in omega arith

    pub leaving_in : l < n
    leaving_in = let h : l < count s = leaves_here.below in let k = seated.count in omega arith

    pub leaving_seat : in_row (seat_at seats l) ≡ true
    leaving_seat = sym (z.form.basic l leaving_in) ∙ leaves_here.violated.basic

    pub refuted_here : None ≡ least (may_enter s (position s z.at) l) n → turn s (position s z.at) ≡ is_refuted l
    refuted_here o = turn_refuted s (position s z.at) n (sym seated.count) l e o

    pub row_of_leaving : (x : List ℤ) → IsSideRow s a v (l - s.width) x → IsRowOf n seats k (position s z.at) d l x
    row_of_leaving x row = record {
      own = some_scale l leaving_in;
      some = some_scale;
      coefficients = λ y c h q. subst (λ m. (position s z.at).coefficient m y ≡ frac (whole_at x c *ℤ pos (scale_at k y)) (d * scale_at k m)) side_back
          (side_entry s (position s z.at) (reached_of s n seats k d v z) k a b w n (sym seated.count) seats d v z.form (l - s.width) y c side_in h q
          ∙ ap (λ u. frac (u *ℤ pos (scale_at k y)) (d * scale_at k (s.width + (l - s.width)))) (sym (row.cells c (seated.columns y c h q).0)));
    }

    -- f enters
    module _ (f : ℕ) (o : Some f ≡ least (may_enter s (position s z.at) l) n) where
      pub goes_here : turn s (position s z.at) ≡ goes_on l f
      goes_here = turn_goes s (position s z.at) n (sym seated.count) l f e o

      goes : Goes s (position s z.at) l f
      goes = turn-at s (position s z.at) (goes_on l f) goes_here

      pub entering_in : f < n
      entering_in = let h : f < count s = goes.below in let k = seated.count in omega arith

      pub entering_seat : in_row (seat_at seats f) ≡ false
      entering_seat = sym (z.form.basic f entering_in) ∙ goes.eligible.free

      module _ (r₀ c₀ : ℕ) (sl : seat_at seats l ≡ Row r₀) (sf : seat_at seats f ≡ Column c₀) where
        pub column_in : c₀ < s.width
        column_in = (seated.columns f c₀ entering_in sf).0

        pub next_seated : IsSeated (height s) s.width n (set (set seats l (Column c₀)) f (Row r₀))
        next_seated = new_seated (height s) s.width n seats [] seated l f r₀ c₀ leaving_in entering_in sl sf

        pub goes_side : Goes s (position s z.at) (s.width + (l - s.width)) f
        goes_side = subst (λ m. Goes s (position s z.at) m f) (sym side_back) goes

        pub seat_side : seat_at seats (s.width + (l - s.width)) ≡ Row r₀
        seat_side = ap (seat_at seats) side_back ∙ sl

        pub next_is : position s (suc z.at) ≡ pivot (position s z.at) (s.width + (l - s.width)) f
        next_is = position-suc s z.at ∙ ap (moved (position s z.at)) goes_here ∙ ap (λ m. pivot (position s z.at) m f) (sym side_back)

        module _ (x : List ℤ) (row : IsSideRow s a v (l - s.width) x) (new : List ℤ) (size : ℕ) (piv : IsReducedPivot s.width d v new x c₀ size) where
          pub next_form : IsForm s n (set (set seats l (Column c₀)) f (Row r₀)) k size new (position s (suc z.at))
          next_form =
              subst (IsForm s n (set (set seats l (Column c₀)) f (Row r₀)) k size new) (sym next_is)
              (subst (λ m. IsForm s n (set (set seats m (Column c₀)) f (Row r₀)) k size new (pivot (position s z.at) (s.width + (l - s.width)) f)) side_back
              (pivot_form s (position s z.at) (reached_of s n seats k d v z) k a b w n (sym seated.count) seats seated d v z.form (l - s.width) f goes_side side_in x row r₀ c₀ seat_side sf new size piv))

          abbrev pub next_underway : PositionFits s (position s z.at) → (n_1 n_2 : List ℤ) → AreValues s (position s (suc z.at)) size n_1 n_2
              → (most most_den : ℕ) → AreSmallBefore s k (suc z.at) most most_den
              → IsUnderway s n (set (set seats l (Column c₀)) f (Row r₀)) k size new n_1 n_2 most most_den s.width
          next_underway fits n_1 n_2 values most most_den small = record {
            stands = record {
              at = suc z.at;
              order = before_end s z.at z.order (ap is_pivot goes_here);
              before = λ q b. ⊎_elim (λ e. subst (λ j. PositionFits s (position s j)) (sym e) fits) (λ e. z.before q (omega arith)) (cases_eq q z.at);
              form = next_form;
            };
            values = values;
            side = omega arith;
            stay = unknowns_stay s (position s (suc z.at));
            before = small;
          }
