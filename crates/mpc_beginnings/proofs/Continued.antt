-- Where a run stands, if the sizes that are kept are within the limit of its system: at its opening, and where the run of its first rows ended.
use Rattle.std.proofs.Common.{◌≡◌, ℕ, ◌+◌, ◌-◌, ◌<◌, ◌≤◌, List, length, ℤ, pos, unsigned_abs, refl, sym, ap, subst, subst₂, arith, le_trans, zero-le, length-append}
use Rattle.mpc_rows.specs.declared.systems.Row.{Row}
use Rattle.mpc_rows.specs.LinearSystem.{LinearSystem, height}
use Rattle.mpc_rows.specs.Run.{has_point, count, turn, position, steps, last_position}
use Rattle.mpc_rows.specs.RunWidth.{PositionFits}
use Rattle.mpc_whole.specs.declared.whole.Ending.{Ending}
use Rattle.mpc_whole.specs.declared.judged.WidePlace.{WidePlace}
use Rattle.mpc_scaled.specs.declared.systems.WholeNumbers.{WholeNumbers}
use Rattle.mpc_runs.specs.Table.{IsSeated}
use Rattle.mpc_scaled.specs.Scaled.{whole_at, whole_cell, scale_at, IsSmall}
use Rattle.mpc_runs.proofs.Seats.{opening_seated}
use Rattle.mpc_whole.specs.PositionTheorems.{PositionTheorems}
use Rattle.mpc_runs.proofs.Stays.{unknowns_stay}
use Rattle.mpc_beginnings.specs.Beginnings.{lengthened}
use Rattle.mpc_beginnings.specs.LongerSeats.{AreLongerSeats}
use Rattle.mpc_beginnings.specs.RunLists.{AreOpening, AreLonger}
use Rattle.mpc_whole.specs.Lists.{Listed, AreListsOf}
use Rattle.mpc_whole.specs.Judged.{AreMildBefore, IsMildlyUnderway}
use Rattle.mpc_beginnings.specs.Kept.{AreNumbers, IsLightRow, HasRoomBefore, IsKept, IsFirstLater, IsUnderwayWithin, IsUnderwayWithRoom}
use Rattle.mpc_beginnings.proofs.Columns.{opening_columns, longer_columns}
use Rattle.mpc_beginnings.proofs.WholeShared.{mild_form_longer, longer_underway, longer_mildly_underway, fits_before}
use Rattle.mpc_beginnings.proofs.MildShared.{mild_as, mildly_as, weighs_less, mild_fits}
use Rattle.mpc_beginnings.proofs.SharedRun.{stay_before}

-- ---- at the opening
pub none_small : (m : ℕ) (v : List ℤ) → ((j : ℕ) → whole_at v j ≡ pos 0) → IsSmall m v
none_small m v zero = record { each = λ j. subst (λ z. unsigned_abs z ≤ m) (sym (zero j)) zero-le }

pub opening_lists : (s : LinearSystem) (l : Listed) → AreOpening s l → AreListsOf s 1 l
opening_lists s l o = record {
  seated = opening_seated s (count s) l.seats refl o.seats;
  columns = opening_columns s (count s) (omega arith) l.seats o.seats l.nonbasic o.columns o.own;
  square = o.square;
  own = o.small;
  first_size = o.first_size;
  second_size = o.second_size;
}

pub opening_within : PositionTheorems → (s : LinearSystem) (m : WholeNumbers) → AreNumbers s m → (l : Listed) → AreOpening s l → (first : ℕ) → first ≡ s.width
    → IsUnderwayWithin s m l (record { den = 1; own = 1; greatest = 0; greatest_den = 0; product = 0; first = first })
opening_within theorems s m a l o first e =
    subst (λ f. IsUnderwayWithin s m l (record { den = 1; own = 1; greatest = 0; greatest_den = 0; product = 0; first = f })) (sym e) (record {
      within = λ most g h r.
          (theorems.opening s m.scales.now a.whole.scales l.seats o.seats l.numbers o.unit l.firsts l.seconds o.firsts o.seconds).0;
    })

pub opening_with_room : PositionTheorems → (s : LinearSystem) (m : WholeNumbers) → AreNumbers s m → (l : Listed) → AreOpening s l → (first : ℕ) → first ≡ s.width → (weight : ℕ → ℕ) (from : ℕ)
    → IsUnderwayWithRoom s m l weight (record { den = 1; own = 1; greatest = 0; greatest_den = 0; product = 0; first = first }) from
opening_with_room theorems s m a l o first e weight from =
    let u = theorems.opening s m.scales.now a.whole.scales l.seats o.seats l.numbers o.unit l.firsts l.seconds o.firsts o.seconds in
    subst (λ f. IsUnderwayWithRoom s m l weight (record { den = 1; own = 1; greatest = 0; greatest_den = 0; product = 0; first = f }) from) (sym e) (record {
      within = λ r. record { underway = u.0; before = λ known. record { each = λ q h. absurd (let z = u.1 in omega arith) } };
    })

-- ---- with weights that are no less
pub kept_as : (s : LinearSystem) (k : List ℕ) (l : Listed) (weight more : ℕ → ℕ) (p : WidePlace) (end : Ending) → ((j : ℕ) → j < s.width → weight j ≤ more j) → IsKept s k l weight p end → IsKept s k l more p end
kept_as s k l weight more p end no_less z = record { scales = z.scales; lists = z.lists; ended = z.ended; before = λ known. mild_as s k p.greatest p.greatest_den weight more no_less p.product (steps s) (z.before known) }

lighter : (s : LinearSystem) (m : WholeNumbers) (weight more : ℕ → ℕ) (p : WidePlace) (i : ℕ) → ((j : ℕ) → j < s.width → weight j ≤ more j) → IsLightRow s m more p i → IsLightRow s m weight p i
lighter s m weight more p i no_less r = record { few = r.few; terms = le_trans (weighs_less weight more (whole_cell s.width m.a.now i) s.width no_less) r.terms; den = r.den; pivots = r.pivots }

pub room_as : (s : LinearSystem) (m : WholeNumbers) (l : Listed) (weight more : ℕ → ℕ) (p : WidePlace) (from : ℕ) → ((j : ℕ) → j < s.width → weight j ≤ more j) → IsUnderwayWithRoom s m l weight p from → IsUnderwayWithRoom s m l more p from
room_as s m l weight more p from no_less u = record {
  within = λ r.
      mildly_as s m.scales.now p.greatest p.greatest_den weight more no_less p.product (count s) l.seats p.den l.numbers l.firsts l.seconds p.first
      (u.within (record { known = r.known; rows = λ i h k. lighter s m weight more p i no_less (r.rows i h k) }));
}

-- ---- where the run of the first rows ended
pub higher : (s : LinearSystem) (more : List Row) (longer : LinearSystem) → longer ≡ lengthened s more → (from to : ℕ) → from ≡ height s → to ≡ height longer → from ≤ to
higher s more longer e from to h t = let g : height longer ≡ height (lengthened s more) = ap height e in omega (arith, h, t, g, length-append s.rows more)

pub more_scales : (s : LinearSystem) (more : List Row) (longer : LinearSystem) → longer ≡ lengthened s more → (old new : List ℕ) → length old ≡ count s → length new ≡ count longer → length old ≤ length new
more_scales s more longer e old new h t = let g : count longer ≡ count (lengthened s more) = ap count e in omega (arith, h, t, g, length-append s.rows more)

module _ (s : LinearSystem) (more : List Row) (k : List ℕ) (old : Listed) (weight : ℕ → ℕ) (p : WidePlace) (end : Ending) (z : IsKept s k old weight p end)
    (from to : ℕ) (h : from ≡ height s) (t : to ≡ height (lengthened s more)) (now : Listed) (g : AreLonger from to old now) where
  seated : IsSeated from s.width (count s) old.seats
  seated = subst (λ r. IsSeated r s.width (count s) old.seats) (sym h) z.lists.seated

  grown : AreLongerSeats (count s) old.seats now.seats
  grown = g.grown s.width (count s) seated

  pub lists_longer : AreListsOf (lengthened s more) p.own now
  lists_longer = record {
    seated =
        let e : count s + (to - from) ≡ count (lengthened s more) = omega (arith, h, t, length-append s.rows more) in
        subst₂ (λ r n. IsSeated r s.width n now.seats) t e (g.seated s.width (count s) seated);
    columns = rw g.nonbasic (longer_columns (height s) s.width (count s) old.seats z.lists.seated now.seats grown old.nonbasic z.lists.columns);
    square = rw g.numbers z.lists.square;
    own = rw g.numbers z.lists.own;
    first_size = rw g.firsts z.lists.first_size;
    second_size = rw g.seconds z.lists.second_size;
  }

  module _ (theorems : PositionTheorems) (first : ℕ) (f : IsFirstLater s first) (m : WholeNumbers) (a : AreNumbers (lengthened s more) m) (same : (x : ℕ) → x < length k → scale_at m.scales.now x ≡ scale_at k x) where
    same_scales : (x : ℕ) → x < count s → scale_at m.scales.now x ≡ scale_at k x
    same_scales x l = same x (subst (λ n. x < n) (sym z.scales) l)

    pub within_longer : IsUnderwayWithin (lengthened s more) m now (record p { first = first })
    within_longer = record {
      within = λ most b c r.
          rw (g.numbers, g.firsts, g.seconds) (longer_underway s more k m.scales.now same_scales (fits_before s more k m.scales.now same_scales theorems m.a.now m.b.now a.whole most b p.greatest p.greatest_den m.most_scale a.scales c r z.ended.before)
          (count s) refl old.seats now.seats grown p.den old.numbers z.ended.form (count (lengthened s more)) p.greatest p.greatest_den z.ended.before old.firsts old.seconds z.ended.values first f.side (f.stay more));
    }

    module _ (r : HasRoomBefore (lengthened s more) m weight (record p { first = first }) (height s)) where
      mild : AreMildBefore s k (steps s) p.greatest p.greatest_den weight p.product
      mild = z.before r.known

      fits_with_room : (q : ℕ) → q < steps s → PositionFits (lengthened s more) (position (lengthened s more) q)
      fits_with_room q l =
          mild_fits theorems s more m a weight (record p { first = first }) r q l (z.ended.fits.fits q (omega arith))
          (mild_form_longer s more k m.scales.now same_scales q l p.greatest p.greatest_den weight p.product (mild.each q l))

      with_room : IsMildlyUnderway (lengthened s more) (count (lengthened s more)) now.seats m.scales.now p.den now.numbers now.firsts now.seconds p.greatest p.greatest_den weight p.product first
      with_room =
          rw (g.numbers, g.firsts, g.seconds) (longer_mildly_underway s more k m.scales.now same_scales fits_with_room
          (count s) refl old.seats now.seats grown p.den old.numbers z.ended.form (count (lengthened s more)) p.greatest p.greatest_den weight p.product z.ended.before mild old.firsts old.seconds z.ended.values first f.side (f.stay more))

    pub room_longer : IsUnderwayWithRoom (lengthened s more) m now weight (record p { first = first }) (height s)
    room_longer = record { within = with_room }

-- where the kept run ends with a point, only the sides of further rows may leave there
pub later_at_point : (s : LinearSystem) → turn s (last_position s) ≡ has_point → (first : ℕ) → first ≡ count s → IsFirstLater s first
later_at_point s ends first e = subst (IsFirstLater s) (sym e) (record { side = omega arith; stay = λ more. stay_before s more ends })

pub later_at_start : (s : LinearSystem) (first : ℕ) → first ≡ s.width → IsFirstLater s first
later_at_start s first e = subst (IsFirstLater s) (sym e) (record { side = omega arith; stay = λ more. unknowns_stay (lengthened s more) (position (lengthened s more) (steps s)) })
