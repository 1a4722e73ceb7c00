-- A run in whole numbers that is kept where it ends.
use Rattle.std.specs.Prelude.{◌≡◌, ℕ, zero, suc, ◌+◌, ◌*◌, ◌<◌, ◌≤◌, ◌^◌, Bool, false, IsTrue, List, length, ℤ, unsigned_abs}
use Rattle.mpc_rows.specs.declared.systems.Row.{Row}
use Rattle.mpc_rows.specs.LinearSystem.{LinearSystem, height}
use Rattle.mpc_rows.specs.Run.{count, has_point, is_refuted, turn, position, steps, last_position}
use Rattle.mpc_rows.specs.RunWidth.{RunFits}
use Rattle.mpc_whole.specs.declared.whole.Ending.{Ending}
use Rattle.mpc_whole.specs.declared.whole.Place.{Place}
use Rattle.mpc_whole.specs.declared.judged.WidePlace.{WidePlace}
use Rattle.mpc_scaled.specs.declared.systems.WholeNumbers.{WholeNumbers}
use Rattle.mpc_whole.specs.Whole.{HasBounds}
use Rattle.mpc_scaled.specs.Scaled.{whole_cell, scale_at, IsSmall, IsWholeSystem}
use Rattle.mpc_whole.specs.Underway.{IsUnderway, HasEnded}
use Rattle.mpc_runs.specs.Leaving.{StayBefore}
use Rattle.mpc_whole.specs.Lists.{Listed, AreListsOf}
use Rattle.mpc_whole.specs.Judged.{most_variables, AreMildBefore, IsMildlyUnderway}
use Rattle.mpc_beginnings.specs.declared.lists.KeptLists.{KeptLists}
use Rattle.mpc_beginnings.specs.RunLists.{lists_of, weight_of, HaveShortValues}
use Rattle.mpc_beginnings.specs.Beginnings.{lengthened}

-- the numbers of a system, with bounds of their sizes
pub record AreNumbers (s : LinearSystem) (m : WholeNumbers) : Type 0 where
  pub whole : IsWholeSystem s m.scales.now m.a.now m.b.now
  pub entries : IsSmall m.most_entry m.a.now
  pub sides : IsSmall m.most_side m.b.now
  pub some_side : 1 ≤ m.most_side
  pub scales : (x : ℕ) → scale_at m.scales.now x ≤ m.most_scale
  pub some_scale : 1 ≤ m.most_scale

-- the sizes of both are the same
pub record IsSamePlace (p : WidePlace) (q : Place) : Type 0 where
  pub den : q.den ≡ p.den
  pub own : q.own ≡ p.own
  pub greatest : q.greatest ≡ p.greatest
  pub greatest_den : q.greatest_den ≡ p.greatest_den
  pub first : q.first ≡ p.first

-- at least what the numbers and denominators of positions of these sizes weigh, where rows of the system that has the numbers leave
pub record IsNormProduct (width : ℕ) (m : WholeNumbers) (p : WidePlace) (product : ℕ) : Type 0 where
  pub norm : ℕ
  pub rows : width * m.most_entry ≤ norm
  pub most : ℕ
  pub number : p.greatest ≤ most
  pub den : p.greatest_den ≤ most
  pub top : ℕ
  pub row : (norm * most) * m.most_scale ≤ top
  pub own : m.most_scale ≤ top
  pub pivots : (most * m.most_scale) * top ≤ product
  pub firsts : most_variables * (most * m.most_side) ≤ product
  pub seconds : most_variables * (most * m.most_scale) ≤ product

-- the lists of the last position, by the scales of the system, and what is kept of the positions before
pub record IsKept (s : LinearSystem) (k : List ℕ) (l : Listed) (weight : ℕ → ℕ) (p : WidePlace) (end : Ending) : Type 0 where
  pub scales : length k ≡ count s
  pub lists : AreListsOf s p.own l
  pub ended : HasEnded s (count s) l.seats k p.den l.numbers l.firsts l.seconds p.greatest p.greatest_den end
  pub before : p.product < 2 ^ 127 → AreMildBefore s k (steps s) p.greatest p.greatest_den weight p.product

-- so with numbers of either width
pub record AreKept (s : LinearSystem) (k : List ℕ) (l : KeptLists) (p : WidePlace) (end : Ending) : Type 0 where
  pub kept : IsKept s k (lists_of l) (weight_of l p.product) p end
  pub short : HaveShortValues l

-- the run stands here, if the sizes that are kept are within what the numbers of a position may have
pub record IsUnderwayWithin (s : LinearSystem) (m : WholeNumbers) (l : Listed) (p : WidePlace) : Type 0 where
  pub within : (most : ℕ) → HasBounds s m.scales.now m.a.now m.b.now most → p.greatest ≤ most → p.greatest_den * m.most_scale ≤ 2 ^ 62
      → IsUnderway s (count s) l.seats m.scales.now p.den l.numbers l.firsts l.seconds p.greatest p.greatest_den p.first

-- what a row weighs, from what each unknown does
unfoldable pub row_weight : (ℕ → ℕ) → (ℕ → ℤ) → ℕ → ℕ
row_weight weight coefficient zero = 0
row_weight weight coefficient (suc n) = row_weight weight coefficient n + unsigned_abs (coefficient n) * weight n

-- the row of side i has room at the positions before
pub record IsLightRow (s : LinearSystem) (m : WholeNumbers) (weight : ℕ → ℕ) (p : WidePlace) (i : ℕ) : Type 0 where
  pub few : count s ≤ most_variables
  pub terms : row_weight weight (whole_cell s.width m.a.now i) s.width ≤ 2 ^ 125
  pub den : p.greatest_den * scale_at m.scales.now (s.width + i) ≤ 2 ^ 125
  pub pivots : p.product * scale_at m.scales.now (s.width + i) ≤ 2 ^ 125

-- what the positions before weigh is known, and the rows from this one on have room there
pub record HasRoomBefore (s : LinearSystem) (m : WholeNumbers) (weight : ℕ → ℕ) (p : WidePlace) (from : ℕ) : Type 0 where
  pub known : p.product < 2 ^ 127
  pub rows : (i : ℕ) → from ≤ i → i < height s → IsLightRow s m weight p i

-- the run stands here, if its rows from this one on have room at the positions before
pub record IsUnderwayWithRoom (s : LinearSystem) (m : WholeNumbers) (l : Listed) (weight : ℕ → ℕ) (p : WidePlace) (from : ℕ) : Type 0 where
  pub within : HasRoomBefore s m weight p from
      → IsMildlyUnderway s (count s) l.seats m.scales.now p.den l.numbers l.firsts l.seconds p.greatest p.greatest_den weight p.product p.first

-- the second system has further rows behind those of the first
abbrev pub IsLonger : LinearSystem → LinearSystem → Type 0
IsLonger s longer = (more : List Row) × (longer ≡ lengthened s more)

-- where the run ends, nobody before this variable may leave, whatever rows stand behind
pub record IsFirstLater (s : LinearSystem) (first : ℕ) : Type 0 where
  pub side : s.width ≤ first
  pub stay : (more : List Row) → StayBefore (lengthened s more) (position (lengthened s more) (steps s)) first

-- the run ends without a point, as the row of a side shows
pub record IsRefuted (s : LinearSystem) : Type 0 where
  pub row : ℕ
  pub ends : turn s (last_position s) ≡ is_refuted row

-- yes says whether the run ends with a point, and all that it forms fits
pub record IsMet (s : LinearSystem) (yes : Bool) : Type 0 where
  pub point : IsTrue yes → turn s (last_position s) ≡ has_point
  pub refuted : yes ≡ false → IsRefuted s
  pub fits : RunFits s
