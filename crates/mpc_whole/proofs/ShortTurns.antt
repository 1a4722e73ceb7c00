-- A turn of a run in 64 bits, on its lists.
use Rattle.std.proofs.Common.{◌≡◌, ℕ, ◌-◌, ◌<◌, ◌≤◌, true, false, List, ℤ, sym, subst}
use Rattle.mpc_rows.specs.LinearSystem.{LinearSystem, height}
use Rattle.mpc_rows.specs.Run.{count}
use Rattle.mpc_runs.specs.declared.variables.Seat.{Seat}
use Rattle.mpc_runs.specs.declared.variables.Seat.TheVariants.{Column}
use Rattle.mpc_whole.specs.declared.whole.Place.{Place}
use Rattle.mpc_runs.specs.Table.{seat_at, in_row, IsSeated}
use Rattle.mpc_whole.specs.Lists.{Listed, AreListsOf}
use Rattle.mpc_whole.specs.Held.{AreTurning}
use Rattle.mpc_whole.specs.Whole.{IsSwapped}
use Rattle.mpc_scaled.specs.Scaled.{IsWholeSystem}
use Rattle.mpc_runs.proofs.Seats.{row_seat}
use Rattle.mpc_whole.proofs.Standing.{leaves_here, side_in, leaving_in, leaving_seat, entering_in, entering_seat, next_seated}

module _ {s : LinearSystem} {k : List ℕ} {a b : List ℤ} {own : ℕ} {r : Listed} {p : Place} {l e : ℕ} (w : IsWholeSystem s k a b) (lists : AreListsOf s own r) (g : AreTurning s k r p l e) where
  pub leaver_side : s.width ≤ l
  leaver_side = (leaves_here s (count s) r.seats lists.seated k p.den r.numbers a b w g.underway.stands l g.leaves).violated.side

  pub side_below : l - s.width < height s
  side_below = side_in s (count s) r.seats lists.seated k p.den r.numbers a b w g.underway.stands l g.leaves

  pub leaver_in : l < count s
  leaver_in = leaving_in s (count s) r.seats lists.seated k p.den r.numbers a b w g.underway.stands l g.leaves

  pub leaver_seat : in_row (seat_at r.seats l) ≡ true
  leaver_seat = leaving_seat s (count s) r.seats lists.seated k p.den r.numbers a b w g.underway.stands l g.leaves

  pub enterer_in : e < count s
  enterer_in = entering_in s (count s) r.seats lists.seated k p.den r.numbers a b w g.underway.stands l g.leaves e g.enters

  pub enterer_seat : in_row (seat_at r.seats e) ≡ false
  enterer_seat = entering_seat s (count s) r.seats lists.seated k p.den r.numbers a b w g.underway.stands l g.leaves e g.enters

  pub seated_after : (seats : List Seat) → IsSwapped r.seats seats l e → (c₀ : ℕ) → seat_at r.seats e ≡ Column c₀ → IsSeated (height s) s.width (count s) seats
  seated_after seats swapped c₀ sf =
      let rs = row_seat (seat_at r.seats l) leaver_seat in
      subst (λ (t : List Seat). IsSeated (height s) s.width (count s) t) (sym (swapped.seats rs.0 c₀ rs.1 sf))
      (next_seated s (count s) r.seats lists.seated k p.den r.numbers a b w g.underway.stands l g.leaves e g.enters rs.0 c₀ rs.1 sf)
