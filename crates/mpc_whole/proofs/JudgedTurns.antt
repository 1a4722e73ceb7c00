-- A turn of a run whose positions are judged row by row, on its lists.
use Rattle.std.proofs.Common.{◌≡◌, ℕ, ◌-◌, ◌<◌, true, false, List, ℤ, Some, sym, subst}
use Rattle.mpc_rows.specs.Least.{least}
use Rattle.mpc_rows.specs.LinearSystem.{LinearSystem, height}
use Rattle.mpc_rows.specs.Run.{count, may_leave, may_enter, position}
use Rattle.mpc_runs.specs.declared.variables.Seat.{Seat}
use Rattle.mpc_runs.specs.declared.variables.Seat.TheVariants.{Column}
use Rattle.mpc_runs.specs.Table.{seat_at, in_row, IsSeated}
use Rattle.mpc_whole.specs.Lists.{Listed, AreListsOf}
use Rattle.mpc_whole.specs.Moved.{AreFormed}
use Rattle.mpc_whole.specs.Judged.{IsDividedRow, IsReducedPivot, IsMildlyUnderway, IsPositionKept}
use Rattle.mpc_whole.specs.Whole.{IsSwapped, Stands}
use Rattle.mpc_scaled.specs.Scaled.{IsWholeSystem}
use Rattle.mpc_whole.proofs.DividedRows.{times_row}
use Rattle.mpc_runs.proofs.Seats.{row_seat}
use Rattle.mpc_whole.proofs.Standing.{leaving_in, leaving_seat, entering_in, entering_seat, next_seated}
use Rattle.mpc_whole.proofs.JudgedRun.{next_mildly}

module _ {s : LinearSystem} {k : List ℕ} {a b : List ℤ} {own : ℕ} {r : Listed} {d l : ℕ} (w : IsWholeSystem s k a b) (lists : AreListsOf s own r) (z : Stands s (count s) r.seats k d r.numbers)
    (h : Some l ≡ least (may_leave s (position s z.at)) (count s)) where
  pub leaver_in : l < count s
  leaver_in = leaving_in s (count s) r.seats lists.seated k d r.numbers a b w z l h

  pub leaver_seat : in_row (seat_at r.seats l) ≡ true
  leaver_seat = leaving_seat s (count s) r.seats lists.seated k d r.numbers a b w z l h

  module _ {e : ℕ} (o : Some e ≡ least (may_enter s (position s z.at) l) (count s)) where
    pub enterer_in : e < count s
    enterer_in = entering_in s (count s) r.seats lists.seated k d r.numbers a b w z l h e o

    pub enterer_seat : in_row (seat_at r.seats e) ≡ false
    enterer_seat = entering_seat s (count s) r.seats lists.seated k d r.numbers a b w z l h e o

    pub seated_after : (seats : List Seat) → IsSwapped r.seats seats l e → (c₀ : ℕ) → seat_at r.seats e ≡ Column c₀ → IsSeated (height s) s.width (count s) seats
    seated_after seats swapped c₀ sf =
        let rs = row_seat (seat_at r.seats l) leaver_seat in
        subst (λ (t : List Seat). IsSeated (height s) s.width (count s) t) (sym (swapped.seats rs.0 c₀ rs.1 sf))
        (next_seated s (count s) r.seats lists.seated k d r.numbers a b w z l h e o rs.0 c₀ rs.1 sf)

module _ {s : LinearSystem} {k : List ℕ} {a b : List ℤ} {own : ℕ} {r : Listed} {d most most_den : ℕ} {weight : ℕ → ℕ} {product l e : ℕ} (w : IsWholeSystem s k a b) (lists : AreListsOf s own r)
    (g : IsPositionKept s (count s) r.seats k d r.numbers most most_den weight product l e) (seats : List Seat) (swapped : IsSwapped r.seats seats l e) (c₀ : ℕ) (sf : seat_at r.seats e ≡ Column c₀) where
  pub mildly_after : (divisor left : ℕ) (x : List ℤ) → IsDividedRow s a r.numbers (l - s.width) d divisor left x → (new : List ℤ) (after : ℕ) → IsReducedPivot s.width d r.numbers new (times_row divisor x) c₀ after
      → (n_1 n_2 : List ℤ) → AreFormed s (count s) seats k b new n_1 n_2 → IsMildlyUnderway s (count s) seats k after new n_1 n_2 most most_den weight product s.width
  mildly_after divisor left x row new after piv n_1 n_2 formed =
      let rs = row_seat (seat_at r.seats l) (leaver_seat w lists g.stands g.leaves) in
      let stand = swapped.seats rs.0 c₀ rs.1 sf in
      subst (λ (t : List Seat). IsMildlyUnderway s (count s) t k after new n_1 n_2 most most_den weight product s.width) (sym stand)
      (next_mildly s (count s) r.seats lists.seated k d r.numbers a b w most most_den weight product l e g divisor left x row rs.0 c₀ rs.1 sf new after piv n_1 n_2
      (subst (λ (t : List Seat). AreFormed s (count s) t k b new n_1 n_2) stand formed))
