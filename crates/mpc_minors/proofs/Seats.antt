-- At each position of a run its variables have seats: the nonbasic ones stand in the columns.
use Rattle.std.proofs.Common.{◌≡◌, ℕ, zero, suc, ◌-◌, ◌<◌, true, false, cond, not, List, [], map, set, refl, sym, ◌∙◌, ap, ◌⊎◌, inl, inr, zero-add}
use Rattle.std.proofs.lemmas.Bool.{cases_eq}
use Rattle.std.specs.List.{range_with_len}
use Rattle.std.proofs.lemmas.List.FromFn.{get_or-map-range_with_len, length-map-range_with_len}
use Rattle.mpc_rows.specs.LinearSystem.{LinearSystem, height}
use Rattle.mpc_rows.specs.Run.{Position, Turn, has_point, is_refuted, goes_on, count, is_unknown, opening, pivot, moved, turn, position}
use Rattle.mpc_runs.specs.declared.variables.Seat.{Seat}
use Rattle.mpc_runs.specs.declared.variables.Seat.TheVariants.{Row, Column}
use Rattle.mpc_runs.specs.Table.{seat_at, in_row, IsSeated, IsOpeningSeats, opening_seat}
use Rattle.mpc_runs.proofs.Pivot.{basic-at_leaving, basic-at_entering, basic-other}
use Rattle.mpc_runs.proofs.Turn.{TurnIs, Goes, turn-is}
use Rattle.mpc_runs.proofs.Seats.{row_seat, column_seat, opening_seated}
use Rattle.mpc_runs.proofs.Exchanged.{apart, at_e, at_l, at_other, new_seated}

pub record HasSeats (s : LinearSystem) (p : Position) : Type 0 where
  pub seats : List Seat
  pub seated : IsSeated (height s) s.width (count s) seats
  pub basic : (x : ℕ) → x < count s → p.is_basic x ≡ in_row (seat_at seats x)

module _ (s : LinearSystem) where
  first_seats : List Seat
  first_seats = map (opening_seat s) (range_with_len 0 (count s))

  at_opening : (x : ℕ) → x < count s → seat_at first_seats x ≡ opening_seat s x
  unfolding first_seats
  at_opening x h = get_or-map-range_with_len (opening_seat s) 0 (count s) x x (Row 0) h (zero-add x)

  are_opening : IsOpeningSeats s (count s) first_seats
  unfolding first_seats
  are_opening = record { each = length-map-range_with_len (opening_seat s) 0 (count s); at = at_opening }

  opening_basic : (x : ℕ) → (opening s).is_basic x ≡ in_row (opening_seat s x)
  unfolding opening
  opening_basic x = elim (is_unknown s x) as (λ b. not b ≡ in_row (cond b (Column x) (Row (x - s.width)))) [ true ↦ refl | false ↦ refl ]

  opening_seats : HasSeats s (opening s)
  opening_seats = record {
    seats = first_seats;
    seated = opening_seated s (count s) first_seats refl are_opening;
    basic = λ x h. opening_basic x ∙ ap in_row (sym (at_opening x h));
  }

  -- where l leaves and e enters, they change seats
  module _ (p : Position) (o : HasSeats s p) (l e : ℕ) (g : Goes s p l e) where
    module _ (r c : ℕ) (sl : seat_at o.seats l ≡ Row r) (se : seat_at o.seats e ≡ Column c) where
      changed : List Seat
      changed = set (set o.seats l (Column c)) e (Row r)

      is_apart : e ≡ l → ⊥
      is_apart = apart (height s) s.width (count s) o.seats [] o.seated l e r c g.leaves.below g.below sl se

      each : (x : ℕ) → x < count s → (x ≡ e) ⊎ (x ≡ e → ⊥) → (x ≡ l) ⊎ (x ≡ l → ⊥) → (pivot p l e).is_basic x ≡ in_row (seat_at changed x)
      unfolding changed
      each x h (inl q) w =
          ap (λ z. (pivot p l e).is_basic z) q ∙ basic-at_entering p l e is_apart
          ∙ ap in_row (sym (ap (seat_at (set (set o.seats l (Column c)) e (Row r))) q ∙ at_e (height s) s.width (count s) o.seats [] o.seated l e r c g.leaves.below g.below sl se))
      each x h (inr q) (inl w) =
          ap (λ z. (pivot p l e).is_basic z) w ∙ basic-at_leaving p l e
          ∙ ap in_row (sym (ap (seat_at (set (set o.seats l (Column c)) e (Row r))) w ∙ at_l (height s) s.width (count s) o.seats [] o.seated l e r c g.leaves.below g.below sl se))
      each x h (inr q) (inr w) =
          basic-other p l e x w q ∙ o.basic x h
          ∙ ap in_row (sym (at_other (height s) s.width (count s) o.seats [] o.seated l e r c g.leaves.below g.below sl se x q w))

      changed_seats : HasSeats s (pivot p l e)
      unfolding changed
      changed_seats = record {
        seats = changed;
        seated = new_seated (height s) s.width (count s) o.seats [] o.seated l e r c g.leaves.below g.below sl se;
        basic = λ x h. each x h (cases_eq x e) (cases_eq x l);
      }

    pivot_seats : HasSeats s (pivot p l e)
    pivot_seats =
        let f = row_seat (seat_at o.seats l) (sym (o.basic l g.leaves.below) ∙ g.leaves.violated.basic) in
        let t = column_seat (seat_at o.seats e) (sym (o.basic e g.below) ∙ g.eligible.free) in
        changed_seats f.0 t.0 f.1 t.1

  moved_seats : (p : Position) → HasSeats s p → (t : Turn) → TurnIs s p t → HasSeats s (moved p t)
  moved_seats p o has_point g = o
  moved_seats p o (is_refuted l) g = o
  moved_seats p o (goes_on l e) g = pivot_seats p o l e g

  pub seats_at : (q : ℕ) → HasSeats s (position s q)
  unfolding position
  seats_at zero = opening_seats
  seats_at (suc q) = moved_seats (position s q) (seats_at q) (turn s (position s q)) (turn-is s (position s q))
