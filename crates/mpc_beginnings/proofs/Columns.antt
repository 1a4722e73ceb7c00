-- The variables of the columns: those at the opening, and that they stay where rows come behind.
use Rattle.std.proofs.Common.{◌≡◌, ℕ, ◌-◌, ◌<◌, ◌≤◌, List, length, ◌∙◌, ap, subst, arith, ◌⊎◌, inl, inr, lt-ltb}
use Rattle.std.proofs.lemmas.Bool.{both_ways, cases_lt, cond-true}
use Rattle.std.proofs.lemmas.List.{get_or_past}
use Rattle.mpc_rows.specs.LinearSystem.{LinearSystem}
use Rattle.mpc_rows.specs.Run.{is_unknown}
use Rattle.mpc_runs.specs.declared.variables.Seat.{Seat}
use Rattle.mpc_runs.specs.declared.variables.Seat.TheVariants.{Row, Column}
use Rattle.mpc_runs.specs.Table.{seat_at, in_row, variable_at, IsSeated, IsOpeningSeats, AreNonbasic}
use Rattle.mpc_beginnings.specs.LongerSeats.{AreLongerSeats}

pub opening_columns : (s : LinearSystem) (n : ℕ) → s.width ≤ n → (seats : List Seat) → IsOpeningSeats s n seats → (nonbasic : List ℕ) → length nonbasic ≡ s.width → ((c : ℕ) → c < s.width → variable_at nonbasic c ≡ c) → AreNonbasic s.width seats nonbasic
opening_columns s n all seats o nonbasic size own = record {
  each = size;
  at = λ c h. ap (seat_at seats) (own c h) ∙ o.at c (omega arith) ∙ cond-true (is_unknown s c) (Column c) (Row (c - s.width)) (lt-ltb c s.width h);
}

seated_below : (seats : List Seat) (y c : ℕ) → seat_at seats y ≡ Column c → y < length seats
seated_below seats y c e = by (cases_lt y (length seats))
  where
    by : (y < length seats) ⊎ (length seats ≤ y) → y < length seats
    by (inl h) = h
    by (inr h) = absurd (both_ways (in_row (seat_at seats y)) (ap in_row e) (ap in_row (get_or_past seats y (Row 0) h)))

pub longer_columns : (h w n : ℕ) (seats : List Seat) → IsSeated h w n seats → (longer : List Seat) → AreLongerSeats n seats longer → (nonbasic : List ℕ) → AreNonbasic w seats nonbasic → AreNonbasic w longer nonbasic
longer_columns h w n seats z longer g nonbasic a = record {
  each = a.each;
  at = λ c l. g.kept (variable_at nonbasic c) (subst (λ m. variable_at nonbasic c < m) z.each (seated_below seats (variable_at nonbasic c) c (a.at c l))) ∙ a.at c l;
}
