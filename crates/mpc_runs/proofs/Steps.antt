-- One turn of the code's loop, at the position that its lists stand for.
use Rattle.std.proofs.Common.{◌≡◌, ◌≢◌, ℕ, ◌+◌, ◌<◌, true, List, set, pos, Option, Some, None, sym, ◌∙◌, ap, subst, arith}
use Rattle.mpc_exact.specs.Rational.{ℚ, int}
use Rattle.mpc_rows.specs.Least.{least}
use Rattle.mpc_rows.specs.LinearSystem.{LinearSystem, height}
use Rattle.mpc_rows.specs.Run.{Position, has_point, is_refuted, goes_on, count, may_leave, may_enter, turn, turn_from, turn_at, moved, is_pivot, pivot, opening, steps_from, last_position}
use Rattle.mpc_runs.specs.declared.variables.Seat.{Seat}
use Rattle.mpc_runs.specs.declared.variables.Seat.TheVariants.{Row, Column}
use Rattle.mpc_runs.specs.Table.{seat_at, cell_at, IsSeated, IsTable, IsOpeningSeats, IsOpeningEntries, position_of}
use Rattle.mpc_runs.specs.Exchange.{IsExchanged, ExchangeFits}
use Rattle.mpc_rows.specs.RunWidth.{EnteringFits, RowsFit}
use Rattle.mpc_runs.specs.RunEnd.{IsValues, IsMultipliers, EndsWithPoint, EndsRefuted}
use Rattle.mpc_runs.proofs.Turn.{Goes, turn-at}
use Rattle.mpc_runs.proofs.Ends.{Reached, reached_next, reached_opening, steps_fall, stopped_last}
use Rattle.mpc_runs.proofs.Outside.{IsBounded, within}
use Rattle.mpc_runs.proofs.Seats.{cell_read, opening_is}
use Rattle.mpc_runs.proofs.Exchanged.{new_seated, exchange_fits, exchange_fits_back, exchanged_is}

-- ---- what the searches say of the turn
module _ (s : LinearSystem) (p : Position) (n : ℕ) (whole : count s ≡ n) where
  abbrev Entering : ℕ → Option ℕ
  Entering l = least (may_enter s p l) (count s)

  leaves_as : (o : Option ℕ) → o ≡ least (may_leave s p) n → least (may_leave s p) (count s) ≡ o
  leaves_as o e = ap (least (may_leave s p)) whole ∙ sym e

  enters_as : (l : ℕ) (o : Option ℕ) → o ≡ least (may_enter s p l) n → least (may_enter s p l) (count s) ≡ o
  enters_as l o e = ap (least (may_enter s p l)) whole ∙ sym e

  pub turn_point : None ≡ least (may_leave s p) n → turn s p ≡ has_point
  unfolding turn
  turn_point e = ap (turn_from Entering) (leaves_as None e)

  pub turn_refuted : (l : ℕ) → Some l ≡ least (may_leave s p) n → None ≡ least (may_enter s p l) n → turn s p ≡ is_refuted l
  unfolding turn
  turn_refuted l e f = ap (turn_from Entering) (leaves_as (Some l) e) ∙ ap (turn_at l) (enters_as l None f)

  pub turn_goes : (l e : ℕ) → Some l ≡ least (may_leave s p) n → Some e ≡ least (may_enter s p l) n → turn s p ≡ goes_on l e
  unfolding turn
  turn_goes l e h f = ap (turn_from Entering) (leaves_as (Some l) h) ∙ ap (turn_at l) (enters_as l (Some e) f)

-- ---- a position of the run has nothing past its last variable
pub reached_within : (s : LinearSystem) (p : Position) → Reached s p → IsBounded (count s) p
reached_within s p r = subst (IsBounded (count s)) (sym r.is) (within s r.after)

-- ---- a pivot
module _ (s : LinearSystem) (n : ℕ) (seats : List Seat) (entries : List ℚ) (t : IsTable s n seats entries) (r : Reached s (position_of s.width seats entries)) (l e : ℕ)
    (leaves : Some l ≡ least (may_leave s (position_of s.width seats entries)) n) (enters : Some e ≡ least (may_enter s (position_of s.width seats entries) l) n) where
  whole : count s ≡ n
  whole = sym t.seated.count

  turns : turn s (position_of s.width seats entries) ≡ goes_on l e
  turns = turn_goes s (position_of s.width seats entries) n whole l e leaves enters

  goes : Goes s (position_of s.width seats entries) l e
  goes = turn-at s (position_of s.width seats entries) (goes_on l e) turns

  pub goes_so : Goes s (position_of s.width seats entries) l e
  goes_so = goes

  pub turns_so : turn s (position_of s.width seats entries) ≡ goes_on l e
  turns_so = turns

  next_is : moved (position_of s.width seats entries) (turn s (position_of s.width seats entries)) ≡ pivot (position_of s.width seats entries) l e
  next_is = ap (moved (position_of s.width seats entries)) turns

  pivots : is_pivot (turn s (position_of s.width seats entries)) ≡ true
  pivots = ap is_pivot turns

  reached : Reached s (pivot (position_of s.width seats entries) l e)
  reached = subst (Reached s) next_is (reached_next s (position_of s.width seats entries) r pivots)

  module _ (r₀ c₀ : ℕ) (sl : seat_at seats l ≡ Row r₀) (se : seat_at seats e ≡ Column c₀) where
    l_in : l < n
    l_in = let h : l < count s = goes.leaves.below in let k : count s ≡ n = whole in omega arith

    e_in : e < n
    e_in = let h : e < count s = goes.below in let k : count s ≡ n = whole in omega arith

    pub pivot_seated : IsSeated (height s) s.width n (set (set seats l (Column c₀)) e (Row r₀))
    pivot_seated = new_seated (height s) s.width n seats entries t.seated l e r₀ c₀ l_in e_in sl se

    pub pivot_place : cell_at s.width entries r₀ c₀ ≡ (position_of s.width seats entries).coefficient l e
    pivot_place = cell_read s.width n seats entries t.seated.each l e r₀ c₀ l_in e_in sl se

    pub pivot_some : cell_at s.width entries r₀ c₀ ≢ int (pos 0)
    pivot_some h = goes.eligible.some (sym pivot_place ∙ h)

    pub pivot_fits : ExchangeFits (height s) s.width entries r₀ c₀ → EnteringFits n (position_of s.width seats entries) l e × RowsFit n (position_of s.width seats entries) l e
    pivot_fits = exchange_fits (height s) s.width n seats entries t.seated l e r₀ c₀ l_in e_in sl se

    pub pivot_fits_back : EnteringFits n (position_of s.width seats entries) l e → RowsFit n (position_of s.width seats entries) l e → ExchangeFits (height s) s.width entries r₀ c₀
    pivot_fits_back = exchange_fits_back (height s) s.width n seats entries t.seated l e r₀ c₀ l_in e_in sl se

    module _ (new : List ℚ) (x : IsExchanged (height s) s.width entries new r₀ c₀) where
      same : position_of s.width (set (set seats l (Column c₀)) e (Row r₀)) new ≡ pivot (position_of s.width seats entries) l e
      same =
          exchanged_is (height s) s.width n seats entries t.seated l e r₀ c₀ l_in e_in sl se new x
          (subst (λ m. IsBounded m (pivot (position_of s.width seats entries) l e)) whole (reached_within s (pivot (position_of s.width seats entries) l e) reached))

      pub pivot_is : moved (position_of s.width seats entries) (turn s (position_of s.width seats entries)) ≡ position_of s.width (set (set seats l (Column c₀)) e (Row r₀)) new
      pivot_is = next_is ∙ sym same

      pub pivot_falls : steps_from s (position_of s.width (set (set seats l (Column c₀)) e (Row r₀)) new) < steps_from s (position_of s.width seats entries)
      pivot_falls = subst (λ q. steps_from s q < steps_from s (position_of s.width seats entries)) (next_is ∙ sym same) (steps_fall s (position_of s.width seats entries) r pivots)

-- ---- at first
pub opens : (s : LinearSystem) (n : ℕ) (seats : List Seat) (entries : List ℚ) → n ≡ s.width + height s → IsOpeningSeats s n seats → IsOpeningEntries s entries → position_of s.width seats entries ≡ opening s
opens s n seats entries whole o a = opening_is s n seats whole o entries a (subst (λ m. IsBounded m (opening s)) (sym whole) (reached_within s (opening s) (reached_opening s)))

-- ---- the ends
module _ (s : LinearSystem) (n : ℕ) (seats : List Seat) (entries : List ℚ) (t : IsTable s n seats entries) (r : Reached s (position_of s.width seats entries)) where
  pub point_turn : None ≡ least (may_leave s (position_of s.width seats entries)) n → turn s (position_of s.width seats entries) ≡ has_point
  point_turn e = turn_point s (position_of s.width seats entries) n (sym t.seated.count) e

  pub refuted_turn : (l : ℕ) → Some l ≡ least (may_leave s (position_of s.width seats entries)) n → None ≡ least (may_enter s (position_of s.width seats entries) l) n → turn s (position_of s.width seats entries) ≡ is_refuted l
  refuted_turn l e f = turn_refuted s (position_of s.width seats entries) n (sym t.seated.count) l e f

  pub point_answer : None ≡ least (may_leave s (position_of s.width seats entries)) n → (v : List (ℚ × ℚ)) → IsValues s (position_of s.width seats entries) v → EndsWithPoint s v
  point_answer e v h = record { ends = subst (λ q. turn s q ≡ has_point) is_last here; values = subst (λ q. IsValues s q v) is_last h }
    where
      here : turn s (position_of s.width seats entries) ≡ has_point
      here = point_turn e

      is_last : position_of s.width seats entries ≡ last_position s
      is_last = stopped_last s (position_of s.width seats entries) r (ap is_pivot here)

  pub refuted_answer : (l : ℕ) → Some l ≡ least (may_leave s (position_of s.width seats entries)) n → None ≡ least (may_enter s (position_of s.width seats entries) l) n → (m : List ℚ) → IsMultipliers s (position_of s.width seats entries) l m → EndsRefuted s m
  refuted_answer l e f m h = record { row = l; ends = subst (λ q. turn s q ≡ is_refuted l) is_last here; multipliers = subst (λ q. IsMultipliers s q l m) is_last h }
    where
      here : turn s (position_of s.width seats entries) ≡ is_refuted l
      here = refuted_turn l e f

      is_last : position_of s.width seats entries ≡ last_position s
      is_last = stopped_last s (position_of s.width seats entries) r (ap is_pivot here)
