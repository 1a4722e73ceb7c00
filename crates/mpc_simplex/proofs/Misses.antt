-- A run with further rows behind that ends refuted, with the multiplier 0 for the last rows of the shorter system: the system without these
-- rows has no point either. So what `meeting` answers.
use Rattle.std.proofs.Common.{◌≡◌, ℕ, ◌+◌, ◌-◌, ◌<◌, ◌≤◌, ◌⊎◌, inl, inr, List, Option, None, Some, IfSome, take, get_or, length, pos, refl, sym, ◌∙◌, ap, subst, arith}
use Rattle.std.proofs.lemmas.Bool.{cases_lt}
use Rattle.std.proofs.lemmas.List.{length-append, length-take-le, get_or-take, get_or_append_left, get_or-append_right}
use Rattle.std.proofs.lemmas.List.Elements.{All-get_or}
use Rattle.mpc_exact.specs.Rational.{ℚ, int}
use Rattle.mpc_space.specs.Vector.{coordinate}
use Rattle.mpc_space.proofs.Entries.{dot-total_within}
use Rattle.mpc_rows.specs.declared.systems.Row.{Row}
use Rattle.mpc_rows.specs.LinearSystem.{LinearSystem, HasWidth, height, no_row, row_at, entry, IsWithin, MeetsRow, IsPoint}
use Rattle.mpc_rows.specs.NumberedSystems.{left_side}
use Rattle.mpc_rows.specs.Run.{multiplier, last_position}
use Rattle.mpc_rows.specs.SystemTheorems.{SystemTheorems}
use Rattle.mpc_beginnings.specs.Beginnings.{lengthened}
use Rattle.mpc_beginnings.specs.Meetings.{IsRefutedWithin, IsMeeting}
use Rattle.mpc_beginnings.specs.declared.kept.Meeting.{Meeting}
use Rattle.mpc_beginnings.specs.declared.kept.Meeting.TheVariants.{Point, Missed}
use Rattle.mpc_simplex.specs.Answer.{HasPoint}
use Rattle.mpc_simplex.specs.Misses.{IfMet, IfMissed, shortened, MissesFrom}
use Rattle.mpc_simplex.proofs.EndRight.{refuted_end}
use Rattle.mpc_simplex.proofs.KeptWidths.{AreWide, more_widths}
use Rattle.mpc_simplex.proofs.LastTurn.{has_point_there}

module _ (s : LinearSystem) (k : ℕ) (more : List Row) (w : AreWide (lengthened s more)) (within : k ≤ height s) (r : IsRefutedWithin (lengthened s more) k (height s)) where
  abbrev longer : LinearSystem
  longer = lengthened s more

  abbrev shorter : LinearSystem
  shorter = lengthened (shortened k s) more

  module _ (v : List ℚ) (p : IsPoint shorter v) where
    -- a row of the shorter system, where it stands in the longer one
    met : (i j : ℕ) → i < height longer → j < height shorter → row_at shorter j ≡ row_at longer i → IsWithin (row_at longer i).strict (left_side longer i (coordinate v)) (row_at longer i).b
    unfolding entry
    met i j h l e =
        let size : length (row_at longer i).a ≡ s.width = All-get_or (λ (q : Row). length q.a ≡ s.width) longer.rows i no_row h w.each in
        subst (λ z. IsWithin (row_at longer i).strict z (row_at longer i).b) (dot-total_within s.width (row_at longer i).a v (omega arith))
        (subst (MeetsRow v) e (All-get_or (MeetsRow v) shorter.rows j no_row l p.meets))

    first_size : length (take k s.rows) ≡ k
    first_size = length-take-le k s.rows within

    shorter_height : height shorter ≡ k + length more
    shorter_height = let e : length (take k s.rows) ≡ k = first_size in omega (arith, length-append (take k s.rows) more)

    first_same : (i : ℕ) → i < k → row_at shorter i ≡ row_at longer i
    first_same i h =
        get_or_append_left (take k s.rows) more no_row i (omega (arith, first_size)) ∙ get_or-take k s.rows i no_row h
        ∙ sym (get_or_append_left s.rows more no_row i (omega arith))

    last_same : (i : ℕ) → height s ≤ i → row_at shorter (k + (i - height s)) ≡ row_at longer i
    last_same i h =
        get_or-append_right (take k s.rows) more k (k + (i - height s)) no_row first_size (omega arith)
        ∙ ap (λ n. get_or more n no_row) (omega arith)
        ∙ sym (get_or-append_right s.rows more (height s) i no_row refl h)

    weighed : (i : ℕ) → i < height longer → (multiplier longer (last_position longer) r.row i ≡ int (pos 0)) ⊎ IsWithin (row_at longer i).strict (left_side longer i (coordinate v)) (row_at longer i).b
    weighed i h = by (cases_lt i k) (cases_lt i (height s))
      where
        by : (i < k) ⊎ (k ≤ i) → (i < height s) ⊎ (height s ≤ i) → (multiplier longer (last_position longer) r.row i ≡ int (pos 0)) ⊎ IsWithin (row_at longer i).strict (left_side longer i (coordinate v)) (row_at longer i).b
        by (inl l) _ = inr (met i i h (omega (arith, shorter_height)) (first_same i l))
        by (inr l) (inl m) = inl (r.unused i l m)
        by (inr l) (inr m) = inr (met i (k + (i - height s)) h (omega (arith, shorter_height, length-append s.rows more)) (last_same i m))

    no_such_point : ⊥
    no_such_point = refuted_end longer r.row r.ends (coordinate v) weighed

  misses : MissesFrom s k more
  misses = record { within = within; no_point = λ h. no_such_point h.0 h.1 }

module _ (theorems : SystemTheorems) (s : LinearSystem) (more : List Row) (w : AreWide (lengthened s more)) where
  met_some : (found : Option Meeting) → IfSome found (IsMeeting (lengthened s more) (height s)) → IfSome found (λ m. IfMet m (HasPoint (lengthened s more)))
  met_some None h = h
  met_some (Some Point) h = has_point_there (lengthened s more) theorems w h
  met_some (Some (Missed k)) h = tt

  missed_some : (found : Option Meeting) → IfSome found (IsMeeting (lengthened s more) (height s)) → IfSome found (λ m. IfMissed m (λ k. MissesFrom s k more))
  missed_some None h = h
  missed_some (Some Point) h = tt
  missed_some (Some (Missed k)) h = misses s k more w h.0 h.1

module _ (theorems : SystemTheorems) (s t : LinearSystem) (view : s ≡ t) (w : AreWide s) (rows : LinearSystem) (width : rows.width ≡ t.width) (widths : HasWidth rows.width rows.rows)
    (found : Option Meeting) (ends : IfSome found (IsMeeting (lengthened s rows.rows) (height s))) where
  wide : AreWide (lengthened s rows.rows)
  wide = more_widths s w rows.rows (subst (λ n. HasWidth n rows.rows) (width ∙ ap (λ (z : LinearSystem). z.width) (sym view)) widths)

  pub meeting_point : IfSome found (λ m. IfMet m (HasPoint (lengthened t rows.rows)))
  meeting_point = subst (λ (z : LinearSystem). IfSome found (λ m. IfMet m (HasPoint (lengthened z rows.rows)))) view (met_some theorems s rows.rows wide found ends)

  pub meeting_missed : IfSome found (λ m. IfMissed m (λ k. MissesFrom t k rows.rows))
  meeting_missed = subst (λ (z : LinearSystem). IfSome found (λ m. IfMissed m (λ k. MissesFrom z k rows.rows))) view (missed_some theorems s rows.rows wide found ends)
