-- The numbers of a run that is kept where it ends stand for a position of the longer system's run too, and their sizes show that all
-- which the further rows form before it fits.
use Rattle.std.proofs.Common.{◌≡◌, ℕ, ◌-◌, ◌*◌, ◌^◌, ◌<◌, ◌≤◌, true, List, ◌++◌, length, replicate, ℤ, pos, ◌*ℤ◌, unsigned_abs, refl, sym, ◌∙◌, ap, subst, subst₂, arith, ◌⊎◌, inl, inr, le_trans, mul-le-mul_right, mul-le-mul_left, length-append}
use Rattle.std.proofs.lemmas.Bool.{cases_lt, both_ways}
use Rattle.std.proofs.lemmas.List.{get_or_append_left, get_or-append_right, get_or-replicate, get_or_past, length-replicate}
use Rattle.mpc_exact.specs.Rational.{frac, int}
use Rattle.mpc_rows.specs.declared.systems.Row.{Row as LinearRow}
use Rattle.mpc_rows.specs.LinearSystem.{LinearSystem}
use Rattle.mpc_rows.specs.Run.{goes_on, count, turn, position, steps, last_position}
use Rattle.mpc_rows.specs.RunWidth.{PositionFits}
use Rattle.mpc_runs.specs.declared.variables.Seat.{Seat}
use Rattle.mpc_runs.specs.declared.variables.Seat.TheVariants.{Row, Column}
use Rattle.mpc_runs.specs.Table.{seat_at, in_row}
use Rattle.mpc_whole.specs.Norms.{Over}
use Rattle.mpc_whole.specs.PositionTheorems.{PositionTheorems}
use Rattle.mpc_whole.specs.Whole.{HasBounds, IsNarrow, IsForm, AreValues}
use Rattle.mpc_scaled.specs.Scaled.{whole_cell, scale_at, IsSmall, IsWholeSystem}
use Rattle.mpc_whole.specs.Underway.{IsUnderway}
use Rattle.mpc_runs.specs.Leaving.{StayBefore}
use Rattle.mpc_whole.specs.Judged.{most_variables, IsWeighedAt, IsLeavingRow, IsMildForm, AreMildBefore, IsMildlyUnderway}
use Rattle.mpc_runs.proofs.Turn.{Goes, turn-at}
use Rattle.mpc_runs.proofs.Positions.{tableau}
use Rattle.mpc_runs.proofs.Outside.{within}
use Rattle.mpc_whole.specs.SharedSizes.{IsSmallForm, AreSmallBefore}
use Rattle.mpc_beginnings.specs.Beginnings.{lengthened, Agrees}
use Rattle.mpc_beginnings.specs.LongerSeats.{AreLongerSeats}
use Rattle.mpc_beginnings.proofs.Prefix.{rest_below}
use Rattle.mpc_beginnings.proofs.SharedRun.{positions_agree, turns_agree, values_agree, steps_longer}

-- ---- kept sizes within the limit of a system: all fits at the position
module _ (theorems : PositionTheorems) (s : LinearSystem) (k : List ℕ) (a b : List ℤ) (w : IsWholeSystem s k a b) (most : ℕ) (g : HasBounds s k a b most) (hist hist_den scale : ℕ) (scales : (x : ℕ) → scale_at k x ≤ scale) (small : hist ≤ most) (room : hist_den * scale ≤ 2 ^ 62) where
  module _ (q : ℕ) (h : q ≤ steps s) (z : IsSmallForm s k (position s q) hist hist_den) where
    within_limit : IsSmall most z.numbers
    within_limit = record { each = λ i. le_trans (z.small.each i) small }

    dens : (x : ℕ) → z.den * scale_at k x ≤ 2 ^ 62
    dens x = le_trans (le_trans (mul-le-mul_right (scale_at k x) z.den_small) (mul-le-mul_left hist_den (scales x))) room

    narrow : IsNarrow s (count s) z.seats k a z.den z.numbers
    narrow = theorems.narrow s k a b most g (count s) z.seats z.den z.numbers within_limit (λ x l. dens x)

    pub small_fits : PositionFits s (position s q)
    small_fits = theorems.narrow_fits s k a b w most g q h z.seats z.den z.numbers z.form narrow

-- ---- the same numbers at the longer system, where the scales of its first variables are the same
module _ (s : LinearSystem) (more : List LinearRow) (k further : List ℕ) (same : (x : ℕ) → x < count s → scale_at further x ≡ scale_at k x) where
  module _ (q : ℕ) (h : q ≤ steps s) (n : ℕ) (whole : n ≡ count s) (seats longer : List Seat) (grown : AreLongerSeats (count s) seats longer) (den : ℕ) (v : List ℤ) (f : IsForm s n seats k den v (position s q)) where
    agrees : Agrees (count s) (position s q) (position (lengthened s more) q)
    agrees = positions_agree s more q h

    in_n : (x : ℕ) → x < count s → x < n
    in_n x l = subst (λ m. x < m) (sym whole) l

    basic_at : (x : ℕ) → (x < count s) ⊎ (count s ≤ x) → (position (lengthened s more) q).is_basic x ≡ in_row (seat_at longer x)
    basic_at x (inl l) = agrees.basic x ∙ f.basic x (in_n x l) ∙ sym (ap in_row (grown.kept x l))
    basic_at x (inr l) = agrees.basic x ∙ (within s q).basic x l ∙ sym (grown.past x l)

    entry_at : (j y c : ℕ) → j < s.width → (y < count s) ⊎ (count s ≤ y) → seat_at longer y ≡ Column c → (position (lengthened s more) q).coefficient j y ≡ frac (whole_cell s.width v j c *ℤ pos (scale_at further y)) den
    entry_at j y c b (inl l) e =
        agrees.rows j y (omega arith) ∙ f.entries j y c b (in_n y l) (sym (grown.kept y l) ∙ e)
        ∙ ap (λ m. frac (whole_cell s.width v j c *ℤ pos m) den) (sym (same y l))
    entry_at j y c b (inr l) e = absurd (both_ways (in_row (seat_at longer y)) (ap in_row e) (grown.past y l))

    -- they stand for the longer system's position
    pub form_longer : (m : ℕ) → IsForm (lengthened s more) m longer further den v (position (lengthened s more) q)
    form_longer m = record { some = f.some; basic = λ x l. basic_at x (cases_lt x (count s)); entries = λ j y c b l e. entry_at j y c b (cases_lt y (count s)) e }

  -- seats for the further sides, all in one row: a size asks for no more
  behind : List Seat → List Seat
  behind seats = seats ++ replicate (length more) (Row 0)

  row_behind : (i : ℕ) → (i < length more) ⊎ (length more ≤ i) → seat_at (replicate (length more) (Row 0)) i ≡ Row 0
  row_behind i (inl l) = get_or-replicate (length more) i (Row 0) (Row 0) l
  row_behind i (inr l) = get_or_past (replicate (length more) (Row 0)) i (Row 0) (omega (arith, length-replicate (length more) (Row 0)))

  behind_grown : (seats : List Seat) → length seats ≡ count s → AreLongerSeats (count s) seats (behind seats)
  unfolding behind
  behind_grown seats e = record {
    kept = λ x l. get_or_append_left seats (replicate (length more) (Row 0)) (Row 0) x (omega (arith, e));
    past = λ x l. ap in_row (get_or-append_right seats (replicate (length more) (Row 0)) (count s) x (Row 0) e l ∙ row_behind (x - count s) (cases_lt (x - count s) (length more)));
  }

  behind_size : (seats : List Seat) → length seats ≡ count s → length (behind seats) ≡ count (lengthened s more)
  unfolding behind
  behind_size seats e = omega (arith, e, length-append seats (replicate (length more) (Row 0)), length-replicate (length more) (Row 0), length-append s.rows more)

  -- no greater numbers stand for it
  pub small_form_longer : (q : ℕ) → q ≤ steps s → (most most_den : ℕ) → IsSmallForm s k (position s q) most most_den → IsSmallForm (lengthened s more) further (position (lengthened s more) q) most most_den
  small_form_longer q h most most_den z = record {
    seats = behind z.seats;
    den = z.den;
    numbers = z.numbers;
    each = behind_size z.seats z.each;
    form = form_longer q h (count s) refl z.seats (behind z.seats) (behind_grown z.seats z.each) z.den z.numbers z.form (count (lengthened s more));
    small = z.small;
    den_small = z.den_small;
  }

  pub small_longer : (most most_den : ℕ) → AreSmallBefore s k (steps s) most most_den → AreSmallBefore (lengthened s more) further (steps s) most most_den
  small_longer most most_den z = record { each = λ q l. small_form_longer q (omega arith) most most_den (z.each q l) }

  -- where its rows leave, they have the same numbers
  module _ (q : ℕ) (h : q < steps s) (l e : ℕ) (t : turn (lengthened s more) (position (lengthened s more) q) ≡ goes_on l e) where
    same_turn : turn s (position s q) ≡ goes_on l e
    same_turn = sym (turns_agree s more q h) ∙ t

    leaver : Goes s (position s q) l e
    leaver = turn-at s (position s q) (goes_on l e) same_turn

    same_entry : (y : ℕ) → (position s q).coefficient l y ≡ (position (lengthened s more) q).coefficient l y
    same_entry y = sym ((positions_agree s more q (omega arith)).rows l y leaver.leaves.below)

    no_entry : (y : ℕ) → (position s q).is_basic y ≡ true → (position s q).coefficient l y ≡ int (pos 0)
    no_entry y b = (tableau s q).empty l y b

    leaver_apart : l ≡ e → ⊥
    leaver_apart o = both_ways ((position s q).is_basic e) leaver.eligible.free (ap (position s q).is_basic (sym o) ∙ leaver.leaves.violated.basic)

    -- a further side is basic, as the variable that leaves is
    row_entry : (y : ℕ) → (y ≡ e → ⊥) → (y < count s) ⊎ (count s ≤ y) → (x : ℕ) × (x < count s) × (x ≡ e → ⊥) × ((position s q).coefficient l x ≡ (position (lengthened s more) q).coefficient l y)
    row_entry y apart (inl b) = (y, b, apart, same_entry y)
    row_entry y apart (inr b) = (l, leaver.leaves.below, leaver_apart, no_entry l leaver.leaves.violated.basic ∙ sym (no_entry y ((within s q).basic y b)) ∙ same_entry y)

    row_longer : (left f top size : ℕ) → IsLeavingRow s (position s q) k left f top size l e → IsLeavingRow (lengthened s more) (position (lengthened s more) q) further left f top size l e
    row_longer left f top size row =
        let scale : scale_at k l ≡ scale_at further l = sym (same l leaver.leaves.below) in
        let den : left * scale_at k l ≡ left * scale_at further l = ap (λ m. left * m) scale in
        record {
          entering = row.entering;
          pivot = subst₂ (λ d c. Over d size c) den (same_entry e) row.pivot;
          others = λ y b apart. let u = row_entry y apart (cases_lt y (count s)) in subst₂ (λ d c. Over d top c) den u.3 (row.others u.0 u.1 u.2);
          own = subst (λ m. m ≤ top) scale row.own;
        }

  -- a number in a column is weighed there as it is here
  weighed_there : (e top size y : ℕ) → y < count s → (z : ℤ) (weight : ℕ) → IsWeighedAt s k e top size y z weight → IsWeighedAt (lengthened s more) further e top size y z weight
  weighed_there e top size y b z weight h =
      let scale : scale_at k y ≡ scale_at further y = sym (same y b) in
      record {
        entering = λ o. subst (λ m. (unsigned_abs z * m) * top ≤ weight) scale (h.entering o);
        other = λ o. subst (λ m. (unsigned_abs z * m) * size ≤ weight) scale (h.other o);
        first = λ side x o. h.first side x (ap (λ r. r.first) (sym (rest_below s more y b)) ∙ o ∙ ap (λ m. frac x m) (sym scale));
        second = subst (λ m. most_variables * (unsigned_abs z * m) ≤ weight) scale h.second;
      }

  -- a further side stands in a row
  weighed_longer : (weight : ℕ → ℕ) (e top size : ℕ) (seats : List Seat) → length seats ≡ count s → (v : List ℤ)
      → ((j y c : ℕ) → j < s.width → y < count s → seat_at seats y ≡ Column c → IsWeighedAt s k e top size y (whole_cell s.width v j c) (weight j))
      → (j y c : ℕ) → j < s.width → (y < count s) ⊎ (count s ≤ y) → seat_at (behind seats) y ≡ Column c → IsWeighedAt (lengthened s more) further e top size y (whole_cell s.width v j c) (weight j)
  weighed_longer weight e top size seats z v weighed j y c b (inl l) o = weighed_there e top size y l (whole_cell s.width v j c) (weight j) (weighed j y c b l (sym ((behind_grown seats z).kept y l) ∙ o))
  weighed_longer weight e top size seats z v weighed j y c b (inr l) o = absurd (both_ways (in_row (seat_at (behind seats) y)) (ap in_row o) ((behind_grown seats z).past y l))

  pub mild_form_longer : (q : ℕ) → q < steps s → (most most_den : ℕ) (weight : ℕ → ℕ) (product : ℕ) → IsMildForm s k (position s q) most most_den weight product
      → IsMildForm (lengthened s more) further (position (lengthened s more) q) most most_den weight product
  unfolding small_form_longer
  mild_form_longer q h most most_den weight product z = record {
    form = small_form_longer q (omega arith) most most_den z.form;
    divisor = z.divisor;
    left = z.left;
    split = z.split;
    enters = z.enters;
    top = z.top;
    size = z.size;
    row = λ l e t. row_longer q h l e t z.left z.enters z.top z.size (z.row l e (same_turn q h l e t));
    weighed = λ j y c b l o. weighed_longer weight z.enters z.top z.size z.form.seats z.form.each z.form.numbers z.weighed j y c b (cases_lt y (count s)) o;
    dens = z.dens;
  }

  -- ---- where all that is formed before fits, the longer run goes on from the numbers at the shorter one's end
  module _ (fits : (q : ℕ) → q < steps s → PositionFits (lengthened s more) (position (lengthened s more) q)) (n : ℕ) (whole : n ≡ count s) (seats longer : List Seat) (grown : AreLongerSeats (count s) seats longer) (den : ℕ) (v : List ℤ) (f : IsForm s n seats k den v (last_position s)) (m : ℕ) where
    pub last_form : IsForm (lengthened s more) m longer further den v (position (lengthened s more) (steps s))
    unfolding last_position
    last_form = form_longer (steps s) (omega arith) n whole seats longer grown den v f m

    -- with the same values of the unknowns
    unfoldable pub longer_underway : (most most_den : ℕ) → AreSmallBefore s k (steps s) most most_den → (c_1 c_2 : List ℤ) → AreValues s (last_position s) den c_1 c_2
        → (first : ℕ) → s.width ≤ first → StayBefore (lengthened s more) (position (lengthened s more) (steps s)) first
        → IsUnderway (lengthened s more) m longer further den v c_1 c_2 most most_den first
    longer_underway most most_den z c_1 c_2 h first from stay = record {
      stands = record { at = steps s; order = steps_longer s more; before = fits; form = last_form };
      values = values_agree s more den c_1 c_2 h;
      before = small_longer most most_den z;
      side = from;
      stay = stay;
    }

    pub longer_mildly_underway : (most most_den : ℕ) (weight : ℕ → ℕ) (product : ℕ) → AreSmallBefore s k (steps s) most most_den → AreMildBefore s k (steps s) most most_den weight product → (c_1 c_2 : List ℤ) → AreValues s (last_position s) den c_1 c_2
        → (first : ℕ) → s.width ≤ first → StayBefore (lengthened s more) (position (lengthened s more) (steps s)) first
        → IsMildlyUnderway (lengthened s more) m longer further den v c_1 c_2 most most_den weight product first
    unfolding longer_underway
    longer_mildly_underway most most_den weight product z mild c_1 c_2 h first from stay = record {
      underway = longer_underway most most_den z c_1 c_2 h first from stay;
      before = λ known. record { each = λ q l. mild_form_longer q l most most_den weight product (mild.each q l) };
    }

  -- ---- kept sizes within the limit of the longer system
  module _ (theorems : PositionTheorems) (a b : List ℤ) (w : IsWholeSystem (lengthened s more) further a b) (most : ℕ) (g : HasBounds (lengthened s more) further a b most) (hist hist_den scale : ℕ) (scales : (x : ℕ) → scale_at further x ≤ scale) (small : hist ≤ most) (room : hist_den * scale ≤ 2 ^ 62) where
    fits_at : (q : ℕ) → q ≤ steps s → IsSmallForm s k (position s q) hist hist_den → PositionFits (lengthened s more) (position (lengthened s more) q)
    fits_at q h z = small_fits theorems (lengthened s more) further a b w most g hist hist_den scale scales small room q (le_trans h (steps_longer s more)) (small_form_longer q h hist hist_den z)

    pub fits_before : AreSmallBefore s k (steps s) hist hist_den → (q : ℕ) → q < steps s → PositionFits (lengthened s more) (position (lengthened s more) q)
    fits_before z q l = fits_at q (omega arith) (z.each q l)
