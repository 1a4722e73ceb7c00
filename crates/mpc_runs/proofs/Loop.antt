-- The loop's invariant: the position is one of the run, and all that was formed before it fits.
use Rattle.std.proofs.Common.{◌≡◌, ℕ, suc, ◌<◌, ◌≤◌, false, List, sym, ◌∙◌, ap, subst, subst₂, arith, ⊎_elim}
use Rattle.std.proofs.lemmas.Bool.{cases_eq, cases_lt, both_ways}
use Rattle.mpc_exact.specs.Rational.{ℚ}
use Rattle.mpc_rows.specs.LinearSystem.{LinearSystem}
use Rattle.mpc_rows.specs.Run.{Position, IsTableau, goes_on, count, turn, moved, is_pivot, leaving, entering, opening, position, steps}
use Rattle.mpc_rows.specs.RunWidth.{ValuesFit, EnteringFits, RowsFit, PositionFits, RunFits}
use Rattle.mpc_runs.specs.declared.variables.Seat.{Seat}
use Rattle.mpc_runs.specs.Table.{position_of}
use Rattle.mpc_runs.specs.Exchange.{IsExchanged, ExchangeFits}
use Rattle.mpc_runs.proofs.Positions.{tableau}
use Rattle.mpc_runs.proofs.Ends.{Reached, reached_next, reached_opening, run_ends}

pub record Going (s : LinearSystem) (p : Position) : Type 0 where
  pub reached : Reached s p
  pub done : (k : ℕ) → k < reached.after → PositionFits s (position s k)

pub going_tableau : (s : LinearSystem) (p : Position) → Going s p → IsTableau p
going_tableau s p g = subst IsTableau (sym g.reached.is) (tableau s g.reached.after)

pub going_opening : (s : LinearSystem) (p : Position) → p ≡ opening s → Going s p
unfolding reached_opening
going_opening s p e = subst (Going s) (sym e) (record { reached = reached_opening s; done = λ k h. absurd (omega arith) })

module _ (s : LinearSystem) (n : ℕ) (whole : count s ≡ n) (p : Position) (g : Going s p) where
  here : RunFits s → PositionFits s p
  here w = subst (PositionFits s) (sym g.reached.is) (w.fits g.reached.after g.reached.order)

  pub wide_values : (ValuesFit s n p → ⊥) → RunFits s → ⊥
  wide_values h w = h (subst (λ m. ValuesFit s m p) whole (here w).values)

  pub wide_exchange : (l e : ℕ) → turn s p ≡ goes_on l e → (EnteringFits n p l e → RowsFit n p l e → ⊥) → RunFits s → ⊥
  wide_exchange l e t h w = h (subst (λ m. EnteringFits m p l e) whole ((here w).entering l e t)) (subst (λ m. RowsFit m p l e) whole ((here w).rows l e t))

  with_this : PositionFits s p → (k : ℕ) → k < suc g.reached.after → PositionFits s (position s k)
  with_this f k h = ⊎_elim (λ e. subst (PositionFits s) (g.reached.is ∙ ap (position s) (sym e)) f) (λ e. g.done k (omega arith)) (cases_eq k g.reached.after)

  at_end : is_pivot (turn s p) ≡ false → steps s ≤ g.reached.after
  at_end h =
      ⊎_elim (λ l. absurd (both_ways (is_pivot (turn s (position s g.reached.after))) (subst (λ q. is_pivot (turn s q) ≡ false) g.reached.is h) ((run_ends s).goes g.reached.after l).pivots)) (λ l. l) (cases_lt g.reached.after (steps s))

  -- at an end, all fits
  pub end_fits : is_pivot (turn s p) ≡ false → ValuesFit s n p → RunFits s
  end_fits h v = record {
    fits = λ k b. with_this (record {
      values = subst (λ m. ValuesFit s m p) (sym whole) v;
      entering = λ l e t. absurd (both_ways (is_pivot (turn s p)) h (ap is_pivot t));
      rows = λ l e t. absurd (both_ways (is_pivot (turn s p)) h (ap is_pivot t));
    }) k (let m : steps s ≤ g.reached.after = at_end h in omega arith);
  }

  -- and so it goes on after a pivot
  pub going_next : (l e : ℕ) → turn s p ≡ goes_on l e → ValuesFit s n p → EnteringFits n p l e → RowsFit n p l e → Going s (moved p (turn s p))
  unfolding reached_next
  going_next l e t v f r = record {
    reached = reached_next s p g.reached (ap is_pivot t);
    done = with_this (record {
      values = subst (λ m. ValuesFit s m p) (sym whole) v;
      entering = λ l' e' t'. subst₂ (λ a b. EnteringFits (count s) p a b) (ap leaving (sym t ∙ t')) (ap entering (sym t ∙ t')) (subst (λ m. EnteringFits m p l e) (sym whole) f);
      rows = λ l' e' t'. subst₂ (λ a b. RowsFit (count s) p a b) (ap leaving (sym t ∙ t')) (ap entering (sym t ∙ t')) (subst (λ m. RowsFit m p l e) (sym whole) r);
    });
  }

-- facts of a position, through lists that are the same
module _ (F : Position → Type 0) (w : ℕ) {t t' : List Seat} {b b' : List ℚ} (e : t' ≡ t) (f : b' ≡ b) where
  pub to_lists : F (position_of w t b) → F (position_of w t' b')
  to_lists h = subst₂ (λ u v. F (position_of w u v)) (sym e) (sym f) h

  pub from_lists : F (position_of w t' b') → F (position_of w t b)
  from_lists h = subst₂ (λ u v. F (position_of w u v)) e f h

-- facts of a pivot, through what is the same
module _ {h h' w w' : ℕ} {old old' : List ℚ} (eh : h' ≡ h) (ew : w' ≡ w) (eo : old' ≡ old) where
  pub exchanged_as : (new : List ℚ) (r c : ℕ) → IsExchanged h' w' old' new r c → IsExchanged h w old new r c
  exchanged_as new r c x = subst (λ u. IsExchanged u w old new r c) eh (subst (λ u. IsExchanged h' u old new r c) ew (subst (λ u. IsExchanged h' w' u new r c) eo x))

  pub fits_as : (r c : ℕ) → ExchangeFits h' w' old' r c → ExchangeFits h w old r c
  fits_as r c x = subst (λ u. ExchangeFits u w old r c) eh (subst (λ u. ExchangeFits h' u old r c) ew (subst (λ u. ExchangeFits h' w' u r c) eo x))

  pub fits_as_back : (r c : ℕ) → ExchangeFits h w old r c → ExchangeFits h' w' old' r c
  fits_as_back r c x = subst (λ u. ExchangeFits u w' old' r c) (sym eh) (subst (λ u. ExchangeFits h u old' r c) (sym ew) (subst (λ u. ExchangeFits h w u r c) (sym eo) x))
