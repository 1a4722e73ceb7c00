use Rattle.std.proofs.Common.{◌≡◌, ◌≢◌, ◌+◌, ◌<◌, length, pos, sym, ◌∙◌, ap, subst, arith, refl}
use Rattle.std.proofs.lemmas.Result.{MatchResult-from_err}
use Rattle.mpc_exact.specs.Rational.{int, neg_ℚ, inv_ℚ, ◌*ℚ◌, ◌<ℚ◌}
use Rattle.mpc_exact.proofs.OrderTheorems.{lt_ℚ-true, neg_positive, positive-not_zero}
use Rattle.mpc_space.specs.Vector.{coordinate}
use Rattle.mpc_space.proofs.Outcomes.{below_next}
use Rattle.mpc_frac.specs.Fits.{FitsFrac}
use Rattle.mpc_online.specs.Turns.{IsFalling, quotient_at}
use Rattle.mpc_online.proofs.Filled.{entry_read}
use Rattle.mpc_online.proofs.Shortest.{IsShortestBelow, shortest_none, shortest_more, shortest_all}
use Rattle.mpc_online.proofs.turns.shortest.Goals as goal
use Rattle.mpc_online.proofs.turns.shortest.Goals.{After-neg}

within : (c : After-neg) → c.loop-place.place < length c.args.changes.now
within c = c.loop-place-test.true

entry : (c : After-neg) → c.index-changes-place.result ≡ coordinate c.args.changes.now c.loop-place.place
entry c = entry_read c.args.changes.now c.loop-place.place c.index-changes-place.result (within c) c.index-changes-place.is

again : (c : After-neg) → c.index-changes-place-in-loop-place.result ≡ coordinate c.args.changes.now c.loop-place.place
again c = entry_read c.args.changes.now c.loop-place.place c.index-changes-place-in-loop-place.result (within c) c.index-changes-place-in-loop-place.is

falls : (c : After-neg) → IsFalling c.args.changes.now c.loop-place.place
falls c = subst (λ x. x <ℚ int (pos 0)) (entry c) (lt_ℚ-true (sym c.if-not-is_negative.ensures))

quotient : (c : After-neg) → c.index-multipliers-place.result *ℚ inv_ℚ c.neg.result ≡ quotient_at c.args.multipliers.now c.args.changes.now c.loop-place.place
quotient c =
    let m : c.index-multipliers-place.result ≡ coordinate c.args.multipliers.now c.loop-place.place = entry_read c.args.multipliers.now c.loop-place.place c.index-multipliers-place.result (subst (λ n. c.loop-place.place < n) c.requires (within c)) c.index-multipliers-place.is in
    let n : c.neg.result ≡ neg_ℚ (coordinate c.args.changes.now c.loop-place.place) = c.neg.ensures ∙ ap neg_ℚ (again c) in
    λ t. m t *ℚ inv_ℚ (n t)

pub div-requires : goal.div-requires
div-requires c =
    let d = (goal.at.div-requires c).After-neg in
    subst (λ x. x ≢ int (pos 0)) (sym (c.neg.ensures ∙ ap neg_ℚ (again d))) (positive-not_zero (neg_positive (falls d)))

pub loop-place-init : goal.loop-place-init
loop-place-init c = record { best = shortest_none c.args.multipliers.now c.args.changes.now; fit = λ j h. absurd (omega arith) }

pub loop-place-preserved : goal.loop-place-preserved
loop-place-preserved c =
    let d = (goal.at.loop-place-preserved c).After-neg in
    let is : c.in_ok-length.length ≡ quotient_at c.args.multipliers.now c.args.changes.now c.loop-place.place = c.in_ok-length.ensures.value ∙ quotient d in
    record {
      best = subst (IsShortestBelow c.args.multipliers.now c.args.changes.now (c.loop-place.place + 1)) (sym c.shorter-best.ensures)
          (shortest_more c.args.multipliers.now c.args.changes.now c.loop-place.place c.loop-place.best (record { place = c.loop-place.place; length = c.in_ok-length.length }) refl is (falls d) c.loop-place.invariant.best);
      fit = below_next (λ j. IsFalling c.args.changes.now j → FitsFrac (quotient_at c.args.multipliers.now c.args.changes.now j)) c.loop-place.place c.loop-place.invariant.fit (λ f. subst FitsFrac (quotient d) c.in_ok-length.ensures.wide);
    }

pub returns-clause-value : goal.returns-clause-value
returns-clause-value c = shortest_all c.args.multipliers.now c.args.changes.now c.loop-place.place c.loop-place.best (omega (arith, c.loop-place-test.false, c.loop-place.auto.place-end)) c.loop-place.invariant.best

pub returns-clause-wide : goal.returns-clause-wide
returns-clause-wide c k h = c.loop-place.invariant.fit k (omega (arith, h, c.loop-place-test.false))

pub returns-in_err-length-clause-wide : goal.returns-in_err-length-clause-wide
returns-in_err-length-clause-wide c =
    let d = (goal.at.returns-in_err-length-clause-wide c).After-neg in
    MatchResult-from_err c.from_residual.result _ _ c.from_residual.ensures.0
    (λ _ f. c.in_err-length.ensures.wide (subst FitsFrac (sym (quotient d)) (f c.loop-place.place (within d) (falls d))))
