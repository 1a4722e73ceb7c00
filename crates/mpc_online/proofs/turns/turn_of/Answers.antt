use Rattle.std.proofs.Common.{◌≡◌, List, true, false, length, sym, ◌∙◌, ap, subst, subst₂}
use Rattle.std.proofs.lemmas.Bool.{false≢true}
use Rattle.std.proofs.lemmas.Result.{MatchResult-from_err}
use Rattle.mpc_exact.specs.Rational.{ℚ}
use Rattle.mpc_space.specs.Vector.{IsZero}
use Rattle.mpc_online.specs.Turns.{IsShortestWith}
use Rattle.mpc_online.specs.Widths.{QuotientsFit}
use Rattle.mpc_online.specs.Answers.{position_of}
use Rattle.mpc_online.proofs.Turning.{still_fits, moving_fits, wide_partial, wide_full, refuted_turn, still_drops, moving_drops, joins_alone, joins_first}
use Rattle.mpc_online.specs.Evens.{sides_of}
use Rattle.mpc_online.proofs.turns.turn_of.Goals as goal
use Rattle.mpc_online.proofs.turns.turn_of.Goals.{In_ok-partial, After-is_zero}

with_least : (c : In_ok-partial) → IsShortestWith c.args.it.now.multipliers.items c.args.direction.now.multipliers.items c.in_ok-partial.partial
with_least c = subst₂ (λ (l e : List ℚ). IsShortestWith l e c.in_ok-partial.partial) c.deref.ensures.value c.deref-2.ensures.value c.in_ok-partial.ensures.value

quotients_fit : (c : In_ok-partial) → QuotientsFit c.args.it.now.multipliers.items c.args.direction.now.multipliers.items
quotients_fit c = subst₂ QuotientsFit c.deref.ensures.value c.deref-2.ensures.value c.in_ok-partial.ensures.wide

still : (c : After-is_zero) → c.is_zero.result ≡ true → IsZero c.args.direction.now.point.items
still c e = subst IsZero c.deref-3.ensures.value (c.is_zero.ensures.0 e)

moves : (c : After-is_zero) → c.is_zero.result ≡ false → ¬ IsZero c.args.direction.now.point.items
moves c e z = false≢true (sym e ∙ c.is_zero.ensures.1 (subst IsZero (sym c.deref-3.ensures.value) z))

pub shortest-requires : goal.shortest-requires
shortest-requires c = ap (λ (t : List ℚ). length t) c.deref-2.ensures.value ∙ c.requires.multipliers ∙ sym c.requires.position.one_each ∙ sym (ap (λ (t : List ℚ). length t) c.deref.ensures.value)

pub returns-in_err-partial-clause-wide : goal.returns-in_err-partial-clause-wide
returns-in_err-partial-clause-wide c =
    MatchResult-from_err c.from_residual.result _ _ c.from_residual.ensures.0
    (λ _. wide_partial c.args.qp.now (sides_of c.args.sides.now) (position_of c.args.it.now) c.args.direction.now.point.items c.args.direction.now.multipliers.items
    (λ f. c.in_err-partial.ensures.wide (subst₂ QuotientsFit (sym c.deref.ensures.value) (sym c.deref-2.ensures.value) f)))

pub returns-in_default-clause-value : goal.returns-in_default-clause-value
returns-in_default-clause-value c =
    let d = (goal.at.returns-in_default-clause-value c).In_ok-partial in
    refuted_turn c.args.qp.now (sides_of c.args.sides.now) (position_of c.args.it.now) c.args.direction.now.point.items c.args.direction.now.multipliers.items (still (goal.at.returns-in_default-clause-value c).After-is_zero c.if-is_zero.true)
    (subst (IsShortestWith c.args.it.now.multipliers.items c.args.direction.now.multipliers.items) c.in_default.is (with_least d))

pub returns-in_default-clause-wide : goal.returns-in_default-clause-wide
returns-in_default-clause-wide c =
    let d = (goal.at.returns-in_default-clause-wide c).In_ok-partial in
    still_fits c.args.qp.now (sides_of c.args.sides.now) (position_of c.args.it.now) c.args.direction.now.point.items c.args.direction.now.multipliers.items (quotients_fit d) (still (goal.at.returns-in_default-clause-wide c).After-is_zero c.if-is_zero.true)

pub returns-then-is_zero-clause-value : goal.returns-then-is_zero-clause-value
returns-then-is_zero-clause-value c =
    let d = (goal.at.returns-then-is_zero-clause-value c).In_ok-partial in
    still_drops c.args.qp.now (sides_of c.args.sides.now) (position_of c.args.it.now) c.args.direction.now.point.items c.args.direction.now.multipliers.items c.in-Some.drop (still (goal.at.returns-then-is_zero-clause-value c).After-is_zero c.if-is_zero.true)
    (subst (IsShortestWith c.args.it.now.multipliers.items c.args.direction.now.multipliers.items) c.in-Some.is (with_least d))

pub returns-then-is_zero-clause-wide : goal.returns-then-is_zero-clause-wide
returns-then-is_zero-clause-wide c =
    let d = (goal.at.returns-then-is_zero-clause-wide c).In_ok-partial in
    still_fits c.args.qp.now (sides_of c.args.sides.now) (position_of c.args.it.now) c.args.direction.now.point.items c.args.direction.now.multipliers.items (quotients_fit d) (still (goal.at.returns-then-is_zero-clause-wide c).After-is_zero c.if-is_zero.true)

pub full_length-requires-clause-slope : goal.full_length-requires-clause-slope
full_length-requires-clause-slope c = c.requires.slope (moves (goal.at.full_length-requires-clause-slope c).After-is_zero c.if-is_zero.false)

pub returns-in_err-full-clause-wide : goal.returns-in_err-full-clause-wide
returns-in_err-full-clause-wide c =
    MatchResult-from_err c.from_residual-in_err-full.result _ _ c.from_residual-in_err-full.ensures.0
    (λ _. wide_full c.args.qp.now (sides_of c.args.sides.now) (position_of c.args.it.now) c.args.direction.now.point.items c.args.direction.now.multipliers.items (moves (goal.at.returns-in_err-full-clause-wide c).After-is_zero c.if-is_zero.false) c.in_err-full.ensures.wide)

pub returns-in_default-partial-clause-value : goal.returns-in_default-partial-clause-value
returns-in_default-partial-clause-value c =
    let d = (goal.at.returns-in_default-partial-clause-value c).In_ok-partial in
    joins_alone c.args.qp.now (sides_of c.args.sides.now) (position_of c.args.it.now) c.args.direction.now.point.items c.args.direction.now.multipliers.items c.in_ok-full.full c.in_ok-full.ensures.value (moves (goal.at.returns-in_default-partial-clause-value c).After-is_zero c.if-is_zero.false)
    (subst (IsShortestWith c.args.it.now.multipliers.items c.args.direction.now.multipliers.items) c.in_default-partial.is (with_least d))

pub returns-in_default-partial-clause-wide : goal.returns-in_default-partial-clause-wide
returns-in_default-partial-clause-wide c =
    let d = (goal.at.returns-in_default-partial-clause-wide c).In_ok-partial in
    moving_fits c.args.qp.now (sides_of c.args.sides.now) (position_of c.args.it.now) c.args.direction.now.point.items c.args.direction.now.multipliers.items (quotients_fit d) c.in_ok-full.ensures.wide

pub returns-then-is_less-clause-value : goal.returns-then-is_less-clause-value
returns-then-is_less-clause-value c =
    let d = (goal.at.returns-then-is_less-clause-value c).In_ok-partial in
    moving_drops c.args.qp.now (sides_of c.args.sides.now) (position_of c.args.it.now) c.args.direction.now.point.items c.args.direction.now.multipliers.items c.in-Some-partial.drop c.in_ok-full.full c.in_ok-full.ensures.value (sym c.is_less.ensures ∙ c.if-is_less.true)
    (subst (IsShortestWith c.args.it.now.multipliers.items c.args.direction.now.multipliers.items) c.in-Some-partial.is (with_least d))

pub returns-then-is_less-clause-wide : goal.returns-then-is_less-clause-wide
returns-then-is_less-clause-wide c =
    let d = (goal.at.returns-then-is_less-clause-wide c).In_ok-partial in
    moving_fits c.args.qp.now (sides_of c.args.sides.now) (position_of c.args.it.now) c.args.direction.now.point.items c.args.direction.now.multipliers.items (quotients_fit d) c.in_ok-full.ensures.wide

pub returns-clause-value : goal.returns-clause-value
returns-clause-value c =
    let d = (goal.at.returns-clause-value c).In_ok-partial in
    joins_first c.args.qp.now (sides_of c.args.sides.now) (position_of c.args.it.now) c.args.direction.now.point.items c.args.direction.now.multipliers.items c.in-Some-partial.drop c.in_ok-full.full c.in_ok-full.ensures.value (moves (goal.at.returns-clause-value c).After-is_zero c.if-is_zero.false) (sym c.is_less.ensures ∙ c.if-is_less.false)
    (subst (IsShortestWith c.args.it.now.multipliers.items c.args.direction.now.multipliers.items) c.in-Some-partial.is (with_least d))

pub returns-clause-wide : goal.returns-clause-wide
returns-clause-wide c =
    let d = (goal.at.returns-clause-wide c).In_ok-partial in
    moving_fits c.args.qp.now (sides_of c.args.sides.now) (position_of c.args.it.now) c.args.direction.now.point.items c.args.direction.now.multipliers.items (quotients_fit d) c.in_ok-full.ensures.wide
