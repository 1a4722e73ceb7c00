use Rattle.std.proofs.Common.{◌≡◌, ℕ, ◌∙◌, ◌<◌, ◌≤◌, subst, sym, ap, arith, false, get_or, refl, rules}
use Rattle.std.proofs.lemmas.Result.{MatchResult-from_err}
use Rattle.mpc_exact.specs.Rational.{◌*ℚ◌}
use Rattle.mpc_space.specs.Total.{total}
use Rattle.mpc_rows.specs.Run.{count, rest, IsTableau}
use Rattle.mpc_runs.specs.Table.{seat_at, in_row, position_of}
use Rattle.mpc_runs.proofs.Table.{value_first, value_second, first_terms, second_terms}
use Rattle.mpc_runs.proofs.Fits.{term_fits, wide_first, wide_second}
use Rattle.mpc_runs.proofs.Seats.{basic_is, tableau_of}
use Rattle.mpc_simplex.proofs.NonbasicSides.{reached, reached_side, reached_end}
use Rattle.mpc_simplex.proofs.NonbasicSums.{first_start, second_start, fits_start, sum_next, fits_next}
use Rattle.mpc_simplex.proofs.run.value.Goals as goal
use Rattle.mpc_simplex.proofs.run.value.Goals.{After-loop-side, After-rest-stand}

pub loop-side-init : goal.loop-side-init
loop-side-init c =
    let s = c.args.system.now in
    let p = position_of c.args.system.now.width c.args.seats.now c.args.entries.now in
    let tab : IsTableau p = tableau_of s.width c.args.variables c.args.seats.now c.args.entries.now c.requires.table.seated.each in
    let same : (y : ℕ) → p.is_basic y ≡ in_row (seat_at c.args.seats.now y) = basic_is s.width c.args.variables c.args.seats.now c.args.entries.now c.requires.table.seated.each in
    let h : s.width ≤ c.args.variables = (let q = c.requires.table.seated.count in omega arith) in
    record {
      first = c.zero-first.ensures ∙ first_start s c.args.variables c.args.seats.now c.args.sides.now c.requires.sides p tab same c.args.basic h;
      second = c.zero-second.ensures ∙ second_start s c.args.variables c.args.seats.now c.args.sides.now c.requires.sides p tab same c.args.basic h;
      fits = fits_start s c.args.variables c.args.seats.now c.args.sides.now c.requires.sides p tab same c.args.basic c.zero_theorems.ensures;
    }

-- the sums up to the side of the turn
first_before : (c : After-rest-stand) → c.loop-side.first ≡ total (get_or c.args.sides.now c.loop-side.side-index 0) (first_terms c.args.system.now (position_of c.args.system.now.width c.args.seats.now c.args.entries.now) c.args.basic)
first_before c = c.loop-side.invariant.first ∙ ap (λ m. total m (first_terms c.args.system.now (position_of c.args.system.now.width c.args.seats.now c.args.entries.now) c.args.basic)) (reached_side c.args.variables c.args.sides.now c.loop-side.side-index c.loop-side-test.true)

second_before : (c : After-rest-stand) → c.loop-side.second ≡ total (get_or c.args.sides.now c.loop-side.side-index 0) (second_terms c.args.system.now (position_of c.args.system.now.width c.args.seats.now c.args.entries.now) c.args.basic)
second_before c = c.loop-side.invariant.second ∙ ap (λ m. total m (second_terms c.args.system.now (position_of c.args.system.now.width c.args.seats.now c.args.entries.now) c.args.basic)) (reached_side c.args.variables c.args.sides.now c.loop-side.side-index c.loop-side-test.true)

free : (c : After-rest-stand) → (position_of c.args.system.now.width c.args.seats.now c.args.entries.now).is_basic (get_or c.args.sides.now c.loop-side.side-index 0) ≡ false
free c = basic_is c.args.system.now.width c.args.variables c.args.seats.now c.args.entries.now c.requires.table.seated.each (get_or c.args.sides.now c.loop-side.side-index 0) ∙ c.requires.sides.nonbasic c.loop-side.side-index c.loop-side-test.true

pub loop-side-preserved : goal.loop-side-preserved
loop-side-preserved c =
    let s = c.args.system.now in
    let p = position_of c.args.system.now.width c.args.seats.now c.args.entries.now in
    let tab : IsTableau p = tableau_of s.width c.args.variables c.args.seats.now c.args.entries.now c.requires.table.seated.each in
    let same : (y : ℕ) → p.is_basic y ≡ in_row (seat_at c.args.seats.now y) = basic_is s.width c.args.variables c.args.seats.now c.args.entries.now c.requires.table.seated.each in
    let k = c.loop-side.side-index in
    let y = get_or c.args.sides.now c.loop-side.side-index 0 in
    let at = (goal.at.loop-side-preserved c).After-rest-stand in
    record {
      first = sum_next s c.args.variables c.args.seats.now c.args.sides.now c.requires.sides p tab same c.args.basic k y c.loop-side-test.true refl (λ z. (rest s z).first)
          c.loop-side.first (c.coefficient-factor.result *ℚ c.rest-stand.result.0) c.in_ok-first.first c.loop-side.invariant.first (λ i. c.coefficient-factor.ensures i *ℚ c.rest-stand.ensures.first i) c.in_ok-first.ensures.value;
      second = sum_next s c.args.variables c.args.seats.now c.args.sides.now c.requires.sides p tab same c.args.basic k y c.loop-side-test.true refl (λ z. (rest s z).second)
          c.loop-side.second (c.coefficient-factor.result *ℚ c.rest-stand.result.1) c.in_ok-second.second c.loop-side.invariant.second (λ i. c.coefficient-factor.ensures i *ℚ c.rest-stand.ensures.second i) c.in_ok-second.ensures.value;
      fits = fits_next s c.args.variables c.args.seats.now c.args.sides.now c.requires.sides p tab same c.args.basic k y c.loop-side-test.true refl c.loop-side.invariant.fits
          (term_fits s c.args.variables p c.args.basic y c.coefficient-factor.result c.rest-stand.result.0 c.rest-stand.result.1 c.loop-side.first c.loop-side.second c.coefficient-factor.ensures c.rest-stand.ensures.first c.rest-stand.ensures.second
          (first_before at) (second_before at) c.in_ok-first.ensures.wide c.in_ok-second.ensures.wide);
    }

pub returns-in_err-first-clause-wide : goal.returns-in_err-first-clause-wide
returns-in_err-first-clause-wide c =
    let s = c.args.system.now in
    let p = position_of c.args.system.now.width c.args.seats.now c.args.entries.now in
    let y = get_or c.args.sides.now c.loop-side.side-index 0 in
    let at = (goal.at.returns-in_err-first-clause-wide c).After-rest-stand in
    MatchResult-from_err c.from_residual.result _ _ (search rules)
    (λ _. wide_first s c.args.variables p c.args.basic y (c.requires.sides.below c.loop-side.side-index c.loop-side-test.true) (free at) c.coefficient-factor.result c.coefficient-factor.ensures c.rest-stand.result.0 c.loop-side.first c.rest-stand.ensures.first (first_before at) c.in_err-first.ensures.wide)

pub returns-in_err-second-clause-wide : goal.returns-in_err-second-clause-wide
returns-in_err-second-clause-wide c =
    let s = c.args.system.now in
    let p = position_of c.args.system.now.width c.args.seats.now c.args.entries.now in
    let y = get_or c.args.sides.now c.loop-side.side-index 0 in
    let at = (goal.at.returns-in_err-second-clause-wide c).After-rest-stand in
    MatchResult-from_err c.from_residual-in_err-second.result _ _ (search rules)
    (λ _. wide_second s c.args.variables p c.args.basic y (c.requires.sides.below c.loop-side.side-index c.loop-side-test.true) (free at) c.coefficient-factor.result c.coefficient-factor.ensures c.rest-stand.result.1 c.loop-side.second c.rest-stand.ensures.second (second_before at) c.in_err-second.ensures.wide)

whole : (c : After-loop-side) → count c.args.system.now ≡ c.args.variables
whole c = sym c.requires.table.seated.count

all : (c : After-loop-side) → reached c.args.variables c.args.sides.now c.loop-side.side-index ≡ c.args.variables
all c = reached_end c.args.variables c.args.sides.now c.loop-side.side-index c.loop-side-test.false

pub returns-clause-first : goal.returns-clause-first
returns-clause-first c =
    let d = (goal.at.returns-clause-first c).After-loop-side in
    c.loop-side.invariant.first ∙ ap (λ m. total m (first_terms c.args.system.now (position_of c.args.system.now.width c.args.seats.now c.args.entries.now) c.args.basic)) (all d)
    ∙ value_first c.args.system.now (position_of c.args.system.now.width c.args.seats.now c.args.entries.now) c.args.basic c.args.variables (whole d)

pub returns-clause-second : goal.returns-clause-second
returns-clause-second c =
    let d = (goal.at.returns-clause-second c).After-loop-side in
    c.loop-side.invariant.second ∙ ap (λ m. total m (second_terms c.args.system.now (position_of c.args.system.now.width c.args.seats.now c.args.entries.now) c.args.basic)) (all d)
    ∙ value_second c.args.system.now (position_of c.args.system.now.width c.args.seats.now c.args.entries.now) c.args.basic c.args.variables (whole d)

pub coefficient-factor-requires-clause-y_below : goal.coefficient-factor-requires-clause-y_below
coefficient-factor-requires-clause-y_below c = c.requires.sides.below c.loop-side.side-index c.loop-side-test.true

pub coefficient-factor-requires-clause-y_free : goal.coefficient-factor-requires-clause-y_free
coefficient-factor-requires-clause-y_free c = c.requires.sides.nonbasic c.loop-side.side-index c.loop-side-test.true

pub rest-stand-requires : goal.rest-stand-requires
rest-stand-requires c = subst (λ n. get_or c.args.sides.now c.loop-side.side-index 0 < n) c.requires.table.seated.count (c.requires.sides.below c.loop-side.side-index c.loop-side-test.true)

pub coefficient-factor-requires-clause-table : goal.coefficient-factor-requires-clause-table
coefficient-factor-requires-clause-table c = c.requires.table

pub returns-clause-wide : goal.returns-clause-wide
returns-clause-wide c =
    let d = (goal.at.returns-clause-wide c).After-loop-side in
    record { terms = λ y h b. c.loop-side.invariant.fits y (subst (λ m. y < m) (sym (all d)) h) b }
