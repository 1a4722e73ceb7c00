use Rattle.std.proofs.Common.{◌≡◌, ◌∙◌, ◌≤◌, ◌&&◌, sym, ap, arith, subst, true, false, not, ltb, rules, ⊎_elim}
use Rattle.std.proofs.lemmas.Result.{MatchResult-from_err}
use Rattle.std.proofs.lemmas.Bool.{both_ways, cases_eq}
use Rattle.mpc_rows.specs.Least.{least, or_at}
use Rattle.mpc_exact.specs.Pair.{is_below}
use Rattle.mpc_rows.specs.Run.{may_leave, bound}
use Rattle.mpc_rows.specs.RunWidth.{ValueFits}
use Rattle.mpc_runs.specs.Table.{position_of}
use Rattle.mpc_runs.proofs.Read.{width_is}
use Rattle.mpc_runs.proofs.Table.{least_start, least_next, least_skip, least_below, leave_not_basic, leave_basic}
use Rattle.mpc_runs.proofs.Seats.{basic_is}
use Rattle.mpc_simplex.proofs.run.leaving.Goals as goal
use Rattle.mpc_simplex.proofs.run.leaving.Goals.{After-loop-variable}

pub loop-variable-init : goal.loop-variable-init
loop-variable-init c = record { least = least_start _; fits = λ z h b. absurd (omega arith) }

pub loop-variable-preserved-then-not-is_basic : goal.loop-variable-preserved-then-not-is_basic
loop-variable-preserved-then-not-is_basic c =
    let s = c.args.system.now in
    let p = position_of c.args.system.now.width c.args.seats.now c.args.entries.now in
    let f : p.is_basic c.loop-variable.variable ≡ false = (basic_is c.args.system.now.width c.args.variables c.args.seats.now c.args.entries.now c.requires.table.seated.each c.loop-variable.variable ∙ sym c.is_basic.ensures ∙ c.if-not-is_basic.true) in
    record {
      least = least_skip (may_leave s p) c.loop-variable.variable c.loop-variable.out c.loop-variable.invariant.least (leave_not_basic s p c.loop-variable.variable f);
      fits = λ z h b. ⊎_elim (λ e. absurd (both_ways (p.is_basic c.loop-variable.variable) f (subst (λ m. p.is_basic m ≡ true) e b))) (λ e. c.loop-variable.invariant.fits z (omega arith) b) (cases_eq z c.loop-variable.variable);
    }

pub loop-variable-preserved : goal.loop-variable-preserved
loop-variable-preserved c =
    let s = c.args.system.now in
    let p = position_of c.args.system.now.width c.args.seats.now c.args.entries.now in
    let f : p.is_basic c.loop-variable.variable ≡ true = (basic_is c.args.system.now.width c.args.variables c.args.seats.now c.args.entries.now c.requires.table.seated.each c.loop-variable.variable ∙ sym c.is_basic.ensures ∙ c.if-not-is_basic.false) in
    record {
      least = least_next (may_leave s p) c.loop-variable.variable c.loop-variable.out c.earlier-out.result c.loop-variable.invariant.least
          (c.earlier-out.ensures
          ∙ (λ i. or_at c.loop-variable.out (not (ltb c.loop-variable.variable (sym (width_is c.args.system.now) i)) && is_below (bound s c.loop-variable.variable) (record { first = c.in_ok-standing.ensures.first i; second = c.in_ok-standing.ensures.second i })) c.loop-variable.variable)
          ∙ ap (λ b. or_at c.loop-variable.out b c.loop-variable.variable) (sym (leave_basic s p c.loop-variable.variable f)));
      fits = λ z h b. ⊎_elim (λ e. subst (ValueFits s c.args.variables p) (sym e) c.in_ok-standing.ensures.wide) (λ e. c.loop-variable.invariant.fits z (omega arith) b) (cases_eq z c.loop-variable.variable);
    }

pub returns-in_err-standing-clause-wide : goal.returns-in_err-standing-clause-wide
returns-in_err-standing-clause-wide c =
    let p = position_of c.args.system.now.width c.args.seats.now c.args.entries.now in
    let f : p.is_basic c.loop-variable.variable ≡ true = (basic_is c.args.system.now.width c.args.variables c.args.seats.now c.args.entries.now c.requires.table.seated.each c.loop-variable.variable ∙ sym c.is_basic.ensures ∙ c.if-not-is_basic.false) in
    MatchResult-from_err c.from_residual.result _ _ (search rules) (λ _ w. c.in_err-standing.ensures.wide (w.values c.loop-variable.variable c.loop-variable-test.true f))

found : (c : After-loop-variable) → c.loop-variable.out ≡ least (may_leave c.args.system.now (position_of c.args.system.now.width c.args.seats.now c.args.entries.now)) c.args.variables
found c =
    let e : c.loop-variable.variable ≡ c.args.variables = (let h : c.loop-variable.variable ≤ c.args.variables = c.loop-variable.auto.variable-end in let k : c.args.variables ≤ c.loop-variable.variable = c.loop-variable-test.false in omega arith) in
    sym (ap (least (may_leave c.args.system.now (position_of c.args.system.now.width c.args.seats.now c.args.entries.now))) (sym e) ∙ c.loop-variable.invariant.least)

pub returns-clause-least : goal.returns-clause-least
returns-clause-least c = found c

pub returns-clause-below : goal.returns-clause-below
returns-clause-below c = least_below (may_leave c.args.system.now (position_of c.args.system.now.width c.args.seats.now c.args.entries.now)) c.args.variables c.loop-variable.out (found c)

pub returns-clause-wide : goal.returns-clause-wide
returns-clause-wide c = record { values = λ x h b. c.loop-variable.invariant.fits x (let k : c.args.variables ≤ c.loop-variable.variable = c.loop-variable-test.false in omega arith) b }
