use Rattle.std.proofs.Common.{◌≡◌, ◌∙◌, ◌<◌, sym, ap, subst, rules}
use Rattle.std.proofs.lemmas.Result.{MatchResult-from_err}
use Rattle.mpc_exact.specs.Pair.{Pair}
use Rattle.mpc_rows.specs.Run.{value, rest}
use Rattle.mpc_runs.specs.Table.{position_of}
use Rattle.mpc_runs.proofs.Seats.{basic_is, tableau_of}
use Rattle.mpc_runs.proofs.Fits.{value_free}
use Rattle.mpc_simplex.proofs.run.standing.Goals as goal
use Rattle.mpc_simplex.proofs.run.standing.Goals.{Then-not-is_basic}

rests : (c : Then-not-is_basic) → value c.args.system.now (position_of c.args.system.now.width c.args.seats.now c.args.entries.now) c.args.unknown ≡ rest c.args.system.now c.args.unknown
rests c =
    value_free c.args.system.now (position_of c.args.system.now.width c.args.seats.now c.args.entries.now) (tableau_of c.args.system.now.width c.args.variables c.args.seats.now c.args.entries.now c.requires.table.seated.each) c.args.unknown (subst (λ m. c.args.unknown < m) c.requires.table.seated.count c.requires.j_below)
    (basic_is c.args.system.now.width c.args.variables c.args.seats.now c.args.entries.now c.requires.table.seated.each c.args.unknown ∙ sym c.is_basic.ensures ∙ c.if-not-is_basic.true)

pub returns-then-not-is_basic-clause-first : goal.returns-then-not-is_basic-clause-first
returns-then-not-is_basic-clause-first c = c.rest.ensures.first ∙ sym (ap (λ (z : Pair). z.first) (rests (goal.at.returns-then-not-is_basic-clause-first c).Then-not-is_basic))

pub returns-then-not-is_basic-clause-second : goal.returns-then-not-is_basic-clause-second
returns-then-not-is_basic-clause-second c = c.rest.ensures.second ∙ sym (ap (λ (z : Pair). z.second) (rests (goal.at.returns-then-not-is_basic-clause-second c).Then-not-is_basic))

pub returns-in_err-stand-clause-wide : goal.returns-in_err-stand-clause-wide
returns-in_err-stand-clause-wide c =
    MatchResult-from_err c.from_residual.result _ _ (search rules)
    (λ _ w. c.in_err-stand.ensures.wide (w.values c.args.unknown c.requires.j_below (basic_is c.args.system.now.width c.args.variables c.args.seats.now c.args.entries.now c.requires.table.seated.each c.args.unknown ∙ sym c.is_basic.ensures ∙ c.if-not-is_basic.false)))
