use Rattle.std.proofs.Common.{◌∙◌, ◌+◌, sym, ap}
use Rattle.mpc_exact.specs.Rational.{neg_ℚ}
use Rattle.mpc_runs.specs.Table.{position_of}
use Rattle.mpc_runs.proofs.Seats.{basic_is}
use Rattle.mpc_runs.proofs.Answered.{multiplier_own, multiplier_basic, multiplier_free}
use Rattle.mpc_simplex.proofs.run.multiplier.Goals as goal

pub returns-then-side-leaving : goal.returns-then-side-leaving
returns-then-side-leaving c =
    c.whole.ensures ∙ multiplier_own c.args.system.now (position_of c.args.system.now.width c.args.seats.now c.args.entries.now) c.args.leaving c.args.row (c.unknowns.result + c.args.row) (ap (λ n. n + c.args.row) c.unknowns.ensures) c.if-side-leaving.true

pub returns-then-is_basic : goal.returns-then-is_basic
returns-then-is_basic c =
    c.zero.ensures
    ∙ multiplier_basic c.args.system.now (position_of c.args.system.now.width c.args.seats.now c.args.entries.now) c.args.leaving c.args.row (c.unknowns.result + c.args.row) (ap (λ n. n + c.args.row) c.unknowns.ensures) c.if-side-leaving.false
    (basic_is c.args.system.now.width c.args.variables c.args.seats.now c.args.entries.now c.requires.table.seated.each (c.unknowns.result + c.args.row) ∙ sym c.is_basic.ensures ∙ c.if-is_basic.true)

pub returns : goal.returns
returns c =
    c.neg.ensures ∙ ap neg_ℚ c.coefficient.ensures
    ∙ multiplier_free c.args.system.now (position_of c.args.system.now.width c.args.seats.now c.args.entries.now) c.args.leaving c.args.row (c.unknowns.result + c.args.row) (ap (λ n. n + c.args.row) c.unknowns.ensures) c.if-side-leaving.false
    (basic_is c.args.system.now.width c.args.variables c.args.seats.now c.args.entries.now c.requires.table.seated.each (c.unknowns.result + c.args.row) ∙ sym c.is_basic.ensures ∙ c.if-is_basic.false)
