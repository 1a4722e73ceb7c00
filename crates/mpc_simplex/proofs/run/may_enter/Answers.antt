use Rattle.std.proofs.Common.{◌∙◌, sym, ap, not, pos}
use Rattle.mpc_exact.specs.Rational.{int, lt_ℚ}
use Rattle.mpc_rows.specs.Run.{is_zero}
use Rattle.mpc_runs.specs.Table.{position_of}
use Rattle.mpc_runs.proofs.Table.{enter_basic, enter_unknown, enter_side}
use Rattle.mpc_runs.proofs.Seats.{basic_is}
use Rattle.mpc_simplex.proofs.run.may_enter.Goals as goal

pub returns-then-is_basic : goal.returns-then-is_basic
returns-then-is_basic c =
    sym (enter_basic c.args.system.now (position_of c.args.system.now.width c.args.seats.now c.args.entries.now) c.args.leaving c.args.entering
    (basic_is c.args.system.now.width c.args.variables c.args.seats.now c.args.entries.now c.requires.table.seated.each c.args.entering ∙ sym c.is_basic.ensures ∙ c.if-is_basic.true))

pub returns-then-is_unknown : goal.returns-then-is_unknown
returns-then-is_unknown c =
    ap not (c.is_zero.ensures ∙ ap is_zero c.coefficient-factor.ensures)
    ∙ sym (enter_unknown c.args.system.now (position_of c.args.system.now.width c.args.seats.now c.args.entries.now) c.args.leaving c.args.entering
    (basic_is c.args.system.now.width c.args.variables c.args.seats.now c.args.entries.now c.requires.table.seated.each c.args.entering ∙ sym c.is_basic.ensures ∙ c.if-is_basic.false)
    (sym c.is_unknown.ensures ∙ c.if-is_unknown.true))

pub returns-else-is_unknown : goal.returns-else-is_unknown
returns-else-is_unknown c =
    c.is_positive.ensures ∙ ap (lt_ℚ (int (pos 0))) c.coefficient-factor.ensures
    ∙ sym (enter_side c.args.system.now (position_of c.args.system.now.width c.args.seats.now c.args.entries.now) c.args.leaving c.args.entering
    (basic_is c.args.system.now.width c.args.variables c.args.seats.now c.args.entries.now c.requires.table.seated.each c.args.entering ∙ sym c.is_basic.ensures ∙ c.if-is_basic.false)
    (sym c.is_unknown.ensures ∙ c.if-is_unknown.false))
