use Rattle.std.proofs.Common.{◌-◌, ◌*◌, length, ◌∙◌, ap, sym, arith}
use Rattle.mpc_rows.specs.declared.systems.Row.{Row}
use Rattle.mpc_check.proofs.WholeRows.{none_strict, side_strict, held_box, held_turn, held_last}
use Rattle.mpc_check.proofs.whole_sums.is_strict_at.Goals as goal

pub returns-then-place-states : goal.returns-then-place-states
returns-then-place-states c nodes row =
    sym (none_strict (length c.args.qp.now.counts) c.args.qp.now.counts c.args.place)
    ∙ ap (λ (r : Row). r.strict) (held_box c.args.qp.now nodes c.args.way.now row c.args.place (omega (arith, c.len-states.ensures, c.if-place-states.true)))

pub returns-then-behind-way : goal.returns-then-behind-way
returns-then-behind-way c nodes row =
    sym (side_strict _ _)
    ∙ ap (λ (r : Row). r.strict)
    (held_turn c.args.qp.now nodes c.args.way.now row c.args.place (c.args.place - 2 * c.len-states.result) _ (ap (λ n. c.args.place - 2 * n) c.len-states.ensures) (omega (arith, c.len-states.ensures, c.if-place-states.false)) c.if-behind-way.true)

pub returns : goal.returns
returns c nodes row =
    ap (λ (r : Row). r.strict)
    (held_last c.args.qp.now nodes c.args.way.now row c.args.place (c.args.place - 2 * c.len-states.result) (ap (λ n. c.args.place - 2 * n) c.len-states.ensures) (omega (arith, c.len-states.ensures, c.if-place-states.false)) c.if-behind-way.false c.requires)
