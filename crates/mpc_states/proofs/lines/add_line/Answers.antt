use Rattle.std.proofs.Common.{◌≡◌, length, None, sym, ◌∙◌, ap, subst}
use Rattle.mpc_controller.specs.Replies.{first_outside}
use Rattle.mpc_states.proofs.Carried.{in_box, counts_size}
use Rattle.mpc_states.proofs.LineLemmas.{at_true}
use Rattle.mpc_states.proofs.lines.add_line.Goals as goal

pub find_outside-requires-clause-sizes : goal.find_outside-requires-clause-sizes
find_outside-requires-clause-sizes c =
    let h = at_true c.in_ok-read_counts.field-0 _ _ c.if-not-branch.false c.in_ok-read_counts.ensures.known in
    ap length c.as_slice-point.ensures.value ∙ counts_size c.args.line.now c.len.result c.read_counts.new.counts.items h ∙ c.len.ensures ∙ sym (ap length c.as_slice.ensures)

pub add_state_line-requires-clause-in_box : goal.add_state_line-requires-clause-in_box
add_state_line-requires-clause-in_box c =
    let h = at_true c.in_ok-read_counts.field-0 _ _ c.if-not-branch.false c.in_ok-read_counts.ensures.known in
    in_box c.args.program.now.counts c.as_slice-point.result.now
    (ap length c.as_slice-point.ensures.value ∙ counts_size c.args.line.now c.len.result c.read_counts.new.counts.items h ∙ c.len.ensures)
    (subst (λ l. first_outside l c.as_slice-point.result.now ≡ None) c.as_slice.ensures (sym c.in-None.ensures))
