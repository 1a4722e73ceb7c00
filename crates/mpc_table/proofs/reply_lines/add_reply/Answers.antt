use Rattle.std.proofs.Common.{length, Some, sym, ◌∙◌, ap}
use Rattle.std.proofs.lemmas.Result.{on_ok_weaker}
use Rattle.mpc_table.proofs.ReplyLineLemmas.{at_true, counts_size, adds_answer}
use Rattle.mpc_table.proofs.reply_lines.add_reply.Goals as goal

pub reply_at-reply-requires : goal.reply_at-reply-requires
reply_at-reply-requires c =
    let h = at_true c.in_ok-read_counts.field-0 _ _ c.if-not-branch.false c.in_ok-read_counts.ensures.known in
    ap length c.as_slice-point.ensures.value ∙ counts_size c.args.line.now c.args.states c.read_counts.new.counts.items h ∙ c.requires

pub returns : goal.returns
returns c =
    let h = at_true c.in_ok-read_counts.field-0 _ _ c.if-not-branch.false c.in_ok-read_counts.ensures.known in
    on_ok_weaker c.add_text-2.result
    (λ e parts of_parts. adds_answer parts c.args.table.now of_parts c.args.line.now c.args.text.now.items _ c.args.states c.requires c.as_slice-point.result.now _ (h ∙ ap Some (sym c.as_slice-point.ensures.value))
    (c.in_ok-write_reply.ensures.ok parts of_parts (c.reply_at-reply.ensures.reply parts of_parts)) e)
    c.add_text-2.ensures.ok
