use Rattle.std.proofs.Common.{[], ◌++◌, sym, subst}
use Rattle.std.specs.Str.Lines.{lines}
use Rattle.std.proofs.lemmas.List.{append-nil}
use Rattle.mpc_table.specs.ReplyLines.{AreRepliesOf, none_of}
use Rattle.mpc_table.proofs.ReplyLineLemmas.{replies_more}
use Rattle.mpc_table.proofs.reply_lines.reply_lines.Goals as goal

pub loop-line-init : goal.loop-line-init
loop-line-init c = λ parts of_parts more h. subst (λ t. AreRepliesOf parts (lines c.args.input.now) (t ++ more)) (sym c.new-text.ensures.items) h

pub loop-line-preserved : goal.loop-line-preserved
loop-line-preserved c = λ parts of_parts.
    replies_more parts (lines c.loop-line.rest.now) c.in-Some.line.now (lines c.in-Some.after.now) c.loop-line.text.items c.add_reply.new.text.items (lines c.args.input.now) c.in-Some.ensures.lines
    (c.in_ok-add_reply.ensures parts of_parts) (c.loop-line.invariant parts of_parts)

pub returns : goal.returns
returns c = λ parts of_parts. subst (AreRepliesOf parts (lines c.args.input.now)) (append-nil c.loop-line.text.items)
    (c.loop-line.invariant parts of_parts [] (subst (λ ls. AreRepliesOf parts ls []) (sym c.in_default.ensures.lines) none_of))
