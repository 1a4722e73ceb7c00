use Rattle.std.proofs.Common.{length}
use Rattle.mpc_block.proofs.ReplyLemmas.{by_all}
use Rattle.mpc_block.proofs.replies.reply_in.Goals as goal

pub returns-in-1-clause-reply : goal.returns-in-1-clause-reply
returns-in-1-clause-reply c = by_all c.args.words.now c.args.counts.now (length c.args.moves.now) 1 c.headed_reply.new.moves c.headed_reply.result c.in-1.is c.if-words-ne1.false c.headed_reply.ensures.reply

pub returns-in-2-clause-reply : goal.returns-in-2-clause-reply
returns-in-2-clause-reply c = by_all c.args.words.now c.args.counts.now (length c.args.moves.now) 2 c.headed_reply-in-2.new.moves c.headed_reply-in-2.result c.in-2.is c.if-words-ne1.false c.headed_reply-in-2.ensures.reply

pub returns-in-3-clause-reply : goal.returns-in-3-clause-reply
returns-in-3-clause-reply c = by_all c.args.words.now c.args.counts.now (length c.args.moves.now) 3 c.headed_reply-in-3.new.moves c.headed_reply-in-3.result c.in-3.is c.if-words-ne1.false c.headed_reply-in-3.ensures.reply

pub returns-in-4-clause-reply : goal.returns-in-4-clause-reply
returns-in-4-clause-reply c = by_all c.args.words.now c.args.counts.now (length c.args.moves.now) 4 c.headed_reply-in-4.new.moves c.headed_reply-in-4.result c.in-4.is c.if-words-ne1.false c.headed_reply-in-4.ensures.reply
