use Rattle.std.proofs.Common.{sym, subst, arith}
use Rattle.mpc_table.proofs.CountLemmas.{HasWords, begins, behind_some, behind_none, words_more, counts_bad, counts_many, counts_end}
use Rattle.mpc_table.proofs.counts.read_counts.Goals as goal

pub words-preserved : goal.words-preserved
words-preserved c =
    let h = words_more c.args.line.now c.words.rest.now c.split_word.result.0.now c.in-Some-behind.after.now c.words.counts.items c.in-Some.count c.words.invariant.words
    (behind_some _ _ c.split_word.result.1 _ c.in-Some-behind.is c.split_word.ensures.words) (sym c.in-Some.ensures) in
    record {
      words = subst (λ items. HasWords c.args.line.now c.in-Some-behind.after.now items) (sym c.push_reserved.ensures.items) h;
      few = omega (arith, c.push_reserved.ensures.len, c.words.invariant.few, c.len.ensures, c.if-len-states.false);
      room = omega (arith, c.push_reserved.ensures.capacity, c.words.invariant.room);
    }

pub returns-then-len-states-clause-known : goal.returns-then-len-states-clause-known
returns-then-len-states-clause-known c =
    counts_many c.args.line.now c.words.rest.now c.split_word.result.0.now c.words.counts.items c.args.states c.words.invariant.words (begins (λ behind. behind.now) c.words.rest.now c.split_word.result.0.now c.split_word.result.1 c.split_word.ensures.words)
    (omega (arith, c.words.counts.ok.0))

pub returns-in-None-clause-known : goal.returns-in-None-clause-known
returns-in-None-clause-known c =
    counts_bad c.args.line.now c.words.rest.now c.split_word.result.0.now c.words.counts.items c.args.states c.words.invariant.words (begins (λ behind. behind.now) c.words.rest.now c.split_word.result.0.now c.split_word.result.1 c.split_word.ensures.words)
    (sym c.in-None.ensures)

pub returns-in-None-behind-clause-known : goal.returns-in-None-behind-clause-known
returns-in-None-behind-clause-known c =
    counts_end c.args.line.now c.words.rest.now c.split_word.result.0.now c.words.counts.items _ c.in-Some.count c.len-in-None-behind.result c.args.states c.words.invariant.words
    (behind_none _ _ c.split_word.result.1 c.in-None-behind.is c.split_word.ensures.words) (sym c.in-Some.ensures)
    c.push_reserved.ensures.items (omega (arith, c.len-in-None-behind.ensures, c.push_reserved.new.self.ok.0))
