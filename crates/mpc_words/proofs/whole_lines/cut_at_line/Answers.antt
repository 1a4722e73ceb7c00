use Rattle.std.proofs.Common.{arith, sym, ◌∙◌}
use Rattle.mpc_words.proofs.WholeLineLemmas.{IsCut, behind_none, behind_more, cut_here, cut_at_end, cut_nowhere, behind_fits, cut_length, eq_length}
use Rattle.mpc_words.proofs.whole_lines.cut_at_line.Goals as goal

pub loop-line-init : goal.loop-line-init
loop-line-init c = behind_none c.args.word.now c.args.text.now

pub loop-line-preserved : goal.loop-line-preserved
loop-line-preserved c = behind_more c.args.word.now c.requires _ _ c.in-Some.line.now c.in-Some.after.now c.loop-line.start c.loop-line.invariant c.in-Some.ensures.cut (sym c.is_line.ensures ∙ c.if-is_line.false)

pub loop-line-smaller : goal.loop-line-smaller
loop-line-smaller c = c.in-Some.ensures.shorter

pub overflow_add-start-in-Some : goal.overflow_add-start-in-Some
overflow_add-start-in-Some c = omega (arith, cut_length c.in-Some.ensures.cut, behind_fits c.loop-line.invariant)

pub returns-then-is_line : goal.returns-then-is_line
returns-then-is_line c =
    let h : IsCut _ _ _ _ = cut_here c.args.word.now c.requires c.args.text.now c.loop-line.rest.now c.in-Some.line.now c.in-Some.after.now c.loop-line.start c.loop-line.invariant c.in-Some.ensures.cut (sym c.is_line.ensures ∙ c.if-is_line.true) in
    record { before = h.before_is; behind = h.behind_is; shorter = omega (arith, cut_length c.in-Some.ensures.cut, behind_fits c.loop-line.invariant) }

pub returns-then-eq : goal.returns-then-eq
returns-then-eq c =
    let h : IsCut _ _ _ _ = cut_at_end c.args.word.now c.args.text.now c.loop-line.rest.now c.loop-line.start c.requires c.loop-line.invariant c.in_default.ensures.cut (sym c.eq.ensures ∙ c.if-eq.true) in
    record { before = h.before_is; behind = h.behind_is; shorter = omega (arith, eq_length c.loop-line.rest.now c.args.word.now (sym c.eq.ensures ∙ c.if-eq.true), behind_fits c.loop-line.invariant, c.requires.some) }

pub returns : goal.returns
returns c =
    let h : IsCut _ _ _ _ = cut_nowhere c.args.word.now c.args.text.now c.loop-line.rest.now c.loop-line.start c.requires c.loop-line.invariant c.in_default.ensures.cut (sym c.eq.ensures ∙ c.if-eq.false) in
    record { before = h.before_is; behind = h.behind_is; shorter = tt }
