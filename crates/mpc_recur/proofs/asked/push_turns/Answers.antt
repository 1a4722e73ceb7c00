use Rattle.mpc_recur.proofs.AskedLemmas.{asked_over, asked_both, if_both}
use Rattle.mpc_recur.proofs.asked.push_turns.Goals as goal

pub returns-in_default : goal.returns-in_default
returns-in_default c = λ _. asked_over c.args.forms.now c.args.tree.now c.args.split c.args.rows.now c.requires.before (λ row at. c.in_default.not-Split row (let here = c.at.ensures in cc))

pub returns : goal.returns
returns c =
    let yes = c.if-not-branch.false in
    if_both c.push_turn-2.result _ _ _ (λ done rows fits t. asked_both c.args.forms.now c.args.tree.now c.args.split c.args.rows.now c.requires.before c.push_turn.new.rows c.push_turn-2.new.rows
    c.push_turn.ensures.width c.push_turn-2.ensures.width (c.in_ok-push_turn.ensures.rows yes) (rows t) (c.in_ok-push_turn.ensures.fits yes) (fits t))
    c.push_turn-2.ensures.rows c.push_turn-2.ensures.fits
