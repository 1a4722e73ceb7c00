use Rattle.std.proofs.Common.{IfSome, length, sym, ◌∙◌, subst}
use Rattle.std.proofs.lemmas.Result.{IfOk-weaker}
use Rattle.mpc_recur.specs.Asked.{AreAsked}
use Rattle.mpc_recur.proofs.AskedLemmas.{ruled_out_on_path}
use Rattle.mpc_recur.proofs.leaves.is_empty.Goals as goal

pub rules_out_all-requires : goal.rules_out_all-requires
rules_out_all-requires c = (subst (λ o. IfSome o (AreAsked c.args.tree.now c.args.forms.now (length c.args.tree.now))) c.in-Some.is c.in_ok-rows.ensures).width ∙ sym c.requires.width

pub returns-in-Some : goal.returns-in-Some
returns-in-Some c =
    let asked = subst (λ o. IfSome o (AreAsked c.args.tree.now c.args.forms.now (length c.args.tree.now))) c.in-Some.is c.in_ok-rows.ensures in
    IfOk-weaker c.rules_out_all.result _ _ (λ yes h t. ruled_out_on_path c.args.forms.now c.args.tree.now c.in-Some.rows asked c.args.base.now (h t)) c.rules_out_all.ensures
