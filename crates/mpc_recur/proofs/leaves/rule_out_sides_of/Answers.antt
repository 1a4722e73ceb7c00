use Rattle.mpc_recur.proofs.LeafLemmas.{low_met, low_stop, high_found}
use Rattle.mpc_recur.proofs.leaves.rule_out_sides_of.Goals as goal

pub returns-in-Ok : goal.returns-in-Ok
returns-in-Ok c = λ plant law path base ef ec.
    let low = low_met plant law path c.args.leaf c.args.base.now base c.args.index c.args.form.now ef c.in-Ok.ensures in
    high_found plant law path c.args.leaf c.args.base.now base c.args.index c.args.form.now ef c.args.count ec c.rule_out_high.result low c.rule_out_high.ensures

pub returns-in-Err : goal.returns-in-Err
returns-in-Err c = λ plant law path base ef ec. low_stop plant law path c.args.leaf c.args.base.now base c.args.index c.args.form.now ef c.in-Err.stop c.in-Err.ensures
