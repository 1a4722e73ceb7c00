use Rattle.std.proofs.Common.{◌≡◌, false, Option, subst, arith}
use Rattle.std.specs.Prelude.{IfSome}
use Rattle.mpc_rows.specs.Run.{count, steps}
use Rattle.mpc_whole.specs.declared.whole.Ending.{Ending}
use Rattle.mpc_whole.specs.declared.judged.WidePlace.{WidePlace}
use Rattle.mpc_whole.specs.Underway.{HasEnded}
use Rattle.mpc_whole.specs.Lists.{AreListsOf}
use Rattle.mpc_beginnings.specs.RunLists.{lists_of, weight_of, HaveShortValues}
use Rattle.mpc_beginnings.specs.Kept.{IsNormProduct}
use Rattle.mpc_beginnings.proofs.Listed.{short_weight}
use Rattle.mpc_beginnings.proofs.MildShared.{mild_as, mild_by_norms}
use Rattle.mpc_beginnings.proofs.kept.run_on.Goals as goal

pub returns-in-Some : goal.returns-in-Some
returns-in-Some c =
    let s = c.args.system.now in
    let m = c.args.numbers.now in
    let p = c.in-Some.place in
    let lists = c.limited_run.new.lists in
    let l = lists_of lists in
    let product = c.kept_product-product.result in
    let ended : HasEnded s (count s) l.seats m.scales.now p.den l.numbers l.firsts l.seconds p.greatest p.greatest_den c.in-Some.end =
    subst (λ (o : Option (WidePlace × Ending)). IfSome o (λ t. HasEnded s (count s) l.seats m.scales.now t.0.den l.numbers l.firsts l.seconds t.0.greatest t.0.greatest_den t.1)) c.in-Some.is c.limited_run.ensures.end
    in
    let narrow : lists.is_wide ≡ false = subst (λ (o : Option (WidePlace × Ending)). IfSome o (λ t. lists.is_wide ≡ false)) c.in-Some.is c.limited_run.ensures.narrow in
    record {
      kept = record {
        scales = c.requires.numbers.whole.scales.size;
        lists = subst (λ (o : Option (WidePlace × Ending)). IfSome o (λ t. AreListsOf s t.0.own l)) c.in-Some.is c.limited_run.ensures.lists;
        ended = ended;
        before = λ h.
            mild_as s m.scales.now p.greatest p.greatest_den (λ j. product) (weight_of lists product) (λ j b. let e : weight_of lists product j ≡ product = short_weight lists product j narrow in omega arith) product (steps s)
            (mild_by_norms c.position_theorems.ensures s m c.requires.numbers p product (subst (λ w. IsNormProduct w m p product) c.unknowns-width.ensures (c.kept_product-product.ensures h)) ended.before);
      };
      short = subst (λ (o : Option (WidePlace × Ending)). IfSome o (λ t. HaveShortValues lists)) c.in-Some.is c.limited_run.ensures.short;
    }
