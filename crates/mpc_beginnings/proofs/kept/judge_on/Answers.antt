use Rattle.std.proofs.Common.{◌≡◌, ◌<◌, ◌^◌, true, length, refl, sym, subst, arith}
use Rattle.std.proofs.lemmas.Bool.{both_ways}
use Rattle.mpc_whole.specs.Lists.{Listed, AreListsOf, weights_of}
use Rattle.mpc_rows.specs.Run.{count}
use Rattle.mpc_whole.specs.Judged.{IsMildlyUnderway}
use Rattle.mpc_beginnings.specs.RunLists.{lists_of, weight_of}
use Rattle.mpc_beginnings.specs.Kept.{AreKept}
use Rattle.mpc_beginnings.proofs.MildShared.{mildly_given_up}
use Rattle.mpc_beginnings.proofs.kept.judge_on.Goals as goal
use Rattle.mpc_beginnings.proofs.kept.judge_on.Goals.{then-keeps, else-keeps}

pub judged_run-requires-clause-lists : goal.judged_run-requires-clause-lists
judged_run-requires-clause-lists c = subst (λ (t : Listed). AreListsOf c.args.system.now c.args.from.own t) (sym c.in_ok-widen.ensures.same) c.requires.lists

pub judged_run-requires-clause-underway : goal.judged_run-requires-clause-underway
judged_run-requires-clause-underway c =
    let s = c.args.system.now in
    let p = c.args.from in
    let k = c.args.numbers.now.scales.now in
    let l = c.args.lists.now in
    let wide = c.widen.new.lists.wide in
    let product = c.if-keeps.product in
    let sized : length (lists_of l).firsts ≡ s.width = c.requires.lists.first_size in
    let same : product < 2 ^ 127 → product ≡ p.product = λ known. elim c.if-keeps.branch [ then-keeps w ↦ omega arith | else-keeps w ↦ absurd (let e = w.product-is in omega arith) ] in
    subst (λ (t : Listed). IsMildlyUnderway s (count s) t.seats k p.den t.numbers t.firsts t.seconds p.greatest p.greatest_den (weights_of wide) product p.first) (sym c.in_ok-widen.ensures.same)
    (mildly_given_up s k p.greatest p.greatest_den (weight_of l p.product) (weights_of wide)
    (λ j h. let e : weights_of wide j ≡ weight_of l p.product j = c.in_ok-widen.ensures.weights j (subst (λ n. j < n) (sym sized) h) in omega arith) p.product (count s) (lists_of l).seats p.den (lists_of l).numbers (lists_of l).firsts (lists_of l).seconds p.first
    product same (c.requires.start.within c.in-Some.ensures.before))

pub returns-in-Some-judged_run : goal.returns-in-Some-judged_run
returns-in-Some-judged_run c =
    let put = c.widen.new.lists in
    let t = c.in-Some-judged_run.found in
    let z = c.in-Some-judged_run.ensures in
    subst (λ b. AreKept c.args.system.now c.args.numbers.now.scales.now (record { is_wide = b; short = put.short; wide = c.judged_run.new.lists }) t.0 t.1) (sym c.in_ok-widen.ensures.wide) (record {
      kept = record { scales = c.requires.numbers.whole.scales.size; lists = z.lists; ended = z.end; before = z.before };
      short = record { first = λ e. absurd (both_ways true e refl); second = λ e. absurd (both_ways true e refl) };
    })
