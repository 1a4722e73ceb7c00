use Rattle.std.proofs.Common.{◌≡◌, ◌∙◌, ◌<◌, ◌*ℤ◌, ap, arith, get_or, length, le_refl, pos, rules, sym, subst, unsigned_abs, ◌≤◌, to_z, of_z, FitsSigned}
use Rattle.std.specs.Int.{w64, w128}
use Rattle.std.proofs.lemmas.Int.{to_z-of_z}
use Rattle.mpc_scaled.specs.Scaled.{whole_at}
use Rattle.mpc_runs.proofs.WholeLists.{set_above, set_bound, set_product}
use Rattle.mpc_whole.proofs.reduced.divide_first.Goals as goal

pub loop-index-preserved : goal.loop-index-preserved
loop-index-preserved c =
    let z = to_z w128 (of_z w128 c.widened.result) in
    let b : c.loop-index.index < length c.loop-index.list = (let l : length c.loop-index.list ≡ length c.args.list.now = c.loop-index.auto.list in let t = c.loop-index-test.true in let e = c.loop-index.auto.index-end in omega arith) in
    let f : FitsSigned w128 c.widened.result = search rules in
    let g : FitsSigned w128 (get_or c.loop-index.list c.loop-index.index (pos 0)) = search rules in
    let h : FitsSigned w64 c.in-Some.quotient = search rules in
    let back : z ≡ c.in-Some.quotient = to_z-of_z w128 _ f ∙ c.widened.ensures ∙ to_z-of_z w64 _ h in
    let size : unsigned_abs z ≤ c.max-own.result = (let e = c.max-own.ensures in let s = c.unsigned_abs.ensures.value ∙ ap unsigned_abs (to_z-of_z w64 _ h) in subst (λ u. unsigned_abs u ≤ c.max-own.result) (sym back) (omega arith)) in
    record {
      done = set_product c.loop-index.list c.loop-index.index z b (pos c.args.by.den) (λ k. whole_at c.args.list.now k) c.loop-index.invariant.done
          (ap (λ u. u *ℤ pos c.args.by.den) back ∙ c.in-Some.ensures.value ∙ to_z-of_z w128 _ g ∙ c.loop-index.invariant.kept c.loop-index.index (le_refl c.loop-index.index));
      kept = set_above c.loop-index.list c.loop-index.index z b c.args.list.now c.loop-index.invariant.kept;
      own = set_bound c.loop-index.list c.loop-index.index z b c.loop-index.own c.max-own.result c.loop-index.invariant.own (let e = c.max-own.ensures in omega arith) size;
    }
