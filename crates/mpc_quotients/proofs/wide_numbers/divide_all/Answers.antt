use Rattle.std.proofs.Common.{◌≡◌, ◌∙◌, ◌<◌, ◌*ℤ◌, ap, arith, get_or, length, le_refl, pos, rules, to_z, of_z, FitsSigned}
use Rattle.std.specs.Int.{w128}
use Rattle.std.proofs.lemmas.Int.{to_z-of_z}
use Rattle.mpc_scaled.specs.Scaled.{whole_at}
use Rattle.mpc_runs.proofs.WholeLists.{set_above, set_bound, set_product}
use Rattle.mpc_quotients.proofs.wide_numbers.divide_all.Goals as goal

pub loop-place-preserved : goal.loop-place-preserved
loop-place-preserved c =
    let z = to_z w128 (of_z w128 c.in_ok-quotient.quotient) in
    let b : c.loop-place.place < length c.loop-place.list = (let l : length c.loop-place.list ≡ length c.args.list.now = c.loop-place.auto.list in let t = c.loop-place-test.true in let e = c.loop-place.auto.place-end in omega arith) in
    let f : FitsSigned w128 c.in_ok-quotient.quotient = search rules in
    let g : FitsSigned w128 (get_or c.loop-place.list c.loop-place.place (pos 0)) = search rules in
    record {
      done = set_product c.loop-place.list c.loop-place.place z b (pos c.args.by.den) (λ k. whole_at c.args.list.now k) c.loop-place.invariant.done
          (ap (λ u. u *ℤ pos c.args.by.den) (to_z-of_z w128 _ f) ∙ c.in_ok-quotient.ensures ∙ to_z-of_z w128 _ g ∙ c.loop-place.invariant.kept c.loop-place.place (le_refl c.loop-place.place));
      kept = set_above c.loop-place.list c.loop-place.place z b c.args.list.now c.loop-place.invariant.kept;
      own = set_bound c.loop-place.list c.loop-place.place z b c.loop-place.own c.max-own.result c.loop-place.invariant.own (let e = c.max-own.ensures in omega arith) (let e = c.max-own.ensures in let h = c.unsigned_abs.ensures.value in omega arith);
    }
