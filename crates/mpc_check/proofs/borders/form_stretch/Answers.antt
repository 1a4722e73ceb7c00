use Rattle.std.proofs.Common.{◌≡◌, ◌∷◌, ◌++◌, [], rules}
use Rattle.mpc_check.proofs.BorderLemmas.{one_more_border, one_longer}
use Rattle.mpc_check.proofs.borders.form_stretch.Goals as goal

pub loop-place-preserved : goal.loop-place-preserved
loop-place-preserved c =
    let pushed : c.push.new.self.items ≡ c.loop-place.borders.items ++ c.in_ok-rows.rows ∷ [] = search rules in
    record {
      formed = one_more_border c.args.qp.now c.args.laws.now c.args.stretch.from c.loop-place.place c.loop-place.borders.items c.push.new.self.items c.at.result.now c.in_ok-rows.rows c.loop-place.invariant.formed c.loop-place.invariant.so_many c.at.ensures c.in_ok-rows.ensures pushed;
      so_many = one_longer c.args.stretch.from c.loop-place.place c.loop-place.borders.items c.push.new.self.items c.in_ok-rows.rows c.loop-place.invariant.so_many pushed;
    }
