use Rattle.std.proofs.Common.{refl, sym}
use Rattle.mpc_region.proofs.ReachRuns.{runs_shared}
use Rattle.mpc_region.proofs.kept.turn_to.Goals as goal

pub loop-count-init : goal.loop-count-init
loop-count-init c = record {
  kept = record {
    reaches = runs_shared c.args.qp.now c.args.kept.now.set c.args.kept.now.reaches.items c.requires.kept.reaches c.args.set c.shared_members-shared.result
        c.shared_members-shared.ensures.in_one c.shared_members-shared.ensures.in_other c.shared_members-shared.ensures.alike c.truncate.new.self.items c.truncate.ensures.items;
    states = c.requires.kept.states;
  };
  set = refl;
  count = sym c.len-count.ensures;
}
