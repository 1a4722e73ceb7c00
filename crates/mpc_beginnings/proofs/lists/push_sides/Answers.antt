use Rattle.std.proofs.Common.{◌≡◌, ◌+◌, List, sym, subst, arith}
use Rattle.mpc_runs.specs.declared.variables.Seat.{Seat}
use Rattle.mpc_beginnings.proofs.Seated.{AreSeatedTo, one_more, none_more, all_seated}
use Rattle.mpc_beginnings.proofs.lists.push_sides.Goals as goal

pub loop-r-preserved : goal.loop-r-preserved
loop-r-preserved c = record {
  from = let h = c.loop-r.invariant.from in omega arith;
  seated = subst (λ (t : List Seat). AreSeatedTo c.args.height (c.loop-r.r + 1) c.args.seats.now.items t) (sym c.in_ok-push.ensures.items)
      (one_more c.args.height c.loop-r.r c.args.seats.now.items c.loop-r.seats.items c.loop-r.invariant.from c.loop-r.invariant.seated);
}

pub loop-r-init : goal.loop-r-init
loop-r-init c = record { from = omega arith; seated = none_more c.args.height c.args.seats.now.items }

pub returns-clause-seated : goal.returns-clause-seated
returns-clause-seated c =
    let e : c.loop-r.r ≡ c.args.longer = (let a = c.loop-r.auto.r-end c.requires in let b = c.loop-r-test.false in omega arith) in
    λ w n i. (all_seated c.args.height c.args.longer c.loop-r.r c.args.seats.now.items c.loop-r.seats.items e c.loop-r.invariant.seated w n i).0

pub returns-clause-grown : goal.returns-clause-grown
returns-clause-grown c = λ w n i. (c.loop-r.invariant.seated w n i).1
