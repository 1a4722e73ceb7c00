use Rattle.std.proofs.Common.{refl, ◌∙◌, arith}
use Rattle.mpc_region.proofs.SweptTables.{tables_shared}
use Rattle.mpc_region.proofs.sweeps.turn_to.Goals as goal

pub loop-count-init : goal.loop-count-init
loop-count-init c = record {
  sweeps = tables_shared c.args.qp.now c.args.sweeps.now.set c.args.sweeps.now.count c.args.sweeps.now.tables.items c.requires.sweeps c.args.set c.shared_members-shared.result c.min-sweeps.result
      c.shared_members-shared.ensures.in_one c.shared_members-shared.ensures.in_other c.shared_members-shared.ensures.alike (omega arith) (omega arith);
  set = refl;
  some = omega arith;
  count = refl;
}

pub loop-count-preserved : goal.loop-count-preserved
loop-count-preserved c =
    let one_more = c.in_ok-next_table.ensures.one_more c.if-not-branch.false in
    record {
      sweeps = c.next_table.ensures.sweeps;
      set = c.next_table.ensures.set ∙ c.loop-count.invariant.set;
      some = omega arith;
      count = omega arith;
    }

pub returns-in_err-next_table-clause-sweeps : goal.returns-in_err-next_table-clause-sweeps
returns-in_err-next_table-clause-sweeps c = c.next_table.ensures.sweeps

pub returns-in_err-next_table-clause-set : goal.returns-in_err-next_table-clause-set
returns-in_err-next_table-clause-set c = c.next_table.ensures.set ∙ c.loop-count.invariant.set

pub returns-then-not-branch-clause-set : goal.returns-then-not-branch-clause-set
returns-then-not-branch-clause-set c = c.next_table.ensures.set ∙ c.loop-count.invariant.set
