use Rattle.std.proofs.Common.{◌≡◌, ◌≤◌, arith}
use Rattle.mpc_space.specs.Matrix.{height}
use Rattle.mpc_linear.proofs.TableLemmas.{beside_more, table_length, table_same}
use Rattle.mpc_linear.proofs.elimination.augmented_table.Goals as goal
use Rattle.mpc_linear.proofs.elimination.augmented_table.Goals.{After-loop-i}

pub loop-i-preserved : goal.loop-i-preserved
loop-i-preserved c =
    beside_more c.args.matrix.now c.args.rhs.now c.loop-i.i c.loop-i.table.items c.extend_from_slice.new.self.items c.extend_from_slice-in-loop-i.new.self.items c.row.result.now c.row-in-loop-i.result.now
    c.loop-i.invariant c.in_ok-extend_from_slice.ensures.items c.in_ok-extend_from_slice-2.ensures.items c.row.ensures c.row-in-loop-i.ensures

all : (c : After-loop-i) → c.loop-i.i ≡ height c.args.matrix.now
all c = let h : c.loop-i.i ≤ c.rows-i-end.result = c.loop-i.auto.i-end in let k : c.rows-i-end.result ≤ c.loop-i.i = c.loop-i-test.false in let e = c.rows-i-end.ensures.value in omega arith

pub returns-clause-size : goal.returns-clause-size
returns-clause-size c = table_length c.args.matrix.now c.args.rhs.now c.cols.ensures.rectangular c.cols-2.ensures.rectangular c.requires c.loop-i.table.items c.loop-i.i (all c) c.loop-i.invariant

pub returns-clause-table : goal.returns-clause-table
returns-clause-table c = table_same c.args.matrix.now c.args.rhs.now c.cols.ensures.rectangular c.cols-2.ensures.rectangular c.requires c.loop-i.table.items c.loop-i.i (all c) c.loop-i.invariant
