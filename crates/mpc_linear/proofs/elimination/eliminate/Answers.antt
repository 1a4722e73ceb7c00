use Rattle.std.proofs.Common.{◌≡◌, ◌<◌, ◌≤◌, arith, refl, subst}
use Rattle.mpc_linear.specs.Elimination.{ColumnsDone, eliminated}
use Rattle.mpc_linear.specs.Stored.{stored, SameFrom}
use Rattle.mpc_linear.proofs.Runs.{same_start, ends_dependent, ends_wide, column_more, table_more}
use Rattle.mpc_linear.proofs.elimination.eliminate.Goals as goal
use Rattle.mpc_linear.proofs.elimination.eliminate.Goals.{After-loop-column}

pub loop-column-init : goal.loop-column-init
loop-column-init c = record { before = λ k l. absurd (omega arith); same = same_start c.args.rows c.args.width (stored c.args.width c.args.table.now) }

pub returns-in_default-clause-ok : goal.returns-in_default-clause-ok
returns-in_default-clause-ok c = (
  c.loop-column.column,
  refl,
  ends_dependent c.args.rows c.args.width (stored c.args.width c.args.table.now) (stored c.args.width c.loop-column.table) c.loop-column.column c.loop-column-test.true (let s = c.requires.square in let l = c.loop-column-test.true in omega arith)
      c.loop-column.invariant.before c.loop-column.invariant.same c.in_default.ensures.value,
)

pub returns-in-Err-clause-wide : goal.returns-in-Err-clause-wide
returns-in-Err-clause-wide c = (
  c.loop-column.column,
  refl,
  ends_wide c.args.rows c.args.width (stored c.args.width c.args.table.now) (stored c.args.width c.loop-column.table) c.loop-column.column c.loop-column-test.true (let s = c.requires.square in let l = c.loop-column-test.true in omega arith)
      c.loop-column.invariant.before c.loop-column.invariant.same c.in-Some.row c.in-Some.ensures.place.1 c.in-Some.ensures.value c.in-Err.ensures.wide,
)

pub loop-column-preserved : goal.loop-column-preserved
loop-column-preserved c =
    let hw : c.loop-column.column < c.args.width = let s = c.requires.square in let l = c.loop-column-test.true in omega arith in
    record {
      before = column_more c.args.rows c.args.width (stored c.args.width c.args.table.now) (stored c.args.width c.loop-column.table) c.loop-column.column c.loop-column-test.true hw
          c.loop-column.invariant.before c.loop-column.invariant.same c.in-Some.row c.in-Some.ensures.place.1 c.in-Some.ensures.value c.in-Ok.ensures.wide;
      same = table_more c.args.rows c.args.width (stored c.args.width c.args.table.now) (stored c.args.width c.loop-column.table) c.loop-column.column c.loop-column-test.true hw
          c.loop-column.invariant.before c.loop-column.invariant.same c.in-Some.row c.in-Some.ensures.place.1 c.in-Some.ensures.value (stored c.args.width c.eliminate_column.new.table) c.in-Ok.ensures.ok;
    }

all : (c : After-loop-column) → c.loop-column.column ≡ c.args.rows
all c = let h : c.loop-column.column ≤ c.args.rows = c.loop-column.auto.column-end in let k : c.args.rows ≤ c.loop-column.column = c.loop-column-test.false in omega arith

pub returns-clause-ok : goal.returns-clause-ok
returns-clause-ok c = subst (ColumnsDone c.args.rows c.args.width (stored c.args.width c.args.table.now)) (all c) c.loop-column.invariant.before

pub returns-clause-solution : goal.returns-clause-solution
returns-clause-solution c =
    subst (λ n. SameFrom c.args.rows c.args.width n (stored c.args.width c.loop-column.table) (eliminated c.args.rows (stored c.args.width c.args.table.now) n)) (all c) c.loop-column.invariant.same
