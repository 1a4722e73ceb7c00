use Rattle.std.proofs.Common.{◌*◌, ◌<◌, length, arith}
use Rattle.mpc_runs.specs.Exchange.{changed_cell, row_at}
use Rattle.mpc_simplex.proofs.Cells.{set_done, set_kept, step_value, step_fits_back, fits_more, all_past, lt-le-trans}
use Rattle.mpc_simplex.proofs.tableau.change_row.Goals as goal

pub loop-column-preserved : goal.loop-column-preserved
loop-column-preserved c =
    let b : c.place-here.result < length c.loop-column.entries = (let h = c.place-here.ensures.below in let l = c.loop-column.auto in let s = c.requires.shape.size in omega arith) in
    let d : c.loop-column.column < length c.args.row.now = (let h = c.loop-column-test.true in let s = c.requires.room in omega arith) in
    record {
      done = set_done c.args.width c.args.entries.now c.loop-column.entries c.args.target c.loop-column.column c.place-here.result c.in-Ok.entry c.place-here.ensures.value b
          (changed_cell c.args.width c.args.entries.now (row_at c.args.row.now) c.args.pivot_column c.args.target) c.loop-column.invariant.done
          (step_value c.args.width c.args.entries.now c.loop-column.entries c.args.row.now c.args.target c.loop-column.column c.args.pivot_column c.place-here.result c.args.factor.now c.index-entries-here.result c.index-row-column.result c.requires.factor c.place-here.ensures.value b c.index-entries-here.is d c.index-row-column.is c.loop-column.invariant.kept c.in-Ok.entry c.in-Ok.ensures.value);
      kept = set_kept c.args.width c.args.entries.now c.loop-column.entries c.args.target c.loop-column.column c.place-here.result c.in-Ok.entry c.place-here.ensures.value b c.loop-column.invariant.kept;
      fits = fits_more c.args.width c.args.entries.now c.loop-column.entries c.args.row.now c.args.target c.loop-column.column c.args.pivot_column c.place-here.result c.args.factor.now c.index-entries-here.result c.index-row-column.result c.requires.factor c.place-here.ensures.value b c.index-entries-here.is d c.index-row-column.is c.loop-column.invariant.kept c.in-Ok.ensures.wide c.loop-column.invariant.fits;
    }

pub place-here-requires-clause-row : goal.place-here-requires-clause-row
place-here-requires-clause-row c = c.requires.row

pub place-here-requires-clause-column : goal.place-here-requires-clause-column
place-here-requires-clause-column c = c.loop-column-test.true

pub place-here-requires-clause-fits : goal.place-here-requires-clause-fits
place-here-requires-clause-fits c = c.requires.shape.fits

pub returns-in-Err-clause-wide : goal.returns-in-Err-clause-wide
returns-in-Err-clause-wide c = λ a.
    let b : c.place-here.result < length c.loop-column.entries = (let h = c.place-here.ensures.below in let l = c.loop-column.auto in let s = c.requires.shape.size in omega arith) in
    let d : c.loop-column.column < length c.args.row.now = (let h = c.loop-column-test.true in let s = c.requires.room in omega arith) in
    step_fits_back c.args.width c.args.entries.now c.loop-column.entries c.args.row.now c.args.target c.loop-column.column c.args.pivot_column c.place-here.result c.args.factor.now c.index-entries-here.result c.index-row-column.result c.requires.factor c.place-here.ensures.value b c.index-entries-here.is d c.index-row-column.is c.loop-column.invariant.kept c.in-Err.ensures.wide a c.loop-column-test.true

pub returns-clause-changed : goal.returns-clause-changed
returns-clause-changed c = record {
  cells = λ z h. c.loop-column.invariant.done z (lt-le-trans h c.loop-column-test.false);
  others = λ q d. c.loop-column.invariant.kept q (all_past q (c.args.target * c.args.width) c.args.width c.loop-column.column c.loop-column.auto.column-end d);
}

pub returns-clause-wide : goal.returns-clause-wide
returns-clause-wide c = record { each = λ z h. c.loop-column.invariant.fits z (lt-le-trans h c.loop-column-test.false) }
