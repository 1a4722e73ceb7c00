use Rattle.std.proofs.Common.{ℕ, ◌≡◌, ◌<◌, length, ◌∙◌, arith}
use Rattle.mpc_whole.specs.Whole.{IsChanged}
use Rattle.mpc_scaled.specs.Scaled.{whole_cell}
use Rattle.mpc_whole.proofs.WholeExchange.{rows_done, rows_kept}
use Rattle.mpc_whole.proofs.reduced.raise_rows.Goals as goal

pub loop-unknown-preserved : goal.loop-unknown-preserved
loop-unknown-preserved c =
    let w = length c.args.row.now in
    let v = c.loop-unknown.numbers in
    let new = c.raise_row.new.numbers in
    let j = c.loop-unknown.unknown in
    let cells : (k : ℕ) → k < w → IsChanged w 1 c.args.den v c.args.row.now j c.args.pivot_column k (whole_cell w new j k) = c.in_ok-raise_row.ensures.cells in
    record {
      done = rows_done w 1 c.args.den c.args.numbers.now v new c.args.row.now j c.args.pivot_column c.requires.column c.loop-unknown.invariant.done c.loop-unknown.invariant.kept cells c.in_ok-raise_row.ensures.others;
      kept = rows_kept w 1 c.args.den c.args.numbers.now v new c.args.row.now j c.args.pivot_column c.requires.column c.loop-unknown.invariant.done c.loop-unknown.invariant.kept cells c.in_ok-raise_row.ensures.others;
    }

pub raise_row-requires-clause-square : goal.raise_row-requires-clause-square
raise_row-requires-clause-square c = (let q : length c.loop-unknown.numbers ≡ length c.args.numbers.now = c.loop-unknown.auto.numbers in q) ∙ c.requires.square

pub returns : goal.returns
returns c = λ j k h l. c.loop-unknown.invariant.done j k (let t = c.loop-unknown-test.false in omega arith) l
