use Rattle.std.proofs.Common.{ℕ, ◌≡◌, ◌*◌, ◌<◌, ◌≤◌, ◌⊎◌, inl, inr, length, pos, unsigned_abs, arith, subst, sym, ◌∙◌, le_trans, mul-le-mul_right}
use Rattle.std.proofs.lemmas.Bool.{cases_lt}
use Rattle.std.proofs.lemmas.List.{get_or_past}
use Rattle.mpc_whole.specs.Whole.{IsChanged}
use Rattle.mpc_scaled.specs.Scaled.{whole_at, whole_cell}
use Rattle.mpc_whole.proofs.WholeExchange.{rows_done, rows_kept, pivot_whole}
use Rattle.mpc_whole.proofs.whole_pivot.exchange.Goals as goal
use Rattle.mpc_whole.proofs.whole_pivot.exchange.Goals.{After-loop-unknown}

pub loop-unknown-preserved : goal.loop-unknown-preserved
loop-unknown-preserved c =
    let w = length c.args.row.now in
    let v = c.loop-unknown.numbers in
    let new = c.change_row.new.numbers in
    let j = c.loop-unknown.unknown in
    let cells : (k : ℕ) → k < w → IsChanged w c.args.by.den c.args.by.den v c.args.row.now j c.args.pivot_column k (whole_cell w new j k) = c.in_ok-own.ensures.cells in
    record {
      done = rows_done w c.args.by.den c.args.by.den c.args.numbers.now v new c.args.row.now j c.args.pivot_column c.requires.column c.loop-unknown.invariant.done c.loop-unknown.invariant.kept cells c.in_ok-own.ensures.others;
      kept = rows_kept w c.args.by.den c.args.by.den c.args.numbers.now v new c.args.row.now j c.args.pivot_column c.requires.column c.loop-unknown.invariant.done c.loop-unknown.invariant.kept cells c.in_ok-own.ensures.others;
      small = c.in_ok-own.ensures.small;
      own = λ k h. c.in_ok-own.ensures.own k (omega arith);
    }

all_of : (c : After-loop-unknown) → length c.loop-unknown.numbers ≤ c.loop-unknown.unknown * length c.args.row.now
all_of c =
    let e : length c.loop-unknown.numbers ≡ length c.args.numbers.now = c.loop-unknown.auto.numbers in
    let s = c.requires.square in
    let m : length c.args.row.now * length c.args.row.now ≤ c.loop-unknown.unknown * length c.args.row.now = mul-le-mul_right (length c.args.row.now) c.loop-unknown-test.false in
    omega arith

pub returns-clause-own : goal.returns-clause-own
returns-clause-own c = record { each = λ k. by k (cases_lt k (c.loop-unknown.unknown * length c.args.row.now)) }
  where
    by : (k : ℕ) → (k < c.loop-unknown.unknown * length c.args.row.now) ⊎ (c.loop-unknown.unknown * length c.args.row.now ≤ k) → unsigned_abs (whole_at c.loop-unknown.numbers k) ≤ c.loop-unknown.own
    by k (inl h) = c.loop-unknown.invariant.own k h
    by k (inr h) = subst (λ z. unsigned_abs z ≤ c.loop-unknown.own) (sym (get_or_past c.loop-unknown.numbers k (pos 0) (le_trans (all_of c) h))) (omega arith)

pub change_row-requires-clause-square : goal.change_row-requires-clause-square
change_row-requires-clause-square c = (let q : length c.loop-unknown.numbers ≡ length c.args.numbers.now = c.loop-unknown.auto.numbers in q) ∙ c.requires.square

pub change_row-requires-clause-before : goal.change_row-requires-clause-before
change_row-requires-clause-before c = c.loop-unknown.invariant.own

pub returns-in_err-own : goal.returns-in_err-own
returns-in_err-own c = rw c.from_residual.ensures (record { pivot = tt; small = tt; own = tt })

pub returns-clause-pivot : goal.returns-clause-pivot
returns-clause-pivot c =
    pivot_whole (length c.args.row.now) c.args.by.den c.args.numbers.now c.loop-unknown.numbers c.args.row.now c.args.pivot_column c.requires.den_some c.requires.column
    (λ j k h l. c.loop-unknown.invariant.done j k (let t = c.loop-unknown-test.false in omega arith) l)

pub change_row-requires-clause-top : goal.change_row-requires-clause-top
change_row-requires-clause-top c = λ k l. subst (λ z. unsigned_abs z ≤ c.args.top) (sym (c.loop-unknown.invariant.kept k l)) (c.requires.before.each k)
