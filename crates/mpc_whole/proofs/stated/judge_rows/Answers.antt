use Rattle.std.proofs.Common.{◌<◌, ◌⊎◌, length, sym, subst, rules, arith}
use Rattle.std.proofs.lemmas.Option.{IfSome_then}
use Rattle.mpc_whole.specs.Judged.{IsRowBelow, IsRowStated}
use Rattle.mpc_whole.proofs.stated.judge_rows.Goals as goal
use Rattle.mpc_whole.proofs.stated.judge_rows.Goals.{After-column_of-column}

in_row : (c : After-column_of-column) → c.column_of-column.result < length c.args.by.now.row.now
in_row c = subst (λ m. c.column_of-column.result < m) (sym c.requires.by.row_size) (c.requires.here.seated.columns c.args.by.now.entering c.column_of-column.result c.requires.by.enters c.column_of-column.ensures).0

pub bounds-by-column : goal.bounds-by-column
bounds-by-column c = in_row (goal.at.bounds-by-column c).After-column_of-column

pub offset_bounds-by-column : goal.offset_bounds-by-column
offset_bounds-by-column c = let h = in_row (goal.at.offset_bounds-by-column c).After-column_of-column in search rules

pub returns : goal.returns
returns c =
    let k = c.args.frame.now.scales.now in
    let here = c.args.here.now in
    let by = c.args.by.now in
    IfSome_then c.are_rows_judged.result c.are_rows_judged.ensures
    (λ _ rows. record {
      values = c.in_ok-judge_end.ensures;
      rows = λ x l basic. subst (λ f. IsRowBelow c.args.system.now c.args.frame.now.count here.seats.now k c.args.frame.now.a.now here.den here.numbers.now f c.args.factors.top c.args.factors.size x
          ⊎ IsRowStated c.args.system.now c.args.frame.now.count here.seats.now k c.args.frame.now.a.now here.den here.numbers.now by.leaving by.entering by.rest by.row.now x) c.requires.same (rows x l basic);
    })

pub judge_end-requires-clause-numbers : goal.judge_end-requires-clause-numbers
judge_end-requires-clause-numbers c = c.requires.numbers

pub judge_end-requires-clause-sizes : goal.judge_end-requires-clause-sizes
judge_end-requires-clause-sizes c = c.requires.sizes

pub judge_end-requires-clause-here : goal.judge_end-requires-clause-here
judge_end-requires-clause-here c = c.requires.here

pub judge_end-requires-clause-own : goal.judge_end-requires-clause-own
judge_end-requires-clause-own c = c.requires.own

pub are_rows_judged-requires-clause-numbers : goal.are_rows_judged-requires-clause-numbers
are_rows_judged-requires-clause-numbers c = c.requires.numbers

pub are_rows_judged-requires-clause-here : goal.are_rows_judged-requires-clause-here
are_rows_judged-requires-clause-here c = c.requires.here

pub are_rows_judged-requires-clause-by : goal.are_rows_judged-requires-clause-by
are_rows_judged-requires-clause-by c = c.requires.by

pub coefficient-requires-clause-some : goal.coefficient-requires-clause-some
coefficient-requires-clause-some c = c.requires.by.some

pub coefficient-requires-clause-own : goal.coefficient-requires-clause-own
coefficient-requires-clause-own c = c.requires.numbers.whole.scales.some c.args.by.now.leaving (subst (λ n. c.args.by.now.leaving < n) c.requires.numbers.count c.requires.by.leaves)

pub bounds-frame-by : goal.bounds-frame-by
bounds-frame-by c = let h = c.requires.by.enters in let n = c.requires.numbers.count in let l = c.requires.numbers.whole.scales.size in omega arith

pub offset_bounds-frame-by : goal.offset_bounds-frame-by
offset_bounds-frame-by c = let h = c.requires.by.enters in let n = c.requires.numbers.count in let l = c.requires.numbers.whole.scales.size in omega arith

pub bounds-frame-by-2 : goal.bounds-frame-by-2
bounds-frame-by-2 c = let h = c.requires.by.leaves in let n = c.requires.numbers.count in let l = c.requires.numbers.whole.scales.size in omega arith

pub offset_bounds-frame-by-2 : goal.offset_bounds-frame-by-2
offset_bounds-frame-by-2 c = let h = c.requires.by.leaves in let n = c.requires.numbers.count in let l = c.requires.numbers.whole.scales.size in omega arith
