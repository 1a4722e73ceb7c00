use Rattle.std.proofs.Common.{◌≡◌, ◌∙◌, ◌+◌, ◌*◌, length, refl, arith, ap, pos, get_or, unsigned_abs, rules, FitsSigned}
use Rattle.std.specs.Int.{w128}
use Rattle.std.proofs.lemmas.Int.{to_z-of_z}
use Rattle.mpc_scaled.specs.Scaled.{whole_at}
use Rattle.mpc_whole.proofs.DividedRows.{pivot_divided}
use Rattle.mpc_whole.proofs.WholeExchange.{changed_divided, row_inside}
use Rattle.mpc_whole.proofs.reduced.reduce.Goals as goal

pub returns-clause-pivot : goal.returns-clause-pivot
returns-clause-pivot c =
    let x = c.args.divided_row.now in
    let w = length x in
    let f : FitsSigned w128 (get_or x c.args.pivot_column (pos 0)) = search rules in
    let g = c.shared_with_all-divisor.result in
    let size = c.in_ok-size.size in
    let over : size * g ≡ unsigned_abs (whole_at x c.args.pivot_column) * c.args.den =
    c.in_ok-size.ensures ∙ c.in_ok-over.ensures.1 ∙ ap (λ m. m * c.args.den) (c.unsigned_abs.ensures.value ∙ ap unsigned_abs (to_z-of_z w128 _ f))
    in
    λ row d more split times.
    pivot_divided w g c.args.den c.args.rest size c.args.numbers.now c.divide_numbers.new.list x row c.args.pivot_column d (pos size) refl
    c.shared_with_all-divisor.ensures more split times c.requires.column (ap pos over) refl
    (λ j k h l. changed_divided w g c.args.rest c.args.numbers.now x j c.args.pivot_column k _ _ (c.in_ok-own.ensures.each (j * w + k)) (c.in_ok-raise.ensures j k h l))

-- the first number of the column
pub offset_bounds-numbers-pivot_column : goal.offset_bounds-numbers-pivot_column
offset_bounds-numbers-pivot_column c = let r = row_inside (length c.args.divided_row.now) 0 c.args.pivot_column (length c.args.numbers.now) c.requires.square (let h = c.requires.column in omega arith) c.requires.column in omega arith

pub raise-requires-clause-square : goal.raise-requires-clause-square
raise-requires-clause-square c = c.requires.square

pub raise-requires-clause-column : goal.raise-requires-clause-column
raise-requires-clause-column c = c.requires.column

pub raise-requires-clause-own : goal.raise-requires-clause-own
raise-requires-clause-own c = c.requires.own

pub returns-in_err-over : goal.returns-in_err-over
returns-in_err-over c = rw c.from_residual.ensures (record { pivot = tt; own = tt })

pub returns-in_err-most : goal.returns-in_err-most
returns-in_err-most c = rw c.from_residual-in_err-most.ensures (record { pivot = tt; own = tt })

pub returns-in_err-raise : goal.returns-in_err-raise
returns-in_err-raise c = rw c.from_residual-in_err-raise.ensures (record { pivot = tt; own = tt })

pub returns-in_err-size : goal.returns-in_err-size
returns-in_err-size c = rw c.from_residual-in_err-size.ensures (record { pivot = tt; own = tt })

pub returns-in_err-own : goal.returns-in_err-own
returns-in_err-own c = rw c.from_residual-in_err-own.ensures (record { pivot = tt; own = tt })
