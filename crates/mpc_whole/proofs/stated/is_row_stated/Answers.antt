use Rattle.std.proofs.Common.{ℕ, ◌≡◌, ◌∙◌, ◌<◌, sym, ap, subst, subst₂, rules, FitsSigned}
use Rattle.std.specs.Int.{w128}
use Rattle.std.proofs.lemmas.Int.{to_z-of_z}
use Rattle.std.proofs.lemmas.Option.{IfSome_then}
use Rattle.mpc_exact.specs.Rational.{◌*ℚ◌, inv_ℚ}
use Rattle.mpc_frac.specs.Fits.{FitsFrac}
use Rattle.mpc_runs.specs.declared.variables.Seat.TheVariants.{Column}
use Rattle.mpc_runs.specs.Table.{seat_at}
use Rattle.mpc_scaled.specs.Scaled.{whole_at}
use Rattle.mpc_whole.specs.Judged.{row_cell, coefficient_of, IsTermStated}
use Rattle.mpc_runs.proofs.Seats.{column_same}
use Rattle.mpc_whole.proofs.stated.is_row_stated.Goals as goal

pub row_cell-requires-clause-column : goal.row_cell-requires-clause-column
row_cell-requires-clause-column c = (c.requires.here.seated.columns c.args.by.now.entering c.column_of-column.result c.requires.by.enters c.column_of-column.ensures).0

pub returns : goal.returns
returns c =
    let k = c.args.frame.now.scales.now in
    let by = c.args.by.now in
    let cell = λ (d : ℕ). row_cell c.args.system.now c.args.frame.now.a.now c.args.here.now.numbers.now c.args.row_variable d in
    let f : FitsSigned w128 c.in_ok-cell.cell = search rules in
    let factor = λ (d : ℕ) (e : seat_at c.args.here.now.seats.now by.entering ≡ Column d).
    c.in_ok-factor.ensures ∙ ap (coefficient_of k c.args.here.now.den c.args.row_variable by.entering) (to_z-of_z w128 _ f ∙ c.in_ok-cell.ensures ∙ ap cell (column_same c.column_of-column.result d (sym c.column_of-column.ensures ∙ e)))
    in
    IfSome_then c.are_terms_stated.result c.are_terms_stated.ensures
    (λ _ terms. record {
      leaving = λ d e. subst₂ (λ u w. FitsFrac (u *ℚ inv_ℚ w)) (factor d e) (c.requires.pivot d e) c.in-Ok.ensures.wide;
      terms = λ y o d l apart h e. subst₂ (λ u w. IsTermStated (coefficient_of k c.args.here.now.den c.args.row_variable y (cell d)) u (coefficient_of k by.rest by.leaving y (whole_at by.row.now d)) w) (factor o h) (c.requires.pivot o h) (terms y d l apart e);
    })

pub row_cell-requires-clause-below : goal.row_cell-requires-clause-below
row_cell-requires-clause-below c = subst (λ n. c.args.row_variable < n) c.requires.numbers.count c.requires.below

pub row_cell-requires-clause-entries : goal.row_cell-requires-clause-entries
row_cell-requires-clause-entries c = c.requires.numbers.whole.entries_size

pub row_cell-requires-clause-square : goal.row_cell-requires-clause-square
row_cell-requires-clause-square c = c.requires.here.square

pub coefficient-requires-clause-own : goal.coefficient-requires-clause-own
coefficient-requires-clause-own c = c.requires.numbers.whole.scales.some c.args.row_variable (subst (λ n. c.args.row_variable < n) c.requires.numbers.count c.requires.below)

pub are_terms_stated-requires-clause-numbers : goal.are_terms_stated-requires-clause-numbers
are_terms_stated-requires-clause-numbers c = c.requires.numbers

pub are_terms_stated-requires-clause-here : goal.are_terms_stated-requires-clause-here
are_terms_stated-requires-clause-here c = c.requires.here

pub are_terms_stated-requires-clause-by : goal.are_terms_stated-requires-clause-by
are_terms_stated-requires-clause-by c = c.requires.by

pub are_terms_stated-requires-clause-pivot : goal.are_terms_stated-requires-clause-pivot
are_terms_stated-requires-clause-pivot c = c.requires.pivot_some
