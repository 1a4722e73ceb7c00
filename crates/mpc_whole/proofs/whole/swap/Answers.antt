use Rattle.std.proofs.Common.{◌≡◌, ◌<◌, set, sym, ◌∙◌, subst}
use Rattle.mpc_runs.specs.declared.variables.Seat.TheVariants.{Row, Column}
use Rattle.mpc_runs.proofs.Seats.{row_same, column_same}
use Rattle.mpc_whole.proofs.Nonbasic.{swapped}
use Rattle.mpc_whole.proofs.whole.swap.Goals as goal

pub returns-clause-seats : goal.returns-clause-seats
returns-clause-seats c = record {
  seats = λ r k left entered.
      let q : c.row_of-row.result ≡ r = row_same _ _ (sym c.row_of-row.ensures ∙ left) in
      let p : c.args.column ≡ k = column_same _ _ (sym c.requires.enters ∙ entered) in
      λ i. set (set c.args.seats.now c.args.leaving (Column (p i))) c.args.entering (Row (q i));
}

pub returns-clause-columns : goal.returns-clause-columns
returns-clause-columns c = λ w a.
    swapped w c.args.seats.now c.args.nonbasic.now a c.args.leaving c.args.entering c.row_of-row.result c.args.column c.requires.leaves_below (subst (λ m. c.args.column < m) a.each c.requires.column_below) c.row_of-row.ensures c.requires.enters
