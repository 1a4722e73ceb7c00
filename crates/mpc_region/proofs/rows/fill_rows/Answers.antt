use Rattle.std.proofs.Common.{◌≡◌, ◌≤◌, ◌^◌, ◌+◌, ◌∷◌, ◌++◌, [], length, drop, unsigned_abs, ◌∙◌, sym, ap, subst, subst₂, arith}
use Rattle.std.proofs.lemmas.List.{take_at}
use Rattle.mpc_linear.specs.declared.integers.RowInt.{RowInt}
use Rattle.mpc_space.specs.Matrix.{height}
use Rattle.mpc_rows.specs.LawRows.{whole_row}
use Rattle.mpc_region.specs.Sweeps.{rights}
use Rattle.mpc_region.specs.SweptRows.{number_from, IsRowFrom}
use Rattle.mpc_region.proofs.SweptDivisors.{read_short}
use Rattle.mpc_region.proofs.SweptRows.{filled_more, sides_small, bound_small}
use Rattle.mpc_region.proofs.SweptLawRows.{law_system, law_fits}
use Rattle.mpc_region.proofs.rows.fill_rows.Goals as goal
use Rattle.mpc_region.proofs.rows.fill_rows.Goals.{After-deref}

pub returns-in_err-restart-clause-fit : goal.returns-in_err-restart-clause-fit
returns-in_err-restart-clause-fit c = law_fits c.sweep_theorems.ensures.reduced c.over_theorems.ensures c.args.qp.now c.args.set c.args.table.now c.requires.set_of_rows c.requires.table

pub returns-in_err-make_sides-clause-fit : goal.returns-in_err-make_sides-clause-fit
returns-in_err-make_sides-clause-fit c = law_fits c.sweep_theorems.ensures.reduced c.over_theorems.ensures c.args.qp.now c.args.set c.args.table.now c.requires.set_of_rows c.requires.table

pub returns-in_err-push_small-clause-fit : goal.returns-in_err-push_small-clause-fit
returns-in_err-push_small-clause-fit c = law_fits c.sweep_theorems.ensures.reduced c.over_theorems.ensures c.args.qp.now c.args.set c.args.table.now c.requires.set_of_rows c.requires.table

-- the row that is put behind the others
abbrev row_of : (c : After-deref) → RowInt
row_of c = record { a = c.deref.result.now; b = c.write_row-bound.result }

-- the sides are what was written over the old ones
as_long : (c : After-deref) → length c.write_row-bound.new.sides ≡ c.loop-row.lines.sides.len
as_long c = c.write_row-bound.ensures.size ∙ c.deref_mut.ensures.len

sides_are : (c : After-deref) → c.deref.result.now ≡ c.write_row-bound.new.sides
sides_are c = c.deref.ensures.value ∙ take_at c.write_row-bound.new.sides (drop (length c.write_row-bound.new.sides) c.loop-row.lines.sides.items) c.loop-row.lines.sides.len (as_long c)

row_is : (c : After-deref) → IsRowFrom (number_from c.args.table.now (height c.args.qp.now.h + c.loop-row.row) (rights c.args.qp.now)) (length c.args.qp.now.counts) (row_of c)
row_is c =
    subst₂ (λ f width. IsRowFrom f width (row_of c)) (λ u. number_from c.args.table.now (c.rows-unknowns.ensures.value u + c.loop-row.row) (c.rows-unknowns.ensures.value u + c.rows-count.ensures.value u))
    (ap (λ xs. length xs) c.deref_mut.ensures.value ∙ c.loop-row.invariant.sides)
    (subst (λ xs. IsRowFrom (number_from c.args.table.now (c.rows-unknowns.result + c.loop-row.row) (c.rows-unknowns.result + c.rows-count.result)) (length c.deref_mut.result.now) (record { a = xs; b = c.write_row-bound.result })) (sym (sides_are c)) c.write_row-bound.ensures)

small : (c : After-deref) (j : _) → unsigned_abs (number_from c.args.table.now (height c.args.qp.now.h + c.loop-row.row) (rights c.args.qp.now) j) ≤ 2 ^ 62
small c j = c.requires.table.table.small.each _

pub push_small-requires-clause-entries_small : goal.push_small-requires-clause-entries_small
push_small-requires-clause-entries_small c = let d = (goal.at.push_small-requires-clause-entries_small c).After-deref in sides_small _ _ (row_of d) (row_is d) (small d)

pub push_small-requires-clause-side_small : goal.push_small-requires-clause-side_small
push_small-requires-clause-side_small c =
    let d = (goal.at.push_small-requires-clause-side_small c).After-deref in
    let b : unsigned_abs c.write_row-bound.result ≤ 2 ^ 62 = bound_small _ _ (row_of d) (row_is d) (small d) in
    subst (λ z. unsigned_abs z ≤ 2 ^ 62) (sym (read_short c.write_row-bound.result b)) b

pub loop-row-preserved : goal.loop-row-preserved
loop-row-preserved c =
    let d = (goal.at.loop-row-preserved c).After-deref in
    let b : unsigned_abs c.write_row-bound.result ≤ 2 ^ 62 = bound_small _ _ (row_of d) (row_is d) (small d) in
    record {
      filled = filled_more (λ r. number_from c.args.table.now (height c.args.qp.now.h + r) (rights c.args.qp.now)) (length c.args.qp.now.counts) c.loop-row.row c.loop-row.lines.rows _ (row_of d) (row_is d) c.in_ok-push_small.ensures.width
          (c.in_ok-push_small.ensures.ok ∙ ap (λ z. c.loop-row.lines.rows.rows ++ whole_row (record { a = c.deref.result.now; b = z }) ∷ []) (read_short c.write_row-bound.result b)) c.loop-row.invariant.filled;
      sides =
          ap (λ xs. length xs) (take_at c.write_row-bound.new.sides (drop (length c.write_row-bound.new.sides) c.loop-row.lines.sides.items) c.loop-row.lines.sides.len (as_long d))
          ∙ c.write_row-bound.ensures.size ∙ ap (λ xs. length xs) c.deref_mut.ensures.value ∙ c.loop-row.invariant.sides;
    }

pub returns-clause-rows : goal.returns-clause-rows
returns-clause-rows c = law_system c.sweep_theorems.ensures.reduced c.over_theorems.ensures c.args.qp.now c.args.set c.args.table.now c.requires.set_of_rows c.requires.table c.loop-row.row c.loop-row.lines.rows (let e = c.rows-count.ensures.value in omega arith) c.loop-row.invariant.filled

pub returns-clause-fit : goal.returns-clause-fit
returns-clause-fit c = law_fits c.sweep_theorems.ensures.reduced c.over_theorems.ensures c.args.qp.now c.args.set c.args.table.now c.requires.set_of_rows c.requires.table
