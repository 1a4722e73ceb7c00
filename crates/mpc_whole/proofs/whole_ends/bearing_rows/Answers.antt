use Rattle.std.proofs.Common.{◌≡◌, ℕ, ℤ, List, ◌+◌, ◌-◌, ◌*◌, ◌*ℤ◌, ◌<◌, ◌≤◌, pos, ◌∙◌, length, sym, subst, subst₂, arith}
use Rattle.std.proofs.lemmas.List.{get_or_read_under}
use Rattle.mpc_rows.specs.LinearSystem.{height}
use Rattle.mpc_rows.specs.Run.{count}
use Rattle.mpc_runs.specs.Table.{variable_at}
use Rattle.mpc_runs.specs.WholeNumbers.{whole_total}
use Rattle.mpc_scaled.specs.Scaled.{whole_cell}
use Rattle.mpc_whole.specs.Whole.{side_cell}
use Rattle.mpc_whole.proofs.BearingRows.{AreBorne, borne_next, are_unused}
use Rattle.mpc_whole.proofs.WholeExchange.{rows_in}
use Rattle.mpc_whole.proofs.WholeRun.{last_side, last_in}
use Rattle.mpc_whole.proofs.whole_ends.bearing_rows.Goals as goal
use Rattle.mpc_whole.proofs.whole_ends.bearing_rows.Goals.{After-unknowns-width, After-index-variable, then-may_have, else-may_have, then-row-most-via-then-row-most, then-row-most-via-else-row-most+then-first-row}

side_in : (c : After-unknowns-width) → c.args.leaving - c.args.system.now.width < height c.args.system.now
side_in c = last_in c.args.system.now (count c.args.system.now) c.args.lists.now.seats.items c.args.numbers.now.scales.now c.requires.form.0 c.args.lists.now.numbers.items c.requires.form.1 c.requires.seated c.args.numbers.now.a.now c.args.numbers.now.b.now c.requires.whole c.args.leaving c.requires.refuted

stands : (c : After-index-variable) → variable_at c.args.lists.now.nonbasic.items c.loop-column.column ≡ c.index-variable.result.now
stands c = sym (get_or_read_under _ _ c.args.system.now.width _ 0 c.index-variable.ensures (let t = c.loop-column-test.true in let e = c.unknowns-width.ensures in omega arith) (sym c.requires.columns.each))

next : (c : After-index-variable) (most : ℕ) → c.loop-column.most ≤ most → most ≤ c.args.first
    → ((i : ℕ) → c.index-variable.result.now ≡ c.args.system.now.width + i → most ≤ i → i < c.args.first → side_cell c.args.system.now c.args.numbers.now.a.now c.args.lists.now.numbers.items (c.args.leaving - c.unknowns-width.result) c.loop-column.column ≡ pos 0)
    → AreBorne c.args.system.now c.args.numbers.now.a.now c.args.lists.now.numbers.items c.args.lists.now.nonbasic.items (c.args.leaving - c.unknowns-width.result) c.args.first (c.loop-column.column + 1) most
next c most more within here = borne_next c.args.system.now c.args.numbers.now.a.now c.args.lists.now.numbers.items c.args.lists.now.nonbasic.items (c.args.leaving - c.unknowns-width.result) c.args.first c.loop-column.column c.loop-column.most most c.loop-column.invariant more within
    (λ i e. here i (sym (stands c) ∙ e))

pub overflow_sub-side : goal.overflow_sub-side
overflow_sub-side c =
    subst (λ w. w ≤ c.args.leaving) (sym c.unknowns-width.ensures)
    (last_side c.args.system.now (count c.args.system.now) c.args.lists.now.seats.items c.args.numbers.now.scales.now c.requires.form.0 c.args.lists.now.numbers.items c.requires.form.1 c.requires.seated c.args.numbers.now.a.now c.args.numbers.now.b.now c.requires.whole c.args.leaving c.requires.refuted)

pub may_have-requires-clause-inside : goal.may_have-requires-clause-inside
may_have-requires-clause-inside c =
    let at = goal.at.may_have-requires-clause-inside c in
    let s = c.args.system.now in
    subst (λ w. (c.args.leaving - w) * w + w ≤ length c.args.numbers.now.a.now) (sym c.unknowns-width.ensures) (rows_in s.width (c.args.leaving - s.width) (height s) (length c.args.numbers.now.a.now) (side_in at.After-unknowns-width) c.requires.whole.entries_size)

pub loop-column-preserved-then-variable-width : goal.loop-column-preserved-then-variable-width
loop-column-preserved-then-variable-width c =
    let at = goal.at.loop-column-preserved-then-variable-width c in
    let e = c.unknowns-width.ensures in
    let t = c.if-variable-width.true in
    next at.After-index-variable c.loop-column.most (omega arith) c.loop-column.invariant.within (λ i q l u. absurd (omega arith))

pub loop-column-preserved-then-row-most : goal.loop-column-preserved-then-row-most
loop-column-preserved-then-row-most c =
    let at = goal.at.loop-column-preserved-then-row-most c in
    let e = c.unknowns-width.ensures in
    next at.After-index-variable c.loop-column.most (omega arith) c.loop-column.invariant.within (λ i q l u.
    elim c.then-row-most.branch [
      | then-row-most-via-then-row-most w ↦ absurd (let t = w.if-row-most.true in omega arith)
      | then-row-most-via-else-row-most+then-first-row w ↦ absurd (let t = w.if-first-row.true in omega arith)
    ])

pub loop-column-preserved : goal.loop-column-preserved
loop-column-preserved c =
    let at = goal.at.loop-column-preserved c in
    let e = c.unknowns-width.ensures in
    let b = c.if-first-row.false in
    let r = c.if-row-most.false in
    elim c.if-may_have.branch [
      | then-may_have w ↦
          let m = w.most-is in
          next at.After-index-variable c.if-may_have.most (omega arith) (omega arith) (λ i q l u. absurd (omega arith))
      | else-may_have w ↦
          let m = w.most-is in
          next at.After-index-variable c.if-may_have.most (omega arith) (omega arith) (λ i q l u.
          subst₂ (λ n (v : List ℤ). whole_total n (λ j. whole_cell n c.args.numbers.now.a.now (c.args.leaving - c.unknowns-width.result) j *ℤ whole_cell n v j c.loop-column.column) ≡ pos 0) e c.deref.ensures.value (c.may_have.ensures w.if-may_have.false))
    ]

pub returns-clause-bearing : goal.returns-clause-bearing
returns-clause-bearing c =
    let s = c.args.system.now in
    let m = c.args.numbers.now in
    let l = c.args.lists.now in
    let e : c.loop-column.column ≡ s.width = (let b = c.loop-column-test.false in let t = c.loop-column.auto.column-end in let w = c.unknowns-width.ensures in omega arith) in
    are_unused s l.seats.items m.scales.now c.requires.form.0 l.numbers.items c.requires.form.1 c.requires.seated m.a.now m.b.now c.requires.whole c.args.leaving c.requires.refuted
    l.nonbasic.items c.requires.columns c.args.first c.loop-column.most c.requires.first
    (subst₂ (λ w k. AreBorne s m.a.now l.numbers.items l.nonbasic.items (c.args.leaving - w) c.args.first k c.loop-column.most) c.unknowns-width.ensures e c.loop-column.invariant)
