use Rattle.std.proofs.Common.{◌≡◌, ◌∙◌, ◌+◌, ◌<◌, sym, subst, arith}
use Rattle.std.proofs.lemmas.Bool.{both_ways}
use Rattle.mpc_rows.specs.Run.{may_enter}
use Rattle.mpc_runs.specs.Table.{variable_at}
use Rattle.mpc_whole.proofs.Nonbasic.{IsFirstOf, none_yet, first_stays, first_moves, first_is, nobody_is, variable_below, all_enter}
use Rattle.mpc_whole.proofs.whole_turn.entering.Goals as goal
use Rattle.mpc_whole.proofs.whole_turn.entering.Goals.{then-variable-first+then-enters, else-variable-first, else-variable-first-via-then-variable-first+else-enters, else-variable-first-via-else-variable-first}

pub loop-column-init : goal.loop-column-init
loop-column-init c = λ seats p k l d z a some h r. none_yet (may_enter c.args.system.now p l) c.args.nonbasic.now c.args.count

pub loop-column-preserved : goal.loop-column-preserved
loop-column-preserved c = λ seats p k l d z a some h r.
    let test = may_enter c.args.system.now p l in
    let old = c.loop-column.invariant seats p k l d z a some h r in
    let inside : c.loop-column.column < c.args.system.now.width = (let t = c.loop-column-test.true in let w = c.unknowns-column-end.ensures in omega arith) in
    let below = variable_below c.args.system.now c.args.count seats c.args.nonbasic.now z a k p d l c.args.row.now some h r c.loop-column.column inside in
    elim c.if-variable-first.branch [
      | then-variable-first+then-enters w ↦
          subst (λ f. IsFirstOf test c.args.nonbasic.now c.args.count (c.loop-column.column + 1) f) (sym w.first-is)
          (first_moves test c.args.nonbasic.now c.args.count c.loop-column.column c.loop-column.first old w.if-variable-first.true (sym (w.enters.ensures c.args.count seats p k l d some below (a.at c.loop-column.column inside) h r) ∙ w.if-enters.true))
      | else-variable-first w ↦
          subst (λ f. IsFirstOf test c.args.nonbasic.now c.args.count (c.loop-column.column + 1) f) (sym w.first-is)
          (first_stays test c.args.nonbasic.now c.args.count c.loop-column.column c.loop-column.first old
          (elim w.else-variable-first.branch [
            | else-variable-first-via-then-variable-first+else-enters v ↦
                λ t. absurd (both_ways (test (variable_at c.args.nonbasic.now c.loop-column.column)) (sym (v.enters.ensures c.args.count seats p k l d some below (a.at c.loop-column.column inside) h r) ∙ v.if-enters.false) t)
            | else-variable-first-via-else-variable-first v ↦ λ t. (let q = v.if-variable-first.false in omega arith)
          ]))
    ]

pub returns-then-first-count : goal.returns-then-first-count
returns-then-first-count c = λ seats p k l d z a some h r.
    let test = may_enter c.args.system.now p l in
    let e : c.loop-column.column ≡ c.args.system.now.width = (let b = c.loop-column-test.false in let t = c.loop-column.auto.column-end in let w = c.unknowns-column-end.ensures in omega arith) in
    first_is test c.args.nonbasic.now c.args.count c.args.system.now.width c.loop-column.first (subst (λ m. IsFirstOf test c.args.nonbasic.now c.args.count m c.loop-column.first) e (c.loop-column.invariant seats p k l d z a some h r))
    (all_enter c.args.system.now c.args.count seats c.args.nonbasic.now z a k p d l c.args.row.now some h r) c.if-first-count.true

pub returns-else-first-count : goal.returns-else-first-count
returns-else-first-count c = λ seats p k l d z a some h r.
    let test = may_enter c.args.system.now p l in
    let e : c.loop-column.column ≡ c.args.system.now.width = (let b = c.loop-column-test.false in let t = c.loop-column.auto.column-end in let w = c.unknowns-column-end.ensures in omega arith) in
    nobody_is test c.args.nonbasic.now c.args.count c.args.system.now.width c.loop-column.first (subst (λ m. IsFirstOf test c.args.nonbasic.now c.args.count m c.loop-column.first) e (c.loop-column.invariant seats p k l d z a some h r))
    (all_enter c.args.system.now c.args.count seats c.args.nonbasic.now z a k p d l c.args.row.now some h r) (let q = c.if-first-count.false in omega arith)
