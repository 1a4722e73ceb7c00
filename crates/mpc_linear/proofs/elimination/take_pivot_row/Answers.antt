use Rattle.std.proofs.Common.{◌≡◌, ◌∙◌, ◌<◌, subst, subst₂, arith, refl, le_refl, sym}
use Rattle.std.proofs.lemmas.Bool.{false≢true}
use Rattle.mpc_exact.specs.Rational.{◌*ℚ◌, ◌-ℚ◌}
use Rattle.mpc_linear.specs.Dot.{TakenFits}
use Rattle.mpc_linear.specs.Stored.{stored}
use Rattle.mpc_linear.proofs.Places.{read_there}
use Rattle.mpc_linear.proofs.Steps.{taking_more, taken_nothing}
use Rattle.mpc_linear.proofs.elimination.take_pivot_row.Goals as goal

pub returns-then-is_zero-clause-ok : goal.returns-then-is_zero-clause-ok
returns-then-is_zero-clause-ok c =
    let t = stored c.args.width c.args.table.now in
    let factor : c.index-table-row.result ≡ t c.args.row c.args.column = read_there c.args.rows c.args.width c.args.table.now c.requires.size c.args.row c.args.column c.index-table-row.result c.requires.other c.requires.column c.index-table-row.result c.index-table-row.is in
    taken_nothing c.args.rows c.args.width c.args.column c.args.row t (sym factor ∙ c.if-is_zero.ensures.value.0 refl)

pub loop-later-preserved : goal.loop-later-preserved
loop-later-preserved c =
    let t = stored c.args.width c.args.table.now in
    let size = c.loop-later.auto.table ∙ c.requires.size in
    let factor : c.index-table-row.result ≡ t c.args.row c.args.column = read_there c.args.rows c.args.width c.args.table.now c.requires.size c.args.row c.args.column c.index-table-row.result c.requires.other c.requires.column c.index-table-row.result c.index-table-row.is in
    let entry : c.index-table-place.result ≡ t c.args.row c.loop-later.later =
    read_there c.args.rows c.args.width c.loop-later.table size c.args.row c.loop-later.later c.index-table-row.result c.requires.other c.loop-later-test.true c.index-table-place.result c.index-table-place.is
    ∙ c.loop-later.invariant.rest c.loop-later.later (le_refl c.loop-later.later) c.loop-later-test.true
    in
    let taken : c.index-table-column.result ≡ t c.args.column c.loop-later.later =
    read_there c.args.rows c.args.width c.loop-later.table size c.args.column c.loop-later.later c.index-table-row.result c.requires.row c.loop-later-test.true c.index-table-column.result c.index-table-column.is
    ∙ c.loop-later.invariant.others c.args.column c.loop-later.later c.requires.row (λ e. c.requires.apart (sym e)) c.loop-later-test.true
    in
    taking_more c.args.rows c.args.width c.args.column c.args.row c.loop-later.later t c.loop-later.table size c.requires.other c.loop-later-test.true (let l = c.loop-later.auto.later in omega arith) c.loop-later.invariant c.in-Ok.rest
    (c.in-Ok.ensures.value ∙ (λ i. entry i -ℚ factor i *ℚ taken i))
    (subst (λ z. TakenFits (t c.args.row c.loop-later.later) z (t c.args.column c.loop-later.later)) factor (subst₂ (λ x y. TakenFits x c.index-table-row.result y) entry taken c.in-Ok.ensures.wide))

pub returns-in-Err-clause-wide : goal.returns-in-Err-clause-wide
returns-in-Err-clause-wide c =
    let t = stored c.args.width c.args.table.now in
    let size = c.loop-later.auto.table ∙ c.requires.size in
    let factor : c.index-table-row.result ≡ t c.args.row c.args.column = read_there c.args.rows c.args.width c.args.table.now c.requires.size c.args.row c.args.column c.index-table-row.result c.requires.other c.requires.column c.index-table-row.result c.index-table-row.is in
    let entry : c.index-table-place.result ≡ t c.args.row c.loop-later.later =
    read_there c.args.rows c.args.width c.loop-later.table size c.args.row c.loop-later.later c.index-table-row.result c.requires.other c.loop-later-test.true c.index-table-place.result c.index-table-place.is
    ∙ c.loop-later.invariant.rest c.loop-later.later (le_refl c.loop-later.later) c.loop-later-test.true
    in
    let taken : c.index-table-column.result ≡ t c.args.column c.loop-later.later =
    read_there c.args.rows c.args.width c.loop-later.table size c.args.column c.loop-later.later c.index-table-row.result c.requires.row c.loop-later-test.true c.index-table-column.result c.index-table-column.is
    ∙ c.loop-later.invariant.others c.args.column c.loop-later.later c.requires.row (λ e. c.requires.apart (sym e)) c.loop-later-test.true
    in
    let above : c.args.column < c.loop-later.later = let l = c.loop-later.auto.later in omega arith in
    λ f. c.in-Err.ensures.wide
    (subst₂ (λ x y. TakenFits x c.index-table-row.result y) (sym entry) (sym taken)
    (subst (λ z. TakenFits (t c.args.row c.loop-later.later) z (t c.args.column c.loop-later.later)) (sym factor)
    (f (λ z. absurd (false≢true (c.if-is_zero.ensures.value.1 (factor ∙ z)))) c.loop-later.later above c.loop-later-test.true)))
