use Rattle.std.proofs.Common.{◌≡◌, ◌∙◌, ◌≤ℤ◌, ◌<ℤ◌, sym, ap, subst, pos, nat_lt, to_z, of_z}
use Rattle.std.specs.Int.{w64}
use Rattle.mpc_scaled.specs.Scaled.{whole_at}
use Rattle.mpc_whole.proofs.Nonbasic.{below_nought}
use Rattle.mpc_runs.proofs.WholeWidths.{read_small}
use Rattle.mpc_whole.proofs.WholeTurns.{side_enters, none_enters, as_unknown, lt_so, not_lt_so}
use Rattle.mpc_whole.proofs.whole_turn.enters.Goals as goal

pub returns-then-row-column-gt0 : goal.returns-then-row-column-gt0
returns-then-row-column-gt0 c = λ n seats p k l d some below e h r.
    let above : pos 0 <ℤ whole_at c.args.row.now c.args.column = subst (λ z. pos 0 <ℤ z) (read_small _ (c.requires.row_small.each c.args.column)) (lt_so _ _ c.if-row-column-gt0.true) in
    side_enters c.args.system.now n seats k p d l c.args.row.now some h r c.args.variable below c.args.column e above

pub returns-then-row-column-eq0 : goal.returns-then-row-column-eq0
returns-then-row-column-eq0 c = λ n seats p k l d some below e h r.
    let nought : whole_at c.args.row.now c.args.column ≡ pos 0 = sym (read_small _ (c.requires.row_small.each c.args.column)) ∙ ap (to_z w64) c.if-row-column-eq0.true in
    none_enters c.args.system.now n seats k p d l c.args.row.now some h r c.args.variable below c.args.column e nought

pub returns : goal.returns
returns c = λ n seats p k l d some below e h r.
    let most : whole_at c.args.row.now c.args.column ≤ℤ pos 0 = subst (λ z. z ≤ℤ pos 0) (read_small _ (c.requires.row_small.each c.args.column)) (not_lt_so _ _ c.if-row-column-gt0.false) in
    let less : whole_at c.args.row.now c.args.column <ℤ pos 0 = below_nought _ most (λ q. c.if-row-column-eq0.false (ap (of_z w64) q)) in
    as_unknown c.args.system.now n seats k p d l c.args.row.now some h r c.args.variable below c.args.column e less _ (ap (nat_lt c.args.variable) c.unknowns.ensures)
