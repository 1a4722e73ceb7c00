use Rattle.std.proofs.Common.{◌≡◌, ◌∙◌, ◌-◌, ◌*◌, ◌<◌, arith, mul-pos, pos, length, set, sym, ap, subst}
use Rattle.std.proofs.lemmas.List.{length-replicate}
use Rattle.mpc_exact.specs.Rational.{ℚ, int}
use Rattle.mpc_rows.specs.LinearSystem.{height}
use Rattle.mpc_runs.specs.RunEnd.{IsMultipliers}
use Rattle.mpc_scaled.specs.Scaled.{scale_at}
use Rattle.mpc_whole.specs.Running.{HasColumnMultipliers}
use Rattle.mpc_whole.proofs.ColumnMultipliers.{multipliers_are}
use Rattle.mpc_whole.proofs.whole_ends.multipliers.Goals as goal

pub returns : goal.returns
returns c =
    let s = c.args.system.now in
    let k = c.args.scales.now in
    let b = c.args.nonbasic.now in
    let x = c.args.row.now in
    let l = c.args.leaving in
    let m = c.column_multipliers.new.list in
    let row = c.requires.row in
    let size : length m ≡ height s = (let q : length m ≡ length c.args.list.now = c.column_multipliers.auto.list in q) ∙ ap length c.requires.zeros ∙ length-replicate (height s) (int (pos 0)) in
    let all : HasColumnMultipliers s.width k b x (c.args.den * scale_at k l) s.width m = subst (λ d. HasColumnMultipliers s.width k b x d s.width m) c.in_ok-over.ensures.1 c.in_ok-column_multipliers.ensures in
    λ seats p seated columns basis r.
    subst (λ u. IsMultipliers s p l (set m (l - u) c.whole.result)) (sym c.unknowns.ensures)
    (subst (λ (q : ℚ). IsMultipliers s p l (set m (l - s.width) q)) (sym c.whole.ensures)
    (multipliers_are s k b x c.args.den l m row.some row.side row.leaves size all seats p seated columns basis r))

pub column_multipliers-requires-clause-zeros : goal.column_multipliers-requires-clause-zeros
column_multipliers-requires-clause-zeros c = c.requires.zeros

pub column_multipliers-requires-clause-columns : goal.column_multipliers-requires-clause-columns
column_multipliers-requires-clause-columns c = c.requires.row.columns

pub column_multipliers-requires-clause-below : goal.column_multipliers-requires-clause-below
column_multipliers-requires-clause-below c = c.requires.row.below

pub column_multipliers-requires-clause-scales : goal.column_multipliers-requires-clause-scales
column_multipliers-requires-clause-scales c = c.requires.row.scales

pub column_multipliers-requires-clause-row_size : goal.column_multipliers-requires-clause-row_size
column_multipliers-requires-clause-row_size c = c.requires.row.row_size

pub column_multipliers-requires-clause-some : goal.column_multipliers-requires-clause-some
column_multipliers-requires-clause-some c = subst (λ m. 0 < m) (sym c.in_ok-over.ensures.1) (mul-pos c.requires.row.some (c.requires.row.scales.some c.args.leaving c.requires.row.leaves))

pub bounds-scales-leaving : goal.bounds-scales-leaving
bounds-scales-leaving c = let h = c.requires.row.leaves in let l = c.requires.row.scales.size in omega arith

pub offset_bounds-scales-leaving : goal.offset_bounds-scales-leaving
offset_bounds-scales-leaving c = let h = c.requires.row.leaves in let l = c.requires.row.scales.size in omega arith
