use Rattle.std.proofs.Common.{◌<◌, ◌^◌, ◌*ℤ◌, pos, ◌∙◌, sym, ap, subst, unsigned_abs, to_z, of_z, arith}
use Rattle.std.specs.Int.{w128}
use Rattle.std.proofs.lemmas.Int.{fits_signed_from_abs}
use Rattle.mpc_frac.proofs.FracModel.{read_back}
use Rattle.mpc_frac.proofs.ShortParts.{times_small, times_read, small_along}
use Rattle.mpc_frac.proofs.short.times.Goals as goal
use Rattle.mpc_frac.proofs.short.times.Goals.{Start}

small : (c : Start) → unsigned_abs (c.args.number *ℤ pos c.args.den) < 2 ^ 126
small c = times_small c.args.number c.args.den c.ranges.number.sfits c.requires

fits : (c : Start) → unsigned_abs (c.args.number *ℤ pos c.args.den) < 2 ^ 127
fits c = let h = small c in omega arith

pub overflow_mul-result : goal.overflow_mul-result
overflow_mul-result c =
    fits_signed_from_abs w128 _ (subst (λ z. unsigned_abs z < 2 ^ 127) (sym (times_read c.args.number c.args.den c.ranges.number.sfits c.requires)) (fits ((goal.at.overflow_mul-result c).Start)))

pub returns-clause-value : goal.returns-clause-value
returns-clause-value c = ap (λ z. to_z w128 (of_z w128 z)) (times_read c.args.number c.args.den c.ranges.number.sfits c.requires) ∙ read_back _ (fits ((goal.at.returns-clause-value c).Start))

pub returns-clause-small : goal.returns-clause-small
returns-clause-small c =
    small_along (2 ^ 126) _ (c.args.number *ℤ pos c.args.den) (ap (λ z. to_z w128 (of_z w128 z)) (times_read c.args.number c.args.den c.ranges.number.sfits c.requires) ∙ read_back _ (fits ((goal.at.returns-clause-small c).Start))) (small ((goal.at.returns-clause-small c).Start))
