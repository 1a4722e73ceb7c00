use Rattle.std.proofs.Common.{◌*◌, ◌-ℤ◌, ◌*ℤ◌, sym, ◌∙◌, ap, subst}
use Rattle.std.specs.Int.{w128}
use Rattle.std.proofs.lemmas.Int.{to_z-of_z, to_z_pos}
use Rattle.std.proofs.lemmas.Option.{IfSome_then}
use Rattle.mpc_exact.specs.Rational.{frac, neg_ℚ, ◌-ℚ◌}
use Rattle.mpc_frac.specs.Fits.{FitsSum}
use Rattle.mpc_online.proofs.WholeDots.{read_mag}
use Rattle.mpc_online.proofs.EvenRows.{side_fits, excess_is}
use Rattle.mpc_online.proofs.WholeMoves.{den_of_small}
use Rattle.mpc_online.proofs.evens.excess_over_side.Goals as goal

pub returns-clause-value : goal.returns-clause-value
returns-clause-value c =
    let x = c.args.row.now in
    let y = c.args.numbers.now in
    let level = read_mag c.dot_of_numerators-level.result c.dot_of_numerators-level.type_inv in
    let right =
    read_mag c.product.result c.product.type_inv ∙ c.product.ensures
    ∙ (λ i. to_z-of_z w128 c.args.numerator c.ranges.numerator i *ℤ to_z_pos w128 y.den (den_of_small y) i)
    in
    let above = read_mag c.difference-above.result c.difference-above.type_inv ∙ c.difference-above.ensures ∙ (λ i. level i -ℤ right i) in
    IfSome_then c.fraction_over.result c.fraction_over.ensures
    (λ v e xs ys ox oy h l. e ∙ ap (λ z. frac z (x.den * y.den)) above
    ∙ excess_is x y c.args.numerator c.requires.row c.requires.numbers c.requires.numerator c.dot_of_numerators-level.result c.over_theorems.ensures
    ∙ ap (λ q. q -ℚ frac c.args.numerator x.den) (sym (c.dot_of_numerators-level.ensures.value xs ys ox oy h l)))

pub returns-clause-fits : goal.returns-clause-fits
returns-clause-fits c =
    IfSome_then c.fraction_over.result c.fraction_over.ensures
    (λ v e xs ys ox oy h l. (
      c.dot_of_numerators-level.ensures.fits xs ys ox oy h l,
      subst (λ q. FitsSum q (neg_ℚ (frac c.args.numerator c.args.row.now.den))) (sym (c.dot_of_numerators-level.ensures.value xs ys ox oy h l))
          (side_fits c.args.row.now c.args.numbers.now c.args.numerator c.requires.row c.requires.numbers c.requires.numerator c.dot_of_numerators-level.result c.dot_of_numerators-level.ensures.size c.over_theorems.ensures),
    ))
