use Rattle.std.proofs.Common.{rules, ◌≡◌, ◌<◌, ◌^◌, unsigned_abs, get_or, pos, length, subst}
use Rattle.std.specs.Prelude.{All, slice_range}
use Rattle.mpc_block.specs.Sums.{greatest}
use Rattle.mpc_block.specs.Block.{whole}
use Rattle.mpc_block.proofs.FormLemmas.{parts_are, others_small}
use Rattle.mpc_block.proofs.layouts.put_form.Goals as goal

pub short_line-requires-clause-small : goal.short_line-requires-clause-small
short_line-requires-clause-small c =
    let form = c.args.form.now in
    let k = c.numerators-coefficients.result in
    let size : length k ≡ 5 = search rules in
    others_small form (get_or k 0 (pos 0)) (slice_range k 1 (length form)) (parts_are form k size c.requires.some c.numerators-coefficients.ensures) (2 ^ 63) (subst (λ w. All (λ z. unsigned_abs z < greatest w) (whole form).k) c.in-Short.is c.requires.fits.numbers_small)
