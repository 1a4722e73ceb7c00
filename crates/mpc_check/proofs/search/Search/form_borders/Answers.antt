use Rattle.std.proofs.Common.{◌≤◌, length, sym, subst, arith}
use Rattle.mpc_check.proofs.BorderLemmas.{of_whole}
use Rattle.mpc_check.proofs.search.Search.form_borders.Goals as goal

pub form_stretch-requires-clause-named : goal.form_stretch-requires-clause-named
form_stretch-requires-clause-named g c =
    let many = c.in_ok-named.named.ok in
    omega (arith, many, c.as_slice.ensures.len, c.in_ok-named.ensures, c.len.ensures)

pub form_stretch-requires-clause-stretch : goal.form_stretch-requires-clause-stretch
form_stretch-requires-clause-stretch g c = record { in_order = omega arith; inside = subst (λ n. n ≤ length c.args.laws.now) (sym c.len-2.ensures) (omega arith) }

pub returns : goal.returns
returns g c = of_whole c.args.qp.now c.args.laws.now c.len-2.result c.form_stretch.result c.form_stretch.ensures
