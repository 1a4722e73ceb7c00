use Rattle.std.proofs.Common.{◌≡◌, ◌+◌, ◌-◌, get_or, sym, ◌∙◌, ap, arith}
use Rattle.mpc_exact.specs.Rational.{frac}
use Rattle.mpc_space.specs.Matrix.{height}
use Rattle.mpc_sweep.specs.Numbers.{number}
use Rattle.mpc_region.specs.Sweeps.{rights}
use Rattle.mpc_region.proofs.Members.{member}
use Rattle.mpc_region.proofs.rows.mult_entry.Goals as goal

pub returns : goal.returns
returns c =
    let t = c.args.table.now in
    let qp = c.args.qp.now in
    let s = c.args.set in
    let m = member (height qp.g) s c.requires.set_of_rows c.args.index c.requires.member in
    let a = m.0 in
    let b = m.1 in
    let place : c.args.index + 1 - 1 ≡ c.args.index = omega arith in
    let first : c.rows-unknowns.result + c.rows.result ≡ rights qp = omega (arith, c.rows-unknowns.ensures.value, c.rows.ensures.value) in
    let source : c.rows-unknowns.result + (c.member-member.result - 1) ≡ height qp.h + (get_or s c.args.index 0 - 1) = λ u. c.rows-unknowns.ensures.value u + ((c.member-member.ensures.value ∙ ap (λ i. get_or s i 0) place) u - 1) in
    c.table_entry.ensures
    ∙ (λ u. frac (number t (source u) (first u + c.args.column)) t.den)
    ∙ sym (c.requires.table.entries (height qp.h + (get_or s c.args.index 0 - 1)) (rights qp + c.args.column) (omega (arith, a, b)) (omega arith) (omega (arith, c.requires.column)))
