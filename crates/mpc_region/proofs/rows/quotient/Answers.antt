use Rattle.std.proofs.Common.{◌≡◌, ◌≤◌, ◌/◌, ◌^◌, ◌∙◌, ap, pos, ◌*ℤ◌, unsigned_abs, to_z, of_z, subst, sym, le_trans}
use Rattle.std.proofs.Math.Nat.{div-le_self}
use Rattle.std.specs.Int.{w64}
use Rattle.mpc_exact.proofs.Rational.{int_div_exact}
use Rattle.mpc_runs.specs.WholeNumbers.{turned}
use Rattle.mpc_region.proofs.SweptDivisors.{read_short, turned_quotient}
use Rattle.mpc_region.proofs.rows.quotient.Goals as goal

pub returns-clause-value : goal.returns-clause-value
returns-clause-value c =
    let z = c.args.dividend in
    let by = c.args.by in
    let q = c.unsigned_abs.result / by in
    let read : to_z w64 (of_z w64 z) ≡ z = read_short z c.requires.small in
    let size : c.unsigned_abs.result ≡ unsigned_abs z = c.unsigned_abs.ensures.value ∙ ap unsigned_abs read in
    let small : q ≤ 2 ^ 62 = le_trans (div-le_self c.unsigned_abs.result by) (subst (λ n. n ≤ 2 ^ 62) (sym size) c.requires.small) in
    let cast : to_z w64 (of_z w64 (pos q)) ≡ pos q = read_short (pos q) small in
    let turned_small : unsigned_abs c.turned.result ≤ 2 ^ 62 = le_trans c.turned.ensures.small (subst (λ u. unsigned_abs u ≤ 2 ^ 62) (sym cast) small) in
    ap (λ u. u *ℤ pos by)
    (read_short c.turned.result turned_small ∙ c.turned.ensures.value ∙ (λ i. turned (read i) (cast i)) ∙ ap (λ n. turned z (pos (n / by))) size ∙ turned_quotient z by)
    ∙ int_div_exact z by c.requires.divides
