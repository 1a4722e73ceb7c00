use Rattle.std.proofs.Common.{◌≡◌, ◌+◌, ◌-◌, ◌^◌, ◌<◌, ◌≤◌, ◌≢◌, length, get_or, pos, unsigned_abs, sym, ◌∙◌, ap, subst, arith, below_more, set, get_or-set_same, get_or-set_other, length-set, to_z, of_z}
use Rattle.std.specs.Int.{w128}
use Rattle.std.proofs.lemmas.List.Elements.{All-set}
use Rattle.mpc_exact.specs.Rational.{frac}
use Rattle.mpc_space.specs.Vector.{cell}
use Rattle.mpc_space.specs.Matrix.{height}
use Rattle.mpc_wholes.specs.declared.numbers.Wholes.{Wholes}
use Rattle.mpc_rows.specs.ActiveSets.{rows_of}
use Rattle.mpc_check.proofs.WholeSums.{read_sum}
use Rattle.mpc_check.proofs.WholeLaws.{number_small, member_number, member_most}
use Rattle.mpc_check.proofs.whole_laws.member_column.Goals as goal

pub loop-place-preserved : goal.loop-place-preserved
loop-place-preserved c =
    let qp = c.args.qp.now in
    let law = c.args.law.now in
    let program = c.args.program.now in
    let k = c.loop-place.place in
    let numerators = c.loop-place.numerators in
    let row = c.index.result.now in
    let v = to_z w128 (of_z w128 (get_or row.numerators c.args.line (pos 0))) in
    let within : k < length law.set = subst (λ n. k < n) c.size-place-end.ensures.value c.loop-place-test.true in
    let here : k + 1 - 1 ≡ k = omega arith in
    let member : c.member-row.result ≡ get_or law.set k 0 = c.member-row.ensures.value ∙ ap (λ j. get_or law.set j 0) here in
    let bounds = c.law_theorems.ensures.member_bounds (height qp.g) law.set k c.requires.shape.set_of_rows.rises within in
    let low : 1 ≤ c.member-row.result = subst (λ n. 1 ≤ n) (sym member) bounds.0 in
    let high : c.member-row.result ≤ height qp.g = subst (λ n. n ≤ height qp.g) (sym member) bounds.1 in
    let size : unsigned_abs (get_or row.numerators c.args.line (pos 0)) ≤ 2 ^ 61 = number_small row c.args.line (subst (λ (z : Wholes). z.most ≤ 2 ^ 61) (sym c.index.ensures) (member_most qp program c.requires.program law c.args.line k c.member-row.result c.requires.line within member low high row)) in
    let read : v ≡ get_or row.numerators c.args.line (pos 0) = read_sum (get_or row.numerators c.args.line (pos 0)) (let l = size in omega (arith, l)) in
    let room : k < length numerators = omega (arith, c.loop-place.invariant.size, within, c.requires.shape.few, qp.is_program.few_unknowns) in
    let value : cell (rows_of qp.g.rows law.set) k c.args.line ≡ frac v program.den =
    member_number qp program c.requires.program law c.args.line k c.member-row.result c.requires.line within member low high row ∙ ap (λ (z : _). frac (get_or z.numerators c.args.line (pos 0)) program.den) (sym c.index.ensures) ∙ ap (λ z. frac z program.den) (sym read) in
    record {
      size = length-set numerators k v ∙ c.loop-place.invariant.size;
      entries = below_more (λ j. cell (rows_of qp.g.rows law.set) j c.args.line ≡ frac (get_or (set numerators k v) j (pos 0)) program.den) k
          (λ j l. let other : j ≢ k = omega arith in c.loop-place.invariant.entries j l ∙ ap (λ z. frac z program.den) (sym (get_or-set_other numerators k j v (pos 0) other)))
          (value ∙ ap (λ z. frac z program.den) (sym (get_or-set_same numerators k v (pos 0) room)));
      small = All-set (λ z. unsigned_abs z ≤ 2 ^ 61) numerators k v (subst (λ z. unsigned_abs z ≤ 2 ^ 61) (sym read) size) c.loop-place.invariant.small;
    }
