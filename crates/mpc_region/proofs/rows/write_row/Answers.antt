use Rattle.std.proofs.Common.{◌≡◌, ◌+◌, unsigned_abs, to_z, of_z, arith, ap, ◌∙◌, sym, subst, length, pos, ◌*ℤ◌}
use Rattle.std.specs.Int.{◌∣◌, w64}
use Rattle.mpc_sweep.specs.Numbers.{number}
use Rattle.mpc_region.specs.SweptRows.{number_from, IsSharedBy, DividesEach}
use Rattle.mpc_region.proofs.SweptDivisors.{read_number, read_short}
use Rattle.mpc_region.proofs.SweptRows.{by_positive, by_same, by_divides}
use Rattle.mpc_region.proofs.rows.write_row.Goals as goal
use Rattle.mpc_region.proofs.rows.write_row.Goals.{After-max-by, After-at}

shared : (c : After-max-by) → IsSharedBy (number_from c.args.table.now c.args.row c.args.first) (length c.args.sides.now + 1) c.row_divisor-shared.result
shared c = c.row_divisor-shared.ensures.shared

divides : (c : After-max-by) → DividesEach c.max-by.result (number_from c.args.table.now c.args.row c.args.first) (length c.args.sides.now + 1)
divides c = by_divides (number_from c.args.table.now c.args.row c.args.first) (length c.args.sides.now + 1) c.row_divisor-shared.result c.max-by.result (shared c) c.max-by.ensures

read : (c : After-at) → to_z w64 (of_z w64 c.at.result) ≡ number_from c.args.table.now c.args.row c.args.first 0
read c = read_number c.at.result (number_from c.args.table.now c.args.row c.args.first 0) (c.at.ensures ∙ ap (number c.args.table.now c.args.row) (omega arith))
    (c.requires.table.small.each _)

pub write_sides-requires-clause-divides : goal.write_sides-requires-clause-divides
write_sides-requires-clause-divides c = divides (goal.at.write_sides-requires-clause-divides c).After-max-by

pub quotient-requires-clause-divides : goal.quotient-requires-clause-divides
quotient-requires-clause-divides c =
    let at = goal.at.quotient-requires-clause-divides c in
    subst (λ z. c.max-by.result ∣ unsigned_abs z) (sym (read at.After-at)) ((divides at.After-max-by).each 0 (omega arith))

pub returns : goal.returns
returns c =
    let at = goal.at.returns c in
    let f = number_from c.args.table.now c.args.row c.args.first in
    record {
      by = c.max-by.result;
      shared = c.row_divisor-shared.result;
      positive = by_positive f (length c.args.sides.now + 1) c.row_divisor-shared.result c.max-by.result (shared at.After-max-by) c.max-by.ensures;
      is_shared = subst (λ n. IsSharedBy f n c.row_divisor-shared.result) (omega arith) (shared at.After-max-by);
      same = by_same f (length c.args.sides.now + 1) c.row_divisor-shared.result c.max-by.result (shared at.After-max-by) c.max-by.ensures;
      size = c.write_sides.ensures.size;
      sides = c.write_sides.ensures.sides;
      bound = ap (λ q. q *ℤ pos c.max-by.result) (read_short c.quotient.result c.quotient.ensures.small) ∙ c.quotient.ensures.value ∙ read at.After-at;
    }
