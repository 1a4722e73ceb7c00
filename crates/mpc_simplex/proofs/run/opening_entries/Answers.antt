use Rattle.std.proofs.Common.{◌≡◌, ◌*◌, ◌<◌, ℕ, ◌∙◌, List, sym, ap, subst, length, get_or, pos, arith}
use Rattle.mpc_exact.specs.Rational.{ℚ, int}
use Rattle.mpc_rows.specs.declared.systems.Row.{Row}
use Rattle.mpc_rows.specs.LinearSystem.{height, entry}
use Rattle.mpc_simplex.proofs.Cells.{rows_long, rows_at}
use Rattle.mpc_simplex.proofs.run.opening_entries.Goals as goal
use Rattle.mpc_simplex.proofs.run.opening_entries.Goals.{After-as_slice}

part_is : (c : After-as_slice) → (j : ℕ) → j < c.args.system.now.width → get_or c.as_slice.result.now j (int (pos 0)) ≡ entry c.args.system.now c.loop-i.i j
unfolding entry
part_is c j h = ap (λ (xs : List ℚ). get_or xs j (int (pos 0))) (c.as_slice.ensures ∙ ap (λ (r : Row). r.a) c.row.ensures.value)

part_long : (c : After-as_slice) → length c.as_slice.result.now ≡ c.args.system.now.width
part_long c = ap (λ (xs : List ℚ). length xs) c.as_slice.ensures ∙ c.row.ensures.width

pub loop-i-preserved : goal.loop-i-preserved
loop-i-preserved c =
    let d = (goal.at.loop-i-preserved c).After-as_slice in
    record {
      size = rows_long c.args.system.now.width c.loop-i.i c.loop-i.entries.items c.as_slice.result.now c.extend_from_slice.new.self.items (entry c.args.system.now) c.in_ok-extend_from_slice.ensures.items c.loop-i.invariant.size (part_long d) c.loop-i.invariant.at (part_is d);
      at = rows_at c.args.system.now.width c.loop-i.i c.loop-i.entries.items c.as_slice.result.now c.extend_from_slice.new.self.items (entry c.args.system.now) c.in_ok-extend_from_slice.ensures.items c.loop-i.invariant.size (part_long d) c.loop-i.invariant.at (part_is d);
    }

pub returns : goal.returns
returns c =
    let e : c.loop-i.i ≡ height c.args.system.now = (let a = c.loop-i.auto in let k = c.loop-i-test.false in let h = c.height-i-end.ensures in omega arith) in
    record {
      size = subst (λ n. length c.loop-i.entries.items ≡ n * c.args.system.now.width) e c.loop-i.invariant.size;
      at = λ i j h b. c.loop-i.invariant.at i j (subst (λ n. i < n) (sym e) h) b;
    }
