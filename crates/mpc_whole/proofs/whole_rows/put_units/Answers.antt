use Rattle.std.proofs.Common.{◌≡◌, ◌<◌, ◌+◌, ◌*◌, length, arith, pos, le_refl, ℕ, ℤ, List, subst, sym, unsigned_abs, ◌≤◌}
use Rattle.mpc_scaled.specs.Scaled.{whole_at, IsSmall}
use Rattle.mpc_whole.proofs.WholeExchange.{row_below}
use Rattle.mpc_runs.proofs.WholeLists.{set_small}
use Rattle.mpc_whole.proofs.WholeRows.{units_done, units_kept}
use Rattle.mpc_whole.proofs.whole_rows.put_units.Goals as goal

pub loop-index-preserved : goal.loop-index-preserved
loop-index-preserved c =
    let w = c.args.width in
    let i = c.loop-index.index in
    let b : i * w + i < length c.loop-index.numbers = (let l : length c.loop-index.numbers ≡ length c.args.numbers.now = c.loop-index.auto.numbers in let s = c.requires.square in let r = row_below w i w i c.loop-index-test.true c.loop-index-test.true in omega arith) in
    record {
      diagonal = λ j h. units_done w c.loop-index.numbers i c.loop-index-test.true b c.loop-index.invariant.diagonal j h (let k = c.loop-index-test.true in omega arith);
      others = units_kept w c.loop-index.numbers i c.loop-index-test.true b c.loop-index.invariant.others;
      small = set_small c.loop-index.numbers (i * w + i) (pos 1) b 1 c.loop-index.invariant.small (le_refl 1);
    }

zeros_small : (xs : List ℤ) → ((k : ℕ) → whole_at xs k ≡ pos 0) → IsSmall 1 xs
zeros_small xs h = record { each = λ k. subst (λ z. unsigned_abs z ≤ 1) (sym (h k)) (omega arith) }

pub loop-index-init : goal.loop-index-init
loop-index-init c = record { diagonal = λ j h. absurd (omega arith); others = λ j k h l m. c.requires.zeros (j * c.args.width + k); small = zeros_small c.args.numbers.now c.requires.zeros }
