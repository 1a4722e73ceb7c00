use Rattle.std.proofs.Common.{get_or, pos, unsigned_abs, subst, arith, ◌∙◌, ap}
use Rattle.std.specs.Int.{◌∣◌}
use Rattle.std.proofs.lemmas.Nat.Gcd.{dvd_trans, dvd_refl}
use Rattle.mpc_space.proofs.Outcomes.{below_next}
use Rattle.mpc_online.proofs.WholeDots.{read_wide}
use Rattle.mpc_online.proofs.WholeMoves.{number_small}
use Rattle.mpc_online.proofs.whole_moves.common_divisor.Goals as goal

pub loop-index-init : goal.loop-index-init
loop-index-init c = record { of_den = dvd_refl c.args.numbers.now.den; of_numerators = λ j h. absurd (omega arith); positive = c.args.numbers.now.at_most.some }

pub loop-index-preserved : goal.loop-index-preserved
loop-index-preserved c = record {
  of_den = dvd_trans c.shared_divisor-shared.result c.shared_divisor-shared.ensures.of_a c.loop-index.invariant.of_den;
  of_numerators = below_next (λ j. c.shared_divisor-shared.result ∣ unsigned_abs (get_or c.args.numbers.now.numerators j (pos 0))) c.loop-index.index
      (λ j h. dvd_trans c.shared_divisor-shared.result c.shared_divisor-shared.ensures.of_a (c.loop-index.invariant.of_numerators j h))
      (subst (λ n. c.shared_divisor-shared.result ∣ n) (c.unsigned_abs.ensures.value ∙ ap unsigned_abs (read_wide (get_or c.args.numbers.now.numerators c.loop-index.index (pos 0)) (number_small c.args.numbers.now c.loop-index.index))) c.shared_divisor-shared.ensures.of_b);
  positive = c.shared_divisor-shared.ensures.positive;
}
