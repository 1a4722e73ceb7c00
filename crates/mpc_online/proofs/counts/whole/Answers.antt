use Rattle.std.proofs.Common.{◌≡◌, ◌≢◌, ◌^◌, ◌<◌, ℤ, pos, unsigned_abs, to_z, sym, ◌∙◌, ap, subst, arith, lit<}
use Rattle.std.specs.Int.{w128}
use Rattle.std.proofs.lemmas.Result.{IfOk-at_ok}
use Rattle.mpc_exact.specs.Rational.{ℚ, quotient}
use Rattle.mpc_space.proofs.Words.{read_natural}
use Rattle.mpc_online.proofs.Quotients.{over_one, made}
use Rattle.mpc_online.proofs.counts.whole.Goals as goal

pub unwrap-requires : goal.unwrap-requires
unwrap-requires c =
    let some : pos 1 ≢ pos 0 = λ e. cc in
    let h : c.args.count < 2 ^ 127 = omega (arith, c.ranges.count.fits) in
    made c.new.result (to_z w128 c.args.count) (pos 1) c.new.ensures.zero c.new.ensures.wide some
    (c.fit_theorems.ensures.quotient (to_z w128 c.args.count) (pos 1) some (subst (λ (n : ℤ). unsigned_abs n < 2 ^ 127) (sym (read_natural c.args.count h)) h) (lit< tt))

pub returns : goal.returns
returns c =
    let h : c.args.count < 2 ^ 127 = omega (arith, c.ranges.count.fits) in
    IfOk-at_ok (λ (v : ℚ). v ≡ quotient (to_z w128 c.args.count) (pos 1)) c.unwrap.ensures c.new.ensures.value
    ∙ ap (λ (n : ℤ). quotient n (pos 1)) (read_natural c.args.count h) ∙ over_one (pos c.args.count)
