use Rattle.std.proofs.Common.{◌≡◌, ◌<ℤ◌, pos, arith, refl, lit≤, sym, ◌∙◌, ap, to_z, of_z}
use Rattle.std.specs.Int.{w128}
use Rattle.std.proofs.lemmas.Int.{ints}
use Rattle.mpc_frac.proofs.FracModel.{fits_is, numer_is, read_back, negative_from, positive_from}
use Rattle.mpc_frac.proofs.FracParts.{below_zero, above_zero, at_zero}
use Rattle.mpc_frac.proofs.Frac.sign.Goals as goal

pub returns-then-self-lt0 : goal.returns-then-self-lt0
returns-then-self-lt0 c =
    let x = c.args.self.now in
    let n : x.numer <ℤ pos 0 = negative_from _ x.numer (numer_is c.self.inside x c.self.invariant c.self.view_is) c.if-self-lt0.true in
    record {
      unit = lit≤ tt;
      negative = (λ _. (below_zero x).0 n, λ _. omega (arith, ints));
      zero = (λ e. absurd (omega (arith, ints)), λ e. let k = (at_zero x).1 e in absurd (omega (arith, ints)));
      positive = (λ h. absurd (omega (arith, ints)), λ h. let k = (above_zero x).1 h in absurd (omega (arith, ints)));
      fits = fits_is c.self.inside x c.self.invariant c.self.view_is;
    }

pub returns-then-self-eq0 : goal.returns-then-self-eq0
returns-then-self-eq0 c =
    let x = c.args.self.now in
    let n : x.numer ≡ pos 0 = sym (numer_is c.self.inside x c.self.invariant c.self.view_is) ∙ ap (to_z w128) c.if-self-eq0.true in
    record {
      unit = lit≤ tt;
      negative = (λ h. absurd (omega (arith, ints)), λ h. let k = (below_zero x).1 h in absurd (omega (arith, ints)));
      zero = (λ _. (at_zero x).0 n, λ _. refl);
      positive = (λ h. absurd (omega (arith, ints)), λ h. let k = (above_zero x).1 h in absurd (omega (arith, ints)));
      fits = fits_is c.self.inside x c.self.invariant c.self.view_is;
    }

pub returns-else-self-eq0 : goal.returns-else-self-eq0
returns-else-self-eq0 c =
    let x = c.args.self.now in
    let n : pos 0 <ℤ x.numer = positive_from _ x.numer (numer_is c.self.inside x c.self.invariant c.self.view_is) c.if-self-lt0.false (λ e. c.if-self-eq0.false (ap (of_z w128) (sym (read_back c.self.inside.num c.self.invariant.numer_fits) ∙ e))) in
    record {
      unit = lit≤ tt;
      negative = (λ h. absurd (omega (arith, ints)), λ h. let k = (below_zero x).1 h in absurd (omega (arith, ints)));
      zero = (λ e. absurd (omega (arith, ints)), λ e. let k = (at_zero x).1 e in absurd (omega (arith, ints)));
      positive = (λ _. (above_zero x).0 n, λ _. omega (arith, ints));
      fits = fits_is c.self.inside x c.self.invariant c.self.view_is;
    }
