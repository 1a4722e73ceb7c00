use Rattle.std.proofs.Common.{◌∙◌, ◌-◌, arith, ap, unsigned_abs, pos, get_or, FitsSigned, rules}
use Rattle.std.specs.Int.{w64}
use Rattle.std.proofs.lemmas.Int.{to_z-of_z}
use Rattle.mpc_scaled.specs.Scaled.{whole_at}
use Rattle.mpc_whole.proofs.judge.side_of.Goals as goal

pub returns-then-variable-width : goal.returns-then-variable-width
returns-then-variable-width c = λ side. absurd (let a = c.if-variable-width.true in let e = c.unknowns-width.ensures in omega arith)

pub returns : goal.returns
returns c = λ side.
    let f : FitsSigned w64 (get_or c.args.frame.now.b.now (c.args.variable - c.unknowns-width.result) (pos 0)) = search rules in
    c.unsigned_abs.ensures.value ∙ ap unsigned_abs (to_z-of_z w64 _ f) ∙ ap (λ w. unsigned_abs (whole_at c.args.frame.now.b.now (c.args.variable - w))) c.unknowns-width.ensures
