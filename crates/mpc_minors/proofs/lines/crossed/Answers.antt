use Rattle.std.proofs.Common.{◌^◌, ◌-ℤ◌, ◌*ℤ◌, ◌∙◌, arith, refl}
use Rattle.std.specs.Int.{w64}
use Rattle.std.proofs.lemmas.Int.{fits_signed_from_abs}
use Rattle.mpc_runs.proofs.WholeWidths.{read_small}
use Rattle.mpc_minors.proofs.LineNumbers.{product_read, crossed-size, read}
use Rattle.mpc_minors.proofs.lines.crossed.Goals as goal

pub overflow_sub-result : goal.overflow_sub-result
overflow_sub-result c =
    let p = product_read (2 ^ 30) (2 ^ 30) c.args.a c.args.d c.requires.a_small c.requires.d_small (omega arith) (omega arith) (omega arith) in
    let q = product_read (2 ^ 30) (2 ^ 30) c.args.b c.args.c c.requires.b_small c.requires.c_small (omega arith) (omega arith) (omega arith) in
    let s = crossed-size (2 ^ 30) c.args.a c.args.b c.args.c c.args.d _ c.requires.a_small c.requires.b_small c.requires.c_small c.requires.d_small (λ i. p i -ℤ q i) in
    fits_signed_from_abs w64 _ (omega arith)

pub returns : goal.returns
returns c =
    let p = product_read (2 ^ 30) (2 ^ 30) c.args.a c.args.d c.requires.a_small c.requires.d_small (omega arith) (omega arith) (omega arith) in
    let q = product_read (2 ^ 30) (2 ^ 30) c.args.b c.args.c c.requires.b_small c.requires.c_small (omega arith) (omega arith) (omega arith) in
    let s = crossed-size (2 ^ 30) c.args.a c.args.b c.args.c c.args.d (c.args.a *ℤ c.args.d -ℤ c.args.b *ℤ c.args.c) c.requires.a_small c.requires.b_small c.requires.c_small c.requires.d_small refl in
    (λ i. read (p i -ℤ q i)) ∙ read_small _ (omega arith)
