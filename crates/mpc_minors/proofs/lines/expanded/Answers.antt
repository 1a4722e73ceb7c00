use Rattle.std.proofs.Common.{◌≡◌, ◌≤◌, ◌^◌, ℤ, ◌+ℤ◌, ◌*ℤ◌, unsigned_abs, FitsSigned, ◌∙◌, sym, subst, arith, le_trans, refl}
use Rattle.std.specs.Int.{w64}
use Rattle.std.proofs.lemmas.Int.{fits_signed_from_abs, fits_signed_mul}
use Rattle.mpc_runs.proofs.WholeSums.{product_at_most, abs-sum}
use Rattle.mpc_runs.proofs.WholeWidths.{read_small, read_bound}
use Rattle.mpc_minors.proofs.LineNumbers.{read, product_read, expanded-size}
use Rattle.mpc_minors.proofs.lines.expanded.Goals as goal

product_is : (a x : ℤ) → unsigned_abs a ≤ 2 ^ 19 → unsigned_abs x ≤ 2 ^ 39 → read (read a *ℤ read x) ≡ a *ℤ x
product_is a x h k = product_read (2 ^ 19) (2 ^ 39) a x h k (omega arith) (omega arith) (omega arith)

two_size : (a b x y : ℤ) → unsigned_abs a ≤ 2 ^ 19 → unsigned_abs b ≤ 2 ^ 19 → unsigned_abs x ≤ 2 ^ 39 → unsigned_abs y ≤ 2 ^ 39 → unsigned_abs (a *ℤ x +ℤ b *ℤ y) ≤ 2 ^ 59
two_size a b x y ha hb hx hy =
    let p = product_at_most a x (2 ^ 19) (2 ^ 39) ha hx in
    let q = product_at_most b y (2 ^ 19) (2 ^ 39) hb hy in
    le_trans (abs-sum (a *ℤ x) (b *ℤ y)) (omega arith)

two_is : (a b x y : ℤ) → unsigned_abs a ≤ 2 ^ 19 → unsigned_abs b ≤ 2 ^ 19 → unsigned_abs x ≤ 2 ^ 39 → unsigned_abs y ≤ 2 ^ 39
    → read (read (read a *ℤ read x) +ℤ read (read b *ℤ read y)) ≡ a *ℤ x +ℤ b *ℤ y
two_is a b x y ha hb hx hy = (λ i. read (product_is a x ha hx i +ℤ product_is b y hb hy i)) ∙ read_small (a *ℤ x +ℤ b *ℤ y) (le_trans (two_size a b x y ha hb hx hy) (omega arith))

pub overflow_add-result : goal.overflow_add-result
overflow_add-result c =
    let r = c.requires in
    let size = two_size c.args.a c.args.b c.args.x c.args.y r.a_small r.b_small r.x_small r.y_small in
    subst (λ z. FitsSigned w64 z) (sym (λ i. product_is c.args.a c.args.x r.a_small r.x_small i +ℤ product_is c.args.b c.args.y r.b_small r.y_small i))
    (fits_signed_from_abs w64 (c.args.a *ℤ c.args.x +ℤ c.args.b *ℤ c.args.y) (omega arith))

pub overflow_mul-result-3 : goal.overflow_mul-result-3
overflow_mul-result-3 c =
    fits_signed_mul w64 (read c.args.c) (read c.args.z) (2 ^ 19) (2 ^ 39) (read_bound c.args.c (2 ^ 19) c.requires.c_small (omega arith)) (read_bound c.args.z (2 ^ 39) c.requires.z_small (omega arith)) (omega arith)

pub overflow_add-result-2 : goal.overflow_add-result-2
overflow_add-result-2 c =
    let r = c.requires in
    let size = expanded-size (2 ^ 19) (2 ^ 39) c.args.a c.args.b c.args.c c.args.x c.args.y c.args.z _ r.a_small r.b_small r.c_small r.x_small r.y_small r.z_small refl in
    subst (λ z. FitsSigned w64 z) (sym (λ i. two_is c.args.a c.args.b c.args.x c.args.y r.a_small r.b_small r.x_small r.y_small i +ℤ product_is c.args.c c.args.z r.c_small r.z_small i))
    (fits_signed_from_abs w64 (c.args.a *ℤ c.args.x +ℤ c.args.b *ℤ c.args.y +ℤ c.args.c *ℤ c.args.z) (omega arith))

pub returns : goal.returns
returns c =
    let r = c.requires in
    let sum = c.args.a *ℤ c.args.x +ℤ c.args.b *ℤ c.args.y +ℤ c.args.c *ℤ c.args.z in
    let size = expanded-size (2 ^ 19) (2 ^ 39) c.args.a c.args.b c.args.c c.args.x c.args.y c.args.z sum r.a_small r.b_small r.c_small r.x_small r.y_small r.z_small refl in
    (λ i. read (two_is c.args.a c.args.b c.args.x c.args.y r.a_small r.b_small r.x_small r.y_small i +ℤ product_is c.args.c c.args.z r.c_small r.z_small i)) ∙ read_small sum (le_trans size (omega arith))
