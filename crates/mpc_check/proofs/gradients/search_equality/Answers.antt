use Rattle.std.proofs.Common.{◌≡◌, ◌-◌, [], get_or, true, false, sym, ◌∙◌, ap, subst, refl}
use Rattle.mpc_exact.specs.Rational.{ℚ, ◌+ℚ◌}
use Rattle.mpc_space.specs.Vector.{column, dot}
use Rattle.mpc_linear.specs.Dot.{SumFits}
use Rattle.mpc_check.proofs.SumLemmas.{from_nought}
use Rattle.mpc_check.proofs.gradients.search_equality.Goals as goal

pub returns-then-are_equal : goal.returns-then-are_equal
returns-then-are_equal c =
    let row = get_or c.args.qp.now.g.rows (c.args.member - 1) [] in
    let moves = column c.args.law.now.moves.rows c.args.at_column in
    let value : c.in-Ok.value ≡ dot row moves = c.in-Ok.ensures.value ∙ ap (λ (x : ℚ). x +ℚ dot row moves) c.whole.ensures ∙ from_nought (dot row moves) in
    record { fits_so = subst (λ x. SumFits x row moves) c.whole.ensures c.in-Ok.ensures.wide; holds_so = sym value ∙ c.are_equal.ensures.0 c.if-are_equal.true ∙ c.get.ensures }

pub returns : goal.returns
returns c =
    let row = get_or c.args.qp.now.g.rows (c.args.member - 1) [] in
    let moves = column c.args.law.now.moves.rows c.args.at_column in
    let value : c.in-Ok.value ≡ dot row moves = c.in-Ok.ensures.value ∙ ap (λ (x : ℚ). x +ℚ dot row moves) c.whole.ensures ∙ from_nought (dot row moves) in
    (refl, subst (λ x. SumFits x row moves) c.whole.ensures c.in-Ok.ensures.wide, λ e. different (sym c.if-are_equal.false ∙ c.are_equal.ensures.1 (value ∙ e ∙ sym c.get.ensures)))
  where
    different : false ≡ true → ⊥
    different e = cc
