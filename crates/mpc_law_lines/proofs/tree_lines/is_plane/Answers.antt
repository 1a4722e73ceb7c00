use Rattle.std.proofs.Common.{[], ◌∷◌, ◌++◌, refl, subst}
use Rattle.mpc_space.proofs.Words.{read_back}
use Rattle.mpc_linear.specs.Whole.{IsShared}
use Rattle.mpc_law_lines.proofs.TreeReading.{is_plane}
use Rattle.mpc_law_lines.proofs.tree_lines.is_plane.Goals as goal

pub returns-then-has_entry : goal.returns-then-has_entry
returns-then-has_entry c =
    let row = c.args.row.now in
    is_plane row c.as_slice.result.now c.shared_divisor.result c.as_slice.ensures (c.if-has_entry.ensures.0 refl) (subst (λ b. IsShared c.shared_divisor.result (row.a ++ b ∷ [])) (read_back row.b c.requires.b_small) c.shared_divisor.ensures.shared)
