use Rattle.std.proofs.Common.{◌≡◌, ℕ, List, [], ◌∷◌, Option, Some, None, ◌∙◌}
use Rattle.std.specs.Prelude.{MatchOption}
use Rattle.mpc_law_lines.proofs.tree_depths.Depths.owe_under.Goals as goal

-- the depth that was put in front is taken off again
taken_off : (taken : Option ℕ) (depth : ℕ) (owed more left : List ℕ) → more ≡ depth ∷ owed → MatchOption taken (more ≡ []) (λ first. more ≡ first ∷ left) → left ≡ owed
taken_off None depth owed more left put none = absurd cc
taken_off (Some first) depth owed more left put some = cc

pub returns-in_default-clause-err : goal.returns-in_default-clause-err
returns-in_default-clause-err c = taken_off c.next.result _ _ _ _ (c.in_default.ensures.err ∙ c.in_ok-owe-in-Split.ensures.ok) c.next.ensures
