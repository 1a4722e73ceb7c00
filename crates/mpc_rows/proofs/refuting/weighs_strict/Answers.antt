use Rattle.std.proofs.Common.{◌≤◌, refl, subst}
use Rattle.std.proofs.lemmas.Bool.{both_ways}
use Rattle.mpc_rows.proofs.ColumnLemmas.{strict_found, none_more, none_at_all}
use Rattle.mpc_rows.proofs.refuting.weighs_strict.Goals as goal

pub returns-then-is_strict_with : goal.returns-then-is_strict_with
returns-then-is_strict_with c =
    (λ _. strict_found _ _ _ _ _ c.system.view_is _ _ c.at.ensures c.at-in-loop-i.ensures (c.if-is_strict_with.ensures.0 refl), λ _. refl)

pub loop-i-preserved : goal.loop-i-preserved
loop-i-preserved c =
    none_more _ _ _ _ _ c.system.view_is _ _ c.at.ensures c.at-in-loop-i.ensures (λ h. both_ways _ refl (c.if-is_strict_with.ensures.1 h)) c.loop-i.invariant

pub returns : goal.returns
returns c =
    (λ e. absurd (both_ways _ refl e), λ w. absurd (none_at_all _ _ _ _ _ c.system.view_is (subst (λ n. n ≤ c.loop-i.i) c.len-i-end.ensures c.loop-i-test.false) c.loop-i.invariant w))
