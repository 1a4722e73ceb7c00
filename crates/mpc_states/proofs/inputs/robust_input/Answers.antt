use Rattle.std.proofs.Common.{◌≡◌, ℕ, List, Option, subst}
use Rattle.std.specs.Prelude.{codes}
use Rattle.mpc_words.specs.WholeLines.{whole_lines, before_line, behind_line}
use Rattle.mpc_states.specs.NoisePart.{plant_part, noise_part}
use Rattle.std.proofs.lemmas.Result.{IfOk-weaker, IfErr-weaker, on_ok_weaker}
use Rattle.mpc_states.proofs.Solved.{robustly_solved, robustly_replied, robust_cause}
use Rattle.mpc_states.proofs.inputs.robust_input.Goals as goal

file_is : (found word head : List ℕ) → word ≡ codes "noise" → found ≡ before_line word (whole_lines head) → found ≡ plant_part head
file_is found word head e h = subst (λ w. found ≡ before_line w (whole_lines head)) e h

noise_is : (found : Option (List ℕ)) (word head : List ℕ) → word ≡ codes "noise" → found ≡ behind_line word (whole_lines head) → found ≡ noise_part head
noise_is found word head e h = subst (λ w. found ≡ behind_line w (whole_lines head)) e h

pub returns-in-Ok-clause-text : goal.returns-in-Ok-clause-text
returns-in-Ok-clause-text c =
    IfOk-weaker c.robust_for.result _ _
    (λ text h. robustly_solved c.args.input.now c.cut-sections.result.head.now c.cut-sections.result.counts.now c.in-Ok.plant c.cut-sections.ensures.head c.cut-sections.ensures.counts
    c.cut_at_line.result.0.now _ (file_is _ _ _ c.as_slice.ensures c.cut_at_line.ensures.before) (noise_is _ _ _ c.as_slice.ensures c.cut_at_line.ensures.behind) c.in-Ok.ensures.ok text.items h) c.robust_for.ensures.text

pub returns-in-Ok-clause-replied : goal.returns-in-Ok-clause-replied
returns-in-Ok-clause-replied c =
    on_ok_weaker c.robust_for.result
    (λ h. robustly_replied c.args.input.now c.cut-sections.result.head.now c.cut-sections.result.counts.now c.in-Ok.plant c.cut-sections.ensures.head c.cut-sections.ensures.counts
    c.cut_at_line.result.0.now _ (file_is _ _ _ c.as_slice.ensures c.cut_at_line.ensures.before) (noise_is _ _ _ c.as_slice.ensures c.cut_at_line.ensures.behind) c.in-Ok.ensures.ok h) c.robust_for.ensures.replied

pub returns-in-Ok-clause-cause : goal.returns-in-Ok-clause-cause
returns-in-Ok-clause-cause c =
    IfErr-weaker c.robust_for.result _ _
    (λ e h. robust_cause c.args.input.now c.cut-sections.result.head.now c.cut-sections.result.counts.now c.in-Ok.plant c.cut-sections.ensures.head c.cut-sections.ensures.counts
    c.cut_at_line.result.0.now _ (file_is _ _ _ c.as_slice.ensures c.cut_at_line.ensures.before) (noise_is _ _ _ c.as_slice.ensures c.cut_at_line.ensures.behind) c.in-Ok.ensures.ok e h) c.robust_for.ensures.cause
