use Rattle.std.proofs.Common.{◌≡◌, subst}
use Rattle.std.specs.Prelude.{option_map}
use Rattle.mpc_words.specs.WholeLines.{whole_lines, before_line, behind_line}
use Rattle.mpc_sections.proofs.SectionLemmas.{first_section}
use Rattle.mpc_sections.proofs.sections.split_section.Goals as goal

pub returns-clause-sections : goal.returns-clause-sections
returns-clause-sections c =
    first_section c.whole_line_theorems.ensures.joined c.whole_line_theorems.ensures.rest (λ rest. rest.now) c.args.text.now _ c.cut_at_line.result.1
    (subst (λ w. c.cut_at_line.result.0.now ≡ before_line w (whole_lines c.args.text.now)) c.as_slice.ensures c.cut_at_line.ensures.before)
    (subst (λ w. option_map (λ rest. rest.now) c.cut_at_line.result.1 ≡ behind_line w (whole_lines c.args.text.now)) c.as_slice.ensures c.cut_at_line.ensures.behind)
