use Rattle.std.proofs.Common.{vec_len}
use Rattle.mpc_sections.specs.Sections.{sections_of}
use Rattle.mpc_sections.proofs.StepLemmas.{IsAnswering}
use Rattle.mpc_sections.proofs.fleet_answers.answer_all.Given as goal

abbrev pub invariant-sections : goal.invariant-sections
invariant-sections g l = IsAnswering (sections_of l._input) l.number l.text.items l.begun.items l.registries.items

abbrev pub decreases-sections : goal.decreases-sections
decreases-sections g l = vec_len l.begun
