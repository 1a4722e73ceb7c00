use Rattle.std.proofs.Common.{◌≡◌, ◌+◌, length}
use Rattle.mpc_sections.specs.Sections.{sections_of}
use Rattle.mpc_sections.proofs.sections.are_few.Given as goal

abbrev pub invariant-loop : goal.invariant-loop
invariant-loop l = length (sections_of l.text) ≡ l.counter + length (sections_of l.rest)
