use Rattle.std.proofs.Common.{arith}
use Rattle.mpc_sections.proofs.SectionLemmas.{some_section}
use Rattle.mpc_sections.proofs.sections.are_few.Goals as goal

pub returns : goal.returns
returns c = let some = some_section c.loop.rest.now in let all = c.loop.invariant in omega (arith, some, all, c.loop-test.false, c.loop.auto.counter-end)
