use Rattle.std.proofs.Common.{sym, ◌∙◌}
use Rattle.mpc_synthesis.specs.Refusals.{wide_program}
use Rattle.mpc_c.proofs.StateEnds.{outside_there}
use Rattle.mpc_c.proofs.states.solve_plant.Goals as goal

pub returns-in-Err-NotDefinite-clause-says : goal.returns-in-Err-NotDefinite-clause-says
returns-in-Err-NotDefinite-clause-says c = λ file read.
    let cause = rw c.in-Err-NotDefinite.field-0-is at c.in-Err-NotDefinite.ensures.cause in
    record { plant = c.args.plant.now; read = read; so = (c.in-Err-NotDefinite.field-0-0, cause) }

pub returns-in-Err-TooWide-clause-says : goal.returns-in-Err-TooWide-clause-says
returns-in-Err-TooWide-clause-says c = λ file read.
    let cause = rw c.in-Err-TooWide.field-0-is at c.in-Err-TooWide.ensures.cause in
    record { plant = c.args.plant.now; read = read; so = (c.in-Err-TooWide.field-0-0, λ extent. wide_program extent c.in-Err-TooWide.field-0-0 cause) }

pub returns-in-Some-clause-says : goal.returns-in-Some-clause-says
returns-in-Some-clause-says c = λ file read. record {
  plant = c.args.plant.now;
  read = read;
  so = λ none.
      let there = outside_there c.args.plant.now c.in-Ok.program c.args.counts.now c.as_slice.result.now c.find_outside.result c.in-Ok.ensures.program.has_program.condensed c.as_slice.ensures c.find_outside.ensures in
      let a = sym c.in-Some.is ∙ there ∙ none in
      absurd cc;
}

pub returns-clause-says : goal.returns-clause-says
returns-clause-says c = λ file read.
    let there = outside_there c.args.plant.now c.in-Ok.program c.args.counts.now c.as_slice.result.now c.find_outside.result c.in-Ok.ensures.program.has_program.condensed c.as_slice.ensures c.find_outside.ensures in
    c.solve_program.ensures.says c.args.plant.now file read c.in-Ok.ensures.program.has_program.condensed (sym there ∙ c.in-None.is) c.requires.moves
