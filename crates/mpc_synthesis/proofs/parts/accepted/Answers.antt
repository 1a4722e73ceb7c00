use Rattle.std.proofs.Common.{◌≡◌, Err, subst, rules}
use Rattle.std.specs.Prelude.{IfErr}
use Rattle.mpc_check.specs.Acceptance.{IsCause}
use Rattle.mpc_condense.specs.declared.convex.ProgramError.TheVariants.{TooWide, NotDefinite}
use Rattle.mpc_synthesis.proofs.parts.accepted.Goals as goal

pub unreachable-requires-in-Err-NotDefinite : goal.unreachable-requires-in-Err-NotDefinite
unreachable-requires-in-Err-NotDefinite c =
    let is : c.args.found ≡ Err (NotDefinite c.in-Err-NotDefinite.field-0-0) = search rules in
    c.compiled_accepted.ensures.error c.requires.compiled.0 c.args.parts (NotDefinite c.in-Err-NotDefinite.field-0-0) c.requires.compiled.1 (subst (λ r. IfErr r (IsCause c.args.parts)) is c.requires.cause)

pub returns-in-Err-TooWide-clause-refused : goal.returns-in-Err-TooWide-clause-refused
returns-in-Err-TooWide-clause-refused c =
    let is : c.args.found ≡ Err (TooWide c.in-Err-TooWide.place) = search rules in
    rw c.in-Err-TooWide.place-is (subst (λ r. IfErr r (IsCause c.args.parts)) is c.requires.cause)
