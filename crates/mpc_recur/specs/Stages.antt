-- Why one part of the test has no answer.
use Rattle.mpc_recur.specs.declared.answers.StageError.{StageError}
use Rattle.mpc_recur.specs.declared.answers.StageError.TheVariants.{TooWide, OutOfMemory}

-- where the error is that a number is too wide
abbrev pub IfTooWide : Type 0 → StageError → Type 0
IfTooWide P TooWide = P
IfTooWide P OutOfMemory = Unit {0}
