-- A safe controller of which nothing is too wide is answered as safe.
use Rattle.std.proofs.Common.{refl}
use Rattle.mpc_recur.specs.declared.answers.Recur.TheVariants.{Safe, Unsafe}
use Rattle.mpc_recur.specs.declared.answers.RecurError.TheVariants.{Wide, NoMemory}
use Rattle.mpc_recur.specs.Findings.{too_wide}
use Rattle.mpc_recur.specs.Outcomes.{is_safe, finds}
use Rattle.mpc_recur.specs.SafetyTheorems.{OneOutcome, RuledOutWhereSafe, SafeIsAnswered, SafeIsDecided}

pub safe_is_answered : SafeIsAnswered
safe_is_answered parts is safe fits Safe a = refl
safe_is_answered parts is safe fits (Unsafe one pairs) a = absurd (a.not_safe safe)

pub safe_is_decided : OneOutcome → RuledOutWhereSafe → SafeIsDecided
safe_is_decided one ruled_out parts is safe fits (Wide next) cause = let same = one parts is_safe (finds (too_wide next)) ((ruled_out parts is).1 (safe, fits)) cause in absurd cc
safe_is_decided one ruled_out parts is safe fits NoMemory cause = refl
