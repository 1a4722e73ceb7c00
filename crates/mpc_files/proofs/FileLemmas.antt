-- What is found of the controller that bytes spell is found of the bytes.
use Rattle.std.proofs.Common.{ℕ, List, Result, Ok, Err, IfOk, IfErr}
use Rattle.mpc_controller.specs.Parts.{Parts}
use Rattle.mpc_controller.specs.Bounds.{IsController}
use Rattle.mpc_grammar.specs.FileGrammar.{IsSpelled}
use Rattle.mpc_files.specs.declared.answers.Safety.{Safety}
use Rattle.mpc_files.specs.declared.answers.SafetyError.{SafetyError}
use Rattle.mpc_files.specs.declared.answers.SafetyError.TheVariants.{BadFile, NotDefinite, TooWide, WideLater, NoMemory}
use Rattle.mpc_files.specs.SafetyAnswers.{IsSafety, IsSafetyCause, IsAnswerToFile, IsFileCause}

module _ (bytes : List ℕ) (parts : Parts) (spelled : IsSpelled bytes parts) (of_shape : IsController parts.plant parts.laws parts.tree) where
  pub file_answer : (result : Result Safety SafetyError) → IfOk result (IsSafety parts) → IfOk result (IsAnswerToFile bytes)
  file_answer (Ok answer) h = record { parts = parts; spelled = spelled; of_shape = of_shape; is = h }
  file_answer (Err error) h = tt

  cause_there : (error : SafetyError) → IsSafetyCause parts error → IsFileCause bytes error
  cause_there (BadFile kind number) h = absurd h
  cause_there (NotDefinite pivot) h = record { parts = parts; spelled = spelled; of_shape = of_shape; is = h }
  cause_there (TooWide place) h = record { parts = parts; spelled = spelled; of_shape = of_shape; is = h }
  cause_there (WideLater one) h = record { parts = parts; spelled = spelled; of_shape = of_shape; is = h }
  cause_there NoMemory h = tt

  pub file_cause : (result : Result Safety SafetyError) → IfErr result (IsSafetyCause parts) → IfErr result (IsFileCause bytes)
  file_cause (Ok answer) h = tt
  file_cause (Err error) h = cause_there error h
