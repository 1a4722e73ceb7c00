-- What is found of the controller that bytes spell is found of the bytes.
use Rattle.std.proofs.Common.{◌≡◌, ℕ, List, Result, Ok, Err, IfErr, IsErrAnd, sym, subst}
use Rattle.mpc_controller.specs.Parts.{Parts}
use Rattle.mpc_controller.specs.Bounds.{IsController}
use Rattle.mpc_controller.specs.ReplyTheorems.{RepliesEverywhere}
use Rattle.mpc_grammar.specs.FileGrammar.{IsSpelled}
use Rattle.mpc_check.specs.declared.answers.Answer.{Answer}
use Rattle.mpc_check.specs.declared.answers.Answer.TheVariants.{Accepted, Refused}
use Rattle.mpc_condense.specs.declared.convex.ProgramError.{ProgramError as CheckError}
use Rattle.mpc_condense.specs.declared.convex.ProgramError.TheVariants.{TooWide as Wide, NotDefinite, NoMemory}
use Rattle.mpc_check.specs.Acceptance.{Accepts, AcceptedIsRight, IsAnswer, IsCause}
use Rattle.mpc_files.specs.declared.errors.CheckFileError.{CheckFileError}
use Rattle.mpc_files.specs.FileAnswers.{RepliesRightly, IsAnswerToFile, IsFileCause, of_checker}

replies_rightly : RepliesEverywhere → AcceptedIsRight → (parts : Parts) → IsController parts.plant parts.laws parts.tree → Accepts parts → RepliesRightly parts
replies_rightly everywhere accepted parts is accepts = record { replies = λ t box. everywhere parts is t; right = λ t reply box replies. accepted parts t reply is accepts box replies }

module _ (bytes : List ℕ) (parts : Parts) (spelled : IsSpelled bytes parts) where
  pub file_answer : RepliesEverywhere → AcceptedIsRight → IsController parts.plant parts.laws parts.tree → (answer : Answer) → IsAnswer parts answer → IsAnswerToFile bytes answer
  file_answer everywhere right of_shape Accepted accepts = record { file = record { parts = parts; spelled = spelled; accepts = accepts }; of_shape = of_shape; rightly = replies_rightly everywhere right parts of_shape accepts }
  file_answer everywhere right of_shape (Refused spot) found = record { parts = parts; spelled = spelled; found = found }

  file_cause : (error : CheckError) → IsCause parts error → IsFileCause bytes (of_checker error)
  file_cause (Wide place) found = record { parts = parts; spelled = spelled; found = found }
  file_cause (NotDefinite pivot) found = record { parts = parts; spelled = spelled; found = found }
  file_cause NoMemory u = tt

  pub cause_given : (result : Result Answer CheckFileError) (error : CheckError) → IsCause parts error → IsErrAnd result (λ given. given ≡ of_checker error) → IfErr result (IsFileCause bytes)
  cause_given (Ok answer) error cause h = absurd h
  cause_given (Err given) error cause is = subst (IsFileCause bytes) (sym is) (file_cause error cause)
