-- For given bytes at most one outcome comes.
use Rattle.std.proofs.Common.{◌≡◌, ℕ, ◌^◌, ◌<◌, List, length, refl, ap, subst}
use Rattle.mpc_controller.specs.Parts.{Parts}
use Rattle.mpc_grammar.specs.declared.errors.FileKind.{FileKind}
use Rattle.mpc_grammar.specs.FileGrammar.{FailsAt, IsSpelled}
use Rattle.mpc_grammar.specs.TextTheorems.{OneController, SpelledNeverFails, OneLine, OneReason}
use Rattle.mpc_check.specs.Acceptance.{Accepts, IsFound, NothingFound, OneFinding}
use Rattle.mpc_recur.specs.Findings.{Finding as Step}
use Rattle.mpc_recur.specs.Targets.{AllRuledOut, IsFound as IsStepFound}
use Rattle.mpc_recur.specs.Outcomes.{is_safe, finds as finds_step}
use Rattle.mpc_recur.specs.SafetyTheorems.{OneOutcome}
use Rattle.mpc_files.specs.declared.answers.Safety.TheVariants.{Safe, Refused, Unsafe}
use Rattle.mpc_files.specs.declared.answers.SafetyError.TheVariants.{BadFile, NotDefinite, TooWide, WideLater, NoMemory}
use Rattle.mpc_files.specs.SafetyOutcomes.{bad_file, finds, steps, safe, OneSafetyOutcome, AnswerIsOutcome, CauseIsOutcome}

-- the laws of texts, of checks and of steps
pub record OutcomeTheorems : Type 0 where
  pub one_controller : OneController
  pub never_fails : SpelledNeverFails
  pub one_line : OneLine
  pub one_reason : OneReason
  pub nothing : NothingFound
  pub one_finding : OneFinding
  pub one_step : OneOutcome

step_not_safe : (parts : Parts) → OneOutcome → (step : Step) → AllRuledOut parts → IsStepFound parts step → ⊥
step_not_safe parts one step all found = let same = one parts is_safe (finds_step step) all found in absurd cc

same_step : (parts : Parts) → OneOutcome → (f g : Step) → IsStepFound parts f → IsStepFound parts g → f ≡ g
same_step parts one f g a b = let same = one parts (finds_step f) (finds_step g) a b in cc

module _ (laws : OutcomeTheorems) where
  same_parts : (bytes : List ℕ) (x y : Parts) → length bytes < 2 ^ 64 → IsSpelled bytes x → IsSpelled bytes y → x ≡ y
  same_parts bytes x y short s t = laws.one_controller bytes s.0 t.0 x y short s.1 t.1

  clash : (bytes : List ℕ) (parts : Parts) (kind : FileKind) (number : ℕ) → length bytes < 2 ^ 64 → IsSpelled bytes parts → FailsAt bytes kind number → ⊥
  clash bytes parts kind number short s f = laws.never_fails bytes s.0 parts kind number short s.1 f

  pub one_outcome : OneSafetyOutcome
  one_outcome bytes (bad_file kind number) (bad_file other place) short f g =
      λ i. bad_file (laws.one_reason bytes kind other number place short f g i) (laws.one_line bytes kind other number place short f g i)
  one_outcome bytes (bad_file kind number) (finds finding) short f h = absurd (clash bytes h.parts kind number short h.spelled f)
  one_outcome bytes (bad_file kind number) (steps step) short f h = absurd (clash bytes h.parts kind number short h.spelled f)
  one_outcome bytes (bad_file kind number) safe short f h = absurd (clash bytes h.parts kind number short h.spelled f)
  one_outcome bytes (finds finding) (bad_file kind number) short h f = absurd (clash bytes h.parts kind number short h.spelled f)
  one_outcome bytes (finds finding) (finds other) short h k =
      let same : h.parts ≡ k.parts = same_parts bytes h.parts k.parts short h.spelled k.spelled in
      ap finds (laws.one_finding k.parts finding other (subst (λ p. IsFound p finding) same h.found) k.found)
  one_outcome bytes (finds finding) (steps step) short h k =
      let same : h.parts ≡ k.parts = same_parts bytes h.parts k.parts short h.spelled k.spelled in
      absurd (laws.nothing k.parts finding k.accepts (subst (λ p. IsFound p finding) same h.found))
  one_outcome bytes (finds finding) safe short h k =
      let same : h.parts ≡ k.parts = same_parts bytes h.parts k.parts short h.spelled k.spelled in
      absurd (laws.nothing k.parts finding k.accepts (subst (λ p. IsFound p finding) same h.found))
  one_outcome bytes (steps step) (bad_file kind number) short h f = absurd (clash bytes h.parts kind number short h.spelled f)
  one_outcome bytes (steps step) (finds finding) short h k =
      let same : h.parts ≡ k.parts = same_parts bytes h.parts k.parts short h.spelled k.spelled in
      absurd (laws.nothing k.parts finding (subst Accepts same h.accepts) k.found)
  one_outcome bytes (steps step) (steps other) short h k =
      let same : h.parts ≡ k.parts = same_parts bytes h.parts k.parts short h.spelled k.spelled in
      ap steps (same_step k.parts laws.one_step step other (subst (λ p. IsStepFound p step) same h.found) k.found)
  one_outcome bytes (steps step) safe short h k =
      let same : h.parts ≡ k.parts = same_parts bytes h.parts k.parts short h.spelled k.spelled in
      absurd (step_not_safe k.parts laws.one_step step k.ruled_out (subst (λ p. IsStepFound p step) same h.found))
  one_outcome bytes safe (bad_file kind number) short h f = absurd (clash bytes h.parts kind number short h.spelled f)
  one_outcome bytes safe (finds finding) short h k =
      let same : h.parts ≡ k.parts = same_parts bytes h.parts k.parts short h.spelled k.spelled in
      absurd (laws.nothing k.parts finding (subst Accepts same h.accepts) k.found)
  one_outcome bytes safe (steps step) short h k =
      let same : h.parts ≡ k.parts = same_parts bytes h.parts k.parts short h.spelled k.spelled in
      absurd (step_not_safe k.parts laws.one_step step (subst AllRuledOut same h.ruled_out) k.found)
  one_outcome bytes safe safe short h k = refl

-- ---- answers
pub answered : AnswerIsOutcome
answered bytes Safe a = record { parts = a.parts; spelled = a.spelled; accepts = a.is.accepts; ruled_out = a.is.safe.ruled_out }
answered bytes (Refused spot) a = record { parts = a.parts; spelled = a.spelled; found = a.is }
answered bytes (Unsafe one pairs) a = record { parts = a.parts; spelled = a.spelled; accepts = a.is.accepts; found = a.is.leads.first }

pub caused : CauseIsOutcome
caused bytes (BadFile kind number) a = a
caused bytes (NotDefinite pivot) a = record { parts = a.parts; spelled = a.spelled; found = a.is }
caused bytes (TooWide place) a = record { parts = a.parts; spelled = a.spelled; found = a.is }
caused bytes (WideLater one) a = record { parts = a.parts; spelled = a.spelled; accepts = a.is.accepts; found = a.is.first }
caused bytes NoMemory a = tt
