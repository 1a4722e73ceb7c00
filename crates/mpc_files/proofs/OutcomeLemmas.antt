-- For given bytes at most one outcome comes.
use Rattle.std.proofs.Common.{◌≡◌, ℕ, ◌^◌, ◌<◌, List, length, refl, ap, subst}
use Rattle.mpc_controller.specs.Parts.{Parts}
use Rattle.mpc_grammar.specs.declared.errors.FileKind.{FileKind}
use Rattle.mpc_grammar.specs.FileGrammar.{FailsAt, IsSpelled}
use Rattle.mpc_grammar.specs.TextTheorems.{OneController, SpelledNeverFails, OneLine, OneReason}
use Rattle.mpc_check.specs.Acceptance.{Accepts, IsFound, NothingFound, OneFinding}
use Rattle.mpc_files.specs.FileOutcomes.{fails, spells, bad_file, finds, accepted, OneFileReading, OneFileOutcome}

-- the laws of texts
pub record ReadingTheorems : Type 0 where
  pub one_controller : OneController
  pub never_fails : SpelledNeverFails
  pub one_line : OneLine
  pub one_reason : OneReason

pub same_parts : OneController → (bytes : List ℕ) (x y : Parts) → length bytes < 2 ^ 64 → IsSpelled bytes x → IsSpelled bytes y → x ≡ y
same_parts one bytes x y short s t = one bytes s.0 t.0 x y short s.1 t.1

module _ (laws : ReadingTheorems) where
  clash : (bytes : List ℕ) (parts : Parts) (kind : FileKind) (number : ℕ) → length bytes < 2 ^ 64 → IsSpelled bytes parts → FailsAt bytes kind number → ⊥
  clash bytes parts kind number short s f = laws.never_fails bytes s.0 parts kind number short s.1 f

  pub one_reading : OneFileReading
  one_reading bytes (fails kind number) (fails other place) short f g =
      λ i. fails (laws.one_reason bytes kind other number place short f g i) (laws.one_line bytes kind other number place short f g i)
  one_reading bytes (fails kind number) (spells parts) short f s = absurd (clash bytes parts kind number short s f)
  one_reading bytes (spells parts) (fails kind number) short s f = absurd (clash bytes parts kind number short s f)
  one_reading bytes (spells x) (spells y) short s t = ap spells (same_parts laws.one_controller bytes x y short s t)

  module _ (nothing : NothingFound) (one_finding : OneFinding) where
    pub one_outcome : OneFileOutcome
    one_outcome bytes (bad_file kind number) (bad_file other place) short f g =
        λ i. bad_file (laws.one_reason bytes kind other number place short f g i) (laws.one_line bytes kind other number place short f g i)
    one_outcome bytes (bad_file kind number) (finds finding) short f h = absurd (clash bytes h.parts kind number short h.spelled f)
    one_outcome bytes (bad_file kind number) accepted short f h = absurd (clash bytes h.parts kind number short h.spelled f)
    one_outcome bytes (finds finding) (bad_file kind number) short h f = absurd (clash bytes h.parts kind number short h.spelled f)
    one_outcome bytes (finds finding) (finds other) short h k =
        let same : h.parts ≡ k.parts = same_parts laws.one_controller bytes h.parts k.parts short h.spelled k.spelled in
        ap finds (one_finding k.parts finding other (subst (λ p. IsFound p finding) same h.found) k.found)
    one_outcome bytes (finds finding) accepted short h k =
        let same : h.parts ≡ k.parts = same_parts laws.one_controller bytes h.parts k.parts short h.spelled k.spelled in
        absurd (nothing k.parts finding k.accepts (subst (λ p. IsFound p finding) same h.found))
    one_outcome bytes accepted (bad_file kind number) short h f = absurd (clash bytes h.parts kind number short h.spelled f)
    one_outcome bytes accepted (finds finding) short h k =
        let same : h.parts ≡ k.parts = same_parts laws.one_controller bytes h.parts k.parts short h.spelled k.spelled in
        absurd (nothing k.parts finding (subst Accepts same h.accepts) k.found)
    one_outcome bytes accepted accepted short h k = refl
