-- What a call tells of an outcome.
use Rattle.std.proofs.Common.{◌≡◌, ◌≢◌, ℕ, ◌<◌, ◌≤◌, inl, inr, List, length, take, drop, refl, sym, ◌∙◌, ap, subst, arith}
use Rattle.mpc_status.specs.declared.status.Status.{Status}
use Rattle.mpc_status.specs.declared.status.Status.TheVariants.{Done, Usage, BadPlant, NotDefinite, TooWide, BadFile, Refused, ReadFault, WriteFault, TooLong, NoMemory, Unsafe, WideLater, BadNoise, TooManyPlants}
use Rattle.mpc_status.specs.StatusText.{code_of}
use Rattle.mpc_cli.specs.declared.commands.Command.{Command}
use Rattle.mpc_cli.specs.Commands.{Names}
use Rattle.mpc_cli.specs.Answers.{IsDueFor, by_command, OneStatus}
use Rattle.mpc_c.specs.Texts.{IsTextOf, CallAnswers}

-- ---- which codes are whose
pub record Codes (s : Status) : Type 0 where
  pub below : code_of s < 32
  pub memory : code_of s ≡ 11 → s ≡ NoMemory
  pub done : code_of s ≡ 0 → s ≡ Done

other_code : (s : Status) → code_of s < 32 → code_of s ≢ 11 → code_of s ≢ 0 → Codes s
other_code s below no_memory not_done = record { below = below; memory = λ e. absurd (no_memory e); done = λ e. absurd (not_done e) }

pub codes : (s : Status) → Codes s
codes Done = record { below = omega arith; memory = λ e. absurd (omega (arith, e)); done = λ e. refl }
codes Usage = other_code Usage (omega arith) (λ e. omega (arith, e)) (λ e. omega (arith, e))
codes (BadPlant kind path) = other_code (BadPlant kind path) (omega arith) (λ e. omega (arith, e)) (λ e. omega (arith, e))
codes (NotDefinite pivot) = other_code (NotDefinite pivot) (omega arith) (λ e. omega (arith, e)) (λ e. omega (arith, e))
codes (TooWide place) = other_code (TooWide place) (omega arith) (λ e. omega (arith, e)) (λ e. omega (arith, e))
codes (BadFile kind number) = other_code (BadFile kind number) (omega arith) (λ e. omega (arith, e)) (λ e. omega (arith, e))
codes (Refused spot) = other_code (Refused spot) (omega arith) (λ e. omega (arith, e)) (λ e. omega (arith, e))
codes ReadFault = other_code ReadFault (omega arith) (λ e. omega (arith, e)) (λ e. omega (arith, e))
codes WriteFault = other_code WriteFault (omega arith) (λ e. omega (arith, e)) (λ e. omega (arith, e))
codes TooLong = other_code TooLong (omega arith) (λ e. omega (arith, e)) (λ e. omega (arith, e))
codes NoMemory = record { below = omega arith; memory = λ e. refl; done = λ e. absurd (omega (arith, e)) }
codes (Unsafe one pairs) = other_code (Unsafe one pairs) (omega arith) (λ e. omega (arith, e)) (λ e. omega (arith, e))
codes (WideLater place) = other_code (WideLater place) (omega arith) (λ e. omega (arith, e)) (λ e. omega (arith, e))
codes BadNoise = other_code BadNoise (omega arith) (λ e. omega (arith, e)) (λ e. omega (arith, e))
codes TooManyPlants = other_code TooManyPlants (omega arith) (λ e. omega (arith, e)) (λ e. omega (arith, e))

module _ (c : Command) (input : List ℕ) where
  not_32 : (code : ℕ) (text : List ℕ) → IsTextOf c input code text → code ≢ 32
  not_32 code text is e = let below = (codes is.status).below in let a = is.code_is in omega (arith, below, a, e)

  not_11 : (code : ℕ) (text : List ℕ) → IsTextOf c input code text → code ≢ 11
  not_11 code text is e = is.in_memory ((codes is.status).memory (sym is.code_is ∙ e))

  pub no_memory : (old : List ℕ) → CallAnswers c input 11 0 old old
  no_memory old = record {
    told = λ some small. absurd (some refl);
    too_small = λ e. absurd (omega (arith, e));
    no_memory = λ e. (refl, refl);
    behind = refl;
    exact = λ due h. inr (inr refl);
  }

  pub too_small : (code : ℕ) (text old new : List ℕ) → IsTextOf c input code text → length old < length text → new ≡ old → CallAnswers c input 32 (length text) old new
  too_small code text old new is larger kept = record {
    told = λ some small. absurd (small refl);
    too_small = λ e. (record { code = code; text = text; text_is = is; size_is = refl; larger = larger }, kept);
    no_memory = λ e. absurd (omega (arith, e));
    behind = ap (drop (length text)) kept;
    exact = λ due h. inr (inl refl);
  }

  module _ (one : OneStatus) (words : List (List ℕ)) (named : Names c words) where
    same_code : (code : ℕ) (text : List ℕ) → IsTextOf c input code text → (due : Status) → IsDueFor c input due → code ≡ code_of due
    same_code code text is due h = is.code_is ∙ ap code_of (one words input is.status due (by_command c named is.answer.due) (by_command c named h))

    pub told : (code : ℕ) (text old new : List ℕ) → IsTextOf c input code text → take (length text) new ≡ text → length text ≤ length new → drop (length text) new ≡ drop (length text) old → CallAnswers c input code (length text) old new
    told code text old new is front inside behind = record {
      told = λ some small. record { text_is = subst (IsTextOf c input code) (sym front) is; inside = inside };
      too_small = λ e. absurd (not_32 code text is e);
      no_memory = λ e. absurd (not_11 code text is e);
      behind = behind;
      exact = λ due h. inl (same_code code text is due h);
    }
