-- The least number below n that passes a test.
use Rattle.std.specs.Prelude.{ℕ, zero, suc, Bool, cond, Option, Some, None}

abbrev pub or_at : Option ℕ → Bool → ℕ → Option ℕ
or_at (Some x) passes n = Some x
or_at None passes n = cond passes (Some n) None

unfoldable pub least : (ℕ → Bool) → ℕ → Option ℕ
least test zero = None
least test (suc n) = or_at (least test n) (test n) n
