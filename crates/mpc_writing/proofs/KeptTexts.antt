-- What stood at the head of a list still stands there behind two steps that each keep what they found.
use Rattle.std.proofs.Common.{◌≡◌, ◌≤◌, ◌++◌, List, length, take, min, sym, ◌∙◌, ap, arith}
use Rattle.std.proofs.Math.Seq.{take-append_seam}
use Rattle.std.proofs.lemmas.List.{length-take, take-take}

pub kept_then : {X : Type 0} (a b c : List X) → take (length a) b ≡ a → take (length b) c ≡ b → take (length a) c ≡ a
kept_then a b c first second =
    let shared : min (length a) (length b) ≡ length a = sym (length-take (length a) b) ∙ ap length first in
    let within : length a ≤ length b = omega (arith, shared) in
    sym (take-take (length a) (length b) c within) ∙ ap (λ l. take (length a) l) second ∙ first

-- the first of which is known by what it puts behind
pub kept_behind : {X : Type 0} (a b c more : List X) → b ≡ a ++ more → take (length b) c ≡ b → take (length a) c ≡ a
kept_behind a b c more grown second = kept_then a b c (ap (λ l. take (length a) l) grown ∙ take-append_seam a more) second
