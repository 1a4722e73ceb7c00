-- What stood at the head of a list still stands there behind two steps, of which the first puts something behind and the second keeps what it found.
use Rattle.std.proofs.Common.{◌≡◌, ◌≤◌, ◌++◌, List, length, take, min, sym, ◌∙◌, ap, arith}
use Rattle.std.proofs.Math.Seq.{take-append_seam}
use Rattle.std.proofs.lemmas.List.{length-take, take-take}

pub kept_grown : {X : Type 0} (a b more : List X) → b ≡ a ++ more → take (length a) b ≡ a
kept_grown a b more grown = ap (λ l. take (length a) l) grown ∙ take-append_seam a more

pub kept_behind : {X : Type 0} (a b c more : List X) → b ≡ a ++ more → take (length b) c ≡ b → take (length a) c ≡ a
kept_behind a b c more grown second =
    let first = kept_grown a b more grown in
    let shared : min (length a) (length b) ≡ length a = sym (length-take (length a) b) ∙ ap length first in
    let within : length a ≤ length b = omega (arith, shared) in
    sym (take-take (length a) (length b) c within) ∙ ap (λ l. take (length a) l) second ∙ first
