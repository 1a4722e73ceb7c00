-- A text that grew by five pieces.
use Rattle.std.proofs.Common.{◌≡◌, ℕ, List, ◌++◌, ◌∙◌, ap, append_assoc}
use Rattle.std.specs.Prelude.{Result, Ok, Err, OnOk}

pub five : {T E : Type 0} (r : Result T E) (old first second third fourth new a b c d e : List ℕ) → first ≡ old ++ a → second ≡ first ++ b → third ≡ second ++ c → fourth ≡ third ++ d → OnOk r (new ≡ fourth ++ e)
    → OnOk r (new ≡ old ++ (a ++ b ++ c ++ d ++ e))
five (Ok x) old first second third fourth new a b c d e p q s t u =
    u ∙ ap (λ y. y ++ e) (t ∙ ap (λ y. y ++ d) (s ∙ ap (λ y. y ++ c) (q ∙ ap (λ y. y ++ b) p))) ∙ regroup
  where
    regroup : ((((old ++ a) ++ b) ++ c) ++ d) ++ e ≡ old ++ (a ++ b ++ c ++ d ++ e)
    regroup = simp append_assoc
five (Err x) old first second third fourth new a b c d e p q s t u = tt
