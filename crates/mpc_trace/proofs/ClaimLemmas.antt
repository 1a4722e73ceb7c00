-- The claims of a history, event by event.
use Rattle.std.proofs.Common.{◌≡◌, ℕ, ◌+◌, ◌<◌, Bool, true, false, List, [], ◌∷◌, ◌++◌, length, get_or, take, sym, ◌∙◌, ap, arith}
use Rattle.std.specs.Prelude.{if◌then◌else◌}
use Rattle.std.proofs.lemmas.List.{take_more}
use Rattle.mpc_claim.specs.declared.events.Event.{Event}
use Rattle.mpc_claim.specs.History.{is_claim, claimed_sets}

abbrev claims : List Event → ℕ
claims es = length (claimed_sets es)

abbrev one_if : Bool → ℕ
one_if true = 1
one_if false = 0

head_count : (b : Bool) (s : List ℕ) (rest : List (List ℕ)) → length ((if b then s ∷ [] else []) ++ rest) ≡ one_if b + length rest
head_count true s rest = omega arith
head_count false s rest = omega arith

push_count : (es : List Event) (e : Event) → claims (es ++ e ∷ []) ≡ claims es + one_if (is_claim e.kind)
push_count [] e = let h = head_count (is_claim e.kind) e.set [] in omega (arith, h)
push_count (x ∷ es) e =
    let h = head_count (is_claim x.kind) x.set (claimed_sets (es ++ e ∷ [])) in
    let k = head_count (is_claim x.kind) x.set (claimed_sets es) in
    let l = push_count es e in
    omega (arith, h, k, l)

count_more : (es : List Event) (i : ℕ) (e : Event) → i < length es → e ≡ get_or es i e → claims (take (i + 1) es) ≡ claims (take i es) + one_if (is_claim e.kind)
count_more es i e below is =
    ap claims (take_more es i e below) ∙ ap (λ (d : Event). claims (take i es ++ d ∷ [])) (sym is) ∙ push_count (take i es) e

pub claim_more : (es : List Event) (i : ℕ) (e : Event) (count : ℕ) → i < length es → e ≡ get_or es i e → is_claim e.kind ≡ true → count ≡ claims (take i es) → count + 1 ≡ claims (take (i + 1) es)
claim_more es i e count below is claimed before = let h = count_more es i e below is in let k : one_if (is_claim e.kind) ≡ 1 = ap one_if claimed in omega (arith, h, k, before)

pub other_more : (es : List Event) (i : ℕ) (e : Event) (count : ℕ) → i < length es → e ≡ get_or es i e → is_claim e.kind ≡ false → count ≡ claims (take i es) → count ≡ claims (take (i + 1) es)
other_more es i e count below is other before = let h = count_more es i e below is in let k : one_if (is_claim e.kind) ≡ 0 = ap one_if other in omega (arith, h, k, before)
