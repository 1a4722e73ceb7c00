use Rattle.std.proofs.Common.{◌≡◌, ◌∙◌, ◌-ℤ◌, ◌*ℤ◌, ℤ, Option, Some, None, SomeIff, IfSome, rules, FitsSigned}
use Rattle.std.specs.Int.{w128}
use Rattle.std.proofs.lemmas.Int.{to_z-of_z}
use Rattle.mpc_quotients.proofs.wide_numbers.wide_difference.Goals as goal

where_some : (r : Option ℤ) (fits : Type 0) (x y : ℤ) → x ≡ y → SomeIff r fits x → IfSome r (λ z. z ≡ y)
where_some None fits x y e h = tt
where_some (Some z) fits x y e h = h.1 ∙ e

pub returns : goal.returns
returns c =
    let f : FitsSigned w128 c.in_ok-first.first = search rules in
    let g : FitsSigned w128 c.in_ok-second.second = search rules in
    let first = to_z-of_z w128 _ f ∙ c.in_ok-first.ensures ∙ (λ i. to_z-of_z w128 _ c.ranges.entry i *ℤ to_z-of_z w128 _ c.ranges.pivot i) in
    let second = to_z-of_z w128 _ g ∙ c.in_ok-second.ensures ∙ (λ i. to_z-of_z w128 _ c.ranges.factor i *ℤ to_z-of_z w128 _ c.ranges.top i) in
    where_some c.checked_sub.result _ _ _ (λ i. first i -ℤ second i) c.checked_sub.ensures
