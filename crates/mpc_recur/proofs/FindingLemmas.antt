-- What is found of targets in an order is one thing, and nothing where all of them are ruled out.
use Rattle.std.proofs.Common.{◌≡◌, ℕ, suc, ◌+◌, ◌<◌, ◌⊎◌, inl, inr, List, [], ◌∷◌, length, Some, refl, sym, ◌∙◌, ap, subst, arith}
use Rattle.std.specs.Prelude.{slice_get}
use Rattle.std.proofs.lemmas.Bool.{cases_order}
use Rattle.mpc_exact.specs.Rational.{ℚ}
use Rattle.mpc_rows.specs.LinearSystem.{LinearSystem}
use Rattle.mpc_rows.specs.SystemTheorems.{PointOfPairs}
use Rattle.mpc_rows.specs.Run.{Position}
use Rattle.mpc_simplex.specs.Answer.{IsValues}
use Rattle.mpc_recur.specs.declared.answers.Next.{Next}
use Rattle.mpc_recur.specs.Findings.{Finding, reached, too_wide, IsRuledOut, TargetFinds, Each, IsFirstOf, IsFirstOfTwo}

-- nothing is found where all is met, and at most one thing anyway
pub record IsSingle (met : Type 0) (finds : Finding → Type 0) : Type 0 where
  pub not_met : (f : Finding) → finds f → met → ⊥
  pub one : (f g : Finding) → finds f → finds g → f ≡ g

-- ---- one target
abbrev Pairs : Type 0
Pairs = List (ℚ × ℚ)

same_pairs : (v w : Pairs) → length v ≡ length w → ((j : ℕ) → j < length v → (p : ℚ × ℚ) (q : ℚ × ℚ) → slice_get v j ≡ Some p → slice_get w j ≡ Some q → p ≡ q) → v ≡ w
same_pairs [] [] e same = refl
same_pairs [] (q ∷ w) e same = absurd (omega arith)
same_pairs (p ∷ v) [] e same = absurd (omega arith)
same_pairs (p ∷ v) (q ∷ w) e same =
    let first : p ≡ q = same 0 (omega arith) p q refl refl in
    let rest : v ≡ w = same_pairs v w (omega arith) (λ j h x y a b. same (suc j) (omega arith) x y a b) in
    λ i. first i ∷ rest i

same_values : (s : LinearSystem) (p : Position) (v w : Pairs) → IsValues s p v → IsValues s p w → v ≡ w
same_values s p v w a b = same_pairs v w (a.size ∙ sym b.size) entry
  where
    entry : (j : ℕ) → j < length v → (x : ℚ × ℚ) (y : ℚ × ℚ) → slice_get v j ≡ Some x → slice_get w j ≡ Some y → x ≡ y
    entry j h x y at there =
        let mine = a.at j (omega (arith, a.size)) in
        let other = b.at j (omega (arith, a.size)) in
        let left : mine.0 ≡ x = let e = mine.1 in cc in
        let right : other.0 ≡ y = let e = other.1 in cc in
        sym left ∙ (λ i. ((mine.2 ∙ sym other.2) i, (mine.3 ∙ sym other.3) i)) ∙ right

module _ (point_of_pairs : PointOfPairs) (forming : Type 0) (s : LinearSystem) (one : Next) where
  found_not_ruled_out : (f : Finding) → TargetFinds forming s one f → IsRuledOut forming s → ⊥
  found_not_ruled_out (reached n pairs) f m = m.no_point (point_of_pairs s pairs f.1.point)
  found_not_ruled_out (too_wide n) f m = f.1 m.fits

  one_found : (f g : Finding) → TargetFinds forming s one f → TargetFinds forming s one g → f ≡ g
  one_found (reached n v) (reached m w) a b = λ i. reached ((a.0 ∙ sym b.0) i) (same_values s _ v w a.1.ends.values b.1.ends.values i)
  one_found (reached n v) (too_wide m) a b = absurd (b.1 a.1.fits)
  one_found (too_wide n) (reached m w) a b = absurd (a.1 b.1.fits)
  one_found (too_wide n) (too_wide m) a b = ap too_wide (a.0 ∙ sym b.0)

  pub single_target : IsSingle (IsRuledOut forming s) (TargetFinds forming s one)
  single_target = record { not_met = found_not_ruled_out; one = one_found }

-- ---- conditions one after another
module _ (met : ℕ → Type 0) (finds : ℕ → Finding → Type 0) (count : ℕ) (each : (k : ℕ) → IsSingle (met k) (finds k)) where
  one_first : (f g : Finding) → IsFirstOf met finds count f → IsFirstOf met finds count g → f ≡ g
  one_first f g a b = by (cases_order a.place b.place)
    where
      by : (a.place ≡ b.place) ⊎ (a.place < b.place) ⊎ (b.place < a.place) → f ≡ g
      by (inl e) = (each b.place).one f g (subst (λ k. finds k f) e a.here) b.here
      by (inr (inl l)) = absurd ((each a.place).not_met f a.here (b.before a.place l))
      by (inr (inr l)) = absurd ((each b.place).not_met g b.here (a.before b.place l))

  pub single_list : IsSingle (Each met count) (IsFirstOf met finds count)
  single_list = record { not_met = λ f a all. (each a.place).not_met f a.here (all a.place a.within); one = one_first }

module _ (met later_met : Type 0) (finds later : Finding → Type 0) (first : IsSingle met finds) (second : IsSingle later_met later) where
  two_met : (f : Finding) → IsFirstOfTwo met finds later f → met → later_met → ⊥
  two_met f (inl a) m l = first.not_met f a m
  two_met f (inr a) m l = second.not_met f a.1 l

  one_of_two : (f g : Finding) → IsFirstOfTwo met finds later f → IsFirstOfTwo met finds later g → f ≡ g
  one_of_two f g (inl a) (inl b) = first.one f g a b
  one_of_two f g (inl a) (inr b) = absurd (first.not_met f a b.0)
  one_of_two f g (inr a) (inl b) = absurd (first.not_met g b a.0)
  one_of_two f g (inr a) (inr b) = second.one f g a.1 b.1

  pub single_pair : (both : Type 0) → (both → met) → (both → later_met) → IsSingle both (IsFirstOfTwo met finds later)
  single_pair both to_first to_second = record { not_met = λ f a b. two_met f a (to_first b) (to_second b); one = one_of_two }

pub each_more : (met : ℕ → Type 0) (k : ℕ) → Each met k → met k → Each met (k + 1)
each_more met k before here j h = by (cases_order j k)
  where
    by : (j ≡ k) ⊎ (j < k) ⊎ (k < j) → met j
    by (inl e) = subst met (sym e) here
    by (inr (inl l)) = before j l
    by (inr (inr l)) = absurd (omega arith)
