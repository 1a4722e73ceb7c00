-- What is found of conditions in an order is one thing, and nothing where all of them are met.
use Rattle.std.proofs.Common.{◌≡◌, ℕ, ◌+◌, ◌<◌, ◌≤◌, ◌⊎◌, inl, inr, sym, ◌∙◌, ap, subst, arith, Err}
use Rattle.std.proofs.lemmas.Bool.{cases_order}
use Rattle.mpc_rows.specs.declared.places.Place.{Place}
use Rattle.mpc_check.specs.declared.answers.Spot.{Spot}
use Rattle.mpc_condense.specs.declared.convex.ProgramError.{ProgramError}
use Rattle.mpc_condense.specs.declared.convex.ProgramError.TheVariants.{TooWide, NotDefinite, NoMemory}
use Rattle.mpc_check.specs.Findings.{Finding, refused, too_wide, not_definite, IsMet, IsUnmet, Each, IsFirstOf, IsFirstOfTwo, IsSearched, IsDecided}

-- nothing is found where all is met, and at most one thing anyway
pub record IsSingle (met : Type 0) (finds : Finding → Type 0) : Type 0 where
  pub not_met : (f : Finding) → finds f → met → ⊥
  pub one : (f g : Finding) → finds f → finds g → f ≡ g

-- ---- one condition
unmet_met : (fits holds : Type 0) (spot : Spot) (place : Place) (f : Finding) → IsUnmet fits holds spot place f → IsMet fits holds → ⊥
unmet_met fits holds spot place (refused s) u m = u.2 m.holds_so
unmet_met fits holds spot place (too_wide p) u m = u.1 m.fits_so
unmet_met fits holds spot place (not_definite j) u m = u

one_unmet : (fits holds : Type 0) (spot : Spot) (place : Place) (f g : Finding) → IsUnmet fits holds spot place f → IsUnmet fits holds spot place g → f ≡ g
one_unmet fits holds spot place (refused s) (refused t) u v = ap refused (u.0 ∙ sym v.0)
one_unmet fits holds spot place (refused s) (too_wide p) u v = absurd (v.1 u.1)
one_unmet fits holds spot place (refused s) (not_definite j) u v = absurd v
one_unmet fits holds spot place (too_wide p) (refused s) u v = absurd (u.1 v.1)
one_unmet fits holds spot place (too_wide p) (too_wide q) u v = ap too_wide (u.0 ∙ sym v.0)
one_unmet fits holds spot place (too_wide p) (not_definite j) u v = absurd v
one_unmet fits holds spot place (not_definite j) g u v = absurd u

pub single_condition : (fits holds : Type 0) (spot : Spot) (place : Place) → IsSingle (IsMet fits holds) (IsUnmet fits holds spot place)
single_condition fits holds spot place = record { not_met = unmet_met fits holds spot place; one = one_unmet fits holds spot place }

-- ---- conditions one after another
module _ (met : ℕ → Type 0) (finds : ℕ → Finding → Type 0) (count : ℕ) (each : (k : ℕ) → IsSingle (met k) (finds k)) where
  one_first : (f g : Finding) → IsFirstOf met finds count f → IsFirstOf met finds count g → f ≡ g
  one_first f g a b = by (cases_order a.place b.place)
    where
      by : (a.place ≡ b.place) ⊎ (a.place < b.place) ⊎ (b.place < a.place) → f ≡ g
      by (inl e) = (each b.place).one f g (subst (λ k. finds k f) e a.here) b.here
      by (inr (inl l)) = absurd ((each a.place).not_met f a.here (b.before a.place l))
      by (inr (inr l)) = absurd ((each b.place).not_met g b.here (a.before b.place l))

  pub single_list : IsSingle (Each met count) (IsFirstOf met finds count)
  single_list = record { not_met = λ f a all. (each a.place).not_met f a.here (all a.place a.within); one = one_first }

module _ (met later_met : Type 0) (finds later : Finding → Type 0) (first : IsSingle met finds) (second : IsSingle later_met later) where
  two_met : (f : Finding) → IsFirstOfTwo met finds later f → met → later_met → ⊥
  two_met f (inl a) m l = first.not_met f a m
  two_met f (inr a) m l = second.not_met f a.1 l

  one_of_two : (f g : Finding) → IsFirstOfTwo met finds later f → IsFirstOfTwo met finds later g → f ≡ g
  one_of_two f g (inl a) (inl b) = first.one f g a b
  one_of_two f g (inl a) (inr b) = absurd (first.not_met f a b.0)
  one_of_two f g (inr a) (inl b) = absurd (first.not_met g b a.0)
  one_of_two f g (inr a) (inr b) = second.one f g a.1 b.1

  pub single_pair : (both : Type 0) → (both → met) → (both → later_met) → IsSingle both (IsFirstOfTwo met finds later)
  single_pair both to_first to_second = record { not_met = λ f a b. two_met f a (to_first b) (to_second b); one = one_of_two }

-- ---- what a search answers, part by part
pub first_error : (met : ℕ → Type 0) (finds : ℕ → Finding → Type 0) (count k : ℕ) → k < count → Each met k → (e : ProgramError) → IsSearched (met k) (finds k) (Err e) → IsSearched (Each met count) (IsFirstOf met finds count) (Err e)
first_error met finds count k h before (TooWide place) s = record { place = k; within = h; before = before; here = s }
first_error met finds count k h before (NotDefinite j) s = record { place = k; within = h; before = before; here = s }
first_error met finds count k h before NoMemory s = tt

pub first_spot : (met : ℕ → Type 0) (finds : ℕ → Finding → Type 0) (count k : ℕ) → k < count → Each met k → (spot : Spot) → finds k (refused spot) → IsFirstOf met finds count (refused spot)
first_spot met finds count k h before spot s = record { place = k; within = h; before = before; here = s }

pub each_more : (met : ℕ → Type 0) (k : ℕ) → Each met k → met k → Each met (k + 1)
each_more met k before here j h = by (cases_order j k)
  where
    by : (j ≡ k) ⊎ (j < k) ⊎ (k < j) → met j
    by (inl e) = subst met (sym e) here
    by (inr (inl l)) = before j l
    by (inr (inr l)) = absurd (omega arith)

pub each_done : (met : ℕ → Type 0) (k count : ℕ) → count ≤ k → Each met k → Each met count
each_done met k count h all j l = all j (omega arith)

-- an error of the second part, or of the first
pub earlier_error : (met all : Type 0) (finds later : Finding → Type 0) (e : ProgramError) → IsSearched met finds (Err e) → IsSearched all (IsFirstOfTwo met finds later) (Err e)
earlier_error met all finds later (TooWide place) s = inl s
earlier_error met all finds later (NotDefinite j) s = inl s
earlier_error met all finds later NoMemory s = tt

-- an error of what decides one condition
pub condition_error : (fits holds : Type 0) (spot : Spot) (place : Place) (e : ProgramError) → IsDecided fits holds place (Err e) → IsSearched (IsMet fits holds) (IsUnmet fits holds spot place) (Err e)
condition_error fits holds spot place (TooWide p) d = d
condition_error fits holds spot place (NotDefinite j) d = d
condition_error fits holds spot place NoMemory d = tt
