-- Stretches of neighbouring parts, one behind the other.
use Rattle.std.proofs.Common.{◌≡◌, ℕ, ◌+◌, ◌<◌, ◌≤◌, ◌⊎◌, inl, inr, subst, arith, Option, Some, None, Result, Ok, Err}
use Rattle.std.proofs.lemmas.Bool.{cases_order}
use Rattle.mpc_check.specs.declared.answers.Spot.{Spot}
use Rattle.mpc_condense.specs.declared.convex.ProgramError.{ProgramError}
use Rattle.mpc_condense.specs.declared.convex.ProgramError.TheVariants.{TooWide, NotDefinite, NoMemory}
use Rattle.mpc_check.specs.Findings.{Finding, refused, too_wide, not_definite, Each, IsFirstOf, EachFrom, IsFirstFrom, IsFirstOfTwo, IsSearched}

module _ (met : ℕ → Type 0) (finds : ℕ → Finding → Type 0) where
  -- ---- two stretches
  pub both_met : (from middle to : ℕ) → EachFrom met from middle → EachFrom met middle to → EachFrom met from to
  both_met from middle to first second k low high = by (cases_order k middle)
    where
      by : (k ≡ middle) ⊎ (k < middle) ⊎ (middle < k) → met k
      by (inl e) = second k (omega arith) high
      by (inr (inl l)) = first k low l
      by (inr (inr l)) = second k (omega arith) high

  pub first_found : (from middle to : ℕ) (f : Finding) → from ≤ middle → middle ≤ to → IsFirstOfTwo (EachFrom met from middle) (IsFirstFrom met finds from middle) (IsFirstFrom met finds middle to) f → IsFirstFrom met finds from to f
  first_found from middle to f low high (inl h) = record { place = h.place; from_first = h.from_first; within = omega (arith, h.within); before = h.before; here = h.here }
  first_found from middle to f low high (inr h) = record {
    place = h.1.place;
    from_first = omega (arith, h.1.from_first);
    within = h.1.within;
    before = both_met from middle h.1.place h.0 h.1.before;
    here = h.1.here;
  }

  -- what is found of the first stretch is found of both
  pub further_spot : (from middle to : ℕ) → from ≤ middle → middle ≤ to → (spot : Spot) → IsFirstFrom met finds from middle (refused spot) → IsFirstFrom met finds from to (refused spot)
  further_spot from middle to low high spot h = first_found from middle to (refused spot) low high (inl h)

  pub further_error : (from middle to : ℕ) → from ≤ middle → middle ≤ to → (e : ProgramError) → IsSearched (EachFrom met from middle) (IsFirstFrom met finds from middle) (Err e) → IsSearched (EachFrom met from to) (IsFirstFrom met finds from to) (Err e)
  further_error from middle to low high (TooWide place) h = first_found from middle to (too_wide place) low high (inl h)
  further_error from middle to low high (NotDefinite j) h = first_found from middle to (not_definite j) low high (inl h)
  further_error from middle to low high NoMemory h = tt

  -- where the first is met, both are searched with the answer of the second
  pub later_searched : (from middle to : ℕ) → from ≤ middle → middle ≤ to → EachFrom met from middle → (r : Result (Option Spot) ProgramError) → IsSearched (EachFrom met middle to) (IsFirstFrom met finds middle to) r → IsSearched (EachFrom met from to) (IsFirstFrom met finds from to) r
  later_searched from middle to low high first (Ok None) s = both_met from middle to first s
  later_searched from middle to low high first (Ok (Some spot)) s = first_found from middle to (refused spot) low high (inr (first, s))
  later_searched from middle to low high first (Err (TooWide place)) s = first_found from middle to (too_wide place) low high (inr (first, s))
  later_searched from middle to low high first (Err (NotDefinite j)) s = first_found from middle to (not_definite j) low high (inr (first, s))
  later_searched from middle to low high first (Err NoMemory) s = tt

  -- ---- part by part
  pub none_yet : (from : ℕ) → EachFrom met from from
  none_yet from k low high = absurd (omega arith)

  pub one_more : (from k : ℕ) → EachFrom met from k → met k → EachFrom met from (k + 1)
  one_more from k before here = both_met from k (k + 1) before (λ j low high. let same : k ≡ j = omega arith in subst met same here)

  pub stretch_error : (from to k : ℕ) → from ≤ k → k < to → EachFrom met from k → (e : ProgramError) → IsSearched (met k) (finds k) (Err e) → IsSearched (EachFrom met from to) (IsFirstFrom met finds from to) (Err e)
  stretch_error from to k low high before (TooWide place) s = record { place = k; from_first = low; within = high; before = before; here = s }
  stretch_error from to k low high before (NotDefinite j) s = record { place = k; from_first = low; within = high; before = before; here = s }
  stretch_error from to k low high before NoMemory s = tt

  -- ---- the stretch of all parts
  pub all_met : (count : ℕ) → EachFrom met 0 count → Each met count
  all_met count all k high = all k (omega arith) high

  all_found : (count : ℕ) (f : Finding) → IsFirstFrom met finds 0 count f → IsFirstOf met finds count f
  all_found count f h = record { place = h.place; within = h.within; before = all_met h.place h.before; here = h.here }

  pub whole_searched : (count : ℕ) (r : Result (Option Spot) ProgramError) → IsSearched (EachFrom met 0 count) (IsFirstFrom met finds 0 count) r → IsSearched (Each met count) (IsFirstOf met finds count) r
  whole_searched count (Ok None) s = all_met count s
  whole_searched count (Ok (Some spot)) s = all_found count (refused spot) s
  whole_searched count (Err (TooWide place)) s = all_found count (too_wide place) s
  whole_searched count (Err (NotDefinite j)) s = all_found count (not_definite j) s
  whole_searched count (Err NoMemory) s = tt
