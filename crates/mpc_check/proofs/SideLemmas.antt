-- Neighbouring stretches, searched side by side.
use Rattle.std.proofs.Common.{◌≡◌, ℕ, suc, ◌+◌, ◌-◌, ◌/◌, ◌<◌, ◌≤◌, List, [], ◌∷◌, ◌++◌, length, get_or, drop, drop-cons, refl, ap, sym, ◌∙◌, subst, arith, Option, Some, None, Result, Ok, Err, Bool}
use Rattle.std.specs.Prelude.{slice_get, slice_index_or, All, IsTrue}
use Rattle.std.proofs.lemmas.List.Elements.{All-nil, All-cons, All-head, All-tail}
use Rattle.std.proofs.Math.Nat.{div-le_self}
use Rattle.std.proofs.lemmas.List.{drop_all}
use Rattle.mpc_rows.specs.declared.programs.Qp.{Qp}
use Rattle.mpc_rows.specs.declared.laws.Law.{Law}
use Rattle.mpc_rows.specs.declared.trees.Node.{Node}
use Rattle.mpc_check.specs.declared.answers.Spot.{Spot}
use Rattle.mpc_condense.specs.declared.convex.ProgramError.{ProgramError}
use Rattle.mpc_check.specs.declared.stretches.Stretch.{Stretch}
use Rattle.mpc_check.specs.Findings.{Finding, EachFrom, IsSearched}
use Rattle.mpc_check.specs.LawConditions.{LawMet, LawAtMet}
use Rattle.mpc_check.specs.LeafConditions.{NodeAtMet, NodeAtFinds, StretchMet, StretchFinds}
use Rattle.mpc_check.specs.Stretches.{IsStretchOf, AreNeighbours, AreSearched, AnswersAsOne}
use Rattle.mpc_check.proofs.StretchLemmas.{none_yet, both_met, further_spot, further_error, later_searched}

-- ---- how a list is cut
pub neighbours_rise : (from to : ℕ) (stretches : List Stretch) → AreNeighbours from to stretches → from ≤ to
neighbours_rise from to [] h = omega (arith, h)
neighbours_rise from to (s ∷ stretches) h = let rest = neighbours_rise s.to to stretches h.2 in omega (arith, h.0, h.1, rest)

pub one_more_stretch : (from middle : ℕ) (stretches : List Stretch) (s : Stretch) → AreNeighbours from middle stretches → s.from ≡ middle → s.from ≤ s.to → AreNeighbours from s.to (stretches ++ s ∷ [])
one_more_stretch from middle [] s h begins rises = (begins ∙ sym h, rises, refl)
one_more_stretch from middle (first ∷ stretches) s h begins rises = (h.0, h.1, one_more_stretch first.to middle stretches s h.2 begins rises)

pub each_stretch : (from to : ℕ) (stretches : List Stretch) → AreNeighbours from to stretches → All (IsStretchOf to) stretches
each_stretch from to [] h = All-nil (IsStretchOf to)
each_stretch from to (s ∷ stretches) h =
    All-cons (IsStretchOf to) s stretches (record { in_order = h.1; inside = neighbours_rise s.to to stretches h.2 }) (each_stretch s.to to stretches h.2)

-- the last stretch takes all that is left
pub all_left : (from places parts : ℕ) → from ≤ places → parts ≡ 1 → from + (places - from) / parts ≡ places
all_left from places parts low one = (λ i. from + (places - from) / one i) ∙ by (places - from) (omega arith)
  where
    by : (rest : ℕ) → from + rest ≡ places → from + rest / 1 ≡ places
    by rest h = grind (arith, h)

pub some_left : (from places parts : ℕ) → from ≤ places → from + (places - from) / parts ≤ places
some_left from places parts low = let part = div-le_self (places - from) parts in omega (arith, low, part)

-- ---- whether all laws are seen to be met
pub law_there : (qp : Qp) (laws : List Law) (place : ℕ) (law : Law) → slice_get laws place ≡ Some law → LawMet qp law → LawAtMet qp laws place
law_there qp laws place law is met other at = (let same : law ≡ other = cc in subst (LawMet qp) same met)

module _ (met : ℕ → Type 0) (finds : ℕ → Finding → Type 0) where
  pub stretches_met : (from to : ℕ) (stretches : List Stretch) (answers : List Bool) → AreNeighbours from to stretches → length answers ≡ length stretches → All IsTrue answers
      → ((i : ℕ) (s : Stretch) (answer : Bool) → i < length stretches → IsTrue (slice_index_or answers i answer) → EachFrom met (slice_index_or stretches i s).from (slice_index_or stretches i s).to) → EachFrom met from to
  stretches_met from to [] [] cut same all each = subst (λ e. EachFrom met from e) cut (none_yet met finds from)
  stretches_met from to [] (answer ∷ answers) cut same all each = absurd (omega (arith, same))
  stretches_met from to (s ∷ stretches) [] cut same all each = absurd (omega (arith, same))
  stretches_met from to (s ∷ stretches) (answer ∷ answers) cut same all each =
      both_met met finds from s.to to (subst (λ f. EachFrom met f s.to) cut.0 (each 0 s answer (omega arith) (All-head IsTrue answer answers all)))
      (stretches_met s.to to stretches answers cut.2 (omega (arith, same)) (All-tail IsTrue answer answers all) (λ i t a inside. each (suc i) t a (omega (arith, inside))))

-- ---- what is found
-- the first answer that isn't that all is met
abbrev pub first_of : List (Result (Option Spot) ProgramError) → Result (Option Spot) ProgramError
first_of [] = Ok None
first_of (Ok None ∷ answers) = first_of answers
first_of (Ok (Some spot) ∷ answers) = Ok (Some spot)
first_of (Err e ∷ answers) = Err e

-- an answer that all is met is passed over, and every other one is the first
at_place : (answers : List (Result (Option Spot) ProgramError)) (i : ℕ) (x : Result (Option Spot) ProgramError) → i < length answers → x ≡ get_or answers i x → drop i answers ≡ x ∷ drop (i + 1) answers
at_place answers i x inside is =
    let next : suc i ≡ i + 1 = omega arith in
    drop-cons answers i x inside ∙ (λ j. sym is j ∷ drop (next j) answers)

pub passed_over : (answers : List (Result (Option Spot) ProgramError)) (i : ℕ) (x : Result (Option Spot) ProgramError) → i < length answers → x ≡ get_or answers i x → x ≡ Ok None → first_of answers ≡ first_of (drop i answers) → first_of answers ≡ first_of (drop (i + 1) answers)
passed_over answers i x inside is none h = h ∙ ap first_of (at_place answers i x inside is) ∙ (λ j. first_of (none j ∷ drop (i + 1) answers))

first_by : (x : Result (Option Spot) ProgramError) (answers : List (Result (Option Spot) ProgramError)) → ¬ (x ≡ Ok None) → first_of (x ∷ answers) ≡ x
first_by (Ok None) answers other = absurd (other refl)
first_by (Ok (Some spot)) answers other = refl
first_by (Err e) answers other = refl

pub first_at : (answers : List (Result (Option Spot) ProgramError)) (i : ℕ) (x : Result (Option Spot) ProgramError) → i < length answers → x ≡ get_or answers i x → ¬ (x ≡ Ok None) → first_of answers ≡ first_of (drop i answers) → first_of answers ≡ x
first_at answers i x inside is other h = h ∙ ap first_of (at_place answers i x inside is) ∙ first_by x (drop (i + 1) answers) other

pub none_of : (answers : List (Result (Option Spot) ProgramError)) (i : ℕ) → length answers ≤ i → first_of answers ≡ first_of (drop i answers) → first_of answers ≡ Ok None
none_of answers i all h = h ∙ ap first_of (drop_all i answers all)

module _ (qp : Qp) (laws : List Law) (nodes : List Node) where
  abbrev Searched : ℕ → ℕ → Result (Option Spot) ProgramError → Type 0
  Searched from to = IsSearched (StretchMet qp laws nodes from to) (StretchFinds qp laws nodes from to)

  pub each_searched : (stretches : List Stretch) (answers : List (Result (Option Spot) ProgramError)) → length answers ≡ length stretches
      → ((i : ℕ) (s : Stretch) (answer : Result (Option Spot) ProgramError) → i < length stretches → IsSearched (StretchMet qp laws nodes (slice_index_or stretches i s).from (slice_index_or stretches i s).to) (StretchFinds qp laws nodes (slice_index_or stretches i s).from (slice_index_or stretches i s).to) (slice_index_or answers i answer))
      → AreSearched qp laws nodes stretches answers
  each_searched [] [] same each = tt
  each_searched [] (answer ∷ answers) same each = absurd (omega (arith, same))
  each_searched (s ∷ stretches) [] same each = absurd (omega (arith, same))
  each_searched (s ∷ stretches) (answer ∷ answers) same each =
      (each 0 s answer (omega arith), each_searched stretches answers (omega (arith, same)) (λ i t a inside. each (suc i) t a (omega (arith, inside))))

  -- it answers for all as one
  pub as_one : (from to : ℕ) (stretches : List Stretch) (answers : List (Result (Option Spot) ProgramError)) → AreNeighbours from to stretches → AreSearched qp laws nodes stretches answers → Searched from to (first_of answers)
  as_one from to [] [] h s = subst (λ e. StretchMet qp laws nodes from e) h (none_yet (NodeAtMet qp laws nodes) (NodeAtFinds qp laws nodes) from)
  as_one from to [] (answer ∷ answers) h s = absurd s
  as_one from to (first ∷ stretches) [] h s = absurd s
  as_one from to (first ∷ stretches) (Ok None ∷ answers) h s =
      subst (λ f. Searched f to (first_of answers)) h.0
      (later_searched (NodeAtMet qp laws nodes) (NodeAtFinds qp laws nodes) first.from first.to to h.1 (neighbours_rise first.to to stretches h.2) s.0 (first_of answers) (as_one first.to to stretches answers h.2 s.1))
  as_one from to (first ∷ stretches) (Ok (Some spot) ∷ answers) h s =
      subst (λ f. Searched f to (Ok (Some spot))) h.0 (further_spot (NodeAtMet qp laws nodes) (NodeAtFinds qp laws nodes) first.from first.to to h.1 (neighbours_rise first.to to stretches h.2) spot s.0)
  as_one from to (first ∷ stretches) (Err e ∷ answers) h s =
      subst (λ f. Searched f to (Err e)) h.0 (further_error (NodeAtMet qp laws nodes) (NodeAtFinds qp laws nodes) first.from first.to to h.1 (neighbours_rise first.to to stretches h.2) e s.0)

pub answers_as_one : (answers : List (Result (Option Spot) ProgramError)) (answer : Result (Option Spot) ProgramError) → first_of answers ≡ answer → AnswersAsOne answers answer
answers_as_one answers answer is qp laws nodes from to stretches neighbours searched =
    subst (λ r. IsSearched (StretchMet qp laws nodes from to) (StretchFinds qp laws nodes from to) r) is (as_one qp laws nodes from to stretches answers neighbours searched)
