-- The systems of targets as they are built, and what is found of them.
use Rattle.std.proofs.Common.{◌≡◌, ℕ, ◌<◌, inl, inr, List, [], ◌∷◌, ◌++◌, ◌+◌, length, take, get_or, Option, Some, None, IfSome, map, All, sym, ◌∙◌, ap, subst, append_assoc, arith, Result}
use Rattle.std.proofs.lemmas.List.{take_more, take-map}
use Rattle.std.proofs.lemmas.List.Elements.{All-take}
use Rattle.std.specs.Result.{MatchResult}
use Rattle.std.proofs.lemmas.Result.{MatchResult-weaker}
use Rattle.mpc_exact.specs.Rational.{ℚ}
use Rattle.mpc_plant.specs.declared.plants.Plant.{Plant}
use Rattle.mpc_rows.specs.declared.systems.Row.{Row}
use Rattle.mpc_rows.specs.declared.trees.Node.{Node}
use Rattle.mpc_controller.specs.declared.ways.Turn.{Turn}
use Rattle.mpc_controller.specs.Ways.{turn_row, way_rows}
use Rattle.mpc_recur.specs.Forms.{substituted, SubstitutedFits}
use Rattle.mpc_recur.specs.Met.{AreMet}
use Rattle.mpc_rows.specs.LinearSystem.{LinearSystem}
use Rattle.mpc_rows.specs.SetRuns.{box_rows}
use Rattle.mpc_controller.specs.Parts.{limits_of}
use Rattle.mpc_recur.specs.declared.answers.Next.{Next}
use Rattle.mpc_recur.specs.declared.answers.Stop.{Stop}
use Rattle.mpc_recur.specs.declared.answers.Stop.TheVariants.{Reached, Wide, NoMemory}
use Rattle.mpc_recur.specs.Findings.{Finding, IsRuledOut, TargetFinds, IsStop, Each, IsFirstOf, IsFirstOfTwo}
use Rattle.mpc_recur.specs.Targets.{IsBaseOf, with_rows, leaf_system}

abbrev Done : Type 0
Done = Unit {0}

-- ---- one row more, in whole numbers too
pub both_longer : (whole longer : Option LinearSystem) (old new : LinearSystem) (row : Row) → IfSome whole (λ w. w ≡ old) → IfSome longer (λ l. (s : LinearSystem) × (whole ≡ Some s) × (l ≡ with_rows s (row ∷ []))) → new.width ≡ old.width → new.rows ≡ old.rows ++ row ∷ [] → IfSome longer (λ w. w ≡ new)
both_longer whole None old new row same h ew er = h
both_longer whole (Some w) old new row same h ew er =
    let old_is : h.0 ≡ old = subst (λ o. IfSome o (λ w. w ≡ old)) h.1 same in
    h.2 ∙ ap (λ s. with_rows s (row ∷ [])) old_is ∙ sym (λ i. record { width = ew i; rows = er i })

-- ---- ways that begin alike
pub shared_more : (first second : List Turn) (k : ℕ) (d e : Turn) → k < length first → k < length second → take k first ≡ take k second → get_or first k d ≡ get_or second k e → take (k + 1) first ≡ take (k + 1) second
shared_more first second k d e h l before here = take_more first k d h ∙ (λ i. before i ++ here i ∷ []) ∙ sym (take_more second k e l)

module _ (nodes : List Node) (first second : List Turn) (k : ℕ) (alike : take k first ≡ take k second) where
  pub rows_taken : (f : Row → Row) (rows : List Row) → rows ≡ map f (way_rows nodes first) → take k rows ≡ map f (way_rows nodes (take k second))
  rows_taken f rows e = ap (take k) e ∙ take-map f k (way_rows nodes first) ∙ ap (map f) (take-map (turn_row nodes) k first ∙ ap (way_rows nodes) alike)

  pub fits_taken : (P : Row → Type 0) → All P (way_rows nodes first) → All P (way_rows nodes (take k second))
  fits_taken P all = subst (All P) (take-map (turn_row nodes) k first ∙ ap (way_rows nodes) alike) (All-take P k (way_rows nodes first) all)

-- ---- the rows of no turn
pub met_first : (nodes : List Node) (forms given : List (List ℚ)) (turns : List Turn) (s : LinearSystem) → forms ≡ given → turns ≡ [] → s.width ≡ length given → s.rows ≡ [] → AreMet nodes forms turns s
met_first nodes forms given turns s ef et ew er = record {
  width = ew ∙ ap length (sym ef);
  rows = er ∙ ap (λ way. map (substituted (length forms) forms) (way_rows nodes way)) (sym et);
  fits = subst (λ way. All (SubstitutedFits (length forms) forms) (way_rows nodes way)) (sym et) (λ k d h. absurd (omega arith));
}

-- ---- what is found of equal systems, and with more that must fit
pub found_there : (r : Result Done Stop) (s other : LinearSystem) (one : Next) → s ≡ other → MatchResult r (λ _. IsRuledOut (Unit {0}) s) (IsStop (TargetFinds (Unit {0}) s one)) → MatchResult r (λ _. IsRuledOut (Unit {0}) other) (IsStop (TargetFinds (Unit {0}) other one))
found_there r s other one e h = subst (λ x. MatchResult r (λ _. IsRuledOut (Unit {0}) x) (IsStop (TargetFinds (Unit {0}) x one))) e h

module _ (forming : Type 0) (s : LinearSystem) (one : Next) (fits : forming) where
  ruled_out_with : IsRuledOut (Unit {0}) s → IsRuledOut forming s
  ruled_out_with h = record { fits = record { rows_fit = fits; run_fits = h.fits.run_fits }; no_point = h.no_point }

  stops_with : (e : Stop) → IsStop (TargetFinds (Unit {0}) s one) e → IsStop (TargetFinds forming s one) e
  stops_with (Reached n pairs) h = (h.0, record { fits = record { rows_fit = fits; run_fits = h.1.fits.run_fits }; point = h.1.point; ends = h.1.ends })
  stops_with (Wide n) h = (h.0, λ f. h.1 (record { rows_fit = tt; run_fits = f.run_fits }))
  stops_with NoMemory h = tt

  pub found_with : (r : Result Done Stop) → MatchResult r (λ _. IsRuledOut (Unit {0}) s) (IsStop (TargetFinds (Unit {0}) s one)) → MatchResult r (λ _. IsRuledOut forming s) (IsStop (TargetFinds forming s one))
  found_with r h = MatchResult-weaker r h (λ u. ruled_out_with) stops_with

-- ---- the rows of a target behind the base
pub on_base : (plant : Plant) (path last : List Row) (s : LinearSystem) → IsBaseOf plant path s → with_rows s last ≡ leaf_system plant path last
on_base plant path last s base = λ i. record { width = base.width i; rows = (ap (λ r. r ++ last) base.rows ∙ append_assoc (box_rows plant.n (limits_of plant)) path last) i }

-- ---- one after another
pub first_stop : (met : ℕ → Type 0) (finds : ℕ → Finding → Type 0) (count k : ℕ) → k < count → Each met k → (e : Stop) → IsStop (finds k) e → IsStop (IsFirstOf met finds count) e
first_stop met finds count k h before (Reached n pairs) s = record { place = k; within = h; before = before; here = s }
first_stop met finds count k h before (Wide n) s = record { place = k; within = h; before = before; here = s }
first_stop met finds count k h before NoMemory s = tt

pub earlier_stop : (met : Type 0) (finds later : Finding → Type 0) (e : Stop) → IsStop finds e → IsStop (IsFirstOfTwo met finds later) e
earlier_stop met finds later (Reached n pairs) s = inl s
earlier_stop met finds later (Wide n) s = inl s
earlier_stop met finds later NoMemory s = tt

pub later_stop : (met : Type 0) (finds later : Finding → Type 0) (e : Stop) → met → IsStop later e → IsStop (IsFirstOfTwo met finds later) e
later_stop met finds later (Reached n pairs) m s = inr (m, s)
later_stop met finds later (Wide n) m s = inr (m, s)
later_stop met finds later NoMemory m s = tt
