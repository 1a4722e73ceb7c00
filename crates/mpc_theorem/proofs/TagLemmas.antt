-- What a tag says of a set is what the set's right verdict says.
use Rattle.std.proofs.Common.{◌≡◌, ℕ, false, List, refl, sym, subst, ◌∙◌}
use Rattle.mpc_space.specs.Definite.{IsDefinite}
use Rattle.mpc_rows.specs.declared.programs.Qp.{Qp}
use Rattle.mpc_rows.specs.declared.laws.Law.{Law as LawOf}
use Rattle.mpc_rows.specs.declared.verdicts.Verdict.{Verdict}
use Rattle.mpc_rows.specs.declared.verdicts.Verdict.TheVariants.{Dependent, Unreachable, Hollow, Region, Wide}
use Rattle.mpc_rows.specs.Laws.{HasRegion, HasLawWith}
use Rattle.mpc_rows.specs.Candidates.{CanGrow}
use Rattle.mpc_rows.specs.LawTheorems.{OneLaw}
use Rattle.mpc_rows.specs.Verdicts.{IsRight}
use Rattle.mpc_claim.specs.declared.events.Tag.{Tag}
use Rattle.mpc_claim.specs.declared.events.Tag.TheVariants.{Dependent as DependentTag, Unreachable as UnreachableTag, Hollow as HollowTag, Region as RegionTag, Wide as WideTag}
use Rattle.mpc_claim.specs.Board.{tag_of, is_wide}
use Rattle.mpc_claim.specs.History.{IsRightTag}
use Rattle.mpc_theorem.specs.Traces.{IsTagOf}

module _ (one_law : OneLaw) (qp : Qp) (definite : IsDefinite qp.h.rows) (s : List ℕ) where
  clash : CanGrow qp s → HasLawWith qp s (λ law. ¬ HasRegion qp law) → HasLawWith qp s (HasRegion qp) → ⊥
  clash grows hollow region =
      let independent = subst (λ t. CanGrow qp t) (sym hollow.of_set) grows in
      hollow.holds (subst (HasRegion qp) (sym (one_law qp definite hollow.law region.law hollow.is_law region.is_law (hollow.of_set ∙ sym region.of_set) independent.independent)) region.holds)

  with_law : (law : LawOf) → IsRight qp s (Region law) → HasLawWith qp s (HasRegion qp)
  with_law law r = record { law = law; of_set = r.0.1; is_law = r.0.2; holds = r.0.3 }

  same_tag : (v : Verdict) (tag : Tag) → IsRight qp s v → is_wide v ≡ false → IsTagOf qp s tag → tag_of v ≡ tag
  same_tag Dependent DependentTag r n t = refl
  same_tag Dependent UnreachableTag r n t = absurd (r.0 t.0)
  same_tag Dependent HollowTag r n t = absurd (r.0 t.0.independent)
  same_tag Dependent RegionTag r n t = absurd (r.0 t.0.independent)
  same_tag Unreachable DependentTag r n t = absurd (t r.0.0)
  same_tag Unreachable UnreachableTag r n t = refl
  same_tag Unreachable HollowTag r n t = absurd (r.0.1 t.0.reachable)
  same_tag Unreachable RegionTag r n t = absurd (r.0.1 t.0.reachable)
  same_tag Hollow DependentTag r n t = absurd (t r.0.0.independent)
  same_tag Hollow UnreachableTag r n t = absurd (t.1 r.0.0.reachable)
  same_tag Hollow HollowTag r n t = refl
  same_tag Hollow RegionTag r n t = absurd (clash t.0 r.0.1 t.1)
  same_tag (Region law) DependentTag r n t = absurd (t r.0.0.independent)
  same_tag (Region law) UnreachableTag r n t = absurd (t.1 r.0.0.reachable)
  same_tag (Region law) HollowTag r n t = absurd (clash t.0 t.1 (with_law law r))
  same_tag (Region law) RegionTag r n t = refl
  same_tag (Wide place) tag r n t = absurd cc
  same_tag v WideTag r n t = absurd t

  pub right_tag : ((verdict : Verdict) × IsRight qp s verdict × (is_wide verdict ≡ false)) → (tag : Tag) → IsTagOf qp s tag → IsRightTag qp s tag
  right_tag r tag t = record { verdict = r.0; right = r.1; tagged = same_tag r.0 tag r.1 r.2 t }
