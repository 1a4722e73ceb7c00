-- A section has one answer.
use Rattle.std.proofs.Common.{◌≡◌, ℕ, ◌+◌, List, ◌++◌, refl, ap, subst, arith}
use Rattle.mpc_plant.specs.declared.faults.PlantKind.{PlantKind}
use Rattle.mpc_plant.specs.declared.plants.Plant.{Plant}
use Rattle.mpc_plant.specs.WholePlant.{ReadsAsPlant, IsFirstFault}
use Rattle.mpc_plant.specs.Readings.{stated, faulty, OneReading}
use Rattle.mpc_rows.specs.declared.places.Place.{Place}
use Rattle.mpc_grammar.specs.declared.versions.Version.TheVariants.{Three}
use Rattle.mpc_grammar.specs.FileGrammar.{Spells}
use Rattle.mpc_grammar.specs.TextTheorems.{OneText as OneFileText}
use Rattle.mpc_synthesis.specs.Controllers.{OneController}
use Rattle.mpc_synthesis.specs.Refusals.{controller}
use Rattle.mpc_synthesis.specs.Outcomes.{not_definite as stops_at, too_wide as wide_at, complete, IsOutcome, OneOutcome}
use Rattle.mpc_status.specs.declared.status.Status.{Status}
use Rattle.mpc_status.specs.declared.status.Status.TheVariants.{BadPlant, NotDefinite, TooWide}
use Rattle.mpc_status.specs.StatusText.{line_of}
use Rattle.mpc_sections.specs.Sections.{sections_of}
use Rattle.mpc_sections.specs.Alone.{IsFile, IsPlantAnswer, not_definite, too_wide, compiled, no_plant, of_plant, heading, none, one_more, OneAlone, OneText}
use Rattle.mpc_sections.specs.Outcomes.{too_many_plants, answered, OneFleetOutcome}

-- ---- a plant
lines_too : (s t : Status) → s ≡ t → (s ≡ t) × (line_of s ≡ line_of t)
lines_too s t e = (e, ap line_of e)

module _ (readings : OneReading) (outcomes : OneOutcome) (controllers : OneController) (texts : OneFileText) where
  pivots : (plant : Plant) (j k : ℕ) → stops_at j ≡ stops_at k → NotDefinite j ≡ NotDefinite k
  pivots plant j k e = cc

  places : (plant : Plant) (p q : Place) → wide_at p ≡ wide_at q → TooWide p ≡ TooWide q
  places plant p q e = cc

  ends : (plant : Plant) (text : List ℕ) → IsFile plant text → IsOutcome controller plant complete
  ends plant text f = (f.qp, (f.parts, f.controller))

  one_of_plant : (plant : Plant) (status other : Status) (text others : List ℕ) → IsPlantAnswer plant status text → IsPlantAnswer plant other others → (status ≡ other) × (text ≡ others)
  one_of_plant plant _ _ _ _ (not_definite j h) (not_definite k g) = lines_too (NotDefinite j) (NotDefinite k) (pivots plant j k (outcomes controller plant (stops_at j) (stops_at k) h g))
  one_of_plant plant _ _ _ _ (not_definite j h) (too_wide q g) = let e = outcomes controller plant (stops_at j) (wide_at q) h g in absurd (cc)
  one_of_plant plant _ _ _ _ (not_definite j h) (compiled text g) = let e = outcomes controller plant (stops_at j) complete h (ends plant text g) in absurd (cc)
  one_of_plant plant _ _ _ _ (too_wide p h) (not_definite k g) = let e = outcomes controller plant (wide_at p) (stops_at k) h g in absurd (cc)
  one_of_plant plant _ _ _ _ (too_wide p h) (too_wide q g) = lines_too (TooWide p) (TooWide q) (places plant p q (outcomes controller plant (wide_at p) (wide_at q) h g))
  one_of_plant plant _ _ _ _ (too_wide p h) (compiled text g) = let e = outcomes controller plant (wide_at p) complete h (ends plant text g) in absurd (cc)
  one_of_plant plant _ _ _ _ (compiled text h) (not_definite k g) = let e = outcomes controller plant complete (stops_at k) (ends plant text h) g in absurd (cc)
  one_of_plant plant _ _ _ _ (compiled text h) (too_wide q g) = let e = outcomes controller plant complete (wide_at q) (ends plant text h) g in absurd (cc)
  one_of_plant plant _ _ _ _ (compiled text h) (compiled others g) =
      (refl, texts text others Three h.parts h.written (subst (Spells others Three) (controllers plant g.qp h.qp g.parts h.parts g.controller h.controller) g.written))

  -- ---- a section
  same_plant : (bytes : List ℕ) (x y : Plant) → ReadsAsPlant bytes x → ReadsAsPlant bytes y → x ≡ y
  same_plant bytes x y h k = let e = readings bytes (stated x) (stated y) h k in cc

  no_file : (bytes : List ℕ) (plant : Plant) (kind : PlantKind) (path : List ℕ) → ReadsAsPlant bytes plant → IsFirstFault bytes kind path → ⊥
  no_file bytes plant kind path h k = let e = readings bytes (stated plant) (faulty kind path) h k in cc

  one_fault : (bytes : List ℕ) (kind other : PlantKind) (path long : List ℕ) → IsFirstFault bytes kind path → IsFirstFault bytes other long → BadPlant kind path ≡ BadPlant other long
  one_fault bytes kind other path long h k = let e = readings bytes (faulty kind path) (faulty other long) h k in cc

  pub one_alone : OneAlone
  one_alone section _ _ _ _ (no_plant kind path h) (no_plant other long k) = lines_too (BadPlant kind path) (BadPlant other long) (one_fault section kind other path long h k)
  one_alone section _ _ _ _ (no_plant kind path h) (of_plant plant status text r k) = absurd (no_file section plant kind path r h)
  one_alone section _ _ _ _ (of_plant plant status text r h) (no_plant kind path k) = absurd (no_file section plant kind path r k)
  one_alone section _ _ _ _ (of_plant plant status text r h) (of_plant same other others q k) =
      one_of_plant same status other text others (subst (λ (p : Plant). IsPlantAnswer p status text) (same_plant section plant same r q) h) k

  -- ---- all of them
  pub one_text : OneText
  one_text number _ _ _ (none n) (none m) = refl
  one_text number _ _ _ (one_more n section status text sections texts h more) (one_more m section' other others sections' texts' k others_more) =
      let e = one_alone section status other text others h k in
      let r = one_text (number + 1) sections texts texts' more others_more in
      λ i. (heading number (e.0 i) ++ e.1 i) ++ r i

  pub one_fleet_outcome : OneFleetOutcome
  one_fleet_outcome input too_many_plants too_many_plants h k = refl
  one_fleet_outcome input too_many_plants (answered text) h k = let m = k.0 in absurd (omega (arith, h, m))
  one_fleet_outcome input (answered text) too_many_plants h k = let m = h.0 in absurd (omega (arith, k, m))
  one_fleet_outcome input (answered text) (answered other) h k = ap answered (one_text 1 (sections_of input) text other h.1 k.1)
