-- What the libraries write of controllers is the output of their commands.
use Rattle.std.specs.Global.{Vec}
use Rattle.std.proofs.Common.{◌≡◌, ℕ, ◌+◌, ◌^◌, ◌<◌, List, ◌++◌, length, refl, arith, length-append}
use Rattle.mpc_plant.specs.declared.plants.Plant.{Plant}
use Rattle.mpc_plant.specs.WholePlant.{ReadsAsPlant}
use Rattle.mpc_synthesis.specs.Refusals.{controller}
use Rattle.mpc_synthesis.specs.Outcomes.{not_definite, too_wide, complete}
use Rattle.mpc_sections.specs.Alone.{IsPlantAnswer, not_definite as not_definite_alone, too_wide as too_wide_alone, compiled, IsFile as IsWritten, IsAlone, no_plant, of_plant, heading, AreAnswered as AreAnsweredAlone, none as none_alone, one_more as one_more_alone}
use Rattle.mpc_status.specs.declared.status.Status.{Status}
use Rattle.mpc_status.specs.declared.status.Status.TheVariants.{Done, BadPlant, NotDefinite, TooWide}
use Rattle.mpc_status.specs.StatusText.{line_of}
use Rattle.mpc_theorem.specs.Fleets.{AreAnswered, none, one_more}
use Rattle.mpc_cli.specs.declared.commands.Command.TheVariants.{OfPlant}
use Rattle.mpc_cli.specs.declared.commands.PlantCommand.TheVariants.{Compile}
use Rattle.mpc_cli.specs.Causes.{IsDueTo}
use Rattle.mpc_cli.specs.Statuses.{PlantEnd, bad_plant, ends, IsPlantEnd, plant_status, DueIsWhatComes}
use Rattle.mpc_cli.specs.Outputs.{IsSectionAnswer}
use Rattle.mpc_cli.proofs.EndLemmas.{done_text, line_text}

-- a vector's bytes are fewer than 2^64
pub few_bytes : (v : Vec ℕ) → length v.items < 2 ^ 64
few_bytes v = let ok = v.ok in let small = v.small in omega arith

module _ (same : DueIsWhatComes) where
  -- a section's answer, and what is written of its controller
  module _ (IsFile : List ℕ → List ℕ → Type 0) (section : List ℕ) where
    due_to : (e : PlantEnd) → IsPlantEnd controller section e → IsDueTo (OfPlant (Compile 1)) section (plant_status e)
    due_to e h = (same (OfPlant (Compile 1)) section (plant_status e)).0 (record { outcome = e; came = h; status_is = refl })

    plant_alone : (plant : Plant) (status : Status) (text : List ℕ) → ReadsAsPlant section plant → (IsWritten plant text → IsFile section text) → IsPlantAnswer plant status text → IsSectionAnswer IsFile section status text
    plant_alone plant _ _ read file (not_definite_alone pivot h) = record {
      due = due_to (ends (not_definite pivot)) (record { plant = plant; read = read; so = h });
      text_is = line_text (IsFile section) (NotDefinite pivot) (NotDefinite pivot) (line_of (NotDefinite pivot)) (λ d. absurd cc) refl refl;
    }
    plant_alone plant _ _ read file (too_wide_alone place h) = record {
      due = due_to (ends (too_wide place)) (record { plant = plant; read = read; so = h });
      text_is = line_text (IsFile section) (TooWide place) (TooWide place) (line_of (TooWide place)) (λ d. absurd cc) refl refl;
    }
    plant_alone plant _ _ read file (compiled text h) = record {
      due = due_to (ends complete) (record { plant = plant; read = read; so = (h.qp, (h.parts, h.controller)) });
      text_is = done_text (IsFile section) Done text text refl refl (file h);
    }

    section_alone : (status : Status) (text : List ℕ) → ((plant : Plant) → ReadsAsPlant section plant → IsWritten plant text → IsFile section text) → IsAlone section status text → IsSectionAnswer IsFile section status text
    section_alone _ _ file (no_plant kind path h) = record {
      due = due_to (bad_plant kind path) h;
      text_is = line_text (IsFile section) (BadPlant kind path) (BadPlant kind path) (line_of (BadPlant kind path)) (λ d. absurd cc) refl refl;
    }
    section_alone status text file (of_plant plant _ _ read h) = plant_alone plant status text read (file plant read) h

  pub sections_answered : (IsFile : List ℕ → List ℕ → Type 0) → ((section text : List ℕ) (plant : Plant) → length text < 2 ^ 64 → ReadsAsPlant section plant → IsWritten plant text → IsFile section text)
      → (number : ℕ) (sections : List (List ℕ)) (text : List ℕ) → length text < 2 ^ 64 → AreAnsweredAlone number sections text → AreAnswered (IsSectionAnswer IsFile) number sections text
  sections_answered IsFile file number _ _ short (none_alone _) = none number
  sections_answered IsFile file number _ _ short (one_more_alone _ section status text sections rest alone more) =
      let head = heading number status in
      let sizes : length ((head ++ text) ++ rest) ≡ (length head + length text) + length rest = grind (arith, length-append) in
      one_more number section status text sections rest (section_alone IsFile section status text (λ plant. file section text plant (omega (arith, short, sizes))) alone)
      (sections_answered IsFile file (number + 1) sections rest (omega (arith, short, sizes)) more)
