-- A status is due exactly where an outcome of the command's library comes that has it.
use Rattle.std.proofs.Common.{◌≡◌, ℕ, ◌<◌, ◌≤◌, ◌⊎◌, inl, inr, List, length, refl, sym, ◌∙◌, subst, arith}
use Rattle.mpc_rows.specs.declared.places.Place.{Place}
use Rattle.mpc_controller.specs.Parts.{Parts}
use Rattle.mpc_check.specs.Findings.{Finding, refused, too_wide as found_too_wide, not_definite as found_not_definite}
use Rattle.mpc_check.specs.Acceptance.{IsFound, FindsBehind}
use Rattle.mpc_files.specs.FileOutcomes.{FileReading, fails, spells, FileOutcome, bad_file, finds, accepted, FindsInFile, IsFileReading, IsFileOutcome}
use Rattle.mpc_recur.specs.Findings.{reached, too_wide as too_wide_step}
use Rattle.mpc_files.specs.SafetyOutcomes.{SafetyOutcome, bad_file as bad_safety_file, finds as finds_first, steps, safe, FindsInFile as FindsFirst}
use Rattle.mpc_theorem.specs.SafeFiles.{IsSafetyDue}
use Rattle.mpc_table.specs.Cut.{head_of}
use Rattle.mpc_sections.specs.Sections.{sections_of}
use Rattle.mpc_trace.specs.Drills.{IsDrillOutcome}
use Rattle.mpc_condense.specs.Outcomes.{not_definite as not_definite_program, too_wide as too_wide_program, convex}
use Rattle.mpc_states.specs.Outcomes.{SolveOutcome, bad_plant as bad_solve_plant, of_program, IsSolveOutcome, RobustOutcome, bad_robust_plant, bad_noise, of_robust_program, wide_row, robust_replies, IsRobustOutcome}
use Rattle.mpc_states.specs.NoisePart.{plant_part}
use Rattle.mpc_synthesis.specs.Refusals.{controller}
use Rattle.mpc_synthesis.specs.Outcomes.{Outcome, not_definite, too_wide, complete, IsOutcome}
use Rattle.mpc_status.specs.declared.late.LatePlace.TheVariants.{Next as NextPlace, Tight}
use Rattle.mpc_status.specs.declared.status.Status.{Status}
use Rattle.mpc_status.specs.declared.status.Status.TheVariants.{Done, BadPlant, NotDefinite, TooWide, BadFile, Refused, Unsafe, WideLater, BadNoise, TooManyPlants}
use Rattle.mpc_theorem.specs.PlantFile.{PlantTextsAreRead}
use Rattle.mpc_theorem.specs.PlantFaults.{FaultsAreFirst}
use Rattle.mpc_theorem.specs.Programs.{IsNotDefinite, IsWideProgram}
use Rattle.mpc_theorem.specs.Stages.{IsWideStage, PlantNotDefinite, PlantTooWide}
use Rattle.mpc_theorem.specs.CheckTheorems.{FindsNotDefinite, FindsTooWide}
use Rattle.mpc_theorem.specs.StateTheorems.{SolvesTooWide, TightensWideRow}
use Rattle.mpc_cli.specs.declared.commands.Command.{Command}
use Rattle.mpc_cli.specs.declared.commands.Command.TheVariants.{OfPlant, OfFile, OfStates, Drill, Fleet}
use Rattle.mpc_cli.specs.declared.commands.StateCommand.TheVariants.{Solve, Robust}
use Rattle.mpc_cli.specs.declared.commands.PlantCommand.{PlantCommand}
use Rattle.mpc_cli.specs.declared.commands.FileCommand.{FileCommand}
use Rattle.mpc_cli.specs.declared.commands.FileCommand.TheVariants.{Check, Reply, Convert, Safe}
use Rattle.mpc_cli.specs.Commands.{plant_text}
use Rattle.mpc_cli.specs.Ends.{ComesOf}
use Rattle.mpc_cli.specs.Extents.{extent_of}
use Rattle.mpc_cli.specs.Causes.{OfItsController, OfChecked, IsDueTo}
use Rattle.mpc_cli.specs.Statuses.{ReadsWith, PlantEnd, bad_plant, ends, IsPlantEnd, plant_status, outcome_status, finding_status, file_status, reading_status, safety_status, solve_status, robust_status, ComesTo, DueIsWhatComes}

-- ---- of a plant, and of a drill
module _ (texts : PlantTextsAreRead) (faults : FaultsAreFirst) (definite : PlantNotDefinite) (wide : PlantTooWide) where
  plant_wide : (c : PlantCommand) (input : List ℕ) (place : Place) (h : ReadsWith (plant_text c input) (λ plant. IsOutcome (extent_of c) plant (too_wide place)))
      → IsWideProgram h.plant place ⊎ IsWideStage (extent_of c) h.plant place → IsDueTo (OfPlant c) input (TooWide place)
  plant_wide c input place h (inl k) = inl (record { plant = h.plant; text = (texts (plant_text c input) h.plant).0 h.read; so = k })
  plant_wide c input place h (inr k) = inr (record { plant = h.plant; text = (texts (plant_text c input) h.plant).0 h.read; so = k })

  plant_due : (c : PlantCommand) (input : List ℕ) (e : PlantEnd) → IsPlantEnd (extent_of c) (plant_text c input) e → IsDueTo (OfPlant c) input (plant_status e)
  plant_due c input (bad_plant kind path) h = (faults (plant_text c input) kind path).0 h
  plant_due c input (ends (not_definite pivot)) h = record { plant = h.plant; text = (texts (plant_text c input) h.plant).0 h.read; so = (definite h.plant pivot).0 h.so }
  plant_due c input (ends (too_wide place)) h = plant_wide c input place h ((wide (extent_of c) h.plant place).0 h.so)
  plant_due c input (ends complete) h = record { plant = h.plant; text = (texts (plant_text c input) h.plant).0 h.read; so = h.so }

  plant_comes : (c : PlantCommand) (input : List ℕ) (s : Status) → IsDueTo (OfPlant c) input s → ComesTo (OfPlant c) input s
  plant_comes c input Done h = record { outcome = ends complete; came = record { plant = h.plant; read = (texts (plant_text c input) h.plant).1 h.text; so = h.so }; status_is = refl }
  plant_comes c input (BadPlant kind path) h = record { outcome = bad_plant kind path; came = (faults (plant_text c input) kind path).1 h; status_is = refl }
  plant_comes c input (NotDefinite pivot) h = record { outcome = ends (not_definite pivot); came = record { plant = h.plant; read = (texts (plant_text c input) h.plant).1 h.text; so = (definite h.plant pivot).1 h.so }; status_is = refl }
  plant_comes c input (TooWide place) (inl h) = record { outcome = ends (too_wide place); came = record { plant = h.plant; read = (texts (plant_text c input) h.plant).1 h.text; so = (wide (extent_of c) h.plant place).1 (inl h.so) }; status_is = refl }
  plant_comes c input (TooWide place) (inr h) = record { outcome = ends (too_wide place); came = record { plant = h.plant; read = (texts (plant_text c input) h.plant).1 h.text; so = (wide (extent_of c) h.plant place).1 (inr h.so) }; status_is = refl }
  plant_comes c input (WideLater (NextPlace one)) h = absurd h
  plant_comes c input (WideLater (Tight row)) h = absurd h
  plant_comes c input other h = absurd h

  drill_wide : (number : ℕ) (input : List ℕ) (place : Place) (h : IsDrillOutcome number (too_wide place)) → IsWideProgram h.plant place ⊎ IsWideStage controller h.plant place → IsDueTo (Drill number) input (TooWide place)
  drill_wide number input place h (inl k) = inl (record { plant = h.plant; is = h.is; so = k })
  drill_wide number input place h (inr k) = inr (record { plant = h.plant; is = h.is; so = k })

  drill_due : (number : ℕ) (input : List ℕ) (o : Outcome) → IsDrillOutcome number o → IsDueTo (Drill number) input (outcome_status o)
  drill_due number input (not_definite pivot) h = record { plant = h.plant; is = h.is; so = (definite h.plant pivot).0 h.comes }
  drill_due number input (too_wide place) h = drill_wide number input place h ((wide controller h.plant place).0 h.comes)
  drill_due number input complete h = record { plant = h.plant; is = h.is; so = h.comes }

  drill_comes : (number : ℕ) (input : List ℕ) (s : Status) → IsDueTo (Drill number) input s → ComesTo (Drill number) input s
  drill_comes number input Done h = record { outcome = complete; came = record { plant = h.plant; is = h.is; comes = h.so }; status_is = refl }
  drill_comes number input (NotDefinite pivot) h = record { outcome = not_definite pivot; came = record { plant = h.plant; is = h.is; comes = (definite h.plant pivot).1 h.so }; status_is = refl }
  drill_comes number input (TooWide place) (inl h) = record { outcome = too_wide place; came = record { plant = h.plant; is = h.is; comes = (wide controller h.plant place).1 (inl h.so) }; status_is = refl }
  drill_comes number input (TooWide place) (inr h) = record { outcome = too_wide place; came = record { plant = h.plant; is = h.is; comes = (wide controller h.plant place).1 (inr h.so) }; status_is = refl }
  drill_comes number input (WideLater (NextPlace one)) h = absurd h
  drill_comes number input (WideLater (Tight row)) h = absurd h
  drill_comes number input other h = absurd h

-- ---- of a controller's file
module _ (definite : FindsNotDefinite) (wide : FindsTooWide) where
  -- what is found of a controller that is checked
  abbrev Found : List ℕ → Finding → Type 0
  Found input finding = OfItsController input (λ parts. IsFound parts finding)

  found_wide : (c : FileCommand) (input : List ℕ) (place : Place) (checked : (holds : Parts → Type 0) → OfItsController input holds → OfChecked c input holds) (h : Found input (found_too_wide place))
      → IsWideProgram h.parts.plant place ⊎ FindsBehind h.parts (found_too_wide place) → IsDueTo (OfFile c) input (TooWide place)
  found_wide c input place checked h (inl k) = inl (checked (λ parts. IsWideProgram parts.plant place) (record { parts = h.parts; spelled = h.spelled; so = k }))
  found_wide c input place checked h (inr k) = inr (checked (λ parts. FindsBehind parts (found_too_wide place)) (record { parts = h.parts; spelled = h.spelled; so = k }))

  behind : (parts : Parts) (spot : _) → IsFound parts (refused spot) → FindsBehind parts (refused spot)
  behind parts spot (inl h) = absurd h
  behind parts spot (inr h) = h

  found_due : (c : FileCommand) (input : List ℕ) → ((holds : Parts → Type 0) → OfItsController input holds → OfChecked c input holds) → (f : Finding) → Found input f → IsDueTo (OfFile c) input (finding_status f)
  found_due c input checked (refused spot) h = checked (λ parts. FindsBehind parts (refused spot)) (record { parts = h.parts; spelled = h.spelled; so = behind h.parts spot h.so })
  found_due c input checked (found_too_wide place) h = found_wide c input place checked h ((wide h.parts place).0 h.so)
  found_due c input checked (found_not_definite pivot) h = checked (λ parts. IsNotDefinite parts.plant pivot) (record { parts = h.parts; spelled = h.spelled; so = (definite h.parts pivot).0 h.so })

  -- and back
  found_refused : (input : List ℕ) (spot : _) → OfItsController input (λ parts. FindsBehind parts (refused spot)) → Found input (refused spot)
  found_refused input spot h = record { parts = h.parts; spelled = h.spelled; so = inr h.so }

  found_not : (input : List ℕ) (pivot : ℕ) → OfItsController input (λ parts. IsNotDefinite parts.plant pivot) → Found input (found_not_definite pivot)
  found_not input pivot h = record { parts = h.parts; spelled = h.spelled; so = (definite h.parts pivot).1 h.so }

  found_place : (input : List ℕ) (place : Place) → OfItsController input (λ parts. IsWideProgram parts.plant place) ⊎ OfItsController input (λ parts. FindsBehind parts (found_too_wide place)) → Found input (found_too_wide place)
  found_place input place (inl h) = record { parts = h.parts; spelled = h.spelled; so = (wide h.parts place).1 (inl h.so) }
  found_place input place (inr h) = record { parts = h.parts; spelled = h.spelled; so = (wide h.parts place).1 (inr h.so) }

  -- `check`
  in_file : (input : List ℕ) (f : Finding) → Found input f → FindsInFile input f
  in_file input f h = record { parts = h.parts; spelled = h.spelled; found = h.so }

  check_due : (input : List ℕ) (o : FileOutcome) → IsFileOutcome input o → IsDueTo (OfFile Check) input (file_status o)
  check_due input (bad_file kind number) h = h
  check_due input (finds f) h = found_due Check input (λ holds k. k) f (record { parts = h.parts; spelled = h.spelled; so = h.found })
  check_due input accepted h = record { parts = h.parts; spelled = h.spelled; so = h.accepts }

  check_comes : (input : List ℕ) (s : Status) → IsDueTo (OfFile Check) input s → ComesTo (OfFile Check) input s
  check_comes input Done h = record { outcome = accepted; came = record { parts = h.parts; spelled = h.spelled; accepts = h.so }; status_is = refl }
  check_comes input (BadFile kind number) h = record { outcome = bad_file kind number; came = h; status_is = refl }
  check_comes input (Refused spot) h = record { outcome = finds (refused spot); came = in_file input (refused spot) (found_refused input spot h); status_is = refl }
  check_comes input (NotDefinite pivot) h = record { outcome = finds (found_not_definite pivot); came = in_file input (found_not_definite pivot) (found_not input pivot h); status_is = refl }
  check_comes input (TooWide place) h = record { outcome = finds (found_too_wide place); came = in_file input (found_too_wide place) (found_place input place h); status_is = refl }
  check_comes input (WideLater (NextPlace one)) h = absurd h
  check_comes input (WideLater (Tight row)) h = absurd h
  check_comes input other h = absurd h

  -- `safe`
  in_safe_file : (input : List ℕ) (f : Finding) → Found input f → FindsFirst input f
  in_safe_file input f h = record { parts = h.parts; spelled = h.spelled; found = h.so }

  safe_due : (input : List ℕ) (o : SafetyOutcome) → IsSafetyDue input o → IsDueTo (OfFile Safe) input (safety_status o)
  safe_due input (bad_safety_file kind number) h = h
  safe_due input (finds_first f) h = found_due Safe input (λ holds k. k) f (record { parts = h.parts; spelled = h.spelled; so = h.found })
  safe_due input (steps (reached one pairs)) h = h
  safe_due input (steps (too_wide_step one)) h = record { parts = h.parts; spelled = h.spelled; so = record { accepts = h.accepts; found = h.found } }
  safe_due input safe h = h

  safe_comes : (input : List ℕ) (s : Status) → IsDueTo (OfFile Safe) input s → ComesTo (OfFile Safe) input s
  safe_comes input Done h = record { outcome = safe; came = h; status_is = refl }
  safe_comes input (BadFile kind number) h = record { outcome = bad_safety_file kind number; came = h; status_is = refl }
  safe_comes input (Refused spot) h = record { outcome = finds_first (refused spot); came = in_safe_file input (refused spot) (found_refused input spot h); status_is = refl }
  safe_comes input (NotDefinite pivot) h = record { outcome = finds_first (found_not_definite pivot); came = in_safe_file input (found_not_definite pivot) (found_not input pivot h); status_is = refl }
  safe_comes input (TooWide place) h = record { outcome = finds_first (found_too_wide place); came = in_safe_file input (found_too_wide place) (found_place input place h); status_is = refl }
  safe_comes input (Unsafe one pairs) h = record { outcome = steps (reached one pairs); came = h; status_is = refl }
  safe_comes input (WideLater (NextPlace one)) h = record { outcome = steps (too_wide_step one); came = record { parts = h.parts; spelled = h.spelled; accepts = h.so.accepts; found = h.so.found }; status_is = refl }
  safe_comes input (WideLater (Tight row)) h = absurd h
  safe_comes input other h = absurd h

-- `reply` and `convert`
reply_due : (input : List ℕ) (o : FileReading) → IsFileReading (head_of input) o → IsDueTo (OfFile Reply) input (reading_status o)
reply_due input (fails kind number) h = h
reply_due input (spells parts) h = (parts, h)

convert_due : (input : List ℕ) (o : FileReading) → IsFileReading input o → IsDueTo (OfFile Convert) input (reading_status o)
convert_due input (fails kind number) h = h
convert_due input (spells parts) h = (parts, h)

reply_comes : (input : List ℕ) (s : Status) → IsDueTo (OfFile Reply) input s → ComesTo (OfFile Reply) input s
reply_comes input Done h = record { outcome = spells h.0; came = h.1; status_is = refl }
reply_comes input (BadFile kind number) h = record { outcome = fails kind number; came = h; status_is = refl }
reply_comes input (TooWide place) (inl h) = absurd h
reply_comes input (TooWide place) (inr h) = absurd h
reply_comes input (WideLater (NextPlace one)) h = absurd h
reply_comes input (WideLater (Tight row)) h = absurd h
reply_comes input other h = absurd h

convert_comes : (input : List ℕ) (s : Status) → IsDueTo (OfFile Convert) input s → ComesTo (OfFile Convert) input s
convert_comes input Done h = record { outcome = spells h.0; came = h.1; status_is = refl }
convert_comes input (BadFile kind number) h = record { outcome = fails kind number; came = h; status_is = refl }
convert_comes input (TooWide place) (inl h) = absurd h
convert_comes input (TooWide place) (inr h) = absurd h
convert_comes input (WideLater (NextPlace one)) h = absurd h
convert_comes input (WideLater (Tight row)) h = absurd h
convert_comes input other h = absurd h

-- ---- of recorded states
module _ (texts : PlantTextsAreRead) (faults : FaultsAreFirst) (definite : PlantNotDefinite) (wide : SolvesTooWide) (tight : TightensWideRow) where
  solve_due : (input : List ℕ) (o : SolveOutcome) → IsSolveOutcome input o → IsDueTo (OfStates Solve) input (solve_status o)
  solve_due input (bad_solve_plant kind path) h = (faults (head_of input) kind path).0 h
  solve_due input (of_program (not_definite_program pivot)) h = record { plant = h.plant; text = (texts (head_of input) h.plant).0 h.read; so = (definite h.plant pivot).0 h.so }
  solve_due input (of_program (too_wide_program place)) h = inl (record { plant = h.plant; text = (texts (head_of input) h.plant).0 h.read; so = (wide h.plant place).0 h.so })
  solve_due input (of_program convex) h = record { plant = h.plant; text = (texts (head_of input) h.plant).0 h.read; so = h.so }

  solve_comes : (input : List ℕ) (s : Status) → IsDueTo (OfStates Solve) input s → ComesTo (OfStates Solve) input s
  solve_comes input Done h = record { outcome = of_program convex; came = record { plant = h.plant; read = (texts (head_of input) h.plant).1 h.text; so = h.so }; status_is = refl }
  solve_comes input (BadPlant kind path) h = record { outcome = bad_solve_plant kind path; came = (faults (head_of input) kind path).1 h; status_is = refl }
  solve_comes input (NotDefinite pivot) h = record { outcome = of_program (not_definite_program pivot); came = record { plant = h.plant; read = (texts (head_of input) h.plant).1 h.text; so = (definite h.plant pivot).1 h.so }; status_is = refl }
  solve_comes input (TooWide place) (inl h) = record { outcome = of_program (too_wide_program place); came = record { plant = h.plant; read = (texts (head_of input) h.plant).1 h.text; so = (wide h.plant place).1 h.so }; status_is = refl }
  solve_comes input (TooWide place) (inr h) = absurd h
  solve_comes input (WideLater (NextPlace one)) h = absurd h
  solve_comes input (WideLater (Tight row)) h = absurd h
  solve_comes input other h = absurd h

  robust_due : (input : List ℕ) (o : RobustOutcome) → IsRobustOutcome input o → IsDueTo (OfStates Robust) input (robust_status o)
  robust_due input (bad_robust_plant kind path) h = (faults (plant_part (head_of input)) kind path).0 h
  robust_due input bad_noise h = record { plant = h.plant; text = (texts (plant_part (head_of input)) h.plant).0 h.read; so = h.so }
  robust_due input (of_robust_program (not_definite_program pivot)) h = record { plant = h.plant; text = (texts (plant_part (head_of input)) h.plant).0 h.read; noise = h.so.noise; noise_is = h.so.noise_is; so = (definite h.plant pivot).0 h.so.so.1 }
  robust_due input (of_robust_program (too_wide_program place)) h = inl (record { plant = h.plant; text = (texts (plant_part (head_of input)) h.plant).0 h.read; noise = h.so.noise; noise_is = h.so.noise_is; so = (wide h.plant place).0 h.so.so.1 })
  robust_due input (of_robust_program convex) h = absurd (h.so.so.0 refl)
  robust_due input (wide_row row) h = record { plant = h.plant; text = (texts (plant_part (head_of input)) h.plant).0 h.read; noise = h.so.noise; noise_is = h.so.noise_is; so = (tight h.plant h.so.noise row).0 h.so.so }
  robust_due input robust_replies h = record { plant = h.plant; text = (texts (plant_part (head_of input)) h.plant).0 h.read; noise = h.so.noise; noise_is = h.so.noise_is; so = record { qp = h.so.so.qp; is_convex = h.so.so.is_convex; rows_fit = h.so.so.so } }

  robust_comes : (input : List ℕ) (s : Status) → IsDueTo (OfStates Robust) input s → ComesTo (OfStates Robust) input s
  robust_comes input Done h = record { outcome = robust_replies; came = record { plant = h.plant; read = (texts (plant_part (head_of input)) h.plant).1 h.text; so = record { noise = h.noise; noise_is = h.noise_is; so = record { qp = h.so.qp; is_convex = h.so.is_convex; so = h.so.rows_fit } } }; status_is = refl }
  robust_comes input (BadPlant kind path) h = record { outcome = bad_robust_plant kind path; came = (faults (plant_part (head_of input)) kind path).1 h; status_is = refl }
  robust_comes input BadNoise h = record { outcome = bad_noise; came = record { plant = h.plant; read = (texts (plant_part (head_of input)) h.plant).1 h.text; so = h.so }; status_is = refl }
  robust_comes input (NotDefinite pivot) h =
      record { outcome = of_robust_program (not_definite_program pivot); came = record { plant = h.plant; read = (texts (plant_part (head_of input)) h.plant).1 h.text; so = record { noise = h.noise; noise_is = h.noise_is; so = (λ e. absurd cc, (definite h.plant pivot).1 h.so) } }; status_is = refl }
  robust_comes input (TooWide place) (inl h) =
      record { outcome = of_robust_program (too_wide_program place); came = record { plant = h.plant; read = (texts (plant_part (head_of input)) h.plant).1 h.text; so = record { noise = h.noise; noise_is = h.noise_is; so = (λ e. absurd cc, (wide h.plant place).1 h.so) } }; status_is = refl }
  robust_comes input (TooWide place) (inr h) = absurd h
  robust_comes input (WideLater (NextPlace one)) h = absurd h
  robust_comes input (WideLater (Tight row)) h = record { outcome = wide_row row; came = record { plant = h.plant; read = (texts (plant_part (head_of input)) h.plant).1 h.text; so = record { noise = h.noise; noise_is = h.noise_is; so = (tight h.plant h.noise row).1 h.so } }; status_is = refl }
  robust_comes input other h = absurd h

-- ---- of several plants
fleet_is : (workers : ℕ) (input : List ℕ) (s : Status) → IsDueTo (Fleet workers) input s → ((length (sections_of input) ≤ 8) × (s ≡ Done)) ⊎ ((8 < length (sections_of input)) × (s ≡ TooManyPlants))
fleet_is workers input Done h = inl (h, refl)
fleet_is workers input TooManyPlants h = inr (h, refl)
fleet_is workers input (TooWide place) (inl h) = absurd h
fleet_is workers input (TooWide place) (inr h) = absurd h
fleet_is workers input (WideLater (NextPlace one)) h = absurd h
fleet_is workers input (WideLater (Tight row)) h = absurd h
fleet_is workers input other h = absurd h

pub one_fleet : (workers : ℕ) (input : List ℕ) (s t : Status) → IsDueTo (Fleet workers) input s → IsDueTo (Fleet workers) input t → s ≡ t
one_fleet workers input s t h k = by (fleet_is workers input s h) (fleet_is workers input t k)
  where
    by : ((length (sections_of input) ≤ 8) × (s ≡ Done)) ⊎ ((8 < length (sections_of input)) × (s ≡ TooManyPlants)) → ((length (sections_of input) ≤ 8) × (t ≡ Done)) ⊎ ((8 < length (sections_of input)) × (t ≡ TooManyPlants)) → s ≡ t
    by (inl (few, e)) (inl (less, f)) = e ∙ sym f
    by (inl (few, e)) (inr (many, f)) = absurd (omega (arith, few, many))
    by (inr (many, e)) (inl (few, f)) = absurd (omega (arith, few, many))
    by (inr (many, e)) (inr (more, f)) = e ∙ sym f

-- where there are at most eight sections, Done is due
pub fleet_done : (workers : ℕ) (input : List ℕ) (s : Status) → length (sections_of input) ≤ 8 → IsDueTo (Fleet workers) input s → s ≡ Done
fleet_done workers input s few h = one_fleet workers input s Done h few

-- ---- of every command
module _ (texts : PlantTextsAreRead) (faults : FaultsAreFirst) (plant_not : PlantNotDefinite) (plant_wide_is : PlantTooWide) (check_not : FindsNotDefinite) (check_wide : FindsTooWide) (state_wide : SolvesTooWide) (tight : TightensWideRow) where
  -- an outcome's status is due
  of_outcome : {O : Type 0} (P : O → Type 0) (status_of : O → Status) (c : Command) (input : List ℕ) (s : Status) → ((o : O) → P o → IsDueTo c input (status_of o)) → ComesOf P status_of s → IsDueTo c input s
  of_outcome P status_of c input s each h = subst (IsDueTo c input) (sym h.status_is) (each h.outcome h.came)

  file_to_due : (c : FileCommand) (input : List ℕ) (s : Status) → ComesTo (OfFile c) input s → IsDueTo (OfFile c) input s
  file_to_due Check input s h = of_outcome (IsFileOutcome input) file_status (OfFile Check) input s (check_due check_not check_wide input) h
  file_to_due Reply input s h = of_outcome (IsFileReading (head_of input)) reading_status (OfFile Reply) input s (reply_due input) h
  file_to_due Convert input s h = of_outcome (IsFileReading input) reading_status (OfFile Convert) input s (convert_due input) h
  file_to_due Safe input s h = of_outcome (IsSafetyDue input) safety_status (OfFile Safe) input s (safe_due check_not check_wide input) h

  file_of_due : (c : FileCommand) (input : List ℕ) (s : Status) → IsDueTo (OfFile c) input s → ComesTo (OfFile c) input s
  file_of_due Check input s h = check_comes check_not check_wide input s h
  file_of_due Reply input s h = reply_comes input s h
  file_of_due Convert input s h = convert_comes input s h
  file_of_due Safe input s h = safe_comes check_not check_wide input s h

  to_due : (c : Command) (input : List ℕ) (s : Status) → ComesTo c input s → IsDueTo c input s
  to_due (OfPlant c) input s h = of_outcome (IsPlantEnd (extent_of c) (plant_text c input)) plant_status (OfPlant c) input s (plant_due texts faults plant_not plant_wide_is c input) h
  to_due (OfFile c) input s h = file_to_due c input s h
  to_due (OfStates Solve) input s h = of_outcome (IsSolveOutcome input) solve_status (OfStates Solve) input s (solve_due texts faults plant_not state_wide tight input) h
  to_due (OfStates Robust) input s h = of_outcome (IsRobustOutcome input) robust_status (OfStates Robust) input s (robust_due texts faults plant_not state_wide tight input) h
  to_due (Drill number) input s h = of_outcome (IsDrillOutcome number) outcome_status (Drill number) input s (drill_due texts faults plant_not plant_wide_is number input) h
  to_due (Fleet workers) input s h = h

  of_due : (c : Command) (input : List ℕ) (s : Status) → IsDueTo c input s → ComesTo c input s
  of_due (OfPlant c) input s h = plant_comes texts faults plant_not plant_wide_is c input s h
  of_due (OfFile c) input s h = file_of_due c input s h
  of_due (OfStates Solve) input s h = solve_comes texts faults plant_not state_wide tight input s h
  of_due (OfStates Robust) input s h = robust_comes texts faults plant_not state_wide tight input s h
  of_due (Drill number) input s h = drill_comes texts faults plant_not plant_wide_is number input s h
  of_due (Fleet workers) input s h = h

  pub due_is_what_comes : DueIsWhatComes
  due_is_what_comes c input s = (to_due c input s, of_due c input s)
