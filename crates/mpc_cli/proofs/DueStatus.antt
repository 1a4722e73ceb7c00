-- For given words and input one status is due.
use Rattle.std.proofs.Common.{◌≡◌, ℕ, ◌<◌, ◌≤◌, List, length, refl, sym, ◌∙◌, ap, subst, arith}
use Rattle.mpc_plant.specs.Readings.{OneReading}
use Rattle.mpc_synthesis.specs.Outcomes.{OneOutcome}
use Rattle.mpc_files.specs.FileOutcomes.{OneFileReading, OneFileOutcome}
use Rattle.mpc_trace.specs.Drills.{IsDrillOutcome, OneDrill}
use Rattle.mpc_theorem.specs.SafeFiles.{OneSafetyDue}
use Rattle.mpc_status.specs.declared.status.Status.{Status}
use Rattle.mpc_status.specs.declared.status.Status.TheVariants.{Done, Usage, BadPlant, NotDefinite, TooWide, BadFile, Refused, TooLong, Unsafe, WideLater, BadNoise, TooManyPlants}
use Rattle.mpc_cli.specs.declared.commands.Command.{Command}
use Rattle.mpc_cli.specs.declared.commands.Command.TheVariants.{OfPlant, OfFile, OfStates, Drill, Fleet}
use Rattle.mpc_cli.specs.Commands.{IsCommand, CommandReads, Reads, plant_text}
use Rattle.mpc_cli.specs.Extents.{extent_of}
use Rattle.mpc_cli.specs.Causes.{IsDueTo}
use Rattle.mpc_cli.specs.Statuses.{IsPlantEnd, plant_status, outcome_status, ComesTo, DueIsWhatComes}
use Rattle.mpc_cli.specs.Answers.{input_limit, IsDueFor, too_long, in_limit, IsDue, no_command, by_command, RefusesNothing, PassingRefusesNothing, PassingIsDone, OneStatus}
use Rattle.mpc_cli.proofs.DueCauses.{one_fleet, fleet_done}
use Rattle.mpc_cli.proofs.CommandLemmas.{one_command}
use Rattle.mpc_cli.proofs.EndLemmas.{one_of, rank}
use Rattle.mpc_cli.proofs.PlantEnds.{one_end, end_done}
use Rattle.mpc_cli.proofs.FileEnds.{LinesBefore, one_file, passing_comes}
use Rattle.mpc_states.specs.Outcomes.{OneSolveOutcome, OneRobustOutcome}
use Rattle.mpc_states.specs.StateTheorems.{SolveIsComplete, RobustIsComplete}
use Rattle.mpc_cli.proofs.StateEnds.{one_state, states_done}
use Rattle.mpc_cli.proofs.DrillEnds.{drill_done}

module _ (lines : LinesBefore) (same : DueIsWhatComes) (plant : OneReading) (outcome : OneOutcome) (reading : OneFileReading) (file : OneFileOutcome) (safety : OneSafetyDue) (drill : OneDrill) (solve : OneSolveOutcome) (robust : OneRobustOutcome) where
  one_comes : (c : Command) (input : List ℕ) (s t : Status) → (CommandReads c → length input ≤ input_limit) → ComesTo c input s → ComesTo c input t → s ≡ t
  one_comes (OfPlant c) input s t l h k = one_of (IsPlantEnd (extent_of c) (plant_text c input)) plant_status s t (one_end plant outcome (extent_of c) (plant_text c input)) h k
  one_comes (OfFile c) input s t l h k = one_file lines reading file safety c input s t (l tt) h k
  one_comes (OfStates c) input s t l h k = one_state solve robust c input s t h k
  one_comes (Drill number) input s t l h k = one_of (IsDrillOutcome number) outcome_status s t (drill.outcome number) h k
  one_comes (Fleet workers) input s t l h k = one_fleet workers input s t h k

  one_due_to : (c : Command) (input : List ℕ) (s t : Status) → (CommandReads c → length input ≤ input_limit) → IsDueTo c input s → IsDueTo c input t → s ≡ t
  one_due_to c input s t l h k = one_comes c input s t l ((same c input s).1 h) ((same c input t).1 k)

  one_due_for : (c : Command) (input : List ℕ) (s t : Status) → IsDueFor c input s → IsDueFor c input t → s ≡ t
  one_due_for c input s t (too_long reads l e) (too_long other m f) = e ∙ sym f
  one_due_for c input s t (too_long reads l e) (in_limit short k) = absurd (let few = short reads in omega (arith, l, few))
  one_due_for c input s t (in_limit short h) (too_long reads l f) = absurd (let few = short reads in omega (arith, l, few))
  one_due_for c input s t (in_limit short h) (in_limit less k) = one_due_to c input s t short h k

  one_due : (words : List (List ℕ)) (input : List ℕ) (s t : Status) → IsDue words input s → IsDue words input t → s ≡ t
  one_due words input s t (no_command none e) (no_command other f) = e ∙ sym f
  one_due words input s t (no_command none e) (by_command c named k) = absurd (none (c, named))
  one_due words input s t (by_command c named h) (no_command none f) = absurd (none (c, named))
  one_due words input s t (by_command c named h) (by_command d called k) = one_due_for d input s t (subst (λ (b : Command). IsDueFor b input s) (one_command words c d named called) h) k

  pub due_unique : OneStatus
  due_unique = one_due

-- ---- the statuses that no command has
due_to_ranked : (c : Command) (input : List ℕ) (s : Status) → IsDueTo c input s → rank s ≡ 0
due_to_ranked c input Done h = refl
due_to_ranked c input (BadPlant kind path) h = refl
due_to_ranked c input (NotDefinite pivot) h = refl
due_to_ranked c input (TooWide place) h = refl
due_to_ranked c input (BadFile kind number) h = refl
due_to_ranked c input (Refused spot) h = refl
due_to_ranked c input (Unsafe one pairs) h = refl
due_to_ranked c input (WideLater place) h = refl
due_to_ranked c input BadNoise h = refl
due_to_ranked c input TooManyPlants h = refl
due_to_ranked c input other h = absurd h

-- no fault is due
pub due_no_fault : (words : List (List ℕ)) (input : List ℕ) (s : Status) → IsDue words input s → rank s ≡ 3 → ⊥
due_no_fault words input s (no_command none e) f = let r = ap rank e in omega (arith, r, f)
due_no_fault words input s (by_command c named (too_long reads l e)) f = let r = ap rank e in omega (arith, r, f)
due_no_fault words input s (by_command c named (in_limit short h)) f = let r = due_to_ranked c input s h in omega (arith, r, f)

-- the causes of Usage and TooLong
pub long_due : (words : List (List ℕ)) (input : List ℕ) → Reads words → input_limit < length input → IsDue words input TooLong
long_due words input r l = by_command r.command r.named (too_long r.reads l refl)

pub due_long : (words : List (List ℕ)) (input : List ℕ) → IsDue words input TooLong → input_limit < length input
due_long words input (no_command none e) = absurd cc
due_long words input (by_command c named (too_long reads l e)) = l
due_long words input (by_command c named (in_limit short h)) = absurd (let r = due_to_ranked c input TooLong h in omega (arith, r))

pub usage_cause : (words : List (List ℕ)) (input : List ℕ) → IsDue words input Usage → ¬ IsCommand words
usage_cause words input (no_command none e) = none
usage_cause words input (by_command c named (too_long reads l e)) = absurd cc
usage_cause words input (by_command c named (in_limit short h)) = absurd (let r = due_to_ranked c input Usage h in omega (arith, r))

pub due_usage : OneStatus → (words : List (List ℕ)) (input : List ℕ) (s : Status) → IsDue words input s → ¬ IsCommand words → s ≡ Usage
due_usage one words input s h none = one words input s Usage h (no_command none refl)

-- ---- where nothing is refused, Done is due
module _ (lines : LinesBefore) (same : DueIsWhatComes) (plant : OneReading) (reading : OneFileReading) (file : OneFileOutcome) (safety : OneSafetyDue) (drill : OneDrill) (solve : SolveIsComplete) (robust : RobustIsComplete) where
  passing_done : (c : Command) (input : List ℕ) (s : Status) → (CommandReads c → length input ≤ input_limit) → RefusesNothing c input → ComesTo c input s → s ≡ Done
  passing_done (OfPlant c) input s l n h = end_done plant (extent_of c) (plant_text c input) s n h
  passing_done (OfFile c) input s l n h = one_file lines reading file safety c input s Done (l tt) h (passing_comes c input n)
  passing_done (OfStates c) input s l n h = states_done solve robust c input s n h
  passing_done (Drill number) input s l n h = drill_done drill number s n h
  passing_done (Fleet workers) input s l n h = fleet_done workers input s n h

  pub refuses_nothing : PassingRefusesNothing
  refuses_nothing c input s l n h = passing_done c input s l n ((same c input s).1 h)

done_due_for : (c : Command) (input : List ℕ) (s : Status) → (CommandReads c → length input ≤ input_limit) → ((t : Status) → IsDueTo c input t → t ≡ Done) → IsDueFor c input s → s ≡ Done
done_due_for c input s l passes (too_long reads m e) = absurd (let few = l reads in omega (arith, m, few))
done_due_for c input s l passes (in_limit short h) = passes s h

pub done_due : PassingIsDone
done_due words input s n (no_command none e) = absurd (none (n.command, n.named))
done_due words input s n (by_command c named h) = done_due_for n.command input s n.short n.passes (subst (λ (b : Command). IsDueFor b input s) (one_command words c n.command named n.named) h)
