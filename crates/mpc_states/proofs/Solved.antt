-- The answers to whole inputs.
use Rattle.std.proofs.Common.{◌≡◌, ℕ, List, Option, Some, Result, Ok, Err, IfOk, OnOk, length, ap, subst, ◌∙◌}
use Rattle.std.specs.Str.Lines.{lines}
use Rattle.std.proofs.lemmas.List.{length-map}
use Rattle.mpc_exact.specs.Rational.{ℚ}
use Rattle.mpc_plant.specs.declared.plants.Plant.{Plant}
use Rattle.mpc_plant.specs.declared.lists.Coordinate.{Coordinate}
use Rattle.mpc_plant.specs.Reply.{IsRight}
use Rattle.mpc_plant.specs.WholePlant.{ReadsAsPlant}
use Rattle.mpc_rows.specs.declared.programs.Qp.{Qp}
use Rattle.mpc_rows.specs.declared.places.Place.{Place}
use Rattle.mpc_condense.specs.Condensed.{counts_of}
use Rattle.mpc_tight.specs.Disturbed.{IsRobustlyRight}
use Rattle.mpc_tight.specs.Tightening.{IsWideRow}
use Rattle.mpc_tight.specs.Tightened.{IsTightened, IsRobustProgram}
use Rattle.mpc_table.specs.Cut.{head_of, tail_of}
use Rattle.mpc_states.specs.NoisePart.{plant_part, noise_part, noise_from}
use Rattle.mpc_states.specs.StateLines.{IsOf, AreStateLines}
use Rattle.mpc_states.specs.StateTheorems.{ProgramIsRight, RobustProgramIsRight}
use Rattle.mpc_condense.specs.Convex.{IsConvexProgram}
use Rattle.mpc_condense.specs.Refusals.{IsNotDefiniteAt, IsFirstWidePlace}
use Rattle.mpc_condense.specs.Outcomes.{not_definite, too_wide, convex, IsProgramOutcome}
use Rattle.mpc_states.specs.Outcomes.{OfPlant, bad_noise, of_robust_program, wide_row, robust_replies, IsOutcomeOf}
use Rattle.mpc_states.specs.Inputs.{IsSolvedFor, IsRobustlySolvedFor, IsSolved, IsRobustlySolved, IsSolveCauseFor, IsRobustCauseFor, IsSolveCause, IsRobustCause}
use Rattle.mpc_states.specs.declared.errors.SolveError.{SolveError}
use Rattle.mpc_states.specs.declared.errors.SolveError.TheVariants.{BadPlant, NotDefinite, TooWide, NoMemory}
use Rattle.mpc_states.specs.declared.errors.RobustError.{RobustError}
use Rattle.mpc_states.specs.declared.errors.RobustError.TheVariants.{BadPlant as BadRobustPlant, BadNoise, NotDefinite as NotRobustlyDefinite, TooWide as TooWideRobust, WideRow, NoMemory as NoRobustMemory}
use Rattle.mpc_states.proofs.Carried.{carried_lines}

counts_length : (plant : Plant) (counts : List ℕ) → counts ≡ counts_of plant.grid → length counts ≡ plant.n
counts_length plant counts e = ap length e ∙ length-map plant.grid (λ (axis : Coordinate). axis.count) ∙ plant.is_plant.grid_size

-- ---- a plant, and lines of counts
pub solved_for : (plant : Plant) (qp : Qp) (counts text : List ℕ) → ProgramIsRight → IsConvexProgram plant qp → AreStateLines (IsOf qp plant.p) qp (length qp.counts) (lines counts) text → IsSolvedFor plant counts text
solved_for plant qp counts text right is h =
    let size : length qp.counts ≡ plant.n = counts_length plant qp.counts is.has_program.condensed.counts_are in
    record {
      qp = qp;
      is_convex = is;
      state_lines = carried_lines (IsOf qp plant.p) (IsRight plant) qp plant.n size (λ t reply inside says. right plant qp t reply is.has_program.condensed inside says) (lines counts) text
          (subst (λ n. AreStateLines (IsOf qp plant.p) qp n (lines counts) text) size h);
    }

module _ (part : Option (List ℕ)) (plant : Plant) (noise : List ℚ) (noise_is : noise_from part plant.n ≡ Some noise) where
  pub robustly_solved_for : (qp tight : Qp) (counts text : List ℕ) → RobustProgramIsRight → IsConvexProgram plant qp → IsTightened plant noise qp tight → IsRobustProgram tight plant noise
      → AreStateLines (IsOf tight plant.p) tight (length tight.counts) (lines counts) text → IsRobustlySolvedFor part plant counts text
  robustly_solved_for qp tight counts text right is tightened robust h =
      let size : length tight.counts ≡ plant.n = counts_length plant tight.counts robust.counts_are in
      record {
        noise = noise;
        noise_is = noise_is;
        qp = qp;
        is_convex = is;
        tight = tight;
        is_tightened = tightened;
        state_lines = carried_lines (IsOf tight plant.p) (IsRobustlyRight plant noise) tight plant.n size (λ t reply inside says. right plant noise tight t reply robust inside says) (lines counts) text
            (subst (λ n. AreStateLines (IsOf tight plant.p) tight n (lines counts) text) size h);
      }

  pub not_definite_robustly : (pivot : ℕ) → IsNotDefiniteAt plant pivot → IsOutcomeOf part plant (of_robust_program (not_definite pivot))
  not_definite_robustly pivot h = record { noise = noise; noise_is = noise_is; so = (λ e. absurd (cc), h) }

  pub too_wide_robustly : (place : Place) → IsFirstWidePlace plant place → IsOutcomeOf part plant (of_robust_program (too_wide place))
  too_wide_robustly place h = record { noise = noise; noise_is = noise_is; so = (λ e. absurd (cc), h) }

  pub wide_row_robustly : (qp : Qp) (row : ℕ) → IsConvexProgram plant qp → IsWideRow plant noise qp.w row → IsOutcomeOf part plant (wide_row row)
  wide_row_robustly qp row is h = record { noise = noise; noise_is = noise_is; so = record { qp = qp; is_convex = is; so = h } }

  pub replies_robustly : (qp tight : Qp) → IsConvexProgram plant qp → IsTightened plant noise qp tight → IsOutcomeOf part plant robust_replies
  replies_robustly qp tight is h = record { noise = noise; noise_is = noise_is; so = record { qp = qp; is_convex = is; so = h.fits } }

-- ---- an input
module _ (input head tail : List ℕ) (plant : Plant) (head_is : head ≡ head_of input) (tail_is : tail ≡ tail_of input) where
  module _ (read : ReadsAsPlant head plant) where
    read_head : ReadsAsPlant (head_of input) plant
    read_head = subst (λ b. ReadsAsPlant b plant) head_is read

    pub solved : (text : List ℕ) → IsSolvedFor plant tail text → IsSolved input text
    solved text h = record { plant = plant; read = read_head; solved = subst (λ b. IsSolvedFor plant b text) tail_is h }

    pub replied : (text : List ℕ) → IsSolvedFor plant tail text → OfPlant (head_of input) (λ plant. IsProgramOutcome plant convex)
    replied text h = record { plant = plant; read = read_head; so = (h.qp, h.is_convex) }

    pub solve_cause : (e : SolveError) → IsSolveCauseFor plant e → IsSolveCause input e
    solve_cause (BadPlant kind path) h = absurd h
    solve_cause (NotDefinite pivot) h = record { plant = plant; read = read_head; so = h }
    solve_cause (TooWide place) h = record { plant = plant; read = read_head; so = h }
    solve_cause NoMemory h = tt

  module _ (file : List ℕ) (part : Option (List ℕ)) (file_is : file ≡ plant_part head) (part_is : part ≡ noise_part head) (read : ReadsAsPlant file plant) where
    read_part : ReadsAsPlant (plant_part (head_of input)) plant
    read_part = subst (λ b. ReadsAsPlant b plant) (file_is ∙ ap plant_part head_is) read

    whole_part : part ≡ noise_part (head_of input)
    whole_part = part_is ∙ ap noise_part head_is

    pub robustly_solved : (text : List ℕ) → IsRobustlySolvedFor part plant tail text → IsRobustlySolved input text
    robustly_solved text h = record { plant = plant; read = read_part; solved = subst (λ q. IsRobustlySolvedFor q plant (tail_of input) text) whole_part (subst (λ b. IsRobustlySolvedFor part plant b text) tail_is h) }

    pub robustly_replied : IsOutcomeOf part plant robust_replies → OfPlant (plant_part (head_of input)) (λ plant. IsOutcomeOf (noise_part (head_of input)) plant robust_replies)
    robustly_replied h = record { plant = plant; read = read_part; so = subst (λ q. IsOutcomeOf q plant robust_replies) whole_part h }

    pub robust_cause : (e : RobustError) → IsRobustCauseFor part plant e → IsRobustCause input e
    robust_cause (BadRobustPlant kind path) h = absurd h
    robust_cause BadNoise h = record { plant = plant; read = read_part; so = subst (λ q. IsOutcomeOf q plant bad_noise) whole_part h }
    robust_cause (NotRobustlyDefinite pivot) h = record { plant = plant; read = read_part; so = subst (λ q. IsOutcomeOf q plant (of_robust_program (not_definite pivot))) whole_part h }
    robust_cause (TooWideRobust place) h = record { plant = plant; read = read_part; so = subst (λ q. IsOutcomeOf q plant (of_robust_program (too_wide place))) whole_part h }
    robust_cause (WideRow row) h = record { plant = plant; read = read_part; so = subst (λ q. IsOutcomeOf q plant (wide_row row)) whole_part h }
    robust_cause NoRobustMemory h = tt

-- ---- results
pub on_ok_from : {T E : Type 0} (r : Result T E) (P : T → Type 0) (Q : Type 0) → ((v : T) → P v → Q) → IfOk r P → OnOk r Q
on_ok_from (Ok v) P Q f h = f v h
on_ok_from (Err e) P Q f h = tt
