-- An input of which nothing is refused has replies.
use Rattle.std.proofs.Common.{◌≡◌, ℕ, List, refl, ap, subst, None}
use Rattle.mpc_plant.specs.declared.plants.Plant.{Plant}
use Rattle.mpc_plant.specs.Readings.{OneReading}
use Rattle.mpc_table.specs.Cut.{head_of}
use Rattle.mpc_tight.specs.Tightening.{IsWideRow}
use Rattle.mpc_states.specs.NoisePart.{plant_part, noise_part, noise_from}
use Rattle.mpc_condense.specs.Outcomes.{ProgramOutcome, not_definite, too_wide, convex, IsProgramOutcome}
use Rattle.mpc_states.specs.Outcomes.{bad_plant, of_program, bad_robust_plant, bad_noise, of_robust_program, wide_row, robust_replies, WithNoise, WithProgram}
use Rattle.mpc_states.specs.StateTheorems.{NothingRefused, SolveIsComplete, RobustIsComplete}
use Rattle.mpc_states.proofs.OneOutcomes.{same_plant, no_file}

program_convex : (text : List ℕ) (plant : Plant) (o : ProgramOutcome) → NothingRefused text plant → IsProgramOutcome plant o → o ≡ convex
program_convex text plant (not_definite pivot) n h = absurd (h.not_definite (n.definite h.qp h.has_program.condensed))
program_convex text plant (too_wide place) n h = absurd (n.fits place h)
program_convex text plant convex n h = refl

pub solve_is_complete : OneReading → SolveIsComplete
solve_is_complete one input plant (bad_plant kind path) n h = absurd (no_file one (head_of input) plant kind path n.read h)
solve_is_complete one input plant (of_program o) n h =
    ap of_program (program_convex (head_of input) plant o n (subst (λ z. IsProgramOutcome z o) (same_plant one (head_of input) h.plant plant h.read n.read) h.so))

pub robust_is_complete : OneReading → RobustIsComplete
robust_is_complete one input plant noise (bad_robust_plant kind path) n h = absurd (no_file one (plant_part (head_of input)) plant kind path n.of_plant.read h)
robust_is_complete one input plant noise bad_noise n h =
    let same = same_plant one (plant_part (head_of input)) h.plant plant h.read n.of_plant.read in
    let none : noise_from (noise_part (head_of input)) plant.n ≡ None = subst (λ (z : Plant). noise_from (noise_part (head_of input)) z.n ≡ None) same h.so in
    let some = n.noise_is in
    absurd (cc)
robust_is_complete one input plant noise (of_robust_program o) n h =
    let same = same_plant one (plant_part (head_of input)) h.plant plant h.read n.of_plant.read in
    absurd (h.so.so.0 (program_convex (plant_part (head_of input)) plant o n.of_plant (subst (λ z. IsProgramOutcome z o) same h.so.so.1)))
robust_is_complete one input plant noise (wide_row row) n h =
    let same = same_plant one (plant_part (head_of input)) h.plant plant h.read n.of_plant.read in
    let k = subst (λ z. WithNoise (noise_part (head_of input)) z (λ noise. WithProgram z (λ qp. IsWideRow z noise qp.w row))) same h.so in
    let e : k.noise ≡ noise = (let a = k.noise_is in let b = n.noise_is in cc) in
    absurd (n.rows_fit k.so.qp row k.so.is_convex.has_program.condensed (subst (λ z. IsWideRow plant z k.so.qp.w row) e k.so.so))
robust_is_complete one input plant noise robust_replies n h = refl
