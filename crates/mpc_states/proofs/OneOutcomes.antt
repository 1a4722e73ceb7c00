-- One outcome is that of an input.
use Rattle.std.proofs.Common.{◌≡◌, ◌≢◌, ℕ, List, refl, sym, ◌∙◌, ap, subst, None}
use Rattle.mpc_exact.specs.Rational.{ℚ}
use Rattle.mpc_plant.specs.declared.faults.PlantKind.{PlantKind}
use Rattle.mpc_plant.specs.declared.plants.Plant.{Plant}
use Rattle.mpc_plant.specs.WholePlant.{ReadsAsPlant, IsFirstFault}
use Rattle.mpc_plant.specs.Readings.{stated, faulty, OneReading}
use Rattle.mpc_rows.specs.declared.programs.Qp.{Qp}
use Rattle.mpc_condense.specs.BestReplies.{OneProgram}
use Rattle.mpc_tight.specs.Tightening.{IsWideRow}
use Rattle.mpc_tight.specs.TightTheorems.{OneWideRow, NoWideRow}
use Rattle.mpc_table.specs.Cut.{head_of}
use Rattle.mpc_states.specs.NoisePart.{plant_part, noise_part, noise_from}
use Rattle.mpc_condense.specs.Convex.{IsConvexProgram}
use Rattle.mpc_condense.specs.Outcomes.{ProgramOutcome, convex, IsProgramOutcome, OneProgramOutcome}
use Rattle.mpc_states.specs.Outcomes.{bad_plant, of_program, OneSolveOutcome, RobustOutcome, bad_robust_plant, bad_noise, of_robust_program, wide_row, robust_replies, WithNoise, IsOutcomeOf, IsRobustOutcome, OneRobustOutcome}

-- ---- of a file
pub same_plant : OneReading → (bytes : List ℕ) (x y : Plant) → ReadsAsPlant bytes x → ReadsAsPlant bytes y → x ≡ y
same_plant one bytes x y h k = let e = one bytes (stated x) (stated y) h k in cc

pub no_file : OneReading → (bytes : List ℕ) (plant : Plant) (kind : PlantKind) (path : List ℕ) → ReadsAsPlant bytes plant → IsFirstFault bytes kind path → ⊥
no_file one bytes plant kind path h k = let e = one bytes (stated plant) (faulty kind path) h k in cc

one_fault : OneReading → {A : Type 0} (say : PlantKind → List ℕ → A) (bytes : List ℕ) (kind other : PlantKind) (path long : List ℕ) → IsFirstFault bytes kind path → IsFirstFault bytes other long → say kind path ≡ say other long
one_fault one say bytes kind other path long h k =
    let e = one bytes (faulty kind path) (faulty other long) h k in
    let pair : ◌≡◌ {A = PlantKind × List ℕ} (kind, path) (other, long) = cc in
    λ i. say (pair i).0 (pair i).1

-- ---- of an input of `solve`
module _ (one_reading : OneReading) (one_program : OneProgram) (one_program_outcome : OneProgramOutcome) where
  pub one_solve_outcome : OneSolveOutcome
  one_solve_outcome input (bad_plant kind path) (bad_plant other long) h k = one_fault one_reading bad_plant (head_of input) kind other path long h k
  one_solve_outcome input (bad_plant kind path) (of_program o) h k = absurd (no_file one_reading (head_of input) k.plant kind path k.read h)
  one_solve_outcome input (of_program o) (bad_plant kind path) k h = absurd (no_file one_reading (head_of input) k.plant kind path k.read h)
  one_solve_outcome input (of_program a) (of_program b) h k =
      ap of_program (one_program_outcome k.plant a b (subst (λ z. IsProgramOutcome z a) (same_plant one_reading (head_of input) h.plant k.plant h.read k.read) h.so) k.so)

  -- ---- of an input of `robust`
  module _ (one_row : OneWideRow) (no_row : NoWideRow) (input : List ℕ) where
    abbrev Of : Plant → RobustOutcome → Type 0
    Of plant o = IsOutcomeOf (noise_part (head_of input)) plant o

    module _ (plant : Plant) where
      same_noise : {P Q : List ℚ → Type 0} (a : WithNoise (noise_part (head_of input)) plant P) (b : WithNoise (noise_part (head_of input)) plant Q) → a.noise ≡ b.noise
      same_noise a b = let e = a.noise_is in let f = b.noise_is in cc

      no_noise : {P : List ℚ → Type 0} → noise_from (noise_part (head_of input)) plant.n ≡ None → WithNoise (noise_part (head_of input)) plant P → ⊥
      no_noise e a = let f = a.noise_is in absurd (cc)

      other_end : (o : ProgramOutcome) (qp : Qp) → (o ≢ convex) × IsProgramOutcome plant o → IsConvexProgram plant qp → ⊥
      other_end o qp h is = h.0 (one_program_outcome plant o convex h.1 (qp, is))

      row_as : (a b : List ℚ) (one other : Qp) (row : ℕ) → a ≡ b → one ≡ other → IsWideRow plant a one.w row → IsWideRow plant b other.w row
      row_as a b one other row e f h = subst (λ z. IsWideRow plant z other.w row) e (subst (λ z. IsWideRow plant a z.w row) f h)

      same_programs : (one other : Qp) → IsConvexProgram plant one → IsConvexProgram plant other → one ≡ other
      same_programs one other p q = one_program plant one other p.has_program.condensed q.has_program.condensed

      pub one_of_plant : (a b : RobustOutcome) → Of plant a → Of plant b → a ≡ b
      one_of_plant (bad_robust_plant kind path) b h k = absurd h
      one_of_plant bad_noise (bad_robust_plant kind path) h k = absurd k
      one_of_plant bad_noise bad_noise h k = refl
      one_of_plant bad_noise (of_robust_program o) h k = absurd (no_noise h k)
      one_of_plant bad_noise (wide_row row) h k = absurd (no_noise h k)
      one_of_plant bad_noise robust_replies h k = absurd (no_noise h k)
      one_of_plant (of_robust_program o) (bad_robust_plant kind path) h k = absurd k
      one_of_plant (of_robust_program o) bad_noise h k = absurd (no_noise k h)
      one_of_plant (of_robust_program a) (of_robust_program b) h k = ap of_robust_program (one_program_outcome plant a b h.so.1 k.so.1)
      one_of_plant (of_robust_program o) (wide_row row) h k = absurd (other_end o k.so.qp h.so k.so.is_convex)
      one_of_plant (of_robust_program o) robust_replies h k = absurd (other_end o k.so.qp h.so k.so.is_convex)
      one_of_plant (wide_row row) (bad_robust_plant kind path) h k = absurd k
      one_of_plant (wide_row row) bad_noise h k = absurd (no_noise k h)
      one_of_plant (wide_row row) (of_robust_program o) h k = absurd (other_end o h.so.qp k.so h.so.is_convex)
      one_of_plant (wide_row i) (wide_row j) h k =
          ap wide_row (one_row plant k.noise k.so.qp.w i j (row_as h.noise k.noise h.so.qp k.so.qp i (same_noise h k) (same_programs h.so.qp k.so.qp h.so.is_convex k.so.is_convex) h.so.so) k.so.so)
      one_of_plant (wide_row row) robust_replies h k =
          absurd (no_row plant k.noise k.so.qp.w row k.so.so (row_as h.noise k.noise h.so.qp k.so.qp row (same_noise h k) (same_programs h.so.qp k.so.qp h.so.is_convex k.so.is_convex) h.so.so))
      one_of_plant robust_replies (bad_robust_plant kind path) h k = absurd k
      one_of_plant robust_replies bad_noise h k = absurd (no_noise k h)
      one_of_plant robust_replies (of_robust_program o) h k = absurd (other_end o h.so.qp k.so h.so.is_convex)
      one_of_plant robust_replies (wide_row row) h k =
          absurd (no_row plant h.noise h.so.qp.w row h.so.so (row_as k.noise h.noise k.so.qp h.so.qp row (sym (same_noise h k)) (sym (same_programs h.so.qp k.so.qp h.so.is_convex k.so.is_convex)) k.so.so))
      one_of_plant robust_replies robust_replies h k = refl

    abbrev head : List ℕ
    head = plant_part (head_of input)

    -- an outcome is a fault of the file, or says something of the plant
    data End (o : RobustOutcome) : Type 0 where
      by_fault : (kind : PlantKind) (path : List ℕ) → IsFirstFault (plant_part (head_of input)) kind path → o ≡ bad_robust_plant kind path → End o
      by_plant : (plant : Plant) → ReadsAsPlant (plant_part (head_of input)) plant → Of plant o → End o

    end_of : (o : RobustOutcome) → IsRobustOutcome input o → End o
    end_of (bad_robust_plant kind path) h = by_fault kind path h refl
    end_of bad_noise h = by_plant h.plant h.read h.so
    end_of (of_robust_program o) h = by_plant h.plant h.read h.so
    end_of (wide_row row) h = by_plant h.plant h.read h.so
    end_of robust_replies h = by_plant h.plant h.read h.so

    same_end : (a b : RobustOutcome) → End a → End b → a ≡ b
    same_end a b (by_fault kind path h e) (by_fault other long k f) = e ∙ one_fault one_reading bad_robust_plant head kind other path long h k ∙ sym f
    same_end a b (by_fault kind path h e) (by_plant plant r k) = absurd (no_file one_reading head plant kind path r h)
    same_end a b (by_plant plant r k) (by_fault kind path h e) = absurd (no_file one_reading head plant kind path r h)
    same_end a b (by_plant plant r h) (by_plant other s k) = one_of_plant other a b (subst (λ z. Of z a) (same_plant one_reading head plant other r s) h) k

    pub one_robust : (a b : RobustOutcome) → IsRobustOutcome input a → IsRobustOutcome input b → a ≡ b
    one_robust a b h k = same_end a b (end_of a h) (end_of b k)

  pub one_robust_outcome : OneWideRow → NoWideRow → OneRobustOutcome
  one_robust_outcome one_row no_row input a b h k = one_robust one_row no_row input a b h k
