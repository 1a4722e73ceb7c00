-- The run of the code: its opening, its steps and its end are those of the stated run.
use Rattle.std.proofs.Common.{◌≡◌, ℕ, suc, ◌+◌, List, [], ◌∷◌, length, refl, sym, ◌∙◌, ap, subst, inl, inr, arith, add-one}
use Rattle.mpc_exact.specs.Rational.{ℚ}
use Rattle.mpc_space.specs.Vector.{mat_vec, IsSymmetric}
use Rattle.mpc_space.specs.Matrix.{height}
use Rattle.mpc_space.specs.Definite.{IsDefinite}
use Rattle.mpc_space.proofs.Matrix.{length-mat_vec}
use Rattle.mpc_rows.specs.declared.programs.Qp.{Qp}
use Rattle.mpc_rows.specs.ActiveSets.{extended, IsInBox}
use Rattle.mpc_online.specs.StateRows.{point_of, sides_at}
use Rattle.mpc_online.specs.Positions.{Position, Step, goes_to, ends}
use Rattle.mpc_online.specs.Widths.{ProductsFit, FirstFits, OpeningFits, StepFits}
use Rattle.mpc_online.specs.OnlineRun.{IsStep, IsOpening, RunEnd, answered, wide_in, EndsFrom, IsRunEnd}
use Rattle.mpc_online.specs.Standing.{IsAnswer}
use Rattle.mpc_online.specs.declared.Online.{Online}
use Rattle.mpc_online.proofs.Travel.{Travelled, travel_opens, opening_ends, travel_goes, travel_ends}

pub length-box : (counts : List ℕ) (t : List ℚ) → IsInBox counts t → length t ≡ length counts
length-box [] [] h = refl
length-box [] (x ∷ t) h = absurd h
length-box (n ∷ counts) [] h = absurd h
length-box (n ∷ counts) (x ∷ t) h = ap suc (length-box counts t h.2)

pub length-extended : (qp : Qp) (counts : List ℕ) (c : List ℚ) → IsInBox qp.counts (point_of counts) → c ≡ extended (point_of counts) → length c ≡ length qp.counts + 1
length-extended qp counts c h e =
    let f : length c ≡ suc (length (point_of counts)) = ap length e in
    let g : length (point_of counts) ≡ length qp.counts = length-box qp.counts (point_of counts) h in
    omega arith

module _ (qp : Qp) (t c sides : List ℚ) (c_is : c ≡ extended t) (sides_is : sides ≡ mat_vec qp.w.rows c) where
  at : sides ≡ sides_at qp t
  at = sides_is ∙ ap (mat_vec qp.w.rows) c_is

  pub length-sides : length sides ≡ height qp.g
  length-sides = ap length sides_is ∙ length-mat_vec qp.w.rows c ∙ qp.is_program.w_shape.rows_are

  opening_at : (next : Step) → IsOpening qp sides c next → IsOpening qp (sides_at qp t) (extended t) next
  opening_at next h = subst (λ b. IsOpening qp b (extended t) next) at (subst (λ d. IsOpening qp sides d next) c_is h)

  opening_fits : ProductsFit qp.w c → FirstFits qp sides c → OpeningFits qp t
  opening_fits f g = record { sides = subst (ProductsFit qp.w) c_is f; first = subst (λ b. FirstFits qp b (extended t)) at (subst (FirstFits qp sides) c_is g) }

  pub wide_open : ¬ FirstFits qp sides c → IsRunEnd qp t (wide_in 0)
  wide_open h = inl (refl, λ f. h (subst (FirstFits qp sides) (sym c_is) (subst (λ b. FirstFits qp b (extended t)) (sym at) f.first)))

  pub open_ends : ProductsFit qp.w c → FirstFits qp sides c → (o : Online) → IsOpening qp sides c (ends o) → IsRunEnd qp t (answered o)
  open_ends f g o h = inl (opening_fits f g, opening_at (ends o) h)

  pub open_ahead : ProductsFit qp.w c → FirstFits qp sides c → (p : Position) → IsOpening qp sides c (goes_to p) → (end : RunEnd) → EndsFrom qp (sides_at qp t) 1 p end → IsRunEnd qp t end
  open_ahead f g p h end e = inr (opening_fits f g, p, opening_at (goes_to p) h, e)

  -- ---- the steps
  step_at : (p : Position) (next : Step) → IsStep qp sides p next → IsStep qp (sides_at qp t) p next
  step_at p next h = subst (λ b. IsStep qp b p next) at h

  fits_at : (p : Position) → StepFits qp sides p → StepFits qp (sides_at qp t) p
  fits_at p h = subst (λ b. StepFits qp b p) at h

  pub steps_wide : (k : ℕ) (p : Position) → ((end : RunEnd) → EndsFrom qp (sides_at qp t) k p end → IsRunEnd qp t end) → ¬ StepFits qp sides p → IsRunEnd qp t (wide_in k)
  steps_wide k p ahead h = ahead (wide_in k) (0, (refl, λ f. h (subst (λ b. StepFits qp b p) (sym at) f)))

  pub steps_end : (k : ℕ) (p : Position) → ((end : RunEnd) → EndsFrom qp (sides_at qp t) k p end → IsRunEnd qp t end) → StepFits qp sides p → (o : Online) → IsStep qp sides p (ends o) → IsRunEnd qp t (answered o)
  steps_end k p ahead f o h = ahead (answered o) (0, (fits_at p f, step_at p (ends o) h))

  pub steps_ahead : (k : ℕ) (p : Position) → ((end : RunEnd) → EndsFrom qp (sides_at qp t) k p end → IsRunEnd qp t end) → StepFits qp sides p → (next : Position) → IsStep qp sides p (goes_to next) → (end : RunEnd) → EndsFrom qp (sides_at qp t) (k + 1) next end → IsRunEnd qp t end
  steps_ahead k p ahead f next h end e =
      let later : EndsFrom qp (sides_at qp t) (suc k) next end = subst (λ j. EndsFrom qp (sides_at qp t) j next end) (add-one k) e in
      ahead end (suc later.0, (fits_at p f, next, step_at p (goes_to next) h, later.1))

  module _ (definite : IsDefinite qp.h.rows) (symmetric : IsSymmetric qp.h.rows) where
    pub open_answers : (o : Online) → IsOpening qp sides c (ends o) → IsAnswer qp t o
    open_answers o h = opening_ends qp t definite symmetric o (opening_at (ends o) h)

    pub open_travels : (p : Position) → IsOpening qp sides c (goes_to p) → Travelled qp t p 1
    open_travels p h = travel_opens qp t definite symmetric p (opening_at (goes_to p) h)

    pub steps_answer : (p : Position) (k : ℕ) → Travelled qp t p k → (o : Online) → IsStep qp sides p (ends o) → IsAnswer qp t o
    steps_answer p k so_far o h = travel_ends qp t definite symmetric p k so_far o (step_at p (ends o) h)

    pub steps_travel : (p : Position) (k : ℕ) → Travelled qp t p k → (next : Position) → IsStep qp sides p (goes_to next) → Travelled qp t next (k + 1)
    steps_travel p k so_far next h = subst (Travelled qp t next) (sym (add-one k)) (travel_goes qp t definite symmetric p k so_far next (step_at p (goes_to next) h))

pub wide_sides : (qp : Qp) (t c : List ℚ) → c ≡ extended t → ¬ ProductsFit qp.w c → IsRunEnd qp t (wide_in 0)
wide_sides qp t c e h = inl (refl, λ f. h (subst (ProductsFit qp.w) (sym e) f.sides))
