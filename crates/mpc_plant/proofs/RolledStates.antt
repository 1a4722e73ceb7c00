-- The states of a motion, written one after the other.
use Rattle.std.proofs.Common.{◌≡◌, ℕ, ◌+◌, ◌<◌, List, [], ◌∷◌, ◌++◌, length, get_or, set, take, sym, ◌∙◌, ap, subst, subst₂, arith, add-one}
use Rattle.std.proofs.lemmas.List.{length-set, length-replicate, take_all}
use Rattle.mpc_exact.specs.Rational.{ℚ}
use Rattle.mpc_space.specs.Vector.{zeros}
use Rattle.mpc_space.specs.Matrix.{RationalMatrix, height, IsRectangular}
use Rattle.mpc_linear.specs.Entries.{zero_matrix}
use Rattle.mpc_plant.specs.declared.plants.Plant.{Plant}
use Rattle.mpc_plant.specs.Trajectory.{IsInBox, move_at, state_of, state_at, states_to, rolled}
use Rattle.mpc_plant.specs.RollWidth.{AxesFit, next_of, NextFits, StateFits, StatesFit, IsFirstWideState}
use Rattle.mpc_plant.proofs.Carried.{below_next}
use Rattle.mpc_plant.proofs.MatrixRows.{rectangular-set, zeros_rectangular, take-written}
use Rattle.mpc_plant.proofs.RollLemmas.{state_size}

-- the state at step k, and all of them up to it in the first rows of a matrix
pub record RolledTo (plant : Plant) (t : List ℚ) (v : List (List ℚ)) (k : ℕ) (states : RationalMatrix) (x : List ℚ) : Type 0 where
  pub here : x ≡ state_at plant t v k
  pub written : take (k + 1) states.rows ≡ states_to plant t v k
  pub tall : height states ≡ plant.horizon + 1
  pub wide : states.columns ≡ plant.n
  pub rectangular : IsRectangular states
  pub fit : (j : ℕ) → j < k + 1 → StateFits plant t v j

module _ (plant : Plant) (t : List ℚ) (v : List (List ℚ)) (in_box : IsInBox plant t) where
  pub start_size : (x : List ℚ) → x ≡ state_of plant t → length x ≡ plant.n
  start_size x e = ap length e ∙ state_size plant t v 0 in_box

  written_rows : (states next : RationalMatrix) (i : ℕ) (x : List ℚ) → IsRectangular states → length x ≡ states.columns → next.rows ≡ set states.rows i x → next.columns ≡ states.columns → IsRectangular next
  written_rows states next i x h e rows columns =
      subst (λ rs. (j : ℕ) (d : List ℚ) → j < length rs → length (get_or rs j d) ≡ next.columns) (sym rows)
      (subst (λ w. (j : ℕ) (d : List ℚ) → j < length (set states.rows i x) → length (get_or (set states.rows i x) j d) ≡ w) (sym columns) (rectangular-set states.rows states.columns i x h e))

  -- the first state in the first row
  pub rolled_none : (zero next : RationalMatrix) (x : List ℚ) → zero ≡ zero_matrix (plant.horizon + 1) plant.n → x ≡ state_of plant t → AxesFit plant.grid t → next.rows ≡ set zero.rows 0 x → next.columns ≡ zero.columns
      → RolledTo plant t v 0 next x
  rolled_none zero next x z e fits rows columns =
      let tall : height zero ≡ plant.horizon + 1 = ap height z ∙ length-replicate (plant.horizon + 1) (zeros plant.n) in
      let wide : zero.columns ≡ plant.n = ap (λ m. m.columns) z in
      record {
        here = e;
        written = ap (take 1) rows ∙ take-written zero.rows 0 x (omega arith) ∙ ap (λ y. y ∷ []) e;
        tall = ap length rows ∙ length-set zero.rows 0 x ∙ tall;
        wide = columns ∙ wide;
        rectangular = written_rows zero next 0 x (subst IsRectangular (sym z) (zeros_rectangular (plant.horizon + 1) plant.n)) (start_size x e ∙ sym wide) rows columns;
        fit = λ j l. let none : 0 ≡ j = omega arith in subst (StateFits plant t v) none fits;
      }

  -- the state w, as the code reads it, and the move u at step k
  module _ (k : ℕ) (l : k < plant.horizon) (states : RationalMatrix) (x : List ℚ) (r : RolledTo plant t v k states x) (w u : List ℚ) (same : w ≡ x) (move : u ≡ move_at v k) where
    next_fits : NextFits plant w u → StateFits plant t v (k + 1)
    next_fits h = subst (StateFits plant t v) (sym (add-one k)) (subst₂ (NextFits plant) (same ∙ r.here) move h)

    next_fits_back : StateFits plant t v (k + 1) → NextFits plant w u
    next_fits_back h = subst₂ (NextFits plant) (sym (same ∙ r.here)) (sym move) (subst (StateFits plant t v) (add-one k) h)

    pub next_is : (y : List ℚ) → y ≡ next_of plant w u → y ≡ state_at plant t v (k + 1)
    next_is y f = f ∙ (λ j. next_of plant ((same ∙ r.here) j) (move j)) ∙ sym (ap (state_at plant t v) (add-one k))

    pub next_width : (y : List ℚ) → y ≡ next_of plant w u → length y ≡ states.columns
    next_width y f = ap length (next_is y f) ∙ state_size plant t v (k + 1) in_box ∙ sym r.wide

    -- the next state in the next row
    pub rolled_more : (next : RationalMatrix) (y : List ℚ) → y ≡ next_of plant w u → NextFits plant w u → next.rows ≡ set states.rows (k + 1) y → next.columns ≡ states.columns
        → RolledTo plant t v (k + 1) next y
    rolled_more next y f fits rows columns = record {
      here = next_is y f;
      written =
          ap (take (k + 1 + 1)) rows ∙ take-written states.rows (k + 1) y (omega (arith, r.tall))
          ∙ (λ j. r.written j ++ (next_is y f ∙ ap (state_at plant t v) (add-one k)) j ∷ []) ∙ sym (ap (states_to plant t v) (add-one k));
      tall = ap length rows ∙ length-set states.rows (k + 1) y ∙ r.tall;
      wide = columns ∙ r.wide;
      rectangular = written_rows states next (k + 1) y r.rectangular (next_width y f) rows columns;
      fit = below_next (StateFits plant t v) (k + 1) r.fit (next_fits fits);
    }

    pub next_wide : (step : ℕ) → step ≡ k + 1 → ¬ NextFits plant w u → IsFirstWideState plant t v step
    next_wide step is not = subst (IsFirstWideState plant t v) (sym is) (record { within = omega arith; before = r.fit; fails = λ h. not (next_fits_back h) })

  -- all states
  module _ (k : ℕ) (e : k ≡ plant.horizon) (states : RationalMatrix) (x : List ℚ) (r : RolledTo plant t v k states x) where
    pub rolled_all : states.rows ≡ rolled plant t v
    rolled_all = sym (take_all (k + 1) states.rows (omega (arith, r.tall))) ∙ r.written ∙ ap (states_to plant t v) e

    pub states_fit : StatesFit plant t v
    states_fit j h = r.fit j (omega arith)

pub start_wide : (plant : Plant) (t : List ℚ) (v : List (List ℚ)) (step : ℕ) → step ≡ 0 → ¬ AxesFit plant.grid t → IsFirstWideState plant t v step
start_wide plant t v step is w = subst (IsFirstWideState plant t v) (sym is) (record { within = omega arith; before = λ j h. absurd (omega arith); fails = w })
