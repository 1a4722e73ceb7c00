-- One step of the code, put together from its parts: its numbers fit, it is a step of the run, and its error comes from a number that is too wide.
use Rattle.std.proofs.Common.{◌≡◌, ◌≢◌, ℕ, ◌+◌, List, [], length, pos, sym, ◌∙◌, ap, subst, zero-add, Option, Result, Ok, Err, MatchResult, IsErrAnd}
use Rattle.mpc_exact.specs.Rational.{ℚ, int}
use Rattle.mpc_exact.proofs.OrderTheorems.{negative-not_zero}
use Rattle.mpc_space.specs.Vector.{dot, listed, vec_mat, quadratic, IsZero}
use Rattle.mpc_space.specs.Matrix.{RationalMatrix, height, entry}
use Rattle.mpc_space.specs.Definite.{IsDefinite}
use Rattle.mpc_space.proofs.Vector.{dot_comm}
use Rattle.mpc_space.proofs.Matrix.{height-tabled}
use Rattle.mpc_space.proofs.Definite.{definite_at}
use Rattle.mpc_linear.specs.Solution.{IsOnlySolution}
use Rattle.mpc_rows.specs.declared.programs.Qp.{Qp}
use Rattle.mpc_rows.specs.ActiveSets.{row_of, rows_of}
use Rattle.mpc_rows.specs.SetRuns.{law_matrix}
use Rattle.mpc_online.specs.StateRows.{level, IsFirstViolated}
use Rattle.mpc_online.specs.Positions.{Position, Step, right_matrix, opening_side, step_side, upper_part, lower_part, opened, continued}
use Rattle.mpc_online.specs.Turns.{IsTurn}
use Rattle.mpc_online.specs.Widths.{EliminationFits, ProductsFit, TestsFit, LengthsFit, TurnFits, StepFits, FirstFits}
use Rattle.mpc_online.specs.OnlineRun.{IsStep, IsOpening, LeadsTo}
use Rattle.mpc_online.specs.declared.turns.Turn.{Turn}
use Rattle.mpc_online.specs.declared.solutions.Stop.{Stop}
use Rattle.mpc_online.specs.declared.solutions.Stop.TheVariants.{Wide as WideStop, NoMemory as NoMemoryStop}
use Rattle.mpc_online.specs.Answers.{IfStopWide}
use Rattle.mpc_online.proofs.Combinations.{combination_stays}
use Rattle.mpc_online.proofs.Solved.{IsDirection, direction}
use Rattle.mpc_online.proofs.StepNumbers.{slope_of_square, slope_below}
use Rattle.mpc_online.proofs.OneRun.{one_solution, one_turn}

pub height-right : (qp : Qp) (s : List ℕ) (f : ℕ → ℚ) → height (right_matrix qp s f) ≡ height qp.h + length s
height-right qp s f = height-tabled (height qp.h + length s) 1 (λ i j. f i)

-- ---- the parts of a solution, as the code reads them
pub upper_is : (qp : Qp) (x : RationalMatrix) (n : ℕ) (d : List ℚ) → n ≡ height qp.h → d ≡ listed n (λ i. entry x (0 + i) 0) → d ≡ upper_part qp x
upper_is qp x n d e h = h ∙ (λ t. listed (e t) (λ i. entry x (zero-add i t) 0))

pub lower_is : (qp : Qp) (s : List ℕ) (x : RationalMatrix) (n k : ℕ) (e : List ℚ) → n ≡ height qp.h → k ≡ length s → e ≡ listed k (λ i. entry x (n + i) 0) → e ≡ lower_part qp s x
lower_is qp s x n k e p q h = h ∙ (λ t. listed (q t) (λ i. entry x (p t + i) 0))

-- a direction that isn't 0 changes the row on its way
pub slope_not_zero : (qp : Qp) → IsDefinite qp.h.rows → (s : List ℕ) (r : ℕ) (d e : List ℚ) → IsDirection qp s r d e → ¬ IsZero d → level qp d r ≢ int (pos 0)
slope_not_zero qp definite s r d e dir some =
    negative-not_zero (slope_below (quadratic qp.h.rows d) (level qp d r)
    (dot_comm (row_of qp.g.rows r) d ∙ slope_of_square (quadratic qp.h.rows d) (dot d (row_of qp.g.rows r)) (dot d (vec_mat e (rows_of qp.g.rows s))) (dir.balanced d) (combination_stays (row_of qp.g.rows) d e s (λ i m. dot_comm d (row_of qp.g.rows i) ∙ dir.keeps i m)))
    (definite_at definite d dir.size some))

module _ (qp : Qp) (b : List ℚ) (p : Position) (right : RationalMatrix) (right_is : right ≡ right_matrix qp p.set (step_side qp p.row)) where
  pub wide_elimination : ¬ EliminationFits (law_matrix qp p.set) right → ¬ StepFits qp b p
  wide_elimination h f = h (subst (EliminationFits (law_matrix qp p.set)) (sym right_is) f.elimination)

  module _ (x : RationalMatrix) (sol : IsOnlySolution (law_matrix qp p.set) right x) (d e : List ℚ) (d_is : d ≡ upper_part qp x) (e_is : e ≡ lower_part qp p.set x) where
    solves : IsOnlySolution (law_matrix qp p.set) (right_matrix qp p.set (step_side qp p.row)) x
    solves = subst (λ m. IsOnlySolution (law_matrix qp p.set) m x) right_is sol

    pub is_direction : IsDirection qp p.set p.row d e
    is_direction = subst (λ u. IsDirection qp p.set p.row u e) (sym d_is) (subst (λ v. IsDirection qp p.set p.row (upper_part qp x) v) (sym e_is) (direction qp p.set p.row x solves))

    turn_at : (turn : Turn) → IsTurn qp b p d e turn → IsTurn qp b p (upper_part qp x) (lower_part qp p.set x) turn
    turn_at turn h = subst (λ u. IsTurn qp b p u (lower_part qp p.set x) turn) d_is (subst (λ v. IsTurn qp b p d v turn) e_is h)

    pub wide_lengths : ¬ LengthsFit qp b p d e → ¬ StepFits qp b p
    wide_lengths h f = h (subst (λ u. LengthsFit qp b p u e) (sym d_is) (subst (λ v. LengthsFit qp b p (upper_part qp x) v) (sym e_is) (f.lengths x solves)))

    pub wide_turn : (turn : Turn) → IsTurn qp b p d e turn → ¬ TurnFits qp b p d e turn → ¬ StepFits qp b p
    wide_turn turn is h f =
        h (subst (λ u. TurnFits qp b p u e turn) (sym d_is) (subst (λ v. TurnFits qp b p (upper_part qp x) v turn) (sym e_is) (f.turn x solves turn (turn_at turn is))))

    pub step_fits : EliminationFits (law_matrix qp p.set) right → LengthsFit qp b p d e → (turn : Turn) → IsTurn qp b p d e turn → TurnFits qp b p d e turn → StepFits qp b p
    step_fits fits lengths turn is moves = record {
      elimination = subst (EliminationFits (law_matrix qp p.set)) right_is fits;
      lengths = λ y h. subst (λ z. LengthsFit qp b p (upper_part qp z) (lower_part qp p.set z)) (one_solution _ _ x y solves h)
          (subst (λ u. LengthsFit qp b p u (lower_part qp p.set x)) d_is (subst (λ v. LengthsFit qp b p d v) e_is lengths));
      turn = λ y h other is_other.
          let same : x ≡ y = one_solution _ _ x y solves h in
          let there : IsTurn qp b p (upper_part qp y) (lower_part qp p.set y) turn = subst (λ z. IsTurn qp b p (upper_part qp z) (lower_part qp p.set z) turn) same (turn_at turn is) in
          let turns : turn ≡ other = one_turn qp b p (upper_part qp y) (lower_part qp p.set y) turn other there is_other in
          subst (λ z. TurnFits qp b p (upper_part qp y) (lower_part qp p.set y) z) turns
          (subst (λ z. TurnFits qp b p (upper_part qp z) (lower_part qp p.set z) turn) same
          (subst (λ u. TurnFits qp b p u (lower_part qp p.set x) turn) d_is (subst (λ v. TurnFits qp b p d v turn) e_is moves)));
    }

    pub step_is : (turn : Turn) → IsTurn qp b p d e turn → (next : Step) → LeadsTo qp b p d e turn next → IsStep qp b p next
    step_is turn is next leads = record {
      solution = x;
      solves = solves;
      turn = turn;
      is_turn = turn_at turn is;
      leads = subst (λ u. LeadsTo qp b p u (lower_part qp p.set x) turn next) d_is (subst (λ v. LeadsTo qp b p d v turn next) e_is leads);
    }

-- ---- step 0
module _ (qp : Qp) (b c : List ℚ) (right : RationalMatrix) (right_is : right ≡ right_matrix qp [] (opening_side qp c)) where
  pub wide_first : ¬ EliminationFits (law_matrix qp []) right → ¬ FirstFits qp b c
  wide_first h f = h (subst (EliminationFits (law_matrix qp [])) (sym right_is) f.elimination)

  module _ (x : RationalMatrix) (sol : IsOnlySolution (law_matrix qp []) right x) (z : List ℚ) (z_is : z ≡ upper_part qp x) where
    first_solves : IsOnlySolution (law_matrix qp []) (right_matrix qp [] (opening_side qp c)) x
    first_solves = subst (λ m. IsOnlySolution (law_matrix qp []) m x) right_is sol

    pub wide_tests : ¬ TestsFit qp b z → ¬ FirstFits qp b c
    wide_tests h f = h (subst (TestsFit qp b) (sym z_is) (f.tests x first_solves))

    pub first_fits : ProductsFit qp.f c → EliminationFits (law_matrix qp []) right → TestsFit qp b z → FirstFits qp b c
    first_fits costs fits tests = record {
      costs = costs;
      elimination = subst (EliminationFits (law_matrix qp [])) right_is fits;
      tests = λ y h. subst (λ w. TestsFit qp b (upper_part qp w)) (one_solution _ _ x y first_solves h) (subst (TestsFit qp b) z_is tests);
    }

    pub opening_is : (o : Option ℕ) → IsFirstViolated qp b z o → (next : Step) → next ≡ continued (opened z) o → IsOpening qp b c next
    opening_is o first next leads = record {
      solution = x;
      solves = first_solves;
      first = o;
      is_first = subst (λ w. IsFirstViolated qp b w o) z_is first;
      leads = leads ∙ ap (λ w. continued (opened w) o) z_is;
    }

-- ---- answers carried along
pub stop_as : {T : Type 0} (r : Result T Stop) (P Q : Type 0) → (P → Q) → (¬ P → ¬ Q) → MatchResult r (λ _. P) (λ s. IfStopWide s (¬ P)) → MatchResult r (λ _. Q) (λ s. IfStopWide s (¬ Q))
stop_as (Ok v) P Q f g h = f h
stop_as (Err WideStop) P Q f g h = g h
stop_as (Err NoMemoryStop) P Q f g h = h

pub stop_for : (s : Stop) (P Q : Type 0) → (P → Q) → IfStopWide s P → IfStopWide s Q
stop_for WideStop P Q f h = f h
stop_for NoMemoryStop P Q f h = h

pub stop_wide : (s : Stop) (P : Type 0) → s ≡ WideStop → P → IfStopWide s P
stop_wide s P e h = subst (λ z. IfStopWide z P) (sym e) h

pub stop_memory : (s : Stop) (P : Type 0) → s ≡ NoMemoryStop → IfStopWide s P
stop_memory s P e = subst (λ z. IfStopWide z P) (sym e) tt

pub err_wide : {T : Type 0} (r : Result T Stop) (P Q : Type 0) → IsErrAnd r (λ e. e ≡ WideStop) → Q → MatchResult r (λ _. P) (λ s. IfStopWide s Q)
err_wide (Ok v) P Q h q = absurd h
err_wide (Err s) P Q h q = stop_wide s Q h q

pub err_memory : {T : Type 0} (r : Result T Stop) (P Q : Type 0) → IsErrAnd r (λ e. e ≡ NoMemoryStop) → MatchResult r (λ _. P) (λ s. IfStopWide s Q)
err_memory (Ok v) P Q h = absurd h
err_memory (Err s) P Q h = stop_memory s Q h

pub err_same : {T : Type 0} (r : Result T Stop) (e : Stop) (P Q : Type 0) → IsErrAnd r (λ s. s ≡ e) → IfStopWide e Q → MatchResult r (λ _. P) (λ s. IfStopWide s Q)
err_same (Ok v) e P Q h q = absurd h
err_same (Err s) e P Q h q = subst (λ z. IfStopWide z Q) (sym h) q
