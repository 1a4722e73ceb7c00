-- What is known of the laws that miss a cell stays so as the search goes on.
use Rattle.std.proofs.Common.{◌≡◌, ℕ, zero, suc, ◌+◌, ◌-◌, ◌*◌, ◌<◌, ◌≤◌, List, [], ◌∷◌, ◌++◌, length, get_or, map, replicate, set, take, Option, Some, slice_get, refl, sym, ◌∙◌, ap, subst, subst₂, arith, All, ◌⊎◌, inl, inr, ⊎_elim}
use Rattle.std.proofs.Math.Seq.{take-append-add}
use Rattle.std.proofs.lemmas.Bool.{cases_eq, cases_lt}
use Rattle.std.proofs.lemmas.Bool.Decides.{nat_tests}
use Rattle.std.proofs.lemmas.List.{get_or-set_other, take_all, take-append-le, take-take, length-append, length-take-le}
use Rattle.std.proofs.lemmas.List.Elements.{All-append, All-take}
use Rattle.mpc_linear.specs.declared.integers.RowInt.{RowInt}
use Rattle.mpc_rows.specs.declared.programs.Qp.{Qp}
use Rattle.mpc_rows.specs.declared.systems.Row.{Row}
use Rattle.mpc_rows.specs.LinearSystem.{LinearSystem, MeetsRow}
use Rattle.mpc_rows.specs.LawRows.{whole_row}
use Rattle.mpc_rows.specs.SetRuns.{box_from, box_rows}
use Rattle.mpc_simplex.specs.Answer.{HasPoint}
use Rattle.mpc_systems.specs.Systems.{meet_system}
use Rattle.mpc_tree.specs.declared.missed.TheConstants.{UNKNOWN}
use Rattle.mpc_tree.specs.CellRuns.{boxed_cell, IsRunOf}
use Rattle.mpc_simplex.specs.Misses.{MissesFrom}
use Rattle.mpc_tree.specs.Missed.{IsMissed, AreMissed, entry_within}
use Rattle.mpc_tree.proofs.CellPoints.{All-split}
use Rattle.mpc_tree.proofs.CellRuns.{kept}
use Rattle.mpc_tree.proofs.NodeLemmas.{same_at}

-- ---- the entries of a table
pub none_known : (laws place : ℕ) → get_or (replicate laws UNKNOWN) place UNKNOWN ≡ UNKNOWN
none_known zero place = refl
none_known (suc laws) zero = refl
none_known (suc laws) (suc place) = none_known laws place

unknown_within : (shared : ℕ) → entry_within shared UNKNOWN ≡ UNKNOWN
unknown_within shared = grind (arith, nat_tests)

entry_forgotten : (shared : ℕ) (entries : List ℕ) (place : ℕ) → get_or (map (entry_within shared) entries) place UNKNOWN ≡ entry_within shared (get_or entries place UNKNOWN)
entry_forgotten shared [] place = sym (unknown_within shared)
entry_forgotten shared (k ∷ entries) zero = refl
entry_forgotten shared (k ∷ entries) (suc place) = entry_forgotten shared entries place

known_within : (shared k : ℕ) → entry_within shared k < UNKNOWN → (k ≤ shared) × (entry_within shared k ≡ k)
known_within shared k h = grind (arith, nat_tests)

entry_noted : (entries : List ℕ) (place k : ℕ) → get_or (set entries place k) place UNKNOWN < UNKNOWN → get_or (set entries place k) place UNKNOWN ≡ k
entry_noted [] place k h = absurd (omega arith)
entry_noted (x ∷ entries) zero k h = refl
entry_noted (x ∷ entries) (suc place) k h = entry_noted entries place k h

-- ---- more rows have fewer points
box_length : (width from : ℕ) (counts : List ℕ) → length (box_from width from counts) ≡ 2 * length counts
box_length width from [] = refl
box_length width from (count ∷ counts) = let e = box_length width (suc from) counts in omega arith

-- what holds of all rows of a list, and of the first ones of another behind it, holds of the first ones of both
All-front : (P : Row → Type 0) (xs ys : List Row) (k n : ℕ) → length xs ≡ n → All P xs → All P (take (k - n) ys) → All P (take k (xs ++ ys))
All-front P xs ys k n e h g = ⊎_elim
    (λ l. subst (All P) (sym (take-append-le k xs ys (omega arith))) (All-take P k xs h))
    (λ l. subst (All P) (sym (ap (λ i. take i (xs ++ ys)) (omega arith) ∙ take-append-add xs ys (k - n))) (All-append P xs (take (k - n) ys) h g))
    (cases_lt k n)

module _ (qp : Qp) (border : List RowInt) where
  pub met_front : (cell : List Row) (k : ℕ) → HasPoint (meet_system qp cell border) → HasPoint (meet_system qp (take k cell) border)
  unfolding meet_system
  met_front cell k p =
      let box = box_rows (length qp.counts) qp.counts in
      let more = map whole_row border in
      let parts = All-split (MeetsRow p.0) box (cell ++ more) p.1.meets in
      let rest = All-split (MeetsRow p.0) cell more parts.1 in
      (p.0, record { size = p.1.size; meets = All-append (MeetsRow p.0) box (take k cell ++ more) parts.0 (All-append (MeetsRow p.0) (take k cell) more (All-take (MeetsRow p.0) k cell rest.0) rest.1) })

  pub missed_now : (cell : List Row) (k : ℕ) → IsMissed qp cell border k → ¬ HasPoint (meet_system qp cell border)
  missed_now cell k m p = m.no_point (met_front cell k p)

  -- all rows of the cell are enough
  pub missed_by_all : (cell : List Row) (k : ℕ) → k ≡ length cell → (¬ HasPoint (meet_system qp cell border)) → IsMissed qp cell border k
  missed_by_all cell k e h = record { within = omega arith; no_point = subst (λ c. ¬ HasPoint (meet_system qp c border)) (sym (take_all k cell (omega arith))) h }

  -- the rows of the box are the first of a run
  pub missed_behind : (cell : List Row) (run : Option LinearSystem) → IsRunOf qp cell run → (s : LinearSystem) → run ≡ Some s → (w : ℕ) (t : LinearSystem) → t ≡ record { width = w; rows = map whole_row border } → (k : ℕ) → MissesFrom s k t.rows → IsMissed qp cell border (k - 2 * length qp.counts)
  unfolding boxed_cell meet_system
  missed_behind cell run of_cell s is w t e k m =
      let box = box_rows (length qp.counts) qp.counts in
      let more = map whole_row border in
      let own : MissesFrom (boxed_cell qp cell) k more = subst₂ (λ z rows. MissesFrom z k rows) (kept qp cell run of_cell s is) (ap (λ (u : LinearSystem). u.rows) e) m in
      let size : length box ≡ 2 * length qp.counts = box_length (length qp.counts) 0 qp.counts in
      record {
        within = omega (arith, own.within, length-append box cell);
        no_point = λ p.
            let parts = All-split (MeetsRow p.0) box (take (k - 2 * length qp.counts) cell ++ more) p.1.meets in
            let rest = All-split (MeetsRow p.0) (take (k - 2 * length qp.counts) cell) more parts.1 in
            own.no_point (p.0, record { size = p.1.size; meets = All-append (MeetsRow p.0) (take k (box ++ cell)) more (All-front (MeetsRow p.0) box cell k (2 * length qp.counts) size parts.0 rest.0) rest.1 });
      }

  -- another cell that begins with the same rows
  pub missed_alike : (cell other : List Row) (k : ℕ) → IsMissed qp cell border k → k ≤ length other → take k other ≡ take k cell → IsMissed qp other border k
  missed_alike cell other k m w e = record { within = w; no_point = subst (λ c. ¬ HasPoint (meet_system qp c border)) (sym e) m.no_point }

-- ---- the table of a cell
module _ (qp : Qp) (borders : List (List RowInt)) (cell : List Row) where
  pub missed_none : (laws : ℕ) (entries : List ℕ) → entries ≡ replicate laws UNKNOWN → AreMissed qp borders cell entries
  missed_none laws entries e = record {
    each = λ place border is known.
        let blank : get_or entries place UNKNOWN ≡ UNKNOWN = ap (λ l. get_or l place UNKNOWN) e ∙ none_known laws place in
        absurd (omega arith);
  }

  module _ (entries : List ℕ) (are : AreMissed qp borders cell entries) where
    pub missed_noted : (place k : ℕ) (border : List RowInt) → slice_get borders place ≡ Some border → IsMissed qp cell border k → (new : List ℕ) → new ≡ set entries place k → AreMissed qp borders cell new
    missed_noted place k border is m new e = subst (AreMissed qp borders cell) (sym e) (record { each = λ i other there known. by i other there known (cases_eq i place) })
      where
        by : (i : ℕ) (other : List RowInt) → slice_get borders i ≡ Some other → get_or (set entries place k) i UNKNOWN < UNKNOWN → (i ≡ place) ⊎ (i ≡ place → ⊥) → IsMissed qp cell other (get_or (set entries place k) i UNKNOWN)
        by i other there known (inl p) =
            let here : get_or (set entries place k) i UNKNOWN ≡ k = ap (λ j. get_or (set entries place k) j UNKNOWN) p ∙ entry_noted entries place k (subst (λ j. get_or (set entries place k) j UNKNOWN < UNKNOWN) p known) in
            subst (IsMissed qp cell other) (sym here) (subst (λ b. IsMissed qp cell b k) (same_at borders place i border other (sym p) is there) m)
        by i other there known (inr p) =
            let old = get_or-set_other entries place i k UNKNOWN p in
            subst (IsMissed qp cell other) (sym old) (are.each i other there (subst (λ n. n < UNKNOWN) old known))

    -- one more row
    pub missed_longer : (r : Row) (other : List Row) → other ≡ cell ++ r ∷ [] → AreMissed qp borders other entries
    missed_longer r other e = subst (λ c. AreMissed qp borders c entries) (sym e) (record {
      each = λ place border is known.
          let m = are.each place border is known in
          missed_alike qp border cell (cell ++ r ∷ []) (get_or entries place UNKNOWN) m (omega (arith, m.within, length-append cell (r ∷ []))) (take-append-le (get_or entries place UNKNOWN) cell (r ∷ []) m.within);
    })

    -- a cell that begins with some of the same rows, with what these tell
    pub missed_turned : (shared : ℕ) (other : List Row) → shared ≤ length other → take shared cell ≡ take shared other → (new : List ℕ) → new ≡ map (entry_within shared) entries → AreMissed qp borders other new
    missed_turned shared other w e new f = subst (AreMissed qp borders other) (sym f) (record {
      each = λ place border is known.
          let k = get_or entries place UNKNOWN in
          let own = known_within shared k (subst (λ n. n < UNKNOWN) (entry_forgotten shared entries place) known) in
          let same : get_or (map (entry_within shared) entries) place UNKNOWN ≡ k = entry_forgotten shared entries place ∙ own.1 in
          let m = are.each place border is (subst (λ n. n < UNKNOWN) same known) in
          let alike : take k other ≡ take k cell = sym (take-take k shared other own.0) ∙ ap (take k) (sym e) ∙ take-take k shared cell own.0 in
          subst (IsMissed qp other border) (sym same) (missed_alike qp border cell other k m (omega (arith, own.0)) alike);
    })

    -- one that shares some rows and has another behind them
    pub missed_side : (shared : ℕ) → shared ≤ length cell → (r : Row) (other : List Row) → other ≡ take shared cell ++ r ∷ [] → (new : List ℕ) → new ≡ map (entry_within shared) entries → AreMissed qp borders other new
    missed_side shared w r other e new f =
        let long : length (take shared cell) ≡ shared = length-take-le shared cell w in
        let whole : length other ≡ shared + 1 = ap length e ∙ length-append (take shared cell) (r ∷ []) ∙ ap (λ n. n + 1) long in
        let alike : take shared (take shared cell ++ r ∷ []) ≡ take shared cell = take-append-le shared (take shared cell) (r ∷ []) (omega (arith, long)) ∙ take-take shared shared cell (omega arith) in
        missed_turned shared other (omega (arith, whole)) (sym (ap (take shared) e ∙ alike)) new f
