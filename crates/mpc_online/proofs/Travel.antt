-- The run ends: each row that joins makes a corner that costs more than all before, so no active set comes twice.
use Rattle.std.proofs.Common.{◌≡◌, ◌≢◌, ℕ, suc, ◌+◌, ◌*◌, ◌^◌, ◌<◌, ◌≤◌, List, [], ◌∷◌, length, pos, refl, sym, ◌∙◌, subst, arith, Option, Some, None}
use Rattle.std.specs.Prelude.{AllPairs}
use Rattle.std.specs.List.{AllByRecursion}
use Rattle.std.proofs.lemmas.List.Elements.{All-from_recursion}
use Rattle.std.proofs.lemmas.List.Kept.{AllPairs-cons}
use Rattle.mpc_exact.specs.Rational.{ℚ, int, ◌+ℚ◌, ◌*ℚ◌, ◌≤ℚ◌, ◌<ℚ◌}
use Rattle.mpc_exact.proofs.RationalOrder.{≤ℚ_refl, ≤ℚ_trans, ≤ℚ_of_<, <ℚ_irrefl}
use Rattle.mpc_exact.proofs.OrderTheorems.{≤ℚ-<ℚ_trans}
use Rattle.mpc_space.specs.Vector.{IsSymmetric}
use Rattle.mpc_space.specs.Matrix.{height}
use Rattle.mpc_space.specs.Definite.{IsDefinite}
use Rattle.mpc_sets.specs.RowSet.{IsSetOfRows}
use Rattle.mpc_sets.specs.SetTheorems.{CountTheorems}
use Rattle.mpc_rows.specs.declared.programs.Qp.{Qp}
use Rattle.mpc_rows.specs.ActiveSets.{extended, IsIndependentSet}
use Rattle.mpc_online.specs.StateRows.{sides_at, IsFirstViolated, IsFirstOutside}
use Rattle.mpc_online.specs.Positions.{Position, goes_to, ends, upper_part, lower_part, along, without_place, joined, towards, opened, continued, row_multipliers}
use Rattle.mpc_online.specs.Turns.{IsTurn, IsDrop, IsJoin}
use Rattle.mpc_online.specs.OnlineRun.{IsStep, IsOpening, LeadsTo}
use Rattle.mpc_online.specs.Standing.{IsCorner, IsAnswer}
use Rattle.mpc_online.specs.declared.turns.Turn.{Turn}
use Rattle.mpc_online.specs.declared.turns.Turn.TheVariants.{Refuted as RefutedTurn, Drops, Joins}
use Rattle.mpc_online.specs.declared.Online.{Online}
use Rattle.mpc_online.specs.declared.Online.TheVariants.{Best, Refuted}
use Rattle.mpc_online.proofs.SetLists.{rises_higher}
use Rattle.mpc_online.proofs.Solved.{IsDirection, direction}
use Rattle.mpc_online.proofs.Along.{IsOnWay, ValueIs, cost_of, excess_of}
use Rattle.mpc_online.proofs.Steps.{drop_on_way, drop_value, drop_size, join_corner, join_value, join_size, towards_on_way, towards_value}
use Rattle.mpc_online.proofs.RefutedRows.{refutes, length-row_multipliers}
use Rattle.mpc_online.proofs.Corners.{first_corner, same_corner}

-- a set of rows whose corner costs at most so much
pub record Seen (qp : Qp) (t : List ℚ) (value : ℚ) (s : List ℕ) : Type 0 where
  pub corner : Position
  pub of_set : corner.set ≡ s
  pub is_corner : IsCorner qp t corner
  pub cost : cost_of qp t corner.point ≤ℚ value

-- at step k: the sets of the corners so far, and the value, which is above no corner's cost
pub record Travelled (qp : Qp) (t : List ℚ) (p : Position) (k : ℕ) : Type 0 where
  pub on_way : IsOnWay qp t p
  pub value : ℚ
  pub is_value : ValueIs qp t p value
  pub visited : List (List ℕ)
  pub seen : AllByRecursion (Seen qp t value) visited
  pub apart : AllPairs (λ s u. s ≢ u) visited
  pub counted : k + length p.set ≡ 2 * length visited + 1

-- every independent set has at most as many members as there are unknowns
abbrev pub FewMembers : Type 0
FewMembers = (qp : Qp) (s : List ℕ) → IsIndependentSet qp s → length s ≤ height qp.h

module _ (qp : Qp) (t : List ℚ) (definite : IsDefinite qp.h.rows) (symmetric : IsSymmetric qp.h.rows) where
  still_seen : (x y : ℚ) (visited : List (List ℕ)) → x ≤ℚ y → AllByRecursion (Seen qp t x) visited → AllByRecursion (Seen qp t y) visited
  still_seen x y [] h s = tt
  still_seen x y (v ∷ visited) h s = (record { corner = s.0.corner; of_set = s.0.of_set; is_corner = s.0.is_corner; cost = ≤ℚ_trans s.0.cost h }, still_seen x y visited h s.1)

  -- a corner that costs more is new
  fresh : (x : ℚ) (q : Position) (visited : List (List ℕ)) → IsCorner qp t q → x <ℚ cost_of qp t q.point → AllByRecursion (Seen qp t x) visited → AllByRecursion (λ s. q.set ≢ s) visited
  fresh x q [] c h s = tt
  fresh x q (v ∷ visited) c h s =
      ((λ e. <ℚ_irrefl (≤ℚ-<ℚ_trans (subst (λ z. cost_of qp t z ≤ℚ x) (same_corner qp t definite s.0.corner q s.0.is_corner c (s.0.of_set ∙ sym e)) s.0.cost) h)), fresh x q visited c h s.1)

  pub travel_starts : (z : List ℚ) (r : ℕ) → IsCorner qp t (opened z) → IsFirstOutside qp (sides_at qp t) z r → Travelled qp t (towards (opened z) r) 1
  travel_starts z r corner first = record {
    on_way = towards_on_way qp t (opened z) r corner first;
    value = cost_of qp t z;
    is_value = towards_value qp t (opened z) r;
    visited = [];
    seen = tt;
    apart = λ i j d l m. absurd (omega arith);
    counted = omega arith;
  }

  module _ (p : Position) (k : ℕ) (d e : List ℚ) (so_far : Travelled qp t p k) (dir : IsDirection qp p.set p.row d e) where
    pub travel_drops : (place : ℕ) (s : ℚ) → IsDrop qp (sides_at qp t) p d e place s → Travelled qp t (without_place (along p d e s) place) (suc k)
    travel_drops place s drop =
        let left = without_place (along p d e s) place in
        let value = cost_of qp t left.point +ℚ int (pos 2) *ℚ (left.weight *ℚ excess_of qp t left) in
        let value_is : ValueIs qp t left value = record { is = λ i. value } in
        let size : length left.set + 1 ≡ length p.set = drop_size qp t definite p d e so_far.on_way dir place s drop in
        record {
          on_way = drop_on_way qp t definite p d e so_far.on_way dir place s drop;
          value = value;
          is_value = value_is;
          visited = so_far.visited;
          seen = still_seen so_far.value value so_far.visited (drop_value qp t definite p d e so_far.on_way dir place s drop symmetric so_far.value value so_far.is_value value_is) so_far.seen;
          apart = so_far.apart;
          counted = omega (arith, so_far.counted, size);
        }

    pub travel_joins : (s : ℚ) (r : ℕ) → IsJoin qp (sides_at qp t) p d e s → IsFirstOutside qp (sides_at qp t) (along p d e s).point r → Travelled qp t (towards (joined (along p d e s)) r) (suc k)
    travel_joins s r join first =
        let q = joined (along p d e s) in
        let corner : IsCorner qp t q = join_corner qp t definite p d e so_far.on_way dir s join in
        let above : so_far.value <ℚ cost_of qp t q.point = join_value qp t definite p d e so_far.on_way dir s join symmetric so_far.value so_far.is_value in
        let size : length q.set ≡ length p.set + 1 = join_size qp t definite p d e so_far.on_way dir s join in
        record {
          on_way = towards_on_way qp t q r corner first;
          value = cost_of qp t q.point;
          is_value = towards_value qp t q r;
          visited = q.set ∷ so_far.visited;
          seen = (record { corner = q; of_set = refl; is_corner = corner; cost = ≤ℚ_refl (cost_of qp t q.point) }, still_seen so_far.value (cost_of qp t q.point) so_far.visited (≤ℚ_of_< above) so_far.seen);
          apart = AllPairs-cons (λ s u. s ≢ u) q.set so_far.visited (All-from_recursion (λ u. q.set ≢ u) so_far.visited (fresh so_far.value q so_far.visited corner above so_far.seen)) so_far.apart;
          counted = omega (arith, so_far.counted, size);
        }

  -- ---- one step, by its turn
  module _ (p : Position) (k : ℕ) (so_far : Travelled qp t p k) where
    goes_continued : (q next : Position) (o : Option ℕ) → goes_to next ≡ continued q o → (r : ℕ) × (o ≡ Some r) × (next ≡ towards q r)
    goes_continued q next None e = cc
    goes_continued q next (Some r) e = (r, refl, let f : next ≡ towards q r = cc in f)

    ends_continued : (q : Position) (answer : Online) (o : Option ℕ) → ends answer ≡ continued q o → (o ≡ None) × (answer ≡ Best q.point)
    ends_continued q answer None e = (refl, let f : answer ≡ Best q.point = cc in f)
    ends_continued q answer (Some r) e = cc

    goes_by : (next : Position) (d e : List ℚ) → IsDirection qp p.set p.row d e → (turn : Turn) → IsTurn qp (sides_at qp t) p d e turn → LeadsTo qp (sides_at qp t) p d e turn (goes_to next) → Travelled qp t next (suc k)
    goes_by next d e dir RefutedTurn h leads = cc
    goes_by next d e dir (Drops place s) h leads =
        let is : next ≡ without_place (along p d e s) place = cc in
        subst (λ q. Travelled qp t q (suc k)) (sym is) (travel_drops p k d e so_far dir place s h)
    goes_by next d e dir (Joins s) h leads =
        let found = goes_continued (joined (along p d e s)) next leads.0 leads.2 in
        subst (λ q. Travelled qp t q (suc k)) (sym found.2)
        (travel_joins p k d e so_far dir s found.0 h (subst (IsFirstViolated qp (sides_at qp t) (along p d e s).point) found.1 leads.1))

    pub travel_goes : (next : Position) → IsStep qp (sides_at qp t) p (goes_to next) → Travelled qp t next (suc k)
    travel_goes next step = goes_by next (upper_part qp step.solution) (lower_part qp p.set step.solution) (direction qp p.set p.row step.solution step.solves) step.turn step.is_turn step.leads

    ends_by : (answer : Online) (d e : List ℚ) → IsDirection qp p.set p.row d e → (turn : Turn) → IsTurn qp (sides_at qp t) p d e turn → LeadsTo qp (sides_at qp t) p d e turn (ends answer) → IsAnswer qp t answer
    ends_by answer d e dir RefutedTurn h leads =
        let is : answer ≡ Refuted (row_multipliers qp p e) = cc in
        subst (IsAnswer qp t) (sym is) (length-row_multipliers qp t p d e so_far.on_way dir h.0 h.1, refutes qp t p d e so_far.on_way dir h.0 h.1)
    ends_by answer d e dir (Drops place s) h leads = cc
    ends_by answer d e dir (Joins s) h leads =
        let found = ends_continued (joined (along p d e s)) answer leads.0 leads.2 in
        subst (IsAnswer qp t) (sym found.1)
        (joined (along p d e s), join_corner qp t definite p d e so_far.on_way dir s h, refl, subst (IsFirstViolated qp (sides_at qp t) (along p d e s).point) found.0 leads.1)

    pub travel_ends : (answer : Online) → IsStep qp (sides_at qp t) p (ends answer) → IsAnswer qp t answer
    travel_ends answer step = ends_by answer (upper_part qp step.solution) (lower_part qp p.set step.solution) (direction qp p.set p.row step.solution step.solves) step.turn step.is_turn step.leads

    -- ---- how many steps there are
    rows_of_seen : FewMembers → (x : ℚ) (visited : List (List ℕ)) → AllByRecursion (Seen qp t x) visited → AllByRecursion (λ s. IsSetOfRows 60 s × (length s ≤ 6)) visited
    rows_of_seen few x [] s = tt
    rows_of_seen few x (v ∷ visited) s =
        let c = s.0.is_corner in
        let rows : height qp.g ≤ 60 = qp.is_program.few_rows in
        let unknowns : height qp.h ≤ 6 = qp.is_program.few_unknowns in
        let members : length s.0.corner.set ≤ height qp.h = few qp s.0.corner.set c.independent in (
          (
            subst (IsSetOfRows 60) s.0.of_set (record { rises = rises_higher 0 (height qp.g) 60 s.0.corner.set rows c.set_of_rows.rises }),
            subst (λ u. length u ≤ 6) s.0.of_set (omega arith),
          ),
          rows_of_seen few x visited s.1,
        )

    firsts : (P Q : List ℕ → Type 0) (visited : List (List ℕ)) → AllByRecursion (λ s. P s × Q s) visited → AllByRecursion P visited × AllByRecursion Q visited
    firsts P Q [] h = (tt, tt)
    firsts P Q (v ∷ visited) h = let rest = firsts P Q visited h.1 in ((h.0.0, rest.0), (h.0.1, rest.1))

    pub few_steps : FewMembers → CountTheorems → k < 2 ^ 27
    few_steps few counts =
        let both = firsts (IsSetOfRows 60) (λ s. length s ≤ 6) so_far.visited (rows_of_seen few so_far.value so_far.visited so_far.seen) in
        let most : length so_far.visited ≤ 56049058 = counts.six_of_sixty so_far.visited so_far.apart (All-from_recursion (IsSetOfRows 60) so_far.visited both.0) (All-from_recursion (λ s. length s ≤ 6) so_far.visited both.1) in
        omega (arith, so_far.counted, most)

-- ---- the opening
module _ (qp : Qp) (t : List ℚ) (definite : IsDefinite qp.h.rows) (symmetric : IsSymmetric qp.h.rows) where
  opening_continued : (z : List ℚ) (next : Position) (o : Option ℕ) → goes_to next ≡ continued (opened z) o → (r : ℕ) × (o ≡ Some r) × (next ≡ towards (opened z) r)
  opening_continued z next None e = cc
  opening_continued z next (Some r) e = (r, refl, let f : next ≡ towards (opened z) r = cc in f)

  opening_ended : (z : List ℚ) (answer : Online) (o : Option ℕ) → ends answer ≡ continued (opened z) o → (o ≡ None) × (answer ≡ Best z)
  opening_ended z answer None e = (refl, let f : answer ≡ Best z = cc in f)
  opening_ended z answer (Some r) e = cc

  pub travel_opens : (next : Position) → IsOpening qp (sides_at qp t) (extended t) (goes_to next) → Travelled qp t next 1
  travel_opens next o =
      let z = upper_part qp o.solution in
      let found = opening_continued z next o.first o.leads in
      subst (λ q. Travelled qp t q 1) (sym found.2)
      (travel_starts qp t definite symmetric z found.0 (first_corner qp t o.solution o.solves) (subst (IsFirstViolated qp (sides_at qp t) z) found.1 o.is_first))

  pub opening_ends : (answer : Online) → IsOpening qp (sides_at qp t) (extended t) (ends answer) → IsAnswer qp t answer
  opening_ends answer o =
      let z = upper_part qp o.solution in
      let found = opening_ended z answer o.first o.leads in
      subst (IsAnswer qp t) (sym found.1)
      (opened z, first_corner qp t o.solution o.solves, refl, subst (IsFirstViolated qp (sides_at qp t) z) found.0 o.is_first)
