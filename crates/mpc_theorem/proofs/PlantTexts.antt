-- What the chain of checks of a plant's file reads is what stands at its keys.
use Rattle.std.proofs.Common.{◌≡◌, ◌+◌, ◌*◌, ◌<◌, ◌≤◌, ◌⊎◌, inl, inr, ⊎_elim, ℕ, zero, suc, ℤ, pos, List, [], ◌∷◌, length, get_or, codes, Bool, true, false, true≢false, ◌||◌, nat_le, Option, Some, None, Ok, refl, sym, ◌∙◌, ap, subst, arith}
use Rattle.std.specs.Prelude.{⊤, Contains}
use Rattle.std.specs.Ordering.{int_eq}
use Rattle.std.proofs.lemmas.Bool.Decides.{Decides-int_eq}
use Rattle.std.proofs.lemmas.List.Elements.{Contains-append_left, Contains-append_cases}
use Rattle.serde_json.specs.Data.{Data}
use Rattle.serde_json.specs.Events.{items_len}
use Rattle.serde_json.specs.Find.{get}
use Rattle.mpc_plant.specs.declared.faults.PlantKind.TheVariants.{BadVersion, OverLimit}
use Rattle.mpc_plant.specs.declared.lists.Coordinate.{Coordinate}
use Rattle.mpc_plant.specs.declared.plants.Plant.{Plant}
use Rattle.mpc_plant.specs.Keys.{plant_keys}
use Rattle.mpc_space.specs.Matrix.{RationalMatrix}
use Rattle.mpc_plant.specs.Limits.{IsWeight, FitsRow, IsCoordinate, row_limit}
use Rattle.mpc_plant.specs.Faults.{Checked, ◌>>=◌, ensure, under, each}
use Rattle.mpc_plant.specs.CheckedEntries.{whole_number_of, list_of_length}
use Rattle.mpc_plant.specs.CheckedObjects.{object_with, needed}
use Rattle.mpc_plant.specs.CheckedRows.{vector_or_zeros, stage_row_of, terminal_row_of, axis_of}
use Rattle.mpc_plant.specs.CheckedPlant.{at_key, keys_of, is_version, version_of, absent, plain_of, allowed_by, edition_of, horizon_of, square_of, side_of, weight_of, width, list_or_none, grid_of}
use Rattle.mpc_plant.specs.WholePlant.{Parts, Dynamics, Weights, Targets, RowLists, head_of, dynamics_of, weights_of, targets_of, few_rows, row_lists_of, parts_of, stated_by}
use Rattle.mpc_plant.specs.Readings.{stated, OneReading}
use Rattle.mpc_theorem.specs.PlantFile.{IsInteger, IsList, IsMatrix, IsVectorOrZeros, AtOr, IsRow, IsTerminalRow, IsAxis, At, HasOnly, IsEdition, one, two, keys_of_one, IsPlantFile, PlantTextsAreRead, OnePlantText}
use Rattle.mpc_theorem.proofs.PlantChecks.{ok_is, both_ok, then_ok, inner_ok, outer_ok, test_ok, each_read, each_ok, items_are, items_length}
use Rattle.mpc_theorem.proofs.PlantValues.{integer_read, integer_ok, sized_read, sized_ok, any, zeros_read, zeros_ok, square_read, square_ok, side_read, side_ok, listed, unlisted}
use Rattle.mpc_theorem.proofs.PlantObjects.{listed-Decides, needed_ok, at_read, at_ok, only_read, only_ok}
use Rattle.mpc_theorem.proofs.PlantWeights.{weight_read, weight_ok}
use Rattle.mpc_theorem.proofs.PlantRows.{row_read, row_ok, terminal_row_read, terminal_row_ok, horizon_read, horizon_ok, few, axis_read, axis_ok}

-- ---- the version
absent_read : (key : List ℕ) (o : Option Data) (x : ⊤) → absent key o ≡ Ok x → o ≡ None
absent_read key None x e = refl
absent_read key (Some d) x e = absurd cc

only_key : (x key : List ℕ) (k : ℕ) → k < 1 → get_or (x ∷ []) k key ≡ key → key ≡ x
only_key x key zero h e = sym e
only_key x key (suc k) h e = absurd (omega arith)

version_cases : (z : ℤ) → is_version z ≡ true → (z ≡ pos 1) ⊎ (z ≡ pos 2)
version_cases z e = by (int_eq z (pos 1)) (int_eq z (pos 2)) refl refl e
  where
    by : (a b : Bool) → int_eq z (pos 1) ≡ a → int_eq z (pos 2) ≡ b → (a || b) ≡ true → (z ≡ pos 1) ⊎ (z ≡ pos 2)
    by true b first second e = inl ((Decides-int_eq z (pos 1)).0 first)
    by false true first second e = inr ((Decides-int_eq z (pos 2)).0 second)
    by false false first second e = absurd cc

module _ (d : Data) where
  plain_read : (x : ⊤) → plain_of d ≡ Ok x → (get (codes "drift") d ≡ None) × (get (codes "xgoal") d ≡ None) × (get (codes "ugoal") d ≡ None)
  plain_read x e =
      let drift = both_ok (absent (codes "drift") (get (codes "drift") d)) _ x e in
      let xgoal = both_ok (absent (codes "xgoal") (get (codes "xgoal") d)) _ x drift.2 in
      (absent_read (codes "drift") _ drift.0 drift.1, absent_read (codes "xgoal") _ xgoal.0 xgoal.1, absent_read (codes "ugoal") _ x xgoal.2)

  plain_ok : get (codes "drift") d ≡ None → get (codes "xgoal") d ≡ None → get (codes "ugoal") d ≡ None → plain_of d ≡ Ok tt
  plain_ok a b c = then_ok (absent (codes "drift") (get (codes "drift") d)) _ tt (Ok tt) (ap (absent (codes "drift")) a) (then_ok (absent (codes "xgoal") (get (codes "xgoal") d)) _ tt (Ok tt) (ap (absent (codes "xgoal")) b) (ap (absent (codes "ugoal")) c))

  nothing_at : (key l : List ℕ) (v : Data) → get key d ≡ Some v → get l d ≡ None → Contains (l ∷ []) key → ⊥
  nothing_at key l v e none h = let same = only_key l key h.0 h.1 h.2 in let gone : get key d ≡ None = ap (λ k. get k d) same ∙ none in cc

  only_first : HasOnly plant_keys d → get (codes "drift") d ≡ None → get (codes "xgoal") d ≡ None → get (codes "ugoal") d ≡ None → HasOnly keys_of_one d
  only_first h a b c key v e =
      ⊎_elim (λ first. first)
      (λ later. ⊎_elim (λ one. absurd (nothing_at key (codes "drift") v e a one)) (λ last. ⊎_elim (λ one. absurd (nothing_at key (codes "xgoal") v e b one)) (λ one. absurd (nothing_at key (codes "ugoal") v e c one)) (Contains-append_cases (codes "xgoal" ∷ []) (codes "ugoal" ∷ []) key last))
      (Contains-append_cases (codes "drift" ∷ []) (codes "xgoal" ∷ codes "ugoal" ∷ []) key later))
      (Contains-append_cases keys_of_one (codes "drift" ∷ codes "xgoal" ∷ codes "ugoal" ∷ []) key (h key v e))

  not_there : (key : List ℕ) → ¬ Contains keys_of_one key → HasOnly keys_of_one d → (o : Option Data) → get key d ≡ o → o ≡ None
  not_there key other h None e = refl
  not_there key other h (Some v) e = absurd (other (h key v e))

  edition_read : (x : ⊤) → HasOnly plant_keys d → edition_of d ≡ Ok x → IsEdition d
  edition_read x h e =
      let version = both_ok (at_key (codes "version") version_of d) (allowed_by d) x e in
      let at : At (codes "version") d (λ v. version_of v ≡ Ok version.0) = at_read (codes "version") version_of d (λ v. version_of v ≡ Ok version.0) version.0 (λ v is. is) version.1 in
      let whole = both_ok (whole_number_of at.value) (λ z. ensure (is_version z) BadVersion >>= λ _. Ok z) version.0 at.is in
      let tested = both_ok (ensure (is_version whole.0) BadVersion) (λ _. Ok whole.0) version.0 whole.2 in
      let same : whole.0 ≡ version.0 = ok_is whole.0 version.0 tested.2 in
      let number : At (codes "version") d (IsInteger version.0) = record { value = at.value; found = at.found; is = subst (λ z. IsInteger z at.value) same (integer_read whole.0 at.value whole.1) } in
      ⊎_elim
      (λ first. let plain = plain_read x (subst (λ z. allowed_by d z ≡ Ok x) first version.2) in one (subst (λ z. At (codes "version") d (IsInteger z)) first number) (only_first h plain.0 plain.1 plain.2))
      (λ second. two (subst (λ z. At (codes "version") d (IsInteger z)) second number) h)
      (version_cases version.0 (subst (λ z. is_version z ≡ true) same (test_ok (is_version whole.0) BadVersion tested.0 tested.1)))

  version_ok : (z : ℤ) → is_version z ≡ true → At (codes "version") d (IsInteger z) → at_key (codes "version") version_of d ≡ Ok z
  version_ok z is at =
      at_ok (codes "version") version_of d (IsInteger z) z
      (λ v e. then_ok (whole_number_of v) (λ z. ensure (is_version z) BadVersion >>= λ _. Ok z) z (Ok z) (integer_ok z v e) (ap (λ b. ensure b BadVersion >>= λ _. Ok z) is)) at

  edition_ok : IsEdition d → edition_of d ≡ Ok tt
  edition_ok (one at h) =
      then_ok (at_key (codes "version") version_of d) (allowed_by d) (pos 1) (Ok tt) (version_ok (pos 1) refl at)
      (plain_ok (not_there (codes "drift") (λ c. true≢false (sym ((listed-Decides keys_of_one (codes "drift")).1 c))) h _ refl) (not_there (codes "xgoal") (λ c. true≢false (sym ((listed-Decides keys_of_one (codes "xgoal")).1 c))) h _ refl) (not_there (codes "ugoal") (λ c. true≢false (sym ((listed-Decides keys_of_one (codes "ugoal")).1 c))) h _ refl))
  edition_ok (two at h) = then_ok (at_key (codes "version") version_of d) (allowed_by d) (pos 2) (Ok tt) (version_ok (pos 2) refl at) refl

  all_keys : IsEdition d → HasOnly plant_keys d
  all_keys (one at h) = λ key v e. Contains-append_left keys_of_one (codes "drift" ∷ codes "xgoal" ∷ codes "ugoal" ∷ []) key (h key v e)
  all_keys (two at h) = h

-- ---- the parts
-- what stands at the keys, of parts
record Says (s : Parts) (d : Data) : Type 0 where
  edition : IsEdition d
  horizon : At (codes "horizon") d (IsInteger (pos s.horizon))
  a : At (codes "A") d (IsMatrix s.dynamics.a)
  b : At (codes "B") d (IsMatrix s.dynamics.b)
  q : At (codes "Q") d (IsMatrix s.weights.q)
  r : At (codes "R") d (IsMatrix s.weights.r)
  last : At (codes "P") d (IsMatrix s.weights.last)
  drift : IsVectorOrZeros (codes "drift") (length s.dynamics.a) s.targets.drift d
  xgoal : IsVectorOrZeros (codes "xgoal") (length s.dynamics.a) s.targets.xgoal d
  ugoal : IsVectorOrZeros (codes "ugoal") (width s.dynamics.b) s.targets.ugoal d
  rows : AtOr (codes "rows") d (s.row_lists.rows ≡ []) (IsList (IsRow (length s.dynamics.a) (width s.dynamics.b)) s.row_lists.rows)
  terminal : AtOr (codes "terminal") d (s.row_lists.terminal ≡ []) (IsList IsTerminalRow s.row_lists.terminal)
  grid : At (codes "grid") d (IsList IsAxis s.grid)

module _ (d : Data) where
  keys_read : (x : ⊤) → keys_of d ≡ Ok x → HasOnly plant_keys d
  keys_read x e = let keys = both_ok (object_with plant_keys d) _ x e in only_read plant_keys d keys.0 keys.1

  pub dynamics_read : (steps : ℕ) (m : Dynamics) → dynamics_of steps d ≡ Ok m → At (codes "A") d (IsMatrix m.a) × At (codes "B") d (IsMatrix m.b)
  dynamics_read steps m e =
      let a = both_ok (at_key (codes "A") square_of d) _ m e in
      let b = both_ok (at_key (codes "B") (side_of (length a.0)) d) _ m a.2 in
      let few = both_ok (under (codes "horizon") (ensure (nat_le (width b.0 * steps) 6) OverLimit)) _ m b.2 in
      subst (λ (m : Dynamics). At (codes "A") d (IsMatrix m.a) × At (codes "B") d (IsMatrix m.b)) (ok_is (record { a = a.0; b = b.0 }) m few.2)
      (at_read (codes "A") square_of d (IsMatrix a.0) a.0 (λ v is. square_read a.0 v is) a.1, at_read (codes "B") (side_of (length a.0)) d (IsMatrix b.0) b.0 (λ v is. side_read (length a.0) b.0 v is) b.1)

  weights_read : (n p : ℕ) (m : Weights) → weights_of n p d ≡ Ok m → At (codes "Q") d (IsMatrix m.q) × At (codes "R") d (IsMatrix m.r) × At (codes "P") d (IsMatrix m.last)
  weights_read n p m e =
      let q = both_ok (at_key (codes "Q") (weight_of n) d) _ m e in
      let r = both_ok (at_key (codes "R") (weight_of p) d) _ m q.2 in
      let last = both_ok (at_key (codes "P") (weight_of n) d) _ m r.2 in
      subst (λ (m : Weights). At (codes "Q") d (IsMatrix m.q) × At (codes "R") d (IsMatrix m.r) × At (codes "P") d (IsMatrix m.last)) (ok_is (record { q = q.0; r = r.0; last = last.0 }) m last.2)
      (at_read (codes "Q") (weight_of n) d (IsMatrix q.0) q.0 (λ v is. weight_read n q.0 v is) q.1, at_read (codes "R") (weight_of p) d (IsMatrix r.0) r.0 (λ v is. weight_read p r.0 v is) r.1, at_read (codes "P") (weight_of n) d (IsMatrix last.0) last.0 (λ v is. weight_read n last.0 v is) last.1)

  targets_read : (n p : ℕ) (m : Targets) → targets_of n p d ≡ Ok m → IsVectorOrZeros (codes "drift") n m.drift d × IsVectorOrZeros (codes "xgoal") n m.xgoal d × IsVectorOrZeros (codes "ugoal") p m.ugoal d
  targets_read n p m e =
      let drift = both_ok (vector_or_zeros (codes "drift") n (get (codes "drift") d)) _ m e in
      let xgoal = both_ok (vector_or_zeros (codes "xgoal") n (get (codes "xgoal") d)) _ m drift.2 in
      let ugoal = both_ok (vector_or_zeros (codes "ugoal") p (get (codes "ugoal") d)) _ m xgoal.2 in
      subst (λ (m : Targets). IsVectorOrZeros (codes "drift") n m.drift d × IsVectorOrZeros (codes "xgoal") n m.xgoal d × IsVectorOrZeros (codes "ugoal") p m.ugoal d) (ok_is (record { drift = drift.0; xgoal = xgoal.0; ugoal = ugoal.0 }) m ugoal.2)
      (zeros_read (codes "drift") n drift.0 _ drift.1, zeros_read (codes "xgoal") n xgoal.0 _ xgoal.1, zeros_read (codes "ugoal") p ugoal.0 _ ugoal.1)

  lists_read : (steps n p : ℕ) (m : RowLists) → row_lists_of steps n p d ≡ Ok m → AtOr (codes "rows") d (m.rows ≡ []) (IsList (IsRow n p) m.rows) × AtOr (codes "terminal") d (m.terminal ≡ []) (IsList IsTerminalRow m.terminal)
  lists_read steps n p m e =
      let stage = both_ok (list_or_none (codes "rows") (get (codes "rows") d)) _ m e in
      let end = both_ok (list_or_none (codes "terminal") (get (codes "terminal") d)) _ m stage.2 in
      let few = both_ok (under (codes "rows") (few_rows steps p stage.0 end.0)) _ m end.2 in
      let rows = both_ok (under (codes "rows") (each (stage_row_of n p) 0 stage.0)) _ m few.2 in
      let terminal = both_ok (under (codes "terminal") (each (terminal_row_of n) 0 end.0)) _ m rows.2 in
      subst (λ (m : RowLists). AtOr (codes "rows") d (m.rows ≡ []) (IsList (IsRow n p) m.rows) × AtOr (codes "terminal") d (m.terminal ≡ []) (IsList IsTerminalRow m.terminal)) (ok_is (record { rows = rows.0; terminal = terminal.0 }) m terminal.2) (
        listed (IsRow n p) (codes "rows") rows.0 stage.0 _ stage.1 (items_are _ (IsRow n p) (λ _. ⊤) rows.0 stage.0 (λ x v _ is. row_read n p x v is) (any rows.0) (each_read (stage_row_of n p) 0 stage.0 rows.0 (inner_ok (codes "rows") _ rows.0 rows.1))),
        listed IsTerminalRow (codes "terminal") terminal.0 end.0 _ end.1 (items_are _ IsTerminalRow (λ _. ⊤) terminal.0 end.0 (λ x v _ is. terminal_row_read n x v is) (any terminal.0) (each_read (terminal_row_of n) 0 end.0 terminal.0 (inner_ok (codes "terminal") _ terminal.0 terminal.1))),
      )

  grid_read : (n : ℕ) (grid : List Coordinate) (v : Data) → grid_of n v ≡ Ok grid → IsList IsAxis grid v
  grid_read n grid v e =
      let items = both_ok (list_of_length n v) (λ items. each axis_of 0 items) grid e in
      record { items = items.0; list = (sized_read n v items.0 items.1).0; are = items_are _ IsAxis (λ _. ⊤) grid items.0 (λ x w _ is. axis_read x w is) (any grid) (each_read axis_of 0 items.0 grid items.2) }

  parts_read : (s : Parts) → parts_of d ≡ Ok s → Says s d
  parts_read s e =
      let head = both_ok (head_of d) _ s e in
      let keys = both_ok (keys_of d) _ head.0 head.1 in
      let edition = both_ok (edition_of d) _ head.0 keys.2 in
      let only = keys_read keys.0 keys.1 in
      let dyn = both_ok (dynamics_of head.0 d) _ s head.2 in
      let weights = both_ok (weights_of (length dyn.0.a) (width dyn.0.b) d) _ s dyn.2 in
      let targets = both_ok (targets_of (length dyn.0.a) (width dyn.0.b) d) _ s weights.2 in
      let lists = both_ok (row_lists_of head.0 (length dyn.0.a) (width dyn.0.b) d) _ s targets.2 in
      let grid = both_ok (at_key (codes "grid") (grid_of (length dyn.0.a)) d) _ s lists.2 in
      let m = dynamics_read head.0 dyn.0 dyn.1 in
      let w = weights_read (length dyn.0.a) (width dyn.0.b) weights.0 weights.1 in
      let t = targets_read (length dyn.0.a) (width dyn.0.b) targets.0 targets.1 in
      let l = lists_read head.0 (length dyn.0.a) (width dyn.0.b) lists.0 lists.1 in
      subst (λ s. Says s d) (ok_is (record { horizon = head.0; dynamics = dyn.0; weights = weights.0; targets = targets.0; row_lists = lists.0; grid = grid.0 }) s grid.2)
      (record {
        edition = edition_read d edition.0 only edition.1;
        horizon = at_read (codes "horizon") horizon_of d (IsInteger (pos head.0)) head.0 (λ v is. horizon_read head.0 v is) edition.2;
        a = m.0;
        b = m.1;
        q = w.0;
        r = w.1;
        last = w.2;
        drift = t.0;
        xgoal = t.1;
        ugoal = t.2;
        rows = l.0;
        terminal = l.1;
        grid = at_read (codes "grid") (grid_of (length dyn.0.a)) d (IsList IsAxis grid.0) grid.0 (λ v is. grid_read (length dyn.0.a) grid.0 v is) grid.1;
      })

-- ---- of a plant
module _ (plant : Plant) where
  states : length plant.a.rows ≡ plant.n
  states = plant.is_plant.a_shape.rows_are

  inputs : width plant.b.rows ≡ plant.p
  inputs = plant.is_plant.b_shape.rectangular 0 [] (omega (arith, plant.is_plant.b_shape.rows_are, plant.is_plant.states.from_low)) ∙ plant.is_plant.b_shape.columns_are

  plant_says : (d : Data) → Says (stated_by plant) d → IsPlantFile plant d
  plant_says d s = record {
    edition = s.edition;
    horizon = s.horizon;
    a = s.a;
    b = s.b;
    q = s.q;
    r = s.r;
    last = s.last;
    drift = subst (λ n. IsVectorOrZeros (codes "drift") n plant.drift d) states s.drift;
    xgoal = subst (λ n. IsVectorOrZeros (codes "xgoal") n plant.xgoal d) states s.xgoal;
    ugoal = subst (λ p. IsVectorOrZeros (codes "ugoal") p plant.ugoal d) inputs s.ugoal;
    rows = subst (λ p. AtOr (codes "rows") d (plant.rows ≡ []) (IsList (IsRow plant.n p) plant.rows)) inputs (subst (λ n. AtOr (codes "rows") d (plant.rows ≡ []) (IsList (IsRow n (width plant.b.rows)) plant.rows)) states s.rows);
    terminal = s.terminal;
    grid = s.grid;
  }

  module _ (d : Data) (f : IsPlantFile plant d) where
    there : (key : List ℕ) (Is : Data → Type 0) (rest : Checked ⊤) → At key d Is → rest ≡ Ok tt → (needed key d >>= λ _. rest) ≡ Ok tt
    there key Is rest at e = then_ok (needed key d) (λ _. rest) at.value (Ok tt) (needed_ok key d at.value at.found) e

    version : IsEdition d → (v : Data) × (get (codes "version") d ≡ Some v)
    version (one at h) = (at.value, at.found)
    version (two at h) = (at.value, at.found)

    keys_ok : keys_of d ≡ Ok tt
    keys_ok =
        then_ok (object_with plant_keys d) _ tt (Ok tt) (only_ok plant_keys d f.horizon.value (codes "horizon") f.horizon.found (all_keys d f.edition))
        (let v = version f.edition in then_ok (needed (codes "version") d) _ v.0 (Ok tt) (needed_ok (codes "version") d v.0 v.1)
        (there (codes "horizon") _ _ f.horizon (there (codes "A") _ _ f.a (there (codes "B") _ _ f.b (there (codes "Q") _ _ f.q (there (codes "R") _ _ f.r (there (codes "P") _ _ f.last (there (codes "grid") _ _ f.grid refl))))))))

    head_ok : head_of d ≡ Ok plant.horizon
    head_ok =
        then_ok (keys_of d) _ tt (Ok plant.horizon) keys_ok
        (then_ok (edition_of d) _ tt (Ok plant.horizon) (edition_ok d f.edition) (at_ok (codes "horizon") horizon_of d (IsInteger (pos plant.horizon)) plant.horizon (λ v is. horizon_ok plant.horizon v plant.is_plant.steps is) f.horizon))

    moves_few : width plant.b.rows * plant.horizon ≤ 6
    moves_few = subst (λ p. p * plant.horizon ≤ 6) (sym inputs) plant.is_plant.moves_few

    dynamics_ok : dynamics_of plant.horizon d ≡ Ok (record { a = plant.a.rows; b = plant.b.rows })
    dynamics_ok =
        let is = plant.is_plant in
        then_ok (at_key (codes "A") square_of d) _ plant.a.rows (Ok (record { a = plant.a.rows; b = plant.b.rows }))
        (at_ok (codes "A") square_of d (IsMatrix plant.a.rows) plant.a.rows
        (λ v m. square_ok plant.a.rows v (subst (λ n. 1 ≤ n) (sym states) is.states.from_low) (subst (λ n. n ≤ 4) (sym states) is.states.to_high) (λ k row h. is.a_shape.rectangular k row h ∙ is.a_shape.columns_are ∙ sym states) m) f.a)
        (then_ok (at_key (codes "B") (side_of (length plant.a.rows)) d) _ plant.b.rows (Ok (record { a = plant.a.rows; b = plant.b.rows }))
        (at_ok (codes "B") (side_of (length plant.a.rows)) d (IsMatrix plant.b.rows) plant.b.rows
        (λ v m. side_ok (length plant.a.rows) plant.p plant.b.rows v (subst (λ n. 1 ≤ n) (sym states) is.states.from_low) is.inputs.from_low is.inputs.to_high (is.b_shape.rows_are ∙ sym states) (λ k row h. is.b_shape.rectangular k row h ∙ is.b_shape.columns_are) m)
        f.b)
        (ap (λ b. under (codes "horizon") (ensure b OverLimit) >>= λ _. Ok (record { a = plant.a.rows; b = plant.b.rows })) (few (width plant.b.rows * plant.horizon) 6 moves_few)))

    weights_ok : weights_of plant.n plant.p d ≡ Ok (record { q = plant.q.rows; r = plant.r.rows; last = plant.last.rows })
    weights_ok =
        let is = plant.is_plant in
        then_ok (at_key (codes "Q") (weight_of plant.n) d) _ plant.q.rows _ (weighs (codes "Q") plant.n plant.q is.q_weight f.q)
        (then_ok (at_key (codes "R") (weight_of plant.p) d) _ plant.r.rows _ (weighs (codes "R") plant.p plant.r is.r_weight f.r)
        (then_ok (at_key (codes "P") (weight_of plant.n) d) _ plant.last.rows _ (weighs (codes "P") plant.n plant.last is.last_weight f.last) refl))
      where
        weighs : (key : List ℕ) (size : ℕ) (m : RationalMatrix) → IsWeight m size → At key d (IsMatrix m.rows) → at_key key (weight_of size) d ≡ Ok m.rows
        weighs key size m w at = at_ok key (weight_of size) d (IsMatrix m.rows) m.rows (λ v is. weight_ok size m.rows v w.shape.rows_are (λ k row h. w.shape.rectangular k row h ∙ w.shape.columns_are) w.symmetric is) at

    targets_ok : targets_of plant.n plant.p d ≡ Ok (record { drift = plant.drift; xgoal = plant.xgoal; ugoal = plant.ugoal })
    targets_ok =
        let is = plant.is_plant in
        then_ok (vector_or_zeros (codes "drift") plant.n (get (codes "drift") d)) _ plant.drift _ (zeros_ok (codes "drift") plant.n plant.drift _ is.drift_size f.drift)
        (then_ok (vector_or_zeros (codes "xgoal") plant.n (get (codes "xgoal") d)) _ plant.xgoal _ (zeros_ok (codes "xgoal") plant.n plant.xgoal _ is.xgoal_size f.xgoal)
        (then_ok (vector_or_zeros (codes "ugoal") plant.p (get (codes "ugoal") d)) _ plant.ugoal _ (zeros_ok (codes "ugoal") plant.p plant.ugoal _ is.ugoal_size f.ugoal) refl))

    lists_ok : row_lists_of plant.horizon plant.n plant.p d ≡ Ok (record { rows = plant.rows; terminal = plant.terminal })
    lists_ok =
        let is = plant.is_plant in
        let stage = unlisted (IsRow plant.n plant.p) (codes "rows") plant.rows (get (codes "rows") d) f.rows in
        let end = unlisted IsTerminalRow (codes "terminal") plant.terminal (get (codes "terminal") d) f.terminal in
        let long = items_length (IsRow plant.n plant.p) plant.rows stage.0 stage.2 in
        let last = items_length IsTerminalRow plant.terminal end.0 end.2 in
        let most : plant.horizon * items_len stage.0 + items_len end.0 ≤ row_limit (plant.p * plant.horizon) = subst (λ k. plant.horizon * k + items_len end.0 ≤ row_limit (plant.p * plant.horizon)) (sym long) (subst (λ k. plant.horizon * length plant.rows + k ≤ row_limit (plant.p * plant.horizon)) (sym last) is.rows_few) in
        then_ok (list_or_none (codes "rows") (get (codes "rows") d)) _ stage.0 _ stage.1
        (then_ok (list_or_none (codes "terminal") (get (codes "terminal") d)) _ end.0 _ end.1
        (then_ok (under (codes "rows") (few_rows plant.horizon plant.p stage.0 end.0)) _ tt _ (ap (λ b. under (codes "rows") (ensure b OverLimit)) (few (plant.horizon * items_len stage.0 + items_len end.0) (row_limit (plant.p * plant.horizon)) most))
        (then_ok (under (codes "rows") (each (stage_row_of plant.n plant.p) 0 stage.0)) _ plant.rows _ (outer_ok (codes "rows") (each (stage_row_of plant.n plant.p) 0 stage.0) plant.rows
        (each_ok (stage_row_of plant.n plant.p) 0 plant.rows stage.0 (items_are (IsRow plant.n plant.p) _ (FitsRow plant.n plant.p) plant.rows stage.0 (λ x v fits r. row_ok plant.n plant.p x v fits r) is.rows_fit stage.2)))
        (then_ok (under (codes "terminal") (each (terminal_row_of plant.n) 0 end.0)) _ plant.terminal _ (outer_ok (codes "terminal") (each (terminal_row_of plant.n) 0 end.0) plant.terminal
        (each_ok (terminal_row_of plant.n) 0 plant.terminal end.0 (items_are IsTerminalRow _ (FitsRow plant.n 0) plant.terminal end.0 (λ x v fits r. terminal_row_ok plant.n x v fits r) is.terminal_fits end.2)))
        refl))))

    grid_ok : at_key (codes "grid") (grid_of plant.n) d ≡ Ok plant.grid
    grid_ok =
        let is = plant.is_plant in
        at_ok (codes "grid") (grid_of plant.n) d (IsList IsAxis plant.grid) plant.grid
        (λ v l. then_ok (list_of_length plant.n v) (λ items. each axis_of 0 items) l.items (Ok plant.grid) (sized_ok plant.n v l.items l.list (items_length IsAxis plant.grid l.items l.are ∙ is.grid_size))
        (each_ok axis_of 0 plant.grid l.items (items_are IsAxis _ IsCoordinate plant.grid l.items (λ x w fits a. axis_ok x w fits a) is.grid_ok l.are))) f.grid

    parts_ok : parts_of d ≡ Ok (stated_by plant)
    parts_ok =
        then_ok (head_of d) _ plant.horizon _ head_ok
        (then_ok (dynamics_of plant.horizon d) _ (record { a = plant.a.rows; b = plant.b.rows }) _ dynamics_ok
        (then_ok (weights_of (length plant.a.rows) (width plant.b.rows) d) _ (stated_by plant).weights _ (sized (λ n p. weights_of n p d ≡ Ok (stated_by plant).weights) weights_ok)
        (then_ok (targets_of (length plant.a.rows) (width plant.b.rows) d) _ (stated_by plant).targets _ (sized (λ n p. targets_of n p d ≡ Ok (stated_by plant).targets) targets_ok)
        (then_ok (row_lists_of plant.horizon (length plant.a.rows) (width plant.b.rows) d) _ (stated_by plant).row_lists _ (sized (λ n p. row_lists_of plant.horizon n p d ≡ Ok (stated_by plant).row_lists) lists_ok)
        (then_ok (at_key (codes "grid") (grid_of (length plant.a.rows)) d) _ plant.grid _ (sized (λ n p. at_key (codes "grid") (grid_of n) d ≡ Ok plant.grid) grid_ok) refl)))))
      where
        sized : (P : ℕ → ℕ → Type 0) → P plant.n plant.p → P (length plant.a.rows) (width plant.b.rows)
        sized P h = subst (λ n. P n (width plant.b.rows)) (sym states) (subst (λ p. P plant.n p) (sym inputs) h)

pub plant_texts : PlantTextsAreRead
plant_texts bytes plant = (
  λ r. record { text = r.text; value = r.value; json = r.json; file = plant_says plant r.value (parts_read r.value (stated_by plant) r.checked) },
  λ t. record { text = t.text; value = t.value; json = t.json; checked = parts_ok plant t.value t.file },
)

pub one_plant_text : OneReading → OnePlantText
one_plant_text reading bytes x y h k = let e = reading bytes (stated x) (stated y) ((plant_texts bytes x).1 h) ((plant_texts bytes y).1 k) in cc
