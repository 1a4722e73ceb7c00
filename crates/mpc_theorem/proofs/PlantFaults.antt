-- The first check of a plant's file that fails is the first of the file's faults.
use Rattle.std.proofs.Common.{◌≡◌, ℕ, ◌+◌, ◌*◌, ◌≤◌, ◌&&◌, inl, inr, ℤ, pos, unsigned_abs, List, [], ◌∷◌, ◌++◌, length, drop, codes, Bool, true, false, cond, nat_le, Option, Some, None, option_map, Ok, Err, refl, sym, ◌∙◌, ap, subst, arith, append_assoc, append-nil}
use Rattle.std.specs.Prelude.{⊤, is_none, unwrap_or, slice_get}
use Rattle.std.specs.List.{flat_map}
use Rattle.std.specs.Ordering.{int_eq}
use Rattle.std.proofs.lemmas.Bool.Decides.{nat_tests}
use Rattle.serde_json.specs.Data.{Data, null, Items, no_items}
use Rattle.serde_json.specs.Events.{items_len}
use Rattle.serde_json.specs.Find.{get, get_item, at, as_array}
use Rattle.mpc_exact.specs.Rational.{ℚ}
use Rattle.mpc_plant.specs.declared.faults.PlantKind.{PlantKind}
use Rattle.mpc_plant.specs.declared.faults.PlantKind.TheVariants.{NotJson, UnknownKey, WrongKind, OverLimit, BadVersion}
use Rattle.mpc_plant.specs.Keys.{plant_keys}
use Rattle.mpc_plant.specs.Limits.{row_limit}
use Rattle.mpc_plant.specs.Numbers.{integer_of}
use Rattle.mpc_plant.specs.Faults.{Checked, ◌>>=◌, ensure, under as under_key, each as each_checked}
use Rattle.mpc_plant.specs.CheckedEntries.{whole_number_of, list_of, list_between, is_from_to, rows_of}
use Rattle.mpc_plant.specs.CheckedObjects.{object_with, present, needed}
use Rattle.mpc_plant.specs.CheckedRows.{vector_or_zeros, stage_row_of, terminal_row_of, axis_of}
use Rattle.mpc_plant.specs.CheckedPlant.{at_key as checked_at, keys_of, is_version, version_of, absent, plain_of, allowed_by, edition_of, steps_in, horizon_of, weight_of, square_of, side_of, width, list_or_none, grid_of}
use Rattle.mpc_plant.specs.WholePlant.{Parts, Dynamics, head_of, dynamics_of, weights_of, targets_of, few_rows, row_lists_of, parts_of, IsFirstFault}
use Rattle.mpc_theorem.specs.PlantFile.{IsInteger, IsMatrix, IsVector, IsNumber, AreItems, no_more, one_more, At, keys_of_two}
use Rattle.mpc_theorem.specs.PlantFaults.{Fault, unless, under, at_key, each, value_at, item_at, items_of, size, each_item, integer, object_faults, integer_faults, list_faults, vector_faults, square_faults, side_faults, weight_faults, row_faults, terminal_row_faults, axis_faults, steps, states, inputs, edition_faults, needed_keys, head_faults, dynamics_faults, weights_faults, targets_faults, many_rows, row_lists_faults, grid_faults, plant_faults, IsFaultyText, no_json, faulty, FaultsAreFirst}
use Rattle.mpc_theorem.proofs.PlantChecks.{ok_is, both_ok, inner_ok, test_ok, found_some, list_array, items_length}
use Rattle.mpc_theorem.proofs.PlantValues.{rows_read, square_read, side_read}
use Rattle.mpc_theorem.proofs.PlantObjects.{needed_read, at_read}
use Rattle.mpc_theorem.proofs.PlantRows.{horizon_read}
use Rattle.mpc_theorem.proofs.PlantTexts.{dynamics_read}
use Rattle.mpc_theorem.proofs.FaultChecks.{Agrees, then_agrees, value_agrees, under_agrees, ensure_agrees, found_agrees, each_agrees, object_then, needed_then, integer_agrees, steps_agree, version_agrees, items_agree, square_agrees, side_agrees}
use Rattle.mpc_theorem.proofs.FaultRows.{weight_agrees, zeros_agree, row_agrees, terminal_agrees, axis_agrees}

-- ---- the file
-- the keys that are needed are there
record Present (d : Data) : Type 0 where
  at_version : (v : Data) × (get (codes "version") d ≡ Some v)
  at_horizon : (v : Data) × (get (codes "horizon") d ≡ Some v)
  at_a : (v : Data) × (get (codes "A") d ≡ Some v)
  at_b : (v : Data) × (get (codes "B") d ≡ Some v)
  at_q : (v : Data) × (get (codes "Q") d ≡ Some v)
  at_r : (v : Data) × (get (codes "R") d ≡ Some v)
  at_last : (v : Data) × (get (codes "P") d ≡ Some v)
  at_grid : (v : Data) × (get (codes "grid") d ≡ Some v)

module _ (d : Data) where
  keys_agree : Agrees (keys_of d) (object_faults keys_of_two needed_keys d)
  keys_agree =
      subst (Agrees (keys_of d)) (append-nil (object_faults keys_of_two needed_keys d))
      (object_then d keys_of_two needed_keys _ [] (λ _. needed_then d (codes "version") (drop 1 needed_keys) _ [] (λ _ _. needed_then d (codes "horizon") (drop 2 needed_keys) _ [] (λ _ _. needed_then d (codes "A") (drop 3 needed_keys) _ [] (λ _ _. needed_then d (codes "B") (drop 4 needed_keys) _ [] (λ _ _.
      needed_then d (codes "Q") (drop 5 needed_keys) _ [] (λ _ _. needed_then d (codes "R") (drop 6 needed_keys) _ [] (λ _ _. needed_then d (codes "P") (drop 7 needed_keys) _ [] (λ _ _. needed_then d (codes "grid") (drop 8 needed_keys) _ [] (λ _ _. refl))))))))))

  keys_present : (x : ⊤) → keys_of d ≡ Ok x → Present d
  keys_present x e =
      let keys = both_ok (object_with plant_keys d) _ x e in
      let version = both_ok (needed (codes "version") d) _ x keys.2 in
      let horizon = both_ok (needed (codes "horizon") d) _ x version.2 in
      let a = both_ok (needed (codes "A") d) _ x horizon.2 in
      let b = both_ok (needed (codes "B") d) _ x a.2 in
      let q = both_ok (needed (codes "Q") d) _ x b.2 in
      let r = both_ok (needed (codes "R") d) _ x q.2 in
      let last = both_ok (needed (codes "P") d) _ x r.2 in
      let grid = both_ok (needed (codes "grid") d) _ x last.2 in
      record {
        at_version = (version.0, needed_read (codes "version") d version.0 version.1);
        at_horizon = (horizon.0, needed_read (codes "horizon") d horizon.0 horizon.1);
        at_a = (a.0, needed_read (codes "A") d a.0 a.1);
        at_b = (b.0, needed_read (codes "B") d b.0 b.1);
        at_q = (q.0, needed_read (codes "Q") d q.0 q.1);
        at_r = (r.0, needed_read (codes "R") d r.0 r.1);
        at_last = (last.0, needed_read (codes "P") d last.0 last.1);
        at_grid = (grid.0, needed_read (codes "grid") d grid.0 grid.1);
      }

  there_agrees : {A : Type 0} (key : List ℕ) (check : Data → Checked A) (faults : Data → List Fault) → ((v : Data) → Agrees (check v) (faults v)) → (there : (v : Data) × (get key d ≡ Some v)) → Agrees (checked_at key check d) (at_key key faults d)
  there_agrees key check faults h there = subst (λ o. Agrees (present key o >>= λ v. under_key key (check v)) (under key (unwrap_or (option_map faults o) []))) (sym there.1) (under_agrees key (check there.0) (faults there.0) (h there.0))

  -- ---- the version
  absent_agrees : (key : List ℕ) (o : Option Data) → Agrees (absent key o) (under key (unless (is_none o) UnknownKey))
  absent_agrees key None = refl
  absent_agrees key (Some v) = ([], refl)

  abbrev new : List ℕ → List Fault
  new key = under key (unless (is_none (get key d)) UnknownKey)

  plain_agrees : Agrees (plain_of d) (flat_map (λ key. under key (unless (is_none (get key d)) UnknownKey)) (codes "drift" ∷ codes "xgoal" ∷ codes "ugoal" ∷ []))
  plain_agrees =
      then_agrees (absent (codes "drift") (get (codes "drift") d)) _ (new (codes "drift")) _ (absent_agrees (codes "drift") (get (codes "drift") d)) (λ _ _.
      then_agrees (absent (codes "xgoal") (get (codes "xgoal") d)) _ (new (codes "xgoal")) _ (absent_agrees (codes "xgoal") (get (codes "xgoal") d)) (λ _ _.
      subst (Agrees (absent (codes "ugoal") (get (codes "ugoal") d))) (sym (append-nil (new (codes "ugoal")))) (absent_agrees (codes "ugoal") (get (codes "ugoal") d))))

  version_is : (v : Data) (z : ℤ) → version_of v ≡ Ok z → integer v ≡ z
  version_is v z e =
      let one = both_ok (whole_number_of v) (λ z. ensure (is_version z) BadVersion >>= λ _. Ok z) z e in
      let two = both_ok (ensure (is_version one.0) BadVersion) (λ _. Ok one.0) z one.2 in
      ap (λ o. unwrap_or o (pos 0)) (found_some WrongKind (integer_of v) one.0 one.1) ∙ ok_is one.0 z two.2

  edition_agrees : (v : Data) × (get (codes "version") d ≡ Some v) → Agrees (edition_of d) (at_key (codes "version") (integer_faults 1 2 BadVersion) d ++ edition_faults d)
  edition_agrees there =
      then_agrees (checked_at (codes "version") version_of d) (allowed_by d) (at_key (codes "version") (integer_faults 1 2 BadVersion) d) (edition_faults d)
      (there_agrees (codes "version") version_of (integer_faults 1 2 BadVersion) (λ v. integer_agrees 1 2 BadVersion _ version_agrees (integer_of v)) there)
      (λ z e. let at : At (codes "version") d (λ v. integer v ≡ z) = at_read (codes "version") version_of d (λ v. integer v ≡ z) z (λ v is. version_is v z is) e in
      let same : integer (value_at (codes "version") d) ≡ z = ap (λ o. integer (unwrap_or o null)) at.found ∙ at.is in
      subst (λ w. Agrees (allowed_by d z) (cond (int_eq w (pos 1)) (flat_map (λ key. under key (unless (is_none (get key d)) UnknownKey)) (codes "drift" ∷ codes "xgoal" ∷ codes "ugoal" ∷ [])) [])) (sym same) (by (int_eq z (pos 1))))
    where
      by : (b : Bool) → Agrees (cond b (plain_of d) (Ok tt)) (cond b (flat_map (λ key. under key (unless (is_none (get key d)) UnknownKey)) (codes "drift" ∷ codes "xgoal" ∷ codes "ugoal" ∷ [])) [])
      by true = plain_agrees
      by false = refl

  head_agrees : Agrees (head_of d) (head_faults d)
  head_agrees =
      then_agrees (keys_of d) _ (object_faults keys_of_two needed_keys d) _ keys_agree (λ x e. let p = keys_present x e in
      subst (Agrees (edition_of d >>= λ _. checked_at (codes "horizon") horizon_of d)) (append_assoc (at_key (codes "version") (integer_faults 1 2 BadVersion) d) (edition_faults d) (at_key (codes "horizon") (integer_faults 1 6 OverLimit) d))
      (then_agrees (edition_of d) _ (at_key (codes "version") (integer_faults 1 2 BadVersion) d ++ edition_faults d) _ (edition_agrees p.at_version) (λ _ _.
      there_agrees (codes "horizon") horizon_of (integer_faults 1 6 OverLimit) (λ v. integer_agrees 1 6 OverLimit steps_in steps_agree (integer_of v)) p.at_horizon)))

  -- ---- the sizes
  steps_are : (h : ℕ) → At (codes "horizon") d (IsInteger (pos h)) → steps d ≡ h
  steps_are h at = ap (λ o. unsigned_abs (integer (unwrap_or o null))) at.found ∙ ap (λ o. unsigned_abs (unwrap_or o (pos 0))) at.is

  states_are : (a : List (List ℚ)) → At (codes "A") d (IsMatrix a) → states d ≡ length a
  states_are a at = ap (λ o. size (unwrap_or o null)) at.found ∙ ap size at.is.list ∙ items_length IsVector a at.is.items at.is.are

  first_length : (b : List (List ℚ)) (items : Items) → AreItems IsVector b items → size (unwrap_or (get_item 0 items) null) ≡ width b
  first_length _ _ no_more = refl
  first_length _ _ (one_more x v xs vs is rest) = ap size is.list ∙ items_length IsNumber x is.items is.are

  inputs_are : (b : List (List ℚ)) → At (codes "B") d (IsMatrix b) → inputs d ≡ width b
  inputs_are b at = ap (λ o. size (item_at 0 (unwrap_or o null))) at.found ∙ ap (λ v. size (item_at 0 v)) at.is.list ∙ first_length b at.is.items at.is.are

  -- ---- the parts
  square_some : (v : Data) (a : List (List ℚ)) → square_of v ≡ Ok a → 1 ≤ length a
  square_some v a e =
      let one = both_ok (list_between 1 4 v) (λ items. rows_of (items_len items) items) a e in
      let two = both_ok (list_of v) (λ items. ensure (is_from_to 1 4 (items_len items)) OverLimit >>= λ _. Ok items) one.0 one.1 in
      let three = both_ok (ensure (is_from_to 1 4 (items_len two.0)) OverLimit) (λ _. Ok two.0) one.0 two.2 in
      let fits : is_from_to 1 4 (items_len one.0) ≡ true = subst (λ items. is_from_to 1 4 (items_len items) ≡ true) (ok_is two.0 one.0 three.2) (test_ok (is_from_to 1 4 (items_len two.0)) OverLimit three.0 three.1) in
      let long : items_len one.0 ≡ length a = items_length IsVector a one.0 (rows_read (items_len one.0) a one.0 one.2) in
      subst (λ n. 1 ≤ n) long (by (items_len one.0) (nat_le 1 (items_len one.0)) refl fits)
    where
      by : (k : ℕ) (b : Bool) → nat_le 1 k ≡ b → (b && nat_le k 4) ≡ true → 1 ≤ k
      by k true is h = grind (arith, nat_tests)
      by k false is h = absurd cc

  dynamics_agree : Present d → (h : ℕ) → steps d ≡ h → Agrees (dynamics_of h d) (dynamics_faults d)
  dynamics_agree p h long =
      then_agrees (checked_at (codes "A") square_of d) _ (at_key (codes "A") square_faults d) _ (there_agrees (codes "A") square_of square_faults square_agrees p.at_a) (λ a in_a.
      let n : states d ≡ length a = states_are a (at_read (codes "A") square_of d (IsMatrix a) a (λ v is. square_read a v is) in_a) in
      let some = at_read (codes "A") square_of d (λ _. 1 ≤ length a) a (λ v is. square_some v a is) in_a in
      then_agrees (checked_at (codes "B") (side_of (length a)) d) _ (at_key (codes "B") (side_faults (states d)) d) _
      (there_agrees (codes "B") (side_of (length a)) (side_faults (states d)) (λ v. subst (λ k. Agrees (side_of (length a) v) (side_faults k v)) (sym n) (side_agrees (length a) v some.is)) p.at_b) (λ b in_b.
      let width_same : inputs d ≡ width b = inputs_are b (at_read (codes "B") (side_of (length a)) d (IsMatrix b) b (λ v is. side_read (length a) b v is) in_b) in
      let test : nat_le (width b * h) 6 ≡ nat_le (inputs d * steps d) 6 = λ i. nat_le (sym width_same i * sym long i) 6 in
      value_agrees (under_key (codes "horizon") (ensure (nat_le (width b * h) 6) OverLimit)) _ (under (codes "horizon") (unless (nat_le (inputs d * steps d) 6) OverLimit))
      (under_agrees (codes "horizon") (ensure (nat_le (width b * h) 6) OverLimit) (unless (nat_le (inputs d * steps d) 6) OverLimit) (subst (λ t. Agrees (ensure (nat_le (width b * h) 6) OverLimit) (unless t OverLimit)) test (ensure_agrees (nat_le (width b * h) 6) OverLimit)))))

  weights_agree : Present d → (n p : ℕ) → Agrees (weights_of n p d) (weights_faults n p d)
  weights_agree there n p =
      then_agrees (checked_at (codes "Q") (weight_of n) d) _ (at_key (codes "Q") (weight_faults n) d) _ (there_agrees (codes "Q") (weight_of n) (weight_faults n) (weight_agrees n) there.at_q) (λ q _.
      then_agrees (checked_at (codes "R") (weight_of p) d) _ (at_key (codes "R") (weight_faults p) d) _ (there_agrees (codes "R") (weight_of p) (weight_faults p) (weight_agrees p) there.at_r) (λ r _.
      value_agrees (checked_at (codes "P") (weight_of n) d) _ (at_key (codes "P") (weight_faults n) d) (there_agrees (codes "P") (weight_of n) (weight_faults n) (weight_agrees n) there.at_last)))

  targets_agree : (n p : ℕ) → Agrees (targets_of n p d) (targets_faults n p d)
  targets_agree n p =
      then_agrees (vector_or_zeros (codes "drift") n (get (codes "drift") d)) _ (at_key (codes "drift") (vector_faults n) d) _ (zeros_agree (codes "drift") n (get (codes "drift") d)) (λ drift _.
      then_agrees (vector_or_zeros (codes "xgoal") n (get (codes "xgoal") d)) _ (at_key (codes "xgoal") (vector_faults n) d) _ (zeros_agree (codes "xgoal") n (get (codes "xgoal") d)) (λ xgoal _.
      value_agrees (vector_or_zeros (codes "ugoal") p (get (codes "ugoal") d)) _ (at_key (codes "ugoal") (vector_faults p) d) (zeros_agree (codes "ugoal") p (get (codes "ugoal") d))))

  -- ---- the lists of rows
  list_agrees : (key : List ℕ) (o : Option Data) → Agrees (list_or_none key o) (under key (unwrap_or (option_map list_faults o) []))
  list_agrees key None = refl
  list_agrees key (Some v) = under_agrees key (list_of v) (list_faults v) (found_agrees WrongKind (as_array v))

  listed_items : (key : List ℕ) (o : Option Data) (items : Items) → list_or_none key o ≡ Ok items → items_of (unwrap_or o null) ≡ items
  listed_items key None items e = ok_is no_items items e
  listed_items key (Some v) items e = ap items_of (list_array v items (inner_ok key (list_of v) items e))

  each_there : {A : Type 0} (key : List ℕ) (check : Data → Checked A) (faults : Data → List Fault) → ((v : Data) → Agrees (check v) (faults v)) → (o : Option Data) (items : Items) → items_of (unwrap_or o null) ≡ items
      → Agrees (under_key key (each_checked check 0 items)) (under key (unwrap_or (option_map (each_item faults) o) []))
  each_there key check faults h None items e = subst (λ l. Agrees (under_key key (each_checked check 0 l)) []) e refl
  each_there key check faults h (Some v) items e = under_agrees key (each_checked check 0 items) (each_item faults v) (subst (λ l. Agrees (each_checked check 0 items) (each faults 0 l)) (sym e) (each_agrees check faults h 0 items))

  lists_agree : (n p h : ℕ) → Agrees (row_lists_of h n p d) (row_lists_faults n p h d)
  lists_agree n p h =
      then_agrees (list_or_none (codes "rows") (get (codes "rows") d)) _ (at_key (codes "rows") list_faults d) _ (list_agrees (codes "rows") (get (codes "rows") d)) (λ stage in_stage.
      then_agrees (list_or_none (codes "terminal") (get (codes "terminal") d)) _ (at_key (codes "terminal") list_faults d) _ (list_agrees (codes "terminal") (get (codes "terminal") d)) (λ end in_end.
      let rows : items_of (value_at (codes "rows") d) ≡ stage = listed_items (codes "rows") (get (codes "rows") d) stage in_stage in
      let last : items_of (value_at (codes "terminal") d) ≡ end = listed_items (codes "terminal") (get (codes "terminal") d) end in_end in
      let test : nat_le (h * items_len stage + items_len end) (row_limit (p * h)) ≡ nat_le (h * size (value_at (codes "rows") d) + size (value_at (codes "terminal") d)) (row_limit (p * h)) = λ i. nat_le (h * items_len (sym rows i) + items_len (sym last i)) (row_limit (p * h)) in
      then_agrees (under_key (codes "rows") (few_rows h p stage end)) _ (many_rows p h d) _
      (under_agrees (codes "rows") (few_rows h p stage end) _ (subst (λ t. Agrees (few_rows h p stage end) (unless t OverLimit)) test (ensure_agrees (nat_le (h * items_len stage + items_len end) (row_limit (p * h))) OverLimit))) (λ _ _.
      then_agrees (under_key (codes "rows") (each_checked (stage_row_of n p) 0 stage)) _ (at_key (codes "rows") (each_item (row_faults n p)) d) _ (each_there (codes "rows") (stage_row_of n p) (row_faults n p) (row_agrees n p) (get (codes "rows") d) stage rows) (λ _ _.
      value_agrees (under_key (codes "terminal") (each_checked (terminal_row_of n) 0 end)) _ (at_key (codes "terminal") (each_item (terminal_row_faults n)) d) (each_there (codes "terminal") (terminal_row_of n) (terminal_row_faults n) (terminal_agrees n) (get (codes "terminal") d) end last)))))

  -- ---- all of them
  pub parts_agree : Agrees (parts_of d) (plant_faults d)
  parts_agree =
      then_agrees (head_of d) _ (head_faults d) _ head_agrees (λ h in_head.
      let keys = both_ok (keys_of d) _ h in_head in
      let p : Present d = keys_present keys.0 keys.1 in
      let edition = both_ok (edition_of d) _ h keys.2 in
      let long : steps d ≡ h = steps_are h (at_read (codes "horizon") horizon_of d (IsInteger (pos h)) h (λ v is. horizon_read h v is) edition.2) in
      then_agrees (dynamics_of h d) _ (dynamics_faults d) _ (dynamics_agree p h long) (λ m in_dynamics.
      let at = dynamics_read d h m in_dynamics in
      by m h (states_are m.a at.0) (inputs_are m.b at.1) long p))
    where
      by : (m : Dynamics) (h : ℕ) → states d ≡ length m.a → inputs d ≡ width m.b → steps d ≡ h → Present d
          → Agrees {A = Parts} (weights_of (length m.a) (width m.b) d >>= λ weights. targets_of (length m.a) (width m.b) d >>= λ targets. row_lists_of h (length m.a) (width m.b) d >>= λ lists.
          checked_at (codes "grid") (grid_of (length m.a)) d >>= λ grid. Ok (record { horizon = h; dynamics = m; weights = weights; targets = targets; row_lists = lists; grid = grid }))
          (weights_faults (states d) (inputs d) d ++ (targets_faults (states d) (inputs d) d ++ (row_lists_faults (states d) (inputs d) (steps d) d ++ at_key (codes "grid") (grid_faults (states d)) d)))
      by m h n p long there =
          then_agrees (weights_of (length m.a) (width m.b) d) _ (weights_faults (states d) (inputs d) d) _ (sized2 (λ n p. Agrees (weights_of (length m.a) (width m.b) d) (weights_faults n p d)) (weights_agree there (length m.a) (width m.b))) (λ _ _.
          then_agrees (targets_of (length m.a) (width m.b) d) _ (targets_faults (states d) (inputs d) d) _ (sized2 (λ n p. Agrees (targets_of (length m.a) (width m.b) d) (targets_faults n p d)) (targets_agree (length m.a) (width m.b))) (λ _ _.
          then_agrees (row_lists_of h (length m.a) (width m.b) d) _ (row_lists_faults (states d) (inputs d) (steps d) d) _
          (subst (λ k. Agrees (row_lists_of h (length m.a) (width m.b) d) (row_lists_faults (states d) (inputs d) k d)) (sym long) (sized2 (λ n p. Agrees (row_lists_of h (length m.a) (width m.b) d) (row_lists_faults n p h d)) (lists_agree (length m.a) (width m.b) h))) (λ _ _.
          value_agrees (checked_at (codes "grid") (grid_of (length m.a)) d) _ (at_key (codes "grid") (grid_faults (states d)) d)
          (there_agrees (codes "grid") (grid_of (length m.a)) (grid_faults (states d)) (λ v. subst (λ k. Agrees (grid_of (length m.a) v) (grid_faults k v)) (sym n) (items_agree (length m.a) axis_of axis_faults axis_agrees v)) there.at_grid))))
        where
          sized2 : (P : ℕ → ℕ → Type 0) → P (length m.a) (width m.b) → P (states d) (inputs d)
          sized2 P given = subst (λ k. P k (inputs d)) (sym n) (subst (λ k. P (length m.a) k) (sym p) given)

-- ---- the first
first_is : {A : Type 0} (r : Checked A) (faults : List Fault) (told : Fault) → Agrees r faults → r ≡ Err told → slice_get faults 0 ≡ Some told
first_is {A} (Ok x) faults told h e = absurd cc
first_is {A} (Err other) faults told h e = ap (λ l. slice_get l 0) h.1 ∙ ap Some (error_is other told e)
  where
    error_is : (x y : Fault) → ◌≡◌ {A = Checked A} (Err x) (Err y) → x ≡ y
    error_is x y e = cc

is_first : {A : Type 0} (r : Checked A) (faults : List Fault) (told : Fault) → Agrees r faults → slice_get faults 0 ≡ Some told → r ≡ Err told
is_first (Ok x) faults told h e = let none : slice_get faults 0 ≡ None = ap (λ l. slice_get l 0) h in absurd cc
is_first (Err other) faults told h e = let first : slice_get faults 0 ≡ Some other = ap (λ l. slice_get l 0) h.1 in ap Err (some_is other told (sym first ∙ e))
  where
    some_is : (x y : Fault) → Some x ≡ Some y → x ≡ y
    some_is x y e = cc

pub faults_are_first : FaultsAreFirst
faults_are_first bytes kind path = (to_faulty, of_faulty kind path)
  where
    to_faulty : IsFirstFault bytes kind path → IsFaultyText bytes kind path
    to_faulty (inl none) = subst (λ kind. IsFaultyText bytes kind path) (sym none.kind_is) (subst (IsFaultyText bytes NotJson) (sym none.at_top) (no_json none.unread))
    to_faulty (inr fails) = faulty fails.value kind path fails.text fails.json (first_is (parts_of fails.value) (plant_faults fails.value) (kind, path) (parts_agree fails.value) fails.failed)

    of_faulty : (kind : PlantKind) (path : List ℕ) → IsFaultyText bytes kind path → IsFirstFault bytes kind path
    of_faulty _ _ (no_json none) = inl (record { unread = none; kind_is = refl; at_top = refl })
    of_faulty _ _ (faulty v kind path text json first) = inr (record { text = text; value = v; json = json; failed = is_first (parts_of v) (plant_faults v) (kind, path) (parts_agree v) first })
