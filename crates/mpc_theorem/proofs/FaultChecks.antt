-- A check of a part of a plant's file answers the first fault of that part: keys, numbers and lists.
use Rattle.std.proofs.Common.{◌≡◌, ℕ, suc, ◌≤◌, ◌==◌, ◌&&◌, ℤ, pos, negsuc, List, [], ◌∷◌, ◌++◌, decimal, Bool, true, false, cond, nat_le, Option, Some, None, option_map, Ok, Err, refl, sym, ◌∙◌, ap, subst, arith, append_assoc}
use Rattle.std.specs.Prelude.{⊤, is_some, unwrap_or}
use Rattle.std.specs.List.{flat_map, list_any}
use Rattle.std.specs.Str.{bytes_eq}
use Rattle.std.proofs.lemmas.Bool.Decides.{nat_tests}
use Rattle.std.proofs.lemmas.Int.{ints}
use Rattle.serde_json.specs.Data.{Data, null, boolean, number, string, array, object, Items, no_items, item, Members, no_members, member}
use Rattle.serde_json.specs.Events.{items_len}
use Rattle.serde_json.specs.Find.{get, as_array, as_object}
use Rattle.mpc_exact.specs.Rational.{ℚ, int}
use Rattle.mpc_plant.specs.declared.faults.PlantKind.{PlantKind}
use Rattle.mpc_plant.specs.declared.faults.PlantKind.TheVariants.{NotObject, UnknownKey, MissingKey, WrongKind, BadNumber, WrongShape, OverLimit, BadVersion}
use Rattle.mpc_plant.specs.Keys.{first_other}
use Rattle.mpc_plant.specs.Limits.{greatest_count}
use Rattle.mpc_plant.specs.Numbers.{integer_of}
use Rattle.mpc_plant.specs.Decimals.{text_number}
use Rattle.mpc_plant.specs.Faults.{Checked, ◌>>=◌, fault, ensure, under as under_key, each as each_checked}
use Rattle.mpc_plant.specs.CheckedEntries.{found, number_of as checked_number, list_of_length, list_between, is_from_to, vector_of, rows_of}
use Rattle.mpc_plant.specs.CheckedObjects.{object_with, unknown, shown_key, present, needed}
use Rattle.mpc_plant.specs.CheckedRows.{count_in}
use Rattle.mpc_plant.specs.CheckedPlant.{is_version, steps_in, square_of, width_of, first_width, side_of}
use Rattle.mpc_theorem.specs.PlantFaults.{Fault, unless, under, at_key, each, item_at, items_of, size, each_item, number as value, other_keys, object_faults, number_faults, is_between, short_list_faults, sized_faults, vector_faults, rows_faults, square_faults, side_faults}
use Rattle.mpc_theorem.proofs.PlantChecks.{ok_is, both_ok, inner_ok, found_some}
use Rattle.mpc_theorem.proofs.PlantValues.{sized_read, between_read}
use Rattle.mpc_theorem.proofs.PlantObjects.{needed_read}

-- no faults where a check gives a value, and else its fault is the first
abbrev pub Agrees : {A : Type 0} → Checked A → List Fault → Type 0
Agrees (Ok x) faults = faults ≡ []
Agrees (Err told) faults = (more : List Fault) × (faults ≡ told ∷ more)

-- ---- how checks are joined
pub then_agrees : {A B : Type 0} (r : Checked A) (f : A → Checked B) (first second : List Fault) → Agrees r first → ((x : A) → r ≡ Ok x → Agrees (f x) second) → Agrees (r >>= f) (first ++ second)
then_agrees (Ok x) f first second h k = subst (λ l. Agrees (f x) (l ++ second)) (sym h) (k x refl)
then_agrees (Err told) f first second h k = (h.0 ++ second, ap (λ l. l ++ second) h.1)

pub value_agrees : {A B : Type 0} (r : Checked A) (g : A → B) (faults : List Fault) → Agrees r faults → Agrees (r >>= λ x. Ok (g x)) faults
value_agrees (Ok x) g faults h = h
value_agrees (Err told) g faults h = h

pub under_agrees : {A : Type 0} (segment : List ℕ) (r : Checked A) (faults : List Fault) → Agrees r faults → Agrees (under_key segment r) (under segment faults)
under_agrees segment (Ok x) faults h = ap (under segment) h
under_agrees segment (Err told) faults h = (under segment h.0, ap (under segment) h.1)

pub ensure_agrees : (test : Bool) (kind : PlantKind) → Agrees (ensure test kind) (unless test kind)
ensure_agrees true kind = refl
ensure_agrees false kind = ([], refl)

pub found_agrees : {A : Type 0} (kind : PlantKind) (o : Option A) → Agrees (found kind o) (unless (is_some o) kind)
found_agrees kind None = ([], refl)
found_agrees kind (Some x) = refl

pub each_agrees : {A : Type 0} (check : Data → Checked A) (faults : Data → List Fault) → ((d : Data) → Agrees (check d) (faults d)) → (i : ℕ) (items : Items) → Agrees (each_checked check i items) (each faults i items)
each_agrees check faults h i no_items = refl
each_agrees check faults h i (item d ds) =
    then_agrees (under_key (decimal i) (check d)) (λ x. each_checked check (suc i) ds >>= λ xs. Ok (x ∷ xs)) (under (decimal i) (faults d)) (each faults (suc i) ds)
    (under_agrees (decimal i) (check d) (faults d) (h d)) (λ x _. value_agrees (each_checked check (suc i) ds) (λ xs. x ∷ xs) (each faults (suc i) ds) (each_agrees check faults h (suc i) ds))

-- what stands at a key
pub found_at : {A : Type 0} (key : List ℕ) (check : Data → Checked A) (faults : Data → List Fault) (d v : Data) → get key d ≡ Some v → Agrees (check v) (faults v) → Agrees (under_key key (check v)) (at_key key faults d)
found_at key check faults d v e h = subst (λ o. Agrees (under_key key (check v)) (under key (unwrap_or (option_map faults o) []))) (sym e) (under_agrees key (check v) (faults v) h)

-- ---- objects
module _ (keys : List (List ℕ)) where
  members_agree : (ms : Members) → Agrees (unknown (first_other keys ms)) (other_keys keys ms)
  members_agree no_members = refl
  members_agree (member key d ms) = by (list_any (bytes_eq key) keys) (members_agree ms)
    where
      by : (b : Bool) → Agrees (unknown (first_other keys ms)) (other_keys keys ms) → Agrees (unknown (cond b (first_other keys ms) (Some key))) (under (shown_key key) (unless b UnknownKey) ++ other_keys keys ms)
      by true later = later
      by false later = (other_keys keys ms, refl)

  object_agrees : (o : Option Members) → Agrees (found NotObject o >>= λ ms. unknown (first_other keys ms)) (unless (is_some o) NotObject ++ other_keys keys (unwrap_or o no_members))
  object_agrees None = ([], refl)
  object_agrees (Some ms) = members_agree ms

-- a key that is needed
abbrev pub lacks : Data → List ℕ → List Fault
lacks d key = under key (unless (is_some (get key d)) MissingKey)

present_agrees : (key : List ℕ) (o : Option Data) → Agrees (present key o) (under key (unless (is_some o) MissingKey))
present_agrees key None = ([], refl)
present_agrees key (Some d) = refl

module _ {B : Type 0} (d : Data) where
  pub object_then : (keys wanted : List (List ℕ)) (f : ⊤ → Checked B) (faults : List Fault) → ((x : ⊤) → Agrees (f x) (flat_map (lacks d) wanted ++ faults)) → Agrees (object_with keys d >>= f) (object_faults keys wanted d ++ faults)
  object_then keys wanted f faults h =
      let kind : List Fault = unless (is_some (as_object d)) NotObject in
      let others : List Fault = other_keys keys (unwrap_or (as_object d) no_members) in
      let missing : List Fault = flat_map (lacks d) wanted in
      subst (Agrees (object_with keys d >>= f)) (sym (ap (λ l. l ++ faults) (sym (append_assoc kind others missing)) ∙ append_assoc (kind ++ others) missing faults))
      (then_agrees (object_with keys d) f (kind ++ others) (missing ++ faults) (object_agrees keys (as_object d)) (λ x _. h x))

  pub needed_then : (key : List ℕ) (keys : List (List ℕ)) (f : Data → Checked B) (faults : List Fault) → ((v : Data) → get key d ≡ Some v → Agrees (f v) (flat_map (lacks d) keys ++ faults)) → Agrees (needed key d >>= f) (flat_map (lacks d) (key ∷ keys) ++ faults)
  needed_then key keys f faults h =
      subst (Agrees (needed key d >>= f)) (sym (append_assoc (lacks d key) (flat_map (lacks d) keys) faults))
      (then_agrees (needed key d) f (lacks d key) (flat_map (lacks d) keys ++ faults) (present_agrees key (get key d)) (λ v e. h v (needed_read key d v e)))

-- ---- numbers
pub number_agrees : (d : Data) → Agrees (checked_number d) (number_faults d)
number_agrees null = ((BadNumber, []) ∷ [], refl)
number_agrees (boolean b) = ((BadNumber, []) ∷ [], refl)
number_agrees (number n) = found_agrees BadNumber (option_map int (integer_of (number n)))
number_agrees (string text) = found_agrees BadNumber (text_number text)
number_agrees (array ds) = ((BadNumber, []) ∷ [], refl)
number_agrees (object ms) = ((BadNumber, []) ∷ [], refl)

-- the number that was read
pub number_is : (x : ℚ) (d : Data) → checked_number d ≡ Ok x → value d ≡ x
number_is x null e = absurd cc
number_is x (boolean b) e = absurd cc
number_is x (number n) e = ap (λ o. unwrap_or o (int (pos 0))) (found_some BadNumber (option_map int (integer_of (number n))) x e)
number_is x (string text) e = ap (λ o. unwrap_or o (int (pos 0))) (found_some BadNumber (text_number text) x e)
number_is x (array ds) e = absurd cc
number_is x (object ms) e = absurd cc

-- a test with the value that it lets pass
passed_agrees : {A : Type 0} (x : A) (test : Bool) (kind : PlantKind) → Agrees (cond test (Ok x) (fault kind)) (unless test kind)
passed_agrees x true kind = refl
passed_agrees x false kind = ([], refl)

pub integer_agrees : {A : Type 0} (low high : ℕ) (kind : PlantKind) (check : ℤ → Checked A) → ((z : ℤ) → Agrees (check z) (unless (is_between low high z) kind)) → (o : Option ℤ)
    → Agrees (found WrongKind o >>= check) (unless (is_some o) WrongKind ++ unless (is_between low high (unwrap_or o (pos 0))) kind)
integer_agrees low high kind check h None = (unless (is_between low high (pos 0)) kind, refl)
integer_agrees low high kind check h (Some z) = h z

pub steps_agree : (z : ℤ) → Agrees (steps_in z) (unless (is_between 1 6 z) OverLimit)
steps_agree (pos k) = passed_agrees k (is_from_to 1 6 k) OverLimit
steps_agree (negsuc k) = ([], refl)

pub count_agrees : (z : ℤ) → Agrees (count_in z) (unless (is_between 0 greatest_count z) OverLimit)
count_agrees (pos k) = subst (λ b. Agrees (count_in (pos k)) (unless b OverLimit)) (same k) (passed_agrees k (nat_le k greatest_count) OverLimit)
  where
    same : (k : ℕ) → nat_le k greatest_count ≡ is_from_to 0 greatest_count k
    same k = let all : nat_le 0 k ≡ true = grind (arith, nat_tests) in ap (λ b. b && nat_le k greatest_count) (sym all)
count_agrees (negsuc k) = ([], refl)

version_test : (z : ℤ) → is_version z ≡ is_between 1 2 z
version_test (pos k) = grind (arith, ints, nat_tests)
version_test (negsuc k) = grind (arith, ints)

pub version_agrees : (z : ℤ) → Agrees (ensure (is_version z) BadVersion >>= λ _. Ok z) (unless (is_between 1 2 z) BadVersion)
version_agrees z = value_agrees (ensure (is_version z) BadVersion) (λ _. z) (unless (is_between 1 2 z) BadVersion) (subst (λ b. Agrees (ensure (is_version z) BadVersion) (unless b BadVersion)) (version_test z) (ensure_agrees (is_version z) BadVersion))

-- ---- lists
tested_agrees : (test : ℕ → Bool) (kind : PlantKind) (o : Option Items) → Agrees (found WrongKind o >>= λ items. ensure (test (items_len items)) kind >>= λ _. Ok items) (unless (is_some o) WrongKind ++ unless (test (items_len (unwrap_or o no_items))) kind)
tested_agrees test kind None = (unless (test 0) kind, refl)
tested_agrees test kind (Some items) = value_agrees (ensure (test (items_len items)) kind) (λ _. items) (unless (test (items_len items)) kind) (ensure_agrees (test (items_len items)) kind)

pub sized_agrees : (n : ℕ) (d : Data) → Agrees (list_of_length n d) (sized_faults n d)
sized_agrees n d = tested_agrees (λ k. k == n) WrongShape (as_array d)

short_agrees : (low high : ℕ) (d : Data) → Agrees (list_between low high d) (short_list_faults low high d)
short_agrees low high d = tested_agrees (is_from_to low high) OverLimit (as_array d)

-- a list of so many items, each of which is checked
pub items_agree : {A : Type 0} (n : ℕ) (check : Data → Checked A) (faults : Data → List Fault) → ((d : Data) → Agrees (check d) (faults d)) → (d : Data) → Agrees (list_of_length n d >>= λ items. each_checked check 0 items) (sized_faults n d ++ each_item faults d)
items_agree n check faults h d =
    then_agrees (list_of_length n d) (λ items. each_checked check 0 items) (sized_faults n d) (each_item faults d) (sized_agrees n d)
    (λ items e. subst (λ l. Agrees (each_checked check 0 items) (each faults 0 l)) (sym (ap items_of (sized_read n d items e).0)) (each_agrees check faults h 0 items))

pub vector_agrees : (n : ℕ) (d : Data) → Agrees (vector_of n d) (vector_faults n d)
vector_agrees n d = items_agree n checked_number number_faults number_agrees d

pub rows_agree : (columns : ℕ) (d : Data) (items : Items) → d ≡ array items → Agrees (rows_of columns items) (rows_faults columns d)
rows_agree columns d items e = subst (λ l. Agrees (rows_of columns items) (each (vector_faults columns) 0 l)) (sym (ap items_of e)) (each_agrees (vector_of columns) (vector_faults columns) (vector_agrees columns) 0 items)

pub square_agrees : (d : Data) → Agrees (square_of d) (square_faults d)
square_agrees d =
    then_agrees (list_between 1 4 d) (λ items. rows_of (items_len items) items) (short_list_faults 1 4 d) (rows_faults (size d) d) (short_agrees 1 4 d)
    (λ items e. let is : d ≡ array items = between_read 1 4 d items e in subst (λ n. Agrees (rows_of (items_len items) items) (rows_faults n d)) (sym (ap size is)) (rows_agree (items_len items) d items is))

width_agrees : (d : Data) → Agrees (width_of d) (short_list_faults 1 3 d)
width_agrees d = value_agrees (list_between 1 3 d) items_len (short_list_faults 1 3 d) (short_agrees 1 3 d)

width_is : (d : Data) (columns : ℕ) → width_of d ≡ Ok columns → columns ≡ size d
width_is d columns e =
    let one = both_ok (list_between 1 3 d) (λ entries. Ok (items_len entries)) columns e in
    sym (ok_is (items_len one.0) columns one.2) ∙ sym (ap size (between_read 1 3 d one.0 one.1))

pub side_agrees : (n : ℕ) (d : Data) → 1 ≤ n → Agrees (side_of n d) (side_faults n d)
side_agrees n d some =
    then_agrees (list_of_length n d) (λ items. first_width items >>= λ columns. rows_of columns items) (sized_faults n d) _ (sized_agrees n d)
    (λ items e. by items (sized_read n d items e).0 (sized_read n d items e).1)
  where
    by : (items : Items) → d ≡ array items → items_len items ≡ n → Agrees (first_width items >>= λ columns. rows_of columns items) (under (decimal 0) (short_list_faults 1 3 (item_at 0 d)) ++ rows_faults (size (item_at 0 d)) d)
    by no_items is len = absurd (omega (arith, len, some))
    by (item v vs) is len =
        let first : v ≡ item_at 0 d = sym (ap (item_at 0) is) in
        subst (λ w. Agrees (under_key (decimal 0) (width_of v) >>= λ columns. rows_of columns (item v vs)) (under (decimal 0) (short_list_faults 1 3 w) ++ rows_faults (size w) d)) first
        (then_agrees (under_key (decimal 0) (width_of v)) (λ columns. rows_of columns (item v vs)) (under (decimal 0) (short_list_faults 1 3 v)) (rows_faults (size v) d) (under_agrees (decimal 0) (width_of v) (short_list_faults 1 3 v) (width_agrees v))
        (λ columns e. subst (λ k. Agrees (rows_of columns (item v vs)) (rows_faults k d)) (width_is v columns (inner_ok (decimal 0) (width_of v) columns e)) (rows_agree columns d (item v vs) is)))
