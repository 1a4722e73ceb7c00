-- When a check of a plant file gives a value.
use Rattle.std.proofs.Common.{◌≡◌, ℕ, suc, List, [], ◌∷◌, length, All, Bool, true, false, decimal, Option, Some, None, Ok, Err, refl, ◌∙◌, ap, subst}
use Rattle.std.specs.Prelude.{⊤}
use Rattle.std.proofs.lemmas.List.Elements.{All-head, All-tail}
use Rattle.serde_json.specs.Data.{Data, null, boolean, number, string, array, object, Items, no_items, item}
use Rattle.serde_json.specs.Events.{items_len}
use Rattle.mpc_plant.specs.declared.faults.PlantKind.{PlantKind}
use Rattle.mpc_plant.specs.Faults.{Checked, ◌>>=◌, ensure, under, each}
use Rattle.mpc_plant.specs.CheckedEntries.{found, list_of}
use Rattle.mpc_theorem.specs.PlantFile.{AreItems, no_more, one_more}

-- ---- one check after another
pub ok_is : {A : Type 0} (x y : A) → ◌≡◌ {A = Checked A} (Ok x) (Ok y) → x ≡ y
ok_is x y e = cc

pub both_ok : {A B : Type 0} (r : Checked A) (f : A → Checked B) (y : B) → (r >>= f) ≡ Ok y → (x : A) × (r ≡ Ok x) × (f x ≡ Ok y)
both_ok (Ok x) f y e = (x, refl, e)
both_ok (Err told) f y e = absurd cc

pub then_ok : {A B : Type 0} (r : Checked A) (f : A → Checked B) (x : A) (s : Checked B) → r ≡ Ok x → f x ≡ s → (r >>= f) ≡ s
then_ok r f x s e h = ap (λ c. c >>= f) e ∙ h

pub inner_ok : {A : Type 0} (segment : List ℕ) (r : Checked A) (x : A) → under segment r ≡ Ok x → r ≡ Ok x
inner_ok segment (Ok y) x e = e
inner_ok segment (Err told) x e = absurd cc

pub outer_ok : {A : Type 0} (segment : List ℕ) (r : Checked A) (x : A) → r ≡ Ok x → under segment r ≡ Ok x
outer_ok segment r x e = ap (under segment) e

pub test_ok : (test : Bool) (kind : PlantKind) (x : ⊤) → ensure test kind ≡ Ok x → test ≡ true
test_ok true kind x e = refl
test_ok false kind x e = absurd cc

pub found_some : {A : Type 0} (kind : PlantKind) (o : Option A) (x : A) → found kind o ≡ Ok x → o ≡ Some x
found_some kind None x e = absurd cc
found_some kind (Some y) x e = ap Some (ok_is y x e)

-- ---- lists
pub list_array : (d : Data) (items : Items) → list_of d ≡ Ok items → d ≡ array items
list_array null items e = absurd cc
list_array (boolean b) items e = absurd cc
list_array (number n) items e = absurd cc
list_array (string s) items e = absurd cc
list_array (array ds) items e = ap array (ok_is ds items e)
list_array (object ms) items e = absurd cc

pub array_list : (d : Data) (items : Items) → d ≡ array items → list_of d ≡ Ok items
array_list d items e = ap list_of e

module _ {A : Type 0} (check : Data → Checked A) where
  pub each_read : (i : ℕ) (items : Items) (xs : List A) → each check i items ≡ Ok xs → AreItems (λ x d. check d ≡ Ok x) xs items
  each_read i no_items xs e = subst (λ l. AreItems (λ x d. check d ≡ Ok x) l no_items) (ok_is [] xs e) no_more
  each_read i (item d ds) xs e =
      let one = both_ok (under (decimal i) (check d)) (λ x. each check (suc i) ds >>= λ ys. Ok (x ∷ ys)) xs e in
      let rest = both_ok (each check (suc i) ds) (λ ys. Ok (one.0 ∷ ys)) xs one.2 in
      subst (λ l. AreItems (λ x d. check d ≡ Ok x) l (item d ds)) (ok_is (one.0 ∷ rest.0) xs rest.2)
      (one_more one.0 d rest.0 ds (inner_ok (decimal i) (check d) one.0 one.1) (each_read (suc i) ds rest.0 rest.1))

  pub each_ok : (i : ℕ) (xs : List A) (items : Items) → AreItems (λ x d. check d ≡ Ok x) xs items → each check i items ≡ Ok xs
  each_ok i _ _ no_more = refl
  each_ok i _ _ (one_more x d xs ds e rest) =
      then_ok (under (decimal i) (check d)) (λ y. each check (suc i) ds >>= λ ys. Ok (y ∷ ys)) x (Ok (x ∷ xs)) (outer_ok (decimal i) (check d) x e)
      (then_ok (each check (suc i) ds) (λ ys. Ok (x ∷ ys)) xs (Ok (x ∷ xs)) (each_ok (suc i) xs ds rest) refl)

pub items_are : {A : Type 0} (Is Other : A → Data → Type 0) (P : A → Type 0) (xs : List A) (items : Items) → ((x : A) (d : Data) → P x → Is x d → Other x d) → All P xs → AreItems Is xs items → AreItems Other xs items
items_are Is Other P _ _ f all no_more = no_more
items_are Is Other P _ _ f all (one_more x d xs ds is rest) = one_more x d xs ds (f x d (All-head P x xs all) is) (items_are Is Other P xs ds f (All-tail P x xs all) rest)

pub items_length : {A : Type 0} (Is : A → Data → Type 0) (xs : List A) (items : Items) → AreItems Is xs items → items_len items ≡ length xs
items_length Is _ _ no_more = refl
items_length Is _ _ (one_more x d xs ds is rest) = ap suc (items_length Is xs ds rest)
