-- A loop that checks the items of a list one after another, against the list's check as a whole.
use Rattle.std.proofs.Common.{◌≡◌, ◌≢◌, ◌==◌, ℕ, suc, ◌+◌, ◌<◌, ◌≤◌, List, [], ◌∷◌, ◌++◌, length, get_or, drop, Bool, true, false, ◌&&◌, nat_le, ◌⊎◌, inl, inr, ⊎_elim, true≢false, Result, Ok, Err, IfOk, decimal, refl, sym, ◌∙◌, ap, subst, add-one, append_assoc, drop-cons, arith}
use Rattle.std.proofs.lemmas.List.{append-nil, drop_all}
use Rattle.std.proofs.lemmas.Bool.Decides.{Decides-eqb, nat_tests}
use Rattle.std.proofs.lemmas.Result.{IfOk-at_ok}
use Rattle.serde_json.specs.Data.{Data, Items}
use Rattle.serde_json.specs.Events.{items_len}
use Rattle.serde_json.specs.View.{view, items_view}
use Rattle.serde_json.specs.declared.value.Value.{Value}
use Rattle.serde_json.proofs.Views.{items_len-items_view}
use Rattle.mpc_plant.specs.declared.faults.PlantKind.{PlantKind}
use Rattle.mpc_plant.specs.declared.faults.PlantKind.TheVariants.{WrongShape, OverLimit}
use Rattle.mpc_plant.specs.declared.faults.PlantError.{PlantError}
use Rattle.mpc_plant.specs.declared.faults.PlantError.TheVariants.{Bad}
use Rattle.mpc_plant.specs.Paths.{below}
use Rattle.mpc_plant.specs.Faults.{Checked, ◌>>=◌, fault, ensure, under, each}
use Rattle.mpc_plant.specs.CheckedEntries.{list_of, list_of_length, list_between, is_from_to}

-- ---- the exit of a `?`
pub error_told : {V : Type 0} (r : Result V PlantError) (y f : PlantError) (kind : PlantKind) (path : List ℕ) → r ≡ Err y → y ≡ f → r ≡ Err (Bad kind path) → f ≡ Bad kind path
error_told r y f kind path e same told = let again : Err y ≡ Err (Bad kind path) = sym e ∙ told in cc

-- ---- one test
pub ensured : {A : Type 0} (test : Bool) (kind : PlantKind) (x : Checked A) → test ≡ true → (ensure test kind >>= λ _. x) ≡ x
ensured true kind x e = refl
ensured false kind x e = absurd (true≢false (sym e))

pub not_ensured : {A : Type 0} (test : Bool) (kind : PlantKind) (x : Checked A) → test ≡ false → (ensure test kind >>= λ _. x) ≡ Err (kind, [])
not_ensured true kind x e = absurd (true≢false e)
not_ensured false kind x e = refl

pub eqb_false : (m n : ℕ) → m ≢ n → (m == n) ≡ false
eqb_false m n h = by _ refl
  where
    by : (b : Bool) → (m == n) ≡ b → b ≡ false
    by true e = absurd (h ((Decides-eqb m n).0 e))
    by false e = refl

-- ---- lists of a length
abbrev sized : ℕ → Items → Checked Items
sized size items = ensure (items_len items == size) WrongShape >>= λ _. Ok items

pub sized_ok : (size : ℕ) (vs : List Value) (d : Data) → list_of d ≡ Ok (items_view vs) → length vs ≡ size → list_of_length size d ≡ Ok (items_view vs)
sized_ok size vs d e h =
    ap (λ r. r >>= sized size) e ∙ ensured (items_len (items_view vs) == size) WrongShape (Ok (items_view vs)) ((Decides-eqb (items_len (items_view vs)) size).1 (items_len-items_view vs ∙ h))

pub sized_bad : (size : ℕ) (vs : List Value) (d : Data) → list_of d ≡ Ok (items_view vs) → length vs ≢ size → list_of_length size d ≡ Err (WrongShape, [])
sized_bad size vs d e h =
    ap (λ r. r >>= sized size) e ∙ not_ensured (items_len (items_view vs) == size) WrongShape (Ok (items_view vs)) (eqb_false (items_len (items_view vs)) size (λ k. h (sym (items_len-items_view vs) ∙ k)))

abbrev between : ℕ → ℕ → Items → Checked Items
between low high items = ensure (is_from_to low high (items_len items)) OverLimit >>= λ _. Ok items

and_true : (a b : Bool) → a ≡ true → b ≡ true → (a && b) ≡ true
and_true true b e h = h
and_true false b e h = absurd (true≢false (sym e))

and_false : (a b : Bool) → (a ≡ false) ⊎ (b ≡ false) → (a && b) ≡ false
and_false false b h = refl
and_false true b (inl e) = absurd (true≢false e)
and_false true b (inr e) = e

nat_le_false : (m n : ℕ) → n < m → nat_le m n ≡ false
nat_le_false m n h = grind (arith, nat_tests)

nat_le_true : (m n : ℕ) → m ≤ n → nat_le m n ≡ true
nat_le_true m n h = grind (arith, nat_tests)

pub between_ok : (low high : ℕ) (vs : List Value) (d : Data) → list_of d ≡ Ok (items_view vs) → low ≤ length vs → length vs ≤ high → list_between low high d ≡ Ok (items_view vs)
between_ok low high vs d e h k =
    let n = items_len-items_view vs in
    ap (λ r. r >>= between low high) e ∙ ensured (is_from_to low high (items_len (items_view vs))) OverLimit (Ok (items_view vs))
    (and_true _ _ (nat_le_true low (items_len (items_view vs)) (subst (λ l. low ≤ l) (sym n) h)) (nat_le_true (items_len (items_view vs)) high (subst (λ l. l ≤ high) (sym n) k)))

pub between_bad : (low high : ℕ) (vs : List Value) (d : Data) → list_of d ≡ Ok (items_view vs) → (length vs < low) ⊎ (high < length vs) → list_between low high d ≡ Err (OverLimit, [])
between_bad low high vs d e outside =
    let n = items_len-items_view vs in
    let test = nat_le low (items_len (items_view vs)) in
    ap (λ r. r >>= between low high) e ∙ not_ensured (is_from_to low high (items_len (items_view vs))) OverLimit (Ok (items_view vs))
    (and_false _ _ (⊎_elim (λ h. inl (nat_le_false low (items_len (items_view vs)) (subst (λ l. l < low) (sym n) h))) (λ h. inr (nat_le_false (items_len (items_view vs)) high (subst (λ l. high < l) (sym n) h))) outside))

-- ---- one item after another
abbrev pub prepended : {A : Type 0} → List A → Checked (List A) → Checked (List A)
prepended xs (Ok ys) = Ok (xs ++ ys)
prepended xs (Err fault) = Err fault

-- after i items, whose values are xs
pub record EachFrom {A : Type 0} (check : Data → Checked A) (vs : List Value) (i : ℕ) (xs : List A) : Type 0 where
  pub so_far : each check 0 (items_view vs) ≡ prepended xs (each check i (items_view (drop i vs)))

module _ {A : Type 0} (check : Data → Checked A) (vs : List Value) where
  none_before : (rest : Checked (List A)) → rest ≡ prepended [] rest
  none_before (Ok ys) = refl
  none_before (Err fault) = refl

  pub each_start : EachFrom check vs 0 []
  each_start = record { so_far = none_before (each check 0 (items_view vs)) }

  -- the values from the item i on, whose own is x
  abbrev with_rest : ℕ → A → Checked (List A)
  with_rest i x = each check (suc i) (items_view (drop (suc i) vs)) >>= λ ys. Ok (x ∷ ys)

  each_at : (i : ℕ) (v : Value) → i < length vs → get_or vs i v ≡ v → each check i (items_view (drop i vs)) ≡ (under (decimal i) (check (view v)) >>= with_rest i)
  each_at i v h at = ap (λ l. each check i (items_view l)) (drop-cons vs i v h ∙ ap (λ w. w ∷ drop (suc i) vs) at)

  one_more : (xs : List A) (x : A) (rest : Checked (List A)) → prepended xs (rest >>= λ ys. Ok (x ∷ ys)) ≡ prepended (xs ++ x ∷ []) rest
  one_more xs x (Ok ys) = ap Ok (sym (append_assoc xs (x ∷ []) ys))
  one_more xs x (Err fault) = refl

  more_at : (i : ℕ) (v : Value) (x : A) (xs : List A) → i < length vs → get_or vs i v ≡ v → under (decimal i) (check (view v)) ≡ Ok x → EachFrom check vs i xs → EachFrom check vs (suc i) (xs ++ x ∷ [])
  more_at i v x xs h at ok so = record {
    so_far = so.so_far ∙ ap (prepended xs) (each_at i v h at ∙ ap (λ r. r >>= with_rest i) ok) ∙ one_more xs x (each check (suc i) (items_view (drop (suc i) vs)));
  }

  pub each_more : (i : ℕ) (v : Value) (x : A) (xs : List A) → i < length vs → get_or vs i v ≡ v → under (decimal i) (check (view v)) ≡ Ok x → EachFrom check vs i xs → EachFrom check vs (i + 1) (xs ++ x ∷ [])
  each_more i v x xs h at ok so = subst (λ k. EachFrom check vs k (xs ++ x ∷ [])) (sym (add-one i)) (more_at i v x xs h at ok so)

  pub each_failed : (i : ℕ) (v : Value) (kind : PlantKind) (path : List ℕ) (xs : List A) → i < length vs → get_or vs i v ≡ v → under (decimal i) (check (view v)) ≡ Err (kind, path) → EachFrom check vs i xs → each check 0 (items_view vs) ≡ Err (kind, path)
  each_failed i v kind path xs h at bad so = so.so_far ∙ ap (prepended xs) (each_at i v h at ∙ ap (λ r. r >>= with_rest i) bad)

  pub each_end : (i : ℕ) (xs : List A) → length vs ≤ i → EachFrom check vs i xs → each check 0 (items_view vs) ≡ Ok xs
  each_end i xs h so = so.so_far ∙ ap (λ l. prepended xs (each check i (items_view l))) (drop_all i vs h) ∙ ap Ok (append-nil xs)

  -- the item i as a call gave it
  pub each_more_by : (i : ℕ) (v : Value) (r : Result A PlantError) (x : A) (xs ys : List A) → EachFrom check vs i xs → i < length vs → v ≡ get_or vs i v → r ≡ Ok x → IfOk r (λ x. check (view v) ≡ Ok x) → ys ≡ xs ++ x ∷ [] → EachFrom check vs (i + 1) ys
  each_more_by i v r x xs ys so h at e ok pushed =
      subst (λ l. EachFrom check vs (i + 1) l) (sym pushed)
      (each_more i v x xs h (sym at) (ap (under (decimal i)) (IfOk-at_ok (λ x. check (view v) ≡ Ok x) e ok)) so)

  pub each_failed_by : (i : ℕ) (v : Value) (r : Result A PlantError) (kind : PlantKind) (path inner : List ℕ) (xs : List A) → EachFrom check vs i xs → i < length vs → v ≡ get_or vs i v → r ≡ Err (Bad kind inner) → path ≡ below (decimal i) inner
      → ((kind : PlantKind) (path : List ℕ) → r ≡ Err (Bad kind path) → check (view v) ≡ Err (kind, path)) → each check 0 (items_view vs) ≡ Err (kind, path)
  each_failed_by i v r kind path inner xs so h at e longer bad =
      each_failed i v kind path xs h (sym at) (ap (under (decimal i)) (bad kind inner e) ∙ ap (λ p. Err (kind, p)) (sym longer)) so
