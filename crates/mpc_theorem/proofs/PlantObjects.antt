-- When the objects of a plant file are read.
use Rattle.std.proofs.Common.{◌≡◌, ℕ, List, get_or, Contains, Bool, true, false, cond, Option, Some, None, Ordering, Less, Equal, Greater, Ok, refl, sym, ◌∙◌, ap, subst}
use Rattle.std.specs.Prelude.{⊤}
use Rattle.std.specs.Bool.{Decides}
use Rattle.std.specs.List.{list_any}
use Rattle.std.specs.Str.{bytes_eq}
use Rattle.std.specs.Ordering.{nat_cmp, match_ordering}
use Rattle.std.specs.Cmp.Lexicographic.{slice_cmp}
use Rattle.std.proofs.lemmas.List.Folds.{Any-from_list_any, list_any_at}
use Rattle.std.proofs.lemmas.Slice.Eq.{bytes_eq-Decides}
use Rattle.std.proofs.lemmas.Map.Lookups.{exact_bytes}
use Rattle.std.proofs.lemmas.Cmp.{tied_itself, nat_list_cmp_total}
use Rattle.serde_json.specs.Data.{Data, null, boolean, number, string, array, object, Members, no_members, member}
use Rattle.serde_json.specs.Find.{get, get_member, as_object}
use Rattle.mpc_plant.specs.declared.faults.PlantKind.TheVariants.{NotObject}
use Rattle.mpc_plant.specs.Faults.{Checked, under}
use Rattle.mpc_plant.specs.Keys.{first_other}
use Rattle.mpc_plant.specs.CheckedEntries.{found}
use Rattle.mpc_plant.specs.CheckedObjects.{object_with, unknown, present, needed}
use Rattle.mpc_plant.specs.CheckedPlant.{at_key}
use Rattle.mpc_theorem.specs.PlantFile.{At, HasOnly}
use Rattle.mpc_theorem.proofs.PlantChecks.{ok_is, both_ok, then_ok, inner_ok, outer_ok}

-- ---- what stands at a key
present_read : (key : List ℕ) (o : Option Data) (d : Data) → present key o ≡ Ok d → o ≡ Some d
present_read key None d e = absurd cc
present_read key (Some v) d e = ap Some (ok_is v d e)

pub needed_read : (key : List ℕ) (d v : Data) → needed key d ≡ Ok v → get key d ≡ Some v
needed_read key d v e = present_read key (get key d) v e

pub needed_ok : (key : List ℕ) (d v : Data) → get key d ≡ Some v → needed key d ≡ Ok v
needed_ok key d v e = ap (present key) e

module _ {A : Type 0} (key : List ℕ) (check : Data → Checked A) (d : Data) where
  pub at_read : (Is : Data → Type 0) (x : A) → ((v : Data) → check v ≡ Ok x → Is v) → at_key key check d ≡ Ok x → At key d Is
  at_read Is x read e =
      let one = both_ok (needed key d) (λ v. under key (check v)) x e in
      record { value = one.0; found = needed_read key d one.0 one.1; is = read one.0 (inner_ok key (check one.0) x one.2) }

  pub at_ok : (Is : Data → Type 0) (x : A) → ((v : Data) → Is v → check v ≡ Ok x) → At key d Is → at_key key check d ≡ Ok x
  at_ok Is x ok at = then_ok (needed key d) (λ v. under key (check v)) at.value (Ok x) (needed_ok key d at.value at.found) (outer_ok key (check at.value) x (ok at.value at.is))

-- ---- no other key
pub listed-Decides : (keys : List (List ℕ)) (key : List ℕ) → Decides (list_any (bytes_eq key) keys) (Contains keys key)
listed-Decides keys key = (
  λ e.
      let found = Any-from_list_any (bytes_eq key) keys e in
      (found.0, found.2, subst (λ x. get_or keys found.0 x ≡ x) (sym ((bytes_eq-Decides key found.1).0 found.4)) found.3),
  λ found. list_any_at (bytes_eq key) keys found.0 key found.1 ((bytes_eq-Decides key _).1 (sym found.2)),
)

module _ (keys : List (List ℕ)) where
  no_other : (b : Bool) (key : List ℕ) (ms : Members) → cond b (first_other keys ms) (Some key) ≡ None → (b ≡ true) × (first_other keys ms ≡ None)
  no_other true key ms e = (refl, e)
  no_other false key ms e = absurd cc

  found_among : (key l : List ℕ) (d v : Data) (ms : Members) (o : Ordering) → slice_cmp nat_cmp key l ≡ o → match_ordering o (get_member key ms) (Some d) (get_member key ms) ≡ Some v → list_any (bytes_eq l) keys ≡ true
      → (get_member key ms ≡ Some v → Contains keys key) → Contains keys key
  found_among key l d v ms Less is h one rest = rest h
  found_among key l d v ms Equal is h one rest = subst (Contains keys) (sym (exact_bytes key l is)) ((listed-Decides keys l).0 one)
  found_among key l d v ms Greater is h one rest = rest h

  members_listed : (ms : Members) → first_other keys ms ≡ None → (key : List ℕ) (v : Data) → get_member key ms ≡ Some v → Contains keys key
  members_listed no_members e key v h = absurd cc
  members_listed (member l d ms) e key v h =
      let here = no_other (list_any (bytes_eq l) keys) l ms e in
      found_among key l d v ms (slice_cmp nat_cmp key l) refl h here.0 (members_listed ms here.1 key v)

  listed_later : (l : List ℕ) (d : Data) (ms : Members) (key : List ℕ) (v : Data) → ((key : List ℕ) (v : Data) → get_member key (member l d ms) ≡ Some v → Contains keys key) → get_member key ms ≡ Some v → (o : Ordering) → slice_cmp nat_cmp key l ≡ o → Contains keys key
  listed_later l d ms key v h e Less is = h key v (ap (λ o. match_ordering o (get_member key ms) (Some d) (get_member key ms)) is ∙ e)
  listed_later l d ms key v h e Equal is = h key d (ap (λ o. match_ordering o (get_member key ms) (Some d) (get_member key ms)) is)
  listed_later l d ms key v h e Greater is = h key v (ap (λ o. match_ordering o (get_member key ms) (Some d) (get_member key ms)) is ∙ e)

  listed_members : (ms : Members) → ((key : List ℕ) (v : Data) → get_member key ms ≡ Some v → Contains keys key) → first_other keys ms ≡ None
  listed_members no_members h = refl
  listed_members (member l d ms) h =
      let here : list_any (bytes_eq l) keys ≡ true = (listed-Decides keys l).1 (h l d (ap (λ o. match_ordering o (get_member l ms) (Some d) (get_member l ms)) (tied_itself nat_list_cmp_total l))) in
      ap (λ b. cond b (first_other keys ms) (Some l)) here ∙ listed_members ms (λ key v e. listed_later l d ms key v h e (slice_cmp nat_cmp key l) refl)

  abbrev pub checked : Members → Checked ⊤
  checked ms = unknown (first_other keys ms)

  known : (o : Option (List ℕ)) (x : ⊤) → unknown o ≡ Ok x → o ≡ None
  known None x e = refl
  known (Some key) x e = absurd cc

  is_object : (d : Data) (ms : Members) → found NotObject (as_object d) ≡ Ok ms → d ≡ object ms
  is_object null ms e = absurd cc
  is_object (boolean b) ms e = absurd cc
  is_object (number n) ms e = absurd cc
  is_object (string s) ms e = absurd cc
  is_object (array ds) ms e = absurd cc
  is_object (object xs) ms e = ap object (ok_is xs ms e)

  pub only_read : (d : Data) (x : ⊤) → object_with keys d ≡ Ok x → HasOnly keys d
  only_read d x e =
      let one = both_ok (found NotObject (as_object d)) checked x e in
      let has : HasOnly keys (object one.0) = members_listed one.0 (known (first_other keys one.0) x one.2) in
      subst (HasOnly keys) (sym (is_object d one.0 one.1)) has

  pub only_ok : (d v : Data) (key : List ℕ) → get key d ≡ Some v → HasOnly keys d → object_with keys d ≡ Ok tt
  only_ok null v key e h = absurd cc
  only_ok (boolean b) v key e h = absurd cc
  only_ok (number n) v key e h = absurd cc
  only_ok (string s) v key e h = absurd cc
  only_ok (array ds) v key e h = absurd cc
  only_ok (object ms) v key e h = ap unknown (listed_members ms h)
