-- Lines of whole numbers that are kept once each: one line more.
use Rattle.std.proofs.Common.{◌≡◌, ◌≢◌, ℕ, ℤ, ◌+◌, ◌<◌, ◌≤◌, ◌⊎◌, inl, inr, Bool, true, false, cond, List, [], ◌∷◌, ◌++◌, length, map, get_or, Option, Some, None, refl, sym, ◌∙◌, ap, subst, arith, length-append}
use Rattle.std.specs.Prelude.{slice_index_or, MatchOption}
use Rattle.std.specs.Ordering.{int_cmp, is_eq, ordering_reverse, ordering_then}
use Rattle.std.specs.Cmp.Lexicographic.{slice_cmp}
use Rattle.std.specs.declared.cmp.Ordering.{Ordering}
use Rattle.std.specs.declared.cmp.Ordering.TheVariants.{Less, Equal, Greater}
use Rattle.std.proofs.lemmas.Cmp.{int_cmp_total, lists_total}
use Rattle.std.proofs.lemmas.Map.Lookups.{exact_signed}
use Rattle.std.proofs.lemmas.Bool.{cases_lt}
use Rattle.std.proofs.lemmas.List.{append-nil, map-append, length-map, get_or-map}
use Rattle.std.proofs.Math.ListN.{get_or-append}
use Rattle.std.proofs.Math.Seq.{get_or-append_seam}
use Rattle.std.specs.Global.{Vec}
use Rattle.std.specs.BTreeMap.{get, btree_map_len}
use Rattle.mpc_table.specs.Places.{IsNew, AreDifferent, IsPlaceOf, ArePlaces, IsPlaced, IsKept}
use Rattle.mpc_table.specs.declared.places.Places.{Places}

inside_more : (lines : List (List ℤ)) (line : List ℤ) (j : ℕ) → j < length (lines ++ line ∷ []) → (j < length lines) ⊎ (j ≡ length lines)
inside_more lines line j inside =
    let size : length (lines ++ line ∷ []) ≡ length lines + 1 = length-append lines (line ∷ []) in
    elim (cases_lt j (length lines)) [ inl h ↦ inl h | inr h ↦ inr (omega arith) ]

front : (lines more : List (List ℤ)) (i : ℕ) → i < length lines → slice_index_or (lines ++ more) i [] ≡ slice_index_or lines i []
front lines more i inside = get_or-append lines more [] i inside

seam : (lines : List (List ℤ)) (line : List ℤ) → slice_index_or (lines ++ line ∷ []) (length lines) [] ≡ line
seam lines line = get_or-append_seam lines line [] []

different_more : (lines : List (List ℤ)) (line : List ℤ) → AreDifferent lines → IsNew lines line → AreDifferent (lines ++ line ∷ [])
different_more lines line different new j inside i before same =
    elim (inside_more lines line j inside) [
      | inl below ↦ different j below i before (sym (front lines (line ∷ []) i (omega arith)) ∙ same ∙ front lines (line ∷ []) j below)
      | inr last ↦ new i (omega arith) (sym (front lines (line ∷ []) i (omega arith)) ∙ same ∙ ap (λ k. slice_index_or (lines ++ line ∷ []) k []) last ∙ seam lines line)
    ]

place_more : (lines more : List (List ℤ)) (line : List ℤ) (k : ℕ) → IsPlaceOf lines line k → IsPlaceOf (lines ++ more) line k
place_more lines more line k is =
    let within : k < length lines = is.inside in
    let size : length (lines ++ more) ≡ length lines + length more = length-append lines more in
    record { inside = omega arith; line_is = front lines more k within ∙ is.line_is }

place_last : (lines : List (List ℤ)) (line : List ℤ) → IsPlaceOf (lines ++ line ∷ []) line (length lines)
place_last lines line =
    let size : length (lines ++ line ∷ []) ≡ length lines + 1 = length-append lines (line ∷ []) in
    record { inside = omega arith; line_is = seam lines line }

new_more : (lines : List (List ℤ)) (line key : List ℤ) → IsNew lines key → line ≢ key → IsNew (lines ++ line ∷ []) key
new_more lines line key new other i inside same =
    elim (inside_more lines line i inside) [
      | inl below ↦ new i below (sym (front lines (line ∷ []) i below) ∙ same)
      | inr last ↦ other (sym (seam lines line) ∙ sym (ap (λ k. slice_index_or (lines ++ line ∷ []) k []) last) ∙ same)
    ]

-- ---- lines that the order of a map tells apart
both_equal : (a b : Ordering) → ordering_then a b ≡ Equal → (a ≡ Equal) × (b ≡ Equal)
both_equal Less b h = absurd cc
both_equal Equal b h = (refl, h)
both_equal Greater b h = absurd cc

equal_from : (r : Ordering) → is_eq r ≡ true → r ≡ Equal
equal_from Less h = cc
equal_from Equal h = refl
equal_from Greater h = cc

equal_to_itself : (r : Ordering) → r ≡ ordering_reverse r → is_eq r ≡ true
equal_to_itself Less h = cc
equal_to_itself Equal h = refl
equal_to_itself Greater h = cc

exact_lines : (xs ys : List ℤ) → slice_cmp int_cmp xs ys ≡ Equal → xs ≡ ys
exact_lines [] [] h = refl
exact_lines [] (y ∷ ys) h = absurd cc
exact_lines (x ∷ xs) [] h = absurd cc
exact_lines (x ∷ xs) (y ∷ ys) h =
    let both = both_equal (int_cmp x y) (slice_cmp int_cmp xs ys) h in
    λ i. exact_signed x y both.0 i ∷ exact_lines xs ys both.1 i

same_line : (xs ys : List ℤ) → is_eq (slice_cmp int_cmp xs ys) ≡ true → xs ≡ ys
same_line xs ys h = exact_lines xs ys (equal_from (slice_cmp int_cmp xs ys) h)

other_line : (xs ys : List ℤ) → is_eq (slice_cmp int_cmp xs ys) ≡ false → xs ≢ ys
other_line xs ys h e =
    let itself : is_eq (slice_cmp int_cmp xs xs) ≡ true = equal_to_itself (slice_cmp int_cmp xs xs) ((lists_total int_cmp_total).antisymm xs xs) in
    let no : is_eq (slice_cmp int_cmp xs xs) ≡ false = ap (λ t. is_eq (slice_cmp int_cmp xs t)) e ∙ h in
    cc

-- ---- what a map says of a key, behind one more line
kept : (lines : List (List ℤ)) (line key : List ℤ) (r : Option ℕ) → line ≢ key → MatchOption r (IsNew lines key) (λ k. IsPlaceOf lines key k) → MatchOption r (IsNew (lines ++ line ∷ []) key) (λ k. IsPlaceOf (lines ++ line ∷ []) key k)
kept lines line key None other h = new_more lines line key h other
kept lines line key (Some k) other h = place_more lines (line ∷ []) key k h

found_by : (lines : List (List ℤ)) (line key : List ℤ) (b : Bool) (r now : Option ℕ) → (b ≡ true → line ≡ key) → (b ≡ false → line ≢ key) → now ≡ cond b (Some (length lines)) r
    → MatchOption r (IsNew lines key) (λ k. IsPlaceOf lines key k) → MatchOption now (IsNew (lines ++ line ∷ []) key) (λ k. IsPlaceOf (lines ++ line ∷ []) key k)
found_by lines line key true r now same other e h = subst (λ o. MatchOption o (IsNew (lines ++ line ∷ []) key) (λ k. IsPlaceOf (lines ++ line ∷ []) key k)) (sym e) (subst (λ t. IsPlaceOf (lines ++ line ∷ []) t (length lines)) (same refl) (place_last lines line))
found_by lines line key false r now same other e h = subst (λ o. MatchOption o (IsNew (lines ++ line ∷ []) key) (λ k. IsPlaceOf (lines ++ line ∷ []) key k)) (sym e) (kept lines line key r (other refl) h)

abbrev key_cmp : Vec ℤ → Vec ℤ → Ordering
key_cmp x y = slice_cmp int_cmp x.items y.items

at_some : {X : Type 0} (A : Type 0) (B : X → Type 0) (r : Option X) (x : X) → r ≡ Some x → MatchOption r A B → B x
at_some A B r x e h = subst (λ o. MatchOption o A B) e h

at_none : {X : Type 0} (A : Type 0) (B : X → Type 0) (r : Option X) → r ≡ None → MatchOption r A B → A
at_none A B r e h = subst (λ o. MatchOption o A B) e h

-- ---- a line that came before
pub placed_before : (places : Places) (lines : List (List ℤ)) (line : Vec ℤ) (k : ℕ) → ArePlaces places lines → get key_cmp places.places line ≡ Some k → IsPlaced lines line.items k places
placed_before places lines line k are e =
    inl (record { before = at_some (IsNew lines line.items) (λ n. IsPlaceOf lines line.items n) (get key_cmp places.places line) k e (are.found line); places_are = are })

-- ---- a new line
pub placed_behind : (places new : Places) (lines : List (List ℤ)) (line : Vec ℤ) (k : ℕ) → ArePlaces places lines → get key_cmp places.places line ≡ None → k ≡ length lines
    → ((q : Vec ℤ) → get key_cmp new.places q ≡ cond (is_eq (slice_cmp int_cmp line.items q.items)) (Some k) (get key_cmp places.places q))
    → btree_map_len new.places ≡ length lines + 1 → IsPlaced lines line.items k new
placed_behind places new lines line k are absent last updates size =
    let fresh : IsNew lines line.items = at_none (IsNew lines line.items) (λ n. IsPlaceOf lines line.items n) (get key_cmp places.places line) absent (are.found line) in
    inr (record {
      last = last;
      places_are = record {
        found = λ key. found_by lines line.items key.items (is_eq (slice_cmp int_cmp line.items key.items)) (get key_cmp places.places key) (get key_cmp new.places key) (same_line line.items key.items) (other_line line.items key.items)
            (updates key ∙ ap (λ n. cond (is_eq (slice_cmp int_cmp line.items key.items)) (Some n) (get key_cmp places.places key)) last) (are.found key);
        count = size ∙ sym (length-append lines (line.items ∷ []));
        different = different_more lines line.items are.different fresh;
      };
    })

-- ---- items that are kept once each, by their lines
module _ {X : Type 0} (line : X → List ℤ) (exact : (x y : X) → line x ≡ line y → x ≡ y) (items : List X) (item : X) (place : ℕ) (places : Places) where
  pub kept_old : IsPlaced (map line items) (line item) place places → place < length items → IsKept line item items items places place
  kept_old (inl old) within = record {
    behind = [];
    grown = sym (append-nil items);
    places_are = old.places_are;
    inside = within;
    item_is = λ d. exact (get_or items place d) item (sym (get_or-map line items place d [] within) ∙ old.before.line_is);
  }
  kept_old (inr next) within = absurd (omega (arith, next.last, length-map items line))

  pub kept_new : (new : List X) → IsPlaced (map line items) (line item) place places → length items ≤ place → new ≡ items ++ item ∷ [] → IsKept line item items new places place
  kept_new new (inl old) beyond pushed = absurd (omega (arith, old.before.inside, length-map items line))
  kept_new new (inr next) beyond pushed =
      let last : place ≡ length items = next.last ∙ length-map items line in
      let size : length new ≡ length items + 1 = ap length pushed ∙ length-append items (item ∷ []) in
      record {
        behind = item ∷ [];
        grown = pushed;
        places_are = subst (λ xs. ArePlaces places (map line xs)) (sym pushed) (subst (ArePlaces places) (sym (map-append line items (item ∷ []))) next.places_are);
        inside = omega arith;
        item_is = λ d. (λ i. get_or (pushed i) (last i) d) ∙ get_or-append_seam items item [] d;
      }
