-- Lines that are named by their numbers: one line more.
use Rattle.std.proofs.Common.{◌≡◌, ◌≢◌, ℕ, ◌+◌, ◌-◌, ◌<◌, ◌⊎◌, inl, inr, Bool, true, false, cond, nat_lt, List, [], ◌∷◌, ◌++◌, length, Option, Some, None, refl, sym, ◌∙◌, ap, subst, arith, length-append}
use Rattle.std.specs.Prelude.{slice_index_or, MatchOption}
use Rattle.std.specs.Ordering.{nat_cmp, is_eq, ordering_then, ordering_reverse}
use Rattle.std.specs.Cmp.{tied_itself, nat_cmp_total}
use Rattle.std.specs.Cmp.Lexicographic.{slice_cmp, nat_list_cmp_total}
use Rattle.std.specs.declared.cmp.Ordering.{Ordering}
use Rattle.std.specs.declared.cmp.Ordering.TheVariants.{Less, Equal, Greater}
use Rattle.std.proofs.lemmas.Map.Lookups.{exact_bytes}
use Rattle.std.proofs.lemmas.Bool.{ltb-true, ltb-false, lt-ltb, le-ltb}
use Rattle.std.proofs.Math.ListN.{get_or-append}
use Rattle.std.proofs.Math.Seq.{get_or-append_seam}
use Rattle.std.specs.BTreeMap.{get, btree_map_len}
use Rattle.std.proofs.lemmas.List.{append-nil}
use Rattle.std.proofs.lemmas.List.Concat.{flat_map-append}
use Rattle.mpc_writing.specs.Writing.{ended, text_of_lines}
use Rattle.mpc_grammar.specs.Digests.{digest}
use Rattle.mpc_writing.specs.Names.{Key, key_cmp, IsNew, AreDifferent, IsNumberOf, AreNames, IsNamed}
use Rattle.mpc_writing.specs.declared.names.Names.{Names}

below_or_at : (j n : ℕ) (b : Bool) → nat_lt j n ≡ b → j < n + 1 → (j < n) ⊎ (j ≡ n)
below_or_at j n true e h = inl (ltb-true j n e)
below_or_at j n false e h = inr (let le = ltb-false j n e in omega arith)

inside_more : (lines : List (List ℕ)) (text : List ℕ) (j : ℕ) → j < length (lines ++ text ∷ []) → (j < length lines) ⊎ (j ≡ length lines)
inside_more lines text j inside = below_or_at j (length lines) (nat_lt j (length lines)) refl (simp length-append at inside)

front : (lines more : List (List ℕ)) (i : ℕ) → i < length lines → slice_index_or (lines ++ more) i [] ≡ slice_index_or lines i []
front lines more i inside = get_or-append lines more [] i inside

seam : (lines : List (List ℕ)) (text : List ℕ) → slice_index_or (lines ++ text ∷ []) (length lines) [] ≡ text
seam lines text = get_or-append_seam lines text [] []

pub different_none : AreDifferent []
different_none j inside i before same = absurd (omega arith)

pub different_more : (lines : List (List ℕ)) (text : List ℕ) → AreDifferent lines → IsNew lines text → AreDifferent (lines ++ text ∷ [])
different_more lines text different new j inside i before same =
    elim (inside_more lines text j inside) [
      | inl below ↦ different j below i before (sym (front lines (text ∷ []) i (omega arith)) ∙ same ∙ front lines (text ∷ []) j below)
      | inr last ↦ new i (omega arith) (sym (front lines (text ∷ []) i (omega arith)) ∙ same ∙ ap (λ k. slice_index_or (lines ++ text ∷ []) k []) last ∙ seam lines text)
    ]

pub number_more : (lines more : List (List ℕ)) (text : List ℕ) (k : ℕ) → IsNumberOf lines text k → IsNumberOf (lines ++ more) text k
number_more lines more text k is =
    let one = is.from_one in
    let most = is.is_line in
    let inside : k - 1 < length lines = omega arith in
    record { from_one = one; is_line = simp length-append (omega arith); line_is = front lines more (k - 1) inside ∙ is.line_is }

pub number_last : (lines : List (List ℕ)) (text : List ℕ) → IsNumberOf (lines ++ text ∷ []) text (length lines + 1)
number_last lines text =
    let place : length lines + 1 - 1 ≡ length lines = omega arith in
    record { from_one = omega arith; is_line = simp length-append (omega arith); line_is = ap (λ k. slice_index_or (lines ++ text ∷ []) k []) place ∙ seam lines text }

new_more : (lines : List (List ℕ)) (text key : List ℕ) → IsNew lines key → text ≢ key → IsNew (lines ++ text ∷ []) key
new_more lines text key new other i inside same =
    elim (inside_more lines text i inside) [
      | inl below ↦ new i below (sym (front lines (text ∷ []) i below) ∙ same)
      | inr last ↦ other (sym (seam lines text) ∙ sym (ap (λ k. slice_index_or (lines ++ text ∷ []) k []) last) ∙ same)
    ]

equal_from : (r : Ordering) → is_eq r ≡ true → r ≡ Equal
equal_from Less h = cc
equal_from Equal h = refl
equal_from Greater h = cc

equal_to_itself : (r : Ordering) → r ≡ ordering_reverse r → is_eq r ≡ true
equal_to_itself Less h = cc
equal_to_itself Equal h = refl
equal_to_itself Greater h = cc

pub same_bytes : (xs ys : List ℕ) → is_eq (slice_cmp nat_cmp xs ys) ≡ true → xs ≡ ys
same_bytes xs ys h = exact_bytes xs ys (equal_from (slice_cmp nat_cmp xs ys) h)

pub other_bytes : (xs ys : List ℕ) → is_eq (slice_cmp nat_cmp xs ys) ≡ false → xs ≢ ys
other_bytes xs ys h e =
    let itself : is_eq (slice_cmp nat_cmp xs xs) ≡ true = equal_to_itself (slice_cmp nat_cmp xs xs) (nat_list_cmp_total.antisymm xs xs) in
    let no : is_eq (slice_cmp nat_cmp xs xs) ≡ false = ap (λ t. is_eq (slice_cmp nat_cmp xs t)) e ∙ h in
    cc

kept : (lines : List (List ℕ)) (text key : List ℕ) (r : Option ℕ) → text ≢ key → MatchOption r (IsNew lines key) (λ k. IsNumberOf lines key k) → MatchOption r (IsNew (lines ++ text ∷ []) key) (λ k. IsNumberOf (lines ++ text ∷ []) key k)
kept lines text key None other h = new_more lines text key h other
kept lines text key (Some k) other h = number_more lines (text ∷ []) key k h

found_by : (lines : List (List ℕ)) (text key : List ℕ) (b : Bool) (r now : Option ℕ) → (b ≡ true → text ≡ key) → (b ≡ false → text ≢ key) → now ≡ cond b (Some (length lines + 1)) r
    → MatchOption r (IsNew lines key) (λ k. IsNumberOf lines key k) → MatchOption now (IsNew (lines ++ text ∷ []) key) (λ k. IsNumberOf (lines ++ text ∷ []) key k)
found_by lines text key true r now same other e h = subst (λ o. MatchOption o (IsNew (lines ++ text ∷ []) key) (λ k. IsNumberOf (lines ++ text ∷ []) key k)) (sym e) (subst (λ t. IsNumberOf (lines ++ text ∷ []) t (length lines + 1)) (same refl) (number_last lines text))
found_by lines text key false r now same other e h = subst (λ o. MatchOption o (IsNew (lines ++ text ∷ []) key) (λ k. IsNumberOf (lines ++ text ∷ []) key k)) (sym e) (kept lines text key r (other refl) h)

behind_tie : (a b : Ordering) → is_eq (ordering_then a b) ≡ true → is_eq b ≡ true
behind_tie Less b h = cc
behind_tie Equal b h = h
behind_tie Greater b h = cc

tied_front : (a b : Ordering) → a ≡ Equal → is_eq (ordering_then a b) ≡ false → is_eq b ≡ false
tied_front a b e h = subst (λ o. is_eq (ordering_then o b) ≡ false) e h

same_line : (x y : Key) → is_eq (key_cmp x y) ≡ true → x.1.items ≡ y.1.items
same_line x y h = same_bytes x.1.items y.1.items (behind_tie (nat_cmp x.0 y.0) (slice_cmp nat_cmp x.1.items y.1.items) h)

other_line : (x y : Key) → x.0 ≡ digest x.1.items → y.0 ≡ digest y.1.items → is_eq (key_cmp x y) ≡ false → x.1.items ≢ y.1.items
other_line x y a b h e =
    let numbers : x.0 ≡ y.0 = a ∙ ap digest e ∙ sym b in
    let tied : nat_cmp x.0 y.0 ≡ Equal = subst (λ k. nat_cmp x.0 k ≡ Equal) numbers (tied_itself nat_cmp_total x.0) in
    other_bytes x.1.items y.1.items (tied_front (nat_cmp x.0 y.0) (slice_cmp nat_cmp x.1.items y.1.items) tied h) e

-- what a map says of a key, behind one more line
found_more : (lines : List (List ℕ)) (line key : Key) (r now : Option ℕ) → line.0 ≡ digest line.1.items → key.0 ≡ digest key.1.items → now ≡ cond (is_eq (key_cmp line key)) (Some (length lines + 1)) r
    → MatchOption r (IsNew lines key.1.items) (λ k. IsNumberOf lines key.1.items k) → MatchOption now (IsNew (lines ++ line.1.items ∷ []) key.1.items) (λ k. IsNumberOf (lines ++ line.1.items ∷ []) key.1.items k)
found_more lines line key r now a b e h = found_by lines line.1.items key.1.items (is_eq (key_cmp line key)) r now (same_line line key) (other_line line key a b) e h

at_some : {X : Type 0} (A : Type 0) (B : X → Type 0) (r : Option X) (x : X) → r ≡ Some x → MatchOption r A B → B x
at_some A B r x e h = subst (λ o. MatchOption o A B) e h

at_none : {X : Type 0} (A : Type 0) (B : X → Type 0) (r : Option X) → r ≡ None → MatchOption r A B → A
at_none A B r e h = subst (λ o. MatchOption o A B) e h

-- what is found is the number
pub is_found : (names : Names) (lines : List (List ℕ)) (key : Key) (k : ℕ) → AreNames names lines → key.0 ≡ digest key.1.items → get key_cmp names.numbers key ≡ Some k → IsNumberOf lines key.1.items k
is_found names lines key k are a e = at_some (IsNew lines key.1.items) (λ n. IsNumberOf lines key.1.items n) (get key_cmp names.numbers key) k e (are.found key a)

-- ---- a line that came before
pub named_before : (names : Names) (lines : List (List ℕ)) (text : List ℕ) (k : ℕ) → AreNames names lines → IsNumberOf lines text k → IsNamed lines text k (AreNames names)
named_before names lines text k are is =
    let most = is.is_line in
    record {
      behind = [];
      behind_is = inl refl;
      names_are = subst (AreNames names) (sym (append-nil lines)) are;
      number_of = number_more lines [] text k is;
      used = ap length (append-nil lines) ∙ ap (λ b. cond b k (length lines)) (sym (le-ltb (length lines) k most));
      in_order = omega arith;
    }

-- ---- a new line
pub named_behind : (names new : Names) (lines : List (List ℕ)) (line : Key) → AreNames names lines → line.0 ≡ digest line.1.items → get key_cmp names.numbers line ≡ None
    → ((q : Key) → get key_cmp new.numbers q ≡ cond (is_eq (key_cmp line q)) (Some (length lines + 1)) (get key_cmp names.numbers q))
    → btree_map_len new.numbers ≡ length lines + 1 → new.text.items ≡ names.text.items ++ ended line.1.items → IsNamed lines line.1.items (length lines + 1) (AreNames new)
named_behind names new lines line are right absent updates size text =
    let fresh : IsNew lines line.1.items = at_none (IsNew lines line.1.items) (λ n. IsNumberOf lines line.1.items n) (get key_cmp names.numbers line) absent (are.found line right) in
    record {
      behind = line.1.items ∷ [];
      behind_is = inr refl;
      names_are = record {
        found = λ key own. found_more lines line key (get key_cmp names.numbers key) (get key_cmp new.numbers key) right own (updates key) (are.found key own);
        count = size ∙ sym (length-append lines (line.1.items ∷ []));
        text = text ∙ ap (λ t. t ++ ended line.1.items) are.text ∙ sym (flat_map-append ended lines (line.1.items ∷ []) ∙ ap (λ t. text_of_lines lines ++ t) (append-nil (ended line.1.items)));
        different = different_more lines line.1.items are.different fresh;
      };
      number_of = number_last lines line.1.items;
      used = length-append lines (line.1.items ∷ []) ∙ ap (λ b. cond b (length lines + 1) (length lines)) (sym (lt-ltb (length lines) (length lines + 1) (omega arith)));
      in_order = omega arith;
    }
