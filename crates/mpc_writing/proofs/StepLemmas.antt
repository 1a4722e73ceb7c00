-- One more item whose line is named by its number.
use Rattle.std.proofs.Common.{◌≡◌, ℕ, ◌+◌, ◌-◌, ◌<◌, ◌≤◌, ◌⊎◌, inl, inr, cond, nat_lt, List, [], ◌∷◌, ◌++◌, length, map, refl, sym, ◌∙◌, ap, subst, arith, length-append}
use Rattle.std.specs.Prelude.{All, slice_index_or}
use Rattle.std.proofs.lemmas.List.{append-nil, map-append, get_or-map, length-map}
use Rattle.std.proofs.lemmas.List.Elements.{All-push, All-get_or}
use Rattle.mpc_writing.specs.Names.{IsNamed, IsNumberOf}

pub record IsItemStep {X : Type 0} (f : X → List ℕ) (Good : X → Type 0) (d : X) (xs : List X) (x : X) (k : ℕ) (next : List (List ℕ) → Type 0) : Type 0 where
  pub more : List X
  pub more_is : (more ≡ []) ⊎ (more ≡ x ∷ [])
  pub names_are : next (map f (xs ++ more))
  pub good : All Good (xs ++ more)
  pub from_one : 1 ≤ k
  pub most : k ≤ length (xs ++ more)
  pub in_order : k ≤ length xs + 1
  pub item_is : slice_index_or (xs ++ more) (k - 1) d ≡ x
  pub used : length (xs ++ more) ≡ cond (nat_lt (length xs) k) k (length xs)
  pub few : length (xs ++ more) ≤ length xs + 1

module _ {X : Type 0} (f : X → List ℕ) (Good : X → Type 0) (d : X) (one : (x y : X) → Good x → Good y → f x ≡ f y → x ≡ y) where
  item_of_number : (xs : List X) (x : X) (k : ℕ) → All Good xs → Good x → IsNumberOf (map f xs) (f x) k → slice_index_or xs (k - 1) d ≡ x
  item_of_number xs x k good here is =
      let from = is.from_one in
      let most = is.is_line in
      let same : length (map f xs) ≡ length xs = length-map xs f in
      let inside : k - 1 < length xs = omega arith in
      one (slice_index_or xs (k - 1) d) x (All-get_or Good xs (k - 1) d inside good) here (sym (get_or-map f xs (k - 1) d [] inside) ∙ is.line_is)

  with_more : (xs more : List X) (lines : List (List ℕ)) (x : X) (k : ℕ) (next : List (List ℕ) → Type 0) → lines ≡ map f (xs ++ more) → (more ≡ []) ⊎ (more ≡ x ∷ []) → length more ≤ 1 → All Good (xs ++ more) → Good x
      → next lines → IsNumberOf lines (f x) k → length lines ≡ cond (nat_lt (length (map f xs)) k) k (length (map f xs)) → k ≤ length (map f xs) + 1 → IsItemStep f Good d xs x k next
  with_more xs more lines x k next same which few good here are number used order =
      let is : IsNumberOf (map f (xs ++ more)) (f x) k = subst (λ ls. IsNumberOf ls (f x) k) same number in
      let all_size : length (map f (xs ++ more)) ≡ length (xs ++ more) = length-map (xs ++ more) f in
      let size : length (map f xs) ≡ length xs = length-map xs f in
      let most = is.is_line in
      record {
        more = more;
        more_is = which;
        names_are = subst next same are;
        good = good;
        from_one = is.from_one;
        most = omega arith;
        in_order = omega arith;
        item_is = item_of_number (xs ++ more) x k good here is;
        used = sym all_size ∙ ap length (sym same) ∙ used ∙ ap (λ n. cond (nat_lt n k) k n) size;
        few = simp length-append (omega arith);
      }

  pub item_step : (xs : List X) (x : X) (k : ℕ) (next : List (List ℕ) → Type 0) → All Good xs → Good x → IsNamed (map f xs) (f x) k next → IsItemStep f Good d xs x k next
  item_step xs x k next good here is =
      elim (is.behind_is) [
        | inl none ↦
            with_more xs [] (map f xs ++ is.behind) x k next (ap (λ b. map f xs ++ b) none ∙ append-nil (map f xs) ∙ ap (map f) (sym (append-nil xs))) (inl refl) (omega arith) (subst (All Good) (sym (append-nil xs)) good) here
            is.names_are is.number_of is.used is.in_order
        | inr last ↦
            with_more xs (x ∷ []) (map f xs ++ is.behind) x k next (ap (λ b. map f xs ++ b) last ∙ sym (map-append f xs (x ∷ []))) (inr refl) (omega arith) (All-push Good xs x good here) here
            is.names_are is.number_of is.used is.in_order
      ]
