-- Finding a set among sets in order.
use Rattle.std.proofs.Common.{◌≡◌, ℕ, ◌+◌, ◌<◌, ◌≤◌, ◌↔◌, Bool, false, true, List, length, get_or, Contains, IsTrue, is_ok, Result, Ok, Err, refl, sym, ap, ◌∙◌, subst, inl, inr, arith}
use Rattle.std.proofs.lemmas.Bool.{cases_lt, cases_eq, true≢false}
use Rattle.std.proofs.lemmas.List.Sorted.{searchable_from_sorted}
use Rattle.std.proofs.lemmas.List.{get_or_default}
use Rattle.std.specs.Ordering.{is_lt, ordering_reverse}
use Rattle.std.specs.List.Sorted.{IsBinarySearchResult, IsSearchInRange, IsSortedBy}
use Rattle.std.specs.Cmp.{tied_itself}
use Rattle.std.specs.declared.cmp.Ordering.TheVariants.{Equal, Greater}
use Rattle.mpc_sets.specs.RowSet.{without_row}
use Rattle.mpc_sets.specs.SetOrder.{set_cmp, IsBefore, IsInOrder, set_cmp-total, set_cmp-Equal}
use Rattle.mpc_sets.proofs.SetOrders.{less_tied}

not_above : (s t : List ℕ) → IsBefore s t → is_lt (set_cmp t s) ≡ false
not_above s t h = ap is_lt (set_cmp-total.antisymm t s ∙ ap ordering_reverse h)

sorted_from_order : (sets : List (List ℕ)) → IsInOrder sets → IsSortedBy (λ s t. is_lt (set_cmp s t)) sets
sorted_from_order sets h k d from below = not_above (get_or sets k d) (get_or sets (k + 1) d) (h k (k + 1) d (omega arith) below)

pub found_by_search : (sets : List (List ℕ)) (s : List ℕ) (r : Result ℕ ℕ) → IsInOrder sets → IsSearchInRange r (length sets) → IsBinarySearchResult (λ t. set_cmp t s) sets r → IsTrue (is_ok r) ↔ Contains sets s
found_by_search sets s (Ok i) order range result = (λ _. (i, range, set_cmp-Equal (get_or sets i s) s (result s)), λ _. refl)
found_by_search sets s (Err i) order range result = (λ t. absurd (true≢false (sym t)), λ h. absurd (none h))
  where
    none : Contains sets s → ⊥
    none (m, p, e) =
        let parted = result (searchable_from_sorted set_cmp-total (λ t. t) sets s (sorted_from_order sets order)) in
        let tied : set_cmp (get_or sets m s) s ≡ Equal = ap (λ t. set_cmp t s) e ∙ tied_itself set_cmp-total s in
        elim (cases_lt m i) [ inl q ↦ less_tied (sym (parted.0 m s (omega arith) q) ∙ tied) | inr q ↦ greater_tied (sym (parted.1 m s q p) ∙ tied) ]
      where
        greater_tied : Greater ≡ Equal → ⊥
        greater_tied e = cc

-- what holds of the first members holds of one more
pub record HoldsOfFirst (P : ℕ → Type 0) (s : List ℕ) (k : ℕ) : Type 0 where
  pub holds : (m d : ℕ) → m < k → m < length s → P (get_or s m d)

pub first_none : (P : ℕ → Type 0) (s : List ℕ) → HoldsOfFirst P s 0
first_none P s = record { holds = λ m d p q. absurd (omega arith) }

pub first_more : (P : ℕ → Type 0) (s : List ℕ) (k j : ℕ) → HoldsOfFirst P s k → P (get_or s k 0) → j ≡ k + 1 → HoldsOfFirst P s j
first_more P s k j h here e = record {
  holds = λ m d p q. elim (cases_eq m k) [
    | inl f ↦ subst P (get_or_default s k 0 d (omega arith) ∙ ap (λ i. get_or s i d) (sym f)) here
    | inr f ↦ h.holds m d (omega arith) q
  ];
}

pub first_all : (P : ℕ → Type 0) (s : List ℕ) (k : ℕ) → length s ≤ k → HoldsOfFirst P s k → (row : ℕ) → Contains s row → P row
first_all P s k l h row (m, p, e) = subst P e (h.holds m row (omega arith) p)

-- ---- the test of all smaller subsets
module _ (grown : List (List ℕ)) (beginning joined fewer : List ℕ) (k row : ℕ) (b : Bool)
    (says : IsTrue b ↔ Contains grown fewer) (fewer_is : fewer ≡ without_row row joined) (row_is : row ≡ get_or beginning k 0) (within : k < length beginning) where
  pub not_supported : b ≡ false → IsTrue false ↔ ((i : ℕ) → Contains beginning i → Contains grown (without_row i joined))
  not_supported e = (λ t. absurd (true≢false (sym t)), λ h. absurd (true≢false (sym (says.1 (subst (Contains grown) (sym fewer_is) (h row here))) ∙ e)))
    where
      here : Contains beginning row
      here = (k, within, get_or_default beginning k row 0 within ∙ sym row_is)

  pub supported_more : (j : ℕ) → b ≡ true → HoldsOfFirst (λ i. Contains grown (without_row i joined)) beginning k → j ≡ k + 1 → HoldsOfFirst (λ i. Contains grown (without_row i joined)) beginning j
  supported_more j e h f = first_more (λ i. Contains grown (without_row i joined)) beginning k j h (subst (λ i. Contains grown (without_row i joined)) row_is (subst (Contains grown) fewer_is (says.0 e))) f
