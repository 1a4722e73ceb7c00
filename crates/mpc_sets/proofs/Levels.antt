-- Theorems of lists of sets in order.
use Rattle.std.proofs.Common.{false, ◌≡◌, ℕ, suc, zero, ◌+◌, ◌-◌, ◌<◌, ◌≤◌, ◌⊎◌, ◌↔◌, List, [], ◌∷◌, length, get_or, Contains, refl, sym, ap, ◌∙◌, subst, inl, inr, arith}
use Rattle.std.proofs.lemmas.Bool.{cases_eq}
use Rattle.std.proofs.lemmas.List.{get_or_default}
use Rattle.std.proofs.lemmas.List.Elements.{Contains-get_or}
use Rattle.std.specs.Ordering.{is_ge}
use Rattle.std.specs.declared.cmp.Ordering.{Ordering}
use Rattle.std.specs.declared.cmp.Ordering.TheVariants.{Less, Equal, Greater}
use Rattle.mpc_sets.specs.SetOrder.{set_cmp, IsBefore, IsInOrder}
use Rattle.mpc_sets.specs.NextLevel.{IsLevel}
use Rattle.mpc_sets.proofs.SetOrders.{IsBefore-trans}

-- the first n sets are in order and of one size
pub record IsLevelUpTo (sets : List (List ℕ)) (n : ℕ) : Type 0 where
  pub before : (i j : ℕ) → i < j → j < n → j < length sets → IsBefore (get_or sets i []) (get_or sets j [])
  pub size : (i : ℕ) → i < n → i < length sets → length (get_or sets i []) ≡ length (get_or sets 0 [])

pub level_up_to_one : (sets : List (List ℕ)) → IsLevelUpTo sets 1
level_up_to_one sets = record { before = λ i j p q _. absurd (omega arith); size = λ i p q. let first : i ≡ 0 = omega arith in ap (λ k. length (get_or sets k [])) first }

pub level_up_to_more : (sets : List (List ℕ)) (n : ℕ) (s t : List ℕ) → 1 ≤ n → n < length sets → s ≡ get_or sets (n - 1) s → t ≡ get_or sets n t → IsBefore s t → length s ≡ length t → IsLevelUpTo sets n → IsLevelUpTo sets (n + 1)
level_up_to_more sets n s t some within s_is t_is less long h = record {
  before = λ i j p q r. elim (cases_eq j n) [
    | inl e ↦ subst (λ k. IsBefore (get_or sets i []) (get_or sets k [])) (sym e) (elim (cases_eq i (n - 1)) [
      | inl f ↦ subst (λ k. IsBefore (get_or sets k []) (get_or sets n [])) (sym f) step
      | inr f ↦ IsBefore-trans (get_or sets i []) (get_or sets (n - 1) []) (get_or sets n []) (h.before i (n - 1) (omega arith) (omega arith) (omega arith)) step
    ])
    | inr f ↦ h.before i j p (omega arith) r
  ];
  size = λ i p q. elim (cases_eq i n) [
    | inl e ↦ ap (λ k. length (get_or sets k [])) e ∙ ap length (sym at_n) ∙ sym long ∙ ap length at_before ∙ h.size (n - 1) (omega arith) (omega arith)
    | inr f ↦ h.size i (omega arith) q
  ];
}
  where
    at_before : s ≡ get_or sets (n - 1) []
    at_before = s_is ∙ get_or_default sets (n - 1) s [] (omega arith)

    at_n : t ≡ get_or sets n []
    at_n = t_is ∙ get_or_default sets n t [] within

    step : IsBefore (get_or sets (n - 1) []) (get_or sets n [])
    step = subst (λ u. IsBefore u (get_or sets n [])) at_before (subst (IsBefore s) at_n less)

pub level_from_all : (sets : List (List ℕ)) (n : ℕ) → length sets ≤ n → IsLevelUpTo sets n → IsLevel sets
level_from_all sets n p h = record {
  in_order = λ i j d q r. subst (λ u. IsBefore u (get_or sets j d)) (get_or_default sets i [] d (omega arith)) (subst (IsBefore (get_or sets i [])) (get_or_default sets j [] d r) (h.before i j q (omega arith) r));
  one_size = λ s t c d. first s c ∙ sym (first t d);
}
  where
    first : (s : List ℕ) → Contains sets s → length s ≡ length (get_or sets 0 [])
    first s (k, q, e) = ap length (sym e ∙ get_or_default sets k s [] q) ∙ h.size k (omega arith) q

pub no_level : (sets : List (List ℕ)) (n : ℕ) (s t : List ℕ) → 1 ≤ n → n < length sets → s ≡ get_or sets (n - 1) s → t ≡ get_or sets n t → IsLevel sets → IsBefore s t × (length s ≡ length t)
no_level sets n s t some within s_is t_is h = (
  subst (λ u. IsBefore u t) (sym s_is) (subst (IsBefore (get_or sets (n - 1) s)) (get_or_default sets n s t within ∙ sym t_is) (h.in_order (n - 1) n s (omega arith) within)),
  h.one_size s t (n - 1, omega arith, sym s_is) (n, within, sym t_is),
)

-- what the test `>=` says
pub test_from_before : (s t : List ℕ) → IsBefore s t → is_ge (set_cmp s t) ≡ false
test_from_before s t h = ap is_ge h

pub before_from_test : (s t : List ℕ) → is_ge (set_cmp s t) ≡ false → IsBefore s t
before_from_test s t h = less (set_cmp s t) h
  where
    less : (o : Ordering) → is_ge o ≡ false → o ≡ Less
    less Less e = refl
    less Equal e = cc
    less Greater e = cc

in_order_tail : (s : List ℕ) (sets : List (List ℕ)) → IsInOrder (s ∷ sets) → IsInOrder sets
in_order_tail s sets h = λ i j d p q. h (suc i) (suc j) d (omega arith) (omega arith)

in_order_head : (s t : List ℕ) (sets : List (List ℕ)) → IsInOrder (s ∷ sets) → Contains sets t → IsBefore s t
in_order_head s t sets h (k, p, e) = subst (IsBefore s) e (h 0 (suc k) t (omega arith) (omega arith))

in_order_cons : (s : List ℕ) (sets : List (List ℕ)) → ((t : List ℕ) → Contains sets t → IsBefore s t) → IsInOrder sets → IsInOrder (s ∷ sets)
in_order_cons s sets f h zero zero d p q = absurd (omega arith)
in_order_cons s sets f h zero (suc j) d p q = f (get_or sets j d) (Contains-get_or sets j d (omega arith))
in_order_cons s sets f h (suc i) zero d p q = absurd (omega arith)
in_order_cons s sets f h (suc i) (suc j) d p q = h i j d (omega arith) (omega arith)

contains_cases : (s t : List ℕ) (sets : List (List ℕ)) → Contains (s ∷ sets) t → (s ≡ t) ⊎ Contains sets t
contains_cases s t sets (zero, p, e) = inl e
contains_cases s t sets (suc k, p, e) = inr (k, omega arith, e)

contains_later : (s t : List ℕ) (sets : List (List ℕ)) → Contains sets t → Contains (s ∷ sets) t
contains_later s t sets (k, p, e) = (suc k, omega arith, e)
