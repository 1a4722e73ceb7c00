-- The sets of one row, and the lists with which the two parts of `next_level` begin and end.
use Rattle.std.proofs.Common.{◌≡◌, ℕ, ◌+◌, ◌<◌, ◌↔◌, List, [], ◌∷◌, ◌++◌, length, get_or, Contains, refl, sym, ap, ◌∙◌, subst, inl, inr, arith, Some, None, slice_get, Result, Ok, Err, IfOk}
use Rattle.std.proofs.lemmas.Bool.{cases_eq}
use Rattle.std.proofs.lemmas.List.{get_or_default}
use Rattle.std.proofs.lemmas.List.Elements.{Contains-get_or, Contains-append_left, Contains-push, Contains-push_cases}
use Rattle.std.proofs.lemmas.List.Quantifiers.{all_pairs_push}
use Rattle.mpc_sets.specs.RowSet.{Among, without_row}
use Rattle.mpc_sets.specs.SetOrder.{IsBefore, IsInOrder}
use Rattle.mpc_sets.specs.NextLevel.{IsOfOneSize, IsNextOf, IsSingle, AllOneLarger, ExtendsOneOf, HoldsNext}
use Rattle.mpc_sets.proofs.RowSets.{Among_last, without_row-one, without_row-last, length-without_row}
use Rattle.mpc_sets.proofs.SetOrders.{slice_cmp-last}
use Rattle.mpc_sets.proofs.Joining.{next_from_without, next_without}

-- the sets of one of the rows 1 to n, in order
pub record HoldsSingles (n : ℕ) (level : List (List ℕ)) : Type 0 where
  pub in_order : IsInOrder level
  pub singles : (s : List ℕ) → Contains level s → IsSingle n s
  pub complete : (s : List ℕ) → IsSingle n s → Contains level s

pub singles_more : (n m : ℕ) (level : List (List ℕ)) → m ≡ n + 1 → HoldsSingles n level → HoldsSingles m (level ++ (m ∷ []) ∷ [])
singles_more n m level e h = record {
  in_order = all_pairs_push IsBefore level (m ∷ []) h.in_order (λ k d p. before (get_or level k d) (h.singles (get_or level k d) (Contains-get_or level k d p)));
  singles = λ s c. elim (Contains-push_cases level (m ∷ []) s c) [
    | inl a ↦ let r = h.singles s a in record { row = r.row; from_one = r.from_one; to_rows = omega (arith, r.to_rows); is = r.is }
    | inr g ↦ record { row = m; from_one = omega arith; to_rows = omega arith; is = sym g }
  ];
  complete = λ s r. elim (cases_eq r.row m) [
    | inl g ↦ subst (Contains (level ++ (m ∷ []) ∷ [])) (ap (λ i. i ∷ []) (sym g) ∙ sym r.is) (Contains-push level (m ∷ []))
    | inr g ↦ Contains-append_left level ((m ∷ []) ∷ []) s (h.complete s (record { row = r.row; from_one = r.from_one; to_rows = omega (arith, r.to_rows); is = r.is }))
  ];
}
  where
    before : (s : List ℕ) → IsSingle n s → IsBefore s (m ∷ [])
    before s r = subst (λ u. IsBefore u (m ∷ [])) (sym r.is) (slice_cmp-last [] r.row m (omega (arith, r.to_rows)))

-- ---- the two parts of the next level
-- where the empty set is given, it is the only one
pub only_empty : (grown : List (List ℕ)) → IsInOrder grown → IsOfOneSize grown → Contains grown [] → (s : List ℕ) → Contains grown s → s ≡ []
only_empty grown order one_size h s c = empty s (one_size s [] c h)
  where
    empty : (s : List ℕ) → length s ≡ 0 → s ≡ []
    empty [] e = refl
    empty (i ∷ s) e = absurd (omega arith)

pub next_of_empty : (grown : List (List ℕ)) (rows : ℕ) → IsInOrder grown → IsOfOneSize grown → Contains grown [] → (s : List ℕ) → IsSingle rows s ↔ IsNextOf grown rows s
next_of_empty grown rows order one_size h s = (
  λ r. subst (IsNextOf grown rows) (sym r.is) (next_from_without grown rows (r.row ∷ []) (record { rises = (r.from_one, r.to_rows, tt) }) (omega arith)
      (λ i a. subst (Contains grown) (sym (lacking i r.row a)) h)),
  λ n. single s n,
)
  where
    lacking : (i row : ℕ) → Among i (row ∷ []) → without_row i (row ∷ []) ≡ []
    lacking i row (inl e) = ap (λ j. without_row i (j ∷ [])) (sym e) ∙ without_row-one i
    lacking i row (inr a) = absurd a

    single : (s : List ℕ) → IsNextOf grown rows s → IsSingle rows s
    single [] n = absurd (omega (arith, n.has_member))
    single (i ∷ []) n = record { row = i; from_one = omega (arith, n.is_set.rises.0); to_rows = n.is_set.rises.1; is = refl }
    single (i ∷ j ∷ s) n =
        absurd (omega (arith, length-without_row i 0 rows (i ∷ j ∷ s) n.is_set.rises (inl refl), ap length (only_empty grown order one_size h (without_row i (i ∷ j ∷ s)) (next_without grown rows (i ∷ j ∷ s) i n (inl refl)))))

-- each next set has one member more than each given one
pub next_one_larger : (grown : List (List ℕ)) (rows : ℕ) → IsOfOneSize grown → (s t : List ℕ) → IsNextOf grown rows s → Contains grown t → length s ≡ length t + 1
next_one_larger grown rows one_size [] t n c = absurd (omega (arith, n.has_member))
next_one_larger grown rows one_size (i ∷ s) t n c =
    omega (arith, length-without_row i 0 rows (i ∷ s) n.is_set.rises (inl refl), one_size (without_row i (i ∷ s)) t (next_without grown rows (i ∷ s) i n (inl refl)) c)

with_end : (s : List ℕ) → 0 < length s → (f : List ℕ) × (x : ℕ) × (s ≡ f ++ x ∷ [])
with_end [] p = absurd (omega arith)
with_end (i ∷ []) p = ([], i, refl)
with_end (i ∷ j ∷ s) p = let (f, x, e) = with_end (j ∷ s) (omega arith) in (i ∷ f, x, ap (λ u. i ∷ u) e)

-- each next set extends a given one
pub next_extends : (grown : List (List ℕ)) (rows : ℕ) (s : List ℕ) → IsNextOf grown rows s → ExtendsOneOf grown (length grown) s
next_extends grown rows s n = by (with_end s n.has_member)
  where
    by : (f : List ℕ) × (x : ℕ) × (s ≡ f ++ x ∷ []) → ExtendsOneOf grown (length grown) s
    by (f, x, e) =
        let n' = subst (IsNextOf grown rows) e n in
        let (m, p, g) = subst (Contains grown) (without_row-last 0 rows f x n'.is_set.rises) (next_without grown rows (f ++ x ∷ []) x n' (Among_last f x)) in
        record { at = m; is_before = p; row = x; is = e ∙ ap (λ u. u ++ x ∷ []) (sym (get_or_default grown m [] f p ∙ g)) }

pub all_next : (grown : List (List ℕ)) (rows : ℕ) (level : List (List ℕ)) → HoldsNext (ExtendsOneOf grown (length grown)) grown rows level → (s : List ℕ) → Contains level s ↔ IsNextOf grown rows s
all_next grown rows level h s = (λ c. (h.are_next s c).0, λ n. h.complete s n (next_extends grown rows s n))

pub if_ok : {T E : Type 0} (P Q : T → Type 0) (r : Result T E) → ((x : T) → P x → Q x) → IfOk r P → IfOk r Q
if_ok P Q (Ok x) f h = f x h
if_ok P Q (Err e) f h = h

-- ---- the first given set
pub first_given : (grown : List (List ℕ)) (first : List ℕ) → Some first ≡ slice_get grown 0 → Contains grown first
first_given [] first e = cc
first_given (s ∷ grown) first e = (0, omega arith, some_same s first e)
  where
    some_same : (s first : List ℕ) → Some first ≡ Some s → s ≡ first
    some_same s first e = cc

pub empty_given : (grown : List (List ℕ)) (first : List ℕ) (n : ℕ) → Some first ≡ slice_get grown 0 → n ≡ length first → n ≡ 0 → Contains grown []
empty_given grown [] n e f g = first_given grown [] e
empty_given grown (i ∷ s) n e f g = absurd (omega arith)

pub none_empty : (grown : List (List ℕ)) (first : List ℕ) (n : ℕ) → IsInOrder grown → IsOfOneSize grown → Some first ≡ slice_get grown 0 → n ≡ length first → (n ≡ 0 → ⊥) → Contains grown [] → ⊥
none_empty grown first n order one_size e f g h = g (f ∙ ap length (only_empty grown order one_size h first (first_given grown first e)))

pub none_given : (grown : List (List ℕ)) → None ≡ slice_get grown 0 → Contains grown [] → ⊥
none_given [] e (m, p, g) = omega arith
none_given (s ∷ grown) e h = absurd (differ s e)
  where
    differ : (s : List ℕ) → None ≡ Some s → ⊥
    differ s e = cc

-- a list of sets as a level of next sets
pub single_next : (grown : List (List ℕ)) (rows : ℕ) → IsInOrder grown → IsOfOneSize grown → Contains grown [] → (level : List (List ℕ)) → ((s : List ℕ) → Contains level s ↔ IsSingle rows s) → (s : List ℕ) → Contains level s ↔ IsNextOf grown rows s
single_next grown rows order one_size h level f s = let a = f s in let b = next_of_empty grown rows order one_size h s in (λ c. b.0 (a.0 c), λ n. a.1 (b.1 n))

pub next_larger : (grown : List (List ℕ)) (rows : ℕ) → IsOfOneSize grown → (level : List (List ℕ)) → ((s : List ℕ) → Contains level s ↔ IsNextOf grown rows s) → AllOneLarger grown level
next_larger grown rows one_size level f s t c d = next_one_larger grown rows one_size s t ((f s).0 c) d
