-- The steps of the loop that joins one set with the later ones.
use Rattle.std.proofs.Common.{◌≡◌, ℕ, ◌+◌, ◌-◌, ◌<◌, ◌≤◌, ◌⊎◌, List, [], ◌∷◌, ◌++◌, length, get_or, drop, take, Contains, refl, sym, ap, ◌∙◌, subst, inl, inr, arith, length-drop, get_or-drop}
use Rattle.std.proofs.lemmas.List.{get_or_default, take_all}
use Rattle.std.proofs.lemmas.Bool.{true≢false, not-false}
use Rattle.std.specs.Prelude.{nat_eq, Bool, not, true, false}
use Rattle.std.specs.Cmp.Lexicographic.{pointwise}
use Rattle.mpc_sets.specs.RowSet.{Among, IsSetOfRows, with_row, without_row}
use Rattle.mpc_sets.specs.SetOrder.{IsInOrder, pointwise-same, pointwise_true}
use Rattle.mpc_sets.specs.NextLevel.{IsOfOneSize, ExtendsOneOf, HoldsNext}
use Rattle.mpc_sets.proofs.RowSets.{Among_last_cases, below_last, with_row-last}
use Rattle.mpc_sets.proofs.Joining.{IsReached, row_after, join_pushed, join_skipped, join_started, join_ended, join_left}

-- the set at the place, its last member and the others
pub record HasSetAt (grown : List (List ℕ)) (place : ℕ) (set f : List ℕ) (last : ℕ) : Type 0 where
  pub order : IsInOrder grown
  pub one_size : IsOfOneSize grown
  pub in_range : place < length grown
  pub at : set ≡ get_or grown place set
  pub last_is : set ≡ without_row last set ++ last ∷ []
  pub others : f ≡ without_row last set
  pub rows : IsSetOfRows 60 set

-- the sets behind the place
abbrev pub later_of : List (List ℕ) → ℕ → List (List ℕ)
later_of grown place = take (length grown - (place + 1)) (drop (place + 1) grown)

later_of-drop : (grown : List (List ℕ)) (place : ℕ) → later_of grown place ≡ drop (place + 1) grown
later_of-drop grown place = take_all (length grown - (place + 1)) (drop (place + 1) grown) (omega (arith, length-drop (place + 1) grown))

-- a later set and its last member
pub record HasPartnerAt (grown : List (List ℕ)) (place j : ℕ) (partner : List ℕ) (row : ℕ) : Type 0 where
  pub within : j < length (later_of grown place)
  pub at : partner ≡ get_or (later_of grown place) j partner
  pub last_is : partner ≡ without_row row partner ++ row ∷ []

end_of : (f : List ℕ) (x : ℕ) → get_or (f ++ x ∷ []) (length f) 0 ≡ x
end_of [] x = refl
end_of (i ∷ f) x = end_of f x

abbrev pub last_of : List ℕ → List ℕ → ℕ
last_of set f = get_or set (length f) 0

module _ (grown : List (List ℕ)) (rows place : ℕ) (set f : List ℕ) (last : ℕ) (h : HasSetAt grown place set f last) where
  split : set ≡ f ++ last ∷ []
  split = h.last_is ∙ ap (λ u. u ++ last ∷ []) (sym h.others)

  parts : set ≡ f ++ last_of set f ∷ []
  parts = split ∙ ap (λ i. f ++ i ∷ []) (sym (end_of f last) ∙ ap (λ u. get_or u (length f) 0) (sym split))

  set_is : get_or grown place [] ≡ f ++ last_of set f ∷ []
  set_is = get_or_default grown place [] set h.in_range ∙ sym h.at ∙ parts

  set_rows : IsSetOfRows 60 (f ++ last_of set f ∷ [])
  set_rows = subst (IsSetOfRows 60) parts h.rows

  pub step_started : (level : List (List ℕ)) → HoldsNext (ExtendsOneOf grown place) grown rows level → HoldsNext (IsReached grown place f (last_of set f) (place + 1)) grown rows level
  step_started level a = join_started grown rows place f (last_of set f) h.order h.one_size h.in_range set_is set_rows level a

  pub step_ended : (j : ℕ) (level : List (List ℕ)) → length (later_of grown place) ≤ j → HoldsNext (IsReached grown place f (last_of set f) (place + 1 + j)) grown rows level → HoldsNext (ExtendsOneOf grown (place + 1)) grown rows level
  step_ended j level p a = join_ended grown rows place f (last_of set f) h.order h.one_size h.in_range set_is set_rows (place + 1 + j) level (omega (arith, p, ap length (later_of-drop grown place), length-drop (place + 1) grown)) a

  module _ (j : ℕ) (partner : List ℕ) (row : ℕ) (k : HasPartnerAt grown place j partner row) where
    within_given : place + 1 + j < length grown
    within_given = omega (arith, k.within, ap length (later_of-drop grown place), length-drop (place + 1) grown)

    partner_is : get_or grown (place + 1 + j) [] ≡ without_row row partner ++ row ∷ []
    partner_is = get_or_default grown (place + 1 + j) [] partner within_given ∙ sym (get_or-drop (place + 1) grown j partner) ∙ ap (λ u. get_or u j partner) (sym (later_of-drop grown place)) ∙ sym k.at ∙ k.last_is

    pub step_left : (level : List (List ℕ)) → (rows < row) ⊎ (without_row row partner ≡ f → ⊥) → HoldsNext (IsReached grown place f (last_of set f) (place + 1 + j)) grown rows level → HoldsNext (ExtendsOneOf grown (place + 1)) grown rows level
    step_left level e a = join_left grown rows place f (last_of set f) h.order h.one_size h.in_range set_is set_rows (place + 1 + j) row (without_row row partner) level (omega arith) within_given partner_is e a

    module _ (alike : without_row row partner ≡ f) where
      joins : get_or grown (place + 1 + j) [] ≡ f ++ row ∷ []
      joins = partner_is ∙ ap (λ u. u ++ row ∷ []) alike

      joined_is : with_row row set ≡ (f ++ last_of set f ∷ []) ++ row ∷ []
      joined_is = ap (with_row row) parts ∙ with_row-last (f ++ last_of set f ∷ []) row below
        where
          below : (i : ℕ) → Among i (f ++ last_of set f ∷ []) → i < row
          below i b =
              let after = row_after grown rows place f (last_of set f) h.order h.one_size h.in_range set_is set_rows (place + 1 + j) row (omega arith) within_given joins in
              elim (Among_last_cases i f (last_of set f) b) [ inl c ↦ omega (arith, below_last 0 60 i f (last_of set f) set_rows.rises c) | inr e ↦ omega arith ]

      pub step_pushed : (level : List (List ℕ)) (joined : List ℕ) (n : ℕ) → row ≤ rows → joined ≡ with_row row set → n ≡ place + 1 + j + 1 → ((i : ℕ) → Contains f i → Contains grown (without_row i joined))
          → HoldsNext (IsReached grown place f (last_of set f) (place + 1 + j)) grown rows level → HoldsNext (IsReached grown place f (last_of set f) n) grown rows (level ++ joined ∷ [])
      step_pushed level joined n small e g supported a =
          subst (λ m. HoldsNext (IsReached grown place f (last_of set f) m) grown rows (level ++ joined ∷ [])) (sym g)
          (join_pushed grown rows place f (last_of set f) h.order h.one_size h.in_range set_is set_rows (place + 1 + j) row level joined (omega arith) within_given joins small (e ∙ joined_is) supported a)

      pub step_skipped : (level : List (List ℕ)) (joined : List ℕ) (n : ℕ) → joined ≡ with_row row set → n ≡ place + 1 + j + 1 → (((i : ℕ) → Contains f i → Contains grown (without_row i joined)) → ⊥)
          → HoldsNext (IsReached grown place f (last_of set f) (place + 1 + j)) grown rows level → HoldsNext (IsReached grown place f (last_of set f) n) grown rows level
      step_skipped level joined n e g unsupported a =
          subst (λ m. HoldsNext (IsReached grown place f (last_of set f) m) grown rows level) (sym g)
          (join_skipped grown rows place f (last_of set f) h.order h.one_size h.in_range set_is set_rows (place + 1 + j) row level joined joins (e ∙ joined_is) unsupported a)

-- what the test `!=` of two sets says
pub unlike_from_test : (s f : List ℕ) (b : Bool) (u : List ℕ) → s ≡ u → b ≡ not (pointwise nat_eq s f) → b ≡ true → u ≡ f → ⊥
unlike_from_test s f b u e t g same = true≢false (sym g ∙ t ∙ ap not (pointwise-same s f (e ∙ same)))

pub alike_from_test : (s f : List ℕ) (b : Bool) (u : List ℕ) → s ≡ u → b ≡ not (pointwise nat_eq s f) → b ≡ false → u ≡ f
alike_from_test s f b u e t g = sym e ∙ pointwise_true s f (not-false (pointwise nat_eq s f) (sym t ∙ g))
