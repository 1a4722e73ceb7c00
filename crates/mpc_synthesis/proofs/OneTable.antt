-- A program has one table: the laws of its candidates with a region, in the order of their sets.
use Rattle.std.proofs.Common.{◌≡◌, ℕ, zero, suc, ◌⊎◌, List, [], ◌∷◌, get_or, map, AllPairs, Contains, sym, subst, inl, inr, arith}
use Rattle.std.proofs.lemmas.List.{get_or-map, length-map}
use Rattle.mpc_sets.specs.SetOrder.{IsBefore}
use Rattle.mpc_sets.specs.SetTheorems.{OrderTheorems}
use Rattle.mpc_rows.specs.declared.laws.Law.{Law}
use Rattle.mpc_synthesis.specs.RightReplies.{OneTable}

contains_cases : {X : Type 0} (x : X) (xs : List X) (z : X) → Contains (x ∷ xs) z → (x ≡ z) ⊎ Contains xs z
contains_cases x xs z (zero, p, e) = inl e
contains_cases x xs z (suc k, p, e) = inr (k, omega arith, e)

contains_head : {X : Type 0} (x : X) (xs : List X) → Contains (x ∷ xs) x
contains_head x xs = (0, omega arith, λ _. x)

contains_later : {X : Type 0} (x : X) (xs : List X) (z : X) → Contains xs z → Contains (x ∷ xs) z
contains_later x xs z (k, p, e) = (suc k, omega arith, e)

-- two lists in one strict order that have the same members are one
module _ {X : Type 0} (R : X → X → Type 0) (never : (x : X) → R x x → ⊥) (chain : (x y z : X) → R x y → R y z → R x z) where
  first_before : (x : X) (xs : List X) (z : X) → AllPairs R (x ∷ xs) → Contains xs z → R x z
  first_before x xs z h (k, p, e) = subst (R x) e (h 0 (suc k) z (omega arith) (omega arith))

  rest_in_order : (x : X) (xs : List X) → AllPairs R (x ∷ xs) → AllPairs R xs
  rest_in_order x xs h = λ i j d p q. h (suc i) (suc j) d (omega arith) (omega arith)

  one_first : (x y : X) (xs ys : List X) → AllPairs R (x ∷ xs) → AllPairs R (y ∷ ys) → Contains (y ∷ ys) x → Contains (x ∷ xs) y → x ≡ y
  one_first x y xs ys h k c d =
      elim (contains_cases y ys x c) [
        | inl e ↦ sym e
        | inr c' ↦ elim (contains_cases x xs y d) [
          | inl e ↦ e
          | inr d' ↦ absurd (never x (chain x y x (first_before x xs y h d') (first_before y ys x k c')))
        ]
      ]

  rest_members : (x : X) (xs ys : List X) → AllPairs R (x ∷ xs) → ((z : X) → Contains (x ∷ xs) z → Contains (x ∷ ys) z) → (z : X) → Contains xs z → Contains ys z
  rest_members x xs ys h f z c =
      elim (contains_cases x ys z (f z (contains_later x xs z c))) [
        | inl e ↦ absurd (never x (subst (R x) (sym e) (first_before x xs z h c)))
        | inr d ↦ d
      ]

  pub one_order : (xs ys : List X) → AllPairs R xs → AllPairs R ys → ((z : X) → Contains xs z → Contains ys z) → ((z : X) → Contains ys z → Contains xs z) → xs ≡ ys
  one_order [] [] h k f g = λ _. []
  one_order [] (y ∷ ys) h k f g = let c = g y (contains_head y ys) in let none = c.1 in absurd (omega arith)
  one_order (x ∷ xs) [] h k f g = let c = f x (contains_head x xs) in let none = c.1 in absurd (omega arith)
  one_order (x ∷ xs) (y ∷ ys) h k f g =
      let head : x ≡ y = one_first x y xs ys h k (f x (contains_head x xs)) (g y (contains_head y ys)) in
      let tail : xs ≡ ys = one_order xs ys (rest_in_order x xs h) (rest_in_order y ys k)
      (rest_members x xs ys h (λ z c. subst (λ u. Contains (u ∷ ys) z) (sym head) (f z c)))
      (rest_members y ys xs k (λ z c. subst (λ u. Contains (u ∷ xs) z) head (g z c))) in
      λ i. head i ∷ tail i

IsLawBefore : Law → Law → Type 0
IsLawBefore a b = IsBefore a.set b.set

in_order_of_sets : (laws : List Law) → AllPairs IsBefore (map (λ law. law.set) laws) → AllPairs IsLawBefore laws
unfolding IsLawBefore
in_order_of_sets laws h i j d p q =
    let sets : List (List ℕ) = map (λ law. law.set) laws in
    let at_i : get_or sets i [] ≡ (get_or laws i d).set = get_or-map (λ law. law.set) laws i d [] (omega arith) in
    let at_j : get_or sets j [] ≡ (get_or laws j d).set = get_or-map (λ law. law.set) laws j d [] q in
    subst (λ s. IsBefore s (get_or laws j d).set) at_i (subst (IsBefore (get_or sets i [])) at_j (h i j [] p (omega (arith, length-map laws (λ law. law.set)))))

pub one_table : OrderTheorems → OneTable
unfolding IsLawBefore
one_table order qp a b s t =
    one_order IsLawBefore (λ x. order.irreflexive x.set) (λ x y z. order.transitive x.set y.set z.set) a b (in_order_of_sets a s.in_order) (in_order_of_sets b t.in_order)
    (λ law c. t.complete law (s.are_laws law c))
    (λ law c. s.complete law (t.are_laws law c))
