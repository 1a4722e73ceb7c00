-- A commutative ring as a record of laws, and a solver: an identity between two polynomials in n variables is
-- proved by putting both into one normal form, by computation.
use Prim.Native.Nat.{compare, Ordering}
use lib.Dec.{compare_is_eq}
use Rattle.std.proofs.Common.{◌≡◌, ℕ, zero, suc, List, [], ◌∷◌, Bool, true, false, T, leb, refl, sym, ap, subst, ◌∙◌, ℤ, pos, negsuc, ◌+ℤ◌, ◌*ℤ◌, eqb→eq}

-- `lit` reads an integer in the ring: `lit (pos 0)` is the zero, `lit (pos 1)` the one.
pub record Ring : Type 1 where
  pub Carrier : Type 0
  pub lit : ℤ → Carrier
  pub add : Carrier → Carrier → Carrier
  pub mul : Carrier → Carrier → Carrier
  pub neg : Carrier → Carrier
  pub add_comm : (a b : Carrier) → add a b ≡ add b a
  pub add_assoc : (a b c : Carrier) → add (add a b) c ≡ add a (add b c)
  pub add_zero : (a : Carrier) → add a (lit (pos 0)) ≡ a
  pub add_neg : (a : Carrier) → add a (neg a) ≡ lit (pos 0)
  pub mul_comm : (a b : Carrier) → mul a b ≡ mul b a
  pub mul_assoc : (a b c : Carrier) → mul (mul a b) c ≡ mul a (mul b c)
  pub mul_one : (a : Carrier) → mul a (lit (pos 1)) ≡ a
  pub mul-add : (a b c : Carrier) → mul a (add b c) ≡ add (mul a b) (mul a c)
  pub lit-add : (m n : ℤ) → lit (m +ℤ n) ≡ add (lit m) (lit n)
  pub lit-mul : (m n : ℤ) → lit (m *ℤ n) ≡ mul (lit m) (lit n)

-- ---- expressions, and polynomials: sums of terms, a coefficient times a product of variables, the greatest first

infixl 6 ◌⊕◌ ◌⊖◌
infixl 7 ◌⊗◌
infix 8 ⊝◌
pub data Expr : Type 0 where
  var : ℕ → Expr
  con : ℤ → Expr
  ◌⊕◌ : Expr → Expr → Expr
  ◌⊗◌ : Expr → Expr → Expr
  ⊝◌ : Expr → Expr

abbrev pub ◌⊖◌ : Expr → Expr → Expr
a ⊖ b = a ⊕ (⊝ b)

pub data Poly : Type 0 where
  nil : Poly
  term : ℤ → List ℕ → Poly → Poly

-- the order of monomials: more of the first variable goes first
abbrev pub order : List ℕ → List ℕ → Ordering
order [] [] = Ordering.eq
order [] (j ∷ n) = Ordering.gt
order (i ∷ m) [] = Ordering.lt
order (i ∷ m) (j ∷ n) = elim (compare i j) [ Ordering.lt ↦ Ordering.lt | Ordering.eq ↦ order m n | Ordering.gt ↦ Ordering.gt ]

abbrev pub join_into : ℕ → List ℕ → (List ℕ → List ℕ) → List ℕ → List ℕ
join_into i m rest [] = i ∷ m
join_into i m rest (j ∷ n) = elim (leb i j) [ true ↦ i ∷ rest (j ∷ n) | false ↦ j ∷ join_into i m rest n ]

abbrev pub join : List ℕ → List ℕ → List ℕ
join [] n = n
join (i ∷ m) n = join_into i m (λ r. join m r) n

abbrev pub put : ℤ → List ℕ → Poly → Poly
put (pos zero) m p = p
put (pos (suc c)) m p = term (pos (suc c)) m p
put (negsuc c) m p = term (negsuc c) m p

abbrev pub plus_into : ℤ → List ℕ → Poly → (Poly → Poly) → Poly → Poly
plus_into c m p rest nil = term c m p
plus_into c m p rest (term d n q) =
    elim (order m n) [ Ordering.lt ↦ term c m (rest (term d n q)) | Ordering.eq ↦ put (c +ℤ d) m (rest q) | Ordering.gt ↦ term d n (plus_into c m p rest q) ]

abbrev pub plus : Poly → Poly → Poly
plus nil q = q
plus (term c m p) q = plus_into c m p (λ r. plus p r) q

abbrev pub scale : ℤ → List ℕ → Poly → Poly
scale c m nil = nil
scale c m (term d n p) = term (c *ℤ d) (join m n) (scale c m p)

abbrev pub times : Poly → Poly → Poly
times nil q = nil
times (term c m p) q = plus (scale c m q) (times p q)

abbrev pub norm : Expr → Poly
norm (var i) = term (pos 1) (i ∷ []) nil
norm (con c) = put c [] nil
norm (a ⊕ b) = plus (norm a) (norm b)
norm (a ⊗ b) = times (norm a) (norm b)
norm (⊝ a) = scale (negsuc 0) [] (norm a)

abbrev pub is_nil : Poly → Bool
is_nil nil = true
is_nil (term c m p) = false

-- the two sides have one normal form
abbrev pub agree : Expr → Expr → Bool
agree a b = is_nil (norm (a ⊖ b))

order-eq : (m n : List ℕ) → order m n ≡ Ordering.eq → m ≡ n
order-eq [] [] e = refl
order-eq [] (j ∷ n) e = cc
order-eq (i ∷ m) [] e = cc
order-eq (i ∷ m) (j ∷ n) e = by (order-eq m n) (compare i j) refl e
  where
    by : (order m n ≡ Ordering.eq → m ≡ n) → (o : Ordering) → compare i j ≡ o → elim o [ Ordering.lt ↦ Ordering.lt | Ordering.eq ↦ order m n | Ordering.gt ↦ Ordering.gt ] ≡ Ordering.eq → i ∷ m ≡ j ∷ n
    by ih Ordering.lt c e = cc
    by ih Ordering.eq c e = λ k. eqb→eq i j (subst (λ (o : Ordering). T (compare_is_eq o)) (sym c) tt) k ∷ ih e k
    by ih Ordering.gt c e = cc

module _ (R : Ring) where
  open R use {Carrier, lit, add, mul, neg, add_comm, add_assoc, add_zero, add_neg, mul_comm, mul_assoc, mul_one, mul-add, lit-add, lit-mul}

  abbrev pub get : List Carrier → ℕ → Carrier
  get [] i = lit (pos 0)
  get (x ∷ xs) zero = x
  get (x ∷ xs) (suc i) = get xs i

  abbrev pub eval : List Carrier → Expr → Carrier
  eval xs (var i) = get xs i
  eval xs (con c) = lit c
  eval xs (a ⊕ b) = add (eval xs a) (eval xs b)
  eval xs (a ⊗ b) = mul (eval xs a) (eval xs b)
  eval xs (⊝ a) = neg (eval xs a)

  abbrev pub monomial : List Carrier → List ℕ → Carrier
  monomial xs [] = lit (pos 1)
  monomial xs (i ∷ m) = mul (get xs i) (monomial xs m)

  abbrev pub poly : List Carrier → Poly → Carrier
  poly xs nil = lit (pos 0)
  poly xs (term c m p) = add (mul (lit c) (monomial xs m)) (poly xs p)

  -- ---- small laws
  pub one-mul : (a : Carrier) → mul (lit (pos 1)) a ≡ a
  one-mul a = mul_comm (lit (pos 1)) a ∙ mul_one a

  pub zero-add : (a : Carrier) → add (lit (pos 0)) a ≡ a
  zero-add a = add_comm (lit (pos 0)) a ∙ add_zero a

  pub add-mul : (a b c : Carrier) → mul (add a b) c ≡ add (mul a c) (mul b c)
  add-mul a b c = mul_comm (add a b) c ∙ mul-add c a b ∙ (λ i. add (mul_comm c a i) (mul_comm c b i))

  pub add_left_comm : (a b c : Carrier) → add a (add b c) ≡ add b (add a c)
  add_left_comm a b c = sym (add_assoc a b c) ∙ ap (λ x. add x c) (add_comm a b) ∙ add_assoc b a c

  pub mul_left_comm : (a b c : Carrier) → mul a (mul b c) ≡ mul b (mul a c)
  mul_left_comm a b c = sym (mul_assoc a b c) ∙ ap (λ x. mul x c) (mul_comm a b) ∙ mul_assoc b a c

  pub four : (a b c d : Carrier) → add (add a b) (add c d) ≡ add (add a c) (add b d)
  four a b c d = add_assoc a b (add c d) ∙ ap (add a) (add_left_comm b c d) ∙ sym (add_assoc a c (add b d))

  pub cross : (a b c d : Carrier) → mul (mul a b) (mul c d) ≡ mul (mul a c) (mul b d)
  cross a b c d = mul_assoc a b (mul c d) ∙ ap (mul a) (mul_left_comm b c d) ∙ sym (mul_assoc a c (mul b d))

  pub add_cancel : (a b : Carrier) → add a b ≡ a → b ≡ lit (pos 0)
  add_cancel a b e =
      sym (zero-add b) ∙ ap (λ x. add x b) (sym (add_neg a) ∙ add_comm a (neg a)) ∙ add_assoc (neg a) a b ∙ ap (add (neg a)) e ∙ add_comm (neg a) a ∙ add_neg a

  pub mul-zero : (a : Carrier) → mul a (lit (pos 0)) ≡ lit (pos 0)
  mul-zero a = add_cancel (mul a (lit (pos 0))) (mul a (lit (pos 0))) (sym (mul-add a (lit (pos 0)) (lit (pos 0))) ∙ ap (mul a) (add_zero (lit (pos 0))))

  pub zero-mul : (a : Carrier) → mul (lit (pos 0)) a ≡ lit (pos 0)
  zero-mul a = mul_comm (lit (pos 0)) a ∙ mul-zero a

  -- what added to a gives zero
  pub neg_unique : (a b : Carrier) → add a b ≡ lit (pos 0) → b ≡ neg a
  neg_unique a b e =
      sym (zero-add b) ∙ ap (λ x. add x b) (sym (add_neg a) ∙ add_comm a (neg a)) ∙ add_assoc (neg a) a b ∙ ap (add (neg a)) e ∙ add_zero (neg a)

  pub neg_is : (a : Carrier) → neg a ≡ mul (lit (negsuc 0)) a
  neg_is a = sym (neg_unique a (mul (lit (negsuc 0)) a)
      (ap (λ x. add x (mul (lit (negsuc 0)) a)) (sym (one-mul a)) ∙ sym (add-mul (lit (pos 1)) (lit (negsuc 0)) a) ∙ ap (λ x. mul x a) (sym (lit-add (pos 1) (negsuc 0))) ∙ zero-mul a))

  pub same_of_zero : (a b : Carrier) → add a (neg b) ≡ lit (pos 0) → a ≡ b
  same_of_zero a b e =
      sym (add_zero a) ∙ ap (add a) (sym (add_neg b) ∙ add_comm b (neg b)) ∙ sym (add_assoc a (neg b) b) ∙ ap (λ x. add x b) e ∙ zero-add b

  -- ---- the normal form has the expression's value
  join_into-monomial : (xs : List Carrier) (i : ℕ) (m : List ℕ) (rest : List ℕ → List ℕ) → ((r : List ℕ) → monomial xs (rest r) ≡ mul (monomial xs m) (monomial xs r)) → (n : List ℕ) → monomial xs (join_into i m rest n) ≡ mul (mul (get xs i) (monomial xs m)) (monomial xs n)
  join_into-monomial xs i m rest h [] = sym (mul_one (mul (get xs i) (monomial xs m)))
  join_into-monomial xs i m rest h (j ∷ n) =
      let ih = join_into-monomial xs i m rest h n in
      elim (leb i j) as (λ b. monomial xs (elim b [ true ↦ i ∷ rest (j ∷ n) | false ↦ j ∷ join_into i m rest n ]) ≡ mul (mul (get xs i) (monomial xs m)) (mul (get xs j) (monomial xs n))) [
        | true ↦ ap (mul (get xs i)) (h (j ∷ n)) ∙ sym (mul_assoc (get xs i) (monomial xs m) (mul (get xs j) (monomial xs n)))
        | false ↦ ap (mul (get xs j)) ih ∙ mul_left_comm (get xs j) (mul (get xs i) (monomial xs m)) (monomial xs n)
      ]

  join-monomial : (xs : List Carrier) (m n : List ℕ) → monomial xs (join m n) ≡ mul (monomial xs m) (monomial xs n)
  join-monomial xs [] n = sym (one-mul (monomial xs n))
  join-monomial xs (i ∷ m) n = join_into-monomial xs i m (λ r. join m r) (λ r. join-monomial xs m r) n

  put-poly : (xs : List Carrier) (c : ℤ) (m : List ℕ) (p : Poly) → poly xs (put c m p) ≡ add (mul (lit c) (monomial xs m)) (poly xs p)
  put-poly xs (pos zero) m p = sym (ap (λ x. add x (poly xs p)) (zero-mul (monomial xs m)) ∙ zero-add (poly xs p))
  put-poly xs (pos (suc c)) m p = refl
  put-poly xs (negsuc c) m p = refl

  plus_into-poly : (xs : List Carrier) (c : ℤ) (m : List ℕ) (p : Poly) (rest : Poly → Poly) → ((r : Poly) → poly xs (rest r) ≡ add (poly xs p) (poly xs r)) → (q : Poly) → poly xs (plus_into c m p rest q) ≡ add (add (mul (lit c) (monomial xs m)) (poly xs p)) (poly xs q)
  plus_into-poly xs c m p rest h nil = sym (add_zero (add (mul (lit c) (monomial xs m)) (poly xs p)))
  plus_into-poly xs c m p rest h (term d n q) = by (plus_into-poly xs c m p rest h q) (order m n) refl
    where
      by : poly xs (plus_into c m p rest q) ≡ add (add (mul (lit c) (monomial xs m)) (poly xs p)) (poly xs q) → (o : Ordering) → order m n ≡ o → poly xs (elim o [ Ordering.lt ↦ term c m (rest (term d n q)) | Ordering.eq ↦ put (c +ℤ d) m (rest q) | Ordering.gt ↦ term d n (plus_into c m p rest q) ]) ≡ add (add (mul (lit c) (monomial xs m)) (poly xs p)) (add (mul (lit d) (monomial xs n)) (poly xs q))
      by ih Ordering.lt e = ap (add (mul (lit c) (monomial xs m))) (h (term d n q)) ∙ sym (add_assoc (mul (lit c) (monomial xs m)) (poly xs p) (poly xs (term d n q)))
      by ih Ordering.eq e =
          put-poly xs (c +ℤ d) m (rest q) ∙ (λ i. add (mul (lit-add c d i) (monomial xs m)) (h q i)) ∙ ap (λ x. add x (add (poly xs p) (poly xs q))) (add-mul (lit c) (lit d) (monomial xs m))
          ∙ four (mul (lit c) (monomial xs m)) (mul (lit d) (monomial xs m)) (poly xs p) (poly xs q)
          ∙ (λ i. add (add (mul (lit c) (monomial xs m)) (poly xs p)) (add (mul (lit d) (monomial xs (order-eq m n e i))) (poly xs q)))
      by ih Ordering.gt e = ap (add (mul (lit d) (monomial xs n))) ih ∙ add_left_comm (mul (lit d) (monomial xs n)) (add (mul (lit c) (monomial xs m)) (poly xs p)) (poly xs q)

  scale-poly : (xs : List Carrier) (c : ℤ) (m : List ℕ) (p : Poly) → poly xs (scale c m p) ≡ mul (mul (lit c) (monomial xs m)) (poly xs p)
  scale-poly xs c m nil = sym (mul-zero (mul (lit c) (monomial xs m)))
  scale-poly xs c m (term d n p) =
      (λ i. add (mul (lit-mul c d i) (join-monomial xs m n i)) (scale-poly xs c m p i))
      ∙ ap (λ x. add x (mul (mul (lit c) (monomial xs m)) (poly xs p))) (cross (lit c) (lit d) (monomial xs m) (monomial xs n))
      ∙ sym (mul-add (mul (lit c) (monomial xs m)) (mul (lit d) (monomial xs n)) (poly xs p))

  plus-poly : (xs : List Carrier) (p q : Poly) → poly xs (plus p q) ≡ add (poly xs p) (poly xs q)
  plus-poly xs nil q = sym (zero-add (poly xs q))
  plus-poly xs (term c m p) q = plus_into-poly xs c m p (λ r. plus p r) (λ r. plus-poly xs p r) q

  times-poly : (xs : List Carrier) (p q : Poly) → poly xs (times p q) ≡ mul (poly xs p) (poly xs q)
  times-poly xs nil q = sym (zero-mul (poly xs q))
  times-poly xs (term c m p) q = plus-poly xs (scale c m q) (times p q) ∙ (λ i. add (scale-poly xs c m q i) (times-poly xs p q i)) ∙ sym (add-mul (mul (lit c) (monomial xs m)) (poly xs p) (poly xs q))

  pub norm-poly : (xs : List Carrier) (a : Expr) → poly xs (norm a) ≡ eval xs a
  norm-poly xs (var i) = add_zero (mul (lit (pos 1)) (mul (get xs i) (lit (pos 1)))) ∙ one-mul (mul (get xs i) (lit (pos 1))) ∙ mul_one (get xs i)
  norm-poly xs (con c) = put-poly xs c [] nil ∙ add_zero (mul (lit c) (lit (pos 1))) ∙ mul_one (lit c)
  norm-poly xs (a ⊕ b) = plus-poly xs (norm a) (norm b) ∙ (λ i. add (norm-poly xs a i) (norm-poly xs b i))
  norm-poly xs (a ⊗ b) = times-poly xs (norm a) (norm b) ∙ (λ i. mul (norm-poly xs a i) (norm-poly xs b i))
  norm-poly xs (⊝ a) = scale-poly xs (negsuc 0) [] (norm a) ∙ (λ i. mul (mul_one (lit (negsuc 0)) i) (norm-poly xs a i)) ∙ sym (neg_is (eval xs a))

  nil-poly : (xs : List Carrier) (p : Poly) → T (is_nil p) → poly xs p ≡ lit (pos 0)
  nil-poly xs nil t = refl
  nil-poly xs (term c m p) t = absurd t

  pub ring : (xs : List Carrier) (a b : Expr) → T (agree a b) → eval xs a ≡ eval xs b
  ring xs a b t = same_of_zero (eval xs a) (eval xs b) (sym (norm-poly xs (a ⊖ b)) ∙ nil-poly xs (norm (a ⊖ b)) t)

-- ---- a value read as an expression over the values xs
pub data Among {A : Type 0} : List A → A → Type 0 where
  first : {x : A} {xs : List A} → Among (x ∷ xs) x
  later : {x y : A} {xs : List A} → Among xs x → Among (y ∷ xs) x

abbrev pub index : {A : Type 0} {xs : List A} {x : A} → Among xs x → ℕ
index first = zero
index (later p) = suc (index p)

pub record Read (R : Ring) (xs : List R.Carrier) (x : R.Carrier) : Type 0 where
  pub as_expr : Expr
  pub is : eval R xs as_expr ≡ x

pub get-index : (R : Ring) {xs : List R.Carrier} {x : R.Carrier} (p : Among xs x) → get R xs (index p) ≡ x
get-index R first = refl
get-index R (later p) = get-index R p

module _ (R : Ring) {xs : List R.Carrier} where
  abbrev pub read_var : {x : R.Carrier} → Among xs x → Read R xs x
  read_var p = record { as_expr = var (index p); is = get-index R p }

  abbrev pub read_lit : (z : ℤ) → Read R xs (R.lit z)
  read_lit z = record { as_expr = con z; is = refl }

  abbrev pub read_add : {x y : R.Carrier} → Read R xs x → Read R xs y → Read R xs (R.add x y)
  read_add r s = record { as_expr = r.as_expr ⊕ s.as_expr; is = λ i. R.add (r.is i) (s.is i) }

  abbrev pub read_mul : {x y : R.Carrier} → Read R xs x → Read R xs y → Read R xs (R.mul x y)
  read_mul r s = record { as_expr = r.as_expr ⊗ s.as_expr; is = λ i. R.mul (r.is i) (s.is i) }

  abbrev pub read_neg : {x : R.Carrier} → Read R xs x → Read R xs (R.neg x)
  read_neg r = record { as_expr = ⊝ r.as_expr; is = λ i. R.neg (r.is i) }

  pub by_reading : {x y : R.Carrier} (r : Read R xs x) (s : Read R xs y) → T (agree r.as_expr s.as_expr) → x ≡ y
  by_reading r s t = sym r.is ∙ ring R xs r.as_expr s.as_expr t ∙ s.is

-- ---- an equation from others: where s ≡ t is known, l ≡ r follows from l + k t ≡ r + k s
module _ (R : Ring) where
  open R use {Carrier, lit, add, mul, neg, add_comm, add_assoc, add_zero, add_neg}

  pub add_right_cancel : (a b c : Carrier) → add a c ≡ add b c → a ≡ b
  add_right_cancel a b c e =
      sym (add_zero a) ∙ ap (add a) (sym (add_neg c)) ∙ sym (add_assoc a c (neg c)) ∙ ap (λ x. add x (neg c)) e ∙ add_assoc b c (neg c) ∙ ap (add b) (add_neg c) ∙ add_zero b

  pub from_one : {l r s t : Carrier} (k : Carrier) → s ≡ t → add l (mul k t) ≡ add r (mul k s) → l ≡ r
  from_one {l} {r} {s} {t} k e h = add_right_cancel l r (mul k t) (h ∙ ap (λ x. add r (mul k x)) e)

  pub from_two : {l r s t u v : Carrier} (k m : Carrier) → s ≡ t → u ≡ v → add (add l (mul k t)) (mul m v) ≡ add (add r (mul k s)) (mul m u) → l ≡ r
  from_two {l} {r} {s} {t} {u} {v} k m e f h = from_one k e (from_one m f h)
