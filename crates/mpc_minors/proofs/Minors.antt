-- The determinant of four rows of four numbers, and its minors of three rows.
use Rattle.std.proofs.Common.{◌≡◌, ◌≢◌, ℕ, zero, suc, ◌+◌, ◌*◌, ◌%◌, ◌<◌, cond, eqb, ltb, List, [], ◌∷◌, map, ℤ, pos, refl, sym, ◌∙◌, ap, subst, arith, true, ltb-true, mul-pos}
use Rattle.mpc_exact.specs.Rational.{ℚ, int, ◌<ℚ◌, ◌+ℚ◌, ◌*ℚ◌, neg_ℚ}
use Rattle.mpc_exact.proofs.Ring.{Ring, Expr, var, con, ◌⊕◌, ◌⊖◌, ◌⊗◌, ⊝◌, eval, get, ring, zero-mul}
use Rattle.mpc_exact.proofs.IntRing.{int_ring}
use Rattle.mpc_exact.proofs.Rational.{rational_ring, int-add, int-mul}
use Rattle.mpc_exact.proofs.School.{int-neg}
use Rattle.mpc_exact.proofs.RationalOrder.{positive_int, <ℚ_irrefl}
use Rattle.mpc_space.specs.Total.{unit}

-- ---- as expressions: the numbers of row i and column j of a table
abbrev pub cell : ℕ → ℕ → ℕ → Expr
cell first i j = var (first + (i * 4 + j))

-- the numbers below 4 without one
abbrev pub but : ℕ → ℕ → ℕ
but c i = cond (ltb i c) i (suc i)

abbrev pub minor : (ℕ → ℕ → Expr) → ℕ → ℕ → ℕ → ℕ → ℕ → ℕ → Expr
minor f p q r u v w =
    (f p u ⊗ (f q v ⊗ f r w ⊖ f q w ⊗ f r v) ⊖ f p v ⊗ (f q u ⊗ f r w ⊖ f q w ⊗ f r u)) ⊕ f p w ⊗ (f q u ⊗ f r v ⊖ f q v ⊗ f r u)

abbrev pub signed : ℕ → Expr → Expr
signed n e = cond (eqb (n % 2) 0) e (⊝ e)

abbrev pub cofactor : (ℕ → ℕ → Expr) → ℕ → ℕ → Expr
cofactor f i j = signed (i + j) (minor f (but i 0) (but i 1) (but i 2) (but j 0) (but j 1) (but j 2))

abbrev pub four_of : (ℕ → Expr) → Expr
four_of f = f 0 ⊕ f 1 ⊕ f 2 ⊕ f 3

abbrev pub determinant : (ℕ → ℕ → Expr) → Expr
determinant f = four_of (λ j. f 0 j ⊗ cofactor f 0 j)

-- ---- their values
abbrev pub table : {A : Type 0} → (ℕ → ℕ → A) → List A → List A
table m rest =
    m 0 0 ∷ m 0 1 ∷ m 0 2 ∷ m 0 3 ∷ m 1 0 ∷ m 1 1 ∷ m 1 2 ∷ m 1 3 ∷ m 2 0 ∷ m 2 1 ∷ m 2 2 ∷ m 2 3 ∷ m 3 0 ∷ m 3 1 ∷ m 3 2 ∷ m 3 3 ∷ rest

module _ (R : Ring) where
  open R use {Carrier, add, mul}

  abbrev pub sum_four : (ℕ → Carrier) → Carrier
  sum_four f = add (add (add (f 0) (f 1)) (f 2)) (f 3)

  abbrev pub cofactor_at : (ℕ → ℕ → Carrier) → ℕ → ℕ → Carrier
  cofactor_at m i j = eval R (table m []) (cofactor (cell 0) i j)

  abbrev pub determinant_of : (ℕ → ℕ → Carrier) → Carrier
  determinant_of m = eval R (table m []) (determinant (cell 0))

  -- Cramer's rule
  module _ (m : ℕ → ℕ → Carrier) (x : ℕ → Carrier) where
    values : List Carrier
    values = table m (x 0 ∷ x 1 ∷ x 2 ∷ x 3 ∷ [])

    abbrev left : ℕ → Expr
    left j = determinant (cell 0) ⊗ var (16 + j)

    abbrev right : ℕ → Expr
    right j = four_of (λ i. cofactor (cell 0) i j ⊗ four_of (λ l. cell 0 i l ⊗ var (16 + l)))

    pub cramer : (j : ℕ) → j < 4 → mul (determinant_of m) (x j) ≡ sum_four (λ i. mul (cofactor_at m i j) (sum_four (λ l. mul (m i l) (x l))))
    unfolding values
    cramer zero h = ring R values (left 0) (right 0) tt
    cramer (suc zero) h = ring R values (left 1) (right 1) tt
    cramer (suc (suc zero)) h = ring R values (left 2) (right 2) tt
    cramer (suc (suc (suc zero))) h = ring R values (left 3) (right 3) tt
    cramer (suc (suc (suc (suc j)))) h = absurd (omega arith)

  -- the dots of three of the rows of two tables (Cauchy and Binet)
  module _ (m p : ℕ → ℕ → Carrier) where
    both : List Carrier
    both = table m (table p [])

    dot_of : ℕ → ℕ → Expr
    dot_of i c = four_of (λ l. cell 0 i l ⊗ cell 16 c l)

    abbrev pub dot_at : ℕ → ℕ → Carrier
    dot_at i c = sum_four (λ l. mul (m i l) (p c l))

    pub products : mul (determinant_of m) (determinant_of p) ≡ determinant_of dot_at
    unfolding both dot_of
    products = ring R both (determinant (cell 0) ⊗ determinant (cell 16)) (determinant dot_of) tt

-- ---- whole numbers as fractions
int-get : (xs : List ℤ) (i : ℕ) → int (get int_ring xs i) ≡ get rational_ring (map int xs) i
int-get [] i = refl
int-get (x ∷ xs) zero = refl
int-get (x ∷ xs) (suc i) = int-get xs i

int-eval : (xs : List ℤ) (e : Expr) → int (eval int_ring xs e) ≡ eval rational_ring (map int xs) e
int-eval xs (var i) = int-get xs i
int-eval xs (con c) = refl
int-eval xs (a ⊕ b) = int-add (eval int_ring xs a) (eval int_ring xs b) ∙ (λ t. int-eval xs a t +ℚ int-eval xs b t)
int-eval xs (a ⊗ b) = int-mul (eval int_ring xs a) (eval int_ring xs b) ∙ (λ t. int-eval xs a t *ℚ int-eval xs b t)
int-eval xs (⊝ a) = int-neg (eval int_ring xs a) ∙ ap neg_ℚ (int-eval xs a)

-- ---- dots that are 0, but one with each of four columns
module _ (scale : ℕ → ℚ) where
  scales : List ℚ
  scales = scale 0 ∷ scale 1 ∷ scale 2 ∷ scale 3 ∷ []

  abbrev scaled : ℕ → ℕ → Expr
  scaled i c = var i ⊗ con (cond (eqb i c) (pos 1) (pos 0))

  diagonal : determinant_of rational_ring (λ i c. scale i *ℚ unit i c) ≡ (scale 0 *ℚ scale 1) *ℚ (scale 2 *ℚ scale 3)
  unfolding scales unit
  diagonal = ring rational_ring scales (determinant scaled) ((var 0 ⊗ var 1) ⊗ (var 2 ⊗ var 3)) tt

  module _ (f : ℕ → ℚ) where
    terms : List ℚ
    terms = scale 0 ∷ scale 1 ∷ scale 2 ∷ scale 3 ∷ f 0 ∷ f 1 ∷ f 2 ∷ f 3 ∷ []

    abbrev sum_to : ℕ → Expr
    sum_to c = four_of (λ i. var (4 + i) ⊗ scaled i c)

    one_left : (c : ℕ) → c < 4 → sum_four rational_ring (λ i. f i *ℚ (scale i *ℚ unit i c)) ≡ f c *ℚ scale c
    unfolding terms unit
    one_left zero h = ring rational_ring terms (sum_to 0) (var 4 ⊗ var 0) tt
    one_left (suc zero) h = ring rational_ring terms (sum_to 1) (var 5 ⊗ var 1) tt
    one_left (suc (suc zero)) h = ring rational_ring terms (sum_to 2) (var 6 ⊗ var 2) tt
    one_left (suc (suc (suc zero))) h = ring rational_ring terms (sum_to 3) (var 7 ⊗ var 3) tt
    one_left (suc (suc (suc (suc c)))) h = absurd (omega arith)

module _ (m : ℕ → ℕ → ℤ) (x : ℕ → ℕ → ℚ) (k : ℕ → ℕ) (some : (c : ℕ) → c < 4 → 0 < k c)
    (dots : (i c : ℕ) → i < 4 → c < 4 → sum_four rational_ring (λ l. int (m i l) *ℚ x c l) ≡ int (pos (k i)) *ℚ unit i c) where
  abbrev fractions : ℕ → ℕ → ℚ
  fractions i l = int (m i l)

  abbrev wanted : ℕ → ℕ → ℚ
  wanted i c = int (pos (k i)) *ℚ unit i c

  product : ℕ
  product = (k 0 * k 1) * (k 2 * k 3)

  product_some : 0 < product
  unfolding product
  product_some = mul-pos (mul-pos (some 0 (omega arith)) (some 1 (omega arith))) (mul-pos (some 2 (omega arith)) (some 3 (omega arith)))

  product_is : (int (pos (k 0)) *ℚ int (pos (k 1))) *ℚ (int (pos (k 2)) *ℚ int (pos (k 3))) ≡ int (pos product)
  unfolding product
  product_is = sym (int-mul (pos (k 0 * k 1)) (pos (k 2 * k 3)) ∙ (λ t. int-mul (pos (k 0)) (pos (k 1)) t *ℚ int-mul (pos (k 2)) (pos (k 3)) t))

  at : (i c : ℕ) → ltb i 4 ≡ true → ltb c 4 ≡ true → dot_at rational_ring fractions x i c ≡ wanted i c
  at i c h l = dots i c (ltb-true i 4 h) (ltb-true c 4 l)

  as_wanted : determinant_of rational_ring (dot_at rational_ring fractions x) ≡ determinant_of rational_ring wanted
  as_wanted = ap (λ xs. eval rational_ring xs (determinant (cell 0)))
      (λ t. at 0 0 refl refl t ∷ at 0 1 refl refl t ∷ at 0 2 refl refl t ∷ at 0 3 refl refl t ∷ at 1 0 refl refl t ∷ at 1 1 refl refl t ∷ at 1 2 refl refl t ∷ at 1 3 refl refl t ∷ at 2 0 refl refl t ∷ at 2 1 refl refl t ∷ at 2 2 refl refl t ∷ at 2 3 refl refl t ∷ at 3 0 refl refl t ∷ at 3 1 refl refl t ∷ at 3 2 refl refl t ∷ at 3 3 refl refl t ∷ [])

  pub determinant_some : determinant_of int_ring m ≢ pos 0
  determinant_some e =
      let whole : determinant_of rational_ring fractions *ℚ determinant_of rational_ring x ≡ int (pos product) = products rational_ring fractions x ∙ as_wanted ∙ diagonal (λ i. int (pos (k i))) ∙ product_is in
      let zero : int (pos 0) ≡ int (pos product) = sym (zero-mul rational_ring (determinant_of rational_ring x)) ∙ ap (λ u. u *ℚ determinant_of rational_ring x) (sym (ap int e) ∙ int-eval (table m []) (determinant (cell 0))) ∙ whole in
      <ℚ_irrefl (subst (λ u. int (pos 0) <ℚ u) (sym zero) (positive_int product product_some))

  -- the fractions are cofactors over the determinant
  pub solved : (j c : ℕ) → j < 4 → c < 4 → int (determinant_of int_ring m) *ℚ x c j ≡ int (cofactor_at int_ring m c j) *ℚ int (pos (k c))
  solved j c h l =
      ap (λ u. u *ℚ x c j) (int-eval (table m []) (determinant (cell 0)))
      ∙ cramer rational_ring fractions (x c) j h
      ∙ (λ t. f 0 *ℚ d 0 refl t +ℚ f 1 *ℚ d 1 refl t +ℚ f 2 *ℚ d 2 refl t +ℚ f 3 *ℚ d 3 refl t)
      ∙ one_left (λ i. int (pos (k i))) f c l
      ∙ ap (λ u. u *ℚ int (pos (k c))) (sym (int-eval (table m []) (cofactor (cell 0) c j)))
    where
      f : ℕ → ℚ
      f i = cofactor_at rational_ring fractions i j

      d : (i : ℕ) → ltb i 4 ≡ true → dot_at rational_ring fractions x i c ≡ wanted i c
      d i b = dots i c (ltb-true i 4 b) l
