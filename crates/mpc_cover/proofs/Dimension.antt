-- Independent rows of n entries are at most n: one row with an entry in the first column clears this column from the others, which stay independent.
use Rattle.std.proofs.Common.{◌≡◌, ◌≢◌, ℕ, zero, suc, ◌≤◌, List, [], ◌∷◌, length, map, pos, negsuc, refl, sym, ◌∙◌, ap, subst, arith, ◌⊎◌, inl, inr}
use Rattle.std.specs.List.{AllByRecursion}
use Rattle.std.proofs.lemmas.List.{length-map, length-replicate}
use Rattle.mpc_exact.specs.Rational.{ℚ, int, ◌+ℚ◌, ◌*ℚ◌, ◌/ℚ◌, neg_ℚ, inv_ℚ}
use Rattle.mpc_exact.proofs.RationalRing.{reads, by_ring, by_equation, by_equations}
use Rattle.mpc_exact.proofs.RationalField.{ℚ_discrete}
use Rattle.mpc_exact.proofs.OrderTheorems.{one-not_zero, *ℚ-/ℚ}
use Rattle.mpc_space.specs.Vector.{coordinate, zeros, column, dot, vec_add, vec_scale, mat_vec, vec_mat, later_entries, IsZero, IsIndependent}
use Rattle.mpc_space.proofs.Entries.{coordinate-add, coordinate-scale, length-add_within, length-scale, zeros_zero, zero_entries, zero_by_entries, zero_by_dots, dot-zero, dot_nil}
use Rattle.mpc_space.proofs.Matrix.{dot-vec_mat, coordinate-vec_mat}
use Rattle.mpc_cover.proofs.Systems.{dot_combination, dot_along}

-- ---- a row put among others
pub put {ℓ} : {A : Type ℓ} → ℕ → A → List A → List A
put zero x ys = x ∷ ys
put (suc k) x [] = x ∷ []
put (suc k) x (y ∷ ys) = y ∷ put k x ys

pub length-put {ℓ} : {A : Type ℓ} (k : ℕ) (x : A) (ys : List A) → length (put k x ys) ≡ suc (length ys)
unfolding put
length-put zero x ys = refl
length-put (suc k) x [] = refl
length-put (suc k) x (y ∷ ys) = ap suc (length-put k x ys)

exchange : (a b c : ℚ) → a +ℚ (b +ℚ c) ≡ b +ℚ (a +ℚ c)
exchange a b c = by_ring (a ∷ b ∷ c ∷ []) (search reads depth 30) (search reads depth 30) tt

dot_put : (y : List ℚ) (k : ℕ) (c : ℚ) (cs row : List ℚ) (rows : List (List ℚ)) → length cs ≡ length rows → dot y (vec_mat (put k c cs) (put k row rows)) ≡ c *ℚ dot y row +ℚ dot y (vec_mat cs rows)
unfolding put
dot_put y zero c cs row rows e = dot_combination y c cs row rows
dot_put y (suc k) c [] row [] e = dot_combination y c [] row []
dot_put y (suc k) c [] row (r ∷ rows) e = absurd (omega arith)
dot_put y (suc k) c (d ∷ cs) row [] e = absurd (omega arith)
dot_put y (suc k) c (d ∷ cs) row (r ∷ rows) e =
    dot_combination y d (put k c cs) r (put k row rows) ∙ ap (λ u. d *ℚ dot y r +ℚ u) (dot_put y k c cs row rows (omega arith))
    ∙ exchange (d *ℚ dot y r) (c *ℚ dot y row) (dot y (vec_mat cs rows)) ∙ ap (λ u. c *ℚ dot y row +ℚ u) (sym (dot_combination y d cs r rows))

zero_put : (k : ℕ) (c : ℚ) (cs : List ℚ) → IsZero (put k c cs) → IsZero (c ∷ cs)
unfolding put
zero_put zero c cs h = h
zero_put (suc k) c [] h = h
zero_put (suc k) c (d ∷ cs) h = let rest = zero_put k c cs h.1 in (rest.0, (h.0, rest.1))

all_put : (P : List ℚ → Type 0) (k : ℕ) (row : List ℚ) (rows : List (List ℚ)) → AllByRecursion P (put k row rows) → P row × AllByRecursion P rows
unfolding put
all_put P zero row rows h = h
all_put P (suc k) row [] h = h
all_put P (suc k) row (r ∷ rows) h = let rest = all_put P k row rows h.1 in (rest.0, (h.0, rest.1))

taken_out : (k : ℕ) (row : List ℚ) (rows : List (List ℚ)) → IsIndependent (put k row rows) → IsIndependent (row ∷ rows)
taken_out k row rows i = record { only_zero = each }
  where
    each : (factors : List ℚ) → length factors ≡ length (row ∷ rows) → IsZero (vec_mat factors (row ∷ rows)) → IsZero factors
    each [] e z = absurd (omega arith)
    each (c ∷ cs) e z =
        zero_put k c cs (i.only_zero (put k c cs) (length-put k c cs ∙ e ∙ sym (length-put k row rows))
        (zero_by_dots (vec_mat (put k c cs) (put k row rows)) (λ y.
        dot_put y k c cs row rows (omega arith) ∙ sym (dot_combination y c cs row rows) ∙ dot-zero y (vec_mat (c ∷ cs) (row ∷ rows)) z)))

-- ---- the first column
abbrev NoFirst : List (List ℚ) → Type 0
NoFirst rows = AllByRecursion (λ row. coordinate row 0 ≡ int (pos 0)) rows

record Pivot (rows : List (List ℚ)) : Type 0 where
  pub place : ℕ
  pub row : List ℚ
  pub others : List (List ℚ)
  pub is : rows ≡ put place row others
  pub some : coordinate row 0 ≢ int (pos 0)

pivot_or_none : (rows : List (List ℚ)) → NoFirst rows ⊎ Pivot rows
unfolding put
pivot_or_none [] = inl tt
pivot_or_none (r ∷ rows) = by (ℚ_discrete (coordinate r 0) (int (pos 0))) (pivot_or_none rows)
  where
    by : Dec (coordinate r 0 ≡ int (pos 0)) → NoFirst rows ⊎ Pivot rows → NoFirst (r ∷ rows) ⊎ Pivot (r ∷ rows)
    by (yes e) (inl h) = inl (e, h)
    by (yes e) (inr p) = inr (record { place = suc p.place; row = p.row; others = r ∷ p.others; is = ap (λ u. r ∷ u) p.is; some = p.some })
    by (no h) o = inr (record { place = 0; row = r; others = rows; is = refl; some = h })

-- rows without an entry in the first column are those of their later entries
column_later : (rows : List (List ℚ)) (j : ℕ) → column rows (suc j) ≡ column (map later_entries rows) j
column_later [] j = refl
column_later ([] ∷ rows) j = λ i. int (pos 0) ∷ column_later rows j i
column_later ((x ∷ row) ∷ rows) j = λ i. coordinate row j ∷ column_later rows j i

column_zero : (rows : List (List ℚ)) → NoFirst rows → IsZero (column rows 0)
column_zero [] h = tt
column_zero (row ∷ rows) h = (h.0, column_zero rows h.1)

later_zero : (cs : List ℚ) (rows : List (List ℚ)) → NoFirst rows → IsZero (vec_mat cs (map later_entries rows)) → IsZero (vec_mat cs rows)
later_zero cs rows h z = zero_by_entries (vec_mat cs rows) (λ i _. at i)
  where
    at : (i : ℕ) → coordinate (vec_mat cs rows) i ≡ int (pos 0)
    at zero = coordinate-vec_mat cs rows 0 ∙ dot-zero cs (column rows 0) (column_zero rows h)
    at (suc j) =
        coordinate-vec_mat cs rows (suc j) ∙ ap (dot cs) (column_later rows j) ∙ sym (coordinate-vec_mat cs (map later_entries rows) j)
        ∙ zero_entries (vec_mat cs (map later_entries rows)) z j

later_entries_independent : (rows : List (List ℚ)) → NoFirst rows → IsIndependent rows → IsIndependent (map later_entries rows)
later_entries_independent rows h i = record { only_zero = λ cs e z. i.only_zero cs (e ∙ length-map rows later_entries) (later_zero cs rows h z) }

length-later : (n : ℕ) (row : List ℚ) → length row ≤ suc n → length (later_entries row) ≤ n
length-later n [] h = omega arith
length-later n (x ∷ row) h = omega arith

lengths_later : (n : ℕ) (rows : List (List ℚ)) → AllByRecursion (λ row. length row ≤ suc n) rows → AllByRecursion (λ row. length row ≤ n) (map later_entries rows)
lengths_later n [] h = tt
lengths_later n (row ∷ rows) h = (length-later n row h.0, lengths_later n rows h.1)

-- ---- a row clears the first column of the others
module _ (pivot : List ℚ) (some : coordinate pivot 0 ≢ int (pos 0)) where
  share : List ℚ → ℚ
  share row = neg_ℚ (coordinate row 0 /ℚ coordinate pivot 0)

  cleared : List ℚ → List ℚ
  cleared row = vec_add row (vec_scale (share row) pivot)

  vanishes : (x p : ℚ) → p ≢ int (pos 0) → x +ℚ neg_ℚ (x /ℚ p) *ℚ p ≡ int (pos 0)
  vanishes x p h = by_equation (int (negsuc 0)) (*ℚ-/ℚ x p h) (by_ring (x ∷ p ∷ inv_ℚ p ∷ []) (search reads depth 30) (search reads depth 30) tt)

  cleared_first : (rows : List (List ℚ)) → NoFirst (map cleared rows)
  unfolding cleared share
  cleared_first [] = tt
  cleared_first (row ∷ rows) = (
    coordinate-add row (vec_scale (share row) pivot) 0 ∙ ap (λ u. coordinate row 0 +ℚ u) (coordinate-scale (share row) pivot 0) ∙ vanishes (coordinate row 0) (coordinate pivot 0) some,
    cleared_first rows,
  )

  shares : List ℚ → List (List ℚ) → ℚ
  shares [] rows = int (pos 0)
  shares (c ∷ cs) [] = int (pos 0)
  shares (c ∷ cs) (row ∷ rows) = c *ℚ share row +ℚ shares cs rows

  nothing : (x : ℚ) → int (pos 0) ≡ int (pos 0) *ℚ x +ℚ int (pos 0)
  nothing x = by_ring (x ∷ []) (search reads depth 30) (search reads depth 30) tt

  spread : (c r s p ss rs : ℚ) → c *ℚ (r +ℚ s *ℚ p) +ℚ (ss *ℚ p +ℚ rs) ≡ (c *ℚ s +ℚ ss) *ℚ p +ℚ (c *ℚ r +ℚ rs)
  spread c r s p ss rs = by_ring (c ∷ r ∷ s ∷ p ∷ ss ∷ rs ∷ []) (search reads depth 30) (search reads depth 30) tt

  dot_cleared : (y cs : List ℚ) (rows : List (List ℚ)) → dot y (vec_mat cs (map cleared rows)) ≡ shares cs rows *ℚ dot y pivot +ℚ dot y (vec_mat cs rows)
  unfolding cleared shares
  dot_cleared y [] rows = dot_nil y ∙ nothing (dot y pivot) ∙ ap (λ u. int (pos 0) *ℚ dot y pivot +ℚ u) (sym (dot_nil y))
  dot_cleared y (c ∷ cs) [] = dot_nil y ∙ nothing (dot y pivot) ∙ ap (λ u. int (pos 0) *ℚ dot y pivot +ℚ u) (sym (dot_nil y))
  dot_cleared y (c ∷ cs) (row ∷ rows) =
      dot_combination y c cs (cleared row) (map cleared rows)
      ∙ (λ i. c *ℚ dot_along y row pivot (share row) i +ℚ dot_cleared y cs rows i)
      ∙ spread c (dot y row) (share row) (dot y pivot) (shares cs rows) (dot y (vec_mat cs rows))
      ∙ ap (λ u. (c *ℚ share row +ℚ shares cs rows) *ℚ dot y pivot +ℚ u) (sym (dot_combination y c cs row rows))

  cleared_independent : (rows : List (List ℚ)) → IsIndependent (pivot ∷ rows) → IsIndependent (map cleared rows)
  cleared_independent rows i = record {
    only_zero = λ cs e z. (i.only_zero (shares cs rows ∷ cs) (ap suc (e ∙ length-map rows cleared))
        (zero_by_dots (vec_mat (shares cs rows ∷ cs) (pivot ∷ rows)) (λ y.
        dot_combination y (shares cs rows) cs pivot rows ∙ sym (dot_cleared y cs rows) ∙ dot-zero y (vec_mat cs (map cleared rows)) z))).1;
  }

  lengths_cleared : (n : ℕ) → length pivot ≤ n → (rows : List (List ℚ)) → AllByRecursion (λ row. length row ≤ n) rows → AllByRecursion (λ row. length row ≤ n) (map cleared rows)
  unfolding cleared
  lengths_cleared n p [] h = tt
  lengths_cleared n p (row ∷ rows) h =
      (length-add_within n row (vec_scale (share row) pivot) h.0 (omega (arith, length-scale (share row) pivot, p)), lengths_cleared n p rows h.1)

-- ---- rows without entries
empty_row : (row : List ℚ) (rows : List (List ℚ)) → length row ≤ 0 → IsIndependent (row ∷ rows) → ⊥
empty_row [] rows h i =
    one-not_zero (i.only_zero (int (pos 1) ∷ zeros (length rows)) (ap suc (length-replicate (length rows) (int (pos 0))))
    (zero_by_dots (vec_mat (int (pos 1) ∷ zeros (length rows)) ([] ∷ rows)) (λ y.
    dot_combination y (int (pos 1)) (zeros (length rows)) [] rows
    ∙ by_equations (int (pos 1)) (int (pos 1)) (dot_nil y) (sym (dot-vec_mat rows y (zeros (length rows))) ∙ dot-zero (mat_vec rows y) (zeros (length rows)) (zeros_zero (length rows)))
    (by_ring (dot y [] ∷ dot y (vec_mat (zeros (length rows)) rows) ∷ []) (search reads depth 30) (search reads depth 30) tt)))).0
empty_row (x ∷ row) rows h i = absurd (omega arith)

pub at_most_dimension : (n : ℕ) (rows : List (List ℚ)) → AllByRecursion (λ row. length row ≤ n) rows → IsIndependent rows → length rows ≤ n
at_most_dimension zero [] h i = omega arith
at_most_dimension zero (row ∷ rows) h i = absurd (empty_row row rows h.0 i)
at_most_dimension (suc n) rows h i = by (pivot_or_none rows) (at_most_dimension n)
  where
    by : NoFirst rows ⊎ Pivot rows → ((fewer : List (List ℚ)) → AllByRecursion (λ row. length row ≤ n) fewer → IsIndependent fewer → length fewer ≤ n) → length rows ≤ suc n
    by (inl none) less = let l = less (map later_entries rows) (lengths_later n rows h) (later_entries_independent rows none i) in omega (arith, l, length-map rows later_entries)
    by (inr p) less =
        let size = all_put (λ row. length row ≤ suc n) p.place p.row p.others (subst (AllByRecursion (λ row. length row ≤ suc n)) p.is h) in
        let rest = map (cleared p.row p.some) p.others in
        let free = cleared_independent p.row p.some p.others (taken_out p.place p.row p.others (subst IsIndependent p.is i)) in
        let l = less (map later_entries rest) (lengths_later n rest (lengths_cleared p.row p.some (suc n) size.0 p.others size.1)) (later_entries_independent rest (cleared_first p.row p.some p.others) free) in
        omega (arith, l, length-map rest later_entries, length-map p.others (cleared p.row p.some), length-put p.place p.row p.others, ap length p.is)
