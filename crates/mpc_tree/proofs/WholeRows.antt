-- The rows of a law, from whole numbers over one denominator for each matrix.
use Rattle.std.proofs.Common.{◌≡◌, ℕ, suc, ◌+◌, ◌-◌, ◌^◌, ◌<◌, ◌≤◌, ◌||◌, false, List, [], ◌∷◌, ◌++◌, length, map, get_or, Contains, ℤ, pos, negsuc, ◌+ℤ◌, ◌*ℤ◌, neg_ℤ, unsigned_abs, to_z, of_z, Option, Some, None, IfSome, refl, sym, ◌∙◌, ap, subst, arith, ⊎_elim, zero-lt-suc, ne_eqb}
use Rattle.std.proofs.lemmas.Bool.{cases_eq}
use Rattle.std.specs.Int.{w64, w128}
use Rattle.std.proofs.lemmas.Int.{fits_signed_from_abs, to_z-of_z}
use Rattle.std.proofs.lemmas.List.{length-append, length-map, get_or-map, get_or_append_left}
use Rattle.std.proofs.lemmas.List.Elements.{All-nil, All-push, All-get_or, All-from_get_or}
use Rattle.std.proofs.Math.Seq.{get_or-append_seam}
use Rattle.mpc_exact.specs.Rational.{ℚ, int, ◌+ℚ◌, ◌*ℚ◌, neg_ℚ, IsPositive}
use Rattle.mpc_exact.proofs.Rational.{int-add, int-mul}
use Rattle.mpc_exact.proofs.RationalRing.{reads, by_ring}
use Rattle.mpc_exact.proofs.RationalOrder.{positive_int, positive-mul}
use Rattle.mpc_exact.proofs.School.{frac_times, int-neg}
use Rattle.mpc_space.specs.Vector.{coordinate, column, dot, vec_scale}
use Rattle.mpc_space.specs.Matrix.{RationalMatrix, height, entry}
use Rattle.mpc_space.specs.Total.{total}
use Rattle.mpc_space.proofs.Entries.{same_entries, coordinate-scale, coordinate-listed, length-scale, dot-total_within}
use Rattle.mpc_space.proofs.Matrix.{coordinate-column}
use Rattle.mpc_space.proofs.Total.{total-suc, total-same, total-scale}
use Rattle.mpc_space.proofs.Words.{read_back}
use Rattle.mpc_linear.specs.declared.integers.RowInt.{RowInt}
use Rattle.mpc_linear.specs.Elimination.{Table}
use Rattle.mpc_linear.specs.Whole.{IsScaledRow, IsPrimitive, AreSmall}
use Rattle.mpc_rows.specs.declared.programs.Qp.{Qp}
use Rattle.mpc_rows.specs.declared.laws.Law.{Law}
use Rattle.mpc_rows.specs.ActiveSets.{row_of}
use Rattle.mpc_rows.specs.Laws.{HasLawShape}
use Rattle.mpc_rows.specs.LawRows.{is_member, excess_form, member_form, law_form, law_sides, law_bound, AreLawRows}
use Rattle.mpc_rows.specs.LawTheorems.{LawRowSize, FormTheorems}
use Rattle.mpc_sweep.specs.declared.numbers.Swept.{Swept}
use Rattle.mpc_sweep.specs.Sweeps.{swept}
use Rattle.mpc_sweep.specs.Numbers.{number}
use Rattle.mpc_systems.specs.Writing.{IsOfSize, AreOfSize}
use Rattle.mpc_tree.specs.declared.rows.RowNumbers.{RowNumbers}
use Rattle.mpc_tree.specs.declared.rows.LawNumbers.{LawNumbers}
use Rattle.mpc_tree.specs.WholeRows.{IsRead, AreRowNumbers, AreLawNumbers, all_dens, IsExcess, AreSides, IsPlainRow}

-- ---- numbers and sums of products
pub read64 : (z : ℤ) → unsigned_abs z ≤ 2 ^ 62 → to_z w64 (of_z w64 z) ≡ z
read64 z h = to_z-of_z w64 z (fits_signed_from_abs w64 z (omega arith))

pub read_wide : (z : ℤ) → unsigned_abs z ≤ 2 ^ 62 → to_z w128 (of_z w128 (to_z w64 (of_z w64 z))) ≡ z
read_wide z h = ap (λ y. to_z w128 (of_z w128 y)) (read64 z h) ∙ read_back z (omega arith)

pub small64 : (z : ℤ) → unsigned_abs z ≤ 2 ^ 62 → unsigned_abs (to_z w64 (of_z w64 z)) ≤ 2 ^ 62
small64 z h = subst (λ y. unsigned_abs y ≤ 2 ^ 62) (sym (read64 z h)) h

swept_none : (t : Table) (i j : ℕ) → swept t [] i j ≡ t i j
unfolding swept
swept_none t i j = refl

read_number : (m : RationalMatrix) (s : Swept) → IsRead m s → (i j : ℕ) → i < height m → j < m.columns → int (number s i j) ≡ int (pos s.den) *ℚ entry m i j
read_number m s r i j h l = sym (frac_times (number s i j) s.den r.table.some_den) ∙ ap (λ x. int (pos s.den) *ℚ x) (sym (r.entries i j h (omega arith) l) ∙ swept_none (entry m) i j)

pub sum_more : (g m : Swept) (i j k : ℕ) (sum next x y : ℤ) → x ≡ number g i k → y ≡ number m k j → next ≡ sum +ℤ (x *ℤ y) → int sum ≡ total k (λ k. int (number g i k) *ℚ int (number m k j)) → int next ≡ total (k + 1) (λ k. int (number g i k) *ℚ int (number m k j))
sum_more g m i j k sum next x y ex ey e so =
    ap int e ∙ int-add sum (x *ℤ y) ∙ (λ u. so u +ℚ (int-mul x y ∙ (λ v. int (ex v) *ℚ int (ey v))) u)
    ∙ sym (total-suc k (λ k. int (number g i k) *ℚ int (number m k j))) ∙ ap (λ n. total n (λ k. int (number g i k) *ℚ int (number m k j))) (omega arith)

-- that sum is the one of the products of the entries, times both denominators
sum_scaled : (a b : RationalMatrix) (g m : Swept) → IsRead a g → IsRead b m → (i j n : ℕ) → i < height a → j < b.columns → n ≤ a.columns → n ≤ height b
    → total n (λ k. int (number g i k) *ℚ int (number m k j)) ≡ (int (pos g.den) *ℚ int (pos m.den)) *ℚ total n (λ k. entry a i k *ℚ entry b k j)
sum_scaled a b g m left right i j n h l p q =
    total-same n (λ k. int (number g i k) *ℚ int (number m k j)) (λ k. (int (pos g.den) *ℚ int (pos m.den)) *ℚ (entry a i k *ℚ entry b k j))
    (λ k f. (λ u. read_number a g left i k h (omega arith) u *ℚ read_number b m right k j (omega arith) l u) ∙ paired (int (pos g.den)) (entry a i k) (int (pos m.den)) (entry b k j))
    ∙ total-scale n (int (pos g.den) *ℚ int (pos m.den)) (λ k. entry a i k *ℚ entry b k j)
  where
    paired : (a x b y : ℚ) → (a *ℚ x) *ℚ (b *ℚ y) ≡ (a *ℚ b) *ℚ (x *ℚ y)
    paired a x b y = by_ring (a ∷ x ∷ b ∷ y ∷ []) (search reads depth 30) (search reads depth 30) tt

-- ---- one coefficient
module _ (qp : Qp) (law : Law) (i j : ℕ) (shape : HasLawShape qp law) (from_one : 1 ≤ i) (to_last : i ≤ height qp.g) (within : j < law.moves.columns) where
  row_size : length (row_of qp.g.rows i) ≡ qp.g.columns
  row_size = All-get_or (λ row. length row ≡ qp.g.columns) qp.g.rows (i - 1) [] (omega arith) qp.is_program.g_shape.rectangular

  excess_is : coordinate (excess_form qp law i) j ≡ neg_ℚ (entry qp.w (i - 1) j) +ℚ total qp.g.columns (λ k. entry qp.g (i - 1) k *ℚ entry law.moves k j)
  excess_is =
      coordinate-listed (length qp.counts + 1) (λ m. neg_ℚ (coordinate (row_of qp.w.rows i) m) +ℚ dot (row_of qp.g.rows i) (column law.moves.rows m)) j (subst (λ n. j < n) shape.moves_shape.columns_are within)
      ∙ ap (λ x. neg_ℚ (entry qp.w (i - 1) j) +ℚ x)
      (dot-total_within qp.g.columns (row_of qp.g.rows i) (column law.moves.rows j) (omega (arith, row_size))
      ∙ total-same qp.g.columns (λ k. coordinate (row_of qp.g.rows i) k *ℚ coordinate (column law.moves.rows j) k) (λ k. entry qp.g (i - 1) k *ℚ entry law.moves k j)
      (λ k h. ap (λ x. entry qp.g (i - 1) k *ℚ x) (coordinate-column law.moves.rows k j)))

  module _ (n : RowNumbers) (l : LawNumbers) (rows : AreRowNumbers qp n) (unknowns : AreLawNumbers law n l) where
    excess_made : (sum by left at z : ℤ) → int sum ≡ total qp.g.columns (λ k. int (number n.g (i - 1) k) *ℚ int (number l.moves k j)) → by ≡ pos n.w.den → left ≡ pos 0 +ℤ (sum *ℤ by) → at ≡ number n.w (i - 1) j → z ≡ left +ℤ (at *ℤ l.against)
        → IsExcess qp law n l i j z
    excess_made sum by left at z s b f a e =
        let w = int (pos n.w.den) in
        let g = int (pos n.g.den) in
        let m = int (pos l.moves.den) in
        let all : ℚ = total qp.g.columns (λ k. entry qp.g (i - 1) k *ℚ entry law.moves k j) in
        let unknowns_are : qp.g.columns ≡ height law.moves = qp.is_program.g_shape.columns_are ∙ sym shape.moves_shape.rows_are in
        let columns_are : law.moves.columns ≡ qp.w.columns = shape.moves_shape.columns_are ∙ sym qp.is_program.w_shape.columns_are in
        let sum_is : int sum ≡ (g *ℚ m) *ℚ all = s ∙ sum_scaled qp.g law.moves n.g l.moves rows.left unknowns.moves (i - 1) j qp.g.columns (omega arith) within (omega arith) (omega (arith, unknowns_are)) in
        let left_is : int left ≡ int (pos 0) +ℚ ((g *ℚ m) *ℚ all) *ℚ w = ap int f ∙ int-add (pos 0) (sum *ℤ by) ∙ ap (λ x. int (pos 0) +ℚ x) (int-mul sum by ∙ (λ u. sum_is u *ℚ int (b u))) in
        let at_is : int at ≡ w *ℚ entry qp.w (i - 1) j = ap int a ∙ read_number qp.w n.w rows.right (i - 1) j (let e = qp.is_program.w_shape.rows_are in omega arith) (subst (λ c. j < c) columns_are within) in
        let against_is : int l.against ≡ g *ℚ neg_ℚ m = ap int unknowns.against ∙ int-mul (pos n.g.den) (neg_ℤ (pos l.moves.den)) ∙ ap (λ x. g *ℚ x) (int-neg (pos l.moves.den)) in
        ap int e ∙ int-add left (at *ℤ l.against) ∙ (λ u. left_is u +ℚ (int-mul at l.against ∙ (λ v. at_is v *ℚ against_is v)) u)
        ∙ gathered w g m (entry qp.w (i - 1) j) all ∙ ap (λ x. all_dens n l *ℚ x) (sym excess_is)
      where
        gathered : (w g m x all : ℚ) → (int (pos 0) +ℚ ((g *ℚ m) *ℚ all) *ℚ w) +ℚ ((w *ℚ x) *ℚ (g *ℚ neg_ℚ m)) ≡ (w *ℚ (g *ℚ m)) *ℚ (neg_ℚ x +ℚ all)
        gathered w g m x all = by_ring (w ∷ g ∷ m ∷ x ∷ all ∷ []) (search reads depth 30) (search reads depth 30) tt

    -- where there is such a number
    pub excess_some : (o : Option ℤ) (sum by left at against : ℤ) → int sum ≡ total qp.g.columns (λ k. int (number n.g (i - 1) k) *ℚ int (number l.moves k j)) → by ≡ pos n.w.den → left ≡ pos 0 +ℤ (sum *ℤ by) → at ≡ number n.w (i - 1) j
        → against ≡ l.against → IfSome o (λ z. z ≡ left +ℤ (at *ℤ against)) → IfSome o (IsExcess qp law n l i j)
    excess_some (Some z) sum by left at against s b f a g e = excess_made sum by left at z s b f a (e ∙ ap (λ y. left +ℤ (at *ℤ y)) g)
    excess_some None sum by left at against s b f a g e = e

-- ---- the coefficients on t
module _ (scale : ℚ) (form : List ℚ) where
  pub sides_none : AreSides scale form 0 []
  sides_none = record { size = refl; each = λ k h. absurd (omega arith); small = All-nil (λ z. unsigned_abs z < 2 ^ 127) }

  pub sides_more : (k : ℕ) (v new : List ℤ) (z : ℤ) → AreSides scale form k v → int z ≡ scale *ℚ coordinate form (suc k) → unsigned_abs z ≤ 2 ^ 62 → new ≡ v ++ z ∷ [] → AreSides scale form (k + 1) new
  sides_more k v new z so e small f = subst (AreSides scale form (k + 1)) (sym f) (record {
    size = length-append v (z ∷ []) ∙ ap (λ m. m + 1) so.size;
    each = λ m h. ⊎_elim
        (λ p. ap (λ u. int (get_or (v ++ z ∷ []) u (pos 0))) (p ∙ sym so.size) ∙ ap int (get_or-append_seam v z [] (pos 0)) ∙ e ∙ ap (λ u. scale *ℚ coordinate form (suc u)) (sym p))
        (λ p. let less : m < length v = omega (arith, length-append v (z ∷ []), so.size) in ap int (get_or_append_left v (z ∷ []) (pos 0) m less) ∙ so.each m less)
        (cases_eq m k);
    small = All-push (λ y. unsigned_abs y < 2 ^ 127) v z so.small (omega arith);
  })

-- ---- the row
pub not_member : (s : List ℕ) (i : ℕ) → (Contains s i → ⊥) → is_member i s ≡ false
not_member [] i none = refl
not_member (j ∷ s) i none = ⊎_elim
    (λ p. absurd (none (0, zero-lt-suc (length s), sym p)))
    (λ p. ap (λ b. b || is_member i s) (ne_eqb i j p) ∙ not_member s i (λ c. none (suc c.0, let h : c.0 < length s = c.1 in omega arith, c.2)))
    (cases_eq i j)

module _ (forms : FormTheorems) (qp : Qp) (law : Law) (i : ℕ) (shape : HasLawShape qp law) (sized : LawRowSize) (scale : ℚ) (some : IsPositive scale) (form : List ℚ) (is_form : law_form qp law i ≡ form) where
  sides_are : (v : List ℤ) → AreSides scale form (length qp.counts) v → map int v ≡ vec_scale scale (law_sides qp law i)
  sides_are v e = same_entries (map int v) (vec_scale scale (law_sides qp law i)) (length-map v int ∙ e.size ∙ sym (length-scale scale (law_sides qp law i) ∙ forms.sides_size qp law i shape))
      (λ k h. let within : k < length v = subst (λ m. k < m) (length-map v int) h in
      get_or-map int v k (pos 0) (int (pos 0)) within ∙ e.each k within ∙ ap (λ f. scale *ℚ coordinate f (suc k)) (sym is_form) ∙ ap (λ x. scale *ℚ x) (sym (forms.side qp law i k)) ∙ sym (coordinate-scale scale (law_sides qp law i) k))

  pub row_made : (whole row : RowInt) → AreSides scale form (length qp.counts) whole.a → int whole.b ≡ scale *ℚ neg_ℚ (coordinate form 0)
      → ((coefficients : List ℚ) (bound : ℚ) → IsScaledRow coefficients bound whole.a whole.b → IsScaledRow coefficients bound row.a row.b)
      → IsPrimitive (row.a ++ row.b ∷ []) → AreSmall row.a → unsigned_abs row.b < 2 ^ 127 → IsPlainRow qp law i row
  row_made whole row e b s p small b_small =
      let multiple = s (law_sides qp law i) (law_bound qp law i) (record {
        factor = scale;
        positive = some;
        left = sides_are whole.a e;
        right = b ∙ ap (λ f. scale *ℚ neg_ℚ (coordinate f 0)) (sym is_form);
      }) in
      record { is_row = record { multiple = multiple; primitive = p }; plain = record { size = sized qp law i shape row multiple; small = small; b_small = b_small } }

-- where the row is outside the set
pub all_positive : (qp : Qp) (law : Law) (n : RowNumbers) (l : LawNumbers) → AreRowNumbers qp n → AreLawNumbers law n l → IsPositive (all_dens n l)
all_positive qp law n l rows unknowns = positive-mul (positive_int n.w.den rows.right.table.some_den) (positive-mul (positive_int n.g.den rows.left.table.some_den) (positive_int l.moves.den unknowns.moves.table.some_den))

pub outside_bound : (constant : ℤ) (scale x : ℚ) → int constant ≡ scale *ℚ x → int (neg_ℤ constant) ≡ scale *ℚ neg_ℚ x
outside_bound constant scale x e = int-neg constant ∙ ap neg_ℚ e ∙ turned scale x
  where
    turned : (k x : ℚ) → neg_ℚ (k *ℚ x) ≡ k *ℚ neg_ℚ x
    turned k x = by_ring (k ∷ x ∷ []) (search reads depth 30) (search reads depth 30) tt

-- where it is a member
module _ (law : Law) (s : Swept) (read : IsRead law.mults s) (k j : ℕ) (h : k < height law.mults) (l : j < law.mults.columns) where
  pub member_side : int (neg_ℤ (number s k j)) ≡ int (pos s.den) *ℚ coordinate (member_form law k) j
  member_side = int-neg (number s k j) ∙ ap neg_ℚ (read_number law.mults s read k j h l) ∙ turned (int (pos s.den)) (entry law.mults k j) ∙ ap (λ x. int (pos s.den) *ℚ x) (sym (coordinate-scale (int (negsuc 0)) (get_or law.mults.rows k []) j))
    where
      turned : (d x : ℚ) → neg_ℚ (d *ℚ x) ≡ d *ℚ (int (negsuc 0) *ℚ x)
      turned d x = by_ring (d ∷ x ∷ []) (search reads depth 30) (search reads depth 30) tt

  pub member_bound : int (number s k j) ≡ int (pos s.den) *ℚ neg_ℚ (coordinate (member_form law k) j)
  member_bound = read_number law.mults s read k j h l ∙ ap (λ x. int (pos s.den) *ℚ x) (turned (entry law.mults k j) ∙ ap neg_ℚ (sym (coordinate-scale (int (negsuc 0)) (get_or law.mults.rows k []) j)))
    where
      turned : (x : ℚ) → x ≡ neg_ℚ (int (negsuc 0) *ℚ x)
      turned x = by_ring (x ∷ []) (search reads depth 30) (search reads depth 30) tt

-- ---- row by row
abbrev pub no_row : RowInt
no_row = record { a = []; b = pos 0 }

-- the first k rows of a law
pub record AreFirstRows (qp : Qp) (law : Law) (k : ℕ) (rows : List RowInt) : Type 0 where
  pub count : length rows ≡ k
  pub each : (j : ℕ) → j < k → IsPlainRow qp law (j + 1) (get_or rows j no_row)

pub first_none : (qp : Qp) (law : Law) → AreFirstRows qp law 0 []
first_none qp law = record { count = refl; each = λ j h. absurd (omega arith) }

pub first_more : (qp : Qp) (law : Law) (k : ℕ) (rows new : List RowInt) (row : RowInt) → AreFirstRows qp law k rows → IsPlainRow qp law (k + 1) row → new ≡ rows ++ row ∷ [] → AreFirstRows qp law (k + 1) new
first_more qp law k rows new row before is_row e = subst (AreFirstRows qp law (k + 1)) (sym e) (record {
  count = length-append rows (row ∷ []) ∙ ap (λ m. m + 1) before.count;
  each = λ j h. ⊎_elim
      (λ q.
      subst (IsPlainRow qp law (j + 1)) (sym (ap (λ m. get_or (rows ++ row ∷ []) m no_row) (q ∙ sym before.count) ∙ get_or-append_seam rows row [] no_row))
      (subst (λ m. IsPlainRow qp law (m + 1) row) (sym q) is_row))
      (λ q. let less : j < k = omega arith in subst (IsPlainRow qp law (j + 1)) (sym (get_or_append_left rows (row ∷ []) no_row j (omega (arith, before.count)))) (before.each j less))
      (cases_eq j k);
})

module _ (qp : Qp) (law : Law) (k : ℕ) (rows : List RowInt) (all : k ≡ height qp.g) (first : AreFirstRows qp law k rows) where
  pub rows_all : AreLawRows qp law rows
  rows_all = record { one_each = first.count ∙ all; each = λ j h. (first.each j (omega arith)).is_row }

  pub sizes_all : AreOfSize (length qp.counts) rows
  sizes_all = record { each = All-from_get_or (IsOfSize (length qp.counts)) rows no_row (λ j h. (first.each j (omega (arith, first.count))).plain) }
