-- Systems kept as whole numbers: one row more, and fewer rows.
use Rattle.std.proofs.Common.{◌≡◌, ℕ, zero, suc, ◌+◌, ◌*◌, ◌^◌, ◌<◌, ◌≤◌, Bool, true, false, cond, List, [], ◌∷◌, ◌++◌, length, take, min, get_or, map, ℤ, pos, negsuc, neg_ℤ, unsigned_abs, refl, sym, ◌∙◌, ap, subst, arith, ◌⊎◌, inl, inr, le_trans, le_refl, length-append, mul-le-mul_right, Ok, Err}
use Rattle.std.proofs.lemmas.Bool.{cases_eq, cases_lt}
use Rattle.std.proofs.lemmas.List.{take-append-le, take_all, length-take, get_or-take, get_or_append_left, length-take-le}
use Rattle.std.proofs.Math.Seq.{get_or-append_seam, take-append_seam}
use Rattle.std.proofs.Math.ListN.{get_or-map, length-map}
use Rattle.mpc_exact.specs.Rational.{ℚ, int, frac, neg_ℚ, ◌*ℚ◌}
use Rattle.mpc_exact.proofs.School.{int-neg}
use Rattle.mpc_exact.proofs.RationalRing.{reads, by_ring}
use Rattle.mpc_space.specs.Vector.{coordinate, listed}
use Rattle.mpc_space.proofs.Entries.{same_entries, coordinate-listed, coordinate-scale, length-listed, length-scale}
use Rattle.mpc_rows.specs.declared.systems.Row.{Row}
use Rattle.mpc_linear.specs.declared.integers.RowInt.{RowInt}
use Rattle.mpc_rows.specs.LawRows.{whole_row, broken_row}
use Rattle.mpc_rows.specs.LinearSystem.{entry, row_at, no_row, height}
use Rattle.mpc_scaled.specs.declared.systems.WholeLists.{WholeLists}
use Rattle.mpc_scaled.specs.Scaled.{whole_at, whole_cell, scale_at, IsWholeSystem}
use Rattle.mpc_scaled.specs.WholeSystems.{row_scale, kept_row, rows_of, system_of, AreLists, AreBehind, IsKept, IsAdded, HasRows, IsCut, IsCopy, IsEmpty, IsSettled, negated_where}
use Rattle.mpc_scaled.proofs.Small.{row_below}

-- ---- lists with one item more, or fewer items
pub each_more : {A : Type 0} (P : A → Type 0) (d : A) → P d → (xs : List A) (y : A) → ((k : ℕ) → P (get_or xs k d)) → P y → (k : ℕ) → P (get_or (xs ++ y ∷ []) k d)
each_more P d o [] y h p zero = p
each_more P d o [] y h p (suc k) = o
each_more P d o (x ∷ xs) y h p zero = h zero
each_more P d o (x ∷ xs) y h p (suc k) = each_more P d o xs y (λ j. h (suc j)) p k

pub each_fewer : {A : Type 0} (P : A → Type 0) (d : A) → P d → (n : ℕ) (xs : List A) → ((k : ℕ) → P (get_or xs k d)) → (k : ℕ) → P (get_or (take n xs) k d)
each_fewer P d o zero xs h k = o
each_fewer P d o (suc n) [] h k = o
each_fewer P d o (suc n) (x ∷ xs) h zero = h zero
each_fewer P d o (suc n) (x ∷ xs) h (suc k) = each_fewer P d o n xs (λ j. h (suc j)) k

pub kept_more : {A : Type 0} (old now : List A) (y : A) → take (length old) now ≡ old → length old ≤ length now → take (length old) (now ++ y ∷ []) ≡ old
kept_more old now y e h = take-append-le (length old) now (y ∷ []) h ∙ e

pub kept_at : {A : Type 0} (old now : List A) (d : A) (k : ℕ) → take (length old) now ≡ old → k < length old → get_or now k d ≡ get_or old k d
kept_at old now d k e h = sym (get_or-take (length old) now k d h) ∙ ap (λ xs. get_or xs k d) e

pub kept_whole : {A : Type 0} (old : List A) → take (length old) old ≡ old
kept_whole old = take_all (length old) old (le_refl (length old))

pub kept_as : {A : Type 0} (old now : List A) → now ≡ old → take (length old) now ≡ old
kept_as old now e = ap (λ xs. take (length old) xs) e ∙ kept_whole old

pub kept_behind : {A : Type 0} (old now more : List A) → now ≡ old ++ more → take (length old) now ≡ old
kept_behind old now more e = ap (λ xs. take (length old) xs) e ∙ take-append_seam old more

-- ---- numbers behind a list, one more
module _ (old now : List ℤ) (n scale : ℕ) (f : ℕ → ℚ) (most : ℕ) (h : AreBehind old now n scale f most) (z : ℤ) (m : ℕ) (v : f n ≡ frac z scale) (l : most ≤ m) (b : unsigned_abs z ≤ m) (t : unsigned_abs z ≤ 2 ^ 62) where
  pub behind_more : AreBehind old (now ++ z ∷ []) (n + 1) scale f m
  behind_more = record {
    size = (let e = length-append now (z ∷ []) in let q = h.size in omega arith);
    each = λ j k. by j k (cases_eq j n);
    small = record { each = each_more (λ y. unsigned_abs y ≤ m) (pos 0) (omega arith) now z (λ k. le_trans (h.small.each k) l) b };
    limit = λ s. record { each = each_more (λ y. unsigned_abs y ≤ 2 ^ 62) (pos 0) (omega arith) now z (h.limit s).each t };
  }
    where
      by : (j : ℕ) → j < n + 1 → (j ≡ n) ⊎ (j ≡ n → ⊥) → f j ≡ frac (whole_at (now ++ z ∷ []) (length old + j)) scale
      by j k (inl e) =
          let q : length old + j ≡ length now = (let w = h.size in omega arith) in
          ap f e ∙ v ∙ ap (λ u. frac u scale) (sym (ap (whole_at (now ++ z ∷ [])) q ∙ get_or-append_seam now z [] (pos 0)))
      by j k (inr e) =
          let q : length old + j < length now = (let w = h.size in omega arith) in
          h.each j (omega arith) ∙ ap (λ u. frac u scale) (sym (get_or_append_left now (z ∷ []) (pos 0) (length old + j) q))

-- ---- the rows of a function
pub length-rows_of : (n : ℕ) (f : ℕ → Row) → length (rows_of n f) ≡ n
unfolding rows_of
length-rows_of zero f = refl
length-rows_of (suc n) f = let e = length-append (rows_of n f) (f n ∷ []) in let q = length-rows_of n f in omega arith

pub row-rows_of : (n : ℕ) (f : ℕ → Row) (i : ℕ) (d : Row) → i < n → get_or (rows_of n f) i d ≡ f i
unfolding rows_of
row-rows_of zero f i d h = absurd (omega arith)
row-rows_of (suc n) f i d h = by (λ l. row-rows_of n f i d l) (cases_eq i n)
  where
    by : (i < n → get_or (rows_of n f) i d ≡ f i) → (i ≡ n) ⊎ (i ≡ n → ⊥) → get_or (rows_of n f ++ f n ∷ []) i d ≡ f i
    by g (inl e) = ap (λ k. get_or (rows_of n f ++ f n ∷ []) k d) (e ∙ sym (length-rows_of n f)) ∙ get_or-append_seam (rows_of n f) (f n) [] d ∙ ap f (sym e)
    by g (inr e) = get_or_append_left (rows_of n f) (f n ∷ []) d i (let q = length-rows_of n f in omega arith) ∙ g (omega arith)

pub rows_of-same : (n : ℕ) (f g : ℕ → Row) → ((i : ℕ) → i < n → f i ≡ g i) → rows_of n f ≡ rows_of n g
unfolding rows_of
rows_of-same zero f g h = refl
rows_of-same (suc n) f g h = λ t. rows_of-same n f g (λ i k. h i (omega arith)) t ++ h n (omega arith) t ∷ []

pub take-rows_of : (m n : ℕ) (f : ℕ → Row) → m ≤ n → take m (rows_of n f) ≡ rows_of m f
unfolding rows_of
take-rows_of m zero f h = let e : m ≡ 0 = omega arith in ap (λ k. take k (rows_of 0 f)) e ∙ ap (λ k. rows_of k f) (sym e)
take-rows_of m (suc n) f h = by (λ l. take-rows_of m n f l) (cases_lt n m)
  where
    by : (m ≤ n → take m (rows_of n f) ≡ rows_of m f) → (n < m) ⊎ (m ≤ n) → take m (rows_of n f ++ f n ∷ []) ≡ rows_of m f
    by g (inl l) =
        let e : m ≡ suc n = omega arith in
        take_all m (rows_of n f ++ f n ∷ []) (let q = length-rows_of (suc n) f in omega arith) ∙ ap (λ k. rows_of k f) (sym e)
    by g (inr l) = take-append-le m (rows_of n f) (f n ∷ []) (let q = length-rows_of n f in omega arith) ∙ g l

listed_same : (n : ℕ) (f g : ℕ → ℚ) → ((j : ℕ) → j < n → f j ≡ g j) → listed n f ≡ listed n g
listed_same n f g h =
    same_entries (listed n f) (listed n g) (length-listed n f ∙ sym (length-listed n g))
    (λ j k. let b : j < n = subst (λ u. j < u) (length-listed n f) k in coordinate-listed n f j b ∙ h j b ∙ sym (coordinate-listed n g j b))

listed_is : (n : ℕ) (f : ℕ → ℚ) (xs : List ℚ) → length xs ≡ n → ((j : ℕ) → j < n → coordinate xs j ≡ f j) → listed n f ≡ xs
listed_is n f xs e h =
    same_entries (listed n f) xs (length-listed n f ∙ sym e)
    (λ j k. let b : j < n = subst (λ u. j < u) (length-listed n f) k in coordinate-listed n f j b ∙ sym (h j b))

-- ---- a row whose numbers are those of a row of other lists
pub row_same : (l m : WholeLists) (i k : ℕ) → m.width ≡ l.width → ((j : ℕ) → j < l.width → whole_cell l.width m.a.items k j ≡ whole_cell l.width l.a.items i j)
    → whole_at m.b.items k ≡ whole_at l.b.items i → scale_at m.scales.items (l.width + k) ≡ scale_at l.scales.items (l.width + i) → get_or m.strict.items k false ≡ get_or l.strict.items i false → kept_row m k ≡ kept_row l i
row_same l m i k w a b c s =
    let scale : row_scale m k ≡ row_scale l i = ap (λ u. scale_at m.scales.items (u + k)) w ∙ c in
    let wide : listed m.width (λ j. frac (whole_cell m.width m.a.items k j) (row_scale m k)) ≡ listed l.width (λ j. frac (whole_cell l.width m.a.items k j) (row_scale m k)) =
    ap (λ u. listed u (λ j. frac (whole_cell u m.a.items k j) (row_scale m k))) w
    in
    let same : listed l.width (λ j. frac (whole_cell l.width m.a.items k j) (row_scale m k)) ≡ listed l.width (λ j. frac (whole_cell l.width l.a.items i j) (row_scale l i)) =
    listed_same l.width (λ j. frac (whole_cell l.width m.a.items k j) (row_scale m k)) (λ j. frac (whole_cell l.width l.a.items i j) (row_scale l i)) (λ j h t. frac (a j h t) (scale t))
    in
    let sides = wide ∙ same in
    λ t. record { a = sides t; b = frac (b t) (scale t); strict = s t }

pub cell_inside : (l : WholeLists) → AreLists l → (i j : ℕ) → i < length l.b.items → j < l.width → i * l.width + j < length l.a.items
cell_inside l o i j h k = let e = o.entries_size in let r = row_below l.width i (length l.b.items) j h k in omega arith

pub kept_rows : (l m : WholeLists) → AreLists l → IsKept l m → (i : ℕ) → i < length l.b.items → kept_row m i ≡ kept_row l i
kept_rows l m o k i h =
    row_same l m i i k.width (λ j b. kept_at l.a.items m.a.items (pos 0) (i * l.width + j) k.entries (cell_inside l o i j h b))
    (kept_at l.b.items m.b.items (pos 0) i k.sides h) (kept_at l.scales.items m.scales.items 0 (l.width + i) k.scales (let e = o.scales_size in omega arith))
    (kept_at l.strict.items m.strict.items false i k.strict (let e = o.strict_size in omega arith))

-- ---- one row more
module _ (l m : WholeLists) (o : AreLists l) (k : IsKept l m) (row : Row) (w : length row.a ≡ l.width) (n : IsAdded l m row) where
  height_more : length m.b.items ≡ suc (length l.b.items)
  height_more = let e = ap (λ (xs : List ℤ). length xs) n.sides in let q = length-append l.b.items (n.side ∷ []) in omega arith

  last_scale : scale_at m.scales.items (l.width + length l.b.items) ≡ n.scale
  last_scale =
      ap (λ xs. scale_at xs (l.width + length l.b.items)) n.scales ∙ ap (scale_at (l.scales.items ++ n.scale ∷ [])) (sym o.scales_size) ∙ get_or-append_seam l.scales.items n.scale [] 0

  last_cell : (j : ℕ) → j < l.width → coordinate row.a j ≡ frac (whole_cell l.width m.a.items (length l.b.items) j) (row_scale m (length l.b.items))
  last_cell j h =
      n.entries.each j h
      ∙ (λ t. frac (whole_at m.a.items (o.entries_size t + j)) (sym (ap (λ u. scale_at m.scales.items (u + length l.b.items)) k.width ∙ last_scale) t))

  last_row : kept_row m (length l.b.items) ≡ row
  last_row =
      let i = length l.b.items in
      let wide : listed m.width (λ j. frac (whole_cell m.width m.a.items i j) (row_scale m i)) ≡ listed l.width (λ j. frac (whole_cell l.width m.a.items i j) (row_scale m i)) =
      ap (λ u. listed u (λ j. frac (whole_cell u m.a.items i j) (row_scale m i))) k.width
      in
      let a = wide ∙ listed_is l.width (λ j. frac (whole_cell l.width m.a.items i j) (row_scale m i)) row.a w last_cell in
      let z : whole_at m.b.items i ≡ n.side = ap (λ xs. whole_at xs i) n.sides ∙ get_or-append_seam l.b.items n.side [] (pos 0) in
      let q : row_scale m i ≡ n.scale = ap (λ u. scale_at m.scales.items (u + i)) k.width ∙ last_scale in
      let b : frac (whole_at m.b.items i) (row_scale m i) ≡ row.b = (λ t. frac (z t) (q t)) ∙ sym n.value in
      let s : get_or m.strict.items i false ≡ row.strict = ap (λ xs. get_or xs i false) n.strict ∙ ap (λ u. get_or (l.strict.items ++ row.strict ∷ []) u false) (sym o.strict_size) ∙ get_or-append_seam l.strict.items row.strict [] false in
      λ t. record { a = a t; b = b t; strict = s t }

  pub added_rows : (system_of m).rows ≡ (system_of l).rows ++ row ∷ []
  unfolding rows_of
  added_rows =
      ap (λ u. rows_of u (kept_row m)) height_more
      ∙ (λ t. rows_of-same (length l.b.items) (kept_row m) (kept_row l) (kept_rows l m o k) t ++ last_row t ∷ [])

  pub added_lists : AreLists m
  added_lists = record {
    entries_size = (let e = n.entries.size in let q = o.entries_size in let s : length m.b.items * m.width ≡ suc (length l.b.items) * l.width = (λ t. height_more t * k.width t) in omega arith);
    scales_size = (let q = o.scales_size in let h = height_more in let w = k.width in let s = scales_more in omega arith);
    strict_size = (let e = ap (λ (xs : List Bool). length xs) n.strict in let q = length-append l.strict.items (row.strict ∷ []) in let s = o.strict_size in let h = height_more in omega arith);
    own = λ j h. kept_at l.scales.items m.scales.items 0 j k.scales (let w = k.width in let e = o.scales_size in omega arith) ∙ o.own j (subst (λ u. j < u) k.width h);
    some = λ x h. some_more x h (cases_lt x (length l.scales.items));
    small = λ x. subst (λ xs. scale_at xs x ≤ 2 ^ 40) (sym n.scales) (each_more (λ u. u ≤ 2 ^ 40) 0 (omega arith) l.scales.items n.scale o.small n.small x);
    entries_small = n.entries.limit o.entries_small;
    sides_small = record { each = λ x. subst (λ xs. unsigned_abs (whole_at xs x) ≤ 2 ^ 62) (sym n.sides) (each_more (λ u. unsigned_abs u ≤ 2 ^ 62) (pos 0) (omega arith) l.b.items n.side o.sides_small.each n.side_small x) };
    entries = n.entries.small;
    sides = record { each = λ x. subst (λ xs. unsigned_abs (whole_at xs x) ≤ m.most_side) (sym n.sides) (each_more (λ u. unsigned_abs u ≤ m.most_side) (pos 0) (omega arith) l.b.items n.side (λ y. le_trans (o.sides.each y) k.most_side) n.side_bound x) };
    some_side = le_trans o.some_side k.most_side;
    scales = λ x. subst (λ xs. scale_at xs x ≤ m.most_scale) (sym n.scales) (each_more (λ u. u ≤ m.most_scale) 0 (omega arith) l.scales.items n.scale (λ y. le_trans (o.scales y) k.most_scale) n.scale_bound x);
    some_scale = le_trans o.some_scale k.most_scale;
  }
    where
      scales_more : length m.scales.items ≡ length l.scales.items + 1
      scales_more = ap (λ (xs : List ℕ). length xs) n.scales ∙ length-append l.scales.items (n.scale ∷ [])

      some_more : (x : ℕ) → x < length m.scales.items → (x < length l.scales.items) ⊎ (length l.scales.items ≤ x) → 0 < scale_at m.scales.items x
      some_more x h (inl b) = subst (λ u. 0 < u) (sym (kept_at l.scales.items m.scales.items 0 x k.scales b)) (o.some x b)
      some_more x h (inr b) =
          let e : x ≡ length l.scales.items = (let s = scales_more in omega arith) in
          subst (λ u. 0 < u) (sym (ap (scale_at m.scales.items) e ∙ ap (λ xs. scale_at xs (length l.scales.items)) n.scales ∙ get_or-append_seam l.scales.items n.scale [] 0)) n.some

-- ---- the same rows
module _ (l m : WholeLists) (o : AreLists l) (c : IsCopy l m) where
  pub copied_rows : (system_of m).rows ≡ (system_of l).rows
  copied_rows =
      ap (λ (xs : List ℤ). rows_of (length xs) (kept_row m)) c.sides
      ∙ rows_of-same (length l.b.items) (kept_row m) (kept_row l)
      (λ i h. row_same l m i i c.width (λ j b. ap (λ xs. whole_cell l.width xs i j) c.entries) (ap (λ xs. whole_at xs i) c.sides) (ap (λ xs. scale_at xs (l.width + i)) c.scales) (ap (λ xs. get_or xs i false) c.strict))

  pub copied_system : system_of m ≡ system_of l
  copied_system = λ t. record { width = c.width t; rows = copied_rows t }

  pub copied_lists : AreLists m
  copied_lists = record {
    entries_size = (λ t. length (c.entries t)) ∙ o.entries_size ∙ (λ t. length (sym c.sides t) * sym c.width t);
    scales_size = (λ t. length (c.scales t)) ∙ o.scales_size ∙ (λ t. sym c.width t + length (sym c.sides t));
    strict_size = (λ t. length (c.strict t)) ∙ o.strict_size ∙ (λ t. length (sym c.sides t));
    own = λ j h. ap (λ xs. scale_at xs j) c.scales ∙ o.own j (subst (λ u. j < u) c.width h);
    some = λ x h. subst (λ xs. 0 < scale_at xs x) (sym c.scales) (o.some x (subst (λ (xs : List ℕ). x < length xs) c.scales h));
    small = λ x. subst (λ xs. scale_at xs x ≤ 2 ^ 40) (sym c.scales) (o.small x);
    entries_small = record { each = λ x. subst (λ xs. unsigned_abs (whole_at xs x) ≤ 2 ^ 62) (sym c.entries) (o.entries_small.each x) };
    sides_small = record { each = λ x. subst (λ xs. unsigned_abs (whole_at xs x) ≤ 2 ^ 62) (sym c.sides) (o.sides_small.each x) };
    entries = record { each = λ x. subst (λ xs. unsigned_abs (whole_at xs x) ≤ m.most_entry) (sym c.entries) (le_trans (o.entries.each x) c.most_entry) };
    sides = record { each = λ x. subst (λ xs. unsigned_abs (whole_at xs x) ≤ m.most_side) (sym c.sides) (le_trans (o.sides.each x) c.most_side) };
    some_side = le_trans o.some_side c.most_side;
    scales = λ x. subst (λ xs. scale_at xs x ≤ m.most_scale) (sym c.scales) (le_trans (o.scales x) c.most_scale);
    some_scale = le_trans o.some_scale c.most_scale;
  }

-- the rows that were there stand there still
length_kept : {A : Type 0} (old now : List A) → take (length old) now ≡ old → length old ≤ length now
length_kept old now e = let q : min (length old) (length now) ≡ length old = sym (length-take (length old) now) ∙ ap length e in omega arith

pub rows_stand : (l n : WholeLists) (count : ℕ) → AreLists l → IsKept l n → count ≡ length l.b.items → HasRows n count
rows_stand l n count o k e =
    let w = k.width in
    let s = o.scales_size in
    let long = length_kept l.scales.items n.scales.items k.scales in
    record {
      width = omega arith;
      scales = omega arith;
      entries = subst (λ m. m ≤ length n.a.items) (sym ((λ t. e t * k.width t) ∙ sym o.entries_size)) (length_kept l.a.items n.a.items k.entries);
    }

pub first_rows : (l : WholeLists) (count : ℕ) → AreLists l → count ≤ length l.b.items → HasRows l count
first_rows l count o few =
    let s = o.scales_size in
    record {
      width = omega arith;
      scales = omega arith;
      entries = subst (λ m. count * l.width ≤ m) (sym o.entries_size) (mul-le-mul_right l.width few);
    }

-- what was put behind is taken away
pub cut_back : (l n m : WholeLists) (count : ℕ) → AreLists l → IsKept l n → IsCut n m count → count ≡ length l.b.items → IsCopy l m
cut_back l n m count o k c e = record {
  width = c.width ∙ k.width;
  entries = c.entries ∙ ap (λ u. take u n.a.items) ((λ t. e t * k.width t) ∙ sym o.entries_size) ∙ k.entries;
  sides = c.sides ∙ ap (λ u. take u n.b.items) e ∙ k.sides;
  scales = c.scales ∙ ap (λ u. take u n.scales.items) ((λ t. k.width t + e t) ∙ sym o.scales_size) ∙ k.scales;
  strict = c.strict ∙ ap (λ u. take u n.strict.items) (e ∙ sym o.strict_size) ∙ k.strict;
  most_entry = subst (λ u. l.most_entry ≤ u) (sym c.most_entry) k.most_entry;
  most_side = subst (λ u. l.most_side ≤ u) (sym c.most_side) k.most_side;
  most_scale = subst (λ u. l.most_scale ≤ u) (sym c.most_scale) k.most_scale;
}

-- ---- fewer rows
module _ (l m : WholeLists) (o : AreLists l) (count : ℕ) (few : count ≤ length l.b.items) (c : IsCut l m count) where
  height_fewer : length m.b.items ≡ count
  height_fewer = ap (λ (xs : List ℤ). length xs) c.sides ∙ length-take-le count l.b.items few

  row_fewer : (i : ℕ) → i < count → kept_row m i ≡ kept_row l i
  row_fewer i h =
      row_same l m i i c.width
      (λ j b. ap (λ xs. whole_cell l.width xs i j) c.entries ∙ get_or-take (count * l.width) l.a.items (i * l.width + j) (pos 0) (row_below l.width i count j h b))
      (ap (λ xs. whole_at xs i) c.sides ∙ get_or-take count l.b.items i (pos 0) h)
      (ap (λ xs. scale_at xs (l.width + i)) c.scales ∙ get_or-take (l.width + count) l.scales.items (l.width + i) 0 (omega arith))
      (ap (λ xs. get_or xs i false) c.strict ∙ get_or-take count l.strict.items i false h)

  pub cut_rows : (system_of m).rows ≡ take count (system_of l).rows
  cut_rows =
      ap (λ u. rows_of u (kept_row m)) height_fewer ∙ rows_of-same count (kept_row m) (kept_row l) row_fewer ∙ sym (take-rows_of count (length l.b.items) (kept_row l) few)

  pub cut_lists : AreLists m
  cut_lists = record {
    entries_size = ap (λ (xs : List ℤ). length xs) c.entries ∙ length-take-le (count * l.width) l.a.items entries_few ∙ (λ t. sym height_fewer t * sym c.width t);
    scales_size = scales_fewer ∙ (λ t. sym c.width t + sym height_fewer t);
    strict_size = ap (λ (xs : List Bool). length xs) c.strict ∙ length-take-le count l.strict.items (let e = o.strict_size in omega arith) ∙ sym height_fewer;
    own = λ j h. (let b : j < l.width = subst (λ u. j < u) c.width h in ap (λ xs. scale_at xs j) c.scales ∙ get_or-take (l.width + count) l.scales.items j 0 (omega arith) ∙ o.own j b);
    some = λ x h. (let b : x < l.width + count = subst (λ u. x < u) scales_fewer h in subst (λ u. 0 < u) (sym (ap (λ xs. scale_at xs x) c.scales ∙ get_or-take (l.width + count) l.scales.items x 0 b)) (o.some x (let e = o.scales_size in omega arith)));
    small = λ x. subst (λ xs. scale_at xs x ≤ 2 ^ 40) (sym c.scales) (each_fewer (λ u. u ≤ 2 ^ 40) 0 (omega arith) (l.width + count) l.scales.items o.small x);
    entries_small = record { each = λ x. subst (λ xs. unsigned_abs (whole_at xs x) ≤ 2 ^ 62) (sym c.entries) (each_fewer (λ u. unsigned_abs u ≤ 2 ^ 62) (pos 0) (omega arith) (count * l.width) l.a.items o.entries_small.each x) };
    sides_small = record { each = λ x. subst (λ xs. unsigned_abs (whole_at xs x) ≤ 2 ^ 62) (sym c.sides) (each_fewer (λ u. unsigned_abs u ≤ 2 ^ 62) (pos 0) (omega arith) count l.b.items o.sides_small.each x) };
    entries = record { each = λ x. subst (λ xs. unsigned_abs (whole_at xs x) ≤ m.most_entry) (sym c.entries) (each_fewer (λ u. unsigned_abs u ≤ m.most_entry) (pos 0) (omega arith) (count * l.width) l.a.items (λ y. subst (λ u. unsigned_abs (whole_at l.a.items y) ≤ u) (sym c.most_entry) (o.entries.each y)) x) };
    sides = record { each = λ x. subst (λ xs. unsigned_abs (whole_at xs x) ≤ m.most_side) (sym c.sides) (each_fewer (λ u. unsigned_abs u ≤ m.most_side) (pos 0) (omega arith) count l.b.items (λ y. subst (λ u. unsigned_abs (whole_at l.b.items y) ≤ u) (sym c.most_side) (o.sides.each y)) x) };
    some_side = subst (λ u. 1 ≤ u) (sym c.most_side) o.some_side;
    scales = λ x. subst (λ xs. scale_at xs x ≤ m.most_scale) (sym c.scales) (each_fewer (λ u. u ≤ m.most_scale) 0 (omega arith) (l.width + count) l.scales.items (λ y. subst (λ u. scale_at l.scales.items y ≤ u) (sym c.most_scale) (o.scales y)) x);
    some_scale = subst (λ u. 1 ≤ u) (sym c.most_scale) o.some_scale;
  }
    where
      entries_few : count * l.width ≤ length l.a.items
      entries_few = let e = o.entries_size in let p : count * l.width ≤ length l.b.items * l.width = mul-le-mul_right l.width few in omega arith

      scales_fewer : length m.scales.items ≡ l.width + count
      scales_fewer = ap (λ (xs : List ℕ). length xs) c.scales ∙ length-take-le (l.width + count) l.scales.items (let e = o.scales_size in omega arith)

-- ---- nothing
pub empty_lists : (l : WholeLists) → IsEmpty l → AreLists l
empty_lists l e = record {
  entries_size = (let a = ap (λ (xs : List ℤ). length xs) e.entries in let b = ap (λ (xs : List ℤ). length xs * l.width) e.sides in omega arith);
  scales_size = (let k = ap (λ (xs : List ℕ). length xs) e.scales in let b = ap (λ (xs : List ℤ). length xs) e.sides in let w = e.width in omega arith);
  strict_size = (λ t. length (e.strict t)) ∙ (λ t. length (sym e.sides t));
  own = λ j h. absurd (let w = e.width in omega arith);
  some = λ x h. absurd (let q : x < 0 = subst (λ (xs : List ℕ). x < length xs) e.scales h in omega arith);
  small = λ x. subst (λ xs. scale_at xs x ≤ 2 ^ 40) (sym e.scales) (omega arith);
  entries_small = record { each = λ x. subst (λ xs. unsigned_abs (whole_at xs x) ≤ 2 ^ 62) (sym e.entries) (omega arith) };
  sides_small = record { each = λ x. subst (λ xs. unsigned_abs (whole_at xs x) ≤ 2 ^ 62) (sym e.sides) (omega arith) };
  entries = record { each = λ x. subst (λ xs. unsigned_abs (whole_at xs x) ≤ l.most_entry) (sym e.entries) (omega arith) };
  sides = record { each = λ x. subst (λ xs. unsigned_abs (whole_at xs x) ≤ l.most_side) (sym e.sides) (omega arith) };
  some_side = let q = e.most_side in omega arith;
  scales = λ x. subst (λ xs. scale_at xs x ≤ l.most_scale) (sym e.scales) (omega arith);
  some_scale = let q = e.most_scale in omega arith;
}

-- ---- the numbers of a system
module _ (l : WholeLists) (o : AreLists l) where
  pub height_is : height (system_of l) ≡ length l.b.items
  height_is = length-rows_of (length l.b.items) (kept_row l)

  pub row_is : (i : ℕ) → i < height (system_of l) → row_at (system_of l) i ≡ kept_row l i
  row_is i h = row-rows_of (length l.b.items) (kept_row l) i no_row (subst (λ u. i < u) height_is h)

  entry_is : (i j : ℕ) → i < height (system_of l) → j < l.width → entry (system_of l) i j ≡ frac (whole_cell l.width l.a.items i j) (row_scale l i)
  unfolding entry
  entry_is i j h k =
      ap (λ (r : Row). coordinate r.a j) (row_is i h) ∙ coordinate-listed l.width (λ c. frac (whole_cell l.width l.a.items i c) (row_scale l i)) j k

  pub are_numbers : IsWholeSystem (system_of l) l.scales.items l.a.items l.b.items
  are_numbers = record {
    entries_size = o.entries_size ∙ ap (λ u. u * l.width) (sym height_is);
    sides_size = sym height_is;
    scales = record {
      size = o.scales_size ∙ ap (λ u. l.width + u) (sym height_is);
      own = o.own;
      some = λ x h. o.some x (let e = o.scales_size in let q = height_is in omega arith);
      small = o.small;
    };
    entries = entry_is;
    sides = record { sides = λ i h. ap (λ (r : Row). r.b) (row_is i h) };
  }

pub no_rows : (n : ℕ) (f : ℕ → Row) → n ≡ 0 → rows_of n f ≡ []
unfolding rows_of
no_rows n f e = ap (λ k. rows_of k f) e

-- ---- a row of whole numbers
negative_whole : (z : ℤ) → int (negsuc 0) *ℚ int z ≡ int (neg_ℤ z)
negative_whole z = minus (int z) ∙ sym (int-neg z)
  where
    minus : (x : ℚ) → int (negsuc 0) *ℚ x ≡ neg_ℚ x
    minus x = by_ring (x ∷ []) (search reads depth 30) (search reads depth 30) tt

abbrev pub row_where : Bool → RowInt → Row
row_where broken r = cond broken (broken_row r) (whole_row r)

pub whole_coordinate : (broken : Bool) (r : RowInt) (j : ℕ) → coordinate (row_where broken r).a j ≡ int (negated_where broken (get_or r.a j (pos 0)))
whole_coordinate true r j =
    coordinate-scale (int (negsuc 0)) (map int r.a) j ∙ ap (λ u. int (negsuc 0) *ℚ u) (get_or-map int r.a j (pos 0)) ∙ negative_whole (get_or r.a j (pos 0))
whole_coordinate false r j = get_or-map int r.a j (pos 0)

pub whole_side : (broken : Bool) (r : RowInt) → (row_where broken r).b ≡ int (negated_where broken r.b)
whole_side true r = sym (int-neg r.b)
whole_side false r = refl

pub whole_strict : (broken : Bool) (r : RowInt) → (row_where broken r).strict ≡ broken
whole_strict true r = refl
whole_strict false r = refl

pub whole_length : (broken : Bool) (r : RowInt) → length (row_where broken r).a ≡ length r.a
whole_length true r = length-scale (int (negsuc 0)) (map int r.a) ∙ length-map r.a int
whole_length false r = length-map r.a int

pub behind_as : (old new : List ℤ) (m n scale : ℕ) (f g : ℕ → ℚ) (most : ℕ) → m ≡ n → ((j : ℕ) → g j ≡ f j) → AreBehind old new m scale f most → AreBehind old new n scale g most
behind_as old new m n scale f g most e h a = record {
  size = a.size ∙ ap (λ u. length old + u) e;
  each = λ j l. h j ∙ a.each j (subst (λ u. j < u) (sym e) l);
  small = a.small;
  limit = a.limit;
}

-- the same numbers, which are those of another function up to there
pub behind_listed : (old new : List ℤ) (n scale : ℕ) (f g : ℕ → ℚ) (most : ℕ) → ((j : ℕ) → j < n → g j ≡ f j) → AreBehind old new n scale f most → AreBehind old new n scale g most
behind_listed old new n scale f g most h a = record { size = a.size; each = λ j l. h j l ∙ a.each j l; small = a.small; limit = a.limit }

-- ---- an attempt to put a row behind the others
module _ (l n m : WholeLists) (o : AreLists l) (k : IsKept l n) (row : Row) where
  pub settled : {E : Type 0} → length row.a ≡ l.width → IsAdded l n row → IsSettled {E = E} l n row (Ok true)
  settled w a = record { lists = added_lists l n o k row w a; width = k.width; ok = added_rows l n o k row w a; err = tt }

  pub settled_not : {E : Type 0} (count : ℕ) → count ≡ length l.b.items → IsCut n m count → IsSettled {E = E} l m row (Ok false)
  settled_not count e c = let q = cut_back l n m count o k c e in record { lists = copied_lists l m o q; width = q.width; ok = copied_rows l m o q; err = tt }

  pub settled_err : {E : Type 0} (x : E) (count : ℕ) → count ≡ length l.b.items → IsCut n m count → IsSettled {E = E} l m row (Err x)
  settled_err x count e c = let q = cut_back l n m count o k c e in record { lists = copied_lists l m o q; width = q.width; ok = tt; err = copied_rows l m o q }
