-- Systems kept as whole numbers: all rows of another system behind, and a row of small numbers.
use Rattle.std.proofs.Common.{◌≡◌, ℕ, zero, suc, ◌+◌, ◌-◌, ◌*◌, ◌^◌, ◌<◌, ◌≤◌, Bool, false, List, [], ◌∷◌, ◌++◌, length, drop, get_or, ℤ, pos, unsigned_abs, sym, ◌∙◌, ap, subst, arith, ◌⊎◌, inl, inr, le_trans, length-append, length-drop, append_assoc, max}
use Rattle.std.proofs.lemmas.Bool.{cases_lt}
use Rattle.std.proofs.lemmas.List.Elements.{All-nil, All-push}
use Rattle.std.proofs.lemmas.List.{append-nil, get_or-drop, get_or-append-add}
use Rattle.mpc_exact.specs.Rational.{int, frac}
use Rattle.mpc_space.specs.Vector.{coordinate}
use Rattle.mpc_space.proofs.Entries.{length-listed}
use Rattle.mpc_rows.specs.declared.systems.Row.{Row}
use Rattle.mpc_rows.specs.LawRows.{whole_row}
use Rattle.mpc_rows.specs.LinearSystem.{HasWidth}
use Rattle.mpc_scaled.specs.declared.systems.WholeLists.{WholeLists}
use Rattle.mpc_scaled.specs.Scaled.{whole_at, whole_cell, scale_at, IsSmall}
use Rattle.mpc_scaled.specs.WholeSystems.{row_scale, kept_row, rows_of, system_of, AreLists, AreBehind, IsKept, AreAdded}
use Rattle.mpc_scaled.proofs.WholeSystems.{row_same, kept_rows, kept_at, rows_of-same, whole_coordinate}

-- ---- two lists, one behind the other
pub each_of_both : {A : Type 0} (P : A → Type 0) (d : A) (xs ys : List A) → ((k : ℕ) → P (get_or xs k d)) → ((k : ℕ) → P (get_or ys k d)) → (k : ℕ) → P (get_or (xs ++ ys) k d)
each_of_both P d [] ys h g k = g k
each_of_both P d (x ∷ xs) ys h g zero = h zero
each_of_both P d (x ∷ xs) ys h g (suc k) = each_of_both P d xs ys (λ j. h (suc j)) g k

each_later : {A : Type 0} (P : A → Type 0) (d : A) (n : ℕ) (xs : List A) → ((k : ℕ) → P (get_or xs k d)) → (k : ℕ) → P (get_or (drop n xs) k d)
each_later P d n xs h k = subst P (sym (get_or-drop n xs k d)) (h (n + k))

rows_of-both : (m n : ℕ) (f g : ℕ → Row) → ((i : ℕ) → i < n → f (m + i) ≡ g i) → rows_of (m + n) f ≡ rows_of m f ++ rows_of n g
unfolding rows_of
rows_of-both m zero f g h = let e : m + 0 ≡ m = omega arith in ap (λ k. rows_of k f) e ∙ sym (append-nil (rows_of m f))
rows_of-both m (suc n) f g h =
    let e : m + suc n ≡ suc (m + n) = omega arith in
    ap (λ k. rows_of k f) e ∙ (λ t. rows_of-both m n f g (λ i k. h i (omega arith)) t ++ h n (omega arith) t ∷ []) ∙ append_assoc (rows_of m f) (rows_of n g) (g n ∷ [])

-- ---- all rows of other lists behind
module _ (l o m : WholeLists) (p : AreLists l) (q : AreLists o) (w : o.width ≡ l.width) (k : IsKept l m) (n : AreAdded l o m) where
  height_both : length m.b.items ≡ length l.b.items + length o.b.items
  height_both = ap (λ (xs : List ℤ). length xs) n.sides ∙ length-append l.b.items o.b.items

  -- a row of the other lists, where it stands now
  cell_behind : (i j : ℕ) → whole_cell o.width m.a.items (length l.b.items + i) j ≡ whole_cell o.width o.a.items i j
  cell_behind i j =
      let e : (length l.b.items + i) * o.width + j ≡ length l.a.items + (i * o.width + j) = (let s = p.entries_size in let r = ap (λ u. length l.b.items * u) w in omega arith) in
      (λ t. get_or (n.entries t) (e t) (pos 0)) ∙ get_or-append-add l.a.items o.a.items (i * o.width + j) (pos 0)

  scale_behind : (i : ℕ) → scale_at m.scales.items (o.width + (length l.b.items + i)) ≡ scale_at o.scales.items (o.width + i)
  scale_behind i =
      let e : o.width + (length l.b.items + i) ≡ length l.scales.items + i = (let s = p.scales_size in omega arith) in
      (λ t. get_or (n.scales t) (e t) 0) ∙ get_or-append-add l.scales.items (drop o.width o.scales.items) i 0 ∙ get_or-drop o.width o.scales.items i 0

  row_behind : (i : ℕ) → i < length o.b.items → kept_row m (length l.b.items + i) ≡ kept_row o i
  row_behind i h =
      row_same o m i (length l.b.items + i) (n.width ∙ sym w) (λ j b. cell_behind i j)
      (ap (λ xs. whole_at xs (length l.b.items + i)) n.sides ∙ get_or-append-add l.b.items o.b.items i (pos 0))
      (scale_behind i)
      (ap (λ xs. get_or xs (length l.b.items + i) false) n.strict ∙ ap (λ u. get_or (l.strict.items ++ o.strict.items) (u + i) false) (sym p.strict_size) ∙ get_or-append-add l.strict.items o.strict.items i false)

  pub both_rows : (system_of m).rows ≡ (system_of l).rows ++ (system_of o).rows
  both_rows =
      ap (λ u. rows_of u (kept_row m)) height_both ∙ rows_of-both (length l.b.items) (length o.b.items) (kept_row m) (kept_row o) row_behind
      ∙ ap (λ rows. rows ++ rows_of (length o.b.items) (kept_row o)) (rows_of-same (length l.b.items) (kept_row m) (kept_row l) (kept_rows l m p k))

  scales_both : length m.scales.items ≡ length l.scales.items + length o.b.items
  scales_both =
      let e = ap (λ (xs : List ℕ). length xs) n.scales ∙ length-append l.scales.items (drop o.width o.scales.items) in
      let d = length-drop o.width o.scales.items in
      let s = q.scales_size in
      omega arith

  some_both : (x : ℕ) → x < length m.scales.items → (x < length l.scales.items) ⊎ (length l.scales.items ≤ x) → 0 < scale_at m.scales.items x
  some_both x h (inl b) = subst (λ u. 0 < u) (sym (kept_at l.scales.items m.scales.items 0 x k.scales b)) (p.some x b)
  some_both x h (inr b) =
      let i : ℕ = x - length l.scales.items in
      let e : x ≡ o.width + (length l.b.items + i) = (let s = p.scales_size in omega arith) in
      subst (λ u. 0 < u) (sym (ap (scale_at m.scales.items) e ∙ scale_behind i)) (q.some (o.width + i) (let s = scales_both in let r = q.scales_size in omega arith))

  pub both_lists : AreLists m
  both_lists = record {
    entries_size = (let e = ap (λ (xs : List ℤ). length xs) n.entries ∙ length-append l.a.items o.a.items in let r = ap (λ u. length o.b.items * u) w in let s = p.entries_size in let u = q.entries_size in let v : length m.b.items * m.width ≡ (length l.b.items + length o.b.items) * l.width = (λ t. height_both t * n.width t) in omega arith);
    scales_size = (let s = scales_both in let r = p.scales_size in let h = height_both in let v = n.width in omega arith);
    strict_size = (let e = ap (λ (xs : List Bool). length xs) n.strict ∙ length-append l.strict.items o.strict.items in let r = p.strict_size in let s = q.strict_size in let h = height_both in omega arith);
    own = λ j h. kept_at l.scales.items m.scales.items 0 j k.scales (let v = n.width in let e = p.scales_size in omega arith) ∙ p.own j (subst (λ u. j < u) n.width h);
    some = λ x h. some_both x h (cases_lt x (length l.scales.items));
    small = λ x. subst (λ xs. scale_at xs x ≤ 2 ^ 40) (sym n.scales) (each_of_both (λ u. u ≤ 2 ^ 40) 0 l.scales.items (drop o.width o.scales.items) p.small (each_later (λ u. u ≤ 2 ^ 40) 0 o.width o.scales.items q.small) x);
    entries_small = record { each = λ x. subst (λ xs. unsigned_abs (whole_at xs x) ≤ 2 ^ 62) (sym n.entries) (each_of_both (λ u. unsigned_abs u ≤ 2 ^ 62) (pos 0) l.a.items o.a.items p.entries_small.each q.entries_small.each x) };
    sides_small = record { each = λ x. subst (λ xs. unsigned_abs (whole_at xs x) ≤ 2 ^ 62) (sym n.sides) (each_of_both (λ u. unsigned_abs u ≤ 2 ^ 62) (pos 0) l.b.items o.b.items p.sides_small.each q.sides_small.each x) };
    entries = record { each = λ x. subst (λ xs. unsigned_abs (whole_at xs x) ≤ m.most_entry) (sym n.entries) (each_of_both (λ u. unsigned_abs u ≤ m.most_entry) (pos 0) l.a.items o.a.items (λ y. le_trans (p.entries.each y) k.most_entry) (λ y. le_trans (q.entries.each y) n.most_entry) x) };
    sides = record { each = λ x. subst (λ xs. unsigned_abs (whole_at xs x) ≤ m.most_side) (sym n.sides) (each_of_both (λ u. unsigned_abs u ≤ m.most_side) (pos 0) l.b.items o.b.items (λ y. le_trans (p.sides.each y) k.most_side) (λ y. le_trans (q.sides.each y) n.most_side) x) };
    some_side = le_trans p.some_side k.most_side;
    scales = λ x. subst (λ xs. scale_at xs x ≤ m.most_scale) (sym n.scales) (each_of_both (λ u. u ≤ m.most_scale) 0 l.scales.items (drop o.width o.scales.items) (λ y. le_trans (p.scales y) k.most_scale) (each_later (λ u. u ≤ m.most_scale) 0 o.width o.scales.items (λ y. le_trans (q.scales y) n.most_scale)) x);
    some_scale = le_trans p.some_scale k.most_scale;
  }

-- ---- a row of small numbers behind
module _ (old entries new : List ℤ) (most own most' : ℕ) (e : new ≡ old ++ entries) (s : IsSmall most old) (g : IsSmall own entries) (o : most' ≡ max most own) (t : IsSmall (2 ^ 62) entries) where
  pub behind_both : (b : ℤ) → AreBehind old new (length entries) 1 (coordinate (whole_row (record { a = entries; b = b })).a) most'
  behind_both b = record {
    size = ap (λ (xs : List ℤ). length xs) e ∙ length-append old entries;
    each = λ j h. whole_coordinate false (record { a = entries; b = b }) j ∙ ap int (sym (ap (λ xs. whole_at xs (length old + j)) e ∙ get_or-append-add old entries j (pos 0)));
    small = record { each = λ x. subst (λ xs. unsigned_abs (whole_at xs x) ≤ most') (sym e) (each_of_both (λ u. unsigned_abs u ≤ most') (pos 0) old entries (λ y. let a = s.each y in omega arith) (λ y. let a = g.each y in omega arith) x) };
    limit = λ z. record { each = λ x. subst (λ xs. unsigned_abs (whole_at xs x) ≤ 2 ^ 62) (sym e) (each_of_both (λ u. unsigned_abs u ≤ 2 ^ 62) (pos 0) old entries z.each t.each x) };
  }

-- ---- each row has the width
rows_of-wide : (n : ℕ) (f : ℕ → Row) (w : ℕ) → ((i : ℕ) → length (f i).a ≡ w) → HasWidth w (rows_of n f)
unfolding rows_of
rows_of-wide zero f w h = record { each = All-nil (λ (r : Row). length r.a ≡ w) }
rows_of-wide (suc n) f w h = record { each = All-push (λ (r : Row). length r.a ≡ w) (rows_of n f) (f n) (rows_of-wide n f w h).each (h n) }

pub lists_wide : (l : WholeLists) → HasWidth l.width (system_of l).rows
lists_wide l = rows_of-wide (length l.b.items) (kept_row l) l.width (λ i. length-listed l.width (λ j. frac (whole_cell l.width l.a.items i j) (row_scale l i)))
