-- The whole numbers of one system behind those of another are the whole numbers of both.
use Rattle.std.proofs.Common.{◌≡◌, ℕ, ◌+◌, ◌-◌, ◌*◌, ◌^◌, ◌<◌, ◌≤◌, List, ◌++◌, length, drop, get_or, ℤ, pos, unsigned_abs, sym, ◌∙◌, ap, subst, arith, ◌⊎◌, inl, inr, length-append, length-drop}
use Rattle.std.proofs.lemmas.Bool.{cases_lt}
use Rattle.std.proofs.lemmas.Nat.{mul-add-lt}
use Rattle.std.proofs.lemmas.List.{get_or-drop, get_or-append-add, get_or_append_left}
use Rattle.mpc_exact.specs.Rational.{frac}
use Rattle.mpc_space.specs.Vector.{coordinate}
use Rattle.mpc_rows.specs.declared.systems.Row.{Row}
use Rattle.mpc_rows.specs.LinearSystem.{LinearSystem, row_at, entry, no_row}
use Rattle.mpc_scaled.specs.Scaled.{whole_at, whole_cell, scale_at, IsSmall, IsWholeSystem}

-- the rows in so many unknowns
abbrev pub wide : ℕ → List Row → LinearSystem
wide width rows = record { width = width; rows = rows }

-- the whole numbers are of at most these sizes
pub record HasSizes (entry side scale : ℕ) (k : List ℕ) (a b : List ℤ) : Type 0 where
  pub entries : IsSmall entry a
  pub sides : IsSmall side b
  pub scales : (x : ℕ) → scale_at k x ≤ scale

-- what holds of each item of two lists
of_both : {A : Type 0} (P : A → Type 0) (d : A) (xs ys : List A) → ((i : ℕ) → P (get_or xs i d)) → ((i : ℕ) → P (get_or ys i d)) → (i : ℕ) → P (get_or (xs ++ ys) i d)
of_both P d xs ys h g i = by (cases_lt i (length xs))
  where
    by : (i < length xs) ⊎ (length xs ≤ i) → P (get_or (xs ++ ys) i d)
    by (inl l) = subst P (sym (get_or_append_left xs ys d i l)) (h i)
    by (inr l) =
        let e : length xs + (i - length xs) ≡ i = omega arith in
        subst (λ n. P (get_or (xs ++ ys) n d)) e (subst P (sym (get_or-append-add xs ys (i - length xs) d)) (g (i - length xs)))

of_later : {A : Type 0} (P : A → Type 0) (d : A) (n : ℕ) (xs : List A) → ((i : ℕ) → P (get_or xs i d)) → (i : ℕ) → P (get_or (drop n xs) i d)
of_later P d n xs h i = subst P (sym (get_or-drop n xs i d)) (h (n + i))

module _ (width : ℕ) (rows rows' : List Row) (k k' : List ℕ) (a a' b b' : List ℤ) (w : IsWholeSystem (wide width rows) k a b) (v : IsWholeSystem (wide width rows') k' a' b') where
  all_scales : List ℕ
  all_scales = k ++ drop width k'

  first_scale : (x : ℕ) → x < width + length rows → scale_at all_scales x ≡ scale_at k x
  unfolding all_scales
  first_scale x h = get_or_append_left k (drop width k') 0 x (let e = w.scales.size in omega arith)

  later_scale : (i : ℕ) → scale_at all_scales (width + (length rows + i)) ≡ scale_at k' (width + i)
  unfolding all_scales
  later_scale i =
      let e : width + (length rows + i) ≡ length k + i = (let e = w.scales.size in omega arith) in
      ap (scale_at (k ++ drop width k')) e ∙ get_or-append-add k (drop width k') i 0 ∙ get_or-drop width k' i 0

  -- what holds of each row of both
  each_row : (P : ℕ → Type 0) → ((i : ℕ) → i < length rows → P i) → ((i : ℕ) → i < length rows' → P (length rows + i)) → (i : ℕ) → i < length (rows ++ rows') → P i
  each_row P h g i l = by (cases_lt i (length rows))
    where
      by : (i < length rows) ⊎ (length rows ≤ i) → P i
      by (inl u) = h i u
      by (inr u) =
          let e : length rows + (i - length rows) ≡ i = omega arith in
          subst P e (g (i - length rows) (let q = length-append rows rows' in omega arith))

  first_row : (i : ℕ) → i < length rows → row_at (wide width (rows ++ rows')) i ≡ row_at (wide width rows) i
  first_row i h = get_or_append_left rows rows' no_row i h

  later_row : (i : ℕ) → row_at (wide width (rows ++ rows')) (length rows + i) ≡ row_at (wide width rows') i
  later_row i = get_or-append-add rows rows' i no_row

  abbrev HasEntry : ℕ → ℕ → Type 0
  HasEntry j i = entry (wide width (rows ++ rows')) i j ≡ frac (whole_cell width (a ++ a') i j) (scale_at all_scales (width + i))

  first_entry : (j : ℕ) → j < width → (i : ℕ) → i < length rows → HasEntry j i
  unfolding entry
  first_entry j h i l =
      ap (λ (r : Row). coordinate r.a j) (first_row i l) ∙ w.entries i j l h
      ∙ (λ t. frac (sym (get_or_append_left a a' (pos 0) (i * width + j) (let e : length a ≡ length rows * width = w.entries_size in let f = mul-add-lt i width j (length rows) l h in omega arith)) t) (sym (first_scale (width + i) (omega arith)) t))

  later_entry : (j : ℕ) → j < width → (i : ℕ) → i < length rows' → HasEntry j (length rows + i)
  unfolding entry
  later_entry j h i l =
      let e : (length rows + i) * width + j ≡ length a + (i * width + j) = (let e = w.entries_size in omega arith) in
      ap (λ (r : Row). coordinate r.a j) (later_row i) ∙ v.entries i j l h
      ∙ (λ t. frac (sym (ap (whole_at (a ++ a')) e ∙ get_or-append-add a a' (i * width + j) (pos 0)) t) (sym (later_scale i) t))

  abbrev HasSide : ℕ → Type 0
  HasSide i = (row_at (wide width (rows ++ rows')) i).b ≡ frac (whole_at (b ++ b') i) (scale_at all_scales (width + i))

  first_side : (i : ℕ) → i < length rows → HasSide i
  first_side i l =
      ap (λ (r : Row). r.b) (first_row i l) ∙ w.sides.sides i l
      ∙ (λ t. frac (sym (get_or_append_left b b' (pos 0) i (let e = w.sides_size in omega arith)) t) (sym (first_scale (width + i) (omega arith)) t))

  later_side : (i : ℕ) → i < length rows' → HasSide (length rows + i)
  later_side i l =
      let e : length rows + i ≡ length b + i = (let e = w.sides_size in omega arith) in
      ap (λ (r : Row). r.b) (later_row i) ∙ v.sides.sides i l
      ∙ (λ t. frac (sym (ap (whole_at (b ++ b')) e ∙ get_or-append-add b b' i (pos 0)) t) (sym (later_scale i) t))

  pub both_whole : IsWholeSystem (wide width (rows ++ rows')) (k ++ drop width k') (a ++ a') (b ++ b')
  unfolding all_scales
  both_whole = record {
    entries_size = (let e = length-append a a' in let f = ap (λ n. n * width) (length-append rows rows') in let g : length a ≡ length rows * width = w.entries_size in let h : length a' ≡ length rows' * width = v.entries_size in omega arith);
    sides_size = (let e = length-append b b' in let f = length-append rows rows' in let g = w.sides_size in let h = v.sides_size in omega arith);
    scales = record {
      size = (let e = length-append k (drop width k') in let f = length-append rows rows' in let g = w.scales.size in let h = v.scales.size in let i = length-drop width k' in omega arith);
      own = λ j h. first_scale j (omega arith) ∙ w.scales.own j h;
      some = λ x h. some_scale x h (cases_lt x (width + length rows));
      small = of_both (λ n. n ≤ 2 ^ 40) 0 k (drop width k') w.scales.small (of_later (λ n. n ≤ 2 ^ 40) 0 width k' v.scales.small);
    };
    entries = λ i j l h. each_row (HasEntry j) (first_entry j h) (later_entry j h) i l;
    sides = record { sides = each_row HasSide first_side later_side };
  }
    where
      some_scale : (x : ℕ) → x < width + length (rows ++ rows') → (x < width + length rows) ⊎ (width + length rows ≤ x) → 0 < scale_at all_scales x
      some_scale x h (inl l) = subst (λ n. 0 < n) (sym (first_scale x l)) (w.scales.some x l)
      some_scale x h (inr l) =
          let i = x - (width + length rows) in
          let e : width + (length rows + i) ≡ x = omega arith in
          subst (λ n. 0 < scale_at all_scales n) e (subst (λ n. 0 < n) (sym (later_scale i)) (v.scales.some (width + i) (let q = length-append rows rows' in omega arith)))

pub both_sizes : (entry side scale width : ℕ) (k k' : List ℕ) (a a' b b' : List ℤ) → HasSizes entry side scale k a b → HasSizes entry side scale k' a' b' → HasSizes entry side scale (k ++ drop width k') (a ++ a') (b ++ b')
both_sizes entry side scale width k k' a a' b b' h g = record {
  entries = record { each = of_both (λ z. unsigned_abs z ≤ entry) (pos 0) a a' h.entries.each g.entries.each };
  sides = record { each = of_both (λ z. unsigned_abs z ≤ side) (pos 0) b b' h.sides.each g.sides.each };
  scales = of_both (λ n. n ≤ scale) 0 k (drop width k') h.scales (of_later (λ n. n ≤ scale) 0 width k' g.scales);
}
