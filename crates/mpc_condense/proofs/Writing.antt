-- How loops write a block of a matrix, entry by entry and row by row.
use Rattle.std.proofs.Common.{◌≡◌, ◌≢◌, ℕ, ◌+◌, ◌<◌, ◌≤◌, [], ◌∷◌, length, get_or, set, pos, refl, sym, ◌∙◌, ap, subst, arith, ◌⊎◌, inl, inr, ⊎_elim, Result, Ok, Err, IfOk, OnOk, MatchResult}
use Rattle.std.proofs.Math.ListN.{length-set}
use Rattle.std.proofs.lemmas.Bool.{cases_eq}
use Rattle.std.proofs.lemmas.List.{get_or-set_same, get_or-set_other}
use Rattle.std.proofs.lemmas.List.Elements.{All-set}
use Rattle.mpc_exact.specs.Rational.{ℚ, int, ◌+ℚ◌, ◌-ℚ◌, neg_ℚ}
use Rattle.mpc_exact.proofs.RationalRing.{reads, by_ring}
use Rattle.mpc_space.specs.Vector.{coordinate}
use Rattle.mpc_space.specs.Matrix.{RationalMatrix, height, IsRectangular, entry}
use Rattle.mpc_frac.specs.Fits.{FitsSum}
use Rattle.mpc_linear.specs.Entries.{with_entry}
use Rattle.mpc_condense.specs.declared.errors.StageError.{StageError}
use Rattle.mpc_condense.specs.declared.errors.StageError.TheVariants.{TooWide, OutOfMemory}
use Rattle.mpc_condense.specs.Causes.{IfTooWide}
use Rattle.mpc_condense.specs.Blocks.{IsInBlock, WritesBlock, AllInBlock}

-- ---- one entry
module _ (m : RationalMatrix) (i j : ℕ) (v : ℚ) where
  pub with_entry-same : i < height m → j < m.columns → IsRectangular m → entry (with_entry m i j v) i j ≡ v
  with_entry-same a b r =
      ap (λ row. coordinate row j) (get_or-set_same m.rows i (set (get_or m.rows i []) j v) [] a)
      ∙ get_or-set_same (get_or m.rows i []) j v (int (pos 0)) (omega (arith, r i [] a))

  pub with_entry-row : (k : ℕ) → i < height m → k ≢ j → entry (with_entry m i j v) i k ≡ entry m i k
  with_entry-row k a other =
      ap (λ row. coordinate row k) (get_or-set_same m.rows i (set (get_or m.rows i []) j v) [] a)
      ∙ get_or-set_other (get_or m.rows i []) j k v (int (pos 0)) other

  pub with_entry-others : (r k : ℕ) → r ≢ i → entry (with_entry m i j v) r k ≡ entry m r k
  with_entry-others r k other = ap (λ row. coordinate row k) (get_or-set_other m.rows i r (set (get_or m.rows i []) j v) [] other)

  pub with_entry-rectangular : i < height m → IsRectangular m → IsRectangular (with_entry m i j v)
  with_entry-rectangular a r = All-set (λ row. length row ≡ m.columns) m.rows i (set (get_or m.rows i []) j v) (length-set (get_or m.rows i []) j v ∙ r i [] a) r

-- ---- blocks
pub writes_no_row : (old : RationalMatrix) (r c0 c1 : ℕ) (f : ℕ → ℕ → ℚ) → IsRectangular old → WritesBlock old old r r c0 c1 f
writes_no_row old r c0 c1 f s = record { height_is = refl; columns_is = refl; rectangular = s; inside = λ a b h. absurd (omega arith); outside = λ a b h. refl }

pub writes_no_column : (old : RationalMatrix) (r0 r1 c : ℕ) (f : ℕ → ℕ → ℚ) → IsRectangular old → WritesBlock old old r0 r1 c c f
writes_no_column old r0 r1 c f s = record { height_is = refl; columns_is = refl; rectangular = s; inside = λ a b h. absurd (omega arith); outside = λ a b h. refl }

in_row : (i c0 k a b : ℕ) → IsInBlock i (i + 1) c0 (k + 1) a b → ((a ≡ i) × (b ≡ k)) ⊎ IsInBlock i (i + 1) c0 k a b
in_row i c0 k a b h = ⊎_elim
    (λ e. inl (omega arith, e))
    (λ e. inr (record { from_row = h.from_row; to_row = h.to_row; from_column = h.from_column; to_column = omega arith }))
    (cases_eq b k)

one_more : (i c0 k a b : ℕ) → IsInBlock i (i + 1) c0 k a b → IsInBlock i (i + 1) c0 (k + 1) a b
one_more i c0 k a b h = record { from_row = h.from_row; to_row = h.to_row; from_column = h.from_column; to_column = omega arith }

pub writes_entry : (old m : RationalMatrix) (i c0 k : ℕ) (v : ℚ) (f : ℕ → ℕ → ℚ) → i < height old → c0 ≤ k → k < old.columns → v ≡ f i k →
    WritesBlock old m i (i + 1) c0 k f → WritesBlock old (with_entry m i k v) i (i + 1) c0 (k + 1) f
writes_entry old m i c0 k v f l start n e w = record {
  height_is = length-set m.rows i (set (get_or m.rows i []) k v) ∙ w.height_is;
  columns_is = w.columns_is;
  rectangular = with_entry-rectangular m i k v row_in w.rectangular;
  inside = λ a b h. ⊎_elim
      (λ p. subst (λ z. entry (with_entry m i k v) z b ≡ f z b) (sym p.0) (subst (λ z. entry (with_entry m i k v) i z ≡ f i z) (sym p.1) (with_entry-same m i k v row_in column_in w.rectangular ∙ e)))
      (λ p. other a b (λ q r. omega (arith, p.to_column)) ∙ w.inside a b p)
      (in_row i c0 k a b h);
  outside = λ a b h. other a b (λ q r. h (record { from_row = omega arith; to_row = omega arith; from_column = omega arith; to_column = omega arith })) ∙ w.outside a b (λ p. h (one_more i c0 k a b p));
}
  where
    row_in : i < height m
    row_in = omega (arith, w.height_is)

    column_in : k < m.columns
    column_in = omega (arith, w.columns_is)

    other : (a b : ℕ) → (a ≡ i → b ≡ k → ⊥) → entry (with_entry m i k v) a b ≡ entry m a b
    other a b h = ⊎_elim
        (λ p. subst (λ z. entry (with_entry m i k v) z b ≡ entry m z b) (sym p) (with_entry-row m i k v b row_in (λ q. h p q)))
        (λ p. with_entry-others m i k v a b p)
        (cases_eq a i)

pub writes_row : (old m new : RationalMatrix) (r0 i c0 c1 : ℕ) (f g : ℕ → ℕ → ℚ) → r0 ≤ i → WritesBlock old m r0 i c0 c1 f → WritesBlock m new i (i + 1) c0 c1 g →
    ((b : ℕ) → c0 ≤ b → b < c1 → g i b ≡ f i b) → WritesBlock old new r0 (i + 1) c0 c1 f
writes_row old m new r0 i c0 c1 f g l w n e = record {
  height_is = n.height_is ∙ w.height_is;
  columns_is = n.columns_is ∙ w.columns_is;
  rectangular = n.rectangular;
  inside = λ a b h. ⊎_elim
      (λ p. subst (λ z. entry new z b ≡ f z b) (sym p)
      (n.inside i b (record { from_row = omega arith; to_row = omega arith; from_column = h.from_column; to_column = h.to_column }) ∙ e b h.from_column h.to_column))
      (λ p. n.outside a b (λ q. p (omega (arith, q.from_row, q.to_row))) ∙ w.inside a b (record { from_row = h.from_row; to_row = omega (arith, h.to_row); from_column = h.from_column; to_column = h.to_column }))
      (cases_eq a i);
  outside = λ a b h.
      n.outside a b (λ q. h (record { from_row = omega (arith, q.from_row); to_row = q.to_row; from_column = q.from_column; to_column = q.to_column }))
      ∙ w.outside a b (λ q. h (record { from_row = q.from_row; to_row = omega (arith, q.to_row); from_column = q.from_column; to_column = q.to_column }));
}

-- ---- facts
-- the same, where the matrix and the end of the block are known by equations
pub writes_entry_as : (old m new : RationalMatrix) (i c0 k c1 : ℕ) (v : ℚ) (f : ℕ → ℕ → ℚ) → new ≡ with_entry m i k v → c1 ≡ k + 1 → i < height old → c0 ≤ k → k < old.columns → v ≡ f i k →
    WritesBlock old m i (i + 1) c0 k f → WritesBlock old new i (i + 1) c0 c1 f
writes_entry_as old m new i c0 k c1 v f a b l start n e w =
    subst (λ z. WritesBlock old z i (i + 1) c0 c1 f) (sym a) (subst (λ z. WritesBlock old (with_entry m i k v) i (i + 1) c0 z f) (sym b) (writes_entry old m i c0 k v f l start n e w))

pub writes_row_as : (old m new : RationalMatrix) (r0 i r1 c0 c1 : ℕ) (f g : ℕ → ℕ → ℚ) → r1 ≡ i + 1 → r0 ≤ i → WritesBlock old m r0 i c0 c1 f → WritesBlock m new i (i + 1) c0 c1 g →
    ((b : ℕ) → c0 ≤ b → b < c1 → g i b ≡ f i b) → WritesBlock old new r0 r1 c0 c1 f
writes_row_as old m new r0 i r1 c0 c1 f g a l w n e = subst (λ z. WritesBlock old new r0 z c0 c1 f) (sym a) (writes_row old m new r0 i c0 c1 f g l w n e)

-- an entry that isn't written yet
pub unwritten : (old m : RationalMatrix) (r0 r1 c0 c1 : ℕ) (f : ℕ → ℕ → ℚ) (a b : ℕ) → WritesBlock old m r0 r1 c0 c1 f → (IsInBlock r0 r1 c0 c1 a b → ⊥) → entry m a b ≡ entry old a b
unwritten old m r0 r1 c0 c1 f a b w h = w.outside a b h

pub unwritten_row : (old m : RationalMatrix) (r0 i c0 c1 : ℕ) (f : ℕ → ℕ → ℚ) (b : ℕ) → WritesBlock old m r0 i c0 c1 f → entry m i b ≡ entry old i b
unwritten_row old m r0 i c0 c1 f b w = w.outside i b (λ h. omega (arith, h.to_row))

pub unwritten_entry : (old m : RationalMatrix) (i c0 k : ℕ) (f : ℕ → ℕ → ℚ) → WritesBlock old m i (i + 1) c0 k f → entry m i k ≡ entry old i k
unwritten_entry old m i c0 k f w = w.outside i k (λ h. omega (arith, h.to_column))

pub all_no_row : (r c0 c1 : ℕ) (F : ℕ → ℕ → Type 0) → AllInBlock r r c0 c1 F
all_no_row r c0 c1 F = record { each = λ a b h. absurd (omega (arith, h.from_row, h.to_row)) }

pub all_no_column : (r0 r1 c : ℕ) (F : ℕ → ℕ → Type 0) → AllInBlock r0 r1 c c F
all_no_column r0 r1 c F = record { each = λ a b h. absurd (omega (arith, h.from_column, h.to_column)) }

pub all_entry : (i c0 k : ℕ) (F : ℕ → ℕ → Type 0) → F i k → AllInBlock i (i + 1) c0 k F → AllInBlock i (i + 1) c0 (k + 1) F
all_entry i c0 k F x w = record {
  each = λ a b h. ⊎_elim
      (λ p. subst (λ z. F z b) (sym p.0) (subst (F i) (sym p.1) x))
      (λ p. w.each a b p)
      (in_row i c0 k a b h);
}

pub all_entry_as : (i c0 k c1 : ℕ) (F : ℕ → ℕ → Type 0) → c1 ≡ k + 1 → F i k → AllInBlock i (i + 1) c0 k F → AllInBlock i (i + 1) c0 c1 F
all_entry_as i c0 k c1 F e x w = subst (λ z. AllInBlock i (i + 1) c0 z F) (sym e) (all_entry i c0 k F x w)

pub all_to : (r0 r1 c0 c1 r c : ℕ) (F : ℕ → ℕ → Type 0) → r1 ≡ r → c1 ≡ c → AllInBlock r0 r1 c0 c1 F → AllInBlock r0 r c0 c F
all_to r0 r1 c0 c1 r c F e f w = subst (λ z. AllInBlock r0 r c0 z F) f (subst (λ z. AllInBlock r0 z c0 c1 F) e w)

pub writes_to : (old new : RationalMatrix) (r0 r1 c0 c1 r c : ℕ) (f : ℕ → ℕ → ℚ) → r1 ≡ r → c1 ≡ c → WritesBlock old new r0 r1 c0 c1 f → WritesBlock old new r0 r c0 c f
writes_to old new r0 r1 c0 c1 r c f p q w = subst (λ z. WritesBlock old new r0 r c0 z f) q (subst (λ z. WritesBlock old new r0 z c0 c1 f) p w)

pub not_entry : (i c0 c1 k : ℕ) (F : ℕ → ℕ → Type 0) → c0 ≤ k → k < c1 → (F i k → ⊥) → AllInBlock i (i + 1) c0 c1 F → ⊥
not_entry i c0 c1 k F l n x w = x (w.each i k (record { from_row = omega arith; to_row = omega arith; from_column = l; to_column = n }))

pub all_row : (r0 i c0 c1 : ℕ) (F G : ℕ → ℕ → Type 0) → ((b : ℕ) → c0 ≤ b → b < c1 → G i b → F i b) → AllInBlock i (i + 1) c0 c1 G → AllInBlock r0 i c0 c1 F → AllInBlock r0 (i + 1) c0 c1 F
all_row r0 i c0 c1 F G e x w = record {
  each = λ a b h. ⊎_elim
      (λ p. subst (λ z. F z b) (sym p) (e b h.from_column h.to_column (x.each i b (record { from_row = omega arith; to_row = omega arith; from_column = h.from_column; to_column = h.to_column }))))
      (λ p. w.each a b (record { from_row = h.from_row; to_row = omega (arith, h.to_row); from_column = h.from_column; to_column = h.to_column }))
      (cases_eq a i);
}

pub all_row_as : (r0 i r1 c0 c1 : ℕ) (F G : ℕ → ℕ → Type 0) → r1 ≡ i + 1 → ((b : ℕ) → c0 ≤ b → b < c1 → G i b → F i b) → AllInBlock i (i + 1) c0 c1 G → AllInBlock r0 i c0 c1 F → AllInBlock r0 r1 c0 c1 F
all_row_as r0 i r1 c0 c1 F G a e x w = subst (λ z. AllInBlock r0 z c0 c1 F) (sym a) (all_row r0 i c0 c1 F G e x w)

pub not_row : (r0 r1 i c0 c1 : ℕ) (F G : ℕ → ℕ → Type 0) → r0 ≤ i → i < r1 → ((b : ℕ) → c0 ≤ b → b < c1 → F i b → G i b) → (AllInBlock i (i + 1) c0 c1 G → ⊥) → AllInBlock r0 r1 c0 c1 F → ⊥
not_row r0 r1 i c0 c1 F G l n e x w = x (record {
  each = λ a b h.
      let p : i ≡ a = omega (arith, h.from_row, h.to_row) in
      subst (λ z. G z b) p (e b h.from_column h.to_column (w.each i b (record { from_row = l; to_row = n; from_column = h.from_column; to_column = h.to_column })));
})

-- ---- the first column, row by row
pub writes_first_of_row : (old m new : RationalMatrix) (r0 i r1 : ℕ) (v : ℚ) (f : ℕ → ℕ → ℚ) → new ≡ with_entry m i 0 v → r1 ≡ i + 1 → r0 ≤ i → i < height old → 0 < old.columns → v ≡ f i 0 →
    WritesBlock old m r0 i 0 1 f → WritesBlock old new r0 r1 0 1 f
writes_first_of_row old m new r0 i r1 v f a b l within some e w =
    writes_row_as old m new r0 i r1 0 1 f f b l w
    (writes_entry_as m m new i 0 0 1 v f a (omega arith) (omega (arith, w.height_is)) (omega arith) (omega (arith, w.columns_is)) e (writes_no_column m i (i + 1) 0 f w.rectangular))
    (λ b _ _. refl)

pub all_first_of_row : (r0 i r1 : ℕ) (F : ℕ → ℕ → Type 0) → r1 ≡ i + 1 → r0 ≤ i → F i 0 → AllInBlock r0 i 0 1 F → AllInBlock r0 r1 0 1 F
all_first_of_row r0 i r1 F a l x w = all_row_as r0 i r1 0 1 F F a (λ b _ _ h. h) (all_entry_as i 0 0 1 F (omega arith) x (all_no_column i (i + 1) 0 F)) w

pub not_first_of_row : (r0 r1 i : ℕ) (F : ℕ → ℕ → Type 0) → r0 ≤ i → i < r1 → (F i 0 → ⊥) → AllInBlock r0 r1 0 1 F → ⊥
not_first_of_row r0 r1 i F l n x w = x (w.each i 0 (record { from_row = l; to_row = n; from_column = omega arith; to_column = omega arith }))

-- a dot that starts from 0
pub zero_plus : (z d : ℚ) → z ≡ int (pos 0) → z +ℚ d ≡ d
zero_plus z d e = ap (λ u. u +ℚ d) e ∙ by_ring (d ∷ []) (search reads depth 30) (search reads depth 30) tt

-- the product and the sum that the code forms
pub sum_is : (g p s x y : ℚ) → g ≡ x → p ≡ y → s ≡ g +ℚ p → s ≡ x +ℚ y
sum_is g p s x y a b e = e ∙ (λ t. a t +ℚ b t)

pub fits_sum_as : (g p x y : ℚ) → g ≡ x → p ≡ y → FitsSum g p → FitsSum x y
fits_sum_as g p x y a b h = subst (λ z. FitsSum z y) a (subst (FitsSum g) b h)

-- and the difference
pub difference_is : (b p v x y : ℚ) → b ≡ x → p ≡ y → v ≡ b +ℚ neg_ℚ p → v ≡ x -ℚ y
difference_is b p v x y e f g = g ∙ (λ t. e t -ℚ f t)

pub fits_difference_as : (b p x y : ℚ) → b ≡ x → p ≡ y → FitsSum b (neg_ℚ p) → FitsSum x (neg_ℚ y)
fits_difference_as b p x y e f h = subst (λ z. FitsSum z (neg_ℚ y)) e (subst (λ z. FitsSum b (neg_ℚ z)) f h)

-- ---- results
pub if_too_wide : (e : StageError) (P : Type 0) → P → IfTooWide P e
if_too_wide TooWide P h = h
if_too_wide OutOfMemory P h = tt

pub value_as : {T E : Type 0} (r : Result T E) (a b : T) → a ≡ b → IfOk r (λ v. v ≡ a) → IfOk r (λ v. v ≡ b)
value_as (Ok v) a b e h = h ∙ e
value_as (Err x) a b e h = h

pub fits_as : {T E : Type 0} (r : Result T E) (P Q : Type 0) → (P → Q) → (Q → P) → MatchResult r (λ _. P) (λ _. ¬ P) → MatchResult r (λ _. Q) (λ _. ¬ Q)
fits_as (Ok v) P Q f g h = f h
fits_as (Err x) P Q f g h = λ q. h (g q)

pub on_ok_as : {T E : Type 0} (r : Result T E) (P Q : Type 0) → (P → Q) → OnOk r P → OnOk r Q
on_ok_as (Ok v) P Q f h = f h
on_ok_as (Err e) P Q f h = h
