-- A table before its first sweep, as it is read.
use Rattle.std.proofs.Common.{◌≡◌, ℕ, suc, ◌+◌, ◌-◌, ◌*◌, ◌^◌, ◌<◌, ◌≤◌, List, [], ◌∷◌, ◌++◌, length, ℤ, pos, ◌+ℤ◌, ◌*ℤ◌, unsigned_abs, Option, Some, None, IfSome, refl, sym, ◌∙◌, ap, subst, arith, ◌⊎◌, inl, inr, ⊎_elim, length-append, le_trans}
use Rattle.std.proofs.lemmas.Bool.{cases_lt, cases_eq}
use Rattle.std.proofs.lemmas.List.{get_or_append_left, get_or_past}
use Rattle.std.proofs.Math.Seq.{get_or-append_seam}
use Rattle.std.proofs.Math.Nat.{suc-mul}
use Rattle.mpc_exact.specs.Rational.{ℚ, frac, denom_positive, frac_self}
use Rattle.mpc_exact.proofs.Rational.{same_frac}
use Rattle.mpc_exact.proofs.IntRing.{int_reads, by_ring_ℤ}
use Rattle.mpc_space.specs.Matrix.{RationalMatrix, height, entry}
use Rattle.mpc_linear.specs.Elimination.{Table}
use Rattle.mpc_scaled.specs.Scaled.{whole_at, whole_cell, IsSmall}
use Rattle.mpc_sweep.specs.declared.numbers.Swept.{Swept}
use Rattle.mpc_sweep.specs.Sweeps.{swept}
use Rattle.mpc_sweep.specs.Numbers.{told_columns, number, IsTable, IsSwept}
use Rattle.mpc_sweep.specs.Reading.{AreBehind, HasNumbers}
use Rattle.mpc_sweep.proofs.AllRows.{row_below}

pub if_some : {A : Type 0} (o : Option A) (P Q : A → Type 0) → IfSome o P → ((a : A) → P a → Q a) → IfSome o Q
if_some (Some a) P Q h f = f a h
if_some None P Q h f = tt

pub if_some_at : {A : Type 0} (o : Option A) (P : A → Type 0) (a : A) → IfSome o P → o ≡ Some a → P a
if_some_at o P a h e = subst (λ u. IfSome u P) e h

swept-none : (t : Table) → swept t [] ≡ t
unfolding swept
swept-none t = refl

-- a fraction times a scale
plus_none : (z : ℤ) → z +ℤ pos 0 ≡ z
plus_none z = by_ring_ℤ (z ∷ []) (search int_reads depth 30) (search int_reads depth 30) tt

pub over_scale : (x : ℚ) (scale : ℕ) (z : ℤ) → 0 < scale → z *ℤ pos x.denom ≡ (x.numer *ℤ pos scale) +ℤ pos 0 → x ≡ frac z scale
over_scale x scale z some e = sym (frac_self x) ∙ same_frac x.numer x.denom z scale (denom_positive x) some (sym (plus_none (x.numer *ℤ pos scale)) ∙ sym e)

-- ---- one more number behind a list
module _ (old now : List ℤ) (f : ℕ → ℚ) (n scale : ℕ) (h : AreBehind old now f n scale) (z : ℤ) (value : f n ≡ frac z scale) (z_small : unsigned_abs z ≤ 2 ^ 58) where
  abbrev more : List ℤ
  more = now ++ z ∷ []

  last_is : (j : ℕ) → j ≡ n → whole_at more (length old + j) ≡ z
  last_is j e = let q : length old + j ≡ length now = omega (arith, h.size) in ap (whole_at more) q ∙ get_or-append_seam now z [] (pos 0)

  before_is : (k : ℕ) → k < length now → whole_at more k ≡ whole_at now k
  before_is k l = get_or_append_left now (z ∷ []) (pos 0) k l

  pub one_behind : AreBehind old more f (n + 1) scale
  one_behind = record {
    size = omega (arith, h.size, length-append now (z ∷ []));
    kept = λ k l. before_is k (omega (arith, h.size)) ∙ h.kept k l;
    numbers = λ j l. ⊎_elim
        (λ e. ap f e ∙ value ∙ ap (λ u. frac u scale) (sym (last_is j e)))
        (λ e. h.numbers j (omega arith) ∙ ap (λ u. frac u scale) (sym (before_is (length old + j) (omega (arith, h.size)))))
        (cases_eq j n);
    small = λ j l. ⊎_elim
        (λ e. subst (λ u. unsigned_abs u ≤ 2 ^ 58) (sym (last_is j e)) z_small)
        (λ e. subst (λ u. unsigned_abs u ≤ 2 ^ 58) (sym (before_is (length old + j) (omega (arith, h.size)))) (h.small j (omega arith)))
        (cases_eq j n);
  }

-- ---- one more row
module _ (m : RationalMatrix) (i scale : ℕ) (old new : List ℤ) (h : HasNumbers m i scale old) (b : AreBehind old new (entry m i) m.columns scale) where
  pub row_read : HasNumbers m (i + 1) scale new
  row_read = record {
    size = let e : i + 1 ≡ suc i = omega arith in b.size ∙ ap (λ u. u + m.columns) h.size ∙ sym (ap (λ u. u * m.columns) e ∙ suc-mul i m.columns);
    numbers = λ r j l c. ⊎_elim
        (λ e. ap (λ u. entry m u j) e ∙ b.numbers j c ∙ ap (λ u. frac u scale) (ap (λ u. whole_at new (u + j)) (h.size ∙ ap (λ u. u * m.columns) (sym e))))
        (λ e.
        let d : r < i = omega arith in
        let f : r * m.columns + j < i * m.columns + 0 = row_below m.columns r i 0 j d (omega arith) in
        h.numbers r j d c ∙ ap (λ u. frac u scale) (sym (b.kept (r * m.columns + j) (omega (arith, h.size)))))
        (cases_eq r i);
    small = λ k l. ⊎_elim
        (λ d. subst (λ u. unsigned_abs u ≤ 2 ^ 58) (sym (b.kept k d)) (h.small k d))
        (λ d.
        let e : length old + (k - length old) ≡ k = omega arith in
        subst (λ u. unsigned_abs (whole_at new u) ≤ 2 ^ 58) e (b.small (k - length old) (omega (arith, b.size))))
        (cases_lt k (length old));
  }

-- all of them are small
pub numbers_small : (m : RationalMatrix) (count scale : ℕ) (v : List ℤ) → HasNumbers m count scale v → IsSmall (2 ^ 62) v
numbers_small m count scale v h = record { each = λ k. le_trans (by k (cases_lt k (length v))) (omega arith) }
  where
    by : (k : ℕ) → (k < length v) ⊎ (length v ≤ k) → unsigned_abs (whole_at v k) ≤ 2 ^ 58
    by k (inl l) = h.small k l
    by k (inr l) = subst (λ u. unsigned_abs u ≤ 2 ^ 58) (sym (get_or_past v k (pos 0) l)) (omega arith)

-- ---- the table
module _ (m : RationalMatrix) (scale : ℕ) (some : 0 < scale) (scale_small : scale ≤ 2 ^ 62) (s : Swept) (rows_are : s.rows ≡ height m) (columns_are : s.columns ≡ m.columns) (first : s.first ≡ 0) (den : s.den ≡ scale)
    (h : HasNumbers m (height m) scale s.numbers.items) (most_small : s.most ≤ 2 ^ 62) (most_den : scale ≤ s.most) (most : IsSmall s.most s.numbers.items) where
  told_is : told_columns s ≡ m.columns
  told_is = (λ t. columns_are t - first t) ∙ (let e : m.columns - 0 ≡ m.columns = omega arith in e)

  number_is : (i j : ℕ) → number s i j ≡ whole_cell m.columns s.numbers.items i j
  number_is i j = λ t. whole_cell (told_is t) s.numbers.items i j

  small_at : (k : ℕ) → unsigned_abs (whole_at s.numbers.items k) ≤ 2 ^ 58
  small_at k = ⊎_elim (h.small k) (λ l. subst (λ u. unsigned_abs u ≤ 2 ^ 58) (sym (get_or_past s.numbers.items k (pos 0) l)) (omega arith)) (cases_lt k (length s.numbers.items))

  entry_is : (i j : ℕ) → i < height m → j < m.columns → entry m i j ≡ frac (number s i j) scale
  entry_is i j r c = h.numbers i j r c ∙ ap (λ u. frac u scale) (sym (number_is i j))

  first_table : IsTable s
  first_table = record {
    told = subst (λ u. u ≤ s.columns) (sym first) (omega arith);
    size = h.size ∙ (λ t. sym rows_are t * sym told_is t) ∙ (let e : s.rows * told_columns s ≡ 0 + s.rows * told_columns s = omega arith in e) ∙ ap (λ u. u + s.rows * told_columns s) (sym first);
    some_den = subst (λ u. 0 < u) (sym den) some;
    small_den = subst (λ u. u ≤ 2 ^ 62) (sym den) scale_small;
    small = record { each = λ k. le_trans (small_at k) (omega arith) };
    most_small = most_small;
    most_den = subst (λ u. u ≤ s.most) (sym den) most_den;
    most = most;
  }

  pub first_swept : IsSwept (entry m) [] (height m) m.columns 0 s
  first_swept = record {
    rows_are = rows_are;
    columns_are = columns_are;
    told = subst (λ u. u ≤ 0) (sym first) (omega arith);
    table = first_table;
    whole = record {
      scale = scale;
      numbers = number s;
      some_scale = some;
      small_scale = scale_small;
      small = λ i j r c. small_at (i * told_columns s + j);
      entries = entry_is;
    };
    entries = λ i j r front c. ap (λ (t : Table). t i j) (swept-none (entry m)) ∙ entry_is i j r c ∙ ap (frac (number s i j)) (sym den);
    rising = λ k l n o. absurd (omega arith);
    within = λ k n. absurd (omega arith);
    columns_within = λ k n. absurd (omega arith);
    pivots = λ k n. absurd (omega arith);
    fits = λ k i j n. absurd (omega arith);
  }
