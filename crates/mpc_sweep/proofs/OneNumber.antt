-- The numbers of a row after a sweep, one by one.
use Rattle.std.proofs.Common.{◌≡◌, ◌≢◌, ℕ, ◌+◌, ◌-◌, ◌*◌, ◌<◌, ◌≤◌, ◌^◌, List, [], ◌∷◌, length, get_or, set, ℤ, pos, ◌+ℤ◌, ◌*ℤ◌, neg_ℤ, negsuc, unsigned_abs, refl, sym, ◌∙◌, ap, subst, arith, ◌⊎◌, inl, inr, get_or-set_same, get_or-set_other, to_z, of_z, le_trans}
use Rattle.std.specs.Int.{w64}
use Rattle.std.specs.List.{between}
use Rattle.std.proofs.lemmas.Bool.{cases_eq, cases_lt}
use Rattle.std.proofs.lemmas.List.{get_or_past}
use Rattle.std.proofs.lemmas.List.Edits.{get_or-between, length-between}
use Rattle.mpc_exact.proofs.IntRing.{int_reads, by_ring_ℤ}
use Rattle.mpc_runs.specs.WholeNumbers.{turned}
use Rattle.mpc_scaled.specs.Scaled.{whole_at, whole_cell, IsSmall}
use Rattle.mpc_runs.proofs.WholeWidths.{read_small}
use Rattle.mpc_sweep.specs.Steps.{IsNumber, IsOwn, IsScaled, IsChanged, AreWritten}

-- a number that is read from a list of small ones
pub read_at : (v : List ℤ) → IsSmall (2 ^ 62) v → (k : ℕ) → to_z w64 (of_z w64 (get_or v k (pos 0))) ≡ whole_at v k
read_at v h k = read_small (whole_at v k) (h.each k)

-- a greater bound
pub small_within : (a b : ℕ) (v : List ℤ) → a ≤ b → IsSmall a v → IsSmall b v
small_within a b v l h = record { each = λ k. le_trans (h.each k) l }

pub written_within : (a b first count : ℕ) (is : ℕ → ℤ → Type 0) (old new : List ℤ) → a ≤ b → AreWritten a first count is old new → AreWritten b first count is old new
written_within a b first count is old new l h = record { kept = h.kept; numbers = h.numbers; small = λ j m n. le_trans (h.small j m n) l }

-- one number more
module _ (most first j : ℕ) (is : ℕ → ℤ → Type 0) (old now : List ℤ) (h : AreWritten most first j is old now) (front : first ≤ j) (inside : j < length now) (z : ℤ) (small : unsigned_abs z ≤ most) (this : is j z) where
  here : (P : ℤ → Type 0) → P z → P (whole_at (set now j z) j)
  here P = subst P (sym (get_or-set_same now j z (pos 0) inside))

  elsewhere : (k : ℕ) → k ≢ j → whole_at (set now j z) k ≡ whole_at now k
  elsewhere k n = get_or-set_other now j k z (pos 0) n

  pub one_written : AreWritten most first (j + 1) is old (set now j z)
  one_written = record {
    kept = λ k l. elsewhere k (λ e. omega arith) ∙ h.kept k l;
    numbers = λ k l m. number k l m (cases_eq k j);
    small = λ k l m. size k l m (cases_eq k j);
  }
    where
      number : (k : ℕ) → first ≤ k → k < j + 1 → (k ≡ j) ⊎ (k ≡ j → ⊥) → is k (whole_at (set now j z) k)
      number k l m (inl e) = subst (λ u. is u (whole_at (set now j z) u)) (sym e) (here (is j) this)
      number k l m (inr e) = subst (is k) (sym (elsewhere k e)) (h.numbers k l (omega arith))

      size : (k : ℕ) → first ≤ k → k < j + 1 → (k ≡ j) ⊎ (k ≡ j → ⊥) → unsigned_abs (whole_at (set now j z) k) ≤ most
      size k l m (inl e) = subst (λ u. unsigned_abs (whole_at (set now j z) u) ≤ most) (sym e) (here (λ y. unsigned_abs y ≤ most) small)
      size k l m (inr e) = subst (λ y. unsigned_abs y ≤ most) (sym (elsewhere k e)) (h.small k l (omega arith))

-- fewer numbers, and what they are in other words
pub written_as : (most first count longer : ℕ) (is also : ℕ → ℤ → Type 0) (old new : List ℤ) → count ≤ longer → ((j : ℕ) (z : ℤ) → j < count → is j z → also j z) → AreWritten most first longer is old new → AreWritten most first count also old new
written_as most first count longer is also old new few f h = record {
  kept = h.kept;
  numbers = λ j l m. f j (whole_at new j) m (h.numbers j l (omega arith));
  small = λ j l m. h.small j l (omega arith);
}

-- ---- rows as parts of the table
module _ (v : List ℤ) (start columns : ℕ) where
  pub cell_of_row : (j : ℕ) → j < columns → whole_at (between start (start + columns) v) j ≡ whole_at v (start + j)
  cell_of_row j h = get_or-between v start (start + columns) j (pos 0) (omega arith)

-- a row is as long as it has to be, and small
pub row_size : (v : List ℤ) (start columns : ℕ) → start + columns ≤ length v → length (between start (start + columns) v) ≡ columns
row_size v start columns h = length-between v start (start + columns) h ∙ (let e : start + columns - start ≡ columns = omega arith in e)

pub row_small : (most : ℕ) (v : List ℤ) (start columns : ℕ) → start + columns ≤ length v → IsSmall most v → IsSmall most (between start (start + columns) v)
row_small most v start columns h s = record { each = λ k. by k (cases_lt k columns) }
  where
    by : (k : ℕ) → (k < columns) ⊎ (columns ≤ k) → unsigned_abs (whole_at (between start (start + columns) v) k) ≤ most
    by k (inl l) = subst (λ z. unsigned_abs z ≤ most) (sym (cell_of_row v start columns k l)) (s.each (start + k))
    by k (inr l) = subst (λ z. unsigned_abs z ≤ most) (sym (get_or_past (between start (start + columns) v) k (pos 0) (let e = row_size v start columns h in omega arith))) (omega arith)

no_product : (y s f x : ℤ) → f ≡ pos 0 → (y *ℤ s) +ℤ neg_ℤ (f *ℤ x) ≡ y *ℤ s
no_product y s f x e = ap (λ u. (y *ℤ s) +ℤ neg_ℤ (u *ℤ x)) e ∙ by_ring_ℤ (y ∷ s ∷ x ∷ []) (search int_reads depth 30) (search int_reads depth 30) tt

turned_zero : (q : ℤ) → turned q (pos 0) ≡ pos 0
turned_zero (pos n) = refl
turned_zero (negsuc n) = refl

-- nothing is taken away
pub no_factor : (x d : ℤ) → (x *ℤ d) +ℤ neg_ℤ (pos 0 *ℤ pos 0) ≡ x *ℤ d
no_factor x d = no_product x d (pos 0) (pos 0) refl

module _ (width den by : ℕ) (v : List ℤ) (p columns : ℕ) (column : p < columns) where
  abbrev top : List ℤ
  top = between (p * width) (p * width + columns) v

  pub pivot_of_row : whole_at top p ≡ whole_cell width v p p
  pivot_of_row = cell_of_row v (p * width) columns p column

  -- the row of the sweep
  pub own_number : (i j : ℕ) (z : ℤ) → i ≡ p → j < columns → IsOwn den by top p j z → IsNumber width den by v p i j z
  own_number i j z e m w = record {
    own = λ _. w ∙ (λ t. turned (pivot_of_row t) (cell_of_row v (p * width) columns j m t) *ℤ pos den);
    other = λ n. absurd (n e);
  }

  -- and another row
  module _ (i : ℕ) (n : i ≢ p) where
    abbrev row : List ℤ
    row = between (i * width) (i * width + columns) v

    pub other_number : (j : ℕ) (z : ℤ) → j < columns → IsChanged by row top p j z → IsNumber width den by v p i j z
    other_number j z m w = record {
      own = λ e. absurd (n e);
      other = λ _. w ∙ (λ t. (at j m t *ℤ pos (unsigned_abs (pivot_of_row t))) +ℤ neg_ℤ (turned (pivot_of_row t) (at p column t) *ℤ cell_of_row v (p * width) columns j m t));
    }
      where
        at : (k : ℕ) → k < columns → whole_at row k ≡ whole_cell width v i k
        at k l = cell_of_row v (i * width) columns k l

    -- which is scaled where it has nothing in the column of the sweep
    pub scaled_number : (j : ℕ) (z : ℤ) → j < columns → whole_at row p ≡ pos 0 → IsScaled by (unsigned_abs (whole_at top p)) row j z → IsNumber width den by v p i j z
    scaled_number j z m none e = other_number j z m
        (e ∙ sym (no_product (whole_at row j) (pos (unsigned_abs (whole_at top p))) (turned (whole_at top p) (whole_at row p)) (whole_at top j) (ap (turned (whole_at top p)) none ∙ turned_zero (whole_at top p))))
