-- The products of the matrix of an active set and of its right sides.
use Rattle.std.proofs.Common.{◌≡◌, ℕ, ◌+◌, ◌<◌, ◌≤◌, List, [], ◌∷◌, ◌++◌, length, get_or, pos, negsuc, refl, sym, ◌∙◌, ap, arith}
use Rattle.std.proofs.lemmas.List.{get_or_append_left, get_or-append_right}
use Rattle.std.proofs.lemmas.List.FromFn.{get_or-map-range_with_len}
use Rattle.mpc_exact.specs.Rational.{ℚ, int, ◌+ℚ◌, ◌*ℚ◌, neg_ℚ}
use Rattle.mpc_exact.proofs.Rational.{+ℚ_zero}
use Rattle.mpc_exact.proofs.RationalRing.{reads, by_ring}
use Rattle.mpc_space.specs.Vector.{coordinate, cell, column, dot, listed}
use Rattle.mpc_space.specs.Matrix.{height, entry}
use Rattle.mpc_space.specs.Total.{total}
use Rattle.mpc_space.proofs.Total.{total-same, total-split, total-zeros, total-scale}
use Rattle.mpc_space.proofs.Vector.{dot_comm}
use Rattle.mpc_space.proofs.Entries.{coordinate-listed, length-listed, dot-total_within}
use Rattle.mpc_space.proofs.Matrix.{coordinate-column}
use Rattle.mpc_rows.specs.declared.programs.Qp.{Qp}
use Rattle.mpc_rows.specs.ActiveSets.{rows_of}
use Rattle.mpc_rows.specs.SetRuns.{law_entry, law_matrix, law_side, law_right}
use Rattle.mpc_region.proofs.SharedEntries.{below, above}

-- ---- dots of listed rows
dot_listed : (n : ℕ) (f : ℕ → ℚ) (v : List ℚ) → dot (listed n f) v ≡ total n (λ j. f j *ℚ coordinate v j)
dot_listed n f v =
    dot-total_within n (listed n f) v (omega (arith, length-listed n f))
    ∙ total-same n (λ j. coordinate (listed n f) j *ℚ coordinate v j) (λ j. f j *ℚ coordinate v j) (λ j h. ap (λ u. u *ℚ coordinate v j) (coordinate-listed n f j h))

pub coordinate_behind : (z l : List ℚ) (n j : ℕ) → length z ≡ n → coordinate (z ++ l) (n + j) ≡ coordinate l j
coordinate_behind z l n j e = get_or-append_right z l n (n + j) (int (pos 0)) e (omega arith) ∙ ap (coordinate l) (omega arith)

dot_parts : (n k : ℕ) (f : ℕ → ℚ) (z l : List ℚ) → length z ≡ n → dot (listed (n + k) f) (z ++ l) ≡ total n (λ j. f j *ℚ coordinate z j) +ℚ total k (λ j. f (n + j) *ℚ coordinate l j)
dot_parts n k f z l e = dot_listed (n + k) f (z ++ l) ∙ total-split n k (λ j. f j *ℚ coordinate (z ++ l) j) ∙ (λ i. first i +ℚ second i)
  where
    first : total n (λ j. f j *ℚ coordinate (z ++ l) j) ≡ total n (λ j. f j *ℚ coordinate z j)
    first = total-same n (λ j. f j *ℚ coordinate (z ++ l) j) (λ j. f j *ℚ coordinate z j) (λ j h. ap (λ u. f j *ℚ u) (get_or_append_left z l (int (pos 0)) j (omega arith)))

    second : total k (λ j. f (n + j) *ℚ coordinate (z ++ l) (n + j)) ≡ total k (λ j. f (n + j) *ℚ coordinate l j)
    second = total-same k (λ j. f (n + j) *ℚ coordinate (z ++ l) (n + j)) (λ j. f (n + j) *ℚ coordinate l j) (λ j h. ap (λ u. f (n + j) *ℚ u) (coordinate_behind z l n j e))

-- a dot whose second vector has n entries, over any entries of the first
total_dot : (n : ℕ) (f : ℕ → ℚ) (row v : List ℚ) → length v ≤ n → ((j : ℕ) → j < n → f j ≡ coordinate row j) → total n (λ j. f j *ℚ coordinate v j) ≡ dot row v
total_dot n f row v h e =
    total-same n (λ j. f j *ℚ coordinate v j) (λ j. coordinate v j *ℚ coordinate row j)
    (λ j l. (λ i. e j l i *ℚ coordinate v j) ∙ by_ring (coordinate row j ∷ coordinate v j ∷ []) (search reads depth 30) (search reads depth 30) tt)
    ∙ sym (dot-total_within n v row h) ∙ dot_comm v row

no_terms : (k : ℕ) (f : ℕ → ℚ) (l : List ℚ) → ((j : ℕ) → f j ≡ int (pos 0)) → total k (λ j. f j *ℚ coordinate l j) ≡ int (pos 0)
no_terms k f l e = total-zeros k (λ j. f j *ℚ coordinate l j) (λ j h. (λ i. e j i *ℚ coordinate l j) ∙ by_ring (coordinate l j ∷ []) (search reads depth 30) (search reads depth 30) tt)

-- ---- the entries of the matrix and of the right sides
module _ (qp : Qp) (s : List ℕ) where
  abbrev n : ℕ
  n = height qp.h

  abbrev g : List (List ℚ)
  g = rows_of qp.g.rows s

  upper_left : (i j : ℕ) → i < n → j < n → law_entry qp s i j ≡ entry qp.h i j
  upper_left i j h k = below i n _ _ h ∙ below j n _ _ k

  upper_right : (i j : ℕ) → i < n → law_entry qp s i (n + j) ≡ cell g j i
  upper_right i j h = below i n _ _ h ∙ above (n + j) n _ _ (omega arith) ∙ ap (λ r. cell g r i) (omega arith)

  lower_left : (r j : ℕ) → j < n → law_entry qp s (n + r) j ≡ cell g r j
  lower_left r j k = above (n + r) n _ _ (omega arith) ∙ below j n _ _ k ∙ ap (λ q. cell g q j) (omega arith)

  lower_right : (r j : ℕ) → law_entry qp s (n + r) (n + j) ≡ int (pos 0)
  lower_right r j = above (n + r) n _ _ (omega arith) ∙ above (n + j) n _ _ (omega arith)

  upper_side : (i j : ℕ) → i < n → law_side qp s i j ≡ neg_ℚ (entry qp.f i j)
  upper_side i j h = below i n _ _ h

  lower_side : (r j : ℕ) → law_side qp s (n + r) j ≡ cell (rows_of qp.w.rows s) r j
  lower_side r j = above (n + r) n _ _ (omega arith) ∙ ap (λ q. cell (rows_of qp.w.rows s) q j) (omega arith)

  -- ---- the rows against vectors
  matrix_row : (i : ℕ) → i < n + length s → get_or (law_matrix qp s).rows i [] ≡ listed (n + length s) (law_entry qp s i)
  unfolding law_matrix
  matrix_row i h = get_or-map-range_with_len (λ i. listed (n + length s) (law_entry qp s i)) 0 (n + length s) i i [] h (omega arith)

  right_row : (i : ℕ) → i < n + length s → get_or (law_right qp s).rows i [] ≡ listed (length qp.counts + 1) (law_side qp s i)
  unfolding law_right
  right_row i h = get_or-map-range_with_len (λ i. listed (length qp.counts + 1) (law_side qp s i)) 0 (n + length s) i i [] h (omega arith)

  module _ (z l : List ℚ) (z_size : length z ≡ n) (l_size : length l ≡ length s) where
    pub upper_dot : (i : ℕ) → i < n → dot (get_or (law_matrix qp s).rows i []) (z ++ l) ≡ dot (get_or qp.h.rows i []) z +ℚ dot l (column g i)
    upper_dot i h =
        ap (λ row. dot row (z ++ l)) (matrix_row i (omega arith)) ∙ dot_parts n (length s) (law_entry qp s i) z l z_size
        ∙ (λ t. total_dot n (law_entry qp s i) (get_or qp.h.rows i []) z (omega arith) (λ j k. upper_left i j h k) t +ℚ
        (total_dot (length s) (λ j. law_entry qp s i (n + j)) (column g i) l (omega arith) (λ j k. upper_right i j h ∙ sym (coordinate-column g j i)) ∙ dot_comm (column g i) l) t)

    pub lower_dot : (r : ℕ) → r < length s → dot (get_or (law_matrix qp s).rows (n + r) []) (z ++ l) ≡ dot (get_or g r []) z
    lower_dot r h =
        ap (λ row. dot row (z ++ l)) (matrix_row (n + r) (omega arith)) ∙ dot_parts n (length s) (law_entry qp s (n + r)) z l z_size
        ∙ (λ t. total_dot n (law_entry qp s (n + r)) (get_or g r []) z (omega arith) (λ j k. lower_left r j k) t +ℚ no_terms (length s) (λ j. law_entry qp s (n + r) (n + j)) l (λ j. lower_right r j) t)
        ∙ +ℚ_zero (dot (get_or g r []) z)

  module _ (c : List ℚ) (c_size : length c ≡ length qp.counts + 1) where
    negated : (i : ℕ) → i < n → total (length qp.counts + 1) (λ j. law_side qp s i j *ℚ coordinate c j) ≡ int (negsuc 0) *ℚ total (length qp.counts + 1) (λ j. entry qp.f i j *ℚ coordinate c j)
    negated i h =
        total-same (length qp.counts + 1) (λ j. law_side qp s i j *ℚ coordinate c j) (λ j. int (negsuc 0) *ℚ (entry qp.f i j *ℚ coordinate c j))
        (λ j k. (λ t. upper_side i j h t *ℚ coordinate c j) ∙ by_ring (entry qp.f i j ∷ coordinate c j ∷ []) (search reads depth 30) (search reads depth 30) tt)
        ∙ total-scale (length qp.counts + 1) (int (negsuc 0)) (λ j. entry qp.f i j *ℚ coordinate c j)

    pub upper_right_dot : (i : ℕ) → i < n → dot (get_or (law_right qp s).rows i []) c ≡ int (negsuc 0) *ℚ dot (get_or qp.f.rows i []) c
    upper_right_dot i h =
        ap (λ row. dot row c) (right_row i (omega arith)) ∙ dot_listed (length qp.counts + 1) (law_side qp s i) c ∙ negated i h
        ∙ ap (λ u. int (negsuc 0) *ℚ u) (total_dot (length qp.counts + 1) (entry qp.f i) (get_or qp.f.rows i []) c (omega arith) (λ j k. refl))

    pub lower_right_dot : (r : ℕ) → r < length s → dot (get_or (law_right qp s).rows (n + r) []) c ≡ dot (get_or (rows_of qp.w.rows s) r []) c
    lower_right_dot r h =
        ap (λ row. dot row c) (right_row (n + r) (omega arith)) ∙ dot_listed (length qp.counts + 1) (law_side qp s (n + r)) c
        ∙ total_dot (length qp.counts + 1) (law_side qp s (n + r)) (get_or (rows_of qp.w.rows s) r []) c (omega arith) (λ j k. lower_side r j)
