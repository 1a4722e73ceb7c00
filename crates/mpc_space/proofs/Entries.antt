-- Vectors by their entries: what each operation's are, when two vectors are one, and dots as sums.
use Rattle.mpc_exact.proofs.RationalOrder.{≤ℚ_refl}
use Rattle.std.proofs.Common.{◌≡◌, ℕ, zero, suc, ◌-◌, ◌<◌, ◌≤◌, List, [], ◌∷◌, length, pos, negsuc, refl, sym, ◌∙◌, ap, arith, ◌⊎◌, inl, inr, zero-lt-suc}
use Rattle.std.proofs.lemmas.List.FromFn.{get_or-map-range_with_len, length-map-range_with_len}
use Rattle.mpc_exact.specs.Rational.{ℚ, int, ◌+ℚ◌, ◌-ℚ◌, ◌*ℚ◌, ◌≤ℚ◌, IsNonneg}
use Rattle.mpc_exact.proofs.Rational.{+ℚ_zero}
use Rattle.mpc_exact.proofs.RationalRing.{reads, by_ring}
use Rattle.mpc_exact.proofs.RationalField.{ℚ_discrete}
use Rattle.mpc_space.specs.Vector.{coordinate, listed, zeros, dot, vec_add, vec_scale, vec_sub, IsZero, AllNonneg, AllAtMost}
use Rattle.mpc_space.specs.Total.{total, unit}
use Rattle.mpc_space.proofs.Total.{total-zero, total-same, total-zeros, total-first, total-unit, total-short}

-- ---- entries
pub coordinate_past : (xs : List ℚ) (i : ℕ) → length xs ≤ i → coordinate xs i ≡ int (pos 0)
coordinate_past [] i h = refl
coordinate_past (x ∷ xs) zero h = absurd (omega arith)
coordinate_past (x ∷ xs) (suc i) h = coordinate_past xs i (omega arith)

pub coordinate-add : (xs ys : List ℚ) (i : ℕ) → coordinate (vec_add xs ys) i ≡ coordinate xs i +ℚ coordinate ys i
coordinate-add [] ys i = by_ring (coordinate ys i ∷ []) (search reads depth 30) (search reads depth 30) tt
coordinate-add (x ∷ xs) [] i = sym (+ℚ_zero (coordinate (x ∷ xs) i))
coordinate-add (x ∷ xs) (y ∷ ys) zero = refl
coordinate-add (x ∷ xs) (y ∷ ys) (suc i) = coordinate-add xs ys i

pub coordinate-scale : (c : ℚ) (xs : List ℚ) (i : ℕ) → coordinate (vec_scale c xs) i ≡ c *ℚ coordinate xs i
coordinate-scale c [] i = by_ring (c ∷ []) (search reads depth 30) (search reads depth 30) tt
coordinate-scale c (x ∷ xs) zero = refl
coordinate-scale c (x ∷ xs) (suc i) = coordinate-scale c xs i

pub coordinate-sub : (xs ys : List ℚ) (i : ℕ) → coordinate (vec_sub xs ys) i ≡ coordinate xs i -ℚ coordinate ys i
coordinate-sub xs ys i =
    coordinate-add xs (vec_scale (int (negsuc 0)) ys) i ∙ ap (λ u. coordinate xs i +ℚ u) (coordinate-scale (int (negsuc 0)) ys i)
    ∙ by_ring (coordinate xs i ∷ coordinate ys i ∷ []) (search reads depth 30) (search reads depth 30) tt

pub coordinate-listed : (n : ℕ) (f : ℕ → ℚ) (i : ℕ) → i < n → coordinate (listed n f) i ≡ f i
coordinate-listed n f i h = get_or-map-range_with_len f 0 n i i (int (pos 0)) h (omega arith)

pub coordinate-zeros : (n i : ℕ) → coordinate (zeros n) i ≡ int (pos 0)
coordinate-zeros zero i = refl
coordinate-zeros (suc n) zero = refl
coordinate-zeros (suc n) (suc i) = coordinate-zeros n i

-- ---- lengths
pub length-listed : (n : ℕ) (f : ℕ → ℚ) → length (listed n f) ≡ n
length-listed n f = length-map-range_with_len f 0 n

pub length-scale : (c : ℚ) (xs : List ℚ) → length (vec_scale c xs) ≡ length xs
length-scale c [] = refl
length-scale c (x ∷ xs) = ap suc (length-scale c xs)

pub length-add : (xs ys : List ℚ) → length xs ≡ length ys → length (vec_add xs ys) ≡ length xs
length-add [] [] e = refl
length-add [] (y ∷ ys) e = absurd (omega arith)
length-add (x ∷ xs) [] e = refl
length-add (x ∷ xs) (y ∷ ys) e = ap suc (length-add xs ys (omega arith))

pub length-sub : (xs ys : List ℚ) → length xs ≡ length ys → length (vec_sub xs ys) ≡ length xs
length-sub xs ys e = length-add xs (vec_scale (int (negsuc 0)) ys) (e ∙ sym (length-scale (int (negsuc 0)) ys))

pub length-add_within : (n : ℕ) (xs ys : List ℚ) → length xs ≤ n → length ys ≤ n → length (vec_add xs ys) ≤ n
length-add_within n [] ys h k = k
length-add_within n (x ∷ xs) [] h k = h
length-add_within zero (x ∷ xs) (y ∷ ys) h k = absurd (omega arith)
length-add_within (suc n) (x ∷ xs) (y ∷ ys) h k = let l = length-add_within n xs ys (omega arith) (omega arith) in omega arith

-- ---- vectors of the same entries
pub same_entries : (xs ys : List ℚ) → length xs ≡ length ys → ((i : ℕ) → i < length xs → coordinate xs i ≡ coordinate ys i) → xs ≡ ys
same_entries [] [] e h = refl
same_entries [] (y ∷ ys) e h = absurd (omega arith)
same_entries (x ∷ xs) [] e h = absurd (omega arith)
same_entries (x ∷ xs) (y ∷ ys) e h = λ i. h 0 (zero-lt-suc (length xs)) i ∷ same_entries xs ys (omega arith) (λ k l. h (suc k) (omega arith)) i

-- ---- dots
pub dot_nil : (xs : List ℚ) → dot xs [] ≡ int (pos 0)
dot_nil [] = refl
dot_nil (x ∷ xs) = refl

-- the dot sees entries alone
pub dot_same : (xs ys zs : List ℚ) → ((i : ℕ) → i < length xs → coordinate ys i ≡ coordinate zs i) → dot xs ys ≡ dot xs zs
dot_same [] ys zs h = refl
dot_same (x ∷ xs) [] [] h = refl
dot_same (x ∷ xs) [] (z ∷ zs) h =
    by_ring (x ∷ []) (search reads depth 30) (search reads depth 30) tt ∙ (λ i. x *ℚ h 0 (zero-lt-suc (length xs)) i +ℚ (sym (dot_nil xs) ∙ dot_same xs [] zs (λ k l. h (suc k) (omega arith))) i)
dot_same (x ∷ xs) (y ∷ ys) [] h =
    (λ i. x *ℚ h 0 (zero-lt-suc (length xs)) i +ℚ (dot_same xs ys [] (λ k l. h (suc k) (omega arith)) ∙ dot_nil xs) i) ∙ by_ring (x ∷ []) (search reads depth 30) (search reads depth 30) tt
dot_same (x ∷ xs) (y ∷ ys) (z ∷ zs) h = λ i. x *ℚ h 0 (zero-lt-suc (length xs)) i +ℚ dot_same xs ys zs (λ k l. h (suc k) (omega arith)) i

-- as a sum over the places of the first vector
pub dot-total : (xs ys : List ℚ) → dot xs ys ≡ total (length xs) (λ i. coordinate xs i *ℚ coordinate ys i)
dot-total [] ys = sym (total-zero (λ i. coordinate [] i *ℚ coordinate ys i))
dot-total (x ∷ xs) [] = sym (total-zeros (suc (length xs)) (λ i. coordinate (x ∷ xs) i *ℚ int (pos 0)) (λ i h. by_ring (coordinate (x ∷ xs) i ∷ []) (search reads depth 30) (search reads depth 30) tt))
dot-total (x ∷ xs) (y ∷ ys) = ap (λ u. x *ℚ y +ℚ u) (dot-total xs ys) ∙ sym (total-first (length xs) (λ i. coordinate (x ∷ xs) i *ℚ coordinate (y ∷ ys) i))

-- and over more places
pub dot-total_within : (n : ℕ) (xs ys : List ℚ) → length xs ≤ n → dot xs ys ≡ total n (λ i. coordinate xs i *ℚ coordinate ys i)
dot-total_within n xs ys h =
    dot-total xs ys
    ∙ sym (total-short (length xs) (n - length xs) (λ i. coordinate xs i *ℚ coordinate ys i)
    (λ i k. ap (λ u. u *ℚ coordinate ys i) (coordinate_past xs i k) ∙ by_ring (coordinate ys i ∷ []) (search reads depth 30) (search reads depth 30) tt))
    ∙ ap (λ m. total m (λ i. coordinate xs i *ℚ coordinate ys i)) (omega arith)

-- the unit vector picks an entry
pub dot-unit : (n i : ℕ) (xs : List ℚ) → i < n → dot (listed n (unit i)) xs ≡ coordinate xs i
dot-unit n i xs h =
    dot-total_within n (listed n (unit i)) xs (omega (arith, length-listed n (unit i)))
    ∙ total-same n (λ j. coordinate (listed n (unit i)) j *ℚ coordinate xs j) (λ j. unit i j *ℚ coordinate xs j) (λ j l. ap (λ u. u *ℚ coordinate xs j) (coordinate-listed n (unit i) j l))
    ∙ total-unit n i (coordinate xs) h

-- ---- zero vectors
pub zero_entries : (xs : List ℚ) → IsZero xs → (i : ℕ) → coordinate xs i ≡ int (pos 0)
zero_entries [] h i = refl
zero_entries (x ∷ xs) h zero = h.0
zero_entries (x ∷ xs) h (suc i) = zero_entries xs h.1 i

pub zero_by_entries : (xs : List ℚ) → ((i : ℕ) → i < length xs → coordinate xs i ≡ int (pos 0)) → IsZero xs
zero_by_entries [] h = tt
zero_by_entries (x ∷ xs) h = (h 0 (zero-lt-suc (length xs)), zero_by_entries xs (λ i l. h (suc i) (omega arith)))

pub zeros_zero : (n : ℕ) → IsZero (zeros n)
zeros_zero n = zero_by_entries (zeros n) (λ i h. coordinate-zeros n i)

pub dot-zero : (xs ys : List ℚ) → IsZero ys → dot xs ys ≡ int (pos 0)
dot-zero [] ys h = refl
dot-zero (x ∷ xs) [] h = refl
dot-zero (x ∷ xs) (y ∷ ys) h = (λ i. x *ℚ h.0 i +ℚ dot-zero xs ys h.1 i) ∙ by_ring (x ∷ []) (search reads depth 30) (search reads depth 30) tt

-- a vector whose dots are all 0 is 0
pub zero_by_dots : (xs : List ℚ) → ((ys : List ℚ) → dot ys xs ≡ int (pos 0)) → IsZero xs
zero_by_dots xs h = zero_by_entries xs (λ i l. sym (dot-unit (length xs) i xs l) ∙ h (listed (length xs) (unit i)))

pub zero_or_not : (xs : List ℚ) → IsZero xs ⊎ (¬ IsZero xs)
zero_or_not [] = inl tt
zero_or_not (x ∷ xs) = by (ℚ_discrete x (int (pos 0))) (zero_or_not xs)
  where
    by : Dec (x ≡ int (pos 0)) → IsZero xs ⊎ (¬ IsZero xs) → IsZero (x ∷ xs) ⊎ (¬ IsZero (x ∷ xs))
    by (yes p) (inl h) = inl (p, h)
    by (yes p) (inr h) = inr (λ k. h k.1)
    by (no p) h = inr (λ k. p k.0)

-- the difference of two vectors is 0 where they are one
pub difference_zero : (xs ys : List ℚ) → length xs ≡ length ys → IsZero (vec_sub xs ys) → xs ≡ ys
difference_zero xs ys e h = same_entries xs ys e (λ i l. gap_zero (coordinate xs i) (coordinate ys i) (sym (coordinate-sub xs ys i) ∙ zero_entries (vec_sub xs ys) h i))
  where
    gap_zero : (x y : ℚ) → x -ℚ y ≡ int (pos 0) → x ≡ y
    gap_zero x y e = sym (by_ring (x ∷ y ∷ []) (search reads depth 30) (search reads depth 30) tt) ∙ ap (λ u. y +ℚ u) e ∙ by_ring (y ∷ []) (search reads depth 30) (search reads depth 30) tt

-- ---- the order of entries
pub at_most_at : (xs ys : List ℚ) → AllAtMost xs ys → (i : ℕ) → coordinate xs i ≤ℚ coordinate ys i
at_most_at [] [] h i = ≤ℚ_refl (int (pos 0))
at_most_at [] (y ∷ ys) h i = absurd h
at_most_at (x ∷ xs) [] h i = absurd h
at_most_at (x ∷ xs) (y ∷ ys) h zero = h.0
at_most_at (x ∷ xs) (y ∷ ys) h (suc i) = at_most_at xs ys h.1 i

pub at_most_by_entries : (xs ys : List ℚ) → length xs ≡ length ys → ((i : ℕ) → i < length xs → coordinate xs i ≤ℚ coordinate ys i) → AllAtMost xs ys
at_most_by_entries [] [] e h = tt
at_most_by_entries [] (y ∷ ys) e h = absurd (omega arith)
at_most_by_entries (x ∷ xs) [] e h = absurd (omega arith)
at_most_by_entries (x ∷ xs) (y ∷ ys) e h = (h 0 (zero-lt-suc (length xs)), at_most_by_entries xs ys (omega arith) (λ i l. h (suc i) (omega arith)))

pub nonneg_at : (xs : List ℚ) → AllNonneg xs → (i : ℕ) → IsNonneg (coordinate xs i)
nonneg_at [] h i = ≤ℚ_refl (int (pos 0))
nonneg_at (x ∷ xs) h zero = h.0
nonneg_at (x ∷ xs) h (suc i) = nonneg_at xs h.1 i

pub nonneg_by_entries : (xs : List ℚ) → ((i : ℕ) → i < length xs → IsNonneg (coordinate xs i)) → AllNonneg xs
nonneg_by_entries [] h = tt
nonneg_by_entries (x ∷ xs) h = (h 0 (zero-lt-suc (length xs)), nonneg_by_entries xs (λ i l. h (suc i) (omega arith)))
