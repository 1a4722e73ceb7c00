-- Vectors that are combinations of columns, and the quadratic forms of such vectors.
use Rattle.std.proofs.Common.{◌≡◌, ℕ, ◌+◌, ◌<◌, List, [], ◌∷◌, length, get_or, pos, sym, ◌∙◌, ap}
use Rattle.mpc_exact.specs.Rational.{ℚ, int, ◌+ℚ◌, ◌*ℚ◌}
use Rattle.mpc_exact.proofs.RationalRing.{reads, by_ring}
use Rattle.mpc_space.specs.Vector.{coordinate, dot, mat_vec, quadratic, IsSymmetric}
use Rattle.mpc_space.specs.Total.{total, unit}
use Rattle.mpc_space.proofs.Vector.{dot_comm}
use Rattle.mpc_space.proofs.Entries.{dot-total}
use Rattle.mpc_space.proofs.Matrix.{coordinate-mat_vec, symmetric_swap}
use Rattle.mpc_space.proofs.Total.{total-same, total-zeros, total-add, total-scale, total-swap, total-split, total-unit}

-- x is the sum of the columns m 0, .., m (w - 1), each times its factor
pub record Combines (w : ℕ) (e : ℕ → ℚ) (m : ℕ → List ℚ) (x : List ℚ) : Type 0 where
  pub entries : (i : ℕ) → coordinate x i ≡ total w (λ j. e j *ℚ coordinate (m j) i)

-- a first factor 1 counts what the first column has more
pub total-more : (w : ℕ) (e f g : ℕ → ℚ) (c : ℚ) → 0 < w → e 0 ≡ int (pos 1) → ((j : ℕ) → j < w → g j ≡ f j +ℚ unit 0 j *ℚ c) → total w (λ j. e j *ℚ g j) ≡ total w (λ j. e j *ℚ f j) +ℚ c
total-more w e f g c some one h =
    total-same w (λ j. e j *ℚ g j) (λ j. e j *ℚ f j +ℚ unit 0 j *ℚ (e j *ℚ c))
    (λ j l. ap (λ u. e j *ℚ u) (h j l) ∙ by_ring (e j ∷ f j ∷ unit 0 j ∷ c ∷ []) (search reads depth 30) (search reads depth 30) tt)
    ∙ total-add w (λ j. e j *ℚ f j) (λ j. unit 0 j *ℚ (e j *ℚ c))
    ∙ ap (λ u. total w (λ j. e j *ℚ f j) +ℚ u) (total-unit w 0 (λ j. e j *ℚ c) some ∙ ap (λ u. u *ℚ c) one ∙ by_ring (c ∷ []) (search reads depth 30) (search reads depth 30) tt)

pub dot-combined : (w : ℕ) (e : ℕ → ℚ) (m : ℕ → List ℚ) (x a : List ℚ) → Combines w e m x → dot a x ≡ total w (λ j. e j *ℚ dot a (m j))
dot-combined w e m x a h =
    dot-total a x
    ∙ total-same (length a) (λ i. coordinate a i *ℚ coordinate x i) (λ i. total w (λ j. e j *ℚ (coordinate a i *ℚ coordinate (m j) i)))
    (λ i l. ap (λ u. coordinate a i *ℚ u) (h.entries i) ∙ sym (total-scale w (coordinate a i) (λ j. e j *ℚ coordinate (m j) i))
    ∙ total-same w (λ j. coordinate a i *ℚ (e j *ℚ coordinate (m j) i)) (λ j. e j *ℚ (coordinate a i *ℚ coordinate (m j) i))
    (λ j q. by_ring (coordinate a i ∷ e j ∷ coordinate (m j) i ∷ []) (search reads depth 30) (search reads depth 30) tt))
    ∙ total-swap (length a) w (λ i j. e j *ℚ (coordinate a i *ℚ coordinate (m j) i))
    ∙ total-same w (λ j. total (length a) (λ i. e j *ℚ (coordinate a i *ℚ coordinate (m j) i))) (λ j. e j *ℚ dot a (m j))
    (λ j q. total-scale (length a) (e j) (λ i. coordinate a i *ℚ coordinate (m j) i) ∙ ap (λ u. e j *ℚ u) (sym (dot-total a (m j))))

pub mat_vec-combined : (w : ℕ) (e : ℕ → ℚ) (m : ℕ → List ℚ) (x : List ℚ) (a : List (List ℚ)) → Combines w e m x → Combines w e (λ j. mat_vec a (m j)) (mat_vec a x)
mat_vec-combined w e m x a h = record {
  entries = λ i. coordinate-mat_vec a x i ∙ dot-combined w e m x (get_or a i []) h
      ∙ total-same w (λ j. e j *ℚ dot (get_or a i []) (m j)) (λ j. e j *ℚ coordinate (mat_vec a (m j)) i) (λ j q. ap (λ u. e j *ℚ u) (sym (coordinate-mat_vec a (m j) i)));
}

-- the sum over all pairs of columns
abbrev pub double : ℕ → (ℕ → ℚ) → (ℕ → ℕ → ℚ) → ℚ
double w e k = total w (λ j. e j *ℚ total w (λ l. e l *ℚ k j l))

pub double-same : (w : ℕ) (e : ℕ → ℚ) (k m : ℕ → ℕ → ℚ) → ((j l : ℕ) → j < w → l < w → k j l ≡ m j l) → double w e k ≡ double w e m
double-same w e k m h =
    total-same w (λ j. e j *ℚ total w (λ l. e l *ℚ k j l)) (λ j. e j *ℚ total w (λ l. e l *ℚ m j l))
    (λ j q. ap (λ u. e j *ℚ u) (total-same w (λ l. e l *ℚ k j l) (λ l. e l *ℚ m j l) (λ l p. ap (λ u. e l *ℚ u) (h j l q p))))

pub double-add : (w : ℕ) (e : ℕ → ℚ) (k m : ℕ → ℕ → ℚ) → double w e (λ j l. k j l +ℚ m j l) ≡ double w e k +ℚ double w e m
double-add w e k m =
    total-same w (λ j. e j *ℚ total w (λ l. e l *ℚ (k j l +ℚ m j l))) (λ j. e j *ℚ total w (λ l. e l *ℚ k j l) +ℚ e j *ℚ total w (λ l. e l *ℚ m j l))
    (λ j q. ap (λ u. e j *ℚ u)
    (total-same w (λ l. e l *ℚ (k j l +ℚ m j l)) (λ l. e l *ℚ k j l +ℚ e l *ℚ m j l) (λ l p. by_ring (e l ∷ k j l ∷ m j l ∷ []) (search reads depth 30) (search reads depth 30) tt)
    ∙ total-add w (λ l. e l *ℚ k j l) (λ l. e l *ℚ m j l))
    ∙ by_ring (e j ∷ total w (λ l. e l *ℚ k j l) ∷ total w (λ l. e l *ℚ m j l) ∷ []) (search reads depth 30) (search reads depth 30) tt)
    ∙ total-add w (λ j. e j *ℚ total w (λ l. e l *ℚ k j l)) (λ j. e j *ℚ total w (λ l. e l *ℚ m j l))

pub double-zero : (w : ℕ) (e : ℕ → ℚ) (k : ℕ → ℕ → ℚ) → ((j l : ℕ) → k j l ≡ int (pos 0)) → double w e k ≡ int (pos 0)
double-zero w e k h =
    total-zeros w (λ j. e j *ℚ total w (λ l. e l *ℚ k j l))
    (λ j q. ap (λ u. e j *ℚ u) (total-zeros w (λ l. e l *ℚ k j l) (λ l p. ap (λ u. e l *ℚ u) (h j l) ∙ by_ring (e l ∷ []) (search reads depth 30) (search reads depth 30) tt)) ∙ by_ring (e j ∷ []) (search reads depth 30) (search reads depth 30) tt)

pub quadratic-combined : (w : ℕ) (e : ℕ → ℚ) (m : ℕ → List ℚ) (x : List ℚ) (a : List (List ℚ)) → Combines w e m x → quadratic a x ≡ double w e (λ j l. dot (m j) (mat_vec a (m l)))
quadratic-combined w e m x a h =
    dot_comm x (mat_vec a x) ∙ dot-combined w e m x (mat_vec a x) h
    ∙ total-same w (λ j. e j *ℚ dot (mat_vec a x) (m j)) (λ j. e j *ℚ total w (λ l. e l *ℚ dot (m j) (mat_vec a (m l))))
    (λ j q. ap (λ u. e j *ℚ u) (dot_comm (mat_vec a x) (m j) ∙ dot-combined w e (λ l. mat_vec a (m l)) (mat_vec a x) (m j) (mat_vec-combined w e m x a h)))

pub gram-sym : (m : ℕ → List ℚ) (a : List (List ℚ)) → IsSymmetric a → (j l : ℕ) → dot (m j) (mat_vec a (m l)) ≡ dot (m l) (mat_vec a (m j))
gram-sym m a s j l = sym (symmetric_swap a s (m j) (m l)) ∙ dot_comm (mat_vec a (m j)) (m l)

-- ---- the pairs in two parts: the first d columns, and the others
module _ (d w : ℕ) (e : ℕ → ℚ) (k : ℕ → ℕ → ℚ) (s : (j l : ℕ) → k j l ≡ k l j) where
  heads : ℕ → ℚ
  heads j = total d (λ l. e l *ℚ k j l)

  tails : ℕ → ℚ
  tails j = total w (λ l. e (d + l) *ℚ k j (d + l))

  inner : (j : ℕ) → total (d + w) (λ l. e l *ℚ k j l) ≡ heads j +ℚ tails j
  unfolding heads tails
  inner j = total-split d w (λ l. e l *ℚ k j l)

  outer-split : (n : ℕ) (f : ℕ → ℚ) (at : ℕ → ℕ) → total n (λ j. f j *ℚ total (d + w) (λ l. e l *ℚ k (at j) l)) ≡ total n (λ j. f j *ℚ heads (at j)) +ℚ total n (λ j. f j *ℚ tails (at j))
  outer-split n f at =
      total-same n (λ j. f j *ℚ total (d + w) (λ l. e l *ℚ k (at j) l)) (λ j. f j *ℚ heads (at j) +ℚ f j *ℚ tails (at j))
      (λ j q. ap (λ u. f j *ℚ u) (inner (at j)) ∙ by_ring (f j ∷ heads (at j) ∷ tails (at j) ∷ []) (search reads depth 30) (search reads depth 30) tt)
      ∙ total-add n (λ j. f j *ℚ heads (at j)) (λ j. f j *ℚ tails (at j))

  -- the mixed pairs count twice
  mixed : total d (λ j. e j *ℚ tails j) ≡ total w (λ j. e (d + j) *ℚ heads (d + j))
  unfolding heads tails
  mixed =
      total-same d (λ j. e j *ℚ total w (λ l. e (d + l) *ℚ k j (d + l))) (λ j. total w (λ l. e (d + l) *ℚ (e j *ℚ k (d + l) j)))
      (λ j q. sym (total-scale w (e j) (λ l. e (d + l) *ℚ k j (d + l)))
      ∙ total-same w (λ l. e j *ℚ (e (d + l) *ℚ k j (d + l))) (λ l. e (d + l) *ℚ (e j *ℚ k (d + l) j))
      (λ l p. ap (λ u. e j *ℚ (e (d + l) *ℚ u)) (s j (d + l)) ∙ by_ring (e j ∷ e (d + l) ∷ k (d + l) j ∷ []) (search reads depth 30) (search reads depth 30) tt))
      ∙ total-swap d w (λ j l. e (d + l) *ℚ (e j *ℚ k (d + l) j))
      ∙ total-same w (λ l. total d (λ j. e (d + l) *ℚ (e j *ℚ k (d + l) j))) (λ l. e (d + l) *ℚ total d (λ j. e j *ℚ k (d + l) j))
      (λ l p. total-scale d (e (d + l)) (λ j. e j *ℚ k (d + l) j))

  pub double-split : double (d + w) e k ≡
      double w (λ j. e (d + j)) (λ j l. k (d + j) (d + l)) +ℚ int (pos 2) *ℚ total w (λ j. e (d + j) *ℚ total d (λ l. e l *ℚ k (d + j) l)) +ℚ double d e k
  unfolding heads tails
  double-split =
      total-split d w (λ j. e j *ℚ total (d + w) (λ l. e l *ℚ k j l))
      ∙ (λ i. outer-split d e (λ j. j) i +ℚ outer-split w (λ j. e (d + j)) (λ j. d + j) i)
      ∙ ap (λ u. (total d (λ j. e j *ℚ heads j) +ℚ u) +ℚ (total w (λ j. e (d + j) *ℚ heads (d + j)) +ℚ total w (λ j. e (d + j) *ℚ tails (d + j)))) mixed
      ∙ by_ring (total d (λ j. e j *ℚ heads j) ∷ total w (λ j. e (d + j) *ℚ heads (d + j)) ∷ total w (λ j. e (d + j) *ℚ tails (d + j)) ∷ []) (search reads depth 30) (search reads depth 30) tt
