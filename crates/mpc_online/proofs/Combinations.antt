-- Combinations of rows with one row taken out or put in between.
use Rattle.std.proofs.Common.{◌≡◌, ℕ, zero, suc, ◌+◌, ◌<◌, ◌≤◌, List, [], ◌∷◌, length, map, pos, refl, sym, ◌∙◌, ap, arith, inl, inr}
use Rattle.std.specs.List.{insert, remove}
use Rattle.std.proofs.lemmas.List.Edits.{length-insert, length-remove}
use Rattle.mpc_exact.specs.Rational.{ℚ, int, ◌+ℚ◌, ◌*ℚ◌}
use Rattle.mpc_exact.proofs.RationalRing.{reads, by_ring, by_equation, by_equations}
use Rattle.mpc_space.specs.Vector.{coordinate, dot, vec_add, vec_scale, vec_mat, IsZero, IsIndependent, AllNonneg}
use Rattle.mpc_space.proofs.Entries.{dot_nil, dot-zero, zero_by_dots}
use Rattle.mpc_space.proofs.Vector.{dot-add_right, dot-scale_right}
use Rattle.mpc_sets.specs.RowSet.{Among}

pub dot_combination : (y : List ℚ) (c : ℚ) (cs row : List ℚ) (rows : List (List ℚ)) → dot y (vec_mat (c ∷ cs) (row ∷ rows)) ≡ c *ℚ dot y row +ℚ dot y (vec_mat cs rows)
dot_combination y c cs row rows = dot-add_right (vec_scale c row) (vec_mat cs rows) y ∙ ap (λ u. u +ℚ dot y (vec_mat cs rows)) (dot-scale_right c row y)

-- a point moved along a direction
pub dot_along : (y x d : List ℚ) (s : ℚ) → dot y (vec_add x (vec_scale s d)) ≡ dot y x +ℚ s *ℚ dot y d
dot_along y x d s = dot-add_right x (vec_scale s d) y ∙ ap (λ u. dot y x +ℚ u) (dot-scale_right s d y)

pub combination_stays : (a : ℕ → List ℚ) (d ls : List ℚ) (s : List ℕ) → ((i : ℕ) → Among i s → dot d (a i) ≡ int (pos 0)) → dot d (vec_mat ls (map a s)) ≡ int (pos 0)
combination_stays a d [] s k = dot_nil d
combination_stays a d (l ∷ ls) [] k = dot_nil d
combination_stays a d (l ∷ ls) (i ∷ s) k =
    dot_combination d l ls (a i) (map a s)
    ∙ by_equations l (int (pos 1)) (k i (inl refl)) (combination_stays a d ls s (λ j m. k j (inr m)))
    (by_ring (l ∷ dot d (a i) ∷ dot d (vec_mat ls (map a s)) ∷ []) (search reads depth 30) (search reads depth 30) tt)

nothing_first : (x r : ℚ) (c : ℚ) → c ≡ int (pos 0) → c *ℚ x +ℚ r ≡ r
nothing_first x r c e = by_equation x e (by_ring (x ∷ r ∷ c ∷ []) (search reads depth 30) (search reads depth 30) tt)

exchange : (a b c : ℚ) → a +ℚ (b +ℚ c) ≡ b +ℚ (a +ℚ c)
exchange a b c = by_ring (a ∷ b ∷ c ∷ []) (search reads depth 30) (search reads depth 30) tt

-- a row with the factor 0 can go
pub dot-remove : (y : List ℚ) (k : ℕ) (l : List ℚ) (rows : List (List ℚ)) → length l ≡ length rows → k < length l → coordinate l k ≡ int (pos 0) → dot y (vec_mat l rows) ≡ dot y (vec_mat (remove l k) (remove rows k))
dot-remove y k [] rows e h z = absurd (omega arith)
dot-remove y k (x ∷ l) [] e h z = absurd (omega arith)
dot-remove y zero (x ∷ l) (row ∷ rows) e h z = dot_combination y x l row rows ∙ nothing_first (dot y row) (dot y (vec_mat l rows)) x z
dot-remove y (suc k) (x ∷ l) (row ∷ rows) e h z =
    dot_combination y x l row rows ∙ ap (λ u. x *ℚ dot y row +ℚ u) (dot-remove y k l rows (omega arith) (omega arith) z) ∙ sym (dot_combination y x (remove l k) row (remove rows k))

-- factors with a 0 put in
pub dot-padded : (y : List ℚ) (k : ℕ) (cs : List ℚ) (rows : List (List ℚ)) → length cs + 1 ≡ length rows → k < length rows → dot y (vec_mat (insert cs k (int (pos 0))) rows) ≡ dot y (vec_mat cs (remove rows k))
dot-padded y k cs [] e h = absurd (omega arith)
dot-padded y zero cs (row ∷ rows) e h = dot_combination y (int (pos 0)) cs row rows ∙ nothing_first (dot y row) (dot y (vec_mat cs rows)) (int (pos 0)) refl
dot-padded y (suc k) [] (row ∷ rows) e h = absurd (omega arith)
dot-padded y (suc k) (c ∷ cs) (row ∷ rows) e h =
    dot_combination y c (insert cs k (int (pos 0))) row rows ∙ ap (λ u. c *ℚ dot y row +ℚ u) (dot-padded y k cs rows (omega arith) (omega arith)) ∙ sym (dot_combination y c cs row (remove rows k))

zero-inserted : (k : ℕ) (x : ℚ) (cs : List ℚ) → k ≤ length cs → IsZero (insert cs k x) → IsZero cs
zero-inserted zero x cs h z = z.1
zero-inserted (suc k) x [] h z = tt
zero-inserted (suc k) x (c ∷ cs) h z = (z.0, zero-inserted k x cs (omega arith) z.1)

-- independent rows without one of them
pub remove_independent : (k : ℕ) (rows : List (List ℚ)) → k < length rows → IsIndependent rows → IsIndependent (remove rows k)
remove_independent k rows h i = record {
  only_zero = λ cs e z.
      let n : length (remove rows k) + 1 ≡ length rows = length-remove rows k h in
      let l : length cs + 1 ≡ length rows = omega arith in
      let m : length (insert cs k (int (pos 0))) ≡ length cs + 1 = length-insert cs k (int (pos 0)) (omega arith) in
      zero-inserted k (int (pos 0)) cs (omega arith)
      (i.only_zero (insert cs k (int (pos 0))) (m ∙ l)
      (zero_by_dots (vec_mat (insert cs k (int (pos 0))) rows) (λ y. dot-padded y k cs rows l h ∙ dot-zero y (vec_mat cs (remove rows k)) z)));
}

-- a row put in between
pub dot-inserted : (y : List ℚ) (k : ℕ) (u : ℚ) (l row : List ℚ) (rows : List (List ℚ)) → length l ≡ length rows → k ≤ length l → dot y (vec_mat (insert l k u) (insert rows k row)) ≡ u *ℚ dot y row +ℚ dot y (vec_mat l rows)
dot-inserted y zero u l row rows e h = dot_combination y u l row rows
dot-inserted y (suc k) u [] row rows e h = absurd (omega arith)
dot-inserted y (suc k) u (x ∷ l) row [] e h = absurd (omega arith)
dot-inserted y (suc k) u (x ∷ l) row (r ∷ rows) e h =
    dot_combination y x (insert l k u) r (insert rows k row) ∙ ap (λ v. x *ℚ dot y r +ℚ v) (dot-inserted y k u l row rows (omega arith) (omega arith))
    ∙ exchange (x *ℚ dot y r) (u *ℚ dot y row) (dot y (vec_mat l rows)) ∙ ap (λ v. u *ℚ dot y row +ℚ v) (sym (dot_combination y x l r rows))

dot-picked : (y : List ℚ) (k : ℕ) (cs row : List ℚ) (rows : List (List ℚ)) → length cs ≡ suc (length rows) → k ≤ length rows → dot y (vec_mat cs (insert rows k row)) ≡ coordinate cs k *ℚ dot y row +ℚ dot y (vec_mat (remove cs k) rows)
dot-picked y k [] row rows e h = absurd (omega arith)
dot-picked y zero (c ∷ cs) row rows e h = dot_combination y c cs row rows
dot-picked y (suc k) (c ∷ cs) row [] e h = absurd (omega arith)
dot-picked y (suc k) (c ∷ cs) row (r ∷ rows) e h =
    dot_combination y c cs r (insert rows k row) ∙ ap (λ v. c *ℚ dot y r +ℚ v) (dot-picked y k cs row rows (omega arith) (omega arith))
    ∙ exchange (c *ℚ dot y r) (coordinate cs k *ℚ dot y row) (dot y (vec_mat (remove cs k) rows)) ∙ ap (λ v. coordinate cs k *ℚ dot y row +ℚ v) (sym (dot_combination y c (remove cs k) r rows))

zero-picked : (k : ℕ) (cs : List ℚ) → k < length cs → coordinate cs k ≡ int (pos 0) → IsZero (remove cs k) → IsZero cs
zero-picked k [] h e z = tt
zero-picked zero (c ∷ cs) h e z = (e, z)
zero-picked (suc k) (c ∷ cs) h e z = (z.0, zero-picked k cs (omega arith) e z.1)

-- independent rows with one more, in any place
pub insert_independent : (k : ℕ) (row : List ℚ) (rows : List (List ℚ)) → k ≤ length rows → IsIndependent (row ∷ rows) → IsIndependent (insert rows k row)
insert_independent k row rows h i = record {
  only_zero = λ cs e z.
      let n : length (insert rows k row) ≡ length rows + 1 = length-insert rows k row h in
      let l : length cs ≡ suc (length rows) = omega arith in
      let w : length (remove cs k) + 1 ≡ length cs = length-remove cs k (omega arith) in
      let both = i.only_zero (coordinate cs k ∷ remove cs k) (omega arith)
      (zero_by_dots (vec_mat (coordinate cs k ∷ remove cs k) (row ∷ rows)) (λ y. dot_combination y (coordinate cs k) (remove cs k) row rows ∙ sym (dot-picked y k cs row rows l h) ∙ dot-zero y (vec_mat cs (insert rows k row)) z)) in
      zero-picked k cs (omega arith) both.0 both.1;
}

-- a row that changes along a direction that keeps independent ones is independent of them
pub joined_independent : (row : List ℚ) (rows : List (List ℚ)) → IsIndependent rows → ((c : ℚ) (cs : List ℚ) → IsZero (vec_mat (c ∷ cs) (row ∷ rows)) → c ≡ int (pos 0)) → IsIndependent (row ∷ rows)
joined_independent row rows i h = record { only_zero = each }
  where
    rest : (y : List ℚ) (c : ℚ) (cs : List ℚ) → c ≡ int (pos 0) → dot y (vec_mat (c ∷ cs) (row ∷ rows)) ≡ int (pos 0) → dot y (vec_mat cs rows) ≡ int (pos 0)
    rest y c cs e f = sym (nothing_first (dot y row) (dot y (vec_mat cs rows)) c e) ∙ sym (dot_combination y c cs row rows) ∙ f

    each : (factors : List ℚ) → length factors ≡ length (row ∷ rows) → IsZero (vec_mat factors (row ∷ rows)) → IsZero factors
    each [] e z = absurd (omega arith)
    each (c ∷ cs) e z =
        let first : c ≡ int (pos 0) = h c cs z in
        (first, i.only_zero cs (omega arith) (zero_by_dots (vec_mat cs rows) (λ y. rest y c cs first (dot-zero y (vec_mat (c ∷ cs) (row ∷ rows)) z))))

-- ---- multipliers
pub nonneg-remove : (k : ℕ) (l : List ℚ) → AllNonneg l → AllNonneg (remove l k)
nonneg-remove zero [] h = tt
nonneg-remove zero (x ∷ l) h = h.1
nonneg-remove (suc k) [] h = tt
nonneg-remove (suc k) (x ∷ l) h = (h.0, nonneg-remove k l h.1)

pub nonneg-insert : (k : ℕ) (u : ℚ) (l : List ℚ) → k ≤ length l → AllNonneg (u ∷ []) → AllNonneg l → AllNonneg (insert l k u)
nonneg-insert zero u l h p q = (p.0, q)
nonneg-insert (suc k) u [] h p q = absurd (omega arith)
nonneg-insert (suc k) u (x ∷ l) h p q = (q.0, nonneg-insert k u l (omega arith) p q.1)
