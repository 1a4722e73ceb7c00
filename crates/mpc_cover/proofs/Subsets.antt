-- What a set of rows passes on to its subsets: independence, and rows that hold with equality.
use Rattle.std.proofs.Common.{◌≡◌, ℕ, suc, ◌<◌, ◌≤◌, List, [], ◌∷◌, length, map, pos, refl, sym, ◌∙◌, ap, arith, ◌⊎◌, inl, inr}
use Rattle.std.proofs.lemmas.List.{length-map, length-replicate}
use Rattle.std.proofs.lemmas.Bool.{cases_eq}
use Rattle.mpc_exact.specs.Rational.{ℚ, int, ◌+ℚ◌, ◌*ℚ◌}
use Rattle.mpc_exact.proofs.RationalRing.{reads, by_ring}
use Rattle.mpc_space.specs.Vector.{zeros, dot, mat_vec, vec_mat, IsZero, IsIndependent}
use Rattle.mpc_space.proofs.Entries.{dot_nil, dot-zero, zero_by_dots, zeros_zero}
use Rattle.mpc_space.proofs.Matrix.{dot-vec_mat}
use Rattle.mpc_sets.specs.RowSet.{RisesWithin, Among}
use Rattle.mpc_cover.proofs.Members.{Among_within}
use Rattle.mpc_cover.proofs.Systems.{dot_combination}

-- the factors of a subset's rows, with 0 on the other rows of the set
record Extended (a : ℕ → List ℚ) (s t : List ℕ) (l : List ℚ) : Type 0 where
  pub factors : List ℚ
  pub one_each : length factors ≡ length s
  pub same : (y : List ℚ) → dot y (vec_mat factors (map a s)) ≡ dot y (vec_mat l (map a t))
  pub back : IsZero factors → IsZero l

dot_zeros : (y : List ℚ) (rows : List (List ℚ)) (n : ℕ) → dot y (vec_mat (zeros n) rows) ≡ int (pos 0)
dot_zeros y rows n = sym (dot-vec_mat rows y (zeros n)) ∙ dot-zero (mat_vec rows y) (zeros n) (zeros_zero n)

nothing_first : (x y : ℚ) → int (pos 0) *ℚ x +ℚ y ≡ y
nothing_first x y = by_ring (x ∷ y ∷ []) (search reads depth 30) (search reads depth 30) tt

extended : (a : ℕ → List ℚ) (low low' high high' : ℕ) (s t : List ℕ) (l : List ℚ) → RisesWithin low high s → RisesWithin low' high' t → ((i : ℕ) → Among i t → Among i s) → length l ≡ length t → Extended a s t l
extended a low low' high high' s [] [] r q h e =
    record { factors = zeros (length s); one_each = length-replicate (length s) (int (pos 0)); same = λ y. dot_zeros y (map a s) (length s) ∙ sym (dot_nil y); back = λ _. tt }
extended a low low' high high' s [] (c ∷ l) r q h e = absurd (omega arith)
extended a low low' high high' s (i ∷ t) [] r q h e = absurd (omega arith)
extended a low low' high high' [] (i ∷ t) (c ∷ l) r q h e = absurd (h i (inl refl))
extended a low low' high high' (j ∷ s) (i ∷ t) (c ∷ l) r q h e = by (cases_eq i j) (extended a j i high high' s t l r.2 q.2) (extended a j low' high high' s (i ∷ t) (c ∷ l) r.2 q)
  where
    -- a member of t after the first is above it, and so is no first member of s
    later : i ≡ j → (m : ℕ) → Among m t → Among m s
    later f m g = elim (h m (inr g)) [ inl k ↦ absurd (let w = Among_within i high' m t q.2 g in omega (arith, w.0, f, k)) | inr k ↦ k ]

    all : (i ≡ j → ⊥) → (m : ℕ) → Among m (i ∷ t) → Among m s
    all f m g =
        let above : j < i = elim (h i (inl refl)) [ inl k ↦ absurd (f k) | inr k ↦ (Among_within j high i s r.2 k).0 ] in
        let beyond : i ≤ m = elim g [ inl k ↦ omega (arith, k) | inr k ↦ let w = Among_within i high' m t q.2 k in omega (arith, w.0) ] in
        elim (h m g) [ inl k ↦ absurd (omega (arith, above, beyond, k)) | inr k ↦ k ]

    by : (i ≡ j) ⊎ (i ≡ j → ⊥) → (((m : ℕ) → Among m t → Among m s) → length l ≡ length t → Extended a s t l) → (((m : ℕ) → Among m (i ∷ t) → Among m s) → length (c ∷ l) ≡ length (i ∷ t) → Extended a s (i ∷ t) (c ∷ l)) → Extended a (j ∷ s) (i ∷ t) (c ∷ l)
    by (inl f) both skip =
        let x = both (later f) (omega arith) in
        record {
          factors = c ∷ x.factors;
          one_each = ap suc x.one_each;
          same = λ y. dot_combination y c x.factors (a j) (map a s) ∙ (λ k. c *ℚ dot y (a (sym f k)) +ℚ x.same y k) ∙ sym (dot_combination y c l (a i) (map a t));
          back = λ z. (z.0, x.back z.1);
        }
    by (inr f) both skip =
        let x = skip (all f) e in
        record {
          factors = int (pos 0) ∷ x.factors;
          one_each = ap suc x.one_each;
          same = λ y. dot_combination y (int (pos 0)) x.factors (a j) (map a s) ∙ nothing_first (dot y (a j)) (dot y (vec_mat x.factors (map a s))) ∙ x.same y;
          back = λ z. x.back z.1;
        }

pub subset_independent : (a : ℕ → List ℚ) (low low' high high' : ℕ) (s t : List ℕ) → RisesWithin low high s → RisesWithin low' high' t → ((i : ℕ) → Among i t → Among i s) → IsIndependent (map a s) → IsIndependent (map a t)
subset_independent a low low' high high' s t r q h i = record {
  only_zero = λ l e z.
      let x = extended a low low' high high' s t l r q h (e ∙ length-map t a) in
      x.back (i.only_zero x.factors (x.one_each ∙ sym (length-map s a)) (zero_by_dots (vec_mat x.factors (map a s)) (λ y. x.same y ∙ dot-zero y (vec_mat l (map a t)) z)));
}
