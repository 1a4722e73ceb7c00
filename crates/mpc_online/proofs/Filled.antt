-- Lists that are filled entry by entry from their beginning.
use Rattle.std.proofs.Common.{◌≡◌, ℕ, zero, suc, ◌+◌, ◌-◌, ◌<◌, List, [], ◌∷◌, ◌++◌, length, get_or, pos, sym, ◌∙◌, ap, arith, ⊎_elim}
use Rattle.std.proofs.lemmas.Bool.{cases_eq}
use Rattle.std.proofs.lemmas.List.{length-append, get_or_append_left, get_or-append_right}
use Rattle.mpc_exact.specs.Rational.{ℚ, int}
use Rattle.mpc_space.specs.Vector.{coordinate, listed}
use Rattle.mpc_space.proofs.Entries.{same_entries, length-listed, coordinate-listed}

-- the entries are f 0, f 1, .., of which there are n
pub record IsFilled (xs : List ℚ) (n : ℕ) (f : ℕ → ℚ) : Type 0 where
  pub size : length xs ≡ n
  pub at : (k : ℕ) → k < n → coordinate xs k ≡ f k

pub filled_none : (xs : List ℚ) (f : ℕ → ℚ) → xs ≡ [] → IsFilled xs 0 f
filled_none xs f e = record { size = (let g : length xs ≡ 0 = ap length e in g); at = λ k h. absurd (omega arith) }

pub filled_more : (xs ys : List ℚ) (n : ℕ) (f : ℕ → ℚ) (v : ℚ) → ys ≡ xs ++ v ∷ [] → v ≡ f n → IsFilled xs n f → IsFilled ys (n + 1) f
filled_more xs ys n f v e is h = record {
  size = (let f : length ys ≡ length (xs ++ v ∷ []) = ap length e in f) ∙ length-append xs (v ∷ []) ∙ ap (λ k. k + 1) h.size;
  at = λ k l. ⊎_elim
      (λ q. ap (λ zs. coordinate zs k) e ∙ get_or-append_right xs (v ∷ []) n k (int (pos 0)) h.size (omega arith)
      ∙ (let z : k - n ≡ 0 = omega arith in ap (coordinate (v ∷ [])) z) ∙ is ∙ ap f (sym q))
      (λ q. ap (λ zs. coordinate zs k) e ∙ get_or_append_left xs (v ∷ []) (int (pos 0)) k (omega (arith, h.size)) ∙ h.at k (omega arith))
      (cases_eq k n);
}

pub filled_all : (xs ys : List ℚ) (n : ℕ) (f : ℕ → ℚ) → IsFilled xs n f → length ys ≡ n → ((k : ℕ) → k < n → coordinate ys k ≡ f k) → xs ≡ ys
filled_all xs ys n f h e g = same_entries xs ys (h.size ∙ sym e) (λ k l. h.at k (omega (arith, h.size)) ∙ sym (g k (omega (arith, h.size))))

pub filled_listed : (xs : List ℚ) (n : ℕ) (f : ℕ → ℚ) → IsFilled xs n f → xs ≡ listed n f
filled_listed xs n f h = filled_all xs (listed n f) n f h (length-listed n f) (coordinate-listed n f)

-- what an index reads
pub entry_read : (xs : List ℚ) (i : ℕ) (x : ℚ) → i < length xs → x ≡ get_or xs i x → x ≡ coordinate xs i
entry_read [] i x h e = absurd (omega arith)
entry_read (y ∷ xs) zero x h e = e
entry_read (y ∷ xs) (suc i) x h e = entry_read xs i x (omega arith) e
