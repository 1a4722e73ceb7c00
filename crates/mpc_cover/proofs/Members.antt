-- Members of rising lists.
use Rattle.std.proofs.Common.{ℕ, zero, suc, ◌<◌, ◌≤◌, List, [], ◌∷◌, ◌++◌, Contains, refl, sym, arith, inl, inr}
use Rattle.mpc_sets.specs.RowSet.{RisesWithin, Among}

pub Contains-from_among : (i : ℕ) (s : List ℕ) → Among i s → Contains s i
Contains-from_among i [] h = absurd h
Contains-from_among i (j ∷ rest) (inl e) = (0, omega arith, sym e)
Contains-from_among i (j ∷ rest) (inr h) = let c = Contains-from_among i rest h in (suc c.0, omega (arith, c.1), c.2)

pub Among-from_contains : (i : ℕ) (s : List ℕ) → Contains s i → Among i s
Among-from_contains i [] (k, h, e) = absurd (omega arith)
Among-from_contains i (j ∷ rest) (zero, h, e) = inl (sym e)
Among-from_contains i (j ∷ rest) (suc k, h, e) = inr (Among-from_contains i rest (k, omega arith, e))

pub Among_within : (low high i : ℕ) (s : List ℕ) → RisesWithin low high s → Among i s → (low < i) × (i ≤ high)
Among_within low high i [] r h = absurd h
Among_within low high i (j ∷ rest) r (inl e) = omega (arith, r.0, r.1)
Among_within low high i (j ∷ rest) r (inr h) = let w = Among_within j high i rest r.2 h in omega (arith, r.0, w)

-- a greater row can stand behind the members
pub rises_last : (low high' high : ℕ) (s : List ℕ) (x : ℕ) → RisesWithin low high' s → ((i : ℕ) → Among i s → i < x) → low < x → x ≤ high → RisesWithin low high (s ++ x ∷ [])
rises_last low high' high [] x r h p q = (p, q, tt)
rises_last low high' high (j ∷ s) x r h p q = let first : j < x = h j (inl refl) in (r.0, omega arith, rises_last j high' high s x r.2 (λ i a. h i (inr a)) first q)
