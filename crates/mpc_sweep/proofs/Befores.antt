-- The tables before each sweep.
use Rattle.std.proofs.Common.{◌≡◌, ℕ, ◌<◌, ◌≤◌, List, [], ◌∷◌, ◌++◌, length, take, refl, ◌∙◌, ap}
use Rattle.std.proofs.lemmas.List.{get_or-take, take-take}
use Rattle.std.proofs.Math.Seq.{take-suc, take-length}
use Rattle.mpc_linear.specs.Elimination.{Table, reduced}
use Rattle.mpc_sweep.specs.Sweeps.{swept, pivot_at, before}
use Rattle.mpc_sweep.proofs.Sequence.{AreSweeps}

pub swept-more : (t : Table) (ps : List ℕ) (p : ℕ) → swept t (ps ++ p ∷ []) ≡ reduced p (swept t ps)
unfolding swept
swept-more t [] p = refl
swept-more t (q ∷ ps) p = swept-more (reduced q t) ps p

pub before-zero : (t : Table) (ps : List ℕ) → before t ps 0 ≡ t
unfolding swept
before-zero t ps = refl

pub before-suc : (t : Table) (ps : List ℕ) → AreSweeps (before t ps) (pivot_at ps) (length ps)
before-suc t ps k h = ap (swept t) (take-suc ps k 0 h) ∙ swept-more t (take k ps) (pivot_at ps k)

pub before-all : (t : Table) (ps : List ℕ) → before t ps (length ps) ≡ swept t ps
before-all t ps = ap (swept t) (take-length ps)

-- the first rows alone
pub before_taken : (t : Table) (ps : List ℕ) (k c : ℕ) → c ≤ k → before t (take k ps) c ≡ before t ps c
before_taken t ps k c l = ap (swept t) (take-take c k ps l)

pub pivot_taken : (ps : List ℕ) (k c : ℕ) → c < k → pivot_at (take k ps) c ≡ pivot_at ps c
pivot_taken ps k c l = get_or-take k ps c 0 l
