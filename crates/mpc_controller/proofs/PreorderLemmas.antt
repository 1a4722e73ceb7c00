-- Nodes in preorder.
use Rattle.std.proofs.Common.{◌≡◌, ℕ, zero, suc, ◌+◌, List, [], ◌∷◌, ◌++◌, refl, subst, arith}
use Rattle.mpc_rows.specs.declared.trees.Node.{Node}
use Rattle.mpc_rows.specs.declared.trees.Node.TheVariants.{Split, Law, NoMove}
use Rattle.mpc_controller.specs.Preorder.{Spells}
use Rattle.mpc_controller.specs.PreorderTheorems.{SplitSpells, LeafSpells, JoinedSpell}

-- ---- one node behind nodes that spell trees
pub spells_split : SplitSpells
spells_split zero [] m row h = absurd (omega arith)
spells_split (suc t) [] m row h = omega arith
spells_split zero (x ∷ xs) m row h = absurd h
spells_split (suc t) (Split r ∷ xs) m row h = spells_split (suc (suc t)) xs m row h
spells_split (suc t) (Law law certs ∷ xs) m row h = spells_split t xs m row h
spells_split (suc t) (NoMove cert ∷ xs) m row h = spells_split t xs m row h

pub spells_leaf : LeafSpells
spells_leaf zero [] m leaf is h = absurd (omega arith)
spells_leaf (suc t) [] m (Split row) is h = absurd is
spells_leaf (suc t) [] m (Law law certs) is h = omega arith
spells_leaf (suc t) [] m (NoMove cert) is h = omega arith
spells_leaf zero (x ∷ xs) m leaf is h = absurd h
spells_leaf (suc t) (Split r ∷ xs) m leaf is h = spells_leaf (suc (suc t)) xs m leaf is h
spells_leaf (suc t) (Law law certs ∷ xs) m leaf is h = spells_leaf t xs m leaf is h
spells_leaf (suc t) (NoMove cert ∷ xs) m leaf is h = spells_leaf t xs m leaf is h

-- ---- what so many trees spell, and what stands behind it
spell_more : (k : ℕ) (xs ys : List Node) (left n : ℕ) → n ≡ k + left → Spells k xs 0 → Spells left ys 0 → Spells n (xs ++ ys) 0
spell_more zero [] ys left n e a b = subst (λ m. Spells m ys 0) (omega (arith, e)) b
spell_more (suc k) [] ys left n e a b = absurd (omega (arith, a))
spell_more zero (x ∷ xs) ys left n e a b = absurd a
spell_more (suc k) (Split row ∷ xs) ys left zero e a b = absurd (omega (arith, e))
spell_more (suc k) (Split row ∷ xs) ys left (suc n) e a b = spell_more (suc (suc k)) xs ys left (suc (suc n)) (omega (arith, e)) a b
spell_more (suc k) (Law law certs ∷ xs) ys left zero e a b = absurd (omega (arith, e))
spell_more (suc k) (Law law certs ∷ xs) ys left (suc n) e a b = spell_more k xs ys left n (omega (arith, e)) a b
spell_more (suc k) (NoMove cert ∷ xs) ys left zero e a b = absurd (omega (arith, e))
spell_more (suc k) (NoMove cert ∷ xs) ys left (suc n) e a b = spell_more k xs ys left n (omega (arith, e)) a b

pub spells_joined : JoinedSpell
spells_joined trees others nodes behind a b = spell_more trees nodes behind others (trees + others) refl a b
