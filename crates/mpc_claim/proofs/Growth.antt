-- The sets of a level that can grow.
use Rattle.std.proofs.Common.{◌≡◌, ℕ, zero, suc, ◌+◌, ◌<◌, ◌⊎◌, List, [], ◌∷◌, ◌++◌, Bool, true, false, length, get_or, take, Contains, refl, sym, ap, ◌∙◌, subst, inl, inr, arith}
use Rattle.std.specs.Prelude.{if◌then◌else◌}
use Rattle.std.proofs.lemmas.List.{append_assoc, append-nil, take_more}
use Rattle.std.proofs.lemmas.List.Elements.{Contains-get_or}
use Rattle.mpc_sets.specs.SetOrder.{IsBefore, IsInOrder}
use Rattle.mpc_sets.specs.NextLevel.{IsLevel}
use Rattle.mpc_claim.specs.declared.candidates.Candidate.{Candidate}
use Rattle.mpc_claim.specs.Board.{at, sets_of}
use Rattle.mpc_claim.specs.Levels.{slot_grows, grown_of}
use Rattle.mpc_claim.proofs.Lists.{contains_at}

-- ---- lists of sets, from the head
pub in_order_tail : (s : List ℕ) (sets : List (List ℕ)) → IsInOrder (s ∷ sets) → IsInOrder sets
in_order_tail s sets h = λ i j d p q. h (suc i) (suc j) d (omega arith) (omega arith)

pub in_order_head : (s t : List ℕ) (sets : List (List ℕ)) → IsInOrder (s ∷ sets) → Contains sets t → IsBefore s t
in_order_head s t sets h (k, p, e) = subst (IsBefore s) e (h 0 (suc k) t (omega arith) (omega arith))

pub in_order_cons : (s : List ℕ) (sets : List (List ℕ)) → ((t : List ℕ) → Contains sets t → IsBefore s t) → IsInOrder sets → IsInOrder (s ∷ sets)
in_order_cons s sets f h zero zero d p q = absurd (omega arith)
in_order_cons s sets f h zero (suc j) d p q = f (get_or sets j d) (Contains-get_or sets j d (omega arith))
in_order_cons s sets f h (suc i) zero d p q = absurd (omega arith)
in_order_cons s sets f h (suc i) (suc j) d p q = h i j d (omega arith) (omega arith)

pub contains_cases : (s t : List ℕ) (sets : List (List ℕ)) → Contains (s ∷ sets) t → (s ≡ t) ⊎ Contains sets t
contains_cases s t sets (zero, p, e) = inl e
contains_cases s t sets (suc k, p, e) = inr (k, omega arith, e)

pub contains_later : (s t : List ℕ) (sets : List (List ℕ)) → Contains sets t → Contains (s ∷ sets) t
contains_later s t sets (k, p, e) = (suc k, omega arith, e)

-- ---- the sets that can grow
pub grown_of-append : (cs ds : List Candidate) → grown_of (cs ++ ds) ≡ grown_of cs ++ grown_of ds
grown_of-append [] ds = refl
grown_of-append (c ∷ cs) ds =
    ap (λ u. (if slot_grows c.slot then c.set ∷ [] else []) ++ u) (grown_of-append cs ds)
    ∙ sym (append_assoc (if slot_grows c.slot then c.set ∷ [] else []) (grown_of cs) (grown_of ds))

more : (cs : List Candidate) (i : ℕ) (c : Candidate) → i < length cs → get_or cs i c ≡ c → grown_of (take (i + 1) cs) ≡ grown_of (take i cs) ++ ((if slot_grows c.slot then c.set ∷ [] else []) ++ [])
more cs i c p e =
    ap grown_of (take_more cs i c p) ∙ grown_of-append (take i cs) (get_or cs i c ∷ [])
    ∙ ap (λ (d : Candidate). grown_of (take i cs) ++ ((if slot_grows d.slot then d.set ∷ [] else []) ++ [])) e

pub grown_more : (cs : List Candidate) (i : ℕ) (c : Candidate) (sets new : List (List ℕ)) (b : Bool) → i < length cs → c ≡ get_or cs i c → sets ≡ grown_of (take i cs) → b ≡ slot_grows c.slot → b ≡ true → new ≡ sets ++ c.set ∷ [] → new ≡ grown_of (take (i + 1) cs)
grown_more cs i c sets new b p e h f t g =
    g ∙ ap (λ u. u ++ c.set ∷ []) h ∙ ap (λ (x : Bool). grown_of (take i cs) ++ ((if x then c.set ∷ [] else []) ++ [])) (sym t ∙ f) ∙ sym (more cs i c p (sym e))

pub grown_same : (cs : List Candidate) (i : ℕ) (c : Candidate) (sets : List (List ℕ)) (b : Bool) → i < length cs → c ≡ get_or cs i c → sets ≡ grown_of (take i cs) → b ≡ slot_grows c.slot → b ≡ false → sets ≡ grown_of (take (i + 1) cs)
grown_same cs i c sets b p e h f t =
    h ∙ sym (append-nil (grown_of (take i cs))) ∙ ap (λ (x : Bool). grown_of (take i cs) ++ ((if x then c.set ∷ [] else []) ++ [])) (sym t ∙ f) ∙ sym (more cs i c p (sym e))

-- the candidate at some place has this set, and a slot with which it can grow
pub record HasGrown (cs : List Candidate) (s : List ℕ) : Type 0 where
  pub place : ℕ
  pub in_range : place < length cs
  pub set_is : (at cs place).set ≡ s
  pub grows : slot_grows (at cs place).slot ≡ true

later_grown : (c : Candidate) (cs : List Candidate) (s : List ℕ) → HasGrown cs s → HasGrown (c ∷ cs) s
later_grown c cs s h = let p = h.in_range in record { place = suc h.place; in_range = omega arith; set_is = h.set_is; grows = h.grows }

-- a grown set is that of a candidate whose slot says so
pub place_of_grown : (cs : List Candidate) (s : List ℕ) → Contains (grown_of cs) s → HasGrown cs s
place_of_grown [] s (i, p, e) = absurd (omega arith)
place_of_grown (c ∷ cs) s h = go (slot_grows c.slot) refl (λ k. later_grown c cs s (place_of_grown cs s k)) h
  where
    go : (b : Bool) → slot_grows c.slot ≡ b → (Contains (grown_of cs) s → HasGrown (c ∷ cs) s) → Contains ((if b then c.set ∷ [] else []) ++ grown_of cs) s → HasGrown (c ∷ cs) s
    go true f r k = elim (contains_cases c.set s (grown_of cs) k) [
      | inl e ↦ record { place = 0; in_range = omega arith; set_is = e; grows = f }
      | inr m ↦ r m
    ]
    go false f r k = r k

pub contains_grown : (cs : List Candidate) (i : ℕ) → i < length cs → slot_grows (at cs i).slot ≡ true → Contains (grown_of cs) (at cs i).set
contains_grown [] i p e = absurd (omega arith)
contains_grown (c ∷ cs) zero p e = subst (λ (b : Bool). Contains ((if b then c.set ∷ [] else []) ++ grown_of cs) c.set) (sym e) (0, omega arith, refl)
contains_grown (c ∷ cs) (suc i) p e = go (slot_grows c.slot) (contains_grown cs i (omega arith) e)
  where
    go : (b : Bool) → Contains (grown_of cs) (at cs i).set → Contains ((if b then c.set ∷ [] else []) ++ grown_of cs) (at cs i).set
    go true k = contains_later c.set (at cs i).set (grown_of cs) k
    go false k = k

grown_is_part : (cs : List Candidate) (s : List ℕ) → Contains (grown_of cs) s → Contains (sets_of cs) s
grown_is_part cs s h =
    let g = place_of_grown cs s h in
    subst (Contains (sets_of cs)) g.set_is (contains_at cs g.place g.in_range)

grown_in_order : (cs : List Candidate) → IsInOrder (sets_of cs) → IsInOrder (grown_of cs)
grown_in_order [] h = h
grown_in_order (c ∷ cs) h = go (slot_grows c.slot) (grown_in_order cs (in_order_tail c.set (sets_of cs) h))
  where
    go : (b : Bool) → IsInOrder (grown_of cs) → IsInOrder ((if b then c.set ∷ [] else []) ++ grown_of cs)
    go true k = in_order_cons c.set (grown_of cs) (λ t m. in_order_head c.set t (sets_of cs) h (grown_is_part cs t m)) k
    go false k = k

pub grown_is_level : (cs : List Candidate) → IsLevel (sets_of cs) → IsLevel (grown_of cs)
grown_is_level cs h = record {
  in_order = grown_in_order cs h.in_order;
  one_size = λ s t k m. h.one_size s t (grown_is_part cs s k) (grown_is_part cs t m);
}
