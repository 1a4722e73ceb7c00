-- The laws of a registry, taken out one by one.
use Rattle.std.proofs.Common.{◌≡◌, ℕ, zero, suc, ◌+◌, ◌<◌, ◌≤◌, ◌⊎◌, List, [], ◌∷◌, ◌++◌, length, get_or, set, take, Contains, refl, sym, ap, ◌∙◌, subst, inl, inr, arith}
use Rattle.std.proofs.lemmas.Bool.{cases_eq}
use Rattle.std.proofs.lemmas.List.{length-set, get_or-set_other, take_more}
use Rattle.mpc_sets.specs.SetOrder.{IsInOrder}
use Rattle.mpc_rows.specs.declared.laws.Law.{Law}
use Rattle.mpc_rows.specs.declared.verdicts.Verdict.{Verdict}
use Rattle.mpc_rows.specs.declared.verdicts.Verdict.TheVariants.{Dependent, Unreachable, Hollow, Region, Wide}
use Rattle.mpc_claim.specs.declared.candidates.Candidate.{Candidate}
use Rattle.mpc_claim.specs.declared.candidates.Slot.{Slot}
use Rattle.mpc_claim.specs.declared.candidates.Slot.TheVariants.{Waiting as WaitingSlot, Claimed as ClaimedSlot, Done, Dropped as DroppedSlot}
use Rattle.mpc_claim.specs.declared.entries.Entry.{Entry}
use Rattle.mpc_claim.specs.declared.entries.Mark.{Mark}
use Rattle.mpc_claim.specs.declared.entries.Mark.TheVariants.{Waiting, Claimed, Dependent as DependentMark, Unreachable as UnreachableMark, Hollow as HollowMark, Kept, Dropped}
use Rattle.mpc_claim.specs.Board.{at, sets_of}
use Rattle.mpc_claim.specs.Entries.{entry_at, slot_of, seen_one, seen, without_law}
use Rattle.mpc_claim.specs.Levels.{StandOnce, laws_in, law_in, laws_of}
use Rattle.mpc_claim.proofs.Lists.{set_at, length-sets_of, different_at}
use Rattle.mpc_claim.proofs.Seen.{length-seen, at-seen, seen_here, seen_item}
use Rattle.mpc_claim.proofs.Table.{NamesSets, in_slot, laws_more}

-- ---- no law stands at two places
in_range : (cs : List Candidate) (i : ℕ) (law : Law) → (at cs i).slot ≡ Done (Region law) → i < length cs
in_range [] i law e = absurd (cc)
in_range (c ∷ cs) zero law e = omega arith
in_range (c ∷ cs) (suc i) law e = let p = in_range cs i law e in omega arith

pub stand_once : (cs : List Candidate) → NamesSets cs → IsInOrder (sets_of cs) → StandOnce cs
stand_once cs names order i j law e f = elim (cases_eq i j) [
  | inl same ↦ same
  | inr ne ↦
      let many = length-sets_of cs in
      let p = in_range cs i law e in
      let q = in_range cs j law f in
      absurd (different_at (sets_of cs) i j order (omega (arith, many)) (omega (arith, many)) ne
      (set_at cs i ∙ sym (names i law p e) ∙ names j law q f ∙ sym (set_at cs j)))
]

-- ---- a law that is taken out changes nothing of the other marks
gone : (vs : List Verdict) (place : ℕ) → laws_in (get_or (set vs place Hollow) place Dependent) ≡ []
gone [] place = refl
gone (v ∷ vs) zero = refl
gone (v ∷ vs) (suc place) = gone vs place

others : (vs : List Verdict) (m n : Mark) → (law_in (slot_of (without_law vs m) n) ≡ law_in (slot_of vs n)) ⊎ ((slot_of vs n ≡ slot_of vs m) × (law_in (slot_of (without_law vs m) n) ≡ []))
others vs Waiting n = inl refl
others vs (Claimed number) n = inl refl
others vs DependentMark n = inl refl
others vs UnreachableMark n = inl refl
others vs HollowMark n = inl refl
others vs (Kept place) Waiting = inl refl
others vs (Kept place) (Claimed number) = inl refl
others vs (Kept place) DependentMark = inl refl
others vs (Kept place) UnreachableMark = inl refl
others vs (Kept place) HollowMark = inl refl
others vs (Kept place) (Kept other) = elim (cases_eq other place) [
  | inl e ↦ inr (ap (λ i. Done (get_or vs i Dependent)) e, subst (λ i. laws_in (get_or (set vs place Hollow) i Dependent) ≡ []) (sym e) (gone vs place))
  | inr ne ↦ inl (ap laws_in (get_or-set_other vs place other Hollow Dependent ne))
]
others vs (Kept place) Dropped = inl refl
others vs Dropped n = inl refl

pub as_many : (vs : List Verdict) (m : Mark) → length (without_law vs m) ≡ length vs
as_many vs Waiting = refl
as_many vs (Claimed number) = refl
as_many vs DependentMark = refl
as_many vs UnreachableMark = refl
as_many vs HollowMark = refl
as_many vs (Kept place) = length-set vs place Hollow
as_many vs Dropped = refl

one_or_none : (slot : Slot) → (law_in slot ≡ []) ⊎ ((law : Law) × (law_in slot ≡ law ∷ []))
one_or_none WaitingSlot = inl refl
one_or_none (ClaimedSlot number) = inl refl
one_or_none (Done Dependent) = inl refl
one_or_none (Done Unreachable) = inl refl
one_or_none (Done Hollow) = inl refl
one_or_none (Done (Region law)) = inr (law, refl)
one_or_none (Done (Wide place)) = inl refl
one_or_none DroppedSlot = inl refl

has_law : (slot : Slot) (law : Law) → law_in slot ≡ law ∷ [] → slot ≡ Done (Region law)
has_law slot law e = in_slot slot law (subst (λ u. Contains u law) (sym e) (0, omega arith, refl))

-- the first n entries have given their laws, and those of the others stand where they stood
module _ (first vs : List Verdict) (es : List Entry) (n : ℕ) (e : Entry) (p : n < length es) (is : e ≡ get_or es n e)
    (rest : (i : ℕ) → n ≤ i → law_in (slot_of vs (entry_at es i).mark) ≡ law_in (slot_of first (entry_at es i).mark)) where
  here : law_in (slot_of vs e.mark) ≡ law_in (slot_of first e.mark)
  here = ap (λ (c : Candidate). law_in c.slot) (sym (seen_here vs es n e p is) ∙ at-seen vs es n) ∙ rest n (omega arith) ∙ ap (λ (c : Candidate). law_in c.slot) (sym (at-seen first es n) ∙ seen_here first es n e p is)

  pub taken_more : (laws new : List Law) → laws ≡ laws_of (take n (seen first es)) → new ≡ laws ++ law_in (slot_of vs e.mark) → new ≡ laws_of (take (n + 1) (seen first es))
  taken_more laws new f g =
      let many = length-seen first es in
      laws_more (take n (seen first es)) (seen_one first e) laws new f (g ∙ ap (λ u. laws ++ u) here)
      ∙ ap (λ (c : Candidate). laws_of (take n (seen first es) ++ c ∷ [])) (seen_item first es n e is)
      ∙ ap laws_of (sym (take_more (seen first es) n (seen_one first e) (omega (arith, many))))

  pub rest_more : StandOnce (seen first es) → (i : ℕ) → n + 1 ≤ i → law_in (slot_of (without_law vs e.mark) (entry_at es i).mark) ≡ law_in (slot_of first (entry_at es i).mark)
  rest_more once i q = elim (others vs e.mark (entry_at es i).mark) [
    | inl same ↦ same ∙ rest i (omega arith)
    | inr (same, none) ↦ none ∙ sym (elim (one_or_none (slot_of first (entry_at es i).mark)) [
      | inl no_law ↦ no_law
      | inr (law, one) ↦
          let there : (at (seen first es) i).slot ≡ Done (Region law) = ap (λ (c : Candidate). c.slot) (at-seen first es i) ∙ has_law (slot_of first (entry_at es i).mark) law one in
          let mine : law_in (slot_of first e.mark) ≡ law ∷ [] = sym here ∙ ap law_in (sym same) ∙ rest i (omega arith) ∙ one in
          let at_n : (at (seen first es) n).slot ≡ Done (Region law) = ap (λ (c : Candidate). c.slot) (seen_here first es n e p is) ∙ has_law (slot_of first e.mark) law mine in
          let twice = once i n law there at_n in
          absurd (omega arith)
    ])
  ]
