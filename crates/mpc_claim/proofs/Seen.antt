-- What contracts see of a registry's entries, as these and the kept verdicts change.
use Rattle.std.proofs.Common.{◌≡◌, ℕ, zero, suc, ◌+◌, ◌-◌, ◌<◌, ◌≤◌, List, [], ◌∷◌, ◌++◌, length, get_or, set, map, drop, refl, sym, ap, ◌∙◌, subst, arith}
use Rattle.std.proofs.Math.ListN.{get_or-map}
use Rattle.std.proofs.Math.Seq.{get_or-append_seam}
use Rattle.std.proofs.lemmas.List.{length-map, length-append, map-append, map-set, drop-map, get_or_default, get_or_append_left}
use Rattle.mpc_rows.specs.declared.verdicts.Verdict.{Verdict}
use Rattle.mpc_rows.specs.declared.verdicts.Verdict.TheVariants.{Dependent, Unreachable, Hollow, Region, Wide}
use Rattle.mpc_claim.specs.declared.candidates.Candidate.{Candidate}
use Rattle.mpc_claim.specs.declared.candidates.Slot.TheVariants.{Claimed as ClaimedSlot, Done}
use Rattle.mpc_claim.specs.declared.entries.Entry.{Entry}
use Rattle.mpc_claim.specs.declared.entries.Mark.{Mark}
use Rattle.mpc_claim.specs.declared.entries.Mark.TheVariants.{Waiting, Claimed, Dependent as DependentMark, Unreachable as UnreachableMark, Hollow as HollowMark, Kept, Dropped}
use Rattle.mpc_claim.specs.Board.{at, candidate, waiting}
use Rattle.mpc_claim.specs.Entries.{entry, unclaimed, entry_at, kept_of, mark_of, slot_of, seen_one, seen, IsWithin, HasVerdicts}

pub length-seen : (vs : List Verdict) (es : List Entry) → length (seen vs es) ≡ length es
length-seen vs es = length-map es (seen_one vs)

pub at-seen : (vs : List Verdict) (es : List Entry) (i : ℕ) → at (seen vs es) i ≡ seen_one vs (entry_at es i)
at-seen vs es i = get_or-map (seen_one vs) es i (unclaimed [])

-- the candidate of the entry at a place
pub seen_here : (vs : List Verdict) (es : List Entry) (i : ℕ) (e : Entry) → i < length es → e ≡ get_or es i e → at (seen vs es) i ≡ seen_one vs e
seen_here vs es i e p is = at-seen vs es i ∙ ap (seen_one vs) (get_or_default es i (unclaimed []) e p ∙ sym is)

pub seen_item : (vs : List Verdict) (es : List Entry) (i : ℕ) (e : Entry) → e ≡ get_or es i e → seen_one vs e ≡ get_or (seen vs es) i (seen_one vs e)
seen_item vs es i e is = ap (seen_one vs) is ∙ sym (get_or-map (seen_one vs) es i e)

-- a kept verdict is that of its candidate
pub kept_here : (vs : List Verdict) (es : List Entry) (i : ℕ) (e : Entry) (k : ℕ) (v : Verdict) → ((j : ℕ) → IsWithin (length vs) (entry_at es j).mark) → i < length es → e ≡ get_or es i e → e.mark ≡ Kept k → v ≡ get_or vs k v → (at (seen vs es) i).slot ≡ Done v
kept_here vs es i e k v f p is marked here =
    let within : k < length vs = subst (IsWithin (length vs)) (ap (λ (d : Entry). d.mark) (get_or_default es i (unclaimed []) e p ∙ sym is) ∙ marked) (f i) in
    ap (λ (c : Candidate). c.slot) (seen_here vs es i e p is) ∙ ap (slot_of vs) marked ∙ ap Done (get_or_default vs k Dependent v within ∙ sym here)

pub set_seen : (vs : List Verdict) (es : List Entry) (i : ℕ) → (at (seen vs es) i).set ≡ (entry_at es i).set
set_seen vs es i = ap (λ (c : Candidate). c.set) (at-seen vs es i)

pub seen-set : (vs : List Verdict) (es : List Entry) (i : ℕ) (e : Entry) → seen vs (set es i e) ≡ set (seen vs es) i (seen_one vs e)
seen-set vs es i e = map-set (seen_one vs) es i e

pub seen-claim : (vs : List Verdict) (es : List Entry) (i m : ℕ) → seen vs (set es i (entry (entry_at es i).set (Claimed m))) ≡ set (seen vs es) i (candidate (at (seen vs es) i).set (ClaimedSlot m))
seen-claim vs es i m = seen-set vs es i (entry (entry_at es i).set (Claimed m)) ∙ ap (λ s. set (seen vs es) i (candidate s (ClaimedSlot m))) (sym (set_seen vs es i))

pub seen-drop : (vs : List Verdict) (n : ℕ) (es : List Entry) → seen vs (drop n es) ≡ drop n (seen vs es)
seen-drop vs n es = sym (drop-map (seen_one vs) n es)

seen-unclaimed : (vs : List Verdict) (sets : List (List ℕ)) → seen vs (map unclaimed sets) ≡ map waiting sets
seen-unclaimed vs [] = refl
seen-unclaimed vs (s ∷ sets) = ap (λ u. waiting s ∷ u) (seen-unclaimed vs sets)

-- the next level behind the entries
pub seen-level : (vs : List Verdict) (es : List Entry) (sets : List (List ℕ)) → seen vs (es ++ map unclaimed sets) ≡ seen vs es ++ map waiting sets
seen-level vs es sets = map-append (seen_one vs) es (map unclaimed sets) ∙ ap (λ u. seen vs es ++ u) (seen-unclaimed vs sets)

-- ---- further verdicts change nothing of what is seen
slot-more : (vs ws : List Verdict) (m : Mark) → IsWithin (length vs) m → slot_of (vs ++ ws) m ≡ slot_of vs m
slot-more vs ws Waiting p = refl
slot-more vs ws (Claimed number) p = refl
slot-more vs ws DependentMark p = refl
slot-more vs ws UnreachableMark p = refl
slot-more vs ws HollowMark p = refl
slot-more vs ws (Kept place) p = ap Done (get_or_append_left vs ws Dependent place p)
slot-more vs ws Dropped p = refl

seen-more : (vs ws : List Verdict) (es : List Entry) → ((i : ℕ) → IsWithin (length vs) (entry_at es i).mark) → seen (vs ++ ws) es ≡ seen vs es
seen-more vs ws [] f = refl
seen-more vs ws (e ∷ es) f =
    ap (λ slot. candidate e.set slot ∷ seen (vs ++ ws) es) (slot-more vs ws e.mark (f 0)) ∙ ap (λ u. seen_one vs e ∷ u) (seen-more vs ws es (λ i. f (suc i)))

-- the mark of a verdict finds it
slot-kept : (vs : List Verdict) (v : Verdict) → slot_of (vs ++ kept_of v) (mark_of (length vs) v) ≡ Done v
slot-kept vs Dependent = refl
slot-kept vs Unreachable = refl
slot-kept vs Hollow = refl
slot-kept vs (Region law) = ap Done (get_or-append_seam vs (Region law) [] Dependent)
slot-kept vs (Wide place) = ap Done (get_or-append_seam vs (Wide place) [] Dependent)

pub seen-delivered : (vs : List Verdict) (es : List Entry) (i : ℕ) (s : List ℕ) (v : Verdict) → ((j : ℕ) → IsWithin (length vs) (entry_at es j).mark)
    → seen (vs ++ kept_of v) (set es i (entry s (mark_of (length vs) v))) ≡ set (seen vs es) i (candidate s (Done v))
seen-delivered vs es i s v f =
    seen-set (vs ++ kept_of v) es i (entry s (mark_of (length vs) v))
    ∙ ap (λ u. set u i (seen_one (vs ++ kept_of v) (entry s (mark_of (length vs) v)))) (seen-more vs (kept_of v) es f)
    ∙ ap (λ slot. set (seen vs es) i (candidate s slot)) (slot-kept vs v)

-- ---- each place that is named has a verdict
within-more : (count more : ℕ) (m : Mark) → count ≤ more → IsWithin count m → IsWithin more m
within-more count more Waiting l p = tt
within-more count more (Claimed number) l p = tt
within-more count more DependentMark l p = tt
within-more count more UnreachableMark l p = tt
within-more count more HollowMark l p = tt
within-more count more (Kept place) l p = omega arith
within-more count more Dropped l p = tt

within-set : (count : ℕ) (es : List Entry) (i : ℕ) (e : Entry) → ((j : ℕ) → IsWithin count (entry_at es j).mark) → IsWithin count e.mark → (j : ℕ) → IsWithin count (entry_at (set es i e) j).mark
within-set count [] i e f p j = f j
within-set count (d ∷ es) zero e f p zero = p
within-set count (d ∷ es) zero e f p (suc j) = f (suc j)
within-set count (d ∷ es) (suc i) e f p zero = f 0
within-set count (d ∷ es) (suc i) e f p (suc j) = within-set count es i e (λ k. f (suc k)) p j

within-level : (count : ℕ) (es : List Entry) (sets : List (List ℕ)) → ((j : ℕ) → IsWithin count (entry_at es j).mark) → (j : ℕ) → IsWithin count (entry_at (es ++ map unclaimed sets) j).mark
within-level count [] [] f j = tt
within-level count [] (s ∷ sets) f zero = tt
within-level count [] (s ∷ sets) f (suc j) = within-level count [] sets f j
within-level count (e ∷ es) sets f zero = f 0
within-level count (e ∷ es) sets f (suc j) = within-level count es sets (λ k. f (suc k)) j

within-mark : (vs : List Verdict) (v : Verdict) → IsWithin (length (vs ++ kept_of v)) (mark_of (length vs) v)
within-mark vs Dependent = tt
within-mark vs Unreachable = tt
within-mark vs Hollow = tt
within-mark vs (Region law) = let l = length-append vs (Region law ∷ []) in omega (arith, l)
within-mark vs (Wide place) = let l = length-append vs (Wide place ∷ []) in omega (arith, l)

one_kept : (v : Verdict) → length (kept_of v) ≤ 1
one_kept Dependent = omega arith
one_kept Unreachable = omega arith
one_kept Hollow = omega arith
one_kept (Region law) = omega arith
one_kept (Wide place) = omega arith

pub verdicts_roomier : (es : List Entry) (vs : List Verdict) (n pending room more : ℕ) → HasVerdicts es vs n pending room → room ≤ more → HasVerdicts es vs n pending more
verdicts_roomier es vs n pending room more k l = let r = k.room in record { within = k.within; few = k.few; room = omega arith }

module _ (es : List Entry) (vs : List Verdict) (n pending room : ℕ) (k : HasVerdicts es vs n pending room) where
  pub verdicts_after_claim : (i m capacity : ℕ) → length vs + (pending + 1) ≤ capacity → HasVerdicts (set es i (entry (entry_at es i).set (Claimed m))) vs (n + 1) (pending + 1) capacity
  verdicts_after_claim i m capacity enough = let f = k.few in record {
    within = within-set (length vs) es i (entry (entry_at es i).set (Claimed m)) k.within tt;
    few = omega arith;
    room = omega arith;
  }

  pub verdicts_after_level : (sets : List (List ℕ)) → HasVerdicts (es ++ map unclaimed sets) vs n pending room
  verdicts_after_level sets = record { within = within-level (length vs) es sets k.within; few = k.few; room = k.room }

  pub verdicts_after_delivery : (i : ℕ) (s : List ℕ) (v : Verdict) → 1 ≤ pending → HasVerdicts (set es i (entry s (mark_of (length vs) v))) (vs ++ kept_of v) n (pending - 1) room
  verdicts_after_delivery i s v some =
      let l = length-append vs (kept_of v) in
      let one = one_kept v in
      let f = k.few in
      let r = k.room in
      record {
        within = within-set (length (vs ++ kept_of v)) es i (entry s (mark_of (length vs) v))
            (λ j. within-more (length vs) (length (vs ++ kept_of v)) (entry_at es j).mark (omega (arith, l)) (k.within j)) (within-mark vs v);
        few = omega (arith, l, one);
        room = omega (arith, l, one);
      }

  pub verdicts_after_abandonment : (i : ℕ) (s : List ℕ) → HasVerdicts (set es i (entry s Dropped)) vs n (pending - 1) room
  verdicts_after_abandonment i s = let f = k.few in let r = k.room in record { within = within-set (length vs) es i (entry s Dropped) k.within tt; few = omega arith; room = omega arith }
