-- The laws of a finished registry are the table of its program.
use Rattle.std.proofs.Common.{◌≡◌, ℕ, zero, suc, ◌<◌, List, [], ◌∷◌, ◌++◌, map, length, get_or, false, All, Contains, refl, sym, ap, ◌∙◌, subst, inl, inr, arith}
use Rattle.std.proofs.lemmas.List.{append_assoc, append-nil}
use Rattle.std.proofs.lemmas.List.Elements.{Contains-append_right, Contains-append_cases, Contains-get_or}
use Rattle.mpc_space.specs.Definite.{IsDefinite}
use Rattle.mpc_space.specs.Matrix.{height}
use Rattle.mpc_sets.specs.SetOrder.{IsBefore, IsInOrder}
use Rattle.mpc_rows.specs.declared.programs.Qp.{Qp}
use Rattle.mpc_rows.specs.declared.laws.Law.{Law}
use Rattle.mpc_rows.specs.declared.verdicts.Verdict.{Verdict}
use Rattle.mpc_rows.specs.declared.verdicts.Verdict.TheVariants.{Dependent, Unreachable, Hollow, Region, Wide}
use Rattle.mpc_rows.specs.Laws.{HasRegion}
use Rattle.mpc_rows.specs.Candidates.{IsCandidate, IsVerdict, IsTable}
use Rattle.mpc_rows.specs.SetRuns.{LawRowsFit}
use Rattle.mpc_rows.specs.Verdicts.{IsRight}
use Rattle.mpc_rows.specs.LawTheorems.{OneLaw}
use Rattle.mpc_claim.specs.declared.events.Event.{Event}
use Rattle.mpc_claim.specs.declared.candidates.Candidate.{Candidate}
use Rattle.mpc_claim.specs.declared.candidates.Slot.{Slot}
use Rattle.mpc_claim.specs.declared.candidates.Slot.TheVariants.{Waiting, Claimed, Done, Dropped}
use Rattle.mpc_claim.specs.Board.{at, sets_of, is_wide}
use Rattle.mpc_claim.specs.Books.{IsQuiet, IsBegun, IsLineup, HasSlots, IsComplete}
use Rattle.mpc_claim.specs.Levels.{laws_in, law_in, laws_of}
use Rattle.mpc_claim.proofs.Lists.{place_of, contains_at}
use Rattle.mpc_claim.proofs.Growth.{in_order_tail, in_order_head, in_order_cons, contains_cases, contains_later}
use Rattle.mpc_claim.proofs.NextLevels.{all_claimed}

pub laws_of-append : (cs ds : List Candidate) → laws_of (cs ++ ds) ≡ laws_of cs ++ laws_of ds
laws_of-append [] ds = refl
laws_of-append (c ∷ cs) ds = ap (λ u. law_in c.slot ++ u) (laws_of-append cs ds) ∙ sym (append_assoc (law_in c.slot) (laws_of cs) (laws_of ds))

pub laws_more : (cs : List Candidate) (c : Candidate) (laws new : List Law) → laws ≡ laws_of cs → new ≡ laws ++ law_in c.slot → new ≡ laws_of (cs ++ c ∷ [])
laws_more cs c laws new e f = f ∙ ap (λ u. u ++ law_in c.slot) e ∙ ap (λ u. laws_of cs ++ u) (sym (append-nil (law_in c.slot))) ∙ sym (laws_of-append cs (c ∷ []))

-- a law stands in the slot of a candidate
pub record HasLawAt (cs : List Candidate) (law : Law) : Type 0 where
  pub place : ℕ
  pub in_range : place < length cs
  pub slot_is : (at cs place).slot ≡ Done (Region law)

later_law : (c : Candidate) (cs : List Candidate) (law : Law) → HasLawAt cs law → HasLawAt (c ∷ cs) law
later_law c cs law h = let p = h.in_range in record { place = suc h.place; in_range = omega arith; slot_is = h.slot_is }

no_law : (law : Law) → Contains [] law → ⊥
no_law law (i, p, e) = omega arith

one_law : (law other : Law) → Contains (other ∷ []) law → other ≡ law
one_law law other (zero, p, e) = e
one_law law other (suc i, p, e) = absurd (omega arith)

in_verdict : (v : Verdict) (law : Law) → Contains (laws_in v) law → v ≡ Region law
in_verdict Dependent law c = absurd (no_law law c)
in_verdict Unreachable law c = absurd (no_law law c)
in_verdict Hollow law c = absurd (no_law law c)
in_verdict (Region other) law c = ap Region (one_law law other c)
in_verdict (Wide place) law c = absurd (no_law law c)

pub in_slot : (slot : Slot) (law : Law) → Contains (law_in slot) law → slot ≡ Done (Region law)
in_slot Waiting law c = absurd (no_law law c)
in_slot (Claimed number) law c = absurd (no_law law c)
in_slot (Done v) law c = ap Done (in_verdict v law c)
in_slot Dropped law c = absurd (no_law law c)

pub place_of_law : (cs : List Candidate) (law : Law) → Contains (laws_of cs) law → HasLawAt cs law
place_of_law [] law c = absurd (no_law law c)
place_of_law (d ∷ cs) law c = elim (Contains-append_cases (law_in d.slot) (laws_of cs) law c) [
  | inl here ↦ record { place = 0; in_range = omega arith; slot_is = in_slot d.slot law here }
  | inr later ↦ later_law d cs law (place_of_law cs law later)
]

pub contains_law : (cs : List Candidate) (i : ℕ) (law : Law) → i < length cs → (at cs i).slot ≡ Done (Region law) → Contains (laws_of cs) law
contains_law [] i law p e = absurd (omega arith)
contains_law (c ∷ cs) zero law p e =
    let here : law_in c.slot ≡ law ∷ [] = ap law_in e in
    subst (λ u. Contains (u ++ laws_of cs) law) (sym here) (0, omega arith, refl)
contains_law (c ∷ cs) (suc i) law p e = Contains-append_right (law_in c.slot) (laws_of cs) law (contains_law cs i law (omega arith) e)

-- each law is that of its candidate's set
abbrev pub NamesSets : List Candidate → Type 0
NamesSets cs = (i : ℕ) (law : Law) → i < length cs → (at cs i).slot ≡ Done (Region law) → law.set ≡ (at cs i).set

abbrev law_sets : List Law → List (List ℕ)
law_sets laws = map (λ (law : Law). law.set) laws

names_tail : (c : Candidate) (cs : List Candidate) → NamesSets (c ∷ cs) → NamesSets cs
names_tail c cs f i law p e = f (suc i) law (omega arith) e

law_set_is_part : (cs : List Candidate) (s : List ℕ) → NamesSets cs → Contains (law_sets (laws_of cs)) s → Contains (sets_of cs) s
law_set_is_part [] s f c = c
law_set_is_part (c ∷ cs) s f h = go c.slot refl (λ k. contains_later c.set s (sets_of cs) (law_set_is_part cs s (names_tail c cs f) k)) h
  where
    here : (law : Law) → c.slot ≡ Done (Region law) → (Contains (law_sets (laws_of cs)) s → Contains (c.set ∷ sets_of cs) s) → Contains (law.set ∷ law_sets (laws_of cs)) s → Contains (c.set ∷ sets_of cs) s
    here law e r k = elim (contains_cases law.set s (law_sets (laws_of cs)) k) [ inl same ↦ (0, omega arith, sym (f 0 law (omega arith) e) ∙ same) | inr m ↦ r m ]

    go : (slot : Slot) → c.slot ≡ slot → (Contains (law_sets (laws_of cs)) s → Contains (c.set ∷ sets_of cs) s) → Contains (law_sets (law_in slot ++ laws_of cs)) s → Contains (c.set ∷ sets_of cs) s
    go Waiting e r k = r k
    go (Claimed number) e r k = r k
    go (Done Dependent) e r k = r k
    go (Done Unreachable) e r k = r k
    go (Done Hollow) e r k = r k
    go (Done (Region law)) e r k = here law e r k
    go (Done (Wide place)) e r k = r k
    go Dropped e r k = r k

laws_in_order : (cs : List Candidate) → NamesSets cs → IsInOrder (sets_of cs) → IsInOrder (law_sets (laws_of cs))
laws_in_order [] f h = h
laws_in_order (c ∷ cs) f h = go c.slot refl (laws_in_order cs (names_tail c cs f) (in_order_tail c.set (sets_of cs) h))
  where
    here : (law : Law) → c.slot ≡ Done (Region law) → IsInOrder (law_sets (laws_of cs)) → IsInOrder (law.set ∷ law_sets (laws_of cs))
    here law e k = in_order_cons law.set (law_sets (laws_of cs)) (λ t m. subst (λ u. IsBefore u t) (sym (f 0 law (omega arith) e)) (in_order_head c.set t (sets_of cs) h (law_set_is_part cs t (names_tail c cs f) m))) k

    go : (slot : Slot) → c.slot ≡ slot → IsInOrder (law_sets (laws_of cs)) → IsInOrder (law_sets (law_in slot ++ laws_of cs))
    go Waiting e k = k
    go (Claimed number) e k = k
    go (Done Dependent) e k = k
    go (Done Unreachable) e k = k
    go (Done Hollow) e k = k
    go (Done (Region law)) e k = here law e k
    go (Done (Wide place)) e k = k
    go Dropped e k = k

-- ---- the table
begun_law : (qp : Qp) (h : List Event) (i : ℕ) (s : List ℕ) (slot : Slot) (law : Law) → IsBegun qp h i s slot → slot ≡ Done (Region law) → IsVerdict qp s (Region law)
begun_law qp h i s slot law b e = (subst (IsBegun qp h i s) e b).0.0

pub verdict_of_law : OneLaw → (qp : Qp) (law : Law) (v : Verdict) → IsDefinite qp.h.rows → IsRight qp law.set v → IsVerdict qp law.set (Region law) → is_wide v ≡ false → v ≡ Region law
verdict_of_law law_unique qp law Dependent d r t q = absurd (r.0 t.0.independent)
verdict_of_law law_unique qp law Unreachable d r t q = absurd (r.0.1 t.0.reachable)
verdict_of_law law_unique qp law Hollow d r t q =
    let other = r.0.1 in
    absurd (other.holds (subst (HasRegion qp) (law_unique qp d law other.law t.2 other.is_law (sym other.of_set) t.0.independent) t.3))
verdict_of_law law_unique qp law (Region other) d r t q = ap Region (sym (law_unique qp d law other t.2 r.0.2 (sym r.0.1) t.0.independent))
verdict_of_law law_unique qp law (Wide place) d r t q = absurd (cc)

slot_of_law : OneLaw → (qp : Qp) (h : List Event) (i : ℕ) (law : Law) (slot : Slot) → IsDefinite qp.h.rows → IsBegun qp h i law.set slot → IsQuiet slot → IsVerdict qp law.set (Region law) → slot ≡ Done (Region law)
slot_of_law law_unique qp h i law Waiting d b q t = absurd b
slot_of_law law_unique qp h i law (Claimed number) d b q t = let e = q.done in absurd (cc)
slot_of_law law_unique qp h i law (Done v) d b q t = ap Done (verdict_of_law law_unique qp law v d b.0 t q.not_bad)
slot_of_law law_unique qp h i law Dropped d b q t = let e = q.done in absurd (cc)

begun_names : (qp : Qp) (h : List Event) (i : ℕ) (s : List ℕ) (slot : Slot) (law : Law) → IsBegun qp h i s slot → slot ≡ Done (Region law) → law.set ≡ s
begun_names qp h i s slot law b e = (begun_law qp h i s slot law b e).1

pub names_sets : (qp : Qp) (cs : List Candidate) (settled n pending : ℕ) (h : List Event) → HasSlots qp cs settled n pending h → IsComplete qp cs h → NamesSets cs
names_sets qp cs settled n pending h k complete i law p e =
    let all = all_claimed qp cs settled n pending h k (λ j q. (complete.quiet j q).done) in
    begun_names qp h i (at cs i).set (at cs i).slot law (k.begun i (omega arith)) e

pub is_table : OneLaw → (qp : Qp) (cs : List Candidate) (settled n pending size : ℕ) (h : List Event) → IsDefinite qp.h.rows → IsLineup qp (sets_of cs) settled size → HasSlots qp cs settled n pending h → IsComplete qp cs h → IsTable qp (laws_of cs)
is_table law_unique qp cs settled n pending size h definite lineup k complete = record {
  in_order = laws_in_order cs names lineup.in_order;
  are_laws = λ law c.
      let a = place_of_law cs law c in
      let t = verdict_at a.place law a.in_range a.slot_is in
      let same = names a.place law a.in_range a.slot_is in
      record {
        candidate = subst (IsCandidate qp) (sym same) (lineup.candidates (at cs a.place).set (contains_at cs a.place a.in_range));
        verdict = subst (λ s. IsVerdict qp s (Region law)) (sym same) t;
      };
  complete = λ law l.
      let (i, p, e) = place_of cs law.set (complete.complete law.set l.candidate) in
      contains_law cs i law p (slot_of_law law_unique qp h i law (at cs i).slot definite (subst (λ s. IsBegun qp h i s (at cs i).slot) e (k.begun i (all i p))) (complete.quiet i p) l.verdict);
}
  where
    all : (i : ℕ) → i < length cs → i < n
    all i p = let e = all_claimed qp cs settled n pending h k (λ j q. (complete.quiet j q).done) in omega arith

    verdict_at : (i : ℕ) (law : Law) → i < length cs → (at cs i).slot ≡ Done (Region law) → IsVerdict qp (at cs i).set (Region law)
    verdict_at i law p e = begun_law qp h i (at cs i).set (at cs i).slot law (k.begun i (all i p)) e

    names : NamesSets cs
    names = names_sets qp cs settled n pending h k complete

-- ---- the widths of their rows
begun_rows_fit : (qp : Qp) (h : List Event) (i : ℕ) (s : List ℕ) (slot : Slot) (law : Law) → IsBegun qp h i s slot → slot ≡ Done (Region law) → LawRowsFit qp law (height qp.g)
begun_rows_fit qp h i s slot law b e = (subst (IsBegun qp h i s) e b).0.1.1.rows

pub rows_fit : (qp : Qp) (cs : List Candidate) (settled n pending : ℕ) (h : List Event) → HasSlots qp cs settled n pending h → IsComplete qp cs h → All (λ law. LawRowsFit qp law (height qp.g)) (laws_of cs)
rows_fit qp cs settled n pending h k complete = λ i d p.
    let a = place_of_law cs (get_or (laws_of cs) i d) (Contains-get_or (laws_of cs) i d p) in
    let claimed : a.place < n = (let e = all_claimed qp cs settled n pending h k (λ j q. (complete.quiet j q).done) in let q = a.in_range in omega arith) in
    begun_rows_fit qp h a.place (at cs a.place).set (at cs a.place).slot (get_or (laws_of cs) i d) (k.begun a.place claimed) a.slot_is
