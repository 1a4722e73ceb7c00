-- The next level of sets is the next level of candidates.
use Rattle.std.proofs.Common.{◌≡◌, ℕ, zero, suc, ◌+◌, ◌≤◌, ◌↔◌, List, [], ◌∷◌, length, Contains, refl, sym, ap, subst, inl, arith}
use Rattle.mpc_space.specs.Matrix.{height}
use Rattle.mpc_sets.specs.RowSet.{IsSetOfRows, without_row}
use Rattle.mpc_sets.specs.SetOrder.{IsInOrder}
use Rattle.mpc_sets.specs.NextLevel.{IsNextOf}
use Rattle.mpc_sets.specs.SetTheorems.{MemberTheorems, GivenWithoutOne}
use Rattle.mpc_rows.specs.declared.programs.Qp.{Qp}
use Rattle.mpc_rows.specs.Candidates.{IsCandidateOf, IsCandidate}
use Rattle.mpc_claim.specs.Levels.{HoldsGrown, HoldsCandidates}

pub size_of_candidate : (k : ℕ) (qp : Qp) (s : List ℕ) → IsCandidateOf k qp s → length s ≡ k
size_of_candidate zero qp s h = ap length h
size_of_candidate (suc k) qp s h = h.1

pub IsCandidateOf-size : (k : ℕ) (qp : Qp) (s : List ℕ) → length s ≡ k → IsCandidate qp s → IsCandidateOf k qp s
IsCandidateOf-size k qp s e h = subst (λ n. IsCandidateOf n qp s) e h

pub IsCandidate-of : (k : ℕ) (qp : Qp) (s : List ℕ) → IsCandidateOf k qp s → IsCandidate qp s
IsCandidate-of k qp s h = subst (λ n. IsCandidateOf n qp s) (sym (size_of_candidate k qp s h)) h

-- a candidate is a set of rows, of no more rows than there are unknowns
pub candidate_rows : (qp : Qp) (s : List ℕ) → IsCandidate qp s → IsSetOfRows (height qp.g) s
candidate_rows qp [] h = record { rises = tt }
candidate_rows qp (i ∷ s) h = h.0

pub candidate_few : (qp : Qp) (s : List ℕ) → IsCandidate qp s → length s ≤ height qp.h
candidate_few qp [] h = omega arith
candidate_few qp (i ∷ s) h = h.2

pub next_is_candidate : MemberTheorems → GivenWithoutOne → (qp : Qp) (k : ℕ) (grown : List (List ℕ)) (s : List ℕ) → HoldsGrown qp k grown → k + 1 ≤ height qp.h → IsNextOf grown (height qp.g) s → IsCandidateOf (suc k) qp s
next_is_candidate members level qp k grown [] h few n = absurd (omega (arith, n.has_member))
next_is_candidate members level qp k grown (i ∷ s) h few n =
    let smaller = h.are (without_row i (i ∷ s)) (level grown (height qp.g) i (i ∷ s) n (inl refl)) in
    let size = size_of_candidate k qp (without_row i (i ∷ s)) smaller.0 in
    let long = members.one_fewer 0 (height qp.g) i (i ∷ s) n.is_set.rises (inl refl) in
    (n.is_set, omega (arith, size, long), omega arith, λ t rows lacks. h.are t (n.subsets t rows lacks))

pub candidate_is_next : (qp : Qp) (k : ℕ) (grown : List (List ℕ)) (s : List ℕ) → HoldsGrown qp k grown → IsCandidateOf (suc k) qp s → IsNextOf grown (height qp.g) s
candidate_is_next qp k grown s h c = record {
  is_set = c.0;
  has_member = let e = c.1 in omega (arith, e);
  subsets = λ t rows lacks. let d = c.3 t rows lacks in h.complete t d.0 d.1;
}

-- where no set of size k + 1 is a candidate, none of a greater size is
smaller_candidate : MemberTheorems → (qp : Qp) (k : ℕ) (s : List ℕ) → IsCandidateOf (suc (suc k)) qp s → (t : List ℕ) × IsCandidateOf (suc k) qp t
smaller_candidate members qp k [] c = absurd (let e = c.1 in omega (arith, e))
smaller_candidate members qp k (i ∷ s) c =
    let l = members.lacks_one (height qp.g) i (i ∷ s) c.0 (inl refl) in
    (without_row i (i ∷ s), (c.3 (without_row i (i ∷ s)) l.0 l.1).0)

pub none_greater : MemberTheorems → (qp : Qp) (k : ℕ) → ((s : List ℕ) → IsCandidateOf (suc k) qp s → ⊥) → (s : List ℕ) (d : ℕ) → IsCandidateOf (suc (d + k)) qp s → ⊥
none_greater members qp k none s zero h = let e : 0 + k ≡ k = omega arith in none s (subst (λ n. IsCandidateOf (suc n) qp s) e h)
none_greater members qp k none s (suc d) h =
    let e : suc d + k ≡ suc (d + k) = omega arith in
    let t = smaller_candidate members qp (d + k) s (subst (λ n. IsCandidateOf (suc n) qp s) e h) in
    none_greater members qp k none t.0 d t.1

-- what `next_level` answers are the candidates of the next size
pub next_are_candidates : MemberTheorems → GivenWithoutOne → (qp : Qp) (k : ℕ) (grown sets : List (List ℕ)) → HoldsGrown qp k grown → k + 1 ≤ height qp.h → IsInOrder sets → ((s : List ℕ) → Contains sets s ↔ IsNextOf grown (height qp.g) s) → HoldsCandidates qp (suc k) sets
next_are_candidates members level qp k grown sets h few order f = record {
  in_order = order;
  are = λ s c. next_is_candidate members level qp k grown s h few ((f s).0 c);
  complete = λ s c. (f s).1 (candidate_is_next qp k grown s h c);
}
