-- How the loops form columns.
use Rattle.std.proofs.Common.{◌≡◌, ℕ, zero, suc, ◌+◌, ◌*◌, ◌-◌, ◌<◌, ◌≤◌, min, List, [], ◌∷◌, ◌++◌, length, get_or, set, Option, Some, None, sym, ◌∙◌, ap, subst, arith, ⊎_elim}
use Rattle.std.proofs.lemmas.Bool.{cases_eq, cases_lt}
use Rattle.std.proofs.lemmas.List.{length-set, get_or-set_same, get_or-set_other, length-append, get_or_append_left, get_or-append_right}
use Rattle.mpc_exact.specs.Rational.{ℚ}
use Rattle.mpc_linear.specs.Elimination.{Table}
use Rattle.mpc_bordered.specs.Kept.{IsFormed, IfFormed, IsFormedColumn, AreFormed}

-- an index reads the entry, whatever stands behind the list
pub read : (xs : List (Option ℚ)) (i : ℕ) (x d : Option ℚ) → i < length xs → x ≡ get_or xs i x → x ≡ get_or xs i d
read [] i x d h e = absurd (omega arith)
read (y ∷ xs) zero x d h e = e
read (y ∷ xs) (suc i) x d h e = read xs i x d (omega arith) e

-- the entries before row i are formed with one column more, and those from it on as before
pub record Clearing (t : Table) (c j i : ℕ) (xs : List (Option ℚ)) : Type 0 where
  pub done : (k : ℕ) → k < i → k < length xs → IfFormed t (suc c) k j (get_or xs k None)
  pub rest : (k : ℕ) → i ≤ k → k < length xs → IfFormed t c k j (get_or xs k None)

pub clearing_none : (t : Table) (c j : ℕ) (xs : List (Option ℚ)) → IsFormedColumn t c j xs → Clearing t c j 0 xs
clearing_none t c j xs h = record { done = λ k l m. absurd (omega arith); rest = λ k l m. h k m }

pub clearing_more : (t : Table) (c j i : ℕ) (xs : List (Option ℚ)) (o : Option ℚ) → i < length xs → IfFormed t (suc c) i j o → Clearing t c j i xs → Clearing t c j (i + 1) (set xs i o)
clearing_more t c j i xs o hi h w = record {
  done = λ k l m. let m' : k < length xs = omega (arith, length-set xs i o) in ⊎_elim
      (λ e. subst (λ k. IfFormed t (suc c) k j (get_or (set xs i o) k None)) (sym e) (subst (IfFormed t (suc c) i j) (sym (get_or-set_same xs i o None hi)) h))
      (λ e. subst (IfFormed t (suc c) k j) (sym (get_or-set_other xs i k o None e)) (w.done k (omega arith) m'))
      (cases_eq k i);
  rest = λ k l m. let m' : k < length xs = omega (arith, length-set xs i o) in subst (IfFormed t c k j) (sym (get_or-set_other xs i k o None (λ e. omega arith))) (w.rest k (omega arith) m');
}

pub clearing_all : (t : Table) (c j i : ℕ) (xs : List (Option ℚ)) → length xs ≤ i → Clearing t c j i xs → IsFormedColumn t (suc c) j xs
clearing_all t c j i xs l w k m = w.done k (omega arith) m

pub place_within : (count rows c i : ℕ) → c < count → i < rows → c * rows + i < count * rows
place_within count rows c i h k = grind arith

pub formed_more : (t : Table) (u rows n : ℕ) (xs ys : List (Option ℚ)) → length xs ≡ n * rows → length ys ≡ rows → AreFormed t u rows n xs → IsFormedColumn t (min n u) n ys → AreFormed t u rows (n + 1) (xs ++ ys)
formed_more t u rows n xs ys size rest f g i j hi hj = ⊎_elim
    (λ l. subst (IfFormed t (min j u) i j) (sym (get_or_append_left xs ys None (j * rows + i) (let p = place_within n rows j i l hi in omega arith))) (f i j hi l))
    (λ l.
    let e : j ≡ n = omega arith in
    subst (λ j. IfFormed t (min j u) i j (get_or (xs ++ ys) (j * rows + i) None)) (sym e)
    (subst (IfFormed t (min n u) i n)
    (sym (get_or-append_right xs ys (n * rows) (n * rows + i) None size (omega arith) ∙ (let q : n * rows + i - n * rows ≡ i = omega arith in ap (λ k. get_or ys k None) q)))
    (g i (omega arith))))
    (cases_lt j n)

module _ (t : Table) (u rows n : ℕ) (xs : List (Option ℚ)) (size : length xs ≡ n * rows) (f : AreFormed t u rows n xs) where
  pub done_formed : (count width : ℕ) (ds : List (Option ℚ)) → ds ≡ xs → width ≡ rows → count ≤ n → AreFormed t u width count ds
  done_formed count width ds e w l i j hi hj = subst (λ zs. IfFormed t (min j u) i j (get_or zs (j * width + i) None)) (sym e) (subst (λ r. IfFormed t (min j u) i j (get_or xs (j * r + i) None)) (sym w) (f i j (omega arith) (omega arith)))

  pub added_size : (ys zs ds : List (Option ℚ)) → length ys ≡ rows → zs ≡ xs ++ ds → ds ≡ ys → length zs ≡ (n + 1) * rows
  added_size ys zs ds l e q =
      let a : length zs ≡ length (xs ++ ds) = ap length e in
      let b : length ds ≡ length ys = ap length q in
      let s : length zs ≡ n * rows + rows = a ∙ length-append xs ds ∙ (λ i. size i + (b ∙ l) i) in
      grind (arith, s)

  pub added_formed : (count : ℕ) (ys zs ds : List (Option ℚ)) → count ≡ min n u → length ys ≡ rows → IsFormedColumn t count n ys → zs ≡ xs ++ ds → ds ≡ ys → AreFormed t u rows (n + 1) zs
  added_formed count ys zs ds k l g e q =
      subst (AreFormed t u rows (n + 1)) (sym (e ∙ ap (λ d. xs ++ d) q)) (formed_more t u rows n xs ys size l f (subst (λ k. IsFormedColumn t k n ys) k g))

-- ---- an entry more
pub entry_added : (t : Table) (j n : ℕ) (xs ys : List (Option ℚ)) (v : ℚ) → ys ≡ xs ++ Some v ∷ [] → length xs ≡ n → IsFormed t 0 n j v → IsFormedColumn t 0 j xs → IsFormedColumn t 0 j ys
entry_added t j n xs ys v e size h f i hi =
    let a : length ys ≡ length (xs ++ Some v ∷ []) = ap length e in
    let b : length ys ≡ length xs + 1 = a ∙ length-append xs (Some v ∷ []) in
    ⊎_elim
    (λ l. subst (λ zs. IfFormed t 0 i j (get_or zs i None)) (sym e) (subst (IfFormed t 0 i j) (sym (get_or_append_left xs (Some v ∷ []) None i l)) (f i l)))
    (λ l.
    let q : i ≡ n = omega arith in
    let z : i - n ≡ 0 = omega arith in
    subst (λ zs. IfFormed t 0 i j (get_or zs i None)) (sym e)
    (subst (IfFormed t 0 i j) (sym (get_or-append_right xs (Some v ∷ []) n i None size (omega arith) ∙ ap (λ k. get_or (Some v ∷ []) k None) z))
    (subst (λ k. IsFormed t 0 k j v) (sym q) h)))
    (cases_lt i (length xs))
