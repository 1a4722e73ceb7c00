-- Different things that are numbered in the order in which a list of numbers names them first, so that all are named, and those numbers are
-- determined by what the numbers name.
use Rattle.std.proofs.Common.{◌≡◌, ℕ, zero, suc, ◌+◌, ◌-◌, ◌<◌, ◌≤◌, ⊎_elim, Bool, nat_lt, cond, List, [], ◌∷◌, ◌++◌, map, length, get_or, refl, sym, ap, subst, ◌∙◌, arith, Contains, length-append, ext_get_or, le-ltb, lt-ltb}
use Rattle.std.proofs.lemmas.Bool.{cases_lt}
use Rattle.std.proofs.lemmas.List.Elements.{Contains-get_or}
use Rattle.std.proofs.Math.ListN.{get_or-append}
use Rattle.std.proofs.Math.Seq.{get_or-append_seam}
use Rattle.mpc_grammar.specs.Reading.{Cursor, Grammar, ReadsItems, no_item, one_more}
use Rattle.mpc_grammar.specs.LawGrammar.{NameForms, used_behind}

-- ---- numbers in the order of first use
pub names_append : (all used : ℕ) (ks js : List ℕ) → NameForms all used ks → NameForms all (used_behind used ks) js → NameForms all used (ks ++ js)
names_append all used [] js h k = k
names_append all used (i ∷ ks) js h k = (h.0, h.1, h.2, names_append all (cond (nat_lt used i) i used) ks js h.3 k)

pub used_append : (used : ℕ) (ks js : List ℕ) → used_behind used (ks ++ js) ≡ used_behind (used_behind used ks) js
used_append used [] js = refl
used_append used (i ∷ ks) js = used_append (cond (nat_lt used i) i used) ks js

module _ {F : Type 0} (d : F) where
  abbrev pub named_in : List F → ℕ → F
  named_in fs k = get_or fs (k - 1) d

  abbrev pub AreDifferent : List F → Type 0
  AreDifferent fs = (i j : ℕ) → i < length fs → j < length fs → get_or fs i d ≡ get_or fs j d → i ≡ j

  -- the first ones are the same
  record Agree (used : ℕ) (fs gs : List F) : Type 0 where
    left : used ≤ length fs
    right : used ≤ length gs
    same : (i : ℕ) → i < used → get_or fs i d ≡ get_or gs i d

  module _ (used : ℕ) (fs gs : List F) (left : AreDifferent fs) (right : AreDifferent gs) (agree : Agree used fs gs) where
    one_more_agrees : (i m : ℕ) → used ≤ i → i ≤ used → m ≡ i → i < length fs → m < length gs → get_or fs i d ≡ get_or gs m d → Agree (suc i) fs gs
    one_more_agrees i m low high e lt mt f = record {
      left = omega arith;
      right = omega arith;
      same = λ n h. ⊎_elim (λ l. agree.same n (omega arith))
          (λ l. let at : n ≡ i = omega arith in subst (λ q. get_or fs q d ≡ get_or gs q d) (sym at) (subst (λ q. get_or fs i d ≡ get_or gs q d) e f)) (cases_lt n i);
    }

    kept : (i : ℕ) → i < used → Agree (cond (nat_lt used (suc i)) (suc i) used) fs gs
    kept i lt = subst (λ b. Agree (cond b (suc i) used) fs gs) (sym (le-ltb used (suc i) (omega arith))) agree

    index_step : (i m : ℕ) → i < length fs → i ≤ used → m < length gs → m ≤ used → get_or fs i d ≡ get_or gs m d → (i ≡ m) × Agree (cond (nat_lt used (suc i)) (suc i) used) fs gs
    index_step i m ilt ile mlt mle f = ⊎_elim
        (λ a. ⊎_elim
        (λ b. (left i m ilt (omega (arith, agree.left)) (f ∙ sym (agree.same m b)), kept i a))
        (λ b. let e : i ≡ m = right i m (omega (arith, agree.right)) mlt (sym (agree.same i a) ∙ f) in absurd (omega arith))
        (cases_lt m used))
        (λ a. ⊎_elim
        (λ b. let e : i ≡ m = left i m ilt (omega (arith, agree.left)) (f ∙ sym (agree.same m b)) in absurd (omega arith))
        (λ b. (omega arith, subst (λ t. Agree (cond t (suc i) used) fs gs) (sym (lt-ltb used (suc i) (omega arith))) (one_more_agrees i m a ile (omega arith) ilt mlt f)))
        (cases_lt m used))
        (cases_lt i used)

    name_step : (k j : ℕ) → 1 ≤ k → k ≤ length fs → k ≤ used + 1 → 1 ≤ j → j ≤ length gs → j ≤ used + 1 → named_in fs k ≡ named_in gs j → (k ≡ j) × Agree (cond (nat_lt used k) k used) fs gs
    name_step zero j ka kb kc ja jb jc e = absurd (omega arith)
    name_step (suc i) zero ka kb kc ja jb jc e = absurd (omega arith)
    name_step (suc i) (suc m) ka kb kc ja jb jc e =
        let p : suc i - 1 ≡ i = omega arith in
        let q : suc m - 1 ≡ m = omega arith in
        let f : get_or fs i d ≡ get_or gs m d = ap (λ n. get_or fs n d) (sym p) ∙ e ∙ ap (λ n. get_or gs n d) q in
        let step : (i ≡ m) × Agree (cond (nat_lt used (suc i)) (suc i) used) fs gs = index_step i m (omega arith) (omega arith) (omega arith) (omega arith) f in
        (ap suc step.0, step.1)

  all_names : (used : ℕ) (fs gs : List F) → AreDifferent fs → AreDifferent gs → Agree used fs gs → (ks js : List ℕ) → NameForms (length fs) used ks → NameForms (length gs) used js → map (named_in fs) ks ≡ map (named_in gs) js → (ks ≡ js) × Agree (used_behind used ks) fs gs
  all_names used fs gs left right agree [] [] h k e = (refl, agree)
  all_names used fs gs left right agree [] (j ∷ js) h k e = absurd (cc)
  all_names used fs gs left right agree (i ∷ ks) [] h k e = absurd (cc)
  all_names used fs gs left right agree (i ∷ ks) (j ∷ js) h k e =
      let head : named_in fs i ≡ named_in gs j = cc in
      let tail : map (named_in fs) ks ≡ map (named_in gs) js = cc in
      let step : (i ≡ j) × Agree (cond (nat_lt used i) i used) fs gs = name_step used fs gs left right agree i j h.0 h.1 h.2 k.0 k.1 k.2 head in
      let others : NameForms (length gs) (cond (nat_lt used i) i used) js = subst (λ n. NameForms (length gs) (cond (nat_lt used n) n used) js) (sym step.0) k.3 in
      let rest : (ks ≡ js) × Agree (used_behind (cond (nat_lt used i) i used) ks) fs gs = all_names (cond (nat_lt used i) i used) fs gs left right step.1 ks js h.3 others tail in
      ((λ t. step.0 t ∷ rest.0 t), rest.1)

  -- numbers that name all
  pub record NamesAll (fs : List F) (ks : List ℕ) : Type 0 where
    pub different : AreDifferent fs
    pub names : NameForms (length fs) 0 ks
    pub all : used_behind 0 ks ≡ length fs

  pub named_once : (fs gs : List F) (ks js : List ℕ) → NamesAll fs ks → NamesAll gs js → map (named_in fs) ks ≡ map (named_in gs) js → (fs ≡ gs) × (ks ≡ js)
  named_once fs gs ks js h k e =
      let none : Agree 0 fs gs = record { left = omega arith; right = omega arith; same = λ i lt. absurd (omega arith) } in
      let one : (ks ≡ js) × Agree (used_behind 0 ks) fs gs = all_names 0 fs gs h.different k.different none ks js h.names k.names e in
      let size : length fs ≡ length gs = sym h.all ∙ ap (used_behind 0) one.0 ∙ k.all in
      (ext_get_or d fs gs size (λ i lt. one.1.same i (omega (arith, h.all))), one.0)

  -- ---- items of which none is like one before it
  different_push : (fs : List F) (x : F) → AreDifferent fs → ¬ Contains fs x → AreDifferent (fs ++ x ∷ [])
  different_push fs x h new i j ilt jlt e =
      let long : length (fs ++ x ∷ []) ≡ length fs + 1 = length-append fs (x ∷ []) in
      let front : (n : ℕ) → n < length fs → get_or (fs ++ x ∷ []) n d ≡ get_or fs n d = λ n lt. get_or-append fs (x ∷ []) d n lt in
      let last : (n : ℕ) → n ≡ length fs → get_or (fs ++ x ∷ []) n d ≡ x = λ n at. ap (λ q. get_or (fs ++ x ∷ []) q d) at ∙ get_or-append_seam fs x [] d in
      let other : (n : ℕ) → n < length fs → get_or fs n d ≡ x → ⊥ = λ n lt f. new (subst (Contains fs) f (Contains-get_or fs n d lt)) in
      ⊎_elim
      (λ a. ⊎_elim
      (λ b. h i j a b (sym (front i a) ∙ e ∙ front j b))
      (λ b. absurd (other i a (sym (front i a) ∙ e ∙ last j (omega arith))))
      (cases_lt j (length fs)))
      (λ a. ⊎_elim
      (λ b. absurd (other j b (sym (front j b) ∙ sym e ∙ last i (omega arith))))
      (λ b. omega arith)
      (cases_lt j (length fs)))
      (cases_lt i (length fs))

  pub different_items : (item : List F → Grammar F) (asks_more : List F → Bool) → ((items : List F) (here : Cursor) (x : F) (behind : Cursor) → (item items).Reads here x behind → ¬ Contains items x) → (here : Cursor) (items : List F) (behind : Cursor) → ReadsItems F item asks_more here items behind → AreDifferent items
  different_items item asks_more new here items behind no_item = λ i j ilt jlt e. absurd (omega arith)
  different_items item asks_more new here items behind (one_more before between x end reads more one) =
      different_push before x (different_items item asks_more new here before between reads) (new before between x end one)
