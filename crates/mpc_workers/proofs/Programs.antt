-- Lists with an item for each program.
use Rattle.std.proofs.Common.{◌≡◌, ◌≢◌, ℕ, zero, suc, ◌+◌, ◌<◌, List, [], ◌∷◌, ◌++◌, length, get_or, set, take, refl, sym, ap, ◌∙◌, subst, arith}
use Rattle.std.specs.List.{AllZip}
use Rattle.std.proofs.Math.Seq.{get_or-append_seam}
use Rattle.std.proofs.lemmas.List.{length-append, length-set, take_more, get_or_append_left, get_or-set_same, get_or-set_other}
use mathlib.Core.Logic.{dite}
use native.Mathlib.Decide.{dec_lt}
use Rattle.mpc_rows.specs.declared.programs.Qp.{Qp}
use Rattle.mpc_turn.specs.Known.{TurnId}
use Rattle.mpc_workers.specs.declared.seats.Post.{Post}
use Rattle.mpc_workers.specs.Posts.{AtEach}

-- ---- one item
pub same_item : {X : Type 0} (xs : List X) (k : ℕ) (d e : X) → k < length xs → get_or xs k d ≡ get_or xs k e
same_item [] k d e l = absurd (omega (arith, l))
same_item (x ∷ xs) zero d e l = refl
same_item (x ∷ xs) (suc k) d e l = same_item xs k d e (omega (arith, l))

-- after a write the item at its place is the new one, and each other is as it was
pub at_set : {X : Type 0} (P : ℕ → X → Type 0) (xs : List X) (k j : ℕ) (x d : X) → k < length xs → P k x → (j ≢ k → P j (get_or xs j d)) → P j (get_or (set xs k x) j d)
at_set P xs k j x d l here there =
    dite (dec_lt j k)
    (λ m. let apart : j ≢ k = λ e. omega (arith, m, e) in subst (P j) (sym (get_or-set_other xs k j x d apart)) (there apart))
    (λ m. dite (dec_lt k j)
    (λ n. let apart : j ≢ k = λ e. omega (arith, n, e) in subst (P j) (sym (get_or-set_other xs k j x d apart)) (there apart))
    (λ n. let same : k ≡ j = omega (arith, m, n) in
    subst (λ (i : ℕ). P i (get_or (set xs k x) i d)) same (subst (P k) (sym (get_or-set_same xs k x d l)) here)))

-- ---- of each program, with the place of each
pub record AtEachPlace (P : ℕ → TurnId → Qp → Post → Type 0) (turns : List TurnId) (programs : List Qp) (posts : List Post) : Type 0 where
  pub turns_are : length turns ≡ length programs
  pub posts_are : length posts ≡ length programs
  pub each : (k : ℕ) (t : TurnId) (q : Qp) (p : Post) → k < length programs → P k (get_or turns k t) (get_or programs k q) (get_or posts k p)

-- one of them is changed
pub places_set : (P Q : ℕ → TurnId → Qp → Post → Type 0) (turns : List TurnId) (programs : List Qp) (posts new : List Post) (k : ℕ) (t : TurnId) (q : Qp) (x : Post) → new ≡ set posts k x → k < length programs
    → t ≡ get_or turns k t → q ≡ get_or programs k q → AtEachPlace P turns programs posts
    → ((j : ℕ) (u : TurnId) (r : Qp) (p : Post) → j ≢ k → P j u r p → Q j u r p) → Q k t q x → AtEachPlace Q turns programs new
places_set P Q turns programs posts new k t q x is l turn_is program_is a others here = subst (AtEachPlace Q turns programs) (sym is) (record {
  turns_are = a.turns_are;
  posts_are = length-set posts k x ∙ a.posts_are;
  each = λ j u r p m.
      at_set (λ (i : ℕ) (y : Post). i < length programs → Q i (get_or turns i u) (get_or programs i r) y) posts k j x p (let n = a.posts_are in omega (arith, n, l))
      (λ _. subst (λ (v : TurnId). Q k v (get_or programs k r) x) (turn_is ∙ same_item turns k t u (let n = a.turns_are in omega (arith, n, l)))
      (subst (λ (v : Qp). Q k t v x) (program_is ∙ same_item programs k q r l) here))
      (λ apart n. others j (get_or turns j u) (get_or programs j r) (get_or posts j p) apart (a.each j u r p n)) m;
})

-- without the places
abbrev pub anywhere : (TurnId → Qp → Post → Type 0) → ℕ → TurnId → Qp → Post → Type 0
anywhere P k = P

pub placed : (P : TurnId → Qp → Post → Type 0) (turns : List TurnId) (programs : List Qp) (posts : List Post) → AtEach P turns programs posts → AtEachPlace (anywhere P) turns programs posts
placed P turns programs posts a = record { turns_are = a.turns_are; posts_are = a.posts_are; each = a.each }

pub unplaced : (P : TurnId → Qp → Post → Type 0) (turns : List TurnId) (programs : List Qp) (posts : List Post) → AtEachPlace (anywhere P) turns programs posts → AtEach P turns programs posts
unplaced P turns programs posts a = record { turns_are = a.turns_are; posts_are = a.posts_are; each = a.each }

pub each_weaker : (P Q : TurnId → Qp → Post → Type 0) (turns : List TurnId) (programs : List Qp) (posts : List Post) → ((t : TurnId) (q : Qp) (p : Post) → P t q p → Q t q p) → AtEach P turns programs posts → AtEach Q turns programs posts
each_weaker P Q turns programs posts f a = record { turns_are = a.turns_are; posts_are = a.posts_are; each = λ k t q p l. f (get_or turns k t) (get_or programs k q) (get_or posts k p) (a.each k t q p l) }

pub each_set : (P Q : TurnId → Qp → Post → Type 0) (turns : List TurnId) (programs : List Qp) (posts new : List Post) (k : ℕ) (t : TurnId) (q : Qp) (x : Post) → new ≡ set posts k x → k < length programs
    → t ≡ get_or turns k t → q ≡ get_or programs k q → AtEach P turns programs posts → ((u : TurnId) (r : Qp) (p : Post) → P u r p → Q u r p) → Q t q x → AtEach Q turns programs new
each_set P Q turns programs posts new k t q x is l turn_is program_is a others here =
    unplaced Q turns programs new (places_set (anywhere P) (anywhere Q) turns programs posts new k t q x is l turn_is program_is (placed P turns programs posts a) (λ j u r p apart. others u r p) here)

-- ---- the last of a list
pub front_item : {X : Type 0} (xs ys : List X) (x d : X) (k : ℕ) → xs ≡ ys ++ x ∷ [] → k < length ys → get_or ys k d ≡ get_or xs k d
front_item {X = X} xs ys x d k is l = sym (ap (λ (zs : List X). get_or zs k d) is ∙ get_or_append_left ys (x ∷ []) d k l)

pub last_item : {X : Type 0} (xs ys : List X) (x d : X) → xs ≡ ys ++ x ∷ [] → get_or xs (length ys) d ≡ x
last_item {X = X} xs ys x d is = ap (λ (zs : List X). get_or zs (length ys) d) is ∙ get_or-append_seam ys x [] d

pub one_longer : {X : Type 0} (xs ys : List X) (x : X) → xs ≡ ys ++ x ∷ [] → length xs ≡ length ys + 1
one_longer xs ys x is = ap length is ∙ length-append ys (x ∷ [])

-- ---- two lists, place by place
pub all_zip : {A B : Type 0} (R : A → B → Type 0) (xs : List A) (ys : List B) → length xs ≡ length ys → ((k : ℕ) (a : A) (b : B) → k < length xs → R (get_or xs k a) (get_or ys k b)) → AllZip R xs ys
all_zip R [] [] e each = tt
all_zip R [] (y ∷ ys) e each = absurd (omega (arith, e))
all_zip R (x ∷ xs) [] e each = absurd (omega (arith, e))
all_zip R (x ∷ xs) (y ∷ ys) e each = (each 0 x y (omega arith), all_zip R xs ys (omega (arith, e)) (λ k a b l. each (suc k) a b (omega (arith, l))))

-- ---- one program more
pub each_push : (P : TurnId → Qp → Post → Type 0) (turns : List TurnId) (programs : List Qp) (posts : List Post) (t : TurnId) (q : Qp) (p : Post) → AtEach P turns programs posts → P t q p → AtEach P (turns ++ t ∷ []) (programs ++ q ∷ []) (posts ++ p ∷ [])
each_push P turns programs posts t q p a here =
    let turns_long = length-append turns (t ∷ []) in
    let programs_long = length-append programs (q ∷ []) in
    let posts_long = length-append posts (p ∷ []) in
    let m = a.turns_are in
    let n = a.posts_are in
    record {
      turns_are = omega (arith, turns_long, programs_long, m);
      posts_are = omega (arith, posts_long, programs_long, n);
      each = λ k u r s l.
          dite (dec_lt k (length programs))
          (λ less.
          subst (λ (v : TurnId). P v (get_or (programs ++ q ∷ []) k r) (get_or (posts ++ p ∷ []) k s)) (sym (get_or_append_left turns (t ∷ []) u k (omega (arith, less, m))))
          (subst (λ (v : Qp). P (get_or turns k u) v (get_or (posts ++ p ∷ []) k s)) (sym (get_or_append_left programs (q ∷ []) r k less))
          (subst (P (get_or turns k u) (get_or programs k r)) (sym (get_or_append_left posts (p ∷ []) s k (omega (arith, less, n)))) (a.each k u r s less))))
          (λ not_less.
          let turn_place : length turns ≡ k = omega (arith, not_less, l, programs_long, m) in
          let program_place : length programs ≡ k = omega (arith, not_less, l, programs_long) in
          let post_place : length posts ≡ k = omega (arith, not_less, l, programs_long, n) in
          subst (λ (v : TurnId). P v (get_or (programs ++ q ∷ []) k r) (get_or (posts ++ p ∷ []) k s)) (sym (get_or-append_seam turns t [] u) ∙ ap (λ (i : ℕ). get_or (turns ++ t ∷ []) i u) turn_place)
          (subst (λ (v : Qp). P t v (get_or (posts ++ p ∷ []) k s)) (sym (get_or-append_seam programs q [] r) ∙ ap (λ (i : ℕ). get_or (programs ++ q ∷ []) i r) program_place)
          (subst (P t q) (sym (get_or-append_seam posts p [] s) ∙ ap (λ (i : ℕ). get_or (posts ++ p ∷ []) i s) post_place) here)));
    }

-- the last program is taken off
module _ (P : TurnId → Qp → Post → Type 0) (turns : List TurnId) (programs : List Qp) (posts : List Post) (t : TurnId) (q : Qp) (p : Post) (a : AtEach P (turns ++ t ∷ []) (programs ++ q ∷ []) (posts ++ p ∷ [])) where
  turns_count : length turns ≡ length programs
  turns_count = let m = a.turns_are in let k = length-append turns (t ∷ []) in let l = length-append programs (q ∷ []) in omega (arith, k, l, m)

  posts_count : length posts ≡ length programs
  posts_count = let m = a.posts_are in let k = length-append posts (p ∷ []) in let l = length-append programs (q ∷ []) in omega (arith, k, l, m)

  pub each_front : AtEach P turns programs posts
  each_front = record {
    turns_are = turns_count;
    posts_are = posts_count;
    each = λ k u r s l.
        subst (λ (v : TurnId). P v (get_or programs k r) (get_or posts k s)) (get_or_append_left turns (t ∷ []) u k (let m = turns_count in omega (arith, l, m)))
        (subst (λ (v : Qp). P (get_or (turns ++ t ∷ []) k u) v (get_or posts k s)) (get_or_append_left programs (q ∷ []) r k l)
        (subst (P (get_or (turns ++ t ∷ []) k u) (get_or (programs ++ q ∷ []) k r)) (get_or_append_left posts (p ∷ []) s k (let m = posts_count in omega (arith, l, m)))
        (a.each k u r s (let m = length-append programs (q ∷ []) in omega (arith, l, m)))));
  }

  pub each_last : P t q p
  each_last =
      subst (λ (v : TurnId). P v q p) (ap (λ (i : ℕ). get_or (turns ++ t ∷ []) i t) (sym turns_count) ∙ get_or-append_seam turns t [] t)
      (subst (λ (v : Qp). P (get_or (turns ++ t ∷ []) (length programs) t) v p) (get_or-append_seam programs q [] q)
      (subst (P (get_or (turns ++ t ∷ []) (length programs) t) (get_or (programs ++ q ∷ []) (length programs) q)) (ap (λ (i : ℕ). get_or (posts ++ p ∷ []) i p) (sym posts_count) ∙ get_or-append_seam posts p [] p)
      (a.each (length programs) t q p (let m = length-append programs (q ∷ []) in omega (arith, m)))))

pub popped : (P : TurnId → Qp → Post → Type 0) (turns fewer : List TurnId) (programs : List Qp) (posts rest : List Post) (t : TurnId) (q : Qp) (p : Post) (n : ℕ) → turns ≡ fewer ++ t ∷ [] → posts ≡ rest ++ p ∷ [] → n ≡ length fewer
    → n < length programs → q ≡ get_or programs n q → AtEach P turns (take (n + 1) programs) posts → AtEach P (fewer ++ t ∷ []) (take n programs ++ q ∷ []) (rest ++ p ∷ [])
popped P turns fewer programs posts rest t q p n turns_is posts_is n_is l program_is a =
    subst (λ (ts : List TurnId). AtEach P ts (take n programs ++ q ∷ []) (rest ++ p ∷ [])) turns_is
    (subst (λ (ps : List Post). AtEach P turns (take n programs ++ q ∷ []) ps) posts_is
    (subst (λ (qs : List Qp). AtEach P turns qs posts) (take_more programs n q l ∙ ap (λ (r : Qp). take n programs ++ r ∷ []) (sym program_is)) a))

-- and one is put at the front of what was made of the later ones
pub done_more : {X : Type 0} (R : Qp → X → Type 0) (programs : List Qp) (xs new : List X) (x : X) (q : Qp) (n : ℕ) → new ≡ x ∷ xs → n < length programs → q ≡ get_or programs n q → R q x
    → ((k : ℕ) (r : Qp) (y : X) → k < length xs → R (get_or programs ((n + 1) + k) r) (get_or xs k y)) → (k : ℕ) (r : Qp) (y : X) → k < length new → R (get_or programs (n + k) r) (get_or new k y)
done_more {X = X} R programs xs new x q n is l program_is here later k r y m =
    subst (λ (zs : List X). R (get_or programs (n + k) r) (get_or zs k y)) (sym is) (at k (subst (λ (zs : List X). k < length zs) is m))
  where
    at : (j : ℕ) → j < length (x ∷ xs) → R (get_or programs (n + j) r) (get_or (x ∷ xs) j y)
    at zero i = subst (λ (s : Qp). R s x) (program_is ∙ same_item programs n q r l ∙ ap (λ (h : ℕ). get_or programs h r) (zero_more n)) here
      where
        zero_more : (h : ℕ) → h ≡ h + 0
        zero_more h = omega arith
    at (suc j) i = subst (λ (h : ℕ). R (get_or programs h r) (get_or xs j y)) (next n j) (later j r y (omega (arith, i)))
      where
        next : (h i : ℕ) → (h + 1) + i ≡ h + suc i
        next h i = omega arith

-- of one item and a list's last one
pub only_one : {A B : Type 0} (R : A → B → Type 0) (x : A) (rest ys : List B) (y : B) → ys ≡ rest ++ y ∷ [] → AllZip R (x ∷ []) ys → R x y
only_one {A = A} {B = B} R x rest ys y is a = at rest (subst (AllZip R (x ∷ [])) is a)
  where
    no_more : (zs : List B) → AllZip R [] (zs ++ y ∷ []) → ⊥
    no_more [] h = h
    no_more (z ∷ zs) h = h

    at : (zs : List B) → AllZip R (x ∷ []) (zs ++ y ∷ []) → R x y
    at [] h = h.0
    at (z ∷ zs) h = absurd (no_more zs h.1)
