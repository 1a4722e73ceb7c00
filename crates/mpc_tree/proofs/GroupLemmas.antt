-- Pieces of a tree in groups, each of which is divided alone.
use Rattle.std.proofs.Common.{◌≡◌, ℕ, zero, suc, ◌<◌, Vec, Global, Result, Ok, Err, IfOk, List, [], ◌∷◌, ◌++◌, length, take, drop, refl, sym, ◌∙◌, ap, subst, arith, inl, inr}
use Rattle.std.specs.Prelude.{All, slice_index_or}
use Rattle.std.proofs.lemmas.List.{append-nil, append_assoc, take-append-drop}
use Rattle.std.proofs.lemmas.List.Elements.{All-nil, All-cons, All-head, All-tail, All-append}
use Rattle.mpc_frac.specs.declared.NoMemory.{NoMemory as NoRoom}
use Rattle.mpc_rows.specs.declared.programs.Qp.{Qp}
use Rattle.mpc_rows.specs.declared.laws.Law.{Law}
use Rattle.mpc_tree.specs.declared.frontier.Piece.{Piece}
use Rattle.mpc_tree.specs.Pieces.{AreJoined, EndsRefused, IsFiner, IsOpen, all_of}
use Rattle.mpc_tree.proofs.PieceLemmas.{finer_both, finer_refused, finer_same}

-- ---- a list that is cut into groups
all_of_push : (groups : List (Vec Piece Global)) (g : Vec Piece Global) → all_of (groups ++ g ∷ []) ≡ all_of groups ++ g.items
all_of_push [] g = append-nil g.items
all_of_push (h ∷ hs) g = ap (λ l. h.items ++ l) (all_of_push hs g) ∙ sym (append_assoc h.items (all_of hs) g.items)

pub last_group : (groups more : List (Vec Piece Global)) (g : Vec Piece Global) (whole : List Piece) → more ≡ groups ++ g ∷ [] → all_of groups ++ g.items ≡ whole → all_of more ≡ whole
last_group groups more g whole pushed are = ap all_of pushed ∙ all_of_push groups g ∙ are

pub one_group_more : (groups more : List (Vec Piece Global)) (front : Vec Piece Global) (rest pieces whole : List Piece) (at : ℕ) → more ≡ groups ++ front ∷ [] → front.items ≡ take at pieces → rest ≡ drop at pieces
    → all_of groups ++ pieces ≡ whole → all_of more ++ rest ≡ whole
one_group_more groups more front rest pieces whole at pushed first behind are =
    ap (λ l. l ++ rest) (ap all_of pushed ∙ all_of_push groups front) ∙ append_assoc (all_of groups) front.items rest
    ∙ ap (λ l. all_of groups ++ l) (ap (λ l. l ++ rest) first ∙ ap (λ l. take at pieces ++ l) behind ∙ take-append-drop at pieces) ∙ are

-- ---- groups that are put one behind the other
module _ (groups iterator left : List (Result (Vec Piece Global) NoRoom)) (pieces more : List Piece) (group : Result (Vec Piece Global) NoRoom) (new : Vec Piece Global) (step : iterator ≡ group ∷ left) (is : group ≡ Ok new) (pushed : more ≡ pieces ++ new.items)
    (before : (rest : List Piece) → AreJoined iterator rest → AreJoined groups (pieces ++ rest)) where
  pub one_more_joined : (rest : List Piece) → AreJoined left rest → AreJoined groups (more ++ rest)
  one_more_joined rest h =
      let there : AreJoined iterator (new.items ++ rest) = subst (λ ps. AreJoined ps (new.items ++ rest)) (sym (step ∙ ap (λ g. g ∷ left) is)) (inr (rest, refl, h)) in
      subst (λ m. AreJoined groups (m ++ rest)) (sym pushed) (subst (AreJoined groups) (sym (append_assoc pieces new.items rest)) (before (new.items ++ rest) there))

  pub joined_to_refused : EndsRefused new.items → AreJoined groups more
  joined_to_refused ends =
      let there : AreJoined iterator new.items = subst (λ ps. AreJoined ps new.items) (sym (step ∙ ap (λ g. g ∷ left) is)) (inl (refl, ends)) in
      subst (AreJoined groups) (sym pushed) (before new.items there)

pub all_groups_joined : (groups iterator : List (Result (Vec Piece Global) NoRoom)) (pieces : List Piece) → length iterator ≡ 0 → ((rest : List Piece) → AreJoined iterator rest → AreJoined groups (pieces ++ rest)) → AreJoined groups pieces
all_groups_joined groups [] pieces none before = subst (AreJoined groups) (append-nil pieces) (before [] refl)
all_groups_joined groups (g ∷ gs) pieces none before = absurd (omega (arith, none))

-- ---- groups that are divided
module _ (qp : Qp) (laws : List Law) where
  pub groups_finer : (groups : List (Vec Piece Global)) (parts : List (Result (Vec Piece Global) NoRoom)) (pieces : List Piece) → length parts ≡ length groups
      → ((i : ℕ) (g : Vec Piece Global) (part : Result (Vec Piece Global) NoRoom) → i < length groups → IfOk (slice_index_or parts i part) (λ v. IsFiner qp laws (slice_index_or groups i g).items v.items))
      → AreJoined parts pieces → IsFiner qp laws (all_of groups) pieces
  groups_finer [] [] pieces same each j = subst (IsFiner qp laws []) (sym j) (finer_same qp laws [])
  groups_finer [] (part ∷ parts) pieces same each j = absurd (omega (arith, same))
  groups_finer (g ∷ gs) [] pieces same each j = absurd (omega (arith, same))
  groups_finer (g ∷ gs) (Err e ∷ parts) pieces same each j = absurd j
  groups_finer (g ∷ gs) (Ok part ∷ parts) pieces same each (inl j) =
      let front = finer_both qp laws g.items part.items (all_of gs) (all_of gs) (each 0 g (Ok part) (omega arith)) (finer_same qp laws (all_of gs)) in
      subst (IsFiner qp laws (g.items ++ all_of gs)) (sym j.0) (finer_refused qp laws (g.items ++ all_of gs) part.items (all_of gs) j.1 front)
  groups_finer (g ∷ gs) (Ok part ∷ parts) pieces same each (inr j) =
      let behind = groups_finer gs parts j.0 (omega (arith, same)) (λ i h q inside. each (suc i) h q (omega (arith, inside))) j.2 in
      subst (IsFiner qp laws (g.items ++ all_of gs)) (sym j.1) (finer_both qp laws g.items part.items (all_of gs) j.0 (each 0 g (Ok part) (omega arith)) behind)

module _ (qp : Qp) (laws : List Law) where
  pub groups_open : (parts : List (Result (Vec Piece Global) NoRoom)) (pieces : List Piece)
      → ((i : ℕ) (part : Result (Vec Piece Global) NoRoom) → i < length parts → IfOk (slice_index_or parts i part) (λ v. All (IsOpen qp laws) v.items))
      → AreJoined parts pieces → All (IsOpen qp laws) pieces
  groups_open [] pieces each j = subst (All (IsOpen qp laws)) (sym j) (All-nil (IsOpen qp laws))
  groups_open (Err e ∷ parts) pieces each j = absurd j
  groups_open (Ok part ∷ parts) pieces each (inl j) = subst (All (IsOpen qp laws)) (sym j.0) (each 0 (Ok part) (omega arith))
  groups_open (Ok part ∷ parts) pieces each (inr j) =
      let behind = groups_open parts j.0 (λ i q inside. each (suc i) q (omega (arith, inside))) j.2 in
      subst (All (IsOpen qp laws)) (sym j.1) (All-append (IsOpen qp laws) part.items j.0 (each 0 (Ok part) (omega arith)) behind)

  front_open : (a b : List Piece) → All (IsOpen qp laws) (a ++ b) → All (IsOpen qp laws) a
  front_open [] b o = All-nil (IsOpen qp laws)
  front_open (p ∷ ps) b o = All-cons (IsOpen qp laws) p ps (All-head (IsOpen qp laws) p (ps ++ b) o) (front_open ps b (All-tail (IsOpen qp laws) p (ps ++ b) o))

  behind_open : (a b : List Piece) → All (IsOpen qp laws) (a ++ b) → All (IsOpen qp laws) b
  behind_open [] b o = o
  behind_open (p ∷ ps) b o = behind_open ps b (All-tail (IsOpen qp laws) p (ps ++ b) o)

  pub group_open : (groups : List (Vec Piece Global)) → All (IsOpen qp laws) (all_of groups) → (i : ℕ) (g : Vec Piece Global) → i < length groups → All (IsOpen qp laws) (slice_index_or groups i g).items
  group_open [] ready i g inside = absurd (omega (arith, inside))
  group_open (h ∷ hs) ready zero g inside = front_open h.items (all_of hs) ready
  group_open (h ∷ hs) ready (suc i) g inside = group_open hs (behind_open h.items (all_of hs) ready) i g (omega (arith, inside))
